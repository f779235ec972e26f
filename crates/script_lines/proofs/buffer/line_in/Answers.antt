use Rattle.std.proofs.Common.{arith}
use Rattle.std.proofs.lemmas.List.{take_rest}
use Rattle.script_lines.proofs.BufferLemmas.{line_found, no_line_found}
use Rattle.script_lines.proofs.buffer.line_in.Goals as goal

pub returns-in-Some-clause-found : goal.returns-in-Some-clause-found
returns-in-Some-clause-found c =
    let found = line_found _ _ _ c.requires.within c.requires.line (rw take_rest at c.in-Some.ensures) in
    (omega (arith, found.1, c.requires.room), found.0)

pub returns-in-None-clause-found : goal.returns-in-None-clause-found
returns-in-None-clause-found c = record {
  many = omega (arith, c.requires.room);
  line = no_line_found _ _ c.requires.within c.requires.line (rw take_rest at c.in-None.ensures);
}

pub returns-in-None-2-clause-none : goal.returns-in-None-2-clause-none
returns-in-None-2-clause-none c = record {
  short = omega arith;
  line = no_line_found _ _ c.requires.within c.requires.line (rw take_rest at c.in-None-2.ensures);
}
