use Rattle.std.proofs.Common.{arith}
use Rattle.script_lines.proofs.BufferLemmas.{take-copied}
use Rattle.script_lines.proofs.buffer.move_to_front.Goals as goal

pub returns-then-held-gt0 : goal.returns-then-held-gt0
returns-then-held-gt0 c = take-copied _ _ _ _ c.requires.within (omega arith) c.copy_within.ensures.by_index.0
