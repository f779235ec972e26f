use Rattle.std.proofs.Common.{sym, ◌∙◌}
use Rattle.script_lines.proofs.WordLemmas.{Numeral-from_test, IsUtf8-numeral, parsed, was_refused, was_accepted}
use Rattle.script_lines.proofs.line.number_of.Goals as goal

pub returns-in_err-ok : goal.returns-in_err-ok
returns-in_err-ok c =
    let numeral = Numeral-from_test c.args.word.now (sym c.if-not-is_numeral.ensures) in
    absurd (was_refused _ _ _ _ c.from_utf8.ensures.cases c.in_err-ok.ensures.value (IsUtf8-numeral c.args.word.now numeral))

pub returns : goal.returns
returns c =
    let numeral = Numeral-from_test c.args.word.now (sym c.if-not-is_numeral.ensures) in
    let same = was_accepted _ _ _ _ c.from_utf8.ensures.cases c.in_ok-ok.ensures.value in
    c.ok-2.ensures.value ∙ parsed c.args.word.now c.parse.result numeral (rw same.0 at c.parse.ensures.value.0)
