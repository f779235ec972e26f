use Rattle.std.proofs.Common.{ap, ◌∙◌, length}
use Rattle.std.specs.Prelude.{unwrap_or}
use Rattle.script_lines.proofs.WordLemmas.{unwrap_or-position}
use Rattle.script_lines.proofs.line.word_len.Goals as goal

pub returns-clause-value : goal.returns-clause-value
returns-clause-value c =
    c.unwrap_or.ensures ∙ ap (λ o. unwrap_or o (length c.args.words.now)) c.place_of.ensures ∙ unwrap_or-position _ c.args.words.now
