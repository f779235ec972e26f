use Rattle.std.proofs.Common.{◌≡◌, map, sym, ◌∙◌, ap, List, ℕ}
use Rattle.toml.specs.View.{view}
use Rattle.config.specs.Digests.{are_apart, digest_in}
use Rattle.config.proofs.Apart.{apart_once}
use Rattle.config.proofs.digests.are_apart.Goals as goal

pub returns-in-Ok : goal.returns-in-Ok
returns-in-Ok c = λ apart.
    let digests : c.deref.result.now ≡ map (λ row. digest_in c.args.name.now (view row)) c.args.rows.now = c.deref.ensures.value ∙ c.in-Ok.ensures in
    apart_once c.args.name.now c.args.rows.now (sym (ap (λ (ds : List ℕ). are_apart ds) digests) ∙ sym c.are_numbers_apart.ensures ∙ apart)
