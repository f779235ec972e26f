use Rattle.std.proofs.Common.{◌≡◌, ◌∙◌, sym, rules}
use Rattle.std.specs.Option.{option_copied}
use Rattle.synod_acceptor.specs.Votes.{told_vote}
use Rattle.synod_acceptor.specs.Records.{IsAbove}
use Rattle.synod_acceptor.proofs.Tops.{passes_none, passes_other, passes_lower, passes_higher}
use Rattle.synod_acceptor.proofs.acceptor.higher.Goals as goal

pub returns-in_default : goal.returns-in_default
returns-in_default c = rw c.in_default.is (passes_none c.in_default.field-0 c.args.id (told_vote (option_copied c.args.top)))

pub returns-then-ne : goal.returns-then-ne
returns-then-ne c =
    let differs : c.id.result ≡ c.args.id → ⊥ = search rules in
    rw c.in-Held.is (passes_other c.in-Held.vote c.args.id (told_vote (option_copied c.args.top)) (λ same. differs (c.id.ensures ∙ same)))

pub returns-then-not-is_above : goal.returns-then-not-is_above
returns-then-not-is_above c =
    let never : IsAbove c.in-Held.vote (option_copied c.args.top) → ⊥ = search rules in
    rw c.in-Held.is (passes_lower c.in-Held.vote c.args.id (option_copied c.args.top) never)

pub returns : goal.returns
returns c =
    let same : c.id.result ≡ c.args.id = search rules in
    let above : IsAbove c.in-Held.vote (option_copied c.args.top) = search rules in
    rw c.in-Held.is (passes_higher c.in-Held.vote c.args.id (option_copied c.args.top) (sym c.id.ensures ∙ same) above)
