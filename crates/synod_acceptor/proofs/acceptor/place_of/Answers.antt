use Rattle.std.proofs.Common.{◌≡◌, sym, ◌∙◌, arith}
use Rattle.std.proofs.lemmas.Bool.{true≢false}
use Rattle.mc_parts.proofs.Membership.{slots_same}
use Rattle.synod_acceptor.proofs.Slots.{is_same, none_at_next, found_here}
use Rattle.synod_acceptor.proofs.acceptor.place_of.Goals as goal

pub returns-then-eq : goal.returns-then-eq
returns-then-eq c =
    let same : c.slot.result ≡ c.args.slot = slots_same c.slot.result c.args.slot (sym c.eq.ensures ∙ c.if-eq.true) in
    found_here c.args.records.now c.loop-place.place c.index-records-place.result c.args.slot (omega arith) c.index-records-place.is
    (sym c.slot.ensures.slot ∙ same)

pub loop-place-preserved : goal.loop-place-preserved
loop-place-preserved c =
    none_at_next c.args.records.now c.loop-place.place c.index-records-place.result c.args.slot
    (omega arith) c.index-records-place.is c.loop-place.invariant (λ same.
    true≢false (sym (is_same c.slot.result c.args.slot (c.slot.ensures.slot ∙ same)) ∙ (sym c.eq.ensures ∙ c.if-eq.false)))
