use Rattle.std.proofs.Common.{rules, ◌≡◌, false, true, not, Bool, refl, sym, subst, ◌∙◌}
use Rattle.mc_model.specs.message.Chain.{Chain, IsPermitted}
use Rattle.mc_model.specs.synod.Packet.{slot_at}
use Rattle.mc_parts.proofs.Membership.{slots_same}
use Rattle.sql_records.proofs.row.chain_of.Goals as goal

pub returns-in-Err-NotPermitted-clause-damaged : goal.returns-in-Err-NotPermitted-clause-damaged
returns-in-Err-NotPermitted-clause-damaged c is chain stands =
    let told = (rw c.in-Err-NotPermitted.field-0-is at c.in-Err-NotPermitted.ensures.not_permitted).0 (search rules) in
    let same = c.octets_are_of_one_chain.ensures c.args.octets.now told.0 chain told.1 stands.spelled in
    told.2 (subst (λ (one : Chain). IsPermitted one.id one.decrees) (sym same) stands.permitted)

pub returns-in-Err-NotBytes-clause-damaged : goal.returns-in-Err-NotBytes-clause-damaged
returns-in-Err-NotBytes-clause-damaged c is chain stands =
    (rw c.in-Err-NotBytes.field-0-is at c.in-Err-NotBytes.ensures.not_bytes).0 (search rules) chain stands.spelled

not_false : (b : Bool) → false ≡ not b → b ≡ true
not_false true is = refl
not_false false is = absurd (cc)

pub returns-clause-ok : goal.returns-clause-ok
returns-clause-ok c =
    let found = slots_same (slot_at c.id.result c.place.result) c.args.slot (not_false _ c.if-ne.ensures) in
    record {
      spelled = c.in-Ok.ensures.read;
      permitted = c.bounds.ensures.permitted;
      stands = (λ i. slot_at (sym c.id.ensures i) (sym c.place.ensures.place i)) ∙ found;
    }
