-- Each request that may come settles.
use Rattle.std.proofs.Common.{refl, arith, ℕ, [], ◌∷◌, sym, subst, ◌∙◌, ◌≡◌, Some, inl}
use Rattle.mc_model.specs.message.Ids.{IsSerial, id_of}
use Rattle.mc_model.specs.node.Actor.{Cancel, Query, Request, Submit}
use Rattle.mc_model.specs.node.Input.{Arrival, Refusal}
use Rattle.node_model.specs.Kept.{Kept}
use Rattle.node_model.specs.Stepped.{stepped, refused_with}
use Rattle.table_laws.specs.Alone.{alone}
use Rattle.table_laws.specs.Tables.{MayCome, TableNode, receipts_by, reply_to, requested}
use Rattle.table_laws.specs.Resting.{IsResting}
use Rattle.table_laws.specs.Settling.{SettlesOn}
use Rattle.table_laws.proofs.Submits.{submit_settles}
use Rattle.table_laws.proofs.Queries.{query_settles}
use Rattle.table_laws.proofs.Cancels.{cancel_settles}
use Rattle.table_laws.proofs.Ending.{settles_after}
use Rattle.table_laws.proofs.Leading.{leads_same, few_enough}

pub request_settles : (first validity : ℕ) (k : Kept) (t : TableNode) → IsResting k t → (request : Request) → MayCome t request →
    SettlesOn (alone first validity) (stepped (alone first validity) k (Arrival request)) (requested t request) (reply_to t request ∷ [])
    (receipts_by t request)
request_settles first validity k t resting (Submit id message) next =
    submit_settles first validity k t id message resting (subst IsSerial (sym resting.serial) next.serial)
    (next.id_is ∙ (λ i. id_of 1 (sym resting.incarnation i) (sym resting.serial i)))
request_settles first validity k t resting (Query id account source) may = query_settles first validity k t id account source resting
request_settles first validity k t resting (Cancel id account source destination) may = cancel_settles first validity k t id account source destination resting

pub ticket_given : (first validity : ℕ) (k : Kept) (t : TableNode) → IsResting k t → (request : Request) →
    (stepped (alone first validity) k (Arrival request)).outputs.ticket ≡ Some t.ticket
ticket_given first validity k t resting request = rw (resting.up, resting.ticket) refl

-- one that is refused at once changes nothing
pub refusal_settles : (first validity : ℕ) (k : Kept) (t : TableNode) → IsResting k t → (status : ℕ) →
    SettlesOn (alone first validity) (stepped (alone first validity) k (Refusal status)) t [] []
refusal_settles first validity k t resting status =
    let begun : stepped (alone first validity) k (Refusal status) ≡ refused_with k status = rw resting.up refl in
    settles_after (alone first validity) _ _ t [] [] begun refl refl (inl refl)
    (record { kept = k; leads = leads_same (alone first validity) _ _ refl; resting = resting })
    (few_enough t (omega arith))

pub refusal_given : (first validity : ℕ) (k : Kept) (t : TableNode) → IsResting k t → (status : ℕ) →
    (stepped (alone first validity) k (Refusal status)).outputs.refused ≡ Some status
refusal_given first validity k t resting status = rw resting.up refl
