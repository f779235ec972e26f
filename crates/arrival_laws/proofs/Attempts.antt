-- When the grant of an attempt may come to a node, and what came of one.
use Rattle.std.proofs.Common.{◌≡◌, ℕ, true, List, Option, Some, None, refl, sym, ap, ◌∙◌}
use Rattle.std.specs.Prelude.{is_some, not}
use Rattle.std.proofs.lemmas.Bool.{and_parts}
use Rattle.mc_model.specs.message.Decree.{Decree}
use Rattle.mc_model.specs.synod.Packet.{Slot, slot_at}
use Rattle.mc_model.specs.node.Outcome.{IsOutcome, Outcome}
use Rattle.mc_model.specs.node.Setup.{Setup}
use Rattle.node_model.specs.Attempts.{grant_refusal, known_refusal}
use Rattle.node_model.specs.Granted.{is_open, known_place, known_slot}
use Rattle.node_model.specs.Kept.{Kept, message_at}
use Rattle.node_laws.specs.Runs.{IsGrantable, IsOpen}

-- an attempt may be granted if its grant is not refused
pub grant_comes : (setup : Setup) (k : Kept) (id : ℕ) → grant_refusal setup k id ≡ None → IsGrantable setup k (known_slot k id)
grant_comes setup k id free = by_known (message_at k id).known refl
  where
    by_known : (known : Option (List Decree)) → (message_at k id).known ≡ known → IsGrantable setup k (known_slot k id)
    by_known None is =
        let unknown : known_refusal setup k (message_at k id) None ≡ None =
        ap (λ (chain : Option (List Decree)). known_refusal setup k (message_at k id) chain) (sym is) ∙ free in
        absurd cc
    by_known (Some chain) is = record {
      chain = chain;
      known = is;
      place = ap (λ (known : Option (List Decree)). slot_at id (known_place known)) is;
      allowed = free;
    }

-- an attempt that is open may have any outcome that is possible
pub outcome_comes : (k : Kept) (slot : Slot) (outcome : Outcome) → IsOutcome outcome → is_open k slot ≡ true → IsOpen k slot outcome
outcome_comes k slot outcome possible is =
    let parts = and_parts ((message_at k slot.id).granted slot.place) (not (is_some ((message_at k slot.id).closed slot.place))) is in
    record { granted = parts.0; closed = by_closed ((message_at k slot.id).closed slot.place) parts.1; possible = possible }
  where
    by_closed : (closed : Option Outcome) → not (is_some closed) ≡ true → closed ≡ None
    by_closed None is = refl
    by_closed (Some one) is = absurd cc
