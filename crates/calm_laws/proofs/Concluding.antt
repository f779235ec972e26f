-- What came of an attempt, for a node at rest: the runner and the one node do alike.
use Rattle.std.proofs.Common.{◌≡◌, ℕ, ◌+◌, ◌<◌, ◌^◌, Bool, true, cond, List, [], ◌∷◌, ◌++◌, length, None, refl, sym, ◌∙◌, ap, subst, arith}
use Rattle.mc_model.specs.message.Decree.{Decree}
use Rattle.mc_model.specs.node.Input.{Response}
use Rattle.mc_model.specs.node.Outcome.{Outcome, decree_of}
use Rattle.mc_model.specs.node.Outputs.{Receipt}
use Rattle.mc_model.specs.node.Setup.{Setup}
use Rattle.mc_model.specs.synod.Packet.{Slot}
use Rattle.node_model.specs.Granted.{is_open}
use Rattle.node_model.specs.Kept.{Kept, message_at}
use Rattle.node_model.specs.Stepped.{stepped}
use Rattle.table_laws.specs.Alone.{alone}
use Rattle.table_laws.specs.Attempts.{concluded_at, newest_slot, receipts_on}
use Rattle.table_laws.specs.Resting.{IsAtRest, IsResting}
use Rattle.table_laws.specs.Settling.{SettlesOn}
use Rattle.table_laws.specs.Tables.{Entry, TableNode, chain_at, decree_by, entry_at, settled}
use Rattle.table_laws.proofs.Granting.{response_settles}
use Rattle.script_text.specs.Left.{rests}
use Rattle.script_text.specs.Settings.{Settings}
use Rattle.script_text.specs.Attempts.{concluded, went}
use Rattle.script_text.specs.OneNode.{OneNode, concludes}
use Rattle.calm_laws.proofs.Standing.{Agree, IsFit, node_of, stepped_on}
use Rattle.calm_laws.proofs.Windows.{AreOff, IsNewest, IsUnderway, waiting_with}

some_underway : (chain : List Decree) → IsUnderway chain → 0 < length chain
some_underway [] underway = absurd underway
some_underway (newest ∷ older) underway = omega arith

module _ (settings : Settings) (first left : ℕ) (one : OneNode) (k : Kept) (fit : IsFit one) (room : one.node.ticket + left < 2 ^ 64)
    (resting : IsResting k one.node) (owed : one.owed ≡ []) (due : one.due ≡ []) (slot : Slot) (outcome : Outcome)
    (newest : IsNewest (entry_at one.node.table slot.id) slot)
    (off : AreOff slot.id one.sessions) where
  abbrev setup : Setup
  setup = alone first settings.validity

  abbrev t : TableNode
  t = one.node

  rest : IsAtRest k slot.id (entry_at t.table slot.id)
  rest = resting.message slot.id

  -- ---- it is open

  open_now : is_open k slot ≡ true
  open_now =
      let granted : (message_at k slot.id).granted slot.place ≡ true =
      ap (λ (place : ℕ). (message_at k slot.id).granted place) newest.place ∙ rest.granted ∙ newest.granted in
      let unclosed : (message_at k slot.id).closed slot.place ≡ None = ap (λ (place : ℕ). (message_at k slot.id).closed place) newest.place ∙ rest.unclosed in
      rw (granted, unclosed) refl

  slot_is : newest_slot t slot.id ≡ slot
  slot_is = λ i. record { id = slot.id; place = sym newest.place i }

  -- ---- its outcome is decreed

  settles : SettlesOn setup (stepped setup k (Response slot outcome)) (concluded_at t slot.id outcome) [] (receipts_on t slot.id outcome)
  settles =
      subst
      (λ (s : Slot). SettlesOn setup (stepped setup k (Response s outcome)) (concluded_at t slot.id outcome) [] (receipts_on t slot.id outcome))
      slot_is
      (response_settles first settings.validity k t slot.id resting (some_underway (chain_at t.table slot.id) newest.underway) outcome)

  abbrev after : Entry
  after = settled t (chain_at t.table slot.id) (decree_by t (chain_at t.table slot.id) (decree_of outcome))

  fit_then : IsFit (concludes one slot.id outcome)
  fit_then = record {
    least = fit.least;
    plain = fit.plain;
    waiting = waiting_with t.table one.sessions fit.waiting slot.id after off;
  }

  pub outcome_comes : Agree settings first left (concludes one slot.id outcome) None (concluded (node_of settings first k) slot outcome).next
  outcome_comes =
      subst
      (λ (b : Bool). Agree settings first left (concludes one slot.id outcome) None
      (cond b (went (node_of settings first k) (Response slot outcome)) (rests (node_of settings first k))).next)
      (sym open_now)
      (stepped_on settings first left (concludes one slot.id outcome) k (stepped setup k (Response slot outcome)) (receipts_on t slot.id outcome) fit_then
      room settles owed (ap (λ (receipts : List Receipt). receipts ++ receipts_on t slot.id outcome) due))
