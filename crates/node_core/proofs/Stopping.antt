-- What a save leaves that was stopped, and what is told of it.
use Rattle.std.proofs.Common.{◌≡◌, ◌≢◌, ◌⊎◌, true, sym, ap, subst, ◌∙◌, inl, inr, refl, Option, Some, None}
use Rattle.std.specs.Prelude.{◌↔◌}
use Rattle.std.proofs.Math.Path.{fun_ext}
use Rattle.std.proofs.lemmas.Bool.{true≢false}
use Rattle.mc_model.specs.synod.Acceptor.{Records}
use Rattle.node_model.specs.Kept.{Kept}
use Rattle.node_model.specs.Stepped.{stepped, stopped}
use Rattle.node_model.proofs.Stops.{saved_so}
use Rattle.stable_store.specs.Stored.{AreSame, Stored}
use Rattle.synod_acceptor.specs.Packets.{packet_of}
use Rattle.synod_acceptor.specs.declared.packet.Packet.{Packet as Sent}
use Rattle.synod_acceptor.specs.declared.record.Change.{Change}
use Rattle.node_kept.specs.Input.{Input}
use Rattle.node_kept.specs.Input.TheVariants as given
use Rattle.node_kept.specs.Messages.{changed_by}
use Rattle.node_kept.specs.declared.kept.Kept.{Kept as Holding}
use Rattle.node_kept.specs.declared.step.Step.{Step}
use Rattle.node_kept.specs.declared.stopped.Found.{Found}
use Rattle.node_kept.specs.declared.stopped.Found.TheVariants.{After, Before}
use Rattle.node_kept.specs.declared.stopped.Stopped.{Stopped}
use Rattle.node_kept.specs.Grouping.{left_by}
use Rattle.node_kept.specs.Keeping.{kept_of, records_of}
use Rattle.node_kept.specs.Preparing.{IsPrepared}
use Rattle.node_kept.specs.Steps.{IsStepFor, input_of}
use Rattle.node_kept.specs.Finding.{HasSaved, IsFound}
use Rattle.node_core.specs.Nodes.{LeavesAny, records_in}
use Rattle.node_core.specs.Stops.{IsHalted, IsTold, IsUnfinished, is_after}
use Rattle.node_core.proofs.Saves.{saved_after, saved_before}
use Rattle.node_core.proofs.Unsaved.{altered, saves_for}

abbrev pub Left : Holding → Input → Records
Left k input = (stepped k.setup (kept_of k) (input_of k.setup (kept_of k) input)).kept.records

-- The save of a step failed, which was that of a packet.
pub record IsCut (k : Holding) (input : Input) (unfinished : Option Sent) (after : Stored) : Type 0 where
  pub packet : Sent
  pub came : input ≡ given.Packet packet
  pub is : unfinished ≡ Some packet
  pub found : (left : Records) → after.may_hold left → AreSame left (records_in k) ⊎ AreSame left (Left k input)
  pub halted : (left : Records) → after.may_hold left → IsUnfinished k left unfinished

after_step : (k : Holding) (input : Input) (step : Step) (left : Records) → IsStepFor k input step →
    AreSame left (changed_by step.next.change (records_in k)) → AreSame left (Left k input)
after_step k input step left is changed =
    record { each = λ slot. changed.each slot ∙ sym (is.is.saves slot) ∙ ap (λ (kept : Kept). kept.records slot) is.is.kept }

found_after : (k : Holding) (input : Input) (step : Step) (before after : Stored) → IsStepFor k input step → before.holds (records_in k) →
    ((records left : Records) → before.holds records → before.may_hold left → AreSame left records) → LeavesAny step.next.change before after →
    (left : Records) → after.may_hold left → AreSame left (records_in k) ⊎ AreSame left (Left k input)
found_after k input step before after is holds settled leaves left found = elim (leaves.records left found) [
  | inl was ↦ inl (settled (records_in k) left holds was)
  | inr done ↦ inr (after_step k input step left is (done (records_in k) holds))
]

cut_with : (k : Holding) (input : Input) (step : Step) (unfinished : Option Sent) (before after : Stored) (change : Option Change) →
    step.next.change ≡ change → change ≢ None → IsPrepared k input step unfinished → before.holds (records_in k) →
    ((records left : Records) → before.holds records → before.may_hold left → AreSame left records) → LeavesAny step.next.change before after →
    IsCut k input unfinished after
cut_with k input step unfinished before after None is some prepared holds settled leaves = absurd (some refl)
cut_with k input step unfinished before after (Some change) is some prepared holds settled leaves =
    let from = saves_for k input step unfinished change prepared is in
    let found = found_after k input step before after prepared.is holds settled leaves in
    let of_packet : IsStepFor k (given.Packet from.packet) step = subst (λ (i : Input). IsStepFor k i step) from.came prepared.is in
    let halted : (left : Records) → after.may_hold left → IsHalted k left from.packet =
    λ (left : Records) (may : after.may_hold left). record {
      found = subst (λ (i : Input). AreSame left (records_in k) ⊎ AreSame left (Left k i)) from.came (found left may);
      changes = λ unchanged. altered k _ step change of_packet.is is unchanged.each;
    } in
    record {
      packet = from.packet;
      came = from.came;
      is = from.is;
      found = found;
      halted = λ left may. subst (λ (packet : Option Sent). IsUnfinished k left packet) (sym from.is) (halted left may);
    }

pub cut : (k was : Holding) (input given : Input) (step : Step) (unfinished : Option Sent) (before after : Stored) → was ≡ k → given ≡ input →
    IsPrepared was given step unfinished → before.holds (records_in k) →
    ((records left : Records) → before.holds records → before.may_hold left → AreSame left records) → step.next.change ≢ None →
    LeavesAny step.next.change before after → IsCut k input unfinished after
cut k was input given step unfinished before after same_kept same_input prepared holds settled some leaves =
    cut_with k input step unfinished before after step.next.change refl some
    (subst (λ (i : Input). IsPrepared k i step unfinished) same_input
    (subst (λ (h : Holding). IsPrepared h given step unfinished) same_kept prepared)) holds settled leaves

-- ---- what is told of it

apart : Before ≡ After → ⊥
apart same = true≢false (sym (ap is_after same))

module _ (k : Holding) (stored : Records) (packet : Sent) (halted : IsHalted k stored packet) where
  abbrev Now : Records
  Now = records_of k.messages.entries

  -- it has what was to be saved: then it is what the step leaves
  has_after : HasSaved stored (packet_of packet) → AreSame stored (left_by k packet)
  has_after has = elim halted.found [
    | inl before ↦
        let here : HasSaved Now (packet_of packet) = subst (λ (records : Records). HasSaved records (packet_of packet)) (fun_ext before.each) has in
        absurd (halted.changes (record {
          each = λ slot. ap (λ (records : Records). records slot) (saved_so k.setup (kept_of k) (packet_of packet)) ∙ saved_before k.setup
              (kept_of k) (packet_of packet) here slot;
        }))
    | inr after ↦ after
  ]

  after_has : AreSame stored (left_by k packet) → HasSaved stored (packet_of packet)
  after_has after =
      let is : left_by k packet ≡ (stopped k.setup (kept_of k) (packet_of packet) true).records = saved_so k.setup (kept_of k) (packet_of packet) in
      let left : HasSaved (left_by k packet) (packet_of packet) =
      subst (λ (records : Records). HasSaved records (packet_of packet)) (sym is)
      (saved_after k.setup (kept_of k) (packet_of packet)
      (λ stays. halted.changes (record { each = λ slot. ap (λ (records : Records). records slot) is ∙ stays slot }))) in
      subst (λ (records : Records). HasSaved records (packet_of packet)) (sym (fun_ext after.each)) left

  not_both : AreSame stored Now → AreSame stored (left_by k packet) → ⊥
  not_both before after = halted.changes (record { each = λ slot. sym (after.each slot) ∙ before.each slot })

  found_before : (found : Found) → ((found ≡ After) ↔ HasSaved stored (packet_of packet)) → (found ≡ Before) ↔ AreSame stored Now
  found_before Before is = (
    λ same. elim halted.found [
      | inl before ↦ before
      | inr after ↦ absurd (apart (is.1 (after_has after)))
    ],
    λ before. refl,
  )
  found_before After is = (λ same. absurd (apart (sym same)), λ before. absurd (not_both before (has_after (is.0 refl))))

  pub told_so : (told : Stopped) → told.packet ≡ packet → ((told.found ≡ After) ↔ HasSaved stored (packet_of packet)) →
      IsTold k stored (Some packet) (Some told)
  told_so told same is = record {
    is = same;
    before = found_before told.found is;
    after = (λ found. has_after (is.0 found), λ after. is.1 (after_has after));
  }

pub tells : (k : Holding) (stored : Records) (unfinished : Option Sent) (told : Option Stopped) → IsUnfinished k stored unfinished →
    IsFound stored unfinished told → IsTold k stored unfinished told
tells k stored None told halted found = found
tells k stored (Some packet) None halted found = found
tells k stored (Some packet) (Some told) halted found = told_so k stored packet halted told found.0 found.1
