-- What the steps of a group leave together.
use Rattle.std.proofs.Common.{◌≡◌, ◌≢◌, ◌≤◌, ℕ, true, List, [], ◌∷◌, ◌++◌, length, length-append, slice_get, take, ◌-◌}
use Rattle.std.proofs.Common.{Option, Some, None, refl, sym, ap, subst, ◌∙◌, arith, inl, inr}
use Rattle.std.proofs.Math.Path.{fun_ext}
use Rattle.std.specs.Prelude.{if◌then◌else◌, Bool, IsSome}
use Rattle.std.specs.Box.{box_value}
use Rattle.std.specs.Global.{Vec}
use Rattle.std.specs.List.{AllByRecursion}
use Rattle.std.specs.List.Sorted.{IsStrictlySortedBy}
use Rattle.std.specs.Map.{keys_of}
use Rattle.std.specs.Option.{is_none}
use Rattle.std.specs.Ordering.{nat_cmp}
use Rattle.std.specs.Vec.{vec_capacity}
use Rattle.std.proofs.lemmas.Bool.{true≢false}
use Rattle.std.proofs.lemmas.List.{map-append}
use Rattle.std.proofs.Math.Seq.{take-append_seam}
use Rattle.mc_model.specs.synod.Acceptor.{Records}
use Rattle.mc_model.specs.synod.Lists.{In}
use Rattle.mc_model.specs.synod.Packet.{Slot}
use Rattle.mc_model.specs.node.Input.{Delivery}
use Rattle.mc_model.specs.node.Setup.{Setup}
use Rattle.node_model.specs.Kept.{Kept}
use Rattle.node_model.specs.Outputs.{Stepped}
use Rattle.node_model.specs.Stepped.{stepped}
use Rattle.shelf.proofs.Entries.{still_ascends}
use Rattle.shelf.specs.Shelved.{value_at}
use Rattle.synod_acceptor.proofs.Slots.{is_other, is_same}
use Rattle.synod_acceptor.specs.Packets.{packet_of}
use Rattle.synod_acceptor.specs.Votes.{record_of, slot_recorded}
use Rattle.synod_acceptor.specs.declared.packet.Packet.{Packet as Sent}
use Rattle.synod_acceptor.specs.declared.record.Change.{Change}
use Rattle.node_parts.specs.declared.message.Message.{Message as Filed}
use Rattle.node_parts.specs.declared.message_room.MessageRoom.{MessageRoom}
use Rattle.node_parts.specs.declared.outputs.Outputs.{Outputs as Given}
use Rattle.node_parts.specs.Lists.{listed}
use Rattle.node_parts.specs.Messages.{changed_by}
use Rattle.node_parts.specs.Recording.{id_changed, recorded_in, recorded_of}
use Rattle.node_kept.specs.declared.grouped_step.GroupedStep.{GroupedStep}
use Rattle.node_kept.specs.declared.kept.Kept.{Kept as Holding}
use Rattle.node_kept.specs.declared.step.Counted.{Counted}
use Rattle.node_kept.specs.declared.step.Next.{Next}
use Rattle.node_kept.specs.declared.step.Put.{Put}
use Rattle.node_kept.specs.declared.step.Step.{Step}
use Rattle.node_kept.specs.Grouping.{AreGrouped, ChangesEach, IsAlike, IsAlone, IsGroup, IsGrouped, roomed}
use Rattle.node_kept.specs.Grouping.{changed_by_all, changes_in, kept_after_all, most_grouped, outputs_in, packets_in}
use Rattle.node_kept.specs.Keeping.{kept_of, records_of}
use Rattle.node_kept.specs.Queueing.{requeued}
use Rattle.node_kept.specs.Steps.{Alters, IsStep, counted_if, entries_after, installed, recorded_if, rested_if}
use Rattle.node_kept.proofs.Groups.{all_alike, changes_more, first_changed}
use Rattle.node_kept.proofs.Installing.{then_elsewhere}

-- ---- the ids still ascend

Ascends : List (ℕ × Filed) → Type 0
Ascends entries = IsStrictlySortedBy nat_cmp (keys_of entries)

puts_ascend : (entries : List (ℕ × Filed)) (puts : List Put) → Ascends entries → Ascends (entries_after entries puts)
unfolding Ascends
puts_ascend entries [] ascend = ascend
puts_ascend entries (first ∷ others) ascend =
    still_ascends (entries_after entries others) first.id (box_value first.message) (puts_ascend entries others ascend)

change_ascends : (entries : List (ℕ × Filed)) (change : Option Change) → Ascends entries → Ascends (recorded_if change entries)
unfolding Ascends
change_ascends entries None ascend = ascend
change_ascends entries (Some change) ascend = by_message (value_at entries (id_changed change))
  where
    by_message : (m : Option Filed) → IsStrictlySortedBy nat_cmp (keys_of (recorded_of entries (id_changed change) change m))
    by_message None = ascend
    by_message (Some m) = still_ascends entries (id_changed change) (recorded_in m change) ascend

pub none_is : (change : Option Change) → is_none change ≡ true → change ≡ None
none_is None is = refl
none_is (Some change) is = absurd (true≢false (sym is))

-- ---- a step for one message, from what is kept with room for it

roomy : Holding → Holding
roomy k = record k { messages = record k.messages { room = 1; listings = 1 } }

module _ (id : ℕ) (k : Holding) (to : Setup → Kept → Stepped) (step : Step) (alone : IsAlone id k to step)
    (ascend : IsStrictlySortedBy nat_cmp (keys_of k.messages.entries)) where
  abbrev Bare : Next
  Bare = (roomed step None).next

  there : IsStep (roomy k) (to k.setup (kept_of k)) (roomed step None)
  unfolding roomy
  there =
      let once = alone.of.once in
      alone.is (roomy k) (record {
        setup = refl;
        incarnation = refl;
        clock = refl;
        serial = refl;
        given = refl;
        message = refl;
        ascend = ascend;
      }) None (omega (arith, once), omega (arith, once))

  leaves : (slot : Slot) → (to k.setup (kept_of k)).kept.records slot ≡ changed_by step.next.change (records_of k.messages.entries) slot
  unfolding roomy
  leaves slot = let is = there in ap (λ (kept : Kept). kept.records slot) (sym is.kept) ∙ is.saves slot

  -- it saves nothing: the records are as they were
  pub leaves_same : step.next.change ≡ None → (to k.setup (kept_of k)).kept.records ≡ records_of k.messages.entries
  leaves_same none = fun_ext (λ slot. leaves slot ∙ ap (λ (change : Option Change). changed_by change (records_of k.messages.entries) slot) none)

  pub alters : (change : Change) → step.next.change ≡ Some change → record_of change.after ≢ records_of k.messages.entries (slot_recorded change.after)
  unfolding roomy
  alters change saves = subst (λ (c : Option Change). Alters c (records_of k.messages.entries)) saves (let is = there in is.alters)

  leaves_after : (change : Change) → step.next.change ≡ Some change →
      (to k.setup (kept_of k)).kept.records (slot_recorded change.after) ≡ record_of change.after
  leaves_after change saves =
      let slot = slot_recorded change.after in
      leaves slot
      ∙ ap (λ (c : Option Change). changed_by c (records_of k.messages.entries) slot) saves
      ∙ ap (λ (b : Bool). if b then record_of change.after else records_of k.messages.entries slot) (is_same slot slot refl)

  -- it saves something: it leaves other records
  pub leaves_others : IsSome step.next.change → (to k.setup (kept_of k)).kept.records ≢ records_of k.messages.entries
  leaves_others some = by_change step.next.change refl some
    where
      by_change : (change : Option Change) → step.next.change ≡ change → IsSome change → (to k.setup (kept_of k)).kept.records ≢ records_of k.messages.entries
      by_change None is some = absurd (true≢false (sym some))
      by_change (Some change) is some = λ same.
          alters change is (sym (leaves_after change is) ∙ ap (λ (records : Records). records (slot_recorded change.after)) same)

  -- ---- what is kept after it

  pub after : Holding
  after = installed (roomy k) Bare

  pub after_is : kept_of after ≡ (to k.setup (kept_of k)).kept
  unfolding after roomy
  after_is =
      let is = there in
      (λ i. record (kept_of (installed (roomy k) Bare)) { held = requeued k.setup.nodes (kept_of k).held (sym alone.of.queue i) }) ∙ is.kept

  pub after_records : records_of after.messages.entries ≡ changed_by step.next.change (records_of k.messages.entries)
  unfolding after roomy
  after_records = let is = there in fun_ext is.saves

  pub after_ascends : IsStrictlySortedBy nat_cmp (keys_of after.messages.entries)
  unfolding after roomy Ascends
  after_ascends =
      change_ascends _ step.next.change (puts_ascend _ step.next.messages.items
      (subst (λ (drops : Bool). Ascends (rested_if drops (counted_if step.next.counted k.messages.entries))) (sym alone.of.drops)
      (subst (λ (counted : Option Counted). Ascends (counted_if counted k.messages.entries)) (sym alone.of.counted) ascend)))

  pub after_alike : (other : ℕ) → (other ≡ id → ⊥) → IsAlike other k after
  unfolding after roomy
  after_alike other apart = record {
    setup = refl;
    incarnation = refl;
    clock = alone.of.clock;
    serial = alone.of.serial;
    given = alone.of.given;
    message = then_elsewhere id other k step.next apart alone.of k.messages.entries;
    ascend = after_ascends;
  }

-- ---- the steps of a group

module _ (k : Holding) (first : GroupedStep) (others : List GroupedStep) (are : AreGrouped k (first ∷ others))
    (ascend : IsStrictlySortedBy nat_cmp (keys_of k.messages.entries)) where
  abbrev To : Setup → Kept → Stepped
  To setup kept = stepped setup kept (Delivery (packet_of first.packet))

  next : Holding
  next = after first.id k To first.whole.value are.0.alone ascend

  next_setup : next.setup ≡ k.setup
  unfolding next after roomy
  next_setup = refl

  next_is : kept_of next ≡ (stepped k.setup (kept_of k) (Delivery (packet_of first.packet))).kept
  unfolding next
  next_is = after_is first.id k To first.whole.value are.0.alone ascend

  next_records : records_of next.messages.entries ≡ changed_by first.whole.value.next.change (records_of k.messages.entries)
  unfolding next
  next_records = after_records first.id k To first.whole.value are.0.alone ascend

  next_ascends : IsStrictlySortedBy nat_cmp (keys_of next.messages.entries)
  unfolding next
  next_ascends = after_ascends first.id k To first.whole.value are.0.alone ascend

  next_grouped : AreGrouped next others
  unfolding next
  next_grouped =
      all_alike k (after first.id k To first.whole.value are.0.alone ascend) others
      (λ s at. after_alike first.id k To first.whole.value are.0.alone ascend s.id (are.1 s at)) are.2

pub leave_all : (k : Holding) (steps : List GroupedStep) → AreGrouped k steps → IsStrictlySortedBy nat_cmp (keys_of k.messages.entries) →
    changed_by_all (changes_in steps) (records_of k.messages.entries) ≡ (kept_after_all k.setup (kept_of k) (packets_in steps)).records
leave_all k [] are ascend = refl
leave_all k (first ∷ others) are ascend =
    let behind = next k first others are ascend in
    first_changed first.whole.value.next.change (changes_in others) (records_of k.messages.entries)
    ∙ ap (changed_by_all (changes_in others)) (sym (next_records k first others are ascend))
    ∙ leave_all behind others (next_grouped k first others are ascend) (next_ascends k first others are ascend)
    ∙ (λ i. (kept_after_all (next_setup k first others are ascend i) (next_is k first others are ascend i) (packets_in others)).records)

pub change_each : (k : Holding) (steps : List GroupedStep) → AreGrouped k steps → IsStrictlySortedBy nat_cmp (keys_of k.messages.entries) →
    ChangesEach k.setup (kept_of k) (packets_in steps)
change_each k [] are ascend = tt
change_each k (first ∷ others) are ascend =
    let behind = next k first others are ascend in (
      leaves_others first.id k (λ setup kept. stepped setup kept (Delivery (packet_of first.packet))) first.whole.value are.0.alone ascend are.0.saves,
      subst (λ (kept : Kept). ChangesEach k.setup kept (packets_in others)) (next_is k first others are ascend)
          (subst (λ (setup : Setup). ChangesEach setup (kept_of behind) (packets_in others)) (next_setup k first others are ascend)
          (change_each behind others (next_grouped k first others are ascend) (next_ascends k first others are ascend))),
    )

-- ---- the first of its changes

-- changes of other messages leave the record of a slot
elsewhere_all : (changes : List Change) (records : Records) (slot : Slot) → AllByRecursion (λ (change : Change). id_changed change ≡ slot.id → ⊥) changes →
    changed_by_all changes records slot ≡ records slot
elsewhere_all [] records slot apart = refl
elsewhere_all (change ∷ more) records slot apart =
    elsewhere_all more (changed_by (Some change) records) slot apart.1
    ∙ ap (λ (b : Bool). if b then record_of change.after else records slot)
    (is_other slot (slot_recorded change.after) (λ same. apart.0 (ap (λ (s : Slot). s.id) (sym same))))

all_both : {A : Type 0} (P : A → Type 0) (one other : List A) → AllByRecursion P one → AllByRecursion P other → AllByRecursion P (one ++ other)
all_both P [] other are these = these
all_both P (x ∷ xs) other are these = (are.0, all_both P xs other are.1 these)

of_others : (id own : ℕ) (changes : List Change) → (own ≡ id → ⊥) → AllByRecursion (λ (change : Change). id_changed change ≡ own) changes →
    AllByRecursion (λ (change : Change). id_changed change ≡ id → ⊥) changes
of_others id own [] apart are = tt
of_others id own (change ∷ more) apart are = (λ same. apart (sym are.0 ∙ same), of_others id own more apart are.1)

rest_apart : (k : Holding) (id : ℕ) (steps : List GroupedStep) → AreGrouped k steps → ((s : GroupedStep) → In s steps → s.id ≡ id → ⊥) →
    AllByRecursion (λ (change : Change). id_changed change ≡ id → ⊥) (changes_in steps)
rest_apart k id [] are apart = tt
rest_apart k id (first ∷ others) are apart =
    all_both (λ (change : Change). id_changed change ≡ id → ⊥) (listed first.whole.value.next.change) (changes_in others)
    (of_others id first.id (listed first.whole.value.next.change) (apart first (inl refl)) are.0.alone.of.changes)
    (rest_apart k id others are.2 (λ s at. apart s (inr at)))

-- A change that stands first: it changes what was kept, and all together leave its record.
pub record IsFirstOf (k : Holding) (packets : List Sent) (change : Change) : Type 0 where
  pub alters : record_of change.after ≢ records_of k.messages.entries (slot_recorded change.after)
  pub leaves : (kept_after_all k.setup (kept_of k) packets).records (slot_recorded change.after) ≡ record_of change.after

pub first_of : (k : Holding) (first : GroupedStep) (others : List GroupedStep) (change : Change) → AreGrouped k (first ∷ others) →
    IsStrictlySortedBy nat_cmp (keys_of k.messages.entries) → first.whole.value.next.change ≡ Some change →
    IsFirstOf k (packets_in (first ∷ others)) change
first_of k first others change are ascend saves =
    let slot = slot_recorded change.after in
    let records = records_of k.messages.entries in
    let own : id_changed change ≡ first.id =
    (subst (λ (c : Option Change). AllByRecursion (λ (change : Change). id_changed change ≡ first.id) (listed c)) saves are.0.alone.of.changes).0 in
    let apart = rest_apart k slot.id others are.2 (λ s at same. are.1 s at (same ∙ own)) in
    record {
      alters = alters first.id k (λ setup kept. stepped setup kept (Delivery (packet_of first.packet))) first.whole.value are.0.alone ascend change saves;
      leaves = ap (λ (records : Records). records slot) (sym (leave_all k (first ∷ others) are ascend))
          ∙ (λ i. changed_by_all (listed (saves i) ++ changes_in others) records slot)
          ∙ elsewhere_all (changes_in others) (changed_by (Some change) records) slot apart
          ∙ ap (λ (b : Bool). if b then record_of change.after else records slot) (is_same slot slot refl);
    }

-- ---- what is found of it

pub has_change : (k : Holding) (steps : List GroupedStep) (changes : List Change) → AreGrouped k steps → changes ≡ changes_in steps →
    (packets_in steps ≡ [] → ⊥) → 1 ≤ length changes
has_change k [] changes are in_steps some = absurd (some refl)
has_change k (first ∷ others) changes are in_steps some =
    subst (λ (cs : List Change). 1 ≤ length cs) (sym in_steps) (by_change first.whole.value.next.change are.0.saves)
  where
    by_change : (change : Option Change) → IsSome change → 1 ≤ length (listed change ++ changes_in others)
    by_change None some = absurd (true≢false (sym some))
    by_change (Some change) some = omega arith

pub first_change : (k : Holding) (steps : List GroupedStep) (changes : List Change) (change : Change) → AreGrouped k steps →
    IsStrictlySortedBy nat_cmp (keys_of k.messages.entries) → changes ≡ changes_in steps → slice_get changes 0 ≡ Some change →
    IsFirstOf k (packets_in steps) change
first_change k [] changes change are ascend in_steps at = let is = ap (λ (cs : List Change). slice_get cs 0) in_steps in absurd (cc)
first_change k (first ∷ others) changes change are ascend in_steps at =
    by_change first.whole.value.next.change refl are.0.saves (sym (ap (λ (cs : List Change). slice_get cs 0) in_steps) ∙ at)
  where
    by_change : (saved : Option Change) → first.whole.value.next.change ≡ saved → IsSome saved →
        slice_get (listed saved ++ changes_in others) 0 ≡ Some change → IsFirstOf k (packets_in (first ∷ others)) change
    by_change None is some at = absurd (true≢false (sym some))
    by_change (Some saved) is some at =
        let same : saved ≡ change = cc in
        first_of k first others change are ascend (is ∙ ap (λ (c : Change). Some c) same)

-- the change of a group of no packets
pub no_change : (k : Holding) (steps : List GroupedStep) → packets_in steps ≡ [] → changes_in steps ≡ []
no_change k [] none = refl
no_change k (first ∷ others) none = absurd (cc)

-- ---- without the last

but_last : {A : Type 0} (all xs : List A) (x : A) → all ≡ xs ++ x ∷ [] → take (length all - 1) all ≡ xs
but_last all xs x split =
    let longer : length all - 1 ≡ length xs =
    (let more = ap length split ∙ length-append xs (x ∷ []) in omega (arith, more)) in
    (λ i. take (longer i) (split i)) ∙ take-append_seam xs (x ∷ [])

in_front : (s : GroupedStep) (steps : List GroupedStep) (last : GroupedStep) → In s steps → In s (steps ++ last ∷ [])
in_front s [] last at = absurd at
in_front s (first ∷ others) last at = elim at [ inl here ↦ inl here | inr there ↦ inr (in_front s others last there) ]

grouped_firsts : (k : Holding) (steps : List GroupedStep) (last : GroupedStep) → AreGrouped k (steps ++ last ∷ []) → AreGrouped k steps × IsGrouped k last
grouped_firsts k [] last are = (tt, are.0)
grouped_firsts k (first ∷ others) last are =
    let rest = grouped_firsts k others last are.2 in ((are.0, λ s at. are.1 s (in_front s others last at), rest.0), rest.1)

one_saved : (change : Option Change) → IsSome change → (saved : Change) × (listed change ≡ saved ∷ [])
one_saved None some = absurd (true≢false (sym some))
one_saved (Some change) some = (change, refl)

pub group_less : (k : Holding) (steps steps_then : Vec GroupedStep) (outputs outputs_then : Vec Given) (changes changes_then : Vec Change) (room : MessageRoom)
    (step : GroupedStep) → IsGroup k steps outputs changes room → steps.items ≡ steps_then.items ++ step ∷ [] →
    outputs_then.items ≡ take (length outputs.items - 1) outputs.items → changes_then.items ≡ take (length changes.items - 1) changes.items →
    vec_capacity steps_then ≡ vec_capacity steps → vec_capacity outputs_then ≡ vec_capacity outputs → vec_capacity changes_then ≡ vec_capacity changes →
    IsGroup k steps_then outputs_then changes_then room
group_less k steps steps_then outputs outputs_then changes changes_then room step is split these_outputs these_changes for_steps for_outputs for_changes =
    let both = grouped_firsts k steps_then.items step (subst (AreGrouped k) split is.steps_are) in
    let saved = one_saved step.whole.value.next.change both.1.saves in
    record {
      ascend = is.ascend;
      steps_are = both.0;
      outputs_are = these_outputs
          ∙ but_last outputs.items (outputs_in steps_then.items) step.whole.value.outputs
          (is.outputs_are ∙ ap outputs_in split ∙ map-append (λ (s : GroupedStep). s.whole.value.outputs) steps_then.items (step ∷ []));
      changes_are = these_changes
          ∙ but_last changes.items (changes_in steps_then.items) saved.0
          (is.changes_are
          ∙ ap changes_in split
          ∙ changes_more steps_then.items step
          ∙ ap (λ (cs : List Change). changes_in steps_then.items ++ cs) saved.1);
      few =
          let more = ap length split ∙ length-append steps_then.items (step ∷ []) in
          let few = is.few in
          omega (arith, more, few);
      for_steps = subst (λ (n : ℕ). most_grouped ≤ n) (sym for_steps) is.for_steps;
      for_outputs = subst (λ (n : ℕ). most_grouped ≤ n) (sym for_outputs) is.for_outputs;
      for_changes = subst (λ (n : ℕ). most_grouped ≤ n) (sym for_changes) is.for_changes;
      for_messages = is.for_messages;
    }
