-- Several packets, one save.
use Rattle.std.proofs.Common.{◌≡◌, ◌≢◌, Bool, false, List, [], ◌∷◌, ◌++◌, Option, Some, None, refl, sym, ap, subst, ◌∙◌, inl, inr}
use Rattle.std.proofs.Math.Path.{fun_ext}
use Rattle.mc_model.specs.synod.Acceptor.{Records}
use Rattle.mc_model.specs.synod.Packet.{Slot}
use Rattle.mc_model.specs.node.Input.{Delivery}
use Rattle.mc_model.specs.node.Setup.{Setup}
use Rattle.node_model.specs.Kept.{Kept}
use Rattle.node_model.specs.Stepped.{stepped}
use Rattle.stable_store.specs.Stored.{AreSame, LeavesRecords, LeavesSavedAll, SavesAll, Stored, changed_all}
use Rattle.synod_acceptor.specs.Packets.{packet_of}
use Rattle.synod_acceptor.specs.declared.packet.Packet.{Packet as Sent}
use Rattle.synod_acceptor.specs.declared.record.Change.{Change}
use Rattle.node_kept.specs.Outputs.{Outputs as Given}
use Rattle.node_kept.specs.Messages.{changed_by}
use Rattle.node_kept.specs.declared.kept.Kept.{Kept as Holding}
use Rattle.node_kept.specs.Grouping.{ChangesEach, Grouped, HasSteppedAll, changed_by_all, kept_after_all, left_by, left_by_all}
use Rattle.node_kept.specs.Keeping.{AreOwn, kept_of, records_of}
use Rattle.node_core.specs.Nodes.{HasTakenAll, IsStored, Standing, packets_waiting, records_in}
use Rattle.node_core.specs.Stops.{IsEither, IsHalted, IsUnknown}
use Rattle.node_core.proofs.Storing.{at_rest, none_pending}

-- ---- the steps

-- what was taken of what is kept was taken by the node
pub all_taken : {S : Type 0} (old new : Standing S) (packets : List Sent) (outputs : List Given) → HasSteppedAll old.kept packets outputs new.kept →
    old.broken ≡ false → new.broken ≡ false → new.unfinished ≡ old.unfinished → new.waiting ≡ old.waiting → new.stopped ≡ old.stopped →
    HasTakenAll old packets outputs new
all_taken old new [] [] taken worked works unfinished waiting stopped = record {
  kept = taken.kept;
  setup = taken.setup;
  incarnation = taken.incarnation;
  broken = works ∙ sym worked;
  unfinished = unfinished;
  waiting = waiting;
  stopped = stopped;
}
all_taken old new [] (outputs ∷ more) taken worked works unfinished waiting stopped = taken
all_taken old new (packet ∷ packets) [] taken worked works unfinished waiting stopped = taken
all_taken old new (packet ∷ packets) (outputs ∷ more) taken worked works unfinished waiting stopped = (
  record old { kept = taken.0 },
  record {
    kept = taken.1.kept;
    given = taken.1.gives;
    allowed = refl;
    granted = tt;
    setup = taken.1.setup;
    incarnation = taken.1.incarnation;
    works = worked;
    unfinished = refl;
    waiting = refl;
    stopped = refl;
  },
  all_taken (record old { kept = taken.0 }) new packets more taken.2 worked works unfinished waiting stopped,
)

-- ---- the save

-- what a store has once a group is saved is what its changes lead to
same_changes : (changes : List Change) (records : Records) → changed_all changes records ≡ changed_by_all changes records
same_changes [] records = refl
same_changes (change ∷ more) records = same_changes more (changed_by (Some change) records)

pub stored_all : (k new : Holding) (changes these : List Change) (unfinished : Option Sent) (waiting : Option Grouped) (before after : Stored) →
    these ≡ changes →
    ((slot : Slot) → records_of new.messages.entries slot ≡ changed_by_all changes (records_of k.messages.entries) slot) → AreOwn new →
    SavesAll these before after → ((records left : Records) → after.holds records → after.may_hold left → AreSame left records) →
    IsStored false before unfinished waiting k → IsStored false after unfinished waiting new
stored_all k new changes these unfinished waiting before after same is own saves settled old =
    let records : changed_all these (records_in k) ≡ records_in new =
    ap (λ (cs : List Change). changed_all cs (records_in k)) same ∙ same_changes changes (records_in k) ∙ sym (fun_ext is) in
    let holds : after.holds (records_in new) = subst after.holds records (saves (records_in k) (old.saved refl)) in
    record {
      saved = λ works. holds;
      own = own;
      finished = old.finished;
      settled = old.settled;
      pending = none_pending new waiting (old.settled refl);
      halted = λ left found. at_rest new left unfinished waiting (old.finished refl) (old.settled refl) (settled (records_in new) left holds found);
    }

-- ---- the save that failed

-- whoever opens the store finds what was kept, or what all steps leave together
pub either : (k was : Holding) (packets : List Sent) (changes these : List Change) (before after : Stored) → was ≡ k → these ≡ changes →
    changed_by_all changes (records_of was.messages.entries) ≡ left_by_all was packets → before.holds (records_in k) →
    ((records left : Records) → before.holds records → before.may_hold left → AreSame left records) → LeavesSavedAll these before after →
    (left : Records) → after.may_hold left → IsEither k left packets
either k was packets changes these before after same_kept same_changes_are leads holds settled leaves left found =
    elim (leaves.records left found) [
      | inl before_it ↦ inl (settled (records_in k) left holds before_it)
      | inr behind ↦
          let to : changed_all these (records_in k) ≡ left_by_all k packets =
          ap (λ (cs : List Change). changed_all cs (records_in k)) same_changes_are
          ∙ same_changes changes (records_in k)
          ∙ subst (λ (h : Holding). changed_by_all changes (records_in h) ≡ left_by_all h packets) same_kept leads in
          inr (record { each = λ slot. (behind (records_in k) holds).each slot ∙ ap (λ (records : Records). records slot) to })
    ]

pub unknown : (k : Holding) (left : Records) (unfinished : Option Sent) (packets : List Sent) → packets ≢ [] → IsEither k left packets →
    IsUnknown k left unfinished packets
unknown k left unfinished [] some is = absurd (some refl)
unknown k left unfinished (first ∷ others) some is = is

pub known : (k : Holding) (left : Records) (unfinished : Option Sent) (packets : List Sent) → packets ≢ [] → IsUnknown k left unfinished packets →
    IsEither k left packets
known k left unfinished [] some is = absurd (some refl)
known k left unfinished (first ∷ others) some is = is

-- ---- what is found of it

kept_snoc : (setup : Setup) (k : Kept) (firsts : List Sent) (last : Sent) →
    kept_after_all setup k (firsts ++ last ∷ []) ≡ (stepped setup (kept_after_all setup k firsts) (Delivery (packet_of last))).kept
kept_snoc setup k [] last = refl
kept_snoc setup k (first ∷ others) last = kept_snoc setup (stepped setup k (Delivery (packet_of first))).kept others last

changes_last : (setup : Setup) (k : Kept) (firsts : List Sent) (last : Sent) → ChangesEach setup k (firsts ++ last ∷ []) →
    (stepped setup (kept_after_all setup k firsts) (Delivery (packet_of last))).kept.records ≢ (kept_after_all setup k firsts).records
changes_last setup k [] last changes = changes.0
changes_last setup k (first ∷ others) last changes = changes_last setup (stepped setup k (Delivery (packet_of first))).kept others last changes.1

-- what is kept after several steps is what they leave together
pub record IsAfterAll (k : Holding) (packets : List Sent) (new : Holding) : Type 0 where
  pub kept : kept_of new ≡ kept_after_all k.setup (kept_of k) packets
  pub setup : new.setup ≡ k.setup
  pub incarnation : new.incarnation ≡ k.incarnation

pub after_all : (k new : Holding) (packets : List Sent) (outputs : List Given) → HasSteppedAll k packets outputs new → IsAfterAll k packets new
after_all k new [] [] taken = record { kept = taken.kept; setup = taken.setup; incarnation = taken.incarnation }
after_all k new [] (given ∷ more) taken = absurd taken
after_all k new (packet ∷ packets) [] taken = absurd taken
after_all k new (packet ∷ packets) (given ∷ more) taken =
    let rest = after_all taken.0 new packets more taken.2 in
    record {
      kept = rest.kept ∙ (λ i. kept_after_all (taken.1.setup i) (taken.1.kept i) packets);
      setup = rest.setup ∙ taken.1.setup;
      incarnation = rest.incarnation ∙ taken.1.incarnation;
    }

module _ (k was : Holding) (packets : List Sent) (unfinished : Option Sent) (before after : Stored) (loaded : Records) (same_kept : was ≡ k)
    (changes : ChangesEach was.setup (kept_of was) packets) (some : packets ≢ [])
    (left_before : (left : Records) → before.may_hold left → IsUnknown k left unfinished packets) (leaves : LeavesRecords before after)
    (settled : (records left : Records) → after.holds records → after.may_hold left → AreSame left records) (holds : after.holds loaded) where
  changes_here : ChangesEach k.setup (kept_of k) packets
  changes_here = subst (λ (h : Holding). ChangesEach h.setup (kept_of h) packets) same_kept changes

  found_in : (left : Records) → after.may_hold left → IsEither k left packets
  found_in left may = known k left unfinished packets some (left_before left (leaves left may))

  is_loaded : (left : Records) → after.may_hold left → left ≡ loaded
  is_loaded left may = fun_ext (settled loaded left holds may).each

  -- nothing of it was saved
  pub halted_before : (first : Sent) (others : List Sent) → packets ≡ first ∷ others → loaded ≢ left_by_all was packets →
      (left : Records) → after.may_hold left → IsHalted k left first
  halted_before first others split unsaved left may = record {
    found = elim (found_in left may) [
      | inl kept ↦ inl kept
      | inr all ↦ absurd (unsaved (sym (is_loaded left may) ∙ fun_ext all.each ∙ ap (λ (h : Holding). left_by_all h packets) (sym same_kept)))
    ];
    changes = λ same. (subst (ChangesEach k.setup (kept_of k)) split changes_here).0 (fun_ext same.each);
  }

  -- all of it was
  pub halted_after : (new : Holding) (firsts : List Sent) (last : Sent) (outputs : List Given) → packets ≡ firsts ++ last ∷ [] →
      HasSteppedAll k firsts outputs new → loaded ≢ records_of was.messages.entries → (left : Records) → after.may_hold left → IsHalted new left last
  halted_after new firsts last outputs split taken saved left may =
      let is = after_all k new firsts outputs taken in
      let last_by : left_by new last ≡ left_by_all k packets =
      (λ i. (stepped (is.setup i) (is.kept i) (Delivery (packet_of last))).kept.records)
      ∙ ap (λ (kept : Kept). kept.records) (sym (kept_snoc k.setup (kept_of k) firsts last))
      ∙ ap (left_by_all k) (sym split) in
      record {
        found = elim (found_in left may) [
          | inl kept ↦ absurd (saved (sym (is_loaded left may) ∙ fun_ext kept.each ∙ ap (λ (h : Holding). records_of h.messages.entries) (sym same_kept)))
          | inr all ↦ inr (record { each = λ slot. all.each slot ∙ ap (λ (records : Records). records slot) (sym last_by) })
        ];
        changes = λ same.
            changes_last k.setup (kept_of k) firsts last (subst (ChangesEach k.setup (kept_of k)) split changes_here)
            ((λ i. (stepped (sym is.setup i) (sym is.kept i) (Delivery (packet_of last))).kept.records)
            ∙ fun_ext same.each
            ∙ ap (λ (kept : Kept). kept.records) is.kept);
      }

-- what a node keeps then, in which no group waits any more
pub stored_then : (broken : Bool) (after : Stored) (packet : Sent) (waiting : Option Grouped) (k : Holding) → (broken ≡ false → ⊥) → waiting ≡ None → AreOwn k →
    ((left : Records) → after.may_hold left → IsHalted k left packet) → IsStored broken after (Some packet) waiting k
stored_then broken after packet waiting k halted none own found = record {
  saved = λ works. absurd (halted works);
  own = own;
  finished = λ works. absurd (halted works);
  settled = λ works. absurd (halted works);
  pending = none_pending k waiting none;
  halted = λ left may. subst (λ (w : Option Grouped). IsUnknown k left (Some packet) (packets_waiting w)) (sym none) (found left may);
}
