-- The slips of packets that come one behind the other.
use Rattle.std.proofs.Common.{◌≡◌, ◌⊎◌, ◌<◌, ◌≤◌, ◌+◌, ℕ, zero, suc, List, [], ◌∷◌, ◌++◌, Result, Ok, Err, OnOk, drop, get_or, length, map, refl, sym, ap, subst, ◌∙◌, add-one, append_assoc, inl, inr, arith}
use Rattle.std.proofs.Math.Seq.{drop-cons}
use Rattle.mc_model.specs.synod.Lists.{In}
use Rattle.mc_parts.proofs.Membership.{in_either, in_left, in_right}
use Rattle.journal_parts.specs.Entries.{IsSound}
use Rattle.journal_parts.specs.Gathering.{AllDeliver, AreNumbered, entry_done}
use Rattle.journal_parts.specs.Journals.{Entry}
use Rattle.journal_parts.specs.Registers.{EntersEach, EntersFront}
use Rattle.journal_parts.specs.Slips.{Slipped}
use Rattle.journal_parts.specs.Step.TheVariants as steps
use Rattle.journal_parts.specs.declared.done.Done.{Done}
use Rattle.journal_parts.specs.Batches.{IsOneMore}
use Rattle.journal_parts.proofs.Batches.{newest, older}
use Rattle.node_threads.specs.Carrying.{AreSplit, Carries, HasCome, HaveCome}

pub carries_one : (node number : ℕ) (old new : List Slipped) (slip : Slipped) → new ≡ old ++ slip ∷ [] → slip.entry.done.step ≡ steps.Deliver number node →
    Carries node old new
carries_one node number old new slip added step = record {
  slips = slip ∷ [];
  behind = added;
  each = λ one among. elim among [
    | inl here ↦ (number, ap (λ (s : Slipped). s.entry.done.step) here ∙ step)
    | inr none ↦ absurd none
  ];
}

pub carries_both : (node : ℕ) (old between new : List Slipped) → Carries node old between → Carries node between new → Carries node old new
carries_both node old between new first second = record {
  slips = first.slips ++ second.slips;
  behind = second.behind ∙ ap (λ (ss : List Slipped). ss ++ second.slips) first.behind ∙ append_assoc old first.slips second.slips;
  each = λ one among. elim (in_either one first.slips second.slips among) [
    | inl here ↦ first.each one here
    | inr later ↦ second.each one later
  ];
}

delivered : (node : ℕ) (dones : List Done) (entry : Entry) → AllDeliver node dones → In entry (map entry_done dones) →
    (number : ℕ) × (entry.done.step ≡ steps.Deliver number node)
delivered node [] entry all among = absurd among
delivered node (done ∷ dones) entry all (inl here) =
    let step = all done (inl refl) in (step.0, ap (λ (e : Entry). e.done.step) here ∙ step.1)
delivered node (done ∷ dones) entry all (inr later) = delivered node dones entry (λ one among. all one (inr among)) later

slip_among : (slips : List Slipped) (slip : Slipped) → In slip slips → In slip.entry (map (λ (s : Slipped). s.entry) slips)
slip_among [] slip among = absurd among
slip_among (first ∷ slips) slip (inl here) = inl (ap (λ (s : Slipped). s.entry) here)
slip_among (first ∷ slips) slip (inr later) = inr (slip_among slips slip later)

-- So are those of a group.
pub carries_front : (node : ℕ) (old new : List Slipped) (entries left : List Entry) (dones : List Done) → AllDeliver node dones →
    map entry_done dones ≡ entries ++ left → EntersFront old entries new → Carries node old new
carries_front node old new entries left dones all are enters = record {
  slips = enters.slips;
  behind = enters.behind;
  each = λ slip among.
      let in_front = in_left slip.entry (map (λ (s : Slipped). s.entry) enters.slips) enters.left (slip_among enters.slips slip among) in
      let in_entries : In slip.entry entries = subst (λ (es : List Entry). In slip.entry es) (sym enters.are) in_front in
      delivered node dones slip.entry all (subst (λ (es : List Entry). In slip.entry es) (sym are) (in_left slip.entry entries left in_entries));
}

done_sound : (dones : List Done) (entry : Entry) → In entry (map entry_done dones) → IsSound entry
done_sound [] entry among = absurd among
done_sound (done ∷ dones) entry (inl here) = subst (λ (e : Entry). IsSound e) (sym here) tt
done_sound (done ∷ dones) entry (inr later) = done_sound dones entry later

-- The entries of a group finished all saves.
pub sound_front : (entries left : List Entry) (dones : List Done) → map entry_done dones ≡ entries ++ left → (entry : Entry) → In entry entries → IsSound entry
sound_front entries left dones are entry among =
    done_sound dones entry (subst (λ (es : List Entry). In entry es) (sym are) (in_left entry entries left among))

-- ---- that of each number is among them

pub come_one : (node number : ℕ) (old new : List Slipped) (slip : Slipped) → new ≡ old ++ slip ∷ [] → slip.entry.done.step ≡ steps.Deliver number node →
    HasCome node number old new
come_one node number old new slip added step = record { slips = slip ∷ []; behind = added; slip = slip; among = inl refl; step = step }

pub come_before : (node number : ℕ) (old between new : List Slipped) → HasCome node number old between → Carries node between new → HasCome node number old new
come_before node number old between new first second = record {
  slips = first.slips ++ second.slips;
  behind = second.behind ∙ ap (λ (ss : List Slipped). ss ++ second.slips) first.behind ∙ append_assoc old first.slips second.slips;
  slip = first.slip;
  among = in_left first.slip first.slips second.slips first.among;
  step = first.step;
}

pub come_later : (node number : ℕ) (old between new : List Slipped) → Carries node old between → HasCome node number between new → HasCome node number old new
come_later node number old between new first second = record {
  slips = first.slips ++ second.slips;
  behind = second.behind ∙ ap (λ (ss : List Slipped). ss ++ second.slips) first.behind ∙ append_assoc old first.slips second.slips;
  slip = second.slip;
  among = in_right second.slip first.slips second.slips second.among;
  step = second.step;
}

among_slips : (node number : ℕ) (numbers : List ℕ) (dones : List Done) (slips : List Slipped) → AreNumbered node numbers dones →
    map entry_done dones ≡ map (λ (s : Slipped). s.entry) slips → In number numbers →
    (slip : Slipped) × In slip slips × (slip.entry.done.step ≡ steps.Deliver number node)
among_slips node number [] dones slips are same among = absurd among
among_slips node number (one ∷ numbers) [] slips are same among = absurd cc
among_slips node number (one ∷ numbers) (done ∷ dones) [] are same among = absurd cc
among_slips node number (one ∷ numbers) (done ∷ dones) (slip ∷ slips) are same (inl here) =
    let step : done.step ≡ steps.Deliver one node = cc in
    let entry : entry_done done ≡ slip.entry = cc in
    (slip, inl refl, ap (λ (e : Entry). e.done.step) (sym entry) ∙ step ∙ ap (λ (n : ℕ). steps.Deliver n node) (sym here))
among_slips node number (one ∷ numbers) (done ∷ dones) (slip ∷ slips) are same (inr later) =
    let rest : AreNumbered node numbers dones = cc in
    let others : map entry_done dones ≡ map (λ (s : Slipped). s.entry) slips = cc in
    let found = among_slips node number numbers dones slips rest others later in
    (found.0, inr found.1, found.2)

-- So is that of each number of a group.
pub come_together : (node : ℕ) (numbers : List ℕ) (old new : List Slipped) (entries : List Entry) (dones : List Done) → AreNumbered node numbers dones →
    entries ≡ map entry_done dones → EntersEach old entries new → HaveCome node numbers old new
come_together node numbers old new entries dones are same enters number among =
    let found = among_slips node number numbers dones enters.slips are (sym same ∙ enters.are) among in record {
      slips = enters.slips;
      behind = enters.behind;
      slip = found.0;
      among = found.1;
      step = found.2;
    }

-- ---- one number after the other

after_it : (numbers : List ℕ) (index one : ℕ) → index < length numbers → one ≡ get_or numbers index 0 → drop index numbers ≡ one ∷ drop (index + 1) numbers
after_it numbers index one below read =
    drop-cons numbers index 0 below ∙ (λ i. sym read i ∷ drop (sym (add-one index) i) numbers)

pub next_come : (node number one index : ℕ) (numbers : List ℕ) (old between new : List Slipped) (slip : Slipped) → index < length numbers →
    one ≡ get_or numbers index 0 → new ≡ between ++ slip ∷ [] → slip.entry.done.step ≡ steps.Deliver one node → Carries node old between →
    HasCome node number old between ⊎ In number (drop index numbers) → HasCome node number old new ⊎ In number (drop (index + 1) numbers)
next_come node number one index numbers old between new slip below read added step carried (inl came) =
    inl (come_before node number old between new came (carries_one node one between new slip added step))
next_come node number one index numbers old between new slip below read added step carried (inr left) =
    let among : In number (one ∷ drop (index + 1) numbers) = subst (λ (ns : List ℕ). In number ns) (after_it numbers index one below read) left in
    elim among [
      | inl here ↦ inl (come_later node number old between new carried
          (subst (λ (n : ℕ). HasCome node n between new) (sym here) (come_one node one between new slip added step)))
      | inr later ↦ inr later
    ]

pub next_split : (number one index : ℕ) (numbers these those more most : List ℕ) → index < length numbers → one ≡ get_or numbers index 0 →
    IsOneMore one these those more most → (In number these ⊎ In number those) ⊎ In number (drop index numbers) →
    (In number more ⊎ In number most) ⊎ In number (drop (index + 1) numbers)
next_split number one index numbers these those more most below read adds (inl stands) = inl (older number one these those more most adds stands)
next_split number one index numbers these those more most below read adds (inr left) =
    let among : In number (one ∷ drop (index + 1) numbers) = subst (λ (ns : List ℕ). In number ns) (after_it numbers index one below read) left in
    elim among [ inl here ↦ inl (newest number one these those more most adds here) | inr later ↦ inr later ]

pub none_left : (number index : ℕ) (numbers : List ℕ) → length numbers ≤ index → In number (drop index numbers) → ⊥
none_left number zero [] past among = among
none_left number (suc index) [] past among = among
none_left number zero (one ∷ numbers) past among = absurd (omega (arith, past))
none_left number (suc index) (one ∷ numbers) past among = none_left number index numbers (omega (arith, past)) among

pub all_split : {A E : Type 0} (last : Result A E) (node : ℕ) (numbers joined apart : List ℕ) (old between new : List Slipped) → AreSplit numbers joined apart →
    HaveCome node joined old between → Carries node old between → Carries node between new → OnOk last (HaveCome node apart between new) →
    OnOk last (HaveCome node numbers old new)
all_split (Ok done) node numbers joined apart old between new split first before after last =
    λ number among. elim (split number among) [
      | inl these ↦ come_before node number old between new (first number these) after
      | inr those ↦ come_later node number old between new before (last number those)
    ]
all_split (Err fault) node numbers joined apart old between new split first before after last = tt
