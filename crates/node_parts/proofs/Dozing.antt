-- What is noted of the messages that are listed, as messages are put, changed and looked at.
use Rattle.std.proofs.Common.{◌≡◌, ◌⊎◌, ℕ, Bool, true, false, List, map, ◌<◌, Option, Some, None, refl, sym, ap, subst, ◌∙◌, inl, inr, arith}
use Rattle.std.specs.Prelude.{◌==◌, filter, is_some, not, if◌then◌else◌}
use Rattle.std.proofs.lemmas.Bool.{cases_Bool, eq-eqb, or_right, true≢false}
use Rattle.std.proofs.lemmas.Bool.Decides.{Decides-eqb, nat_tests}
use Rattle.mc_model.specs.synod.Lists.{In}
use Rattle.mc_model.specs.node.Reach.{Reach}
use Rattle.node_model.proofs.Places.{elsewhere, here}
use Rattle.fate_chain.specs.declared.decree.Author.{Author}
use Rattle.delivery.specs.Targets.{is_up}
use Rattle.waiting_requests.specs.Numbers.{IsLeastFrom}
use Rattle.shelf.specs.Shelved.{value_at, with_value}
use Rattle.synod_learner.specs.declared.recount.Recount.{Recount}
use Rattle.node_parts.specs.declared.listing.Listing.{Listing}
use Rattle.node_parts.specs.declared.message.Message.{Message as Filed}
use Rattle.node_parts.specs.declared.noted.Noted.{Noted}
use Rattle.node_parts.specs.Counting.{recounted_in}
use Rattle.node_parts.specs.Living.{AreListed, IsAsleepBy, IsNextBy, IsSettled, is_decided, is_kept_listed, is_live}
use Rattle.node_parts.specs.Messages.{rested, rested_entry}
use Rattle.node_parts.specs.Reaching.{reach_with}
use Rattle.node_parts.specs.Renewal.{renewed}
use Rattle.node_parts.specs.Waking.{AreAwake}
use Rattle.node_parts.specs.Sleeping.{AreNoted, IsDueIn, IsNoted, IsNotedOf, dozed, ids_of, is_due, is_looked_at, is_past, noted_of, reach_noted, sleep_of}
use Rattle.node_parts.proofs.Listings.{AreWoken, among_or, mapped_from, mapped_ids, rise_listed, stays_listed, was_listed, with_id}
use Rattle.node_parts.proofs.Listings as listings
use Rattle.node_parts.proofs.Living.{listed_visited, rested_settled, visited_from}
use Rattle.node_parts.proofs.Sleeping.{noted_still, settled_asleep, sleeps_until, sleeps_without}
use Rattle.node_parts.proofs.Waking.{due_awake}

-- ---- the next one that is due

asleep_by : (noted : Option Noted) (id : ℕ) (m : Filed) (until : Option ℕ) (clock : ℕ) → IsNotedOf noted id m until → is_past clock until ≡ false →
    IsAsleepBy noted clock id m
asleep_by noted id m None clock is past = absurd (true≢false past)
asleep_by None id m (Some until) clock is past = absurd is
asleep_by (Some noted) id m (Some until) clock is past =
    sleeps_until noted.me (reach_noted noted) id m until is (record { author = noted.me; clock = clock }) refl (grind (arith, nat_tests))

settled_by : (noted : Option Noted) (clock id : ℕ) (m : Filed) → IsSettled id m → IsAsleepBy noted clock id m
settled_by None clock id m is = tt
settled_by (Some noted) clock id m is = settled_asleep (record { author = noted.me; clock = clock }) (reach_noted noted) id m is

module _ (entries : List (ℕ × Filed)) (live : List Listing) (room : ℕ) (noted : Option Noted) (listed : AreListed entries (ids_of live) room)
    (are : AreNoted noted entries live) (clock : ℕ) where
  -- one that is not due is asleep
  asleep_else : (id : ℕ) (m : Filed) → value_at entries id ≡ Some m → (IsDueIn clock live id → ⊥) → IsAsleepBy noted clock id m
  asleep_else id m found other = by_among (among_or id live)
    where
      by_among : ((l : Listing) × (In l live) × (l.id ≡ id)) ⊎ (In id (ids_of live) → ⊥) → IsAsleepBy noted clock id m
      by_among (inr none) = settled_by noted clock id m (listed.others id m found none)
      by_among (inl there) = elim (cases_Bool (is_due clock there.0)) [
        | inl due ↦ absurd (other (record { listing = there.0; among = there.1; named = there.2; due = due }))
        | inr sleeps ↦
            let l = there.0 in
            let at : value_at entries l.id ≡ Some m = ap (value_at entries) there.2 ∙ found in
            subst (λ (n : ℕ). IsAsleepBy noted clock n m) there.2 (asleep_by noted l.id m l.until clock (are.each l m there.1 at) sleeps)
      ]

  -- and so is one that is not awake, if none wakes at the clock
  pub next_awake_is : (until : ℕ) (ids : List ℕ) → AreAwake until live ids → clock < until → (from : ℕ) (next : Option ℕ) →
      IsLeastFrom from (λ id. In id ids) next → IsNextBy (λ id m. IsAsleepBy noted clock id m) entries from next
  next_awake_is until ids awake before from next least = by_next next least
    where
      asleep : (id : ℕ) (m : Filed) → value_at entries id ≡ Some m → (In id ids → ⊥) → IsAsleepBy noted clock id m
      asleep id m found other = asleep_else id m found (λ is. other (due_awake until live ids awake clock before id is))

      by_next : (of : Option ℕ) → IsLeastFrom from (λ id. In id ids) of → IsNextBy (λ id m. IsAsleepBy noted clock id m) entries from of
      by_next None least = λ id m found above. asleep id m found (λ among. let below = least id among in absurd (omega (arith, below, above)))
      by_next (Some it) least = (
        listed.kept it (awake.listed it least.0),
        (
          least.1.0,
          λ id m found above behind. asleep id m found (λ among. let lower = least.1.1 id among above in absurd (omega (arith, lower, behind))),
        ),
      )

  pub next_due_is : (from : ℕ) (next : Option ℕ) → IsLeastFrom from (IsDueIn clock live) next → IsNextBy (λ id m. IsAsleepBy noted clock id m) entries from next
  next_due_is from None least = λ id m found above. asleep_else id m found (λ due. let below = least id due in absurd (omega (arith, below, above)))
  next_due_is from (Some next) least = (
    listed.kept next (subst (λ (n : ℕ). In n (ids_of live)) least.0.named (listings.id_in least.0.listing live least.0.among)),
    (least.1.0, λ id m found above before. asleep_else id m found (λ due. let lower = least.1.1 id due above in absurd (omega (arith, lower, before)))),
  )

-- ---- a message is put

pub noted_put : (noted : Option Noted) (entries : List (ℕ × Filed)) (live new : List Listing) (id : ℕ) (m : Filed) → AreWoken id live new →
    AreNoted noted entries live → AreNoted noted (with_value entries id m) new
noted_put noted entries live new id m woken are = record {
  each = λ l n among found. elim (woken l among) [
    | inl awake ↦ subst (IsNotedOf noted l.id n) (sym awake.1) tt
    | inr was ↦ are.each l n was.0 (sym (elsewhere id m l.id was.1 entries) ∙ found)
  ];
}

-- ---- a message that is kept is changed

module _ (noted : Option Noted) (entries : List (ℕ × Filed)) (live : List Listing) (id : ℕ) (m to : Filed) (found : value_at entries id ≡ Some m)
    (keeps : (me : Author) (reach : Reach) (until : ℕ) → sleep_of me reach id m ≡ Some until → sleep_of me reach id to ≡ Some until) where
  pub noted_changed : AreNoted noted entries live → AreNoted noted (with_value entries id to) live
  noted_changed are = record {
    each = λ l n among at. elim (cases_Bool (l.id == id)) [
      | inl same ↦
          let ids : l.id ≡ id = (Decides-eqb l.id id).0 same in
          let put : Some n ≡ Some to = sym at ∙ subst (λ (key : ℕ). value_at (with_value entries id to) key ≡ Some to) (sym ids) (here id to entries) in
          let is : to ≡ n = cc in
          let was : IsNotedOf noted l.id m l.until = are.each l m among (ap (value_at entries) ids ∙ found) in
          subst (λ (it : Filed). IsNotedOf noted l.id it l.until) is
          (subst (λ (key : ℕ). IsNotedOf noted key to l.until) (sym ids)
          (noted_still id m to keeps noted l.until (subst (λ (key : ℕ). IsNotedOf noted key m l.until) ids was)))
      | inr differs ↦
          let apart : l.id ≡ id → ⊥ = λ ids. true≢false (sym (eq-eqb l.id id ids) ∙ differs) in
          are.each l n among (sym (elsewhere id to l.id apart entries) ∙ at)
    ];
  }

pub recounted_keeps : (id : ℕ) (m : Filed) (r : Recount) (me : Author) (reach : Reach) (until : ℕ) → sleep_of me reach id m ≡ Some until →
    sleep_of me reach id (recounted_in m r) ≡ Some until
recounted_keeps id m r me reach until is = is

-- ---- each is visited

module _ (f : Filed → Filed) (noted : Option Noted) (entries : List (ℕ × Filed)) where
  abbrev Visited : List (ℕ × Filed)
  Visited = map (λ (entry : ℕ × Filed). (entry.0, f entry.1)) entries

  pub noted_visited : (live : List Listing) →
      ((id : ℕ) (m : Filed) (me : Author) (reach : Reach) (until : ℕ) → sleep_of me reach id m ≡ Some until → sleep_of me reach id (f m) ≡ Some until) →
      AreNoted noted entries live → AreNoted noted Visited live
  noted_visited live keeps are = record {
    each = λ l n among found.
        let was = visited_from f entries l.id n found in
        subst (λ (it : Filed). IsNotedOf noted l.id it l.until) was.2
        (noted_still l.id was.0 (f was.0) (keeps l.id was.0) noted l.until (are.each l was.0 among was.1));
  }

pub renewed_keeps : (by : Author) (id : ℕ) (m : Filed) (me : Author) (reach : Reach) (until : ℕ) → sleep_of me reach id m ≡ Some until →
    sleep_of me reach id (renewed by m) ≡ Some until
renewed_keeps by id m me reach until is = is

pub rested_keeps : (id : ℕ) (m : Filed) (me : Author) (reach : Reach) (until : ℕ) → sleep_of me reach id m ≡ Some until →
    sleep_of me reach id (rested m) ≡ Some until
rested_keeps id m me reach until is = (sleeps_without me reach id m until is).1

-- ---- all rest, and those that are awake and decided are taken off the list

pub noted_left : (noted : Option Noted) (entries : List (ℕ × Filed)) (test : Listing → Bool) (live : List Listing) → AreNoted noted entries live →
    AreNoted noted entries (filter test live)
noted_left noted entries test live are = record { each = λ l m among found. are.each l m (was_listed test live l among) found }

pub left_rested : (entries : List (ℕ × Filed)) (live : List Listing) (room : ℕ) → AreListed entries (ids_of live) room →
    AreListed (map rested_entry entries) (ids_of (filter (is_kept_listed (map rested_entry entries)) live)) room
left_rested entries live room listed =
    let test = is_kept_listed (map rested_entry entries) in
    let then_listed = listed_visited rested entries (ids_of live) room (λ id m is. rested_settled id m is.decided) listed in
    record {
      rising = rise_listed test live listed.rising;
      kept = λ id among.
          let there = with_id id (filter test live) among in
          then_listed.kept id (subst (λ (n : ℕ). In n (ids_of live)) there.2 (listings.id_in there.0 live (was_listed test live there.0 there.1)));
      others = λ id n found new.
          let was = visited_from rested entries id n found in
          elim (cases_Bool (is_decided id n)) [
            | inl decided ↦ subst (IsSettled id) was.2 (rested_settled id was.0 (ap (is_decided id) was.2 ∙ decided))
            | inr differs ↦ then_listed.others id n found (λ among.
                let there = with_id id live among in
                let lives : is_live there.0.id (value_at (map rested_entry entries) there.0.id) ≡ true =
                subst (λ (key : ℕ). is_live key (value_at (map rested_entry entries) key) ≡ true) (sym there.2) (ap (is_live id) found ∙ ap not differs) in
                new (subst (λ (key : ℕ). In key (ids_of (filter test live))) there.2
                (listings.id_in there.0 (filter test live) (stays_listed test live there.0 there.1 (or_right (is_some there.0.until) _ lives)))))
          ];
      fits = then_listed.fits;
    }

-- ---- each that is due is looked at

looked_at : (me : Author) (reach : Reach) (held : Noted) → held.me ≡ me → reach_noted held ≡ reach → (id : ℕ) (m : Filed) (until : Option ℕ) →
    until ≡ sleep_of me reach id m → IsNotedOf (Some held) id m until
looked_at me reach held by reaches id m None is = tt
looked_at me reach held by reaches id m (Some until) is = (λ i. sleep_of (by i) (reaches i) id m) ∙ sym is

module _ (old : Option Noted) (held : Noted) (clock : Option ℕ) (known : (at : ℕ) → clock ≡ Some at → IsNoted old held.me held.up.items held.tries)
    (entries : List (ℕ × Filed)) where
  abbrev Here : Reach
  Here = reach_noted held

  noted_again : (o : Option Noted) → IsNoted o held.me held.up.items held.tries → (id : ℕ) (m : Filed) (until : Option ℕ) → IsNotedOf o id m until →
      IsNotedOf (Some held) id m until
  noted_again None same id m until is = absurd same
  noted_again (Some was) same id m None is = tt
  noted_again (Some was) same id m (Some until) is =
      (λ i. sleep_of (sym same.0 i) (reach_with (is_up (sym same.1.0 i)) (sym same.1.1 i)) id m) ∙ is

  pub noted_dozed : (live : List Listing) → AreNoted old entries live → AreNoted (Some held) entries (map (dozed entries held.me Here clock) live)
  noted_dozed live are = record {
    each = λ l m among found.
        let from = mapped_from (dozed entries held.me Here clock) live l among in
        subst (λ (it : Listing). IsNotedOf (Some held) it.id m it.until) from.2
        (by_look from.0 m from.1 (subst (λ (it : Listing). value_at entries it.id ≡ Some m) (sym from.2) found) clock refl);
  }
    where
      by_test : (x : Listing) (m : Filed) → value_at entries x.id ≡ Some m → (looks : Bool) → (looks ≡ false → IsNotedOf (Some held) x.id m x.until) →
          IsNotedOf (Some held) x.id m (if looks then noted_of held.me Here x.id (value_at entries x.id) else x.until)
      by_test x m found true rest = looked_at held.me Here held refl refl x.id m _ (ap (noted_of held.me Here x.id) found)
      by_test x m found false rest = rest refl

      by_look : (x : Listing) (m : Filed) → In x live → value_at entries x.id ≡ Some m → (at : Option ℕ) → clock ≡ at →
          IsNotedOf (Some held) x.id m (if is_looked_at at x then noted_of held.me Here x.id (value_at entries x.id) else x.until)
      by_look x m among found None is = looked_at held.me Here held refl refl x.id m _ (ap (noted_of held.me Here x.id) found)
      by_look x m among found (Some at) is =
          by_test x m found (is_due at x) (λ sleeps. noted_again old (known at is) x.id m x.until (are.each x m among found))

  pub dozed_ids : (live : List Listing) → ids_of (map (dozed entries held.me Here clock) live) ≡ ids_of live
  dozed_ids live = mapped_ids (dozed entries held.me Here clock) (λ l. refl) live

-- the shelf keeps what it has to keep
pub shelf_dozed : (old : Option Noted) (held : Noted) (entries : List (ℕ × Filed)) (live new : List Listing) (ids : List ℕ) (room more until : ℕ)
    (clock : Option ℕ) →
    ((at : ℕ) → clock ≡ Some at → IsNoted old held.me held.up.items held.tries) → new ≡ map (dozed entries held.me (reach_noted held) clock) live →
    more ≡ room → AreAwake until new ids → AreListed entries (ids_of live) room → AreNoted old entries live →
    AreListed entries (ids_of new) more × (AreNoted (Some held) entries new × AreAwake until new ids)
shelf_dozed old held entries live new ids room more until clock known is same awake listed are = (
  subst (λ (n : ℕ). AreListed entries (ids_of new) n) (sym same)
      (subst (λ (ls : List ℕ). AreListed entries ls room) (sym (ap ids_of is ∙ dozed_ids old held clock known entries live)) listed),
  (subst (λ (ls : List Listing). AreNoted (Some held) entries ls) (sym is) (noted_dozed old held clock known entries live are), awake),
)
