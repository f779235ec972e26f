-- An attempt is granted, or refused by exactly one number.
use Rattle.std.proofs.Common.{◌≡◌, ◌⊎◌, ℕ, false, List, [], ◌∷◌, Option, Some, None, refl, sym, ◌∙◌, ap, subst, inl, inr}
use Rattle.std.proofs.lemmas.Bool.{cases_eq, true≢false, cases_Bool}
use Rattle.mc_model.specs.message.Decree.{Author, Decree, Kind, Taken, Attempt, Failed, Fate, Told}
use Rattle.mc_model.specs.synod.Lists.{In}
use Rattle.mc_model.specs.synod.Packet.{Slot, slot_of, same_slot}
use Rattle.mc_model.specs.node.Outcome.{Outcome}
use Rattle.mc_model.specs.node.Actor.{Actor}
use Rattle.mc_model.specs.node.Knowledge.{Knows, IsKnown}
use Rattle.mc_model.specs.node.Grant.{MayGrant, EndsInAttempt, GrantRefusal, NotChosen, NotMine, OlderIncarnation, AlreadyGranted, Closed}
use Rattle.mc_model.specs.node.Grant.{IsRefusedFor, IsGiven}
use Rattle.mc_parts.proofs.Membership.{slot_self, slots_same}
use Rattle.mc_parts.proofs.Known.{knows_one}

-- ---- what a refusal says of the attempt that is known

abbrev author_at : ℕ → Actor → Author
author_at node a = record { node = node; incarnation = a.incarnation }

abbrev IsBarred : ℕ → Actor → ℕ → Decree → List Decree → GrantRefusal → Type 0
IsBarred node a id newest older NotChosen = ⊥
IsBarred node a id newest older NotMine = newest.author.node ≡ node → ⊥
IsBarred node a id newest older OlderIncarnation = (newest.author.node ≡ node) × (newest.author.incarnation ≡ a.incarnation → ⊥)
IsBarred node a id newest older AlreadyGranted = (newest.author ≡ author_at node a) × In (slot_of id (newest ∷ older)) a.granted
IsBarred node a id newest older Closed =
    (newest.author ≡ author_at node a) × (In (slot_of id (newest ∷ older)) a.granted → ⊥) ×
    ((outcome : Outcome) × In (slot_of id (newest ∷ older), outcome) a.closed)

-- of an attempt that is known
record Barred (nodes node : ℕ) (a : Actor) (id : ℕ) (refusal : GrantRefusal) : Type 0 where
  newest : Decree
  older : List Decree
  ends : EndsInAttempt nodes a id newest older
  barred : IsBarred node a id newest older refusal

abbrev NoAttempt : ℕ → Actor → ℕ → Type 0
NoAttempt nodes a id = (newest : Decree) (older : List Decree) → EndsInAttempt nodes a id newest older → ⊥

refused_so : (nodes node : ℕ) (a : Actor) (id : ℕ) (refusal : GrantRefusal) → IsRefusedFor nodes node a id refusal →
    ((refusal ≡ NotChosen) × NoAttempt nodes a id) ⊎ Barred nodes node a id refusal
refused_so nodes node a id NotChosen none = inl (refl, none)
refused_so nodes node a id NotMine r = inr (record { newest = r.newest; older = r.older; ends = r.ends; barred = r.other })
refused_so nodes node a id OlderIncarnation r = inr (record { newest = r.newest; older = r.older; ends = r.ends; barred = (r.mine, r.other) })
refused_so nodes node a id AlreadyGranted r = inr (record { newest = r.newest; older = r.older; ends = r.own.ends; barred = (r.own.mine, r.granted) })
refused_so nodes node a id Closed r =
    inr (record { newest = r.newest; older = r.older; ends = r.own.ends; barred = (r.own.mine, r.granted, (r.outcome, r.closed)) })

-- one attempt is known
here : (nodes node : ℕ) (a : Actor) (id : ℕ) (refusal : GrantRefusal) (newest : Decree) (older : List Decree) →
    Knows nodes a.received id (newest ∷ older) → Barred nodes node a id refusal →
    IsBarred node a id newest older refusal
here nodes node a id refusal newest older known b =
    let same = knows_one nodes a.received id (b.newest ∷ b.older) (newest ∷ older) b.ends.known known in
    let heads : b.newest ≡ newest = cc in
    let tails : b.older ≡ older = cc in
    subst (λ (xs : List Decree). IsBarred node a id newest xs refusal) tails (subst (λ (x : Decree). IsBarred node a id x b.older refusal) heads b.barred)

node_at : (newest : Decree) (node : ℕ) (a : Actor) → newest.author ≡ author_at node a → newest.author.node ≡ node
node_at newest node a is = ap (λ (x : Author). x.node) is

incarnation_at : (newest : Decree) (node : ℕ) (a : Actor) → newest.author ≡ author_at node a → newest.author.incarnation ≡ a.incarnation
incarnation_at newest node a is = ap (λ (x : Author). x.incarnation) is

one_bar : (node : ℕ) (a : Actor) (id : ℕ) (newest : Decree) (older : List Decree) (one other : GrantRefusal) →
    IsBarred node a id newest older one → IsBarred node a id newest older other →
    one ≡ other
one_bar node a id newest older NotChosen other x y = absurd x
one_bar node a id newest older NotMine NotChosen x y = absurd y
one_bar node a id newest older NotMine NotMine x y = refl
one_bar node a id newest older NotMine OlderIncarnation x y = absurd (x y.0)
one_bar node a id newest older NotMine AlreadyGranted x y = absurd (x (node_at newest node a y.0))
one_bar node a id newest older NotMine Closed x y = absurd (x (node_at newest node a y.0))
one_bar node a id newest older OlderIncarnation NotChosen x y = absurd y
one_bar node a id newest older OlderIncarnation NotMine x y = absurd (y x.0)
one_bar node a id newest older OlderIncarnation OlderIncarnation x y = refl
one_bar node a id newest older OlderIncarnation AlreadyGranted x y = absurd (x.1 (incarnation_at newest node a y.0))
one_bar node a id newest older OlderIncarnation Closed x y = absurd (x.1 (incarnation_at newest node a y.0))
one_bar node a id newest older AlreadyGranted NotChosen x y = absurd y
one_bar node a id newest older AlreadyGranted NotMine x y = absurd (y (node_at newest node a x.0))
one_bar node a id newest older AlreadyGranted OlderIncarnation x y = absurd (y.1 (incarnation_at newest node a x.0))
one_bar node a id newest older AlreadyGranted AlreadyGranted x y = refl
one_bar node a id newest older AlreadyGranted Closed x y = absurd (y.1 x.1)
one_bar node a id newest older Closed NotChosen x y = absurd y
one_bar node a id newest older Closed NotMine x y = absurd (y (node_at newest node a x.0))
one_bar node a id newest older Closed OlderIncarnation x y = absurd (y.1 (incarnation_at newest node a x.0))
one_bar node a id newest older Closed AlreadyGranted x y = absurd (x.1 y.1)
one_bar node a id newest older Closed Closed x y = refl

-- ---- by one number

pub one_refusal : (nodes node : ℕ) (a : Actor) (id : ℕ) (one other : GrantRefusal) → IsRefusedFor nodes node a id one →
    IsRefusedFor nodes node a id other →
    one ≡ other
one_refusal nodes node a id one other x y = elim (refused_so nodes node a id one x) [
  | inl none ↦ elim (refused_so nodes node a id other y) [
    | inl also ↦ none.0 ∙ sym also.0
    | inr barred ↦ absurd (none.1 barred.newest barred.older barred.ends)
  ]
  | inr first ↦ elim (refused_so nodes node a id other y) [
    | inl none ↦ absurd (none.1 first.newest first.older first.ends)
    | inr second ↦ one_bar node a id second.newest second.older one other
        (here nodes node a id one second.newest second.older second.ends.known first) second.barred
  ]
]

-- and not where it may be granted
open_attempt : (nodes node : ℕ) (a : Actor) (slot : Slot) (may : MayGrant nodes node a slot) (refusal : GrantRefusal) →
    IsBarred node a slot.id may.attempting.newest may.attempting.older refusal →
    ⊥
open_attempt nodes node a slot may NotChosen b = b
open_attempt nodes node a slot may NotMine b = b (ap (λ (x : Author). x.node) may.attempting.author)
open_attempt nodes node a slot may OlderIncarnation b = b.1 (ap (λ (x : Author). x.incarnation) may.attempting.author)
open_attempt nodes node a slot may AlreadyGranted b = may.granted (subst (λ (s : Slot). In s a.granted) (sym may.attempting.place) b.1)
open_attempt nodes node a slot may Closed b = may.closed b.2.0 (subst (λ (s : Slot). In (s, b.2.0) a.closed) (sym may.attempting.place) b.2.1)

pub not_refused : (nodes node : ℕ) (a : Actor) (slot : Slot) → MayGrant nodes node a slot → (refusal : GrantRefusal) →
    IsRefusedFor nodes node a slot.id refusal →
    ⊥
not_refused nodes node a slot may refusal refused = elim (refused_so nodes node a slot.id refusal refused) [
  | inl none ↦ none.1 may.attempting.newest may.attempting.older
      (record { number = may.attempting.number; known = may.attempting.known; attempt = may.attempting.attempt })
  | inr barred ↦ open_attempt nodes node a slot may refusal
      (here nodes node a slot.id refusal may.attempting.newest may.attempting.older may.attempting.known barred)
]

-- ---- granted or refused

apart_slots : (one other : Slot) → same_slot one other ≡ false → one ≡ other → ⊥
apart_slots one other apart same = true≢false (sym (slot_self one) ∙ ap (same_slot one) same ∙ apart)

was_granted : (slot : Slot) (granted : List Slot) → In slot granted ⊎ (In slot granted → ⊥)
was_granted slot [] = inr (λ none. none)
was_granted slot (first ∷ granted) = elim (cases_Bool (same_slot slot first)) [
  | inl same ↦ inl (inl (slots_same slot first same))
  | inr apart ↦ elim (was_granted slot granted) [
    | inl later ↦ inl (inr later)
    | inr none ↦ inr (λ is_in. elim is_in [ inl same ↦ apart_slots slot first apart same | inr later ↦ none later ])
  ]
]

was_closed : (slot : Slot) (closed : List (Slot × Outcome)) →
    ((outcome : Outcome) × In (slot, outcome) closed) ⊎ ((outcome : Outcome) → In (slot, outcome) closed → ⊥)
was_closed slot [] = inr (λ outcome none. none)
was_closed slot (first ∷ closed) = elim (cases_Bool (same_slot slot first.0)) [
  | inl same ↦ inl (first.1, inl (λ i. (slots_same slot first.0 same i, first.1)))
  | inr apart ↦ elim (was_closed slot closed) [
    | inl later ↦ inl (later.0, inr later.1)
    | inr none ↦ inr (λ outcome is_in. elim is_in [
      | inl same ↦ apart_slots slot first.0 apart
          (ap (λ (x : Slot × Outcome). x.0) same)
      | inr later ↦ none outcome later
    ])
  ]
]

abbrev Judged : ℕ → ℕ → Actor → ℕ → Type 0
Judged nodes node a id = IsGiven nodes node a id ⊎ ((refusal : GrantRefusal) × IsRefusedFor nodes node a id refusal)

own_attempt : (nodes node : ℕ) (a : Actor) (id : ℕ) (newest : Decree) (older : List Decree) → EndsInAttempt nodes a id newest older →
    newest.author ≡ author_at node a →
    Judged nodes node a id
own_attempt nodes node a id newest older ends mine = elim (was_granted (slot_of id (newest ∷ older)) a.granted) [
  | inl granted ↦ inr (AlreadyGranted, record { newest = newest; older = older; own = record { ends = ends; mine = mine }; granted = granted })
  | inr ungranted ↦ elim (was_closed (slot_of id (newest ∷ older)) a.closed) [
    | inl closed ↦ inr (
      Closed,
      record {
        newest = newest;
        older = older;
        outcome = closed.0;
        own = record { ends = ends; mine = mine };
        granted = ungranted;
        closed = closed.1;
      },
    )
    | inr unclosed ↦ inl (record {
      slot = slot_of id (newest ∷ older);
      about = refl;
      may = record {
        attempting = record {
          newest = newest;
          older = older;
          number = ends.number;
          known = ends.known;
          place = refl;
          attempt =
              ends.attempt;
          author = mine;
        };
        granted = ungranted;
        closed = unclosed;
      };
    })
  ]
]

attempt_judged : (nodes node : ℕ) (a : Actor) (id : ℕ) (newest : Decree) (older : List Decree) → EndsInAttempt nodes a id newest older → Judged nodes node a id
attempt_judged nodes node a id newest older ends = elim (cases_eq newest.author.node node) [
  | inl mine ↦ elim (cases_eq newest.author.incarnation a.incarnation) [
    | inl now ↦ own_attempt nodes node a id newest older ends (λ i. record { node = mine i; incarnation = now i })
    | inr other ↦ inr (OlderIncarnation, record { newest = newest; older = older; ends = ends; mine = mine; other = other })
  ]
  | inr other ↦ inr (NotMine, record { newest = newest; older = older; ends = ends; other = other })
]

-- what is known ends in no attempt
no_attempt : (nodes : ℕ) (a : Actor) (id : ℕ) (newest : Decree) (older : List Decree) → Knows nodes a.received id (newest ∷ older) →
    ((number : ℕ) → newest.kind ≡ Attempt number → ⊥) →
    NoAttempt nodes a id
no_attempt nodes a id newest older known none other rest ends =
    let same = knows_one nodes a.received id (newest ∷ older) (other ∷ rest) known ends.known in
    let heads : newest ≡ other = cc in
    none ends.number (ap (λ (d : Decree). d.kind) heads ∙ ends.attempt)

known_judged : (nodes node : ℕ) (a : Actor) (id : ℕ) (newest : Decree) (older : List Decree) (kind : Kind) → newest.kind ≡ kind →
    Knows nodes a.received id (newest ∷ older) →
    Judged nodes node a id
known_judged nodes node a id newest older (Attempt number) is known =
    attempt_judged nodes node a id newest older (record { number = number; known = known; attempt = is })
known_judged nodes node a id newest older (Taken message) is known =
    inr (NotChosen, no_attempt nodes a id newest older known (λ number attempt. let clash : Taken message ≡ Attempt number = sym is ∙ attempt in cc))
known_judged nodes node a id newest older (Failed error) is known =
    inr (NotChosen, no_attempt nodes a id newest older known (λ number attempt. let clash : Failed error ≡ Attempt number = sym is ∙ attempt in cc))
known_judged nodes node a id newest older (Fate final error) is known =
    inr (NotChosen, no_attempt nodes a id newest older known (λ number attempt. let clash : Fate final error ≡ Attempt number = sym is ∙ attempt in cc))
known_judged nodes node a id newest older Told is known =
    inr (NotChosen, no_attempt nodes a id newest older known (λ number attempt. let clash : Told ≡ Attempt number = sym is ∙ attempt in cc))

pub judged : (nodes node : ℕ) (a : Actor) (id : ℕ) (known : Option (List Decree)) → IsKnown nodes a.received id known → Judged nodes node a id
judged nodes node a id None nothing = inr (NotChosen, λ newest older ends. nothing _ _ ends.known.learned)
judged nodes node a id (Some []) known =
    inr (NotChosen, λ newest older ends. let same = knows_one nodes a.received id [] (newest ∷ older) known ends.known in cc)
judged nodes node a id (Some (newest ∷ older)) known = known_judged nodes node a id newest older newest.kind refl known
