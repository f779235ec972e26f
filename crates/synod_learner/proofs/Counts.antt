-- Counts of votes, of which no two are of one vote.
use Rattle.std.proofs.Common.{◌≡◌, ◌⊎◌, ◌↔◌, ℕ, zero, suc, ◌+◌, ◌<◌, Bool, true, false, List, [], ◌∷◌, ◌++◌, length, get_or, take, set}
use Rattle.std.proofs.Common.{slice_get, option_map, Option, Some, None, refl, sym, ap, subst, ◌∙◌, inl, inr, arith}
use Rattle.std.specs.Prelude.{◌==◌, ◌||◌, IfSome}
use Rattle.std.proofs.lemmas.Bool.{eq-eqb, eqb-true, or_cases, or_right, true≢false}
use Rattle.std.proofs.lemmas.List.{length-map, map-append, map-set, take_more}
use Rattle.std.proofs.lemmas.Option.{slice_get-map, slice_get_read, slice_get_within}
use Rattle.mc_types.specs.Nodes.{has}
use Rattle.mc_model.specs.synod.Lists.{In}
use Rattle.mc_model.specs.synod.OneSlot.{Vote}
use Rattle.mc_model.specs.synod.Packet.{Slot, Voted}
use Rattle.mc_parts.proofs.Membership.{in_right, in_left, in_two}
use Rattle.synod_acceptor.specs.declared.vote.Vote.{Vote as Cast}
use Rattle.synod_acceptor.specs.Votes.{slot_in, vote_of}
use Rattle.synod_learner.specs.declared.tally.Tally.{Tally}
use Rattle.synod_learner.specs.Counts.{AreSingle, Count, IsCountAt, IsCountPlace, IsCounted, IsUncounted, IsVotersAt, count_of, counts_of, with_count, with_voters, with_voters_of}

abbrev pub count : Slot → Vote → ℕ → Count
count slot vote voters = record { slot = slot; vote = vote; voters = voters }

-- ---- what stands in a list, and in its place another

at_in : (counts : List Count) (place : ℕ) (c : Count) → slice_get counts place ≡ Some c → In c counts
at_in [] place c stands = absurd (cc)
at_in (first ∷ others) zero c stands = let same : first ≡ c = cc in inl (sym same)
at_in (first ∷ others) (suc place) c stands = inr (at_in others place c stands)

set_new : (counts : List Count) (place : ℕ) (old new : Count) → slice_get counts place ≡ Some old → In new (set counts place new)
set_new [] place old new stands = absurd (cc)
set_new (first ∷ others) zero old new stands = inl refl
set_new (first ∷ others) (suc place) old new stands = inr (set_new others place old new stands)

set_kept : (counts : List Count) (place : ℕ) (old new c : Count) → slice_get counts place ≡ Some old → In c counts → In c (set counts place new) ⊎ (c ≡ old)
set_kept [] place old new c stands is_in = absurd is_in
set_kept (first ∷ others) zero old new c stands (inl same) = let is : first ≡ old = cc in inr (same ∙ is)
set_kept (first ∷ others) zero old new c stands (inr later) = inl (inr later)
set_kept (first ∷ others) (suc place) old new c stands (inl same) = inl (inl same)
set_kept (first ∷ others) (suc place) old new c stands (inr later) = elim (set_kept others place old new c stands later) [
  | inl kept ↦ inl (inr kept)
  | inr same ↦ inr same
]

set_from : (counts : List Count) (place : ℕ) (new c : Count) → In c (set counts place new) → In c counts ⊎ (c ≡ new)
set_from [] place new c is_in = inl is_in
set_from (first ∷ others) zero new c (inl same) = inr same
set_from (first ∷ others) zero new c (inr later) = inl (inr later)
set_from (first ∷ others) (suc place) new c (inl same) = inl (inl same)
set_from (first ∷ others) (suc place) new c (inr later) = elim (set_from others place new c later) [
  | inl before ↦ inl (inr before)
  | inr same ↦ inr same
]

-- ---- no two are of one vote

-- a count that is the first one
none_is : (others : List Count) (first : Count) (slot : Slot) (vote : Vote) (voters : ℕ) → IsUncounted others first.slot first.vote →
    slot ≡ first.slot → vote ≡ first.vote → In (count slot vote voters) others →
    ⊥
none_is others first slot vote voters none slots votes is_in =
    none voters (subst (λ (c : Count). In c others) (λ i. count (slots i) (votes i) voters) is_in)

pub single_in : (counts : List Count) (slot : Slot) (vote : Vote) (one other : ℕ) → AreSingle counts → In (count slot vote one) counts →
    In (count slot vote other) counts →
    one ≡ other
single_in [] slot vote one other single a b = absurd a
single_in (first ∷ others) slot vote one other single (inl a) (inl b) = ap (λ (c : Count). c.voters) (a ∙ sym b)
single_in (first ∷ others) slot vote one other single (inl a) (inr b) =
    absurd (none_is others first slot vote other single.0 (ap (λ (c : Count). c.slot) a) (ap (λ (c : Count). c.vote) a) b)
single_in (first ∷ others) slot vote one other single (inr a) (inl b) =
    absurd (none_is others first slot vote one single.0 (ap (λ (c : Count). c.slot) b) (ap (λ (c : Count). c.vote) b) a)
single_in (first ∷ others) slot vote one other single (inr a) (inr b) = single_in others slot vote one other single.1 a b

single-set : (counts : List Count) (place : ℕ) (old new : Count) → AreSingle counts → slice_get counts place ≡ Some old →
    old.slot ≡ new.slot → old.vote ≡ new.vote →
    AreSingle (set counts place new)
single-set [] place old new single stands slots votes = absurd (cc)
single-set (first ∷ others) zero old new single stands slots votes =
    let same : first ≡ old = cc in (
      λ voters is_in. none_is others first new.slot new.vote voters single.0 (sym (ap (λ (c : Count). c.slot) same ∙ slots))
          (sym (ap (λ (c : Count). c.vote) same ∙ votes)) is_in,
      single.1,
    )
single-set (first ∷ others) (suc place) old new single stands slots votes = (
  λ voters is_in. elim (set_from others place new (count first.slot first.vote voters) is_in) [
    | inl before ↦ single.0 voters before
    | inr same ↦ none_is others first old.slot old.vote old.voters single.0 (slots ∙ sym (ap (λ (c : Count). c.slot) same))
        (votes ∙ sym (ap (λ (c : Count). c.vote) same)) (at_in others place old stands)
  ],
  single-set others place old new single.1 stands slots votes,
)

single-push : (counts : List Count) (new : Count) → AreSingle counts → IsUncounted counts new.slot new.vote → AreSingle (counts ++ new ∷ [])
single-push [] new single none = (λ voters is_in. is_in, tt)
single-push (first ∷ others) new single none = (
  λ voters is_in. elim (in_two (count first.slot first.vote voters) others new is_in) [
    | inl before ↦ single.0 voters before
    | inr same ↦ none first.voters (inl (λ i. count (sym (ap (λ (c : Count). c.slot) same) i) (sym (ap (λ (c : Count). c.vote) same) i) first.voters))
  ],
  single-push others new single.1 (λ voters is_in. none voters (inr is_in)),
)

-- ---- a vote and those who cast it

pub voters_are : (counts : List Count) (slot : Slot) (vote : Vote) (place : Option ℕ) (voters : ℕ) → AreSingle counts →
    IsCountPlace counts slot vote place → IsVotersAt counts place voters → (node : ℕ) →
    (has voters node ≡ true) ↔ IsCounted counts node slot vote
voters_are counts slot vote None voters single none nobody node =
    (λ has_it. absurd (true≢false (sym has_it ∙ nobody node)), λ counted. absurd (none counted.voters counted.stands))
voters_are counts slot vote (Some place) voters single at is node =
    let both : Some is.0 ≡ Some (count slot vote at.voters) = sym is.1 ∙ at.stands in
    let same : is.0 ≡ count slot vote at.voters = cc in
    let voters_same : at.voters ≡ voters = sym (ap (λ (c : Count). c.voters) same) ∙ is.2 in (
      λ has_it. record {
        voters = at.voters;
        stands = at_in counts place (count slot vote at.voters) at.stands;
        counted = subst
            (λ (v : ℕ). has v node ≡ true) (sym voters_same) has_it;
      },
      λ counted. subst (λ (v : ℕ). has v node ≡ true)
          (single_in counts slot vote counted.voters at.voters single counted.stands
          (at_in counts place (count slot vote at.voters) at.stands) ∙ voters_same) counted.counted,
    )

-- ---- one more vote is counted

-- the counts have this vote too, and no other
pub record IsAdded (counts new : List Count) (voter : ℕ) (slot : Slot) (vote : Vote) : Type 0 where
  pub before : (node : ℕ) (other : Slot) (cast : Vote) → IsCounted counts node other cast → IsCounted new node other cast
  pub this : IsCounted new voter slot vote
  pub only : (node : ℕ) (other : Slot) (cast : Vote) → IsCounted new node other cast →
      IsCounted counts node other cast ⊎ (Voted node other cast ≡ Voted voter slot vote)

-- the set has this node too, and no other
pub record IsJoined (voters new voter : ℕ) : Type 0 where
  pub before : (node : ℕ) → has voters node ≡ true → has new node ≡ true
  pub this : has new voter ≡ true
  pub only : (node : ℕ) → has new node ≡ true → (has voters node ≡ true) ⊎ (node ≡ voter)

with_single : (counts : List Count) (slot : Slot) (vote : Vote) (place : Option ℕ) (new : ℕ) → AreSingle counts →
    IsCountPlace counts slot vote place →
    AreSingle (with_count counts place (count slot vote new))
with_single counts slot vote None new single none = single-push counts (count slot vote new) single none
with_single counts slot vote (Some place) new single at = single-set counts place (count slot vote at.voters) (count slot vote new) single at.stands refl refl

with_new : (counts : List Count) (slot : Slot) (vote : Vote) (place : Option ℕ) (new : ℕ) → IsCountPlace counts slot vote place →
    In (count slot vote new) (with_count counts place (count slot vote new))
with_new counts slot vote None new none = in_right (count slot vote new) counts (count slot vote new ∷ []) (inl refl)
with_new counts slot vote (Some place) new at = set_new counts place (count slot vote at.voters) (count slot vote new) at.stands

pub with_from : (counts : List Count) (place : Option ℕ) (new c : Count) → In c (with_count counts place new) → In c counts ⊎ (c ≡ new)
with_from counts None new c is_in = in_two c counts new is_in
with_from counts (Some place) new c is_in = set_from counts place new c is_in

-- what was counted for this vote stands in the new count, and all else where it stood
with_kept : (counts : List Count) (slot : Slot) (vote : Vote) (place : Option ℕ) (new : ℕ) (c : Count) →
    IsCountPlace counts slot vote place → In c counts →
    In c (with_count counts place (count slot vote new)) ⊎ ((c.slot ≡ slot) × (c.vote ≡ vote))
with_kept counts slot vote None new c none is_in = inl (in_left c counts (count slot vote new ∷ []) is_in)
with_kept counts slot vote (Some place) new c at is_in = elim (set_kept counts place (count slot vote at.voters) (count slot vote new) c at.stands is_in) [
  | inl kept ↦ inl kept
  | inr same ↦ inr (ap (λ (d : Count). d.slot) same, ap (λ (d : Count). d.vote) same)
]

pub counted_more : (counts : List Count) (slot : Slot) (vote : Vote) (place : Option ℕ) (voters new voter : ℕ) → AreSingle counts →
    IsCountPlace counts slot vote place → IsVotersAt counts place voters → IsJoined voters new voter →
    IsAdded counts (with_count counts place (count slot vote new)) voter slot vote × AreSingle (with_count counts place (count slot vote new))
counted_more counts slot vote place voters new voter single at is joined = (
  record { before = before; this = record { voters = new; stands = stands; counted = joined.this }; only = only },
  with_single counts slot vote place new single at,
)
  where
    stands : In (count slot vote new) (with_count counts place (count slot vote new))
    stands = with_new counts slot vote place new at

    in_new : (node : ℕ) (other : Slot) (cast : Vote) → other ≡ slot → cast ≡ vote → IsCounted counts node other cast →
        IsCounted (with_count counts place (count slot vote new)) node other cast
    in_new node other cast slots casts counted =
        let here : IsCounted counts node slot vote = subst (λ (v : Vote). IsCounted counts node slot v) casts
        (subst (λ (s : Slot). IsCounted counts node s cast) slots counted) in
        let has_it = joined.before node ((voters_are counts slot vote place voters single at is node).1 here) in
        record {
          voters = new;
          stands = subst (λ (c : Count). In c (with_count counts place (count slot vote new)))
              (λ i. count (sym slots i) (sym casts i) new) stands;
          counted = has_it;
        }

    before : (node : ℕ) (other : Slot) (cast : Vote) → IsCounted counts node other cast →
        IsCounted (with_count counts place (count slot vote new)) node other cast
    before node other cast counted = elim (with_kept counts slot vote place new (count other cast counted.voters) at counted.stands) [
      | inl kept ↦ record { voters = counted.voters; stands = kept; counted = counted.counted }
      | inr same ↦ in_new node other cast same.0 same.1 counted
    ]

    only : (node : ℕ) (other : Slot) (cast : Vote) → IsCounted (with_count counts place (count slot vote new)) node other cast →
        IsCounted counts node other cast ⊎ (Voted node other cast ≡ Voted voter slot vote)
    only node other cast counted = elim (with_from counts place (count slot vote new) (count other cast counted.voters) counted.stands) [
      | inl old ↦ inl (record { voters = counted.voters; stands = old; counted = counted.counted })
      | inr same ↦
          let slots : other ≡ slot = ap (λ (c : Count). c.slot) same in
          let casts : cast ≡ vote = ap (λ (c : Count). c.vote) same in
          elim (joined.only node (subst (λ (v : ℕ). has v node ≡ true) (ap (λ (c : Count). c.voters) same) counted.counted)) [
            | inl had ↦
                let here = (voters_are counts slot vote place voters single at is node).0 had in
                inl (subst (λ (v : Vote). IsCounted counts node other v) (sym casts) (subst (λ (s : Slot). IsCounted counts node s vote) (sym slots) here))
            | inr is_voter ↦ inr (λ i. Voted (is_voter i) (slots i) (casts i))
          ]
    ]

-- ---- a search from the front

-- two votes in one slot, at one ballot and for one chain are the same
casts_same : (one other : Cast) → slot_in one ≡ slot_in other → vote_of one ≡ vote_of other → one ≡ other
casts_same one other slots votes = λ i. record {
  ballot = ap (λ (v : Vote). v.ballot) votes i;
  chain = record { id = ap (λ (s : Slot). s.id) slots i; decrees = ap (λ (v : Vote). v.chain) votes i };
}

pub uncounted_next : (tallies : List Tally) (place : ℕ) (tally : Tally) (vote : Cast) → place < length tallies →
    tally ≡ get_or tallies place tally → IsUncounted (counts_of (take place tallies)) (slot_in vote) (vote_of vote) →
    (tally.vote ≡ vote → ⊥) →
    IsUncounted (counts_of (take (place + 1) tallies)) (slot_in vote) (vote_of vote)
uncounted_next tallies place tally vote below is none differs voters is_in =
    let more : take (place + 1) tallies ≡ take place tallies ++ tally ∷ [] = take_more tallies place tally below ∙ ap
    (λ (t : Tally). take place tallies ++ t ∷ []) (sym is) in
    let counts : counts_of (take (place + 1) tallies) ≡ counts_of (take place tallies) ++ count_of tally ∷ [] = ap counts_of more
    ∙ map-append count_of (take place tallies) (tally ∷ []) in
    elim (in_two (count (slot_in vote) (vote_of vote) voters) (counts_of (take place tallies)) (count_of tally)
    (subst (λ (cs : List Count). In (count (slot_in vote) (vote_of vote) voters) cs) counts is_in)) [
      | inl before ↦ none voters before
      | inr same ↦ differs (sym (casts_same vote tally.vote (ap (λ (c : Count). c.slot) same) (ap (λ (c : Count). c.vote) same)))
    ]

pub count_here : (tallies : List Tally) (place : ℕ) (tally : Tally) (vote : Cast) → place < length tallies →
    tally ≡ get_or tallies place tally → tally.vote ≡ vote →
    IsCountAt (counts_of tallies) (slot_in vote) (vote_of vote) place
count_here tallies place tally vote below is same = record {
  voters = tally.voters;
  stands =
      slice_get-map count_of tallies place
      ∙ ap (λ o. option_map count_of o) (slice_get_read tallies (length tallies) place tally refl below is)
      ∙ ap (λ (v : Cast). Some (count (slot_in v) (vote_of v) tally.voters)) same;
}

-- ---- those who cast a vote, and what stands where

pub place_within : (tallies : List Tally) (slot : Slot) (vote : Vote) (place : Option ℕ) →
    IsCountPlace (counts_of tallies) slot vote place →
    IfSome place (λ place. place < length tallies)
place_within tallies slot vote None none = tt
place_within tallies slot vote (Some place) at =
    omega (arith, slice_get_within (counts_of tallies) place (count slot vote at.voters) at.stands, length-map tallies count_of)

pub voters_here : (tallies : List Tally) (place : ℕ) (tally : Tally) → place < length tallies → tally ≡ get_or tallies place tally →
    IsVotersAt (counts_of tallies) (Some place) tally.voters
voters_here tallies place tally below is = (
  count_of tally,
  slice_get-map count_of tallies place ∙ ap (λ o. option_map count_of o)
      (slice_get_read tallies (length tallies) place tally refl below is),
  refl,
)

pub tally_put : (tallies : List Tally) (place : ℕ) (old : Tally) (vote : Cast) (voters : ℕ) → slice_get tallies place ≡ Some old →
    IsCountAt (counts_of tallies) (slot_in vote) (vote_of vote) place →
    counts_of (set tallies place (record { vote = old.vote; voters = voters })) ≡ set (counts_of tallies) place (count (slot_in vote) (vote_of vote) voters)
tally_put tallies place old vote voters here at =
    let stands : slice_get (counts_of tallies) place ≡ Some (count_of old) = slice_get-map count_of tallies place ∙ ap (λ o. option_map count_of o) here in
    let both : Some (count_of old) ≡ Some (count (slot_in vote) (vote_of vote) at.voters) = sym stands ∙ at.stands in
    let same : count_of old ≡ count (slot_in vote) (vote_of vote) at.voters = cc in
    map-set count_of tallies place (record { vote = old.vote; voters = voters })
    ∙ ap (λ (c : Count). set (counts_of tallies) place c) (λ i. count (ap (λ (c : Count). c.slot) same i) (ap (λ (c : Count). c.vote) same i) voters)

-- the count of a tally with other voters
pub tally_anew : (tallies : List Tally) (place : ℕ) (tally : Tally) (voters : ℕ) → place < length tallies → tally ≡ get_or tallies place tally →
    counts_of (set tallies place (record { vote = tally.vote; voters = voters })) ≡ with_voters (counts_of tallies) place voters
unfolding voters_here
tally_anew tallies place tally voters below is =
    map-set count_of tallies place (record { vote = tally.vote; voters = voters })
    ∙ sym (ap (with_voters_of (counts_of tallies) place voters) (voters_here tallies place tally below is).1)

pub uncounted : (counts : List Count) (slot : Slot) (vote : Vote) (place : Option ℕ) (voters voter : ℕ) → AreSingle counts →
    IsCountPlace counts slot vote place → IsVotersAt counts place voters → has voters voter ≡ false → IsCounted counts voter slot vote →
    ⊥
uncounted counts slot vote place voters voter single at is differs counted =
    true≢false (sym ((voters_are counts slot vote place voters single at is voter).1 counted) ∙ differs)

pub joined : (old new voter : ℕ) → ((other : ℕ) → has new other ≡ (has old other || other == voter)) → IsJoined old new voter
joined old new voter adds = record {
  before = λ node was. adds node ∙ ap (λ (b : Bool). b || node == voter) was;
  this = adds voter ∙ or_right (has old voter) (voter == voter) (eq-eqb voter voter refl);
  only = λ node is. elim (or_cases (has old node) (node == voter) (sym (adds node) ∙ is)) [
    | inl was ↦ inl was
    | inr same ↦ inr (eqb-true node voter same)
  ];
}

pub new_voters_are : (counts later : List Count) (slot : Slot) (vote : Vote) (place : Option ℕ) (voters new voter : ℕ) → AreSingle counts →
    IsCountPlace counts slot vote place → IsVotersAt counts place voters → IsJoined voters new voter →
    IsAdded counts later voter slot vote → (node : ℕ) →
    (has new node ≡ true) ↔ IsCounted later node slot vote
new_voters_are counts later slot vote place voters new voter single at is joins added node = (
  λ has_it. elim (joins.only node has_it) [
    | inl was ↦ added.before node slot vote ((voters_are counts slot vote place voters single at is node).0 was)
    | inr same ↦ subst (λ (n : ℕ). IsCounted later n slot vote) (sym same) added.this
  ],
  λ counted. elim (added.only node slot vote counted) [
    | inl was ↦ joins.before node ((voters_are counts slot vote place voters single at is node).1 was)
    | inr same ↦ let nodes : node ≡ voter = cc in subst (λ (n : ℕ). has new n ≡ true) (sym nodes) joins.this
  ],
)
