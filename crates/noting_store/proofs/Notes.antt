-- Notes in lists.
use Rattle.std.proofs.Common.{◌≡◌, ◌⊎◌, inl, inr, ℕ, zero, suc, ◌+◌, ◌<◌, ◌≤◌, arith, List, [], ◌∷◌, ◌++◌, length, take, get_or, refl, sym, ap, subst, ◌∙◌}
use Rattle.std.proofs.lemmas.List.{map-append, take_all, take_more}
use Rattle.mc_model.specs.synod.Lists.{In}
use Rattle.mc_parts.proofs.Membership.{in_either, in_two}
use Rattle.noting_store.specs.Noted.{AreApart, AreOf, HasNone, Note, Noted, noted_in, noted_of}

pub noted_pushed : (notes : List Note) (note : Note) → noted_in (notes ++ note ∷ []) ≡ noted_in notes ++ noted_of note ∷ []
noted_pushed notes note = map-append noted_of notes (note ∷ [])

pub noted_either : (n : Noted) (front back : List Note) → In n (noted_in (front ++ back)) → In n (noted_in front) ⊎ In n (noted_in back)
noted_either n front back is = in_either n (noted_in front) (noted_in back) (subst (In n) (map-append noted_of front back) is)

-- it stands at this place
pub stands_at : (notes : List Note) (at : ℕ) (note : Note) → at < length notes → note ≡ get_or notes at note → In (noted_of note) (noted_in notes)
stands_at [] at note low is = absurd (omega arith)
stands_at (first ∷ others) zero note low is = inl (ap noted_of is)
stands_at (first ∷ others) (suc at) note low is = inr (stands_at others at note (omega arith) is)

-- ---- looking for a message

pub none_more : (id : ℕ) (notes : List Note) (at : ℕ) (note : Note) → at < length notes → note ≡ get_or notes at note → HasNone id (noted_in (take at notes))
    → ((noted_of note).slot.id ≡ id → ⊥) → HasNone id (noted_in (take (at + 1) notes))
none_more id notes at note low is none differs n among =
    let more : take (at + 1) notes ≡ take at notes ++ note ∷ [] = take_more notes at note low ∙ ap (λ (x : Note). take at notes ++ x ∷ []) (sym is) in
    let here : In n (noted_in (take at notes) ++ noted_of note ∷ []) =
    subst (In n) (noted_pushed (take at notes) note) (subst (λ (xs : List Note). In n (noted_in xs)) more among) in
    elim (in_two n (noted_in (take at notes)) (noted_of note) here) [
      | inl before ↦ none n before
      | inr same ↦ λ of. differs (subst (λ (x : Noted). x.slot.id ≡ id) same of)
    ]

pub none_in_all : (id : ℕ) (notes : List Note) (at : ℕ) → length notes ≤ at → HasNone id (noted_in (take at notes)) → HasNone id (noted_in notes)
none_in_all id notes at past none = subst (λ (xs : List Note). HasNone id (noted_in xs)) (take_all at notes past) none

-- ---- one more note

pub in_more : (notes all : List Note) (note : Note) → ((n : Noted) → In n (noted_in notes) → In n (noted_in all)) → In (noted_of note) (noted_in all) → (n : Noted)
    → In n (noted_in (notes ++ note ∷ [])) → In n (noted_in all)
in_more notes all note before here n among = elim (in_two n (noted_in notes) (noted_of note) (subst (In n) (noted_pushed notes note) among)) [
  | inl is ↦ before n is
  | inr same ↦ subst (λ (x : Noted). In x (noted_in all)) (sym same) here
]

pub of_more : (nodes : ℕ) (notes : List Note) (note : Note) → AreOf nodes notes → note.nodes ≡ nodes → AreOf nodes (notes ++ note ∷ [])
of_more nodes notes note before is other among = elim (in_two other notes note among) [
  | inl stands ↦ before other stands
  | inr same ↦ ap (λ (x : Note). x.nodes) same ∙ is
]

apart_behind : (ns : List Noted) (n : Noted) → AreApart ns → HasNone n.slot.id ns → AreApart (ns ++ n ∷ [])
apart_behind [] n apart none = (λ other among. absurd among, tt)
apart_behind (first ∷ others) n apart none = (
  λ other among. elim (in_two other others n among) [
    | inl stands ↦ apart.0 other stands
    | inr same ↦ λ of. none first (inl refl) (sym (sym (ap (λ (x : Noted). x.slot.id) same) ∙ of))
  ],
  apart_behind others n apart.1 (λ other among. none other (inr among)),
)

pub apart_more : (notes : List Note) (note : Note) → AreApart (noted_in notes) → HasNone (noted_of note).slot.id (noted_in notes)
    → AreApart (noted_in (notes ++ note ∷ []))
apart_more notes note apart none = subst AreApart (sym (noted_pushed notes note)) (apart_behind (noted_in notes) (noted_of note) apart none)

-- a copy of the one that stands at a place goes behind others
pub record HasMore (count : ℕ) (all items : List Note) : Type 0 where
  pub found : (n : Noted) → In n (noted_in items) → In n (noted_in all)
  pub nodes : AreOf count items
  pub apart : AreApart (noted_in items)

pub has_more : (nodes : ℕ) (all notes items : List Note) (note copy : Note) → HasMore nodes all notes → items ≡ notes ++ copy ∷ [] → copy ≡ note
    → In (noted_of note) (noted_in all) → note.nodes ≡ nodes → HasNone (noted_of note).slot.id (noted_in notes) → HasMore nodes all items
has_more nodes all notes items note copy before items_are copied here of none =
    rw (items_are, copied) (record {
      found = in_more notes all note before.found here;
      nodes = of_more nodes notes note before.nodes of;
      apart = apart_more notes note before.apart none;
    })
