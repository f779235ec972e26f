-- Where an event of a history stands among the inputs behind it, and the other way round.
use Rattle.std.proofs.Common.{◌≡◌, ◌⊎◌, ℕ, List, [], ◌∷◌, ◌++◌, map, refl, sym, subst, ap, ◌∙◌, inl, inr}
use Rattle.std.proofs.lemmas.List.{append_assoc}
use Rattle.mc_model.specs.cluster.Steps.{Cluster}
use Rattle.mc_model.specs.node.Input.{Delivery, Input, Restart}
use Rattle.mc_model.specs.synod.Lists.{In}
use Rattle.mc_model.specs.synod.Packet.{Packet}
use Rattle.mc_parts.proofs.Membership.{in_right, never_empty}
use Rattle.node_laws.specs.Clusters.{LivesOn, NodeInput, comes_to}
use Rattle.rest_laws.specs.Behind.{StandFor, come_again}
use Rattle.rest_laws.specs.Histories.{LivesThrough}
use Rattle.rest_laws.specs.Remains.{Cools, Drops, Event, IsHistory, MayBe, Starts, Takes, remains_after}

-- neither a packet nor a start anew: it comes by an event of its own
abbrev pub IsOther : Input → Type 0
IsOther (Delivery packet) = ⊥
IsOther (Restart lost) = ⊥
IsOther input = Unit {0}

no_packet : (n node : ℕ) (packet : Packet) (input : Input) → IsOther input → comes_to n (Delivery packet) ≡ comes_to node input → ⊥
no_packet n node packet input other same = subst IsOther (sym (ap (λ (x : NodeInput). x.input) same)) other

no_start : (n node lost : ℕ) (input : Input) → IsOther input → comes_to n (Restart lost) ≡ comes_to node input → ⊥
no_start n node lost input other same = subst IsOther (sym (ap (λ (x : NodeInput). x.input) same)) other

-- ---- behind the packets that come again

pub record IsPast (node : ℕ) (packets : List Packet) (inputs newer : List NodeInput) (x : NodeInput) (rest : List NodeInput) : Type 0 where
  pub fewer : List NodeInput
  pub newer_is : newer ≡ come_again node packets fewer
  pub split : inputs ≡ fewer ++ x ∷ rest

past : (n node : ℕ) (input : Input) → IsOther input → (packets : List Packet) (inputs newer rest : List NodeInput) →
    come_again n packets inputs ≡ newer ++ comes_to node input ∷ rest → IsPast n packets inputs newer (comes_to node input) rest
past n node input other [] inputs newer rest is = record { fewer = newer; newer_is = refl; split = is }
past n node input other (packet ∷ packets) inputs [] rest is =
    absurd (let same : comes_to n (Delivery packet) ≡ comes_to node input = cc in no_packet n node packet input other same)
past n node input other (packet ∷ packets) inputs (x ∷ newer) rest is =
    let head : comes_to n (Delivery packet) ≡ x = cc in
    let tail : come_again n packets inputs ≡ newer ++ comes_to node input ∷ rest = cc in
    let it = past n node input other packets inputs newer rest tail in
    record { fewer = it.fewer; newer_is = λ i. sym head i ∷ it.newer_is i; split = it.split }

-- a start anew among them is one of the others
pub not_again : (n node lost : ℕ) (packets : List Packet) (inputs : List NodeInput) → In (comes_to node (Restart lost)) (come_again n packets inputs) →
    In (comes_to node (Restart lost)) inputs
not_again n node lost [] inputs among = among
not_again n node lost (packet ∷ packets) inputs (inl same) =
    absurd (no (ap (λ (x : NodeInput). x.input) same))
  where
    no : Restart lost ≡ Delivery packet → ⊥
    no is = absurd (cc)
not_again n node lost (packet ∷ packets) inputs (inr later) = not_again n node lost packets inputs later

again_still : (n : ℕ) (packets : List Packet) (inputs : List NodeInput) (x : NodeInput) → In x inputs → In x (come_again n packets inputs)
again_still n packets inputs x among = in_right x (map (λ packet. comes_to n (Delivery packet)) packets) inputs among

-- ---- from an input to its event

pub record IsFound (cluster : Cluster) (events : List Event) (newer rest : List NodeInput) (node : ℕ) (input : Input) : Type 0 where
  pub before : List Event
  pub older : List Event
  pub split : events ≡ before ++ Takes node input ∷ older
  pub stand : StandFor cluster rest older
  pub starts : (n lost : ℕ) → In (Starts n lost) before → In (comes_to n (Restart lost)) newer

one_more : (cluster : Cluster) (events : List Event) (newer more rest : List NodeInput) (node : ℕ) (input : Input) (event : Event) →
    ((n lost : ℕ) → Starts n lost ≡ event → In (comes_to n (Restart lost)) more) → ((x : NodeInput) → In x newer → In x more) →
    IsFound cluster events newer rest node input → IsFound cluster (event ∷ events) more rest node input
one_more cluster events newer more rest node input event first others it = record {
  before = event ∷ it.before;
  older = it.older;
  split = ap (λ (l : List Event). event ∷ l) it.split;
  stand = it.stand;
  starts = λ n lost among. elim among [
    | inl same ↦ first n lost same
    | inr later ↦ others (comes_to n (Restart lost)) (it.starts n lost later)
  ];
}

pub found : (cluster : Cluster) (events : List Event) (inputs : List NodeInput) → StandFor cluster inputs events → (newer rest : List NodeInput)
    (node : ℕ) (input : Input) → IsOther input → inputs ≡ newer ++ comes_to node input ∷ rest → IsFound cluster events newer rest node input
found cluster [] inputs are newer rest node input other is = absurd (never_empty newer rest (comes_to node input) (sym are ∙ is))
found cluster (Takes n own ∷ older) inputs are newer rest node input other is = by newer (sym are.1 ∙ is) (found cluster older are.0 are.3)
  where
    none : (m lost : ℕ) → Starts m lost ≡ Takes n own → ⊥
    none m lost same = absurd (cc)

    by : (newer : List NodeInput) → comes_to n own ∷ are.0 ≡ newer ++ comes_to node input ∷ rest →
        ((newer rest : List NodeInput) (node : ℕ) (input : Input) → IsOther input → are.0 ≡ newer ++ comes_to node input ∷ rest →
        IsFound cluster older newer rest node input) →
        IsFound cluster (Takes n own ∷ older) newer rest node input
    by [] here later =
        let head : comes_to n own ≡ comes_to node input = cc in
        let tail : are.0 ≡ rest = cc in
        record {
          before = [];
          older = older;
          split = λ i. Takes (head i).node (head i).input ∷ older;
          stand = subst (λ (l : List NodeInput). StandFor cluster l older) tail are.3;
          starts = λ m lost among. absurd among;
        }
    by (x ∷ fewer) here later =
        let tail : are.0 ≡ fewer ++ comes_to node input ∷ rest = cc in
        one_more cluster older fewer (x ∷ fewer) rest node input (Takes n own) (λ m lost same. absurd (none m lost same)) (λ y among. inr among)
        (later fewer rest node input other tail)
found cluster (Drops n id ∷ older) inputs are newer rest node input other is =
    one_more cluster older newer newer rest node input (Drops n id) (λ m lost same. absurd (none m lost same)) (λ y among. among)
    (found cluster older inputs are newer rest node input other is)
  where
    none : (m lost : ℕ) → Starts m lost ≡ Drops n id → ⊥
    none m lost same = absurd (cc)
found cluster (Cools n id ∷ older) inputs are newer rest node input other is =
    one_more cluster older newer newer rest node input (Cools n id) (λ m lost same. absurd (none m lost same)) (λ y among. among)
    (found cluster older inputs are newer rest node input other is)
  where
    none : (m lost : ℕ) → Starts m lost ≡ Cools n id → ⊥
    none m lost same = absurd (cc)
found cluster (Starts n lost ∷ older) inputs are newer rest node input other is =
    let it = past n node input other are.1 (comes_to n (Restart lost) ∷ are.0) newer rest (sym are.2 ∙ is) in
    subst (λ (l : List NodeInput). IsFound cluster (Starts n lost ∷ older) l rest node input) (sym it.newer_is)
    (by it.fewer it.split (found cluster older are.0 are.4))
  where
    by : (fewer : List NodeInput) → comes_to n (Restart lost) ∷ are.0 ≡ fewer ++ comes_to node input ∷ rest →
        ((newer rest : List NodeInput) (node : ℕ) (input : Input) → IsOther input → are.0 ≡ newer ++ comes_to node input ∷ rest →
        IsFound cluster older newer rest node input) →
        IsFound cluster (Starts n lost ∷ older) (come_again n are.1 fewer) rest node input
    by [] here later = absurd (let same : comes_to n (Restart lost) ≡ comes_to node input = cc in no_start n node lost input other same)
    by (x ∷ fewer) here later =
        let head : comes_to n (Restart lost) ≡ x = cc in
        let tail : are.0 ≡ fewer ++ comes_to node input ∷ rest = cc in
        one_more cluster older fewer (come_again n are.1 (x ∷ fewer)) rest node input (Starts n lost)
        (λ m other_lost same. again_still n are.1 (x ∷ fewer) (comes_to m (Restart other_lost)) (inl (begun m other_lost same ∙ head)))
        (λ y among. again_still n are.1 (x ∷ fewer) y (inr among))
        (later fewer rest node input other tail)
      where
        begun : (m other_lost : ℕ) → Starts m other_lost ≡ Starts n lost → comes_to m (Restart other_lost) ≡ comes_to n (Restart lost)
        begun m other_lost same = let nodes : m ≡ n = cc in let losts : other_lost ≡ lost = cc in λ i. comes_to (nodes i) (Restart (losts i))

-- ---- from an event to its input

pub record IsCut (cluster : Cluster) (inputs : List NodeInput) (newer older : List Event) : Type 0 where
  pub front : List NodeInput
  pub back : List NodeInput
  pub split : inputs ≡ front ++ back
  pub stand : StandFor cluster back older
  pub starts : (node lost : ℕ) → In (comes_to node (Restart lost)) front →
      In (Starts node lost) newer ⊎ In (Takes node (Restart lost)) newer

pub cut : (cluster : Cluster) (newer older : List Event) (inputs : List NodeInput) → StandFor cluster inputs (newer ++ older) → IsCut cluster inputs newer older
cut cluster [] older inputs are = record { front = []; back = inputs; split = refl; stand = are; starts = λ node lost among. absurd among }
cut cluster (Takes n input ∷ newer) older inputs are =
    let it = cut cluster newer older are.0 are.3 in
    record {
      front = comes_to n input ∷ it.front;
      back = it.back;
      split = are.1 ∙ ap (λ (l : List NodeInput). comes_to n input ∷ l) it.split;
      stand = it.stand;
      starts = λ node lost among. elim among [
        | inl same ↦ inr (inl (taken node lost same))
        | inr later ↦ elim (it.starts node lost later) [ inl one ↦ inl (inr one) | inr other ↦ inr (inr other) ]
      ];
    }
  where
    taken : (node lost : ℕ) → comes_to node (Restart lost) ≡ comes_to n input → Takes node (Restart lost) ≡ Takes n input
    taken node lost same = λ i. Takes (same i).node (same i).input
cut cluster (Drops n id ∷ newer) older inputs are =
    let it = cut cluster newer older inputs are in
    record {
      front = it.front;
      back = it.back;
      split = it.split;
      stand = it.stand;
      starts = λ node lost among. elim (it.starts node lost among) [ inl one ↦ inl (inr one) | inr other ↦ inr (inr other) ];
    }
cut cluster (Cools n id ∷ newer) older inputs are =
    let it = cut cluster newer older inputs are in
    record {
      front = it.front;
      back = it.back;
      split = it.split;
      stand = it.stand;
      starts = λ node lost among. elim (it.starts node lost among) [ inl one ↦ inl (inr one) | inr other ↦ inr (inr other) ];
    }
cut cluster (Starts n lost ∷ newer) older inputs are =
    let it = cut cluster newer older are.0 are.4 in
    record {
      front = come_again n are.1 (comes_to n (Restart lost) ∷ it.front);
      back = it.back;
      split = are.2 ∙ (ap (λ (l : List NodeInput). come_again n are.1 (comes_to n (Restart lost) ∷ l)) it.split
          ∙ sym (append_assoc (map (λ packet. comes_to n (Delivery packet)) are.1) (comes_to n (Restart lost) ∷ it.front) it.back));
      stand = it.stand;
      starts = λ node other_lost among. elim (not_again n node other_lost are.1 (comes_to n (Restart lost) ∷ it.front) among) [
        | inl same ↦ inl (inl (begun node other_lost same))
        | inr later ↦ elim (it.starts node other_lost later) [ inl one ↦ inl (inr one) | inr other ↦ inr (inr other) ]
      ];
    }
  where
    losts : Input → ℕ
    losts (Restart l) = l
    losts input = 0

    begun : (node other_lost : ℕ) → comes_to node (Restart other_lost) ≡ comes_to n (Restart lost) → Starts node other_lost ≡ Starts n lost
    begun node other_lost same = λ i. Starts (same i).node (losts (same i).input)

-- in a history no step is of a start anew
pub no_step_starts : (cluster : Cluster) (newer older : List Event) → IsHistory cluster (newer ++ older) → (node lost : ℕ) →
    In (Takes node (Restart lost)) newer → ⊥
no_step_starts cluster [] older may node lost among = among
no_step_starts cluster (event ∷ newer) older may node lost (inl same) = by event same may.0
  where
    by : (e : Event) → Takes node (Restart lost) ≡ e → MayBe cluster (remains_after cluster (newer ++ older)) e → ⊥
    by e is fits = (subst (MayBe cluster (remains_after cluster (newer ++ older))) (sym is) fits).4
no_step_starts cluster (event ∷ newer) older may node lost (inr later) = no_step_starts cluster newer older may.1 node lost later

pub lives_on : (cluster : Cluster) (newer older : List Event) (inputs : List NodeInput) → IsHistory cluster (newer ++ older) →
    (it : IsCut cluster inputs newer older) → (node : ℕ) → LivesThrough node newer → LivesOn node it.front
lives_on cluster newer older inputs may it node lives lost among = elim (it.starts node lost among) [
  | inl starts ↦ lives lost starts
  | inr takes ↦ no_step_starts cluster newer older may node lost takes
]
