-- What a node knows after one more packet.
use Rattle.std.proofs.Common.{◌≡◌, ℕ, pred, ◌<◌, ◌≤◌, List, [], ◌∷◌, ◌++◌, length, Option, Some, None, sym, ap, subst, inl, inr, arith}
use Rattle.mc_model.specs.message.Decree.{Decree}
use Rattle.mc_model.specs.synod.Lists.{In}
use Rattle.mc_model.specs.synod.OneSlot.{Vote, vote_at}
use Rattle.mc_model.specs.synod.Packet.{Packet, Slot, Voted, slot_at, slot_of}
use Rattle.mc_model.specs.node.Knowledge.{IsKnown, IsLearned, Knows}
use Rattle.mc_parts.proofs.Majorities.{both}
use Rattle.mc_parts.proofs.Known.{ToldNow, learned_before}

-- ---- a majority stays one

pub learned_still : (nodes : ℕ) (packet : Packet) (received : List Packet) (slot : Slot) (vote : Vote) →
    IsLearned nodes received slot vote →
    IsLearned nodes (packet ∷ received) slot vote
learned_still nodes packet received slot vote learned = record {
  test = learned.test;
  most = learned.most;
  each = λ node least most passes. inr (learned.each node least most passes);
}

pub none_learned : (nodes : ℕ) (slot : Slot) (vote : Vote) → IsLearned nodes [] slot vote → ⊥
none_learned nodes slot vote learned = (both nodes _ _ learned learned).one

-- a packet that came before makes no new one
pub learned_again : (nodes : ℕ) (packet : Packet) (received : List Packet) (slot : Slot) (vote : Vote) → In packet received →
    IsLearned nodes (packet ∷ received) slot vote →
    IsLearned nodes received slot vote
learned_again nodes packet received slot vote before learned = record {
  test = learned.test;
  most = learned.most;
  each = λ node least most passes. elim (learned.each node least most passes) [
    | inl same ↦ subst (λ (p : Packet). In p received) (sym same) before
    | inr earlier ↦ earlier
  ];
}

-- ---- the first that was learned in a slot

abbrev IsFirst : ℕ → List Packet → Slot → List Decree → Type 0
IsFirst nodes received slot chain =
    (newer older : List Packet) (vote : Vote) → received ≡ newer ++ older → IsLearned nodes older slot vote →
    (earlier : ℕ) × IsLearned nodes older slot (vote_at earlier chain)

still_first : (nodes ballot : ℕ) (packet : Packet) (received : List Packet) (slot : Slot) (chain : List Decree) →
    IsLearned nodes (packet ∷ received) slot (vote_at ballot chain) → IsFirst nodes received slot chain →
    IsFirst nodes (packet ∷ received) slot chain
still_first nodes ballot packet received slot chain learned first [] older vote split before =
    (ballot, subst (λ (ps : List Packet). IsLearned nodes ps slot (vote_at ballot chain)) split learned)
still_first nodes ballot packet received slot chain learned first (newest ∷ newer) older vote split before =
    let behind : received ≡ newer ++ older = cc in first newer older vote behind before

-- nothing was learned in the slot before
now_first : (nodes ballot : ℕ) (packet : Packet) (received : List Packet) (slot : Slot) (chain : List Decree) →
    IsLearned nodes (packet ∷ received) slot (vote_at ballot chain) → ((vote : Vote) → IsLearned nodes received slot vote → ⊥) →
    IsFirst nodes (packet ∷ received) slot chain
now_first nodes ballot packet received slot chain learned none [] older vote split before =
    (ballot, subst (λ (ps : List Packet). IsLearned nodes ps slot (vote_at ballot chain)) split learned)
now_first nodes ballot packet received slot chain learned none (newest ∷ newer) older vote split before =
    let behind : received ≡ newer ++ older = cc in absurd (none vote (subst (λ (ps : List Packet). IsLearned nodes ps slot vote) (sym behind) (more newer)))
  where
    more : (newer : List Packet) → IsLearned nodes (newer ++ older) slot vote
    more [] = before
    more (p ∷ newer) = learned_still nodes p (newer ++ older) slot vote (more newer)

-- ---- what is known stays, if nothing longer is learned

-- the known chain reaches a place
abbrev pub IsReached : Option (List Decree) → ℕ → Type 0
IsReached None place = ⊥
IsReached (Some chain) place = place ≤ pred (length chain)

pub known_reaches : (nodes : ℕ) (received : List Packet) (slot : Slot) (vote : Vote) (known : Option (List Decree)) →
    IsKnown nodes received slot.id known → IsLearned nodes received slot vote →
    IsReached known slot.place
known_reaches nodes received slot vote None is learned = is slot.place vote learned
known_reaches nodes received slot vote (Some chain) is learned = is.longest slot.place vote learned

pub known_stays : (nodes : ℕ) (packet : Packet) (received : List Packet) (id : ℕ) (known : Option (List Decree)) →
    IsKnown nodes received id known →
    ((place : ℕ) (vote : Vote) → ToldNow packet (slot_at id place) vote → IsLearned nodes (packet ∷ received) (slot_at id place) vote → IsReached known place) →
    IsKnown nodes (packet ∷ received) id known
known_stays nodes packet received id None is reached = λ place vote learned. elim (learned_before nodes packet received (slot_at id place) vote learned) [
  | inl now ↦ reached place vote now learned
  | inr before ↦ is place vote before
]
known_stays nodes packet received id (Some chain) is reached =
    let learned = learned_still nodes packet received (slot_of id chain) (vote_at is.ballot chain) is.learned in
    record {
      ballot = is.ballot;
      learned = learned;
      longest = λ place vote also. elim (learned_before nodes packet received (slot_at id place) vote also) [
        | inl now ↦ reached place vote now also
        | inr before ↦ is.longest place vote before
      ];
      first = still_first nodes is.ballot packet received (slot_of id chain) chain learned is.first;
    }

-- ---- what is longer is known from then on

-- the known chain is shorter, or there is none
abbrev pub IsShorter : Option (List Decree) → List Decree → Type 0
IsShorter None chain = Unit {0}
IsShorter (Some old) chain = pred (length old) < pred (length chain)

beyond : (nodes : ℕ) (received : List Packet) (id place : ℕ) (vote : Vote) (known : Option (List Decree)) (chain : List Decree) →
    IsKnown nodes received id known → IsShorter known chain → IsLearned nodes received (slot_at id place) vote →
    place < pred (length chain)
beyond nodes received id place vote None chain is shorter learned = absurd (is place vote learned)
beyond nodes received id place vote (Some old) chain is shorter learned = omega (arith, is.longest place vote learned, shorter)

pub longer_is_known : (nodes voter ballot : ℕ) (received : List Packet) (id : ℕ) (known : Option (List Decree)) (chain : List Decree) →
    IsKnown nodes received id known → IsShorter known chain →
    IsLearned nodes (Voted voter (slot_of id chain) (vote_at ballot chain) ∷ received) (slot_of id chain) (vote_at ballot chain) →
    Knows nodes (Voted voter (slot_of id chain) (vote_at ballot chain) ∷ received) id chain
longer_is_known nodes voter ballot received id known chain is shorter learned =
    let packet = Voted voter (slot_of id chain) (vote_at ballot chain) in
    record {
      ballot = ballot;
      learned = learned;
      longest = λ place vote also. elim (learned_before nodes packet received (slot_at id place) vote also) [
        | inl now ↦
            let same : Voted now.acceptor (slot_at id place) vote ≡ Voted voter (slot_of id chain) (vote_at ballot chain) = now.same in
            let slots : slot_at id place ≡ slot_of id chain = cc in
            let places : place ≡ pred (length chain) = ap (λ (s : Slot). s.place) slots in
            omega arith
        | inr before ↦ omega (arith, beyond nodes received id place vote known chain is shorter before)
      ];
      first = now_first nodes ballot packet received (slot_of id chain) chain learned
          (λ vote before. omega (arith, beyond nodes received id (pred (length chain)) vote known chain is shorter before));
    }
