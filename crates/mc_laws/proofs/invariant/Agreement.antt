-- Of two chosen chains of a message one begins with the other.
use Rattle.std.proofs.Common.{◌≡◌, ◌⊎◌, ℕ, pred, ◌≤◌, List, [], ◌∷◌, ◌++◌, length, sym, ap, subst, inl, inr, arith}
use Rattle.std.proofs.lemmas.Bool.{cases_lt}
use Rattle.mc_model.specs.message.Decree.{Decree}
use Rattle.mc_model.specs.message.Chain.{GoesOn}
use Rattle.mc_model.specs.synod.Lists.{In}
use Rattle.mc_model.specs.synod.OneSlot.{Vote, vote_at}
use Rattle.mc_model.specs.synod.Packet.{Packet, Slot, slot_of, Voted}
use Rattle.mc_model.specs.node.Knowledge.{IsLearned, Knows}
use Rattle.mc_model.specs.cluster.World.{World, cast, IsChosenIn}
use Rattle.mc_model.specs.cluster.Fate.{IsToldChosen}
use Rattle.mc_parts.proofs.Majorities.{both}
use Rattle.mc_parts.proofs.Stable.{stable}
use Rattle.mc_laws.proofs.invariant.Keeping.{Keeps, WasProposed, sound}
use Rattle.mc_laws.proofs.invariant.Links.{Links, Standing, chosen_standing}

-- what is chosen at some ballot
abbrev pub Chosen : World → ℕ → List Decree → Type 0
Chosen w id chain = IsToldChosen w id chain

pub standing : (w : World) → Keeps w → Links w → (id : ℕ) (chain : List Decree) → Chosen w id chain → Standing w (slot_of id chain) chain
standing w keeps links id chain c = chosen_standing w keeps links (slot_of id chain) (vote_at c.ballot chain) c.chosen

-- what is learned from some packets is learned from more
pub learned_more : (nodes : ℕ) (fewer more : List Packet) (slot : Slot) (vote : Vote) → ((packet : Packet) → In packet fewer → In packet more) →
    IsLearned nodes fewer slot vote → IsLearned nodes more slot vote
learned_more nodes fewer more slot vote still learned =
    record { test = learned.test; most = learned.most; each = λ node least most passes. still (Voted node slot vote) (learned.each node least most passes) }

-- what a node learned is chosen
pub learned_chosen : (w : World) → Keeps w → (node : ℕ) (slot : Slot) (vote : Vote) → IsLearned w.nodes (w.actors node).received slot vote →
    IsChosenIn w slot vote
learned_chosen w keeps node slot vote learned = record {
  test = learned.test;
  most = learned.most;
  each = λ acceptor least most passes. keeps.fits (Voted acceptor slot vote) (keeps.received node _ (learned.each acceptor least most passes));
}

pub known_chosen : (w : World) → Keeps w → (node id : ℕ) (chain : List Decree) → Knows w.nodes (w.actors node).received id chain → Chosen w id chain
known_chosen w keeps node id chain known = record {
  ballot = known.ballot;
  chosen = learned_chosen w keeps node (slot_of id chain) (vote_at known.ballot chain) known.learned;
}

proposed : (w : World) → Keeps w → (slot : Slot) (vote : Vote) → IsChosenIn w slot vote → WasProposed w slot vote
proposed w keeps slot vote chosen = let voter = both w.nodes _ _ chosen chosen in keeps.proposed (cast voter.node slot vote) voter.one

-- two chains that are chosen in one slot are the same
pub chosen_same : (w : World) → Keeps w → (slot : Slot) (one other : Vote) → IsChosenIn w slot one → IsChosenIn w slot other → one.chain ≡ other.chain
chosen_same w keeps slot one other is_one is_other = elim (cases_lt one.ballot other.ballot) [
  | inl below ↦ sym (stable w.nodes _ _ _ (sound w keeps slot) one is_one other (proposed w keeps slot other is_other) (omega (arith, below)))
  | inr above ↦ stable w.nodes _ _ _ (sound w keeps slot) other is_other one (proposed w keeps slot one is_one) above
]

-- and so are chains of one length
same_length : (w : World) → Keeps w → (id : ℕ) (one other : List Decree) → Chosen w id one → Chosen w id other → length one ≡ length other → other ≡ one
same_length w keeps id one other is_one is_other same =
    let slots : slot_of id one ≡ slot_of id other = ap (λ (n : ℕ). record { id = id; place = pred n }) same in
    chosen_same w keeps (slot_of id other) (vote_at is_other.ballot other) (vote_at is_one.ballot one) is_other.chosen
    (subst (λ (s : Slot). IsChosenIn w s (vote_at is_one.ballot one)) slots is_one.chosen)

-- a chosen chain is behind what is chosen one place before
pub behind : (w : World) → Keeps w → Links w → (id : ℕ) (next newest : Decree) (older : List Decree) → Chosen w id (next ∷ newest ∷ older) →
    Chosen w id (newest ∷ older)
behind w keeps links id next newest older chosen =
    let s = standing w keeps links id (next ∷ newest ∷ older) chosen in
    record { ballot = s.fits.ballot; chosen = s.fits.chosen }

pub not_empty : (w : World) → Keeps w → Links w → (id : ℕ) (chain : List Decree) → Chosen w id chain → 1 ≤ length chain
not_empty w keeps links id [] chosen = absurd (standing w keeps links id [] chosen).orderly
not_empty w keeps links id (newest ∷ older) chosen = omega arith

pub begins : (w : World) → Keeps w → Links w → (id : ℕ) (first chain : List Decree) → Chosen w id first → Chosen w id chain →
    length first ≤ length chain →
    GoesOn chain first
begins w keeps links id first [] is_first is_chain long = absurd (let some = not_empty w keeps links id [] is_chain in omega (arith, some))
begins w keeps links id first (next ∷ []) is_first is_chain long =
    let some = not_empty w keeps links id first is_first in
    record { more = []; chain_is = same_length w keeps id first (next ∷ []) is_first is_chain (omega (arith, some, long)) }
begins w keeps links id first (next ∷ newest ∷ older) is_first is_chain long = elim (cases_lt (length first) (length (next ∷ newest ∷ older))) [
  | inl shorter ↦
      let b = begins w keeps links id first (newest ∷ older) is_first (behind w keeps links id next newest older is_chain) (omega (arith, shorter)) in
      record { more = next ∷ b.more; chain_is = ap (λ (c : List Decree). next ∷ c) b.chain_is }
  | inr same ↦ record { more = []; chain_is = same_length w keeps id first (next ∷ newest ∷ older) is_first is_chain (omega (arith, same, long)) }
]

-- the chain that has one decree more, of a longer one that is chosen
pub record Extended (w : World) (id : ℕ) (chain : List Decree) : Type 0 where
  pub next : Decree
  pub chosen : Chosen w id (next ∷ chain)

pub extended : (w : World) → Keeps w → Links w → (id : ℕ) (last : Decree) (more chain : List Decree) →
    Chosen w id (last ∷ (more ++ chain)) →
    Extended w id chain
extended w keeps links id last [] chain chosen = record { next = last; chosen = chosen }
extended w keeps links id last (next ∷ more) chain chosen = extended w keeps links id next more chain (behind w keeps links id last next (more ++ chain) chosen)

-- whatever the ballots, and whatever the places
pub agree : (w : World) → Keeps w → Links w → (one other : Slot) (first second : Vote) → one.id ≡ other.id → IsChosenIn w one first →
    IsChosenIn w other second →
    GoesOn first.chain second.chain ⊎ GoesOn second.chain first.chain
agree w keeps links one other first second same is_one is_other =
    let s = chosen_standing w keeps links one first is_one in
    let t = chosen_standing w keeps links other second is_other in
    let a : Chosen w one.id first.chain = record { ballot = first.ballot; chosen = subst (λ (x : Slot). IsChosenIn w x first) s.place is_one } in
    let b : Chosen w one.id second.chain = record {
      ballot = second.ballot;
      chosen = subst
          (λ (i : ℕ). IsChosenIn w (slot_of i second.chain) second) (sym same) (subst (λ (x : Slot). IsChosenIn w x second) t.place is_other);
    } in
    elim (cases_lt (length first.chain) (length second.chain)) [
      | inl shorter ↦ inr (begins w keeps links one.id first.chain second.chain a b (omega (arith, shorter)))
      | inr longer ↦ inl (begins w keeps links one.id second.chain first.chain b a longer)
    ]
