-- In a cluster nothing goes on from a chain that is over.
use Rattle.std.proofs.Common.{◌≡◌, ℕ, pred, ◌<◌, ◌≤◌, Bool, true, false, List, [], ◌∷◌, ◌++◌, length, Option, Some, None, sym, ap, subst, inl, inr, arith}
use Rattle.std.specs.Prelude.{if◌then◌else◌}
use Rattle.std.proofs.lemmas.Bool.{cases_lt, not-true}
use Rattle.std.proofs.lemmas.Bool.Decides.{nat_tests}
use Rattle.mc_model.specs.message.Chain.{MayExtend, taken_in}
use Rattle.mc_model.specs.message.Decree.{Attempt, Author, Decree, Failed, Fate, Kind, Taken, Told}
use Rattle.mc_model.specs.message.Neighbours.{MayFollow}
use Rattle.mc_model.specs.message.Submission.{Submission}
use Rattle.mc_model.specs.node.Knowledge.{IsKnown, Knows}
use Rattle.mc_model.specs.synod.Lists.{In}
use Rattle.mc_model.specs.synod.OneSlot.{Vote}
use Rattle.mc_model.specs.synod.Packet.{Name, Packet, Propose, Slot, Tell, TopVote, Voted, slot_at}
use Rattle.mc_model.specs.node.Actor.{Actor}
use Rattle.mc_model.specs.cluster.Steps.{Cluster, acts_in}
use Rattle.mc_model.specs.cluster.World.{World, cast, start}
use Rattle.mc_laws.proofs.invariant.Agreement.{Chosen, begins, extended, known_chosen, not_empty, standing}
use Rattle.mc_laws.proofs.invariant.Growth.{nodes_same}
use Rattle.mc_laws.proofs.invariant.Keeping.{Keeps, WasProposed}
use Rattle.mc_laws.proofs.invariant.Links.{ChainFits, Links}
use Rattle.mc_laws.proofs.invariant.Orderly.{IsOrderly}
use Rattle.node_model.specs.Answers.{is_asked}
use Rattle.node_model.specs.Kept.{message_at}
use Rattle.node_model.specs.Learner.{is_shorter}
use Rattle.node_model.specs.Starts.{follow, is_ahead}
use Rattle.node_model.proofs.Receipts.{asked_decides}
use Rattle.node_laws.specs.Clusters.{MayHappen, NodeInput, kept_reached}
use Rattle.rest_laws.specs.AtRest.{is_last, is_over}
use Rattle.rest_laws.proofs.runs.Worlds.{actor_is, node_at, node_stands, together, world, world_holds}

-- ---- nothing may follow its newest decree

none_follows : (message : Submission) (home attempts : ℕ) (old : Author) (before : ℕ) (kind : Kind) (author : Author) (moment : ℕ) (next : Kind) →
    is_last (Some message) kind ≡ true → MayFollow message home attempts old before kind author moment next → ⊥
none_follows message home attempts old before (Taken taken) author moment next last may = absurd (cc)
none_follows message home attempts old before (Attempt number) author moment next last may = absurd (cc)
none_follows message home attempts old before (Failed error) author moment next last may = absurd (cc)
none_follows message home attempts old before (Fate final error) author moment Told last may =
    let unasked = not-true (is_asked final message) last in
    let asked = (asked_decides final message).1 may.asked in
    absurd (cc)
none_follows message home attempts old before (Fate final error) author moment (Taken other) last may = may
none_follows message home attempts old before (Fate final error) author moment (Attempt other) last may = may
none_follows message home attempts old before (Fate final error) author moment (Failed other) last may = may
none_follows message home attempts old before (Fate final error) author moment (Fate other cause) last may = may
none_follows message home attempts old before Told author moment (Taken other) last may = may
none_follows message home attempts old before Told author moment (Attempt other) last may = may
none_follows message home attempts old before Told author moment (Failed other) last may = may
none_follows message home attempts old before Told author moment (Fate other cause) last may = may
none_follows message home attempts old before Told author moment Told last may = may

none_extends : (taken : Option Submission) (newest : Decree) (older : List Decree) (next : Decree) → is_last taken newest.kind ≡ true →
    MayExtend taken (newest ∷ older) next → ⊥
none_extends None newest older next last may = may
none_extends (Some message) newest older next last may =
    none_follows message _ _ newest.author newest.moment newest.kind next.author next.moment next.kind last may.1

-- no orderly chain has one decree more
last_is_last : (next : Decree) (chain : List Decree) → is_over chain ≡ true → IsOrderly (next ∷ chain) → ⊥
last_is_last next [] over orderly = absurd (cc)
last_is_last next (newest ∷ older) over orderly = none_extends (taken_in (newest ∷ older)) newest older next over orderly.1

-- ---- so no chain that is proposed is longer

module _ (w : World) (keeps : Keeps w) (links : Links w) (id : ℕ) (known : List Decree) (over : is_over known ≡ true) (chosen : Chosen w id known) where
  none_longer : (longer : List Decree) → Chosen w id longer → length known ≤ length longer → (next : Decree) → IsOrderly (next ∷ longer) → ⊥
  none_longer longer also long next orderly =
      let on = begins w keeps links id known longer chosen also long in by on.more on.chain_is
    where
      by : (more : List Decree) → longer ≡ more ++ known → ⊥
      by [] same = last_is_last next known over (subst (λ (c : List Decree). IsOrderly (next ∷ c)) same orderly)
      by (last ∷ more) same =
          let one = extended w keeps links id last more known (subst (Chosen w id) same also) in
          last_is_last one.next known over (standing w keeps links id (one.next ∷ known) one.chosen).orderly

  pub longest : (slot : Slot) (vote : Vote) → WasProposed w slot vote → slot.id ≡ id → length vote.chain ≤ length known
  longest slot vote proposed same =
      let stands = links.standing slot vote proposed in by vote.chain stands.orderly stands.fits
    where
      by : (chain : List Decree) → IsOrderly chain → ChainFits w slot.id chain → length chain ≤ length known
      by [] orderly fits = omega arith
      by (only ∷ []) orderly fits = let some = not_empty w keeps links id known chosen in omega (arith, some)
      by (next ∷ newest ∷ older) orderly fits = elim (cases_lt (length known) (length (next ∷ newest ∷ older))) [
        | inl below ↦
            let also : Chosen w id (newest ∷ older) =
            subst (λ (i : ℕ). Chosen w i (newest ∷ older)) same (record { ballot = fits.ballot; chosen = fits.chosen }) in
            absurd (none_longer (newest ∷ older) also (omega (arith, below)) next orderly)
        | inr within ↦ within
      ]

  -- its place is not beyond either
  pub within : (slot : Slot) (vote : Vote) → WasProposed w slot vote → slot.id ≡ id → is_ahead (Some known) slot.place ≡ false
  within slot vote proposed same =
      let long = longest slot vote proposed same in
      let place : slot.place ≡ pred (length vote.chain) = ap (λ (s : Slot). s.place) (links.standing slot vote proposed).place in
      let below : (pred (length known) < slot.place) → ⊥ = λ ahead. omega (arith, ahead, place, long) in
      grind (arith, nat_tests, below)

  pub not_shorter : (slot : Slot) (vote : Vote) → WasProposed w slot vote → slot.id ≡ id → is_shorter (Some known) vote.chain ≡ false
  not_shorter slot vote proposed same =
      let long = longest slot vote proposed same in
      let below : (pred (length known) < pred (length vote.chain)) → ⊥ = λ ahead. omega (arith, ahead, long) in
      grind (arith, nat_tests, below)

-- ---- in a cluster

module _ (cluster : Cluster) (inputs : List NodeInput) (may : MayHappen cluster inputs) (node id : ℕ) (chain : List Decree)
    (known : (message_at ((kept_reached cluster inputs).kept node) id).known ≡ Some chain) (over : is_over chain ≡ true) where
  abbrev w : World
  w = world cluster inputs may

  keeps : Keeps w
  keeps = (world_holds cluster inputs may).keeps

  links : Links w
  links = (world_holds cluster inputs may).links

  pub knows : Knows cluster.nodes (node_at cluster inputs may node).actor.received id chain
  knows = subst (IsKnown cluster.nodes (node_at cluster inputs may node).actor.received id) known
      ((node_stands cluster inputs may node).agrees.message id).heard.known

  chosen : Chosen w id chain
  chosen = known_chosen w keeps node id chain
      (subst (λ (a : Actor). Knows w.nodes a.received id chain) (sym (actor_is cluster inputs may node))
      (subst (λ (n : ℕ). Knows n (node_at cluster inputs may node).actor.received id chain)
      (sym (nodes_same (start cluster.nodes cluster.serials) (acts_in (together cluster inputs may).steps))) knows))

  in_world : (packet : Packet) → In packet (kept_reached cluster inputs).packets → In packet w.packets
  in_world packet sent = subst (In packet) (together cluster inputs may).packets sent

  voted : (voter : ℕ) (slot : Slot) (vote : Vote) → In (Voted voter slot vote) (kept_reached cluster inputs).packets → WasProposed w slot vote
  voted voter slot vote sent = keeps.proposed (cast voter slot vote) (keeps.fits (Voted voter slot vote) (in_world (Voted voter slot vote) sent))

  -- no vote is for a longer chain of the message, nothing is proposed beyond its place, and nothing is told beyond it
  pub vote_within : (voter : ℕ) (slot : Slot) (vote : Vote) → In (Voted voter slot vote) (kept_reached cluster inputs).packets → slot.id ≡ id →
      is_shorter (Some chain) vote.chain ≡ false
  vote_within voter slot vote sent = not_shorter w keeps links id chain over chosen slot vote (voted voter slot vote sent)

  pub proposal_within : (sender : ℕ) (slot : Slot) (vote : Vote) → In (Propose sender slot vote) (kept_reached cluster inputs).packets → slot.id ≡ id →
      is_ahead (Some chain) slot.place ≡ false
  proposal_within sender slot vote sent =
      within w keeps links id chain over chosen slot vote (record { sender = sender; sent = in_world (Propose sender slot vote) sent })

  pub told_within : (sender : ℕ) (name : Name) (told : TopVote) →
      In (Tell sender name (Some told)) (kept_reached cluster inputs).packets → told.id ≡ id → follow (Some chain) (Some told) ≡ None
  told_within sender name told sent same =
      let voted = (world_holds cluster inputs may).told_votes sender name told (in_world (Tell sender name (Some told)) sent) in
      let below = within w keeps links id chain over chosen (slot_at told.id told.place) told.vote
      (keeps.proposed (cast sender (slot_at told.id told.place) told.vote) voted) same in
      ap (λ (b : Bool). if b then Some (record { place = told.place; chain = told.vote.chain }) else None) below
