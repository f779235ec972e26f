-- What nodes that forget messages give out keeps the promises of a cluster of nodes that do not.
use Rattle.std.proofs.Common.{◌≡◌, ◌⊎◌, ℕ, List, ◌∷◌, ◌++◌, Some, refl, sym, subst, ap, ◌∙◌}
use Rattle.mc_model.specs.cluster.Steps.{Cluster}
use Rattle.mc_model.specs.message.Chain.{final_in}
use Rattle.mc_model.specs.message.Decree.{Decree, Delivered, Final}
use Rattle.mc_model.specs.node.Actor.{Request}
use Rattle.mc_model.specs.node.Input.{Arrival, Grant, Input, Response}
use Rattle.mc_model.specs.node.Outcome.{Concluded}
use Rattle.mc_model.specs.node.Outputs.{Outputs, Reply}
use Rattle.mc_model.specs.node.Replies.{Accepted, Shown, Unknown}
use Rattle.mc_model.specs.synod.Lists.{In}
use Rattle.mc_model.specs.synod.Packet.{Packet, Slot, slot_of}
use Rattle.node_laws.specs.Chosen.{WasVotedFor}
use Rattle.node_laws.specs.Clusters.{CameEarlier, GrantsOut, IsDeliveredBy, LivesOn, MayHappen, NodeInput, OneOfEach, RepliesWith, StatesFinal, cluster_outputs, comes_to, kept_reached, outputs_at, receipts_given}
use Rattle.node_laws.specs.GivenOut.{Cancels, CancelsDelete, ReceiptsStand}
use Rattle.node_laws.proofs.cluster.Chosen.{given_out_was_chosen}
use Rattle.node_laws.proofs.cluster.Delivered.{delivered as was_delivered}
use Rattle.node_laws.proofs.cluster.Fresh.{fresh, never_unknown}
use Rattle.node_laws.proofs.cluster.GivenOut.{cancelled_stays, cancels_delete, receipts_stand}
use Rattle.node_laws.proofs.cluster.NoGrant.{no_grant}
use Rattle.node_laws.proofs.cluster.OneReceipt.{one_of_each}
use Rattle.node_laws.proofs.cluster.Stated.{one_final}
use Rattle.rest_laws.specs.Histories.{HasRun, IsDeliveredIn, LivesThrough}
use Rattle.rest_laws.specs.Remains.{Event, IsHistory, Takes, given_at, given_in, remains_after}
use Rattle.rest_laws.proofs.runs.Histories.{SameBut, behind, earlier_in_run, given_same, in_run, receipts_same}
use Rattle.rest_laws.proofs.runs.Splits.{IsCut, IsFound, cut, found, lives_on}

-- ---- over all that was given out

module _ (cluster : Cluster) (events : List Event) (may : IsHistory cluster events) where
  abbrev inputs : List NodeInput
  inputs = (behind cluster events may).0

  run_may : MayHappen cluster inputs
  run_may = (behind cluster events may).1.stands.may

  same : SameBut (given_in cluster events) (cluster_outputs cluster inputs)
  same = given_same cluster inputs events (behind cluster events may).1.events_are

  in_it : (o : Outputs) → In o (given_in cluster events) → In o (cluster_outputs cluster inputs)
  in_it = in_run (given_in cluster events) (cluster_outputs cluster inputs) same

  pub one_fate : (one other : Outputs) (id : ℕ) (first second : Final) → In one (given_in cluster events) → In other (given_in cluster events) →
      StatesFinal one id first → StatesFinal other id second → first ≡ second
  one_fate one other id first second here there states also =
      one_final cluster inputs run_may one other id first second (in_it one here) (in_it other there) states also

  pub grants_none : (stating granting : Outputs) (id : ℕ) (final : Final) → CameEarlier stating granting (given_in cluster events) →
      StatesFinal stating id final → GrantsOut granting id → ⊥
  grants_none stating granting id final came =
      no_grant cluster inputs run_may stating granting id final
      (earlier_in_run (given_in cluster events) (cluster_outputs cluster inputs) same stating granting came)

  pub deletes : CancelsDelete (given_in cluster events)
  deletes outputs id among = cancels_delete cluster inputs run_may outputs id (in_it outputs among)

  pub cancelled : (cancelling granting : Outputs) (id : ℕ) → CameEarlier cancelling granting (given_in cluster events) → Cancels cancelling id →
      GrantsOut granting id → ⊥
  cancelled cancelling granting id came =
      cancelled_stays cluster inputs run_may cancelling granting id
      (earlier_in_run (given_in cluster events) (cluster_outputs cluster inputs) same cancelling granting came)

  pub one_receipt : OneOfEach (receipts_given (given_in cluster events))
  one_receipt =
      subst OneOfEach (receipts_same (given_in cluster events) (cluster_outputs cluster inputs) same) (one_of_each cluster inputs run_may)

-- ---- of a step

abbrev states_there : (one other : Outputs) (id : ℕ) (final : Final) → one ≡ other → (says : StatesFinal one id final) → StatesFinal other id final
states_there one other id final same says = record {
  chain = says.chain;
  tells = subst (λ (o : Outputs). RepliesWith o id says.chain ⊎ In (record { id = id; chain = says.chain }) o.receipts) same says.tells;
  state = says.state;
}

abbrev slot_by : (id : ℕ) (chain : List Decree) (inputs : List NodeInput) → IsDeliveredBy id chain inputs → Slot
slot_by id chain past by = slot_of id (by.attempt ∷ by.older)

-- the two steps are found among the events
taken_by : {cluster : Cluster} {inputs newest oldest : List NodeInput} (id : ℕ) (chain : List Decree) (by : IsDeliveredBy id chain inputs) (events : List Event)
    (late : IsFound cluster events newest oldest by.attempt.author.node (Response (slot_by id chain inputs by) (Concluded Delivered 0)))
    (early : IsFound cluster late.older by.granted.middle by.granted.older by.attempt.author.node (Grant (slot_by id chain inputs by))) →
    IsDeliveredIn id chain events
taken_by id chain by events late early = record {
  fate = by.fate;
  attempt = by.attempt;
  older = by.older;
  number = by.number;
  chain_is = by.chain_is;
  attempted = by.attempted;
  delivered = by.delivered;
  author = by.author;
  granted = record {
    newer = late.before;
    middle = early.before;
    older = early.older;
    split = late.split ∙ (λ i. late.before ++ Takes by.attempt.author.node (Response (slot_by id chain _ by) (Concluded Delivered 0)) ∷ early.split i);
    lives = λ lost starts. by.granted.lives lost (early.starts by.attempt.author.node lost starts);
  };
}

module _ (cluster : Cluster) (node : ℕ) (input : Input) (older : List Event) (may : IsHistory cluster (Takes node input ∷ older)) where
  abbrev it : HasRun cluster (Takes node input ∷ older)
  it = behind cluster (Takes node input ∷ older) may

  abbrev before : List NodeInput
  before = it.1.events_are.0

  may_then : MayHappen cluster (comes_to node input ∷ before)
  may_then = subst (MayHappen cluster) it.1.events_are.1 it.1.stands.may

  gives : given_at cluster older node input ≡ outputs_at cluster before (comes_to node input)
  gives = it.1.events_are.2

  pub receipts : ReceiptsStand node (given_at cluster older node input)
  receipts = subst (ReceiptsStand node) (sym gives) (receipts_stand cluster (comes_to node input) before may_then)

  pub chosen : (id : ℕ) (final : Final) (says : StatesFinal (given_at cluster older node input) id final) →
      WasVotedFor cluster.nodes (remains_after cluster (Takes node input ∷ older)).packets id says.chain
  chosen id final says =
      subst (λ (packets : List Packet). WasVotedFor cluster.nodes packets id says.chain)
      (ap (λ (l : List NodeInput). (kept_reached cluster l).packets) (sym it.1.events_are.1) ∙ sym it.1.stands.packets_are)
      (given_out_was_chosen cluster (comes_to node input) before may_then id final (states_there _ _ id final gives says))

  pub stands : (id : ℕ) (says : StatesFinal (given_at cluster older node input) id Delivered) → IsDeliveredIn id says.chain older
  stands id says =
      let by = was_delivered cluster (comes_to node input) before may_then id (states_there _ _ id Delivered gives says) in
      let slot = slot_of id (by.attempt ∷ by.older) in
      let late = found cluster older before it.1.events_are.3 by.granted.newer
      (by.granted.middle ++ comes_to by.attempt.author.node (Grant slot) ∷ by.granted.older)
      by.attempt.author.node (Response slot (Concluded Delivered 0)) tt by.granted.split in
      let early = found cluster late.older (by.granted.middle ++ comes_to by.attempt.author.node (Grant slot) ∷ by.granted.older) late.stand
      by.granted.middle by.granted.older by.attempt.author.node (Grant slot) tt refl in
      taken_by id says.chain by older late early

-- ---- later requests

module _ (cluster : Cluster) (older middle : List Event) (node ticket : ℕ) (request : Request) (next : Input)
    (may : IsHistory cluster (Takes node next ∷ (middle ++ Takes node (Arrival request) ∷ older)))
    (asked : (given_at cluster older node (Arrival request)).ticket ≡ Some ticket) (lives : LivesThrough node middle) where
  abbrev whole : HasRun cluster (Takes node next ∷ (middle ++ Takes node (Arrival request) ∷ older))
  whole = behind cluster (Takes node next ∷ (middle ++ Takes node (Arrival request) ∷ older)) may

  abbrev before_last : List NodeInput
  before_last = whole.1.events_are.0

  abbrev parts : IsCut cluster before_last middle (Takes node (Arrival request) ∷ older)
  parts = cut cluster middle (Takes node (Arrival request) ∷ older) before_last whole.1.events_are.3

  abbrev front : List NodeInput
  front = parts.stand.0

  -- the inputs behind
  splits : before_last ≡ parts.front ++ comes_to node (Arrival request) ∷ front
  splits = parts.split ∙ ap (λ (l : List NodeInput). parts.front ++ l) parts.stand.1

  all_may : MayHappen cluster (comes_to node next ∷ (parts.front ++ comes_to node (Arrival request) ∷ front))
  all_may = subst (MayHappen cluster) (whole.1.events_are.1 ∙ ap (λ (l : List NodeInput). comes_to node next ∷ l) splits) whole.1.stands.may

  was_asked : (outputs_at cluster front (comes_to node (Arrival request))).ticket ≡ Some ticket
  was_asked = ap (λ (o : Outputs). o.ticket) (sym parts.stand.2) ∙ asked

  live : LivesOn node parts.front
  live = lives_on cluster middle (Takes node (Arrival request) ∷ older) before_last may.1 parts node lives

  given_before : (o : Outputs) → In o (given_in cluster older) → In o (cluster_outputs cluster front)
  given_before = in_run (given_in cluster older) (cluster_outputs cluster front) (given_same cluster front older parts.stand.3)

  replied : (reply : Reply) → In reply (given_at cluster (middle ++ Takes node (Arrival request) ∷ older) node next).replies →
      In reply (outputs_at cluster (parts.front ++ comes_to node (Arrival request) ∷ front) (comes_to node next)).replies
  replied reply among =
      subst (λ (l : List NodeInput). In reply (outputs_at cluster l (comes_to node next)).replies) splits
      (subst (λ (o : Outputs). In reply o.replies) whole.1.events_are.2 among)

  pub told_later : (id : ℕ) (chain : List Decree) (stating : Outputs) (final : Final) → In stating (given_in cluster older) → StatesFinal stating id final →
      In (record { ticket = ticket; id = id; answer = Shown chain })
      (given_at cluster (middle ++ Takes node (Arrival request) ∷ older) node next).replies →
      final_in chain ≡ Some final
  told_later id chain stating final among states reply =
      fresh cluster front parts.front node ticket request next id chain stating final all_may (given_before stating among) states was_asked live
      (replied (record { ticket = ticket; id = id; answer = Shown chain }) reply)

  pub known_later : (id : ℕ) (accepting : Outputs) (taken : ℕ) → In accepting (given_in cluster older) →
      In (record { ticket = taken; id = id; answer = Accepted }) accepting.replies →
      In (record { ticket = ticket; id = id; answer = Unknown })
      (given_at cluster (middle ++ Takes node (Arrival request) ∷ older) node next).replies → ⊥
  known_later id accepting taken among accepts reply =
      never_unknown cluster front parts.front node ticket request next id accepting taken all_may (given_before accepting among) accepts was_asked live
      (replied (record { ticket = ticket; id = id; answer = Unknown }) reply)
