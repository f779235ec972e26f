-- Each run of a cluster whose nodes forget nothing is a history.
use Rattle.std.proofs.Common.{◌≡◌, ℕ, ◌+◌, ◌<◌, Bool, false, List, [], ◌∷◌, ◌++◌, map, refl, sym, subst, ap, ◌∙◌}
use Rattle.std.specs.Prelude.{reverse}
use Rattle.mc_model.specs.cluster.Steps.{Cluster, setup_of}
use Rattle.mc_model.specs.cluster.World.{changed}
use Rattle.mc_model.specs.node.Input.{Arrival, Crash, Delivery, Grant, Input, Refusal, Response, Restart, Tick}
use Rattle.mc_model.specs.synod.Packet.{Ask, Packet, Prepare, Promise, Propose, Refused, Tell, Voted}
use Rattle.node_laws.specs.Clusters.{MayHappen, NodeInput, WasSentBefore, comes_to, kept_reached}
use Rattle.node_laws.specs.Runs.{IsOneOf, IsUpFor, MayCome}
use Rattle.node_model.specs.Kept.{Kept}
use Rattle.node_model.specs.Stepped.{restarted, stepped}
use Rattle.rest_laws.specs.Histories.{event_by, event_of}
use Rattle.rest_laws.specs.Remains.{IsHistory, MayBe, Remains, Takes, remains_after, remains_then}
use Rattle.rest_laws.specs.Without.{Spares, SparesPacket}
use Rattle.rest_laws.proofs.noting.Anew.{restart_gives, restart_keeps}

record RemainsAll (cluster : Cluster) (inputs : List NodeInput) (r : Remains) : Type 0 where
  kept : r.kept ≡ (kept_reached cluster inputs).kept
  packets : r.packets ≡ (kept_reached cluster inputs).packets
  gone : r.gone ≡ (λ node id. false)

one_more : (cluster : Cluster) (inputs : List NodeInput) (r : Remains) → RemainsAll cluster inputs r → (node : ℕ) (input : Input) →
    RemainsAll cluster (comes_to node input ∷ inputs) (remains_then cluster r (event_by node input))
one_more cluster inputs r all node (Restart lost) =
    let k : Kept = (kept_reached cluster inputs).kept node in
    record {
      kept = (λ i. changed (all.kept i) node (restarted (setup_of cluster node) (all.kept i node) lost))
          ∙ (λ i. changed (kept_reached cluster inputs).kept node (sym (restart_keeps (setup_of cluster node) k lost) i));
      packets = all.packets ∙ (λ i. reverse (sym (restart_gives (setup_of cluster node) k lost) i).packets ++ (kept_reached cluster inputs).packets);
      gone = all.gone;
    }
one_more cluster inputs r all node input = record {
  kept = λ i. changed (all.kept i) node (stepped (setup_of cluster node) (all.kept i node) input).kept;
  packets = λ i. reverse (stepped (setup_of cluster node) (all.kept i node) input).outputs.packets ++ all.packets i;
  gone = all.gone;
}

all_remain : (cluster : Cluster) (inputs : List NodeInput) → RemainsAll cluster inputs (remains_after cluster (map event_of inputs))
all_remain cluster [] = record { kept = refl; packets = refl; gone = refl }
all_remain cluster (newest ∷ older) =
    one_more cluster older (remains_after cluster (map event_of older)) (all_remain cluster older) newest.node newest.input

pub all_kept : (cluster : Cluster) (inputs : List NodeInput) (node : ℕ) →
    (remains_after cluster (map event_of inputs)).kept node ≡ (kept_reached cluster inputs).kept node
all_kept cluster inputs node = ap (λ (f : ℕ → Kept). f node) (all_remain cluster inputs).kept

-- ---- so each input may come by its event

spares_packet : (packet : Packet) → SparesPacket (λ id. false) packet
spares_packet (Prepare sender slot ballot) = refl
spares_packet (Promise sender slot ballot report) = refl
spares_packet (Propose sender slot vote) = refl
spares_packet (Voted sender slot vote) = refl
spares_packet (Refused sender slot ballot promised) = refl
spares_packet (Ask sender id name) = refl
spares_packet (Tell sender name told) = tt

module _ (cluster : Cluster) (inputs : List NodeInput) (r : Remains) (all : RemainsAll cluster inputs r) (node : ℕ) where
  k_is : (kept_reached cluster inputs).kept node ≡ r.kept node
  k_is = ap (λ (f : ℕ → Kept). f node) (sym all.kept)

  spares_all : (input : Input) → Spares (λ id. false) input → Spares (r.gone node) input
  spares_all input = subst (λ (gone : ℕ → ℕ → Bool). Spares (gone node) input) (sym all.gone)

  taken : (input : Input) → IsOneOf (setup_of cluster node) → IsUpFor ((kept_reached cluster inputs).kept node) input →
      MayCome (setup_of cluster node) ((kept_reached cluster inputs).kept node) input → WasSentBefore (kept_reached cluster inputs).packets input →
      Spares (λ id. false) input → MayBe cluster r (Takes node input)
  taken input is up may sent spares = (
    is,
    subst (λ (x : Kept). IsUpFor x input) k_is up,
    subst (λ (x : Kept). MayCome (setup_of cluster node) x input) k_is may,
    subst (λ (packets : List Packet). WasSentBefore packets input) (sym all.packets) sent,
    spares_all input spares,
  )

  happens : (input : Input) → IsOneOf (setup_of cluster node) → IsUpFor ((kept_reached cluster inputs).kept node) input →
      MayCome (setup_of cluster node) ((kept_reached cluster inputs).kept node) input → WasSentBefore (kept_reached cluster inputs).packets input →
      MayBe cluster r (event_by node input)
  happens (Restart lost) is up may sent = (is, subst (λ (x : Kept). x.incarnation + lost < 9999) k_is may)
  happens (Delivery packet) is up may sent = taken (Delivery packet) is up may sent (spares_packet packet)
  happens (Crash packet after) is up may sent = taken (Crash packet after) is up may sent (spares_packet packet)
  happens (Arrival request) is up may sent = taken (Arrival request) is up may sent refl
  happens (Refusal status) is up may sent = taken (Refusal status) is up may sent tt
  happens (Tick moment reach) is up may sent = taken (Tick moment reach) is up may sent tt
  happens (Grant slot) is up may sent = taken (Grant slot) is up may sent refl
  happens (Response slot outcome) is up may sent = taken (Response slot outcome) is up may sent refl

pub each_history : (cluster : Cluster) (inputs : List NodeInput) → MayHappen cluster inputs → IsHistory cluster (map event_of inputs)
each_history cluster [] may = tt
each_history cluster (newest ∷ older) may = (
  happens cluster older (remains_after cluster (map event_of older)) (all_remain cluster older) newest.node newest.input may.0 may.1 may.2 may.3,
  each_history cluster older may.4,
)
