-- What stands behind a history, and what is given out in it.
use Rattle.std.proofs.Common.{◌≡◌, ◌⊎◌, ℕ, List, [], ◌∷◌, ◌++◌, refl, sym, subst, ap, ◌∙◌, inl, inr}
use Rattle.std.specs.List.Sorted.{IsStrictlySortedBy}
use Rattle.std.specs.Ordering.{nat_cmp}
use Rattle.mc_model.specs.cluster.Steps.{Cluster, setup_of}
use Rattle.mc_model.specs.node.Input.{Restart}
use Rattle.mc_model.specs.node.Outputs.{Outputs, Receipt}
use Rattle.mc_model.specs.synod.Lists.{In}
use Rattle.mc_model.specs.synod.Packet.{Packet}
use Rattle.node_laws.specs.Clusters.{CameEarlier, NodeInput, cluster_outputs, comes_to, kept_reached, outputs_at, receipts_given}
use Rattle.node_model.specs.Outputs.{nothing}
use Rattle.rest_laws.specs.Behind.{GiveNothing, StandFor, StandsBehind, come_again}
use Rattle.rest_laws.specs.Histories.{HasRun}
use Rattle.rest_laws.specs.Remains.{Cools, Drops, Event, IsHistory, Starts, Takes, all_new, given_in, remains_after}
use Rattle.rest_laws.proofs.runs.Starting.{starts}
use Rattle.rest_laws.proofs.runs.Cooling.{cools}
use Rattle.rest_laws.proofs.runs.Dropping.{drops}
use Rattle.rest_laws.proofs.runs.Stepping.{gives, goes}
use Rattle.rest_laws.proofs.noting.Anew.{restart_gives}

none_ascends : IsStrictlySortedBy nat_cmp []
unfolding IsStrictlySortedBy
none_ascends = tt

begins : (cluster : Cluster) → StandsBehind cluster [] (all_new cluster)
begins cluster = record {
  may = tt;
  kept_is = λ node. refl;
  packets_are = refl;
  rest = λ node. record { ascend = none_ascends; rest = λ id is. absurd (cc) };
  calm = λ node id is. absurd (cc);
  shut = λ node. ((λ id is place. absurd (cc)), (λ id is place. absurd (cc)));
}

pub behind : (cluster : Cluster) (events : List Event) → IsHistory cluster events → HasRun cluster events
behind cluster [] may = ([], record { stands = begins cluster; events_are = refl })
behind cluster (Takes node input ∷ older) may =
    let before = behind cluster older may.1 in
    let stands = before.1.stands in (
      comes_to node input ∷ before.0,
      record {
        stands = goes cluster before.0 (remains_after cluster older) node input stands may.0.0 may.0.1 may.0.2 may.0.3 may.0.4;
        events_are = (
          before.0,
          refl,
          gives cluster before.0 (remains_after cluster older) node input stands may.0.0 may.0.1 may.0.2 may.0.3 may.0.4,
          before.1.events_are,
        );
      },
    )
behind cluster (Drops node id ∷ older) may =
    let before = behind cluster older may.1 in (
      before.0,
      record {
        stands = drops cluster before.0 (remains_after cluster older) node id before.1.stands may.0;
        events_are = before.1.events_are;
      },
    )
behind cluster (Cools node id ∷ older) may =
    let before = behind cluster older may.1 in (
      before.0,
      record {
        stands = cools cluster before.0 (remains_after cluster older) node id before.1.stands may.0.0 may.0.1;
        events_are = before.1.events_are;
      },
    )
behind cluster (Starts node lost ∷ older) may =
    let before = behind cluster older may.1 in
    let it = starts cluster before.0 (remains_after cluster older) node lost before.1.stands may.0.0 may.0.1 in (
      come_again node it.again (comes_to node (Restart lost) ∷ before.0),
      record {
        stands = it.stands;
        events_are = (before.0, it.again, refl, it.quiet, before.1.events_are);
      },
    )

-- ---- what is given out, but for what is nothing

-- the same is given out, and besides by some steps nothing
abbrev pub SameBut : List Outputs → List Outputs → Type 0
SameBut given [] = given ≡ []
SameBut given (newest ∷ older) = ((newest ≡ nothing) × SameBut given older) ⊎ ((rest : List Outputs) × (given ≡ newest ∷ rest) × SameBut rest older)

quiet_same : (cluster : Cluster) (node : ℕ) (packets : List Packet) (inputs : List NodeInput) (given : List Outputs) → GiveNothing cluster node packets inputs →
    SameBut given (cluster_outputs cluster inputs) → SameBut given (cluster_outputs cluster (come_again node packets inputs))
quiet_same cluster node [] inputs given quiet same = same
quiet_same cluster node (packet ∷ packets) inputs given quiet same = inl (quiet.0, quiet_same cluster node packets inputs given quiet.1 same)

pub given_same : (cluster : Cluster) (inputs : List NodeInput) (events : List Event) → StandFor cluster inputs events →
    SameBut (given_in cluster events) (cluster_outputs cluster inputs)
given_same cluster inputs [] are = subst (λ (l : List NodeInput). SameBut [] (cluster_outputs cluster l)) (sym are) refl
given_same cluster inputs (Takes node input ∷ older) are =
    subst (λ (l : List NodeInput). SameBut (given_in cluster (Takes node input ∷ older)) (cluster_outputs cluster l)) (sym are.1)
    (inr (given_in cluster older, (λ i. are.2 i ∷ given_in cluster older), given_same cluster are.0 older are.3))
given_same cluster inputs (Drops node id ∷ older) are = given_same cluster inputs older are
given_same cluster inputs (Cools node id ∷ older) are = given_same cluster inputs older are
given_same cluster inputs (Starts node lost ∷ older) are =
    let none : outputs_at cluster are.0 (comes_to node (Restart lost)) ≡ nothing =
    restart_gives (setup_of cluster node) ((kept_reached cluster are.0).kept node) lost in
    subst (λ (l : List NodeInput). SameBut (given_in cluster older) (cluster_outputs cluster l)) (sym are.2)
    (quiet_same cluster node are.1 (comes_to node (Restart lost) ∷ are.0) (given_in cluster older) are.3
    (inl (none, given_same cluster are.0 older are.4)))

-- ---- so it is given out by the run

pub in_run : (given all : List Outputs) → SameBut given all → (o : Outputs) → In o given → In o all
in_run given [] same o among = subst (In o) same among
in_run given (newest ∷ older) (inl quiet) o among = inr (in_run given older quiet.1 o among)
in_run given (newest ∷ older) (inr first) o among = elim (subst (In o) first.1 among) [
  | inl here ↦ inl here
  | inr later ↦ inr (in_run first.0 older first.2 o later)
]

one_newer : (newest : Outputs) (older : List Outputs) (first second : Outputs) → CameEarlier first second older → CameEarlier first second (newest ∷ older)
one_newer newest older first second it = record {
  newer = newest ∷ it.newer;
  older = it.older;
  split = λ i. newest ∷ it.split i;
  before = it.before;
}

pub earlier_in_run : (given all : List Outputs) → SameBut given all → (first second : Outputs) → CameEarlier first second given → CameEarlier first second all
earlier_in_run given [] same first second came = absurd (never came.newer (sym same ∙ came.split))
  where
    never : (newer : List Outputs) → [] ≡ newer ++ second ∷ came.older → ⊥
    never [] is = absurd (cc)
    never (x ∷ newer) is = absurd (cc)
earlier_in_run given (newest ∷ older) (inl quiet) first second came =
    let it = earlier_in_run given older quiet.1 first second came in
    one_newer newest older first second it
earlier_in_run given (newest ∷ older) (inr rest) first second came = by came.newer (sym rest.1 ∙ came.split) (earlier_in_run rest.0 older rest.2 first second)
  where
    by : (newer : List Outputs) → newest ∷ rest.0 ≡ newer ++ second ∷ came.older → (CameEarlier first second rest.0 → CameEarlier first second older) →
        CameEarlier first second (newest ∷ older)
    by [] is later =
        let head : newest ≡ second = cc in
        let tail : rest.0 ≡ came.older = cc in
        record {
          newer = [];
          older = older;
          split = λ i. head i ∷ older;
          before = in_run rest.0 older rest.2 first (subst (In first) (sym tail) came.before);
        }
    by (x ∷ newer) is later =
        let tail : rest.0 ≡ newer ++ second ∷ came.older = cc in
        one_newer newest older first second (later (record { newer = newer; older = came.older; split = tail; before = came.before }))

pub receipts_same : (given all : List Outputs) → SameBut given all → receipts_given all ≡ receipts_given given
receipts_same given [] same = ap receipts_given (sym same)
receipts_same given (newest ∷ older) (inl quiet) = (λ i. (quiet.0 i).receipts ++ receipts_given older) ∙ receipts_same given older quiet.1
receipts_same given (newest ∷ older) (inr rest) =
    ap (λ (rs : List Receipt). newest.receipts ++ rs) (receipts_same rest.0 older rest.2) ∙ ap receipts_given (sym rest.1)
