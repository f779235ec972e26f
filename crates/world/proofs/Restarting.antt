-- A world that starts over the stores of its nodes, as a run that goes on.
use Rattle.std.proofs.Common.{◌≡◌, ℕ, zero, suc, ◌+◌, ◌<◌, List, [], ◌∷◌, ◌++◌, length, map, Some, Ok, Err, refl, sym, ap, subst, ◌∙◌}
use Rattle.std.specs.Prelude.{reverse}
use Rattle.std.proofs.lemmas.Bool.{true≢false}
use Rattle.std.proofs.lemmas.List.{length-set}
use Rattle.mc_model.specs.synod.Packet.{Packet}
use Rattle.mc_model.specs.node.Input.{Restart}
use Rattle.mc_model.specs.cluster.Steps.{Cluster, setup_of}
use Rattle.mc_model.specs.node.Outputs.{Outputs}
use Rattle.node_model.specs.Stepped.{restarted}
use Rattle.node_laws.specs.Clusters.{KeptCluster, NodeInput, comes_to, kept_reached, step_at}
use Rattle.synod_acceptor.specs.Packets.{packet_of}
use Rattle.synod_acceptor.specs.declared.packet.Packet.{Packet as Sent}
use Rattle.sim_net.specs.Network.{numbered}
use Rattle.world.specs.declared.fault.WorldFault.{WorldFault}
use Rattle.world.specs.declared.given.Given.{Given}
use Rattle.node_entry.specs.declared.step.Step.TheVariants as steps
use Rattle.world.specs.Members.{CantBegin, HasBegun, HasForgotten, Keeps}
use Rattle.world.specs.Runs.{HaltsOver, IsAt, IsSomewhere, Leads, StartsOver, begin_anew}
use Rattle.world.specs.Scenes.{Placed, Scene}
use Rattle.world.proofs.Ending.{gives_nothing, one_more, restart_leads}

-- nodes 1 to so many started anew
pub record AreBegun (old : Scene) (count : ℕ) (new : Scene) : Type 0 where
  pub nodes : length new.members ≡ length old.members
  pub each : (cluster : Cluster) (behind : List Packet) (inputs : List NodeInput) → IsAt cluster behind inputs old
      → IsAt cluster behind (begin_anew count ++ inputs) new

pub none_begun : (old : Scene) → AreBegun old 0 old
none_begun old = record { nodes = refl; each = λ cluster behind inputs at. at }

-- so does the next one
pub one_begun : (old now new : Scene) (place : ℕ) (given : Given) → AreBegun old place now → HasBegun now place given new → AreBegun old (place + 1) new
one_begun old now new place given are has =
    subst (λ (count : ℕ). AreBegun old count new) (one_more place) (record {
      nodes = ap length has.changed.members ∙ length-set now.members place has.after ∙ are.nodes;
      each = λ cluster behind inputs here.
          let leads : Leads now (steps.Restart (suc place)) (Ok given) new =
          restart_leads now new (suc place) place (Ok given) (one_more place) has tt tt in
          let on = leads.each cluster behind (begin_anew place ++ inputs) (are.each cluster behind inputs here) in
          subst (λ (next : NodeInput). IsAt cluster behind (next ∷ (begin_anew place ++ inputs)) new) on.loses on.at;
    })

pub halts : (old now new : Scene) (place : ℕ) (fault : WorldFault) → place < length old.members → AreBegun old place now → CantBegin now place fault →
    Keeps now new → HaltsOver old fault new
halts old now new place fault more are cant keeps = record {
  count = place;
  more = more;
  each = λ cluster behind inputs here.
      let leads : Leads now (steps.Restart (suc place)) (Err fault) new =
      restart_leads now new (suc place) place (Err fault) (one_more place) tt cant keeps in
      leads.each cluster behind (begin_anew place ++ inputs) (are.each cluster behind inputs here);
}

-- ---- the packets that were sent

module _ (cluster : Cluster) (behind : List Packet) (inputs : List NodeInput) (old new : Scene) where
  pub forgotten_at : IsAt cluster behind inputs old → HasForgotten old new → IsAt cluster (kept_reached cluster inputs).packets inputs new
  forgotten_at now forgot = record {
    may = now.may;
    nodes = ap length forgot.members ∙ now.nodes;
    members = λ node m is. now.members node m (subst (λ (ms : List Placed). numbered ms node ≡ Some m) forgot.members is);
    packets = ap (λ (ps : List Sent). reverse (map packet_of ps) ++ (kept_reached cluster inputs).packets) (sym forgot.none);
    fresh = λ is. absurd (true≢false (sym is ∙ forgot.fresh));
  }

pub forgotten_somewhere : (old new : Scene) → HasForgotten old new → IsSomewhere old → IsSomewhere new
forgotten_somewhere old new forgot is = record {
  cluster = is.cluster;
  behind = (kept_reached is.cluster is.inputs).packets;
  inputs = is.inputs;
  at = forgotten_at is.cluster is.behind is.inputs old new is.at forgot;
}

-- a node that starts anew sends nothing
sends_nothing : (cluster : Cluster) (w : KeptCluster) (node : ℕ) → (step_at cluster w (comes_to node (Restart 0))).outputs.packets ≡ []
sends_nothing cluster w node =
    ap (λ (o : Outputs). o.packets)
    (gives_nothing (w.kept node).up (restarted (setup_of cluster node) (w.kept node) 0) (restarted (setup_of cluster node) (w.kept node) 0))

pub same_packets : (cluster : Cluster) (inputs : List NodeInput) (count : ℕ) →
    (kept_reached cluster (begin_anew count ++ inputs)).packets ≡ (kept_reached cluster inputs).packets
same_packets cluster inputs zero = refl
same_packets cluster inputs (suc count) =
    ap (λ (ps : List Packet). reverse ps ++ (kept_reached cluster (begin_anew count ++ inputs)).packets)
    (sends_nothing cluster (kept_reached cluster (begin_anew count ++ inputs)) (suc count))
    ∙ same_packets cluster inputs count

pub starts_over : (old now new : Scene) → AreBegun old (length old.members) now → HasForgotten now new → StartsOver old new
starts_over old now new are forgot = record {
  none = forgot.none;
  each = λ cluster behind inputs here.
      subst (λ (count : ℕ). IsAt cluster (kept_reached cluster inputs).packets (begin_anew count ++ inputs) new) here.nodes
      (subst (λ (ps : List Packet). IsAt cluster ps (begin_anew (length old.members) ++ inputs) new) (same_packets cluster inputs (length old.members))
      (forgotten_at cluster behind (begin_anew (length old.members) ++ inputs) now new (are.each cluster behind inputs here) forgot));
}
