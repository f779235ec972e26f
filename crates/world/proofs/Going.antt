-- A step of one node is a step of the world.
use Rattle.std.proofs.Common.{◌≡◌, ℕ, zero, suc, ◌+◌, Bool, true, false, List, ◌∷◌, ◌++◌, length, map, Some, refl, sym, ap, subst, ◌∙◌}
use Rattle.std.proofs.Common.{inl, inr, arith, append_assoc}
use Rattle.std.specs.Prelude.{reverse, ◌==◌, if◌then◌else◌}
use Rattle.std.specs.List.{slice_get}
use Rattle.std.proofs.Math.ListN.{set}
use Rattle.std.proofs.lemmas.List.{length-set, reverse-append}
use Rattle.std.proofs.lemmas.Bool.{true≢false}
use Rattle.std.proofs.lemmas.Bool.Decides.{nat_tests}
use Rattle.mc_model.specs.synod.Packet.{Packet}
use Rattle.mc_model.specs.node.Input.{Input}
use Rattle.mc_model.specs.cluster.Steps.{Cluster, setup_of}
use Rattle.node_model.specs.Kept.{Kept}
use Rattle.node_model.specs.Outputs.{Stepped}
use Rattle.node_laws.specs.Clusters.{KeptCluster, NodeInput, WasSentBefore, comes_to, kept_next, kept_reached, step_at}
use Rattle.node_laws.specs.Runs.{IsOneOf, IsUpFor, MayCome}
use Rattle.synod_acceptor.specs.Packets.{packet_of}
use Rattle.synod_acceptor.specs.declared.packet.Packet.{Packet as Sent}
use Rattle.node_runs.specs.Kept.{Kept as Holding}
use Rattle.node_runs.specs.Keeping.{kept_of}
use Rattle.sim_net.specs.Network.{numbered}
use Rattle.sim_net.proofs.Numbers.{set_get}
use Rattle.world.specs.Members.{HasChanged, IsUnmoved, Keeps}
use Rattle.world.specs.Runs.{IsAt, IsMember, StandsAs}
use Rattle.world.specs.Scenes.{Placed, Scene}

-- ---- nothing changed

unmoved_stands : (k : Kept) (old new : Placed) → IsUnmoved old new → (up : Bool) → StandsAs k up old.node → StandsAs k up new.node
unmoved_stands k old new same true stands = subst (λ (kept : Holding). kept_of kept ≡ k) (sym same.kept) stands
unmoved_stands k old new same false stands = record {
  down = stands.down;
  incarnation = ap (λ (kept : Holding). kept.incarnation) same.kept ∙ stands.incarnation;
  lists = stands.lists;
  stored = record { each = λ slot. same.stored.each slot ∙ stands.stored.each slot };
}

module _ (cluster : Cluster) (behind : List Packet) (inputs : List NodeInput) (old : Scene) (now : IsAt cluster behind inputs old) where
  abbrev here : KeptCluster
  here = kept_reached cluster inputs

  kept_member : (new : Scene) → Keeps old new → (node : ℕ) (m : Placed) → numbered new.members node ≡ Some m
      → IsMember (setup_of cluster node) (here.kept node) m
  kept_member new keeps zero m is = absurd cc
  kept_member new keeps (suc place) m is =
      let was = keeps.members place m is in
      let member = now.members (suc place) was.was was.found in
      record {
        setup_is = ap (λ (kept : Holding). kept.setup) was.unmoved.kept ∙ member.setup_is;
        stands = subst (λ (up : Bool). StandsAs (here.kept (suc place)) up m.node) (sym was.unmoved.up)
            (unmoved_stands (here.kept (suc place)) was.was m was.unmoved was.was.up member.stands);
      }

  pub stays : (new : Scene) → Keeps old new → IsAt cluster behind inputs new
  stays new keeps = record {
    may = now.may;
    nodes = keeps.nodes ∙ now.nodes;
    members = kept_member new keeps;
    packets = now.packets ∙ ap (λ (ps : List Sent). reverse (map packet_of ps) ++ behind) (sym keeps.packets);
    fresh = λ is. now.fresh (sym keeps.fresh ∙ is);
  }

  -- ---- one node took a step

  module _ (node place : ℕ) (input : Input) (m : Placed) (after : List Sent) (new : Scene) (place_is : node ≡ place + 1) where
    abbrev step : Stepped
    step = step_at cluster here (comes_to node input)

    abbrev then : KeptCluster
    then = kept_next here node step

    member_here : (k : ℕ) → k ≡ place → (other : Placed) → other ≡ m → IsMember (setup_of cluster node) step.kept m
        → IsMember (setup_of cluster (suc k)) (then.kept (suc k)) other
    member_here k same other is member =
        let one : suc k ≡ node = omega arith in
        let test : (suc k == node) ≡ true = grind (arith, nat_tests) in
        subst (λ (b : Bool). IsMember (setup_of cluster (suc k)) (if b then step.kept else here.kept (suc k)) other) (sym test)
        (subst (λ (n : ℕ). IsMember (setup_of cluster n) step.kept other) (sym one)
        (subst (λ (p : Placed). IsMember (setup_of cluster node) step.kept p) (sym is) member))

    member_there : (k : ℕ) → (k ≡ place → ⊥) → (other : Placed) → slice_get old.members k ≡ Some other
        → IsMember (setup_of cluster (suc k)) (then.kept (suc k)) other
    member_there k apart other is =
        let test : (suc k == node) ≡ false = not_same (suc k == node) refl in
        subst (λ (b : Bool). IsMember (setup_of cluster (suc k)) (if b then step.kept else here.kept (suc k)) other) (sym test)
        (now.members (suc k) other is)
      where
        not_same : (b : Bool) → (suc k == node) ≡ b → b ≡ false
        not_same true same = absurd (apart (grind (arith, nat_tests)))
        not_same false same = refl

    member_then : new.members ≡ set old.members place m → IsMember (setup_of cluster node) step.kept m →
        (other : ℕ) (p : Placed) → numbered new.members other ≡ Some p → IsMember (setup_of cluster other) (then.kept other) p
    member_then members member zero p is = absurd cc
    member_then members member (suc k) p is =
        elim (set_get old.members place k m p (subst (λ (ms : List Placed). slice_get ms k ≡ Some p) members is)) [
          | inl both ↦ member_here k both.0 p both.1 member
          | inr other ↦ member_there k other.0 p other.1
        ]

    packets_then : new.packets ≡ after → map packet_of after ≡ map packet_of old.packets ++ step.outputs.packets →
        then.packets ≡ reverse (map packet_of new.packets) ++ behind
    packets_then are more =
        ap (λ (ps : List Packet). reverse step.outputs.packets ++ ps) now.packets
        ∙ sym (append_assoc (reverse step.outputs.packets) (reverse (map packet_of old.packets)) behind)
        ∙ ap (λ (ps : List Packet). ps ++ behind) (sym (reverse-append (map packet_of old.packets) step.outputs.packets))
        ∙ ap (λ (ps : List Packet). reverse ps ++ behind) (sym more)
        ∙ ap (λ (ps : List Sent). reverse (map packet_of ps) ++ behind) (sym are)

    pub goes_on : IsOneOf (setup_of cluster node) → IsUpFor (here.kept node) input → MayCome (setup_of cluster node) (here.kept node) input →
        WasSentBefore here.packets input → IsMember (setup_of cluster node) step.kept m → HasChanged old place m new → new.packets ≡ after →
        map packet_of after ≡ map packet_of old.packets ++ step.outputs.packets → IsAt cluster behind (comes_to node input ∷ inputs) new
    goes_on one up may sent member changed are more = record {
      may = (one, up, may, sent, now.may);
      nodes = ap length changed.members ∙ length-set old.members place m ∙ now.nodes;
      members = member_then changed.members member;
      packets = packets_then are more;
      fresh = λ is. absurd (true≢false (sym is ∙ changed.fresh));
    }
