-- A world that starts over new stores.
use Rattle.std.proofs.Common.{◌≡◌, ℕ, zero, suc, ◌+◌, true, List, [], ◌∷◌, ◌++◌, Some, refl, sym, ap, subst, ◌∙◌, inl, inr, arith, length-append}
use Rattle.std.specs.Prelude.{Bool, map, reverse}
use Rattle.mc_model.specs.node.Setup.{Setup}
use Rattle.mc_model.specs.cluster.Steps.{setup_of}
use Rattle.mc_model.specs.synod.Packet.{Slot}
use Rattle.mc_model.specs.synod.Acceptor.{SlotRecord}
use Rattle.node_model.specs.Stepped.{opened_new}
use Rattle.node_runs.proofs.Running.{opened_so}
use Rattle.synod_acceptor.specs.Packets.{packet_of}
use Rattle.synod_acceptor.specs.Records.{record_at}
use Rattle.synod_acceptor.specs.declared.packet.Packet.{Packet}
use Rattle.node_runs.specs.Keeping.{kept_of}
use Rattle.node_runs.specs.Setups.{setup_with}
use Rattle.node_runs.specs.Life.{Life}
use Rattle.node_runs.specs.Nodes.{HasOpened}
use Rattle.sim_net.proofs.Growing.{get_push}
use Rattle.sim_net.specs.Network.{numbered}
use Rattle.world.specs.Members.{AreOpened, IsOpened}
use Rattle.node_laws.specs.Clusters.{cluster_with}
use Rattle.world.specs.Runs.{IsAt, IsMember, IsSomewhere, StandsAs}
use Rattle.world.specs.Scenes.{Placed, Scene}

pub is_opened : (setup : Setup) (entries : List (Slot × SlotRecord)) (started : ℕ) (m : Placed) (life : Life) → entries ≡ [] → started ≡ 0 → m.up ≡ true →
    HasOpened setup (record_at entries) (started + 1) m.node life → IsOpened setup m
is_opened setup entries started m life new never up opened = record {
  up = up;
  setup_is = opened.setup;
  kept = opened_so setup m.node (record {
    life = life;
    stored = record_at entries;
    none = record { each = λ slot. ap (λ (es : List (Slot × SlotRecord)). record_at es slot) new };
    opened = subst (λ (n : ℕ). HasOpened setup (record_at entries) n m.node life) (omega (arith, never)) opened;
  });
}

pub pushed : (nodes serial validity count : ℕ) (members : List Placed) (m : Placed) (after : List Placed) → AreOpened nodes serial validity count members →
    IsOpened (setup_with (count + 1) nodes serial validity) m → after ≡ members ++ m ∷ [] → AreOpened nodes serial validity (count + 1) after
pushed nodes serial validity count members m after are is same =
    subst (AreOpened nodes serial validity (count + 1)) (sym same) (record {
      count_is = let longer = length-append members (m ∷ []) in let was = are.count_is in omega arith;
      each = λ place other found. elim (get_push members place m other found) [
        | inl both ↦
            subst (λ (p : Placed). IsOpened (setup_with (place + 1) nodes serial validity) p) (sym both.1)
            (subst (λ (n : ℕ). IsOpened (setup_with (n + 1) nodes serial validity) m) (sym (both.0 ∙ are.count_is)) is)
        | inr before ↦ are.each place other before
      ];
    })

pub starts : (nodes serial validity : ℕ) (w : Scene) → AreOpened nodes serial validity nodes w.members → w.packets ≡ []
    → IsAt (cluster_with nodes serial validity) [] [] w
starts nodes serial validity w are none = record {
  may = tt;
  nodes = are.count_is;
  members = member;
  packets = ap (λ (ps : List Packet). reverse (map packet_of ps) ++ []) (sym none);
  fresh = λ is. (refl, refl);
}
  where
    member : (node : ℕ) (m : Placed) → numbered w.members node ≡ Some m
        → IsMember (setup_of (cluster_with nodes serial validity) node) (opened_new (setup_of (cluster_with nodes serial validity) node)) m
    member zero m is = absurd cc
    member (suc place) m is =
        let it = are.each place m is in
        let number : place + 1 ≡ suc place = omega arith in
        let kept : kept_of m.node.kept ≡ opened_new (setup_with (suc place) nodes serial validity) =
        it.kept ∙ ap (λ (n : ℕ). opened_new (setup_with n nodes serial validity)) number in
        record {
          setup_is = it.setup_is ∙ ap (λ (n : ℕ). setup_with n nodes serial validity) number;
          stands = subst (λ (up : Bool). StandsAs (opened_new (setup_with (suc place) nodes serial validity)) up m.node) (sym it.up) kept;
        }

pub starts_somewhere : (nodes serial validity : ℕ) (w : Scene) → AreOpened nodes serial validity nodes w.members → w.packets ≡ [] → IsSomewhere w
starts_somewhere nodes serial validity w are none =
    record { cluster = cluster_with nodes serial validity; behind = []; inputs = []; at = starts nodes serial validity w are none }
