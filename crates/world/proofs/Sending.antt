-- What a node of a world sends, and whose it is.
use Rattle.std.proofs.Common.{◌≡◌, List, ◌++◌, length, map, Option, Some, refl, sym, ap, subst, ◌∙◌}
use Rattle.std.proofs.lemmas.List.{append-nil}
use Rattle.mc_model.specs.message.Ids.{IsNode}
use Rattle.mc_model.specs.node.Outputs.{Outputs}
use Rattle.mc_model.specs.node.Setup.{Setup}
use Rattle.node_laws.specs.Runs.{IsOneOf}
use Rattle.stable_store.specs.Stored.{Listed}
use Rattle.synod_acceptor.specs.Packets.{packet_of}
use Rattle.synod_acceptor.specs.declared.packet.Packet.{Packet}
use Rattle.node_model.specs.Outputs.{nothing}
use Rattle.node_runs.specs.Input.TheVariants as inputs
use Rattle.node_runs.specs.Outputs.{Outputs as Sent}
use Rattle.node_runs.specs.Setups.{IsSetup}
use Rattle.node_runs.specs.Steps.{outputs_of}
use Rattle.node_runs.specs.Life.{Life}
use Rattle.node_runs.specs.Nodes.{IsLifeOf, Standing}
use Rattle.sim_net.proofs.Numbers.{map_length}
use Rattle.world.specs.declared.given.Given.{Given}
use Rattle.world.specs.Members.{HasPassed, HasSent, IsLived}
use Rattle.world.specs.Runs.{IsGiven}
use Rattle.world.specs.Scenes.{Placed}

pub one_of : (s : Setup) → IsNode s.node → IsSetup s → IsOneOf s
one_of s node setup = record { least = node.least; most = setup.node; few = setup.nodes }

pub lived : (node : Standing Listed) (held : Option Life) (life : Life) → held ≡ Some life → IsLived node held → IsLifeOf node life
lived node held life is lives = subst (IsLived node) is lives

-- two outputs that are the same to the model have as many packets
pub same_count : (one other : Sent) (o : Outputs) → outputs_of one ≡ o → outputs_of other ≡ o → length one.packets.items ≡ length other.packets.items
same_count one other o first second =
    sym (map_length packet_of one.packets.items)
    ∙ ap (λ (x : Outputs). length x.packets) (first ∙ sym second)
    ∙ map_length packet_of other.packets.items

-- a step that gives nothing out sends no packet
pub sent_nothing : (old new : Placed) (packet : Packet) (before after : List Packet) (given : Given) → HasPassed old packet new → IsGiven given nothing →
    after ≡ before → HasSent old (inputs.Packet packet) before given new after
sent_nothing old new packet before after given has gives same = record {
  one = has.one;
  may = has.well;
  allowed = refl;
  up = has.up;
  setup = has.taken.setup;
  kept = has.taken.kept;
  gives = subst (IsGiven given) (sym has.taken.gives) gives;
  granted = tt;
  packets = subst (λ (o : Outputs). map packet_of after ≡ map packet_of before ++ o.packets) (sym has.taken.gives)
      (ap (λ (ps : List Packet). map packet_of ps) same ∙ sym (append-nil (map packet_of before)));
}
