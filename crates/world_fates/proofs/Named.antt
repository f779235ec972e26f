-- Each query_sm_resp that a node prints with an answer is for a message whose id is a short number.
use Rattle.std.proofs.Common.{◌≡◌, ℕ, ◌<◌, ◌^◌, List, [], ◌∷◌, ◌++◌, Option, Some, None, refl, inl, inr}
use Rattle.std.specs.Fmt.{decimal}
use Rattle.std.specs.List.{AllByRecursion}
use Rattle.mc_model.specs.synod.Lists.{In}
use Rattle.mc_model.specs.node.Outputs.{Reply}
use Rattle.mc_model.specs.cluster.Steps.{Cluster}
use Rattle.node_laws.specs.Clusters.{NodeInput}
use Rattle.pdu_bodies.specs.declared.pdu.Pdu.{Pdu}
use Rattle.sessions.specs.Session.{Session}
use Rattle.script_text.specs.Left.{in_front}
use Rattle.script_text.specs.Laws.{TellsState}
use Rattle.script_text.specs.Prints.{Delivers, Late, Print}
use Rattle.script_text.specs.Pushes.{delivery_on}
use Rattle.script_text.specs.Responses.{reply_pdu}
use Rattle.script_text.specs.Runner.{Owned, Told, owner_of, replied, reply_prints, told}
use Rattle.world_fates.proofs.node.StepsOut.{step_now}
use Rattle.world_fates.proofs.node.Telling.{IsMute, delivery_is_mute, reply_is_told, report_tells_no_state}
use Rattle.world_fates.proofs.node.Tellings.{IsTelling, NodePrint, TakesDeliveries, by_node, prints_at}

-- it answers a request that waited, for the message of a message_id, whose id is a short number
pub record IsNamed (print : Print) (message_id : List ℕ) : Type 0 where
  pub session : ℕ
  pub id : ℕ
  pub pdu : Pdu
  pub printed : print ≡ Late session id pdu
  pub small : id < 2 ^ 64
  pub message : decimal id ≡ message_id

abbrev pub TellsNamed : NodePrint → Type 0
TellsNamed printed = (message_id : List ℕ) (state : ℕ) → TellsState printed.1 message_id state → IsNamed printed.1 message_id

abbrev pub NamedFrom : List NodeInput → List NodeInput → List NodePrint → Type 0
NamedFrom last past prints = AllByRecursion TellsNamed prints

mute_named : (node : ℕ) (print : Print) → IsMute print → TellsNamed (by_node node print)
mute_named node print mute message_id state tells = absurd (mute.state message_id state tells)

replies_named : (node : ℕ) (connected : List (ℕ × Session)) (replies : List Reply) (prints : List NodePrint) →
    ((reply : Reply) → In reply replies → reply.id < 2 ^ 64) → AllByRecursion TellsNamed prints →
    AllByRecursion TellsNamed (prints_at node (told connected replies).prints ++ prints)
unfolding told
replies_named node connected [] prints small all = all
replies_named node connected (reply ∷ replies) prints small all =
    at_owner (owner_of connected reply.ticket)
    (replies_named node (replied connected reply.ticket (owner_of connected reply.ticket)) replies prints
    (λ other among. small other (inr among)) all)
  where
    later : Told
    later = told (replied connected reply.ticket (owner_of connected reply.ticket)) replies

    at_owner : (owner : Option Owned) → AllByRecursion TellsNamed (prints_at node later.prints ++ prints) →
        AllByRecursion TellsNamed (prints_at node (in_front (reply_prints reply owner) later).prints ++ prints)
    at_owner None others = others
    at_owner (Some owned) others =
        let request = owned.request in (
          (λ message_id state tells. record {
            session = owned.number;
            id = reply.id;
            pdu = reply_pdu request.requested request.sequence reply.id reply.answer;
            printed = refl;
            small = small reply (inl refl);
            message = ((reply_is_told owned.number request.requested request.sequence reply.id reply.answer).state message_id state tells).0;
          }),
          others,
        )

pub named_takes : TakesDeliveries NamedFrom
named_takes last past node number session taken prints submitted all =
    (mute_named node (Delivers number (delivery_on session taken)) (delivery_is_mute number session taken), all)

pub named_telling : (cluster : Cluster) → IsTelling cluster NamedFrom
named_telling cluster = record {
  mute = λ last past node print prints mute other all. (mute_named node print mute, all);
  report = λ last past node receipt session sequence optional report prints may out is all.
      ((λ message_id state tells. absurd (report_tells_no_state session sequence optional report message_id state tells)), all);
  step = λ last past next prints may all. all;
  replies = λ last past next connected prints may small all.
      replies_named next.node connected (step_now cluster next past).outputs.replies prints small all;
}
