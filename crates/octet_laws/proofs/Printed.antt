-- What each print of a script is made of.
use Rattle.std.proofs.Common.{◌≡◌, ℕ, ◌<◌, ◌^◌, List, [], ◌∷◌, ◌++◌, Option, Some, None, refl, sym, subst}
use Rattle.std.specs.Fmt.{decimal}
use Rattle.std.specs.List.{AllByRecursion}
use Rattle.mc_model.specs.message.Submission.{Submission}
use Rattle.mc_model.specs.node.Outputs.{Reply}
use Rattle.mc_model.specs.node.Replies.{Answer}
use Rattle.mc_model.specs.cluster.Steps.{Cluster}
use Rattle.node_laws.specs.Clusters.{NodeInput}
use Rattle.pdu_bodies.specs.declared.pdu.Pdu.{Pdu}
use Rattle.fate_chain.specs.States.{final_code}
use Rattle.sessions.specs.Session.{Session}
use Rattle.sessions.specs.declared.requested.Requested.{Requested}
use Rattle.script_text.specs.Left.{in_front}
use Rattle.script_text.specs.Prints.{AtOnce, Declined, Delivers, Gone, Late, Print, Reports, Ungranted}
use Rattle.script_text.specs.Pushes.{delivery_on}
use Rattle.script_text.specs.Responses.{reply_pdu}
use Rattle.script_text.specs.Runner.{Owned, Told, owner_of, replied, reply_prints, told}
use Rattle.world_fates.proofs.node.Behind.{behind}
use Rattle.world_fates.proofs.node.StepsOut.{step_now}
use Rattle.world_fates.proofs.node.Submitted.{WasSubmitted, reported_submitted, submitted_later}
use Rattle.world_fates.proofs.node.Telling.{IsMute, IsNoDelivery, IsNoDeliverSm, TellsNone}
use Rattle.world_fates.proofs.node.Tellings.{IsTelling, NodePrint, TakesDeliveries, by_node, prints_at}

-- it answers a request that waited
pub record IsReply (pdu : Pdu) : Type 0 where
  pub requested : Requested
  pub sequence : ℕ
  pub id : ℕ
  pub answer : Answer
  pub is : pdu ≡ reply_pdu requested sequence id answer

-- it is the deliver_sm of an attempt of what was submitted
pub record IsAttempt (past : List NodeInput) (pdu : Pdu) : Type 0 where
  pub session : Session
  pub taken : Submission
  pub submitted : WasSubmitted past taken
  pub is : pdu ≡ delivery_on session taken

abbrev pub IsMade : List NodeInput → Print → Type 0
IsMade past (AtOnce session pdu) = TellsNone pdu.body × IsNoDeliverSm pdu.body
IsMade past (Late session id pdu) = IsReply pdu
IsMade past (Delivers session pdu) = IsAttempt past pdu
IsMade past (Reports session sequence optional report) = WasSubmitted past report.taken × (report.id < 2 ^ 64)
IsMade past (Gone session) = Unit {0}
IsMade past (Declined number) = Unit {0}
IsMade past (Ungranted reason) = Unit {0}

made_later : (inputs past : List NodeInput) (print : Print) → IsMade past print → IsMade (behind inputs past) print
made_later inputs past (AtOnce session pdu) made = made
made_later inputs past (Late session id pdu) made = made
made_later inputs past (Delivers session pdu) made =
    record { session = made.session; taken = made.taken; submitted = submitted_later inputs past made.taken made.submitted; is = made.is }
made_later inputs past (Reports session sequence optional report) made = (submitted_later inputs past report.taken made.0, made.1)
made_later inputs past (Gone session) made = tt
made_later inputs past (Declined number) made = tt
made_later inputs past (Ungranted reason) made = tt

mute_made : (past : List NodeInput) (print : Print) → IsMute print → IsNoDelivery print → IsMade past print
mute_made past (AtOnce session pdu) mute other = mute.once session pdu refl
mute_made past (Late session id pdu) mute other = absurd (mute.late session id pdu refl)
mute_made past (Delivers session pdu) mute other = absurd other
mute_made past (Reports session sequence optional report) mute other =
    absurd (mute.receipt (decimal report.id) (final_code report.final) (record {
      session = session;
      sequence = sequence;
      optional = optional;
      report = report;
      printed = refl;
      message = refl;
      state_is = refl;
    }))
mute_made past (Gone session) mute other = tt
mute_made past (Declined number) mute other = tt
mute_made past (Ungranted reason) mute other = tt

abbrev pub MadeAt : List NodeInput → NodePrint → Type 0
MadeAt past printed = IsMade past printed.1

-- inputs lead to the last, and what is printed was made by then
pub record MadeFrom (last past : List NodeInput) (prints : List NodePrint) : Type 0 where
  pub inputs : List NodeInput
  pub last_is : last ≡ behind inputs past
  pub all : AllByRecursion (MadeAt last) prints

made_then : (last past : List NodeInput) (node : ℕ) (print : Print) (prints : List NodePrint) → IsMade past print → MadeFrom last past prints →
    MadeFrom last past (by_node node print ∷ prints)
made_then last past node print prints made from = record {
  inputs = from.inputs;
  last_is = from.last_is;
  all = (subst (λ (now : List NodeInput). IsMade now print) (sym from.last_is) (made_later from.inputs past print made), from.all);
}

made_next : (last past : List NodeInput) (next : NodeInput) (prints : List NodePrint) → MadeFrom last (next ∷ past) prints → MadeFrom last past prints
made_next last past next prints from = record { inputs = next ∷ from.inputs; last_is = from.last_is; all = from.all }

replies_made : (last past : List NodeInput) (node : ℕ) (connected : List (ℕ × Session)) (replies : List Reply) (prints : List NodePrint) →
    MadeFrom last past prints → MadeFrom last past (prints_at node (told connected replies).prints ++ prints)
unfolding told
replies_made last past node connected [] prints from = from
replies_made last past node connected (reply ∷ replies) prints from =
    at_owner (owner_of connected reply.ticket)
    (replies_made last past node (replied connected reply.ticket (owner_of connected reply.ticket)) replies prints from)
  where
    later : Told
    later = told (replied connected reply.ticket (owner_of connected reply.ticket)) replies

    at_owner : (owner : Option Owned) → MadeFrom last past (prints_at node later.prints ++ prints) →
        MadeFrom last past (prints_at node (in_front (reply_prints reply owner) later).prints ++ prints)
    at_owner None others = others
    at_owner (Some owned) others =
        let request = owned.request in
        made_then last past node (Late owned.number reply.id (reply_pdu request.requested request.sequence reply.id reply.answer))
        (prints_at node later.prints ++ prints)
        (record { requested = request.requested; sequence = request.sequence; id = reply.id; answer = reply.answer; is = refl }) others

pub made_takes : TakesDeliveries MadeFrom
made_takes last past node number session taken prints submitted from =
    made_then last past node (Delivers number (delivery_on session taken)) prints
    (record { session = session; taken = taken; submitted = submitted; is = refl }) from

pub made_telling : (cluster : Cluster) → IsTelling cluster MadeFrom
made_telling cluster = record {
  mute = λ last past node print prints mute other from. made_then last past node print prints (mute_made past print mute other) from;
  report = λ last past node receipt session sequence optional report prints may out is from.
      made_then last past node (Reports session sequence optional report) prints (
        reported_submitted cluster past may out.outputs out.given receipt out.among report.taken is.taken,
        subst (λ (n : ℕ). n < 2 ^ 64) (sym is.id_is) out.small,
      ) from;
  step = λ last past next prints may from. made_next last past next prints from;
  replies = λ last past next connected prints may small from.
      made_next last past next (prints_at next.node (told connected (step_now cluster next past).outputs.replies).prints ++ prints)
      (replies_made last (next ∷ past) next.node connected (step_now cluster next past).outputs.replies prints from);
}
