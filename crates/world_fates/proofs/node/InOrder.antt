-- What prints of nodes tell, one after the other: fates that are decided, and of a message whose fate was told no other state.
use Rattle.std.proofs.Common.{◌≡◌, ℕ, ◌<◌, ◌^◌, List, [], ◌∷◌, ◌++◌, Option, Some, None, inr, inl, refl, sym, ◌∙◌, subst, append-nil}
use Rattle.std.specs.Fmt.{decimal}
use Rattle.std.specs.List.{AllByRecursion}
use Rattle.mc_model.specs.message.Decree.{Final}
use Rattle.mc_model.specs.synod.Lists.{In}
use Rattle.mc_model.specs.node.Outputs.{Reply}
use Rattle.mc_model.specs.cluster.Steps.{Cluster}
use Rattle.mc_model.specs.cluster.World.{World}
use Rattle.mc_laws.proofs.invariant.Reached.{Holds}
use Rattle.node_laws.specs.Clusters.{MayHappen, NodeInput}
use Rattle.node_laws.proofs.cluster.GivenOut.{next_acts, next_run, replies_are}
use Rattle.pdu_tables.specs.StateCodes.{state_code}
use Rattle.fate_chain.specs.States.{state_of}
use Rattle.sessions.specs.Session.{Session}
use Rattle.script_text.specs.Left.{in_front}
use Rattle.script_text.specs.Prints.{Delivers, Late, Print, Reports}
use Rattle.script_text.specs.Pushes.{delivery_on}
use Rattle.script_text.specs.Responses.{reply_pdu}
use Rattle.script_text.specs.Runner.{Owned, Told, owner_of, replied, reply_prints, told}
use Rattle.script_text.specs.Laws.{StatesFate}
use Rattle.world_fates.proofs.node.Decided.{IsDecided}
use Rattle.world_fates.proofs.node.Replying.{AreFit, Grows, replies_fit}
use Rattle.world_fates.proofs.node.Behind.{after_holds, decided_next, next_world, world_after}
use Rattle.world_fates.proofs.node.StepsOut.{step_now}
use Rattle.world_fates.proofs.node.Telling.{IsMute, TellsFates, TellsOnly, delivery_is_mute, fates_told_later, mute_tells_fates, mute_tells_only, reply_is_told}
use Rattle.world_fates.proofs.node.Telling.{reply_tells_fates, reply_tells_only, report_tells_fates, report_tells_no_state}
use Rattle.world_fates.proofs.node.Tellings.{IsTelling, NodePrint, TakesDeliveries, by_node, prints_at}

-- a print of a node tells this state of a message, if it tells one
abbrev pub TellsOnlyAt : ℕ → List ℕ → ℕ → NodePrint → Type 0
TellsOnlyAt node message_id code printed = printed.0 ≡ node → TellsOnly message_id code printed.1

-- after a print of a final state of a message no query_sm_resp of the same node tells another state of it
abbrev pub StatesStay : List NodePrint → Type 0
StatesStay [] = Unit {0}
StatesStay (printed ∷ prints) =
    ((message_id : List ℕ) (state : ℕ) → StatesFate printed.1 message_id state → AllByRecursion (TellsOnlyAt printed.0 message_id state) prints)
    × StatesStay prints

-- what is decided at a node is all that its prints tell
abbrev pub DecidedStay : World → List NodePrint → Type 0
DecidedStay w prints =
    (node id : ℕ) (final : Final) → id < 2 ^ 64 → IsDecided node w id final
    → AllByRecursion (TellsOnlyAt node (decimal id) (state_code (state_of (Some final)))) prints

-- From a world on: the prints tell the fates that are decided in the end, and of a message whose fate was told no other state.
pub record Tell (first : World) (prints : List NodePrint) : Type 0 where
  pub last : World
  pub holds : Holds last
  pub grows : Grows first last
  pub fates : AllByRecursion (λ (printed : NodePrint). TellsFates printed.0 last printed.1) prints
  pub ordered : StatesStay prints
  pub stay : DecidedStay first prints

nothing_told : (w : World) → Holds w → Tell w []
nothing_told w h = record {
  last = w;
  holds = h;
  grows = λ node id final is. is;
  fates = tt;
  ordered = tt;
  stay = λ node id final small is. tt;
}

told_before : (first middle : World) (prints : List NodePrint) → Grows first middle → Tell middle prints → Tell first prints
told_before first middle prints grows tell = record {
  last = tell.last;
  holds = tell.holds;
  grows = λ node id final is. tell.grows node id final (grows node id final is);
  fates = tell.fates;
  ordered = tell.ordered;
  stay = λ node id final small is. tell.stay node id final small (grows node id final is);
}

-- one print more, which tells what is decided, and of what is decided no other state
told_then : (w : World) (node : ℕ) (print : Print) (prints : List NodePrint) → TellsFates node w print →
    ((id : ℕ) (final : Final) → id < 2 ^ 64 → IsDecided node w id final → TellsOnly (decimal id) (state_code (state_of (Some final))) print) →
    Tell w prints → Tell w (by_node node print ∷ prints)
told_then w node print prints fates only tell = record {
  last = tell.last;
  holds = tell.holds;
  grows = tell.grows;
  fates = (fates_told_later node w tell.last print tell.grows fates, tell.fates);
  ordered = (
    λ message_id state fate.
        let it = fates message_id state fate in
        subst (λ (code : ℕ). AllByRecursion (TellsOnlyAt node message_id code) prints) (sym it.state_is)
        (subst (λ (m : List ℕ). AllByRecursion (TellsOnlyAt node m (state_code (state_of (Some it.final)))) prints) it.message
        (tell.stay node it.id it.final it.small it.decided)),
    tell.ordered,
  );
  stay = λ other id final small is. (
    λ same. only id final small (subst (λ (n : ℕ). IsDecided n w id final) (sym same) is),
    tell.stay other id final small is,
  );
}

-- ---- replies

replies_tell : (node : ℕ) (first last : World) (connected : List (ℕ × Session)) (replies : List Reply) (prints : List NodePrint) →
    ((reply : Reply) → In reply replies → reply.id < 2 ^ 64) → AreFit node first replies last → Tell last prints →
    Tell first (prints_at node (told connected replies).prints ++ prints)
unfolding told
replies_tell node first last connected [] prints small fit tell = told_before first last prints fit tell
replies_tell node first last connected (reply ∷ replies) prints small fit tell =
    told_before first fit.0 _ fit.1
    (at_owner (owner_of connected reply.ticket)
    (replies_tell node fit.0 last (replied connected reply.ticket (owner_of connected reply.ticket)) replies prints
    (λ other among. small other (inr among)) fit.3 tell))
  where
    later : Told
    later = told (replied connected reply.ticket (owner_of connected reply.ticket)) replies

    at_owner : (owner : Option Owned) → Tell fit.0 (prints_at node later.prints ++ prints) →
        Tell fit.0 (prints_at node (in_front (reply_prints reply owner) later).prints ++ prints)
    at_owner None behind = behind
    at_owner (Some owned) behind =
        let request = owned.request in
        let print = Late owned.number reply.id (reply_pdu request.requested request.sequence reply.id reply.answer) in
        let is_told = reply_is_told owned.number request.requested request.sequence reply.id reply.answer in
        let short = small reply (inl refl) in
        told_then fit.0 node print (prints_at node later.prints ++ prints)
        (reply_tells_fates node fit.0 reply.id reply.answer print short is_told fit.2)
        (λ id final id_small is. reply_tells_only node fit.0 id reply.id final reply.answer print id_small short is is_told fit.2)
        behind

-- ---- where a cluster stands

-- the prints tell so from where inputs lead
abbrev pub TellFrom : Cluster → List NodeInput → List NodeInput → List NodePrint → Type 0
TellFrom cluster last past prints = (may : MayHappen cluster past) → Tell (world_after cluster past may) prints

pub nothing_from : (cluster : Cluster) (last past : List NodeInput) → TellFrom cluster last past []
nothing_from cluster last past may = nothing_told (world_after cluster past may) (after_holds cluster past may)

module _ (cluster : Cluster) (next : NodeInput) (past : List NodeInput) (happens : MayHappen cluster (next ∷ past)) (may : MayHappen cluster past) where
  -- the same input, behind inputs that may come
  abbrev then_happens : MayHappen cluster (next ∷ past)
  then_happens = (happens.0, happens.1, happens.2, happens.3, may)

  abbrev first : World
  first = world_after cluster past may

  abbrev last : World
  last = world_after cluster (next ∷ past) then_happens

  step_tells : (prints : List NodePrint) → Tell last prints → Tell first prints
  step_tells prints tell =
      told_before first last prints (decided_next cluster next past then_happens) tell

  fit : AreFit next.node first (step_now cluster next past).outputs.replies last
  fit = subst (λ (replies : List Reply). AreFit next.node first replies last)
      (append-nil _ ∙ sym (replies_are cluster next past then_happens))
      (replies_fit next.node first (after_holds cluster past may) (next_acts cluster next past then_happens) (next_run cluster next past then_happens) [] last
      (λ node id final is. subst (λ (w : World). IsDecided node w id final) (sym (next_world cluster next past then_happens)) is))

  step_replies_tell : (connected : List (ℕ × Session)) (prints : List NodePrint) →
      ((reply : Reply) → In reply (step_now cluster next past).outputs.replies → reply.id < 2 ^ 64) → Tell last prints →
      Tell first (prints_at next.node (told connected (step_now cluster next past).outputs.replies).prints ++ prints)
  step_replies_tell connected prints small tell =
      replies_tell next.node first last connected (step_now cluster next past).outputs.replies prints small fit tell

mute_then : (cluster : Cluster) (past : List NodeInput) (may : MayHappen cluster past) (node : ℕ) (print : Print) (prints : List NodePrint) → IsMute print →
    Tell (world_after cluster past may) prints → Tell (world_after cluster past may) (by_node node print ∷ prints)
mute_then cluster past may node print prints mute tell =
    told_then (world_after cluster past may) node print prints (mute_tells_fates node (world_after cluster past may) print mute)
    (λ id final small is. mute_tells_only (decimal id) (state_code (state_of (Some final))) print mute) tell

pub tell_takes : (cluster : Cluster) → TakesDeliveries (TellFrom cluster)
tell_takes cluster end past node number session taken prints submitted tell may =
    mute_then cluster past may node (Delivers number (delivery_on session taken)) prints (delivery_is_mute number session taken) (tell may)

pub tell_telling : (cluster : Cluster) → IsTelling cluster (TellFrom cluster)
tell_telling cluster = record {
  mute = λ last past node print prints mute other tell may. mute_then cluster past may node print prints mute (tell may);
  report = λ last past node receipt session sequence optional report prints happens out is tell may.
      let due = (out.due may).decided report.final is.ends in
      told_then (world_after cluster past may) node (Reports session sequence optional report) prints
      (report_tells_fates node (world_after cluster past may) session sequence optional report
      (subst (λ (id : ℕ). id < 2 ^ 64) (sym is.id_is) out.small)
      (subst (λ (id : ℕ). IsDecided node (world_after cluster past may) id report.final) (sym is.id_is) due))
      (λ id final small decided state tells. absurd (report_tells_no_state session sequence optional report (decimal id) state tells))
      (tell may);
  step = λ last past next prints happens tell may.
      step_tells cluster next past happens may prints (tell (happens.0, happens.1, happens.2, happens.3, may));
  replies = λ last past next connected prints happens small tell may.
      step_replies_tell cluster next past happens may connected prints small (tell (happens.0, happens.1, happens.2, happens.3, may));
}
