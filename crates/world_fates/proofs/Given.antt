-- What a cluster has given out after inputs, and what a print tells of it.
use Rattle.std.proofs.Common.{◌≡◌, ℕ, ◌<◌, ◌^◌, Bool, List, [], ◌∷◌, Option, Some, None, inl, inr, refl, sym, ◌∙◌, ap, subst, ◌++◌, append-nil}
use Rattle.std.specs.Fmt.{decimal}
use Rattle.std.specs.List.{AllByRecursion}
use Rattle.mc_model.specs.message.Chain.{final_in}
use Rattle.mc_model.specs.message.Decree.{Decree, Deleted, Final}
use Rattle.mc_model.specs.synod.Lists.{In}
use Rattle.mc_model.specs.node.Outputs.{Outputs, Receipt, Reply}
use Rattle.mc_model.specs.node.Replies.{Removed}
use Rattle.mc_model.specs.cluster.Fate.{shown_by}
use Rattle.mc_model.specs.cluster.Steps.{Cluster}
use Rattle.node_laws.specs.Clusters.{NodeInput, StatesFinal, cluster_outputs}
use Rattle.node_laws.proofs.cluster.GivenOut.{removal_ends}
use Rattle.pdu_tables.specs.StateCodes.{state_code}
use Rattle.fate_chain.specs.States.{final_code, state_of}
use Rattle.receipts.specs.Texts.{Report}
use Rattle.sessions.specs.Session.{Session}
use Rattle.script_text.specs.Left.{in_front}
use Rattle.script_text.specs.Prints.{Delivers, Late, Print, Reports}
use Rattle.script_text.specs.Pushes.{delivery_on}
use Rattle.script_text.specs.Responses.{reply_pdu}
use Rattle.script_text.specs.Runner.{Owned, Told, owner_of, replied, reply_prints, told}
use Rattle.script_text.specs.Settings.{Settings}
use Rattle.script_text.specs.Laws.{StatesFate}
use Rattle.script_text.specs.Prints.{At, WorldPrint}
use Rattle.script_text.specs.World.{World}
use Rattle.world_fates.proofs.node.Reports.{IsReportOf}
use Rattle.world_fates.proofs.node.Once.{of_all}
use Rattle.world_fates.proofs.node.Telling.{IsMute, IsTold, Shows, delivery_is_mute, reply_is_told, report_tells_no_deletion, report_tells_no_state}
use Rattle.world_fates.proofs.node.Behind.{behind, given_later}
use Rattle.world_fates.proofs.node.ReceiptsOut.{IsReceiptOut}
use Rattle.world_fates.proofs.node.StepsOut.{step_now}
use Rattle.world_fates.proofs.node.Tellings.{IsTelling, NodePrint, TakesDeliveries, by_node, prints_at}
use Rattle.world_fates.proofs.Worlds.{told_by, told_by_all}
use Rattle.world_fates.proofs.Printing.{WorldSo}

module _ (cluster : Cluster) where
  -- ---- what is told

  -- a final state of a message was given out
  pub record WasGivenOut (past : List NodeInput) (id : ℕ) (final : Final) : Type 0 where
    pub outputs : Outputs
    pub among : In outputs (cluster_outputs cluster past)
    pub states : StatesFinal outputs id final

  -- it is what a print tells
  pub record KnowsFate (past : List NodeInput) (message_id : List ℕ) (state : ℕ) : Type 0 where
    pub id : ℕ
    pub final : Final
    pub small : id < 2 ^ 64
    pub message : decimal id ≡ message_id
    pub given : WasGivenOut past id final
    pub state_is : state ≡ state_code (state_of (Some final))

  abbrev pub TellsGiven : List NodeInput → Print → Type 0
  TellsGiven past print = (message_id : List ℕ) (state : ℕ) → StatesFate print message_id state → KnowsFate past message_id state

  pub known_later : (inputs past : List NodeInput) (message_id : List ℕ) (state : ℕ) → KnowsFate past message_id state →
      KnowsFate (behind inputs past) message_id state
  known_later inputs past message_id state it = record {
    id = it.id;
    final = it.final;
    small = it.small;
    message = it.message;
    given = record {
      outputs = it.given.outputs;
      among = given_later cluster inputs past it.given.outputs it.given.among;
      states = it.given.states;
    };
    state_is = it.state_is;
  }

  told_later : (inputs past : List NodeInput) (print : Print) → TellsGiven past print → TellsGiven (behind inputs past) print
  told_later inputs past print tells message_id state fate = known_later inputs past message_id state (tells message_id state fate)

  pub mute_tells : (past : List NodeInput) (print : Print) → IsMute print → TellsGiven past print
  mute_tells past print mute message_id state (inl tells) = absurd (mute.state message_id state tells.0)
  mute_tells past print mute message_id state (inr (inl tells)) = absurd (mute.deletion message_id tells.0)
  mute_tells past print mute message_id state (inr (inr tells)) = absurd (mute.receipt message_id state tells)

  -- ---- replies

  -- a reply was given out, and ESME_ROK to a cancel_sm tells of a deletion
  pub record IsReplyOut (past : List NodeInput) (reply : Reply) : Type 0 where
    pub small : reply.id < 2 ^ 64
    pub outputs : Outputs
    pub given : In outputs (cluster_outputs cluster past)
    pub among : In reply outputs.replies
    pub removes : (chain : List Decree) → reply.answer ≡ Removed chain → final_in chain ≡ Some Deleted

  reply_states : (past : List NodeInput) (reply : Reply) (out : IsReplyOut past reply) (chain : List Decree) (final : Final) →
      shown_by reply.answer ≡ Some chain → final_in chain ≡ Some final → WasGivenOut past reply.id final
  reply_states past reply out chain final shown ends = record {
    outputs = out.outputs;
    among = out.given;
    states = record {
      chain = chain;
      tells = inl (record { reply = reply; among = out.among; about = refl; shown = shown });
      state = ends;
    };
  }

  pub reply_tells : (past : List NodeInput) (reply : Reply) (print : Print) → IsReplyOut past reply → IsTold reply.id reply.answer print →
      TellsGiven past print
  reply_tells past reply print out told message_id state (inl tells) =
      let (message, shows) = told.state message_id state tells.0 in
      by_final message shows (final_in shows.chain) refl
    where
      by_final : decimal reply.id ≡ message_id → (shows : Shows reply.answer state) → (final : Option Final) → final_in shows.chain ≡ final →
          KnowsFate past message_id state
      by_final message shows None is = absurd (tells.1 (sym shows.code_is ∙ ap (λ (f : Option Final). state_code (state_of f)) is))
      by_final message shows (Some final) is = record {
        id = reply.id;
        final = final;
        small = out.small;
        message = message;
        given = reply_states past reply out shows.chain final (ap shown_by shows.answer_is) is;
        state_is = sym shows.code_is ∙ ap (λ (f : Option Final). state_code (state_of f)) is;
      }
  reply_tells past reply print out told message_id state (inr (inr tells)) = absurd (told.receipt message_id state tells)
  reply_tells past reply print out told message_id state (inr (inl tells)) =
      let (message, removes) = told.deletion message_id tells.0 in
      record {
        id = reply.id;
        final = Deleted;
        small = out.small;
        message = message;
        given = reply_states past reply out removes.chain Deleted (ap shown_by removes.answer_is) (out.removes removes.chain removes.answer_is);
        state_is = tells.1;
      }

  -- ---- receipts

  pub report_tells : (node : ℕ) (past : List NodeInput) (receipt : Receipt) (session sequence : ℕ) (optional : Bool) (report : Report) →
      IsReceiptOut cluster node past receipt → IsReportOf receipt.id receipt.chain report → TellsGiven past (Reports session sequence optional report)
  report_tells node past receipt session sequence optional report out is message_id state (inl tells) =
      absurd (report_tells_no_state session sequence optional report message_id state tells.0)
  report_tells node past receipt session sequence optional report out is message_id state (inr (inl tells)) =
      absurd (report_tells_no_deletion session sequence optional report message_id tells.0)
  report_tells node past receipt session sequence optional report out is message_id state (inr (inr tells)) =
      let same = report_same tells.session tells.sequence tells.optional tells.report tells.printed in
      record {
        id = receipt.id;
        final = report.final;
        small = out.small;
        message = ap decimal (sym is.id_is) ∙ ap (λ (r : Report). decimal r.id) same ∙ tells.message;
        given = record {
          outputs = out.outputs;
          among = out.given;
          states = record { chain = receipt.chain; tells = inr out.among; state = is.ends };
        };
        state_is = sym (ap (λ (r : Report). final_code r.final) same ∙ tells.state_is);
      }
    where
      report_same : (other number : ℕ) (knows : Bool) (told : Report) → Reports session sequence optional report ≡ Reports other number knows told →
          report ≡ told
      report_same other number knows told is = cc

  -- ---- prints, one after the other

  -- what a node prints tells what was given out
  abbrev pub TellsGivenAt : List NodeInput → NodePrint → Type 0
  TellsGivenAt past printed = TellsGiven past printed.1

  -- inputs lead to the last, and what is printed was given out by then
  pub record GivenFrom (last past : List NodeInput) (prints : List NodePrint) : Type 0 where
    pub inputs : List NodeInput
    pub last_is : last ≡ behind inputs past
    pub tell : AllByRecursion (TellsGivenAt last) prints

  given_then : (last past : List NodeInput) (node : ℕ) (print : Print) (prints : List NodePrint) → TellsGiven past print → GivenFrom last past prints →
      GivenFrom last past (by_node node print ∷ prints)
  given_then last past node print prints tells given = record {
    inputs = given.inputs;
    last_is = given.last_is;
    tell = (
      subst (λ (now : List NodeInput). TellsGiven now print) (sym given.last_is) (told_later given.inputs past print tells),
      given.tell,
    );
  }

  -- one more input
  given_next : (last past : List NodeInput) (next : NodeInput) (prints : List NodePrint) → GivenFrom last (next ∷ past) prints → GivenFrom last past prints
  given_next last past next prints given = record { inputs = next ∷ given.inputs; last_is = given.last_is; tell = given.tell }

  -- reply after reply
  replies_given : (last past : List NodeInput) (node : ℕ) (connected : List (ℕ × Session)) (replies : List Reply) (prints : List NodePrint) →
      ((reply : Reply) → In reply replies → IsReplyOut past reply) → GivenFrom last past prints →
      GivenFrom last past (prints_at node (told connected replies).prints ++ prints)
  unfolding told
  replies_given last past node connected [] prints out given = given
  replies_given last past node connected (reply ∷ replies) prints out given =
      at_owner (owner_of connected reply.ticket)
      (replies_given last past node (replied connected reply.ticket (owner_of connected reply.ticket)) replies prints
      (λ other among. out other (inr among)) given)
    where
      later : Told
      later = told (replied connected reply.ticket (owner_of connected reply.ticket)) replies

      at_owner : (owner : Option Owned) → GivenFrom last past (prints_at node later.prints ++ prints) →
          GivenFrom last past (prints_at node (in_front (reply_prints reply owner) later).prints ++ prints)
      at_owner None others = others
      at_owner (Some owned) others =
          let request = owned.request in
          let print = Late owned.number reply.id (reply_pdu request.requested request.sequence reply.id reply.answer) in
          given_then last past node print (prints_at node later.prints ++ prints)
          (reply_tells past reply print (out reply (inl refl)) (reply_is_told owned.number request.requested request.sequence reply.id reply.answer))
          others

  pub given_takes : TakesDeliveries GivenFrom
  given_takes last past node number session taken prints submitted given =
      let print = Delivers number (delivery_on session taken) in
      given_then last past node print prints (mute_tells past print (delivery_is_mute number session taken)) given

  pub given_telling : IsTelling cluster GivenFrom
  given_telling = record {
    mute = λ last past node print prints mute other given. given_then last past node print prints (mute_tells past print mute) given;
    report = λ last past node receipt session sequence optional report prints may out is given.
        given_then last past node (Reports session sequence optional report) prints
        (report_tells node past receipt session sequence optional report out is) given;
    step = λ last past next prints may given. given_next last past next prints given;
    replies = λ last past next connected prints may small given.
        given_next last past next (prints_at next.node (told connected (step_now cluster next past).outputs.replies).prints ++ prints)
        (replies_given last (next ∷ past) next.node connected (step_now cluster next past).outputs.replies prints
        (λ reply among. record {
          small = small reply among;
          outputs = (step_now cluster next past).outputs;
          given = inl refl;
          among = among;
          removes = removal_ends cluster next past may reply among;
        })
        given);
  }

-- what lines print that lead to a world was given out then
pub given_then_so : (settings : Settings) (inputs : List NodeInput) (world : World) (prints : List WorldPrint)
    (so : WorldSo settings GivenFrom given_telling given_takes inputs world prints)
    (node : ℕ) (print : Print) → In (At node print) prints → TellsGiven so.cluster so.past print
given_then_so settings inputs world prints so node print among =
    let given = so.tell so.past [] (record { inputs = []; last_is = refl; tell = tt }) in
    of_all (TellsGivenAt so.cluster so.past) (told_by prints) (by_node node print)
    (subst (AllByRecursion (TellsGivenAt so.cluster so.past)) (append-nil (told_by prints)) given.tell) (told_by_all node print prints among)
