-- The message of a cancel_sm that was answered ESME_ROK is granted no more, and told DELETED.
use Rattle.std.proofs.Common.{◌≡◌, ℕ, ◌≤◌, Bool, true, false, List, [], ◌∷◌, ◌++◌, map, Option, Some, None, refl}
use Rattle.std.proofs.Common.{sym, ◌∙◌, ap, subst, inl, inr, append_assoc, arith}
use Rattle.std.specs.Prelude.{if◌then◌else◌}
use Rattle.std.specs.Fmt.{decimal}
use Rattle.std.specs.Int.{to_be_bytes, w32}
use Rattle.std.proofs.lemmas.Fmt.{decimal_injective}
use Rattle.mc_model.specs.message.Ids.{IsNode}
use Rattle.pdu_frames.specs.Frames.{cut}
use Rattle.script_lines.specs.Said.{IsSession}
use Rattle.mc_model.specs.node.Grant.{GrantRefusal}
use Rattle.mc_model.specs.synod.Lists.{In}
use Rattle.mc_parts.proofs.Membership.{in_left, in_right}
use Rattle.node_model.specs.Attempts.{grant_refusal}
use Rattle.node_model.specs.Granted.{known_slot}
use Rattle.pdu_bodies.specs.declared.pdu.Pdu.{Pdu}
use Rattle.script_lines.specs.Said.{Grant, Said, names_within, said_of, said_within, ◌>>=◌}
use Rattle.script_text.specs.Laws.{StatesFate, pdu_in}
use Rattle.script_text.specs.Prints.{Late, Print, Ungranted}
use Rattle.script_text.specs.Runner.{Runner, granted_unless, on_grant}
use Rattle.script_text.specs.Settings.{script_settings}
use Rattle.script_text.specs.Prints.{At, Refuses, WorldPrint}
use Rattle.script_text.specs.Script.{Joins, Stage, Stepped, nodes_of, step_by, step_of}
use Rattle.script_text.specs.World.{Moved, NodeInput, World, grants, is_down, is_up, no_node, refuses, runner_at, shared, up_or_refuses}
use Rattle.world_fates.proofs.Answering.{joins_more}
use Rattle.world_fates.specs.Questions.{IsAskedAt}
use Rattle.world_fates.proofs.Fresh.{later_queries}
use Rattle.world_fates.proofs.Printing.{first_so}
use Rattle.world_fates.proofs.Granting.{attempts_refused}
use Rattle.world_fates.proofs.Lines.{printed_at}
use Rattle.octet_laws.specs.Laws.{ACancelledMessageStaysDeleted}
use Rattle.octet_laws.specs.Sessions.{IsRequest, IsGrantedNoMore, IsToldDeleted, heard_on}
use Rattle.octet_laws.proofs.Cancelled.{IsCancelled, heard_octets, is_cancelled, least_node, none_framed}
use Rattle.octet_laws.proofs.Fates.{lines_tell, some_pdu}
use Rattle.octet_laws.proofs.Lines.{brought_by, session_of}
use Rattle.octet_laws.proofs.Printed.{MadeFrom, made_takes, made_telling}
use Rattle.octet_laws.proofs.Queried.{some_number}
use Rattle.octet_laws.proofs.Reading.{header_read, is_request}
use Rattle.octet_laws.proofs.Streams.{octets_of_none}
use Rattle.octet_laws.proofs.Written.{IsWritten, lines_hear, written_so}

-- ---- lines that stand behind lines that join

some_same : (one other : Stepped) → Some one ≡ Some other → one ≡ other
some_same one other is = cc

-- what they print, and that they join from there
pub record IsBehind (middle : Stage) (prints : List WorldPrint) (lines : List (List ℕ)) (whole : List WorldPrint) (last : Stage) : Type 0 where
  pub coming : List NodeInput
  pub others : List WorldPrint
  pub joins : Joins script_settings middle lines coming others last
  pub whole_is : whole ≡ prints ++ others

pub joins_behind : (first : Stage) (before : List (List ℕ)) (came : List NodeInput) (prints : List WorldPrint) (middle : Stage) →
    Joins script_settings first before came prints middle → (lines : List (List ℕ)) (all : List NodeInput) (whole : List WorldPrint) (last : Stage) →
    Joins script_settings first (before ++ lines) all whole last → IsBehind middle prints lines whole last
unfolding Joins
joins_behind first [] came prints middle joins lines all whole last more = record {
  coming = all;
  others = whole;
  joins = subst (λ (stage : Stage). Joins script_settings stage lines all whole last) (sym joins.2) more;
  whole_is = ap (λ (p : List WorldPrint). p ++ whole) (sym joins.1);
}
joins_behind first (line ∷ before) came prints middle joins lines all whole last more =
    let same = some_same more.0 joins.0 (sym more.3 ∙ joins.3) in
    let rest = joins_behind joins.0.next before joins.1 joins.2 middle joins.6 lines more.1 more.2 last
    (subst (λ (d : Stepped). Joins script_settings d.next (before ++ lines) more.1 more.2 last) same more.6) in
    record {
      coming = rest.coming;
      others = rest.others;
      joins = rest.joins;
      whole_is = more.5 ∙ ap (λ (d : Stepped). d.prints ++ more.2) same ∙ ap (λ (p : List WorldPrint). joins.0.prints ++ p) rest.whole_is
          ∙ sym (append_assoc joins.0.prints joins.2 rest.others) ∙ ap (λ (p : List WorldPrint). p ++ rest.others) (sym joins.5);
    }

-- the first of them join, too
pub record IsFront (first : Stage) (before : List (List ℕ)) : Type 0 where
  pub came : List NodeInput
  pub prints : List WorldPrint
  pub middle : Stage
  pub joins : Joins script_settings first before came prints middle

joins_front : (first : Stage) (before lines : List (List ℕ)) (all : List NodeInput) (whole : List WorldPrint) (last : Stage) →
    Joins script_settings first (before ++ lines) all whole last → IsFront first before
unfolding Joins
joins_front first [] lines all whole last more = record { came = []; prints = []; middle = first; joins = (refl, refl, refl) }
joins_front first (line ∷ before) lines all whole last more =
    let rest = joins_front more.0.next before lines more.1 more.2 last more.6 in
    record {
      came = more.0.inputs ++ rest.came;
      prints = more.0.prints ++ rest.prints;
      middle = rest.middle;
      joins = (more.0, rest.came, rest.prints, more.3, refl, refl, rest.joins);
    }

-- lines that lead to no world print nothing
nothing_printed : (lines : List (List ℕ)) (came : List NodeInput) (prints : List WorldPrint) → Joins script_settings None lines came prints None → prints ≡ []
nothing_printed lines came prints joins =
    first_so script_settings (λ cluster. MadeFrom) made_telling (λ cluster. made_takes) lines came prints None joins

-- ---- a line that asks for an attempt

-- a line that does something names nodes that there are
asks_within : (stage : Stage) (line : List ℕ) (said : Said) (done : Stepped) → said_of line ≡ Some said → step_of script_settings stage line ≡ Some done →
    said_within (nodes_of stage) line ≡ Some said
unfolding step_of
asks_within stage line said done is does = by_said (said_of line) is (step_none stage) does
  where
    step_none : (stage : Stage) → step_by script_settings stage None ≡ Some done → ⊥
    step_none None is = cc
    step_none (Some world) is = cc

    by_test : (one : Said) (test : Bool) → Some one ≡ Some said → (step_by script_settings stage None ≡ Some done → ⊥) →
        step_by script_settings stage (if test then Some one else None) ≡ Some done → (if test then Some one else None) ≡ Some said
    by_test one true is bad does = is
    by_test one false is bad does = absurd (bad does)

    by_said : (found : Option Said) → found ≡ Some said → (step_by script_settings stage None ≡ Some done → ⊥) →
        step_by script_settings stage (found >>= (λ (one : Said). if names_within (nodes_of stage) one then Some one else None)) ≡ Some done →
        (found >>= (λ (one : Said). if names_within (nodes_of stage) one then Some one else None)) ≡ Some said
    by_said None is bad does = absurd cc
    by_said (Some one) is bad does = by_test one (names_within (nodes_of stage) one) is bad does

-- if nothing was granted, it prints no PDU
grants_none : (world : World) (node id : ℕ) → (grants world node id).inputs ≡ [] → (other : ℕ) (print : Print) (pdu : Pdu) →
    In (At other print) (grants world node id).prints → pdu_in print ≡ Some pdu → ⊥
grants_none world node id none other print pdu among brings = by_runner (runner_at world node) none among
  where
    refused : (reason : ℕ) → In (At other print) (Refuses reason ∷ []) → ⊥
    refused reason (inl same) = cc
    refused reason (inr nothing) = nothing

    some_input : {A : Type 0} (x : A) (xs : List A) → x ∷ xs ≡ [] → ⊥
    some_input x xs is = cc

    only : (reason : ℕ) → print ≡ Ungranted reason → ⊥
    only reason is = let both = sym (ap pdu_in is) ∙ brings in cc

    by_refusal : (runner : Runner) (refusal : Option GrantRefusal) →
        map {B = NodeInput} (λ input. record { node = node; input = input }) (granted_unless runner id (known_slot runner.node.kept id) refusal).inputs ≡ [] →
        In print (granted_unless runner id (known_slot runner.node.kept id) refusal).prints → ⊥
    by_refusal runner None none among = some_input _ _ none
    by_refusal runner (Some refusal) none (inl same) = only _ same
    by_refusal runner (Some refusal) none (inr nothing) = nothing

    by_up : (runner : Runner) (up : Bool) → (if up then shared world node (on_grant runner id) else refuses world is_down).inputs ≡ [] →
        In (At other print) (if up then shared world node (on_grant runner id) else refuses world is_down).prints → ⊥
    by_up runner true none among =
        by_refusal runner (grant_refusal runner.node.setup runner.node.kept id) none (printed_at node other (on_grant runner id).prints print among).1
    by_up runner false none among = refused is_down among

    by_runner : (found : Option Runner) → (up_or_refuses world (λ runner. shared world node (on_grant runner id)) found).inputs ≡ [] →
        In (At other print) (up_or_refuses world (λ runner. shared world node (on_grant runner id)) found).prints → ⊥
    by_runner None none among = refused no_node among
    by_runner (Some runner) none among = by_up runner (is_up runner) none among

-- ---- the message is granted no more

module _ (before : List (List ℕ)) (line : List ℕ) (node session sequence : ℕ) (it : IsCancelled before line node session sequence) where
  abbrev pub lines : List (List ℕ)
  lines = before ++ line ∷ []

  pub joins_now : Joins script_settings None lines (it.came ++ it.done.inputs) (it.prints ++ it.done.prints) it.done.next
  joins_now = joins_more script_settings None (Some it.world) before it.came it.prints line it.done it.joins it.does

  pub printed_now : In (At node (Late session it.id it.pdu)) (it.prints ++ it.done.prints)
  printed_now = in_right (At node (Late session it.id it.pdu)) it.prints it.done.prints it.printed

  pub states_now : StatesFate (Late session it.id it.pdu) it.message_id 4
  states_now = inr (inl (
    record { session = session; id = it.id; pdu = it.pdu; printed = refl; status = it.status; body = it.body; message = it.names },
    refl,
  ))

  pub granted_no_more : IsGrantedNoMore lines it.message_id
  unfolding step_of
  granted_no_more later asking there id written octets says named among is_pdu =
      let so = written_so (lines ++ later) asking written among in
      let of_line = brought_by so.done.prints written octets (subst (In written) so.written_is among) is_pdu in
      let brings = of_line.brings in
      let behind = joins_behind None lines _ _ it.done.next joins_now later so.joined.came so.joined.prints so.joined.last so.joined.joins in
      let within = asks_within so.joined.last asking (Grant there id) so.done says so.does in
      let nothing = attempts_refused script_settings lines later _ behind.coming _ behind.others it.done.next so.joined.last asking so.done node there id
      (Late session it.id it.pdu) 4 joins_now behind.joins printed_now
      (subst (λ (m : List ℕ). StatesFate (Late session it.id it.pdu) m 4) (sym named) states_now) within so.does in
      at_stage so.joined.last so.done within so.does nothing.inputs brings.node brings.printed brings.pdu
      (subst (λ (p : WorldPrint). In p so.done.prints) brings.print_is of_line.among) brings.pdu_is
    where
      at_stage : (stage : Stage) (done : Stepped) → said_within (nodes_of stage) asking ≡ Some (Grant there id) →
          step_of script_settings stage asking ≡ Some done →
          done.inputs ≡ [] → (other : ℕ) (print : Print) (pdu : Pdu) → In (At other print) done.prints → pdu_in print ≡ Some pdu → ⊥
      at_stage None done within does none other print pdu among brings = absurd (let step = sym (ap (step_by script_settings None) within) ∙ does in cc)
      at_stage (Some world) done within does none other print pdu among brings =
          let same = some_same (record { next = Some moved.next; inputs = moved.inputs; prints = moved.prints }) done
          (sym (ap (step_by script_settings (Some world)) within) ∙ does) in
          grants_none world there id (ap (λ (d : Stepped). d.inputs) same ∙ none) other print pdu
          (subst (λ (d : Stepped). In (At other print) d.prints) (sym same) among) brings
        where
          moved : Moved
          moved = grants world there id

  -- ---- and told DELETED

  -- what waited came in octets
  none_waited : (front : List (List ℕ)) (came : List NodeInput) (prints : List WorldPrint) (world : World) →
      Joins script_settings None front came prints (Some world) → (other number : ℕ) → 1 ≤ other → (sequence : ℕ) → IsAskedAt world other number sequence →
      (there at : ℕ) → IsNode there → IsSession at → decimal other ≡ decimal there → decimal number ≡ decimal at → (also : ℕ) →
      to_be_bytes w32 sequence ≡ to_be_bytes w32 also →
      ((frame : List ℕ) → In frame (cut (heard_on there at front)).frames → IsRequest frame also → ⊥) → ⊥
  none_waited front came prints world joins other number least sequence asked there at is_node is_session nodes sessions also bytes none =
      let hears = lines_hear other number least front came prints (Some world) joins in
      let stream = heard_on other number front in
      let tied = ((hears.0 asked.runner asked.there).sound.each asked.session asked.connected).tied asked.request asked.waits in
      let has = is_request stream (heard_octets other number [] [] front octets_of_none) tied.frame tied.among tied.pdu tied.reads tied.asks also
      (ap (to_be_bytes w32) (tied.sequence_is ∙ asked.sequence_is) ∙ bytes) in
      elim hears.1 [
        | inl nothing ↦ none_framed tied.frame (subst (λ (s : List ℕ). In tied.frame (cut s).frames) nothing tied.among)
        | inr small ↦
            let one = decimal_injective other there small.0 (let most = is_node.most in omega (arith, most)) nodes in
            let two = decimal_injective number at small.1 (let most = is_session.most in omega (arith, most)) sessions in
            none tied.frame
            (subst (λ (n : ℕ). In tied.frame (cut (heard_on n at front)).frames) one
            (subst (λ (s : ℕ). In tied.frame (cut (heard_on other s front)).frames) two tied.among)) has
      ]

  pub told_deleted : IsToldDeleted lines it.message_id
  told_deleted meanwhile later asking there at octets answer w spelled message none =
      let so = written_so ((lines ++ meanwhile) ++ later) asking w.written w.among in
      let front = joins_front None (lines ++ meanwhile) later so.joined.came so.joined.prints so.joined.last so.joined.joins in
      let since = joins_behind None lines _ _ it.done.next joins_now meanwhile front.came front.prints front.middle front.joins in
      by_middle so front.came front.prints front.middle front.joins
      (subst (In (At node print_now)) (sym since.whole_is) (in_left (At node print_now) (it.prints ++ it.done.prints) since.others printed_now))
    where
      print_now : Print
      print_now = Late session it.id it.pdu

      by_middle : IsWritten ((lines ++ meanwhile) ++ later) asking → (came : List NodeInput) (prints : List WorldPrint) (middle : Stage) →
          Joins script_settings None (lines ++ meanwhile) came prints middle → In (At node print_now) prints → answer.message_state ≡ 4
      by_middle so came prints None joins printed = absurd (subst (In (At node print_now)) (nothing_printed (lines ++ meanwhile) came prints joins) printed)
      by_middle so came prints (Some world) joins printed =
          let of_line = brought_by so.done.prints w.written octets (subst (In w.written) so.written_is w.among) w.is_pdu in
          let brings = of_line.brings in
          let print = brings.printed in
          let here = subst (λ (p : WorldPrint). In p so.done.prints) brings.print_is of_line.among in
          let whole = joins_more script_settings None so.joined.last ((lines ++ meanwhile) ++ later) so.joined.came so.joined.prints asking so.done
          so.joined.joins so.does in
          let tells = lines_tell (((lines ++ meanwhile) ++ later) ++ asking ∷ []) _ _ so.done.next whole brings.node print brings.pdu octets it.message_id
          answer.message_state (in_right (At brings.node print) so.joined.prints so.done.prints here) brings.pdu_is brings.octets_are answer spelled message
          refl in
          let behind = joins_behind None (lines ++ meanwhile) came prints (Some world) joins later so.joined.came so.joined.prints so.joined.last
          so.joined.joins in
          let more = joins_more script_settings (Some world) so.joined.last later behind.coming behind.others asking so.done behind.joins so.does in
          let nodes = brings.node_text ∙ ap decimal w.node_is in
          let least = least_node there brings.node w.is_node nodes in
          let header = header_read brings.pdu octets brings.octets_are _ _ spelled.sequence _ spelled.octets_are in
          elim (later_queries script_settings (lines ++ meanwhile) (later ++ asking ∷ []) came _ prints _ world so.done.next node brings.node print_now print
          it.message_id 4 answer.message_state joins more least printed (in_right (At brings.node print) behind.others so.done.prints here) states_now tells) [
            | inl same ↦ same
            | inr waited ↦
                let pdu : waited.pdu ≡ brings.pdu = some_pdu waited.pdu brings.pdu (sym (ap pdu_in waited.printed) ∙ brings.pdu_is) in
                let number : waited.session ≡ brings.session =
                some_number waited.session brings.session (sym (ap session_of waited.printed) ∙ brings.session_is) in
                absurd (none_waited (lines ++ meanwhile) came prints world joins brings.node waited.session least waited.pdu.sequence waited.asked there at
                w.is_node w.is_session nodes (ap decimal number ∙ brings.session_text ∙ ap decimal w.session_is) spelled.sequence
                (ap (λ (p : Pdu). to_be_bytes w32 p.sequence) pdu ∙ header.sequence_is) none)
          ]

-- ---- the law

pub stays_deleted : ACancelledMessageStaysDeleted
stays_deleted before line node session sequence octets w is =
    let it = is_cancelled before line node session sequence octets w is in
    record {
      message_id = it.message_id;
      came = it.cancel;
      granted = granted_no_more before line node session sequence it;
      told = told_deleted before line node session sequence it;
    }
