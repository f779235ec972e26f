-- A cancel_sm_resp with ESME_ROK that is written answers a cancel_sm that came on its session.
use Rattle.std.proofs.Common.{◌≡◌, ℕ, ◌^◌, ◌%◌, ◌≤◌, zero, suc, Bool, true, false, List, [], ◌∷◌, ◌++◌, Option, Some, None, refl}
use Rattle.std.proofs.Common.{sym, ◌∙◌, ap, subst, inl, inr, arith}
use Rattle.std.specs.Prelude.{◌==◌, ◌&&◌, codes, if◌then◌else◌, not}
use Rattle.std.specs.Fmt.{decimal}
use Rattle.std.specs.Int.{to_be_bytes, w32}
use Rattle.std.specs.List.{list_any}
use Rattle.std.specs.Str.{bytes_eq}
use Rattle.std.proofs.lemmas.Fmt.{decimal_injective}
use Rattle.hex.proofs.HexLemmas.{decode_of-ok}
use Rattle.mc_model.specs.message.Ids.{IsNode}
use Rattle.mc_model.specs.synod.Lists.{In}
use Rattle.octet_fields.specs.Texts.{IsOctets}
use Rattle.pdu_bodies.specs.declared.pdu.Body.TheVariants.{CancelSmResp}
use Rattle.pdu_bodies.specs.declared.pdu.Pdu.{Pdu}
use Rattle.pdu_frames.specs.Frames.{cut, cut_within}
use Rattle.pdu_tables.specs.StatusCodes.{status_code}
use Rattle.pdu_tables.specs.declared.status.Status.TheVariants as statuses
use Rattle.script_lines.specs.Lines.{lines_of}
use Rattle.script_lines.specs.Said.{Said, Skipped, Nodes, Octets, Deliver, Crash, Tick, Grant, Settle, Restart, Replay, said_of, said_within}
use Rattle.script_lines.proofs.SaidLemmas.{spelled_so}
use Rattle.script_text.specs.Laws.{pdu_in}
use Rattle.script_text.specs.Prints.{AtOnce, Declined, Delivers, Gone, Late, Print, Reports, Ungranted, report_pdu}
use Rattle.script_text.specs.Settings.{script_settings}
use Rattle.script_text.specs.Prints.{At, WorldPrint, world_text}
use Rattle.script_text.specs.Script.{Joins, Stage, Stepped, step_by, step_of}
use Rattle.script_text.specs.World.{NodeInput, World}
use Rattle.octet_laws.specs.Sessions.{CancelCame, IsCancelAnswer, Writes, brought, gone_line, heard_behind, heard_on, heard_then, written_then}
use Rattle.octet_laws.proofs.Lines.{brought_by, session_of}
use Rattle.octet_laws.proofs.Reading.{cancel_came, cancelled_read, header_read, status_zero}
use Rattle.octet_laws.proofs.Streams.{octets_both, octets_of_none}
use Rattle.octet_laws.proofs.Ties.{IsAnswer, IsRight}
use Rattle.octet_laws.proofs.Walks.{IsShort, line_so}
use Rattle.octet_laws.proofs.Written.{lines_hear, written_so}

-- ---- a stream is of octets

then_octets : (node session : ℕ) (line : List ℕ) (said : Option Said) → said_of line ≡ said → (written : List (List ℕ)) (stream : List ℕ) →
    IsOctets stream → IsOctets (heard_then node session said written stream)
then_octets node session line said is written stream are = by_gone (list_any (bytes_eq (gone_line node session)) written)
  where
    brought_octets : (said : Option Said) → said_of line ≡ said → IsOctets (brought node session said written)
    brought_octets (Some (Octets other number octets)) is =
        by_test (other == node && (number == session && not (list_any (bytes_eq (codes "refused 4")) written)))
      where
        own : IsOctets octets
        own = let wording = ((spelled_so line (Octets other number octets)).0 is).wording in (decode_of-ok wording.2.0 octets wording.2.2).3

        by_test : (test : Bool) → IsOctets (if test then octets else [])
        by_test true = own
        by_test false = octets_of_none
    brought_octets (Some Skipped) is = octets_of_none
    brought_octets (Some (Nodes count serial)) is = octets_of_none
    brought_octets (Some (Deliver packet other)) is = octets_of_none
    brought_octets (Some (Crash other packet after)) is = octets_of_none
    brought_octets (Some (Tick other moment)) is = octets_of_none
    brought_octets (Some (Grant other id)) is = octets_of_none
    brought_octets (Some (Settle nodes)) is = octets_of_none
    brought_octets (Some (Restart other)) is = octets_of_none
    brought_octets (Some (Replay count)) is = octets_of_none
    brought_octets None is = octets_of_none

    by_gone : (gone : Bool) → IsOctets (if gone then [] else stream ++ brought node session said written)
    by_gone true = octets_of_none
    by_gone false = octets_both stream (brought node session said written) are (brought_octets said is)

pub heard_octets : (node session : ℕ) (before : List (List ℕ)) (stream : List ℕ) (lines : List (List ℕ)) → IsOctets stream →
    IsOctets (heard_behind node session before stream lines)
unfolding heard_behind
heard_octets node session before stream [] are = are
heard_octets node session before stream (line ∷ lines) are =
    heard_octets node session (before ++ line ∷ []) _ lines (then_octets node session line (said_of line) refl (written_then before line) stream are)

-- ---- which print it is

-- the number of a node is no zero
pub least_node : (node other : ℕ) → IsNode node → decimal other ≡ decimal node → 1 ≤ other
least_node node zero is same = absurd (let most = is.most in let least = is.least in
    let none = decimal_injective zero node (omega arith) (omega (arith, most)) same in omega (arith, none, least))
least_node node (suc other) is same = omega arith

-- an empty stream has no frame
pub none_framed : (frame : List ℕ) → In frame (cut []).frames → ⊥
unfolding cut_within
none_framed frame among = among

record IsAnswering (number : ℕ) (stream : List ℕ) (printed : Print) (pdu : Pdu) : Type 0 where
  id : ℕ
  printed_is : printed ≡ Late number id pdu
  answer : IsAnswer stream pdu.sequence id
  status : pdu.status ≡ status_code statuses.Ok

answering : (number : ℕ) (stream : List ℕ) (printed : Print) (pdu : Pdu) → IsRight number stream printed → pdu_in printed ≡ Some pdu →
    session_of printed ≡ Some number → pdu.body ≡ CancelSmResp → pdu.status % 2 ^ 32 ≡ 0 → IsAnswering number stream printed pdu
answering number stream (AtOnce session own) pdu right is at body status =
    absurd (right (ap (λ (p : Pdu). p.body) (same is) ∙ body) (ap (λ (p : Pdu). p.status % 2 ^ 32) (same is) ∙ status))
  where
    same : Some own ≡ Some pdu → own ≡ pdu
    same is = cc
answering number stream (Delivers session own) pdu right is at body status =
    absurd (right (ap (λ (p : Pdu). p.body) (same is) ∙ body) (ap (λ (p : Pdu). p.status % 2 ^ 32) (same is) ∙ status))
  where
    same : Some own ≡ Some pdu → own ≡ pdu
    same is = cc
answering number stream (Late session id own) pdu right is at body status =
    let it = right.0 (there at) (ap (λ (p : Pdu). p.body) (same is) ∙ body) (ap (λ (p : Pdu). p.status % 2 ^ 32) (same is) ∙ status) in
    record {
      id = id;
      printed_is = λ i. Late (there at i) id (same is i);
      answer = subst (λ (p : Pdu). IsAnswer stream p.sequence id) (same is) it.0;
      status = ap (λ (p : Pdu). p.status) (sym (same is)) ∙ it.1;
    }
  where
    same : Some own ≡ Some pdu → own ≡ pdu
    same is = cc

    there : Some session ≡ Some number → session ≡ number
    there is = cc
answering number stream (Reports session sequence optional report) pdu right is at body status = absurd (never is)
  where
    same : Some (report_pdu sequence optional report) ≡ Some pdu → report_pdu sequence optional report ≡ pdu
    same is = cc

    never : Some (report_pdu sequence optional report) ≡ Some pdu → ⊥
    never is = let both = ap (λ (p : Pdu). p.body) (same is) ∙ body in cc
answering number stream (Gone session) pdu right is at body status = absurd cc
answering number stream (Declined reason) pdu right is at body status = absurd cc
answering number stream (Ungranted reason) pdu right is at body status = absurd cc

-- a line that prints has a world in front of it
pub none_prints : (line : List ℕ) (done : Stepped) → step_of script_settings None line ≡ Some done → done.prints ≡ []
unfolding step_of
none_prints line done is = by_said (said_within 9 line) is
  where
    same : (one other : Stepped) → Some one ≡ Some other → one ≡ other
    same one other is = cc

    by_said : (said : Option Said) → step_by script_settings None said ≡ Some done → done.prints ≡ []
    by_said None is = absurd cc
    by_said (Some Skipped) is = ap (λ (d : Stepped). d.prints) (sym (same _ done is))
    by_said (Some (Nodes count serial)) is = ap (λ (d : Stepped). d.prints) (sym (same _ done is))
    by_said (Some (Octets node session octets)) is = absurd cc
    by_said (Some (Deliver packet node)) is = absurd cc
    by_said (Some (Crash node packet after)) is = absurd cc
    by_said (Some (Tick node moment)) is = absurd cc
    by_said (Some (Grant node id)) is = absurd cc
    by_said (Some (Settle nodes)) is = absurd cc
    by_said (Some (Restart node)) is = absurd cc
    by_said (Some (Replay count)) is = absurd cc

-- ---- the answer

-- Behind these lines a line prints that the message of a cancel_sm is deleted, which came on the session.
pub record IsCancelled (before : List (List ℕ)) (line : List ℕ) (node session sequence : ℕ) : Type 0 where
  pub came : List NodeInput
  pub prints : List WorldPrint
  pub world : World
  pub joins : Joins script_settings None before came prints (Some world)
  pub done : Stepped
  pub does : step_of script_settings (Some world) line ≡ Some done
  pub next : World
  pub next_is : done.next ≡ Some next
  pub id : ℕ
  pub pdu : Pdu
  pub printed : In (At node (Late session id pdu)) done.prints
  pub status : pdu.status ≡ status_code statuses.Ok
  pub body : pdu.body ≡ CancelSmResp
  pub message_id : List ℕ
  pub names : decimal id ≡ message_id
  pub cancel : CancelCame (heard_on node session before) sequence message_id

module _ (before : List (List ℕ)) (line : List ℕ) (node session sequence : ℕ) (octets : List ℕ) (w : Writes before line node session octets)
    (is : IsCancelAnswer octets sequence) where
  at_world : (came : List NodeInput) (prints : List WorldPrint) (last : Stage) → Joins script_settings None before came prints last → (done : Stepped) →
      step_of script_settings last line ≡ Some done → In w.written (lines_of (world_text done.prints)) → IsCancelled before line node session sequence
  at_world came prints None joins done does among =
      absurd (nothing (subst (λ (p : List WorldPrint). In w.written (lines_of (world_text p))) (none_prints line done does) among))
    where
      nothing : In w.written (lines_of (world_text [])) → ⊥
      nothing among = among
  at_world came prints (Some world) joins done does among =
      let of_line = brought_by done.prints w.written octets among w.is_pdu in
      let brings = of_line.brings in
      let m = brings.node in
      let number = brings.session in
      let least = least_node node m w.is_node (brings.node_text ∙ ap decimal w.node_is) in
      let hears = lines_hear m number least before came prints (Some world) joins in
      let so = (line_so m number least script_settings (heard_on m number before) hears.1 world hears.0 line done does).2 in
      let here = subst (λ (p : WorldPrint). In p done.prints) brings.print_is of_line.among in
      let header = header_read brings.pdu octets brings.octets_are _ _ sequence [] is in
      let body = cancelled_read brings.pdu octets brings.octets_are sequence is in
      let answer = answering number (heard_on m number before) brings.printed brings.pdu (so.answers brings.printed here) brings.pdu_is brings.session_is body
      (status_zero brings.pdu sequence header) in
      the_same m number least hears.1 brings.node_text brings.session_text came prints world joins done does so.next so.stage_is answer.id brings.pdu
      (subst (λ (p : Print). In (At m p) done.prints) answer.printed_is here) answer.status body answer.answer header.sequence_is
    where
      the_same : (m number : ℕ) (least : 1 ≤ m) → IsShort m number least (heard_on m number before) → decimal m ≡ decimal w.is_pdu.node →
          decimal number ≡ decimal w.is_pdu.session → (came : List NodeInput) (prints : List WorldPrint) (world : World) →
          Joins script_settings None before came prints (Some world) → (done : Stepped) → step_of script_settings (Some world) line ≡ Some done →
          (next : World) → done.next ≡ Some next → (id : ℕ) (pdu : Pdu) → In (At m (Late number id pdu)) done.prints →
          pdu.status ≡ status_code statuses.Ok → pdu.body ≡ CancelSmResp → IsAnswer (heard_on m number before) pdu.sequence id →
          to_be_bytes w32 pdu.sequence ≡ to_be_bytes w32 sequence → IsCancelled before line node session sequence
      the_same m number least short nodes sessions came prints world joins done does next next_is id pdu printed status body answer bytes = elim short [
        | inl none ↦ absurd (nothing (subst (λ (s : List ℕ). IsAnswer s pdu.sequence id) none answer))
        | inr small ↦
            let one = decimal_injective m node small.0 (let most = w.is_node.most in omega (arith, most)) (nodes ∙ ap decimal w.node_is) in
            let two = decimal_injective number session small.1 (let most = w.is_session.most in omega (arith, most)) (sessions ∙ ap decimal w.session_is) in
            record {
              came = came;
              prints = prints;
              world = world;
              joins = joins;
              done = done;
              does = does;
              next = next;
              next_is = next_is;
              id = id;
              pdu = pdu;
              printed = subst (λ (n : ℕ). In (At n (Late session id pdu)) done.prints) one
                  (subst (λ (s : ℕ). In (At m (Late s id pdu)) done.prints) two printed);
              status = status;
              body = body;
              message_id = answer.cancel.message_id;
              names = answer.names;
              cancel = subst (λ (n : ℕ). CancelCame (heard_on n session before) sequence answer.cancel.message_id) one
                  (subst (λ (s : ℕ). CancelCame (heard_on m s before) sequence answer.cancel.message_id) two
                  (cancel_came (heard_on m number before) (heard_octets m number [] [] before octets_of_none) answer.frame answer.among answer.pdu answer.reads
                  answer.cancel answer.body sequence (ap (to_be_bytes w32) answer.sequence_is ∙ bytes)));
            }
      ]
        where
          nothing : IsAnswer [] pdu.sequence id → ⊥
          nothing answer = none_framed answer.frame answer.among

  pub is_cancelled : IsCancelled before line node session sequence
  is_cancelled =
      let so = written_so before line w.written w.among in
      at_world so.joined.came so.joined.prints so.joined.last so.joined.joins so.done so.does
      (subst (In w.written) so.written_is w.among)
