-- A query_sm_resp with ESME_ROK that is written answers a query_sm that came on its session.
use Rattle.std.proofs.Common.{◌≡◌, ℕ, ◌≤◌, List, [], ◌∷◌, ◌++◌, Some, None, refl, sym, ◌∙◌, ap, subst, inl, inr, arith}
use Rattle.std.specs.Fmt.{decimal}
use Rattle.std.specs.Int.{to_be_bytes, w32}
use Rattle.std.proofs.lemmas.Fmt.{decimal_injective}
use Rattle.mc_model.specs.synod.Lists.{In}
use Rattle.mc_parts.proofs.Membership.{in_right}
use Rattle.pdu_fields.specs.Grammar.{query_answer_parts}
use Rattle.pdu_bodies.specs.Contents.{query_answer_contents}
use Rattle.pdu_bodies.specs.declared.pdu.Pdu.{Pdu}
use Rattle.pdu_bodies.specs.declared.pdu.QueryAnswer.{QueryAnswer}
use Rattle.script_lines.specs.Lines.{lines_of}
use Rattle.script_text.specs.Laws.{pdu_in}
use Rattle.script_text.specs.Settings.{script_settings}
use Rattle.script_text.specs.Prints.{WorldPrint, world_text}
use Rattle.script_text.specs.Script.{Joins, Stage, Stepped, step_of}
use Rattle.script_text.specs.World.{NodeInput}
use Rattle.world_fates.proofs.Answering.{joins_more}
use Rattle.octet_laws.specs.Laws.{EachAnswerIsToAQuery}
use Rattle.octet_laws.specs.Sessions.{QueryCame, Writes, heard_on}
use Rattle.octet_laws.specs.Tellings.{IsPdu, esme_rok, query_sm_resp}
use Rattle.octet_laws.proofs.Cancelled.{heard_octets, least_node, none_framed, none_prints}
use Rattle.octet_laws.proofs.Fates.{lines_name, lines_tell, some_pdu}
use Rattle.octet_laws.proofs.Lines.{brought_by, session_of}
use Rattle.octet_laws.proofs.Reading.{header_read, query_came}
use Rattle.octet_laws.proofs.Streams.{octets_of_none}
use Rattle.octet_laws.proofs.Ties.{IsRight, IsTold}
use Rattle.octet_laws.proofs.Walks.{IsShort, line_so}
use Rattle.octet_laws.proofs.Written.{lines_hear, written_so}

pub some_number : (one other : ℕ) → Some one ≡ Some other → one ≡ other
some_number one other is = cc

module _ (before : List (List ℕ)) (line : List ℕ) (node session : ℕ) (octets : List ℕ) (answer : QueryAnswer) (w : Writes before line node session octets)
    (spelled : IsPdu octets query_sm_resp esme_rok query_answer_parts (query_answer_contents answer)) where
  the_same : (m number : ℕ) (least : 1 ≤ m) → IsShort m number least (heard_on m number before) → decimal m ≡ decimal w.is_pdu.node →
      decimal number ≡ decimal w.is_pdu.session → (sequence : ℕ) (message_id : List ℕ) → IsTold (heard_on m number before) sequence message_id →
      to_be_bytes w32 sequence ≡ to_be_bytes w32 spelled.sequence → QueryCame (heard_on node session before) spelled.sequence message_id
  the_same m number least short nodes sessions sequence message_id told bytes = elim short [
    | inl none ↦ absurd (nothing (subst (λ (s : List ℕ). IsTold s sequence message_id) none told))
    | inr small ↦
        let one = decimal_injective m node small.0 (let most = w.is_node.most in omega (arith, most)) (nodes ∙ ap decimal w.node_is) in
        let two = decimal_injective number session small.1 (let most = w.is_session.most in omega (arith, most)) (sessions ∙ ap decimal w.session_is) in
        subst (λ (n : ℕ). QueryCame (heard_on n session before) spelled.sequence message_id) one
        (subst (λ (s : ℕ). QueryCame (heard_on m s before) spelled.sequence message_id) two
        (subst (QueryCame (heard_on m number before) spelled.sequence) told.names
        (query_came (heard_on m number before) (heard_octets m number [] [] before octets_of_none) told.frame told.among told.pdu told.reads
        told.query told.body spelled.sequence (ap (to_be_bytes w32) told.sequence_is ∙ bytes))))
  ]
    where
      nothing : IsTold [] sequence message_id → ⊥
      nothing told = none_framed told.frame told.among

  at_world : (came : List NodeInput) (prints : List WorldPrint) (last : Stage) → Joins script_settings None before came prints last → (done : Stepped) →
      step_of script_settings last line ≡ Some done → In w.written (lines_of (world_text done.prints)) →
      QueryCame (heard_on node session before) spelled.sequence answer.message_id
  at_world came prints None joins done leads among =
      absurd (nothing (subst (λ (p : List WorldPrint). In w.written (lines_of (world_text p))) (none_prints line done leads) among))
    where
      nothing : In w.written (lines_of (world_text [])) → ⊥
      nothing among = among
  at_world came prints (Some world) joins done leads among =
      let of_line = brought_by done.prints w.written octets among w.is_pdu in
      let brings = of_line.brings in
      let m = brings.node in
      let number = brings.session in
      let stream = heard_on m number before in
      let least = least_node node m w.is_node (brings.node_text ∙ ap decimal w.node_is) in
      let hears = lines_hear m number least before came prints (Some world) joins in
      let so = (line_so m number least script_settings stream hears.1 world hears.0 line done leads).2 in
      let here = subst (λ (p : WorldPrint). In p done.prints) brings.print_is of_line.among in
      let whole = joins_more script_settings None (Some world) before came prints line done joins leads in
      let there = in_right _ prints done.prints here in
      let tells = lines_tell (before ++ line ∷ []) _ _ done.next whole m brings.printed brings.pdu octets answer.message_id answer.message_state there
      brings.pdu_is brings.octets_are answer spelled refl refl in
      let named = lines_name (before ++ line ∷ []) _ _ done.next whole m brings.printed answer.message_id answer.message_state there tells in
      let at : named.session ≡ number = some_number named.session number (sym (ap session_of named.printed) ∙ brings.session_is) in
      let own : tells.pdu ≡ named.pdu = some_pdu tells.pdu named.pdu (sym tells.printed ∙ ap pdu_in named.printed) in
      let also : named.pdu ≡ brings.pdu = some_pdu named.pdu brings.pdu (sym (ap pdu_in named.printed) ∙ brings.pdu_is) in
      let right = subst (IsRight number stream) named.printed (so.answers brings.printed here) in
      let told = right.1 at tells.answer (ap (λ (p : Pdu). p.body) (sym own) ∙ tells.body) in
      let header = header_read brings.pdu octets brings.octets_are _ _ spelled.sequence _ spelled.octets_are in
      the_same m number least hears.1 brings.node_text brings.session_text named.pdu.sequence answer.message_id
      (subst (IsTold stream named.pdu.sequence) tells.message told) (ap (λ (p : Pdu). to_be_bytes w32 p.sequence) also ∙ header.sequence_is)

pub answers_a_query : EachAnswerIsToAQuery
answers_a_query before line node session octets answer w spelled =
    let so = written_so before line w.written w.among in
    at_world before line node session octets answer w spelled so.joined.came so.joined.prints so.joined.last so.joined.joins so.done so.does
    (subst (In w.written) so.written_is w.among)
