-- What the octets of a print tell of a fate is what the print states.
use Rattle.std.proofs.Common.{◌≡◌, ◌⊎◌, ℕ, ◌<◌, ◌^◌, ◌-◌, ◌/◌, ◌%◌, Bool, true, false, List, [], ◌++◌, Option, Some, None, refl, sym}
use Rattle.std.proofs.Common.{ap, subst, ◌∙◌, inl, inr, arith, append-nil}
use Rattle.std.specs.Prelude.{codes}
use Rattle.std.specs.List.{AllByRecursion}
use Rattle.std.specs.Int.Bits.{and_zero_r}
use Rattle.std.proofs.lemmas.Nat.{and_assoc}
use Rattle.mc_model.specs.message.Submission.{Submission}
use Rattle.mc_model.specs.node.Replies.{Accepted, Answer, Kept, NotMatched, NotOwner, Removed, Shown, TooLate, Unknown}
use Rattle.mc_model.specs.synod.Lists.{In}
use Rattle.node_laws.specs.Clusters.{NodeInput}
use Rattle.smpp_time.specs.Calendar.{date_of}
use Rattle.smpp_time.specs.Texts.{time_text, two_digits}
use Rattle.pdu_tables.specs.StatusCodes.{status_code}
use Rattle.pdu_tables.specs.declared.status.Status.TheVariants as statuses
use Rattle.pdu_fields.specs.Grammar.{query_answer_parts}
use Rattle.pdu_bodies.specs.Contents.{query_answer_contents}
use Rattle.pdu_bodies.specs.declared.pdu.Body.TheVariants.{DeliverSm, QuerySmResp}
use Rattle.pdu_bodies.specs.declared.pdu.Message.{Message}
use Rattle.pdu_bodies.specs.declared.pdu.Pdu.{Pdu}
use Rattle.pdu_bodies.specs.declared.pdu.QueryAnswer.{QueryAnswer}
use Rattle.pdu_codec.specs.Pdu.{octets_of}
use Rattle.delivery.specs.Deliveries.{delivered_message, features_in}
use Rattle.desk.specs.Desk.{final_moment}
use Rattle.receipts.specs.Receipts.{receipt_message}
use Rattle.receipts.specs.Texts.{Report, receipt_text}
use Rattle.sessions.specs.declared.requested.Requested.{Requested}
use Rattle.script_lines.specs.Lines.{lines_of}
use Rattle.script_text.specs.Laws.{StatesFate, TellsReceipt, TellsState, pdu_in}
use Rattle.script_text.specs.Prints.{AtOnce, Declined, Delivers, Gone, Late, Print, Reports, Ungranted, report_pdu}
use Rattle.script_text.specs.Pushes.{knows_optional, with_optional}
use Rattle.script_text.specs.Responses.{final_date_of, reply_pdu}
use Rattle.script_text.specs.Settings.{script_settings}
use Rattle.script_text.specs.Prints.{At, WorldPrint}
use Rattle.script_text.specs.Script.{Joins, Stage, prints_of, text_of}
use Rattle.world_fates.proofs.node.Clear.{IsClear}
use Rattle.world_fates.proofs.node.Once.{of_all}
use Rattle.world_fates.proofs.node.Submitted.{WasSubmitted}
use Rattle.world_fates.proofs.node.Telling.{refusal_delivers_none, refusal_tells_none}
use Rattle.world_fates.proofs.node.Tellings.{by_node}
use Rattle.world_fates.proofs.Fates.{one_fate}
use Rattle.world_fates.proofs.Named.{IsNamed, NamedFrom, TellsNamed, named_takes, named_telling}
use Rattle.world_fates.proofs.Printing.{StageSo, first_so, good_lines}
use Rattle.world_fates.proofs.Worlds.{told_by, told_by_all}
use Rattle.octet_laws.specs.Tellings.{IsPdu, esme_rok, query_sm_resp, AnswersState, IsReceiptText, ReportsState, TellOneFate, TellsFate, message_type}
use Rattle.octet_laws.proofs.Lines.{front_printed, pdu_printed}
use Rattle.octet_laws.proofs.Printed.{IsMade, MadeAt, MadeFrom, made_takes, made_telling}
use Rattle.octet_laws.proofs.Reading.{IsClearInFront, answer_read, deliver_back, lacks_zero, message_read, query_back}
use Rattle.octet_laws.proofs.Receipts.{receipt_told}
use Rattle.octet_laws.proofs.Words.{IsFrontRead, Lacks, both_lack, decimal_lacks, tests_lack}

pub some_pdu : (one other : Pdu) → Some one ≡ Some other → one ≡ other
some_pdu one other is = cc

-- ---- a reply to a request that waited

-- a moment is written in digits and a plus
text_lacks : (moment : ℕ) → Lacks 0 (time_text moment)
text_lacks moment =
    let date = date_of (moment / 86400) in
    let clock = moment % 86400 in
    let years = two_digits (date.year - 2000) ++ two_digits date.month in
    let days = years ++ two_digits date.day ++ two_digits (clock / 3600) in
    both_lack 0 (days ++ two_digits (clock / 60 % 60) ++ two_digits (clock % 60)) (codes "000+")
    (both_lack 0 (days ++ two_digits (clock / 60 % 60)) (two_digits (clock % 60))
    (both_lack 0 days (two_digits (clock / 60 % 60))
    (both_lack 0 (years ++ two_digits date.day) (two_digits (clock / 3600))
    (both_lack 0 years (two_digits date.day)
    (both_lack 0 (two_digits (date.year - 2000)) (two_digits date.month) (digits_lack (date.year - 2000)) (digits_lack date.month))
    (digits_lack date.day)) (digits_lack (clock / 3600))) (digits_lack (clock / 60 % 60))) (digits_lack (clock % 60)))
    (tests_lack 0 (codes "000+") refl)
  where
    digits_lack : (number : ℕ) → Lacks 0 (two_digits number)
    digits_lack number = (λ same. absurd (omega (arith, same)), (λ same. absurd (omega (arith, same)), tt))

date_lacks : (moment : Option ℕ) → Lacks 0 (final_date_of moment)
date_lacks None = tt
date_lacks (Some moment) = text_lacks moment

-- it tells a state if it shows a chain
record IsShown (pdu : Pdu) (told : QueryAnswer) : Type 0 where
  status : pdu.status ≡ status_code statuses.Ok
  id : Lacks 0 told.message_id
  date : Lacks 0 told.final_date

reply_shown : (requested : Requested) (sequence id : ℕ) (answer : Answer) (told : QueryAnswer) →
    (reply_pdu requested sequence id answer).body ≡ QuerySmResp (Some told) → IsShown (reply_pdu requested sequence id answer) told
reply_shown requested sequence id (Shown chain) told is =
    let same = told_is _ told is in
    record {
      status = refl;
      id = subst (λ (a : QueryAnswer). Lacks 0 a.message_id) same (decimal_lacks 0 (omega arith) id);
      date = subst (λ (a : QueryAnswer). Lacks 0 a.final_date) same (date_lacks (final_moment chain));
    }
  where
    told_is : (one other : QueryAnswer) → QuerySmResp (Some one) ≡ QuerySmResp (Some other) → one ≡ other
    told_is one other is = cc
reply_shown requested sequence id Accepted told is = absurd cc
reply_shown requested sequence id (Removed chain) told is = absurd cc
reply_shown requested sequence id NotOwner told is = absurd (refusal_tells_none requested told is)
reply_shown requested sequence id (Kept chain) told is = absurd (refusal_tells_none requested told is)
reply_shown requested sequence id (NotMatched chain) told is = absurd (refusal_tells_none requested told is)
reply_shown requested sequence id Unknown told is = absurd (refusal_tells_none requested told is)
reply_shown requested sequence id TooLate told is = absurd (refusal_tells_none requested told is)

reply_delivers_none : (requested : Requested) (sequence id : ℕ) (answer : Answer) (message : Message) →
    (reply_pdu requested sequence id answer).body ≡ DeliverSm message → ⊥
reply_delivers_none requested sequence id Accepted message is = cc
reply_delivers_none requested sequence id (Shown chain) message is = cc
reply_delivers_none requested sequence id (Removed chain) message is = cc
reply_delivers_none requested sequence id NotOwner message is = refusal_delivers_none requested message is
reply_delivers_none requested sequence id (Kept chain) message is = refusal_delivers_none requested message is
reply_delivers_none requested sequence id (NotMatched chain) message is = refusal_delivers_none requested message is
reply_delivers_none requested sequence id Unknown message is = refusal_delivers_none requested message is
reply_delivers_none requested sequence id TooLate message is = refusal_delivers_none requested message is

-- ---- a deliver_sm

no_answer : (message : Message) (answer : QueryAnswer) → DeliverSm message ≡ QuerySmResp (Some answer) → ⊥
no_answer message answer is = cc

message_same : (one other : Message) → DeliverSm one ≡ DeliverSm other → one ≡ other
message_same one other is = cc

delivered_clear : (optional : Bool) (taken : Submission) → IsClear taken → IsClearInFront (with_optional optional (delivered_message taken))
delivered_clear true taken clear = record {
  service_type = lacks_zero taken.service_type clear.service_type;
  source = lacks_zero taken.source.digits clear.source;
  destination = lacks_zero taken.destination.digits clear.destination;
  schedule = tt;
  validity = tt;
}
delivered_clear false taken clear = record {
  service_type = lacks_zero taken.service_type clear.service_type;
  source = lacks_zero taken.source.digits clear.source;
  destination = lacks_zero taken.destination.digits clear.destination;
  schedule = tt;
  validity = tt;
}

delivered_features : (optional : Bool) (taken : Submission) → (with_optional optional (delivered_message taken)).esm_class ≡ features_in taken.esm_class
delivered_features true taken = refl
delivered_features false taken = refl

reported_clear : (optional : Bool) (report : Report) → IsClear report.taken → IsClearInFront (with_optional optional (receipt_message report))
reported_clear true report clear = record {
  service_type = lacks_zero report.taken.service_type clear.service_type;
  source = lacks_zero report.taken.destination.digits clear.destination;
  destination = lacks_zero report.taken.source.digits clear.source;
  schedule = tt;
  validity = tt;
}
reported_clear false report clear = record {
  service_type = lacks_zero report.taken.service_type clear.service_type;
  source = lacks_zero report.taken.destination.digits clear.destination;
  destination = lacks_zero report.taken.source.digits clear.source;
  schedule = tt;
  validity = tt;
}

reported_text : (optional : Bool) (report : Report) → (with_optional optional (receipt_message report)).short_message ≡ receipt_text report
reported_text true report = refl
reported_text false report = refl

-- no feature is a receipt
features_are_none : (esm_class : ℕ) → message_type (features_in esm_class) ≡ 0
features_are_none esm_class = and_assoc 0x3c esm_class 0xc0 ∙ and_zero_r esm_class

-- ---- a print

-- a print is a receipt of the message of a message_id, which is a short number
pub record PrintsReceipt (printed : Print) (message_id : List ℕ) (state : ℕ) : Type 0 where
  pub tells : TellsReceipt printed message_id state
  pub small : tells.report.id < 2 ^ 64

module _ (past : List NodeInput) (clear : (message : Submission) → WasSubmitted past message → IsClear message) (message_id : List ℕ) (state : ℕ) where
  queries : (printed : Print) (pdu : Pdu) (octets : List ℕ) → pdu_in printed ≡ Some pdu → IsMade past printed → IsFrontRead (octets_of pdu) octets →
      (answer : QueryAnswer) → IsPdu octets query_sm_resp esme_rok query_answer_parts (query_answer_contents answer) → answer.message_id ≡ message_id →
      answer.message_state ≡ state → TellsState printed message_id state
  queries (AtOnce session own) pdu octets is made are answer spelled message state_is =
      let it = query_back pdu.body answer (answer_read pdu octets are answer spelled) in
      absurd (made.0 it.answer (ap (λ (p : Pdu). p.body) (some_pdu own pdu is) ∙ it.body_is))
  queries (Late session id own) pdu octets is made are answer spelled message state_is =
      let it = query_back pdu.body answer (answer_read pdu octets are answer spelled) in
      let reply : pdu ≡ reply_pdu made.requested made.sequence made.id made.answer = sym (some_pdu own pdu is) ∙ made.is in
      let shown = reply_shown made.requested made.sequence made.id made.answer it.answer (ap (λ (p : Pdu). p.body) (sym reply) ∙ it.body_is) in
      let agrees = it.agrees shown.id shown.date in
      record {
        pdu = pdu;
        answer = it.answer;
        printed = is;
        status = ap (λ (p : Pdu). p.status) reply ∙ shown.status;
        body = it.body_is;
        message = sym agrees.0 ∙ message;
        state_is = sym agrees.1 ∙ state_is;
      }
  queries (Delivers session own) pdu octets is made are answer spelled message state_is =
      let it = query_back pdu.body answer (answer_read pdu octets are answer spelled) in
      absurd (no_answer _ it.answer (ap (λ (p : Pdu). p.body) (sym made.is ∙ some_pdu own pdu is) ∙ it.body_is))
  queries (Reports session sequence optional report) pdu octets is made are answer spelled message state_is =
      let it = query_back pdu.body answer (answer_read pdu octets are answer spelled) in
      absurd (no_answer _ it.answer (ap (λ (p : Pdu). p.body) (some_pdu (report_pdu sequence optional report) pdu is) ∙ it.body_is))
  queries (Gone session) pdu octets is made are answer spelled message state_is = absurd cc
  queries (Declined number) pdu octets is made are answer spelled message state_is = absurd cc
  queries (Ungranted reason) pdu octets is made are answer spelled message state_is = absurd cc

  reports : (printed : Print) (pdu : Pdu) (octets : List ℕ) → pdu_in printed ≡ Some pdu → IsMade past printed → IsFrontRead (octets_of pdu) octets →
      ReportsState octets message_id state → PrintsReceipt printed message_id state
  reports (AtOnce session own) pdu octets is made are told =
      let it = deliver_back pdu.body told.message (message_read pdu octets are told.status told.message told.pdu) in
      absurd (made.1 it.message (ap (λ (p : Pdu). p.body) (some_pdu own pdu is) ∙ it.body_is))
  reports (Late session id own) pdu octets is made are told =
      let it = deliver_back pdu.body told.message (message_read pdu octets are told.status told.message told.pdu) in
      let reply : pdu ≡ reply_pdu made.requested made.sequence made.id made.answer = sym (some_pdu own pdu is) ∙ made.is in
      absurd (reply_delivers_none made.requested made.sequence made.id made.answer it.message (ap (λ (p : Pdu). p.body) (sym reply) ∙ it.body_is))
  reports (Delivers session own) pdu octets is made are told =
      let it = deliver_back pdu.body told.message (message_read pdu octets are told.status told.message told.pdu) in
      let optional = knows_optional made.session in
      let message = message_same (with_optional optional (delivered_message made.taken)) it.message
      (ap (λ (p : Pdu). p.body) (sym made.is ∙ some_pdu own pdu is) ∙ it.body_is) in
      let agrees = it.agrees (subst IsClearInFront message (delivered_clear optional made.taken (clear made.taken made.submitted))) in
      let esm_class = agrees.0 ∙ ap (λ (m : Message). m.esm_class) (sym message) ∙ delivered_features optional made.taken in
      let none = sym (features_are_none made.taken.esm_class) ∙ ap message_type (sym esm_class) ∙ told.receipt in
      absurd (omega (arith, none))
  reports (Reports session sequence optional report) pdu octets is made are told =
      let it = deliver_back pdu.body told.message (message_read pdu octets are told.status told.message told.pdu) in
      let message = message_same (with_optional optional (receipt_message report)) it.message
      (ap (λ (p : Pdu). p.body) (some_pdu (report_pdu sequence optional report) pdu is) ∙ it.body_is) in
      let agrees = it.agrees (subst IsClearInFront message (reported_clear optional report (clear report.taken made.0))) in
      let text = agrees.1 ∙ ap (λ (m : Message). m.short_message) (sym message) ∙ reported_text optional report in
      let tells = receipt_told report message_id state (subst (λ (t : List ℕ). IsReceiptText t message_id state) text told.text) in
      record {
        tells = record {
          session = session;
          sequence = sequence;
          optional = optional;
          report = report;
          printed = refl;
          message = tells.0;
          state_is = tells.1;
        };
        small = made.1;
      }
  reports (Gone session) pdu octets is made are told = absurd cc
  reports (Declined number) pdu octets is made are told = absurd cc
  reports (Ungranted reason) pdu octets is made are told = absurd cc

  states : (printed : Print) (pdu : Pdu) (octets : List ℕ) → pdu_in printed ≡ Some pdu → IsMade past printed → IsFrontRead (octets_of pdu) octets →
      AnswersState octets message_id state ⊎ ReportsState octets message_id state → StatesFate printed message_id state
  states printed pdu octets is made are (inl answers) =
      inl (queries printed pdu octets is made are answers.answer answers.pdu answers.message answers.state_is, answers.final)
  states printed pdu octets is made are (inr told) = inr (inr (reports printed pdu octets is made are told).tells)

-- ---- a script

-- a print of the script states it
record IsStated (script message_id : List ℕ) (state : ℕ) : Type 0 where
  node : ℕ
  print : Print
  among : In (At node print) (prints_of script)
  states_it : StatesFate print message_id state

stage_states : (stage : Stage) (inputs : List NodeInput) (prints : List WorldPrint) →
    StageSo script_settings (λ cluster. MadeFrom) made_telling (λ cluster. made_takes) stage inputs prints → (node : ℕ) (printed : Print) (pdu : Pdu)
    (octets message_id : List ℕ) (state : ℕ) → In (At node printed) prints → pdu_in printed ≡ Some pdu → IsFrontRead (octets_of pdu) octets →
    AnswersState octets message_id state ⊎ ReportsState octets message_id state → StatesFate printed message_id state
stage_states None inputs prints so node printed pdu octets message_id state among is are tells = absurd (subst (In (At node printed)) so among)
stage_states (Some world) inputs prints so node printed pdu octets message_id state among is are tells =
    let made = so.tell so.past [] (record { inputs = []; last_is = refl; all = tt }) in
    let all = subst (AllByRecursion (MadeAt so.past)) (append-nil (told_by prints)) made.all in
    states so.past so.stands.fit.clear message_id state printed pdu octets is
    (of_all (MadeAt so.past) (told_by prints) (by_node node printed) all (told_by_all node printed prints among)) are tells

-- the same of a query_sm_resp that may tell ENROUTE
pub lines_tell : (lines : List (List ℕ)) (inputs : List NodeInput) (prints : List WorldPrint) (last : Stage) →
    Joins script_settings None lines inputs prints last →
    (node : ℕ) (printed : Print) (pdu : Pdu) (octets message_id : List ℕ) (state : ℕ) → In (At node printed) prints → pdu_in printed ≡ Some pdu →
    IsFrontRead (octets_of pdu) octets → (answer : QueryAnswer) →
    IsPdu octets query_sm_resp esme_rok query_answer_parts (query_answer_contents answer) → answer.message_id ≡ message_id →
    answer.message_state ≡ state → TellsState printed message_id state
lines_tell lines inputs prints last joins node printed pdu octets message_id state among is are answer spelled message state_is =
    by_stage last (first_so script_settings (λ cluster. MadeFrom) made_telling (λ cluster. made_takes) lines inputs prints last joins)
  where
    by_stage : (stage : Stage) → StageSo script_settings (λ cluster. MadeFrom) made_telling (λ cluster. made_takes) stage inputs prints →
        TellsState printed message_id state
    by_stage None so = absurd (subst (In (At node printed)) so among)
    by_stage (Some world) so =
        let made = so.tell so.past [] (record { inputs = []; last_is = refl; all = tt }) in
        let all = subst (AllByRecursion (MadeAt so.past)) (append-nil (told_by prints)) made.all in
        queries so.past so.stands.fit.clear message_id state printed pdu octets is
        (of_all (MadeAt so.past) (told_by prints) (by_node node printed) all (told_by_all node printed prints among)) are answer spelled message state_is

-- and it answers a request that waited
pub lines_name : (lines : List (List ℕ)) (inputs : List NodeInput) (prints : List WorldPrint) (last : Stage) →
    Joins script_settings None lines inputs prints last → (node : ℕ) (printed : Print) (message_id : List ℕ) (state : ℕ) → In (At node printed) prints →
    TellsState printed message_id state → IsNamed printed message_id
lines_name lines inputs prints last joins node printed message_id state among tells =
    by_stage last (first_so script_settings (λ cluster. NamedFrom) named_telling (λ cluster. named_takes) lines inputs prints last joins)
  where
    by_stage : (stage : Stage) → StageSo script_settings (λ cluster. NamedFrom) named_telling (λ cluster. named_takes) stage inputs prints →
        IsNamed printed message_id
    by_stage None so = absurd (subst (In (At node printed)) so among)
    by_stage (Some world) so =
        of_all TellsNamed (told_by prints) (by_node node printed) (subst (AllByRecursion TellsNamed) (append-nil (told_by prints)) (so.tell [] [] tt))
        (told_by_all node printed prints among) message_id state tells

-- and so it is of a receipt
pub lines_report : (lines : List (List ℕ)) (inputs : List NodeInput) (prints : List WorldPrint) (last : Stage) →
    Joins script_settings None lines inputs prints last → (node : ℕ) (printed : Print) (pdu : Pdu) (octets message_id : List ℕ) (state : ℕ) →
    In (At node printed) prints → pdu_in printed ≡ Some pdu → IsFrontRead (octets_of pdu) octets → ReportsState octets message_id state →
    PrintsReceipt printed message_id state
lines_report lines inputs prints last joins node printed pdu octets message_id state among is are told =
    by_stage last (first_so script_settings (λ cluster. MadeFrom) made_telling (λ cluster. made_takes) lines inputs prints last joins)
  where
    by_stage : (stage : Stage) → StageSo script_settings (λ cluster. MadeFrom) made_telling (λ cluster. made_takes) stage inputs prints →
        PrintsReceipt printed message_id state
    by_stage None so = absurd (subst (In (At node printed)) so among)
    by_stage (Some world) so =
        let made = so.tell so.past [] (record { inputs = []; last_is = refl; all = tt }) in
        let all = subst (AllByRecursion (MadeAt so.past)) (append-nil (told_by prints)) made.all in
        reports so.past so.stands.fit.clear message_id state printed pdu octets is
        (of_all (MadeAt so.past) (told_by prints) (by_node node printed) all (told_by_all node printed prints among)) are told

line_states : (script front later line message_id : List ℕ) (state : ℕ) → front ++ later ≡ text_of script → In line (lines_of front) →
    TellsFate line message_id state → IsStated script message_id state
line_states script front later line message_id state is among tells =
    let print = front_printed (prints_of script) front later line is among in
    let brings = pdu_printed print.print line print.more tells.octets print.written tells.line_is in
    let good = good_lines script_settings (lines_of script) None in
    let so = first_so script_settings (λ cluster. MadeFrom) made_telling (λ cluster. made_takes) good.lines good.inputs (prints_of script) good.last
    good.joins in
    let here = subst (λ (p : WorldPrint). In p (prints_of script)) brings.print_is print.among in
    record {
      node = brings.node;
      print = brings.printed;
      among = here;
      states_it = stage_states good.last good.inputs (prints_of script) so brings.node brings.printed brings.pdu tells.octets message_id state here
          brings.pdu_is brings.octets_are tells.tells;
    }

pub written_once : (script written later : List ℕ) → written ++ later ≡ text_of script → TellOneFate (lines_of written)
written_once script written later is one other message_id first second one_in other_in tells also =
    let here = line_states script written later one message_id first is one_in tells in
    let there = line_states script written later other message_id second is other_in also in
    one_fate script here.node there.node here.print there.print message_id first second here.among there.among here.states_it there.states_it
