-- A PDU that is read of the octets of another has its command, and what stands in front of and in its fields, if its texts have no zero octet.
use Rattle.std.proofs.Common.{◌≡◌, ℕ, ◌<◌, ◌^◌, List, [], ◌∷◌, ◌++◌, length, ◌+◌, ◌%◌, take, drop, Option, Some, None, Ok, refl, sym, ap, subst, ◌∙◌}
use Rattle.std.proofs.Common.{append_assoc, append-nil, arith}
use Rattle.std.specs.Int.{from_be_bytes, to_be_bytes, w32}
use Rattle.std.specs.List.{AllByRecursion}
use Rattle.mc_model.specs.synod.Lists.{In}
use Rattle.pdu_frames.specs.Frames.{cut}
use Rattle.pdu_bodies.specs.declared.pdu.Cancel.{Cancel}
use Rattle.std.proofs.lemmas.Bool.{ltb-true}
use Rattle.std.proofs.lemmas.Nat.{from_be_bytes-to_be_bytes_4}
use Rattle.std.proofs.lemmas.List.Elements.{recursion_from_All}
use Rattle.octet_fields.specs.Texts.{IsOctets}
use Rattle.pdu_tables.specs.CommandCodes.{command_code, command_of}
use Rattle.pdu_tables.specs.declared.command.Command.{Command}
use Rattle.pdu_tables.specs.declared.command.Command.TheVariants as commands
use Rattle.pdu_fields.specs.Grammar.{message_parts, query_answer_parts, word_at}
use Rattle.pdu_bodies.specs.Bodies.{BodyFits, body_octets, command_in}
use Rattle.pdu_bodies.specs.Contents.{message_contents, query_answer_contents}
use Rattle.pdu_bodies.specs.declared.pdu.Body.{Body}
use Rattle.pdu_bodies.specs.declared.pdu.Body.TheVariants as bodies
use Rattle.pdu_bodies.specs.declared.pdu.Message.{Message}
use Rattle.pdu_bodies.specs.declared.pdu.Pdu.{Pdu}
use Rattle.pdu_bodies.specs.declared.pdu.Query.{Query}
use Rattle.pdu_bodies.specs.declared.pdu.QueryAnswer.{QueryAnswer}
use Rattle.pdu_codec.specs.Pdu.{framed, octets_of, read_pdu}
use Rattle.pdu_codec.proofs.PduSpelling.{read_pdu-takes, served}
use Rattle.world_fates.proofs.node.Clear.{HasNoZero}
use Rattle.octet_laws.specs.Laws.{IsSpelledAs}
use Rattle.octet_laws.specs.Tellings.{IsPdu, deliver_sm, esme_rok, query_sm_resp}
use Rattle.octet_laws.specs.Sessions.{CancelCame, QueryCame, query_sm, IsRequest, cancel_sm, cancel_sm_resp}
use Rattle.octet_laws.proofs.Streams.{cut_octets}
use Rattle.octet_laws.proofs.Words.{IsFrontRead, IsSplit, Lacks, cons_first, cons_rest, split}

-- ---- texts

pub lacks_zero : (text : List ℕ) → HasNoZero text → Lacks 0 text
lacks_zero text none = by_each text (recursion_from_All (λ (octet : ℕ). 0 < octet) text none)
  where
    by_each : (text : List ℕ) → AllByRecursion (λ (octet : ℕ). 0 < octet) text → Lacks 0 text
    by_each [] each = tt
    by_each (first ∷ text) each = let above = each.0 in (λ same. absurd (omega (arith, above, same)), by_each text each.1)

-- a text ends at its first zero, whatever stands behind the last field
text_back : (one other first second rest : List ℕ) → Lacks 0 one → Lacks 0 other → one ++ 0 ∷ [] ++ first ≡ other ++ 0 ∷ [] ++ second ++ rest →
    IsSplit one other first (second ++ rest)
text_back one other first second rest none also is =
    split 0 one other first (second ++ rest) none also
    (sym (append_assoc one (0 ∷ []) first) ∙ is ∙ append_assoc (other ++ 0 ∷ []) second rest ∙ append_assoc other (0 ∷ []) (second ++ rest))

pub same_front : (one other first second : List ℕ) → length one ≡ length other → one ++ first ≡ other ++ second → one ≡ other
same_front [] [] first second same is = refl
same_front [] (octet ∷ other) first second same is = absurd (omega (arith, same))
same_front (octet ∷ one) [] first second same is = absurd (omega (arith, same))
same_front (octet ∷ one) (digit ∷ other) first second same is =
    let rest = same_front one other first second (omega (arith, same)) (cons_rest octet digit (one ++ first) (other ++ second) is) in
    λ i. cons_first octet digit (one ++ first) (other ++ second) is i ∷ rest i

no_text : (text more rest : List ℕ) → [] ≡ text ++ 0 ∷ [] ++ more ++ rest → ⊥
no_text [] more rest is = cc
no_text (octet ∷ text) more rest is = cc

-- ---- commands

of_query : (body : Body) → command_in body ≡ commands.QuerySmResp → (answer : Option QueryAnswer) × (body ≡ bodies.QuerySmResp answer)
of_query (bodies.QuerySmResp answer) is = (answer, refl)
of_query (bodies.BindReceiver bind) is = absurd cc
of_query (bodies.BindReceiverResp answer) is = absurd cc
of_query (bodies.BindTransmitter bind) is = absurd cc
of_query (bodies.BindTransmitterResp answer) is = absurd cc
of_query (bodies.BindTransceiver bind) is = absurd cc
of_query (bodies.BindTransceiverResp answer) is = absurd cc
of_query (bodies.SubmitSm message) is = absurd cc
of_query (bodies.SubmitSmResp answer) is = absurd cc
of_query (bodies.DeliverSm message) is = absurd cc
of_query (bodies.DeliverSmResp answer) is = absurd cc
of_query (bodies.QuerySm query) is = absurd cc
of_query (bodies.CancelSm cancel) is = absurd cc
of_query bodies.CancelSmResp is = absurd cc
of_query bodies.Unbind is = absurd cc
of_query bodies.UnbindResp is = absurd cc
of_query bodies.EnquireLink is = absurd cc
of_query bodies.EnquireLinkResp is = absurd cc
of_query bodies.GenericNack is = absurd cc

of_deliver : (body : Body) → command_in body ≡ commands.DeliverSm → (message : Message) × (body ≡ bodies.DeliverSm message)
of_deliver (bodies.DeliverSm message) is = (message, refl)
of_deliver (bodies.QuerySmResp answer) is = absurd cc
of_deliver (bodies.BindReceiver bind) is = absurd cc
of_deliver (bodies.BindReceiverResp answer) is = absurd cc
of_deliver (bodies.BindTransmitter bind) is = absurd cc
of_deliver (bodies.BindTransmitterResp answer) is = absurd cc
of_deliver (bodies.BindTransceiver bind) is = absurd cc
of_deliver (bodies.BindTransceiverResp answer) is = absurd cc
of_deliver (bodies.SubmitSm message) is = absurd cc
of_deliver (bodies.SubmitSmResp answer) is = absurd cc
of_deliver (bodies.DeliverSmResp answer) is = absurd cc
of_deliver (bodies.QuerySm query) is = absurd cc
of_deliver (bodies.CancelSm cancel) is = absurd cc
of_deliver bodies.CancelSmResp is = absurd cc
of_deliver bodies.Unbind is = absurd cc
of_deliver bodies.UnbindResp is = absurd cc
of_deliver bodies.EnquireLink is = absurd cc
of_deliver bodies.EnquireLinkResp is = absurd cc
of_deliver bodies.GenericNack is = absurd cc

of_cancelled : (body : Body) → command_in body ≡ commands.CancelSmResp → body ≡ bodies.CancelSmResp
of_cancelled bodies.CancelSmResp is = refl
of_cancelled (bodies.BindReceiver bind) is = absurd cc
of_cancelled (bodies.BindReceiverResp answer) is = absurd cc
of_cancelled (bodies.BindTransmitter bind) is = absurd cc
of_cancelled (bodies.BindTransmitterResp answer) is = absurd cc
of_cancelled (bodies.BindTransceiver bind) is = absurd cc
of_cancelled (bodies.BindTransceiverResp answer) is = absurd cc
of_cancelled (bodies.SubmitSm message) is = absurd cc
of_cancelled (bodies.SubmitSmResp answer) is = absurd cc
of_cancelled (bodies.DeliverSm message) is = absurd cc
of_cancelled (bodies.DeliverSmResp answer) is = absurd cc
of_cancelled (bodies.QuerySm query) is = absurd cc
of_cancelled (bodies.QuerySmResp answer) is = absurd cc
of_cancelled (bodies.CancelSm cancel) is = absurd cc
of_cancelled bodies.Unbind is = absurd cc
of_cancelled bodies.UnbindResp is = absurd cc
of_cancelled bodies.EnquireLink is = absurd cc
of_cancelled bodies.EnquireLinkResp is = absurd cc
of_cancelled bodies.GenericNack is = absurd cc

-- ---- what is read

-- one body is read of the first octets of another
pub record IsReadAs (body read : Body) : Type 0 where
  pub command : command_in body ≡ command_in read
  pub rest : List ℕ
  pub octets : body_octets body ≡ body_octets read ++ rest
  pub fits : BodyFits read

code_in : (command status sequence : ℕ) (body rest : List ℕ) → command < 2 ^ 32 → word_at 4 (framed command status sequence body ++ rest) ≡ command
unfolding framed
code_in command status sequence body rest short = from_be_bytes-to_be_bytes_4 command short

body_in : (command status sequence : ℕ) (body rest : List ℕ) → drop 16 (framed command status sequence body ++ rest) ≡ body ++ rest
unfolding framed
body_in command status sequence body rest = refl

-- the command and the octets of a body are those in its PDU
read_as : (pdu : Pdu) (octets : List ℕ) → IsFrontRead (octets_of pdu) octets → (read : Body) (status sequence : ℕ) →
    octets ≡ framed (command_code (command_in read)) status sequence (body_octets read) → BodyFits read → IsReadAs pdu.body read
unfolding octets_of
read_as pdu octets front read status sequence is fits =
    let own = body_octets pdu.body in
    let same : framed (command_code (command_in pdu.body)) pdu.status pdu.sequence own ++ [] ≡ framed (command_code (command_in read)) status sequence
    (body_octets read) ++ front.rest = append-nil _ ∙ front.is ∙ ap (λ (o : List ℕ). o ++ front.rest) is in
    let code = sym (code_at pdu.body pdu.status pdu.sequence []) ∙ ap (word_at 4) same ∙ code_at read status sequence front.rest in
    let both : Some (command_in pdu.body) ≡ Some (command_in read) =
    sym (served (command_in pdu.body)).known ∙ ap command_of code ∙ (served (command_in read)).known in
    record {
      command = one_command _ _ both;
      rest = front.rest;
      octets = sym (append-nil own) ∙ sym (body_in (command_code (command_in pdu.body)) pdu.status pdu.sequence own []) ∙ ap (drop 16) same
          ∙ body_in (command_code (command_in read)) status sequence (body_octets read) front.rest;
      fits = fits;
    }
  where
    code_at : (body : Body) (status sequence : ℕ) (rest : List ℕ) →
        word_at 4 (framed (command_code (command_in body)) status sequence (body_octets body) ++ rest) ≡ command_code (command_in body)
    code_at body status sequence rest =
        code_in (command_code (command_in body)) status sequence (body_octets body) rest
        (ltb-true (command_code (command_in body)) (2 ^ 32) (served (command_in body)).number)

    one_command : (one other : Command) → Some one ≡ Some other → one ≡ other
    one_command one other is = cc

-- ---- headers

bytes_back : (number : ℕ) → from_be_bytes w32 (to_be_bytes w32 number) ≡ number % 2 ^ 32
bytes_back number = omega arith

-- four octets are those of the sequence_number, whatever stands behind
sequence_in : (command status sequence : ℕ) (body rest : List ℕ) → take 4 (drop 12 (framed command status sequence body ++ rest)) ≡ to_be_bytes w32 sequence
unfolding framed
sequence_in command status sequence body rest = refl

status_in : (command status sequence : ℕ) (body rest : List ℕ) → take 4 (drop 8 (framed command status sequence body ++ rest)) ≡ to_be_bytes w32 status
unfolding framed
status_in command status sequence body rest = refl

-- a PDU whose front octets are these has their status and sequence_number
pub record HasHeader (pdu : Pdu) (status sequence : ℕ) : Type 0 where
  pub status_is : to_be_bytes w32 pdu.status ≡ to_be_bytes w32 status
  pub sequence_is : to_be_bytes w32 pdu.sequence ≡ to_be_bytes w32 sequence

pub header_read : (pdu : Pdu) (octets : List ℕ) → IsFrontRead (octets_of pdu) octets → (command status sequence : ℕ) (body : List ℕ) →
    octets ≡ framed command status sequence body → HasHeader pdu status sequence
unfolding octets_of
header_read pdu octets front command status sequence body is =
    let own = command_code (command_in pdu.body) in
    let same : framed own pdu.status pdu.sequence (body_octets pdu.body) ++ [] ≡ framed command status sequence body ++ front.rest =
    append-nil _ ∙ front.is ∙ ap (λ (o : List ℕ). o ++ front.rest) is in
    record {
      status_is = sym (status_in own pdu.status pdu.sequence (body_octets pdu.body) []) ∙ ap (λ (o : List ℕ). take 4 (drop 8 o)) same
          ∙ status_in command status sequence body front.rest;
      sequence_is = sym (sequence_in own pdu.status pdu.sequence (body_octets pdu.body) []) ∙ ap (λ (o : List ℕ). take 4 (drop 12 o)) same
          ∙ sequence_in command status sequence body front.rest;
    }

pub status_zero : (pdu : Pdu) (sequence : ℕ) → HasHeader pdu 0 sequence → pdu.status % 2 ^ 32 ≡ 0
status_zero pdu sequence header = sym (bytes_back pdu.status) ∙ ap (from_be_bytes w32) header.status_is ∙ bytes_back 0

pub framed_same : (command status one other : ℕ) (body : List ℕ) → to_be_bytes w32 one ≡ to_be_bytes w32 other →
    framed command status one body ≡ framed command status other body
unfolding framed
framed_same command status one other body same =
    ap (λ (octets : List ℕ). to_be_bytes w32 (16 + length body) ++ to_be_bytes w32 command ++ to_be_bytes w32 status ++ octets ++ body) same

-- ---- a cancel_sm_resp, and a cancel_sm

pub cancelled_read : (pdu : Pdu) (octets : List ℕ) → IsFrontRead (octets_of pdu) octets → (sequence : ℕ) →
    octets ≡ framed cancel_sm_resp esme_rok sequence [] → pdu.body ≡ bodies.CancelSmResp
cancelled_read pdu octets front sequence is =
    of_cancelled pdu.body (read_as pdu octets front bodies.CancelSmResp esme_rok sequence is tt).command

pub cancel_came : (stream : List ℕ) → IsOctets stream → (frame : List ℕ) → In frame (cut stream).frames → (pdu : Pdu) → read_pdu frame ≡ Ok pdu →
    (cancel : Cancel) → pdu.body ≡ bodies.CancelSm cancel → (sequence : ℕ) → to_be_bytes w32 pdu.sequence ≡ to_be_bytes w32 sequence →
    CancelCame stream sequence cancel.message_id
unfolding octets_of
cancel_came stream octets frame among pdu reads cancel body sequence same =
    let takes = read_pdu-takes frame pdu (cut_octets stream octets frame among) reads in
    by_body pdu.body body takes.spelled takes.fits.body
  where
    by_body : (own : Body) → own ≡ bodies.CancelSm cancel → frame ≡ framed (command_code (command_in own)) pdu.status pdu.sequence (body_octets own) →
        BodyFits own → CancelCame stream sequence cancel.message_id
    by_body own is spelled fits = record {
      frame = frame;
      among = among;
      status = pdu.status;
      cancel = cancel;
      pdu = record {
        sequence = sequence;
        octets_are = spelled
            ∙ ap (λ (b : Body). framed (command_code (command_in b)) pdu.status pdu.sequence (body_octets b)) is
            ∙ framed_same cancel_sm pdu.status pdu.sequence sequence (body_octets (bodies.CancelSm cancel)) same;
        within = subst BodyFits is fits;
      };
      sequence_is = refl;
      message = refl;
    }

pub query_came : (stream : List ℕ) → IsOctets stream → (frame : List ℕ) → In frame (cut stream).frames → (pdu : Pdu) → read_pdu frame ≡ Ok pdu →
    (query : Query) → pdu.body ≡ bodies.QuerySm query → (sequence : ℕ) → to_be_bytes w32 pdu.sequence ≡ to_be_bytes w32 sequence →
    QueryCame stream sequence query.message_id
unfolding octets_of
query_came stream octets frame among pdu reads query body sequence same =
    let takes = read_pdu-takes frame pdu (cut_octets stream octets frame among) reads in
    by_body pdu.body body takes.spelled takes.fits.body
  where
    by_body : (own : Body) → own ≡ bodies.QuerySm query → frame ≡ framed (command_code (command_in own)) pdu.status pdu.sequence (body_octets own) →
        BodyFits own → QueryCame stream sequence query.message_id
    by_body own is spelled fits = record {
      frame = frame;
      among = among;
      status = pdu.status;
      query = query;
      pdu = record {
        sequence = sequence;
        octets_are = spelled
            ∙ ap (λ (b : Body). framed (command_code (command_in b)) pdu.status pdu.sequence (body_octets b)) is
            ∙ framed_same query_sm pdu.status pdu.sequence sequence (body_octets (bodies.QuerySm query)) same;
        within = subst BodyFits is fits;
      };
      sequence_is = refl;
      message = refl;
    }

-- a frame that is read is a request with the sequence_number
pub is_request : (stream : List ℕ) → IsOctets stream → (frame : List ℕ) → In frame (cut stream).frames → (pdu : Pdu) → read_pdu frame ≡ Ok pdu →
    command_code (command_in pdu.body) < 0x80000000 → (sequence : ℕ) → to_be_bytes w32 pdu.sequence ≡ to_be_bytes w32 sequence → IsRequest frame sequence
unfolding octets_of
is_request stream octets frame among pdu reads asks sequence same =
    let takes = read_pdu-takes frame pdu (cut_octets stream octets frame among) reads in
    record {
      command = command_code (command_in pdu.body);
      request = asks;
      status = pdu.status;
      body = body_octets pdu.body;
      octets_are = takes.spelled ∙ framed_same (command_code (command_in pdu.body)) pdu.status pdu.sequence sequence (body_octets pdu.body) same;
    }

pub answer_read : (pdu : Pdu) (octets : List ℕ) → IsFrontRead (octets_of pdu) octets → (answer : QueryAnswer) →
    IsPdu octets query_sm_resp esme_rok query_answer_parts (query_answer_contents answer) → IsReadAs pdu.body (bodies.QuerySmResp (Some answer))
answer_read pdu octets front answer is = read_as pdu octets front (bodies.QuerySmResp (Some answer)) esme_rok is.sequence is.octets_are is.within

pub message_read : (pdu : Pdu) (octets : List ℕ) → IsFrontRead (octets_of pdu) octets → (status : ℕ) (message : Message) →
    IsPdu octets deliver_sm status message_parts (message_contents message) → IsReadAs pdu.body (bodies.DeliverSm message)
message_read pdu octets front status message is = read_as pdu octets front (bodies.DeliverSm message) status is.sequence is.octets_are is.within

-- ---- what the codec reads

pub read_spelled : (octets : List ℕ) (pdu : Pdu) → IsOctets octets → read_pdu octets ≡ Ok pdu → IsSpelledAs octets pdu.status pdu.body
unfolding octets_of
read_spelled octets pdu bytes reads =
    let takes = read_pdu-takes octets pdu bytes reads in by_body pdu.body takes.spelled takes.fits.body
  where
    by_body : (body : Body) → octets ≡ framed (command_code (command_in body)) pdu.status pdu.sequence (body_octets body) → BodyFits body →
        IsSpelledAs octets pdu.status body
    by_body (bodies.QuerySmResp (Some answer)) is fits = record { sequence = pdu.sequence; octets_are = is; within = fits }
    by_body (bodies.QuerySmResp None) is fits = tt
    by_body (bodies.DeliverSm message) is fits = record { sequence = pdu.sequence; octets_are = is; within = fits }
    by_body other is fits = tt

-- ---- a query_sm_resp

pub record IsAnswerOf (body : Body) (read : QueryAnswer) : Type 0 where
  pub answer : QueryAnswer
  pub body_is : body ≡ bodies.QuerySmResp (Some answer)
  pub agrees : Lacks 0 answer.message_id → Lacks 0 answer.final_date → (read.message_id ≡ answer.message_id) × (read.message_state ≡ answer.message_state)

pub query_back : (body : Body) (told : QueryAnswer) → IsReadAs body (bodies.QuerySmResp (Some told)) → IsAnswerOf body told
query_back body told same =
    let it = of_query body same.command in
    by_answer it.0 it.1 same.rest
    (subst (λ (b : Body). body_octets b ≡ body_octets (bodies.QuerySmResp (Some told)) ++ same.rest) it.1 same.octets) same.fits
  where
    by_answer : (answer : Option QueryAnswer) → body ≡ bodies.QuerySmResp answer → (rest : List ℕ) →
        body_octets (bodies.QuerySmResp answer) ≡ body_octets (bodies.QuerySmResp (Some told)) ++ rest → BodyFits (bodies.QuerySmResp (Some told)) →
        IsAnswerOf body told
    by_answer None is rest octets fits = absurd (no_text told.message_id _ rest octets)
    by_answer (Some answer) is rest octets fits = record {
      answer = answer;
      body_is = is;
      agrees = λ id date.
          let first = text_back answer.message_id told.message_id _ _ rest id (lacks_zero told.message_id fits.0.no_zero) octets in
          let second = text_back answer.final_date told.final_date _ _ rest date (lacks_zero told.final_date fits.1.0.no_zero) first.rests in
          (sym first.words, sym (cons_first answer.message_state told.message_state _ _ second.rests));
    }

-- ---- a deliver_sm

-- the texts in front of what it brings have no zero
pub record IsClearInFront (message : Message) : Type 0 where
  pub service_type : Lacks 0 message.service_type
  pub source : Lacks 0 message.source.digits
  pub destination : Lacks 0 message.destination.digits
  pub schedule : Lacks 0 message.schedule_delivery_time
  pub validity : Lacks 0 message.validity_period

pub record IsDeliveryOf (body : Body) (read : Message) : Type 0 where
  pub message : Message
  pub body_is : body ≡ bodies.DeliverSm message
  pub agrees : IsClearInFront message → (read.esm_class ≡ message.esm_class) × (read.short_message ≡ message.short_message)

pub deliver_back : (body : Body) (told : Message) → IsReadAs body (bodies.DeliverSm told) → IsDeliveryOf body told
deliver_back body told same =
    let it = of_deliver body same.command in
    record {
      message = it.0;
      body_is = it.1;
      agrees = agrees it.0 same.rest (subst (λ (b : Body). body_octets b ≡ body_octets (bodies.DeliverSm told) ++ same.rest) it.1 same.octets) same.fits;
    }
  where
    agrees : (message : Message) (rest : List ℕ) → body_octets (bodies.DeliverSm message) ≡ body_octets (bodies.DeliverSm told) ++ rest →
        BodyFits (bodies.DeliverSm told) →
        IsClearInFront message → (told.esm_class ≡ message.esm_class) × (told.short_message ≡ message.short_message)
    agrees message rest octets fits clear =
        let service = text_back message.service_type told.service_type _ _ rest clear.service_type (lacks_zero told.service_type fits.0.no_zero) octets in
        let source = text_back message.source.digits told.source.digits _ _ rest clear.source (lacks_zero told.source.digits fits.1.1.1.0.no_zero)
        (ap (drop 2) service.rests) in
        let destination = text_back message.destination.digits told.destination.digits _ _ rest clear.destination
        (lacks_zero told.destination.digits fits.1.1.1.1.1.1.0.no_zero) (ap (drop 2) source.rests) in
        let schedule = text_back message.schedule_delivery_time told.schedule_delivery_time _ _ rest clear.schedule
        (lacks_zero told.schedule_delivery_time fits.1.1.1.1.1.1.1.1.1.1.0.no_zero) (ap (drop 3) destination.rests) in
        let validity = text_back message.validity_period told.validity_period _ _ rest clear.validity
        (lacks_zero told.validity_period fits.1.1.1.1.1.1.1.1.1.1.1.0.no_zero) schedule.rests in
        let text = ap (drop 4) validity.rests in (
          sym (cons_first message.esm_class told.esm_class _ _ destination.rests),
          sym (same_front message.short_message told.short_message _ _ (cons_first _ _ _ _ text)
              (cons_rest _ _ _ _ text ∙ append_assoc told.short_message _ rest)),
        )
