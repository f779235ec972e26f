-- What goes out on a session is a PDU.
use Rattle.std.specs.Prelude.{◌≡◌, ℕ, Bool, List, Option, Some, None, option_map}
use Rattle.mc_model.specs.message.Chain.{taken_in}
use Rattle.mc_model.specs.message.Submission.{Submission}
use Rattle.pdu_codec.specs.Pdu.{octets_of}
use Rattle.delivery.specs.Deliveries.{EndsInAttempt, delivered_message}
use Rattle.receipts.specs.Texts.{Report}
use Rattle.waiting_requests.specs.Replying.{answer_given}
use Rattle.esme_service.specs.Pushes.{deliver_sm}
use Rattle.esme_service.specs.Reports.{report_pdu, reported_on}
use Rattle.esme_service.specs.Responses.{reply_pdu}
use Rattle.esme_service.specs.declared.sending.Sending.{Sending}
use Rattle.esme_service.specs.declared.sending.Sending.TheVariants.{Reply, Attempt, Receipt}

-- the session on which it goes out
abbrev pub number_of : Sending → ℕ
number_of (Reply owner reply) = owner.number
number_of (Attempt pushed chain) = pushed.number
number_of (Receipt pushed chain) = pushed.number

-- the octets of a report that goes out with a sequence_number
abbrev pub report_octets : ℕ → Bool → Report → List ℕ
report_octets sequence optional report = octets_of (report_pdu sequence optional report)

-- These octets, or none, are those of what goes out. Of an attempt nothing is said if its chain does not end in one.
abbrev pub AreOctetsOf : Sending → Option (List ℕ) → Type 0
AreOctetsOf (Reply owner reply) octets =
    octets ≡ Some (octets_of (reply_pdu owner.request.requested owner.request.sequence reply.id (answer_given reply.answer)))
AreOctetsOf (Attempt pushed chain) octets =
    EndsInAttempt chain.decrees → (taken : Submission) → taken_in chain.decrees ≡ Some taken
    → octets ≡ Some (octets_of (deliver_sm pushed.sequence pushed.knows_optional (delivered_message taken)))
AreOctetsOf (Receipt pushed chain) octets =
    octets ≡ option_map (report_octets pushed.sequence pushed.knows_optional) (reported_on chain.id chain.decrees)

-- An attempt has no PDU if its chain does not end in one, and a receipt if the chain reports nothing.
abbrev pub HasNoPdu : Sending → Type 0
HasNoPdu (Reply owner reply) = ⊥
HasNoPdu (Attempt pushed chain) = ¬ EndsInAttempt chain.decrees
HasNoPdu (Receipt pushed chain) = reported_on chain.id chain.decrees ≡ None
