-- What is put for the sessions of a node, in the words of what a script prints.
use Rattle.std.specs.Prelude.{◌≡◌, ◌⊎◌, ℕ, List, [], ◌∷◌, Contains, Option, Some, None}
use Rattle.mc_model.specs.message.Chain.{taken_in}
use Rattle.mc_model.specs.message.Submission.{Submission}
use Rattle.mc_model.specs.node.Outputs.{Receipt, Reply}
use Rattle.delivery.specs.Deliveries.{EndsInAttempt, delivered_message}
use Rattle.receipts.specs.Texts.{Report}
use Rattle.waiting_requests.specs.Replying.{reply_given}
use Rattle.esme_service.specs.Pushes.{deliver_sm}
use Rattle.esme_service.specs.Reports.{reported_on}
use Rattle.esme_service.specs.Service.{Service}
use Rattle.esme_service.specs.Sessions.{account_at}
use Rattle.esme_service.specs.Told.{owned_by}
use Rattle.esme_service.specs.declared.pushed_on.PushedOn.{PushedOn}
use Rattle.esme_service.specs.declared.sending.Sending.{Sending}
use Rattle.esme_service.specs.declared.sending.Sending.TheVariants as sendings
use Rattle.script_text.specs.Prints.{Print, AtOnce, Late, Delivers, Reports, Gone, Declined, Ungranted}
use Rattle.script_text.specs.Left.{in_front}
use Rattle.script_text.specs.Receipts.{Mail, Posted, all_posted, posted_for_any}
use Rattle.script_text.specs.Runner.{reply_prints, Told, told}

-- ---- what goes out

-- what is printed of a receipt that was pushed, if its chain reports something (SMPP 3.4, appendix B)
abbrev pub report_prints : PushedOn → Option Report → List Print
report_prints pushed None = []
report_prints pushed (Some report) = Reports pushed.number pushed.sequence pushed.knows_optional report ∷ []

-- That of the attempt in which a chain ends is the deliver_sm of what was taken (4.6.1).
pub record IsDelivered (pushed : PushedOn) (chain : _) (prints : List Print) : Type 0 where
  pub ends : EndsInAttempt chain
  pub taken : Submission
  pub is : taken_in chain ≡ Some taken
  pub prints_are : prints ≡ Delivers pushed.number (deliver_sm pushed.sequence pushed.knows_optional (delivered_message taken)) ∷ []

-- This is printed of what goes out.
abbrev pub ArePrintsOf : Sending → List Print → Type 0
ArePrintsOf (sendings.Reply owner reply) prints = prints ≡ reply_prints (reply_given reply) (Some (owned_by owner))
ArePrintsOf (sendings.Attempt pushed chain) prints = IsDelivered pushed chain.decrees prints
ArePrintsOf (sendings.Receipt pushed chain) prints = prints ≡ report_prints pushed (reported_on chain.id chain.decrees)

abbrev pub mail_in : Service → Mail
mail_in service = record { sessions = service.sessions; waiting = service.waiting }

-- ---- what a step gave out

-- receipts are due, behind replies
abbrev pub posted_behind : ℕ → List Receipt → List Receipt → Told → Posted
posted_behind now waiting receipts told = in_front told.prints (all_posted now (record { sessions = told.next; waiting = waiting }) receipts)

-- its replies go out, and then its receipts
abbrev pub given_out : ℕ → Service → List Reply → List Receipt → Posted
given_out now service replies receipts = posted_behind now service.waiting receipts (told service.sessions replies)

-- ---- what waits

-- what waits for the account of the session of a number goes out, if one is bound there
abbrev pub posted_on : ℕ → Service → ℕ → Posted
posted_on now service number = posted_for_any now (mail_in service) (account_at service.sessions number)

-- ---- if there was no memory for some of it (own)

-- the session on which it was to be put is lost
abbrev pub IsLost : List ℕ → Print → Type 0
IsLost lost (AtOnce number pdu) = Contains lost number
IsLost lost (Late number id pdu) = Contains lost number
IsLost lost (Delivers number pdu) = Contains lost number
IsLost lost (Reports number sequence optional report) = Contains lost number
IsLost lost (Gone number) = Contains lost number
IsLost lost (Declined number) = ⊥
IsLost lost (Ungranted reason) = ⊥

-- Of these prints each was put in its turn, or its session is lost.
unfoldable pub IsSettledBy : List Print → List ℕ → List Print → Type 0
IsSettledBy put lost [] = put ≡ []
IsSettledBy put lost (print ∷ prints) =
    ((others : List Print) × (put ≡ print ∷ others) × IsSettledBy others lost prints) ⊎ (IsLost lost print × IsSettledBy put lost prints)

-- so between two states of an outlet
pub record HasSettled {O : Type 0} (puts : O → List Print → List ℕ → O → Type 0) (prints : List Print) (before after : O) : Type 0 where
  pub put : List Print
  pub lost : List ℕ
  pub did : puts before put lost after
  pub settled : IsSettledBy put lost prints

-- Receipts went out so, or none did and nothing changed.
abbrev pub SettlesOrStays : {O : Type 0} → (O → List Print → List ℕ → O → Type 0) → Posted → Service → O → Service → O → Type 0
SettlesOrStays puts posted service before left after =
    ((mail_in left ≡ posted.next) × HasSettled puts posted.prints before after) ⊎ ((left ≡ service) × puts before [] [] after)
