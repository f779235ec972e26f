-- Receipts go out, one after another (own).
use Rattle.std.specs.Prelude.{ℕ, false, zero, suc, List, [], ◌∷◌, find, length, Option, Some, None}
use Rattle.mc_model.specs.node.Input.{Input}
use Rattle.mc_model.specs.node.Outputs.{Receipt}
use Rattle.receipts.specs.Texts.{Report}
use Rattle.sessions.specs.Session.{Session}
use Rattle.sessions.specs.Windows.{without_first}
use Rattle.sessions.specs.declared.pushed.Delivery.TheVariants as deliveries
use Rattle.script_text.specs.Pushes.{knows_optional, session_at, target_in, with_push}
use Rattle.script_text.specs.Left.{Left, followed_by, rests}
use Rattle.script_text.specs.Prints.{Print, Reports}
pub use Rattle.esme_service.specs.Reports.{began_at, report_if, reported_as, reported_below, reported_by, reported_by_fate, reported_on}
pub use Rattle.esme_service.specs.Reports.{is_for, most_waiting, submitter_of, waits_for}

-- the sessions that are connected, and the receipts that wait, the oldest first
pub record Mail : Type 0 where
  pub sessions : List (ℕ × Session)
  pub waiting : List Receipt

-- what is left of them, and what was printed: nothing comes to the node
abbrev pub Posted : Type 0
Posted = Left Mail Input Print

-- ---- they go out

-- what is printed of a receipt that goes out on a session
abbrev pub reports_on : ℕ → Option Session → Option Report → List Print
reports_on number (Some session) (Some report) = Reports number session.next_sequence (knows_optional session) report ∷ []
reports_on number session report = []

-- one that waits for an account goes out at a moment, over the session of this number
abbrev pub goes_out : ℕ → List ℕ → Mail → Receipt → ℕ → Posted
goes_out now account mail receipt number = record {
  next = record {
    sessions = with_push mail.sessions number now (deliveries.Receipt receipt.id);
    waiting = without_first (is_for account) mail.waiting;
  };
  inputs = [];
  prints = reports_on number (session_at mail.sessions number) (reported_by receipt);
}

abbrev pub with_both : {A B C : Type 0} → C → (A → B → C) → Option A → Option B → C
with_both none both (Some a) (Some b) = both a b
with_both none both a b = none

-- so many go out at most, the oldest first, as long as one waits for the account and a session takes it
unfoldable pub goes_out_up_to : ℕ → ℕ → List ℕ → Mail → Posted
goes_out_up_to zero now account mail = rests mail
goes_out_up_to (suc more) now account mail =
    with_both (rests mail)
    (λ receipt number. followed_by (goes_out now account mail receipt number) (goes_out_up_to more now account (goes_out now account mail receipt number).next))
    (find (is_for account) mail.waiting) (target_in mail.sessions false account)

-- what waits for an account goes out, as far as its sessions take it
abbrev pub posted_for : ℕ → Mail → List ℕ → Posted
posted_for now mail account = goes_out_up_to (length mail.waiting) now account mail

abbrev pub posted_for_any : ℕ → Mail → Option (List ℕ) → Posted
posted_for_any now mail None = rests mail
posted_for_any now mail (Some account) = posted_for now mail account

-- for one account after the other
unfoldable pub posted_for_all : ℕ → Mail → List (List ℕ) → Posted
posted_for_all now mail [] = rests mail
posted_for_all now mail (account ∷ others) = followed_by (posted_for now mail account) (posted_for_all now (posted_for now mail account).next others)

-- ---- new ones

-- a receipt is due: it waits for its account, and goes out if it can
abbrev pub posted_to : ℕ → Mail → Receipt → Option (List ℕ) → Posted
posted_to now mail receipt None = rests mail
posted_to now mail receipt (Some account) = posted_for now (record mail { waiting = waits_for account mail.waiting receipt }) account

abbrev pub posted : ℕ → Mail → Receipt → Posted
posted now mail receipt = posted_to now mail receipt (submitter_of receipt)

-- one after the other
unfoldable pub all_posted : ℕ → Mail → List Receipt → Posted
all_posted now mail [] = rests mail
all_posted now mail (receipt ∷ others) = followed_by (posted now mail receipt) (all_posted now (posted now mail receipt).next others)
