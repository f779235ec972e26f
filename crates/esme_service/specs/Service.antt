-- The service of the ESMEs at a node: the sessions that are connected, by their numbers, and the receipts that wait for one, the oldest
-- first (own).
use Rattle.std.specs.Prelude.{◌≡◌, ℕ, false, List, Option, Some, None, find}
use Rattle.mc_model.specs.message.Chain.{Chain}
use Rattle.mc_model.specs.node.Outputs.{Receipt}
use Rattle.node_model.specs.Reported.{receipt_of}
use Rattle.sessions.specs.Session.{Session}
use Rattle.sessions.specs.Windows.{without_first}
use Rattle.sessions.specs.declared.pushed.Delivery.TheVariants as deliveries
use Rattle.esme_service.specs.Pushes.{target_in}
use Rattle.esme_service.specs.Reports.{is_for}
use Rattle.esme_service.specs.Pushing.{GoesOut}
use Rattle.esme_service.specs.declared.pushed_on.PushedOn.{PushedOn}
use Rattle.esme_service.specs.declared.sending.Sending.{Sending}
use Rattle.esme_service.specs.declared.sending.Sending.TheVariants as sendings

pub record Service : Type 0 where
  pub sessions : List (ℕ × Session)
  pub waiting : List Receipt

-- The oldest receipt that waits for an account goes out next on one of its sessions.
pub record SendsReceipt (before : Service) (account : List ℕ) (now : ℕ) (pushed : PushedOn) (chain : Chain) (after : Service) : Type 0 where
  pub first : Some (receipt_of chain) ≡ find (is_for account) before.waiting
  pub out : GoesOut before.sessions false account now (deliveries.Receipt chain.id) pushed after.sessions
  pub rest : after.waiting ≡ without_first (is_for account) before.waiting

abbrev pub is_none_of : {A B : Type 0} → Option A → Option B → Type 0
is_none_of None other = Unit {0}
is_none_of (Some one) None = Unit {0}
is_none_of (Some one) (Some other) = ⊥

-- Or none waits, or no session takes it, and nothing changed.
abbrev pub SendsNextReceipt : Service → List ℕ → ℕ → Option Sending → Service → Type 0
SendsNextReceipt before account now None after =
    is_none_of (find (is_for account) before.waiting) (target_in before.sessions false account) × (after ≡ before)
SendsNextReceipt before account now (Some (sendings.Receipt pushed chain)) after = SendsReceipt before account now pushed chain after
SendsNextReceipt before account now (Some (sendings.Attempt pushed chain)) after = ⊥
SendsNextReceipt before account now (Some (sendings.Reply owner reply)) after = ⊥
