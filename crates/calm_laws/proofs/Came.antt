-- What it is that the runner and the one node do alike with what came on a session, before receipts go out.
use Rattle.std.proofs.Common.{◌≡◌, ℕ, Bool, List, Option}
use Rattle.sessions.specs.Steps.{Done}
use Rattle.script_text.specs.Settings.{Settings}
use Rattle.script_text.specs.Runner.{Owned, Served, session_in}
use Rattle.script_text.specs.Runner as runner
use Rattle.script_text.specs.OneNode.{Happened, OneNode, reacted}
use Rattle.calm_laws.proofs.Plain.{holding}
use Rattle.calm_laws.proofs.Standing.{Agree, IsQuiet, requests_at}

-- what the one node does with what a session did
abbrev pub reacted_by : Settings → OneNode → ℕ → runner.Came → Done → Happened
reacted_by settings one number came done = reacted settings one number came done.next done.reaction

-- what came on a session, which is of this account then, left both alike
pub record Came (settings : Settings) (first left number : ℕ) (quiet : Bool) (before : OneNode) (owned : Option Owned) (served : Served) (happened : Happened)
    (account : Option (List ℕ)) : Type 0 where
  pub holds : Option Owned
  pub agree : Agree settings first left happened.next holds served.next.node
  pub session : served.next.session ≡ holding (session_in happened.next.sessions number) (requests_at holds number)
  pub bound : served.next.session.account ≡ account
  pub prints : served.prints ≡ happened.prints
  pub others : (other : ℕ) → (number ≡ other → ⊥) → session_in happened.next.sessions other ≡ session_in before.sessions other
  pub requests : (other : ℕ) → (number ≡ other → ⊥) → requests_at holds other ≡ requests_at owned other
  pub waiting : happened.next.waiting ≡ before.waiting
  pub still : IsQuiet quiet holds served.next.node
