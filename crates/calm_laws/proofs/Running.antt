-- A runner, and the one node: they stay alike as receipts go out.
use Rattle.std.proofs.Common.{◌≡◌, ℕ, Bool, List, Option, sym, subst}
use Rattle.std.specs.Prelude.{is_none}
use Rattle.script_text.specs.Settings.{Settings}
use Rattle.script_text.specs.Pushes.{session_at}
use Rattle.script_text.specs.Receipts.{Mail, Posted}
use Rattle.script_text.specs.Runner.{Acted, Owned, Runner, held_in}
use Rattle.script_text.specs.Runner as runners
use Rattle.script_text.specs.OneNode.{Happened, OneNode}
use Rattle.script_text.specs.OneNode as one_node
use Rattle.calm_laws.proofs.Connected.{AreConnected}
use Rattle.calm_laws.proofs.Posting.{ArePosted, PostsAlike}
use Rattle.calm_laws.proofs.Standing.{Agree, IsQuiet, clock_is, refit}

-- The sessions are as the one node has them, and so is the node, of each session the same octets wait for more, and the same receipts wait.
pub record Runs (settings : Settings) (first left : ℕ) (quiet : Bool) (one : OneNode) (streams : List (ℕ × List ℕ)) (runner : Runner) : Type 0 where
  pub holds : Option Owned
  pub agree : Agree settings first left one holds runner.node
  pub still : IsQuiet quiet holds runner.node
  pub held : (number : ℕ) → held_in runner.streams number ≡ held_in streams number
  pub sessions : AreConnected one.sessions holds runner.sessions
  pub waiting : runner.waiting ≡ one.waiting

-- what was done here and there leaves both alike, and prints alike
abbrev pub AreDone : Settings → ℕ → ℕ → Bool → List (ℕ × List ℕ) → Acted → Happened → Type 0
AreDone settings first left quiet streams acted happened =
    Runs settings first left quiet happened.next streams acted.next × (acted.prints ≡ happened.prints)

-- and the same sessions are connected
pub record HavePosted (settings : Settings) (first left : ℕ) (quiet : Bool) (streams : List (ℕ × List ℕ)) (before : Runner) (acted : Acted)
    (happened : Happened) : Type 0 where
  pub done : AreDone settings first left quiet streams acted happened
  pub stay : (number : ℕ) → is_none (session_at acted.next.sessions number) ≡ is_none (session_at before.sessions number)

pub posts_leave : (settings : Settings) (first left : ℕ) (quiet : Bool) (one : OneNode) (streams : List (ℕ × List ℕ)) (runner : Runner)
    (post : ℕ → Mail → Posted) (runs : Runs settings first left quiet one streams runner) →
    ((now : ℕ) → PostsAlike now one.node runs.holds (post now)) →
    HavePosted settings first left quiet streams runner
    (runners.with_posted runner (post runner.node.kept.clock (runners.mail_of runner)))
    (one_node.with_posted one (post one.node.clock (one_node.mail_of one)))
posts_leave settings first left quiet one streams runner post runs alike =
    subst
    (λ (now : ℕ). HavePosted settings first left quiet streams runner (runners.with_posted runner (post now (runners.mail_of runner)))
    (one_node.with_posted one (post one.node.clock (one_node.mail_of one))))
    (sym (clock_is settings first left one runs.holds runner.node runs.agree))
    (at_moment (alike one.node.clock (one_node.mail_of one) (runners.mail_of runner)
    (record { connected = runs.sessions; fit = runs.agree.fit; waiting = runs.waiting })))
  where
    at_moment : (posted : ArePosted one.node.clock one.node runs.holds (runners.mail_of runner) (post one.node.clock (one_node.mail_of one))
        (post one.node.clock (runners.mail_of runner))) →
        HavePosted settings first left quiet streams runner (runners.with_posted runner (post one.node.clock (runners.mail_of runner)))
        (one_node.with_posted one (post one.node.clock (one_node.mail_of one)))
    at_moment posted = record {
      done = (
        record {
          holds = runs.holds;
          agree =
              refit settings first left one runs.holds runner.node (post one.node.clock (one_node.mail_of one)).next.sessions
              (post one.node.clock (one_node.mail_of one)).next.waiting runs.agree posted.mailed.fit;
          still = runs.still;
          held = runs.held;
          sessions = posted.mailed.connected;
          waiting = posted.mailed.waiting;
        },
        posted.prints,
      );
      stay = posted.stay;
    }
