-- A settle of a calm script: one reply goes out at most, then the receipts that are due, and the runner and the one node stay alike.
use Rattle.std.proofs.Common.{◌≡◌, ℕ, suc, ◌≤◌, ◌<◌, Bool, true, List, [], ◌++◌, length, None, Some, refl, sym, ◌∙◌, ap, subst, arith}
use Rattle.node_model.specs.Kept.{Kept}
use Rattle.table_laws.specs.Settling.{delivered}
use Rattle.table_laws.proofs.Leading.{settling}
use Rattle.script_text.specs.Settings.{Settings}
use Rattle.script_text.specs.Prints.{Print}
use Rattle.script_text.specs.Receipts.{Mail, Posted, all_posted}
use Rattle.script_text.specs.Runner.{Acted, Runner, Told, mail_of, told}
use Rattle.script_text.specs.World.{most_deliveries}
use Rattle.script_text.specs.OneNode.{OneNode, settled}
use Rattle.script_text.specs.OneNode as one_node
use Rattle.calm_laws.proofs.Connected.{AreConnected}
use Rattle.calm_laws.proofs.Posting.{ArePosted, all_alike}
use Rattle.calm_laws.proofs.Replying.{owed_told}
use Rattle.calm_laws.proofs.Running.{AreDone, Runs}
use Rattle.calm_laws.proofs.Queue.{settles}
use Rattle.calm_laws.proofs.Settling.{Goes, SettlesSo, handed, runner_at, settle_goes}
use Rattle.calm_laws.proofs.Standing.{clock_is, rests}

module _ (settings : Settings) (first left : ℕ) (quiet : Bool) (one : OneNode) (streams : List (ℕ × List ℕ)) (runner : Runner)
    (small : length one.node.table ≤ 10000) (runs : Runs settings first (suc left) quiet one streams runner) where
  abbrev clock : ℕ
  clock = one.node.clock

  abbrev now : Kept
  now = (delivered runner.node.setup runs.agree.settles.deliveries (settling runner.node.kept runner.node.packets [] [])).kept

  few : runs.agree.settles.deliveries < most_deliveries
  few =
      let most = runs.agree.settles.few in
      omega (arith, most, small)

  so : SettlesSo runner.node.setup runner.streams clock runs.agree.settles.deliveries (settling runner.node.kept runner.node.packets [] []) (mail_of runner)
      (settles most_deliveries runner)
  so =
      settle_goes runner.node.setup runner.streams clock runs.agree.settles.deliveries most_deliveries runner.node.kept runner.node.packets []
      runs.agree.replies [] (mail_of runner) few (clock_is settings first (suc left) one runs.holds runner.node runs.agree) runs.agree.settles.left
      runs.agree.settles.replies_are runs.agree.settles.ordered

  abbrev goes : Goes runner.node.setup runner.streams clock runs.agree.settles.deliveries (settling runner.node.kept runner.node.packets [] []) (mail_of runner)
      so.acted
  goes = so.goes

  replies_are : goes.replies ≡ runs.agree.replies
  replies_are = sym goes.replies_are ∙ runs.agree.settles.replies_are

  receipts_are : goes.receipts ≡ one.due
  receipts_are = sym goes.receipts_are ∙ runs.agree.settles.receipts_are

  handed_is : handed clock (mail_of runner) goes.replies goes.receipts ≡ handed clock (mail_of runner) runs.agree.replies one.due
  handed_is = λ i. handed clock (mail_of runner) (replies_are i) (receipts_are i)

  -- what was owed is told
  abbrev after : Told
  after = told runner.sessions runs.agree.replies

  owed : AreConnected one.sessions None after.next × (after.prints ≡ one.owed)
  owed = owed_told one.sessions runner.sessions runs.agree.replies runs.holds one.owed runs.agree.owes runs.sessions

  abbrev mail : Mail
  mail = record { sessions = after.next; waiting = runner.waiting }

  -- and what is due is posted
  posted : ArePosted clock one.node None mail (all_posted clock (one_node.mail_of one) one.due) (all_posted clock mail one.due)
  posted =
      all_alike clock one.node None one.due (one_node.mail_of one) mail
      (record { connected = owed.0; fit = runs.agree.fit; waiting = runs.waiting })

  abbrev ended : Runner
  ended = runner_at runner.node.setup runner.streams clock now [] (all_posted clock mail one.due).next

  ends : Runs settings first left true (settled one).next streams ended
  ends = record {
    holds = None;
    agree = record {
      replies = [];
      fit = posted.mailed.fit;
      room = let room = runs.agree.room in omega (arith, room);
      setup = runs.agree.setup;
      settles = rests runner.node.setup now one.node runs.agree.settles.resting;
      owes = (refl, refl);
    };
    still = (refl, refl);
    held = runs.held;
    sessions = posted.mailed.connected;
    waiting = posted.mailed.waiting;
  }

  leaves : AreDone settings first left true streams so.acted (settled one)
  leaves = (
    subst (Runs settings first left true (settled one).next streams)
        (sym (goes.next ∙ ap (λ (p : Posted). runner_at runner.node.setup runner.streams clock now [] p.next) handed_is)) ends,
    goes.prints
        ∙ ap (λ (p : Posted). p.prints) handed_is
        ∙ ap (λ (prints : List Print). prints ++ (all_posted clock mail one.due).prints) owed.1
        ∙ ap (λ (prints : List Print). one.owed ++ prints) posted.prints,
  )

  -- it settles, and is then as the one node is
  pub settle_leaves : (acted : Acted) × (settles most_deliveries runner ≡ Some acted) × AreDone settings first left true streams acted (settled one)
  settle_leaves = (so.acted, so.is, leaves)
