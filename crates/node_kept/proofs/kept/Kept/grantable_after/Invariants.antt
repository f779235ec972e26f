use Rattle.std.proofs.Common.{◌-◌, ◌≤◌, ℕ}
use Rattle.node_kept.specs.Granting.{number_behind}
use Rattle.node_kept.proofs.Grantable.{IsGrantable}
use Rattle.node_kept.proofs.kept.Kept.grantable_after.Given as goal

abbrev pub invariant-loop-id : goal.invariant-loop-id
invariant-loop-id l = record {
  above : number_behind l.fn.after ≤ l.from;
  passed : (id : ℕ) → IsGrantable l.self id → number_behind l.fn.after ≤ id → l.from ≤ id;
}

abbrev pub decreases-loop-id : goal.decreases-loop-id
decreases-loop-id l = 10000000000 - l.from
