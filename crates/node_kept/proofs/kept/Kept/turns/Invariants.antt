use Rattle.std.proofs.Common.{◌≡◌, [], length}
use Rattle.node_model.specs.Ticks.{ids_of, ticked}
use Rattle.node_parts.specs.Reaching.{reach_of}
use Rattle.node_parts.specs.Rising.{AreRising}
use Rattle.node_kept.specs.Idling.{NoneFits}
use Rattle.node_kept.specs.Keeping.{kept_of}
use Rattle.node_kept.specs.Walking.{IsWalk, ids_left}
use Rattle.node_kept.proofs.TickTurns.{IsTurning}
use Rattle.node_kept.proofs.kept.Kept.turns.Given as goal

abbrev pub invariant-loop-id : goal.invariant-loop-id
invariant-loop-id l = record {
  walks : IsWalk l.self l.at (reach_of l.reach) l.walk;
  turns : IsTurning l.self l.fn.clock (reach_of l.reach) (ids_left l.self l.fn.clock l.walk) l.turns;
  none : NoneFits l.self.setup (kept_of l.self) l.fn.clock (reach_of l.reach) → (l.turns.messages.items ≡ []) × (l.turns.packets.items ≡ []);
  rising : AreRising (ids_of (ticked (kept_of l.self) l.fn.clock));
}

abbrev pub decreases-loop-id : goal.decreases-loop-id
decreases-loop-id l = length (ids_left l.self l.fn.clock l.walk)
