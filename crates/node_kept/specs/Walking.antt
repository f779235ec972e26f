-- How a tick goes over the messages that are live and not asleep, and those of which requests ask, by ascending ids.
use Rattle.std.specs.Prelude.{ℕ, nat_le, List, filter}
use Rattle.mc_model.specs.synod.Lists.{In}
use Rattle.mc_model.specs.node.Reach.{Reach}
use Rattle.node_model.specs.Ticks.{ids_of, ticked}
use Rattle.waiting_requests.specs.Numbers.{IsLeastFrom, ids_in}
use Rattle.waiting_requests.specs.Queues.{timely}
use Rattle.waiting_requests.specs.Waiting.{held_in}
use Rattle.tick_rules.specs.declared.standpoint.Standpoint.{Standpoint}
use Rattle.node_parts.specs.Living.{IsNextBy}
use Rattle.node_parts.specs.Sleeping.{IsAsleep}
use Rattle.node_kept.specs.declared.kept.Kept.{Kept as Holding}
use Rattle.node_kept.specs.declared.walk.Walk.{Walk}
use Rattle.node_kept.specs.Keeping.{kept_of}

-- The messages of ids below a number were looked at. It is noted before which of the others all are asleep, and of which a request asks first.
pub record IsWalk (k : Holding) (s : Standpoint) (reach : Reach) (walk : Walk) : Type 0 where
  pub live : IsNextBy (IsAsleep s reach) k.messages.entries walk.from walk.live
  pub asked : IsLeastFrom walk.from (λ id. In id (ids_in (timely s.clock (held_in k.queue)))) walk.asked

-- those that were not looked at
abbrev pub ids_left : Holding → ℕ → Walk → List ℕ
ids_left k clock walk = filter (nat_le walk.from) (ids_of (ticked (kept_of k) clock))
