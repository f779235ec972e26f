use Rattle.node_parts.proofs.Rolled.{none_parted}
use Rattle.node_parts.proofs.roll.Roll.widen.Goals as goal

pub invariant_of-self : goal.invariant_of-self
invariant_of-self c = none_parted c.args.room.items c.requires.number c.requires.none
