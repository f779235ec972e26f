use Rattle.std.proofs.Common.{subst}
use Rattle.world.specs.Runs.{IsSomewhere}
use Rattle.world.specs.Scenes.{Scene}
use Rattle.world.proofs.world.World.stands.Goals as goal

pub returns : goal.returns
returns c = subst (λ (w : Scene). IsSomewhere w) c.self.view_is c.self.invariant
