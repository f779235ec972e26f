-- A request goes to a node.
use Rattle.std.specs.Prelude.{◌≡◌, ℕ, List}
use Rattle.desk.specs.declared.request.Request.{Request}
use Rattle.esme_site.specs.declared.steps.Taken.{Taken}
use Rattle.world.specs.Scenes.{Scene}
use Rattle.world.specs.Step.TheVariants as steps
use Rattle.world.specs.declared.given.Given.{Given}
use Rattle.script_site.specs.Sites.{Takes}

-- The world took the step of its node in which a request of an account comes, and this is what the node made of it.
pub record TakesRequest (old : Scene) (node : ℕ) (account : List ℕ) (request : Request) (taken : Taken) (new : Scene) : Type 0 where
  pub given : Given
  pub takes : Takes old (steps.Request node account request) given new
  pub is : taken ≡ record { ticket = given.ticket; refused = given.refused }
