use Rattle.std.proofs.Common.{List, subst, ap}
use Rattle.mc_model.specs.synod.Lists.{In}
use Rattle.shelf.specs.Parted.{all_in}
use Rattle.waiting_requests.specs.Numbers.{IsLeastFrom}
use Rattle.node_parts.specs.declared.listing.Listing.{Listing}
use Rattle.node_parts.specs.Sleeping.{ids_of}
use Rattle.node_parts.proofs.roll.Roll.least_from.Goals as goal

pub returns : goal.returns
returns c =
    rw (← c.self.view_is)
    (subst (λ (ls : List Listing). IsLeastFrom c.args.from (λ id. In id (ids_of ls)) c.least_in.result) (ap all_in c.deref.ensures.value) c.least_in.ensures)
