use Rattle.std.proofs.Common.{ℕ, Option, drop}
use Rattle.mc_model.specs.synod.Lists.{In}
use Rattle.waiting_requests.specs.Numbers.{IsLeastFrom}
use Rattle.shelf.specs.Parted.{all_in}
use Rattle.node_parts.specs.Rising.{AreRising}
use Rattle.node_parts.specs.Sleeping.{ids_of}
use Rattle.node_parts.proofs.roll.least_in.Given as goal

abbrev pub invariant-loop-part : goal.invariant-loop-part
invariant-loop-part l = record {
  rising : AreRising (ids_of (all_in (drop l.part-index l.parts)));
  rest : (least : Option ℕ) → IsLeastFrom l.from (λ id. In id (ids_of (all_in (drop l.part-index l.parts)))) least
      → IsLeastFrom l.from (λ id. In id (ids_of (all_in l.parts))) least;
}
