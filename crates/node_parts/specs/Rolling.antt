-- The list of those that are live, as contracts see it (own).
use Rattle.std.specs.Prelude.{ℕ, List}
use Rattle.node_parts.specs.declared.listing.Listing.{Listing}

-- what is noted of each, and for how many there is room wherever their ids lie
pub record Enrolled : Type 0 where
  pub items : List Listing
  pub width : ℕ
