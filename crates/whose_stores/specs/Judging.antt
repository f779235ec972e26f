-- Why the nodes at which this is found may not go on together: the first difference (own).
use Rattle.std.specs.Prelude.{ℕ, List, Option, Some, None}
use Rattle.std.specs.Option.{option_or}
use Rattle.whose_stores.specs.declared.broken.Rule.TheVariants.{Own, Marked, Begun, Known, Newest}
use Rattle.whose_stores.specs.declared.difference.Difference.{Difference}
use Rattle.whose_stores.specs.declared.found.Found.{Found}
use Rattle.whose_stores.specs.declared.mark.Mark.{Mark}
use Rattle.whose_stores.specs.Marks.{first_mark, first_going, first_begun}
use Rattle.whose_stores.specs.Rules.{first_broken}

-- a store of another node, of another number of nodes, or of another cluster than the first that says whose it is
abbrev pub strangers_by : List Found → Option Mark → Option Difference
strangers_by all None = None
strangers_by all (Some mark) = first_broken (Own mark) all 1 all

abbrev pub strangers : List Found → Option Difference
strangers all = strangers_by all (first_mark 1 all)

-- once a store was begun since it says whose it is, each node has one of that cluster; else either all stores were begun or none
abbrev pub begun_by : List Found → Option ℕ → Option Difference
begun_by all None = None
begun_by all (Some begun) = first_broken (Begun begun) all 1 all

abbrev pub going_by : List Found → Option ℕ → Option Difference
going_by all None = begun_by all (first_begun 1 all)
going_by all (Some begun) = first_broken (Marked begun) all 1 all

abbrev pub apart : List Found → Option Difference
apart all = going_by all (first_going 1 all)

abbrev pub difference_in : List Found → Option Difference
difference_in all =
    option_or (strangers all) (option_or (apart all) (option_or (first_broken Known all 1 all) (first_broken Newest all 1 all)))
