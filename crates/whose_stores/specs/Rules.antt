-- What must hold of the store of each node, and the first difference (own).
use Rattle.std.specs.Prelude.{ℕ, ◌+◌, ◌==◌, nat_lt, not, if◌then◌else◌, List, [], ◌∷◌, length, Option, Some, None, option_map}
use Rattle.std.specs.Option.{option_or}
use Rattle.std.specs.Ordering.{int_eq}
use Rattle.whose_stores.specs.declared.broken.Rule.{Rule}
use Rattle.whose_stores.specs.declared.broken.Rule.TheVariants.{Own, Marked, Begun, Known, Newest}
use Rattle.whose_stores.specs.declared.difference.Difference.{Difference}
use Rattle.whose_stores.specs.declared.difference.Difference.TheVariants.{Node, Count, Cluster, Missing, Unbegun, Unknown, Older}
use Rattle.whose_stores.specs.declared.found.Found.{Found}
use Rattle.whose_stores.specs.declared.found.Found.TheVariants.{Memory, New, Stored}
use Rattle.whose_stores.specs.declared.found.Whose.{Whose}
use Rattle.whose_stores.specs.declared.mark.Mark.{Mark}
use Rattle.whose_stores.specs.Marks.{begun_in, mark_in}

-- a store that says whose it is, is that of its node, of a cluster of so many nodes, and of this cluster
abbrev pub strange_by : ℕ → Mark → ℕ → Whose → Option Difference
strange_by nodes mark node whose =
    if not (whose.node == node) then Some (Node node whose.node)
    else if not (whose.nodes == nodes) then Some (Count node whose.nodes)
    else if not (int_eq whose.cluster mark.cluster) then Some (Cluster node mark.first)
    else None

abbrev pub strange_if : ℕ → Mark → ℕ → Option Whose → Option Difference
strange_if nodes mark node None = None
strange_if nodes mark node (Some whose) = strange_by nodes mark node whose

abbrev pub strange : ℕ → Mark → ℕ → Found → Option Difference
strange nodes mark node found = strange_if nodes mark node (mark_in found)

-- it says whose it is
abbrev pub missing_if : ℕ → ℕ → Option Whose → Option Difference
missing_if begun node None = Some (Missing node begun)
missing_if begun node (Some whose) = None

abbrev pub missing : ℕ → ℕ → Found → Option Difference
missing begun node found = missing_if begun node (mark_in found)

-- it was begun, or is in memory: files and memory together start once
abbrev pub unbegun : ℕ → ℕ → Found → Option Difference
unbegun begun node Memory = None
unbegun begun node New = Some (Unbegun node begun)
unbegun begun node (Stored stored) = if nat_lt 0 stored.begun then None else Some (Unbegun node begun)

-- the first node with a number above this one of which an incarnation is named
abbrev pub first_named : ℕ → ℕ → List ℕ → Option ℕ
first_named above node [] = None
first_named above node (incarnation ∷ more) =
    if nat_lt above node then (if nat_lt 0 incarnation then Some node else first_named above (node + 1) more) else first_named above (node + 1) more

-- it names no node that there is not
abbrev pub unknown : ℕ → ℕ → Found → Option Difference
unknown nodes node Memory = None
unknown nodes node New = None
unknown nodes node (Stored stored) = option_map (λ named. Unknown node named) (first_named nodes 1 stored.named)

-- the first node whose own store has begun no incarnation as high as is named of it
abbrev pub first_older : ℕ → ℕ → List Found → List ℕ → Option Difference
first_older by node [] named = None
first_older by node (found ∷ more) [] = None
first_older by node (found ∷ more) (incarnation ∷ named) =
    if nat_lt (begun_in found) incarnation then Some (Older node by incarnation (begun_in found)) else first_older by (node + 1) more named

-- it names of no node an incarnation above those that have begun there
abbrev pub older : List Found → ℕ → Found → Option Difference
older all by Memory = None
older all by New = None
older all by (Stored stored) = first_older by 1 all stored.named

abbrev pub broken : Rule → List Found → ℕ → Found → Option Difference
broken (Own mark) all node found = strange (length all) mark node found
broken (Marked begun) all node found = missing begun node found
broken (Begun begun) all node found = unbegun begun node found
broken Known all node found = unknown (length all) node found
broken Newest all node found = older all node found

abbrev pub first_broken : Rule → List Found → ℕ → List Found → Option Difference
first_broken rule all node [] = None
first_broken rule all node (found ∷ more) = option_or (broken rule all node found) (first_broken rule all (node + 1) more)
