use Rattle.std.proofs.Common.{◌≡◌, ◌++◌, map}
use Rattle.toml.specs.View.{view, members_view}
use Rattle.config_warnings.specs.Unknown.{names_of, unknown_among, unknown_in}
use Rattle.config_warnings.proofs.unknown.unknown_names.Given as goal

-- what was found so far, and what is unknown of the names that are left
abbrev pub invariant-loop-name : goal.invariant-loop-name
invariant-loop-name l =
    map (λ name. name.now) l.names.items ++ unknown_among l.section (names_of (members_view l.name-iterator)) ≡ unknown_in l.section (view l.table)
