-- The decrees of a chain from the oldest on.
use Rattle.std.proofs.Common.{◌≡◌, ℕ, List, reverse, sym, ap, ◌∙◌}
use Rattle.std.proofs.lemmas.List.{reverse-reverse}
use Rattle.mc_model.specs.message.Decree.{Decree}
use Rattle.node_stores.specs.Named.{highest_by}

pub of_reversed : (node : ℕ) (decrees chain : List Decree) → reverse decrees ≡ chain → highest_by node decrees ≡ highest_by node (reverse chain)
of_reversed node decrees chain is = ap (highest_by node) (sym (reverse-reverse decrees) ∙ ap reverse is)
