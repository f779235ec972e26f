-- The text of what one node prints, among that of a script over several.
use Rattle.std.proofs.Common.{◌≡◌, ℕ, List, [], ◌∷◌, ◌++◌, map, refl, ap}
use Rattle.script_text.specs.Prints.{Print, text_at}
use Rattle.script_text.specs.Prints.{At, world_line, world_text}

pub at_node : (node : ℕ) (prints : List Print) → world_text (map (At node) prints) ≡ text_at node prints
at_node node [] = refl
at_node node (print ∷ prints) = ap (λ (rest : List ℕ). world_line (At node print) ++ rest) (at_node node prints)
