-- Texts and lists are joined.
use Rattle.std.proofs.Common.{◌≡◌, ℕ, suc, ◌+◌, ◌<◌, List, ◌∷◌, ◌++◌, drop, get_or, length, sym, ap, ◌∙◌, add-one, append_assoc}
use Rattle.std.proofs.Math.Seq.{drop-cons}
use Rattle.std.proofs.lemmas.Grind.{flat_map-append}
use Rattle.script_text.specs.Prints.{Print, line_at, text_at}

-- what was written, these prints and the prints behind them, in another order of joining
pub in_turn : (node : ℕ) (text : List ℕ) (first others : List Print)
    → (text ++ text_at node first) ++ text_at node others ≡ text ++ text_at node (first ++ others)
in_turn node text first others =
    append_assoc text (text_at node first) (text_at node others) ∙ ap (λ t. text ++ t) (sym (flat_map-append (line_at node) first others))

-- what is left of a list behind the one at a place
pub behind_it : {A : Type 0} (xs : List A) (place : ℕ) (x : A) → place < length xs → x ≡ get_or xs place x → drop place xs ≡ x ∷ drop (place + 1) xs
behind_it xs place x below is = drop-cons xs place x below ∙ ap (λ y. y ∷ drop (suc place) xs) (sym is) ∙ ap (λ (n : ℕ). x ∷ drop n xs) (sym (add-one place))
