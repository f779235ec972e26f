-- The digits behind a colon.
use Rattle.std.proofs.Common.{◌≡◌, ℕ, ◌+◌, ◌<◌, Bool, cond, List, ◌∷◌, length, drop, get_or, sym, ap, ◌∙◌, add-one}
use Rattle.std.proofs.Math.Seq.{drop-cons}
use Rattle.std.proofs.lemmas.Bool.{eq-eqb, ne_eqb}
use Rattle.config.specs.Listen.{port_digits}

at_place : (text : List ℕ) (place : ℕ) → place < length text → drop place text ≡ get_or text place 0 ∷ drop (place + 1) text
at_place text place below = drop-cons text place 0 below ∙ ap (λ (n : ℕ). get_or text place 0 ∷ drop n text) (sym (add-one place))

pub passed : (text : List ℕ) (place : ℕ) → place < length text → (get_or text place 0 ≡ 58 → ⊥) →
    port_digits (drop place text) ≡ port_digits text →
    port_digits (drop (place + 1) text) ≡ port_digits text
passed text place below differs so_far =
    let here : port_digits (drop place text) ≡ port_digits (drop (place + 1) text) =
    ap port_digits (at_place text place below) ∙ ap (λ (b : Bool). cond b (drop (place + 1) text) (port_digits (drop (place + 1) text)))
    (ne_eqb (get_or text place 0) 58 differs) in
    sym here ∙ so_far

pub stopped : (text : List ℕ) (place : ℕ) → place < length text → get_or text place 0 ≡ 58 →
    port_digits (drop place text) ≡ port_digits text →
    drop (place + 1) text ≡ port_digits text
stopped text place below same so_far =
    let here : port_digits (drop place text) ≡ drop (place + 1) text =
    ap port_digits (at_place text place below) ∙ ap (λ (b : Bool). cond b (drop (place + 1) text) (port_digits (drop (place + 1) text)))
    (eq-eqb (get_or text place 0) 58 same) in
    sym here ∙ so_far
