use Rattle.std.proofs.Common.{◌≡◌, ℕ, ◌+◌, ◌-◌, ◌<◌, false, List, length, take, drop, ap, sym, ◌∙◌, arith, length-drop}
use Rattle.std.proofs.lemmas.List.{take_all}
use Rattle.std.specs.List.{list_any}
use Rattle.toml.specs.declared.value.Value.{Value}
use Rattle.toml.specs.View.{view}
use Rattle.config.specs.Rows.{same_value}
use Rattle.config.proofs.Checked.{not_again}
use Rattle.config.proofs.checks.first_again.Goals as goal

others : (rows : List Value) (place : ℕ) → place < length rows → take (length rows - (place + 1)) (drop (place + 1) rows) ≡ drop (place + 1) rows
others rows place below = take_all _ _ (omega (arith, length-drop (place + 1) rows))

pub loop-place-preserved : goal.loop-place-preserved
loop-place-preserved c =
    let below : c.loop-place.place < length c.args.rows.now = omega arith in
    let f = λ (other : Value). same_value c.args.name.now (view c.index-rows-place.result) (view other) in
    let not : list_any f (drop (c.loop-place.place + 1) c.args.rows.now) ≡ false =
    ap (λ (vs : List Value). list_any f vs) (sym (others c.args.rows.now c.loop-place.place below)) ∙ c.in_default.ensures in
    not_again c.args.name.now c.args.rows.now c.loop-place.place c.index-rows-place.result below c.index-rows-place.is c.loop-place.invariant not
