-- Lines that join are those that a script is computed from.
use Rattle.std.proofs.Common.{◌≡◌, ℕ, suc, List, [], ◌∷◌, ◌++◌, Option, Some, None, refl, sym, ◌∙◌, ap}
use Rattle.node_laws.specs.Clusters.{NodeInput}
use Rattle.script_text.specs.Settings.{Settings}
use Rattle.script_text.specs.Prints.{WorldPrint}
use Rattle.script_text.specs.Script.{Stage, Stepped, Joins, after, bad_from, prints_from, step_of}

pub printed : (settings : Settings) (first : Stage) (lines : List (List ℕ)) (came : List NodeInput) (prints : List WorldPrint) (last : Stage) (number : ℕ) →
    Joins settings first lines came prints last →
    (prints ≡ prints_from settings first lines) × (bad_from settings first number lines ≡ None)
unfolding Joins prints_from bad_from
printed settings first [] came prints last number joins = (joins.1, refl)
printed settings first (line ∷ lines) came prints last number joins =
    let (done, later, others, is, did, said, rest) = joins in
    let behind = printed settings done.next lines later others last (suc number) rest in (
      said ∙ ap (λ (more : List WorldPrint). done.prints ++ more) behind.0 ∙ sym
          (ap (after [] (λ (d : Stepped). d.prints ++ prints_from settings d.next lines)) is),
      ap (after (Some number) (λ (d : Stepped). bad_from settings d.next (suc number) lines)) is ∙ behind.1,
    )

pub joined : (settings : Settings) (first : Stage) (lines : List (List ℕ)) (number : ℕ) → bad_from settings first number lines ≡ None →
    (came : List NodeInput) × (last : Stage) × Joins settings first lines came (prints_from settings first lines) last
unfolding Joins prints_from bad_from
joined settings first [] number good = ([], first, (refl, refl, refl))
joined settings first (line ∷ lines) number good = at_step (λ stage. joined settings stage lines (suc number)) (step_of settings first line) refl good
  where
    at_step : ((stage : Stage) → bad_from settings stage (suc number) lines ≡ None → (came : List NodeInput) ×
        (last : Stage) × Joins settings stage lines came (prints_from settings stage lines) last) →
        (step : Option Stepped) → step_of settings first line ≡ step →
        after (Some number) (λ (d : Stepped). bad_from settings d.next (suc number) lines) step ≡ None →
        (came : List NodeInput) × (last : Stage) × Joins settings first (line ∷ lines) came
        (after [] (λ (d : Stepped). d.prints ++ prints_from settings d.next lines) step) last
    at_step behind None is good = absurd cc
    at_step behind (Some done) is good =
        let (later, last, rest) = behind done.next good in
        (done.inputs ++ later, last, (done, later, prints_from settings done.next lines, is, refl, refl, rest))
