-- What a line does, by what it says.
use Rattle.std.proofs.Common.{◌≡◌, ◌↔◌, ℕ, true, false, Bool, List, ◌++◌, length, Option, Some, None, Result, Ok, Err, refl, sym, ap, subst, ◌∙◌, arith}
use Rattle.std.proofs.lemmas.Bool.Decides.{nat_tests}
use Rattle.std.proofs.lemmas.List.{append-nil}
use Rattle.std.specs.Prelude.{IfOk, nat_le, if◌then◌else◌}
use Rattle.std.specs.declared.alloc.AllocError.{AllocError}
use Rattle.script_lines.specs.Said.{Said, Skipped, Nodes, Octets, Deliver, Crash, Tick, Grant, Settle, Restart, Replay, Spells, names_within, said_of}
use Rattle.script_text.specs.Settings.{script_settings}
use Rattle.script_text.specs.Script.{Stage, Stepped, moved_by, nodes_of, opened_by, step_by, step_of}
use Rattle.script_text.specs.Prints.{WorldPrint, world_text}
use Rattle.script_text.specs.World.{World}
use Rattle.script_runner.specs.Centres.{IsWorld}
use Rattle.script_runner.specs.Outcome.{IsAct, IsStarted, IsStep, IsStepBy, NumberFits, StandsAt, said_among}
use Rattle.script_runner.specs.declared.centre.Centre.{Centre}

-- a line that says nothing is bad
pub step_of-none : (stage : Stage) (line : List ℕ) → said_of line ≡ None → step_of script_settings stage line ≡ None
unfolding step_of
step_of-none stage line e = rw e refl

step_of-said : (stage : Stage) (line : List ℕ) (said : Said) → said_of line ≡ Some said →
    step_of script_settings stage line ≡ step_by script_settings stage (said_among (nodes_of stage) said)
unfolding step_of
step_of-said stage line said e = rw e refl

-- a line says what it spells
abbrev pub SaysItsSpelling : Type 0
SaysItsSpelling = (line : List ℕ) (said : Said) → (said_of line ≡ Some said) ↔ Spells said line

pub number_fits : SaysItsSpelling → (line : List ℕ) (said : Said) → said_of line ≡ Some said → NumberFits said
number_fits spelled line Skipped e = tt
number_fits spelled line (Nodes count serial) e =
    let spells = (spelled line (Nodes count serial)).0 e in
    (spells.wording.0.most, spells.wording.1, spells.wording.2)
number_fits spelled line (Octets node session octets) e = tt
number_fits spelled line (Deliver number node) e = tt
number_fits spelled line (Crash node number after) e = tt
number_fits spelled line (Tick node moment) e = tt
number_fits spelled line (Grant node id) e = tt
number_fits spelled line (Settle nodes) e = tt
number_fits spelled line (Restart node) e = tt
number_fits spelled line (Replay count) e = tt

-- ---- the first line that says something

nothing_opened : (b : Bool) (said : Said) → opened_by script_settings said ≡ None →
    step_by script_settings None (if b then Some said else None) ≡ opened_by script_settings said
nothing_opened true said none = refl
nothing_opened false said none = sym none

starts_so : (said : Said) → NumberFits said → step_by script_settings None (said_among 9 said) ≡ opened_by script_settings said
starts_so Skipped fits = refl
starts_so (Nodes count serial) fits =
    let within : nat_le count 9 ≡ true = (let most = fits.0 in grind (arith, nat_tests)) in
    ap (λ (b : Bool). step_by script_settings None (if b then Some (Nodes count serial) else None)) within
starts_so (Octets node session octets) fits = nothing_opened (nat_le node 9) (Octets node session octets) refl
starts_so (Deliver number node) fits = nothing_opened (nat_le node 9) (Deliver number node) refl
starts_so (Crash node number after) fits = nothing_opened (nat_le node 9) (Crash node number after) refl
starts_so (Tick node moment) fits = nothing_opened (nat_le node 9) (Tick node moment) refl
starts_so (Grant node id) fits = nothing_opened (nat_le node 9) (Grant node id) refl
starts_so (Settle nodes) fits = nothing_opened (names_within 9 (Settle nodes)) (Settle nodes) refl
starts_so (Restart node) fits = nothing_opened (nat_le node 9) (Restart node) refl
starts_so (Replay count) fits = refl

started_text : (step : Option Stepped) (good : Bool) (new : Option Centre) (text : List ℕ) → IsStarted step good new → IsStepBy step good new text text
started_text None good new text is = is
started_text (Some done) good new text is = (is.0, is.1, sym (append-nil text) ∙ ap (λ (prints : List WorldPrint). text ++ world_text prints) (sym is.2))

-- ---- at whatever stage the centre is

pub says_nothing : (old new : Option Centre) (line : List ℕ) (text after : List ℕ) → said_of line ≡ None → IsStep old line false new text after
says_nothing old new line text after none stage stands =
    subst (λ (step : Option Stepped). IsStepBy step false new text after) (sym (step_of-none stage line none)) refl

pub first_line : (old new : Option Centre) (line : List ℕ) (said : Said) (good : Bool) (text : List ℕ) → old ≡ None →
    said_of line ≡ Some said → NumberFits said →
    IsStarted (opened_by script_settings said) good new → IsStep old line good new text text
first_line old new line said good text none e fits is stage stands = by_stage stage (subst (λ (c : Option Centre). StandsAt c stage) none stands)
  where
    by_stage : (s : Stage) → StandsAt None s → IsStepBy (step_of script_settings s line) good new text text
    by_stage None at =
        subst (λ (step : Option Stepped). IsStepBy step good new text text) (sym (step_of-said None line said e ∙ starts_so said fits))
        (started_text (opened_by script_settings said) good new text is)
    by_stage (Some w) at = absurd at

pub next_line : (old : Option Centre) (centre new : Centre) (line : List ℕ) (said : Said) (good : Bool) (before after : List ℕ) →
    old ≡ Some centre → said_of line ≡ Some said →
    IsAct centre said good new before after → IsStep old line good (Some new) before after
next_line old centre new line said good before after is e act stage stands = by_stage stage (subst (λ (c : Option Centre). StandsAt c stage) is stands)
  where
    by_stage : (s : Stage) → StandsAt (Some centre) s → IsStepBy (step_of script_settings s line) good (Some new) before after
    by_stage None at = absurd at
    by_stage (Some w) at = subst (λ (step : Option Stepped). IsStepBy step good (Some new) before after) (sym (step_of-said (Some w) line said e)) (act w at)

pub first_line_if : (r : Result Bool AllocError) (old new : Option Centre) (line : List ℕ) (said : Said) (text : List ℕ) → old ≡ None →
    said_of line ≡ Some said → NumberFits said →
    IfOk r (λ good. IsStarted (opened_by script_settings said) good new) → IfOk r (λ good. IsStep old line good new text text)
first_line_if (Err fault) old new line said text none e fits is = tt
first_line_if (Ok good) old new line said text none e fits is = first_line old new line said good text none e fits is

pub next_line_if : (r : Result Bool AllocError) (old : Option Centre) (centre new : Centre) (line : List ℕ) (said : Said)
    (before after : List ℕ) → old ≡ Some centre → said_of line ≡ Some said →
    IfOk r (λ good. IsAct centre said good new before after) → IfOk r (λ good. IsStep old line good (Some new) before after)
next_line_if (Err fault) old centre new line said before after is e act = tt
next_line_if (Ok good) old centre new line said before after is e act = next_line old centre new line said good before after is e act

-- ---- what a line does

among_so : (centre : Centre) (w : World) (said : Said) (b : Bool) → IsWorld centre w → names_within (length centre.sites.items) said ≡ b →
    said_among (length w.runners) said ≡ (if b then Some said else None)
among_so centre w said b is within = ap (λ (c : Bool). if c then Some said else None) (ap (λ (n : ℕ). names_within n said) (sym is.nodes) ∙ within)

pub acts_by : (old new : Centre) (said : Said) (good : Bool) (before after : List ℕ) → names_within (length old.sites.items) said ≡ true →
    ((w : World) → IsWorld old w → IsStepBy (moved_by script_settings w said) good (Some new) before after) → IsAct old said good new before after
acts_by old new said good before after within does w is =
    subst (λ (named : Option Said). IsStepBy (step_by script_settings (Some w) named) good (Some new) before after)
    (sym (among_so old w said true is within)) (does w is)

pub skips : (old : Centre) (text : List ℕ) → IsAct old Skipped true old text text
skips old text w is = (refl, is, sym (append-nil text))
