-- What the arguments of the program ask for, behind its name (own).
use Rattle.std.specs.Prelude.{ℕ, Bool, true, false, ◌||◌, suc, List, [], ◌∷◌, Option, Some, None, codes, if◌then◌else◌, option_map, unwrap_or}
use Rattle.std.specs.Str.{bytes_eq}
use Rattle.serve_runner.specs.declared.asked.Asked.{Asked}
use Rattle.serve_runner.specs.declared.asked.Asked.TheVariants.{Script, Serve, Check, Help, Version, NoFile, Strange, Unknown}
use Rattle.serve_runner.specs.declared.asked.Options.{Options}

-- a word that asks for help behind another, or alone
abbrev pub is_help : List ℕ → Bool
is_help word = bytes_eq word (codes "--help") || bytes_eq word (codes "-h")

-- a word alone
abbrev pub alone : List ℕ → Asked
alone word =
    if bytes_eq word (codes "script") then Script
    else if is_help word || bytes_eq word (codes "help") then Help
    else if bytes_eq word (codes "--version") then Version
    else Unknown

-- no option
abbrev pub plain : Options
plain = record { is_quiet = false; is_until_end = false }

-- one option more, if the word is one
abbrev pub with_option : Options → List ℕ → Option Options
with_option options word =
    if bytes_eq word (codes "--quiet") then Some (record options { is_quiet = true })
    else if bytes_eq word (codes "--until-eof") then Some (record options { is_until_end = true })
    else None

-- Serve, with what words add to some options, or the first of them that is none by its place: that of the first word is this.
abbrev pub serves_from : Options → ℕ → List (List ℕ) → Asked
serves_from options place [] = Serve options
serves_from options place (word ∷ words) =
    unwrap_or (option_map (λ more. serves_from more (suc place) words) (with_option options word)) (Strange place)

-- Check, strictly if words say so, or the first of them that is no option by its place
abbrev pub checks_from : Bool → ℕ → List (List ℕ) → Asked
checks_from is_strict place [] = Check is_strict
checks_from is_strict place (word ∷ words) = if bytes_eq word (codes "--strict") then checks_from true (suc place) words else Strange place

-- an option of whatever word
abbrev pub is_option : List ℕ → Bool
is_option word = bytes_eq word (codes "--quiet") || bytes_eq word (codes "--until-eof") || bytes_eq word (codes "--strict")

-- what a word asks for, but for help or an option in place of its file
abbrev pub over_file : List ℕ → Asked → Asked
over_file file asked = if is_help file then Help else if is_option file then NoFile else asked

-- a word that a file follows, and these options
abbrev pub with_file : List ℕ → List ℕ → List (List ℕ) → Asked
with_file word file options =
    if bytes_eq word (codes "serve") then over_file file (serves_from plain 0 options)
    else if bytes_eq word (codes "check") then over_file file (checks_from false 0 options)
    else Unknown

abbrev pub asked_by : List (List ℕ) → Asked
asked_by [] = Unknown
asked_by (word ∷ []) = alone word
asked_by (word ∷ file ∷ options) = with_file word file options
