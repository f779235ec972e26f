-- Each of some values says one of some things, value by value.
use Rattle.std.proofs.Common.{◌≡◌, ℕ, ◌+◌, ◌<◌, List, [], ◌∷◌, ◌++◌, length, map, take, get_or, Some, refl, sym, ap, subst, ◌∙◌, option_map}
use Rattle.std.proofs.lemmas.List.{map-append, take_more}
use Rattle.std.proofs.lemmas.Option.{slice_get-map, slice_get_read}
use Rattle.std.specs.List.{slice_get}
use Rattle.toml.specs.Data.{Data}
use Rattle.config_limits.specs.declared.row_fault.RowFault.{RowFault}
use Rattle.config_limits.specs.declared.row_fault.RowFault.TheVariants.{BadValue, Memory}
use Rattle.config_limits.specs.Reading.{EachSays, IsFaultIn, IsRowFault, fault_at}

says_last : {A B : Type 0} (Says : A → B → Type 0) (values : List A) (things : List B) (value : A) (thing : B) →
    EachSays Says values things → Says value thing → EachSays Says (values ++ value ∷ []) (things ++ thing ∷ [])
says_last Says [] [] value thing all here = (here, tt)
says_last Says [] (t ∷ ts) value thing all here = absurd all
says_last Says (v ∷ vs) [] value thing all here = absurd all
says_last Says (v ∷ vs) (t ∷ ts) value thing all here = (all.0, says_last Says vs ts value thing all.1 here)

-- one more says one more
pub says_more : {X A B : Type 0} (Says : A → B → Type 0) (f : X → A) (xs : List X) (place : ℕ) (x : X) (things : List B) (thing : B) →
    place < length xs → x ≡ get_or xs place x → Says (f x) thing → EachSays Says (map f (take place xs)) things →
    EachSays Says (map f (take (place + 1) xs)) (things ++ thing ∷ [])
says_more {X} {A} {B} Says f xs place x things thing below is here all =
    let more : take (place + 1) xs ≡ take place xs ++ x ∷ [] = take_more xs place x below ∙ ap (λ (y : X). take place xs ++ y ∷ []) (sym is) in
    let mapped : map f (take (place + 1) xs) ≡ map f (take place xs) ++ f x ∷ [] = ap (map f) more ∙ map-append f (take place xs) (x ∷ []) in
    subst (λ (values : List A). EachSays Says values (things ++ thing ∷ [])) (sym mapped) (says_last Says (map f (take place xs)) things (f x) thing all here)

-- what stands at a place of values that are seen as others
pub seen_at : {X A : Type 0} (f : X → A) (xs : List X) (place : ℕ) (x : X) → place < length xs → x ≡ get_or xs place x → slice_get (map f xs) place ≡ Some (f x)
seen_at f xs place x below is = slice_get-map f xs place ∙ ap (option_map f) (slice_get_read xs (length xs) place x refl below is)

-- the fault of a table is one of all tables
pub fault_there : (rows : List Data) (place : ℕ) (row : Data) (fault : RowFault) → slice_get rows place ≡ Some row → IsRowFault row fault →
    IsFaultIn rows (fault_at fault place)
fault_there rows place row (BadValue key) there bad = (row, there, bad)
fault_there rows place row Memory there bad = tt
