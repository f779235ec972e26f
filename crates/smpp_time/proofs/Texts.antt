-- What texts say that have the form of a time.
use Rattle.std.proofs.Common.{◌≡◌, ◌≢◌, ℕ, true, List, [], ◌∷◌, refl, ◌∙◌}
use Rattle.std.proofs.lemmas.Bool.Decides.{nat_tests}
use Rattle.std.proofs.Common.{arith}
use Rattle.smpp_time.specs.Calendar.{Date}
use Rattle.smpp_time.specs.Texts.{is_shaped, mark_in, said_of, said_of_shaped, said_of_absolute}

pub said_shaped : (text : List ℕ) (now : ℕ) (today : Date) → is_shaped text ≡ true → said_of text now today ≡ said_of_shaped text now today
said_shaped [] now today shaped = absurd cc
said_shaped (first ∷ rest) now today shaped = rw shaped refl

pub said_absolute : (text : List ℕ) (now : ℕ) (today : Date) → is_shaped text ≡ true → mark_in text ≢ 82 → said_of text now today ≡ said_of_absolute text
said_absolute text now today shaped other = said_shaped text now today shaped ∙ grind (arith, nat_tests)
