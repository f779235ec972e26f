-- Lists and chains that are the same.
use Rattle.std.proofs.Common.{◌≡◌, ℕ, List, reverse, sym, ap, ◌∙◌}
use Rattle.std.proofs.lemmas.List.{reverse-reverse}
use Rattle.mc_model.specs.message.Decree.{Decree}
use Rattle.mc_model.specs.message.Chain.{Chain}

abbrev chain_of : ℕ → List Decree → Chain
chain_of id decrees = record { id = id; decrees = reverse decrees }

-- a chain is its id and its decrees, in whichever order
pub chains_same : (id other : ℕ) (one two : List Decree) → id ≡ other → one ≡ two → chain_of id one ≡ chain_of other two
chains_same id other one two ids decrees = λ i. record { id = ids i; decrees = reverse (decrees i) }

pub decrees_same : (id other : ℕ) (one two : List Decree) → chain_of id one ≡ chain_of other two → one ≡ two
decrees_same id other one two same = sym (reverse-reverse one) ∙ (ap (λ (c : Chain). reverse c.decrees) same ∙ reverse-reverse two)
