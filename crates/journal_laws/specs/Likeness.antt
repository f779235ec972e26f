-- Entries that are the same, in lists of their own (own).
use Rattle.std.specs.Prelude.{◌≡◌, List, [], ◌∷◌}
use Rattle.world_runs.specs.Copies.{IsCopy}
use Rattle.world_runs.specs.Runs.{given_out}
use Rattle.journal_laws.specs.Journals.{Done, Entry}

-- The same step, by the same packet, gave out the same.
pub record AreLike (one other : Done) : Type 0 where
  pub step : IsCopy one.step other.step
  pub packet : other.packet ≡ one.packet
  pub told : given_out other.given ≡ given_out one.given
  pub count : other.given.packets ≡ one.given.packets
  pub sent : other.sent ≡ one.sent

-- so do two entries, which name the same unfinished save, if they name one
pub record AreAlike (one other : Entry) : Type 0 where
  pub done : AreLike one.done other.done
  pub unfinished : other.unfinished ≡ one.unfinished

-- one by one
abbrev pub AreAllAlike : List Entry → List Entry → Type 0
AreAllAlike [] [] = Unit {0}
AreAllAlike [] (other ∷ others) = ⊥
AreAllAlike (entry ∷ entries) [] = ⊥
AreAllAlike (entry ∷ entries) (other ∷ others) = AreAlike entry other × AreAllAlike entries others
