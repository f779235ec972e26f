-- What a shelf ends as, if a reference to one of its values is lent for writing.
use Rattle.std.specs.Prelude.{ℕ, Option}
use Rattle.std.specs.Borrow.{Fml, LendsIf, MutBor, RattleType}
use Rattle.shelf.specs.Shelved.{Shelved, with_value}
use Rattle.shelf.specs.contracts.shelf.Shelf.{the_row}

-- once the borrow ends, the key has the last value that was written through it; without a value the shelf stays as it is
abbrev pub lends_value : (V : RattleType) → MutBor (Shelved V.Denot) → ℕ → Option (MutBor V.Denot) → Fml
lends_value V s key r =
    LendsIf (the_row V) V s r (λ w. record { entries = with_value s.now.entries key w; room = s.now.room }) s.now
