-- What holds of few tables, whatever they are, holds of each list of so many at most.
use Rattle.std.proofs.Common.{◌≤◌, List, [], ◌∷◌, length, arith}
use Rattle.sqlite.specs.Table.{Table}
use Rattle.record_rows.specs.Beside.{most_beside}

pub of_few : (P : List Table → Type 0) → P [] → ((a : Table) → P (a ∷ [])) → ((a b : Table) → P (a ∷ b ∷ [])) → ((a b c : Table) → P (a ∷ b ∷ c ∷ []))
    → ((a b c d : Table) → P (a ∷ b ∷ c ∷ d ∷ [])) → ((a b c d e : Table) → P (a ∷ b ∷ c ∷ d ∷ e ∷ []))
    → ((a b c d e f : Table) → P (a ∷ b ∷ c ∷ d ∷ e ∷ f ∷ [])) → ((a b c d e f g : Table) → P (a ∷ b ∷ c ∷ d ∷ e ∷ f ∷ g ∷ []))
    → ((a b c d e f g h : Table) → P (a ∷ b ∷ c ∷ d ∷ e ∷ f ∷ g ∷ h ∷ [])) → (beside : List Table) → length beside ≤ most_beside → P beside
of_few P none one two three four five six seven eight [] few = none
of_few P none one two three four five six seven eight (a ∷ []) few = one a
of_few P none one two three four five six seven eight (a ∷ b ∷ []) few = two a b
of_few P none one two three four five six seven eight (a ∷ b ∷ c ∷ []) few = three a b c
of_few P none one two three four five six seven eight (a ∷ b ∷ c ∷ d ∷ []) few = four a b c d
of_few P none one two three four five six seven eight (a ∷ b ∷ c ∷ d ∷ e ∷ []) few = five a b c d e
of_few P none one two three four five six seven eight (a ∷ b ∷ c ∷ d ∷ e ∷ f ∷ []) few = six a b c d e f
of_few P none one two three four five six seven eight (a ∷ b ∷ c ∷ d ∷ e ∷ f ∷ g ∷ []) few = seven a b c d e f g
of_few P none one two three four five six seven eight (a ∷ b ∷ c ∷ d ∷ e ∷ f ∷ g ∷ h ∷ []) few = eight a b c d e f g h
of_few P none one two three four five six seven eight (a ∷ b ∷ c ∷ d ∷ e ∷ f ∷ g ∷ h ∷ i ∷ more) few = absurd (omega arith)
