-- Lists (own).
use Rattle.std.specs.Prelude.{List, [], ◌∷◌, Option, Some, None}

-- of what there is, if there is any
abbrev pub listed : {A : Type 0} → Option A → List A
listed None = []
listed (Some x) = x ∷ []
