-- What was told to requests that wait (own).
use Rattle.std.specs.Prelude.{◌≡◌, IfSome, List, [], ◌∷◌}
use Rattle.node_model.specs.Kept.{Held}
use Rattle.node_model.specs.Requests.{id_of}

-- what was told to a request is told of its message
abbrev pub IsToldOf : Held → Type 0
IsToldOf h = IfSome h.top (λ top. top.id ≡ id_of h)

abbrev pub AreToldOf : List Held → Type 0
AreToldOf [] = Unit {0}
AreToldOf (h ∷ others) = IsToldOf h × AreToldOf others
