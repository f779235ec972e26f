-- A change that is made in what is kept of its message.
use Rattle.std.proofs.Common.{◌≡◌, ℕ, List, Some, ap}
use Rattle.shelf.specs.Shelved.{value_at, with_value}
use Rattle.synod_acceptor.specs.declared.record.Change.{Change}
use Rattle.node_parts.specs.declared.message.Message.{Message as Filed}
use Rattle.node_parts.specs.Recording.{recorded_at, recorded_in, recorded_of}

pub recorded_there : (entries : List (ℕ × Filed)) (id : ℕ) (change : Change) (m : Filed) → value_at entries id ≡ Some m →
    recorded_at entries id change ≡ with_value entries id (recorded_in m change)
recorded_there entries id change m found = ap (recorded_of entries id change) found
