-- The keys of a configuration: in which tables of the text each stands, and under which name.
use Rattle.std.specs.Prelude.{Bool, true, false, ℕ, List, [], ◌∷◌, codes}
use Rattle.config.specs.declared.key.Key.{Key}
use Rattle.config.specs.declared.key.Key.TheVariants.{SystemId, DefaultValidity, FirstSerial, StopAfter, Node, Account, Route, NodeNumber}
use Rattle.config.specs.declared.key.Key.TheVariants.{NodeListen, NodeStore, AccountSystemId, AccountPassword, AccountTransmit}
use Rattle.config.specs.declared.key.Key.TheVariants.{AccountReceive, RoutePrefix, RouteAccount}
use Rattle.config.specs.declared.key.Part.{Part}
use Rattle.config.specs.declared.key.Part.TheVariants.{Whole, Nodes, Accounts, Routes}

abbrev pub part_of : Key → Part
part_of SystemId = Whole
part_of DefaultValidity = Whole
part_of FirstSerial = Whole
part_of StopAfter = Whole
part_of Node = Whole
part_of Account = Whole
part_of Route = Whole
part_of NodeNumber = Nodes
part_of NodeListen = Nodes
part_of NodeStore = Nodes
part_of AccountSystemId = Accounts
part_of AccountPassword = Accounts
part_of AccountTransmit = Accounts
part_of AccountReceive = Accounts
part_of RoutePrefix = Routes
part_of RouteAccount = Routes

abbrev pub name_of : Key → List ℕ
name_of SystemId = codes "system_id"
name_of DefaultValidity = codes "default_validity"
name_of FirstSerial = codes "first_serial"
name_of StopAfter = codes "stop_after"
name_of Node = codes "node"
name_of Account = codes "account"
name_of Route = codes "route"
name_of NodeNumber = codes "number"
name_of NodeListen = codes "listen"
name_of NodeStore = codes "store"
name_of AccountSystemId = codes "system_id"
name_of AccountPassword = codes "password"
name_of AccountTransmit = codes "transmit"
name_of AccountReceive = codes "receive"
name_of RoutePrefix = codes "prefix"
name_of RouteAccount = codes "account"

-- the keys that have no default: each table of their kind has them
abbrev pub is_needed : Key → Bool
is_needed DefaultValidity = false
is_needed FirstSerial = false
is_needed StopAfter = false
is_needed Account = false
is_needed Route = false
is_needed NodeStore = false
is_needed SystemId = true
is_needed Node = true
is_needed NodeNumber = true
is_needed NodeListen = true
is_needed AccountSystemId = true
is_needed AccountPassword = true
is_needed AccountTransmit = true
is_needed AccountReceive = true
is_needed RoutePrefix = true
is_needed RouteAccount = true

-- the keys of which no two tables have one value
abbrev pub is_unique : Key → Bool
is_unique NodeNumber = true
is_unique AccountSystemId = true
is_unique RoutePrefix = true
is_unique other = false

abbrev pub keys : List Key
keys = SystemId ∷ DefaultValidity ∷ FirstSerial ∷ StopAfter ∷ Node ∷ Account ∷ Route ∷ NodeNumber ∷ NodeListen ∷ NodeStore
    ∷ AccountSystemId ∷ AccountPassword ∷ AccountTransmit ∷ AccountReceive ∷ RoutePrefix ∷ RouteAccount ∷ []
