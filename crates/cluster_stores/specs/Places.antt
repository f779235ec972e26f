-- Where the stores of a cluster are (own).
use Rattle.std.specs.Prelude.{◌≡◌, Bool, true, false, List, map, is_some}
use Rattle.config.specs.declared.config.NodeConfig.{NodeConfig}
use Rattle.node_stores.specs.declared.store.NodeStore.{NodeStore}
use Rattle.node_stores.specs.Stores.{is_on_disk}
use Rattle.cluster_stores.specs.declared.looking.Seen.{Seen}
use Rattle.cluster_stores.specs.declared.looking.Seen.TheVariants as seen

-- whether a store is to be in a file
abbrev pub has_path : NodeConfig → Bool
has_path node = is_some node.store

abbrev pub is_seen_on_disk : Seen → Bool
is_seen_on_disk seen.Memory = false
is_seen_on_disk (seen.New path) = true
is_seen_on_disk (seen.There store) = is_on_disk store

-- Each node has the store that the configuration says: in a file exactly if it names one.
abbrev pub AreWhereTold : List NodeConfig → List NodeStore → Type 0
AreWhereTold nodes stores = map is_on_disk stores ≡ map has_path nodes

-- and so with what is seen of the stores before they are made
abbrev pub AreSeenWhereTold : List NodeConfig → List Seen → Type 0
AreSeenWhereTold nodes seen = map is_seen_on_disk seen ≡ map has_path nodes
