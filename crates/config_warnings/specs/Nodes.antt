-- What is said of nodes, and hardly meant (own).
use Rattle.std.specs.Prelude.{Bool, ◌&&◌, ◌≡◌, ◌⊎◌, not, List, is_some, option_map, string_bytes}
use Rattle.std.specs.List.{list_any}
use Rattle.std.specs.Net.Addr.{IsUnspecifiedV4}
use Rattle.std.specs.Net.Socket.{v4_ip, v4_port}
use Rattle.config.specs.declared.config.NodeConfig.{NodeConfig}
use Rattle.config.specs.Rows.{same_text}

-- two nodes keep their records in one file, by its path
abbrev pub share_store : NodeConfig → NodeConfig → Bool
share_store one other = same_text (option_map string_bytes one.store) (option_map string_bytes other.store)

-- Two nodes listen on one port: of one address, or one of them of all. Of port 0 the system chooses one for each.
pub record SharePort (one other : NodeConfig) : Type 0 where
  pub chosen : ¬ (v4_port one.listen ≡ 0)
  pub port : v4_port one.listen ≡ v4_port other.listen
  pub address : (v4_ip one.listen ≡ v4_ip other.listen) ⊎ (IsUnspecifiedV4 (v4_ip one.listen) ⊎ IsUnspecifiedV4 (v4_ip other.listen))

-- a node keeps its records in memory, and one of these in a file
abbrev pub is_left_in_memory : List NodeConfig → NodeConfig → Bool
is_left_in_memory nodes node = not (is_some node.store) && list_any (λ other. is_some other.store) nodes
