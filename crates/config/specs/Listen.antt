-- The address and the port at which a node listens.
use Rattle.std.specs.Prelude.{Bool, true, ◌==◌, not, ℕ, List, [], ◌∷◌, IsTrue, if◌then◌else◌}
use Rattle.std.specs.declared.net.socket_addr.SocketAddrV4.{SocketAddrV4}
use Rattle.std.specs.Net.Grammar.{IsSocketV4Text}

-- whether no zero stands before other digits
abbrev pub is_plain : List ℕ → Bool
is_plain [] = true
is_plain (digit ∷ []) = true
is_plain (digit ∷ second ∷ others) = not (digit == 48)

-- what is behind the first colon
abbrev pub port_digits : List ℕ → List ℕ
port_digits [] = []
port_digits (octet ∷ octets) = if octet == 58 then octets else port_digits octets

-- the text is a.b.c.d:port, each number decimal and without leading zeros
pub record IsListen (text : List ℕ) (address : SocketAddrV4) : Type 0 where
  pub written : IsSocketV4Text text address
  pub plain : IsTrue (is_plain (port_digits text))
