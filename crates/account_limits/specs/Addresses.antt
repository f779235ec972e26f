-- Addresses as numbers, the first bit the highest.
use Rattle.std.specs.Prelude.{ℕ, Bool, false, ◌==◌}
use Rattle.std.specs.declared.net.ip_addr.IpAddr.{IpAddr}
use Rattle.std.specs.declared.net.ip_addr.IpAddr.TheVariants as families
use Rattle.std.specs.Net.Addr.{ipv4_bits, ipv6_bits}

-- how many bits it has
abbrev pub width_of : IpAddr → ℕ
width_of (families.V4 address) = 32
width_of (families.V6 address) = 128

abbrev pub bits_of : IpAddr → ℕ
bits_of (families.V4 address) = ipv4_bits address
bits_of (families.V6 address) = ipv6_bits address

abbrev pub same_address : IpAddr → IpAddr → Bool
same_address (families.V4 one) (families.V4 other) = ipv4_bits one == ipv4_bits other
same_address (families.V4 one) (families.V6 other) = false
same_address (families.V6 one) (families.V4 other) = false
same_address (families.V6 one) (families.V6 other) = ipv6_bits one == ipv6_bits other
