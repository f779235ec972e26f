-- Nets: which addresses are in one, and how one is written (own).
use Rattle.std.specs.Prelude.{◌≡◌, ◌⊎◌, ℕ, Bool, false, ◌==◌, ◌-◌, List, take, position, Option, Some, None, Result, Ok, Err, if◌then◌else◌}
use Rattle.std.specs.declared.net.ip_addr.IpAddr.{IpAddr}
use Rattle.std.specs.declared.net.ip_addr.IpAddr.TheVariants as families
use Rattle.std.specs.Net.Addr.{ipv4_bits, ipv6_bits}
use Rattle.std.specs.Net.Grammar.{IsIpText}
use Rattle.account_limits.specs.declared.net.Net.{Net}
use Rattle.account_limits.specs.declared.net_fault.NetFault.{NetFault}
use Rattle.account_limits.specs.declared.net_fault.NetFault.TheVariants.{NoSlash, BadAddress, BadLength, LooseBits}
use Rattle.account_limits.specs.Addresses.{bits_of, width_of}
use Rattle.account_limits.specs.Numbers.{behind, first_bits, has_loose_bits, number_in}

-- whether an address has the first bits of another, of the same family
abbrev pub has_first_bits : ℕ → IpAddr → IpAddr → Bool
has_first_bits length (families.V4 own) (families.V4 other) = first_bits (ipv4_bits own) (32 - length) == first_bits (ipv4_bits other) (32 - length)
has_first_bits length (families.V4 own) (families.V6 other) = false
has_first_bits length (families.V6 own) (families.V4 other) = false
has_first_bits length (families.V6 own) (families.V6 other) = first_bits (ipv6_bits own) (128 - length) == first_bits (ipv6_bits other) (128 - length)

abbrev pub is_in : Net → IpAddr → Bool
is_in net address = has_first_bits net.length net.address address

-- ---- how a net is written

-- where the first slash stands
abbrev pub slash_in : List ℕ → Option ℕ
slash_in text = position (λ octet. octet == 47) text

-- of an address and how many bits, if that is a number of the address
abbrev pub net_behind : IpAddr → Option ℕ → Result Net NetFault
net_behind address None = Err BadLength
net_behind address (Some length) =
    if has_loose_bits (bits_of address) (width_of address - length) then Err LooseBits else Ok (record { address = address; length = length })

abbrev pub net_of : IpAddr → List ℕ → Result Net NetFault
net_of address text = net_behind address (number_in (width_of address) text)

-- with a slash there: the net of the address before it and of what stands behind, or that there is no address
abbrev pub IsNetAt : Option ℕ → List ℕ → Result Net NetFault → Type 0
IsNetAt None text result = result ≡ Err NoSlash
IsNetAt (Some slash) text result = ((address : IpAddr) × IsIpText (take slash text) address × (result ≡ net_of address (behind slash text)))
    ⊎ (((address : IpAddr) → ¬ IsIpText (take slash text) address) × (result ≡ Err BadAddress))

-- the net that a text writes, or the first fault that fits
abbrev pub IsNetOutcome : List ℕ → Result Net NetFault → Type 0
IsNetOutcome text result = IsNetAt (slash_in text) text result
