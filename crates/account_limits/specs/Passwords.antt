-- The hash of a password, and how it is written (own).
use Rattle.std.specs.Prelude.{◌≡◌, ℕ, Bool, ◌&&◌, ◌==◌, nat_le, List, length, take, position, Option, Some, None, Result, Ok, Err, if◌then◌else◌, option_and_then}
use Rattle.std.specs.Str.{bytes_eq}
use denote.Ref.{Bor}
use Rattle.hex.specs.Hex.{decode_sized}
use Rattle.hex.specs.declared.error.FromHexError.{FromHexError}
use Rattle.account_limits.specs.declared.hash_fault.HashFault.{HashFault}
use Rattle.account_limits.specs.declared.hash_fault.HashFault.TheVariants.{NotThree, BadSalt, BadRounds, BadDigest}
use Rattle.account_limits.specs.declared.password_hash.PasswordHash.{PasswordHash}
use Rattle.account_limits.specs.Hashing.{stretched}
use Rattle.account_limits.specs.Numbers.{behind, number_in}

abbrev pub is_password : PasswordHash → List ℕ → Bool
is_password hash password = nat_le (length password) 64 && bytes_eq (stretched password hash.salt hash.rounds) hash.digest

-- ---- how it is written

-- where the first colon stands
abbrev pub colon_in : List ℕ → Option ℕ
colon_in text = position (λ octet. octet == 58) text

-- what stands before the first colon, and behind it
abbrev pub parts_at : Option ℕ → List ℕ → Option (List ℕ × List ℕ)
parts_at None text = None
parts_at (Some colon) text = Some (take colon text, behind colon text)

abbrev pub parts_in : List ℕ → Option (List ℕ × List ℕ)
parts_in text = parts_at (colon_in text) text

abbrev pub IsSplit : List ℕ → Option (Bor (List ℕ) × Bor (List ℕ)) → Type 0
IsSplit text None = parts_in text ≡ None
IsSplit text (Some parts) = parts_in text ≡ Some (parts.0.now, parts.1.now)

-- a number from 1 to 1,000,000
abbrev pub at_least_one : ℕ → Option ℕ
at_least_one number = if nat_le 1 number then Some number else None

abbrev pub rounds_in : List ℕ → Option ℕ
rounds_in text = option_and_then at_least_one (number_in 1000000 text)

-- the hash of what stands for its three parts, or the first fault that fits
abbrev pub hash_by : Result (List ℕ) FromHexError → Option ℕ → Result (List ℕ) FromHexError → Result PasswordHash HashFault
hash_by (Err error) rounds digest = Err BadSalt
hash_by (Ok salt) None digest = Err BadRounds
hash_by (Ok salt) (Some rounds) (Err error) = Err BadDigest
hash_by (Ok salt) (Some rounds) (Ok digest) = Ok (record { salt = salt; rounds = rounds; digest = digest })

-- a salt of 16 octets and a digest of 32, in hexadecimal
abbrev pub hash_of : List ℕ → List ℕ → List ℕ → Result PasswordHash HashFault
hash_of salt rounds digest = hash_by (decode_sized salt 16) (rounds_in rounds) (decode_sized digest 32)

abbrev pub hash_behind : List ℕ → Option (List ℕ × List ℕ) → Result PasswordHash HashFault
hash_behind salt None = Err NotThree
hash_behind salt (Some parts) = hash_of salt parts.0 parts.1

abbrev pub hash_by_parts : Option (List ℕ × List ℕ) → Result PasswordHash HashFault
hash_by_parts None = Err NotThree
hash_by_parts (Some parts) = hash_behind parts.0 (parts_in parts.1)

-- the hash that a text writes
abbrev pub hash_in : List ℕ → Result PasswordHash HashFault
hash_in text = hash_by_parts (parts_in text)
