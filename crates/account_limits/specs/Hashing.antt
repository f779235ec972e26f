-- PBKDF2 with HMAC and SHA-256, of one block of 32 octets (RFC 8018, 5.2; RFC 2104).
use Rattle.std.specs.Prelude.{ℕ, zero, suc, ◌-◌, List, [], ◌∷◌, ◌++◌, map, slice_index, bit_xor}
use Rattle.std.specs.List.{range_with_len}
use Rattle.sha2.specs.Sha256.{sha256}

-- SHA-256 (FIPS 180-4)
abbrev pub digest : List ℕ → List ℕ
digest message = sha256 message

-- a block of 64 octets: those of a key, and zeros, each xored with one
unfoldable pub padded : ℕ → List ℕ → List ℕ
padded octet key = map (λ place. bit_xor octet (slice_index key place)) (range_with_len 0 64)

-- two digests, octet by octet
unfoldable pub xored : List ℕ → List ℕ → List ℕ
xored one other = map (λ place. bit_xor (slice_index one place) (slice_index other place)) (range_with_len 0 32)

-- the HMAC of a message: 0x36 within, 0x5c without
unfoldable pub hmac : List ℕ → List ℕ → List ℕ
hmac key message = digest (padded 92 key ++ digest (padded 54 key ++ message))

-- the sum, when so many rounds follow the last one
unfoldable pub sum_after : List ℕ → ℕ → List ℕ → List ℕ → List ℕ
sum_after password zero last sum = sum
sum_after password (suc rounds) last sum = sum_after password rounds (hmac password last) (xored sum (hmac password last))

-- the first round is over the salt and the number of the block, 1; each other one over the round before
abbrev pub stretched : List ℕ → List ℕ → ℕ → List ℕ
stretched password salt rounds =
    let first = hmac password (salt ++ 0 ∷ 0 ∷ 0 ∷ 1 ∷ []) in
    sum_after password (rounds - 1) first first
