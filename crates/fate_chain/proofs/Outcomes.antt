-- What reading found, in the words of a chain's octets.
use Rattle.std.proofs.Common.{◌≡◌, ◌↔◌, ℕ, List, Result, Ok, Err, IfOk, IsErrOf, refl, sym, ap, subst, ◌∙◌}
use Rattle.mc_model.specs.message.Chain.{Chain, IsPermitted}
use Rattle.octet_fields.specs.Texts.{IsOctets}
use Rattle.fate_chain.specs.declared.fault.ChainFault.{ChainFault}
use Rattle.fate_chain.specs.declared.fault.ChainFault.TheVariants.{NotPermitted, NotBytes, Memory}
use Rattle.octet_fields.specs.declared.defect.Defect.{Defect}
use Rattle.fate_chain.specs.Bytes.{read_chain, IsSpelled, Judges}
use Rattle.octet_fields.proofs.Octets.{ok_is}
use Rattle.fate_chain.proofs.ChainReading.{chain_takes, chain_again}

spells : (octets : List ℕ) (c : Chain) → IsOctets octets → read_chain octets ≡ Ok c → IsSpelled octets c
spells octets c are e = let taken = chain_takes octets c are e in record { fits = taken.fits; format = taken.format; spelled = taken.spelled }

spelled : (octets : List ℕ) (c : Chain) → IsSpelled octets c → read_chain octets ≡ Ok c
spelled octets c is = ap read_chain is.spelled ∙ chain_again is.format c is.fits

same_read : (octets : List ℕ) (c d : Chain) → read_chain octets ≡ Ok c → read_chain octets ≡ Ok d → c ≡ d
same_read octets c d e f = ok_is c d (sym e ∙ f)

pub one-chain : (octets : List ℕ) (one other : Chain) → IsSpelled octets one → IsSpelled octets other → one ≡ other
one-chain octets one other is also = same_read octets one other (spelled octets one is) (spelled octets other also)

never : (octets : List ℕ) (c : Chain) (defect : Defect) → read_chain octets ≡ Err defect → read_chain octets ≡ Ok c → ⊥
never octets c defect e f = let clash = sym e ∙ f in cc

abbrev Found : List ℕ → Result Chain ChainFault → Type 0
Found octets r = Judges (λ chain read. read ≡ chain) r (read_chain octets)

-- what is read is spelled so, and within its limits
pub found-spelled : (octets : List ℕ) (r : Result Chain ChainFault) → IsOctets octets → Found octets r → IfOk r (λ c. IsSpelled octets c)
found-spelled octets (Ok x) are found = subst (λ (c : Chain). IsSpelled octets c) found.3 (spells octets found.0 are found.1)
found-spelled octets (Err NotPermitted) are found = tt
found-spelled octets (Err NotBytes) are found = tt
found-spelled octets (Err Memory) are found = tt

pub found-only : (octets : List ℕ) (r : Result Chain ChainFault) → Found octets r → (c : Chain) → IsSpelled octets c → IfOk r (λ x. x ≡ c)
found-only octets (Ok x) found c is = sym found.3 ∙ same_read octets found.0 c found.1 (spelled octets c is)
found-only octets (Err NotPermitted) found c is = tt
found-only octets (Err NotBytes) found c is = tt
found-only octets (Err Memory) found c is = tt

pub found-not_bytes : (octets : List ℕ) (r : Result Chain ChainFault) → IsOctets octets → Found octets r →
    IsErrOf r NotBytes ↔ ((c : Chain) → IsSpelled octets c → ⊥)
found-not_bytes octets (Ok x) are found = (λ is. absurd cc, λ none. absurd (none found.0 (spells octets found.0 are found.1)))
found-not_bytes octets (Err NotPermitted) are found = (λ is. absurd cc, λ none. absurd (none found.0 (spells octets found.0 are found.1)))
found-not_bytes octets (Err NotBytes) are found = (λ is c so. never octets c found.0 found.1 (spelled octets c so), λ none. refl)
found-not_bytes octets (Err Memory) are found = (λ is. absurd cc, λ none. absurd (none found.0 (spells octets found.0 are found.1)))

abbrev IsStrayed : List ℕ → Type 0
IsStrayed octets = (c : Chain) × IsSpelled octets c × (IsPermitted c.id c.decrees → ⊥)

strayed-not : (octets : List ℕ) (c : Chain) → read_chain octets ≡ Ok c → IsPermitted c.id c.decrees → IsStrayed octets → ⊥
strayed-not octets c is permitted other =
    other.2 (subst (λ (d : Chain). IsPermitted d.id d.decrees) (same_read octets c other.0 is (spelled octets other.0 other.1)) permitted)

pub found-not_permitted : (octets : List ℕ) (r : Result Chain ChainFault) → IsOctets octets → Found octets r → IsErrOf r NotPermitted ↔ IsStrayed octets
found-not_permitted octets (Ok x) are found = (λ is. absurd cc, λ other. absurd (strayed-not octets found.0 found.1 found.2 other))
found-not_permitted octets (Err NotPermitted) are found = (λ is. (found.0, spells octets found.0 are found.1, found.2), λ other. refl)
found-not_permitted octets (Err NotBytes) are found = (λ is. absurd cc, λ other. absurd (never octets other.0 found.0 found.1 (spelled octets other.0 other.1)))
found-not_permitted octets (Err Memory) are found = (λ is. absurd cc, λ other. absurd (strayed-not octets found.0 found.1 found.2 other))

pub found-memory : (octets : List ℕ) (r : Result Chain ChainFault) → IsOctets octets → Found octets r → IsErrOf r Memory →
    (c : Chain) × IsSpelled octets c × IsPermitted c.id c.decrees
found-memory octets (Ok x) are found is = absurd cc
found-memory octets (Err NotPermitted) are found is = absurd cc
found-memory octets (Err NotBytes) are found is = absurd cc
found-memory octets (Err Memory) are found is = (found.0, spells octets found.0 are found.1, found.2)
