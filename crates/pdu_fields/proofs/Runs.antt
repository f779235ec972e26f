-- Octets one behind another, each of them a field.
use Rattle.std.proofs.Common.{◌≡◌, ℕ, suc, ◌<◌, List, [], ◌∷◌, ◌++◌, length, get_or, Result, Ok, Err, refl, sym, ap, ◌∙◌, arith}
use Rattle.octet_fields.specs.Reading.{number_at, content_at}
use Rattle.pdu_fields.specs.declared.fault.Field.{Field}
use Rattle.pdu_fields.specs.declared.fault.PduFault.{PduFault}
use Rattle.pdu_fields.specs.declared.fault.PduFault.TheVariants.{Cut}
use Rattle.pdu_fields.specs.Grammar.{Contents, ◌>>=◌, front_at, octet_parts, octets_from}

octets_from-next : (place : ℕ) (fields : List Field) (octet : ℕ) (octets : List ℕ) →
    octets_from (suc place) fields (octet ∷ octets) ≡ octets_from place fields octets
octets_from-next place [] octet octets = refl
octets_from-next place (first ∷ others) octet octets =
    ap (λ (c : Contents (octet_parts others)). (get_or octets place 0, c)) (octets_from-next (suc place) others octet octets)

-- an octet in front of others
abbrev before : (others : List Field) → ℕ → Result (Contents (octet_parts others) × List ℕ) PduFault →
    Result ((ℕ × Contents (octet_parts others)) × List ℕ) PduFault
before others octet read = read >>= λ x. Ok ((octet, x.0), x.1)

pub run_read : (fields : List Field) (found rest : List ℕ) → length found ≡ length fields →
    front_at (octet_parts fields) (found ++ rest) ≡ Ok (octets_from 0 fields found, rest)
unfolding content_at number_at
run_read [] [] rest e = refl
run_read [] (octet ∷ octets) rest e = absurd (omega (arith, e))
run_read (first ∷ others) [] rest e = absurd (omega (arith, e))
run_read (first ∷ others) (octet ∷ octets) rest e =
    ap (before others octet) (run_read others octets rest (omega (arith, e)))
    ∙ ap (λ (c : Contents (octet_parts others)). Ok ((octet, c), rest)) (sym (octets_from-next 0 others octet octets))

pub run_cut : (fields : List Field) (octets : List ℕ) (other : Field) → length octets < length fields →
    front_at (octet_parts fields) octets ≡ Err (Cut (get_or fields (length octets) other))
unfolding content_at number_at
run_cut [] octets other short = absurd (omega (arith, short))
run_cut (first ∷ others) [] other short = refl
run_cut (first ∷ others) (octet ∷ octets) other short = ap (before others octet) (run_cut others octets other (omega (arith, short)))
