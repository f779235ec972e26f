-- How a message is to be handled is read piece after piece.
use Rattle.std.proofs.Common.{◌≡◌, ℕ, List, [], ◌∷◌, ◌++◌, Result, Ok, Err, refl, sym, ◌∙◌}
use Rattle.octet_fields.specs.Kinds.{join}
use Rattle.octet_fields.proofs.Records.{bind-same, front_at-join}
use Rattle.pdu_fields.specs.declared.fault.Field.TheVariants.{EsmClass, ProtocolId, PriorityFlag, ScheduleDeliveryTime, ValidityPeriod, RegisteredDelivery}
use Rattle.pdu_fields.specs.declared.fault.Field.TheVariants.{ReplaceIfPresentFlag, DataCoding, SmDefaultMsgId}
use Rattle.pdu_fields.specs.declared.fault.PduFault.{PduFault}
use Rattle.pdu_fields.specs.Grammar.{Parts, Contents, ◌>>=◌, front_at, text, octet_parts, handling_parts}

abbrev pub class_parts : Parts
class_parts = octet_parts (EsmClass ∷ ProtocolId ∷ PriorityFlag ∷ [])

abbrev pub times_parts : Parts
times_parts = text ScheduleDeliveryTime 17 ∷ text ValidityPeriod 17 ∷ []

abbrev pub flags_parts : Parts
flags_parts = octet_parts (RegisteredDelivery ∷ ReplaceIfPresentFlag ∷ DataCoding ∷ SmDefaultMsgId ∷ [])

abbrev pub in_pieces : List ℕ → Result (Contents handling_parts × List ℕ) PduFault
in_pieces octets =
    front_at class_parts octets >>= λ x. front_at times_parts x.1 >>= λ y. front_at flags_parts y.1
    >>= λ z. Ok (join class_parts (times_parts ++ flags_parts) x.0 (join times_parts flags_parts y.0 z.0), z.1)

bind-ok : {A E : Type 0} (r : Result A E) → (r >>= λ x. Ok x) ≡ r
bind-ok (Ok x) = refl
bind-ok (Err e) = refl

pub handling-in_pieces : (octets : List ℕ) → front_at handling_parts octets ≡ in_pieces octets
handling-in_pieces octets =
    sym (bind-ok (front_at handling_parts octets))
    ∙ front_at-join class_parts (times_parts ++ flags_parts) octets (λ x. Ok x)
    ∙ bind-same (front_at class_parts octets)
    (λ x. front_at (times_parts ++ flags_parts) x.1 >>= λ y. Ok (join class_parts (times_parts ++ flags_parts) x.0 y.0, y.1))
    (λ x. front_at times_parts x.1 >>= λ y. front_at flags_parts y.1
    >>= λ z. Ok (join class_parts (times_parts ++ flags_parts) x.0 (join times_parts flags_parts y.0 z.0), z.1))
    (λ x. front_at-join times_parts flags_parts x.1 (λ y. Ok (join class_parts (times_parts ++ flags_parts) x.0 y.0, y.1)))
