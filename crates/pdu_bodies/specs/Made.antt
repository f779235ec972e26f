-- What a function that takes memory makes of octets.
use Rattle.std.specs.Prelude.{◌≡◌, Result, Ok, Err, IsOk, ◌⊎◌}
use Rattle.pdu_fields.specs.declared.fault.PduFault.{PduFault}
use Rattle.pdu_fields.specs.declared.fault.PduFault.TheVariants as faults

-- What was to be read is this fault, or memory ran out for what can be read.
abbrev pub Fails : {Y : Type 0} → PduFault → Result Y PduFault → Type 0
Fails fault read = (read ≡ Err fault) ⊎ ((fault ≡ faults.Memory) × IsOk read)

-- What a function made in memory, seen by view, is what reading gives.
abbrev pub IsMade : {X Y : Type 0} → (X → Y) → Result X PduFault → Result Y PduFault → Type 0
IsMade view (Ok x) read = read ≡ Ok (view x)
IsMade view (Err fault) read = Fails fault read
