-- Why a call on a cluster of nodes in threads does nothing (own).
use Rattle.std.specs.Prelude.{◌≡◌, ℕ, Option, Some, None}
use Rattle.node_core.specs.StepFault.{StepFault}
use Rattle.node_core.specs.StepFault.TheVariants as faults
use Rattle.stable_store.specs.declared.fault.StoreFault.{StoreFault}
use Rattle.stable_store.specs.declared.fault.StoreFault.TheVariants as stores
use Rattle.journal_parts.specs.declared.refusal.Refusal.{Refusal}
use Rattle.journal_parts.specs.declared.refusal.Refusal.TheVariants as refusals

abbrev pub refusal_number : Refusal → ℕ
refusal_number refusals.Full = 1
refusal_number refusals.Broken = 2
refusal_number refusals.Memory = 3
refusal_number (refusals.Grant reason) = 4
refusal_number refusals.NoSeat = 5
refusal_number refusals.NoSuchPacket = 6
refusal_number refusals.NotGranted = 7
refusal_number refusals.StrangeLife = 8
refusal_number refusals.Device = 9
refusal_number refusals.NoSuchNode = 10
refusal_number refusals.Spent = 11
refusal_number refusals.Damaged = 12

abbrev pub refused_as : StepFault → Refusal
refused_as faults.Broken = refusals.Broken
refused_as (faults.Grant reason) = refusals.Grant reason
refused_as faults.NotGranted = refusals.NotGranted
refused_as faults.Device = refusals.Device
refused_as faults.StrangeLife = refusals.StrangeLife
refused_as faults.Memory = refusals.Memory

-- a step that no fault stands against fails for want of memory alone
abbrev pub IsRefusedAs : Option StepFault → Refusal → Type 0
IsRefusedAs None refusal = refusal ≡ refusals.Memory
IsRefusedAs (Some fault) refusal = refusal ≡ refused_as fault

abbrev pub unopened_as : StoreFault → Refusal
unopened_as stores.Device = refusals.Device
unopened_as stores.Damaged = refusals.Damaged
unopened_as stores.Incarnations = refusals.Spent
unopened_as stores.Memory = refusals.Memory
