-- Several packets that are handed in to a node at once (own).
use Rattle.std.specs.Prelude.{◌≡◌, ◌⊎◌, ℕ, List, ◌++◌}
use Rattle.mc_model.specs.synod.Lists.{In}
use Rattle.journal_parts.specs.Slips.{Slipped}
use Rattle.journal_parts.specs.declared.refusal.Refusal.{Refusal}
use Rattle.journal_parts.specs.declared.refusal.Refusal.TheVariants.{Broken, Device, Full, Memory, NoSuchPacket}
use Rattle.journal_parts.specs.Step.TheVariants as steps

-- the slips that were added are of packets that came to this node
pub record Carries (node : ℕ) (old new : List Slipped) : Type 0 where
  pub slips : List Slipped
  pub behind : new ≡ old ++ slips
  pub each : (slip : Slipped) → In slip slips → (number : ℕ) × (slip.entry.done.step ≡ steps.Deliver number node)

-- Among the slips that were added is that of the packet of this number, which came to this node.
pub record HasCome (node number : ℕ) (old new : List Slipped) : Type 0 where
  pub slips : List Slipped
  pub behind : new ≡ old ++ slips
  pub slip : Slipped
  pub among : In slip slips
  pub step : slip.entry.done.step ≡ steps.Deliver number node

abbrev pub HaveCome : ℕ → List ℕ → List Slipped → List Slipped → Type 0
HaveCome node numbers old new = (number : ℕ) → In number numbers → HasCome node number old new

-- each of these numbers stands in one of two lists
abbrev pub AreSplit : List ℕ → List ℕ → List ℕ → Type 0
AreSplit numbers these those = (number : ℕ) → In number numbers → In number these ⊎ In number those

-- as a packet is refused
abbrev pub IsRefusedSo : Refusal → Type 0
IsRefusedSo refusal = (refusal ≡ Full) ⊎ (refusal ≡ Broken) ⊎ (refusal ≡ NoSuchPacket) ⊎ (refusal ≡ Device) ⊎ (refusal ≡ Memory)
