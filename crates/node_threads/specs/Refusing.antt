-- What a refusal leaves of a permit (own).
use Rattle.std.specs.Prelude.{◌≡◌, ◌⊎◌, Option, Some, IfSome, IsSome}
use Rattle.node_core.specs.Permits.{Permitted}
use Rattle.journal_parts.specs.declared.refusal.Refusal.{Refusal}
use Rattle.journal_parts.specs.declared.refusal.Refusal.TheVariants as refusals

-- the attempt is not granted, for some reason
abbrev pub IsNoGrant : Refusal → Type 0
IsNoGrant (refusals.Grant reason) = Unit {0}
IsNoGrant other = ⊥

-- The permit that comes back is the one that was handed in. It does at Memory, and else at Full alone.
pub record HandsBack (permit : Permitted) (refusal : Refusal) (back : Option Permitted) : Type 0 where
  pub memory : refusal ≡ refusals.Memory → back ≡ Some permit
  pub same : IfSome back (λ given. given ≡ permit)
  pub alone : IsSome back → (refusal ≡ refusals.Memory) ⊎ (refusal ≡ refusals.Full)
