-- Parts of a journal, one behind the other.
use Rattle.std.proofs.Common.{◌≡◌, ℕ, zero, suc, Option, Some, None, subst}
use Rattle.std.specs.Prelude.{IfSome}
use Rattle.mc_model.specs.cluster.Steps.{Cluster}
use Rattle.node_model.specs.Kept.{Kept}
use Rattle.stable_store.specs.Stored.{Stored}
use Rattle.node_workers.specs.Closing.{Closed, IsClosed}
use Rattle.node_workers.specs.GoingOn.{AreSound, kept_in, numbers_behind}
use Rattle.node_workers.specs.Numbers.{Numbers}
use Rattle.node_workers.specs.Histories.{AllPartsKeepPromises, ClosesKept, ClosesParts}

module _ {S : Type 0} (stored : S → Stored) (cluster : Cluster) (kept : ℕ → Kept) (numbers : Numbers) where
  -- it is closed behind some parts
  abbrev pub ClosesSome : Closed S → Type 0
  ClosesSome closed = (parts : ℕ) × ClosesParts stored cluster kept numbers parts closed

  pub begun_with : (closed : Closed S) → ClosesSome closed → (with : ℕ → Kept) × (behind : Numbers) × IsClosed stored cluster with behind closed
  begun_with closed (zero, closes) = (kept, numbers, closes)
  begun_with closed (suc parts, (before, other, earlier, sound, closes)) = (kept_in other before.posts, numbers_behind before, closes)

  pub first_part : (last : Option (Closed S)) → IfSome last (λ closed. IsClosed stored cluster kept numbers closed) → IfSome last ClosesSome
  first_part None is = is
  first_part (Some closed) is = (zero, is)

  pub another_part : (last : Option (Closed S)) (before : Closed S) (other : Kept) → ClosesSome before → AreSound before.posts →
      IfSome last (λ closed. IsClosed stored cluster (kept_in other before.posts) (numbers_behind before) closed) → IfSome last ClosesSome
  another_part None before other closes sound is = is
  another_part (Some closed) before other (parts, closes) sound is = (suc parts, (before, other, closes, sound, is))

  pub there_is : (last : Option (Closed S)) (closed : Closed S) → last ≡ Some closed → IfSome last ClosesSome → ClosesSome closed
  there_is last closed same is = subst (λ (one : Option (Closed S)). IfSome one ClosesSome) same is

  -- and what all parts keep
  pub kept_by_all : AllPartsKeepPromises stored → (last : Option (Closed S)) → IfSome last ClosesSome → IfSome last (ClosesKept stored cluster kept numbers)
  kept_by_all promises None is = is
  kept_by_all promises (Some closed) (parts, closes) = (parts, closes, promises cluster kept numbers parts closed closes)
