-- What a node of the code keeps as it has opened, by what its store had (own).
use Rattle.std.specs.Prelude.{◌≡◌, ℕ, ◌+◌, Bool, true, false}
use Rattle.mc_model.specs.synod.Acceptor.{blank}
use Rattle.mc_model.specs.node.Setup.{Setup}
use Rattle.node_model.specs.Kept.{Kept}
use Rattle.node_model.specs.Stepped.{opened_new, restarted}
use Rattle.stable_store.specs.Stored.{Stored}
use Rattle.node_core.specs.declared.life.Life.{Life}
use Rattle.node_core.specs.Keeping.{kept_of}
use Rattle.node_core.specs.Listing.{ListsRecorded}
use Rattle.node_core.specs.Nodes.{OpensOver, Standing}

-- A store is new: it has no record, and no incarnation was used.
pub record IsNew (stored : Stored) : Type 0 where
  pub records : stored.holds (λ slot. blank)
  pub started : stored.has_started 0

-- It has the records of what a node kept last, and its incarnation, behind which so many were lost by starts that failed.
pub record IsLeft (k : Kept) (lost : ℕ) (stored : Stored) : Type 0 where
  pub records : stored.holds k.records
  pub started : stored.has_started (k.incarnation + lost)

-- the one or the other
abbrev pub IsAsLeft : Bool → Kept → ℕ → Stored → Type 0
IsAsLeft true k lost stored = IsNew stored
IsAsLeft false k lost stored = IsLeft k lost stored

-- A node that opened over a new store keeps what the model's does, unless the disk returned what nobody wrote.
abbrev pub KeepsAsNew : {S : Type 0} → (S → Stored) → Type 0
KeepsAsNew {S} stored =
    (store : S) (with : Setup) (node : Standing S) (life : Life) → OpensOver (stored store) with (stored node.store) node life →
    (stored node.store).doubt ≡ 0 → IsNew (stored store) → kept_of node.kept ≡ opened_new with

-- And one that opened over what a node left that listed each message of which it had a record keeps what the model's does that starts anew.
abbrev pub KeepsAsLeft : {S : Type 0} → (S → Stored) → Type 0
KeepsAsLeft {S} stored =
    (store : S) (with : Setup) (node : Standing S) (life : Life) (k : Kept) (lost : ℕ) → OpensOver (stored store) with (stored node.store) node life →
    (stored node.store).doubt ≡ 0 → ListsRecorded k → IsLeft k lost (stored store) → kept_of node.kept ≡ restarted with k lost
