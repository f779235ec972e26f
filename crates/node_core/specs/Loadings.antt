-- A node that is loaded over its store, and has not begun (own).
use Rattle.std.specs.Prelude.{◌≡◌, ◌+◌, ℕ}
use Rattle.mc_model.specs.synod.Acceptor.{Records}
use Rattle.mc_model.specs.node.Setup.{Setup}
use Rattle.stable_store.specs.Stored.{GoesOn, KeepsRecords, Leaves, LeavesNext, Stays, Stored}
use Rattle.stable_store.specs.declared.fault.StoreFault.{StoreFault}
use Rattle.node_kept.specs.declared.kept.Kept.{Kept}
use Rattle.node_kept.specs.Keeping.{IsOpen}
use Rattle.node_core.specs.declared.life.Life.{Life}
use Rattle.node_core.specs.Nodes.{FailsToOpen, OpensOver, Standing, records_in}

-- its store, and what it will keep
pub record Loading (S : Type 0) : Type 0 where
  pub store : S
  pub kept : Kept

-- it keeps the records that its store holds, and nothing else
pub record IsReady (stored : Stored) (k : Kept) : Type 0 where
  pub holds : stored.holds (records_in k)
  pub opens : IsOpen k.setup k.incarnation (records_in k) k

-- what it keeps was found in its store, which is as it was
pub record HasLoaded (with : Setup) (old new : Stored) (k : Kept) : Type 0 where
  pub setup : k.setup ≡ with
  pub ready : IsReady new k
  pub found : new.doubt ≡ 0 → old.may_hold (records_in k)
  pub stays : Stays old new
  pub left : Leaves old new
  pub goes_on : GoesOn old new

-- it was loaded with this setup over this store
abbrev pub IsLoaded : {S : Type 0} → (S → Stored) → Setup → S → Loading S → Type 0
IsLoaded stored with store loaded = HasLoaded with (stored store) (stored loaded.store) loaded.kept

-- it begins the incarnation after the last one that was stored, which the store has then
pub record HasRaised (old new : Stored) (before after : Kept) : Type 0 where
  pub number : ℕ
  pub begun : (with : Setup) (starts : ℕ) (records : Records) → IsOpen with starts records before → IsOpen with number records after
  pub next : (started : ℕ) → new.doubt ≡ 0 → old.has_started started → number ≡ started + 1
  pub started : new.has_started number
  pub kept : KeepsRecords old new
  pub left : LeavesNext old new
  pub goes_on : GoesOn old new

-- whatever store it was loaded over, it opened over that
abbrev pub Begins : {S : Type 0} → (S → Stored) → Loading S → Standing S → Life → Type 0
Begins {S} stored loaded node life =
    (with : Setup) (store : S) → IsLoaded stored with store loaded → OpensOver (stored store) with (stored node.store) node life

-- whatever store it was loaded over, no node opened over that, of which this is left
abbrev pub FailsToBegin : {S : Type 0} → (S → Stored) → Loading S → StoreFault → S → Type 0
FailsToBegin {S} stored loaded fault left =
    (with : Setup) (store : S) → IsLoaded stored with store loaded → FailsToOpen fault (stored store) (stored left)
