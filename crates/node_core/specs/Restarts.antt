-- A node that opens again, as the model's that starts anew.
use Rattle.std.specs.Prelude.{◌≡◌, ℕ, suc, ◌+◌, Bool, Some}
use Rattle.mc_model.specs.synod.Acceptor.{Records}
use Rattle.mc_model.specs.node.Input.{Crash, Restart}
use Rattle.mc_model.specs.node.Setup.{Setup}
use Rattle.node_model.specs.Kept.{Kept}
use Rattle.node_model.specs.Stepped.{stepped}
use Rattle.stable_store.specs.Stored.{AreSame, Listed, Stored, stored_in}
use Rattle.synod_acceptor.specs.Packets.{packet_of}
use Rattle.synod_acceptor.specs.Records.{record_at}
use Rattle.synod_acceptor.specs.declared.packet.Packet.{Packet}
use Rattle.node_kept.specs.Input.{Input}
use Rattle.node_kept.specs.Input.TheVariants as given
use Rattle.node_kept.specs.declared.kept.Kept.{Kept as Holding}
use Rattle.node_kept.specs.declared.stopped.Stopped.{Stopped}
use Rattle.node_kept.specs.Keeping.{kept_of}
use Rattle.node_kept.specs.Listing.{ListsRecorded}
use Rattle.node_core.specs.declared.life.Life.{Life}
use Rattle.node_core.specs.Nodes.{HasOpened, HasStopped, OpensOver, Standing, seen}
use Rattle.node_core.specs.Stops.{IsTold, is_after}

-- the incarnation after the one of what is kept, if so many are lost between
abbrev pub next_life : Kept → ℕ → ℕ
next_life k lost = suc (k.incarnation + lost)

-- what a node keeps that opens over these records is what is kept after a restart
abbrev pub OpensAsRestarted : Type 0 → Type 0
OpensAsRestarted S =
    (with : Setup) (k : Kept) (stored : Records) (lost : ℕ) (node : Standing S) (life : Life)
    → ListsRecorded k
    → AreSame stored k.records
    → HasOpened with stored (next_life k lost) node life
    → kept_of node.kept ≡ (stepped with k (Restart lost)).kept

-- A node that opened over a store which held these records after this incarnation opened with these, in the next one.
abbrev pub OpensOverWhatIsHeld : {S : Type 0} → (S → Stored) → Type 0
OpensOverWhatIsHeld {S} stored =
    (store after : S) (with : Setup) (node : Standing S) (life : Life) (records : Records) (started : ℕ)
    → OpensOver (stored store) with (stored after) node life
    → (stored after).doubt ≡ 0
    → (stored store).holds records
    → (stored store).has_started started
    → HasOpened with records (started + 1) node life

-- of a list, which has the records of before and the next incarnation then
pub record HasOpenedList {S : Type 0} (old new : Listed) (with : Setup) (node : Standing S) (life : Life) : Type 0 where
  pub opened : HasOpened with (record_at old.entries) (old.started + 1) node life
  pub started : new.started ≡ old.started + 1
  pub records : AreSame (record_at new.entries) (record_at old.entries)

abbrev pub OpensOverLists : Type 0 → Type 0
OpensOverLists S =
    (old new : Listed) (before after : ℕ) (with : Setup) (node : Standing S) (life : Life)
    → OpensOver (stored_in old before) with (stored_in new after) node life
    → HasOpenedList old new with node life

-- A node stopped in the save of a packet, and one opened over what was found of its store, by whatever way: it keeps what is kept after a crash,
-- before or behind the save, and a restart.
abbrev pub OpensAsCrashed : {S : Type 0} → (S → Stored) → Type 0
OpensAsCrashed {S} stored =
    (old halted : Standing S) (packet : Packet) (left : Records) (lost : ℕ) (node : Standing S) (life : Life)
    → ListsRecorded (kept_of old.kept)
    → HasStopped (seen stored old) (given.Packet packet) (seen stored halted)
    → (stored halted.store).may_hold left
    → HasOpened old.kept.setup left (next_life (kept_of old.kept) lost) node life
    → (after : Bool)
    × (kept_of node.kept ≡ (stepped old.kept.setup (stepped old.kept.setup (kept_of old.kept) (Crash (packet_of packet) after)).kept (Restart lost)).kept)

-- What it tells is so: at the packet that came it keeps what is kept after a crash, before or behind the save as is found, and a restart.
pub record KeepsAsTold {S : Type 0} (k : Holding) (input : Input) (lost : ℕ) (node : Standing S) : Type 0 where
  pub told : Stopped
  pub tells : node.stopped ≡ Some told
  pub came : input ≡ given.Packet told.packet
  pub kept : kept_of node.kept
      ≡ (stepped k.setup (stepped k.setup (kept_of k) (Crash (packet_of told.packet) (is_after told.found))).kept (Restart lost)).kept

-- A node stopped in a save, and the same node was opened again, over what was found of its store.
abbrev pub ReopensAsCrashed : {S : Type 0} → (S → Stored) → Type 0
ReopensAsCrashed {S} stored =
    (old halted : Standing S) (input : Input) (left : Records) (lost : ℕ) (node : Standing S) (life : Life)
    → ListsRecorded (kept_of old.kept)
    → HasStopped (seen stored old) input (seen stored halted)
    → HasOpened old.kept.setup left (next_life (kept_of old.kept) lost) node life
    → IsTold halted.kept left halted.unfinished node.stopped
    → KeepsAsTold old.kept input lost node
