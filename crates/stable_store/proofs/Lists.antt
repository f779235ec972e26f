-- What the promises of a store say of a list.
use Rattle.std.proofs.Common.{refl, sym, inl, inr}
use Rattle.mc_model.specs.synod.Acceptor.{Records}
use Rattle.synod_acceptor.specs.Records.{record_at}
use Rattle.stable_store.specs.Stored.{AreSame}
use Rattle.stable_store.specs.Listing.{SaysOfLeavesNext, SaysOfLeavesSaved, SaysOfLeavesSavedAll, SaysOfSaves, SaysOfSavesAll, SaysOfStays}

itself : (records : Records) → AreSame records records
itself records = record { each = λ slot. refl }

other_way : (one other : Records) → AreSame one other → AreSame other one
other_way one other same = record { each = λ slot. sym (same.each slot) }

pub stays : SaysOfStays
stays old new before after is = record {
  records = is.records (record_at old.entries) (itself (record_at old.entries));
  started = is.started old.started refl;
}

pub saves : SaysOfSaves
saves change old new before after is = is (record_at old.entries) (itself (record_at old.entries))

pub leaves_saved : SaysOfLeavesSaved
leaves_saved change old new before after is = elim (is.records (record_at new.entries) (itself (record_at new.entries))) [
  | inl was ↦ inl (other_way (record_at old.entries) (record_at new.entries) was)
  | inr done ↦ inr (done (record_at old.entries) (itself (record_at old.entries)))
]

pub saves_all : SaysOfSavesAll
saves_all changes old new before after is = is (record_at old.entries) (itself (record_at old.entries))

pub leaves_saved_all : SaysOfLeavesSavedAll
leaves_saved_all changes old new before after is = elim (is.records (record_at new.entries) (itself (record_at new.entries))) [
  | inl was ↦ inl (other_way (record_at old.entries) (record_at new.entries) was)
  | inr done ↦ inr (done (record_at old.entries) (itself (record_at old.entries)))
]

pub leaves_next : SaysOfLeavesNext
leaves_next old new before after is = (
  other_way (record_at old.entries) (record_at new.entries) (is.records (record_at new.entries) (itself (record_at new.entries))),
  elim (is.started new.started refl) [
    | inl was ↦ inl (sym was)
    | inr raised ↦ inr (raised old.started refl)
  ],
)
