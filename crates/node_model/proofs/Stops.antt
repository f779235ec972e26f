-- What a packet saves: a stop behind the save leaves the records of its step.
use Rattle.std.proofs.Common.{◌≡◌, ℕ, Bool, true, false, List, Option, Some, None, map, refl, ◌∙◌}
use Rattle.std.specs.Prelude.{[], if◌then◌else◌}
use Rattle.mc_model.specs.message.Decree.{Decree}
use Rattle.mc_model.specs.synod.OneSlot.{Vote}
use Rattle.mc_model.specs.synod.Packet.{Ask, Packet, Prepare, Promise, Propose, Refused, Slot, Tell, TopVote, Voted, slot_at}
use Rattle.mc_model.specs.synod.Acceptor.{Records}
use Rattle.mc_model.specs.node.Replies.{Answer}
use Rattle.mc_model.specs.node.Setup.{Setup}
use Rattle.node_model.specs.Message.{Message, Round}
use Rattle.node_model.specs.Kept.{Held, Kept, message_at, with_message}
use Rattle.node_model.specs.Learner.{heard, makes_known}
use Rattle.node_model.specs.Outputs.{Stepped, leaves}
use Rattle.node_model.specs.Answers.{answer_to}
use Rattle.node_model.specs.Packets.{answer_told, heard_in, is_member, is_own_name, known_then, on_ask, on_known, on_packet, on_prepare, start_known}
use Rattle.node_model.specs.Packets.{on_promise, on_propose, on_refused, on_tell, on_voted, promised_in, settled_for, settled_told}
use Rattle.node_model.specs.Packets.{start_told, tell_held, tells_about, told_to, vote_concerns}
use Rattle.node_model.specs.Proposer.{Prepared, Start, is_free, is_own_ballot, refused, runs_at, started}
use Rattle.node_model.specs.Requests.{held_at, id_of, settled_by, told_by, with_held}
use Rattle.node_model.specs.Starts.{delete_for}
use Rattle.node_model.specs.Stepped.{saved_by, stopped}

-- a step leaves these records
abbrev Leaves : Stepped → Records → Type 0
Leaves step records = step.kept.records ≡ records

either : (test : Bool) (one other : Stepped) (records : Records) → Leaves one records → Leaves other records → Leaves (if test then one else other) records
either true one other records first second = first
either false one other records first second = second

-- a round that starts leaves the records
pub started_leaves : (setup : Setup) (k : Kept) (id : ℕ) (start : Option Start) → (started setup k id start).kept.records ≡ k.records
started_leaves setup k id None = refl
started_leaves setup k id (Some start) = by_test (is_free k (slot_at id start.place)) _ refl
  where
    by_test : (test : Bool) (prepared : Prepared) → prepared.kept.records ≡ k.records →
        (if test then prepared else record { kept = k; packets = [] }).kept.records ≡ k.records
    by_test true prepared same = same
    by_test false prepared same = refl

promised_leaves : (setup : Setup) (k : Kept) (m : Message) (round : Option Round) (sender : ℕ) (slot : Slot) (ballot : ℕ) (report : Option Vote) →
    Leaves (promised_in setup k m round sender slot ballot report) k.records
promised_leaves setup k m None sender slot ballot report = refl
promised_leaves setup k m (Some r) sender slot ballot report = either (runs_at (Some r) slot ballot) _ _ k.records refl refl

voted_leaves : (setup : Setup) (k : Kept) (id : ℕ) (m : Message) (vote : Vote) → Leaves (heard_in setup k id m vote) k.records
voted_leaves setup k id m vote =
    either (makes_known setup.nodes m vote) (on_known setup k id m vote.chain) (leaves (with_message k id m)) k.records
    (started_leaves setup learned id (start_known setup learned id m.known vote.chain)) refl
  where
    learned : Kept
    learned = record (with_message k id (known_then m vote.chain)) { held = map (settled_for setup.nodes id vote.chain) k.held }

answer_leaves : (prepared : Prepared) (new : Held) (answer : Option Answer) → Leaves (answer_told prepared new answer) prepared.kept.records
answer_leaves prepared new None = refl
answer_leaves prepared new (Some answer) = refl

told_leaves : (setup : Setup) (k : Kept) (known : Option (List Decree)) (told new : Held) → Leaves (settled_told setup k known told new) k.records
told_leaves setup k known told new =
    let start = start_told setup k known told new in
    answer_leaves (started setup (record k { held = with_held k.held new }) (id_of new) start) new (answer_to setup.nodes known new)
    ∙ started_leaves setup (record k { held = with_held k.held new }) (id_of new) start

tell_leaves : (setup : Setup) (k : Kept) (teller : ℕ) (told : Option TopVote) (held : Option Held) → Leaves (tell_held setup k teller told held) k.records
tell_leaves setup k teller told None = refl
tell_leaves setup k teller told (Some h) =
    let known = (message_at k (id_of h)).known in
    let new = told_by h teller told in
    either (tells_about told (id_of h)) (told_to setup k known new) (leaves k) k.records (told_leaves setup k known new (settled_by setup.nodes known new)) refl

heeded : (test : Bool) (step : Stepped) (k after : Kept) → Leaves step after.records →
    (if test then step else leaves k).kept.records ≡ (if test then record after { up = false } else record k { up = false }).records
heeded true step k after same = same
heeded false step k after same = refl

-- what is recorded after a packet is recorded after a stop behind its save
pub saved_so : (setup : Setup) (k : Kept) (packet : Packet) → (on_packet setup k packet).kept.records ≡ (stopped setup k packet true).records
saved_so setup k (Prepare sender slot ballot) =
    heeded (is_member setup sender) (on_prepare setup k slot ballot) k (saved_by setup k (Prepare sender slot ballot)) refl
saved_so setup k (Propose sender slot vote) =
    heeded (is_member setup sender) (on_propose setup k slot vote) k (saved_by setup k (Propose sender slot vote)) refl
saved_so setup k (Promise sender slot ballot report) =
    let m = message_at k slot.id in
    heeded (is_member setup sender) (on_promise setup k sender slot ballot report) k k (promised_leaves setup k m m.round sender slot ballot report)
saved_so setup k (Voted sender slot vote) =
    heeded (is_member setup sender) (if vote_concerns setup k slot vote then on_voted setup k sender slot vote else leaves k) k k
    (either (vote_concerns setup k slot vote) (on_voted setup k sender slot vote) (leaves k) k.records
    (voted_leaves setup k slot.id (heard (message_at k slot.id) sender vote) vote) refl)
saved_so setup k (Refused sender slot ballot promised) =
    heeded (is_member setup sender) (on_refused setup k slot ballot promised) k k
    (either (is_own_ballot setup k ballot) (leaves (with_message k slot.id (refused (message_at k slot.id) slot ballot promised)))
    (leaves k) k.records refl refl)
saved_so setup k (Ask sender id name) = heeded (is_member setup sender) (on_ask setup k id name) k k refl
saved_so setup k (Tell sender name told) =
    heeded (is_member setup sender) (on_tell setup k sender name told) k k
    (either (is_own_name setup k name) (tell_held setup k sender told (held_at k.held name.ticket)) (leaves k) k.records
    (tell_leaves setup k sender told (held_at k.held name.ticket)) refl)
