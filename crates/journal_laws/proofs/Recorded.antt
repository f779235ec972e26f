-- A node of the model lists each message of which it has a record, wherever a run led it.
use Rattle.std.proofs.Common.{◌≡◌, ℕ, pred, Bool, true, false, List, [], ◌∷◌, map, Option, Some, None, refl, sym, ap, subst, inl, inr}
use Rattle.std.specs.Prelude.{◌==◌, if◌then◌else◌}
use Rattle.std.specs.Map.{keys_of}
use Rattle.std.specs.Ordering.{nat_cmp}
use Rattle.std.specs.List.Sorted.{IsStrictlySortedBy}
use Rattle.mc_model.specs.message.Decree.{Decree}
use Rattle.mc_model.specs.synod.Lists.{In}
use Rattle.mc_model.specs.synod.OneSlot.{Vote}
use Rattle.mc_model.specs.synod.Packet.{Ask, Packet, Prepare, Promise, Propose, Refused, Slot, Tell, TopVote, Voted}
use Rattle.mc_model.specs.synod.Acceptor.{SlotRecord}
use Rattle.mc_model.specs.node.FirstRule.{Announce, Close, Delete, Expire, Follow, GiveUp, Lose, Rule, Take, Try, Undeliver}
use Rattle.mc_model.specs.node.Actor.{id_in}
use Rattle.mc_model.specs.node.Input.{Arrival, Crash, Delivery, Grant, Input, Refusal, Response, Restart, Tick}
use Rattle.mc_model.specs.node.Replies.{Answer}
use Rattle.mc_model.specs.node.Reach.{Reach}
use Rattle.mc_model.specs.node.Setup.{Setup}
use Rattle.mc_model.specs.cluster.Steps.{Cluster, setup_of}
use Rattle.shelf.proofs.Entries.{still_ascends}
use Rattle.node_model.specs.Message.{Message, Round, unseen}
use Rattle.node_model.specs.Kept.{Held, Kept, message_at, saved, with_message}
use Rattle.node_model.specs.Outputs.{Stepped, leaves}
use Rattle.node_model.specs.Answers.{answer_to}
use Rattle.node_model.specs.Learner.{heard, makes_known}
use Rattle.node_model.specs.Packets.{answer_told, heard_in, is_member, is_own_name, known_then, on_known, on_packet, on_voted, promised_in, start_known}
use Rattle.node_model.specs.Packets.{settled_for, settled_told, start_told, tell_held, tells_about, told_to, vote_concerns}
use Rattle.node_model.specs.Proposer.{Prepared, Start, is_free, is_own_ballot, refused, runs_at, started}
use Rattle.node_model.specs.Recorded.{recorded_in}
use Rattle.node_model.specs.Requests.{begun, held_at, id_of, settled_by, told_by, with_held}
use Rattle.node_model.specs.Rules.{Fitting, first_rule}
use Rattle.node_model.specs.Starts.{take_for}
use Rattle.node_model.specs.Stepped.{opened_new, restarted, stepped, stepped_down, stepped_up}
use Rattle.node_model.specs.Ticks.{given_up, ids_of, ruled, ruled_each, ticked, waits_too}
use Rattle.node_model.specs.Attempts.{closed_by, concluded}
use Rattle.node_model.proofs.Recorded.{are_recorded}
use Rattle.node_laws.specs.Clusters.{NodeInput, kept_reached, step_at}
use Rattle.node_laws.proofs.invariant.Ticked.{keys_unrounded}
use Rattle.node_core.specs.Listing.{ListsRecorded}
use Rattle.node_core.proofs.Restarts.{stop_lists}
use Rattle.node_core.proofs.Listing.{key_put, was_recorded}

either : (test : Bool) (one other : Stepped) → ListsRecorded one.kept → ListsRecorded other.kept → ListsRecorded (if test then one else other).kept
either true one other first second = first
either false one other first second = second

-- ---- a message more, or a record

put : (k : Kept) (id : ℕ) (m : Message) → ListsRecorded k → ListsRecorded (with_message k id m)
put k id m lists = record {
  ascend = still_ascends k.messages id m lists.ascend;
  all = λ other is. key_put k.messages id m other (inr (lists.all other is));
}

saves : (k : Kept) (slot : Slot) (r : SlotRecord) → ListsRecorded k → ListsRecorded (saved k slot r)
saves k slot r lists = record {
  ascend = still_ascends k.messages slot.id (message_at k slot.id) lists.ascend;
  all = λ id is. key_put k.messages slot.id (message_at k slot.id) id (elim (was_recorded k.records (saved k slot r).records slot r id (λ other. refl) is) [
    | inl same ↦ inl same
    | inr before ↦ inr (lists.all id before)
  ]);
}

starts : (setup : Setup) (k : Kept) (id : ℕ) (start : Option Start) → ListsRecorded k → ListsRecorded (started setup k id start).kept
starts setup k id None lists = lists
starts setup k id (Some start) lists = by_test (is_free k slot) _ (put k id _ lists)
  where
    slot : Slot
    slot = record { id = id; place = start.place }

    by_test : (test : Bool) (prepared : Prepared) → ListsRecorded prepared.kept →
        ListsRecorded (if test then prepared else record { kept = k; packets = [] }).kept
    by_test true prepared new = new
    by_test false prepared new = lists

-- ---- a packet

promises : (setup : Setup) (k : Kept) (m : Message) (round : Option Round) (sender : ℕ) (slot : Slot) (ballot : ℕ) (report : Option Vote) → ListsRecorded k →
    ListsRecorded (promised_in setup k m round sender slot ballot report).kept
promises setup k m None sender slot ballot report lists = lists
promises setup k m (Some r) sender slot ballot report lists = either (runs_at (Some r) slot ballot) _ _ (put k slot.id _ lists) lists

hears : (setup : Setup) (k : Kept) (id : ℕ) (m : Message) (vote : Vote) → ListsRecorded k → ListsRecorded (heard_in setup k id m vote).kept
hears setup k id m vote lists =
    either (makes_known setup.nodes m vote) (on_known setup k id m vote.chain) (leaves (with_message k id m)) known (put k id m lists)
  where
    learned : Kept
    learned = record (with_message k id (known_then m vote.chain)) { held = map (settled_for setup.nodes id vote.chain) k.held }

    known : ListsRecorded (on_known setup k id m vote.chain).kept
    known =
        let new = put k id (known_then m vote.chain) lists in
        let last = starts setup learned id (start_known setup learned id m.known vote.chain) (record { ascend = new.ascend; all = new.all }) in
        record { ascend = last.ascend; all = last.all }

answers : (prepared : Prepared) (new : Held) (answer : Option Answer) → ListsRecorded prepared.kept → ListsRecorded (answer_told prepared new answer).kept
answers prepared new None lists = lists
answers prepared new (Some answer) lists = record { ascend = lists.ascend; all = lists.all }

settles_so : (setup : Setup) (k : Kept) (known : Option (List Decree)) (told new : Held) → ListsRecorded k →
    ListsRecorded (settled_told setup k known told new).kept
settles_so setup k known told new lists =
    let start = start_told setup k known told new in
    answers (started setup (record k { held = with_held k.held new }) (id_of new) start) new (answer_to setup.nodes known new)
    (starts setup (record k { held = with_held k.held new }) (id_of new) start (record { ascend = lists.ascend; all = lists.all }))

tells : (setup : Setup) (k : Kept) (teller : ℕ) (told : Option TopVote) (held : Option Held) → ListsRecorded k →
    ListsRecorded (tell_held setup k teller told held).kept
tells setup k teller told None lists = lists
tells setup k teller told (Some h) lists =
    let known = (message_at k (id_of h)).known in
    let new = told_by h teller told in
    either (tells_about told (id_of h)) (told_to setup k known new) (leaves k) (settles_so setup k known new (settled_by setup.nodes known new) lists) lists

comes : (setup : Setup) (k : Kept) (packet : Packet) → ListsRecorded k → ListsRecorded (on_packet setup k packet).kept
comes setup k (Prepare sender slot ballot) lists = either (is_member setup sender) _ (leaves k) (saves k slot _ lists) lists
comes setup k (Propose sender slot vote) lists = either (is_member setup sender) _ (leaves k) (saves k slot _ lists) lists
comes setup k (Promise sender slot ballot report) lists =
    let m = message_at k slot.id in either (is_member setup sender) _ (leaves k) (promises setup k m m.round sender slot ballot report lists) lists
comes setup k (Voted sender slot vote) lists =
    either (is_member setup sender) _ (leaves k)
    (either (vote_concerns setup k slot vote) (on_voted setup k sender slot vote) (leaves k)
    (hears setup k slot.id (heard (message_at k slot.id) sender vote) vote lists) lists) lists
comes setup k (Refused sender slot ballot promised) lists =
    either (is_member setup sender) _ (leaves k)
    (either (is_own_ballot setup k ballot) (leaves (with_message k slot.id (refused (message_at k slot.id) slot ballot promised))) (leaves k)
    (put k slot.id (refused (message_at k slot.id) slot ballot promised) lists) lists) lists
comes setup k (Ask sender id name) lists = either (is_member setup sender) _ (leaves k) lists lists
comes setup k (Tell sender name told) lists =
    either (is_member setup sender) _ (leaves k)
    (either (is_own_name setup k name) (tell_held setup k sender told (held_at k.held name.ticket)) (leaves k)
    (tells setup k sender told (held_at k.held name.ticket) lists) lists) lists

-- ---- a tick

gives_up : (rule : Rule) (k : Kept) (id place : ℕ) → ListsRecorded k → ListsRecorded (given_up rule k id place)
gives_up GiveUp k id place lists = put k id _ lists
gives_up Take k id place lists = lists
gives_up Try k id place lists = lists
gives_up Close k id place lists = lists
gives_up Lose k id place lists = lists
gives_up Undeliver k id place lists = lists
gives_up Expire k id place lists = lists
gives_up Delete k id place lists = lists
gives_up Follow k id place lists = lists
gives_up Announce k id place lists = lists

rules_one : (setup : Setup) (k : Kept) (id : ℕ) (fit : Option Fitting) → ListsRecorded k → ListsRecorded (ruled setup k id fit).kept
rules_one setup k id None lists = lists
rules_one setup k id (Some fit) lists =
    let place = pred fit.start.place in
    starts setup (given_up fit.rule k id place) id (Some fit.start) (gives_up fit.rule k id place lists)

rules_each : (setup : Setup) (reach : Reach) (ids : List ℕ) (k : Kept) → ListsRecorded k → ListsRecorded (ruled_each setup reach ids k).kept
rules_each setup reach [] k lists = lists
rules_each setup reach (id ∷ others) k lists =
    let fit = first_rule setup k reach id in
    rules_each setup reach others (ruled setup k id fit).kept (rules_one setup k id fit lists)

ticks : (setup : Setup) (k : Kept) (clock : ℕ) (reach : Reach) → ListsRecorded k →
    ListsRecorded (ruled_each setup reach (ids_of (ticked k clock)) (ticked k clock)).kept
ticks setup k clock reach lists = rules_each setup reach (ids_of (ticked k clock)) (ticked k clock) (record {
  ascend = subst (IsStrictlySortedBy nat_cmp) (sym (keys_unrounded k.messages)) lists.ascend;
  all = λ id is. subst (λ (ids : List ℕ). In id ids) (sym (keys_unrounded k.messages)) (lists.all id is);
})

-- ---- a start anew

keys_are : (ids : List ℕ) → keys_of (map (λ (id : ℕ). (id, unseen)) ids) ≡ ids
keys_are [] = refl
keys_are (first ∷ others) = ap (λ (rest : List ℕ). first ∷ rest) (keys_are others)

starts_anew : (setup : Setup) (k : Kept) (lost : ℕ) → ListsRecorded k → ListsRecorded (restarted setup k lost)
starts_anew setup k lost lists =
    let ids = recorded_in k.records (keys_of k.messages) in
    let are = are_recorded k.records (keys_of k.messages) lists.ascend lists.all in
    record {
      ascend = subst (IsStrictlySortedBy nat_cmp) (sym (keys_are ids)) are.ascend;
      all = λ id is. subst (λ (others : List ℕ). In id others) (sym (keys_are ids)) (are.all id is);
    }

opens : (setup : Setup) → ListsRecorded (opened_new setup)
unfolding IsStrictlySortedBy
opens setup = record { ascend = tt; all = λ id is. absurd (is.2 refl) }

-- ---- each step

up_steps : (setup : Setup) (k : Kept) (input : Input) → ListsRecorded k → ListsRecorded (stepped_up setup k input).kept
up_steps setup k (Delivery packet) lists = comes setup k packet lists
up_steps setup k (Crash packet behind) lists = (stop_lists setup k packet behind lists).lists
up_steps setup k (Arrival request) lists =
    let new = begun k.ticket k.clock request in
    starts setup (waits_too k request new) (id_in request) (take_for setup k new request) (record { ascend = lists.ascend; all = lists.all })
up_steps setup k (Refusal status) lists = lists
up_steps setup k (Tick moment reach) lists = ticks setup k _ reach lists
up_steps setup k (Grant slot) lists = put k slot.id _ lists
up_steps setup k (Response slot outcome) lists =
    starts setup (closed_by k slot outcome) slot.id (concluded setup k slot outcome (message_at k slot.id).known) (put k slot.id _ lists)
up_steps setup k (Restart lost) lists = starts_anew setup k lost lists

down_steps : (setup : Setup) (k : Kept) (input : Input) → ListsRecorded k → ListsRecorded (stepped_down setup k input).kept
down_steps setup k (Delivery packet) lists = lists
down_steps setup k (Crash packet behind) lists = lists
down_steps setup k (Arrival request) lists = lists
down_steps setup k (Refusal status) lists = lists
down_steps setup k (Tick moment reach) lists = lists
down_steps setup k (Grant slot) lists = lists
down_steps setup k (Response slot outcome) lists = lists
down_steps setup k (Restart lost) lists = starts_anew setup k lost lists

pub step_lists : (setup : Setup) (k : Kept) (input : Input) → ListsRecorded k → ListsRecorded (stepped setup k input).kept
step_lists setup k input lists = either k.up (stepped_up setup k input) (stepped_down setup k input) (up_steps setup k input lists)
    (down_steps setup k input lists)

-- ---- whole runs

-- it is the node that took the step, or another one
one_of : (test : Bool) (one other : Kept) → ListsRecorded one → ListsRecorded other → ListsRecorded (if test then one else other)
one_of true one other first second = first
one_of false one other first second = second

pub lists_reached : (cluster : Cluster) (inputs : List NodeInput) (node : ℕ) → ListsRecorded ((kept_reached cluster inputs).kept node)
lists_reached cluster [] node = opens (setup_of cluster node)
lists_reached cluster (newest ∷ older) node =
    one_of (node == newest.node) (step_at cluster (kept_reached cluster older) newest).kept ((kept_reached cluster older).kept node)
    (step_lists (setup_of cluster newest.node) ((kept_reached cluster older).kept newest.node) newest.input (lists_reached cluster older newest.node))
    (lists_reached cluster older node)
