-- What a node does with a packet that comes to it.
use Rattle.std.specs.Prelude.{ℕ, Bool, true, ◌==◌, ◌&&◌, ◌||◌, not, nat_le, nat_lt, List, [], ◌∷◌, filter, map, Option, Some, None, if◌then◌else◌}
use Rattle.std.specs.Option.{option_or}
use Rattle.mc_model.specs.message.Ids.{incarnation_of, node_of, serial_of}
use Rattle.mc_model.specs.message.Decree.{Decree}
use Rattle.mc_model.specs.synod.OneSlot.{Vote}
use Rattle.mc_model.specs.synod.Packet.{Ask, Name, Packet, Prepare, Promise, Propose, Refused, Slot, Tell, TopVote, Voted, same_slot, slot_of}
use Rattle.mc_model.specs.node.Replies.{Answer}
use Rattle.mc_model.specs.node.Setup.{Setup}
use Rattle.node_model.specs.Message.{Message, Round}
use Rattle.node_model.specs.Kept.{Held, Kept, message_at, saved, with_message}
use Rattle.node_model.specs.Acceptor.{Judgement, prepare_judged, propose_judged, told_of}
use Rattle.node_model.specs.Learner.{heard, makes_known}
use Rattle.node_model.specs.Proposer.{Prepared, Start, completes, is_own_ballot, offered, promised_by, refused, runs_at, started, unless_reached}
use Rattle.node_model.specs.Requests.{held_at, id_of, settled_by, settles, ticket_of, told_by, with_held}
use Rattle.node_model.specs.Answers.{answer_to, receipts_of, replied, replies_to, still_waits}
use Rattle.node_model.specs.Starts.{delete_for, follow_told, tell_for}
use Rattle.node_model.specs.Outputs.{Stepped, leaves, sends}

-- ---- as an acceptor

abbrev pub judged : Kept → Slot → Judgement → Stepped
judged k slot judgement = sends (saved k slot judgement.after) (judgement.answer ∷ []) [] []

abbrev pub on_prepare : Setup → Kept → Slot → ℕ → Stepped
on_prepare setup k slot ballot = judged k slot (prepare_judged setup.node slot ballot (k.records slot))

abbrev pub on_propose : Setup → Kept → Slot → Vote → Stepped
on_propose setup k slot vote = judged k slot (propose_judged setup.node slot vote (k.records slot))

abbrev pub on_ask : Setup → Kept → ℕ → Name → Stepped
on_ask setup k id name = sends k (Tell setup.node name (told_of k.records id) ∷ []) [] []

-- ---- as a proposer

-- a promise for the round that runs is counted, and the one that completes a majority is followed by the Propose
abbrev pub proposals : Setup → Round → ℕ → Option Vote → List Packet
proposals setup r sender report =
    if completes setup.nodes r sender then Propose setup.node r.slot (offered (promised_by r sender report)) ∷ [] else []

abbrev pub promised_in : Setup → Kept → Message → Option Round → ℕ → Slot → ℕ → Option Vote → Stepped
promised_in setup k m None sender slot ballot report = leaves k
promised_in setup k m (Some r) sender slot ballot report =
    if runs_at (Some r) slot ballot
    then sends (with_message k slot.id (record m { round = Some (promised_by r sender report) })) (proposals setup r sender report) [] []
    else leaves k

abbrev pub on_promise : Setup → Kept → ℕ → Slot → ℕ → Option Vote → Stepped
on_promise setup k sender slot ballot report =
    promised_in setup k (message_at k slot.id) (message_at k slot.id).round sender slot ballot report

abbrev pub on_refused : Setup → Kept → Slot → ℕ → ℕ → Stepped
on_refused setup k slot ballot promised =
    if is_own_ballot setup k ballot
    then leaves (with_message k slot.id (refused (message_at k slot.id) slot ballot promised))
    else leaves k

-- ---- as a learner

-- a chain becomes known: requests are settled and answered, a deletion is started, or that a receipt is told, and a receipt is due
abbrev pub known_then : Message → List Decree → Message
known_then m chain = record m { known = Some chain; round = unless_reached chain m.round }

abbrev pub settled_for : ℕ → ℕ → List Decree → Held → Held
settled_for nodes id chain h = if id_of h == id then settled_by nodes (Some chain) h else h

abbrev pub answered_then : Setup → Kept → ℕ → Option (List Decree) → List Decree → Prepared → Stepped
answered_then setup k id before chain prepared =
    sends
    (record prepared.kept { held = filter (still_waits setup.nodes (Some chain) id) k.held })
    prepared.packets
    (replies_to setup.nodes (Some chain) id k.held)
    (receipts_of setup.node k.incarnation id before chain)

abbrev pub start_known : Setup → Kept → ℕ → Option (List Decree) → List Decree → Option Start
start_known setup k id before chain = option_or (delete_for setup k id k.held (Some chain)) (tell_for setup k before chain)

abbrev pub started_then : Setup → Kept → ℕ → Option (List Decree) → List Decree → Stepped
started_then setup k id before chain = answered_then setup k id before chain (started setup k id (start_known setup k id before chain))

abbrev pub on_known : Setup → Kept → ℕ → Message → List Decree → Stepped
on_known setup k id m chain =
    started_then
    setup
    (record (with_message k id (known_then m chain)) { held = map (settled_for setup.nodes id chain) k.held })
    id
    m.known
    chain

abbrev pub heard_in : Setup → Kept → ℕ → Message → Vote → Stepped
heard_in setup k id m vote =
    if makes_known setup.nodes m vote then on_known setup k id m vote.chain else leaves (with_message k id m)

abbrev pub on_voted : Setup → Kept → ℕ → Slot → Vote → Stepped
on_voted setup k voter slot vote = heard_in setup k slot.id (heard (message_at k slot.id) voter vote) vote

-- ---- for a request that waits

-- what is told is told of its message
abbrev pub tells_about : Option TopVote → ℕ → Bool
tells_about None id = true
tells_about (Some told) id = told.id == id

-- a request that this settles may delete its message; one to which a majority told of more has it followed
abbrev pub start_told : Setup → Kept → Option (List Decree) → Held → Held → Option Start
start_told setup k known told new =
    if settles setup.nodes known told
    then delete_for setup k (id_of new) (new ∷ []) known
    else follow_told setup.nodes known new

abbrev pub answer_told : Prepared → Held → Option Answer → Stepped
answer_told prepared new None = sends prepared.kept prepared.packets [] []
answer_told prepared new (Some answer) =
    sends
    (record prepared.kept { held = filter (λ h. not (ticket_of h == ticket_of new)) prepared.kept.held })
    prepared.packets
    (replied new (Some answer) [])
    []

abbrev pub settled_told : Setup → Kept → Option (List Decree) → Held → Held → Stepped
settled_told setup k known told new =
    answer_told
    (started setup (record k { held = with_held k.held new }) (id_of new) (start_told setup k known told new))
    new
    (answer_to setup.nodes known new)

abbrev pub told_to : Setup → Kept → Option (List Decree) → Held → Stepped
told_to setup k known told = settled_told setup k known told (settled_by setup.nodes known told)

abbrev pub tell_held : Setup → Kept → ℕ → Option TopVote → Option Held → Stepped
tell_held setup k teller told None = leaves k
tell_held setup k teller told (Some h) =
    if tells_about told (id_of h) then told_to setup k (message_at k (id_of h)).known (told_by h teller told) else leaves k

abbrev pub is_own_name : Setup → Kept → Name → Bool
is_own_name setup k name = (name.node == setup.node) && (name.incarnation == k.incarnation)

abbrev pub on_tell : Setup → Kept → ℕ → Name → Option TopVote → Stepped
on_tell setup k teller name told =
    if is_own_name setup k name then tell_held setup k teller told (held_at k.held name.ticket) else leaves k

-- ---- what concerns it

abbrev pub is_member : Setup → ℕ → Bool
is_member setup sender = nat_le 1 sender && nat_le sender setup.nodes

-- a message that the node took has a serial that was given
abbrev pub was_given : Kept → ℕ → Bool
was_given k id =
    nat_lt (incarnation_of id) k.incarnation || ((incarnation_of id == k.incarnation) && nat_lt (serial_of id) k.serial)

abbrev pub vote_concerns : Setup → Kept → Slot → Vote → Bool
vote_concerns setup k slot vote =
    same_slot slot (slot_of slot.id vote.chain) && (not (node_of slot.id == setup.node) || was_given k slot.id)

abbrev pub if_member : Setup → Kept → ℕ → Stepped → Stepped
if_member setup k sender step = if is_member setup sender then step else leaves k

abbrev pub on_packet : Setup → Kept → Packet → Stepped
on_packet setup k (Prepare sender slot ballot) = if_member setup k sender (on_prepare setup k slot ballot)
on_packet setup k (Promise sender slot ballot report) = if_member setup k sender (on_promise setup k sender slot ballot report)
on_packet setup k (Propose sender slot vote) = if_member setup k sender (on_propose setup k slot vote)
on_packet setup k (Voted sender slot vote) =
    if_member setup k sender (if vote_concerns setup k slot vote then on_voted setup k sender slot vote else leaves k)
on_packet setup k (Refused sender slot ballot promised) = if_member setup k sender (on_refused setup k slot ballot promised)
on_packet setup k (Ask sender id name) = if_member setup k sender (on_ask setup k id name)
on_packet setup k (Tell sender name told) = if_member setup k sender (on_tell setup k sender name told)
