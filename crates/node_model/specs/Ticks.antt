-- What a node does with a request that comes, and at a tick.
use Rattle.std.specs.Prelude.{ℕ, suc, pred, ◌+◌, max, Bool, ◌==◌, not, nat_le, List, [], ◌∷◌, ◌++◌, filter, map, Option, Some, None, if◌then◌else◌}
use Rattle.std.specs.Ordering.{nat_cmp}
use Rattle.std.specs.Map.{keys_of}
use Rattle.std.specs.BTreeSet.{insert_key}
use Rattle.mc_model.specs.synod.Packet.{Ask, Packet}
use Rattle.mc_model.specs.node.Actor.{Request, id_in}
use Rattle.mc_model.specs.node.Effect.{next_serial}
use Rattle.mc_model.specs.node.FirstRule.{GiveUp, Rule}
use Rattle.mc_model.specs.node.Outcome.{Unanswered, no_session_error}
use Rattle.mc_model.specs.node.Outputs.{Reply}
use Rattle.mc_model.specs.node.Replies.{TooLate, longest_wait}
use Rattle.mc_model.specs.node.Reach.{Reach}
use Rattle.mc_model.specs.node.Setup.{Setup}
use Rattle.node_model.specs.Message.{Message}
use Rattle.node_model.specs.Kept.{Held, Kept, message_at, name_at, with_message}
use Rattle.node_model.specs.Proposer.{Prepared, started}
use Rattle.node_model.specs.Requests.{asks, begun, id_of, is_untold, ticket_of}
use Rattle.node_model.specs.Starts.{take_for}
use Rattle.node_model.specs.Rules.{Fitting, first_rule}
use Rattle.node_model.specs.Outputs.{Stepped, nothing, sends}

-- ---- a request comes

abbrev pub question : Setup → Kept → Held → Packet
question setup k h = Ask setup.node (id_of h) (name_at setup k (ticket_of h))

abbrev pub waits_too : Kept → Request → Held → Kept
waits_too k request new = record k { serial = next_serial request k.serial; ticket = suc k.ticket; held = k.held ++ new ∷ [] }

abbrev pub begun_with : Setup → Kept → Held → Prepared → Stepped
begun_with setup k new prepared = record {
  kept = prepared.kept;
  outputs = record nothing {
    ticket = Some k.ticket;
    packets = (if asks new.waiting.request then question setup k new ∷ [] else []) ++ prepared.packets;
  };
}

abbrev pub begins : Setup → Kept → Request → Held → Stepped
begins setup k request new =
    begun_with setup k new (started setup (waits_too k request new) (id_in request) (take_for setup k new request))

abbrev pub on_arrival : Setup → Kept → Request → Stepped
on_arrival setup k request = begins setup k request (begun k.ticket k.clock request)

-- ---- a tick

-- requests that waited too long are answered so, by ascending tickets
abbrev pub is_late : ℕ → Held → Bool
is_late clock h = nat_le (h.waiting.since + longest_wait) clock

abbrev pub late_reply : Held → Reply
late_reply h = record { ticket = ticket_of h; id = id_of h; answer = TooLate }

-- the clock rises, they are gone, and no round runs
abbrev pub without_round : ℕ × Message → ℕ × Message
without_round entry = (entry.0, record entry.1 { round = None })

abbrev pub ticked : Kept → ℕ → Kept
ticked k clock = record k {
  clock = clock;
  held = filter (λ h. not (is_late clock h)) k.held;
  messages = map without_round k.messages;
}

-- the messages that are kept, and those of which a request asks, by ascending ids
abbrev pub ids_with : List Held → List ℕ → List ℕ
ids_with [] ids = ids
ids_with (h ∷ others) ids = insert_key nat_cmp (ids_with others ids) (id_of h)

abbrev pub ids_of : Kept → List ℕ
ids_of k = ids_with k.held (keys_of k.messages)

-- an attempt that is given up is closed
abbrev pub abandoned : Kept → ℕ → ℕ → Kept
abandoned k id place = with_message k id (record (message_at k id) {
  closed = λ other. if other == place then Some (Unanswered no_session_error) else (message_at k id).closed other;
})

abbrev pub given_up : Rule → Kept → ℕ → ℕ → Kept
given_up GiveUp k id place = abandoned k id place
given_up rule k id place = k

-- the first rule that fits starts a round, for each message
abbrev pub ruled : Setup → Kept → ℕ → Option Fitting → Prepared
ruled setup k id None = started setup k id None
ruled setup k id (Some fit) = started setup (given_up fit.rule k id (pred fit.start.place)) id (Some fit.start)

abbrev pub and_then : Prepared → Prepared → Prepared
and_then first others = record { kept = others.kept; packets = first.packets ++ others.packets }

abbrev pub ruled_each : Setup → Reach → List ℕ → Kept → Prepared
ruled_each setup reach [] k = record { kept = k; packets = [] }
ruled_each setup reach (id ∷ others) k =
    let first : Prepared = ruled setup k id (first_rule setup k reach id) in and_then first (ruled_each setup reach others first.kept)

abbrev pub asked_again : Setup → Kept → List Packet
asked_again setup k = map (question setup k) (filter (is_untold setup.nodes) k.held)

abbrev pub rules_then : Setup → Kept → List Reply → Prepared → Stepped
rules_then setup k late prepared = sends prepared.kept (asked_again setup k ++ prepared.packets) late []

abbrev pub tick_then : Setup → Kept → Reach → List Reply → Stepped
tick_then setup k reach late = rules_then setup k late (ruled_each setup reach (ids_of k) k)

abbrev pub on_tick : Setup → Kept → ℕ → Reach → Stepped
on_tick setup k moment reach =
    tick_then setup (ticked k (max k.clock moment)) reach (map late_reply (filter (is_late (max k.clock moment)) k.held))
