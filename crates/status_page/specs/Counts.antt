-- What is counted of a server and of its nodes: under which names, in which words, and which numbers these are (own).
use Rattle.std.specs.Prelude.{Bool, true, false, ℕ, List, [], ◌∷◌, codes}
use Rattle.status_page.specs.declared.count.Count.{Count}
use Rattle.status_page.specs.declared.count.Count.TheVariants as counts
use Rattle.status_page.specs.declared.node_count.NodeCount.{NodeCount}
use Rattle.status_page.specs.declared.node_count.NodeCount.TheVariants as nodes
use Rattle.status_page.specs.declared.status.Status.{Status}
use Rattle.status_page.specs.declared.status.NodeStatus.{NodeStatus}

-- 1 for what is so
abbrev pub one_if : Bool → ℕ
one_if true = 1
one_if false = 0

abbrev pub count_name : Count → List ℕ
count_name counts.Serving = codes "serving"
count_name counts.Seconds = codes "seconds"
count_name counts.Connections = codes "connections"
count_name counts.Ended = codes "sessions_ended"
count_name counts.Packets = codes "packets"
count_name counts.Parts = codes "journal_parts_closed"
count_name counts.Entries = codes "journal_entries"
count_name counts.ClosedEntries = codes "journal_entries_closed"
count_name counts.Wants = codes "memory_wants"

abbrev pub count_help : Count → List ℕ
count_help counts.Serving = codes "Whether all nodes may be served: 1, or 0"
count_help counts.Seconds = codes "Seconds since the server began"
count_help counts.Connections = codes "Connections that were let in"
count_help counts.Ended = codes "Sessions that ended"
count_help counts.Packets = codes "Packets that nodes sent each other"
count_help counts.Parts = codes "Parts of the journal that were closed"
count_help counts.Entries = codes "Steps in the part of the journal that is open"
count_help counts.ClosedEntries = codes "Steps in the parts of the journal that were closed"
count_help counts.Wants = codes "How often there was not enough memory for what was asked for"

-- whether it only rises
abbrev pub count_rises : Count → Bool
count_rises counts.Serving = false
count_rises counts.Seconds = false
count_rises counts.Connections = true
count_rises counts.Ended = true
count_rises counts.Packets = true
count_rises counts.Parts = true
count_rises counts.Entries = false
count_rises counts.ClosedEntries = true
count_rises counts.Wants = true

abbrev pub count_value : Status → Count → ℕ
count_value status counts.Serving = one_if status.serving
count_value status counts.Seconds = status.seconds
count_value status counts.Connections = status.connections
count_value status counts.Ended = status.ended
count_value status counts.Packets = status.packets
count_value status counts.Parts = status.parts
count_value status counts.Entries = status.entries
count_value status counts.ClosedEntries = status.closed_entries
count_value status counts.Wants = status.wants

-- all of them, in the order in which they are told
abbrev pub all_counts : List Count
all_counts =
    counts.Serving ∷ counts.Seconds ∷ counts.Connections ∷ counts.Ended ∷ counts.Packets ∷ counts.Parts ∷ counts.Entries ∷ counts.ClosedEntries ∷ counts.Wants ∷ []

abbrev pub node_name : NodeCount → List ℕ
node_name nodes.Serving = codes "serving"
node_name nodes.Incarnation = codes "incarnation"
node_name nodes.SerialsLeft = codes "serials_left"
node_name nodes.Unbound = codes "sessions_unbound"
node_name nodes.Transmitters = codes "sessions_transmitter"
node_name nodes.Receivers = codes "sessions_receiver"
node_name nodes.Transceivers = codes "sessions_transceiver"
node_name nodes.Requests = codes "requests_waiting"
node_name nodes.Window = codes "deliveries_unanswered"
node_name nodes.Waiting = codes "messages_waiting"
node_name nodes.Submits = codes "submits"
node_name nodes.Refused = codes "refused"
node_name nodes.Deliveries = codes "deliveries"
node_name nodes.Packets = codes "packets"
node_name nodes.Receipts = codes "receipts"
node_name nodes.Fates = codes "final_states"
node_name nodes.Ticks = codes "ticks"
node_name nodes.TickMilliseconds = codes "tick_milliseconds"

abbrev pub node_help : NodeCount → List ℕ
node_help nodes.Serving = codes "Whether it may be served: 1, or 0"
node_help nodes.Incarnation = codes "Its incarnation"
node_help nodes.SerialsLeft = codes "Serials of messages that its incarnation has left"
node_help nodes.Unbound = codes "Sessions that are not bound"
node_help nodes.Transmitters = codes "Sessions that are bound as transmitter"
node_help nodes.Receivers = codes "Sessions that are bound as receiver"
node_help nodes.Transceivers = codes "Sessions that are bound as transceiver"
node_help nodes.Requests = codes "Requests of ESMEs that wait for an answer"
node_help nodes.Window = codes "deliver_sm that wait for an answer"
node_help nodes.Waiting = codes "Messages that wait for a place in a window"
node_help nodes.Submits = codes "Messages that were taken"
node_help nodes.Refused = codes "Requests that were refused"
node_help nodes.Deliveries = codes "Messages that were sent to ESMEs"
node_help nodes.Packets = codes "Packets that came to it"
node_help nodes.Receipts = codes "Receipts that were sent to ESMEs"
node_help nodes.Fates = codes "Final states that were told"
node_help nodes.Ticks = codes "Ticks"
node_help nodes.TickMilliseconds = codes "Milliseconds that the last tick and its rounds took"

-- whether it only rises
abbrev pub node_rises : NodeCount → Bool
node_rises nodes.Serving = false
node_rises nodes.Incarnation = false
node_rises nodes.SerialsLeft = false
node_rises nodes.Unbound = false
node_rises nodes.Transmitters = false
node_rises nodes.Receivers = false
node_rises nodes.Transceivers = false
node_rises nodes.Requests = false
node_rises nodes.Window = false
node_rises nodes.Waiting = false
node_rises nodes.Submits = true
node_rises nodes.Refused = true
node_rises nodes.Deliveries = true
node_rises nodes.Packets = true
node_rises nodes.Receipts = true
node_rises nodes.Fates = true
node_rises nodes.Ticks = true
node_rises nodes.TickMilliseconds = false

abbrev pub node_value : NodeStatus → NodeCount → ℕ
node_value status nodes.Serving = one_if status.serving
node_value status nodes.Incarnation = status.incarnation
node_value status nodes.SerialsLeft = status.serials_left
node_value status nodes.Unbound = status.unbound
node_value status nodes.Transmitters = status.transmitters
node_value status nodes.Receivers = status.receivers
node_value status nodes.Transceivers = status.transceivers
node_value status nodes.Requests = status.requests
node_value status nodes.Window = status.window
node_value status nodes.Waiting = status.waiting
node_value status nodes.Submits = status.submits
node_value status nodes.Refused = status.refused
node_value status nodes.Deliveries = status.deliveries
node_value status nodes.Packets = status.packets
node_value status nodes.Receipts = status.receipts
node_value status nodes.Fates = status.fates
node_value status nodes.Ticks = status.ticks
node_value status nodes.TickMilliseconds = status.tick_milliseconds

-- all of them, in the order in which they are told
abbrev pub all_nodes : List NodeCount
all_nodes =
    nodes.Serving ∷ nodes.Incarnation ∷ nodes.SerialsLeft ∷ nodes.Unbound ∷ nodes.Transmitters ∷ nodes.Receivers ∷ nodes.Transceivers ∷ nodes.Requests ∷ nodes.Window ∷ nodes.Waiting ∷ nodes.Submits ∷ nodes.Refused ∷ nodes.Deliveries ∷ nodes.Packets ∷ nodes.Receipts ∷ nodes.Fates ∷ nodes.Ticks ∷ nodes.TickMilliseconds ∷ []
