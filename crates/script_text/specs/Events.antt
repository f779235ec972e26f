-- What happens at one node by the lines of a script, if no line is bad, each PDU has the length that it says, and the node does not start anew.
use Rattle.std.specs.Prelude.{ℕ, List, [], ◌∷◌, ◌++◌, map, Option, Some, None, option_map, if◌then◌else◌}
use Rattle.std.specs.Ordering.{nat_cmp}
use Rattle.std.specs.BTreeMap.{insert_entry}
use Rattle.pdu_frames.specs.Frames.{Cut, cut, begins_wrong}
use Rattle.script_lines.specs.Lines.{lines_of}
use Rattle.script_lines.specs.Said.{Said, Skipped, Nodes, Octets, Deliver, Crash, Tick, Grant, Settle, Restart, Replay, said_within}
use Rattle.script_text.specs.Runner.{held_in}

pub data Event : Type 0 where
  -- the octets of one frame come on a session
  Comes : ℕ → List ℕ → Event
  -- a moment has come
  Ticks : ℕ → Event
  -- the attempt of the message of this id is asked for
  Grants : ℕ → Event
  -- all that was asked is answered
  Settles : Event

-- what happens by a line, and for each session the octets that wait then for more
pub record Heard : Type 0 where
  pub events : List Event
  pub streams : List (ℕ × List ℕ)

-- the frames of a session's stream, unless a length in it is wrong
abbrev pub heard_of : List (ℕ × List ℕ) → ℕ → Cut → Option Heard
heard_of streams number stream =
    if begins_wrong stream.rest then None
    else Some (record { events = map (Comes number) stream.frames; streams = insert_entry nat_cmp streams number stream.rest })

abbrev pub heard_by : List (ℕ × List ℕ) → Option Said → Option Heard
heard_by streams None = None
heard_by streams (Some Skipped) = Some (record { events = []; streams = streams })
heard_by streams (Some (Nodes count serial)) = None
heard_by streams (Some (Octets node number octets)) = heard_of streams number (cut (held_in streams number ++ octets))
heard_by streams (Some (Deliver number node)) = None
heard_by streams (Some (Crash node number after)) = None
heard_by streams (Some (Tick node moment)) = Some (record { events = Ticks moment ∷ []; streams = streams })
heard_by streams (Some (Grant node id)) = Some (record { events = Grants id ∷ []; streams = streams })
heard_by streams (Some (Settle nodes)) = Some (record { events = Settles ∷ []; streams = streams })
heard_by streams (Some (Restart node)) = None
heard_by streams (Some (Replay count)) = None

abbrev pub and_then : Option Heard → (Heard → Option (List Event)) → Option (List Event)
and_then None later = None
and_then (Some heard) later = option_map (λ events. heard.events ++ events) (later heard)

-- what happens by lines, which are neither bad nor `nodes`
unfoldable pub events_from : List (ℕ × List ℕ) → List (List ℕ) → Option (List Event)
events_from streams [] = Some []
events_from streams (line ∷ lines) = and_then (heard_by streams (said_within 1 line)) (λ heard. events_from heard.streams lines)

-- the serial of the first message, and what happens then
pub record Play : Type 0 where
  pub serial : ℕ
  pub events : List Event

abbrev pub play_from : Option Said → List (List ℕ) → Option Play → Option Play
play_from (Some Skipped) lines others = others
play_from (Some (Nodes count serial)) lines others = option_map (λ events. record { serial = serial; events = events }) (events_from [] lines)
play_from other lines others = None

-- The first line that says something is `nodes`.
unfoldable pub play_of_lines : List (List ℕ) → Option Play
play_of_lines [] = None
play_of_lines (line ∷ lines) = play_from (said_within 1 line) lines (play_of_lines lines)

abbrev pub play_of : List ℕ → Option Play
play_of script = play_of_lines (lines_of script)
