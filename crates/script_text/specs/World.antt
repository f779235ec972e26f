-- The world of a script, and what a line does there (own).
use Rattle.std.specs.Prelude.{ℕ, zero, suc, pred, ◌==◌, ◌&&◌, ◌||◌, Bool, true, false, not, List, [], ◌∷◌, ◌++◌, find, length, map}
use Rattle.std.specs.Prelude.{reverse, slice_get, slice_set, Option, Some, None, if◌then◌else◌}
use Rattle.std.specs.List.{range_with_len}
use Rattle.mc_model.specs.synod.Packet.{Packet}
use Rattle.mc_model.specs.node.Input.{Crash}
use Rattle.mc_model.specs.cluster.Steps.{setup_of}
use Rattle.node_model.specs.Stepped.{sender_of}
pub use Rattle.node_laws.specs.Clusters.{NodeInput, cluster_with}
use Rattle.script_lines.specs.Said.{is_listed}
use Rattle.script_text.specs.Settings.{Settings}
use Rattle.script_text.specs.Left.{Left, followed_by, rests}
use Rattle.script_text.specs.Node.{Node, opened_by, step_at, with_step}
use Rattle.script_text.specs.Runner.{Runner, Acted, given_out, gone_prints, on_delivery, on_grant, on_octets, on_restart}
use Rattle.script_text.specs.Runner.{on_tick, runner_opened}
use Rattle.script_text.specs.Prints.{WorldPrint, At, Refuses, StopsSettling}

-- Of each node, from the node 1 on, its runner, whose node has no packet to give out between two acts; all packets that were ever sent, the
-- oldest first, numbered from 1; and which of them, by its number, came to which node by any line.
pub record World : Type 0 where
  pub runners : List Runner
  pub packets : List Packet
  pub came : ℕ → ℕ → Bool

-- what a line does to a world
abbrev pub Moved : Type 0
Moved = Left World NodeInput WorldPrint

-- ---- the start

-- The node of a number among so many.
abbrev pub node_opened : Settings → ℕ → ℕ → ℕ → Node
node_opened settings count serial node = opened_by (setup_of (cluster_with count serial settings.validity) node)

-- so many nodes open with new stores, and no session is connected
abbrev pub opened : Settings → ℕ → ℕ → World
opened settings count serial = record {
  runners = map (λ node. runner_opened (node_opened settings count serial node)) (range_with_len 1 count);
  packets = [];
  came = λ number node. false;
}

-- ---- a node of many

-- what a node did: what it sent comes behind all packets
abbrev pub shared : World → ℕ → Acted → Moved
shared world node acted = record {
  next = record world {
    runners = slice_set world.runners (pred node) (given_out acted.next);
    packets = world.packets ++ acted.next.node.packets;
  };
  inputs = map (λ input. record { node = node; input = input }) acted.inputs;
  prints = map (At node) acted.prints;
}

-- the numbers of the refusals: no packet has the number; there is no such node; the node is down
abbrev pub no_packet : ℕ
no_packet = 1

abbrev pub no_node : ℕ
no_node = 2

abbrev pub is_down : ℕ
is_down = 4

abbrev pub refuses : World → ℕ → Moved
refuses world number = record { next = world; inputs = []; prints = Refuses number ∷ [] }

abbrev pub runner_at : World → ℕ → Option Runner
runner_at world node = slice_get world.runners (pred node)

abbrev pub is_up : Runner → Bool
is_up runner = runner.node.kept.up

abbrev pub up_or_refuses : World → (Runner → Moved) → Option Runner → Moved
up_or_refuses world up None = refuses world no_node
up_or_refuses world up (Some runner) = if is_up runner then up runner else refuses world is_down

-- this is done if the node is up
abbrev pub if_up : World → ℕ → (Runner → Moved) → Moved
if_up world node up = up_or_refuses world up (runner_at world node)

-- a node does this, if it is up
abbrev pub acts : World → ℕ → (Runner → Acted) → Moved
acts world node act = if_up world node (λ runner. shared world node (act runner))

-- ---- a restart

abbrev pub restarts_if : World → ℕ → Option Runner → Moved
restarts_if world node None = refuses world no_node
restarts_if world node (Some runner) = shared world node (on_restart runner)

-- a node starts anew, whether it is up or down
abbrev pub restarts : World → ℕ → Moved
restarts world node = restarts_if world node (runner_at world node)

-- ---- a packet comes

-- the packet of a number
abbrev pub packet_of : List Packet → ℕ → Option Packet
packet_of packets zero = None
packet_of packets (suc place) = slice_get packets place

-- it came to a node, which counts for later settles
abbrev pub marked : World → ℕ → ℕ → World
marked world number node = record world { came = λ n m. (n == number && m == node) || world.came n m }

abbrev pub comes_if : World → ℕ → ℕ → Option Packet → Moved
comes_if world number node None = refuses world no_packet
comes_if world number node (Some packet) = if_up world node (λ runner. shared (marked world number node) node (on_delivery runner packet))

-- the packet of a number comes to a node
abbrev pub comes : World → ℕ → ℕ → Moved
comes world number node = comes_if world number node (packet_of world.packets number)

-- ---- a crash

-- The node stops while it saves what comes of a packet. No session is connected any more, and no receipt waits.
abbrev pub crashed : Packet → Bool → Runner → Acted
crashed packet after runner = record {
  next = record { node = with_step runner.node (step_at runner.node (Crash packet after)); sessions = []; streams = []; waiting = [] };
  inputs = Crash packet after ∷ [];
  prints = gone_prints runner.sessions;
}

abbrev pub crashes_if : World → ℕ → Bool → Option Packet → Moved
crashes_if world node after None = refuses world no_packet
crashes_if world node after (Some packet) = acts world node (crashed packet after)

-- the packet of a number comes to a node, which stops; it has not got it
abbrev pub crashes : World → ℕ → ℕ → Bool → Moved
crashes world node number after = crashes_if world node after (packet_of world.packets number)

-- ---- settling

abbrev pub node_numbers : World → List ℕ
node_numbers world = range_with_len 1 (length world.runners)

-- all nodes take part if none is listed
abbrev pub takes_part : List ℕ → ℕ → Bool
takes_part [] node = true
takes_part (first ∷ others) node = is_listed (first ∷ others) node

abbrev pub is_up_at : Option Runner → Bool
is_up_at None = false
is_up_at (Some runner) = is_up runner

-- whether the packet of a number may come to a node that takes part: it is up and has not got it by any line
abbrev pub lacks : World → List ℕ → ℕ → ℕ → Bool
lacks world nodes number node = takes_part nodes node && is_up_at (runner_at world node) && not (world.came number node)

-- the first node that takes part and lacks a packet, if its sender takes part
abbrev pub due_at : World → List ℕ → ℕ → Option Packet → Option ℕ
due_at world nodes number None = None
due_at world nodes number (Some packet) = if takes_part nodes (sender_of packet) then find (lacks world nodes number) (node_numbers world) else None

-- the number of a packet, and a node
pub record Due : Type 0 where
  pub number : ℕ
  pub node : ℕ

abbrev pub due_first : ℕ → Option ℕ → Option Due → Option Due
due_first number None others = others
due_first number (Some node) others = Some (record { number = number; node = node })

-- The first of these packets, by its number, that a node lacks, and the first such node.
unfoldable pub due_among : World → List ℕ → List ℕ → Option Due
due_among world nodes [] = None
due_among world nodes (number ∷ numbers) = due_first number (due_at world nodes number (packet_of world.packets number)) (due_among world nodes numbers)

-- What is due next. During a settle no node starts or stops, and what came has come: so this goes once through the packets, by ascending
-- number and those that are sent meanwhile too, and through the nodes for each of them.
abbrev pub due : World → List ℕ → Option Due
due world nodes = due_among world nodes (range_with_len 1 (length world.packets))

-- how many packets a settle delivers at most (own)
abbrev pub most_deliveries : ℕ
most_deliveries = 100000

abbrev pub unsettled : World → Moved
unsettled world = record { next = world; inputs = []; prints = StopsSettling ∷ [] }

abbrev pub if_due : Moved → (Due → Moved) → Option Due → Moved
if_due none some None = none
if_due none some (Some next) = some next

-- packet after packet comes that is due, so many at most
unfoldable pub settles : ℕ → List ℕ → World → Moved
settles zero nodes world = unsettled world
settles (suc more) nodes world =
    if_due (rests world)
    (λ next. followed_by (comes world next.number next.node) (settles more nodes (comes world next.number next.node).next))
    (due world nodes)

-- ---- a replay

-- the packet of a number comes to a node, unless the node is down
abbrev pub comes_again : World → ℕ → ℕ → Moved
comes_again world number node = if is_up_at (runner_at world node) then comes world number node else rests world

-- to these nodes
unfoldable pub comes_to : ℕ → List ℕ → World → Moved
comes_to number [] world = rests world
comes_to number (node ∷ nodes) world = followed_by (comes_again world number node) (comes_to number nodes (comes_again world number node).next)

-- the packets of these numbers come to all nodes
unfoldable pub all_come : List ℕ → World → Moved
all_come [] world = rests world
all_come (number ∷ numbers) world =
    followed_by (comes_to number (node_numbers world) world) (all_come numbers (comes_to number (node_numbers world) world).next)

-- so many packets come again, from the highest number down, so many times
unfoldable pub replays : ℕ → ℕ → World → Moved
replays zero count world = rests world
replays (suc more) count world =
    followed_by (all_come (reverse (range_with_len 1 count)) world) (replays more count (all_come (reverse (range_with_len 1 count)) world).next)

-- ---- lines

-- the next octets of a session's stream
abbrev pub hears : Settings → World → ℕ → ℕ → List ℕ → Moved
hears settings world node session octets = acts world node (λ runner. on_octets settings runner session octets)

-- a moment has come
abbrev pub ticks : World → ℕ → ℕ → Moved
ticks world node moment = acts world node (λ runner. on_tick runner moment)

-- an attempt is asked for
abbrev pub grants : World → ℕ → ℕ → Moved
grants world node id = acts world node (λ runner. on_grant runner id)

-- what was asked is answered, by these nodes
abbrev pub on_settle : World → List ℕ → Moved
on_settle world nodes = settles most_deliveries nodes world

-- all packets that were sent before come again, so many times
abbrev pub on_replay : World → ℕ → Moved
on_replay world count = replays count (length world.packets) world
