-- What lines answer at once, and which sessions they end.
use Rattle.std.proofs.Common.{◌≡◌, ℕ, ◌≤◌, zero, suc, pred, Bool, true, false, List, [], ◌∷◌, ◌++◌, length, Option, Some, None, refl, sym, ap, subst}
use Rattle.std.proofs.Common.{inl, inr}
use Rattle.std.specs.Prelude.{if◌then◌else◌, reverse}
use Rattle.std.specs.List.{range_with_len}
use Rattle.mc_model.specs.synod.Lists.{In}
use Rattle.mc_model.specs.synod.Packet.{Packet}
use Rattle.mc_parts.proofs.Membership.{in_either}
use Rattle.pdu_bodies.specs.declared.pdu.Pdu.{Pdu}
use Rattle.pdu_frames.specs.Frames.{cut}
use Rattle.script_lines.specs.Said.{Said, Skipped, Nodes, Octets, Deliver, Crash, Tick, Grant, Settle, Restart, Replay, said_within}
use Rattle.script_lines.proofs.SaidLemmas.{spells_within}
use Rattle.script_text.specs.Left.{followed_by, rests}
use Rattle.script_text.specs.Prints.{AtOnce, Gone, Print}
use Rattle.script_text.specs.Runner.{Acted, Runner, given_out, held_in, on_delivery, on_grant, on_octets, on_restart, on_tick}
use Rattle.script_text.specs.Settings.{Settings}
use Rattle.script_text.specs.Prints.{At}
use Rattle.script_text.specs.Script.{Stepped, moved_by, step_by, step_of, stepped}
use Rattle.script_text.specs.World.{most_deliveries}
use Rattle.script_text.specs.World.{Due, Moved, World, all_come, comes, comes_again, comes_if, comes_to, crashed, crashes, crashes_if, due, grants, hears}
use Rattle.script_text.specs.World.{if_due, if_up, is_down, is_up, is_up_at, marked, no_node, no_packet, node_numbers, on_replay, on_settle, packet_of}
use Rattle.script_text.specs.World.{refuses, replays, restarts, restarts_if, runner_at, settles, shared, ticks, unsettled, up_or_refuses}
use Rattle.world_fates.proofs.Places.{set_cases}
use Rattle.world_fates.proofs.Entries.{Has}
use Rattle.world_fates.proofs.Lines.{AreSound, printed_at}
use Rattle.world_fates.proofs.Asking.{IsQuiet}
use Rattle.world_fates.proofs.Ending.{AreQuiet, Ends, OfOctets, all_ends, delivery_quiet, grant_quiet, octets_end, restart_ends, tick_quiet}

-- ---- what neither answers at once nor ends a session

abbrev MovesQuietly : Moved → Type 0
MovesQuietly moved = (node : ℕ) (print : Print) → In (At node print) moved.prints → IsQuiet print

stays_quietly : (world : World) → MovesQuietly (rests world)
stays_quietly world node print among = absurd among

refuses_quietly : (world : World) (number : ℕ) → MovesQuietly (refuses world number)
refuses_quietly world number node print (inl same) = absurd cc
refuses_quietly world number node print (inr none) = absurd none

unsettled_quietly : (world : World) → MovesQuietly (unsettled world)
unsettled_quietly world node print (inl same) = absurd cc
unsettled_quietly world node print (inr none) = absurd none

then_quietly : (one other : Moved) → MovesQuietly one → MovesQuietly other → MovesQuietly (followed_by one other)
then_quietly one other first last node print among = elim (in_either (At node print) one.prints other.prints among) [
  | inl here ↦ first node print here
  | inr there ↦ last node print there
]

shared_quietly : (world : World) (node : ℕ) (acted : Acted) → AreQuiet acted.prints → MovesQuietly (shared world node acted)
shared_quietly world node acted quiet other print among = quiet print (printed_at node other acted.prints print among).1

if_up_quietly : (world : World) (node : ℕ) (up : Runner → Moved) → ((runner : Runner) → MovesQuietly (up runner)) → MovesQuietly (if_up world node up)
if_up_quietly world node up so = by_runner (runner_at world node)
  where
    by_test : (runner : Runner) (test : Bool) → MovesQuietly (if test then up runner else refuses world is_down)
    by_test runner true = so runner
    by_test runner false = refuses_quietly world is_down

    by_runner : (found : Option Runner) → MovesQuietly (up_or_refuses world up found)
    by_runner None = refuses_quietly world no_node
    by_runner (Some runner) = by_test runner (is_up runner)

comes_quietly : (world : World) (number node : ℕ) → MovesQuietly (comes world number node)
comes_quietly world number node = by_packet (packet_of world.packets number)
  where
    by_packet : (found : Option Packet) → MovesQuietly (comes_if world number node found)
    by_packet None = refuses_quietly world no_packet
    by_packet (Some packet) =
        if_up_quietly world node (λ runner. shared (marked world number node) node (on_delivery runner packet))
        (λ runner. shared_quietly (marked world number node) node (on_delivery runner packet) (delivery_quiet runner packet))

comes_again_quietly : (world : World) (number node : ℕ) → MovesQuietly (comes_again world number node)
comes_again_quietly world number node = by_test (is_up_at (runner_at world node))
  where
    by_test : (up : Bool) → MovesQuietly (if up then comes world number node else rests world)
    by_test true = comes_quietly world number node
    by_test false = stays_quietly world

settles_quietly : (more : ℕ) (nodes : List ℕ) (world : World) → MovesQuietly (settles more nodes world)
unfolding settles
settles_quietly zero nodes world = unsettled_quietly world
settles_quietly (suc more) nodes world = by_due (due world nodes) (settles_quietly more nodes)
  where
    then_settles : Due → Moved
    then_settles next = followed_by (comes world next.number next.node) (settles more nodes (comes world next.number next.node).next)

    by_due : (next : Option Due) → ((other : World) → MovesQuietly (settles more nodes other)) → MovesQuietly (if_due (rests world) then_settles next)
    by_due None others = stays_quietly world
    by_due (Some next) others =
        let one = comes world next.number next.node in
        then_quietly one (settles more nodes one.next) (comes_quietly world next.number next.node) (others one.next)

comes_to_quietly : (number : ℕ) (nodes : List ℕ) (world : World) → MovesQuietly (comes_to number nodes world)
unfolding comes_to
comes_to_quietly number [] world = stays_quietly world
comes_to_quietly number (node ∷ nodes) world =
    let one = comes_again world number node in
    then_quietly one (comes_to number nodes one.next) (comes_again_quietly world number node) (comes_to_quietly number nodes one.next)

all_come_quietly : (numbers : List ℕ) (world : World) → MovesQuietly (all_come numbers world)
unfolding all_come
all_come_quietly [] world = stays_quietly world
all_come_quietly (number ∷ numbers) world =
    let one = comes_to number (node_numbers world) world in
    then_quietly one (all_come numbers one.next) (comes_to_quietly number (node_numbers world) world) (all_come_quietly numbers one.next)

replays_quietly : (more count : ℕ) (world : World) → MovesQuietly (replays more count world)
unfolding replays
replays_quietly zero count world = stays_quietly world
replays_quietly (suc more) count world =
    let one = all_come (reverse (range_with_len 1 count)) world in
    then_quietly one (replays more count one.next) (all_come_quietly (reverse (range_with_len 1 count)) world) (replays_quietly more count one.next)

-- ---- what does

-- so is what is answered at once, and a session that is gone is connected no longer
record MovesEnd (Once : ℕ → ℕ → Pdu → Type 0) (moved : Moved) : Type 0 where
  once : (node session : ℕ) (pdu : Pdu) → In (At node (AtOnce session pdu)) moved.prints → Once node session pdu
  gone : (node : ℕ) → 1 ≤ node → (session : ℕ) → In (At node (Gone session)) moved.prints → (runner : Runner) → runner_at moved.next node ≡ Some runner →
      Has runner.sessions session → ⊥

quietly_end : (Once : ℕ → ℕ → Pdu → Type 0) (moved : Moved) → MovesQuietly moved → MovesEnd Once moved
quietly_end Once moved quiet = record {
  once = λ node session pdu among. absurd ((quiet node (AtOnce session pdu) among).once session pdu refl);
  gone = λ node least session among runner is has. (quiet node (Gone session) among).gone session refl;
}

shared_end : (Once : ℕ → ℕ → Pdu → Type 0) (world : World) (node : ℕ) → 1 ≤ node → (acted : Acted) → Ends (Once node) acted →
    MovesEnd Once (shared world node acted)
shared_end Once world node least acted ends = record {
  once = λ other session pdu among.
      let it = printed_at node other acted.prints (AtOnce session pdu) among in
      subst (λ (n : ℕ). Once n session pdu) (sym it.0) (ends.once session pdu it.1);
  gone = λ other first session among runner is has.
      let it = printed_at node other acted.prints (Gone session) among in
      elim (set_cases world.runners (pred node) (given_out acted.next) (pred other) runner is) [
        | inl here ↦ ends.gone session it.1 (subst (λ (r : Runner). Has r.sessions session) here.1 has)
        | inr apart ↦ apart.1 (ap pred it.0)
      ];
}

if_up_end : (Once : ℕ → ℕ → Pdu → Type 0) (world : World) (node : ℕ) (up : Runner → Moved) →
    ((runner : Runner) → runner_at world node ≡ Some runner → MovesEnd Once (up runner)) → MovesEnd Once (if_up world node up)
if_up_end Once world node up so = by_runner (runner_at world node) refl
  where
    by_test : (runner : Runner) → runner_at world node ≡ Some runner → (test : Bool) →
        MovesEnd Once (if test then up runner else refuses world is_down)
    by_test runner is true = so runner is
    by_test runner is false = quietly_end Once (refuses world is_down) (refuses_quietly world is_down)

    by_runner : (found : Option Runner) → runner_at world node ≡ found → MovesEnd Once (up_or_refuses world up found)
    by_runner None is = quietly_end Once (refuses world no_node) (refuses_quietly world no_node)
    by_runner (Some runner) is = by_test runner is (is_up runner)

-- ---- lines

-- Octets come by a line on a session of a node, and it was answered at once to a frame that ends in them, or tells of a wrong length.
pub record OfLine (settings : Settings) (world : World) (line : List ℕ) (node session : ℕ) (pdu : Pdu) : Type 0 where
  pub octets : List ℕ
  pub says : said_within (length world.runners) line ≡ Some (Octets node session octets)
  pub runner : Runner
  pub there : runner_at world node ≡ Some runner
  pub of : OfOctets settings session (cut (held_in runner.streams session ++ octets)).frames session pdu

pub record LineEnds (settings : Settings) (world : World) (line : List ℕ) (done : Stepped) : Type 0 where
  pub next : World
  pub stage_is : done.next ≡ Some next
  pub once : (node session : ℕ) (pdu : Pdu) → In (At node (AtOnce session pdu)) done.prints → OfLine settings world line node session pdu
  pub gone : (node : ℕ) → 1 ≤ node → (session : ℕ) → In (At node (Gone session)) done.prints → (runner : Runner) → runner_at next node ≡ Some runner →
      Has runner.sessions session → ⊥

module _ (settings : Settings) (world : World) (sound : AreSound world) (line : List ℕ) where
  abbrev Once : ℕ → ℕ → Pdu → Type 0
  Once = OfLine settings world line

  hears_end : (node session : ℕ) (octets : List ℕ) → 1 ≤ node → said_within (length world.runners) line ≡ Some (Octets node session octets) →
      MovesEnd Once (hears settings world node session octets)
  hears_end node session octets least says =
      if_up_end Once world node (λ runner. shared world node (on_octets settings runner session octets))
      (λ runner is.
      let it = (octets_end settings runner session octets (sound node least runner is)).ends in
      shared_end Once world node least (on_octets settings runner session octets) (record {
        once = λ other pdu among.
            let of = it.once other pdu among in
            subst (λ (n : ℕ). Once node n pdu) (sym of.0) (record {
              octets = octets;
              says = says;
              runner = runner;
              there = is;
              of = (refl, of.1);
            });
        gone = it.gone;
      }))

  restarts_end : (node : ℕ) → 1 ≤ node → MovesEnd Once (restarts world node)
  restarts_end node least = by_runner (runner_at world node)
    where
      by_runner : (found : Option Runner) → MovesEnd Once (restarts_if world node found)
      by_runner None = quietly_end Once (refuses world no_node) (refuses_quietly world no_node)
      by_runner (Some runner) = shared_end Once world node least (on_restart runner) (restart_ends (Once node) runner)

  crashes_end : (node number : ℕ) (after : Bool) → 1 ≤ node → MovesEnd Once (crashes world node number after)
  crashes_end node number after least = by_packet (packet_of world.packets number)
    where
      by_packet : (found : Option Packet) → MovesEnd Once (crashes_if world node after found)
      by_packet None = quietly_end Once (refuses world no_packet) (refuses_quietly world no_packet)
      by_packet (Some packet) =
          if_up_end Once world node (λ runner. shared world node (crashed packet after runner))
          (λ runner is.
          shared_end Once world node least (crashed packet after runner)
          (all_ends (Once node) (crashed packet after runner) runner.sessions refl refl))

  does_end : (moved : Moved) (done : Stepped) → stepped moved ≡ Some done → MovesEnd Once moved → LineEnds settings world line done
  does_end moved done is it =
      subst (LineEnds settings world line) (the_same (record { next = Some moved.next; inputs = moved.inputs; prints = moved.prints }) done is)
      (record { next = moved.next; stage_is = refl; once = it.once; gone = it.gone })
    where
      the_same : (one other : Stepped) → Some one ≡ Some other → one ≡ other
      the_same one other is = cc

  said_end : (said : Said) (done : Stepped) → said_within (length world.runners) line ≡ Some said → moved_by settings world said ≡ Some done →
      LineEnds settings world line done
  said_end Skipped done says is = does_end (rests world) done is (quietly_end Once (rests world) (stays_quietly world))
  said_end (Nodes count serial) done says is = absurd cc
  said_end (Octets node session octets) done says is =
      let least = (spells_within (length world.runners) line (Octets node session octets) says).wording.0.least in
      does_end (hears settings world node session octets) done is (hears_end node session octets least says)
  said_end (Deliver number node) done says is =
      does_end (comes world number node) done is (quietly_end Once (comes world number node) (comes_quietly world number node))
  said_end (Crash node number after) done says is =
      let least = (spells_within (length world.runners) line (Crash node number after) says).wording.0.least in
      does_end (crashes world node number after) done is (crashes_end node number after least)
  said_end (Tick node moment) done says is =
      does_end (ticks world node moment) done is (quietly_end Once (ticks world node moment)
      (if_up_quietly world node (λ runner. shared world node (on_tick runner moment))
      (λ runner. shared_quietly world node (on_tick runner moment) (tick_quiet runner moment))))
  said_end (Grant node id) done says is =
      does_end (grants world node id) done is (quietly_end Once (grants world node id)
      (if_up_quietly world node (λ runner. shared world node (on_grant runner id))
      (λ runner. shared_quietly world node (on_grant runner id) (grant_quiet runner id))))
  said_end (Settle nodes) done says is =
      does_end (on_settle world nodes) done is (quietly_end Once (on_settle world nodes) (settles_quietly most_deliveries nodes world))
  said_end (Restart node) done says is =
      let least = (spells_within (length world.runners) line (Restart node) says).wording.0.least in
      does_end (restarts world node) done is (restarts_end node least)
  said_end (Replay count) done says is =
      does_end (on_replay world count) done is (quietly_end Once (on_replay world count) (replays_quietly count (length world.packets) world))

  pub line_ends : (done : Stepped) → step_of settings (Some world) line ≡ Some done → LineEnds settings world line done
  unfolding step_of
  line_ends done is = by_said (said_within (length world.runners) line) refl is
    where
      by_said : (said : Option Said) → said_within (length world.runners) line ≡ said → step_by settings (Some world) said ≡ Some done →
          LineEnds settings world line done
      by_said None says is = absurd cc
      by_said (Some said) says is = said_end said done says is
