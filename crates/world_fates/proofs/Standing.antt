-- Each node of a script, and all packets, are exactly where inputs lead a cluster; and of a message no more receipts wait and are printed than it gives out.
use Rattle.std.proofs.Common.{◌≡◌, ℕ, ◌+◌, ◌≤◌, zero, suc, pred, Bool, true, false, cond, List, [], ◌∷◌, ◌++◌, length, map, Option, Some, None, refl}
use Rattle.std.proofs.Common.{sym, ap, subst, ◌∙◌, append_assoc, append-nil, inl, inr, arith}
use Rattle.std.specs.Prelude.{count_by, if◌then◌else◌, reverse, slice_get, slice_set}
use Rattle.std.specs.List.{range_with_len, sum_by}
use Rattle.std.proofs.lemmas.Grind.{reverse_onto}
use Rattle.std.proofs.lemmas.List.{length-set, reverse-append}
use Rattle.std.proofs.lemmas.List.Sums.{sum_by-append, sum_by-cons}
use Rattle.mc_model.specs.synod.Lists.{In}
use Rattle.mc_model.specs.synod.Packet.{Packet}
use Rattle.mc_model.specs.node.Input.{Crash, Input}
use Rattle.mc_model.specs.cluster.Steps.{Cluster, setup_of as cluster_setup}
use Rattle.mc_laws.proofs.invariant.Growth.{changed_here}
use Rattle.node_model.specs.Outputs.{Stepped as NodeStep}
use Rattle.node_model.specs.Stepped.{stepped as node_stepped}
use Rattle.node_laws.specs.Clusters.{MayHappen, NodeInput, cluster_outputs, cluster_with, kept_reached, receipts_given}
use Rattle.node_laws.proofs.cluster.OneReceipt.{count_both, count_of, one_of_each}
use Rattle.script_lines.specs.Lines.{lines_of}
use Rattle.script_lines.specs.Said.{Said, Skipped, Nodes, Octets, Deliver, Crash as Crashes, Tick, Grant, Settle, Restart, Replay, said_within}
use Rattle.script_lines.proofs.SaidLemmas.{spells_within}
use Rattle.script_text.specs.Left.{followed_by, rests}
use Rattle.script_text.specs.Node.{Node, awaiting, step_at, with_step}
use Rattle.script_text.specs.Runner.{Acted, Runner, given_out, on_delivery, on_grant, on_octets, on_restart, on_tick, runner_opened}
use Rattle.script_text.specs.Settings.{Settings, script_settings}
use Rattle.script_text.proofs.Opening.{opened_count, opened_there}
use Rattle.script_text.proofs.Going.{IsGoing, delivery_goes, grant_goes, octets_go, restart_goes, tick_goes}
use Rattle.script_text.specs.Prints.{At, Print, Refuses, StopsSettling, WorldPrint}
use Rattle.script_text.specs.Runs.{IsNodeOf, StandsFor}
use Rattle.script_text.specs.Script.{Joins, Stage, Stepped, moved_by, prints_of, step_by, step_of, stepped}
use Rattle.script_text.specs.World.{most_deliveries}
use Rattle.script_text.specs.World.{Due, Moved, World, acts, all_come, comes, comes_again, comes_if, comes_to}
use Rattle.script_text.specs.World.{crashed, crashes, crashes_if, due, grants, hears, if_due, if_up}
use Rattle.script_text.specs.World.{is_down, is_up, is_up_at, marked, no_node, no_packet, node_numbers, node_opened, on_replay, on_settle, opened}
use Rattle.script_text.specs.World.{packet_of, refuses}
use Rattle.script_text.specs.World.{replays, restarts, restarts_if, runner_at, settles, shared, ticks, up_or_refuses}
use Rattle.world_fates.proofs.node.Behind.{behind, behind_then, came_to, input_to}
use Rattle.world_fates.proofs.node.Serving.{came_then}
use Rattle.world_fates.proofs.node.Tellings.{FactOfPrints, IsTelling}
use Rattle.world_fates.specs.Runs.{IsRun}
use Rattle.world_fates.proofs.Places.{row_least, set_cases}
use Rattle.world_fates.proofs.node.Spending.{Spends, crash_spends, delivery_spends, given_by, grant_spends, octets_spend, printed, restart_spends}
use Rattle.world_fates.proofs.node.Spending.{tick_spends, waits}
use Rattle.world_fates.specs.Receipts.{is_receipt_at, is_receipt_of}
use Rattle.world_fates.proofs.Printing.{GoodLines, first_so, good_lines, joined_so, opened_stands}
use Rattle.world_fates.proofs.Worlds.{due_least, kept_apart}

-- ---- receipts of a message

module _ (cluster : Cluster) (id : ℕ) where
  -- so many were given out
  abbrev pub given : List NodeInput → ℕ
  given past = count_of id (receipts_given (cluster_outputs cluster past))

  -- so many wait at all nodes
  abbrev waits_at : List Runner → ℕ
  waits_at runners = sum_by (λ (runner : Runner). waits id runner.waiting) runners

  -- and so many are printed
  abbrev pub printed_at : List WorldPrint → ℕ
  printed_at prints = count_by (is_receipt_at id) prints

  abbrev one_at : WorldPrint → ℕ
  one_at print = cond (is_receipt_at id print) 1 0

  printed_at_both : (first last : List WorldPrint) → printed_at (first ++ last) ≡ printed_at first + printed_at last
  printed_at_both first last = sum_by-append one_at first last

  printed_by_node : (node : ℕ) (prints : List Print) → printed_at (map (At node) prints) ≡ printed id prints
  printed_by_node node [] = refl
  printed_by_node node (print ∷ prints) =
      let first = sum_by-cons one_at (At node print) (map (At node) prints) in
      let same = sum_by-cons (λ (p : Print). cond (is_receipt_of id p) 1 0) print prints in
      let later = printed_by_node node prints in
      omega (arith, first, same, later)

  -- one of the nodes has others that wait
  waits_then : (runners : List Runner) (place : ℕ) (runner next : Runner) → slice_get runners place ≡ Some runner →
      waits_at (slice_set runners place next) + waits id runner.waiting ≡ waits_at runners + waits id next.waiting
  waits_then [] place runner next is = absurd cc
  waits_then (first ∷ others) zero runner next is =
      let same : first ≡ runner = cc in
      let old = sum_by-cons (λ (r : Runner). waits id r.waiting) first others in
      let new = sum_by-cons (λ (r : Runner). waits id r.waiting) next others in
      let here = ap (λ (r : Runner). waits id r.waiting) same in
      omega (arith, old, new, here)
  waits_then (first ∷ others) (suc place) runner next is =
      let old = sum_by-cons (λ (r : Runner). waits id r.waiting) first others in
      let new = sum_by-cons (λ (r : Runner). waits id r.waiting) first (slice_set others place next) in
      let there = waits_then others place runner next is in
      omega (arith, old, new, there)

  -- ---- a node

  -- a node of a script keeps what the node of this number keeps, and the packets that it holds were sent last
  record HoldsNewest (number : ℕ) (past : List NodeInput) (older : List Packet) (node : Node) : Type 0 where
    setup : node.setup ≡ cluster_setup cluster number
    kept : node.kept ≡ (kept_reached cluster past).kept number
    packets : (kept_reached cluster past).packets ≡ reverse node.packets ++ older

  abbrev Sends : ℕ → Node → List Input → Node → Type 0
  Sends number first inputs last =
      (past : List NodeInput) (older : List Packet) → HoldsNewest number past older first → HoldsNewest number (came_to number inputs past) older last

  sends_once : (number : ℕ) (node : Node) (input : Input) → Sends number node (input ∷ []) (with_step node (step_at node input))
  sends_once number node input past older holds =
      let step = node_stepped (cluster_setup cluster number) ((kept_reached cluster past).kept number) input in
      let same : step_at node input ≡ step = λ i. node_stepped (holds.setup i) (holds.kept i) input in
      record {
        setup = holds.setup;
        kept = ap (λ (s : NodeStep). s.kept) same ∙ sym (changed_here (kept_reached cluster past).kept number step.kept);
        packets =
            ap (λ (packets : List Packet). reverse step.outputs.packets ++ packets) holds.packets
            ∙ sym (append_assoc (reverse step.outputs.packets) (reverse node.packets) older)
            ∙ ap (λ (packets : List Packet). packets ++ older) (sym (reverse-append node.packets step.outputs.packets))
            ∙ ap (λ (s : NodeStep). reverse (node.packets ++ s.outputs.packets) ++ older) (sym same);
      }

  sends : (number : ℕ) → IsGoing (Sends number)
  sends number = record {
    nowhere = λ node past older holds. holds;
    once = sends_once number;
    further = λ first middle last inputs later one other past older holds.
        let then_past = came_to number inputs past in
        subst (λ (now : List NodeInput). HoldsNewest number now older last)
        (came_then number inputs later past then_past (came_to number later then_past) refl refl)
        (other then_past older (one past older holds));
  }

  -- what it gives out is given out by the cluster
  gives : (number : ℕ) (inputs : List Input) (node : Node) (past : List NodeInput) (older : List Packet) → HoldsNewest number past older node →
      given (came_to number inputs past) ≡ given_by id node inputs + given past
  gives number [] node past older holds = omega (arith)
  gives number (input ∷ inputs) node past older holds =
      let step = node_stepped (cluster_setup cluster number) ((kept_reached cluster past).kept number) input in
      let same : step_at node input ≡ step = λ i. node_stepped (holds.setup i) (holds.kept i) input in
      let first = ap (λ (s : NodeStep). waits id s.outputs.receipts) same in
      let one = count_both id step.outputs.receipts (receipts_given (cluster_outputs cluster past)) in
      let later = gives number inputs (with_step node (step_at node input)) (input_to number input ∷ past) older
      (sends_once number node input past older holds) in
      omega (arith, first, one, later)

  -- ---- a world

  -- It stands there, and no node holds a packet. Of the message so many receipts were printed, and those with those that wait are no more than were given out.
  pub record StandsStill (past : List NodeInput) (told : ℕ) (world : World) : Type 0 where
    pub stands : StandsFor cluster past world
    pub none : (place : ℕ) (runner : Runner) → slice_get world.runners place ≡ Some runner → runner.node.packets ≡ []
    pub spent : waits_at world.runners + told ≤ given past

  abbrev MovesTo : World → Moved → Type 0
  MovesTo world moved =
      (past : List NodeInput) (told : ℕ) → StandsStill past told world → StandsStill (behind moved.inputs past) (printed_at moved.prints + told) moved.next

  nothing_to : (world : World) (prints : List WorldPrint) → printed_at prints ≡ 0 → MovesTo world (record { next = world; inputs = []; prints = prints })
  nothing_to world prints none past told still = record {
    stands = still.stands;
    none = still.none;
    spent = let most = still.spent in omega (arith, none, most);
  }

  refuses_to : (world : World) (number : ℕ) → MovesTo world (refuses world number)
  refuses_to world number = nothing_to world (Refuses number ∷ []) refl

  then_to : (world : World) (first other : Moved) → MovesTo world first → MovesTo first.next other → MovesTo world (followed_by first other)
  then_to world first other moves others past told stands =
      let middle = behind first.inputs past in
      let so = others middle (printed_at first.prints + told) (moves past told stands) in
      let both = printed_at_both first.prints other.prints in
      subst (λ (now : List NodeInput). StandsStill now (printed_at (first.prints ++ other.prints) + told) other.next)
      (behind_then first.inputs other.inputs past middle (behind other.inputs middle) refl refl)
      (record { stands = so.stands; none = so.none; spent = let most = so.spent in omega (arith, most, both) })

  -- ---- a node of many

  module _ (world : World) (number : ℕ) (least : 1 ≤ number) (runner : Runner) (there : runner_at world number ≡ Some runner) where
    at_number : suc (pred number) ≡ number
    at_number = omega (arith, least)

    held_none : (past : List NodeInput) (told : ℕ) → StandsStill past told world → HoldsNewest number past (reverse world.packets) (awaiting runner.node [])
    held_none past told still =
        let of = subst (λ (n : ℕ). IsNodeOf cluster past n runner.node) at_number (still.stands.each (pred number) runner there) in
        record { setup = of.setup; kept = of.kept; packets = still.stands.packets }

    held_still : (past : List NodeInput) (told : ℕ) → StandsStill past told world → HoldsNewest number past (reverse world.packets) runner.node
    held_still past told still =
        subst (λ (packets : List Packet). HoldsNewest number past (reverse world.packets) (awaiting runner.node packets))
        (sym (still.none (pred number) runner there)) (held_none past told still)

    -- what the node did leads there
    shared_to : (acted : Acted) → Sends number runner.node acted.inputs acted.next.node → Spends id runner acted → MovesTo world (shared world number acted)
    shared_to acted does most past told still = record {
      stands = record {
        count = length-set world.runners (pred number) (given_out acted.next) ∙ still.stands.count;
        each = λ place other is.
            subst (λ (now : List NodeInput). IsNodeOf cluster now (suc place) other.node) (sym later_is) (each_then place other is);
        packets =
            ap (λ (now : List NodeInput). (kept_reached cluster now).packets) later_is
            ∙ newest.packets
            ∙ sym (reverse-append world.packets acted.next.node.packets);
      };
      none = λ place other is. elim (set_cases world.runners (pred number) (given_out acted.next) place other is) [
        | inl here ↦ ap (λ (r : Runner). r.node.packets) here.1
        | inr apart ↦ still.none place other apart.0
      ];
      spent =
          let before = still.spent in
          let then_waits = waits_then world.runners (pred number) runner (given_out acted.next) there in
          let prints = printed_by_node number acted.prints in
          let given_then = gives number acted.inputs runner.node past (reverse world.packets) (held_still past told still) in
          omega (arith, before, then_waits, prints, given_then, most);
    }
      where
        later : List NodeInput
        later = came_to number acted.inputs past

        later_is : behind ((shared world number acted).inputs) past ≡ later
        later_is = refl

        newest : HoldsNewest number later (reverse world.packets) acted.next.node
        newest = does past (reverse world.packets) (held_still past told still)

        each_then : (place : ℕ) (other : Runner) → slice_get (shared world number acted).next.runners place ≡ Some other →
            IsNodeOf cluster later (suc place) other.node
        each_then place other is = elim (set_cases world.runners (pred number) (given_out acted.next) place other is) [
          | inl here ↦
              let same : number ≡ suc place = (let at = here.0 in omega (arith, at, least)) in
              let mine : IsNodeOf cluster later number (given_out acted.next).node = record { setup = newest.setup; kept = newest.kept } in
              subst (λ (r : Runner). IsNodeOf cluster later (suc place) r.node) (sym here.1)
              (subst (λ (n : ℕ). IsNodeOf cluster later n (given_out acted.next).node) same mine)
          | inr apart ↦
              let old = still.stands.each place other apart.0 in
              record {
                setup = old.setup;
                kept = old.kept ∙ sym (kept_apart cluster acted.inputs past number (suc place) (λ same. apart.1 (ap pred same)));
              }
        ]

  if_up_to : (world : World) (number : ℕ) (up : Runner → Moved) → ((runner : Runner) → runner_at world number ≡ Some runner → MovesTo world (up runner)) →
      MovesTo world (if_up world number up)
  if_up_to world number up so = by_runner (runner_at world number) refl
    where
      by_test : (runner : Runner) → runner_at world number ≡ Some runner → (test : Bool) → MovesTo world (if test then up runner else refuses world is_down)
      by_test runner is true = so runner is
      by_test runner is false = refuses_to world is_down

      by_runner : (found : Option Runner) → runner_at world number ≡ found → MovesTo world (up_or_refuses world up found)
      by_runner None is = refuses_to world no_node
      by_runner (Some runner) is = by_test runner is (is_up runner)

  acts_to : (world : World) (number : ℕ) → 1 ≤ number → (act : Runner → Acted) →
      ((runner : Runner) → Sends number runner.node (act runner).inputs (act runner).next.node) → ((runner : Runner) → Spends id runner (act runner)) →
      MovesTo world (acts world number act)
  acts_to world number least act does most =
      if_up_to world number (λ runner. shared world number (act runner))
      (λ runner is. shared_to world number least runner is (act runner) (does runner) (most runner))

  restarts_to : (world : World) (number : ℕ) → 1 ≤ number → MovesTo world (restarts world number)
  restarts_to world number least = by_runner (runner_at world number) refl
    where
      by_runner : (found : Option Runner) → runner_at world number ≡ found → MovesTo world (restarts_if world number found)
      by_runner None is = refuses_to world no_node
      by_runner (Some runner) is = shared_to world number least runner is (on_restart runner) (restart_goes (Sends number) (sends number) runner)
          (restart_spends id runner)

  -- ---- packets

  comes_to_node : (world : World) (number node : ℕ) → 1 ≤ node → MovesTo world (comes world number node)
  comes_to_node world number node least = by_packet (packet_of world.packets number)
    where
      up : Packet → Runner → Moved
      up packet runner = shared (marked world number node) node (on_delivery runner packet)

      there : (packet : Packet) (runner : Runner) → runner_at world node ≡ Some runner → MovesTo world (up packet runner)
      there packet runner is past told still =
          let now = marked world number node in
          shared_to now node least runner is (on_delivery runner packet) (delivery_goes (Sends node) (sends node) runner packet)
          (delivery_spends id runner packet) past told
          (record {
            stands = record { count = still.stands.count; each = still.stands.each; packets = still.stands.packets };
            none = still.none;
            spent = still.spent;
          })

      by_packet : (found : Option Packet) → MovesTo world (comes_if world number node found)
      by_packet None = refuses_to world no_packet
      by_packet (Some packet) = if_up_to world node (up packet) (there packet)

  crashes_to : (world : World) (node number : ℕ) (after : Bool) → 1 ≤ node → MovesTo world (crashes world node number after)
  crashes_to world node number after least = by_packet (packet_of world.packets number)
    where
      by_packet : (found : Option Packet) → MovesTo world (crashes_if world node after found)
      by_packet None = refuses_to world no_packet
      by_packet (Some packet) = acts_to world node least (crashed packet after) (λ runner. sends_once node runner.node (Crash packet after))
          (λ runner. crash_spends id runner packet after)

  comes_again_to : (world : World) (number node : ℕ) → 1 ≤ node → MovesTo world (comes_again world number node)
  comes_again_to world number node least = by_test (is_up_at (runner_at world node))
    where
      by_test : (up : Bool) → MovesTo world (if up then comes world number node else rests world)
      by_test true = comes_to_node world number node least
      by_test false = nothing_to world [] refl

  settles_to : (more : ℕ) (nodes : List ℕ) (world : World) → MovesTo world (settles more nodes world)
  unfolding settles
  settles_to zero nodes world = nothing_to world (StopsSettling ∷ []) refl
  settles_to (suc more) nodes world = by_due (due world nodes) refl (settles_to more nodes)
    where
      by_due : (next : Option Due) → due world nodes ≡ next → ((other : World) → MovesTo other (settles more nodes other)) →
          MovesTo world (if_due (rests world)
          (λ next. followed_by (comes world next.number next.node) (settles more nodes (comes world next.number next.node).next)) next)
      by_due None is others = nothing_to world [] refl
      by_due (Some next) is others =
          let one = comes world next.number next.node in
          then_to world one (settles more nodes one.next)
          (comes_to_node world next.number next.node (due_least world nodes (range_with_len 1 (length world.packets)) next is)) (others one.next)

  comes_to_all : (number : ℕ) (nodes : List ℕ) → ((node : ℕ) → In node nodes → 1 ≤ node) → (world : World) → MovesTo world (comes_to number nodes world)
  unfolding comes_to
  comes_to_all number [] least world = nothing_to world [] refl
  comes_to_all number (node ∷ nodes) least world =
      let one = comes_again world number node in
      then_to world one (comes_to number nodes one.next) (comes_again_to world number node (least node (inl refl)))
      (comes_to_all number nodes (λ other among. least other (inr among)) one.next)

  all_come_to : (numbers : List ℕ) (world : World) → MovesTo world (all_come numbers world)
  unfolding all_come
  all_come_to [] world = nothing_to world [] refl
  all_come_to (number ∷ numbers) world =
      let one = comes_to number (node_numbers world) world in
      then_to world one (all_come numbers one.next)
      (comes_to_all number (node_numbers world) (λ node among. row_least 1 (length world.runners) node among) world) (all_come_to numbers one.next)

  replays_to : (more count : ℕ) (world : World) → MovesTo world (replays more count world)
  unfolding replays
  replays_to zero count world = nothing_to world [] refl
  replays_to (suc more) count world =
      let one = all_come (reverse (range_with_len 1 count)) world in
      then_to world one (replays more count one.next) (all_come_to (reverse (range_with_len 1 count)) world) (replays_to more count one.next)

  -- ---- lines

  -- a line leads there
  record LeadsTo (world : World) (done : Stepped) : Type 0 where
    next : World
    stage_is : done.next ≡ Some next
    moves : (past : List NodeInput) (told : ℕ) → StandsStill past told world → StandsStill (behind done.inputs past) (printed_at done.prints + told) next

  module _ (settings : Settings) where
    moved_to : (world : World) (moved : Moved) (done : Stepped) → MovesTo world moved → stepped moved ≡ Some done → LeadsTo world done
    moved_to world moved done moves is =
        subst (LeadsTo world) (same _ done is) (record { next = moved.next; stage_is = refl; moves = moves })
      where
        same : (one other : Stepped) → Some one ≡ Some other → one ≡ other
        same one other is = cc

    said_to : (world : World) (line : List ℕ) (said : Said) (done : Stepped) → said_within (length world.runners) line ≡ Some said →
        moved_by settings world said ≡ Some done → LeadsTo world done
    said_to world line Skipped done says is = moved_to world (rests world) done (nothing_to world [] refl) is
    said_to world line (Nodes count serial) done says is = absurd cc
    said_to world line (Octets node session octets) done says is =
        let least = (spells_within (length world.runners) line (Octets node session octets) says).wording.0.least in
        moved_to world (hears settings world node session octets) done
        (acts_to world node least (λ runner. on_octets settings runner session octets)
        (λ runner. octets_go (Sends node) (sends node) settings runner session octets)
        (λ runner. octets_spend id settings runner session octets)) is
    said_to world line (Deliver number node) done says is =
        let least = (spells_within (length world.runners) line (Deliver number node) says).wording.1.least in
        moved_to world (comes world number node) done (comes_to_node world number node least) is
    said_to world line (Crashes node number after) done says is =
        let least = (spells_within (length world.runners) line (Crashes node number after) says).wording.0.least in
        moved_to world (crashes world node number after) done (crashes_to world node number after least) is
    said_to world line (Tick node moment) done says is =
        let least = (spells_within (length world.runners) line (Tick node moment) says).wording.0.least in
        moved_to world (ticks world node moment) done
        (acts_to world node least (λ runner. on_tick runner moment) (λ runner. tick_goes (Sends node) (sends node) runner moment)
        (λ runner. tick_spends id runner moment)) is
    said_to world line (Grant node message) done says is =
        let least = (spells_within (length world.runners) line (Grant node message) says).wording.0.least in
        moved_to world (grants world node message) done
        (acts_to world node least (λ runner. on_grant runner message) (λ runner. grant_goes (Sends node) (sends node) runner message)
        (λ runner. grant_spends id runner message)) is
    said_to world line (Settle nodes) done says is = moved_to world (on_settle world nodes) done (settles_to most_deliveries nodes world) is
    said_to world line (Restart node) done says is =
        let least = (spells_within (length world.runners) line (Restart node) says).wording.0.least in
        moved_to world (restarts world node) done (restarts_to world node least) is
    said_to world line (Replay count) done says is =
        moved_to world (on_replay world count) done (replays_to count (length world.packets) world) is

    line_to : (world : World) (line : List ℕ) (done : Stepped) → step_of settings (Some world) line ≡ Some done → LeadsTo world done
    unfolding step_of
    line_to world line done is = by_said (said_within (length world.runners) line) refl is
      where
        by_said : (said : Option Said) → said_within (length world.runners) line ≡ said → step_by settings (Some world) said ≡ Some done → LeadsTo world done
        by_said None says is = absurd cc
        by_said (Some said) says is = said_to world line said done says is

    pub lines_to : (lines : List (List ℕ)) (world : World) (inputs : List NodeInput) (prints : List WorldPrint) (last : World) →
        Joins settings (Some world) lines inputs prints (Some last) → (past : List NodeInput) (told : ℕ) → StandsStill past told world →
        StandsStill (behind inputs past) (printed_at prints + told) last
    unfolding Joins
    lines_to [] world inputs prints last joins past told still =
        let same : world ≡ last = (let is = joins.2 in cc) in
        let none : printed_at prints ≡ 0 = ap printed_at joins.1 in
        subst (StandsStill (behind inputs past) (printed_at prints + told)) same
        (subst (λ (came : List NodeInput). StandsStill (behind came past) (printed_at prints + told) world) (sym joins.0)
        (nothing_to world prints none past told still))
    lines_to (line ∷ lines) world inputs prints last joins past told still =
        let done = joins.0 in
        let one = line_to world line done joins.3 in
        let middle = behind done.inputs past in
        let rest = lines_to lines one.next joins.1 joins.2 last
        (subst (λ (s : Stage). Joins settings s lines joins.1 joins.2 (Some last)) one.stage_is joins.6) middle (printed_at done.prints + told)
        (one.moves past told still) in
        let both = ap printed_at joins.5 ∙ printed_at_both done.prints joins.2 in
        subst (λ (now : List NodeInput). StandsStill now (printed_at prints + told) last)
        (behind_then done.inputs joins.1 past middle (behind joins.1 middle) refl refl
        ∙ ap (λ (came : List NodeInput). behind came past) (sym joins.4))
        (record { stands = rest.stands; none = rest.none; spent = let most = rest.spent in omega (arith, most, both) })

-- ---- a world that opens

none_waits : (id : ℕ) (new : ℕ → Node) (nodes : List ℕ) →
    sum_by (λ (runner : Runner). waits id runner.waiting) (map (λ node. runner_opened (new node)) nodes) ≡ 0
none_waits id new [] = refl
none_waits id new (node ∷ nodes) =
    let first = sum_by-cons (λ (runner : Runner). waits id runner.waiting) (runner_opened (new node)) (map (λ node. runner_opened (new node)) nodes) in
    let later = none_waits id new nodes in
    omega (arith, first, later)

opened_still : (settings : Settings) (count serial id : ℕ) →
    StandsStill (cluster_with count serial settings.validity) id [] 0 (opened settings count serial)
opened_still settings count serial id = record {
  stands = record {
    count = opened_count settings count serial;
    each = λ place runner is.
        subst (λ (r : Runner). IsNodeOf (cluster_with count serial settings.validity) [] (suc place) r.node)
        (opened_there settings count serial place runner is) (record { setup = refl; kept = refl });
    packets = refl;
  };
  none = λ place runner is. ap (λ (r : Runner). r.node.packets) (sym (opened_there settings count serial place runner is));
  spent = let none = none_waits id (node_opened settings count serial) (range_with_len 1 count) in omega (arith, none);
}

-- ---- what lines brought to nodes may happen

abbrev nothing_told : FactOfPrints
nothing_told last past prints = Unit {0}

tells_nothing : (cluster : Cluster) → IsTelling cluster nothing_told
tells_nothing cluster = record {
  mute = λ last past node print prints mute other told. tt;
  report = λ last past node receipt session sequence optional report prints may out is told. tt;
  step = λ last past next prints may told. tt;
  replies = λ last past next connected prints may small told. tt;
}

behind_is : (inputs past : List NodeInput) → behind inputs past ≡ reverse inputs ++ past
behind_is [] past = refl
behind_is (next ∷ inputs) past =
    behind_is inputs (next ∷ past)
    ∙ sym (append_assoc (reverse inputs) (next ∷ []) past)
    ∙ ap (λ (front : List NodeInput). front ++ past) (sym (reverse_onto inputs next []))

newest_is : (inputs : List NodeInput) → behind inputs [] ≡ reverse inputs
newest_is inputs = behind_is inputs [] ∙ append-nil (reverse inputs)

-- lines are a run, and of a message they print no more receipts than are given out in it
pub record RunSpends (settings : Settings) (lines : List (List ℕ)) (came : List NodeInput) (prints : List WorldPrint) (world : World) (id : ℕ) : Type 0 where
  pub run : IsRun settings lines came world
  pub most : count_by (is_receipt_at id) prints ≤ given (cluster_with run.count run.serial settings.validity) id (reverse came)

pub run_spends : (settings : Settings) (lines : List (List ℕ)) (came : List NodeInput) (prints : List WorldPrint) (world : World) (id : ℕ) →
    Joins settings None lines came prints (Some world) → RunSpends settings lines came prints world id
unfolding Joins step_of
run_spends settings [] came prints world id joins = absurd (let is = joins.2 in cc)
run_spends settings (line ∷ lines) came prints world id joins =
    by_said (said_within 9 line) refl joins.3 (run_spends settings lines joins.1 joins.2 world id)
  where
    -- a line to which nothing comes leads on
    leads_on : (middle : Stage) → Some (record { next = middle; inputs = []; prints = [] }) ≡ Some joins.0 →
        (came ≡ joins.1) × (prints ≡ joins.2) × Joins settings middle lines joins.1 joins.2 (Some world)
    leads_on middle is =
        let same = stepped_same (record { next = middle; inputs = []; prints = [] }) joins.0 is in (
          joins.4 ∙ ap (λ (d : Stepped). d.inputs ++ joins.1) (sym same),
          joins.5 ∙ ap (λ (d : Stepped). d.prints ++ joins.2) (sym same),
          subst (λ (d : Stepped). Joins settings d.next lines joins.1 joins.2 (Some world)) (sym same) joins.6,
        )
      where
        stepped_same : (one other : Stepped) → Some one ≡ Some other → one ≡ other
        stepped_same one other is = cc

    by_said : (said : Option Said) → said_within 9 line ≡ said → step_by settings None said ≡ Some joins.0 →
        (Joins settings None lines joins.1 joins.2 (Some world) → RunSpends settings lines joins.1 joins.2 world id) →
        RunSpends settings (line ∷ lines) came prints world id
    by_said None says is later = absurd cc
    by_said (Some Skipped) says is later =
        let on = leads_on None is in
        let so = later on.2 in
        let run = so.run in
        subst (λ (inputs : List NodeInput). RunSpends settings (line ∷ lines) inputs prints world id) (sym on.0)
        (subst (λ (printed : List WorldPrint). RunSpends settings (line ∷ lines) joins.1 printed world id) (sym on.1)
        (record {
          run = record {
            count = run.count;
            serial = run.serial;
            opening = run.opening;
            among = inr run.among;
            says = run.says;
            least = run.least;
            most = run.most;
            may = run.may;
            stands = run.stands;
          };
          most = so.most;
        }))
    by_said (Some (Nodes count serial)) says is later =
        let first = opened settings count serial in
        let cluster = cluster_with count serial settings.validity in
        let on = leads_on (Some first) is in
        let wording = (spells_within 9 line (Nodes count serial) says).wording in
        let rest = joined_so settings cluster nothing_told (tells_nothing cluster) (λ last past node number session taken prints submitted told. tt) lines []
        first
        (opened_stands settings count serial wording.0.most wording.1) joins.1 joins.2 (Some world) on.2 in
        let still = lines_to cluster id settings lines first joins.1 joins.2 world on.2 [] 0 (opened_still settings count serial id) in
        let now : behind joins.1 [] ≡ reverse came = newest_is joins.1 ∙ ap reverse (sym on.0) in
        record {
          run = record {
            count = count;
            serial = serial;
            opening = line;
            among = inl refl;
            says = says;
            least = wording.0.least;
            most = wording.0.most;
            may = subst (MayHappen cluster) (rest.later_is ∙ now) rest.stands.fit.may;
            stands = subst (λ (inputs : List NodeInput). StandsFor cluster inputs world) now still.stands;
          };
          most =
              let spent = still.spent in
              let same = ap (printed_at cluster id) on.1 in
              let then_given = ap (given cluster id) now in
              omega (arith, spent, same, then_given);
        }
    by_said (Some (Octets node session octets)) says is later = absurd cc
    by_said (Some (Deliver number node)) says is later = absurd cc
    by_said (Some (Crashes node number after)) says is later = absurd cc
    by_said (Some (Tick node moment)) says is later = absurd cc
    by_said (Some (Grant node id)) says is later = absurd cc
    by_said (Some (Settle nodes)) says is later = absurd cc
    by_said (Some (Restart node)) says is later = absurd cc
    by_said (Some (Replay count)) says is later = absurd cc

pub script_run : (settings : Settings) (lines : List (List ℕ)) (came : List NodeInput) (prints : List WorldPrint) (world : World) →
    Joins settings None lines came prints (Some world) → IsRun settings lines came world
script_run settings lines came prints world joins = (run_spends settings lines came prints world 0 joins).run

-- ---- one receipt is printed

pub one_receipt : (script : List ℕ) (id : ℕ) → count_by (is_receipt_at id) (prints_of script) ≤ 1
one_receipt script id = by_last good.last good.joins
  where
    good : GoodLines script_settings None (prints_of script)
    good = good_lines script_settings (lines_of script) None

    by_last : (last : Stage) → Joins script_settings None good.lines good.inputs (prints_of script) last → count_by (is_receipt_at id) (prints_of script) ≤ 1
    by_last None joins =
        let nothing : prints_of script ≡ [] = first_so script_settings (λ cluster. nothing_told) tells_nothing
        (λ cluster last past node number session taken prints submitted told. tt) good.lines good.inputs (prints_of script) None joins in
        let none : count_by (is_receipt_at id) (prints_of script) ≡ 0 = ap (count_by (is_receipt_at id)) nothing in
        omega (arith, none)
    by_last (Some world) joins =
        let spends = run_spends script_settings good.lines good.inputs (prints_of script) world id joins in
        let most = spends.most in
        let given_once = one_of_each (cluster_with spends.run.count spends.run.serial script_settings.validity) (reverse good.inputs) spends.run.may id in
        omega (arith, most, given_once)
