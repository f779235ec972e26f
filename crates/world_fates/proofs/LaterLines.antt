-- What a node answers to requests that came behind certain inputs, by what lines do.
use Rattle.std.proofs.Common.{◌≡◌, ◌⊎◌, ℕ, ◌≤◌, zero, suc, pred, Bool, true, false, List, [], ◌∷◌, ◌++◌, length, map, Option, Some, None, refl}
use Rattle.std.proofs.Common.{sym, ◌∙◌, ap, subst, inl, inr}
use Rattle.std.specs.Prelude.{if◌then◌else◌, reverse}
use Rattle.std.specs.List.{range_with_len}
use Rattle.mc_model.specs.synod.Lists.{In}
use Rattle.mc_model.specs.synod.Packet.{Packet}
use Rattle.mc_model.specs.node.Input.{Crash as Stops, Delivery, Input}
use Rattle.mc_model.specs.node.Actor.{Request}
use Rattle.mc_model.specs.node.Outputs.{Reply}
use Rattle.mc_model.specs.cluster.Steps.{Cluster}
use Rattle.mc_parts.proofs.Membership.{in_either}
use Rattle.node_laws.specs.Clusters.{MayHappen, NodeInput}
use Rattle.pdu_bodies.specs.declared.pdu.Pdu.{Pdu}
use Rattle.pdu_frames.specs.Frames.{cut}
use Rattle.script_lines.specs.Said.{Said, Skipped, Nodes, Octets, Deliver, Crash, Tick, Grant, Settle, Restart, Replay, said_within}
use Rattle.script_lines.proofs.SaidLemmas.{spells_within}
use Rattle.sessions.specs.declared.request.OpenRequest.{OpenRequest}
use Rattle.script_text.specs.Left.{followed_by, rests}
use Rattle.script_text.specs.Prints.{Print}
use Rattle.script_text.specs.Runner.{Acted, Runner, given_out, on_delivery, on_grant, on_octets, on_restart, on_tick}
use Rattle.script_text.specs.Runner.{held_in, request_of}
use Rattle.script_text.specs.Settings.{Settings}
use Rattle.script_text.specs.Prints.{At, Refuses, StopsSettling, WorldPrint}
use Rattle.script_text.specs.Script.{Joins, Stage, Stepped, moved_by, step_by, step_of, stepped}
use Rattle.script_text.specs.World.{most_deliveries}
use Rattle.script_text.specs.World.{Due, Moved, World, acts, all_come, comes, comes_again, comes_if, comes_to as come_to, no_node}
use Rattle.script_text.specs.World.{crashed, crashes, crashes_if, due, grants, hears, if_due, if_up, is_down, is_up, is_up_at, marked, no_packet}
use Rattle.script_text.specs.World.{node_numbers, on_replay, on_settle, packet_of, refuses, replays, restarts, restarts_if, runner_at, settles, shared}
use Rattle.script_text.specs.World.{ticks, unsettled, up_or_refuses}
use Rattle.world_fates.proofs.node.Behind.{behind, behind_both, came_to, happened_before, input_to}
use Rattle.world_fates.proofs.node.StepsOut.{step_now}
use Rattle.world_fates.specs.Requests.{ComesBy, EndsIn}
use Rattle.world_fates.proofs.Places.{row_least, set_cases}
use Rattle.world_fates.proofs.Worlds.{due_least, kept_apart}
use Rattle.world_fates.proofs.Lines.{one_node, printed_at}
use Rattle.world_fates.proofs.Later.{ActsWell, AsksBy, CameOn, FrameAsks, IsFine, ServesWell, delivery_well, ended_well, grant_well, octets_well, on_later}
use Rattle.world_fates.proofs.Later.{restart_well, tick_well}
use Rattle.world_fates.proofs.Asking.{AsksOn}

lines_front : (cluster : Cluster) (one other : List NodeInput) (past : List NodeInput) → MayHappen cluster (behind (one ++ other) past) →
    MayHappen cluster (behind one past)
lines_front cluster one other past may =
    happened_before cluster other (behind one past) (subst (MayHappen cluster) (behind_both one other past) may)

lines_back : (cluster : Cluster) (one other : List NodeInput) (past : List NodeInput) → MayHappen cluster (behind (one ++ other) past) →
    MayHappen cluster (behind other (behind one past))
lines_back cluster one other past may = subst (MayHappen cluster) (behind_both one other past) may

-- inputs behind others that are behind the first ones
record IsBehind (first past : List NodeInput) : Type 0 where
  front : List NodeInput
  is : past ≡ front ++ first

still_behind : (first inputs past : List NodeInput) → IsBehind first past → IsBehind first (behind inputs past)
still_behind first [] past it = it
still_behind first (next ∷ inputs) past it =
    still_behind first inputs (next ∷ past) (record { front = next ∷ it.front; is = ap (λ (i : List NodeInput). next ∷ i) it.is })

module _ (cluster : Cluster) (m : ℕ) (least_m : 1 ≤ m) (first : List NodeInput) (Before : ℕ → OpenRequest → Type 0)
    (Asked : ℕ → ℕ → Request → Type 0) (Says : ℕ → OpenRequest → Reply → Type 0)
    (says : (front past : List NodeInput) → past ≡ front ++ first → (input : Input) (number : ℕ) (waits : OpenRequest) →
    Before number waits ⊎ CameOn cluster m first Asked past number waits → MayHappen cluster (input_to m input ∷ past) → (reply : Reply) →
    waits.ticket ≡ reply.ticket → In reply (step_now cluster (input_to m input) past).outputs.replies → Says number waits reply) where
  abbrev Fine : Print → Type 0
  Fine print = IsFine cluster m first Before Asked Says says print

  abbrev Serves : List NodeInput → Runner → Type 0
  Serves past runner = ServesWell cluster m first Before Asked Says says past runner

  abbrev Asks : Settings → ℕ → List ℕ → Type 0
  Asks settings session frame = FrameAsks cluster m first Before Asked Says says settings session frame

  abbrev Acts : List NodeInput → Acted → Type 0
  Acts past acted = ActsWell cluster m first Before Asked Says says past acted

  abbrev pub WorldWell : List NodeInput → World → Type 0
  WorldWell past world = (runner : Runner) → runner_at world m ≡ Some runner → Serves past runner

  record MovesWell (past : List NodeInput) (moved : Moved) : Type 0 where
    well : WorldWell (behind moved.inputs past) moved.next
    fine : (print : Print) → In (At m print) moved.prints → Fine print

  abbrev May : List NodeInput → Moved → Type 0
  May past moved = MayHappen cluster (behind moved.inputs past)

  stays_well : (past : List NodeInput) (world : World) → WorldWell past world → MovesWell past (rests world)
  stays_well past world well = record { well = well; fine = λ print among. absurd among }

  refuses_well : (past : List NodeInput) (world : World) (number : ℕ) → WorldWell past world → MovesWell past (refuses world number)
  refuses_well past world number well = record { well = well; fine = λ print among. absurd (none print among) }
    where
      none : (print : Print) → In (At m print) (Refuses number ∷ []) → ⊥
      none print (inl same) = cc
      none print (inr nothing) = nothing

  unsettled_well : (past : List NodeInput) (world : World) → WorldWell past world → MovesWell past (unsettled world)
  unsettled_well past world well = record { well = well; fine = λ print among. absurd (none print among) }
    where
      none : (print : Print) → In (At m print) (StopsSettling ∷ []) → ⊥
      none print (inl same) = cc
      none print (inr nothing) = nothing

  then_well : (past : List NodeInput) (one other : Moved) → MovesWell past one → MovesWell (behind one.inputs past) other →
      MovesWell past (followed_by one other)
  then_well past one other here there = record {
    well = λ runner is. subst (λ (now : List NodeInput). Serves now runner) (sym (behind_both one.inputs other.inputs past)) (there.well runner is);
    fine = λ print among. elim (in_either (At m print) one.prints other.prints among) [ inl a ↦ here.fine print a | inr b ↦ there.fine print b ];
  }

  -- ---- a node of many

  module _ (past : List NodeInput) (world : World) (well : WorldWell past world) (node : ℕ) (least : 1 ≤ node) where
    -- a node that is another
    apart_well : (inputs : List Input) (runner : Runner) → (m ≡ node → ⊥) → Serves past runner → Serves (came_to node inputs past) runner
    apart_well inputs runner apart s =
        let behind_it = still_behind first (map (input_to node) inputs) past (record { front = s.node.front; is = s.node.front_is }) in
        record {
          node = record {
            front = behind_it.front;
            front_is = behind_it.is;
            setup = s.node.setup;
            kept = s.node.kept ∙ sym (kept_apart cluster inputs past node m apart);
          };
          came = came_apart inputs past s.came;
        }
      where
        came_apart : (inputs : List Input) (past : List NodeInput) →
            ((number : ℕ) (request : OpenRequest) → AsksOn runner.sessions number request →
            Before number request ⊎ CameOn cluster m first Asked past number request) →
            (number : ℕ) (request : OpenRequest) → AsksOn runner.sessions number request →
            Before number request ⊎ CameOn cluster m first Asked (came_to node inputs past) number request
        came_apart [] past came = came
        came_apart (input ∷ inputs) past came =
            came_apart inputs (input_to node input ∷ past) (λ number request asks. elim (came number request asks) [
              | inl before ↦ inl before
              | inr on ↦
                  inr (on_later cluster m first Asked past (input_to node input) (λ lost same. apart (ap (λ (n : NodeInput). n.node) same)) number request on)
            ])

    shared_well : (acted : Acted) → (node ≡ m → Acts past acted) → MovesWell past (shared world node acted)
    shared_well acted acts = record {
      well = λ runner is.
          elim (set_cases world.runners (pred node) (given_out acted.next) (pred m) runner is) [
            | inl here ↦
                let same = one_node node m least least_m here.0 in
                let it = acts (sym same) in
                subst (λ (n : ℕ). Serves (came_to n acted.inputs past) runner) same
                (subst (Serves (came_to m acted.inputs past)) (sym here.1) (record {
                  node = record { front = it.node.front; front_is = it.node.front_is; setup = it.node.setup; kept = it.node.kept };
                  came = it.came;
                }))
            | inr apart ↦ apart_well acted.inputs runner (λ same. apart.1 (ap pred same)) (well runner apart.0)
          ];
      fine = λ print among.
          let it = printed_at node m acted.prints print among in
          (acts (sym it.0)).fine print it.1;
    }

    -- what may happen by it
    shared_may : (acted : Acted) → node ≡ m → May past (shared world node acted) → MayHappen cluster (came_to m acted.inputs past)
    shared_may acted same may =
        subst (λ (n : ℕ). MayHappen cluster (came_to n acted.inputs past)) same
        may

    if_up_well : (up : Runner → Moved) → ((runner : Runner) → runner_at world node ≡ Some runner → May past (up runner) → MovesWell past (up runner)) →
        May past (if_up world node up) → MovesWell past (if_up world node up)
    if_up_well up so may = by_runner (runner_at world node) refl may
      where
        by_test : (runner : Runner) → runner_at world node ≡ Some runner → (test : Bool) → May past (if test then up runner else refuses world is_down) →
            MovesWell past (if test then up runner else refuses world is_down)
        by_test runner is true may = so runner is may
        by_test runner is false may = refuses_well past world is_down well

        by_runner : (found : Option Runner) → runner_at world node ≡ found → May past (up_or_refuses world up found) →
            MovesWell past (up_or_refuses world up found)
        by_runner None is may = refuses_well past world no_node well
        by_runner (Some runner) is may = by_test runner is (is_up runner) may

    -- the runner of the node
    the_runner : (runner : Runner) → runner_at world node ≡ Some runner → node ≡ m → Serves past runner
    the_runner runner is same = well runner (ap (λ (n : ℕ). runner_at world n) (sym same) ∙ is)

    hears_well : (settings : Settings) (session : ℕ) (octets : List ℕ) →
        (node ≡ m → (runner : Runner) → runner_at world node ≡ Some runner → (frame : List ℕ) →
        In frame (cut (held_in runner.streams session ++ octets)).frames → Asks settings session frame) → May past (hears settings world node session octets) →
        MovesWell past (hears settings world node session octets)
    hears_well settings session octets asks =
        if_up_well (λ runner. shared world node (on_octets settings runner session octets))
        (λ runner is may. shared_well (on_octets settings runner session octets)
        (λ same. octets_well cluster m first Before Asked Says says settings past runner session octets (asks same runner is) (the_runner runner is same)))

    ticks_well : (moment : ℕ) → May past (ticks world node moment) → MovesWell past (ticks world node moment)
    ticks_well moment =
        if_up_well (λ runner. shared world node (on_tick runner moment))
        (λ runner is may. shared_well (on_tick runner moment)
        (λ same. tick_well cluster m first Before Asked Says says past runner moment (the_runner runner is same) (shared_may (on_tick runner moment) same may)))

    grants_well : (id : ℕ) → May past (grants world node id) → MovesWell past (grants world node id)
    grants_well id =
        if_up_well (λ runner. shared world node (on_grant runner id))
        (λ runner is may. shared_well (on_grant runner id)
        (λ same. grant_well cluster m first Before Asked Says says past runner id (the_runner runner is same)))

    restarts_well : MovesWell past (restarts world node)
    restarts_well = by_runner (runner_at world node) refl
      where
        by_runner : (found : Option Runner) → runner_at world node ≡ found → MovesWell past (restarts_if world node found)
        by_runner None is = refuses_well past world no_node well
        by_runner (Some runner) is =
            shared_well (on_restart runner) (λ same. restart_well cluster m first Before Asked Says says past runner (the_runner runner is same))

    crashes_well : (number : ℕ) (after : Bool) → May past (crashes world node number after) → MovesWell past (crashes world node number after)
    crashes_well number after may = by_packet (packet_of world.packets number) may
      where
        by_packet : (found : Option Packet) → May past (crashes_if world node after found) → MovesWell past (crashes_if world node after found)
        by_packet None may = refuses_well past world no_packet well
        by_packet (Some packet) may =
            if_up_well (λ runner. shared world node (crashed packet after runner))
            (λ runner is happens. shared_well (crashed packet after runner)
            (λ same. ended_well cluster m first Before Asked Says says past runner (Stops packet after) (the_runner runner is same).node
            (crashed packet after runner) refl)) may

  comes_well : (past : List NodeInput) (world : World) → WorldWell past world → (number node : ℕ) → 1 ≤ node → May past (comes world number node) →
      MovesWell past (comes world number node)
  comes_well past world well number node least may = by_packet (packet_of world.packets number) may
    where
      delivery_may : (runner : Runner) (packet : Packet) → MayHappen cluster (came_to m (on_delivery runner packet).inputs past) →
          MayHappen cluster (input_to m (Delivery packet) ∷ past)
      delivery_may runner packet may = may

      by_packet : (found : Option Packet) → May past (comes_if world number node found) → MovesWell past (comes_if world number node found)
      by_packet None may = refuses_well past world no_packet well
      by_packet (Some packet) may =
          if_up_well past world well node least (λ runner. shared (marked world number node) node (on_delivery runner packet))
          (λ runner is happens. shared_well past (marked world number node) well node least (on_delivery runner packet)
          (λ same. delivery_well cluster m first Before Asked Says says past runner packet (the_runner past world well node least runner is same)
          (delivery_may runner packet (shared_may past (marked world number node) well node least (on_delivery runner packet) same happens)))) may

  comes_again_well : (past : List NodeInput) (world : World) → WorldWell past world → (number node : ℕ) → 1 ≤ node →
      May past (comes_again world number node) → MovesWell past (comes_again world number node)
  comes_again_well past world well number node least may = by_test (is_up_at (runner_at world node)) may
    where
      by_test : (up : Bool) → May past (if up then comes world number node else rests world) →
          MovesWell past (if up then comes world number node else rests world)
      by_test true may = comes_well past world well number node least may
      by_test false may = stays_well past world well

  settles_well : (more : ℕ) (nodes : List ℕ) (past : List NodeInput) (world : World) → WorldWell past world → May past (settles more nodes world) →
      MovesWell past (settles more nodes world)
  unfolding settles
  settles_well zero nodes past world well may = unsettled_well past world well
  settles_well (suc more) nodes past world well may = by_due (due world nodes) refl (settles_well more nodes) may
    where
      then_settles : Due → Moved
      then_settles next = followed_by (comes world next.number next.node) (settles more nodes (comes world next.number next.node).next)

      by_due : (next : Option Due) → due world nodes ≡ next →
          ((now : List NodeInput) (other : World) → WorldWell now other → May now (settles more nodes other) → MovesWell now (settles more nodes other)) →
          May past (if_due (rests world) then_settles next) → MovesWell past (if_due (rests world) then_settles next)
      by_due None is others may = stays_well past world well
      by_due (Some next) is others may =
          let one = comes world next.number next.node in
          let other = settles more nodes one.next in
          let here = comes_well past world well next.number next.node (due_least world nodes (range_with_len 1 (length world.packets)) next is)
          (lines_front cluster one.inputs other.inputs past may) in
          then_well past one other here (others (behind one.inputs past) one.next here.well (lines_back cluster one.inputs other.inputs past may))

  come_to_well : (number : ℕ) (nodes : List ℕ) → ((node : ℕ) → In node nodes → 1 ≤ node) → (past : List NodeInput) (world : World) → WorldWell past world →
      May past (come_to number nodes world) → MovesWell past (come_to number nodes world)
  unfolding come_to
  come_to_well number [] least past world well may = stays_well past world well
  come_to_well number (node ∷ nodes) least past world well may =
      let one = comes_again world number node in
      let other = come_to number nodes one.next in
      let here = comes_again_well past world well number node (least node (inl refl)) (lines_front cluster one.inputs other.inputs past may) in
      then_well past one other here
      (come_to_well number nodes (λ n among. least n (inr among)) (behind one.inputs past) one.next here.well
      (lines_back cluster one.inputs other.inputs past may))

  all_come_well : (numbers : List ℕ) (past : List NodeInput) (world : World) → WorldWell past world → May past (all_come numbers world) →
      MovesWell past (all_come numbers world)
  unfolding all_come
  all_come_well [] past world well may = stays_well past world well
  all_come_well (number ∷ numbers) past world well may =
      let one = come_to number (node_numbers world) world in
      let other = all_come numbers one.next in
      let here = come_to_well number (node_numbers world) (λ node among. row_least 1 (length world.runners) node among) past world well
      (lines_front cluster one.inputs other.inputs past may) in
      then_well past one other here
      (all_come_well numbers (behind one.inputs past) one.next here.well (lines_back cluster one.inputs other.inputs past may))

  replays_well : (more count : ℕ) (past : List NodeInput) (world : World) → WorldWell past world → May past (replays more count world) →
      MovesWell past (replays more count world)
  unfolding replays
  replays_well zero count past world well may = stays_well past world well
  replays_well (suc more) count past world well may =
      let one = all_come (reverse (range_with_len 1 count)) world in
      let other = replays more count one.next in
      let here = all_come_well (reverse (range_with_len 1 count)) past world well (lines_front cluster one.inputs other.inputs past may) in
      then_well past one other here
      (replays_well more count (behind one.inputs past) one.next here.well (lines_back cluster one.inputs other.inputs past may))

  -- ---- lines

  -- what a line leaves
  pub record LineWell (past : List NodeInput) (done : Stepped) : Type 0 where
    pub next : World
    pub stage_is : done.next ≡ Some next
    pub well : WorldWell (behind done.inputs past) next
    pub fine : (print : Print) → In (At m print) done.prints → Fine print

  -- what comes by a line on a session of the node asks so
  abbrev pub LineAsks : Settings → World → List ℕ → Type 0
  LineAsks settings world line =
      (session : ℕ) (pdu : Pdu) → EndsIn world line m session pdu →
      AsksBy cluster m first Before Asked Says says session pdu.sequence (request_of settings.routes pdu.body)

  module _ (settings : Settings) (past : List NodeInput) (world : World) (well : WorldWell past world) (line : List ℕ)
      (asks : LineAsks settings world line) where
    abbrev MayDo : Stepped → Type 0
    MayDo done = MayHappen cluster (behind done.inputs past)

    does_well : (moved : Moved) (done : Stepped) → stepped moved ≡ Some done → (May past moved → MovesWell past moved) → MayDo done → LineWell past done
    does_well moved done is moves may =
        let same = the_same (record { next = Some moved.next; inputs = moved.inputs; prints = moved.prints }) done is in
        let it = moves (subst MayDo (sym same) may) in
        subst (LineWell past) same (record { next = moved.next; stage_is = refl; well = it.well; fine = it.fine })
      where
        the_same : (one other : Stepped) → Some one ≡ Some other → one ≡ other
        the_same one other is = cc

    said_well : (said : Said) (done : Stepped) → said_within (length world.runners) line ≡ Some said → moved_by settings world said ≡ Some done →
        MayDo done → LineWell past done
    said_well Skipped done says is = does_well (rests world) done is (λ may. stays_well past world well)
    said_well (Nodes count serial) done says is = absurd cc
    said_well (Octets node session octets) done says is =
        let least = (spells_within (length world.runners) line (Octets node session octets) says).wording.0.least in
        does_well (hears settings world node session octets) done is
        (hears_well past world well node least settings session octets (λ same runner there frame ends pdu reads. asks session pdu (record {
          frame = frame;
          ends = record {
            octets = octets;
            says = says ∙ ap (λ (n : ℕ). Some (Octets n session octets)) same;
            runner = runner;
            there = ap (λ (n : ℕ). runner_at world n) (sym same) ∙ there;
            ends = ends;
          };
          reads = reads;
        })))
    said_well (Deliver number node) done says is =
        let least = (spells_within (length world.runners) line (Deliver number node) says).wording.1.least in
        does_well (comes world number node) done is (comes_well past world well number node least)
    said_well (Crash node number after) done says is =
        let least = (spells_within (length world.runners) line (Crash node number after) says).wording.0.least in
        does_well (crashes world node number after) done is (crashes_well past world well node least number after)
    said_well (Tick node moment) done says is =
        let least = (spells_within (length world.runners) line (Tick node moment) says).wording.0.least in
        does_well (ticks world node moment) done is (ticks_well past world well node least moment)
    said_well (Grant node id) done says is =
        let least = (spells_within (length world.runners) line (Grant node id) says).wording.0.least in
        does_well (grants world node id) done is (grants_well past world well node least id)
    said_well (Settle nodes) done says is =
        does_well (on_settle world nodes) done is (settles_well most_deliveries nodes past world well)
    said_well (Restart node) done says is =
        let least = (spells_within (length world.runners) line (Restart node) says).wording.0.least in
        does_well (restarts world node) done is (λ may. restarts_well past world well node least)
    said_well (Replay count) done says is =
        does_well (on_replay world count) done is (replays_well count (length world.packets) past world well)

    pub line_well : (done : Stepped) → step_of settings (Some world) line ≡ Some done → MayDo done → LineWell past done
    unfolding step_of
    line_well done is = by_said (said_within (length world.runners) line) refl is
      where
        by_said : (said : Option Said) → said_within (length world.runners) line ≡ said → step_by settings (Some world) said ≡ Some done →
            MayDo done → LineWell past done
        by_said None says is = absurd cc
        by_said (Some said) says is = said_well said done says is

  -- what comes by these lines asks so
  abbrev pub AllAsk : Settings → World → List (List ℕ) → Type 0
  AllAsk settings world lines =
      (session : ℕ) (pdu : Pdu) → ComesBy settings world lines (λ w line. EndsIn w line m session pdu) →
      AsksBy cluster m first Before Asked Says says session pdu.sequence (request_of settings.routes pdu.body)

  -- what these lines print at the node is fine
  pub lines_fine : (settings : Settings) (lines : List (List ℕ)) (past : List NodeInput) (world : World) → WorldWell past world → AllAsk settings world lines →
      (inputs : List NodeInput) (prints : List WorldPrint) (stage : Stage) → Joins settings (Some world) lines inputs prints stage →
      MayHappen cluster (behind inputs past) → (print : Print) → In (At m print) prints → Fine print
  unfolding Joins
  lines_fine settings [] past world well asks inputs prints stage joins may print among = absurd (subst (In (At m print)) joins.1 among)
  lines_fine settings (line ∷ lines) past world well asks inputs prints stage joins may print among =
      let done = joins.0 in
      let happens = subst (λ (came : List NodeInput). MayHappen cluster (behind came past)) joins.4 may in
      let one = line_well settings past world well line
      (λ session pdu ends. asks session pdu (record {
        before = [];
        line = line;
        later = lines;
        lines_are = refl;
        world = world;
        came = [];
        prints = [];
        joins = (refl, refl, refl);
        ends = ends;
      })) done joins.3 (lines_front cluster done.inputs joins.1 past happens) in
      elim (in_either (At m print) done.prints joins.2 (subst (In (At m print)) joins.5 among)) [
        | inl here ↦ one.fine print here
        | inr there ↦
            lines_fine settings lines (behind done.inputs past) one.next one.well
            (λ session pdu comes. asks session pdu (record {
              before = line ∷ comes.before;
              line = comes.line;
              later = comes.later;
              lines_are = ap (λ (others : List (List ℕ)). line ∷ others) comes.lines_are;
              world = comes.world;
              came = done.inputs ++ comes.came;
              prints = done.prints ++ comes.prints;
              joins = (
                done,
                comes.came,
                comes.prints,
                joins.3,
                refl,
                refl,
                subst (λ (middle : Stage). Joins settings middle comes.before comes.came comes.prints (Some comes.world)) (sym one.stage_is) comes.joins,
              );
              ends = comes.ends;
            })) joins.1 joins.2 stage
            (subst (λ (middle : Stage). Joins settings middle lines joins.1 joins.2 stage) one.stage_is joins.6)
            (lines_back cluster done.inputs joins.1 past happens) print there
      ]
