-- Where the world of a script over several nodes stands, and what its lines do.
use Rattle.std.proofs.Common.{◌≡◌, ℕ, ◌≤◌, zero, suc, pred, Bool, true, false, List, [], ◌∷◌, ◌++◌, length, map, Option, Some, None, refl}
use Rattle.std.proofs.Common.{sym, ap, subst, ◌∙◌, append_assoc, inl, inr, arith}
use Rattle.std.specs.Prelude.{find, if◌then◌else◌, reverse}
use Rattle.std.specs.List.{range_with_len}
use Rattle.std.proofs.lemmas.List.{length-set}
use Rattle.std.proofs.lemmas.Option.{slice_get_within}
use Rattle.mc_model.specs.synod.Lists.{In}
use Rattle.mc_model.specs.synod.Packet.{Packet}
use Rattle.mc_model.specs.node.Input.{Input}
use Rattle.mc_model.specs.cluster.Steps.{Cluster, setup_of}
use Rattle.mc_parts.proofs.Membership.{at_place, in_either}
use Rattle.mc_laws.proofs.invariant.Growth.{changed_cases}
use Rattle.node_model.specs.Kept.{Kept}
use Rattle.node_model.specs.Stepped.{sender_of}
use Rattle.node_laws.specs.Clusters.{NodeInput, kept_reached, step_at}
use Rattle.node_laws.specs.Runs.{IsOneOf}
use Rattle.script_text.specs.Left.{followed_by, rests}
use Rattle.script_text.specs.Node.{Node, awaiting}
use Rattle.script_text.specs.Prints.{Print}
use Rattle.script_text.specs.Runner.{Acted, Runner, given_out, on_delivery, on_grant, on_octets, on_restart, on_tick}
use Rattle.script_text.specs.Settings.{Settings}
use Rattle.script_text.specs.Prints.{At, Refuses, StopsSettling, WorldPrint}
use Rattle.script_text.specs.World.{most_deliveries}
use Rattle.script_text.specs.World.{Due, Moved, World, acts, all_come, comes, comes_again, comes_if, comes_to, no_node}
use Rattle.script_text.specs.World.{crashed, crashes, crashes_if, due, due_among, due_at, due_first, grants, hears, if_due, if_up}
use Rattle.script_text.specs.World.{is_down, is_up, is_up_at, lacks, marked, no_packet, node_numbers, on_replay, on_settle, packet_of}
use Rattle.script_text.specs.World.{refuses, replays, restarts, restarts_if, runner_at, settles, shared, takes_part}
use Rattle.script_text.specs.World.{ticks, unsettled, up_or_refuses}
use Rattle.world_fates.proofs.node.Posting.{found_in}
use Rattle.world_fates.proofs.node.Behind.{behind, behind_then, came_to, input_to, sent_later}
use Rattle.world_fates.proofs.node.ReceiptsOut.{AreReceiptsOut, receipts_out_later}
use Rattle.world_fates.proofs.node.Standing.{IsAt, IsFit, Member, WereSent, crash_steps}
use Rattle.world_fates.proofs.node.Tellings.{FactOfPrints, IsTelling, NodePrint, TakesDeliveries, by_node, prints_at}
use Rattle.world_fates.proofs.node.Acting.{ActsSo, IsServing, delivery_acts, gone_are_mute, grant_acts, mute_acts, octets_act, restart_acts, tick_acts}
use Rattle.world_fates.proofs.Places.{row_least, set_cases}

-- ---- a crash of a node

crash_acts : (member : Member) (Tells : FactOfPrints) (telling : IsTelling member.cluster Tells)
    (past : List NodeInput) (runner : Runner) (packet : Packet) (after : Bool) → IsServing member Tells telling past runner →
    In packet (kept_reached member.cluster past).packets → ActsSo member Tells past false (crashed packet after runner)
crash_acts member Tells telling past runner packet after s sent =
    mute_acts member Tells telling past false (crashed packet after runner) (crash_steps member past s.fit runner.node s.at packet after sent)
    (λ receipt among. absurd among) (gone_are_mute runner.sessions)

-- ---- where a world stands

abbrev pub member_of : (cluster : Cluster) (number : ℕ) → IsOneOf (setup_of cluster number) → Member
member_of cluster number one_of = record { cluster = cluster; number = number; one_of = one_of }

pub record IsRunner (member : Member) (past : List NodeInput) (runner : Runner) : Type 0 where
  pub at : IsAt member past runner.node.kept.up runner.node
  pub waiting : AreReceiptsOut member.cluster member.number past runner.waiting

-- each node is where the node of the cluster is after inputs, and its packets were sent
pub record WorldStands (cluster : Cluster) (past : List NodeInput) (world : World) : Type 0 where
  pub fit : IsFit cluster past
  pub few : cluster.nodes ≤ 9
  pub count : length world.runners ≡ cluster.nodes
  pub each : (number : ℕ) (one_of : IsOneOf (setup_of cluster number)) (runner : Runner) → runner_at world number ≡ Some runner →
      IsRunner (member_of cluster number one_of) past runner
  pub sent : WereSent cluster past world.packets

-- what is printed at nodes: no other print tells of a fate
abbrev pub told_by : List WorldPrint → List NodePrint
told_by [] = []
told_by (At node print ∷ prints) = by_node node print ∷ told_by prints
told_by (Refuses number ∷ prints) = told_by prints
told_by (StopsSettling ∷ prints) = told_by prints

pub told_by_both : (first others : List WorldPrint) → told_by (first ++ others) ≡ told_by first ++ told_by others
told_by_both [] others = refl
told_by_both (At node print ∷ first) others = ap (λ (told : List NodePrint). by_node node print ∷ told) (told_by_both first others)
told_by_both (Refuses number ∷ first) others = told_by_both first others
told_by_both (StopsSettling ∷ first) others = told_by_both first others

pub told_by_all : (node : ℕ) (print : Print) (prints : List WorldPrint) → In (At node print) prints → In (by_node node print) (told_by prints)
told_by_all node print [] among = among
told_by_all node print (first ∷ prints) (inl same) = subst (λ (p : WorldPrint). In (by_node node print) (told_by (p ∷ prints))) same (inl refl)
told_by_all node print (At other printed ∷ prints) (inr later) = inr (told_by_all node print prints later)
told_by_all node print (Refuses number ∷ prints) (inr later) = told_by_all node print prints later
told_by_all node print (StopsSettling ∷ prints) (inr later) = told_by_all node print prints later

told_by_node : (node : ℕ) (prints : List Print) → told_by (map (At node) prints) ≡ prints_at node prints
told_by_node node [] = refl
told_by_node node (print ∷ prints) = ap (λ (told : List NodePrint). by_node node print ∷ told) (told_by_node node prints)

-- the world stands where what came to nodes leads, and what is printed was given out
pub record MovesSo (cluster : Cluster) (Tells : FactOfPrints) (past : List NodeInput) (moved : Moved) : Type 0 where
  pub later : List NodeInput
  pub later_is : later ≡ behind moved.inputs past
  pub stands : WorldStands cluster later moved.next
  pub tell : (last : List NodeInput) (prints : List NodePrint) → Tells last later prints → Tells last past (told_by moved.prints ++ prints)

-- the other nodes stand still
pub kept_apart : (cluster : Cluster) (inputs : List Input) (past : List NodeInput) (node other : ℕ) → (other ≡ node → ⊥) →
    (kept_reached cluster (came_to node inputs past)).kept other ≡ (kept_reached cluster past).kept other
kept_apart cluster [] past node other apart = refl
kept_apart cluster (input ∷ inputs) past node other apart =
    kept_apart cluster inputs (input_to node input ∷ past) node other apart
    ∙ elim (changed_cases (kept_reached cluster past).kept node (step_at cluster (kept_reached cluster past) (input_to node input)).kept other) [
      | inl here ↦ absurd (apart here.0)
      | inr elsewhere ↦ elsewhere
    ]

-- a node that there is
pub one_of_many : (cluster : Cluster) (past : List NodeInput) (world : World) → WorldStands cluster past world → (number : ℕ) (runner : Runner) → 1 ≤ number →
    runner_at world number ≡ Some runner → IsOneOf (setup_of cluster number)
one_of_many cluster past world stands number runner least is =
    let within = slice_get_within world.runners (pred number) runner is in
    let count = stands.count in
    record { least = least; most = omega (arith, within, count, least); few = stands.few }

-- a node at which a packet is due has a number
pub due_least : (world : World) (nodes numbers : List ℕ) (next : Due) → due_among world nodes numbers ≡ Some next → 1 ≤ next.node
unfolding due_among
due_least world nodes [] next is = absurd cc
due_least world nodes (number ∷ numbers) next is =
    by_found (due_at world nodes number (packet_of world.packets number)) refl (due_least world nodes numbers next) is
  where
    at_packet : (packet : Option Packet) (node : ℕ) → due_at world nodes number packet ≡ Some node → 1 ≤ node
    at_packet None node is = absurd cc
    at_packet (Some packet) node is = by_test (takes_part nodes (sender_of packet)) is
      where
        by_test : (test : Bool) → (if test then find (lacks world nodes number) (node_numbers world) else None) ≡ Some node → 1 ≤ node
        by_test true is = row_least 1 (length world.runners) node (found_in (lacks world nodes number) (node_numbers world) node is)
        by_test false is = absurd cc

    by_found : (found : Option ℕ) → due_at world nodes number (packet_of world.packets number) ≡ found →
        (due_among world nodes numbers ≡ Some next → 1 ≤ next.node) → due_first number found (due_among world nodes numbers) ≡ Some next → 1 ≤ next.node
    by_found None at others is = others is
    by_found (Some node) at others is =
        let same : node ≡ next.node = cc in subst (λ (n : ℕ). 1 ≤ n) same (at_packet (packet_of world.packets number) node at)

module _ (cluster : Cluster) (Tells : FactOfPrints) (telling : IsTelling cluster Tells) where
  -- ---- nothing is done, or one thing after the other

  stays_so : (past : List NodeInput) (world : World) → WorldStands cluster past world → MovesSo cluster Tells past (rests world)
  stays_so past world stands = record { later = past; later_is = refl; stands = stands; tell = λ last prints tells. tells }

  -- and what is printed is by no node
  refuses_so : (past : List NodeInput) (world : World) (number : ℕ) → WorldStands cluster past world → MovesSo cluster Tells past (refuses world number)
  refuses_so past world number stands = record { later = past; later_is = refl; stands = stands; tell = λ last prints tells. tells }

  unsettled_so : (past : List NodeInput) (world : World) → WorldStands cluster past world → MovesSo cluster Tells past (unsettled world)
  unsettled_so past world stands = record { later = past; later_is = refl; stands = stands; tell = λ last prints tells. tells }

  then_so : (past : List NodeInput) (first other : Moved) (moves : MovesSo cluster Tells past first) → MovesSo cluster Tells moves.later other →
      MovesSo cluster Tells past (followed_by first other)
  then_so past first other moves others = record {
    later = others.later;
    later_is = behind_then first.inputs other.inputs past moves.later others.later moves.later_is others.later_is;
    stands = others.stands;
    tell = λ last prints tells.
        subst (Tells last past)
        (sym (append_assoc (told_by first.prints) (told_by other.prints) prints)
        ∙ ap (λ (told : List NodePrint). told ++ prints) (sym (told_by_both first.prints other.prints)))
        (moves.tell last (told_by other.prints ++ prints) (others.tell last prints tells));
  }

  -- ---- a node of many

  module _ (past : List NodeInput) (world : World) (stands : WorldStands cluster past world) (number : ℕ)
      (one_of : IsOneOf (setup_of cluster number)) (up : Bool) (acted : Acted) (so : ActsSo (member_of cluster number one_of) Tells past up acted) where
    abbrev later : List NodeInput
    later = so.leads.later

    abbrev as_node : List Packet → ℕ → Node
    as_node packets node = record { setup = setup_of cluster node; kept = (kept_reached cluster later).kept node; packets = packets }

    runner_here : (node : ℕ) (other : IsOneOf (setup_of cluster node)) → node ≡ number → IsRunner (member_of cluster node other) later (given_out acted.next)
    runner_here node other same = record {
      at = record {
        is = ap (λ (n : Node). awaiting n []) so.leads.at.is ∙ ap (as_node []) (sym same);
        sent = λ packet among. absurd among;
        up_is = refl;
      };
      waiting = subst (λ (n : ℕ). AreReceiptsOut cluster n later acted.next.waiting) (sym same) so.waiting;
    }

    runner_apart : (node : ℕ) (other : IsOneOf (setup_of cluster node)) (runner : Runner) → (node ≡ number → ⊥) → runner_at world node ≡ Some runner →
        IsRunner (member_of cluster node other) later runner
    runner_apart node other runner apart is =
        let old = stands.each node other runner is in
        let same : (kept_reached cluster later).kept node ≡ (kept_reached cluster past).kept node =
        ap (λ (inputs : List NodeInput). (kept_reached cluster inputs).kept node) so.leads.later_is ∙ kept_apart cluster acted.inputs past number node apart in
        record {
          at = record {
            is = old.at.is ∙ ap (λ (k : Kept). record { setup = setup_of cluster node; kept = k; packets = runner.node.packets }) (sym same);
            sent = λ packet among. sent_since packet (old.at.sent packet among);
            up_is = refl;
          };
          waiting = subst (λ (inputs : List NodeInput). AreReceiptsOut cluster node inputs runner.waiting) (sym so.leads.later_is)
              (receipts_out_later cluster node (map (input_to number) acted.inputs) past runner.waiting old.waiting);
        }
      where
        sent_since : (packet : Packet) → In packet (kept_reached cluster past).packets → In packet (kept_reached cluster later).packets
        sent_since packet among = subst (λ (inputs : List NodeInput). In packet (kept_reached cluster inputs).packets) (sym so.leads.later_is)
            (sent_later cluster (map (input_to number) acted.inputs) past packet among)

    each_runner : (node : ℕ) (other : IsOneOf (setup_of cluster node)) (runner : Runner) → runner_at (shared world number acted).next node ≡ Some runner →
        IsRunner (member_of cluster node other) later runner
    each_runner node other runner is =
        elim (set_cases world.runners (pred number) (given_out acted.next) (pred node) runner is) [
          | inl here ↦
              let least = other.least in
              let first = one_of.least in
              let same : node ≡ number = omega (arith, here.0, least, first) in
              subst (IsRunner (member_of cluster node other) later) (sym here.1) (runner_here node other same)
          | inr apart ↦ runner_apart node other runner (λ same. apart.1 (ap pred same)) apart.0
        ]

    pub shared_so : MovesSo cluster Tells past (shared world number acted)
    shared_so = record {
      later = later;
      later_is = so.leads.later_is;
      stands = record {
        fit = so.leads.fit;
        few = stands.few;
        count = length-set world.runners (pred number) (given_out acted.next) ∙ stands.count;
        each = each_runner;
        sent = λ packet among. elim (in_either packet world.packets acted.next.node.packets among) [
          | inl old ↦
              subst (λ (inputs : List NodeInput). In packet (kept_reached cluster inputs).packets) (sym so.leads.later_is)
              (sent_later cluster (map (input_to number) acted.inputs) past packet (stands.sent packet old))
          | inr new ↦ so.leads.at.sent packet new
        ];
      };
      tell = λ last prints tells.
          subst (λ (told : List NodePrint). Tells last past (told ++ prints)) (sym (told_by_node number acted.prints)) (so.tell last prints tells);
    }

  module _ (past : List NodeInput) (world : World) (stands : WorldStands cluster past world) where
    -- this is done by a node that is up
    if_up_so : (number : ℕ) → 1 ≤ number → (up : Runner → Moved) →
        ((one_of : IsOneOf (setup_of cluster number)) (runner : Runner) → IsServing (member_of cluster number one_of) Tells telling past runner →
        MovesSo cluster Tells past (up runner)) →
        MovesSo cluster Tells past (if_up world number up)
    if_up_so number least up so = by_runner (runner_at world number) refl
      where
        by_test : (runner : Runner) (one_of : IsOneOf (setup_of cluster number)) → IsRunner (member_of cluster number one_of) past runner →
            (test : Bool) → is_up runner ≡ test → MovesSo cluster Tells past (if test then up runner else refuses world is_down)
        by_test runner one_of stood true is =
            so one_of runner (record { fit = stands.fit; at = record { is = stood.at.is; sent = stood.at.sent; up_is = is }; waiting = stood.waiting })
        by_test runner one_of stood false is = refuses_so past world is_down stands

        by_runner : (found : Option Runner) → runner_at world number ≡ found → MovesSo cluster Tells past (up_or_refuses world up found)
        by_runner None is = refuses_so past world no_node stands
        by_runner (Some runner) is =
            let one_of = one_of_many cluster past world stands number runner least is in
            by_test runner one_of (stands.each number one_of runner is) (is_up runner) refl

    acts_so : (number : ℕ) → 1 ≤ number → (up : Bool) (act : Runner → Acted) →
        ((one_of : IsOneOf (setup_of cluster number)) (runner : Runner) → IsServing (member_of cluster number one_of) Tells telling past runner →
        ActsSo (member_of cluster number one_of) Tells past up (act runner)) →
        MovesSo cluster Tells past (acts world number act)
    acts_so number least up act so =
        if_up_so number least (λ runner. shared world number (act runner))
        (λ one_of runner serving. shared_so past world stands number one_of up (act runner) (so one_of runner serving))

    pub hears_so : (settings : Settings) (number session : ℕ) (octets : List ℕ) → 1 ≤ number →
        MovesSo cluster Tells past (hears settings world number session octets)
    hears_so settings number session octets least =
        acts_so number least true (λ runner. on_octets settings runner session octets)
        (λ one_of runner serving. octets_act (member_of cluster number one_of) Tells telling settings past runner session octets serving)

    pub ticks_so : (number moment : ℕ) → 1 ≤ number → MovesSo cluster Tells past (ticks world number moment)
    ticks_so number moment least =
        acts_so number least true (λ runner. on_tick runner moment)
        (λ one_of runner serving. tick_acts (member_of cluster number one_of) Tells telling past runner moment serving)

    pub grants_so : TakesDeliveries Tells → (number id : ℕ) → 1 ≤ number → MovesSo cluster Tells past (grants world number id)
    grants_so takes number id least =
        acts_so number least true (λ runner. on_grant runner id)
        (λ one_of runner serving. grant_acts (member_of cluster number one_of) Tells telling takes past runner id serving)

    -- a node starts anew, whether it is up or down
    pub restarts_so : (number : ℕ) → 1 ≤ number → MovesSo cluster Tells past (restarts world number)
    restarts_so number least = by_runner (runner_at world number) refl
      where
        by_runner : (found : Option Runner) → runner_at world number ≡ found → MovesSo cluster Tells past (restarts_if world number found)
        by_runner None is = refuses_so past world no_node stands
        by_runner (Some runner) is =
            let one_of = one_of_many cluster past world stands number runner least is in
            let stood = stands.each number one_of runner is in
            elim (restart_acts (member_of cluster number one_of) Tells telling past runner.node.kept.up runner stands.fit stood.at stood.waiting) [
              | inl anew ↦ shared_so past world stands number one_of true (on_restart runner) anew
              | inr declined ↦ shared_so past world stands number one_of runner.node.kept.up (on_restart runner) declined
            ]

    -- ---- a packet comes

    packet_sent : (number : ℕ) (packet : Packet) → packet_of world.packets number ≡ Some packet → In packet (kept_reached cluster past).packets
    packet_sent zero packet is = absurd cc
    packet_sent (suc place) packet is = stands.sent packet (at_place world.packets place packet is)

    marked_stands : (number node : ℕ) → WorldStands cluster past (marked world number node)
    marked_stands number node = record { fit = stands.fit; few = stands.few; count = stands.count; each = stands.each; sent = stands.sent }

    pub comes_so : (number node : ℕ) → 1 ≤ node → MovesSo cluster Tells past (comes world number node)
    comes_so number node least = by_packet (packet_of world.packets number) refl
      where
        by_packet : (found : Option Packet) → packet_of world.packets number ≡ found → MovesSo cluster Tells past (comes_if world number node found)
        by_packet None is = refuses_so past world no_packet stands
        by_packet (Some packet) is =
            if_up_so node least (λ runner. shared (marked world number node) node (on_delivery runner packet))
            (λ one_of runner serving.
            shared_so past (marked world number node) (marked_stands number node) node one_of true (on_delivery runner packet)
            (delivery_acts (member_of cluster node one_of) Tells telling past runner packet serving (packet_sent number packet is)))

    pub crashes_so : (node number : ℕ) (after : Bool) → 1 ≤ node → MovesSo cluster Tells past (crashes world node number after)
    crashes_so node number after least = by_packet (packet_of world.packets number) refl
      where
        by_packet : (found : Option Packet) → packet_of world.packets number ≡ found → MovesSo cluster Tells past (crashes_if world node after found)
        by_packet None is = refuses_so past world no_packet stands
        by_packet (Some packet) is =
            acts_so node least false (crashed packet after)
            (λ one_of runner serving. crash_acts (member_of cluster node one_of) Tells telling past runner packet after serving (packet_sent number packet is))

    comes_again_so : (number node : ℕ) → 1 ≤ node → MovesSo cluster Tells past (comes_again world number node)
    comes_again_so number node least = by_test (is_up_at (runner_at world node))
      where
        by_test : (up : Bool) → MovesSo cluster Tells past (if up then comes world number node else rests world)
        by_test true = comes_so number node least
        by_test false = stays_so past world stands

  -- ---- settling

  settles_so : (more : ℕ) (nodes : List ℕ) (past : List NodeInput) (world : World) → WorldStands cluster past world →
      MovesSo cluster Tells past (settles more nodes world)
  unfolding settles
  settles_so zero nodes past world stands = unsettled_so past world stands
  settles_so (suc more) nodes past world stands = by_due (due world nodes) refl (settles_so more nodes)
    where
      by_due : (next : Option Due) → due world nodes ≡ next →
          ((now : List NodeInput) (other : World) → WorldStands cluster now other → MovesSo cluster Tells now (settles more nodes other)) →
          MovesSo cluster Tells past (if_due (rests world)
          (λ next. followed_by (comes world next.number next.node) (settles more nodes (comes world next.number next.node).next)) next)
      by_due None is others = stays_so past world stands
      by_due (Some next) is others =
          let one = comes world next.number next.node in
          let here = comes_so past world stands next.number next.node (due_least world nodes (range_with_len 1 (length world.packets)) next is) in
          then_so past one (settles more nodes one.next) here (others here.later one.next here.stands)

  pub settle_so : (past : List NodeInput) (world : World) → WorldStands cluster past world → (nodes : List ℕ) →
      MovesSo cluster Tells past (on_settle world nodes)
  settle_so past world stands nodes = settles_so most_deliveries nodes past world stands

  -- ---- a replay

  comes_to_so : (number : ℕ) (nodes : List ℕ) → ((node : ℕ) → In node nodes → 1 ≤ node) → (past : List NodeInput) (world : World) →
      WorldStands cluster past world → MovesSo cluster Tells past (comes_to number nodes world)
  unfolding comes_to
  comes_to_so number [] least past world stands = stays_so past world stands
  comes_to_so number (node ∷ nodes) least past world stands =
      let one = comes_again world number node in
      let here = comes_again_so past world stands number node (least node (inl refl)) in
      then_so past one (comes_to number nodes one.next) here
      (comes_to_so number nodes (λ other among. least other (inr among)) here.later one.next here.stands)

  all_come_so : (numbers : List ℕ) (past : List NodeInput) (world : World) → WorldStands cluster past world →
      MovesSo cluster Tells past (all_come numbers world)
  unfolding all_come
  all_come_so [] past world stands = stays_so past world stands
  all_come_so (number ∷ numbers) past world stands =
      let one = comes_to number (node_numbers world) world in
      let here = comes_to_so number (node_numbers world) (λ node among. row_least 1 (length world.runners) node among) past world stands in
      then_so past one (all_come numbers one.next) here (all_come_so numbers here.later one.next here.stands)

  replays_so : (more count : ℕ) (past : List NodeInput) (world : World) → WorldStands cluster past world → MovesSo cluster Tells past (replays more count world)
  unfolding replays
  replays_so zero count past world stands = stays_so past world stands
  replays_so (suc more) count past world stands =
      let one = all_come (reverse (range_with_len 1 count)) world in
      let here = all_come_so (reverse (range_with_len 1 count)) past world stands in
      then_so past one (replays more count one.next) here (replays_so more count here.later one.next here.stands)

  pub replay_so : (past : List NodeInput) (world : World) → WorldStands cluster past world → (count : ℕ) → MovesSo cluster Tells past (on_replay world count)
  replay_so past world stands count = replays_so count (length world.packets) past world stands
