-- What a line leaves of the deliver_sm that wait for their answers, and when it brings a node an answer.
use Rattle.std.proofs.Common.{◌≡◌, ◌⊎◌, ℕ, ◌≤◌, zero, suc, pred, Bool, true, false, List, [], ◌∷◌, ◌++◌, length, map, Option, Some, None, refl}
use Rattle.std.proofs.Common.{sym, ◌∙◌, ap, subst, inl, inr, arith}
use Rattle.std.specs.Prelude.{if◌then◌else◌, reverse, slice_get}
use Rattle.std.specs.List.{range_with_len}
use Rattle.mc_model.specs.message.Decree.{Delivered}
use Rattle.mc_model.specs.synod.Lists.{In}
use Rattle.mc_model.specs.synod.Packet.{Packet, Slot}
use Rattle.mc_model.specs.node.Input.{Grant as Grants, Input, Response}
use Rattle.mc_model.specs.node.Outcome.{Concluded}
use Rattle.mc_parts.proofs.Membership.{in_either}
use Rattle.node_laws.proofs.invariant.Orders.{in_mapped}
use Rattle.pdu_frames.specs.Frames.{cut}
use Rattle.script_lines.specs.Said.{Said, Skipped, Nodes, Octets, Deliver, Crash, Tick, Grant, Settle, Restart, Replay, said_within}
use Rattle.script_lines.proofs.SaidLemmas.{spells_within}
use Rattle.script_text.proofs.Opening.{opened_there}
use Rattle.script_text.specs.Left.{followed_by, rests}
use Rattle.script_text.specs.Prints.{Delivers, Gone, Print}
use Rattle.script_text.specs.Runner.{Acted, Runner, given_out, held_in, on_delivery, on_grant, on_octets, on_restart, on_tick}
use Rattle.script_text.specs.Settings.{Settings}
use Rattle.script_text.specs.Prints.{At, Refuses, StopsSettling}
use Rattle.script_text.specs.Script.{Stepped, moved_by, step_by, step_of, stepped}
use Rattle.script_text.specs.World.{most_deliveries}
use Rattle.script_text.specs.World.{Due, Moved, NodeInput, World, acts, all_come, comes as packet_comes, comes_again, comes_if, comes_to, no_node}
use Rattle.script_text.specs.World.{crashed, crashes, crashes_if, due, grants, hears, if_due, if_up}
use Rattle.script_text.specs.World.{is_down, is_up, is_up_at, marked, no_packet, node_numbers, on_replay, on_settle, opened, packet_of, refuses}
use Rattle.script_text.specs.World.{replays, restarts, restarts_if, runner_at, settles, shared, ticks, unsettled}
use Rattle.script_text.specs.World.{up_or_refuses}
use Rattle.world_fates.specs.Deliveries.{GoesOut, comes}
use Rattle.world_fates.proofs.Places.{row_least, set_cases}
use Rattle.world_fates.proofs.Worlds.{due_least}
use Rattle.world_fates.proofs.Entries.{AreApart}
use Rattle.world_fates.proofs.Windows.{WaitsOn}
use Rattle.world_fates.proofs.Keeping.{IsAnswerIn, IsPushed, Keeps, Nothing, delivery_keeps, ended_keeps, grant_granting, octets_keep}
use Rattle.world_fates.proofs.Keeping.{restart_keeps, tick_keeps}

-- ---- worlds

-- at a node the deliver_sm of an attempt waits on a session
pub record WaitsAt (world : World) (node session : ℕ) (slot : Slot) (sequence : ℕ) : Type 0 where
  pub runner : Runner
  pub there : runner_at world node ≡ Some runner
  pub waits : WaitsOn runner.sessions session slot sequence

-- at no node two sessions have one number
abbrev pub AreSound : World → Type 0
AreSound world = (node : ℕ) → 1 ≤ node → (runner : Runner) → runner_at world node ≡ Some runner → AreApart runner.sessions

-- So it is then; what waits waited before, and its session is not told to be gone; and if an attempt is answered by ESME_ROK, it is so.
pub record MovesOn (Answers : ℕ → Slot → Type 0) (world : World) (moved : Moved) : Type 0 where
  pub sound : AreSound moved.next
  pub waited : (node : ℕ) → 1 ≤ node → (session : ℕ) (slot : Slot) (sequence : ℕ) → WaitsAt moved.next node session slot sequence →
      WaitsAt world node session slot sequence × (In (At node (Gone session)) moved.prints → ⊥)
  pub answers : (node : ℕ) (slot : Slot) (error : ℕ) → In (comes node (Response slot (Concluded Delivered error))) moved.inputs → Answers node slot

abbrev pub NothingAt : ℕ → Slot → Type 0
NothingAt node slot = ⊥

-- nothing comes to nodes, and the sessions stay
still_moves : (Answers : ℕ → Slot → Type 0) (world : World) (moved : Moved) → AreSound world → moved.next.runners ≡ world.runners → moved.inputs ≡ [] →
    ((node session : ℕ) → In (At node (Gone session)) moved.prints → ⊥) → MovesOn Answers world moved
still_moves Answers world moved sound same none ungone = record {
  sound = λ node least runner is. sound node least runner (ap (λ (runners : List Runner). slice_get runners (pred node)) (sym same) ∙ is);
  waited = λ node least session slot sequence waits. (
    record {
      runner = waits.runner;
      there = ap (λ (runners : List Runner). slice_get runners (pred node)) (sym same) ∙ waits.there;
      waits = waits.waits;
    },
    ungone node session,
  );
  answers = λ node slot error among. absurd (subst (In (comes node (Response slot (Concluded Delivered error)))) none among);
}

stays_moves : (Answers : ℕ → Slot → Type 0) (world : World) → AreSound world → MovesOn Answers world (rests world)
stays_moves Answers world sound = still_moves Answers world (rests world) sound refl refl (λ node session among. among)

refuses_moves : (Answers : ℕ → Slot → Type 0) (world : World) (number : ℕ) → AreSound world → MovesOn Answers world (refuses world number)
refuses_moves Answers world number sound = still_moves Answers world (refuses world number) sound refl refl none
  where
    none : (node session : ℕ) → In (At node (Gone session)) (Refuses number ∷ []) → ⊥
    none node session (inl same) = cc
    none node session (inr nothing) = nothing

unsettled_moves : (Answers : ℕ → Slot → Type 0) (world : World) → AreSound world → MovesOn Answers world (unsettled world)
unsettled_moves Answers world sound = still_moves Answers world (unsettled world) sound refl refl none
  where
    none : (node session : ℕ) → In (At node (Gone session)) (StopsSettling ∷ []) → ⊥
    none node session (inl same) = cc
    none node session (inr nothing) = nothing

then_moves : (Answers : ℕ → Slot → Type 0) (world : World) (one other : Moved) → MovesOn Answers world one → MovesOn Answers one.next other →
    MovesOn Answers world (followed_by one other)
then_moves Answers world one other first last = record {
  sound = last.sound;
  waited = λ node least session slot sequence waits.
      let late = last.waited node least session slot sequence waits in
      let early = first.waited node least session slot sequence late.0 in (
        early.0,
        λ among. elim (in_either (At node (Gone session)) one.prints other.prints among) [ inl here ↦ early.1 here | inr there ↦ late.1 there ],
      );
  answers = λ node slot error among.
      elim (in_either (comes node (Response slot (Concluded Delivered error))) one.inputs other.inputs among) [
        | inl here ↦ first.answers node slot error here
        | inr there ↦ last.answers node slot error there
      ];
}

-- ---- a node of many

-- at the node that acts it waits on a session that the act leaves; at another it waited before
abbrev AtWhich : World → ℕ → Acted → ℕ → ℕ → Slot → ℕ → Type 0
AtWhich world node acted other session slot sequence =
    ((other ≡ node) × WaitsOn acted.next.sessions session slot sequence)
    ⊎ (WaitsAt world other session slot sequence × (other ≡ node → ⊥))

pub one_node : (node other : ℕ) → 1 ≤ node → 1 ≤ other → pred other ≡ pred node → other ≡ node
one_node node other least first same = omega (arith, least, first, same)

at_which : (world : World) (node : ℕ) → 1 ≤ node → (acted : Acted) (other : ℕ) → 1 ≤ other → (session : ℕ) (slot : Slot) (sequence : ℕ) →
    WaitsAt (shared world node acted).next other session slot sequence → AtWhich world node acted other session slot sequence
at_which world node least acted other first session slot sequence waits =
    elim (set_cases world.runners (pred node) (given_out acted.next) (pred other) waits.runner waits.there) [
      | inl here ↦ inl (
        one_node node other least first here.0,
        subst (λ (r : Runner). WaitsOn r.sessions session slot sequence) here.1 waits.waits,
      )
      | inr apart ↦ inr (record { runner = waits.runner; there = apart.0; waits = waits.waits }, λ same. apart.1 (ap pred same))
    ]

-- what a node prints is printed there
pub printed_at : (node other : ℕ) (prints : List Print) (print : Print) → In (At other print) (map (At node) prints) → (other ≡ node) × In print prints
printed_at node other prints print among =
    let it = in_mapped (At node) prints (At other print) among in
    (same_node it.from it.is, subst (λ (p : Print). In p prints) (sym (same_print it.from it.is)) it.among)
  where
    same_node : (from : Print) → At other print ≡ At node from → other ≡ node
    same_node from is = cc

    same_print : (from : Print) → At other print ≡ At node from → print ≡ from
    same_print from is = cc

sound_then : (world : World) (node : ℕ) → 1 ≤ node → (acted : Acted) → AreSound world → AreApart acted.next.sessions →
    AreSound (shared world node acted).next
sound_then world node least acted sound apart other first runner is =
    elim (set_cases world.runners (pred node) (given_out acted.next) (pred other) runner is) [
      | inl here ↦ subst (λ (r : Runner). AreApart r.sessions) (sym here.1) apart
      | inr elsewhere ↦ sound other first runner elsewhere.0
    ]

-- a node is answered so
record IsOfNode (world : World) (node : ℕ) (Answers : Runner → Slot → Type 0) (other : ℕ) (slot : Slot) : Type 0 where
  same : other ≡ node
  runner : Runner
  there : runner_at world node ≡ Some runner
  answers : Answers runner slot

module _ (world : World) (node : ℕ) (least : 1 ≤ node) (sound : AreSound world) (runner : Runner) (there : runner_at world node ≡ Some runner) where
  shared_moves : (Answers : Runner → Slot → Type 0) (acted : Acted) → Keeps (Answers runner) runner.sessions acted →
      MovesOn (IsOfNode world node Answers) world (shared world node acted)
  shared_moves Answers acted keeps = record {
    sound = sound_then world node least acted sound keeps.apart;
    waited = λ other first session slot sequence waits.
        elim (at_which world node least acted other first session slot sequence waits) [
          | inl here ↦
              let it = keeps.waited session slot sequence here.1 in (
                record {
                  runner = runner;
                  there = ap (λ (n : ℕ). runner_at world n) here.0 ∙ there;
                  waits = it.0;
                },
                λ among. it.1 (printed_at node other acted.prints (Gone session) among).1,
              )
          | inr apart ↦ (apart.0, λ among. apart.1 (printed_at node other acted.prints (Gone session) among).0)
        ];
    answers = λ other slot error among.
        let it = in_mapped (comes node) acted.inputs (comes other (Response slot (Concluded Delivered error))) among in
        record {
          same = ap (λ (n : NodeInput). n.node) it.is;
          runner = runner;
          there = there;
          answers = keeps.answers slot error (subst (λ (i : Input). In i acted.inputs) (sym (ap (λ (n : NodeInput). n.input) it.is)) it.among);
        };
  }

-- none for all but a frame
nothing_moves : (world : World) (node : ℕ) (moved : Moved) → MovesOn (IsOfNode world node (λ runner. Nothing)) world moved → MovesOn NothingAt world moved
nothing_moves world node moved moves = record {
  sound = moves.sound;
  waited = moves.waited;
  answers = λ other slot error among. (moves.answers other slot error among).answers;
}

if_up_moves : (Answers : ℕ → Slot → Type 0) (world : World) (node : ℕ) → AreSound world → (up : Runner → Moved) →
    ((runner : Runner) → runner_at world node ≡ Some runner → MovesOn Answers world (up runner)) → MovesOn Answers world (if_up world node up)
if_up_moves Answers world node sound up so = by_runner (runner_at world node) refl
  where
    by_test : (runner : Runner) → runner_at world node ≡ Some runner → (test : Bool) →
        MovesOn Answers world (if test then up runner else refuses world is_down)
    by_test runner is true = so runner is
    by_test runner is false = refuses_moves Answers world is_down sound

    by_runner : (found : Option Runner) → runner_at world node ≡ found → MovesOn Answers world (up_or_refuses world up found)
    by_runner None is = refuses_moves Answers world no_node sound
    by_runner (Some runner) is = by_test runner is (is_up runner)

acts_move : (world : World) (node : ℕ) → 1 ≤ node → AreSound world → (Answers : Runner → Slot → Type 0) (act : Runner → Acted) →
    ((runner : Runner) → AreApart runner.sessions → Keeps (Answers runner) runner.sessions (act runner)) →
    MovesOn (IsOfNode world node Answers) world (acts world node act)
acts_move world node least sound Answers act keeps =
    if_up_moves (IsOfNode world node Answers) world node sound (λ runner. shared world node (act runner))
    (λ runner is. shared_moves world node least sound runner is Answers (act runner) (keeps runner (sound node least runner is)))

-- ---- lines that bring no answer

ticks_move : (world : World) (node moment : ℕ) → 1 ≤ node → AreSound world → MovesOn NothingAt world (ticks world node moment)
ticks_move world node moment least sound =
    nothing_moves world node (ticks world node moment)
    (acts_move world node least sound (λ runner. Nothing) (λ runner. on_tick runner moment) (λ runner apart. tick_keeps runner moment apart))

restarts_move : (world : World) (node : ℕ) → 1 ≤ node → AreSound world → MovesOn NothingAt world (restarts world node)
restarts_move world node least sound = by_runner (runner_at world node) refl
  where
    by_runner : (found : Option Runner) → runner_at world node ≡ found → MovesOn NothingAt world (restarts_if world node found)
    by_runner None is = refuses_moves NothingAt world no_node sound
    by_runner (Some runner) is =
        nothing_moves world node (shared world node (on_restart runner))
        (shared_moves world node least sound runner is (λ other. Nothing) (on_restart runner) (restart_keeps runner (sound node least runner is)))

comes_move : (world : World) (number node : ℕ) → 1 ≤ node → AreSound world → MovesOn NothingAt world (packet_comes world number node)
comes_move world number node least sound = by_packet (packet_of world.packets number)
  where
    up : Packet → Runner → Moved
    up packet runner = shared (marked world number node) node (on_delivery runner packet)

    there : (packet : Packet) (runner : Runner) → runner_at world node ≡ Some runner → MovesOn NothingAt world (up packet runner)
    there packet runner is =
        let it = nothing_moves (marked world number node) node (up packet runner)
        (shared_moves (marked world number node) node least sound runner is (λ other. Nothing) (on_delivery runner packet)
        (delivery_keeps runner packet (sound node least runner is))) in
        record {
          sound = it.sound;
          waited = λ other first session slot sequence waits.
              let old = it.waited other first session slot sequence waits in
              (record { runner = old.0.runner; there = old.0.there; waits = old.0.waits }, old.1);
          answers = it.answers;
        }

    by_packet : (found : Option Packet) → MovesOn NothingAt world (comes_if world number node found)
    by_packet None = refuses_moves NothingAt world no_packet sound
    by_packet (Some packet) = if_up_moves NothingAt world node sound (up packet) (there packet)

crashes_move : (world : World) (node number : ℕ) (after : Bool) → 1 ≤ node → AreSound world → MovesOn NothingAt world (crashes world node number after)
crashes_move world node number after least sound = by_packet (packet_of world.packets number)
  where
    crash : (packet : Packet) (runner : Runner) → AreApart runner.sessions → Keeps Nothing runner.sessions (crashed packet after runner)
    crash packet runner apart = ended_keeps runner (crashed packet after runner) refl silent
      where
        silent : (slot : Slot) (error : ℕ) → In (Response slot (Concluded Delivered error)) (crashed packet after runner).inputs → ⊥
        silent slot error (inl same) = cc
        silent slot error (inr none) = none

    by_packet : (found : Option Packet) → MovesOn NothingAt world (crashes_if world node after found)
    by_packet None = refuses_moves NothingAt world no_packet sound
    by_packet (Some packet) =
        nothing_moves world node (acts world node (crashed packet after))
        (acts_move world node least sound (λ runner. Nothing) (crashed packet after) (crash packet))

comes_again_move : (world : World) (number node : ℕ) → 1 ≤ node → AreSound world → MovesOn NothingAt world (comes_again world number node)
comes_again_move world number node least sound = by_test (is_up_at (runner_at world node))
  where
    by_test : (up : Bool) → MovesOn NothingAt world (if up then packet_comes world number node else rests world)
    by_test true = comes_move world number node least sound
    by_test false = stays_moves NothingAt world sound

settles_move : (more : ℕ) (nodes : List ℕ) (world : World) → AreSound world → MovesOn NothingAt world (settles more nodes world)
unfolding settles
settles_move zero nodes world sound = unsettled_moves NothingAt world sound
settles_move (suc more) nodes world sound = by_due (due world nodes) refl (settles_move more nodes)
  where
    by_due : (next : Option Due) → due world nodes ≡ next →
        ((other : World) → AreSound other → MovesOn NothingAt other (settles more nodes other)) →
        MovesOn NothingAt world (if_due (rests world)
        (λ next. followed_by (packet_comes world next.number next.node) (settles more nodes (packet_comes world next.number next.node).next)) next)
    by_due None is others = stays_moves NothingAt world sound
    by_due (Some next) is others =
        let one = packet_comes world next.number next.node in
        let here = comes_move world next.number next.node (due_least world nodes (range_with_len 1 (length world.packets)) next is) sound in
        then_moves NothingAt world one (settles more nodes one.next) here (others one.next here.sound)

comes_to_move : (number : ℕ) (nodes : List ℕ) → ((node : ℕ) → In node nodes → 1 ≤ node) → (world : World) → AreSound world →
    MovesOn NothingAt world (comes_to number nodes world)
unfolding comes_to
comes_to_move number [] least world sound = stays_moves NothingAt world sound
comes_to_move number (node ∷ nodes) least world sound =
    let one = comes_again world number node in
    let here = comes_again_move world number node (least node (inl refl)) sound in
    then_moves NothingAt world one (comes_to number nodes one.next) here
    (comes_to_move number nodes (λ other among. least other (inr among)) one.next here.sound)

all_come_move : (numbers : List ℕ) (world : World) → AreSound world → MovesOn NothingAt world (all_come numbers world)
unfolding all_come
all_come_move [] world sound = stays_moves NothingAt world sound
all_come_move (number ∷ numbers) world sound =
    let one = comes_to number (node_numbers world) world in
    let here = comes_to_move number (node_numbers world) (λ node among. row_least 1 (length world.runners) node among) world sound in
    then_moves NothingAt world one (all_come numbers one.next) here (all_come_move numbers one.next here.sound)

replays_move : (more count : ℕ) (world : World) → AreSound world → MovesOn NothingAt world (replays more count world)
unfolding replays
replays_move zero count world sound = stays_moves NothingAt world sound
replays_move (suc more) count world sound =
    let one = all_come (reverse (range_with_len 1 count)) world in
    let here = all_come_move (reverse (range_with_len 1 count)) world sound in
    then_moves NothingAt world one (replays more count one.next) here (replays_move more count one.next here.sound)

-- ---- a line

-- a line of octets brings an answer
pub record IsHeard (world : World) (line : List ℕ) (node : ℕ) (slot : Slot) : Type 0 where
  pub session : ℕ
  pub octets : List ℕ
  pub least : 1 ≤ node
  pub says : said_within (length world.runners) line ≡ Some (Octets node session octets)
  pub runner : Runner
  pub there : runner_at world node ≡ Some runner
  pub answer : IsAnswerIn (cut (held_in runner.streams session ++ octets)).frames runner.sessions session slot

-- what a line leaves: what waits waited before, or goes out by this line
pub record LeadsOn (world : World) (line : List ℕ) (done : Stepped) : Type 0 where
  pub next : World
  pub stage_is : done.next ≡ Some next
  pub sound : AreSound next
  pub waited : (node : ℕ) → 1 ≤ node → (session : ℕ) (slot : Slot) (sequence : ℕ) → WaitsAt next node session slot sequence →
      (WaitsAt world node session slot sequence × (In (At node (Gone session)) done.prints → ⊥)) ⊎ GoesOut world line done node session sequence slot
  pub answers : (node : ℕ) (slot : Slot) (error : ℕ) → In (comes node (Response slot (Concluded Delivered error))) done.inputs →
      IsHeard world line node slot

module _ (settings : Settings) (world : World) (sound : AreSound world) (line : List ℕ) where
  abbrev done_by : Moved → Stepped
  done_by moved = record { next = Some moved.next; inputs = moved.inputs; prints = moved.prints }

  -- what a line does is what its world does
  does_so : (moved : Moved) (done : Stepped) → stepped moved ≡ Some done → LeadsOn world line (done_by moved) → LeadsOn world line done
  does_so moved done is leads = subst (LeadsOn world line) (same (done_by moved) done is) leads
    where
      same : (one other : Stepped) → Some one ≡ Some other → one ≡ other
      same one other is = cc

  moves_lead : (moved : Moved) → MovesOn NothingAt world moved → LeadsOn world line (done_by moved)
  moves_lead moved moves = record {
    next = moved.next;
    stage_is = refl;
    sound = moves.sound;
    waited = λ node least session slot sequence waits. inl (moves.waited node least session slot sequence waits);
    answers = λ node slot error among. absurd (moves.answers node slot error among);
  }

  hears_lead : (node session : ℕ) (octets : List ℕ) → 1 ≤ node → said_within (length world.runners) line ≡ Some (Octets node session octets) →
      LeadsOn world line (done_by (hears settings world node session octets))
  hears_lead node session octets least says =
      let moves = acts_move world node least sound
      (λ runner. IsAnswerIn (cut (held_in runner.streams session ++ octets)).frames runner.sessions session)
      (λ runner. on_octets settings runner session octets) (λ runner apart. octets_keep settings runner session octets apart) in
      record {
        next = (hears settings world node session octets).next;
        stage_is = refl;
        sound = moves.sound;
        waited = λ other first number slot sequence waits. inl (moves.waited other first number slot sequence waits);
        answers = λ other slot error among.
            let it = moves.answers other slot error among in
            record {
              session = session;
              octets = octets;
              least = subst (λ (n : ℕ). 1 ≤ n) (sym it.same) least;
              says = says ∙ ap (λ (n : ℕ). Some (Octets n session octets)) (sym it.same);
              runner = it.runner;
              there = ap (λ (n : ℕ). runner_at world n) it.same ∙ it.there;
              answer = it.answers;
            };
      }

  -- ---- a line that asks for an attempt

  granting_leads : (node id : ℕ) → 1 ≤ node → said_within (length world.runners) line ≡ Some (Grant node id) → (runner : Runner) →
      runner_at world node ≡ Some runner → LeadsOn world line (done_by (shared world node (on_grant runner id)))
  granting_leads node id least says runner there =
      let acted = on_grant runner id in
      let it = grant_granting runner id (sound node least runner there) in
      record {
        next = (shared world node acted).next;
        stage_is = refl;
        sound = sound_then world node least acted sound it.apart;
        waited = λ other first session slot sequence waits.
            elim (at_which world node least acted other first session slot sequence waits) [
              | inl here ↦ elim (it.waited session slot sequence here.1) [
                | inl old ↦ inl (
                  record { runner = runner; there = ap (λ (n : ℕ). runner_at world n) here.0 ∙ there; waits = old },
                  λ among. it.ungone session (printed_at node other acted.prints (Gone session) among).1,
                )
                | inr new ↦ inr (goes other session slot sequence here.0 new)
              ]
              | inr apart ↦ inl (apart.0, λ among. apart.1 (printed_at node other acted.prints (Gone session) among).0)
            ];
        answers = λ other slot error among.
            let from = in_mapped (comes node) acted.inputs (comes other (Response slot (Concluded Delivered error))) among in
            absurd (it.silent slot error (subst (λ (i : Input). In i acted.inputs) (sym (ap (λ (n : NodeInput). n.input) from.is)) from.among));
      }
    where
      goes : (other session : ℕ) (slot : Slot) (sequence : ℕ) → other ≡ node → IsPushed id (on_grant runner id) session slot sequence →
          GoesOut world line (done_by (shared world node (on_grant runner id))) other session sequence slot
      goes other session slot sequence same new = record {
        asks = says ∙ ap (λ (n : ℕ). Some (Grant n id)) (sym same) ∙ ap (λ (i : ℕ). Some (Grant other i)) (sym new.about);
        granted = ap (map (comes node)) new.granted ∙ ap (λ (n : ℕ). comes n (Grants slot) ∷ []) (sym same);
        deliver = new.deliver;
        prints = ap (map (At node)) new.prints ∙ ap (λ (n : ℕ). At n (Delivers session new.deliver) ∷ []) (sym same);
        sequence_is = new.sequence_is;
      }

  grants_lead : (node id : ℕ) → 1 ≤ node → said_within (length world.runners) line ≡ Some (Grant node id) →
      LeadsOn world line (done_by (grants world node id))
  grants_lead node id least says = by_runner (runner_at world node) refl
    where
      by_test : (runner : Runner) → runner_at world node ≡ Some runner → (test : Bool) →
          LeadsOn world line (done_by (if test then shared world node (on_grant runner id) else refuses world is_down))
      by_test runner is true = granting_leads node id least says runner is
      by_test runner is false = moves_lead (refuses world is_down) (refuses_moves NothingAt world is_down sound)

      by_runner : (found : Option Runner) → runner_at world node ≡ found →
          LeadsOn world line (done_by (up_or_refuses world (λ runner. shared world node (on_grant runner id)) found))
      by_runner None is = moves_lead (refuses world no_node) (refuses_moves NothingAt world no_node sound)
      by_runner (Some runner) is = by_test runner is (is_up runner)

  said_leads : (said : Said) (done : Stepped) → said_within (length world.runners) line ≡ Some said → moved_by settings world said ≡ Some done →
      LeadsOn world line done
  said_leads Skipped done says is = does_so (rests world) done is (moves_lead (rests world) (stays_moves NothingAt world sound))
  said_leads (Nodes count serial) done says is = absurd cc
  said_leads (Octets node session octets) done says is =
      let least = (spells_within (length world.runners) line (Octets node session octets) says).wording.0.least in
      does_so (hears settings world node session octets) done is (hears_lead node session octets least says)
  said_leads (Deliver number node) done says is =
      let least = (spells_within (length world.runners) line (Deliver number node) says).wording.1.least in
      does_so (packet_comes world number node) done is (moves_lead (packet_comes world number node) (comes_move world number node least sound))
  said_leads (Crash node number after) done says is =
      let least = (spells_within (length world.runners) line (Crash node number after) says).wording.0.least in
      does_so (crashes world node number after) done is (moves_lead (crashes world node number after) (crashes_move world node number after least sound))
  said_leads (Tick node moment) done says is =
      let least = (spells_within (length world.runners) line (Tick node moment) says).wording.0.least in
      does_so (ticks world node moment) done is (moves_lead (ticks world node moment) (ticks_move world node moment least sound))
  said_leads (Grant node id) done says is =
      let least = (spells_within (length world.runners) line (Grant node id) says).wording.0.least in
      does_so (grants world node id) done is (grants_lead node id least says)
  said_leads (Settle nodes) done says is =
      does_so (on_settle world nodes) done is (moves_lead (on_settle world nodes) (settles_move most_deliveries nodes world sound))
  said_leads (Restart node) done says is =
      let least = (spells_within (length world.runners) line (Restart node) says).wording.0.least in
      does_so (restarts world node) done is (moves_lead (restarts world node) (restarts_move world node least sound))
  said_leads (Replay count) done says is =
      does_so (on_replay world count) done is (moves_lead (on_replay world count) (replays_move count (length world.packets) world sound))

  pub line_leads : (done : Stepped) → step_of settings (Some world) line ≡ Some done → LeadsOn world line done
  unfolding step_of
  line_leads done is = by_said (said_within (length world.runners) line) refl is
    where
      by_said : (said : Option Said) → said_within (length world.runners) line ≡ said → step_by settings (Some world) said ≡ Some done →
          LeadsOn world line done
      by_said None says is = absurd cc
      by_said (Some said) says is = said_leads said done says is

-- ---- a world that opens

pub opened_apart : (settings : Settings) (count serial node : ℕ) (runner : Runner) → runner_at (opened settings count serial) node ≡ Some runner →
    runner.sessions ≡ []
opened_apart settings count serial node runner is = ap (λ (r : Runner). r.sessions) (sym (opened_there settings count serial (pred node) runner is))
