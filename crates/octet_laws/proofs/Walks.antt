-- What each line leaves of what came on a session and of the requests that wait there.
use Rattle.std.proofs.Common.{◌≡◌, ◌⊎◌, ℕ, ◌<◌, ◌^◌, ◌≤◌, zero, suc, pred, Bool, true, false, List, [], ◌∷◌, ◌++◌, length, Option, Some, None, refl}
use Rattle.std.proofs.Common.{sym, ◌∙◌, ap, subst, inl, inr, append-nil, eqb-true, eq-eqb, arith}
use Rattle.std.specs.Prelude.{◌==◌, ◌&&◌, codes, if◌then◌else◌, not, nat_lt, reverse}
use Rattle.std.specs.Fmt.{decimal, digits}
use Rattle.std.specs.List.{list_any, range_with_len}
use Rattle.std.specs.Str.{bytes_eq}
use Rattle.std.proofs.lemmas.Bool.{false_from_ne_true, true_from_ne_false}
use Rattle.std.proofs.lemmas.Fmt.{decimal_injective}
use Rattle.mc_model.specs.synod.Lists.{In}
use Rattle.mc_model.specs.synod.Packet.{Packet}
use Rattle.mc_model.specs.node.Input.{Crash as Stops, Restart as Starts}
use Rattle.mc_parts.proofs.Membership.{in_either}
use Rattle.node_laws.proofs.invariant.Orders.{in_mapped}
use Rattle.node_model.specs.Kept.{Held}
use Rattle.node_model.specs.Requests.{ticket_of}
use Rattle.node_model.specs.Stepped.{stepped_down, stepped_up}
use Rattle.pdu_frames.specs.Frames.{cut_within}
use Rattle.sessions.specs.Session.{Session}
use Rattle.script_lines.specs.Lines.{lines_of}
use Rattle.script_lines.specs.Said.{Said, Skipped, Nodes, Octets, Deliver, Crash, Tick, Grant, Settle, Restart, Replay, said_within}
use Rattle.script_lines.proofs.SaidLemmas.{spells_within}
use Rattle.script_text.specs.Left.{followed_by, rests}
use Rattle.script_text.specs.Prints.{Declined, Gone, Print}
use Rattle.script_text.specs.Runner.{Acted, Runner, declined, given_out, gone_prints, held_in, last_incarnation, no_incarnation}
use Rattle.script_text.specs.Runner.{on_delivery, on_grant}
use Rattle.script_text.specs.Runner.{on_octets, on_tick, restarted}
use Rattle.script_text.specs.Settings.{Settings}
use Rattle.script_text.specs.Prints.{At, Refuses, StopsSettling, WorldPrint, world_text}
use Rattle.script_text.specs.Script.{Stepped, moved_by, step_by, step_of, stepped as does}
use Rattle.script_text.specs.World.{most_deliveries}
use Rattle.script_text.specs.World.{Due, Moved, World, all_come, comes, comes_again, comes_if, comes_to, crashed, crashes, crashes_if, due, grants, hears}
use Rattle.script_text.specs.World.{if_due}
use Rattle.script_text.specs.World.{if_up, is_down, is_up, is_up_at, marked, no_node, no_packet, node_numbers, on_replay, on_settle, packet_of, refuses}
use Rattle.script_text.specs.World.{replays}
use Rattle.script_text.specs.World.{restarts, restarts_if, runner_at, settles, shared, ticks, unsettled, up_or_refuses}
use Rattle.world_fates.proofs.Entries.{AreApart, Has}
use Rattle.world_fates.proofs.Lines.{one_node, printed_at}
use Rattle.world_fates.proofs.Places.{row_least, set_cases}
use Rattle.world_fates.proofs.Worlds.{due_least}
use Rattle.octet_laws.specs.Sessions.{brought, gone_line, heard_then}
use Rattle.octet_laws.proofs.Holding.{stepped_so}
use Rattle.octet_laws.proofs.Lines.{IsRefusal, gone_told, gone_written, refused_told}
use Rattle.octet_laws.proofs.Octets.{Ends, Lasts, octets_other, octets_own}
use Rattle.octet_laws.proofs.Hearing.{not_both}
use Rattle.octet_laws.proofs.Quiet.{IsUngone, any_in, delivery_ungone, grant_ungone, in_any, in_printed, octets_only, only_right, plain_no_refusal, tick_ungone}
use Rattle.octet_laws.proofs.Ties.{Hears, IsPlain, IsRight, Keeps, delivery_keep, grant_keep, sound_on, step_on, tick_keep}

module _ (m number : ℕ) (least_m : 1 ≤ m) where
  -- the session of the node hears this stream
  abbrev pub WorldHears : List ℕ → World → Type 0
  WorldHears stream world = (runner : Runner) → runner_at world m ≡ Some runner → Hears number stream runner

  -- ESME_ROK to a cancel_sm on the session is so
  abbrev pub AnswersSo : List ℕ → List WorldPrint → Type 0
  AnswersSo stream prints = (print : Print) → In (At m print) prints → IsRight number stream print

  abbrev NoneGone : List WorldPrint → Type 0
  NoneGone prints = (node session : ℕ) → In (At node (Gone session)) prints → ⊥

  -- ---- lines that bring nothing, and at which no session goes

  module _ (stream : List ℕ) where
    record MovesSo (moved : Moved) : Type 0 where
      hears : WorldHears stream moved.next
      answers : AnswersSo stream moved.prints
      ungone : NoneGone moved.prints

    stays_so : (world : World) → WorldHears stream world → MovesSo (rests world)
    stays_so world heard = record { hears = heard; answers = λ print among. absurd among; ungone = λ node session among. among }

    refuses_so : (world : World) (reason : ℕ) → WorldHears stream world → MovesSo (refuses world reason)
    refuses_so world reason heard = record { hears = heard; answers = λ print among. absurd (none_printed print among); ungone = gone }
      where
        none_printed : (print : Print) → In (At m print) (Refuses reason ∷ []) → ⊥
        none_printed print (inl same) = cc
        none_printed print (inr none) = none

        gone : (node session : ℕ) → In (At node (Gone session)) (Refuses reason ∷ []) → ⊥
        gone node session (inl same) = cc
        gone node session (inr none) = none

    unsettled_so : (world : World) → WorldHears stream world → MovesSo (unsettled world)
    unsettled_so world heard = record { hears = heard; answers = λ print among. absurd (none_printed print among); ungone = gone }
      where
        none_printed : (print : Print) → In (At m print) (StopsSettling ∷ []) → ⊥
        none_printed print (inl same) = cc
        none_printed print (inr none) = none

        gone : (node session : ℕ) → In (At node (Gone session)) (StopsSettling ∷ []) → ⊥
        gone node session (inl same) = cc
        gone node session (inr none) = none

    then_so : (one other : Moved) → MovesSo one → MovesSo other → MovesSo (followed_by one other)
    then_so one other first last = record {
      hears = last.hears;
      answers = λ print among. elim (in_either (At m print) one.prints other.prints among) [
        | inl here ↦ first.answers print here
        | inr there ↦ last.answers print there
      ];
      ungone = λ node session among. elim (in_either (At node (Gone session)) one.prints other.prints among) [
        | inl here ↦ first.ungone node session here
        | inr there ↦ last.ungone node session there
      ];
    }

    module _ (world : World) (heard : WorldHears stream world) (node : ℕ) (least : 1 ≤ node) where
      shared_so : (acted : Acted) → (m ≡ node → Keeps number stream acted) → IsUngone acted.prints → MovesSo (shared world node acted)
      shared_so acted keeps ungone = record {
        hears = λ runner is.
            elim (set_cases world.runners (pred node) (given_out acted.next) (pred m) runner is) [
              | inl now ↦
                  let it = (keeps (one_node node m least least_m now.0)).hears in
                  subst (Hears number stream) (sym now.1) (record { sound = it.sound; held = it.held })
              | inr other ↦ heard runner other.0
            ];
        answers = λ print among. let it = printed_at node m acted.prints print among in ((keeps it.0).fine print it.1).right;
        ungone = λ other session among. ungone session (printed_at node other acted.prints (Gone session) among).1;
      }

      if_up_so : (up : Runner → Moved) → ((runner : Runner) → runner_at world node ≡ Some runner → MovesSo (up runner)) → MovesSo (if_up world node up)
      if_up_so up so = by_runner (runner_at world node) refl
        where
          by_test : (runner : Runner) → runner_at world node ≡ Some runner → (test : Bool) → MovesSo (if test then up runner else refuses world is_down)
          by_test runner is true = so runner is
          by_test runner is false = refuses_so world is_down heard

          by_runner : (found : Option Runner) → runner_at world node ≡ found → MovesSo (up_or_refuses world up found)
          by_runner None is = refuses_so world no_node heard
          by_runner (Some runner) is = by_test runner is (is_up runner)

      the_runner : (runner : Runner) → runner_at world node ≡ Some runner → m ≡ node → Hears number stream runner
      the_runner runner is same = heard runner (ap (λ (n : ℕ). runner_at world n) same ∙ is)

      ticks_so : (moment : ℕ) → MovesSo (ticks world node moment)
      ticks_so moment =
          if_up_so (λ runner. shared world node (on_tick runner moment))
          (λ runner is. shared_so (on_tick runner moment) (λ same. tick_keep number stream runner moment (the_runner runner is same))
          (tick_ungone runner moment))

      grants_so : (id : ℕ) → MovesSo (grants world node id)
      grants_so id =
          if_up_so (λ runner. shared world node (on_grant runner id))
          (λ runner is. shared_so (on_grant runner id) (λ same. grant_keep number stream runner id (the_runner runner is same)) (grant_ungone runner id))

    comes_so : (world : World) → WorldHears stream world → (packet node : ℕ) → 1 ≤ node → MovesSo (comes world packet node)
    comes_so world heard packet node least = by_packet (packet_of world.packets packet)
      where
        by_packet : (found : Option Packet) → MovesSo (comes_if world packet node found)
        by_packet None = refuses_so world no_packet heard
        by_packet (Some one) =
            if_up_so world heard node least (λ runner. shared (marked world packet node) node (on_delivery runner one))
            (λ runner is. shared_so (marked world packet node) heard node least (on_delivery runner one)
            (λ same. delivery_keep number stream runner one (the_runner world heard node least runner is same)) (delivery_ungone runner one))

    comes_again_so : (world : World) → WorldHears stream world → (packet node : ℕ) → 1 ≤ node → MovesSo (comes_again world packet node)
    comes_again_so world heard packet node least = by_test (is_up_at (runner_at world node))
      where
        by_test : (up : Bool) → MovesSo (if up then comes world packet node else rests world)
        by_test true = comes_so world heard packet node least
        by_test false = stays_so world heard

    settles_so : (more : ℕ) (nodes : List ℕ) (world : World) → WorldHears stream world → MovesSo (settles more nodes world)
    unfolding settles
    settles_so zero nodes world heard = unsettled_so world heard
    settles_so (suc more) nodes world heard = by_due (due world nodes) refl (settles_so more nodes)
      where
        then_settles : Due → Moved
        then_settles next = followed_by (comes world next.number next.node) (settles more nodes (comes world next.number next.node).next)

        by_due : (next : Option Due) → due world nodes ≡ next → ((other : World) → WorldHears stream other → MovesSo (settles more nodes other)) →
            MovesSo (if_due (rests world) then_settles next)
        by_due None is others = stays_so world heard
        by_due (Some next) is others =
            let one = comes world next.number next.node in
            let here = comes_so world heard next.number next.node (due_least world nodes (range_with_len 1 (length world.packets)) next is) in
            then_so one (settles more nodes one.next) here (others one.next here.hears)

    comes_to_so : (packet : ℕ) (nodes : List ℕ) → ((node : ℕ) → In node nodes → 1 ≤ node) → (world : World) → WorldHears stream world →
        MovesSo (comes_to packet nodes world)
    unfolding comes_to
    comes_to_so packet [] least world heard = stays_so world heard
    comes_to_so packet (node ∷ nodes) least world heard =
        let one = comes_again world packet node in
        let here = comes_again_so world heard packet node (least node (inl refl)) in
        then_so one (comes_to packet nodes one.next) here (comes_to_so packet nodes (λ n among. least n (inr among)) one.next here.hears)

    all_come_so : (packets : List ℕ) (world : World) → WorldHears stream world → MovesSo (all_come packets world)
    unfolding all_come
    all_come_so [] world heard = stays_so world heard
    all_come_so (packet ∷ packets) world heard =
        let one = comes_to packet (node_numbers world) world in
        let here = comes_to_so packet (node_numbers world) (λ node among. row_least 1 (length world.runners) node among) world heard in
        then_so one (all_come packets one.next) here (all_come_so packets one.next here.hears)

    replays_so : (more count : ℕ) (world : World) → WorldHears stream world → MovesSo (replays more count world)
    unfolding replays
    replays_so zero count world heard = stays_so world heard
    replays_so (suc more) count world heard =
        let one = all_come (reverse (range_with_len 1 count)) world in
        let here = all_come_so (reverse (range_with_len 1 count)) world heard in
        then_so one (replays more count one.next) here (replays_so more count one.next here.hears)

  -- ---- lines

  -- the stream is empty, or the numbers are short
  abbrev pub IsShort : List ℕ → Type 0
  IsShort stream = (stream ≡ []) ⊎ ((m < 2 ^ 64) × (number < 2 ^ 64))

  abbrev written_in : List WorldPrint → List (List ℕ)
  written_in prints = lines_of (world_text prints)

  -- what a line leaves: the session hears what came on it
  pub record LineSo (stream : List ℕ) (said : Said) (done : Stepped) : Type 0 where
    pub next : World
    pub stage_is : done.next ≡ Some next
    pub hears : WorldHears (heard_then m number (Some said) (written_in done.prints) stream) next
    pub short : IsShort (heard_then m number (Some said) (written_in done.prints) stream)
    pub answers : AnswersSo stream done.prints

  abbrev done_by : Moved → Stepped
  done_by moved = record { next = Some moved.next; inputs = moved.inputs; prints = moved.prints }

  -- a line that brings nothing on the session
  brings_none : (stream : List ℕ) (said : Said) (moved : Moved) → brought m number (Some said) (written_in moved.prints) ≡ [] → IsShort stream →
      (In (gone_line m number) (written_in moved.prints) → WorldHears [] moved.next) →
      ((In (gone_line m number) (written_in moved.prints) → ⊥) → WorldHears stream moved.next) → AnswersSo stream moved.prints →
      LineSo stream said (done_by moved)
  brings_none stream said moved none short gone rests answers = by_test (list_any (bytes_eq (gone_line m number)) (written_in moved.prints)) refl
    where
      same : stream ++ brought m number (Some said) (written_in moved.prints) ≡ stream
      same = ap (λ (more : List ℕ). stream ++ more) none ∙ append-nil stream

      heard : Bool → List ℕ
      heard test = if test then [] else stream ++ brought m number (Some said) (written_in moved.prints)

      by_test : (test : Bool) → list_any (bytes_eq (gone_line m number)) (written_in moved.prints) ≡ test → LineSo stream said (done_by moved)
      by_test true is = record {
        next = moved.next;
        stage_is = refl;
        hears = subst (λ (test : Bool). WorldHears (heard test) moved.next) (sym is) (gone (any_in (gone_line m number) (written_in moved.prints) is));
        short = subst (λ (test : Bool). IsShort (heard test)) (sym is) (inl refl);
        answers = answers;
      }
      by_test false is = record {
        next = moved.next;
        stage_is = refl;
        hears = subst (λ (test : Bool). WorldHears (heard test) moved.next) (sym is)
            (subst (λ (s : List ℕ). WorldHears s moved.next) (sym same) (rests (λ among. in_any (gone_line m number) (written_in moved.prints) among is)));
        short = subst (λ (test : Bool). IsShort (heard test)) (sym is) (subst IsShort (sym same) short);
        answers = answers;
      }

  -- numbers of a line are short: a session that it tells to be gone is this one, or nothing came on this one
  same_session : (stream : List ℕ) → IsShort stream → (node session : ℕ) → node ≤ 9 → session ≤ 99 → decimal node ≡ decimal m →
      decimal session ≡ decimal number → (stream ≡ []) ⊎ ((node ≡ m) × (session ≡ number))
  same_session stream (inl none) node session most last nodes sessions = inl none
  same_session stream (inr small) node session most last nodes sessions =
      inr (decimal_injective node m (omega (arith, most)) small.0 nodes, decimal_injective session number (omega (arith, last)) small.1 sessions)

  calm_line : (stream : List ℕ) (said : Said) (moved : Moved) → brought m number (Some said) (written_in moved.prints) ≡ [] → IsShort stream →
      MovesSo stream moved → LineSo stream said (done_by moved)
  calm_line stream said moved none short moves =
      brings_none stream said moved none short
      (λ among. absurd (let it = gone_told moved.prints m number among in moves.ungone it.other it.number it.among))
      (λ ungone. moves.hears) moves.answers

  module _ (settings : Settings) (stream : List ℕ) (short : IsShort stream) (world : World) (heard : WorldHears stream world) where
    -- ---- octets

    module _ (node at : ℕ) (octets : List ℕ) (least : 1 ≤ node) (most : node ≤ 9) (last : at ≤ 99) where
      abbrev says : Said
      says = Octets node at octets

      -- they are not of the session
      abbrev IsOther : Type 0
      IsOther = (node ≡ m) × (at ≡ number) → ⊥

      not_brought : (written : List (List ℕ)) → IsOther → brought m number (Some says) written ≡ []
      not_brought written other = by_tests (node == m) (at == number) refl refl
        where
          by_tests : (one two : Bool) → (node == m) ≡ one → (at == number) ≡ two →
              (if one && (two && not (list_any (bytes_eq (codes "refused 4")) written)) then octets else []) ≡ []
          by_tests false two is also = refl
          by_tests true false is also = refl
          by_tests true true is also = absurd (other (eqb-true node m is, eqb-true at number also))

      -- a refusal brings nothing
      refused_none : brought m number (Some says) (written_in (Refuses is_down ∷ [])) ≡ []
      unfolding digits
      refused_none = by_tests (node == m) (at == number)
        where
          by_tests : (one two : Bool) →
              (if one && (two && not (list_any (bytes_eq (codes "refused 4")) (written_in (Refuses is_down ∷ [])))) then octets else []) ≡ []
          by_tests false two = refl
          by_tests true false = refl
          by_tests true true = refl

      down_line : LineSo stream says (done_by (refuses world is_down))
      down_line = calm_line stream says (refuses world is_down) refused_none short (refuses_so stream world is_down heard)

      -- there is no such node
      none_line : runner_at world node ≡ None → LineSo stream says (done_by (refuses world no_node))
      none_line none = by_own (node == m) (at == number) refl refl
        where
          moves : MovesSo stream (refuses world no_node)
          moves = refuses_so stream world no_node heard

          by_own : (one two : Bool) → (node == m) ≡ one → (at == number) ≡ two → LineSo stream says (done_by (refuses world no_node))
          by_own false two is also =
              calm_line stream says (refuses world no_node)
              (not_brought (written_in (Refuses no_node ∷ [])) (λ own. not_both (node == m) is (eq-eqb node m own.0))) short moves
          by_own true false is also =
              calm_line stream says (refuses world no_node)
              (not_brought (written_in (Refuses no_node ∷ [])) (λ own. not_both (at == number) also (eq-eqb at number own.1))) short moves
          by_own true true is also = record {
            next = world;
            stage_is = refl;
            hears = λ runner there. absurd (nothing runner (sym none ∙ ap (λ (n : ℕ). runner_at world n) (eqb-true node m is) ∙ there));
            short = by_gone (list_any (bytes_eq (gone_line m number)) (written_in (Refuses no_node ∷ [])));
            answers = moves.answers;
          }
            where
              nothing : (runner : Runner) → None ≡ Some runner → ⊥
              nothing runner same = cc

              by_gone : (test : Bool) → IsShort (if test then [] else stream ++ brought m number (Some says) (written_in (Refuses no_node ∷ [])))
              by_gone test = inr (
                subst (λ (n : ℕ). n < 2 ^ 64) (eqb-true node m is) (omega (arith, most)),
                subst (λ (n : ℕ). n < 2 ^ 64) (eqb-true at number also) (omega (arith, last)),
              )

      module _ (runner : Runner) (there : runner_at world node ≡ Some runner) where
        abbrev acted : Acted
        acted = on_octets settings runner at octets

        abbrev moved : Moved
        moved = shared world node acted

        answers_only : AnswersSo stream moved.prints
        answers_only print among =
            only_right at number stream print (octets_only settings runner at octets print (printed_at node m acted.prints print among).1)

        -- the session that is told to be gone is the one of the octets
        gone_here : (In (gone_line m number) (written_in moved.prints)) → (stream ≡ []) ⊎ ((node ≡ m) × (at ≡ number))
        gone_here among =
            let it = gone_told moved.prints m number among in
            let here = printed_at node it.other acted.prints (Gone it.number) it.among in
            elim (octets_only settings runner at octets (Gone it.number) here.1) [
              | inl plain ↦ absurd plain
              | inr same ↦
                  same_session stream short node at most last (ap decimal (sym here.0) ∙ it.node_is)
                  (ap decimal (sym (number_of_gone it.number same)) ∙ it.session_is)
            ]
          where
            number_of_gone : (other : ℕ) → Gone other ≡ Gone at → other ≡ at
            number_of_gone other is = cc

        other_line : IsOther → LineSo stream says (done_by moved)
        other_line other =
            brings_none stream says moved (not_brought (written_in moved.prints) other) short
            (λ among. elim (gone_here among) [
              | inl none ↦ subst (λ (s : List ℕ). WorldHears s moved.next) none hears_still
              | inr own ↦ absurd (other own)
            ])
            (λ ungone. hears_still)
            answers_only
          where
            hears_still : WorldHears stream moved.next
            hears_still next is = elim (set_cases world.runners (pred node) (given_out acted.next) (pred m) next is) [
              | inl now ↦
                  let same = one_node node m least least_m now.0 in
                  let before = heard runner (ap (λ (n : ℕ). runner_at world n) same ∙ there) in
                  let it = (octets_other number stream settings at (λ own. other (sym same, own)) runner octets before).hears in
                  subst (Hears number stream) (sym now.1) (record { sound = it.sound; held = it.held })
              | inr elsewhere ↦ heard next elsewhere.0
            ]

        own_line : node ≡ m → at ≡ number → LineSo stream says (done_by moved)
        own_line same also =
            by_result (octets_own number stream settings runner octets (heard runner (ap (λ (n : ℕ). runner_at world n) (sym same) ∙ there)))
          where
            -- the octets as they come on the session
            own : Acted
            own = on_octets settings runner number octets

            acted_is : acted ≡ own
            acted_is = ap (λ (n : ℕ). on_octets settings runner n octets) also

            next_is : (later : List ℕ) → Hears number later own.next → WorldHears later moved.next
            next_is later hears next is = elim (set_cases world.runners (pred node) (given_out acted.next) (pred m) next is) [
              | inl now ↦
                  let it = subst (λ (a : Acted). Hears number later a.next) (sym acted_is) hears in
                  subst (Hears number later) (sym now.1) (record { sound = it.sound; held = it.held })
              | inr elsewhere ↦ absurd (elsewhere.1 (ap pred (sym same)))
            ]

            small : (m < 2 ^ 64) × (number < 2 ^ 64)
            small = (subst (λ (n : ℕ). n < 2 ^ 64) same (omega (arith, most)), subst (λ (n : ℕ). n < 2 ^ 64) also (omega (arith, last)))

            heard_by : Bool → Bool → List ℕ
            heard_by gone refused =
                if gone then [] else stream ++ (if node == m && (at == number && not refused) then octets else [])

            line_by : (gone refused : Bool) → list_any (bytes_eq (gone_line m number)) (written_in moved.prints) ≡ gone →
                list_any (bytes_eq (codes "refused 4")) (written_in moved.prints) ≡ refused → WorldHears (heard_by gone refused) moved.next →
                AnswersSo stream moved.prints → LineSo stream says (done_by moved)
            line_by gone refused is also hears answers = record {
              next = moved.next;
              stage_is = refl;
              hears = subst (λ (tests : Bool × Bool). WorldHears (heard_by tests.0 tests.1) moved.next) (λ i. (sym is i, sym also i)) hears;
              short = inr small;
              answers = answers;
            }

            by_result : Ends number own ⊎ Lasts number (stream ++ octets) own → LineSo stream says (done_by moved)
            by_result (inl ends) =
                line_by true _ (true_from_ne_false (list_any (bytes_eq (gone_line m number)) (written_in moved.prints))
                (λ none. in_any (gone_line m number) (written_in moved.prints) (gone_written moved.prints m number gone_in) none)) refl
                (next_is [] ends.hears) answers_only
              where
                gone_in : In (At m (Gone number)) moved.prints
                gone_in = subst (λ (n : ℕ). In (At n (Gone number)) moved.prints) same
                    (in_printed node (Gone number) acted.prints (subst (λ (a : Acted). In (Gone number) a.prints) (sym acted_is) ends.told))
            by_result (inr lasts) =
                line_by false false (false_from_ne_true _ (λ yes. not_gone (any_in (gone_line m number) (written_in moved.prints) yes)))
                (false_from_ne_true _ (λ yes. not_refused (any_in (codes "refused 4") (written_in moved.prints) yes)))
                (next_is (stream ++ (if node == m && (at == number && true) then octets else []))
                (subst (λ (more : List ℕ). Hears number (stream ++ more) own.next) (sym brings) lasts.hears)) answers_only
              where
                brings : (if node == m && (at == number && true) then octets else []) ≡ octets
                brings = rw (eq-eqb node m same, eq-eqb at number also) refl

                plain_all : (print : Print) → In print acted.prints → IsPlain print
                plain_all print among = lasts.plain print (subst (λ (a : Acted). In print a.prints) acted_is among)

                not_gone : In (gone_line m number) (written_in moved.prints) → ⊥
                not_gone among =
                    let it = gone_told moved.prints m number among in
                    plain_all (Gone it.number) (printed_at node it.other acted.prints (Gone it.number) it.among).1

                not_refused : In (codes "refused 4") (written_in moved.prints) → ⊥
                not_refused among =
                    let it = refused_told moved.prints among in
                    let from = in_mapped (At node) acted.prints it.0 it.1 in
                    plain_no_refusal node from.from (plain_all from.from from.among) (subst IsRefusal from.is it.2)

      octets_line : LineSo stream says (done_by (hears settings world node at octets))
      octets_line = by_runner (runner_at world node) refl
        where
          by_own : (runner : Runner) → runner_at world node ≡ Some runner → (one two : Bool) → (node == m) ≡ one → (at == number) ≡ two →
              LineSo stream says (done_by (shared world node (on_octets settings runner at octets)))
          by_own runner there false two is also = other_line runner there (λ own. not_both (node == m) is (eq-eqb node m own.0))
          by_own runner there true false is also = other_line runner there (λ own. not_both (at == number) also (eq-eqb at number own.1))
          by_own runner there true true is also = own_line runner there (eqb-true node m is) (eqb-true at number also)

          by_up : (runner : Runner) → runner_at world node ≡ Some runner → (up : Bool) →
              LineSo stream says (done_by (if up then shared world node (on_octets settings runner at octets) else refuses world is_down))
          by_up runner there true = by_own runner there (node == m) (at == number) refl refl
          by_up runner there false = down_line

          by_runner : (found : Option Runner) → runner_at world node ≡ found →
              LineSo stream says (done_by (up_or_refuses world (λ runner. shared world node (on_octets settings runner at octets)) found))
          by_runner None there = none_line there
          by_runner (Some runner) there = by_up runner there (is_up runner)

    -- ---- a stop, and a start

    module _ (node : ℕ) (least : 1 ≤ node) (most : node ≤ 9) (said : Said) (none : (written : List (List ℕ)) → brought m number (Some said) written ≡ []) where
      -- each session of the node goes
      all_gone : (runner : Runner) → runner_at world node ≡ Some runner → (acted : Acted) → acted.next.sessions ≡ [] → acted.next.streams ≡ [] →
          acted.prints ≡ gone_prints runner.sessions →
          (Hears number stream runner → (h : Held) → In h acted.next.node.kept.held → ticket_of h < acted.next.node.kept.ticket) →
          LineSo stream said (done_by (shared world node acted))
      unfolding cut_within
      all_gone runner there acted sessions streams prints given =
          brings_none stream said moved (none (written_in moved.prints)) short
          (λ among next is. elim (set_cases world.runners (pred node) (given_out acted.next) (pred m) next is) [
            | inl now ↦ subst (Hears number []) (sym now.1) (begins_anew (one_node node m least least_m now.0))
            | inr elsewhere ↦
                let it = gone_told moved.prints m number among in
                let here = printed_at node it.other acted.prints (Gone it.number) it.among in
                elim short [
                  | inl nothing ↦ subst (λ (s : List ℕ). Hears number s next) nothing (heard next elsewhere.0)
                  | inr small ↦
                      absurd (elsewhere.1 (ap pred (sym (decimal_injective node m (omega (arith, most)) small.0 (ap decimal (sym here.0) ∙ it.node_is)))))
                ]
          ])
          (λ ungone next is. elim (set_cases world.runners (pred node) (given_out acted.next) (pred m) next is) [
            | inl now ↦
                let same = one_node node m least least_m now.0 in
                subst (Hears number stream) (sym now.1) (elim (before same).sound.there [
                  | inl nothing ↦ subst (λ (s : List ℕ). Hears number s (given_out acted.next)) (sym nothing) (begins_anew same)
                  | inr has ↦
                      absurd (ungone (gone_written moved.prints m number (subst (λ (n : ℕ). In (At n (Gone number)) moved.prints) (sym same)
                      (in_printed node (Gone number) acted.prints (subst (In (Gone number)) (sym prints) (gone_of runner.sessions has))))))
                ])
            | inr elsewhere ↦ heard next elsewhere.0
          ])
          (λ print among.
          let it = printed_at node m acted.prints print among in
          let from = in_mapped (λ (entry : ℕ × Session). Gone entry.0) runner.sessions print (subst (In print) prints it.1) in
          subst (IsRight number stream) (sym from.is) tt)
        where
          moved : Moved
          moved = shared world node acted

          before : m ≡ node → Hears number stream runner
          before same = heard runner (ap (λ (n : ℕ). runner_at world n) same ∙ there)

          gone_of : (connected : List (ℕ × Session)) → Has connected number → In (Gone number) (gone_prints connected)
          gone_of [] has = absurd has.among
          gone_of (e ∷ es) has = elim has.among [
            | inl same ↦ inl (ap (λ (x : ℕ × Session). Gone x.0) same)
            | inr later ↦ inr (gone_of es (record { value = has.value; among = later }))
          ]

          begins_anew : m ≡ node → Hears number [] (given_out acted.next)
          begins_anew same = record {
            sound = record {
              given = given (before same);
              there = inl refl;
              each = λ session among. absurd (subst (In (number, session)) sessions among);
              apart = subst (λ (es : List (ℕ × Session)). AreApart es) (sym sessions) tt;
            };
            held = record {
              rest = ap (λ (es : List (ℕ × List ℕ)). held_in es number) streams;
              apart = subst (λ (es : List (ℕ × List ℕ)). AreApart es) (sym streams) tt;
            };
          }

      calm_there : (moved : Moved) → MovesSo stream moved → LineSo stream said (done_by moved)
      calm_there moved moves = calm_line stream said moved (none (written_in moved.prints)) short moves

    crash_line : (node packet : ℕ) (after : Bool) → 1 ≤ node → node ≤ 9 → LineSo stream (Crash node packet after) (done_by (crashes world node packet after))
    crash_line node packet after least most = by_packet (packet_of world.packets packet)
      where
        said : Said
        said = Crash node packet after

        calm : (moved : Moved) → MovesSo stream moved → LineSo stream said (done_by moved)
        calm = calm_there node least most said (λ written. refl)

        stops : (one : Packet) (runner : Runner) → runner_at world node ≡ Some runner →
            LineSo stream said (done_by (shared world node (crashed one after runner)))
        stops one runner there =
            all_gone node least most said (λ written. refl) runner there (crashed one after runner) refl refl refl
            (λ hears. (sound_on number stream runner.node.kept _ runner.sessions (step_on (Stops one after) runner.node.kept _
            (stepped_so runner.node.setup runner.node.kept (Stops one after) (λ lost is. cc))) hears.sound).given)

        by_up : (one : Packet) (runner : Runner) → runner_at world node ≡ Some runner → (up : Bool) →
            LineSo stream said (done_by (if up then shared world node (crashed one after runner) else refuses world is_down))
        by_up one runner there true = stops one runner there
        by_up one runner there false = calm (refuses world is_down) (refuses_so stream world is_down heard)

        by_runner : (one : Packet) (found : Option Runner) → runner_at world node ≡ found →
            LineSo stream said (done_by (up_or_refuses world (λ runner. shared world node (crashed one after runner)) found))
        by_runner one None there = calm (refuses world no_node) (refuses_so stream world no_node heard)
        by_runner one (Some runner) there = by_up one runner there (is_up runner)

        by_packet : (found : Option Packet) → LineSo stream said (done_by (crashes_if world node after found))
        by_packet None = calm (refuses world no_packet) (refuses_so stream world no_packet heard)
        by_packet (Some one) = by_runner one (runner_at world node) refl

    restart_line : (node : ℕ) → 1 ≤ node → node ≤ 9 → LineSo stream (Restart node) (done_by (restarts world node))
    restart_line node least most = by_runner (runner_at world node) refl
      where
        calm : (moved : Moved) → MovesSo stream moved → LineSo stream (Restart node) (done_by moved)
        calm = calm_there node least most (Restart node) (λ written. refl)

        -- nothing waits at a node that starts
        given_none : (runner : Runner) (up : Bool) (h : Held) →
            In h (if up then stepped_up runner.node.setup runner.node.kept (Starts 0)
            else stepped_down runner.node.setup runner.node.kept (Starts 0)).kept.held → ⊥
        given_none runner true h among = among
        given_none runner false h among = among

        declines : (runner : Runner) → runner_at world node ≡ Some runner → MovesSo stream (shared world node (declined runner no_incarnation))
        declines runner there =
            shared_so stream world heard node least (declined runner no_incarnation)
            (λ same. record {
              hears = the_runner stream world heard node least runner there same;
              fine = λ print among. elim among [
                | inl is ↦ record { ungone = λ gone. not_gone number (sym is ∙ gone); right = subst (IsRight number stream) (sym is) tt }
                | inr none ↦ absurd none
              ];
            })
            (λ session among. elim among [ inl is ↦ not_gone session (sym is) | inr none ↦ none ])
          where
            not_gone : (session : ℕ) → Declined no_incarnation ≡ Gone session → ⊥
            not_gone session is = cc

        by_left : (runner : Runner) → runner_at world node ≡ Some runner → (left : Bool) →
            LineSo stream (Restart node) (done_by (shared world node (if left then restarted runner else declined runner no_incarnation)))
        by_left runner there true =
            all_gone node least most (Restart node) (λ written. refl) runner there (restarted runner) refl refl refl
            (λ hears h among. absurd (given_none runner runner.node.kept.up h among))
        by_left runner there false = calm (shared world node (declined runner no_incarnation)) (declines runner there)

        by_runner : (found : Option Runner) → runner_at world node ≡ found → LineSo stream (Restart node) (done_by (restarts_if world node found))
        by_runner None there = calm (refuses world no_node) (refuses_so stream world no_node heard)
        by_runner (Some runner) there = by_left runner there (nat_lt runner.node.kept.incarnation last_incarnation)

    -- ---- each line

    module _ (line : List ℕ) where
      moved_so : (said : Said) (moved : Moved) (done : Stepped) → does moved ≡ Some done → LineSo stream said (done_by moved) → LineSo stream said done
      moved_so said moved done is so = subst (LineSo stream said) (same (done_by moved) done is) so
        where
          same : (one other : Stepped) → Some one ≡ Some other → one ≡ other
          same one other is = cc

      said_so : (said : Said) (done : Stepped) → said_within (length world.runners) line ≡ Some said → moved_by settings world said ≡ Some done →
          LineSo stream said done
      said_so Skipped done says is = moved_so Skipped (rests world) done is (calm_line stream Skipped (rests world) refl short (stays_so stream world heard))
      said_so (Nodes count serial) done says is = absurd cc
      said_so (Octets node at octets) done says is =
          let wording = (spells_within (length world.runners) line (Octets node at octets) says).wording in
          moved_so (Octets node at octets) (hears settings world node at octets) done is
          (octets_line node at octets wording.0.least wording.0.most wording.1.most)
      said_so (Deliver packet node) done says is =
          let least = (spells_within (length world.runners) line (Deliver packet node) says).wording.1.least in
          moved_so (Deliver packet node) (comes world packet node) done is
          (calm_line stream (Deliver packet node) (comes world packet node) refl short (comes_so stream world heard packet node least))
      said_so (Crash node packet after) done says is =
          let wording = (spells_within (length world.runners) line (Crash node packet after) says).wording in
          moved_so (Crash node packet after) (crashes world node packet after) done is (crash_line node packet after wording.0.least wording.0.most)
      said_so (Tick node moment) done says is =
          let least = (spells_within (length world.runners) line (Tick node moment) says).wording.0.least in
          moved_so (Tick node moment) (ticks world node moment) done is
          (calm_line stream (Tick node moment) (ticks world node moment) refl short (ticks_so stream world heard node least moment))
      said_so (Grant node id) done says is =
          let least = (spells_within (length world.runners) line (Grant node id) says).wording.0.least in
          moved_so (Grant node id) (grants world node id) done is
          (calm_line stream (Grant node id) (grants world node id) refl short (grants_so stream world heard node least id))
      said_so (Settle nodes) done says is =
          moved_so (Settle nodes) (on_settle world nodes) done is
          (calm_line stream (Settle nodes) (on_settle world nodes) refl short (settles_so stream most_deliveries nodes world heard))
      said_so (Restart node) done says is =
          let wording = (spells_within (length world.runners) line (Restart node) says).wording in
          moved_so (Restart node) (restarts world node) done is (restart_line node wording.0.least wording.0.most)
      said_so (Replay count) done says is =
          moved_so (Replay count) (on_replay world count) done is
          (calm_line stream (Replay count) (on_replay world count) refl short (replays_so stream count (length world.packets) world heard))

      pub line_so : (done : Stepped) → step_of settings (Some world) line ≡ Some done →
          (said : Said) × (said_within (length world.runners) line ≡ Some said) × LineSo stream said done
      unfolding step_of
      line_so done is = by_said (said_within (length world.runners) line) refl is
        where
          by_said : (found : Option Said) → said_within (length world.runners) line ≡ found → step_by settings (Some world) found ≡ Some done →
              (said : Said) × (said_within (length world.runners) line ≡ Some said) × LineSo stream said done
          by_said None says is = absurd cc
          by_said (Some said) says is = (said, says, said_so said done says is)
