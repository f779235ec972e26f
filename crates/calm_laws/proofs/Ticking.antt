-- A tick of a calm script, at which nothing that was pushed waits: the runner and the one node stay alike.
use Rattle.std.proofs.Common.{◌≡◌, ℕ, suc, ◌+◌, ◌<◌, ◌^◌, Bool, true, false, cond, List, [], ◌∷◌, ◌++◌, Option, Some, None, refl, sym, ◌∙◌, ap, subst, arith}
use Rattle.std.specs.Prelude.{filter, flat_map, not}
use Rattle.std.specs.List.{AllByRecursion}
use Rattle.std.specs.Map.{lookup}
use Rattle.std.specs.Ordering.{nat_cmp}
use Rattle.std.specs.BTreeMap.{is_at}
use Rattle.mc_model.specs.node.Outputs.{Receipt}
use Rattle.mc_model.specs.node.Setup.{Setup}
use Rattle.node_model.specs.Outputs.{Stepped}
use Rattle.node_model.specs.Stepped.{stepped}
use Rattle.table_laws.specs.Alone.{alone}
use Rattle.table_laws.specs.Settling.{SettlesOn}
use Rattle.table_laws.specs.Tables.{Table, TableNode}
use Rattle.table_laws.specs.Ticks.{receipts_ticked, ticked}
use Rattle.table_laws.proofs.Clocked.{tick_settles}
use Rattle.sessions.specs.Session.{Session}
use Rattle.sessions.specs.Steps.{on_tick as timely}
use Rattle.sessions.specs.Windows.{is_overdue}
use Rattle.sessions.specs.declared.pushed.Pushed.{Pushed}
use Rattle.script_text.specs.Left.{followed_by, rests}
use Rattle.script_text.specs.Settings.{Settings}
use Rattle.script_text.specs.Attempts.{all_given_up}
use Rattle.script_text.specs.Node.{Node, tick_at, with_step}
use Rattle.script_text.specs.Pushes.{accounts_up, overdue_in, timely_in}
use Rattle.delivery.specs.Targets.{is_up}
use Rattle.script_text.specs.Receipts.{posted_for_all}
use Rattle.script_text.specs.Runner.{Acted, Owned, Runner, Told, answered, gives_up, gives_up_by, mail_of, makes_room}
use Rattle.script_text.specs.Runner.{on_tick, posts_for_all, session_in, session_or_opened, told, with_posted}
use Rattle.script_text.specs.OneNode.{OneNode, ticks_up}
use Rattle.script_text.specs.Calm.{may_happen, pushed_in, tick_stir}
use Rattle.calm_laws.proofs.Connected.{AreConnected, EntryIs}
use Rattle.calm_laws.proofs.Posting.{for_all_alike}
use Rattle.calm_laws.proofs.Pushing.{up_alike}
use Rattle.calm_laws.proofs.Running.{AreDone, Runs, posts_leave}
use Rattle.calm_laws.proofs.Standing.{AreQuiet, IsFit, node_of, quiet_now, stepped_on}
use Rattle.calm_laws.proofs.Windows.{AreDistinct, AreWaiting, Waits}

-- ---- nothing waits that was pushed

tick_quiet : (quiet : Bool) (pushed : List Pushed) → may_happen quiet (tick_stir pushed) ≡ true → (quiet ≡ true) × (pushed ≡ [])
tick_quiet quiet [] may = (may, refl)
tick_quiet quiet (first ∷ others) may = absurd cc

front_empty : {A : Type 0} (xs ys : List A) → xs ++ ys ≡ [] → (xs ≡ []) × (ys ≡ [])
front_empty [] ys none = (refl, none)
front_empty (x ∷ xs) ys none = absurd cc

none_pushed : (sessions : List (ℕ × Session)) → flat_map (λ entry. entry.1.pushed) sessions ≡ [] → (number : ℕ) → (session_in sessions number).pushed ≡ []
none_pushed [] none number = refl
none_pushed (entry ∷ entries) none number = by_test (is_at (nat_cmp number) entry.0) (none_pushed entries parts.1 number)
  where
    parts : (entry.1.pushed ≡ []) × (flat_map (λ e. e.1.pushed) entries ≡ [])
    parts = front_empty entry.1.pushed (flat_map (λ e. e.1.pushed) entries) none

    by_test : (test : Bool) → (session_in entries number).pushed ≡ [] →
        (session_or_opened (cond test (Some entry.1) (lookup (is_at (nat_cmp number)) entries))).pushed ≡ []
    by_test true behind = parts.0
    by_test false behind = behind

module _ (theirs : List (ℕ × Session)) (none : (number : ℕ) → (session_in theirs number).pushed ≡ []) (holds : Option Owned) (now : ℕ) where
  -- so nothing is overdue
  none_overdue : (connected : List (ℕ × Session)) → AllByRecursion (EntryIs theirs holds) connected → overdue_in connected now ≡ []
  none_overdue [] all = refl
  none_overdue (entry ∷ entries) all =
      let empty : entry.1.pushed ≡ [] = ap (λ (s : Session). s.pushed) all.0 ∙ none entry.0 in rw empty (none_overdue entries all.1)

  -- and no session changes
  all_timely : (connected : List (ℕ × Session)) → AllByRecursion (EntryIs theirs holds) connected → timely_in connected now ≡ connected
  all_timely [] all = refl
  all_timely (entry ∷ entries) all =
      let empty : entry.1.pushed ≡ [] = ap (λ (s : Session). s.pushed) all.0 ∙ none entry.0 in
      λ i. (entry.0, kept entry.1 empty i) ∷ all_timely entries all.1 i
    where
      kept : (session : Session) → session.pushed ≡ [] → timely session now ≡ session
      kept session empty =
          ap (λ (pushed : List Pushed). record session { pushed = filter (λ request. not (is_overdue now request)) pushed }) empty
          ∙ (λ i. record session { pushed = sym empty i })

gives_nothing_up : (runner : Runner) (now : ℕ) → overdue_in runner.sessions now ≡ [] → timely_in runner.sessions now ≡ runner.sessions →
    gives_up runner now ≡ rests runner
unfolding all_given_up
gives_nothing_up runner now none timely =
    ap (λ (pushed : List Pushed). gives_up_by runner now (all_given_up runner.node pushed)) none
    ∙ ap (λ (sessions : List (ℕ × Session)). record { next = record runner { sessions = sessions }; inputs = []; prints = [] }) timely

-- and none does after any change of the table
waits_none : (table : Table) (sessions : List (ℕ × Session)) → ((number : ℕ) → (session_in sessions number).pushed ≡ []) → AreWaiting table sessions
waits_none table sessions none = record {
  holder = λ id. 0;
  each = λ number. subst (λ (ps : List Pushed). AllByRecursion (λ pushed. Waits table (λ id. 0) number pushed.delivery) ps) (sym (none number)) tt;
  distinct = λ number. subst AreDistinct (sym (none number)) tt;
}

-- ---- a tick

module _ (settings : Settings) (first left : ℕ) (one : OneNode) (streams : List (ℕ × List ℕ)) (runner : Runner) (moment : ℕ)
    (runs : Runs settings first (suc left) true one streams runner)
    (quiet : AreQuiet settings first (suc left) one (node_of settings first runner.node.kept)) (none : pushed_in one ≡ []) where
  abbrev setup : Setup
  setup = alone first settings.validity

  abbrev t : TableNode
  t = one.node

  abbrev then : TableNode
  then = ticked t moment (is_up (accounts_up one.sessions))

  abbrev now_receipts : List (List ℕ) → List Receipt
  now_receipts up = receipts_ticked t moment (is_up up)

  -- the one node, before what waits goes out
  abbrev ticked_one : OneNode
  ticked_one = record one { node = then; due = one.due ++ now_receipts (accounts_up one.sessions) }

  -- a runner and the one node then
  abbrev Ticked : Acted → Type 0
  Ticked acted = AreDone settings first left false streams acted (ticks_up one moment (is_up (accounts_up one.sessions)))

  abbrev now : Runner
  now = record runner { node = node_of settings first runner.node.kept }

  were : AreConnected one.sessions None runner.sessions
  were = subst (λ (o : Option Owned). AreConnected one.sessions o runner.sessions) runs.still.0 runs.sessions

  empty : (number : ℕ) → (session_in one.sessions number).pushed ≡ []
  empty = none_pushed one.sessions none

  abbrev step : Stepped
  step = stepped setup runner.node.kept (tick_at moment (accounts_up runner.sessions))

  on : SettlesOn setup step then [] (now_receipts (accounts_up one.sessions))
  on =
      subst (λ (up : List (List ℕ)). SettlesOn setup step (ticked t moment (is_up up)) [] (now_receipts up))
      (up_alike one.sessions None runner.sessions were)
      (tick_settles first settings.validity runner.node.kept t moment (is_up (accounts_up runner.sessions)) quiet.resting)

  fit_then : IsFit ticked_one
  fit_then = record {
    least = quiet.fit.least;
    plain = quiet.fit.plain;
    waiting = waits_none then.table one.sessions empty;
  }

  abbrev next : Node
  next = with_step now.node step

  -- the node is told, and nothing goes out
  abbrev tells : Acted
  tells = answered now next (tick_at moment (accounts_up runner.sessions)) (rests runner.sessions)

  room_left : t.ticket + left < 2 ^ 64
  room_left = let room = quiet.room in omega (arith, room)

  told_runs : Runs settings first left false ticked_one streams tells.next
  told_runs = record {
    holds = None;
    agree =
        stepped_on settings first left ticked_one runner.node.kept step (now_receipts (accounts_up one.sessions)) fit_then room_left on quiet.owed
        (ap (λ (receipts : List Receipt). receipts ++ now_receipts (accounts_up one.sessions)) quiet.due);
    still = tt;
    held = runs.held;
    sessions = were;
    waiting = runs.waiting;
  }

  -- what waits goes out to these accounts
  abbrev posts_to : List (List ℕ) → Acted
  posts_to accounts =
      with_posted tells.next (posted_for_all tells.next.node.kept.clock (mail_of tells.next) accounts)

  posted : Ticked (followed_by tells (posts_to (accounts_up one.sessions)))
  posted =
      (posts_leave settings first left false ticked_one streams tells.next (λ moment before. posted_for_all moment before (accounts_up one.sessions))
      told_runs (λ moment. for_all_alike moment then told_runs.holds (accounts_up one.sessions))).done

  abbrev room_made : Acted → Acted
  room_made acted = followed_by acted (posts_for_all acted.next)

  abbrev goes_on : Acted → Acted
  goes_on acted = followed_by acted (makes_room acted.next)

  quiet_ticks : Ticked (on_tick now moment)
  unfolding told
  quiet_ticks =
      let silent : told runner.sessions step.outputs.replies ≡ rests runner.sessions =
      ap (told runner.sessions) on.replies_later in
      let clock = tells.next.node.kept.clock in
      let nothing = gives_nothing_up tells.next clock (none_overdue one.sessions empty None clock runner.sessions were.entries)
      (all_timely one.sessions empty None clock runner.sessions were.entries) in
      subst (λ (t : Told). Ticked (goes_on (answered now next (tick_at moment (accounts_up runner.sessions)) t))) (sym silent)
      (subst (λ (last : Acted). Ticked (followed_by tells (room_made last))) (sym nothing)
      (subst (λ (up : List (List ℕ)). Ticked (followed_by tells (posts_to up))) (sym (up_alike one.sessions None runner.sessions were)) posted))

pub tick_leaves : (settings : Settings) (first left : ℕ) (quiet : Bool) (one : OneNode) (streams : List (ℕ × List ℕ)) (runner : Runner) (moment : ℕ) →
    may_happen quiet (tick_stir (pushed_in one)) ≡ true → Runs settings first (suc left) quiet one streams runner →
    AreDone settings first left false streams (on_tick runner moment) (ticks_up one moment (is_up (accounts_up one.sessions)))
tick_leaves settings first left quiet one streams runner moment may runs =
    let parts = tick_quiet quiet (pushed_in one) may in
    let runs_quiet : Runs settings first (suc left) true one streams runner =
    subst (λ (q : Bool). Runs settings first (suc left) q one streams runner) parts.0 runs in
    let nodes = quiet_now settings first (suc left) one runs_quiet.holds runner.node runs_quiet.agree runs_quiet.still in
    subst
    (λ (node : Node). AreDone settings first left false streams (on_tick (record runner { node = node }) moment)
    (ticks_up one moment (is_up (accounts_up one.sessions))))
    (sym nodes.node_is)
    (quiet_ticks settings first left one streams runner moment runs_quiet (subst (AreQuiet settings first (suc left) one) nodes.node_is nodes) parts.1)
