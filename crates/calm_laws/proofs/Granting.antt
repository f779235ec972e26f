-- An attempt is asked for in a calm script: it is granted and goes out, or fails, or is not granted, by the runner and the one node alike.
use Rattle.std.proofs.Common.{◌≡◌, ℕ, suc, pred, ◌+◌, ◌<◌, ◌^◌, Bool, true, false, cond, List, [], ◌∷◌, length, Option, Some, None, refl}
use Rattle.std.proofs.Common.{sym, ◌∙◌, ap, subst, arith}
use Rattle.mc_model.specs.message.Chain.{taken_in}
use Rattle.mc_model.specs.message.Decree.{Attempt, Decree, Failed, Fate, Told, Kind, Taken}
use Rattle.mc_model.specs.message.Submission.{Submission}
use Rattle.std.specs.Prelude.{◌==◌, not}
use Rattle.mc_model.specs.node.Grant.{AlreadyGranted, GrantRefusal, NotMine, OlderIncarnation}
use Rattle.mc_model.specs.node.Input.{Grant}
use Rattle.mc_model.specs.node.Outputs.{Receipt}
use Rattle.mc_model.specs.node.Setup.{Setup}
use Rattle.mc_model.specs.synod.Packet.{Slot, slot_at}
use Rattle.node_model.specs.Attempts.{grant_refusal, on_grant as given_out}
use Rattle.node_model.specs.Granted.{known_place, known_slot}
use Rattle.node_model.specs.Kept.{Kept}
use Rattle.node_model.specs.Outputs.{Stepped}
use Rattle.node_model.specs.Starts.{is_idle}
use Rattle.node_model.specs.Stepped.{stepped}
use Rattle.table_laws.specs.Alone.{alone}
use Rattle.table_laws.specs.Attempts.{attempt_refusal, chain_refusal, granted_at, newest_refusal, newest_slot, refusal_at}
use Rattle.table_laws.specs.Resting.{IsResting}
use Rattle.table_laws.specs.Settling.{SettlesOn}
use Rattle.table_laws.specs.Tables.{Entry, TableNode, entry_at, known_as}
use Rattle.table_laws.proofs.Frames.{entry_here}
use Rattle.table_laws.proofs.Granting.{grant_refused, grant_settles}
use Rattle.sessions.specs.Session.{Session}
use Rattle.sessions.specs.declared.pushed.Delivery.TheVariants as deliveries
use Rattle.script_text.specs.Left.{followed_by}
use Rattle.script_text.specs.Settings.{Settings}
use Rattle.script_text.specs.Attempts.{concluded, submission_at, taken_on, unanswered}
use Rattle.script_text.specs.Node.{Node, with_step}
use Rattle.script_text.specs.Prints.{Delivers}
use Rattle.script_text.specs.Pushes.{delivery_on, is_long, target_in, with_push}
use Rattle.script_text.specs.Runner.{Acted, Owned, Runner, fails_by, held_in, on_grant, pushes, sent_to, session_in, session_or_opened}
use Rattle.script_text.specs.Runner as runners
use Rattle.script_text.specs.OneNode.{Happened, OneNode, concludes, prints_now, sent_over}
use Rattle.script_text.specs.OneNode as one_node
use Rattle.calm_laws.proofs.Concluding.{outcome_comes}
use Rattle.calm_laws.proofs.Connected.{AreConnected}
use Rattle.calm_laws.proofs.Pushing.{IsTarget, push_connected, push_fit, target_alike, target_found}
use Rattle.calm_laws.proofs.Running.{AreDone, Runs}
use Rattle.calm_laws.proofs.Standing.{AreQuiet, IsFit, node_of, quiet_now, rested, rests_now, settles_so}
use Rattle.calm_laws.proofs.Windows.{AreOff, IsNewest, IsUnderway, off_unless, waiting_with}

-- ---- it goes out, or fails

module _ (settings : Settings) (first left : ℕ) (streams : List (ℕ × List ℕ)) where
  abbrev AreGiven : Acted → Happened → Type 0
  AreGiven acted happened = AreDone settings first left false streams acted happened

  -- ---- an attempt is granted, and no attempt of its message waits

  module _ (one : OneNode) (k : Kept) (connected : List (ℕ × Session)) (held : List (ℕ × List ℕ)) (waits : List Receipt) (id : ℕ) (fit : IsFit one)
      (room : one.node.ticket + left < 2 ^ 64) (resting : IsResting k one.node) (owed : one.owed ≡ []) (due : one.due ≡ [])
      (were : AreConnected one.sessions None connected)
      (same : (number : ℕ) → held_in held number ≡ held_in streams number) (waiting : waits ≡ one.waiting)
      (newest : IsNewest (entry_at one.node.table id) (newest_slot one.node id)) (off : AreOff id one.sessions) where
    abbrev now : Runner
    now = record { node = node_of settings first k; sessions = connected; streams = held; waiting = waits }

    abbrev slot : Slot
    slot = newest_slot one.node id

    -- it fails
    fails : AreGiven (fails_by now (concluded now.node slot unanswered)) (prints_now (concludes one id unanswered) [])
    fails = (
      record {
        holds = None;
        agree = outcome_comes settings first left one k fit room resting owed due slot unanswered newest off;
        still = tt;
        held = same;
        sessions = were;
        waiting = waiting;
      },
      refl,
    )

    module _ (taken : Submission) where
      -- it goes out over a session
      module _ (number : ℕ) (it : IsTarget one.sessions None connected were number) where
        abbrev next : OneNode
        next = record one { sessions = with_push one.sessions number one.node.clock (deliveries.Attempt slot) }

        -- of this moment
        abbrev pushed_at : ℕ → Acted
        pushed_at moment = record {
          next = record now { sessions = with_push connected number moment (deliveries.Attempt slot) };
          inputs = [];
          prints = Delivers number (delivery_on it.mine taken) ∷ [];
        }

        delivered_so : delivery_on it.mine taken ≡ delivery_on (session_in one.sessions number) taken
        delivered_so =
            ap (λ (s : Session). delivery_on s taken) it.mine_is
            ∙ ap (λ (o : Option Session). delivery_on (session_or_opened o) taken) (sym it.found)

        goes_out : AreGiven (pushes now slot taken number (Some it.mine)) (sent_over one id taken (Some number))
        goes_out =
            subst (λ (moment : ℕ). AreGiven (pushed_at moment) (sent_over one id taken (Some number))) (sym resting.clock) (
              record {
                holds = None;
                agree =
                    rested settings first left next k
                    (push_fit one.node one.sessions None connected were number it one.node.clock fit slot newest off) room resting owed due;
                still = tt;
                held = same;
                sessions = push_connected one.sessions None connected were number it one.node.clock (deliveries.Attempt slot);
                waiting = waiting;
              },
              ap (λ pdu. Delivers number pdu ∷ []) delivered_so,
            )

      over_alike : (target : Option ℕ) → target_in one.sessions (is_long taken.text) taken.target ≡ target → AreGiven (sent_to now slot taken target) (sent_over one id taken target)
      over_alike None is = fails
      over_alike (Some number) is =
          let it = target_found one.sessions None connected were (is_long taken.text) taken.target number is in
          subst (λ (found : Option Session). AreGiven (pushes now slot taken number found) (sent_over one id taken (Some number))) (sym it.mine_found)
          (goes_out number it)

    sent_alike : (taken : Option Submission) → AreGiven (runners.sent now slot taken) (one_node.sent one id taken)
    sent_alike None = fails
    sent_alike (Some taken) =
        subst (λ (target : Option ℕ). AreGiven (sent_to now slot taken target) (one_node.sent one id (Some taken)))
        (sym (target_alike one.sessions None connected were (is_long taken.text) taken.target)) (over_alike taken (target_in one.sessions (is_long taken.text) taken.target) refl)

-- ---- what the table says

-- what is granted was not, and its newest decree is an attempt
module _ (t : TableNode) where
  may_grant : (granted : Bool) (newest : Decree) → attempt_refusal t granted newest ≡ None → granted ≡ true → ⊥
  may_grant granted newest none is = by_tests (not (newest.author.node == 1)) (not (newest.author.incarnation == t.incarnation)) granted none is
    where
      by_tests : (other older test : Bool) →
          cond other (Some NotMine) (cond older (Some OlderIncarnation) (cond test (Some AlreadyGranted) None)) ≡ None → test ≡ true → ⊥
      by_tests true older test none is = cc
      by_tests false true test none is = cc
      by_tests false false true none is = cc
      by_tests false false false none is = cc

  newest_grants : (granted : Bool) (newest : Decree) (kind : Kind) → newest_refusal t granted newest kind ≡ None →
      (granted ≡ true → ⊥) × (is_idle kind ≡ false)
  newest_grants granted newest (Taken message) none = absurd cc
  newest_grants granted newest (Attempt number) none = (may_grant granted newest none, refl)
  newest_grants granted newest (Failed error) none = absurd cc
  newest_grants granted newest (Fate final error) none = absurd cc
  newest_grants granted newest Told none = absurd cc

  chain_grants : (granted : Bool) (chain : List Decree) → chain_refusal t granted chain ≡ None → (granted ≡ true → ⊥) × IsUnderway chain
  chain_grants granted [] none = absurd cc
  chain_grants granted (newest ∷ older) none = newest_grants granted newest newest.kind none

slot_known : (id : ℕ) (chain : List Decree) → slot_at id (known_place (known_as chain)) ≡ slot_at id (pred (length chain))
slot_known id [] = refl
slot_known id (newest ∷ older) = refl

taken_known : (chain : List Decree) → taken_on (known_as chain) ≡ taken_in chain
taken_known [] = refl
taken_known (newest ∷ older) = refl

-- ---- a grant

module _ (settings : Settings) (first left : ℕ) (streams : List (ℕ × List ℕ)) (one : OneNode) (k : Kept) (connected : List (ℕ × Session))
    (held : List (ℕ × List ℕ)) (waits : List Receipt) (id : ℕ) (quiet : AreQuiet settings first (suc left) one (node_of settings first k))
    (were : AreConnected one.sessions None connected) (same : (number : ℕ) → held_in held number ≡ held_in streams number)
    (waiting : waits ≡ one.waiting) where
  abbrev runner : Runner
  runner = record { node = node_of settings first k; sessions = connected; streams = held; waiting = waits }

  abbrev setup : Setup
  setup = alone first settings.validity

  abbrev t : TableNode
  t = one.node

  abbrev entry : Entry
  entry = entry_at t.table id

  room_left : t.ticket + left < 2 ^ 64
  room_left = let room = quiet.room in omega (arith, room)

  not_granted : (refusal : GrantRefusal) → AreDone settings first left false streams (runners.granted_unless runner id (newest_slot t id) (Some refusal))
      (one_node.granted_unless one id (Some refusal))
  not_granted refusal = (
    record {
      holds = None;
      agree = rested settings first left one k quiet.fit room_left quiet.resting quiet.owed quiet.due;
      still = tt;
      held = same;
      sessions = were;
      waiting = waiting;
    },
    refl,
  )

  -- ---- it is granted

  module _ (allowed : refusal_at t id ≡ None) where
    abbrev given : Entry
    given = record entry { granted = true }

    abbrev once_granted : OneNode
    once_granted = record one { node = granted_at t id }

    grants : (entry.granted ≡ true → ⊥) × IsUnderway entry.chain
    grants = chain_grants t entry.granted entry.chain allowed

    off : AreOff id one.sessions
    off = off_unless t.table one.sessions quiet.fit.waiting id (λ underway granted. grants.0 granted)

    fit_then : IsFit once_granted
    fit_then = record {
      least = quiet.fit.least;
      plain = quiet.fit.plain;
      waiting = waiting_with t.table one.sessions quiet.fit.waiting id given off;
    }

    entry_is : entry_at once_granted.node.table id ≡ given
    entry_is = entry_here t.table id given

    newest_then : IsNewest (entry_at once_granted.node.table id) (newest_slot once_granted.node id)
    newest_then = record {
      place = refl;
      granted = ap (λ (e : Entry). e.granted) entry_is;
      underway = subst (λ (e : Entry). IsUnderway e.chain) (sym entry_is) grants.1;
    }

    abbrev step : Stepped
    step = given_out k (newest_slot t id)

    begun : stepped setup k (Grant (newest_slot t id)) ≡ step
    begun = let up = quiet.resting.up in rw up refl

    rests_then : IsResting step.kept once_granted.node
    rests_then =
        (rests_now setup step.kept once_granted.node [] []
        (settles_so setup step once_granted.node [] []
        (subst (λ (s : Stepped). SettlesOn setup s once_granted.node [] []) begun (grant_settles first settings.validity k t id quiet.resting allowed)))).0

    -- the node goes on by this step, and the attempt in this slot is sent
    abbrev goes_on : Stepped → Slot → Option Submission → Acted
    goes_on by place taken =
        followed_by
        (record { next = record runner { node = with_step runner.node by }; inputs = Grant (newest_slot t id) ∷ []; prints = [] })
        (runners.sent (record runner { node = with_step runner.node by }) place taken)

    abbrev AreGranted : Stepped → Slot → Option Submission → Type 0
    AreGranted by place taken = AreDone settings first left false streams (goes_on by place taken) (one_node.granted_unless one id None)

    slot_is : newest_slot once_granted.node id ≡ newest_slot t id
    slot_is = ap (λ (e : Entry). slot_at id (pred (length e.chain))) entry_is

    submission_is : submission_at runner.node id ≡ taken_in entry.chain
    submission_is = ap taken_on (quiet.resting.message id).ready.known ∙ taken_known entry.chain

    granted_so : AreDone settings first left false streams (runners.granted_unless runner id (newest_slot t id) None) (one_node.granted_unless one id None)
    granted_so =
        subst (λ (by : Stepped). AreGranted by (newest_slot t id) (submission_at runner.node id)) (sym begun)
        (subst (AreGranted step (newest_slot t id)) (sym submission_is)
        (subst (λ (place : Slot). AreGranted step place (taken_in entry.chain)) slot_is
        (sent_alike settings first left streams once_granted step.kept connected held waits id fit_then room_left rests_then quiet.owed
        quiet.due were same waiting newest_then off
        (taken_in entry.chain))))

  by_refusal : (refusal : Option GrantRefusal) → refusal_at t id ≡ refusal →
      AreDone settings first left false streams (runners.granted_unless runner id (newest_slot t id) refusal) (one_node.granted_unless one id refusal)
  by_refusal None allowed = granted_so allowed
  by_refusal (Some refusal) refused = not_granted refusal

  grant_quiet : AreDone settings first left false streams (on_grant runner id) (one_node.granted_unless one id (refusal_at t id))
  grant_quiet =
      let slot_is : known_slot k id ≡ newest_slot t id =
      ap (λ (known : Option (List Decree)). slot_at id (known_place known)) (quiet.resting.message id).ready.known ∙ slot_known id entry.chain in
      subst
      (λ (slot : Slot). AreDone settings first left false streams (runners.granted_unless runner id slot (grant_refusal setup k id))
      (one_node.granted_unless one id (refusal_at t id)))
      (sym slot_is)
      (subst
      (λ (refusal : Option GrantRefusal). AreDone settings first left false streams (runners.granted_unless runner id (newest_slot t id) refusal)
      (one_node.granted_unless one id (refusal_at t id)))
      (sym (grant_refused first settings.validity k t id quiet.resting))
      (by_refusal (refusal_at t id) refl))

pub grant_leaves : (settings : Settings) (first left : ℕ) (one : OneNode) (streams : List (ℕ × List ℕ)) (runner : Runner) (id : ℕ) →
    Runs settings first (suc left) true one streams runner →
    Runs settings first left false (one_node.granted_unless one id (refusal_at one.node id)).next streams (on_grant runner id).next
    × ((on_grant runner id).prints ≡ (one_node.granted_unless one id (refusal_at one.node id)).prints)
grant_leaves settings first left one streams runner id runs =
    let quiet = quiet_now settings first (suc left) one runs.holds runner.node runs.agree runs.still in
    subst
    (λ (node : Node). AreDone settings first left false streams (on_grant (record runner { node = node }) id)
    (one_node.granted_unless one id (refusal_at one.node id)))
    (sym quiet.node_is)
    (grant_quiet settings first left streams one runner.node.kept runner.sessions runner.streams runner.waiting id
    (subst (AreQuiet settings first (suc left) one) quiet.node_is quiet)
    (subst (λ (o : Option Owned). AreConnected one.sessions o runner.sessions) runs.still.0 runs.sessions) runs.held runs.waiting)
