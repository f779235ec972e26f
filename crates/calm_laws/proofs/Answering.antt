-- The ESME answers what was pushed to it, and the node is at rest: the runner and the one node do alike.
use Rattle.std.proofs.Common.{◌≡◌, ℕ, suc, ◌+◌, ◌<◌, ◌^◌, Bool, false, List, [], Option, Some, None, refl, sym, ◌∙◌, ap, subst, arith}
use Rattle.std.specs.Prelude.{◌==◌, find}
use Rattle.std.specs.Ordering.{nat_cmp}
use Rattle.std.specs.BTreeMap.{insert_entry}
use Rattle.mc_model.specs.node.Outcome.{Outcome}
use Rattle.node_model.specs.Kept.{Kept}
use Rattle.sessions.specs.Session.{Session}
use Rattle.sessions.specs.Steps.{answers_to, on_answer}
use Rattle.sessions.specs.Windows.{without_first}
use Rattle.sessions.specs.declared.pushed.Delivery.{Delivery}
use Rattle.sessions.specs.declared.pushed.Delivery.TheVariants.{Attempt, Receipt}
use Rattle.sessions.specs.declared.pushed.Pushed.{Pushed}
use Rattle.sessions.proofs.Firsts.{stays}
use Rattle.script_text.specs.Left.{rests}
use Rattle.script_text.specs.Settings.{Settings}
use Rattle.script_text.specs.Attempts.{Went, delivered_so}
use Rattle.script_text.specs.Runner.{Served, gone_on, on_done, on_reaction, session_in}
use Rattle.script_text.specs.Runner as runner
use Rattle.script_text.specs.OneNode.{Happened, OneNode, answered, prints_now, reacted, with_session}
use Rattle.calm_laws.proofs.Came.{Came, reacted_by}
use Rattle.calm_laws.proofs.Concluding.{outcome_comes}
use Rattle.calm_laws.proofs.Plain.{IsBut, IsPlain, each_but, holding, like, put_but}
use Rattle.calm_laws.proofs.Standing.{Agree, AreQuiet, IsFit, node_of, rested}
use Rattle.calm_laws.proofs.Windows.{AreWaiting, it_waits, left_waits, others_are_off}

-- a session of the one node is another now
pub fit_session : (one : OneNode) (number : ℕ) (next : Session) → IsFit one → IsPlain next →
    AreWaiting one.node.table (insert_entry nat_cmp one.sessions number next) → IsFit (with_session one number next)
fit_session one number next fit plain waiting = record {
  least = fit.least;
  plain =
      each_but (λ n session. IsPlain session) number one.sessions (insert_entry nat_cmp one.sessions number next) next (put_but number one.sessions next) plain
      (λ other differ. fit.plain other);
  waiting = waiting;
}

module _ (settings : Settings) (first left number : ℕ) (one : OneNode) (k : Kept) (quiet : AreQuiet settings first (suc left) one (node_of settings first k))
    (account : Option (List ℕ)) (version following : ℕ) (pushed : List Pushed) (is : like account version pushed following [] ≡ session_in one.sessions number)
    (came : runner.Came) (sequence : ℕ) where
  abbrev test : Pushed → Bool
  test one_pushed = one_pushed.sequence == sequence

  abbrev session : Session
  session = like account version pushed following []

  abbrev next : Session
  next = like account version (without_first test pushed) following []

  abbrev LeftAlike : Served → Happened → Type 0
  LeftAlike served happened = Came settings first left number false one None served happened account

  room_left : one.node.ticket + left < 2 ^ 64
  room_left = let room = quiet.room in omega (arith, room)

  -- ---- nothing that was pushed is answered

  nothing_answered : find test pushed ≡ None → LeftAlike (on_reaction settings number (node_of settings first k) came next (answers_to None))
      (reacted settings one number came next (answers_to None))
  nothing_answered none = record {
    holds = None;
    agree = rested settings first left one k quiet.fit room_left quiet.resting quiet.owed quiet.due;
    session = ap (λ (ps : List Pushed). like account version ps following []) (stays test pushed none) ∙ ap (λ (s : Session). holding s []) is;
    bound = refl;
    prints = refl;
    others = λ other differ. refl;
    requests = λ other differ. refl;
    waiting = refl;
    still = tt;
  }

  -- ---- this is

  module _ (it : Pushed) (found : find test pushed ≡ Some it) where
    abbrev now : List (ℕ × Session)
    now = insert_entry nat_cmp one.sessions number next

    abbrev then : OneNode
    then = with_session one number next

    but : IsBut number one.sessions now next
    but = put_but number one.sessions next

    was_found : find test (session_in one.sessions number).pushed ≡ Some it
    was_found = subst (λ (s : Session). find test s.pushed ≡ Some it) is found

    was_left : next.pushed ≡ without_first test (session_in one.sessions number).pushed
    was_left = ap (λ (s : Session). without_first test s.pushed) is

    fit_then : IsFit then
    fit_then =
        fit_session one number next quiet.fit (record { state = refl; idle = refl })
        (left_waits one.node.table one.sessions now quiet.fit.waiting number next but test it was_found was_left)

    -- the node goes on so
    went_so : (went : Went) (last : OneNode) → last.sessions ≡ now → last.waiting ≡ one.waiting → Agree settings first left last None went.next →
        LeftAlike (gone_on next went []) (prints_now last [])
    went_so went last same waiting agree = record {
      holds = None;
      agree = agree;
      session = ap (λ (s : Session). holding s []) (sym but.it) ∙ ap (λ (ss : List (ℕ × Session)). holding (session_in ss number) []) (sym same);
      bound = refl;
      prints = refl;
      others = λ other differ. ap (λ (ss : List (ℕ × Session)). session_in ss other) same ∙ but.others other differ;
      requests = λ other differ. refl;
      waiting = waiting;
      still = tt;
    }

    agree_then : Agree settings first left then None (node_of settings first k)
    agree_then = rested settings first left then k fit_then room_left quiet.resting quiet.owed quiet.due

    delivered : (delivery : Delivery) (outcome : Option Outcome) → it.delivery ≡ delivery →
        LeftAlike (gone_on next (delivered_so (node_of settings first k) delivery outcome) []) (prints_now (answered then delivery outcome) [])
    delivered (Attempt slot) (Some outcome) delivery =
        let waited = it_waits one.node.table one.sessions now quiet.fit.waiting number next but test it was_found was_left slot delivery in
        let off = others_are_off one.node.table one.sessions now quiet.fit.waiting number next but test it was_found was_left slot delivery in
        went_so (delivered_so (node_of settings first k) (Attempt slot) (Some outcome)) (answered then (Attempt slot) (Some outcome)) refl refl
        (outcome_comes settings first left then k fit_then room_left quiet.resting quiet.owed quiet.due slot outcome waited.0 off)
    delivered (Attempt slot) None delivery = went_so (rests (node_of settings first k)) then refl refl agree_then
    delivered (Receipt id) outcome delivery = went_so (rests (node_of settings first k)) then refl refl agree_then

  by_found : (found : Option Pushed) → find test pushed ≡ found →
      LeftAlike (on_reaction settings number (node_of settings first k) came next (answers_to found))
      (reacted settings one number came next (answers_to found))
  by_found None none = nothing_answered none
  by_found (Some it) found = delivered it found it.delivery (came.outcome it.sequence) refl

  pub answer_comes : LeftAlike (on_done settings number (node_of settings first k) came (on_answer session sequence))
      (reacted_by settings one number came (on_answer session sequence))
  answer_comes = by_found (find test pushed) refl
