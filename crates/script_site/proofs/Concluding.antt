-- What came of attempts is told to the node.
use Rattle.std.proofs.Common.{◌≡◌, ℕ, ◌+◌, ◌<◌, Bool, true, false, List, [], ◌∷◌, drop, get_or, length, Option, Some, Ok, Err, Result, refl, sym, ap, subst, ◌∙◌}
use Rattle.std.specs.Prelude.{OnOk, option_map, if◌then◌else◌}
use Rattle.std.specs.declared.alloc.AllocError.{AllocError}
use Rattle.mc_model.specs.node.Input.{Response}
use Rattle.mc_model.specs.synod.Packet.{Slot}
use Rattle.node_model.specs.Granted.{is_open}
use Rattle.delivery.specs.Kept.{outcome_kept}
use Rattle.delivery.specs.Outcomes.{told_in}
use Rattle.delivery.specs.declared.outcome.Outcome.{Outcome}
use Rattle.mc_model.specs.node.Outcome.{Outcome as Came}
use Rattle.pdu_bodies.specs.declared.pdu.Pdu.{Pdu}
use Rattle.sessions.specs.declared.response.Outgoing.{Outgoing}
use Rattle.sessions.specs.declared.pushed.Delivery.{Delivery}
use Rattle.sessions.specs.declared.pushed.Delivery.TheVariants as deliveries
use Rattle.sessions.specs.declared.pushed.Pushed.{Pushed}
use Rattle.world.specs.Runs.{Leads}
use Rattle.world.specs.Scenes.{Scene}
use Rattle.world.specs.declared.fault.WorldFault.TheVariants as faults
use Rattle.world.specs.declared.given.Given.{Given}
use Rattle.world.specs.Step.TheVariants as steps
use Rattle.script_text.specs.Left.{followed_by, rests}
use Rattle.script_text.specs.Attempts.{Went, all_given_up, concluded, delivered_so, given_up, unanswered, went}
use Rattle.script_text.specs.Node.{Node}
use Rattle.script_text.specs.World.{World}
use Rattle.esme_site.specs.declared.heeded.Heeded.{Heeded}
use Rattle.esme_site.specs.declared.heeded.Heeded.TheVariants as heededs
use Rattle.script_site.specs.Heeding.{went_by}
use Rattle.script_site.specs.Sites.{Goes, IsGoing, Takes}
use Rattle.script_site.proofs.Joining.{behind_it}
use Rattle.script_site.proofs.Refusing.{closed_so, open_so}
use Rattle.script_site.proofs.Stepping.{answer_goes, stays}

module _ (home : ℕ) (slot : Slot) (outcome : Outcome) (old new : Scene) where
  by_open : (w : World) (node : Node) (is_so : Bool) → is_open node.kept slot ≡ is_so
      → IsGoing home new w (if◌then◌else◌ {A = Went} is_so (went node (Response slot (outcome_kept outcome))) (rests node)).next
      → IsGoing home new w (concluded node slot (outcome_kept outcome)).next
  by_open w node is_so is going =
      subst (λ (b : Bool). IsGoing home new w (if b then went node (Response slot (outcome_kept outcome)) else rests node).next) (sym is) going

  -- it was open
  pub concluded_so : (given : Given) → Takes old (steps.Answered home slot outcome) given new → Goes home (λ n. concluded n slot (outcome_kept outcome)) old new
  concluded_so given takes w node going =
      by_open w node true (open_so home old w node going slot outcome given new takes.leads)
      (answer_goes home old w node going slot outcome given new takes).0

  -- or it was not
  pub closed_goes : Leads old (steps.Answered home slot outcome) (Err faults.NotGranted) new → Goes home (λ n. concluded n slot (outcome_kept outcome)) old new
  closed_goes leads w node going =
      by_open w node false (closed_so home old w node going slot outcome new leads)
      (stays home old w node going (steps.Answered home slot outcome) faults.NotGranted new leads)

-- what was pushed has an outcome
pub delivered_if : (r : Result (Unit {0}) AllocError) (home : ℕ) (delivery : Delivery) (outcome : Option Outcome) (slot : Slot) (one : Outcome)
    (old new : Scene) → delivery ≡ deliveries.Attempt slot → outcome ≡ Some one → OnOk r (Goes home (λ n. concluded n slot (outcome_kept one)) old new)
    → OnOk r (Goes home (λ n. delivered_so n delivery (option_map outcome_kept outcome)) old new)
delivered_if (Err fault) home delivery outcome slot one old new is some goes = tt
delivered_if (Ok done) home delivery outcome slot one old new is some goes =
    subst (λ (d : Delivery). Goes home (λ n. delivered_so n d (option_map outcome_kept outcome)) old new) (sym is)
    (subst (λ (o : Option Outcome). Goes home (λ n. delivered_so n (deliveries.Attempt slot) (option_map outcome_kept o)) old new) (sym some) goes)

-- ---- one after another

-- What is left to give up leads to what all leads to.
pub record IsLeft (home : ℕ) (start : Scene) (all : List Pushed) (now : Scene) (rest : List Pushed) : Type 0 where
  pub each : (w : World) (node : Node) → IsGoing home start w node
      → (mid : Node) × IsGoing home now w mid × ((all_given_up mid rest).next ≡ (all_given_up node all).next)

pub all_left : (home : ℕ) (start : Scene) (all rest : List Pushed) → rest ≡ all → IsLeft home start all start rest
all_left home start all rest same = record { each = λ w node going. (node, going, ap (λ (ps : List Pushed). (all_given_up node ps).next) same) }

first_so : (node : Node) (pushed : Pushed) (others : List Pushed)
    → all_given_up node (pushed ∷ others) ≡ followed_by (given_up node pushed) (all_given_up (given_up node pushed).next others)
unfolding all_given_up
first_so node pushed others = refl

pub one_left : (home : ℕ) (start : Scene) (all : List Pushed) (now : Scene) (place : ℕ) (pushed : Pushed) (new : Scene)
    → IsLeft home start all now (drop place all) → place < length all → pushed ≡ get_or all place pushed
    → Goes home (λ n. delivered_so n pushed.delivery (Some unanswered)) now new → IsLeft home start all new (drop (place + 1) all)
one_left home start all now place pushed new left within is goes = record {
  each = λ w node going.
      let here = left.each w node going in
      let rest = behind_it all place pushed within is in (
        (given_up here.0 pushed).next,
        goes w here.0 here.1,
        ap (λ (went : Went). went.next) (sym (first_so here.0 pushed (drop (place + 1) all)))
            ∙ ap (λ (ps : List Pushed). (all_given_up here.0 ps).next) (sym rest) ∙ here.2,
      );
}

none_so : (node : Node) → (all_given_up node []).next ≡ node
unfolding all_given_up
none_so node = refl

pub none_left : (home : ℕ) (start : Scene) (all : List Pushed) (now : Scene) (rest : List Pushed) → rest ≡ [] → IsLeft home start all now rest
    → Goes home (λ n. all_given_up n all) start now
none_left home start all now rest none left w node going =
    let here = left.each w node going in
    subst (IsGoing home now w) (sym (none_so here.0) ∙ ap (λ (ps : List Pushed). (all_given_up here.0 ps).next) (sym none) ∙ here.2) here.1

-- ---- by what came of what was heard

module _ (home : ℕ) (old new : Scene) (r : Result (Unit {0}) AllocError) (came : Heeded) where
  pub answer_goes_on : (pushed : Pushed) (pdu : Pdu) (outcome : Option Outcome) → came ≡ heededs.Answer pushed pdu
      → option_map outcome_kept outcome ≡ told_in pushed.sequence pdu
      → OnOk r (Goes home (λ n. delivered_so n pushed.delivery (option_map outcome_kept outcome)) old new)
      → OnOk r (Goes home (λ n. went_by n came) old new)
  answer_goes_on pushed pdu outcome is told goes =
      subst (λ (h : Heeded). OnOk r (Goes home (λ n. went_by n h) old new)) (sym is)
      (subst (λ (o : Option Came). OnOk r (Goes home (λ n. delivered_so n pushed.delivery o) old new)) told goes)

  pub end_goes_on : (outgoing : Outgoing) (abandoned given : List Pushed) → came ≡ heededs.Gone outgoing abandoned → given ≡ abandoned
      → OnOk r (Goes home (λ n. all_given_up n given) old new) → OnOk r (Goes home (λ n. went_by n came) old new)
  end_goes_on outgoing abandoned given is same goes =
      subst (λ (h : Heeded). OnOk r (Goes home (λ n. went_by n h) old new)) (sym is)
      (subst (λ (ps : List Pushed). OnOk r (Goes home (λ n. all_given_up n ps) old new)) same goes)
