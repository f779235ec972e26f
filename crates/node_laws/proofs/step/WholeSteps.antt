-- Each step, and so each run, of what is kept is one of the actor.
use Rattle.std.proofs.Common.{◌≡◌, ℕ, ◌+◌, ◌<◌, true, List, [], ◌∷◌, length, Some, None, refl, sym, ap, subst, ◌∙◌, arith}
use Rattle.std.proofs.lemmas.List.{length-map}
use Rattle.mc_model.specs.message.Ids.{IsNode, IsSerial, id_of, most_serial}
use Rattle.mc_model.specs.message.Neighbours.{IsTaken}
use Rattle.mc_model.specs.synod.Packet.{Slot, slot_of}
use Rattle.mc_model.specs.node.Actor.{Cancel, Query, Request, Submit}
use Rattle.mc_model.specs.node.Alone.{Node, OwnStep, own_acts, reached_alone}
use Rattle.mc_model.specs.node.Core.{IsRefusal}
use Rattle.mc_model.specs.node.Grant.{MayConclude, MayGrant}
use Rattle.mc_model.specs.node.Input.{Arrival, Crash, Delivery, Grant, Input, Refusal, Response, Restart, Tick}
use Rattle.mc_model.specs.node.Outcome.{Outcome}
use Rattle.mc_model.specs.node.Room.{IsFitToWait, MayWait, is_busy}
use Rattle.mc_model.specs.node.Setup.{Setup}
use Rattle.node_model.specs.Kept.{Held, Kept, message_at}
use Rattle.node_model.specs.Stepped.{stepped}
use Rattle.node_laws.specs.Runs.{IsFitToCome, IsGrantable, IsOneOf, IsOpen, IsUpFor, MayAllCome, MayCome, RunsAs, kept_after}
use Rattle.node_laws.specs.Stands.{Stands}
use Rattle.node_laws.specs.Steps.{IsAtWork, StepsAs}
use Rattle.node_laws.proofs.step.AnyPacket.{packet_steps}
use Rattle.node_laws.proofs.step.Crashing.{crash_steps}
use Rattle.node_laws.proofs.step.ArrivalSteps.{arrival_steps}
use Rattle.node_laws.proofs.step.AsideSteps.{refusal_steps}
use Rattle.node_laws.proofs.step.Granting.{grant_steps}
use Rattle.node_laws.proofs.invariant.Judging.{Judged, grant_judged}
use Rattle.node_laws.proofs.step.Opening.{restart_steps}
use Rattle.node_laws.proofs.step.Responding.{response_steps}
use Rattle.mc_laws.proofs.step.Assembly.{alone_on}
use Rattle.node_laws.proofs.step.TickSteps.{tick_steps}

module _ (setup : Setup) (one : IsOneOf setup) where
  mine : IsNode setup.node
  mine = let least = one.least in let most = one.most in let few = one.few in record { least = omega arith; most = omega arith }

  module _ (k : Kept) (s : Node) (stands : Stands setup k s) where
    works : k.up ≡ true → IsAtWork setup s
    works up = record { least = one.least; most = one.most; up = sym stands.agrees.up ∙ up }

    -- ---- what may come by what is kept may come to the actor

    held_many : length k.held ≡ length s.actor.waiting
    held_many = sym (length-map k.held (λ (h : Held). h.waiting)) ∙ ap length stands.agrees.waiting

    busy_is : is_busy (length k.held) k.ticket ≡ is_busy (length s.actor.waiting) s.actor.ticket
    busy_is = λ i. is_busy (held_many i) (stands.agrees.ticket i)

    fit : (request : Request) → IsFitToCome setup k request → IsFitToWait setup.node s.actor request
    fit (Submit id message) next = record {
      serial = subst IsSerial stands.agrees.serial next.serial;
      id_is = next.id_is ∙ (λ i. id_of setup.node (stands.agrees.incarnation i) (stands.agrees.serial i));
      takes =
          subst (λ (x : ℕ × ℕ). IsTaken id (record { node = setup.node; incarnation = x.0 }) x.1 message)
          (λ i. (stands.agrees.incarnation i, stands.agrees.clock i)) next.takes;
    }
    fit (Query id account source) next = tt
    fit (Cancel id account source destination) next = tt

    may_wait : (request : Request) → MayCome setup k (Arrival request) → MayWait setup.node s.actor s.actor.ticket request
    may_wait request may = record { next = refl; room = sym busy_is ∙ may.0; fit = fit request may.1 }

    may_grant : (slot : Slot) → IsGrantable setup k slot → MayGrant setup.nodes setup.node s.actor slot
    may_grant slot it =
        let m = message_at k slot.id in
        let on = stands.agrees.message slot.id in
        let judged =
        subst (Judged setup k s.actor stands.agrees.incarnation slot.id m on.attempts on.heard.known) it.allowed
        (grant_judged setup k s.actor stands.agrees.incarnation slot.id m on.attempts on.heard.known) in
        let both : Some judged.0 ≡ Some it.chain = sym judged.1 ∙ it.known in
        let chains : judged.0 ≡ it.chain = cc in
        subst (MayGrant setup.nodes setup.node s.actor) (ap (slot_of slot.id) chains ∙ sym it.place) judged.2

    may_conclude : (slot : Slot) (outcome : Outcome) → IsOpen k slot outcome → MayConclude s.actor slot outcome
    may_conclude slot outcome it =
        let on = (stands.agrees.message slot.id).attempts in
        record {
          granted = (on.granted slot.place).0 it.granted;
          closed = λ other among. let both : Some other ≡ None = sym ((on.closed slot.place other).1 among) ∙ it.closed in absurd (cc);
          possible = it.possible;
        }

    may_refuse : (status : ℕ) → MayCome setup k (Refusal status) → IsRefusal s.actor status
    may_refuse status may = record {
      throttled = λ is. sym busy_is ∙ may.0 is;
      queue_full = λ is. subst (λ (serial : ℕ). most_serial < serial) stands.agrees.serial (may.1 is);
    }

    -- ---- a step

    pub whole_steps : (input : Input) → IsUpFor k input → MayCome setup k input → StepsAs setup s input (stepped setup k input)
    whole_steps (Delivery packet) up may = packet_steps setup k s stands (works up) mine packet may
    whole_steps (Crash packet after) up may = crash_steps setup k s stands (works up) packet after may
    whole_steps (Arrival request) up may = arrival_steps setup k s stands (works up) mine request (may_wait request may)
    whole_steps (Refusal status) up may = refusal_steps setup s k stands status (works up) (may_refuse status may)
    whole_steps (Tick moment accounts) up may = tick_steps setup k s stands (works up) mine moment accounts
    whole_steps (Grant slot) up may = grant_steps setup k s stands slot (may_grant slot may) (works up) mine
    whole_steps (Response slot outcome) up may = response_steps setup k s stands (works up) mine slot outcome (may_conclude slot outcome may)
    whole_steps (Restart lost) up may =
        restart_steps setup k s lost stands one.least one.most (subst (λ (incarnation : ℕ). incarnation + lost < 9999) stands.agrees.incarnation may)

  -- ---- a run

  reached_by : (s : Node) (step : OwnStep) (older : List OwnStep) →
      reached_alone setup.node (reached_alone setup.node s (own_acts older)) step.acts ≡ reached_alone setup.node s (own_acts (step ∷ older))
  reached_by s step older = sym (alone_on setup.node s step.acts (own_acts older))

  pub whole_runs : (first : Kept) (s : Node) → Stands setup first s → (inputs : List Input) → MayAllCome setup first inputs → RunsAs setup first s inputs
  whole_runs first s stands [] come = record {
    steps = [];
    inputs_are = refl;
    taken = tt;
    outputs = refl;
    stands = stands;
  }
  whole_runs first s stands (input ∷ inputs) come =
      let before = whole_runs first s stands inputs come.2 in
      let step = whole_steps (kept_after setup first inputs) (reached_alone setup.node s (own_acts before.steps)) before.stands input come.0 come.1 in
      record {
        steps = record { input = input; acts = step.acts } ∷ before.steps;
        inputs_are = ap (λ (others : List Input). input ∷ others) before.inputs_are;
        taken = (step.taken, before.taken);
        outputs = λ i. step.outputs i ∷ before.outputs i;
        stands =
            subst (Stands setup (stepped setup (kept_after setup first inputs) input).kept)
            (reached_by s (record { input = input; acts = step.acts }) before.steps) step.stands;
      }
