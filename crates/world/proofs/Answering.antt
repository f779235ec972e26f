-- What a world answers to a step, as a step of the run in which it stands.
use Rattle.std.proofs.Common.{◌≡◌, ℕ, ◌+◌, ◌≤◌, Bool, true, false, List, length, map, Option, Some, None, Result, Ok, Err, refl, sym, ap}
use Rattle.std.proofs.Common.{subst, ◌∙◌, inl, inr, length-append}
use Rattle.std.specs.Prelude.{IfErr, IfOk, OnErr, option_map, reverse, if◌then◌else◌}
use Rattle.std.proofs.lemmas.List.{length-reverse}
use Rattle.mc_model.specs.synod.Packet.{Packet}
use Rattle.mc_model.specs.node.Grant.{GrantRefusal}
use Rattle.mc_model.specs.node.Outputs.{HasNumber}
use Rattle.mc_model.specs.cluster.Steps.{Cluster, setup_of}
use Rattle.node_model.specs.Attempts.{grant_refusal}
use Rattle.node_model.specs.Granted.{is_open}
use Rattle.node_laws.specs.Clusters.{KeptCluster, NodeInput, comes_to, kept_reached}
use Rattle.fate_chain.specs.declared.chain.Chain.{Chain}
use Rattle.synod_acceptor.specs.Packets.{packet_of}
use Rattle.synod_acceptor.specs.declared.packet.Packet.{Packet as Sent}
use Rattle.node_runs.specs.StepFault.{StepFault}
use Rattle.node_runs.specs.StepFault.TheVariants as causes
use Rattle.node_runs.specs.Input.{Input as Given}
use Rattle.node_runs.specs.Input.TheVariants as given
use Rattle.node_runs.specs.Attempting.{reason_of}
use Rattle.node_runs.specs.Steps.{GrantsKnown, IsFault as IsStepFault, input_of, refused_by}
use Rattle.sim_net.specs.Network.{numbered}
use Rattle.sim_net.proofs.Numbers.{has_number, map_length, none_given, some_given}
use Rattle.world.specs.declared.fault.WorldFault.{WorldFault}
use Rattle.world.specs.declared.fault.WorldFault.TheVariants as faults
use Rattle.world.specs.declared.given.Given.{Given as Gives}
use Rattle.node_entry.specs.declared.step.Step.{Step}
use Rattle.node_entry.specs.declared.step.Step.TheVariants as steps
use Rattle.world.specs.Members.{DoesNotTake, HasTaken, IsSentIn, Keeps, fault_from}
use Rattle.world.specs.Runs.{Comes, GoesOn, GrantsKnownBy, IsAt, IsFault, Leads, LosesNone, StaysAt, away, or_else, refusal_of, unsent}
use Rattle.world.specs.Scenes.{Scene}
use Rattle.world.proofs.Going.{stays}
use Rattle.world.proofs.Leading.{not_taken, taken}

abbrev pub after : Cluster → List NodeInput → KeptCluster
after cluster inputs = kept_reached cluster inputs

-- ---- an input of a node, as a step

-- what comes by a step is this input of a node, and for this the step is refused
pub record IsInputOf (old : Scene) (step : Step) (node : ℕ) (input : Given) : Type 0 where
  pub comes : (cluster : Cluster) (behind : List Packet) (inputs : List NodeInput) → IsAt cluster behind inputs old →
      Comes cluster (length behind) (after cluster inputs) step (comes_to node (input_of (setup_of cluster node) ((after cluster inputs).kept node) input))
  pub loses : (next : NodeInput) → LosesNone step next
  pub refused : (cluster : Cluster) (behind : List Packet) (inputs : List NodeInput) → IsAt cluster behind inputs old →
      refusal_of cluster (length behind) (after cluster inputs) step
      ≡ or_else (away cluster (after cluster inputs) node) (option_map fault_from (refused_by (setup_of cluster node) ((after cluster inputs).kept node) input))
  pub grants : (w : KeptCluster) (granted : Option Chain) → GrantsKnown (w.kept node) input granted → GrantsKnownBy w step granted

is_fault : (refused : Option StepFault) (cause : StepFault) (fault : WorldFault) → IsStepFault refused cause → fault ≡ fault_from cause
    → IsFault (option_map fault_from refused) fault
is_fault None cause fault is same = same ∙ ap fault_from is
is_fault (Some refusal) cause fault is same = same ∙ ap fault_from is

module _ (old new : Scene) (step : Step) (node : ℕ) (input : Given) (is : IsInputOf old step node input) where
  took : (gives : Gives) → IsSentIn old input → HasTaken old node input gives new → (cluster : Cluster) (behind : List Packet) (inputs : List NodeInput) →
      IsAt cluster behind inputs old → GoesOn cluster behind inputs step gives new
  took gives sent has cluster behind inputs now =
      let it = taken cluster behind inputs old now node input gives new sent has in
      record {
        allowed = is.refused cluster behind inputs now ∙ (λ i. or_else (it.present i) (option_map fault_from (it.allowed i)));
        next = _;
        comes = is.comes cluster behind inputs now;
        loses = is.loses _;
        at = it.at_then;
        gives = it.given_is;
        granted = is.grants (after cluster inputs) gives.granted it.granted;
      }

  abbrev why : Cluster → List NodeInput → Option WorldFault
  why cluster inputs = option_map fault_from (refused_by (setup_of cluster node) ((after cluster inputs).kept node) input)

  did_not : (fault : WorldFault) → 1 ≤ node → DoesNotTake old node input fault → Keeps old new →
      (cluster : Cluster) (behind : List Packet) (inputs : List NodeInput) →
      IsAt cluster behind inputs old → StaysAt cluster behind inputs step fault new
  did_not fault least does keeps cluster behind inputs now =
      let it = not_taken cluster behind inputs old now node input fault least does in
      record {
        refused = subst (λ (o : Option WorldFault). IsFault o fault) (sym (is.refused cluster behind inputs now)) (elim it.why [
          | inl gone ↦ subst (λ (o : Option WorldFault). IsFault (or_else o (why cluster inputs)) fault) (sym gone) refl
          | inr here ↦ subst (λ (o : Option WorldFault). IsFault (or_else o (why cluster inputs)) fault) (sym here.0)
              (is_fault (refused_by (setup_of cluster node) ((after cluster inputs).kept node) input) here.1.0 fault here.1.1 here.1.2)
        ]);
        at = stays cluster behind inputs old now new keeps;
      }

  pub input_leads : (result : Result Gives WorldFault) → 1 ≤ node → IsSentIn old input → IfOk result (λ gives. HasTaken old node input gives new) →
      IfErr result (DoesNotTake old node input) → OnErr result (Keeps old new) → Leads old step result new
  input_leads (Ok gives) least sent has does keeps = record { fresh = tt; each = took gives sent has }
  input_leads (Err fault) least sent has does keeps = record { fresh = keeps.fresh; each = did_not fault least does keeps }

-- ---- requests, ticks, attempts

or_none : (o : Option WorldFault) → o ≡ or_else o None
or_none None = refl
or_none (Some fault) = refl

pub request_is : (old : Scene) (node : ℕ) (account : _) (request : _) → IsInputOf old (steps.Request node account request) node (given.Request account request)
request_is old node account request = record {
  grants = λ w granted known. known;
  comes = λ cluster behind inputs now. refl;
  loses = λ next. tt;
  refused = λ cluster behind inputs now. or_none _;
}

pub tick_is : (old : Scene) (node moment : ℕ) (reach : _) → IsInputOf old (steps.Tick node moment reach) node (given.Tick moment reach)
tick_is old node moment up = record {
  grants = λ w granted known. known;
  comes = λ cluster behind inputs now. refl;
  loses = λ next. tt;
  refused = λ cluster behind inputs now. or_none _;
}

granted_so : (refusal : Option GrantRefusal) →
    option_map (λ (r : GrantRefusal). faults.Grant (reason_of r)) refusal
    ≡ option_map fault_from (option_map (λ (r : GrantRefusal). causes.Grant (reason_of r)) refusal)
granted_so None = refl
granted_so (Some refusal) = refl

pub grant_is : (old : Scene) (node id : ℕ) → IsInputOf old (steps.Grant node id) node (given.Grant id)
grant_is old node id = record {
  grants = λ w granted known. known;
  comes = λ cluster behind inputs now. refl;
  loses = λ next. tt;
  refused = λ cluster behind inputs now. ap (or_else (away cluster (after cluster inputs) node))
      (granted_so (grant_refusal (setup_of cluster node) ((after cluster inputs).kept node) id));
}

open_so : (open_is : Bool) → (if open_is then None else Some faults.NotGranted) ≡ option_map fault_from (if open_is then None else Some causes.NotGranted)
open_so true = refl
open_so false = refl

pub answered_is : (old : Scene) (node : ℕ) (slot : _) (outcome : _) → IsInputOf old (steps.Answered node slot outcome) node (given.Answered slot outcome)
answered_is old node slot outcome = record {
  grants = λ w granted known. known;
  comes = λ cluster behind inputs now. refl;
  loses = λ next. tt;
  refused = λ cluster behind inputs now. ap (or_else (away cluster (after cluster inputs) node)) (open_so (is_open ((after cluster inputs).kept node) slot));
}

-- ---- packets

module _ (cluster : Cluster) (behind : List Packet) (inputs : List NodeInput) (old : Scene) (now : IsAt cluster behind inputs old) where
  total : length (after cluster inputs).packets ≡ length old.packets + length behind
  total =
      ap length now.packets ∙ length-append (reverse (map packet_of old.packets)) behind
      ∙ ap (λ n. n + length behind) (length-reverse (map packet_of old.packets) ∙ map_length packet_of old.packets)

  pub unsent_none : (number : ℕ) → numbered old.packets number ≡ None → unsent (length behind) (after cluster inputs) number ≡ Some faults.NoSuchPacket
  unsent_none number is = ap (λ (b : Bool). if b then None else Some faults.NoSuchPacket) (none_given old.packets number (length behind) _ total is)

  pub unsent_some : (number : ℕ) (packet : Sent) → numbered old.packets number ≡ Some packet → unsent (length behind) (after cluster inputs) number ≡ None
  unsent_some number packet is =
      ap (λ (b : Bool). if b then None else Some faults.NoSuchPacket) (some_given old.packets number (length behind) _ packet total is)

  pub number_is : (number : ℕ) (packet : Sent) → numbered old.packets number ≡ Some packet
      → HasNumber (after cluster inputs).packets (number + length behind) (packet_of packet)
  number_is number packet is =
      subst (λ (ps : List Packet). HasNumber ps (number + length behind) (packet_of packet)) (sym now.packets)
      (has_number packet_of old.packets number packet behind is)

pub deliver_is : (old : Scene) (number node : ℕ) (packet : Sent) → numbered old.packets number ≡ Some packet
    → IsInputOf old (steps.Deliver number node) node (given.Packet packet)
deliver_is old number node packet is = record {
  grants = λ w granted known. known;
  comes = λ cluster behind inputs now. (packet_of packet, number_is cluster behind inputs old now number packet is, refl);
  loses = λ next. tt;
  refused = λ cluster behind inputs now.
      ap (λ (o : Option WorldFault). or_else o (away cluster (after cluster inputs) node)) (unsent_some cluster behind inputs old now number packet is)
      ∙ or_none _;
}
