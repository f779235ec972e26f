-- An attempt is asked for: it is granted and goes out, or fails; or it is not granted.
use Rattle.std.proofs.Common.{◌≡◌, ℕ, List, ◌++◌, Option, Some, None, Result, Ok, Err, sym, ap, ◌∙◌}
use Rattle.std.proofs.lemmas.List.{append-nil}
use Rattle.std.specs.Prelude.{OnOk, Bool, true, option_map, if◌then◌else◌}
use Rattle.node_model.specs.Outputs.{Stepped}
use Rattle.node_model.specs.Stepped.{stepped_down, stepped_up}
use Rattle.std.specs.declared.alloc.AllocError.{AllocError}
use Rattle.mc_model.specs.message.Chain.{taken_in}
use Rattle.mc_model.specs.node.Grant.{GrantRefusal, refusal_number}
use Rattle.mc_model.specs.node.Input.{Grant}
use Rattle.mc_model.specs.synod.Packet.{Slot, slot_of}
use Rattle.node_model.specs.Attempts.{grant_refusal}
use Rattle.node_model.specs.Granted.{known_slot}
use Rattle.delivery.specs.Deliveries.{EndsInAttempt}
use Rattle.fate_chain.specs.declared.chain.Chain.{Chain}
use Rattle.world.specs.Attempting.{refusal_of}
use Rattle.world.specs.Steps.{granted_of}
use Rattle.mc_model.specs.node.Outputs.{Outputs}
use Rattle.world.specs.Runs.{Leads}
use Rattle.world.specs.Scenes.{Scene}
use Rattle.world.specs.declared.fault.WorldFault.TheVariants as faults
use Rattle.world.specs.declared.given.Given.{Given}
use Rattle.world.specs.Step.TheVariants as steps
use Rattle.script_text.specs.Attempts.{submission_at, taken_on}
use Rattle.script_text.specs.Node.{Node, step_at}
use Rattle.script_text.specs.Prints.{ungranted_line}
use Rattle.script_text.specs.Runner.{Acted, Runner, granted, granted_unless, on_grant, sent}
use Rattle.script_site.specs.Grantings.{IsGranting}
use Rattle.script_site.specs.Sites.{Acts, IsRunning, Placed, Takes}
use Rattle.script_site.specs.declared.steps.Granting.TheVariants as grantings
use Rattle.script_site.proofs.Acting.{has_acted, like}
use Rattle.script_site.proofs.Refusing.{allowed_so, ends_so, known_so, refused_so}
use Rattle.script_site.proofs.Stepping.{grant_goes, node_up, stays}

unless_so : (runner : Runner) (id : ℕ) (refusal : Option GrantRefusal) → grant_refusal runner.node.setup runner.node.kept id ≡ refusal
    → granted_unless runner id (known_slot runner.node.kept id) refusal ≡ on_grant runner id
unless_so runner id refusal is = ap (granted_unless runner id (known_slot runner.node.kept id)) (sym is)

module _ (at : Placed) (id : ℕ) where
  abbrev home : ℕ
  home = at.site.node

  -- the node that grants it, and the site as it was
  abbrev there : Scene → Placed
  there scene = record { world = scene; site = at.site }

  -- It is granted, and what comes of that is done.
  pub granted_acts : (r : Result (Unit {0}) AllocError) (scene : Scene) (new : Placed) (chain : Chain) (before after : List ℕ)
      → IsGranting home id at.world (grantings.Granted chain) scene
      → OnOk r (EndsInAttempt chain.decrees → Acts home (λ runner. sent runner (slot_of chain.id chain.decrees) (taken_in chain.decrees))
      (there scene) new before after)
      → OnOk r (Acts home (λ runner. on_grant runner id) at new before after)
  granted_acts (Err fault) scene new chain before after grants sends = tt
  granted_acts (Ok done) scene new chain before after grants sends = λ w runner running.
      let given = grants w runner.node running.going in
      let place = known_slot runner.node.kept id in
      let first = granted runner (Grant place) in
      let on : IsRunning home (there scene) w first.next = record {
        home_is = running.home_is;
        going = given.going;
        sessions = running.sessions;
        streams = running.streams;
        waiting = running.waiting;
      } in
      let did = sends given.ends w first.next on in
      let taken_is : taken_in chain.decrees ≡ submission_at runner.node id = sym (ap taken_on given.known) in
      let same : sent first.next (slot_of chain.id chain.decrees) (taken_in chain.decrees) ≡ sent first.next place (submission_at runner.node id) =
      λ i. sent first.next (given.slot i) (taken_is i) in
      has_acted home w (granted_unless runner id place None) (on_grant runner id) new before after (like (unless_so runner id None given.allowed))
      (has_acted home w (sent first.next (slot_of chain.id chain.decrees) (taken_in chain.decrees)) (granted_unless runner id place None) new before after
      (record { next = ap (λ (a : Acted). a.next) same; prints = ap (λ (a : Acted). a.prints) same }) did)

  -- It is not granted.
  pub refused_acts : (r : Result (Unit {0}) AllocError) (scene : Scene) (number : ℕ) (before after : List ℕ)
      → IsGranting home id at.world (grantings.Refused number) scene → OnOk r (after ≡ before ++ ungranted_line number)
      → OnOk r (Acts home (λ runner. on_grant runner id) at (there scene) before after)
  refused_acts (Err fault) scene number before after refuses wrote = tt
  refused_acts (Ok done) scene number before after refuses wrote = λ w runner running.
      let refused = refuses w runner.node running.going in
      has_acted home w (granted_unless runner id (known_slot runner.node.kept id) (Some refused.refusal)) (on_grant runner id) (there scene) before after
      (like (unless_so runner id (Some refused.refusal) refused.reason)) (record {
        running = record {
          home_is = running.home_is;
          going = refused.going;
          sessions = running.sessions;
          streams = running.streams;
          waiting = running.waiting;
        };
        text = wrote ∙ ap (λ (n : ℕ). before ++ ungranted_line n) refused.told
            ∙ ap (λ (octets : List ℕ). before ++ octets) (sym (append-nil (ungranted_line (refusal_number refused.refusal))));
      })

-- ---- by the step of the world

-- of a node that is up
granted_up : (node : Node) → node.kept.up ≡ true → (slot : Slot) → (step_at node (Grant slot)).outputs.granted ≡ Some slot
granted_up node up slot =
    ap (λ (b : Bool). (if◌then◌else◌ {A = Stepped} b (stepped_up node.setup node.kept (Grant slot))
    (stepped_down node.setup node.kept (Grant slot))).outputs.granted) up

pub grants_so : (home id : ℕ) (old new : Scene) (given : Given) (chain : Chain) → Takes old (steps.Grant home id) given new → given.granted ≡ Some chain
    → IsGranting home id old (grantings.Granted chain) new
grants_so home id old new given chain takes is w node going =
    let allowed = allowed_so home old w node going id given new takes.leads in
    let known = known_so home old w node going id given new chain takes.leads is in
    let went = grant_goes home old w node going id given new takes in
    record {
      allowed = allowed;
      going = went.0;
      slot = slot_is (sym (ap (option_map granted_of) is) ∙ ap (λ (o : Outputs). o.granted) went.1.others
          ∙ granted_up node (node_up home old w node going) (known_slot node.kept id));
      known = known.1;
      ends = ends_so node.setup node.kept id chain.decrees allowed known.1;
    }
  where
    slot_is : {one other : Slot} → Some one ≡ Some other → one ≡ other
    slot_is same = cc

pub refuses_so : (home id : ℕ) (old new : Scene) (reason : _) (number : ℕ) → Leads old (steps.Grant home id) (Err (faults.Grant reason)) new
    → number ≡ refusal_number (refusal_of reason) → IsGranting home id old (grantings.Refused number) new
refuses_so home id old new reason number leads numbered w node going =
    let so = refused_so home old w node going id number reason new leads numbered in
    record {
      refusal = so.refusal;
      reason = so.reason;
      told = so.told;
      going = stays home old w node going (steps.Grant home id) (faults.Grant reason) new leads;
    }
