-- A run of a node of the code is a run of one actor.
use Rattle.std.proofs.Common.{◌≡◌, ℕ, suc, ◌+◌, ◌<◌, ◌≤◌, Bool, true, false, List, [], ◌∷◌, ◌++◌, refl, sym, ap, subst, ◌∙◌, inl}
use Rattle.std.specs.Prelude.{if◌then◌else◌}
use Rattle.std.proofs.Math.Path.{fun_ext}
use Rattle.mc_model.specs.synod.Lists.{In}
use Rattle.mc_model.specs.synod.Acceptor.{Records, blank}
use Rattle.mc_model.specs.synod.Packet.{Packet as Sendable}
use Rattle.mc_model.specs.node.Alone.{opened_new as node_new}
use Rattle.mc_model.specs.node.Input.{Arrival, Crash, Delivery, Grant, Input, Refusal, Response, Restart, Tick}
use Rattle.mc_model.specs.node.Outputs.{Outputs}
use Rattle.mc_model.specs.node.Setup.{Setup}
use Rattle.node_model.specs.Kept.{Kept}
use Rattle.node_model.specs.Outputs.{Stepped, leaves, nothing}
use Rattle.node_model.specs.Stepped.{opened_new, opened_over, restarted, stepped, stopped}
use Rattle.node_model.proofs.Stops.{saved_so}
use Rattle.node_laws.specs.Runs.{IsOneOf, IsUpFor, MayAllCome, MayCome, kept_after, kept_outputs}
use Rattle.node_laws.proofs.step.Opening.{new_stands}
use Rattle.node_laws.proofs.step.WholeSteps.{whole_runs}
use Rattle.stable_store.specs.Stored.{AreSame}
use Rattle.synod_acceptor.specs.Packets.{packet_of}
use Rattle.synod_acceptor.specs.declared.packet.Packet.{Packet}
use Rattle.node_core.specs.Input.{Input as Given}
use Rattle.node_core.specs.Outputs.{Outputs as Sent}
use Rattle.node_core.specs.Keeping.{kept_of}
use Rattle.node_core.specs.Steps.{input_of}
use Rattle.node_core.specs.Nodes.{HasOpened, Standing}
use Rattle.node_core.specs.Restarts.{next_life}
use Rattle.node_core.proofs.Restarts.{as_restarted, crash_is, stop_lists}
use Rattle.node_runs.specs.Runs.{Event, Happens, IsRun, IsRunOfOne, OpensNew, Starts, Stops, Takes, given_by, given_in, inputs_by}
use Rattle.node_runs.specs.Runs.{inputs_in, last_in, last_incarnation, stored_after}

-- ---- a node that opens with a new store

no_members : (ids : List ℕ) → ((id : ℕ) → In id ids → ⊥) → ids ≡ []
no_members [] none = refl
no_members (id ∷ ids) none = absurd (none id (inl refl))

pub opened_so : {S : Type 0} (setup : Setup) (first : Standing S) → OpensNew setup first → kept_of first.kept ≡ opened_new setup
opened_so setup first opens =
    let blanks : opens.stored ≡ (λ slot. blank) = fun_ext opens.none.each in
    let ids : opens.opened.ids ≡ [] = no_members opens.opened.ids (λ id among. let is = opens.opened.listed.each id among in is.2 (opens.none.each _)) in
    opens.opened.kept ∙ (λ i. opened_over (blanks i) (ids i) 1 setup.first_serial)

-- ---- it is as the model is after these inputs

record IsAt {S : Type 0} (setup : Setup) (node : Standing S) (inputs : List Input) (outputs : List Outputs) : Type 0 where
  pub setup_is : node.kept.setup ≡ setup
  pub kept : kept_of node.kept ≡ kept_after setup (opened_new setup) inputs
  pub given : outputs ≡ kept_outputs setup (opened_new setup) inputs
  pub may : MayAllCome setup (opened_new setup) inputs

-- to a node that is up anything may come
pub up_for : (k : Kept) (input : Input) → k.up ≡ true → IsUpFor k input
up_for k (Restart lost) up = tt
up_for k (Delivery packet) up = up
up_for k (Crash packet behind) up = up
up_for k (Arrival request) up = up
up_for k (Refusal status) up = up
up_for k (Tick moment test) up = up
up_for k (Grant slot) up = up
up_for k (Response slot outcome) up = up

module _ {S : Type 0} (setup : Setup) (old new : Standing S) (inputs : List Input) (outputs : List Outputs)
    (at : IsAt setup old inputs outputs) where
  abbrev k : Kept
  k = kept_of old.kept

  -- what is kept by the model
  abbrev kept_now : Kept
  kept_now = kept_after setup (opened_new setup) inputs

  stepped_so : (input : Input) → stepped old.kept.setup k input ≡ stepped setup kept_now input
  stepped_so input = λ i. stepped (at.setup_is i) (at.kept i) input

  up_then : (input : Input) → IsUpFor kept_now input
  up_then input = up_for kept_now input (ap (λ (kept : Kept). kept.up) (sym at.kept))

  may_then : (input : Input) → MayCome old.kept.setup k input → MayCome setup kept_now input
  may_then input may =
      subst (λ (s : Setup). MayCome s kept_now input) at.setup_is (subst (λ (kept : Kept). MayCome old.kept.setup kept input) at.kept may)

  takes : (input : Given) (sent : Sent) → Happens old (Takes input sent) new →
      IsAt setup new (inputs_by old.kept.setup k (Takes input sent) ++ inputs) (given_by (Takes input sent) ++ outputs)
  takes input sent happens =
      let given = input_of old.kept.setup k input in
      record {
        setup_is = happens.1.setup ∙ at.setup_is;
        kept = happens.1.kept ∙ ap (λ (step : Stepped). step.kept) (stepped_so given);
        given = λ i. (happens.1.given ∙ ap (λ (step : Stepped). step.outputs) (stepped_so given)) i ∷ at.given i;
        may = (up_then given, may_then given happens.0, at.may);
      }

  -- ---- a start

  -- a start gives out nothing, of a node that is up or down
  starts_still : (other : Setup) (kept : Kept) (lost : ℕ) → (stepped other kept (Restart lost)).outputs ≡ nothing
  starts_still other kept lost = by_up kept.up
    where
      by_up : (up : Bool) → (if◌then◌else◌ {A = Stepped} up (leaves (restarted other kept lost)) (leaves (restarted other kept lost))).outputs ≡ nothing
      by_up true = refl
      by_up false = refl

  within_then : (lost : ℕ) → next_life k lost ≤ last_incarnation → kept_now.incarnation + lost < 9999
  within_then lost within =
      let same : k.incarnation ≡ kept_now.incarnation = ap (λ (kept : Kept). kept.incarnation) at.kept in
      subst (λ (n : ℕ). n + lost < 9999) same within

  starts : (lost : ℕ) → Happens old (Starts lost) new →
      IsAt setup new (inputs_by old.kept.setup k (Starts lost) ++ inputs) (given_by (Starts lost) ++ outputs)
  starts lost happens =
      let started = happens.1 in
      let restarted_so : kept_of new.kept ≡ (stepped old.kept.setup k (Restart lost)).kept =
      as_restarted old.kept.setup k k.records lost new started.life happens.0.lists (record { each = λ slot. refl }) started.opened in
      record {
        setup_is = started.opened.setup ∙ at.setup_is;
        kept = restarted_so ∙ ap (λ (step : Stepped). step.kept) (stepped_so (Restart lost));
        given = λ i. sym (starts_still setup kept_now lost) i ∷ at.given i;
        may = (tt, within_then lost started.within, at.may);
      }

  -- ---- a stop

  crash_still : (packet : Sendable) (behind : Bool) → (stepped setup kept_now (Crash packet behind)).outputs ≡ nothing
  crash_still packet behind = by_up kept_now.up
    where
      by_up : (up : Bool) → (if◌then◌else◌ {A = Stepped} up (leaves (stopped setup kept_now packet behind)) (leaves kept_now)).outputs ≡ nothing
      by_up true = refl
      by_up false = refl

  -- what is stored kept_now is what a stop leaves
  saved_then : (packet : Packet) (behind : Bool) →
      AreSame (stored_after old packet behind) (stopped old.kept.setup k (packet_of packet) behind).records
  saved_then packet false = record { each = λ slot. refl }
  saved_then packet true = record { each = λ slot. ap (λ (rs : Records). rs slot) (saved_so old.kept.setup k (packet_of packet)) }

  stops : (packet : Packet) (behind : Bool) (lost : ℕ) → Happens old (Stops packet behind lost) new →
      IsAt setup new (inputs_by old.kept.setup k (Stops packet behind lost) ++ inputs) (given_by (Stops packet behind lost) ++ outputs)
  stops packet behind lost happens =
      let down = stopped old.kept.setup k (packet_of packet) behind in
      let still = stop_lists old.kept.setup k (packet_of packet) behind happens.0.lists in
      let crashed : down ≡ (stepped setup kept_now (Crash (packet_of packet) behind)).kept =
      crash_is old.kept.setup k (packet_of packet) behind refl ∙ ap (λ (step : Stepped). step.kept) (stepped_so (Crash (packet_of packet) behind)) in
      let started = happens.2 in
      let restarted_so : kept_of new.kept ≡ (stepped old.kept.setup down (Restart lost)).kept =
      as_restarted old.kept.setup down (stored_after old packet behind) lost new started.life still.lists (saved_then packet behind)
      (subst (λ (n : ℕ). HasOpened old.kept.setup (stored_after old packet behind) (suc (n + lost)) new started.life) (sym still.life) started.opened) in
      record {
        setup_is = started.opened.setup ∙ at.setup_is;
        kept = restarted_so ∙ (λ i. (stepped (at.setup_is i) (crashed i) (Restart lost)).kept);
        given = λ i. sym (starts_still setup (stepped setup kept_now (Crash (packet_of packet) behind)).kept lost) i ∷ sym
            (crash_still (packet_of packet) behind) i ∷ at.given i;
        may = (
          tt,
          subst (λ (n : ℕ). n + lost < 9999) (sym still.life ∙ ap (λ (kept : Kept). kept.incarnation) crashed) started.within,
          (up_then (Crash (packet_of packet) behind), happens.1, at.may),
        );
      }

  happened : (event : Event) → Happens old event new →
      IsAt setup new (inputs_by old.kept.setup k event ++ inputs) (given_by event ++ outputs)
  happened (Takes input sent) happens = takes input sent happens
  happened (Starts lost) happens = starts lost happens
  happened (Stops packet behind lost) happens = stops packet behind lost happens

-- ---- whole runs

run_so : {S : Type 0} (setup : Setup) (first : Standing S) → OpensNew setup first → (events : List (Event × Standing S)) →
    IsRun first events → IsAt setup (last_in first events) (inputs_in first events) (given_in events)
run_so setup first opens [] run =
    record { setup_is = opens.opened.setup; kept = opened_so setup first opens; given = refl; may = tt }
run_so setup first opens (newest ∷ older) run =
    happened setup (last_in first older) newest.1 (inputs_in first older) (given_in older) (run_so setup first opens older run.1) newest.0 run.0

pub one_actor : {S : Type 0} (setup : Setup) → IsOneOf setup → (first : Standing S) → OpensNew setup first →
    (events : List (Event × Standing S)) → IsRun first events → IsRunOfOne setup first events
one_actor setup one first opens events run =
    let at = run_so setup first opens events run in
    record {
      kept = at.kept;
      given = at.given;
      runs = whole_runs setup one (opened_new setup) (node_new setup.first_serial) (new_stands setup) (inputs_in first events) at.may;
    }
