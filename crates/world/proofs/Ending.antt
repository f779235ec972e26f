-- A node of a world that stops, and one that starts anew, as steps of the run in which it stands.
use Rattle.std.proofs.Common.{◌≡◌, ◌⊎◌, ℕ, suc, ◌+◌, ◌<◌, ◌≤◌, Bool, true, false, List, ◌∷◌, ◌++◌, length, map, Option, Some, None, Result}
use Rattle.std.proofs.Common.{Ok, Err, refl, sym, ap, subst, ◌∙◌, inl, inr, arith}
use Rattle.std.specs.Prelude.{IfErr, IfOk, OnErr, nat_lt, if◌then◌else◌}
use Rattle.std.proofs.lemmas.Bool.Decides.{nat_tests}
use Rattle.std.proofs.lemmas.List.{append-nil}
use Rattle.mc_model.specs.synod.Packet.{Packet}
use Rattle.mc_model.specs.node.Input.{Crash, Input, Restart}
use Rattle.mc_model.specs.node.Outputs.{Outputs}
use Rattle.mc_model.specs.node.Setup.{Setup}
use Rattle.mc_model.specs.cluster.Steps.{Cluster, setup_of}
use Rattle.node_model.specs.Kept.{Kept}
use Rattle.node_model.specs.Outputs.{Stepped, leaves, nothing}
use Rattle.mc_model.specs.synod.Lists.{In}
use Rattle.node_model.specs.Stepped.{restarted, stepped, stopped}
use Rattle.node_laws.specs.Clusters.{KeptCluster, NodeInput, comes_to, kept_reached, step_at}
use Rattle.node_laws.specs.Runs.{IsOneOf}
use Rattle.synod_acceptor.specs.Packets.{packet_of}
use Rattle.synod_acceptor.specs.declared.packet.Packet.{Packet as Sent}
use Rattle.node_runs.specs.Found.{Found}
use Rattle.node_runs.specs.Keeping.{kept_of}
use Rattle.node_runs.specs.Stops.{is_after}
use Rattle.node_runs.proofs.Restarts.{crash_is}
use Rattle.sim_net.specs.Network.{numbered}
use Rattle.sim_net.proofs.Numbers.{number_in}
use Rattle.world.specs.declared.fault.WorldFault.{WorldFault}
use Rattle.world.specs.declared.fault.WorldFault.TheVariants as faults
use Rattle.world.specs.declared.given.Given.{Given as Gives}
use Rattle.node_entry.specs.declared.step.Step.TheVariants as steps
use Rattle.world.specs.Members.{CantBegin, HasBegun, HasStopped, IsPlace, Keeps, away_in, undelivered_in, unsent_in}
use Rattle.world.specs.Runs.{IsAt, IsDown, IsFault, IsGiven, IsMember, IsSomewhere, Leads, StandsAs, away, or_else, spent, unsent}
use Rattle.world.specs.Scenes.{Placed, Scene}
use Rattle.world.proofs.Going.{goes_on, stays}
use Rattle.world.proofs.Stopping.{stands_down}
use Rattle.world.proofs.Leading.{away_is, away_none, is_up, kept_up, present, sent_in, setup_up}
use Rattle.node_runs.proofs.Running.{up_for}
use Rattle.world.proofs.Answering.{number_is, unsent_none, unsent_some}

-- what leaves something gives nothing out
pub gives_nothing : (up : Bool) (one other : Kept) → (if◌then◌else◌ {A = Stepped} up (leaves one) (leaves other)).outputs ≡ nothing
gives_nothing true one other = refl
gives_nothing false one other = refl

unsent_more : (before : List Packet) (o : Outputs) → o ≡ nothing → before ≡ before ++ o.packets
unsent_more before o is = sym (ap (λ (x : Outputs). before ++ x.packets) is ∙ append-nil before)

pub one_more : (place : ℕ) → suc place ≡ place + 1
one_more place = omega arith

module _ (cluster : Cluster) (behind : List Packet) (inputs : List NodeInput) (old new : Scene) (now : IsAt cluster behind inputs old) where
  abbrev here : KeptCluster
  here = kept_reached cluster inputs

  -- ---- a stop

  module _ (node place : ℕ) (packet : Sent) (after : Bool) (gives : Gives) (place_is : node ≡ place + 1)
      (has : HasStopped old place packet after gives new) where
    abbrev m : Placed
    m = has.member

    is_place : IsPlace old node place m
    is_place = record { place_is = place_is; found = has.is.found }

    abbrev k : Kept
    k = here.kept node

    abbrev crash : Input
    crash = Crash (packet_of packet) after

    setup_is : m.node.kept.setup ≡ setup_of cluster node
    setup_is = setup_up cluster behind inputs old now node place m is_place

    kept_is : kept_of m.node.kept ≡ k
    kept_is = kept_up cluster behind inputs old now node place m is_place has.up

    up_now : k.up ≡ true
    up_now = is_up cluster behind inputs old now node place m is_place has.up

    stopped_is : stopped m.node.kept.setup (kept_of m.node.kept) (packet_of packet) after
        ≡ (step_at cluster here (comes_to node (Crash (packet_of packet) after))).kept
    stopped_is = (λ i. stopped (setup_is i) (kept_is i) (packet_of packet) after) ∙ crash_is (setup_of cluster node) k (packet_of packet) after up_now

    abbrev step : Stepped
    step = step_at cluster here (comes_to node crash)

    member_then : IsMember (setup_of cluster node) step.kept has.after
    member_then = record {
      setup_is = has.crashed.setup ∙ setup_is;
      stands = subst (λ (b : Bool). StandsAs step.kept b has.after.node) (sym has.crashed.down)
          (subst (λ (kept : Kept). IsDown kept has.after.node) stopped_is (stands_down m has.after packet after has.crashed));
    }

    silent : step.outputs ≡ nothing
    silent = gives_nothing k.up (stopped (setup_of cluster node) k (packet_of packet) after) k

    pub stopped_at : In (packet_of packet) here.packets → IsAt cluster behind (comes_to node crash ∷ inputs) new
    stopped_at sent = goes_on cluster behind inputs old now node place crash has.after new.packets new place_is
        (subst IsOneOf setup_is has.crashed.one)
        (up_for k crash up_now)
        has.crashed.well sent member_then has.changed refl
        (ap (map packet_of) has.packets ∙ unsent_more (map packet_of old.packets) step.outputs silent)

    pub stop_gives : IsGiven gives step.outputs
    stop_gives = subst (IsGiven gives) (sym silent) has.gives

  -- ---- a start

  module _ (node place : ℕ) (gives : Gives) (place_is : node ≡ place + 1) (has : HasBegun old place gives new) where
    abbrev was : Placed
    was = has.member

    abbrev before : Kept
    before = here.kept node

    member_is : IsMember (setup_of cluster node) before was
    member_is = now.members node was (subst (λ (n : ℕ). numbered old.members n ≡ Some was) (one_more place ∙ sym place_is) has.is.found)

    incarnation_is : (up : Bool) → StandsAs before up was.node → before.incarnation ≡ was.node.kept.incarnation
    incarnation_is true stands = ap (λ (kept : Kept). kept.incarnation) (sym stands)
    incarnation_is false stands = sym stands.incarnation

    pub same_life : before.incarnation ≡ was.node.kept.incarnation
    same_life = incarnation_is was.up member_is.stands

    abbrev begun : Stepped
    begun = step_at cluster here (comes_to node (Restart 0))

    begun_is : IsMember (setup_of cluster node) begun.kept has.after
    begun_is = record {
      setup_is = has.restarted.setup ∙ member_is.setup_is;
      stands = subst (λ (b : Bool). StandsAs begun.kept b has.after.node) (sym has.restarted.up)
          (has.restarted.kept before member_is.stands ∙ ap (λ (s : Setup). (stepped s before (Restart 0)).kept) member_is.setup_is);
    }

    quiet : begun.outputs ≡ nothing
    quiet = gives_nothing before.up (restarted (setup_of cluster node) before 0) (restarted (setup_of cluster node) before 0)

    left : before.incarnation + 0 < 9999
    left = let less = has.restarted.left in let same = same_life in omega arith

    pub begun_at : IsAt cluster behind (comes_to node (Restart 0) ∷ inputs) new
    begun_at = goes_on cluster behind inputs old now node place (Restart 0) has.after new.packets new place_is
        (subst IsOneOf member_is.setup_is has.restarted.one)
        tt left tt begun_is has.changed refl
        (ap (map packet_of) has.packets ∙ unsent_more (map packet_of old.packets) begun.outputs quiet)

    pub begun_gives : IsGiven gives begun.outputs
    begun_gives = subst (IsGiven gives) (sym quiet) has.gives

    pub not_spent : spent here node ≡ None
    not_spent =
        let less : nat_lt before.incarnation 9999 ≡ true = let below = left in grind (arith, nat_tests) in
        ap (λ (b : Bool). if b then None else Some faults.Spent) less

-- ---- as answers of the world

pub crash_leads : (old new : Scene) (node number place : ℕ) (packet : Sent) (found : Found) (result : Result Gives WorldFault) → node ≡ place + 1 →
    numbered old.packets number ≡ Some packet → (up : Placed) → IsPlace old node place up → up.up ≡ true →
    IfOk result (λ gives. HasStopped old place packet (is_after found) gives new) → IfErr result (λ fault. fault ≡ faults.Memory) →
    OnErr result (Keeps old new) → Leads old (steps.Crash node number found) result new
crash_leads old new node number place packet found (Ok gives) place_is packet_is up is is_up has fault keeps = record {
  fresh = tt;
  each = λ cluster behind inputs now.
      let sent = number_is cluster behind inputs old now number packet packet_is in
      record {
        allowed = (λ i. or_else (unsent_some cluster behind inputs old now number packet packet_is i) (away cluster (kept_reached cluster inputs) node))
            ∙ away_none cluster behind inputs old now node place up is is_up;
        next = comes_to node (Crash (packet_of packet) (is_after found));
        comes = (packet_of packet, sent, refl);
        loses = tt;
        at = stopped_at cluster behind inputs old new now node place packet (is_after found) gives place_is has (number_in _ _ _ sent);
        gives = stop_gives cluster behind inputs old new now node place packet (is_after found) gives place_is has;
        granted = tt;
      };
}
crash_leads old new node number place packet found (Err fault) place_is packet_is up is is_up has memory keeps = record {
  fresh = keeps.fresh;
  each = λ cluster behind inputs now. record {
    refused = subst (λ (o : Option WorldFault). IsFault o fault)
        (sym ((λ i. or_else (unsent_some cluster behind inputs old now number packet packet_is i) (away cluster (kept_reached cluster inputs) node))
        ∙ away_none cluster behind inputs old now node place up is is_up)) memory;
    at = stays cluster behind inputs old now new keeps;
  };
}

pub restart_leads : (old new : Scene) (node place : ℕ) (result : Result Gives WorldFault) → node ≡ place + 1 →
    IfOk result (λ gives. HasBegun old place gives new) → IfErr result (CantBegin old place) → OnErr result (Keeps old new) →
    Leads old (steps.Restart node) result new
restart_leads old new node place (Ok gives) place_is has cant keeps = record {
  fresh = tt;
  each = λ cluster behind inputs now. record {
    allowed =
        (λ i. or_else (present cluster behind inputs old now node place has.member (record { place_is = place_is; found = has.is.found }) i)
        (spent (kept_reached cluster inputs) node))
        ∙ not_spent cluster behind inputs old new now node place gives place_is has;
    next = comes_to node (Restart 0);
    comes = (0, refl);
    loses = refl;
    at = begun_at cluster behind inputs old new now node place gives place_is has;
    gives = begun_gives cluster behind inputs old new now node place gives place_is has;
    granted = tt;
  };
}
restart_leads old new node place (Err fault) place_is has cant keeps = record {
  fresh = keeps.fresh;
  each = λ cluster behind inputs now.
      let here = kept_reached cluster inputs in
      let is : IsPlace old node place cant.member = record { place_is = place_is; found = cant.is.found } in
      let member : IsMember (setup_of cluster node) (here.kept node) cant.member =
      now.members node cant.member (subst (λ (n : ℕ). numbered old.members n ≡ Some cant.member) (one_more place ∙ sym place_is) cant.is.found) in
      record {
        refused =
            subst (λ (o : Option WorldFault). IsFault (or_else o (spent here node)) fault)
            (sym (present cluster behind inputs old now node place cant.member is))
            (by_life here node fault cant.member.node.kept.incarnation (life_of (here.kept node) cant.member cant.member.up member.stands) cant.why);
        at = stays cluster behind inputs old now new keeps;
      };
}
  where
    life_of : (k : Kept) (m : Placed) (up : Bool) → StandsAs k up m.node → k.incarnation ≡ m.node.kept.incarnation
    life_of k m true stands = ap (λ (kept : Kept). kept.incarnation) (sym stands)
    life_of k m false stands = sym stands.incarnation

    by_life : (w : KeptCluster) (n : ℕ) (f : WorldFault) (incarnation : ℕ) → (w.kept n).incarnation ≡ incarnation →
        ((f ≡ faults.Spent) × (9999 ≤ incarnation)) ⊎ ((f ≡ faults.Memory) × (incarnation < 9999)) → IsFault (spent w n) f
    by_life w n f incarnation same (inl last) =
        let past = last.1 in
        let none : nat_lt (w.kept n).incarnation 9999 ≡ false = grind (arith, nat_tests) in
        subst (λ (b : Bool). IsFault (if b then None else Some faults.Spent) f) (sym none) last.0
    by_life w n f incarnation same (inr more) =
        let below = more.1 in
        let some : nat_lt (w.kept n).incarnation 9999 ≡ true = grind (arith, nat_tests) in
        subst (λ (b : Bool). IsFault (if b then None else Some faults.Spent) f) (sym some) more.0

-- no packet has the number, or nothing comes to the node
pub undelivered : (old : Scene) (number node : ℕ) (fault : WorldFault) → 1 ≤ node → IsFault (undelivered_in old number node) fault →
    (cluster : Cluster) (behind : List Packet) (inputs : List NodeInput) → IsAt cluster behind inputs old →
    IsFault (or_else (unsent (length behind) (kept_reached cluster inputs) number) (away cluster (kept_reached cluster inputs) node)) fault
undelivered old number node fault least is cluster behind inputs now = by_packet (numbered old.packets number) refl
  where
    same : away_in old node ≡ away cluster (kept_reached cluster inputs) node
    same = away_is cluster behind inputs old now node least

    by_packet : (packet : Option Sent) → numbered old.packets number ≡ packet →
        IsFault (or_else (unsent (length behind) (kept_reached cluster inputs) number) (away cluster (kept_reached cluster inputs) node)) fault
    by_packet None none =
        subst (λ (o : Option WorldFault). IsFault (or_else o (away cluster (kept_reached cluster inputs) node)) fault)
        (sym (unsent_none cluster behind inputs old now number none))
        (subst (λ (o : Option Sent). IsFault (or_else (unsent_in o) (away_in old node)) fault) none is)
    by_packet (Some packet) some =
        subst (λ (o : Option WorldFault). IsFault (or_else o (away cluster (kept_reached cluster inputs) node)) fault)
        (sym (unsent_some cluster behind inputs old now number packet some))
        (subst (λ (o : Option WorldFault). IsFault o fault) same
        (subst (λ (o : Option Sent). IsFault (or_else (unsent_in o) (away_in old node)) fault) some is))

-- ---- it still stands somewhere

pub stopped_somewhere : (old new : Scene) (place : ℕ) (packet : Sent) (after : Bool) (gives : Gives) → In packet old.packets →
    HasStopped old place packet after gives new → IsSomewhere old → IsSomewhere new
stopped_somewhere old new place packet after gives sent has at =
    let stop =
    stopped_at at.cluster at.behind at.inputs old new at.at (place + 1) place packet after gives refl has
    (sent_in at.cluster at.behind at.inputs old at.at packet sent) in
    record { cluster = at.cluster; behind = at.behind; inputs = _; at = stop }

pub begun_somewhere : (old new : Scene) (place : ℕ) (gives : Gives) → HasBegun old place gives new → IsSomewhere old → IsSomewhere new
begun_somewhere old new place gives has at =
    let start = begun_at at.cluster at.behind at.inputs old new at.at (place + 1) place gives refl has in
    record { cluster = at.cluster; behind = at.behind; inputs = _; at = start }
