-- A node of the centre stops, or starts anew: its sessions are gone.
use Rattle.std.proofs.Common.{◌≡◌, ℕ, zero, suc, pred, Bool, true, false, List, [], ◌∷◌, ◌++◌, Option, Some, None, Result, Ok, Err, refl, sym, ap, subst, ◌∙◌}
use Rattle.std.specs.Prelude.{OnOk, nat_lt, nat_le, slice_get, slice_set, if◌then◌else◌}
use Rattle.std.specs.declared.alloc.AllocError.{AllocError}
use Rattle.std.proofs.lemmas.List.{append-nil}
use Rattle.mc_model.specs.synod.Packet.{Packet}
use Rattle.mc_model.specs.node.Input.{Crash, Input, Restart}
use Rattle.world.specs.Found.{Found}
use Rattle.world.specs.Stops.{is_after}
use Rattle.node_laws.specs.Clusters.{KeptCluster, comes_to as cluster_comes, kept_reached}
use Rattle.node_model.specs.Kept.{Kept}
use Rattle.world.specs.Runs.{IsFault, Leads, absent, last_incarnation as world_last, or_else, spent}
use Rattle.world.specs.declared.fault.WorldFault.{WorldFault}
use Rattle.world.specs.declared.fault.WorldFault.TheVariants as faults
use Rattle.world.specs.declared.given.Given.{Given}
use Rattle.world.specs.Step.TheVariants as steps
use Rattle.script_text.specs.Node.{step_at, with_step}
use Rattle.script_text.specs.Prints.{declined_line, text_at}
use Rattle.script_text.specs.Runner.{Acted, Runner, declined, gone_prints, last_incarnation, no_incarnation, on_restart, restarted}
use Rattle.script_text.specs.World.{Moved, World, crashed, crashes, crashes_if, no_node, restarts, restarts_if, runner_at, shared}
use Rattle.script_site.specs.Sites.{IsAmong}
use Rattle.script_site.specs.declared.site.Site.{Site}
use Rattle.script_site.proofs.Stepping.{goes}
use Rattle.script_runner.specs.Arrivals.{Came, came_in}
use Rattle.script_runner.specs.Centres.{Does, IsMoved, IsWorld}
use Rattle.script_runner.specs.Sites.{IsRefused, Leaves}
use Rattle.script_runner.specs.declared.centre.Centre.{Centre}
use Rattle.script_runner.proofs.Coming.{HasCome, came_so, nobody, runner_here, same_place}
use Rattle.script_runner.proofs.Moving.{among_all, found_too, refused_moved, shared_moved, some_same, taken_from, up_moved}

-- a runner without sessions, whose node is this
abbrev without : Runner → Input → Runner
without runner input = record { node = with_step runner.node (step_at runner.node input); sessions = []; streams = []; waiting = [] }

-- no session is there any more, and it is as such a runner
module _ (old mid new : Centre) (w : World) (was : IsWorld old w) (node place : ℕ) (here : node ≡ suc place) (runner : Runner)
    (there : slice_get w.runners place ≡ Some runner) (before after : List ℕ) (sites : mid.sites.items ≡ old.sites.items)
    (arrivals : mid.arrivals ≡ old.arrivals) (leaves_so : Leaves mid place new before after) where
  pub left_moved : (acted : Acted) (input : Input) → acted.next ≡ without runner input → acted.prints ≡ gone_prints runner.sessions
      → IsAmong (suc place) mid.world w (with_step runner.node (step_at runner.node input)) → IsMoved (shared w node acted) new before after
  left_moved acted input next prints among =
      let found = found_too w.runners old.sites.items place runner (sym was.nodes) there in
      let site = found.0 in
      let beside = was.each place site runner found.1 there in
      let said = leaves_so site (ap (λ (ss : List Site). slice_get ss place) sites ∙ found.1) in
      let left = said.0 in
      let has = said.1 in
      let gone = said.2 in
      let own = taken_from left (suc place) (without runner input) (gone.empty.node_is ∙ beside.node_is) gone.empty.sessions gone.empty.streams
      gone.empty.waiting in
      let moved = shared_moved old new w w place left (record acted { next = without runner input }) before after was
      (has.sites ∙ (λ i. slice_set (sites i) place left))
      (subst (λ (scene : _). IsAmong (suc place) scene w (with_step runner.node (step_at runner.node input))) (sym has.world) among) own refl refl
      (λ number other. ap (λ (all : Came). came_in all number other) (has.arrivals ∙ arrivals) ∙ was.came number other)
      (gone.text ∙ (λ i. before ++ text_at (beside.node_is i) (gone_prints (beside.sessions i)))
      ∙ ap (λ (ps : List _). before ++ text_at (suc place) ps) (sym prints)) in
      subst (λ (n : ℕ). IsMoved (shared w n acted) new before after) (sym here)
      (subst (λ (r : Runner). IsMoved (shared w (suc place) (record acted { next = r })) new before after) (sym next) moved)

-- ---- a node stops

pub crashed_does_if : (r : Result (Unit {0}) AllocError) (old mid new : Centre) (node place number : ℕ) (found : Found) (given : Given)
    (before after : List ℕ) → node ≡ suc place → Leads old.world (steps.Crash node number found) (Ok given) mid.world
    → mid.sites.items ≡ old.sites.items → mid.arrivals ≡ old.arrivals → OnOk r (Leaves mid place new before after)
    → OnOk r (Does (λ w. crashes w node number (is_after found)) old new before after)
crashed_does_if (Err fault) old mid new node place number found given before after here leads sites arrivals leaves_so = tt
crashed_does_if (Ok done) old mid new node place number found given before after here leads sites arrivals leaves_so = λ w was.
    let input : Packet → Input = λ packet. Crash packet (is_after found) in
    let come_so : HasCome w place number given input mid.world =
    came_so old w was node place number here (steps.Crash node number found) input given mid.world leads refl (λ next comes. comes) in
    let runner = come_so.runner in
    let act = crashed come_so.packet (is_after found) in
    subst (λ (sent : Option Packet). IsMoved (crashes_if w node (is_after found) sent) new before after) (sym come_so.sent)
    (up_moved new w node place (λ r. shared w node (act r)) runner before after here come_so.there come_so.up
    (left_moved old mid new w was node place here runner come_so.there before after sites arrivals leaves_so (act runner) (input come_so.packet) refl refl
    come_so.among))

-- ---- a node starts anew

set_same : {A : Type 0} (xs : List A) (k : ℕ) (x : A) → slice_get xs k ≡ Some x → xs ≡ slice_set xs k x
set_same [] zero x is = absurd cc
set_same [] (suc k) x is = absurd cc
set_same (y ∷ xs) zero x is = ap (λ (first : _). first ∷ xs) (some_same is)
set_same (y ∷ xs) (suc k) x is = ap (λ (others : List _). y ∷ others) (set_same xs k x is)

-- what leaves a node as it was leaves the world as it was
still_moved : (new : Centre) (w : World) (place : ℕ) (runner : Runner) (acted : Acted) (before after : List ℕ) → IsWorld new w
    → slice_get w.runners place ≡ Some runner → acted.next ≡ runner → after ≡ before ++ text_at (suc place) acted.prints
    → IsMoved (shared w (suc place) acted) new before after
still_moved new w place runner acted before after is there same wrote =
    let found = found_too w.runners new.sites.items place runner (sym is.nodes) there in
    let site = found.0 in
    let beside = is.each place site runner found.1 there in
    let moved = shared_moved new new w w place site (record acted { next = runner }) before after is (set_same new.sites.items place site found.1)
    (among_all new w place runner is there beside.taken)
    (taken_from site (suc place) runner beside.node_is beside.sessions beside.streams beside.waiting) refl refl is.came wrote in
    subst (λ (r : Runner). IsMoved (shared w (suc place) (record acted { next = r })) new before after) (sym same) moved

module _ (old mid : Centre) (node place : ℕ) (here : node ≡ suc place) where
  module _ (w : World) (was : IsWorld old w) where
    abbrev now : KeptCluster
    now = kept_reached was.cluster was.inputs

    restarts_so : (runner : Runner) (b : Bool) → nat_lt runner.node.kept.incarnation last_incarnation ≡ b
        → (if b then restarted runner else declined runner no_incarnation) ≡ on_restart runner
    restarts_so runner b is = ap (λ (test : Bool). if test then restarted runner else declined runner no_incarnation) (sym is)

    same_life : (runner : Runner) → slice_get w.runners place ≡ Some runner → runner.node.kept.incarnation ≡ (now.kept node).incarnation
    same_life runner there =
        ap (λ (k : Kept). k.incarnation) (was.stands.each place runner there).kept ∙ ap (λ (n : ℕ). (now.kept n).incarnation) (sym here)

    -- the node is there, and it is not in its last incarnation
    pub may_begin : or_else (absent was.cluster node) (spent now node) ≡ None
        → (nat_le node was.cluster.nodes ≡ true) × (nat_lt (now.kept node).incarnation last_incarnation ≡ true)
    may_begin none = by_place (nat_le node was.cluster.nodes) (nat_lt (now.kept node).incarnation world_last) none
      where
        by_place : (there more : Bool) → or_else (if there then None else Some faults.NoSuchNode) (if more then None else Some faults.Spent) ≡ None
            → (there ≡ true) × (more ≡ true)
        by_place true true is = (refl, refl)
        by_place true false is = absurd cc
        by_place false more is = absurd cc

    pub not_begun : (new : Centre) (fault : WorldFault) (before after : List ℕ) → IsWorld new w
        → IsFault (or_else (absent was.cluster node) (spent now node)) fault → IsRefused fault before after → IsMoved (restarts w node) new before after
    not_begun new fault before after is refused told =
        by_place (nat_le node was.cluster.nodes) (nat_lt (now.kept node).incarnation world_last) refl refl refused
      where
        by_place : (there more : Bool) → nat_le node was.cluster.nodes ≡ there → nat_lt (now.kept node).incarnation last_incarnation ≡ more
            → IsFault (or_else (if there then None else Some faults.NoSuchNode) (if more then None else Some faults.Spent)) fault
            → IsMoved (restarts w node) new before after
        by_place true true there more fault_is = absurd (subst (λ (f : WorldFault). IsRefused f before after) fault_is told)
        by_place true false there more fault_is =
            let found = runner_here old new w was is node place here there in
            let runner = found.0 in
            let somebody : runner_at w node ≡ Some runner = ap (λ (n : ℕ). slice_get w.runners (pred n)) here ∙ found.1 in
            let last : nat_lt runner.node.kept.incarnation last_incarnation ≡ false =
            ap (λ (n : ℕ). nat_lt n last_incarnation) (same_life runner found.1) ∙ more in
            let wrote = subst (λ (f : WorldFault). IsRefused f before after) fault_is told in
            subst (λ (m : Moved). IsMoved m new before after)
            (ap (shared w node) (restarts_so runner false last) ∙ ap (restarts_if w node) (sym somebody))
            (subst (λ (n : ℕ). IsMoved (shared w n (declined runner no_incarnation)) new before after) (sym here)
            (still_moved new w place runner (declined runner no_incarnation) before after is found.1 refl
            (wrote ∙ ap (λ (t : List ℕ). before ++ t) (sym (append-nil (declined_line no_incarnation))))))
        by_place false more there life fault_is =
            subst (λ (found : Option Runner). IsMoved (restarts_if w node found) new before after) (sym (nobody old new w was is node place here there))
            (refused_moved new w no_node before after is (subst (λ (f : WorldFault). IsRefused f before after) fault_is told))

  pub restarted_does_if : (r : Result (Unit {0}) AllocError) (new : Centre) (given : Given) (before after : List ℕ)
      → Leads old.world (steps.Restart node) (Ok given) mid.world
      → mid.sites.items ≡ old.sites.items → mid.arrivals ≡ old.arrivals → OnOk r (Leaves mid place new before after)
      → OnOk r (Does (λ w. restarts w node) old new before after)
  restarted_does_if (Err fault) new given before after leads sites arrivals leaves_so = tt
  restarted_does_if (Ok done) new given before after leads sites arrivals leaves_so = λ w was.
      let on = leads.each was.cluster [] was.inputs was.at in
      let present = may_begin w was on.allowed in
      let found = runner_here old old w was was node place here present.0 in
      let runner = found.0 in
      let site = found_too w.runners old.sites.items place runner (sym was.nodes) found.1 in
      let none = (was.each place site.0 runner site.1 found.1).taken in
      let went = goes (suc place) old.world w runner.node (among_all old w place runner was found.1 none) (steps.Restart node) given mid.world (Restart 0) leads
      (λ next comes loses. loses ∙ ap (λ (n : ℕ). cluster_comes n (Restart 0)) here) in
      let somebody : runner_at w node ≡ Some runner = ap (λ (n : ℕ). slice_get w.runners (pred n)) here ∙ found.1 in
      let more : nat_lt runner.node.kept.incarnation last_incarnation ≡ true =
      ap (λ (n : ℕ). nat_lt n last_incarnation) (same_life w was runner found.1) ∙ present.1 in
      subst (λ (m : Moved). IsMoved m new before after)
      (ap (shared w node) (restarts_so w was runner true more) ∙ ap (restarts_if w node) (sym somebody))
      (left_moved old mid new w was node place here runner found.1 before after sites arrivals leaves_so (restarted runner) (Restart 0) refl refl went.0)

  -- or it does not
  pub unbegun_does_if : (r : Result (Unit {0}) AllocError) (fault : WorldFault) (before after : List ℕ)
      → Leads old.world (steps.Restart node) (Err fault) mid.world → mid.sites.items ≡ old.sites.items → mid.arrivals ≡ old.arrivals
      → OnOk r (IsRefused fault before after) → OnOk r (Does (λ w. restarts w node) old mid before after)
  unbegun_does_if (Err error) fault before after leads sites arrivals told = tt
  unbegun_does_if (Ok done) fault before after leads sites arrivals told = λ w was.
      not_begun w was mid fault before after (same_place old w (steps.Restart node) fault mid leads sites arrivals was)
      (leads.each was.cluster [] was.inputs was.at).refused told
