-- A packet comes to a node of the centre, which takes it or stops, and a node starts anew.
use Rattle.std.proofs.Common.{◌≡◌, ℕ, zero, suc, ◌+◌, pred, Bool, true, false, List, [], ◌∷◌, ◌++◌, length, map, Option, Some, None}
use Rattle.std.proofs.Common.{Result, Ok, Err, refl, sym, ap, subst, ◌∙◌, arith, append_assoc}
use Rattle.std.specs.Prelude.{◌==◌, ◌&&◌, ◌||◌, OnOk, is_some, nat_le, reverse, slice_get, slice_set, if◌then◌else◌}
use Rattle.std.specs.declared.alloc.AllocError.{AllocError}
use Rattle.std.proofs.lemmas.Bool.Decides.{nat_tests}
use Rattle.std.proofs.lemmas.List.{length-reverse, reverse-append, reverse-reverse}
use Rattle.std.proofs.lemmas.Option.{slice_get_past, slice_get_within}
use Rattle.mc_model.specs.synod.Packet.{Packet}
use Rattle.mc_model.specs.node.Input.{Delivery, Input}
use Rattle.mc_model.specs.node.Outputs.{HasNumber}
use Rattle.world.specs.Found.{Found}
use Rattle.world.specs.Stops.{is_after}
use Rattle.node_laws.specs.Clusters.{KeptCluster, NodeInput, comes_to as cluster_comes, kept_reached}
use Rattle.node_model.specs.Kept.{Kept}
use Rattle.node_model.specs.Reported.{receipt_of}
use Rattle.waiting_requests.specs.Replying.{reply_given}
use Rattle.sim_net.specs.Network.{numbered}
use Rattle.sim_net.proofs.Numbers.{none_given, some_given}
use Rattle.world.specs.Runs.{Comes, IsFault, IsGiven, Leads, away, or_else, refusal_of, unsent}
use Rattle.world.specs.Scenes.{Scene, is_up_in}
use Rattle.world.specs.declared.fault.WorldFault.{WorldFault}
use Rattle.world.specs.declared.fault.WorldFault.TheVariants as faults
use Rattle.world.specs.declared.given.Given.{Given}
use Rattle.world.specs.Step.{Step}
use Rattle.world.specs.Step.TheVariants as steps
use Rattle.script_text.specs.Node.{step_at, with_step}
use Rattle.script_text.specs.Runner.{Acted, Runner, given_out, on_delivery}
use Rattle.script_text.specs.World.{Moved, World, comes, comes_if, crashed, crashes, crashes_if, if_up, is_down, is_up_at, marked, no_packet, packet_of, refuses, runner_at, shared, up_or_refuses}
use Rattle.script_site.specs.Sites.{Acts, HasActed, IsAmong, IsRunning, tells}
use Rattle.script_site.specs.declared.site.Site.{Site}
use Rattle.script_site.proofs.Acting.{IsLike, has_acted}
use Rattle.script_site.proofs.Stepping.{goes, node_up}
use Rattle.script_runner.specs.Arrivals.{Came, came_in}
use Rattle.script_runner.specs.Centres.{Does, IsMoved, IsWorld, KeepsUp}
use Rattle.script_runner.specs.Sites.{HasSite, IsRefused, Tells}
use Rattle.script_runner.specs.declared.centre.Centre.{Centre}
use Rattle.script_runner.proofs.Moving.{absent_moved, among_all, down_moved, found_at, found_too, refused_moved, shared_moved, some_same, taken_from, up_moved}

-- ---- packets by their numbers

pub same_number : (packets : List Packet) (number : ℕ) → packet_of packets number ≡ numbered packets number
same_number packets zero = refl
same_number packets (suc place) = refl

at_length : (front back : List Packet) (packet : Packet) → slice_get (front ++ packet ∷ back) (length front) ≡ Some packet
at_length [] back packet = refl
at_length (first ∷ front) back packet = at_length front back packet

-- of packets with the newest first, the one of a number
pub packet_there : (packets : List Packet) (number : ℕ) (packet : Packet) → HasNumber (reverse packets) number packet → packet_of packets number ≡ Some packet
packet_there packets number packet has =
    ap (packet_of packets) has.number_is
    ∙ ap (λ (ps : List Packet). slice_get ps (length has.older)) turned
    ∙ ap (slice_get (reverse has.older ++ packet ∷ reverse has.newer)) (sym (length-reverse has.older))
    ∙ at_length (reverse has.older) (reverse has.newer) packet
  where
    turned : packets ≡ reverse has.older ++ packet ∷ reverse has.newer
    turned =
        sym (reverse-reverse packets) ∙ ap reverse has.split ∙ reverse-append has.newer (packet ∷ has.older)
        ∙ ap (λ (ps : List Packet). ps ++ reverse has.newer) (reverse-append (packet ∷ []) has.older)
        ∙ append_assoc (reverse has.older) (packet ∷ []) (reverse has.newer)

-- whether a packet of this number was sent
pub unsent_is : (now : KeptCluster) (packets : List Packet) (number : ℕ) (found : Option Packet) → now.packets ≡ reverse packets
    → packet_of packets number ≡ found → unsent 0 now number ≡ (if is_some found then None else Some faults.NoSuchPacket)
unsent_is now packets number found same is = by_found found is
  where
    total : length now.packets ≡ length packets + 0
    total = let counts = ap length same ∙ length-reverse packets in omega (arith, counts)

    by_found : (o : Option Packet) → packet_of packets number ≡ o → unsent 0 now number ≡ (if is_some o then None else Some faults.NoSuchPacket)
    by_found None none =
        ap (λ (b : Bool). if b then None else Some faults.NoSuchPacket) (none_given packets number 0 _ total (sym (same_number packets number) ∙ none))
    by_found (Some packet) some =
        ap (λ (b : Bool). if b then None else Some faults.NoSuchPacket) (some_given packets number 0 _ packet total (sym (same_number packets number) ∙ some))

-- ---- why nothing comes to a node

module _ (old new : Centre) (w : World) (was : IsWorld old w) (is : IsWorld new w) (node place : ℕ) (here : node ≡ suc place) where
  abbrev now : KeptCluster
  now = kept_reached was.cluster was.inputs

  pub runner_here : nat_le node was.cluster.nodes ≡ true → (runner : Runner) × (slice_get w.runners place ≡ Some runner)
  runner_here there =
      let count = was.stands.count in
      found_at w.runners place (grind (arith, nat_tests))

  pub nobody : nat_le node was.cluster.nodes ≡ false → runner_at w node ≡ None
  nobody none =
      ap (λ (n : ℕ). slice_get w.runners (pred n)) here
      ∙ slice_get_past w.runners place (let count = was.stands.count in grind (arith, nat_tests))

  same_up : (runner : Runner) → slice_get w.runners place ≡ Some runner → runner.node.kept.up ≡ (now.kept node).up
  same_up runner there =
      ap (λ (k : Kept). k.up) (was.stands.each place runner there).kept ∙ ap (λ (n : ℕ). (now.kept n).up) (sym here)

  pub away_refused : (fault : WorldFault) (up : Runner → Moved) (before after : List ℕ) → IsFault (away was.cluster now node) fault
      → IsRefused fault before after → IsMoved (if_up w node up) new before after
  away_refused fault up before after refused told = by_place (nat_le node was.cluster.nodes) (now.kept node).up refl refl refused
    where
      by_place : (there stands_up : Bool) → nat_le node was.cluster.nodes ≡ there → (now.kept node).up ≡ stands_up
          → IsFault (or_else (if there then None else Some faults.NoSuchNode) (if stands_up then None else Some faults.Down)) fault
          → IsMoved (if_up w node up) new before after
      by_place true true there stands fault_is = absurd (subst (λ (f : WorldFault). IsRefused f before after) fault_is told)
      by_place true false there stands fault_is =
          let found = runner_here there in
          down_moved new w node up found.0 before after is (ap (λ (n : ℕ). slice_get w.runners (pred n)) here ∙ found.1)
          (same_up found.0 found.1 ∙ stands)
          (subst (λ (f : WorldFault). IsRefused f before after) fault_is told)
      by_place false stands_up there stands fault_is =
          absent_moved new w node up before after is (nobody there) (subst (λ (f : WorldFault). IsRefused f before after) fault_is told)

  -- no packet has the number, or nothing comes to the node
  pub unsent_refused : (number : ℕ) (fault : WorldFault) (comes : Option Packet → Moved) (up : Packet → Runner → Moved) (before after : List ℕ)
      → comes None ≡ refuses w no_packet → ((packet : Packet) → comes (Some packet) ≡ if_up w node (up packet))
      → IsFault (or_else (unsent 0 now number) (away was.cluster now node)) fault → IsRefused fault before after
      → IsMoved (comes (packet_of w.packets number)) new before after
  unsent_refused number fault comes up before after none some refused told = by_packet (packet_of w.packets number) refl
    where
      by_packet : (found : Option Packet) → packet_of w.packets number ≡ found → IsMoved (comes found) new before after
      by_packet None there =
          let fault_is = subst (λ (o : Option WorldFault). IsFault (or_else o (away was.cluster now node)) fault)
          (unsent_is now w.packets number None was.stands.packets there) refused in
          subst (λ (m : Moved). IsMoved m new before after) (sym none)
          (refused_moved new w no_packet before after is (subst (λ (f : WorldFault). IsRefused f before after) fault_is told))
      by_packet (Some packet) there =
          let fault_is = subst (λ (o : Option WorldFault). IsFault (or_else o (away was.cluster now node)) fault)
          (unsent_is now w.packets number (Some packet) was.stands.packets there) refused in
          subst (λ (m : Moved). IsMoved m new before after) (sym (some packet)) (away_refused fault (up packet) before after fault_is told)

-- ---- what came to a node

-- the packet of a number came to a node that is up
pub record HasCome (w : World) (place number : ℕ) (given : Given) (input : Packet → Input) (left : Scene) : Type 0 where
  pub runner : Runner
  pub there : slice_get w.runners place ≡ Some runner
  pub packet : Packet
  pub sent : packet_of w.packets number ≡ Some packet
  pub up : runner.node.kept.up ≡ true
  pub among : IsAmong (suc place) left w (with_step runner.node (step_at runner.node (input packet)))
  pub gives : IsGiven given (step_at runner.node (input packet)).outputs

module _ (old : Centre) (w : World) (was : IsWorld old w) (node place number : ℕ) (here : node ≡ suc place) (step : Step) (input : Packet → Input)
    (given : Given) (left : Scene) (leads : Leads old.world step (Ok given) left)
    (refused : refusal_of was.cluster 0 (kept_reached was.cluster was.inputs) step
    ≡ or_else (unsent 0 (kept_reached was.cluster was.inputs) number) (away was.cluster (kept_reached was.cluster was.inputs) node))
    (numbers : (next : NodeInput) → Comes was.cluster 0 (kept_reached was.cluster was.inputs) step next
    → (packet : Packet) × HasNumber (kept_reached was.cluster was.inputs).packets (number + 0) packet × (next ≡ cluster_comes node (input packet))) where
  abbrev reached : KeptCluster
  reached = kept_reached was.cluster was.inputs

  both_none : (one other : Option WorldFault) → or_else one other ≡ None → (one ≡ None) × (other ≡ None)
  both_none None other is = (refl, is)
  both_none (Some fault) other is = absurd cc

  place_there : away was.cluster reached node ≡ None → (nat_le node was.cluster.nodes ≡ true) × ((reached.kept node).up ≡ true)
  place_there none = by_place (nat_le node was.cluster.nodes) (reached.kept node).up none
    where
      by_place : (there up : Bool) → or_else (if there then None else Some faults.NoSuchNode) (if up then None else Some faults.Down) ≡ None
          → (there ≡ true) × (up ≡ true)
      by_place true true is = (refl, refl)
      by_place true false is = absurd cc
      by_place false up is = absurd cc

  packet_is : (packet : Packet) → HasNumber reached.packets (number + 0) packet → packet_of w.packets number ≡ Some packet
  packet_is packet has =
      let same : number + 0 ≡ number = omega arith in
      packet_there w.packets number packet
      (subst (λ (n : ℕ). HasNumber (reverse w.packets) n packet) same
      (subst (λ (ps : List Packet). HasNumber ps (number + 0) packet) was.stands.packets has))

  pub came_so : HasCome w place number given input left
  came_so =
      let on = leads.each was.cluster [] was.inputs was.at in
      let nothing = both_none (unsent 0 reached number) (away was.cluster reached node) (sym refused ∙ on.allowed) in
      let present = place_there nothing.1 in
      let found = runner_here old old w was was node place here present.0 in
      let runner = found.0 in
      let taken = (found_too w.runners old.sites.items place runner (sym was.nodes) found.1) in
      let none = (was.each place taken.0 runner taken.1 found.1).taken in
      let it = numbers on.next on.comes in
      let sent = packet_is it.0 it.1 in
      let went = goes (suc place) old.world w runner.node (among_all old w place runner was found.1 none) step given left (input it.0) leads
      (λ next comes loses.
      let other = numbers next comes in
      let same : other.0 ≡ it.0 = some_same (sym (packet_is other.0 other.1) ∙ sent) in
      other.2 ∙ (λ i. cluster_comes (here i) (input (same i)))) in
      record {
        runner = runner;
        there = found.1;
        packet = it.0;
        sent = sent;
        up = same_up old old w was was node place here runner found.1 ∙ present.1;
        among = went.0;
        gives = went.1;
      }

-- ---- a packet comes

-- the step of a packet, and what it gave out, are what the text of a script says of it
delivery_like : (runner : Runner) (packet : Packet) →
    let step = step_at runner.node (Delivery packet) in
    IsLike (tells (record runner { node = with_step runner.node step }) step.outputs.replies step.outputs.receipts) (on_delivery runner packet)
delivery_like runner packet = record { next = refl; prints = refl }

-- What came to a node that is up is told there: it did what the text of a script says.
module _ (old mid told : Centre) (node place number : ℕ) (given : Given) (before after : List ℕ) (here : node ≡ suc place)
    (leads : Leads old.world (steps.Deliver number node) (Ok given) mid.world) (up : is_up_in mid.world node ≡ true)
    (sites : mid.sites.items ≡ old.sites.items) (tells_so : Tells mid place given told before after) where
  come : (w : World) (was : IsWorld old w) → HasCome w place number given Delivery mid.world
  come w was =
      came_so old w was node place number here (steps.Deliver number node) Delivery given mid.world leads refl (λ next comes. comes)

  -- the site of the node, and what it did
  pub record IsTold (w : World) : Type 0 where
    pub come_so : HasCome w place number given Delivery mid.world
    pub left : Site
    pub has : HasSite mid place left told
    pub did : HasActed (suc place) w (on_delivery come_so.runner come_so.packet) (record { world = mid.world; site = left }) before after

  pub told_so : (w : World) → IsWorld old w → IsTold w
  told_so w was =
      let come_so = come w was in
      let runner = come_so.runner in
      let found = found_too w.runners old.sites.items place runner (sym was.nodes) come_so.there in
      let site = found.0 in
      let beside = was.each place site runner found.1 come_so.there in
      let said = tells_so site (ap (λ (ss : List Site). slice_get ss place) sites ∙ found.1) in
      let step = step_at runner.node (Delivery come_so.packet) in
      let first : Runner = record runner { node = with_step runner.node step } in
      let running : IsRunning (suc place) (record { world = mid.world; site = site }) w first = record {
        home_is = beside.node_is;
        going = record { among = come_so.among; up = ap (is_up_in mid.world) (sym here) ∙ up };
        sessions = beside.sessions;
        streams = beside.streams;
        waiting = beside.waiting;
      } in
      let acts = subst (λ (n : ℕ). Acts n (λ r. tells r (map reply_given given.replies.items) (map receipt_of given.receipts.items))
      (record { world = mid.world; site = site }) (record { world = mid.world; site = said.0 }) before after) beside.node_is said.2 w first running in
      let given_so : tells first (map reply_given given.replies.items) (map receipt_of given.receipts.items)
      ≡ tells first step.outputs.replies step.outputs.receipts =
      λ i. tells first (come_so.gives.others i).replies (come_so.gives.others i).receipts in
      let like_both : IsLike (tells first (map reply_given given.replies.items) (map receipt_of given.receipts.items)) (on_delivery runner come_so.packet) =
      subst (λ (a : Acted). IsLike a (on_delivery runner come_so.packet)) (sym given_so) (delivery_like runner come_so.packet) in
      record {
        come_so = come_so;
        left = said.0;
        has = said.1;
        did = has_acted (suc place) w (tells first (map reply_given given.replies.items) (map receipt_of given.receipts.items))
            (on_delivery runner come_so.packet) (record { world = mid.world; site = said.0 }) before after like_both acts;
      }

  pub delivered_does_if : (r : Result (Unit {0}) AllocError) (new : Centre) → mid.arrivals ≡ old.arrivals
      → new.world ≡ told.world → new.sites.items ≡ told.sites.items
      → OnOk r ((other at : ℕ) → came_in new.arrivals other at ≡ ((other == number && at == node) || came_in told.arrivals other at))
      → OnOk r (Does (λ w. comes w number node) old new before after)
  delivered_does_if (Err fault) new arrivals world same_sites came = tt
  delivered_does_if (Ok done) new arrivals world same_sites came = λ w was.
      let told_w = told_so w was in
      let come_so = told_w.come_so in
      let has = told_w.has in
      let did = told_w.did in
      let acted = on_delivery come_so.runner come_so.packet in
      let ran = did.running in
      let sites_now : new.sites.items ≡ slice_set old.sites.items place told_w.left =
      same_sites ∙ has.sites ∙ (λ i. slice_set (sites i) place told_w.left) in
      let moved = shared_moved old new w (marked w number node) place told_w.left acted before after was sites_now
      (subst (λ (scene : Scene). IsAmong (suc place) scene w acted.next.node) (sym (world ∙ has.world)) ran.going.among)
      (taken_from told_w.left (suc place) acted.next ran.home_is ran.sessions ran.streams ran.waiting) refl refl
      (λ other at.
      came other at
      ∙ ap (λ (earlier : Bool). (other == number && at == node) || earlier)
      (ap (λ (all : Came). came_in all other at) (has.arrivals ∙ arrivals) ∙ was.came other at)) did.text in
      subst (λ (found : Option Packet). IsMoved (comes_if w number node found) new before after) (sym come_so.sent)
      (up_moved new w node place (λ runner. shared (marked w number node) node (on_delivery runner come_so.packet)) come_so.runner before after here
      come_so.there come_so.up
      (subst (λ (n : ℕ). IsMoved (shared (marked w number node) n acted) new before after) (sym here) moved))

-- ---- as many nodes are up

set_up : (runners : List Runner) (place k : ℕ) (runner left : Runner) → slice_get runners place ≡ Some runner → left.node.kept.up ≡ runner.node.kept.up
    → is_up_at (slice_get (slice_set runners place left) k) ≡ is_up_at (slice_get runners k)
set_up [] place k runner left there same = absurd (nothing place there)
  where
    nothing : (p : ℕ) → slice_get {X = Runner} [] p ≡ Some runner → ⊥
    nothing zero is = cc
    nothing (suc p) is = cc
set_up (first ∷ runners) zero zero runner left there same = same ∙ ap (λ (r : Runner). r.node.kept.up) (sym (some_same there))
set_up (first ∷ runners) zero (suc k) runner left there same = refl
set_up (first ∷ runners) (suc place) zero runner left there same = refl
set_up (first ∷ runners) (suc place) (suc k) runner left there same = set_up runners place k runner left there same

pub delivered_ups : (old mid told : Centre) (node place number : ℕ) (given : Given) (before after : List ℕ) (here : node ≡ suc place)
    (leads : Leads old.world (steps.Deliver number node) (Ok given) mid.world) (up : is_up_in mid.world node ≡ true)
    (sites : mid.sites.items ≡ old.sites.items) (tells_so : Tells mid place given told before after) → KeepsUp old number node
delivered_ups old mid told node place number given before after here leads up sites tells_so w was other =
    let told_w = told_so old mid told node place number given before after here leads up sites tells_so w was in
    let come_so = told_w.come_so in
    let acted = on_delivery come_so.runner come_so.packet in
    let there : runner_at w node ≡ Some come_so.runner = ap (λ (n : ℕ). slice_get w.runners (pred n)) here ∙ come_so.there in
    let comes_is : comes w number node ≡ shared (marked w number node) node acted =
    ap (comes_if w number node) come_so.sent
    ∙ ap (up_or_refuses w (λ runner. shared (marked w number node) node (on_delivery runner come_so.packet))) there
    ∙ ap (λ (b : Bool). if b then shared (marked w number node) node acted else refuses w is_down) come_so.up in
    ap (λ (m : Moved). is_up_at (runner_at m.next other)) comes_is
    ∙ set_up w.runners (pred node) (pred other) come_so.runner (given_out acted.next) there
    (node_up (suc place) mid.world w acted.next.node told_w.did.running.going ∙ sym come_so.up)

-- ---- a line that is refused

-- the centre with another world, which stands at the same place of a run
pub same_place : (old : Centre) (w : World) (step : Step) (fault : WorldFault) (new : Centre) → Leads old.world step (Err fault) new.world
    → new.sites.items ≡ old.sites.items → new.arrivals ≡ old.arrivals → IsWorld old w → IsWorld new w
same_place old w step fault new leads sites arrivals was = record {
  cluster = was.cluster;
  inputs = was.inputs;
  at = (leads.each was.cluster [] was.inputs was.at).at;
  stands = was.stands;
  nodes = ap length sites ∙ was.nodes;
  few = was.few;
  each = λ place site runner found there. was.each place site runner (subst (λ (ss : List Site). slice_get ss place ≡ Some site) sites found) there;
  came = λ number node. ap (λ (all : Came). came_in all number node) arrivals ∙ was.came number node;
}

pub undelivered_does_if : (r : Result (Unit {0}) AllocError) (old new : Centre) (node place number : ℕ) (fault : WorldFault) (before after : List ℕ)
    → node ≡ suc place → Leads old.world (steps.Deliver number node) (Err fault) new.world → new.sites.items ≡ old.sites.items → new.arrivals ≡ old.arrivals
    → OnOk r (IsRefused fault before after) → OnOk r (Does (λ w. comes w number node) old new before after)
undelivered_does_if (Err error) old new node place number fault before after here leads sites arrivals told = tt
undelivered_does_if (Ok done) old new node place number fault before after here leads sites arrivals told = λ w was.
    unsent_refused old new w was (same_place old w (steps.Deliver number node) fault new leads sites arrivals was) node place here number fault
    (comes_if w number node) (λ packet runner. shared (marked w number node) node (on_delivery runner packet)) before after refl (λ packet. refl)
    (leads.each was.cluster [] was.inputs was.at).refused told

pub uncrashed_does_if : (r : Result (Unit {0}) AllocError) (old new : Centre) (node place number : ℕ) (found : Found) (fault : WorldFault)
    (before after : List ℕ) → node ≡ suc place → Leads old.world (steps.Crash node number found) (Err fault) new.world
    → new.sites.items ≡ old.sites.items → new.arrivals ≡ old.arrivals
    → OnOk r (IsRefused fault before after) → OnOk r (Does (λ w. crashes w node number (is_after found)) old new before after)
uncrashed_does_if (Err error) old new node place number found fault before after here leads sites arrivals told = tt
uncrashed_does_if (Ok done) old new node place number found fault before after here leads sites arrivals told = λ w was.
    unsent_refused old new w was (same_place old w (steps.Crash node number found) fault new leads sites arrivals was) node place here number fault
    (crashes_if w node (is_after found)) (λ packet runner. shared w node (crashed packet (is_after found) runner)) before after refl (λ packet. refl)
    (leads.each was.cluster [] was.inputs was.at).refused told

-- then as many nodes are up, too
refused_next : (w : World) (up : Runner → Moved) (other : ℕ) (found : Option Runner)
    → ((runner : Runner) → found ≡ Some runner → runner.node.kept.up ≡ true → is_up_at (runner_at (up runner).next other) ≡ is_up_at (runner_at w other))
    → is_up_at (runner_at (up_or_refuses w up found).next other) ≡ is_up_at (runner_at w other)
refused_next w up other None so = refl
refused_next w up other (Some runner) so = by_test runner.node.kept.up refl
  where
    by_test : (b : Bool) → runner.node.kept.up ≡ b
        → is_up_at (runner_at (if b then up runner else refuses w is_down).next other) ≡ is_up_at (runner_at w other)
    by_test true is = so runner refl is
    by_test false is = refl

-- a step that may come is refused for want of memory alone, and then no line is
not_refused : (old : Centre) (w : World) (was : IsWorld old w) (node place : ℕ) (here : node ≡ suc place) (runner : Runner) (fault : WorldFault)
    (before after : List ℕ) → slice_get w.runners place ≡ Some runner → runner.node.kept.up ≡ true
    → IsFault (away was.cluster (kept_reached was.cluster was.inputs) node) fault → IsRefused fault before after → ⊥
not_refused old w was node place here runner fault before after there up refused told =
    let inside = slice_get_within w.runners place runner there in
    let count = was.stands.count in
    let present : nat_le node was.cluster.nodes ≡ true = grind (arith, nat_tests) in
    let stands_up : ((kept_reached was.cluster was.inputs).kept node).up ≡ true = sym (same_up old old w was was node place here runner there) ∙ up in
    let none : away was.cluster (kept_reached was.cluster was.inputs) node ≡ None =
    (λ i. or_else (if present i then None else Some faults.NoSuchNode) (if stands_up i then None else Some faults.Down)) in
    let memory : fault ≡ faults.Memory = subst (λ (o : Option WorldFault). IsFault o fault) none refused in
    subst (λ (f : WorldFault). IsRefused f before after) memory told

pub undelivered_ups_if : (r : Result (Unit {0}) AllocError) (old : Centre) (new : Scene) (node place number : ℕ) (fault : WorldFault) (before after : List ℕ)
    → node ≡ suc place → Leads old.world (steps.Deliver number node) (Err fault) new
    → OnOk r (IsRefused fault before after) → OnOk r (KeepsUp old number node)
undelivered_ups_if (Err error) old new node place number fault before after here leads told = tt
undelivered_ups_if (Ok done) old new node place number fault before after here leads told = λ w was other. by_packet w was other (packet_of w.packets number) refl
  where
    by_packet : (w : World) (was : IsWorld old w) (other : ℕ) (found : Option Packet) → packet_of w.packets number ≡ found
        → is_up_at (runner_at (comes_if w number node found).next other) ≡ is_up_at (runner_at w other)
    by_packet w was other None is = refl
    by_packet w was other (Some packet) is =
        let refused = subst (λ (o : Option WorldFault). IsFault (or_else o (away was.cluster (kept_reached was.cluster was.inputs) node)) fault)
        (unsent_is (kept_reached was.cluster was.inputs) w.packets number (Some packet) was.stands.packets is)
        (leads.each was.cluster [] was.inputs was.at).refused in
        refused_next w (λ runner. shared (marked w number node) node (on_delivery runner packet)) other (runner_at w node)
        (λ runner found up. absurd (not_refused old w was node place here runner fault before after
        (sym (ap (λ (n : ℕ). slice_get w.runners (pred n)) here) ∙ found) up refused told))

pub delivered_ups_if : (r : Result (Unit {0}) AllocError) (old mid told : Centre) (node place number : ℕ) (given : Given) (before after : List ℕ)
    → node ≡ suc place → Leads old.world (steps.Deliver number node) (Ok given) mid.world → is_up_in mid.world node ≡ true
    → mid.sites.items ≡ old.sites.items → Tells mid place given told before after → OnOk r (KeepsUp old number node)
delivered_ups_if (Err fault) old mid told node place number given before after here leads up sites tells_so = tt
delivered_ups_if (Ok done) old mid told node place number given before after here leads up sites tells_so =
    delivered_ups old mid told node place number given before after here leads up sites tells_so
