-- A node of the centre does something, as a runner of a world.
use Rattle.std.proofs.Common.{◌≡◌, ◌⊎◌, ℕ, zero, suc, ◌-◌, ◌<◌, ◌≤◌, pred, Bool, true, false, List, [], ◌∷◌, ◌++◌, length, map, get_or, Option}
use Rattle.std.proofs.Common.{Some, None, Result, Ok, Err, refl, sym, ap, subst, ◌∙◌, inl, inr, arith}
use Rattle.std.specs.Prelude.{OnOk, reverse, slice_get, slice_set, if◌then◌else◌}
use Rattle.std.specs.declared.alloc.AllocError.{AllocError}
use Rattle.std.proofs.lemmas.Option.{slice_get-get_or, slice_get_past}
use Rattle.std.proofs.lemmas.List.{append-nil, length-set}
use Rattle.mc_model.specs.synod.Packet.{Packet}
use Rattle.node_laws.specs.Clusters.{kept_reached}
use Rattle.node_model.specs.Kept.{Kept}
use Rattle.node_model.specs.Reported.{receipt_of}
use Rattle.waiting_requests.specs.Replying.{reply_given}
use Rattle.sim_net.proofs.Numbers.{set_get}
use Rattle.world.specs.Scenes.{Placed, Scene, is_up, is_up_in}
use Rattle.world.specs.declared.given.Given.{Given}
use Rattle.world.proofs.Leading.{stands_up}
use Rattle.script_text.specs.Prints.{declined_line, text_at}
use Rattle.script_text.specs.Runner.{Acted, Runner, given_out}
use Rattle.script_text.proofs.Texts.{at_node}
use Rattle.script_text.specs.Runs.{IsNodeOf}
use Rattle.script_text.specs.World.{Moved, World, acts, if_up, is_down, is_up_at, no_node, refuses, runner_at, shared, up_or_refuses}
use Rattle.script_site.specs.Sites.{Acts, IsAmong, IsRunning, Placed as Beside, tells}
use Rattle.script_site.specs.declared.site.Site.{Site}
use Rattle.script_runner.specs.Arrivals.{Came, came_in}
use Rattle.script_runner.specs.Centres.{Does, IsBeside, IsMoved, IsPlaceUp, IsWorld, declines}
use Rattle.script_runner.specs.Sites.{Tells}
use Rattle.script_runner.specs.declared.centre.Centre.{Centre}

-- ---- places

-- a list as long as another has something in each place in which that has
pub found_too : {A B : Type 0} (xs : List A) (ys : List B) (place : ℕ) (x : A) → length xs ≡ length ys → slice_get xs place ≡ Some x →
    (y : B) × (slice_get ys place ≡ Some y)
found_too [] ys place x same found = absurd cc
found_too (x ∷ xs) [] place z same found = absurd (omega (arith, same))
found_too (x ∷ xs) (y ∷ ys) zero z same found = (y, refl)
found_too (x ∷ xs) (y ∷ ys) (suc place) z same found = found_too xs ys place z (omega (arith, same)) found

pub none_too : {A B : Type 0} (xs : List A) (ys : List B) (place : ℕ) → length xs ≡ length ys → slice_get xs place ≡ None → slice_get ys place ≡ None
none_too [] [] zero same none = refl
none_too [] [] (suc place) same none = refl
none_too [] (y ∷ ys) place same none = absurd (omega (arith, same))
none_too (x ∷ xs) [] place same none = absurd (omega (arith, same))
none_too (x ∷ xs) (y ∷ ys) zero same none = absurd cc
none_too (x ∷ xs) (y ∷ ys) (suc place) same none = none_too xs ys place (omega (arith, same)) none

pub some_same : {A : Type 0} {x y : A} → Some x ≡ Some y → x ≡ y
some_same is = cc

pub number_is : (node number : ℕ) → number ≡ node → 1 ≤ node → node ≡ suc (number - 1)
number_is node number same least = omega (arith, same, least)

-- ---- which nodes are up

pub ups : (centre : Centre) (w : World) (place : ℕ) → IsWorld centre w → is_up_in centre.world (suc place) ≡ is_up_at (slice_get w.runners place)
ups centre w place is = by_member (slice_get centre.world.members place) refl
  where
    count : length centre.world.members ≡ length w.runners
    count = is.at.nodes ∙ sym is.stands.count

    by_member : (found : Option Placed) → slice_get centre.world.members place ≡ found → is_up found ≡ is_up_at (slice_get w.runners place)
    by_member None none = sym (ap is_up_at (none_too centre.world.members w.runners place count none))
    by_member (Some m) found =
        let there = found_too centre.world.members w.runners place m count found in
        let kept = (is.stands.each place there.0 there.1).kept in
        sym (ap is_up_at there.1 ∙ ap (λ (k : Kept). k.up) kept
        ∙ stands_up ((kept_reached is.cluster is.inputs).kept (suc place)) m.up m (is.at.members (suc place) m found).stands)

-- ---- one node of a world

-- it stands where its runner does
abbrev pub among_all : (old : Centre) (w : World) (place : ℕ) (runner : Runner) → IsWorld old w → slice_get w.runners place ≡ Some runner
    → runner.node.packets ≡ [] → IsAmong (suc place) old.world w runner.node
among_all old w place runner is there taken = record {
  cluster = is.cluster;
  inputs = is.inputs;
  at = is.at;
  count = is.stands.count;
  one = is.stands.each place runner there;
  others = λ k other at apart. is.stands.each k other at;
  packets = is.stands.packets ∙ ap reverse (sym (append-nil w.packets) ∙ ap (λ (ps : List Packet). w.packets ++ ps) (sym taken));
}

-- and what stands beside it is as its runner
pub runs : (old : Centre) (w : World) (place : ℕ) (site : Site) (runner : Runner) → IsWorld old w → slice_get old.sites.items place ≡ Some site →
    slice_get w.runners place ≡ Some runner → is_up_in old.world (suc place) ≡ true → IsRunning (suc place) (record { world = old.world; site = site }) w runner
runs old w place site runner is found there up =
    let beside = is.each place site runner found there in
    record {
      home_is = beside.node_is;
      going = record { among = among_all old w place runner is there beside.taken; up = up };
      sessions = beside.sessions;
      streams = beside.streams;
      waiting = beside.waiting;
    }

-- what stands beside a node is as this runner, from which all is taken that its node sent
pub taken_from : (site : Site) (node : ℕ) (runner : Runner) → site.node ≡ node → site.service.sessions ≡ runner.sessions → site.streams ≡ runner.streams
    → site.service.waiting ≡ runner.waiting → IsBeside site node (given_out runner)
taken_from site node runner is sessions streams waiting =
    record { node_is = is; sessions = sessions; streams = streams; waiting = waiting; taken = refl }

-- What a node did is shared: it is as the runner that it left, and its packets come behind all. Of which packets came to which nodes the other world
-- tells, which is as this one but for that.
pub shared_moved : (old new : Centre) (w marked : World) (place : ℕ) (left : Site) (acted : Acted) (before after : List ℕ) → IsWorld old w
    → new.sites.items ≡ slice_set old.sites.items place left → IsAmong (suc place) new.world w acted.next.node
    → IsBeside left (suc place) (given_out acted.next)
    → marked.runners ≡ w.runners → marked.packets ≡ w.packets → ((number node : ℕ) → came_in new.arrivals number node ≡ marked.came number node)
    → after ≡ before ++ text_at (suc place) acted.prints → IsMoved (shared marked (suc place) acted) new before after
shared_moved old new w marked place left acted before after was sites among own runners packets came wrote = record {
  next = record {
    cluster = among.cluster;
    inputs = among.inputs;
    at = among.at;
    stands = record {
      count = length-set marked.runners place (given_out acted.next) ∙ ap length runners ∙ among.count;
      each = each_stands;
      packets = among.packets ∙ ap (λ (ps : List Packet). reverse (ps ++ acted.next.node.packets)) (sym packets);
    };
    nodes = ap length sites ∙ length-set old.sites.items place left ∙ was.nodes ∙ ap length (sym runners)
        ∙ sym (length-set marked.runners place (given_out acted.next));
    few = subst (λ (n : ℕ). n ≤ 9) (ap length (sym runners) ∙ sym (length-set marked.runners place (given_out acted.next))) was.few;
    each = each_beside;
    came = came;
  };
  text = wrote ∙ ap (λ (t : List ℕ). before ++ t) (sym (at_node (suc place) acted.prints));
}
  where
    -- a runner of the new world is that of the node, or it was there before
    cases : (k : ℕ) (runner : Runner) → slice_get (slice_set marked.runners place (given_out acted.next)) k ≡ Some runner
        → ((k ≡ place) × (runner ≡ given_out acted.next)) ⊎ ((k ≡ place → ⊥) × (slice_get w.runners k ≡ Some runner))
    cases k runner there =
        set_get w.runners place k (given_out acted.next) runner
        (subst (λ (rs : List Runner). slice_get (slice_set rs place (given_out acted.next)) k ≡ Some runner) runners there)

    each_stands : (k : ℕ) (runner : Runner) → slice_get (slice_set marked.runners place (given_out acted.next)) k ≡ Some runner
        → IsNodeOf among.cluster among.inputs (suc k) runner.node
    each_stands k runner there = elim (cases k runner there) [
      | inl this ↦
          subst (λ (n : ℕ). IsNodeOf among.cluster among.inputs (suc n) runner.node) (sym this.0)
          (subst (λ (r : Runner). IsNodeOf among.cluster among.inputs (suc place) r.node) (sym this.1)
          (record { setup = among.one.setup; kept = among.one.kept }))
      | inr that ↦ among.others k runner that.1 (λ same. that.0 (omega (arith, same)))
    ]

    each_beside : (k : ℕ) (site : Site) (runner : Runner) → slice_get new.sites.items k ≡ Some site
        → slice_get (slice_set marked.runners place (given_out acted.next)) k ≡ Some runner → IsBeside site (suc k) runner
    each_beside k site runner at there =
        elim (set_get old.sites.items place k left site (subst (λ (ss : List Site). slice_get ss k ≡ Some site) sites at)) [
          | inl both ↦ elim (cases k runner there) [
            | inl this ↦
                subst (λ (n : ℕ). IsBeside site (suc n) runner) (sym this.0)
                (subst (λ (r : Runner). IsBeside site (suc place) r) (sym this.1)
                (subst (λ (s : Site). IsBeside s (suc place) (given_out acted.next)) (sym both.1) own))
            | inr that ↦ absurd (that.0 both.0)
          ]
          | inr other ↦ elim (cases k runner there) [
            | inl this ↦ absurd (other.0 this.0)
            | inr that ↦ was.each k site runner other.1 that.1
          ]
        ]

-- ---- nothing is done

-- a line that is refused adds its line
pub refused_moved : (new : Centre) (w : World) (number : ℕ) (before after : List ℕ) → IsWorld new w →
    after ≡ before ++ declined_line number →
    IsMoved (refuses w number) new before after
refused_moved new w number before after is wrote =
    record { next = is; text = wrote ∙ ap (λ (t : List ℕ). before ++ t) (sym (append-nil (declined_line number))) }

-- ---- a node acts

by_up : (w : World) (up : Runner → Moved) (runner : Runner) (b : Bool) → runner.node.kept.up ≡ b
    → (if b then up runner else refuses w is_down) ≡ up_or_refuses w up (Some runner)
by_up w up runner b is = ap (λ (test : Bool). if test then up runner else refuses w is_down) (sym is)

-- it is up, and does what it does
pub up_moved : (new : Centre) (w : World) (node place : ℕ) (up : Runner → Moved) (runner : Runner) (before after : List ℕ) → node ≡ suc place
    → slice_get w.runners place ≡ Some runner → runner.node.kept.up ≡ true → IsMoved (up runner) new before after → IsMoved (if_up w node up) new before after
up_moved new w node place up runner before after is there so moved =
    let somebody : runner_at w node ≡ Some runner = ap (λ (n : ℕ). slice_get w.runners (pred n)) is ∙ there in
    subst (λ (m : Moved). IsMoved m new before after) (by_up w up runner true so ∙ ap (up_or_refuses w up) (sym somebody)) moved

-- or it is down
pub down_moved : (new : Centre) (w : World) (node : ℕ) (up : Runner → Moved) (runner : Runner) (before after : List ℕ) → IsWorld new w
    → runner_at w node ≡ Some runner → runner.node.kept.up ≡ false → after ≡ before ++ declined_line is_down → IsMoved (if_up w node up) new before after
down_moved new w node up runner before after is there down wrote =
    subst (λ (m : Moved). IsMoved m new before after) (by_up w up runner false down ∙ ap (up_or_refuses w up) (sym there))
    (refused_moved new w is_down before after is wrote)

-- or there is no such node
pub absent_moved : (new : Centre) (w : World) (node : ℕ) (up : Runner → Moved) (before after : List ℕ) → IsWorld new w → runner_at w node ≡ None
    → after ≡ before ++ declined_line no_node → IsMoved (if_up w node up) new before after
absent_moved new w node up before after is nobody wrote =
    subst (λ (found : Option Runner). IsMoved (up_or_refuses w up found) new before after) (sym nobody)
    (refused_moved new w no_node before after is wrote)

pub found_at : {A : Type 0} (xs : List A) (k : ℕ) → k < length xs → (x : A) × (slice_get xs k ≡ Some x)
found_at [] k inside = absurd (omega (arith, inside))
found_at (x ∷ xs) zero inside = (x, refl)
found_at (x ∷ xs) (suc k) inside = found_at xs k (omega (arith, inside))

away_moved : (old : Centre) (w : World) (node number : ℕ) (up : Runner → Moved) (before after : List ℕ) → IsWorld old w → declines old node number
    → after ≡ before ++ declined_line number → IsMoved (if_up w node up) old before after
away_moved old w node number up before after is (inl absent) wrote =
    absent_moved old w node up before after is (slice_get_past w.runners (pred node) (past node absent.beyond))
    (wrote ∙ ap (λ (n : ℕ). before ++ declined_line n) absent.number_is)
  where
    past : (n : ℕ) → length old.sites.items < n → length w.runners ≤ pred n
    past zero below = absurd (omega (arith, below))
    past (suc n) below = let count = is.nodes in omega (arith, below, count)
away_moved old w node number up before after is (inr away) wrote = by_node node refl
  where
    by_node : (n : ℕ) → node ≡ n → IsMoved (if_up w node up) old before after
    by_node zero none = absurd (let least = away.least in omega (arith, none, least))
    by_node (suc place) here =
        let within = away.within in
        let count = is.nodes in
        let there = found_at w.runners place (omega (arith, here, within, count)) in
        down_moved old w node up there.0 before after is (ap (λ (n : ℕ). slice_get w.runners (pred n)) here ∙ there.1)
        (sym (ups old w place is ∙ ap is_up_at there.1) ∙ ap (is_up_in old.world) (sym here) ∙ away.down)
        (wrote ∙ ap (λ (n : ℕ). before ++ declined_line n) away.number_is)

pub away_does_if : (r : Result (Unit {0}) AllocError) (old : Centre) (node number : ℕ) (act : Runner → Acted) (before after : List ℕ)
    → declines old node number → OnOk r (after ≡ before ++ declined_line number) → OnOk r (Does (λ w. acts w node act) old old before after)
away_does_if (Err fault) old node number act before after away wrote = tt
away_does_if (Ok done) old node number act before after away wrote =
    λ w is. away_moved old w node number (λ runner. shared w node (act runner)) before after is away wrote

-- A node that is up acts.
pub acts_does_if : (r : Result (Unit {0}) AllocError) (old new : Centre) (node place : ℕ) (act : Runner → Acted) (site : Site) (left : Beside)
    (before after : List ℕ) → IsPlaceUp old node place → site ≡ get_or old.sites.items place site
    → OnOk r (Acts site.node act (record { world = old.world; site = site }) left before after)
    → new.world ≡ left.world → new.sites.items ≡ slice_set old.sites.items place left.site → new.arrivals ≡ old.arrivals
    → OnOk r (Does (λ w. acts w node act) old new before after)
acts_does_if (Err fault) old new node place act site left before after up is did world sites arrivals = tt
acts_does_if (Ok done) old new node place act site left before after up is did world sites arrivals = λ w was.
    let found : slice_get old.sites.items place ≡ Some site = slice_get-get_or old.sites.items place site up.within ∙ ap Some (sym is) in
    let there = found_too old.sites.items w.runners place site was.nodes found in
    let runner = there.0 in
    let up_there : is_up_in old.world (suc place) ≡ true = ap (is_up_in old.world) (sym up.place_is) ∙ up.up in
    let home : site.node ≡ suc place = (was.each place site runner found there.1).node_is in
    let done_so = subst (λ (n : ℕ). Acts n act (record { world = old.world; site = site }) left before after) home did
    w runner (runs old w place site runner was found there.1 up_there) in
    let ran = done_so.running in
    let moved = shared_moved old new w w place left.site (act runner) before after was sites
    (subst (λ (scene : Scene). IsAmong (suc place) scene w (act runner).next.node) (sym world) ran.going.among)
    (taken_from left.site (suc place) (act runner).next ran.home_is ran.sessions ran.streams ran.waiting) refl refl
    (λ number other. ap (λ (all : Came). came_in all number other) arrivals ∙ was.came number other) done_so.text in
    up_moved new w node place (λ r. shared w node (act r)) runner before after up.place_is there.1
    (sym (ap is_up_at there.1) ∙ sym (ups old w place was) ∙ up_there)
    (subst (λ (n : ℕ). IsMoved (shared w n (act runner)) new before after) (sym up.place_is) moved)

-- ---- what a step gave out is told

pub told_if : (r : Result (Unit {0}) AllocError) (old new : Centre) (place : ℕ) (site left : Site) (given : Given) (before after : List ℕ)
    → place < length old.sites.items → site ≡ get_or old.sites.items place site → new.sites.items ≡ slice_set old.sites.items place left
    → new.world ≡ old.world → new.arrivals ≡ old.arrivals
    → OnOk r (Acts site.node (λ runner. tells runner (map reply_given given.replies.items) (map receipt_of given.receipts.items))
    (record { world = old.world; site = site }) (record { world = old.world; site = left }) before after)
    → OnOk r (Tells old place given new before after)
told_if (Err fault) old new place site left given before after within is sites world arrivals acts = tt
told_if (Ok done) old new place site left given before after within is sites world arrivals acts = λ other found.
    let same : site ≡ other = some_same (ap Some is ∙ sym (slice_get-get_or old.sites.items place site within) ∙ found) in (
      left,
      record { sites = sites; world = world; arrivals = arrivals },
      subst (λ (s : Site). Acts s.node (λ runner. tells runner (map reply_given given.replies.items) (map receipt_of given.receipts.items))
          (record { world = old.world; site = s }) (record { world = old.world; site = left }) before after) same acts,
    )
