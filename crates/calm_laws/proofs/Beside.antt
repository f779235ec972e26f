-- The world of one node stands beside a runner whose packets wait in a queue.
use Rattle.std.specs.Prelude.{nat_lt, if◌then◌else◌}
use Rattle.std.proofs.Common.{◌≡◌, ℕ, suc, Bool, List, [], ◌∷◌, ◌++◌, length, map, refl, sym, ap, subst, ◌∙◌}
use Rattle.std.proofs.lemmas.List.{append_assoc, append-nil, map-append}
use Rattle.mc_model.specs.synod.Packet.{Packet}
use Rattle.script_text.specs.Left.{followed_by}
use Rattle.script_text.specs.Node.{awaiting}
use Rattle.script_text.specs.Prints.{At}
use Rattle.script_text.specs.Runner.{Acted, Runner, given_out}
use Rattle.script_text.specs.World.{World, Moved, acts, is_down, refuses, shared}
use Rattle.script_text.specs.World as many
use Rattle.calm_laws.proofs.Alone.{IsAlone, none_alone, others_alone}
use Rattle.calm_laws.proofs.Awaiting.{ActedAlike, acted_behind, runner_behind}
use Rattle.calm_laws.proofs.Sending.{AreSentBy, both_sent}

-- the first packets came to the node, and no others
abbrev pub HaveCome : List Packet → (ℕ → ℕ → Bool) → Type 0
HaveCome past came = (place : ℕ) → came (suc place) 1 ≡ nat_lt place (length past)

-- one node, packets that came to it, and packets that are still to come
abbrev pub world_of : Runner → List Packet → List Packet → (ℕ → ℕ → Bool) → World
world_of runner past waiting came = record { runners = given_out runner ∷ []; packets = past ++ waiting; came = came }

-- A world has the runner, but that the packets which are to come to its node stand behind those that came.
pub record IsBeside (runner : Runner) (world : World) : Type 0 where
  pub past : List Packet
  pub came : ℕ → ℕ → Bool
  pub is : world ≡ world_of runner past runner.node.packets came
  pub have_come : HaveCome past came
  pub alone : IsAlone runner.node

-- what a runner did, and what a world did: they stand beside each other, and the node 1 prints what the runner prints
pub record GoesBeside (acted : Acted) (moved : Moved) : Type 0 where
  pub beside : IsBeside acted.next moved.next
  pub prints : moved.prints ≡ map (At 1) acted.prints

pub then_beside : (first last : Acted) (one other : Moved) → GoesBeside first one → GoesBeside last other →
    GoesBeside (followed_by first last) (followed_by one other)
then_beside first last one other goes later = record {
  beside = later.beside;
  prints = (λ i. goes.prints i ++ later.prints i) ∙ sym (map-append (At 1) first.prints last.prints);
}

-- ---- a node acts

-- what it sends comes behind all packets
pub shared_beside : (runner : Runner) (past waiting : List Packet) (came : ℕ → ℕ → Bool) → HaveCome past came → AreSentBy 1 waiting → (acted : Acted) →
    IsAlone acted.next.node → GoesBeside (acted_behind waiting acted) (shared (world_of runner past waiting came) 1 acted)
shared_beside runner past waiting came have_come own acted alone =
    let sent = acted.next.node.packets in
    record {
      beside = record {
        past = past;
        came = came;
        is = ap (λ (packets : List Packet). record { runners = given_out acted.next ∷ []; packets = packets; came = came }) (append_assoc past waiting sent);
        have_come = have_come;
        alone = others_alone acted.next.node alone (waiting ++ sent) (both_sent 1 waiting sent own alone.own);
      };
      prints = refl;
    }

-- a node that is up acts
pub acts_up : (runner : Runner) → IsAlone runner.node → (past waiting : List Packet) (came : ℕ → ℕ → Bool) (act : Runner → Moved) →
    many.if_up (world_of runner past waiting came) 1 act ≡ act (given_out runner)
acts_up runner alone past waiting came act =
    ap (λ (up : Bool). if up then act (given_out runner) else refuses (world_of runner past waiting came) is_down) alone.up

-- an act that packets which wait do not change
abbrev pub LooksAway : (Runner → Acted) → Type 0
LooksAway act = (waiting : List Packet) (runner : Runner) → IsAlone runner.node → ActedAlike waiting (act (runner_behind waiting runner)) (act runner)

-- what was given out and waits in front is what waited
waits_again : (runner : Runner) → runner_behind runner.node.packets (given_out runner) ≡ runner
waits_again runner = ap (λ (packets : List Packet). record runner { node = awaiting runner.node packets }) (append-nil runner.node.packets)

act_is : (act : Runner → Acted) → LooksAway act → (runner : Runner) → IsAlone runner.node →
    act runner ≡ acted_behind runner.node.packets (act (given_out runner))
act_is act away runner alone =
    sym (ap act (waits_again runner)) ∙ (away runner.node.packets (given_out runner) (none_alone runner.node alone)).is

shares : (act : Runner → Acted) → LooksAway act → (runner : Runner) (world : World) (beside : IsBeside runner world) →
    GoesBeside (act runner) (shared (world_of runner beside.past runner.node.packets beside.came) 1 (act (given_out runner)))
shares act away runner world beside =
    let waiting = runner.node.packets in
    let there = away waiting (given_out runner) (none_alone runner.node beside.alone) in
    subst (λ (acted : Acted). GoesBeside acted (shared (world_of runner beside.past waiting beside.came) 1 (act (given_out runner))))
    (sym (act_is act away runner beside.alone))
    (shared_beside runner beside.past waiting beside.came beside.have_come beside.alone.own (act (given_out runner)) there.alone)

pub acts_beside : (act : Runner → Acted) → LooksAway act → (runner : Runner) (world : World) → IsBeside runner world →
    GoesBeside (act runner) (acts world 1 act)
acts_beside act away runner world beside =
    let waiting = runner.node.packets in
    let here = world_of runner beside.past waiting beside.came in
    subst (λ (moved : Moved). GoesBeside (act runner) moved)
    (sym (ap (λ (w : World). acts w 1 act) beside.is ∙ acts_up runner beside.alone beside.past waiting beside.came (λ r. shared here 1 (act r))))
    (shares act away runner world beside)
