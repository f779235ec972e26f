-- The first node that lacks a packet.
use Rattle.std.proofs.Common.{◌≡◌, ℕ, suc, ◌+◌, ◌<◌, Bool, true, false, find, length, List, Option, Some, None, refl, sym, ap, ◌∙◌, inl, inr, arith}
use Rattle.std.specs.Prelude.{◌&&◌, not, slice_get, if◌then◌else◌}
use Rattle.std.proofs.lemmas.Option.{slice_get_within}
use Rattle.node_model.specs.Stepped.{sender_of}
use Rattle.sim_net.specs.Network.{numbered}
use Rattle.synod_acceptor.specs.Packets.{packet_of as packet_by}
use Rattle.world.specs.Scenes.{is_up_in}
use Rattle.synod_acceptor.specs.declared.packet.Packet.{Packet as Sent}
use Rattle.script_text.specs.Runner.{Runner}
use Rattle.script_text.specs.World.{World, due_at, is_up_at, lacks, node_numbers, packet_of, takes_part}
use Rattle.script_runner.specs.Arrivals.{came_in}
use Rattle.script_runner.specs.Centres.{IsWorld}
use Rattle.script_runner.specs.declared.centre.Centre.{Centre}
use Rattle.script_runner.proofs.Repeating.{packet_in}
use Rattle.script_runner.proofs.Searching.{at_or_below, first_found, lacks_is, none_found}

-- a node that lacks a packet is one of those that there are
lacks_within : (w : World) (nodes : List ℕ) (number place : ℕ) → lacks w nodes number (1 + place) ≡ true → place < length w.runners
lacks_within w nodes number place is = by_runner (slice_get w.runners place) refl
  where
    here : lacks w nodes number (suc place) ≡ true
    here = let same : 1 + place ≡ suc place = omega arith in sym (ap (lacks w nodes number) same) ∙ is

    down : (part came : Bool) → ((part && false) && came) ≡ true → ⊥
    down true came so = cc
    down false came so = cc

    by_runner : (found : Option Runner) → slice_get w.runners place ≡ found → place < length w.runners
    by_runner (Some runner) found = slice_get_within w.runners place runner found
    by_runner None none =
        absurd (down (takes_part nodes (suc place)) (not (w.came number (suc place)))
        (sym (ap (λ (found : Option Runner). (takes_part nodes (suc place) && is_up_at found) && not (w.came number (suc place))) none) ∙ here))

module _ (centre : Centre) (w : World) (nodes : List ℕ) (number : ℕ) (packet : Sent) (is : IsWorld centre w)
    (sent : Some packet ≡ numbered centre.world.packets number)
    (part : takes_part nodes (sender_of (packet_by packet)) ≡ true) where
  due_is : due_at w nodes number (packet_of w.packets number) ≡ find (lacks w nodes number) (node_numbers w)
  due_is =
      ap (due_at w nodes number) (packet_in centre w number (Some packet) is sent)
      ∙ ap (λ (b : Bool). if b then find (lacks w nodes number) (node_numbers w) else None) part

  -- no node lacks it, of as many as there may be
  pub none_lacks : ((j : ℕ) → j < 9 → lacks w nodes number (1 + j) ≡ false) → None ≡ due_at w nodes number (packet_of w.packets number)
  none_lacks none =
      let few = is.few in
      sym (due_is ∙ none_found (lacks w nodes number) 1 (length w.runners) (λ j below. none j (omega (arith, below, few))))

  pub first_lacks : (place : ℕ) → ((j : ℕ) → j < place → lacks w nodes number (1 + j) ≡ false) → lacks w nodes number (1 + place) ≡ true →
      Some (1 + place) ≡ due_at w nodes number (packet_of w.packets number)
  first_lacks place none here =
      sym (due_is ∙ first_found (lacks w nodes number) 1 (length w.runners) place (lacks_within w nodes number place here) none here)

-- a packet of a node that does not take part
pub not_due : (centre : Centre) (w : World) (nodes : List ℕ) (number : ℕ) (packet : Sent) → IsWorld centre w
    → Some packet ≡ numbered centre.world.packets number → takes_part nodes (sender_of (packet_by packet)) ≡ false
    → None ≡ due_at w nodes number (packet_of w.packets number)
not_due centre w nodes number packet is sent part =
    sym (ap (due_at w nodes number) (packet_in centre w number (Some packet) is sent)
    ∙ ap (λ (b : Bool). if b then find (lacks w nodes number) (node_numbers w) else None) part)

pub lacks_so : (centre : Centre) (w : World) (nodes : List ℕ) (number place node : ℕ) (b : Bool) → IsWorld centre w →
    node ≡ place + 1 → b ≡ (takes_part nodes node && (is_up_in centre.world node && not (came_in centre.arrivals number node)))
    → lacks w nodes number (1 + place) ≡ b
lacks_so centre w nodes number place node b is same tested =
    let first : 1 + place ≡ suc place = omega arith in
    let last : suc place ≡ node = omega (arith, same) in
    ap (lacks w nodes number) first ∙ lacks_is centre w nodes number place is
    ∙ ap (λ (n : ℕ). takes_part nodes n && (is_up_in centre.world n && not (came_in centre.arrivals number n))) last ∙ sym tested

pub one_further : (test : ℕ → Bool) (place : ℕ) → ((j : ℕ) → j < place → test (1 + j) ≡ false) → test (1 + place) ≡ false → (j : ℕ) →
    j < place + 1 →
    test (1 + j) ≡ false
one_further test place none here j below = elim (at_or_below j place below) [ inl less ↦ none j less | inr same ↦ ap (λ (n : ℕ). test (1 + n)) same ∙ here ]
