-- All packets come again, so many times.
use Rattle.std.proofs.Common.{◌≡◌, ℕ, zero, suc, List, [], ◌∷◌, length, map, Option, refl, sym, ap, subst, ◌∙◌}
use Rattle.std.specs.Prelude.{option_map, reverse, slice_get}
use Rattle.std.proofs.lemmas.List.{append-nil, length-map, reverse-reverse}
use Rattle.mc_model.specs.synod.Packet.{Packet}
use Rattle.sim_net.specs.Network.{numbered}
use Rattle.synod_acceptor.specs.declared.packet.Packet.{Packet as Sent}
use Rattle.synod_acceptor.specs.Packets.{packet_of as packet_by}
use Rattle.script_text.specs.Left.{rests}
use Rattle.script_text.specs.World.{Moved, World, on_replay, packet_of, replays}
use Rattle.script_runner.specs.Centres.{Does, IsMoved, IsWorld}
use Rattle.script_runner.specs.declared.centre.Centre.{Centre}
use Rattle.script_runner.proofs.Following.{IsLeft, replays_nothing}

-- ---- the packets of the code are those of the world

pub packets_are : (centre : Centre) (w : World) → IsWorld centre w → map packet_by centre.world.packets ≡ w.packets
packets_are centre w is =
    sym (reverse-reverse (map packet_by centre.world.packets))
    ∙ ap reverse (sym (append-nil (reverse (map packet_by centre.world.packets))) ∙ sym is.at.packets ∙ is.stands.packets)
    ∙ reverse-reverse w.packets

-- as many as the world has
pub sent_count : (centre : Centre) (w : World) → IsWorld centre w → length centre.world.packets ≡ length w.packets
sent_count centre w is = sym (length-map centre.world.packets packet_by) ∙ ap length (packets_are centre w is)

packet_at : (sent : List Sent) (number : ℕ) → packet_of (map packet_by sent) number ≡ option_map packet_by (numbered sent number)
packet_at sent zero = refl
packet_at sent (suc place) = at_place sent place
  where
    at_place : (xs : List Sent) (k : ℕ) → slice_get (map packet_by xs) k ≡ option_map packet_by (slice_get xs k)
    at_place [] zero = refl
    at_place [] (suc k) = refl
    at_place (x ∷ xs) zero = refl
    at_place (x ∷ xs) (suc k) = at_place xs k

pub packet_in : (old : Centre) (w : World) (number : ℕ) (found : Option Sent) → IsWorld old w → found ≡ numbered old.world.packets number →
    packet_of w.packets number ≡ option_map packet_by found
packet_in old w number found world is =
    ap (λ (ps : List Packet). packet_of ps number) (sym (packets_are old w world)) ∙ packet_at old.world.packets number ∙ ap (option_map packet_by) (sym is)

-- ---- all come again

pub begins : (old : Centre) (w : World) (times left : ℕ) (before : List ℕ) → left ≡ times → IsWorld old w →
    IsLeft (on_replay w times) (replays left (length old.world.packets)) old before before
begins old w times left before same is =
    subst (λ (n : ℕ). IsLeft (on_replay w times) (replays n (length old.world.packets)) old before before) (sym same)
    (subst (λ (n : ℕ). IsLeft (on_replay w times) (replays times n) old before before) (sym (sent_count old w is))
    (record { world = w; is = is; next = refl; written = refl }))

-- none was sent
pub none_again : (old : Centre) (times : ℕ) (before : List ℕ) → length old.world.packets ≡ 0 → Does (λ w. on_replay w times) old old before before
none_again old times before none w is =
    let nothing : on_replay w times ≡ rests w = ap (λ (n : ℕ). replays times n w) (sym (sent_count old w is) ∙ none) ∙ replays_nothing times w in
    subst (λ (m : Moved). IsMoved m old before before) (sym nothing) (record { next = is; text = sym (append-nil before) })
