-- A settle of the world of one node delivers the packets that wait in the queue of a runner beside it.
use Rattle.std.specs.Prelude.{◌==◌, ◌&&◌, ◌||◌}
use Rattle.std.proofs.Common.{◌≡◌, ℕ, zero, suc, Bool, true, List, [], ◌∷◌, ◌++◌, length, Option, Some, None, refl, sym, ap, subst, ◌∙◌, inl, inr, arith}
use Rattle.std.proofs.lemmas.List.{append_assoc, length-append}
use Rattle.mc_model.specs.synod.Packet.{Packet}
use Rattle.script_text.specs.Left.{followed_by, rests}
use Rattle.script_text.specs.Runner.{Acted, Runner, given_out, on_delivery}
use Rattle.script_text.specs.World.{World, Moved, Due, comes, comes_if, due, if_due, marked, shared, takes_part}
use Rattle.script_text.specs.World as many
use Rattle.calm_laws.proofs.Queue.{and_settles, delivers, first_or, settles}
use Rattle.calm_laws.proofs.Alone.{IsAlone}
use Rattle.calm_laws.proofs.Awaiting.{acted_behind, delivery_alike}
use Rattle.calm_laws.proofs.Beside.{GoesBeside, HaveCome, IsBeside, acts_up, shared_beside, then_beside, world_of}
use Rattle.calm_laws.proofs.Due.{due_is, next_packet}
use Rattle.calm_laws.proofs.Sending.{AreSentBy}

-- the packet behind those that came has come
one_more_came : (past : List Packet) (came : ℕ → ℕ → Bool) → HaveCome past came → (packet : Packet) →
    HaveCome (past ++ packet ∷ []) (λ n m. (n == suc (length past) && m == 1) || came n m)
one_more_came past came have_come packet place =
    let whole = length-append past (packet ∷ []) in
    ap (λ (c : Bool). (suc place == suc (length past) && true) || c) (have_come place)
    ∙ grind (arith, whole)

module _ (runner : Runner) (past : List Packet) (packet : Packet) (others : List Packet) (came : ℕ → ℕ → Bool) (have_come : HaveCome past came)
    (alone : IsAlone runner.node) where
  abbrev number : ℕ
  number = suc (length past)

  abbrev before : World
  before = world_of runner past (packet ∷ others) came

  abbrev came_then : ℕ → ℕ → Bool
  came_then n m = (n == number && m == 1) || came n m

  -- the packet comes at the world
  came_is : comes before number 1 ≡ shared (marked before number 1) 1 (on_delivery (given_out runner) packet)
  came_is =
      ap (comes_if before number 1) (next_packet past packet others)
      ∙ acts_up runner alone past (packet ∷ others) came (λ r. shared (marked before number 1) 1 (on_delivery r packet))

  pub comes_beside : AreSentBy 1 others → GoesBeside (delivers runner packet others) (comes before number 1)
  comes_beside own =
      let alike = delivery_alike packet others runner alone in
      let shift : past ++ packet ∷ [] ++ others ≡ past ++ packet ∷ others = append_assoc past (packet ∷ []) others in
      subst (λ (acted : Acted). GoesBeside acted (comes before number 1)) (sym alike.is)
      (subst (λ (moved : Moved). GoesBeside (acted_behind others (on_delivery (given_out runner) packet)) moved) (sym came_is)
      (subst (λ (packets : List Packet). GoesBeside (acted_behind others (on_delivery (given_out runner) packet))
      (shared (record { runners = given_out runner ∷ []; packets = packets; came = came_then }) 1 (on_delivery (given_out runner) packet))) shift
      (shared_beside runner (past ++ packet ∷ []) others came_then (one_more_came past came have_come packet) own
      (on_delivery (given_out runner) packet) alike.alone)))

module _ (nodes : List ℕ) (takes : takes_part nodes 1 ≡ true) where
  -- the runner settles so, and the world beside it
  abbrev SettlesBeside : Option Acted → Moved → Type 0
  SettlesBeside found moved = (acted : Acted) → found ≡ Some acted → GoesBeside acted moved

  pub settles_beside : (more : ℕ) (runner : Runner) (world : World) → IsBeside runner world →
      SettlesBeside (settles more runner) (many.settles more nodes world)
  unfolding settles many.settles
  settles_beside zero runner world beside = λ acted is. absurd cc
  settles_beside (suc more) runner world beside =
      subst (λ (w : World). SettlesBeside (settles (suc more) runner) (many.settles (suc more) nodes w)) (sym beside.is)
      (by_waiting (settles_beside more) runner.node.packets refl)
    where
      at : List Packet → World
      at waiting = world_of runner beside.past waiting beside.came

      next : World → Due → Moved
      next w it = followed_by (comes w it.number it.node) (many.settles more nodes (comes w it.number it.node).next)

      own : (packet : Packet) (others : List Packet) → runner.node.packets ≡ packet ∷ others → AreSentBy 1 (packet ∷ others)
      own packet others is = subst (AreSentBy 1) is beside.alone.own

      -- the first packet, and then the others
      then_settles : (first : Acted) (moved : Moved) (rest : Option Acted) (later : Moved) → GoesBeside first moved →
          ((acted : Acted) → rest ≡ Some acted → GoesBeside acted later) → SettlesBeside (and_settles first rest) (followed_by moved later)
      then_settles first moved None later goes settles_later acted is = absurd cc
      then_settles first moved (Some last) later goes settles_later acted is =
          let same : followed_by first last ≡ acted = cc in
          subst (λ (a : Acted). GoesBeside a (followed_by moved later)) same (then_beside first last moved later goes (settles_later last refl))

      by_waiting : ((after : Runner) (then : World) → IsBeside after then → SettlesBeside (settles more after) (many.settles more nodes then)) →
          (waiting : List Packet) → runner.node.packets ≡ waiting →
          SettlesBeside
          (first_or (Some (rests runner)) (λ packet rest. and_settles (delivers runner packet rest) (settles more (delivers runner packet rest).next)) waiting)
          (if_due (rests (at runner.node.packets)) (next (at runner.node.packets)) (due (at runner.node.packets) nodes))
      by_waiting later [] is =
          let nothing : due (at runner.node.packets) nodes ≡ None =
          ap (λ (w : List Packet). due (at w) nodes) is
          ∙ due_is runner beside.past [] beside.came beside.have_come beside.alone nodes takes (λ packet others none. absurd cc) in
          subst (λ (found : Option Due). SettlesBeside (Some (rests runner)) (if_due (rests (at runner.node.packets)) (next (at runner.node.packets)) found))
          (sym nothing)
          (λ acted rests_so.
          let same : rests runner ≡ acted = cc in
          subst (λ (a : Acted). GoesBeside a (rests (at runner.node.packets))) same
          (record {
            beside = record { past = beside.past; came = beside.came; is = refl; have_come = beside.have_come; alone = beside.alone };
            prints = refl;
          }))
      by_waiting later (packet ∷ others) is =
          let sent = own packet others is in
          let number = suc (length beside.past) in
          let first = delivers runner packet others in
          let comes_first : GoesBeside first (comes (at (packet ∷ others)) number 1) =
          comes_beside runner beside.past packet others beside.came beside.have_come beside.alone (λ p among. sent p (inr among)) in
          let found : due (at (packet ∷ others)) nodes ≡ Some (record { number = number; node = 1 }) =
          due_is runner beside.past (packet ∷ others) beside.came beside.have_come beside.alone nodes takes (λ p rest same. sent p (inl cc)) in
          let goes : SettlesBeside (and_settles first (settles more first.next)) (next (at (packet ∷ others)) (record { number = number; node = 1 })) =
          then_settles first (comes (at (packet ∷ others)) number 1) (settles more first.next) _ comes_first
          (later first.next (comes (at (packet ∷ others)) number 1).next comes_first.beside) in
          subst (λ (w : List Packet). SettlesBeside (and_settles first (settles more first.next)) (if_due (rests (at w)) (next (at w)) (due (at w) nodes)))
          (sym is)
          (subst (λ (d : Option Due). SettlesBeside (and_settles first (settles more first.next))
          (if_due (rests (at (packet ∷ others))) (next (at (packet ∷ others))) d))
          (sym found) goes)
