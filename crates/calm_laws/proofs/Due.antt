-- What is due in the world of one node: the first packet that is still to come.
use Rattle.std.specs.Prelude.{nat_lt, not, ◌&&◌, find, if◌then◌else◌}
use Rattle.std.specs.List.{range_with_len}
use Rattle.std.proofs.Common.{◌≡◌, ℕ, zero, suc, ◌+◌, ◌<◌, Bool, true, false, List, [], ◌∷◌, ◌++◌, length, Option, Some, None, refl, ap, ◌∙◌, arith}
use Rattle.std.proofs.lemmas.List.{length-append}
use Rattle.std.proofs.lemmas.Option.{slice_get-get_or}
use Rattle.std.proofs.Math.Seq.{get_or-append_seam}
use Rattle.mc_model.specs.synod.Packet.{Packet}
use Rattle.node_model.specs.Stepped.{sender_of}
use Rattle.script_text.specs.Runner.{Runner}
use Rattle.script_text.specs.World.{World, Due, due, due_among, due_at, due_first, is_up_at, lacks, node_numbers, packet_of, runner_at, takes_part}
use Rattle.calm_laws.proofs.Alone.{IsAlone}
use Rattle.calm_laws.proofs.Beside.{HaveCome, world_of}

-- the packet behind those that came
pub next_packet : (past : List Packet) (packet : Packet) (others : List Packet) → packet_of (past ++ packet ∷ others) (suc (length past)) ≡ Some packet
next_packet past packet others =
    let whole = length-append past (packet ∷ others) in
    let within : length past < length (past ++ packet ∷ others) = omega (arith, whole) in
    slice_get-get_or (past ++ packet ∷ others) (length past) packet within ∙ ap (λ (p : Packet). Some p) (get_or-append_seam past packet others packet)

-- what is due if nothing or something is to come
abbrev pub first_due : ℕ → List Packet → Option Due
first_due number [] = None
first_due number (packet ∷ others) = Some (record { number = number; node = 1 })

module _ (runner : Runner) (past waiting : List Packet) (came : ℕ → ℕ → Bool) (have_come : HaveCome past came) (alone : IsAlone runner.node)
    (nodes : List ℕ) (takes : takes_part nodes 1 ≡ true) where
  abbrev world : World
  world = world_of runner past waiting came

  -- the node lacks what has not come
  lacks_is : (place : ℕ) → lacks world nodes (suc place) 1 ≡ not (nat_lt place (length past))
  lacks_is place =
      ap (λ (part : Bool). part && is_up_at (runner_at world 1) && not (came (suc place) 1)) takes
      ∙ ap (λ (up : Bool). true && up && not (came (suc place) 1)) alone.up
      ∙ ap not (have_come place)

  -- ---- what has come is not due

  passed : (place : ℕ) → nat_lt place (length past) ≡ true → (packet : Option Packet) → due_at world nodes (suc place) packet ≡ None
  passed place below None = refl
  passed place below (Some packet) = by_part (takes_part nodes (sender_of packet))
    where
      by_part : (part : Bool) → (if part then find (lacks world nodes (suc place)) (node_numbers world) else None) ≡ None
      by_part true = ap (λ (lacking : Bool). if lacking then Some 1 else None) (lacks_is place ∙ ap not below)
      by_part false = refl

  passed_among : (place : ℕ) → nat_lt place (length past) ≡ true → (numbers : List ℕ) →
      due_among world nodes (suc place ∷ numbers) ≡ due_among world nodes numbers
  unfolding due_among
  passed_among place below numbers =
      ap (λ (found : Option ℕ). due_first (suc place) found (due_among world nodes numbers)) (passed place below (packet_of world.packets (suc place)))

  passes : (count place more : ℕ) → place + count ≡ length past →
      due_among world nodes (range_with_len (suc place) (count + more)) ≡ due_among world nodes (range_with_len (suc (length past)) more)
  passes zero place more is =
      let none : 0 + more ≡ more = omega arith in
      let here : place ≡ length past = omega (arith, is) in
      ap (λ (n : ℕ). due_among world nodes (range_with_len (suc place) n)) none ∙ ap (λ (n : ℕ). due_among world nodes (range_with_len (suc n) more)) here
  passes (suc count) place more is =
      let one_more : suc count + more ≡ suc (count + more) = omega arith in
      let next : suc place + 1 ≡ suc (suc place) = omega arith in
      let behind : suc place + count ≡ length past = omega (arith, is) in
      let inside : place < length past = omega (arith, is) in
      let below : nat_lt place (length past) ≡ true = grind (arith, inside) in
      ap (λ (n : ℕ). due_among world nodes (range_with_len (suc place) n)) one_more
      ∙ passed_among place below (range_with_len (suc place + 1) (count + more))
      ∙ ap (λ (n : ℕ). due_among world nodes (range_with_len n (count + more))) next
      ∙ passes count (suc place) more behind

  -- ---- the next one is

  next_due : (packet : Packet) → sender_of packet ≡ 1 → due_at world nodes (suc (length past)) (Some packet) ≡ Some 1
  next_due packet own =
      let part : takes_part nodes (sender_of packet) ≡ true = ap (takes_part nodes) own ∙ takes in
      let not_below : nat_lt (length past) (length past) ≡ false = grind arith in
      ap (λ (p : Bool). if p then find (lacks world nodes (suc (length past))) (node_numbers world) else None) part
      ∙ ap (λ (lacking : Bool). if lacking then Some 1 else None) (lacks_is (length past) ∙ ap not not_below)

pub due_is : (runner : Runner) (past waiting : List Packet) (came : ℕ → ℕ → Bool) → HaveCome past came → IsAlone runner.node → (nodes : List ℕ) →
    takes_part nodes 1 ≡ true → ((packet : Packet) (others : List Packet) → waiting ≡ packet ∷ others → sender_of packet ≡ 1) →
    due (world_of runner past waiting came) nodes ≡ first_due (suc (length past)) waiting
unfolding due_among
due_is runner past waiting came have_come alone nodes takes own =
    let whole : length (past ++ waiting) ≡ length past + length waiting = length-append past waiting in
    let from : 0 + length past ≡ length past = omega arith in
    ap (λ (n : ℕ). due_among (world_of runner past waiting came) nodes (range_with_len 1 n)) whole
    ∙ passes runner past waiting came have_come alone nodes takes (length past) 0 (length waiting) from
    ∙ by_waiting waiting refl
  where
    by_waiting : (rest : List Packet) → waiting ≡ rest →
        due_among (world_of runner past waiting came) nodes (range_with_len (suc (length past)) (length rest)) ≡ first_due (suc (length past)) rest
    by_waiting [] is = refl
    by_waiting (packet ∷ others) is =
        let number = suc (length past) in
        let later : Option Due = due_among (world_of runner past waiting came) nodes (range_with_len (number + 1) (length others)) in
        let found : packet_of (past ++ waiting) number ≡ Some packet =
        ap (λ (w : List Packet). packet_of (past ++ w) number) is ∙ next_packet past packet others in
        ap (λ (p : Option Packet). due_first number (due_at (world_of runner past waiting came) nodes number p) later) found
        ∙ ap (λ (node : Option ℕ). due_first number node later) (next_due runner past waiting came have_come alone nodes takes packet (own packet others is))
