-- The centre does one thing after another, as the world of a script does.
use Rattle.std.proofs.Common.{◌≡◌, ℕ, zero, suc, ◌+◌, Bool, true, false, cond, List, [], ◌∷◌, ◌++◌, refl, sym, ap, subst, ◌∙◌, append_assoc, arith}
use Rattle.std.proofs.lemmas.Grind.{flat_map-append}
use Rattle.std.proofs.lemmas.List.{append-nil, reverse-append}
use Rattle.std.specs.Prelude.{reverse}
use Rattle.std.specs.List.{range_with_len}
use Rattle.script_text.specs.Left.{followed_by, rests}
use Rattle.script_text.specs.Prints.{WorldPrint, world_line, world_text}
use Rattle.script_text.specs.World.{Moved, World, all_come, comes, comes_again, comes_to, is_up_at, node_numbers, replays, runner_at}
use Rattle.script_runner.specs.Centres.{IsMoved, IsWorld}
use Rattle.script_runner.specs.declared.centre.Centre.{Centre}

-- What was written, and what is still to be done from the world that the centre is, is all that was to be done.
pub record IsLeft (all : Moved) (rest : World → Moved) (now : Centre) (before text : List ℕ) : Type 0 where
  pub world : World
  pub is : IsWorld now world
  pub next : (rest world).next ≡ all.next
  pub written : text ++ world_text (rest world).prints ≡ before ++ world_text all.prints

pub all_left : (line : World → Moved) (old : Centre) (w : World) (before : List ℕ) → IsWorld old w → IsLeft (line w) line old before before
all_left line old w before is = record { world = w; is = is; next = refl; written = refl }

-- One thing was done.
unfoldable pub one_done : (all : Moved) (rest others first : World → Moved) (now new : Centre) (before text after : List ℕ)
    (left : IsLeft all rest now before text) →
    rest left.world ≡ followed_by (first left.world) (others (first left.world).next) → IsMoved (first left.world) new text after →
    IsLeft all others new before after
one_done all rest others first now new before text after left is moved = record {
  world = (first left.world).next;
  is = moved.next;
  next = ap (λ (m : Moved). m.next) (sym is) ∙ left.next;
  written =
      ap (λ (t : List ℕ). t ++ world_text later) moved.text
      ∙ append_assoc text (world_text (first left.world).prints) (world_text later)
      ∙ ap (λ (t : List ℕ). text ++ t) (sym (flat_map-append world_line (first left.world).prints later))
      ∙ ap (λ (m : Moved). text ++ world_text m.prints) (sym is) ∙ left.written;
}
  where
    later : List WorldPrint
    later = (others (first left.world).next).prints

-- Nothing is left.
pub all_done : (all : Moved) (rest : World → Moved) (now : Centre) (before text : List ℕ) (left : IsLeft all rest now before text) →
    rest left.world ≡ rests left.world →
    IsMoved all now before text
all_done all rest now before text left is = record {
  next = subst (IsWorld now) (ap (λ (m : Moved). m.next) (sym is) ∙ left.next) left.is;
  text = sym (append-nil text) ∙ ap (λ (m : Moved). text ++ world_text m.prints) (sym is) ∙ left.written;
}

-- the last thing was done
pub last_done : (all last : Moved) (rest : World → Moved) (now new : Centre) (before text after : List ℕ)
    (left : IsLeft all rest now before text) → rest left.world ≡ last →
    IsMoved last new text after → IsMoved all new before after
last_done all last rest now new before text after left is moved = record {
  next = subst (IsWorld new) (ap (λ (m : Moved). m.next) (sym is) ∙ left.next) moved.next;
  text = moved.text ∙ ap (λ (m : Moved). text ++ world_text m.prints) (sym is) ∙ left.written;
}

-- ---- a packet comes to all nodes again

to_first : (number node : ℕ) (nodes : List ℕ) (w : World) →
    comes_to number (node ∷ nodes) w ≡ followed_by (comes_again w number node) (comes_to number nodes (comes_again w number node).next)
unfolding comes_to
to_first number node nodes w = refl

to_none : (number : ℕ) (w : World) → comes_to number [] w ≡ rests w
unfolding comes_to
to_none number w = refl

pub to_all_of : (number start left : ℕ) (w : World) → left ≡ 0 → comes_to number (range_with_len start left) w ≡ rests w
to_all_of number start left w none = ap (λ (n : ℕ). comes_to number (range_with_len start n) w) none ∙ to_none number w

pub to_next : (number start left more : ℕ) (w : World) → left ≡ suc more →
    comes_to number (range_with_len start left) w ≡ followed_by (comes_again w number start)
    (comes_to number (range_with_len (start + 1) more) (comes_again w number start).next)
to_next number start left more w is = ap (λ (n : ℕ). comes_to number (range_with_len start n) w) is ∙ to_first number start (range_with_len (start + 1) more) w

again_if : (up : Bool) (w : World) (moved : Moved) (new : Centre) (before after : List ℕ) → (up ≡ true → IsMoved moved new before after) →
    (up ≡ false → IsMoved (rests w) new before after) →
    IsMoved (cond up moved (rests w)) new before after
again_if true w moved new before after if_so if_not = if_so refl
again_if false w moved new before after if_so if_not = if_not refl

pub again_moved : (w : World) (number node : ℕ) (new : Centre) (before after : List ℕ) →
    (is_up_at (runner_at w node) ≡ true → IsMoved (comes w number node) new before after) →
    (is_up_at (runner_at w node) ≡ false → IsMoved (rests w) new before after) → IsMoved (comes_again w number node) new before after
again_moved w number node new before after if_so if_not = again_if (is_up_at (runner_at w node)) w (comes w number node) new before after if_so if_not

-- ---- packets come again, from the highest number down

range_more : (start count : ℕ) → range_with_len start (suc count) ≡ range_with_len start count ++ (start + count) ∷ []
range_more start zero = let same : start ≡ start + 0 = omega arith in ap (λ (n : ℕ). n ∷ []) same
range_more start (suc count) =
    let same : (start + 1) + count ≡ start + suc count = omega arith in
    ap (λ (ns : List ℕ). start ∷ ns) (range_more (start + 1) count ∙ ap (λ (n : ℕ). range_with_len (start + 1) count ++ n ∷ []) same)

downward : (count : ℕ) → reverse (range_with_len 1 (suc count)) ≡ suc count ∷ reverse (range_with_len 1 count)
downward count =
    let same : 1 + count ≡ suc count = omega arith in
    ap reverse (range_more 1 count) ∙ reverse-append (range_with_len 1 count) ((1 + count) ∷ []) ∙ ap (λ (n : ℕ). n ∷ reverse (range_with_len 1 count)) same

come_first : (number : ℕ) (numbers : List ℕ) (w : World) →
    all_come (number ∷ numbers) w ≡ followed_by (comes_to number (node_numbers w) w) (all_come numbers (comes_to number (node_numbers w) w).next)
unfolding all_come
come_first number numbers w = refl

come_none : (w : World) → all_come [] w ≡ rests w
unfolding all_come
come_none w = refl

pub come_next : (left more : ℕ) (w : World) → left ≡ suc more →
    all_come (reverse (range_with_len 1 left)) w ≡ followed_by (comes_to left (node_numbers w) w)
    (all_come (reverse (range_with_len 1 more)) (comes_to left (node_numbers w) w).next)
come_next left more w is =
    rw is (ap (λ (ns : List ℕ). all_come ns w) (downward more) ∙ come_first (suc more) (reverse (range_with_len 1 more)) w)

pub come_all : (left : ℕ) (w : World) → left ≡ 0 → all_come (reverse (range_with_len 1 left)) w ≡ rests w
come_all left w none = ap (λ (n : ℕ). all_come (reverse (range_with_len 1 n)) w) none ∙ come_none w

-- ---- so many times

pub replay_next : (left more count : ℕ) (w : World) → left ≡ suc more →
    replays left count w ≡ followed_by (all_come (reverse (range_with_len 1 count)) w) (replays more count (all_come (reverse (range_with_len 1 count)) w).next)
unfolding replays
replay_next left more count w is = rw is refl

pub replayed_all : (left count : ℕ) (w : World) → left ≡ 0 → replays left count w ≡ rests w
unfolding replays
replayed_all left count w none = rw none refl

pub replays_nothing : (times : ℕ) (w : World) → replays times 0 w ≡ rests w
replays_nothing zero w = replayed_all zero 0 w refl
replays_nothing (suc more) w =
    replay_next (suc more) more 0 w refl
    ∙ ap (λ (m : Moved). followed_by m (replays more 0 m.next)) (come_none w)
    ∙ ap (followed_by (rests w)) (replays_nothing more w)
