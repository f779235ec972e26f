-- Messages in the places of what was kept of their ids.
use Rattle.std.proofs.Common.{◌≡◌, ℕ, ◌+◌, ◌<◌, ◌≤◌, List, [], ◌∷◌, ◌++◌, length, refl, sym, ap, ◌∙◌, arith}
use Rattle.std.specs.Box.{box_value}
use Rattle.shelf.specs.Shelved.{with_value}
use Rattle.node_parts.specs.declared.message.Message.{Message as Filed}
use Rattle.node_parts.specs.Living.{Listed}
use Rattle.node_kept.specs.declared.step.Put.{Put}
use Rattle.node_kept.specs.Steps.{entries_after}

pub put_last : (entries : List (ℕ × Filed)) (front : List Put) (last : Put) →
    entries_after entries (front ++ last ∷ []) ≡ entries_after (with_value entries last.id (box_value last.message)) front
put_last entries [] last = refl
put_last entries (first ∷ others) last =
    ap (λ (es : List (ℕ × Filed)). with_value es first.id (box_value first.message)) (put_last entries others last)

longer : (front : List Put) (last : Put) → length (front ++ last ∷ []) ≡ length front + 1
longer [] last = refl
longer (first ∷ others) last = let rest = longer others last in omega arith

-- while the last of them are put first: what is to be kept in the end, room for those that are left, and of the room that there was what the others took
pub record IsPutting (to : List (ℕ × Filed)) (had : Listed) (number : ℕ) (kept : Listed) (left : List Put) : Type 0 where
  pub entries : entries_after kept.entries left ≡ to
  pub room : length left ≤ kept.room
  pub listings : length left ≤ kept.listings
  pub taken : had.room + length left ≤ kept.room + number
  pub lists_taken : had.listings + length left ≤ kept.listings + number

pub room_left : (to : List (ℕ × Filed)) (first : Listed) (number : ℕ) (kept : Listed) (left front : List Put) (last : Put) → left ≡ front ++ last ∷ [] →
    IsPutting to first number kept left → (0 < kept.room) × (0 < kept.listings)
room_left to first number kept left front last split is =
    let more : length left ≡ length front + 1 = ap length split ∙ longer front last in
    let room = is.room in
    let listings = is.listings in
    (omega (arith, more, room), omega (arith, more, listings))

pub putting_goes_on : (to : List (ℕ × Filed)) (first : Listed) (number : ℕ) (old new : Listed) (left front : List Put) (last : Put) → left ≡ front ++ last ∷ [] →
    new.entries ≡ with_value old.entries last.id (box_value last.message) → old.room ≤ new.room + 1 → old.listings ≤ new.listings + 1 →
    IsPutting to first number old left → IsPutting to first number new front
putting_goes_on to first number old new left front last split entries room listings is =
    let more : length left ≡ length front + 1 = ap length split ∙ longer front last in
    let had = is.room in
    let had_listings = is.listings in
    let taken = is.taken in
    let lists_taken = is.lists_taken in
    record {
      entries =
          ap (λ (es : List (ℕ × Filed)). entries_after es front) entries
          ∙ sym (put_last old.entries front last)
          ∙ sym (ap (λ (ps : List Put). entries_after old.entries ps) split)
          ∙ is.entries;
      room = omega (arith, more, had, room);
      listings = omega (arith, more, had_listings, listings);
      taken = omega (arith, more, taken, room);
      lists_taken = omega (arith, more, lists_taken, listings);
    }
