-- Numbers that no packet of a journal has.
use Rattle.std.proofs.Common.{◌≡◌, ℕ, zero, suc, ◌+◌, ◌<◌, ◌≤◌, Bool, List, [], ◌∷◌, ◌++◌, length, get_or, true, false, Option, Some, None, IfNone}
use Rattle.std.proofs.Common.{refl, sym, ap, subst, inl, inr, arith, length-append}
use Rattle.std.specs.Prelude.{nat_lt}
use Rattle.std.specs.List.Sorted.{IsNonDecreasingBy, IsPartitionPoint, IsPartitionedBy}
use Rattle.std.proofs.lemmas.Bool.{cases_lt}
use Rattle.std.proofs.lemmas.Bool.Decides.{nat_tests}
use Rattle.std.proofs.lemmas.List.Sorted.{IsPartitionedBy-ltb}
use Rattle.mc_model.specs.synod.Lists.{In}
use Rattle.mc_model.specs.synod.Packet.{Packet}
use Rattle.journal_laws.specs.Journals.{Entry, packets_sent}
use Rattle.journal_parts.specs.declared.noted.Noted.{Noted}
use Rattle.journal_parts.specs.Entries.{IsSound, entry_of}
use Rattle.journal_parts.specs.Numbers.{Numbers}
use Rattle.journal_parts.specs.Registers.{AreNumbered, IsUnsent, count_in, entries_of}
use Rattle.journal_parts.proofs.Numbers.{sent_first}

abbrev pub AreSound : List Noted → Type 0
AreSound noted = (entry : Entry) → In entry (entries_of noted) → IsSound entry

-- how many packets have numbers behind these entries
pub sent_count : (before : ℕ) (noted : List Noted) (sent : ℕ) → AreNumbered before noted sent → AreSound noted →
    sent ≡ before + length (packets_sent (entries_of noted))
sent_count before [] sent are sound = omega (arith, are)
sent_count before (first ∷ later) sent are sound =
    let own : List Packet = (entry_of first.entry).done.sent in
    let rest = sent_count (before + count_in first) later sent are.1 (λ entry among. sound entry (inr among)) in
    let parts : length (packets_sent (entries_of (first ∷ later))) ≡ length (own ++ packets_sent (entries_of later)) =
    ap (λ (ps : List Packet). length ps) (sent_first (entry_of first.entry) (entries_of later) (sound (entry_of first.entry) (inl refl))) in
    let both = length-append own (packets_sent (entries_of later)) in
    omega (arith, rest, parts, both)

-- an entry begins with no lower number than this one
least : (before : ℕ) (noted : List Noted) (sent : ℕ) → AreNumbered before noted sent → (place : ℕ) (other : Noted) → place < length noted →
    before ≤ (get_or noted place other).before
least before [] sent are place other within = absurd (omega (arith, within))
least before (first ∷ later) sent are zero other within = omega (arith, are.0)
least before (first ∷ later) sent are (suc place) other within =
    let rest = least (before + count_in first) later sent are.1 place other (omega (arith, within)) in omega (arith, rest)

-- so the numbers with which entries begin do not fall
pub rising : (before : ℕ) (noted : List Noted) (sent : ℕ) → AreNumbered before noted sent → (i j : ℕ) (other : Noted) → i ≤ j → j < length noted →
    (get_or noted i other).before ≤ (get_or noted j other).before
rising before [] sent are i j other up within = absurd (omega (arith, within))
rising before (first ∷ later) sent are zero zero other up within = omega arith
rising before (first ∷ later) sent are zero (suc j) other up within =
    let rest = least (before + count_in first) later sent are.1 j other (omega (arith, within)) in omega (arith, rest, are.0)
rising before (first ∷ later) sent are (suc i) zero other up within = absurd (omega (arith, up))
rising before (first ∷ later) sent are (suc i) (suc j) other up within =
    rising (before + count_in first) later sent are.1 i j other (omega (arith, up)) (omega (arith, within))

-- the entry behind one begins with the number at which that ends
next : (before : ℕ) (noted : List Noted) (sent : ℕ) → AreNumbered before noted sent → (place after : ℕ) (other : Noted) → after ≡ place + 1 →
    after < length noted → (get_or noted after other).before ≡ (get_or noted place other).before + count_in (get_or noted place other)
next before [] sent are place after other is within = absurd (omega (arith, within))
next before (first ∷ []) sent are place after other is within = absurd (omega (arith, is, within))
next before (first ∷ (second ∷ later)) sent are place zero other is within = absurd (omega (arith, is))
next before (first ∷ (second ∷ later)) sent are zero (suc zero) other is within = omega (arith, are.0, are.1.0)
next before (first ∷ (second ∷ later)) sent are zero (suc (suc after)) other is within = absurd (omega (arith, is))
next before (first ∷ (second ∷ later)) sent are (suc place) (suc after) other is within =
    next (before + count_in first) (second ∷ later) sent are.1 place after other (omega (arith, is)) (omega (arith, within))

-- and so many have numbers behind the last one
last : (before : ℕ) (noted : List Noted) (sent : ℕ) → AreNumbered before noted sent → (place : ℕ) (other : Noted) → place + 1 ≡ length noted →
    sent ≡ (get_or noted place other).before + count_in (get_or noted place other)
last before [] sent are place other is = absurd (omega (arith, is))
last before (first ∷ []) sent are zero other is = omega (arith, are.0, are.1)
last before (first ∷ []) sent are (suc place) other is = absurd (omega (arith, is))
last before (first ∷ (second ∷ later)) sent are zero other is = absurd (omega (arith, is))
last before (first ∷ (second ∷ later)) sent are (suc place) other is =
    last (before + count_in first) (second ∷ later) sent are.1 place other (omega (arith, is))

-- ---- what a binary search among them finds

abbrev pub is_below : ℕ → Noted → Bool
is_below number noted = nat_lt noted.before number

-- those that begin below the number stand first
pub parted : (before : ℕ) (noted all : List Noted) (sent number : ℕ) → AreNumbered before noted sent → all ≡ noted → IsPartitionedBy (is_below number) all
parted before noted all sent number are same =
    IsPartitionedBy-ltb (λ (n : Noted). n.before) all number
    (subst (λ (ns : List Noted). IsNonDecreasingBy (λ (n : Noted). n.before) ns) (sym same) (rising before noted sent are))

abbrev pub IsPoint : List Noted → ℕ → ℕ → Type 0
IsPoint all number behind = IsPartitionPoint (λ y. is_below number y ≡ true) (λ y. is_below number y ≡ false) all behind

pub at_none : {X : Type 0} (found : Option X) (P : Type 0) → P → IfNone found P
at_none None P is = is
at_none (Some x) P is = record {}

-- From here on no entry begins below the number.
abbrev pub AreBehind : List Noted → ℕ → ℕ → Type 0
AreBehind noted behind number =
    (place : ℕ) (other : Noted) → behind ≤ place → place < length noted → nat_lt (get_or noted place other).before number ≡ false

-- the number is not above those of before the first entry
pub unsent_first : (noted : List Noted) (numbers : Numbers) (sent number : ℕ) → AreNumbered numbers.count noted sent →
    AreBehind noted 0 number → IsUnsent numbers (entries_of noted) number
unsent_first [] numbers sent number are behind = λ above. omega (arith, above)
unsent_first (first ∷ later) numbers sent number are behind = λ above.
    let at : nat_lt first.before number ≡ false = behind 0 first (omega arith) (omega arith) in
    absurd (grind (arith, nat_tests, at, above, are.0))

-- the last entry that begins below it did not send it
pub unsent_behind : (noted : List Noted) (numbers : Numbers) (sent place number : ℕ) (one : Noted) → AreNumbered numbers.count noted sent →
    AreSound noted → place < length noted → one ≡ get_or noted place one → one.before + count_in one < number → AreBehind noted (place + 1) number →
    IsUnsent numbers (entries_of noted) number
unsent_behind noted numbers sent place number one are sound within is above behind = λ _. elim (cases_lt (place + 1) (length noted)) [
  | inl more ↦
      let begins = next numbers.count noted sent are place (place + 1) one refl more in
      let before = ap (λ (n : Noted). n.before + count_in n) is in
      let at : nat_lt (get_or noted (place + 1) one).before number ≡ false = behind (place + 1) one (omega arith) more in
      absurd (grind (arith, nat_tests, at, above, before, begins))
  | inr same ↦
      let ends = last numbers.count noted sent are place one (omega (arith, same, within)) in
      let count = sent_count numbers.count noted sent are sound in
      let before = ap (λ (n : Noted). n.before + count_in n) is in
      omega (arith, ends, count, before, above)
]

-- So it is said of what was found.
pub unsent_here : {X : Type 0} (noted all : List Noted) (numbers : Numbers) (sent place behind number : ℕ) (one : Noted) (found : Option X) →
    AreNumbered numbers.count noted sent → AreSound noted → all ≡ noted → IsPoint all number behind → behind ≡ place + 1 → place < length noted →
    one ≡ get_or noted place one → IfNone found (one.before < number → one.before + count_in one < number) →
    IfNone found (IsUnsent numbers (entries_of noted) number)
unsent_here noted all numbers sent place behind number one (Some x) are sound same point at within is here = record {}
unsent_here noted all numbers sent place behind number one None are sound same point at within is here =
    let here_too : IsPoint noted number (place + 1) =
    subst (λ (b : ℕ). IsPoint noted number b) at (subst (λ (ns : List Noted). IsPoint ns number behind) same point) in
    let below : nat_lt (get_or noted place one).before number ≡ true = here_too.0 place one (omega arith) (omega arith) in
    let before = ap (λ (n : Noted). n.before) is in
    unsent_behind noted numbers sent place number one are sound within is (here (grind (arith, nat_tests, below, before))) here_too.1
