-- Which packet has a number.
use Rattle.std.proofs.Common.{◌≡◌, ℕ, zero, suc, ◌+◌, ◌-◌, ◌<◌, ◌≤◌, Bool, true, false, cond, List, [], ◌∷◌, ◌++◌, length, get_or, find}
use Rattle.std.proofs.Common.{Bor, Option, Some, None, IfSome, IfNone, IsNone, IsSome, option_map, refl, sym, ap, subst, ◌∙◌, inl, inr, arith}
use Rattle.std.proofs.Common.{eq-eqb, lt-ltb, ltb-false, ltb-true, ne_eqb}
use Rattle.std.specs.Prelude.{◌==◌, ◌↔◌, if◌then◌else◌, nat_lt, slice_get}
use Rattle.std.specs.List.Sorted.{IsNonDecreasingBy, IsPartitionPoint, IsPartitionedBy}
use Rattle.std.specs.Arc.{arc_value}
use Rattle.std.specs.Option.{option_copied, option_or}
use Rattle.std.proofs.lemmas.Bool.{cases_eq, cases_lt}
use Rattle.std.proofs.lemmas.List.{get_or_default}
use Rattle.std.proofs.lemmas.List.Sorted.{IsPartitionedBy-ltb}
use Rattle.std.proofs.lemmas.Option.{none-some, same_Some, slice_get-map, slice_get_past, slice_get_read}
use Rattle.mc_model.specs.synod.Lists.{In}
use Rattle.mc_model.specs.synod.Packet.{Packet}
use Rattle.synod_acceptor.specs.Packets.{packet_of}
use Rattle.synod_acceptor.specs.declared.packet.Packet.{Packet as Sent}
use Rattle.node_entry.specs.declared.step.Step.{Step}
use Rattle.journal_laws.specs.Journals.{Entry, packets_sent}
use Rattle.journal_parts.specs.declared.carried.Carried.{Carried}
use Rattle.journal_parts.specs.declared.noted.Noted.{Noted}
use Rattle.journal_parts.specs.Entries.{entry_of, number_by, number_in}
use Rattle.journal_parts.specs.Numbers.{Numbers, RiseWithin}
use Rattle.journal_parts.specs.Registers.{AreNumbered, AsksInVain, ComesAsNumbered, IsAbsent, IsNotCarried, IsNumberedIn, IsUnsent, Registered}
use Rattle.journal_parts.specs.Registers.{carried_under, count_in, entries_of, packet_under, sent_under}
use Rattle.journal_parts.proofs.Carrying.{rising}
use Rattle.journal_parts.proofs.Numbers.{sent_first}
use Rattle.journal_parts.proofs.Packets.{same_packet}
use Rattle.journal_parts.proofs.Unsent.{AreSound}

-- ---- what is carried

first_has : (first : Carried) (later : List Carried) (number : ℕ) → first.number ≡ number →
    carried_under (first ∷ later) number ≡ Some (packet_of first.packet)
first_has first later number is =
    let at : (first.number == number) ≡ true = eq-eqb first.number number is in
    ap (λ (b : Bool). option_map (λ (one : Carried). packet_of one.packet)
    (cond b (Some first) (find (λ (one : Carried). one.number == number) later))) at

later_has : (first : Carried) (later : List Carried) (number : ℕ) → (first.number ≡ number → ⊥) →
    carried_under (first ∷ later) number ≡ carried_under later number
later_has first later number other =
    let at : (first.number == number) ≡ false = ne_eqb first.number number other in
    ap (λ (b : Bool). option_map (λ (one : Carried). packet_of one.packet)
    (cond b (Some first) (find (λ (one : Carried). one.number == number) later))) at

-- what stands at a place, if those before it have lower numbers
found_under : (all : List Carried) (place number : ℕ) (one : Carried) →
    ((i : ℕ) (other : Carried) → i < place → nat_lt (get_or all i other).number number ≡ true) → slice_get all place ≡ Some one → one.number ≡ number →
    carried_under all number ≡ Some (packet_of one.packet)
found_under [] place number one below is same = absurd cc
found_under (first ∷ later) zero number one below is same =
    let here : first ≡ one = cc in
    first_has first later number (ap (λ (c : Carried). c.number) here ∙ same) ∙ ap (λ (c : Carried). Some (packet_of c.packet)) here
found_under (first ∷ later) (suc place) number one below is same =
    let under = ltb-true first.number number (below 0 first (omega arith)) in
    later_has first later number (λ equal. omega (arith, under, equal))
    ∙ found_under later place number one (λ i other before. below (suc i) other (omega (arith, before))) is same

-- nothing, if none has the number
none_under : (all : List Carried) (number : ℕ) → ((i : ℕ) (other : Carried) → i < length all → (get_or all i other).number ≡ number → ⊥) →
    carried_under all number ≡ None
none_under [] number none = refl
none_under (first ∷ later) number none =
    later_has first later number (none 0 first (omega arith))
    ∙ none_under later number (λ i other within. none (suc i) other (omega (arith, within)))

not_carried : (carried : List Carried) (number : ℕ) (one : Carried) → carried_under carried number ≡ None → In one carried → one.number ≡ number → ⊥
not_carried [] number one none among same = absurd among
not_carried (first ∷ later) number one none (inl here) same =
    none-some (packet_of first.packet) (sym none ∙ first_has first later number (ap (λ (c : Carried). c.number) (sym here) ∙ same))
not_carried (first ∷ later) number one none (inr among) same = elim (cases_eq first.number number) [
  | inl is ↦ none-some (packet_of first.packet) (sym none ∙ first_has first later number is)
  | inr other ↦ not_carried later number one (sym (later_has first later number other) ∙ none) among same
]

-- ---- what a binary search among them finds

abbrev pub is_lower : ℕ → Carried → Bool
is_lower number carried = nat_lt carried.number number

-- those with lower numbers stand first
pub parted_by_number : (above most : ℕ) (carried all : List Carried) (number : ℕ) → RiseWithin above most carried → all ≡ carried →
    IsPartitionedBy (is_lower number) all
parted_by_number above most carried all number rise same =
    IsPartitionedBy-ltb (λ (c : Carried). c.number) all number
    (subst (λ (cs : List Carried). IsNonDecreasingBy (λ (c : Carried). c.number) cs) (sym same) (rising above most carried rise))

abbrev pub IsPlace : List Carried → ℕ → ℕ → Type 0
IsPlace all number place = IsPartitionPoint (λ y. is_lower number y ≡ true) (λ y. is_lower number y ≡ false) all place

pub found_here : (all : List Carried) (place number : ℕ) (one : Carried) → IsPlace all number place → place < length all → one ≡ get_or all place one →
    one.number ≡ number → carried_under all number ≡ Some (packet_of one.packet)
found_here all place number one point within is same =
    found_under all place number one (λ i other before. point.0 i other (omega arith) before)
    (slice_get_read all (length all) place one refl within is) same

-- all have lower numbers
pub none_behind : (all : List Carried) (place number : ℕ) → IsPlace all number place → length all ≤ place → carried_under all number ≡ None
none_behind all place number point past = none_under all number (λ i other within same.
    let under = ltb-true (get_or all i other).number number (point.0 i other (omega arith) (omega (arith, past, within))) in
    omega (arith, under, same))

-- what stands there has another number
pub none_here : (all : List Carried) (above most place number : ℕ) (one : Carried) → RiseWithin above most all → IsPlace all number place →
    place < length all → one ≡ get_or all place one → (one.number ≡ number → ⊥) → carried_under all number ≡ None
none_here all above most place number one rise point within is differs = none_under all number differ
  where
    over : number < one.number
    over =
        let least = ltb-false (get_or all place one).number number (point.1 place one (omega arith) within) in
        let there : one.number ≡ (get_or all place one).number = ap (λ (c : Carried). c.number) is in
        elim (cases_lt number one.number) [ inl more ↦ more | inr most ↦ absurd (differs (omega (arith, least, there, most))) ]

    differ : (i : ℕ) (other : Carried) → i < length all → (get_or all i other).number ≡ number → ⊥
    differ i other below same = elim (cases_lt i place) [
      | inl before ↦
          let under = ltb-true (get_or all i other).number number (point.0 i other (omega arith) before) in omega (arith, under, same)
      | inr behind ↦
          let up = rising above most all rise place i other behind below in
          let here : one.number ≡ (get_or all place other).number =
          ap (λ (c : Carried). c.number) (is ∙ get_or_default all place one other within) in
          let higher = over in
          omega (arith, up, here, higher, same)
    ]

-- ---- what entries sent

get_left : {A : Type 0} (xs ys : List A) (place : ℕ) (x : A) → slice_get xs place ≡ Some x → slice_get (xs ++ ys) place ≡ Some x
get_left [] ys place x is = absurd cc
get_left (y ∷ xs) ys zero x is = is
get_left (y ∷ xs) ys (suc place) x is = get_left xs ys place x is

get_right : {A : Type 0} (xs ys : List A) (place at : ℕ) → at ≡ length xs + place → slice_get (xs ++ ys) at ≡ slice_get ys place
get_right [] ys place at is = ap (slice_get ys) (omega (arith, is))
get_right (x ∷ xs) ys place zero is = absurd (omega (arith, is))
get_right (x ∷ xs) ys place (suc at) is = get_right xs ys place at (omega (arith, is))

-- a packet has this number among these, behind so many others
record IsSentAt (before : ℕ) (packets : List Packet) (number : ℕ) (packet : Packet) : Type 0 where
  pub place : ℕ
  pub number_is : number ≡ before + (place + 1)
  pub is : slice_get packets place ≡ Some packet

abbrev sent_of : Noted → List Packet
sent_of noted = (entry_of noted.entry).done.sent

sent_at : (before : ℕ) (noted : List Noted) (sent place number : ℕ) (one : Noted) (packet : Sent) → AreNumbered before noted sent → AreSound noted →
    slice_get noted place ≡ Some one → IsNumberedIn one number packet → IsSentAt before (packets_sent (entries_of noted)) number (packet_of packet)
sent_at before [] sent place number one packet are sound is here = absurd cc
sent_at before (first ∷ later) sent zero number one packet are sound is here =
    let same : first ≡ one = cc in
    let counted = here.number_is in
    let begins : one.before ≡ before = subst (λ (n : Noted). n.before ≡ before) same are.0 in
    let among : slice_get (sent_of one) here.place ≡ Some (packet_of packet) =
    slice_get-map packet_of (arc_value one.entry.done).outputs.packets.items here.place ∙ ap (option_map packet_of) here.is in
    record {
      place = here.place;
      number_is = omega (arith, counted, begins);
      is =
          ap (λ (ps : List Packet). slice_get ps here.place)
          (sent_first (entry_of first.entry) (entries_of later) (sound (entry_of first.entry) (inl refl)))
          ∙ get_left (sent_of first) (packets_sent (entries_of later)) here.place (packet_of packet)
          (subst (λ (n : Noted). slice_get (sent_of n) here.place ≡ Some (packet_of packet)) (sym same) among);
    }
sent_at before (first ∷ later) sent (suc place) number one packet are sound is here =
    let rest = sent_at (before + count_in first) later sent place number one packet are.1 (λ entry among. sound entry (inr among)) is here in
    let counted = rest.number_is in
    record {
      place = count_in first + rest.place;
      number_is = omega (arith, counted);
      is =
          ap (λ (ps : List Packet). slice_get ps (count_in first + rest.place))
          (sent_first (entry_of first.entry) (entries_of later) (sound (entry_of first.entry) (inl refl)))
          ∙ get_right (sent_of first) (packets_sent (entries_of later)) rest.place (count_in first + rest.place) refl
          ∙ rest.is;
    }

sent_has : (count number : ℕ) (entries : List Entry) (packet : Packet) → IsSentAt count (packets_sent entries) number packet →
    sent_under count entries number ≡ Some packet
sent_has count number entries packet at =
    let counted = at.number_is in
    let above : nat_lt count number ≡ true = lt-ltb count number (omega (arith, counted)) in
    let place : number - (count + 1) ≡ at.place = omega (arith, counted) in
    ap (λ (b : Bool). if b then slice_get (packets_sent entries) (number - (count + 1)) else None) above
    ∙ ap (slice_get (packets_sent entries)) place
    ∙ at.is

pub none_sent_under : (numbers : Numbers) (number : ℕ) (entries : List Entry) → IsUnsent numbers entries number →
    sent_under numbers.count entries number ≡ None
none_sent_under numbers number entries unsent = by_test (nat_lt numbers.count number) refl
  where
    by_test : (b : Bool) → nat_lt numbers.count number ≡ b →
        (if b then slice_get (packets_sent entries) (number - (numbers.count + 1)) else None) ≡ None
    by_test true above =
        let past = unsent (ltb-true numbers.count number above) in
        slice_get_past (packets_sent entries) (number - (numbers.count + 1)) (omega (arith, past))
    by_test false below = refl

-- So it is said of what was found.
pub has_here : (noted : List Noted) (numbers : Numbers) (sent place number : ℕ) (one : Noted) (found : Option (Bor Sent)) →
    AreNumbered numbers.count noted sent → AreSound noted → slice_get noted place ≡ Some one →
    IfSome (option_copied found) (IsNumberedIn one number) → IfNone found (IsUnsent numbers (entries_of noted) number) →
    option_map packet_of (option_copied found) ≡ sent_under numbers.count (entries_of noted) number
has_here noted numbers sent place number one None are sound at here none = sym (none_sent_under numbers number (entries_of noted) none)
has_here noted numbers sent place number one (Some packet) are sound at here none =
    sym (sent_has numbers.count number (entries_of noted) (packet_of packet.now)
    (sent_at numbers.count noted sent place number one packet.now are sound at here))

-- ---- both

uncarried : (carried : List Carried) (number : ℕ) → IsNotCarried carried number → carried_under carried number ≡ None
uncarried [] number none = refl
uncarried (first ∷ later) number none =
    later_has first later number (none first (inl refl)) ∙ uncarried later number (λ one among. none one (inr among))

nothing_under : (numbers : Numbers) (register : Registered) (number : ℕ) → IsAbsent numbers register number → packet_under numbers register number ≡ None
nothing_under numbers register number absent =
    ap (λ (o : Option Packet). option_or o (sent_under numbers.count register.entries number)) (uncarried register.carried number absent.0)
    ∙ none_sent_under numbers number register.entries absent.1

-- None is found exactly if no packet has the number.
pub none_found : (numbers : Numbers) (register : Registered) (number : ℕ) (found : Option (Bor Sent)) →
    option_map packet_of (option_copied found) ≡ packet_under numbers register number → IfNone found (IsAbsent numbers register number) →
    (IsNone found ↔ IsAbsent numbers register number)
none_found numbers register number None has absent = ((λ none. absent), (λ gone. refl))
none_found numbers register number (Some packet) has absent = (
  (λ none. absurd cc),
  (λ gone. absurd (none-some (packet_of packet.now) (sym (nothing_under numbers register number gone) ∙ sym has))),
)

pub absent_if : {X : Type 0} (numbers : Numbers) (register : Registered) (number : ℕ) (found : Option X) → carried_under register.carried number ≡ None →
    IfNone found (IsUnsent numbers register.entries number) → IfNone found (IsAbsent numbers register number)
absent_if numbers register number None none unsent = ((λ one among same. not_carried register.carried number one none among same), unsent)
absent_if numbers register number (Some x) none unsent = record {}

-- A step that asks for a packet which was found does not ask in vain.
pub not_in_vain : {X : Type 0} (numbers : Numbers) (register : Registered) (step : Step) (number : ℕ) (found : Option X) → number_by step ≡ Some number →
    IsSome found → (IsNone found ↔ IsAbsent numbers register number) → AsksInVain numbers register step → ⊥
not_in_vain numbers register step number None by some none asks = absurd cc
not_in_vain numbers register step number (Some x) by some none asks =
    let same : asks.0 ≡ number = same_Some asks.0 number (sym asks.1 ∙ by) in
    let nothing = none.1 (subst (λ (n : ℕ). IsAbsent numbers register n) same asks.2) in
    absurd cc

-- ---- the packet that comes by an entry

module _ (numbers : Numbers) (register : Registered) (entry : Entry) (number : ℕ) (other : Sent) (named : number_in entry ≡ Some number)
    (comes : entry.done.packet ≡ Some (packet_of other)) where
  -- it is the one that has its number
  pub comes_as : (one : Sent) → Some (packet_of one) ≡ packet_under numbers register number → one ≡ other → ComesAsNumbered numbers register entry
  comes_as one has same = λ at packet is came.
      let numbers_same : number ≡ at = same_Some number at (sym named ∙ is) in
      ap (packet_under numbers register) (sym numbers_same)
      ∙ sym has
      ∙ ap (λ (s : Sent). Some (packet_of s)) same
      ∙ sym comes
      ∙ came

  -- and else it is not
  pub comes_only : (one : Sent) → Some (packet_of one) ≡ packet_under numbers register number → ComesAsNumbered numbers register entry → one ≡ other
  comes_only one has as_numbered =
      same_packet one other (same_Some (packet_of one) (packet_of other) (has ∙ as_numbered number (packet_of other) named comes))

  pub comes_not : None ≡ packet_under numbers register number → ComesAsNumbered numbers register entry → ⊥
  comes_not none as_numbered = none-some (packet_of other) (none ∙ as_numbered number (packet_of other) named comes)
