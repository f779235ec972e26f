-- The numbers of what is carried rise.
use Rattle.std.proofs.Common.{◌≡◌, ℕ, zero, suc, ◌+◌, ◌<◌, ◌≤◌, Bool, true, false, List, [], ◌∷◌, ◌++◌, length, get_or, arith}
use Rattle.std.specs.Prelude.{if◌then◌else◌}
use Rattle.std.proofs.lemmas.List.{length-map}
use Rattle.std.specs.Arc.{arc_value}
use Rattle.synod_acceptor.specs.Packets.{packet_of}
use Rattle.synod_acceptor.specs.declared.packet.Packet.{Packet as Sent}
use Rattle.journal_parts.specs.declared.carried.Carried.{Carried}
use Rattle.journal_parts.specs.declared.noted.Noted.{Noted}
use Rattle.journal_parts.specs.Numbers.{RiseWithin, all_from, all_sent_by, is_from, numbered_from, sent_by}
use Rattle.journal_parts.specs.Registers.{AreInOrder, AreNumbered, count_in}

-- ---- from lower numbers on

pub rise_from : (lower above most : ℕ) (all : List Carried) → lower ≤ above → RiseWithin above most all → RiseWithin lower most all
rise_from lower above most [] low rise = omega (arith, low, rise)
rise_from lower above most (one ∷ later) low rise =
    let here = rise.0 in (omega (arith, low, here), rise.1)

-- and on again
pub rise_both : (above middle most : ℕ) (first second : List Carried) → RiseWithin above middle first → RiseWithin middle most second →
    RiseWithin above most (first ++ second)
rise_both above middle most [] second rise rest = rise_from above middle most second rise rest
rise_both above middle most (one ∷ later) second rise rest = (rise.0, rise_both one.number middle most later second rise.1 rest)

-- ---- what the entries sent

numbered_rise : (before most : ℕ) (sent : List Sent) → most ≡ before + length sent → RiseWithin before most (numbered_from before sent)
numbered_rise before most [] is = omega (arith, is)
numbered_rise before most (packet ∷ later) is = (omega arith, numbered_rise (before + 1) most later (omega (arith, is)))

sent_rise : (before sent : ℕ) (noted : List Noted) → AreNumbered before noted sent → RiseWithin before sent (all_sent_by noted)
sent_rise before sent [] are = omega (arith, are)
sent_rise before sent (first ∷ later) are =
    let begins = are.0 in
    let count = length-map (arc_value first.entry.done).outputs.packets.items packet_of in
    rise_both before (before + count_in first) sent (sent_by first) (all_sent_by later)
    (rise_from before first.before (before + count_in first) (sent_by first) (omega (arith, begins))
    (numbered_rise first.before (before + count_in first) (arc_value first.entry.done).outputs.packets.items (omega (arith, begins, count))))
    (sent_rise (before + count_in first) sent later are.1)

-- ---- what is left of them from a number on

kept_by : (b : Bool) (above most : ℕ) (first : Carried) (kept : List Carried) → above < first.number → RiseWithin first.number most kept →
    RiseWithin above most (if b then first ∷ kept else kept)
kept_by true above most first kept over rise = (over, rise)
kept_by false above most first kept over rise = rise_from above first.number most kept (omega (arith, over)) rise

kept_rise : (from above most : ℕ) (all : List Carried) → RiseWithin above most all → RiseWithin above most (all_from from all)
kept_rise from above most [] rise = rise
kept_rise from above most (first ∷ later) rise =
    kept_by (is_from from first) above most first (all_from from later) rise.0 (kept_rise from first.number most later rise.1)

-- So do those that are carried on.
pub carried_rise : (from : ℕ) (noted : List Noted) (carried : List Carried) (sent : ℕ) → AreInOrder noted carried sent →
    RiseWithin 0 sent (all_from from (carried ++ all_sent_by noted))
carried_rise from noted carried sent order =
    kept_rise from 0 sent (carried ++ all_sent_by noted)
    (rise_both 0 order.before sent carried (all_sent_by noted) order.rise (sent_rise order.before sent noted order.numbered))

-- ---- by places

-- each is above the first of the two
least : (above most : ℕ) (all : List Carried) → RiseWithin above most all → (place : ℕ) (other : Carried) → place < length all →
    above < (get_or all place other).number
least above most [] rise place other within = absurd (omega (arith, within))
least above most (first ∷ later) rise zero other within = rise.0
least above most (first ∷ later) rise (suc place) other within =
    let here = rise.0 in
    let rest = least first.number most later rise.1 place other (omega (arith, within)) in
    omega (arith, here, rest)

pub rising : (above most : ℕ) (all : List Carried) → RiseWithin above most all → (i j : ℕ) (other : Carried) → i ≤ j → j < length all →
    (get_or all i other).number ≤ (get_or all j other).number
rising above most [] rise i j other up within = absurd (omega (arith, within))
rising above most (first ∷ later) rise zero zero other up within = omega arith
rising above most (first ∷ later) rise zero (suc j) other up within =
    let rest = least first.number most later rise.1 j other (omega (arith, within)) in omega (arith, rest)
rising above most (first ∷ later) rise (suc i) zero other up within = absurd (omega (arith, up))
rising above most (first ∷ later) rise (suc i) (suc j) other up within =
    rising first.number most later rise.1 i j other (omega (arith, up)) (omega (arith, within))
