use Rattle.std.proofs.Common.{◌≡◌, ℕ, ◌+◌, ◌<◌, Bor, List, length, get_or, Option, IfNone, IfSome, option_map, refl, sym, ap, subst, ◌∙◌}
use Rattle.std.proofs.Common.{arith, rules, of_calls}
use Rattle.std.proofs.lemmas.Bool.Decides.{nat_tests}
use Rattle.std.proofs.lemmas.List.Sorted.{IsPartitionPoint-from_clause}
use Rattle.std.proofs.lemmas.Option.{slice_get_read}
use Rattle.std.specs.Prelude.{nat_lt}
use Rattle.std.specs.Option.{option_copied}
use Rattle.synod_acceptor.specs.Packets.{packet_of}
use Rattle.synod_acceptor.specs.declared.packet.Packet.{Packet as Sent}
use Rattle.journal_parts.specs.declared.noted.Noted.{Noted}
use Rattle.journal_parts.specs.Registers.{HasPacket, IsUnsent, Registered, sent_under}
use Rattle.journal_parts.proofs.Finding.{has_here, none_sent_under}
use Rattle.journal_parts.proofs.Numbers.{sent_here}
use Rattle.journal_parts.proofs.Unsent.{AreBehind, IsPoint, at_none, is_below, parted, unsent_first, unsent_here}
use Rattle.journal_parts.proofs.register.Register.sent_packet.Goals as goal

pub returns-clause-some : goal.returns-clause-some
returns-clause-some g c =
    let found = c.in_ok-noted.ensures.lookup in
    subst (λ (v : Registered). IfSome (option_copied c.packet.result) (λ packet. HasPacket g.L.Begins.numbers v.entries c.args.number (packet_of packet)))
    c.self.view_is
    (sent_here c.self.inside.noted.items g.L.Begins.numbers c.self.inside.sent c.in_ok-checked_sub.field-0 c.args.number c.in_ok-noted.noted.now
    c.packet.result c.self.invariant.0.numbered c.self.invariant.0.sound
    (found.0 ∙ ap (λ (all : List Noted). nat_lt c.in_ok-checked_sub.field-0 (length all)) c.deref.ensures.value)
    (subst (λ (all : List Noted). c.in_ok-noted.noted.now ≡ get_or all c.in_ok-checked_sub.field-0 c.in_ok-noted.noted.now) c.deref.ensures.value found.1)
    c.packet.ensures.some)

pub returns-in_err-checked_sub-clause-none : goal.returns-in_err-checked_sub-clause-none
returns-in_err-checked_sub-clause-none g c =
    let number = c.args.number in
    let noted = c.self.inside.noted.items in
    let all = c.as_slice.result.now in
    let point : IsPoint all number c.partition_point-behind.result =
    IsPartitionPoint-from_clause (is_below number) all c.partition_point-behind.result c.partition_point-behind.ensures.partitioned
    (parted g.L.Begins.numbers.count noted all c.self.inside.sent number c.self.invariant.0.numbered c.as_slice.ensures.value)
    (λ a r q k. search (rules, of_calls)) in
    let first : c.partition_point-behind.result ≡ 0 = omega (arith, c.in_err-checked_sub.ensures) in
    at_none c.from_residual.result (IsUnsent g.L.Begins.numbers c.args.self.now.entries number)
    (subst (λ (v : Registered). IsUnsent g.L.Begins.numbers v.entries number) c.self.view_is
    (unsent_first noted g.L.Begins.numbers c.self.inside.sent number c.self.invariant.0.numbered
    (subst (λ (ns : List Noted). AreBehind ns 0 number) c.as_slice.ensures.value
    (subst (λ (b : ℕ). AreBehind all b number) first point.1))))

pub returns-in_err-noted-clause-none : goal.returns-in_err-noted-clause-none
returns-in_err-noted-clause-none g c =
    let least = c.in_ok-checked_sub.ensures in
    let past = c.in_err-noted.ensures.lookup.0 in
    let bound = c.partition_point-behind.ensures.bound in
    let first = ap (λ (ns : List Noted). length ns) c.as_slice.ensures.value in
    let second = ap (λ (ns : List Noted). length ns) c.deref.ensures.value in
    absurd (grind (arith, nat_tests, least, past, bound, first, second))

pub returns-clause-none : goal.returns-clause-none
returns-clause-none g c =
    let number = c.args.number in
    let noted = c.self.inside.noted.items in
    let all = c.as_slice.result.now in
    let place = c.in_ok-checked_sub.field-0 in
    let found = c.in_ok-noted.ensures.lookup in
    let point : IsPoint all number c.partition_point-behind.result =
    IsPartitionPoint-from_clause (is_below number) all c.partition_point-behind.result c.partition_point-behind.ensures.partitioned
    (parted g.L.Begins.numbers.count noted all c.self.inside.sent number c.self.invariant.0.numbered c.as_slice.ensures.value)
    (λ a r q k. search (rules, of_calls)) in
    let within : place < length noted =
    let same = ap (λ (ns : List Noted). length ns) c.deref.ensures.value in
    let read = found.0 in
    grind (arith, nat_tests, same, read) in
    let at : c.partition_point-behind.result ≡ place + 1 = omega (arith, c.in_ok-checked_sub.ensures) in
    subst (λ (v : Registered). IfNone c.packet.result (IsUnsent g.L.Begins.numbers v.entries number)) c.self.view_is
    (unsent_here noted all g.L.Begins.numbers c.self.inside.sent place c.partition_point-behind.result number c.in_ok-noted.noted.now c.packet.result
    c.self.invariant.0.numbered c.self.invariant.0.sound c.as_slice.ensures.value point at within
    (subst (λ (ns : List Noted). c.in_ok-noted.noted.now ≡ get_or ns place c.in_ok-noted.noted.now) c.deref.ensures.value found.1) c.packet.ensures.none)

pub returns-in_err-checked_sub-clause-has : goal.returns-in_err-checked_sub-clause-has
returns-in_err-checked_sub-clause-has g c =
    let number = c.args.number in
    let noted = c.self.inside.noted.items in
    let all = c.as_slice.result.now in
    let point : IsPoint all number c.partition_point-behind.result =
    IsPartitionPoint-from_clause (is_below number) all c.partition_point-behind.result c.partition_point-behind.ensures.partitioned
    (parted g.L.Begins.numbers.count noted all c.self.inside.sent number c.self.invariant.0.numbered c.as_slice.ensures.value)
    (λ a r q k. search (rules, of_calls)) in
    let first : c.partition_point-behind.result ≡ 0 = omega (arith, c.in_err-checked_sub.ensures) in
    ap (λ (r : Option (Bor Sent)). option_map packet_of (option_copied r)) c.from_residual.ensures
    ∙ sym (none_sent_under g.L.Begins.numbers number c.args.self.now.entries
    (subst (λ (v : Registered). IsUnsent g.L.Begins.numbers v.entries number) c.self.view_is
    (unsent_first noted g.L.Begins.numbers c.self.inside.sent number c.self.invariant.0.numbered
    (subst (λ (ns : List Noted). AreBehind ns 0 number) c.as_slice.ensures.value
    (subst (λ (b : ℕ). AreBehind all b number) first point.1)))))

pub returns-in_err-noted-clause-has : goal.returns-in_err-noted-clause-has
returns-in_err-noted-clause-has g c =
    let least = c.in_ok-checked_sub.ensures in
    let past = c.in_err-noted.ensures.lookup.0 in
    let bound = c.partition_point-behind.ensures.bound in
    let first = ap (λ (ns : List Noted). length ns) c.as_slice.ensures.value in
    let second = ap (λ (ns : List Noted). length ns) c.deref.ensures.value in
    let none : ⊥ = grind (arith, nat_tests, least, past, bound, first, second) in
    absurd none

pub returns-clause-has : goal.returns-clause-has
returns-clause-has g c =
    let number = c.args.number in
    let noted = c.self.inside.noted.items in
    let all = c.as_slice.result.now in
    let place = c.in_ok-checked_sub.field-0 in
    let found = c.in_ok-noted.ensures.lookup in
    let point : IsPoint all number c.partition_point-behind.result =
    IsPartitionPoint-from_clause (is_below number) all c.partition_point-behind.result c.partition_point-behind.ensures.partitioned
    (parted g.L.Begins.numbers.count noted all c.self.inside.sent number c.self.invariant.0.numbered c.as_slice.ensures.value)
    (λ a r q k. search (rules, of_calls)) in
    let within : place < length noted =
    let same = ap (λ (ns : List Noted). length ns) c.deref.ensures.value in
    let read = found.0 in
    grind (arith, nat_tests, same, read) in
    let at : c.partition_point-behind.result ≡ place + 1 = omega (arith, c.in_ok-checked_sub.ensures) in
    let one : c.in_ok-noted.noted.now ≡ get_or noted place c.in_ok-noted.noted.now =
    subst (λ (ns : List Noted). c.in_ok-noted.noted.now ≡ get_or ns place c.in_ok-noted.noted.now) c.deref.ensures.value found.1 in
    subst (λ (v : Registered). option_map packet_of (option_copied c.packet.result) ≡ sent_under g.L.Begins.numbers.count v.entries number) c.self.view_is
    (has_here noted g.L.Begins.numbers c.self.inside.sent place number c.in_ok-noted.noted.now c.packet.result
    c.self.invariant.0.numbered c.self.invariant.0.sound (slice_get_read noted (length noted) place c.in_ok-noted.noted.now refl within one)
    c.packet.ensures.some
    (unsent_here noted all g.L.Begins.numbers c.self.inside.sent place c.partition_point-behind.result number c.in_ok-noted.noted.now c.packet.result
    c.self.invariant.0.numbered c.self.invariant.0.sound c.as_slice.ensures.value point at within one c.packet.ensures.none))
