use Rattle.std.proofs.Common.{◌≡◌, ◌<◌, ◌≤◌, Bor, List, length, get_or, Option, Some, None, option_map, sym, ap, subst, ◌∙◌, arith, rules, of_calls}
use Rattle.std.proofs.lemmas.Bool.Decides.{nat_tests}
use Rattle.std.proofs.lemmas.List.Sorted.{IsPartitionPoint-from_clause}
use Rattle.std.specs.Prelude.{nat_lt}
use Rattle.std.specs.Option.{option_copied}
use Rattle.synod_acceptor.specs.Packets.{packet_of}
use Rattle.synod_acceptor.specs.declared.packet.Packet.{Packet as Sent}
use Rattle.journal_parts.specs.declared.carried.Carried.{Carried}
use Rattle.journal_parts.specs.Registers.{HasPacket, Registered, carried_under, entries_of}
use Rattle.journal_parts.proofs.Finding.{IsPlace, found_here, is_lower, none_behind, none_here, parted_by_number}
use Rattle.journal_parts.proofs.Numbers.{carried_here}
use Rattle.journal_parts.proofs.register.Register.carried_packet.Goals as goal

pub returns-clause-some : goal.returns-clause-some
returns-clause-some g c =
    let found = c.in_ok-carried.ensures.lookup in
    subst (λ (v : Registered). HasPacket g.L.Begins.numbers v.entries c.args.number (packet_of c.in_ok-carried.carried.now.packet)) c.self.view_is
    (carried_here g.L.Begins.numbers (entries_of c.self.inside.noted.items) c.self.inside.carried.items c.partition_point-place.result c.args.number
    c.in_ok-carried.carried.now c.self.invariant.0.carries
    (found.0 ∙ ap (λ (all : List Carried). nat_lt c.partition_point-place.result (length all)) c.deref.ensures.value)
    (subst (λ (all : List Carried). c.in_ok-carried.carried.now ≡ get_or all c.partition_point-place.result c.in_ok-carried.carried.now)
    c.deref.ensures.value found.1) c.if-carried-number.false)

pub returns-clause-has : goal.returns-clause-has
returns-clause-has g c =
    let number = c.args.number in
    let place = c.partition_point-place.result in
    let carried = c.self.inside.carried.items in
    let all = c.as_slice.result.now in
    let found = c.in_ok-carried.ensures.lookup in
    let point : IsPlace all number place =
    IsPartitionPoint-from_clause (is_lower number) all place c.partition_point-place.ensures.partitioned
    (parted_by_number 0 g.L.Begins.numbers.count carried all number c.self.invariant.0.rise c.as_slice.ensures.value)
    (λ a r q k. search (rules, of_calls)) in
    let within : place < length carried =
    let same = ap (λ (cs : List Carried). length cs) c.deref.ensures.value in
    let read = found.0 in
    grind (arith, nat_tests, same, read) in
    subst (λ (v : Registered). Some (packet_of c.in_ok-carried.carried.now.packet) ≡ carried_under v.carried number) c.self.view_is
    (sym (found_here carried place number c.in_ok-carried.carried.now
    (subst (λ (cs : List Carried). IsPlace cs number place) c.as_slice.ensures.value point) within
    (subst (λ (cs : List Carried). c.in_ok-carried.carried.now ≡ get_or cs place c.in_ok-carried.carried.now) c.deref.ensures.value found.1)
    c.if-carried-number.false))

pub returns-then-carried-number-clause-has : goal.returns-then-carried-number-clause-has
returns-then-carried-number-clause-has g c =
    let number = c.args.number in
    let place = c.partition_point-place.result in
    let carried = c.self.inside.carried.items in
    let all = c.as_slice.result.now in
    let found = c.in_ok-carried.ensures.lookup in
    let point : IsPlace all number place =
    IsPartitionPoint-from_clause (is_lower number) all place c.partition_point-place.ensures.partitioned
    (parted_by_number 0 g.L.Begins.numbers.count carried all number c.self.invariant.0.rise c.as_slice.ensures.value)
    (λ a r q k. search (rules, of_calls)) in
    let within : place < length carried =
    let same = ap (λ (cs : List Carried). length cs) c.deref.ensures.value in
    let read = found.0 in
    grind (arith, nat_tests, same, read) in
    subst (λ (v : Registered). None ≡ carried_under v.carried number) c.self.view_is
    (sym (none_here carried 0 g.L.Begins.numbers.count place number c.in_ok-carried.carried.now c.self.invariant.0.rise
    (subst (λ (cs : List Carried). IsPlace cs number place) c.as_slice.ensures.value point) within
    (subst (λ (cs : List Carried). c.in_ok-carried.carried.now ≡ get_or cs place c.in_ok-carried.carried.now) c.deref.ensures.value found.1)
    c.if-carried-number.true))

pub returns-in_err-carried-clause-has : goal.returns-in_err-carried-clause-has
returns-in_err-carried-clause-has g c =
    let number = c.args.number in
    let place = c.partition_point-place.result in
    let carried = c.self.inside.carried.items in
    let all = c.as_slice.result.now in
    let point : IsPlace all number place =
    IsPartitionPoint-from_clause (is_lower number) all place c.partition_point-place.ensures.partitioned
    (parted_by_number 0 g.L.Begins.numbers.count carried all number c.self.invariant.0.rise c.as_slice.ensures.value)
    (λ a r q k. search (rules, of_calls)) in
    let past : length carried ≤ place =
    let same = ap (λ (cs : List Carried). length cs) c.deref.ensures.value in
    let read = c.in_err-carried.ensures.lookup.0 in
    grind (arith, nat_tests, same, read) in
    ap (λ (r : Option (Bor Sent)). option_map packet_of (option_copied r)) c.from_residual.ensures
    ∙ subst (λ (v : Registered). None ≡ carried_under v.carried number) c.self.view_is
    (sym (none_behind carried place number (subst (λ (cs : List Carried). IsPlace cs number place) c.as_slice.ensures.value point) past))
