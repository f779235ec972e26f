use Rattle.std.proofs.Common.{◌≡◌, ℕ, ◌+◌, List, [], ◌∷◌, ◌++◌, length, is_some, Option, refl, sym, ap, subst, arith}
use Rattle.std.proofs.lemmas.List.{length-map}
use Rattle.std.specs.Arc.{arc_value}
use Rattle.std.specs.Vec.{vec_len}
use Rattle.synod_acceptor.specs.Packets.{packet_of}
use Rattle.node_entry.specs.Taking.{node_at}
use Rattle.journal_laws.specs.Journals.{Entry, IsInRange, packets_sent}
use Rattle.journal_parts.specs.declared.done.Done.{Done}
use Rattle.journal_parts.specs.declared.noted.Noted.{Noted}
use Rattle.journal_parts.specs.Entries.{IsSound, entry_of}
use Rattle.journal_parts.specs.Registers.{CameFrom, ComesAsNumbered, IsRegister, MayEnter, Registered, count_in, entries_of}
use Rattle.journal_parts.specs.Slips.{Slipped}
use Rattle.journal_parts.proofs.Members.{among_within}
use Rattle.journal_parts.proofs.Numbers.{register_more}
use Rattle.journal_parts.proofs.Unsent.{sent_count}
use Rattle.journal_parts.proofs.register.Register.enter_own.Goals as goal

-- one claim less
pub invariant_of-self : goal.invariant_of-self
invariant_of-self g c = (
  c.self.invariant.0,
  (let room = c.self.invariant.1 in omega (arith, room, c.if-self-eq0.false)),
  c.self.invariant.2,
  c.self.invariant.3,
  c.self.invariant.4,
  c.self.invariant.5,
)

pub invariant_of-self-2 : goal.invariant_of-self-2
invariant_of-self-2 g c =
    let one : Noted = record {
      entry = c.copies.inside.journal;
      before = c.self.inside.sent;
      within = c.push_reserved-arg-2-1.given.0;
    } in
    let within : IsInRange g.L.Begins.cluster (node_at (entry_of one.entry).done.step) =
    subst (λ (e : Entry). IsInRange g.L.Begins.cluster (node_at e.done.step)) (sym c.copies.view_is)
    (among_within g.S.StableStore.stored g.L.Begins.cluster g.L.Begins.kept c.args.member.now.post c.args.member.now.own c.args.copies
    c.is_own_run.ensures.run c.requires.among) in
    let sound : IsSound (entry_of one.entry) = subst (λ (e : Entry). IsSound e) (sym c.copies.view_is) c.requires.sound in
    let came : CameFrom g.L.Begins.numbers (entries_of c.self.inside.noted.items) (entry_of one.entry) =
    subst (λ (v : Registered). CameFrom g.L.Begins.numbers v.entries (entry_of one.entry)) (sym c.self.view_is) (c.has_sent-comes.ensures.sent c.if-not-comes.false) in
    let more = register_more g.L.Begins.cluster g.L.Begins.numbers c.self.inside.noted.items c.self.inside.carried.items c.self.inside.sent one
    c.self.invariant.0 within sound came refl in
    let count : c.in_ok-sent.sent ≡ c.self.inside.sent + count_in one =
    let sends = length-map (arc_value c.copies.inside.journal.done).outputs.packets.items packet_of in
    let same = ap (λ (d : Done). vec_len d.outputs.packets) c.deref.ensures in
    let own = (arc_value c.copies.inside.journal.done).outputs.packets.ok in
    let sum = c.in_ok-sent.ensures in
    let len = c.len.ensures in
    omega (arith, sends, same, own, sum, len) in
    let all : c.push_reserved.new.self.items ≡ c.self.inside.noted.items ++ one ∷ [] = c.push_reserved.ensures.items in (
      subst (λ (n : ℕ). IsRegister g.L.Begins.cluster g.L.Begins.numbers c.push_reserved.new.self.items c.self.inside.carried.items n) (sym count)
          (subst (λ (ns : List Noted). IsRegister g.L.Begins.cluster g.L.Begins.numbers ns c.self.inside.carried.items (c.self.inside.sent + count_in one))
          (sym all) more),
      (let room = c.self.invariant.1 in let long = c.push_reserved.ensures.len in let wide = c.push_reserved.ensures.capacity in
          omega (arith, room, long, wide, c.if-self-eq0.false)),
      (let total = c.self.invariant.2 in let long = c.push_reserved.ensures.len in let counted = c.add.ensures.counted in omega (arith, total, long, counted)),
      c.self.invariant.3,
      c.self.invariant.4,
      (let most = c.self.invariant.5 in let wide = c.push_reserved.ensures.capacity in omega (arith, most, wide)),
    )

pub returns-then-self-eq0-clause-may : goal.returns-then-self-eq0-clause-may
returns-then-self-eq0-clause-may g c = (
  (λ is. absurd cc),
  (λ may.
      let claimed = may.claimed in
      let seen = ap (λ (r : Registered). r.claims) c.self.view_is in
      let none = c.if-self-eq0.true in
      absurd (omega (arith, claimed, seen, none))),
)

pub returns-then-not-comes-clause-may : goal.returns-then-not-comes-clause-may
returns-then-not-comes-clause-may g c = (
  (λ is. absurd cc),
  (λ may.
      let no = c.has_sent-comes.ensures.only
      (subst (λ (e : Entry). ComesAsNumbered g.L.Begins.numbers c.args.self.now e) (sym c.copies.view_is) may.comes) in
      let not = c.if-not-comes.true in
      absurd cc),
)

pub returns-in_err-sent-clause-may : goal.returns-in_err-sent-clause-may
returns-in_err-sent-clause-may g c = (
  (λ is. let none = ap (λ (o : Option Slipped). is_some o) c.from_residual.ensures in absurd cc),
  (λ may.
      let before = sent_count g.L.Begins.numbers.count c.self.inside.noted.items c.self.inside.sent c.self.invariant.0.numbered c.self.invariant.0.sound in
      let seen = ap (λ (r : Registered). length (packets_sent r.entries)) c.self.view_is in
      let sends = length-map (arc_value c.copies.inside.journal.done).outputs.packets.items packet_of in
      let same = ap (λ (d : Done). vec_len d.outputs.packets) c.deref.ensures in
      let own = (arc_value c.copies.inside.journal.done).outputs.packets.ok in
      let len = c.len.ensures in
      let entry = ap (λ (e : Entry). length e.done.sent) c.copies.view_is in
      let below = may.below in
      absurd (c.in_err-sent.ensures (omega (arith, before, seen, sends, same, own, len, entry, below)))),
)

pub returns-clause-may : goal.returns-clause-may
returns-clause-may g c = (
  (λ is.
      let before = sent_count g.L.Begins.numbers.count c.self.inside.noted.items c.self.inside.sent c.self.invariant.0.numbered c.self.invariant.0.sound in
      let seen = ap (λ (r : Registered). length (packets_sent r.entries)) c.self.view_is in
      let sends = length-map (arc_value c.copies.inside.journal.done).outputs.packets.items packet_of in
      let same = ap (λ (d : Done). vec_len d.outputs.packets) c.deref.ensures in
      let own = (arc_value c.copies.inside.journal.done).outputs.packets.ok in
      let len = c.len.ensures in
      let sum = c.in_ok-sent.ensures in
      let claims = ap (λ (r : Registered). r.claims) c.self.view_is in
      let some = c.if-self-eq0.false in
      let may : MayEnter g.L.Begins.numbers c.args.self.now (entry_of c.copies.inside.journal) = record {
        claimed = omega (arith, claims, some);
        comes = c.has_sent-comes.ensures.comes c.if-not-comes.false;
        below = omega (arith, before, seen, sends, same, own, len, sum);
      } in
      subst (λ (e : Entry). MayEnter g.L.Begins.numbers c.args.self.now e) c.copies.view_is may),
  (λ may. refl),
)
