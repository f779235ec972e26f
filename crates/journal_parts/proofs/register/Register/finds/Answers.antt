use Rattle.std.proofs.Common.{◌≡◌, ℕ, List, sym, ap, subst, ◌∙◌}
use Rattle.journal_laws.specs.Journals.{Entry, entries_at}
use Rattle.journal_laws.specs.Likeness.{AreAllAlike}
use Rattle.journal_parts.specs.Registers.{Registered, entries_of}
use Rattle.journal_parts.proofs.Closing.{found}
use Rattle.journal_parts.proofs.register.Register.finds.Goals as goal

pub returns-then-number : goal.returns-then-number
returns-then-number g c = λ same.
    let number = c.number.ensures in
    let at = c.if-number.true in
    let is : c.node-node.result ≡ c.args.number = sym number.value ∙ at in
    let entries : entries_of c.as_slice.result.now ≡ c.args.self.now.entries =
    ap entries_of c.as_slice.ensures.value ∙ ap (λ (r : Registered). r.entries) c.self.view_is in
    let alike : AreAllAlike c.args.member.now.own (entries_at c.args.number c.args.self.now.entries) =
    subst (λ (es : List Entry). AreAllAlike c.args.member.now.own (entries_at c.args.number es)) entries
    (subst (λ (n : ℕ). AreAllAlike c.args.member.now.own (entries_at n (entries_of c.as_slice.result.now))) is
    (subst (λ (es : List Entry). AreAllAlike es (entries_at c.node-node.result (entries_of c.as_slice.result.now))) c.own.ensures (c.are_own.ensures same))) in
    found g.S.StableStore.stored g.L.Begins.cluster g.L.Begins.kept c.args.self.now.entries c.args.member.now.own c.args.member.now.post c.args.number
    c.is_own_run.ensures.run c.is_own_run.ensures.setup (sym c.node-node.ensures ∙ is) alike
