use Rattle.std.proofs.Common.{◌≡◌, List, [], ◌∷◌, ◌++◌, map, sym, ap, subst, ◌∙◌}
use Rattle.std.proofs.lemmas.List.{map-append}
use Rattle.std.specs.Arc.{arc_value}
use Rattle.node_entry.specs.Taking.{node_at}
use Rattle.node_core.specs.Kept.{Kept as Holding}
use Rattle.node_core.specs.Keeping.{kept_of}
use Rattle.journal_laws.specs.Journals.{Entry}
use Rattle.journal_parts.specs.declared.entry.Entry.{Entry as Written}
use Rattle.journal_parts.specs.Entries.{entry_of}
use Rattle.journal_parts.specs.Members.{IsMember, IsReady, Membered, Readied, posted}
use Rattle.journal_parts.proofs.Members.{member_more}
use Rattle.journal_parts.proofs.member.Member.commit_grant.Goals as goal

pub invariant_of-self : goal.invariant_of-self
invariant_of-self g c =
    let was : c.ready.inside.pending.was ≡ c.self.inside.post.node.kept =
    ap (λ (r : Readied). r.was) c.ready.view_is ∙ c.requires.was ∙ sym (ap (λ (v : Membered _). v.post.node.kept) c.self.view_is) in
    let ready = subst (λ (k : Holding). IsReady k.setup (kept_of k) c.ready.inside.pending.input (arc_value c.ready.inside.done)) was c.ready.invariant.0 in
    let sound = ap (λ (v : Membered _). v.post.astray) c.self.view_is ∙ c.requires.sound in
    let at = ap (λ (r : Readied). node_at r.done.step) c.ready.view_is ∙ c.requires.node
    ∙ sym (ap (λ (v : Membered _). v.post.node.kept.setup.node) c.self.view_is) in
    let all : map entry_of c.push_reserved.new.self.items ≡ map entry_of c.self.inside.own.items ++ entry_of c.of.result ∷ [] =
    ap (λ (es : List Written). map entry_of es) c.push_reserved.ensures.items ∙ map-append entry_of c.self.inside.own.items (c.of.result ∷ []) in
    subst (λ (es : List Entry). IsMember g.S.StableStore.stored g.L.Begins.cluster g.L.Begins.kept (posted c.commit_grant-permit.new.self) es) (sym all)
    (member_more g.S.StableStore.stored g.L.Begins.cluster g.L.Begins.kept (posted c.self.inside.post) (posted c.commit_grant-permit.new.self)
    (map entry_of c.self.inside.own.items) c.ready.inside.pending.input (arc_value c.ready.inside.done) (entry_of c.of.result) c.self.invariant sound ready
    (λ i. record { done = c.of.ensures.done i; unfinished = c.of.ensures.finished i }) at c.commit_grant-permit.ensures.taken)
