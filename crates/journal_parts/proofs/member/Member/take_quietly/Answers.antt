use Rattle.std.proofs.Common.{◌≡◌, List, [], ◌∷◌, ◌++◌, map, sym, ap, subst, ◌∙◌}
use Rattle.std.proofs.lemmas.List.{map-append}
use Rattle.std.specs.Arc.{arc_value}
use Rattle.node_entry.specs.Taking.{node_at}
use Rattle.journal_laws.specs.Journals.{Entry}
use Rattle.journal_parts.specs.declared.done.Done.{Done}
use Rattle.journal_parts.specs.declared.entry.Entry.{Entry as Written}
use Rattle.journal_parts.specs.Entries.{entry_of}
use Rattle.journal_parts.specs.Members.{IsMember, Membered, TakesQuietly, posted}
use Rattle.journal_parts.proofs.Members.{member_more}
use Rattle.journal_parts.proofs.Readies.{ready_quietly}
use Rattle.journal_parts.proofs.member.Member.take_quietly.Goals as goal

pub invariant_of-self-2 : goal.invariant_of-self-2
invariant_of-self-2 g c =
    let old = posted c.self.inside.post in
    let new = posted c.take_quietly.new.self in
    let took : TakesQuietly g.S.StableStore.stored old (arc_value c.silent.inside.done) new =
    subst (λ (d : Done). TakesQuietly g.S.StableStore.stored old d new) c.deref.ensures (c.take_quietly.ensures.taken c.if-not-take_quietly.false) in
    let ready = ready_quietly g.S.StableStore.stored old new (arc_value c.silent.inside.done) took c.silent.invariant.1 in
    let sound = ap (λ (v : Membered _). v.post.astray) c.self.view_is ∙ c.requires.sound in
    let at = ap (λ (d : Done). node_at d.step) c.silent.view_is ∙ c.requires.node
    ∙ sym (ap (λ (v : Membered _). v.post.node.kept.setup.node) c.self.view_is) in
    let all : map entry_of c.push_reserved.new.self.items ≡ map entry_of c.self.inside.own.items ++ entry_of c.of.result ∷ [] =
    ap (λ (es : List Written). map entry_of es) c.push_reserved.ensures.items ∙ map-append entry_of c.self.inside.own.items (c.of.result ∷ []) in
    subst (λ (es : List Entry). IsMember g.S.StableStore.stored g.L.Begins.cluster g.L.Begins.kept new es) (sym all)
    (member_more g.S.StableStore.stored g.L.Begins.cluster g.L.Begins.kept old new
    (map entry_of c.self.inside.own.items) took.input (arc_value c.silent.inside.done) (entry_of c.of.result) c.self.invariant sound ready
    (λ i. record { done = c.of.ensures.done i; unfinished = c.of.ensures.finished i }) at took.takes)
