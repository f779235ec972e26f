use Rattle.std.proofs.Common.{◌≡◌, ◌++◌, List, drop, map, sym, ap, subst, ◌∙◌}
use Rattle.std.specs.Arc.{arc_value}
use Rattle.std.proofs.lemmas.List.{take-append-drop}
use Rattle.mc_model.specs.synod.Lists.{In}
use Rattle.mc_parts.proofs.Membership.{in_left}
use Rattle.node_entry.specs.Taking.{node_at}
use Rattle.node_core.specs.Kept.{Kept as Holding}
use Rattle.journal_laws.specs.Journals.{Entry}
use Rattle.journal_parts.specs.declared.done.Done.{Done}
use Rattle.journal_parts.specs.Gathering.{Gathered, entry_done}
use Rattle.journal_parts.specs.Entries.{entry_of}
use Rattle.journal_parts.specs.Members.{IsMember, Membered, posted}
use Rattle.journal_parts.proofs.Gathering.{gathered_nodes, member_on}
use Rattle.journal_parts.proofs.member.Member.commit_all.Goals as goal

pub invariant_of-self : goal.invariant_of-self
invariant_of-self g c =
    let old = posted c.self.inside.post in
    let new = posted c.commit_all-taken.new.self in
    let taken = map arc_value c.commit_all-taken.result.0.items in
    let dones = map arc_value c.ready.inside.dones.items in
    let was : c.ready.inside.group.was ≡ c.self.inside.post.node.kept =
    ap (λ (r : Gathered). r.was) c.ready.view_is ∙ c.requires.was ∙ sym (ap (λ (v : Membered _). v.post.node.kept) c.self.view_is) in
    let sound = ap (λ (v : Membered _). v.post.astray) c.self.view_is ∙ c.requires.sound in
    let front = c.commit_all-taken.ensures.front in
    let at : (done : Done) → In done taken → node_at done.step ≡ old.node.kept.setup.node = λ done among.
    gathered_nodes c.ready.inside.group.was c.ready.inside.group.packets dones done c.ready.invariant.0
    (subst (λ (ds : List Done). In done ds) (sym front.1) (in_left done taken front.0 among))
    ∙ ap (λ (k : Holding). k.setup.node) was in
    subst (λ (es : List Entry). IsMember g.S.StableStore.stored g.L.Begins.cluster g.L.Begins.kept new es) (sym c.push_each.ensures)
    (member_on g.S.StableStore.stored g.L.Begins.cluster g.L.Begins.kept old new (map entry_of c.self.inside.own.items) taken c.self.invariant sound at
    c.commit_all-taken.ensures.takes)

pub returns-clause-front : goal.returns-clause-front
returns-clause-front g c = (
  drop c.len.result c.ready.inside.copies.items,
  ap (λ (r : Gathered). map entry_done r.dones) (sym c.ready.view_is) ∙ sym c.ready.invariant.1
      ∙ sym (take-append-drop c.len.result c.ready.inside.copies.items)
      ∙ ap (λ (es : List Entry). es ++ drop c.len.result c.ready.inside.copies.items) (sym c.truncate.ensures.items),
)
