use Rattle.std.proofs.Common.{◌≡◌, List, [], ◌∷◌, ◌++◌, map, refl, sym, ap, subst, ◌∙◌}
use Rattle.std.specs.Prelude.{option_map}
use Rattle.std.proofs.lemmas.List.{map-append}
use Rattle.std.specs.Arc.{arc_value}
use Rattle.journal_laws.specs.Journals.{Entry}
use Rattle.journal_parts.specs.declared.done.Done.{Done}
use Rattle.journal_parts.specs.declared.entry.Entry.{Entry as Written}
use Rattle.journal_parts.specs.Entries.{IsAnew, done_of, entry_of, save_of}
use Rattle.node_entry.specs.declared.step.Step.TheVariants as steps
use Rattle.journal_parts.specs.Members.{IsMember, Membered, packet_halted, posted}
use Rattle.journal_parts.proofs.Reopening.{member_anew, names_so}
use Rattle.journal_parts.proofs.member.Member.start_anew.Goals as goal

pub invariant_of-self-2 : goal.invariant_of-self-2
invariant_of-self-2 g c =
    let sound = ap (λ (v : Membered _). v.post.astray) c.self.view_is ∙ c.requires.sound in
    let step = ap (λ (d : Done). d.step) c.anew.view_is ∙ c.requires.step
    ∙ sym (ap (λ (v : Membered _). steps.Restart v.post.node.kept.setup.node) c.self.view_is) in
    let packet = ap (λ (d : Done). d.packet) c.anew.view_is ∙ c.requires.packet
    ∙ sym (ap (λ (v : Membered _). packet_halted v.post.halted) c.self.view_is) in
    let all : map entry_of c.push_reserved.new.self.items
    ≡ map entry_of c.self.inside.own.items ++ entry_of (record { done = c.anew.inside.done; unfinished = c.in_ok-life.save }) ∷ [] =
    ap (λ (es : List Written). map entry_of es) c.push_reserved.ensures.items
    ∙ map-append entry_of c.self.inside.own.items (record { done = c.anew.inside.done; unfinished = c.in_ok-life.save } ∷ []) in
    subst (λ (es : List Entry). IsMember g.S.StableStore.stored g.L.Begins.cluster g.L.Begins.kept (posted c.reopen.new.self) es) (sym all)
    (member_anew g.S.StableStore.stored g.L.Begins.cluster g.L.Begins.kept (posted c.self.inside.post) (posted c.reopen.new.self)
    (map entry_of c.self.inside.own.items) (arc_value c.anew.inside.done) (option_map save_of c.in_ok-life.save) c.self.invariant sound step packet
    c.anew.invariant.1 c.in_ok-life.ensures.ok)

pub returns-clause-entry : goal.returns-clause-entry
returns-clause-entry g c =
    let step = ap (λ (d : Done). d.step) c.anew.view_is ∙ c.requires.step in
    let named : c.name.new.self ≡ record { done = done_of (arc_value c.anew.inside.done); unfinished = option_map save_of c.in_ok-life.save } =
    c.name.ensures ∙ ap (λ (e : Entry). record { done = e.done; unfinished = option_map save_of c.in_ok-life.save }) c.anew.invariant.0 in
    subst (λ (d : Done). IsAnew d c.name.new.self) c.anew.view_is
    (subst (λ (e : Entry). IsAnew (arc_value c.anew.inside.done) e) (sym named)
    (record { is = refl; sound = names_so (arc_value c.anew.inside.done) _ step c.anew.invariant.1 (option_map save_of c.in_ok-life.save) }))
