use Rattle.std.proofs.Common.{◌≡◌, ◌-◌, ℕ, List, length, sym, ap, subst, ◌∙◌}
use Rattle.std.specs.Prelude.{min}
use Rattle.std.specs.Vec.{vec_capacity}
use Rattle.node_parts.specs.declared.message.Message.{Message as Filed}
use Rattle.node_parts.specs.Counting.{IsCountable, recounted_in}
use Rattle.node_parts.specs.Living.{AreListed, Listed}
use Rattle.node_parts.specs.Sleeping.{AreNoted, ids_of}
use Rattle.node_parts.proofs.Counting.{listed_anew, recounted_length, recounted_there}
use Rattle.node_parts.proofs.Dozing.{noted_changed, recounted_keeps}
use Rattle.node_parts.proofs.message_shelf.MessageShelf.count_anew.Goals as goal

pub invariant_of-self : goal.invariant_of-self
invariant_of-self c =
    let s = c.self.inside in
    let entries = s.shelf.entries in
    let ids = ids_of s.live.items in
    let cap = min s.live.width (vec_capacity s.awake.ids) in
    let r = c.args.recount in
    let is = subst (λ (l : Listed). IsCountable l.entries c.args.id c.args.recount) (sym c.self.view_is) c.requires in (
      subst (λ (es : List (ℕ × Filed)). AreListed es ids cap) (sym c.count_on.ensures.entries)
          (listed_anew entries ids cap c.args.id r c.self.invariant.0 c.ascends.ensures is),
      (
        subst (λ (es : List (ℕ × Filed)). AreNoted s.noted es s.live.items)
            (sym (c.count_on.ensures.entries ∙ recounted_there entries c.args.id r is.message is.kept))
            (noted_changed s.noted entries s.live.items c.args.id is.message (recounted_in is.message r) is.kept (recounted_keeps c.args.id is.message r)
            c.self.invariant.1.0),
        c.self.invariant.1.1,
      ),
    )

pub returns-clause-listings : goal.returns-clause-listings
returns-clause-listings c =
    let entries = c.self.inside.shelf.entries in
    let ids = ids_of c.self.inside.live.items in
    let cap = min c.self.inside.live.width (vec_capacity c.self.inside.awake.ids) in
    let is = subst (λ (l : Listed). IsCountable l.entries c.args.id c.args.recount) (sym c.self.view_is) c.requires in
    let same : length c.count_on.new.shelf.entries ≡ length entries =
    ap length c.count_on.ensures.entries
    ∙ recounted_length entries ids cap c.args.id c.args.recount c.self.invariant.0 c.ascends.ensures is in
    ap (λ (n : ℕ). cap - n) same ∙ ap (λ (l : Listed). l.listings) c.self.view_is
