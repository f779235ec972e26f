use Rattle.std.proofs.Common.{◌++◌, List, Err, inl, inr, map, refl, sym, ap, subst, ◌∙◌}
use Rattle.std.specs.Arc.{arc_value}
use Rattle.std.specs.declared.sync.Arc.{Arc}
use Rattle.node_core.specs.Nodes.{Standing}
use Rattle.journal_parts.specs.Gathering.{TakesSeveral}
use Rattle.journal_parts.specs.Members.{posted}
use Rattle.journal_parts.specs.Refusals.{refused_as}
use Rattle.journal_parts.specs.declared.done.Done.{Done}
use Rattle.journal_parts.proofs.Gathering.{KeepsIt, stays_so, taken_so}
use Rattle.journal_parts.proofs.post.Post.commit_all.Goals as goal

pub returns-in-Ok-clause-takes : goal.returns-in-Ok-clause-takes
returns-in-Ok-clause-takes g c =
    taken_so g.S.StableStore.stored (posted c.args.self.now)
    (posted (record { node = c.commit_all.new.self; halted = c.args.self.now.halted; astray = c.args.self.now.astray })) c.args.group.was
    c.args.group.packets c.in-Ok.outputs.items (map arc_value c.args.dones.items) c.requires.was c.requires.gathered c.in-Ok.ensures.gives c.in-Ok.ensures.ok
    c.in-Ok.ensures.same.setup refl c.in-Ok.ensures.goes_on.doubt

pub returns-in-Err : goal.returns-in-Err
returns-in-Err g c =
    let old = c.args.self.now.node in
    let new = c.commit_all.new.self in
    let keeps : KeepsIt old new = elim c.in-Err.ensures.faults [
      | inl broken ↦
          let same = c.in-Err.ensures.stays (λ i. Err (broken i)) in
          record { kept = ap (λ (n : Standing _). n.kept) same; unfinished = ap (λ (n : Standing _). n.unfinished) same }
      | inr (inl device) ↦
          let stopped = c.in-Err.ensures.device (λ i. Err (device i)) in record { kept = stopped.kept; unfinished = stopped.unfinished }
      | inr (inr memory) ↦
          let unmoved = c.in-Err.ensures.memory (λ i. Err (memory i)) in record { kept = unmoved.kept; unfinished = unmoved.unfinished }
    ] in
    record {
      takes = subst (λ (ds : List (Arc Done _)). TakesSeveral g.S.StableStore.stored (posted c.args.self.now) (map arc_value ds)
          (posted (record { node = new; halted = c.args.self.now.halted; astray = c.args.self.now.astray }))) (sym c.clear.ensures.items)
          (stays_so g.S.StableStore.stored (posted c.args.self.now)
          (posted (record { node = new; halted = c.args.self.now.halted; astray = c.args.self.now.astray })) keeps.kept keeps.unfinished refl
          c.in-Err.ensures.goes_on.doubt);
      front = (
        map arc_value c.args.dones.items,
        ap (λ (ds : List (Arc Done _)). map arc_value ds ++ map arc_value c.args.dones.items) (sym c.clear.ensures.items),
      );
      all = λ is. absurd (cc);
      sound = λ is. absurd (cc);
      faults = elim c.in-Err.ensures.faults [
        | inl broken ↦ inl (c.from.ensures ∙ ap refused_as broken)
        | inr (inl device) ↦ inr (inl (c.from.ensures ∙ ap refused_as device))
        | inr (inr memory) ↦ inr (inr (c.from.ensures ∙ ap refused_as memory))
      ];
    }
