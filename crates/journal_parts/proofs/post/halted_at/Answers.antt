use Rattle.std.proofs.Common.{[], length-append, ◌+◌, ◌∷◌, List, is_some, drop, length, map, ap, sym, subst, arith, inl, refl}
use Rattle.std.specs.Arc.{arc_value}
use Rattle.std.proofs.lemmas.List.{length-map, length-take-le}
use Rattle.mc_model.specs.synod.Lists.{In}
use Rattle.mc_parts.proofs.Membership.{in_right}
use Rattle.node_entry.specs.declared.step.Step.{Step}
use Rattle.journal_parts.specs.Entries.{number_by}
use Rattle.journal_parts.specs.declared.done.Done.{Done}
use Rattle.journal_parts.proofs.Gathering.{cut_behind}
use Rattle.journal_parts.proofs.post.halted_at.Goals as goal

pub halted_by-requires : goal.halted_by-requires
halted_by-requires c =
    let are = cut_behind arc_value c.args.dones.items c.truncate.new.self.items c.pop.new.self.items c.in-Some.done (c.args.place + 1)
    c.truncate.ensures.items c.in-Some.ensures.items in
    let among = subst (λ (ds : List Done). In (arc_value c.in-Some.done) ds) (sym are)
    (in_right (arc_value c.in-Some.done) (map arc_value c.pop.new.self.items) _ (inl refl)) in
    let step = c.requires.deliver.1 (arc_value c.in-Some.done) among in
    ap (λ (s : Step). is_some (number_by s)) step.1

pub returns : goal.returns
returns c =
    let place = c.requires.place in
    let cut = length-take-le (c.args.place + 1) c.args.dones.items (omega (arith, place)) in
    let all = ap length c.truncate.ensures.items in
    let more = ap length c.in-Some.ensures.items in
    let behind = length-append c.pop.new.self.items (c.in-Some.done ∷ []) in
    let same = length-map c.pop.new.self.items (arc_value {X = Done}) in
    record {
      done = arc_value c.in-Some.done;
      left = map arc_value (drop (c.args.place + 1) c.args.dones.items);
      are = cut_behind arc_value c.args.dones.items c.truncate.new.self.items c.pop.new.self.items c.in-Some.done (c.args.place + 1)
          c.truncate.ensures.items c.in-Some.ensures.items;
      count = omega (arith, cut, all, more, behind, same);
      packet_is = c.halted_by.ensures;
    }
