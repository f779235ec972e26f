use Rattle.std.proofs.Common.{length, ap, ◌∙◌, sym}
use Rattle.shelf.specs.Parted.{all_in}
use Rattle.shelf.proofs.Parting.{none_but_last}
use Rattle.shelf.proofs.parts.discard.Goals as goal

pub destroy_empty-requires : goal.destroy_empty-requires
destroy_empty-requires g c =
    let none = (none_but_last c.pop.new.self.items c.in-Some.part (sym (ap all_in c.in-Some.ensures.items) ∙ c.loop-part.invariant)).1 in
    c.in-Some.part.ok.0 ∙ ap length none

pub loop-part-preserved : goal.loop-part-preserved
loop-part-preserved g c =
    (none_but_last c.pop.new.self.items c.in-Some.part (sym (ap all_in c.in-Some.ensures.items) ∙ c.loop-part.invariant)).0
