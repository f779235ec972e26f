use Rattle.std.proofs.Common.{◌∙◌, ℕ, List, ap}
use Rattle.node_parts.specs.Rising.{has_id}
use Rattle.node_parts.proofs.Naming.{found_among}
use Rattle.node_parts.proofs.message_ids.MessageIds.has.Goals as goal

pub returns : goal.returns
returns c =
    let at = rw (c.deref.ensures.value, c.number.ensures.value) at c.place_of.ensures in
    c.is_ok.ensures.value ∙ found_among c.self.inside.ids.items c.args.id c.place_of.result c.self.invariant at
    ∙ ap (λ (ids : List ℕ). has_id ids c.args.id) c.self.view_is
