use Rattle.std.proofs.Common.{Some, option_map, sym, ap, ◌∙◌}
use Rattle.std.specs.List.{slice_get}
use Rattle.shelf.specs.Parted.{all_in}
use Rattle.shelf.specs.Places.{entry_of, entry_seen}
use Rattle.shelf.proofs.Shelving.{seen_in_place}
use Rattle.shelf.proofs.shelf.Shelf.at.Goals as goal

pub returns-in_err-key-clause-entry : goal.returns-in_err-key-clause-entry
returns-in_err-key-clause-entry g c =
    rw (← c.self.view_is) (
    ap (option_map entry_seen) c.from_residual.ensures
    ∙ ap (option_map entry_of) (c.in_err-key.ensures ∙ ap (λ parts. slice_get (all_in parts) c.args.place) c.deref.ensures.value)
    ∙ sym (seen_in_place c.self.inside.parts.items c.args.place)
    )

pub returns-clause-entry : goal.returns-clause-entry
returns-clause-entry g c =
    rw (← c.self.view_is) (
    ap (λ (value : g.row.V.Denot). Some (c.in_ok-key.field-0.now.0, value)) c.deref-2.ensures
    ∙ ap (option_map entry_of) (c.in_ok-key.ensures ∙ ap (λ parts. slice_get (all_in parts) c.args.place) c.deref.ensures.value)
    ∙ sym (seen_in_place c.self.inside.parts.items c.args.place)
    )
