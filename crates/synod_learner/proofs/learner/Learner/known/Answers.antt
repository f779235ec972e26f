use Rattle.std.proofs.Common.{◌≡◌, Some, length, refl, sym}
use Rattle.std.proofs.lemmas.Option.{slice_get_read, slice_get_within}
use Rattle.synod_learner.specs.Counts.{IsChainAt, known_in}
use Rattle.synod_learner.proofs.Chains.{known_here}
use Rattle.synod_learner.proofs.learner.Learner.known.Goals as goal

held : (c : goal.After-index) → (known_in c.self.inside.known.items c.args.id ≡ Some c.index.result.now.decrees) × (c.index.result.now.id ≡ c.args.id)
held c =
    let found : IsChainAt c.self.inside.known.items c.args.id c.in_ok-place.place = rw (← c.deref.ensures.value) c.in_ok-place.ensures in
    let within = slice_get_within c.self.inside.known.items c.in_ok-place.place found.chain found.stands in
    let stands = slice_get_read c.self.inside.known.items
    (length c.self.inside.known.items) c.in_ok-place.place c.index.result.now refl within c.index.ensures in
    known_here c.self.inside.known.items c.in_ok-place.place c.index.result.now c.args.id c.self.invariant.others found stands

pub returns-clause-known : goal.returns-clause-known
returns-clause-known c = rw (← c.self.view_is) (sym (held c).0)

pub returns-clause-id : goal.returns-clause-id
returns-clause-id c = (held c).1
