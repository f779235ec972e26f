use Rattle.std.proofs.Common.{◌==◌, ◌∙◌, sym, ap, Some}
use Rattle.std.specs.List.{position}
use Rattle.sessions.specs.declared.pushed.Pushed.{Pushed}
use Rattle.sessions.proofs.Firsts.{found_first, found_none, left_first, stays}
use Rattle.sessions.proofs.pushed.take_sequence.Goals as goal

pub returns-in_err-place-clause-taken : goal.returns-in_err-place-clause-taken
returns-in_err-place-clause-taken c =
    let test = λ (request : Pushed). request.sequence == c.args.sequence in
    let nowhere = ap (position {X = Pushed} test) (sym c.deref.ensures.value) ∙ (sym c.place_of_sequence.ensures ∙ c.in_err-place.was) in
    c.from_residual.ensures ∙ sym (found_none {X = Pushed} test c.args.pushed.now.items nowhere)

pub returns-in_err-place-clause-rest : goal.returns-in_err-place-clause-rest
returns-in_err-place-clause-rest c =
    let test = λ (request : Pushed). request.sequence == c.args.sequence in
    let nowhere = ap (position {X = Pushed} test) (sym c.deref.ensures.value) ∙ (sym c.place_of_sequence.ensures ∙ c.in_err-place.was) in
    sym (stays {X = Pushed} test c.args.pushed.now.items (found_none {X = Pushed} test c.args.pushed.now.items nowhere))

pub returns-clause-taken : goal.returns-clause-taken
returns-clause-taken c =
    let test = λ (request : Pushed). request.sequence == c.args.sequence in
    let stands = ap (position {X = Pushed} test) (sym c.deref.ensures.value) ∙ (sym c.place_of_sequence.ensures ∙ c.in_ok-place.was) in
    ap Some c.remove.ensures.value ∙ sym (found_first {X = Pushed} test c.args.pushed.now.items c.in_ok-place.place c.remove.result stands)

pub returns-clause-rest : goal.returns-clause-rest
returns-clause-rest c =
    let test = λ (request : Pushed). request.sequence == c.args.sequence in
    let stands = ap (position {X = Pushed} test) (sym c.deref.ensures.value) ∙ (sym c.place_of_sequence.ensures ∙ c.in_ok-place.was) in
    c.remove.ensures.items ∙ sym (left_first {X = Pushed} test c.args.pushed.now.items c.in_ok-place.place c.remove.result stands)
