use Rattle.std.proofs.Common.{◌≡◌, None, Some, rules}
use Rattle.std.specs.List.{position}
use Rattle.std.proofs.lemmas.List.Quantifiers.{position-Some}
use Rattle.waiting_requests.proofs.Walks.{has_ticket, in_box, put_at, put_nowhere}
use Rattle.node_model.specs.Requests.{ticket_of}
use Rattle.waiting_requests.proofs.walk.replace_at.Goals as goal

pub returns-in-Some : goal.returns-in-Some
returns-in-Some c =
    let test = has_ticket (ticket_of (in_box c.args.new)) in
    let stands : position test c.args.held.now ≡ Some c.in-Some.place = search rules in
    let there = position-Some test c.args.held.now c.in-Some.place c.args.new stands in
    put_at c.args.held.now c.args.new c.in-Some.place c.requires there.0 there.1 there.2

pub returns-in_default : goal.returns-in_default
returns-in_default c =
    let test = has_ticket (ticket_of (in_box c.args.new)) in
    let nowhere : position test c.args.held.now ≡ None = search rules in
    put_nowhere c.args.held.now c.args.new nowhere
