use Rattle.std.proofs.Common.{◌≡◌, None, Some, option_map, List, ap, sym, ◌∙◌, rules}
use Rattle.mc_model.specs.message.Decree.{Decree}
use Rattle.waiting_requests.specs.Queues.{timely}
use Rattle.waiting_requests.specs.Submits.{begun_start, first_begun, start_at}
use Rattle.waiting_requests.specs.Waiting.{held_in}
use Rattle.waiting_requests.proofs.Starting.{first_named, taken_first}
use Rattle.waiting_requests.proofs.queue.Queue.taken.Goals as goal

pub returns-in-None-clause-start : goal.returns-in-None-clause-start
returns-in-None-clause-start c = λ setup k by.
    let held = timely c.args.clock (held_in c.args.self.now) in
    let none : first_begun c.args.id held ≡ None = search rules in
    sym (taken_first setup k c.args.id held by ∙ ap (option_map begun_start) none)

pub returns-in-Some-clause-start : goal.returns-in-Some-clause-start
returns-in-Some-clause-start c = λ setup k by.
    let held = timely c.args.clock (held_in c.args.self.now) in
    let found : first_begun c.args.id held ≡ Some c.in-Some.taken.now = search rules in
    sym (taken_first setup k c.args.id held by ∙ ap (option_map begun_start) found ∙ ap (λ (chain : List Decree). Some (start_at chain))
    (sym c.chain.ensures.decrees))

pub returns-in-Some-clause-id : goal.returns-in-Some-clause-id
returns-in-Some-clause-id c =
    let found : first_begun c.args.id (timely c.args.clock (held_in c.args.self.now)) ≡ Some c.in-Some.taken.now = search rules in
    c.chain.ensures.id ∙ first_named c.args.id (timely c.args.clock (held_in c.args.self.now)) c.in-Some.taken.now found
