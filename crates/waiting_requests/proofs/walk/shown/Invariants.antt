use Rattle.std.proofs.Common.{◌≡◌, drop}
use Rattle.std.specs.Option.{option_copied}
use Rattle.node_model.specs.Rules.{shown_to}
use Rattle.synod_acceptor.specs.Votes.{told_vote}
use Rattle.waiting_requests.specs.Queues.{boxed_in, timely}
use Rattle.waiting_requests.proofs.walk.shown.Given as goal

abbrev pub invariant-loop-one : goal.invariant-loop-one
invariant-loop-one l =
    shown_to l.id (timely l.clock (boxed_in (drop l.one-index l.held))) (told_vote (option_copied l.top)) ≡ shown_to l.id
    (timely l.clock (boxed_in l.held)) (told_vote (option_copied l.fn.told))
