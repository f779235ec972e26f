use Rattle.std.proofs.Common.{◌≡◌, ◌++◌, drop, map}
use Rattle.std.specs.Prelude.{filter}
use Rattle.node_model.specs.Requests.{is_untold}
use Rattle.synod_acceptor.specs.Packets.{packet_of}
use Rattle.waiting_requests.specs.Queues.{boxed_in, timely}
use Rattle.waiting_requests.specs.Questions.{question_by}
use Rattle.waiting_requests.proofs.walk.questions.Given as goal

abbrev pub invariant-loop-one : goal.invariant-loop-one
invariant-loop-one l =
    map packet_of l.packets.items ++ map (question_by l.node l.incarnation)
    (filter (is_untold l.nodes) (timely l.clock (boxed_in (drop l.one-index l.held)))) ≡ map (question_by l.node l.incarnation)
    (filter (is_untold l.nodes) (timely l.clock (boxed_in l.held)))
