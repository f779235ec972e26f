use Rattle.std.proofs.Common.{◌≡◌, ◌++◌, Some, true, option_map, arith, rules}
use Rattle.std.specs.Option.{option_to_list}
use Rattle.node_model.specs.Answers.{reply_of}
use Rattle.node_model.specs.Kept.{Held}
use Rattle.node_model.specs.Packets.{settled_for}
use Rattle.waiting_requests.specs.Replying.{reply_given, reply_with}
use Rattle.waiting_requests.specs.Queues.{is_answered}
use Rattle.waiting_requests.proofs.Walks.{answered_if, at_fault, in_box, one_passes, replied_next}
use Rattle.waiting_requests.proofs.walk.replies.Goals as goal

pub loop-one-preserved : goal.loop-one-preserved
loop-one-preserved c =
    let f = settled_for c.args.nodes c.args.chain.now.id c.args.chain.now.decrees in
    let h : Held = f (in_box c.one-item.result) in
    let stored : c.put.new.replies.items ≡ c.loop-one.replies.items ++ option_to_list c.in_ok-reply.field-0 = search rules in
    let reply : option_map reply_given c.in_ok-reply.field-0 ≡ reply_with h
    (reply_of c.args.nodes (Some c.args.chain.now.decrees) c.args.chain.now.id h) = search rules in
    replied_next f c.args.nodes (Some c.args.chain.now.decrees) c.args.chain.now.id c.args.held.now c.loop-one.one-index c.one-item.result
    (omega arith) c.one-item.is
    c.loop-one.replies.items c.put.new.replies.items c.in_ok-reply.field-0 stored reply c.loop-one.invariant

pub returns-in_err-reply-clause-memory : goal.returns-in_err-reply-clause-memory
returns-in_err-reply-clause-memory c =
    let test = is_answered c.args.nodes c.args.chain.now.id c.args.chain.now.decrees in
    let answered : test (in_box c.one-item.result) ≡ true = search rules in
    at_fault _ c.from_residual.result (one_passes test c.args.held.now c.loop-one.one-index c.one-item.result (omega arith) c.one-item.is answered)

pub returns-in_err-put-clause-memory : goal.returns-in_err-put-clause-memory
returns-in_err-put-clause-memory c =
    let test = is_answered c.args.nodes c.args.chain.now.id c.args.chain.now.decrees in
    let h : Held = settled_for c.args.nodes c.args.chain.now.id c.args.chain.now.decrees (in_box c.one-item.result) in
    let reply : option_map reply_given c.in_ok-reply.field-0 ≡ reply_with h
    (reply_of c.args.nodes (Some c.args.chain.now.decrees) c.args.chain.now.id h) = search rules in
    let answered : test (in_box c.one-item.result) ≡ true = answered_if h _ c.in_ok-reply.field-0 reply c.in_err-put.ensures.memory in
    at_fault _ c.from_residual-in_err-put.result (one_passes test c.args.held.now c.loop-one.one-index c.one-item.result (omega arith) c.one-item.is answered)
