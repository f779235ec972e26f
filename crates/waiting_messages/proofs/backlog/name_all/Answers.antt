use Rattle.std.proofs.Common.{◌≡◌, ◌<◌, ◌∙◌, true, false, get_or, length, refl, rules, arith, take}
use Rattle.std.proofs.lemmas.List.{get_or_default}
use Rattle.std.proofs.lemmas.Grind.{common_steps}
use Rattle.waiting_messages.specs.Queues.{Queue, first_due}
use Rattle.waiting_messages.specs.Named.{NameableTest}
use Rattle.waiting_messages.proofs.Firsts.{first-all, first-some, named-more, names-more, one_of, passed-more, told}
use Rattle.waiting_messages.proofs.backlog.name_all.Goals as goal
use Rattle.waiting_messages.proofs.backlog.name_all.Goals.{then-has+in_ok-name_first, else-has}

pub returns-in_err-name_first-clause-first : goal.returns-in_err-name_first-clause-first
returns-in_err-name_first-clause-first c =
    let below : c.loop-queue.queue-index < length c.loop-queue.queue-items = first_of (search rules, grind (arith, common_steps)) in
    let one =
    one_of c.args.queues.now.items c.loop-queue.queue-items c.loop-queue.queue-index c.queue-item.result below c.loop-queue.invariant.size c.loop-queue.invariant.later in
    let some = c.in_err-name_first.ensures.some in
    names-more c.args.naming.now.spread.now c.args.naming.now.node c.args.naming.now.now c.args.share c.args.account.now c.args.queues.now.items
    c.args.named.now c.loop-queue.named c.name_first.new.named (get_or c.loop-queue.queue-items c.loop-queue.queue-index c.queue-item.result)
    (take some.0 (first_due c.args.naming.now.now c.args.share (get_or c.loop-queue.queue-items c.loop-queue.queue-index c.queue-item.result))) c.loop-queue.invariant.first one
    (c.has.ensures.0 c.if-has.true)
    (first-some c.args.naming.now.spread.now c.args.naming.now.node c.args.naming.now.now c.args.share c.args.account.now c.args.queues.now.items (get_or c.loop-queue.queue-items c.loop-queue.queue-index c.queue-item.result) some.0)
    (rw c.seconds.ensures.value at some.1)

pub loop-queue-preserved : goal.loop-queue-preserved
loop-queue-preserved c =
    let below : c.loop-queue.queue-index < length c.loop-queue.queue-items = first_of (search rules, grind (arith, common_steps)) in
    let one =
    one_of c.args.queues.now.items c.loop-queue.queue-items c.loop-queue.queue-index c.queue-item.result below c.loop-queue.invariant.size c.loop-queue.invariant.later in
    let queue : Queue = get_or c.loop-queue.queue-items c.loop-queue.queue-index c.queue-item.result in
    let here : c.loop-queue.queue-index < length c.args.queues.now.items = omega (arith, c.loop-queue.invariant.size, below) in
    let same : queue ≡ get_or c.args.queues.now.items c.loop-queue.queue-index c.queue-item.result =
    c.loop-queue.invariant.later c.loop-queue.queue-index c.queue-item.result (omega arith) in
    let itself : queue ≡ get_or c.loop-queue.queue-items c.loop-queue.queue-index queue =
    get_or_default c.loop-queue.queue-items c.loop-queue.queue-index c.queue-item.result queue below in
    let is_told : (test : NameableTest c.args.naming.now.spread.now c.args.naming.now.node c.args.naming.now.now c.args.account.now) → test.passes queue ≡ c.has.result =
    λ test. told c.args.naming.now.spread.now c.args.naming.now.node c.args.naming.now.now c.args.account.now test queue c.has.result c.has.ensures in
    elim c.if-has.branch [
      | then-has+in_ok-name_first w ↦ record {
        first =
            rw w.named-is
            (names-more c.args.naming.now.spread.now c.args.naming.now.node c.args.naming.now.now c.args.share c.args.account.now c.args.queues.now.items
            c.args.named.now c.loop-queue.named w.name_first.new.named (get_or c.loop-queue.queue-items c.loop-queue.queue-index c.queue-item.result)
            (first_due c.args.naming.now.now c.args.share (get_or c.loop-queue.queue-items c.loop-queue.queue-index c.queue-item.result)) c.loop-queue.invariant.first one (c.has.ensures.0 w.if-has.true)
            (first-all c.args.naming.now.spread.now c.args.naming.now.node c.args.naming.now.now c.args.share c.args.account.now c.args.queues.now.items (get_or c.loop-queue.queue-items c.loop-queue.queue-index c.queue-item.result))
            (rw w.seconds.ensures.value at w.in_ok-name_first.ensures.named));
        named = λ test. rw w.named-is
            (named-more test.passes c.args.naming.now.now c.args.share c.args.queues.now.items c.loop-queue.queue-index queue c.queue-item.result
            c.args.named.now c.loop-queue.named _ true here same (is_told test ∙ w.if-has.true) (c.loop-queue.invariant.named test)
            (rw w.seconds.ensures.value at w.in_ok-name_first.ensures.named));
        passed = λ test. rw w.queue-items-is
            (passed-more test.passes c.args.naming.now.now c.args.share c.args.queues.now.items c.loop-queue.queue-index queue c.queue-item.result
            c.loop-queue.queue-items _ true here itself (is_told test ∙ w.if-has.true) (c.loop-queue.invariant.passed test)
            (rw w.seconds.ensures.value at w.in_ok-name_first.ensures.passed));
        later = λ k d behind. grind (arith, common_steps, w.queue-items-is, c.loop-queue.invariant.later k d);
        size = grind (arith, common_steps, w.queue-items-is, c.loop-queue.invariant.size);
      }
      | else-has w ↦ record {
        first = rw w.named-is c.loop-queue.invariant.first;
        named = λ test. rw w.named-is
            (named-more test.passes c.args.naming.now.now c.args.share c.args.queues.now.items c.loop-queue.queue-index queue c.queue-item.result
            c.args.named.now c.loop-queue.named _ false here same (is_told test ∙ w.if-has.false) (c.loop-queue.invariant.named test)
            refl);
        passed = λ test. rw w.queue-items-is
            (passed-more test.passes c.args.naming.now.now c.args.share c.args.queues.now.items c.loop-queue.queue-index queue c.queue-item.result
            c.loop-queue.queue-items _ false here itself (is_told test ∙ w.if-has.false) (c.loop-queue.invariant.passed test)
            refl);
        later = λ k d behind. grind (arith, common_steps, w.queue-items-is, c.loop-queue.invariant.later k d);
        size = grind (arith, common_steps, w.queue-items-is, c.loop-queue.invariant.size);
      }
    ]
