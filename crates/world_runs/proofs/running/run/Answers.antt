use Rattle.world_runs.proofs.Leading.{all_done, at_once_of, cancelled_of, cancels_of, chosen_of, done_of, goes_on, known_of, later_of, leads_all, no_grant_of}
use Rattle.world_runs.proofs.Leading.{one_fate_of, one_receipt_of, receipts_of, stand_in_runs, stands_of}
use Rattle.world_runs.proofs.Stating.{agree}
use Rattle.world_runs.proofs.running.run.Goals as goal

pub loop-step-preserved : goal.loop-step-preserved
loop-step-preserved c =
    goes_on c.args.world.now c.loop-step.world c.step-answer.new.self c.from_vec-left.result.items c.loop-step.left.items c.pop_front.new.self.items
    c.loop-step.answers.items c.push.new.self.items c.in-Some.step c.step-answer.result _ _
    c.loop-step.invariant c.in-Some.ensures.items c.step-answer.ensures.leads c.in-Ok.ensures.items c.push.ensures.capacity

pub returns-clause-leads : goal.returns-clause-leads
returns-clause-leads c =
    leads_all c.args.world.now c.loop-step.world c.args.steps.items c.loop-step.answers.items (
    done_of c.args.world.now c.loop-step.world c.args.steps.items c.in_ok-copies.copies.items c.loop-step.answers.items c.in_ok-copies.ensures
    (all_done c.args.world.now c.loop-step.world c.in_ok-copies.copies.items c.from_vec-left.result.items c.loop-step.left.items c.pop_front.new.self.items
    c.loop-step.answers.items _ c.from_vec-left.ensures.items c.loop-step.invariant c.in_default.ensures.items c.in_default.ensures.rest))

pub returns-clause-becomes : goal.returns-clause-becomes
returns-clause-becomes c = (
    done_of c.args.world.now c.loop-step.world c.args.steps.items c.in_ok-copies.copies.items c.loop-step.answers.items c.in_ok-copies.ensures
    (all_done c.args.world.now c.loop-step.world c.in_ok-copies.copies.items c.from_vec-left.result.items c.loop-step.left.items c.pop_front.new.self.items
    c.loop-step.answers.items _ c.from_vec-left.ensures.items c.loop-step.invariant c.in_default.ensures.items c.in_default.ensures.rest)).becomes

pub returns-clause-one_fate : goal.returns-clause-one_fate
returns-clause-one_fate c =
    one_fate_of c.args.world.now c.loop-step.world c.args.steps.items c.loop-step.answers.items c.stands.ensures (
    done_of c.args.world.now c.loop-step.world c.args.steps.items c.in_ok-copies.copies.items c.loop-step.answers.items c.in_ok-copies.ensures
    (all_done c.args.world.now c.loop-step.world c.in_ok-copies.copies.items c.from_vec-left.result.items c.loop-step.left.items c.pop_front.new.self.items
    c.loop-step.answers.items _ c.from_vec-left.ensures.items c.loop-step.invariant c.in_default.ensures.items c.in_default.ensures.rest))

pub returns-clause-one_receipt : goal.returns-clause-one_receipt
returns-clause-one_receipt c =
    one_receipt_of c.args.world.now c.loop-step.world c.args.steps.items c.loop-step.answers.items c.stands.ensures (
    done_of c.args.world.now c.loop-step.world c.args.steps.items c.in_ok-copies.copies.items c.loop-step.answers.items c.in_ok-copies.ensures
    (all_done c.args.world.now c.loop-step.world c.in_ok-copies.copies.items c.from_vec-left.result.items c.loop-step.left.items c.pop_front.new.self.items
    c.loop-step.answers.items _ c.from_vec-left.ensures.items c.loop-step.invariant c.in_default.ensures.items c.in_default.ensures.rest))

pub returns-clause-agree : goal.returns-clause-agree
returns-clause-agree c =
    agree c.loop-step.answers.items (one_fate_of c.args.world.now c.loop-step.world c.args.steps.items c.loop-step.answers.items c.stands.ensures (
    done_of c.args.world.now c.loop-step.world c.args.steps.items c.in_ok-copies.copies.items c.loop-step.answers.items c.in_ok-copies.ensures
    (all_done c.args.world.now c.loop-step.world c.in_ok-copies.copies.items c.from_vec-left.result.items c.loop-step.left.items c.pop_front.new.self.items
    c.loop-step.answers.items _ c.from_vec-left.ensures.items c.loop-step.invariant c.in_default.ensures.items c.in_default.ensures.rest)))

pub returns-clause-no_grant : goal.returns-clause-no_grant
returns-clause-no_grant c =
    no_grant_of c.args.world.now c.loop-step.world c.args.steps.items c.loop-step.answers.items c.stands.ensures (
    done_of c.args.world.now c.loop-step.world c.args.steps.items c.in_ok-copies.copies.items c.loop-step.answers.items c.in_ok-copies.ensures
    (all_done c.args.world.now c.loop-step.world c.in_ok-copies.copies.items c.from_vec-left.result.items c.loop-step.left.items c.pop_front.new.self.items
    c.loop-step.answers.items _ c.from_vec-left.ensures.items c.loop-step.invariant c.in_default.ensures.items c.in_default.ensures.rest))

pub returns-clause-cancelled : goal.returns-clause-cancelled
returns-clause-cancelled c =
    cancels_of c.args.world.now c.loop-step.world c.args.steps.items c.loop-step.answers.items c.stands.ensures (
    done_of c.args.world.now c.loop-step.world c.args.steps.items c.in_ok-copies.copies.items c.loop-step.answers.items c.in_ok-copies.ensures
    (all_done c.args.world.now c.loop-step.world c.in_ok-copies.copies.items c.from_vec-left.result.items c.loop-step.left.items c.pop_front.new.self.items
    c.loop-step.answers.items _ c.from_vec-left.ensures.items c.loop-step.invariant c.in_default.ensures.items c.in_default.ensures.rest))

pub returns-clause-stays_cancelled : goal.returns-clause-stays_cancelled
returns-clause-stays_cancelled c =
    cancelled_of c.args.world.now c.loop-step.world c.args.steps.items c.loop-step.answers.items c.stands.ensures (
    done_of c.args.world.now c.loop-step.world c.args.steps.items c.in_ok-copies.copies.items c.loop-step.answers.items c.in_ok-copies.ensures
    (all_done c.args.world.now c.loop-step.world c.in_ok-copies.copies.items c.from_vec-left.result.items c.loop-step.left.items c.pop_front.new.self.items
    c.loop-step.answers.items _ c.from_vec-left.ensures.items c.loop-step.invariant c.in_default.ensures.items c.in_default.ensures.rest))

pub returns-clause-receipts_stand : goal.returns-clause-receipts_stand
returns-clause-receipts_stand c =
    receipts_of c.args.world.now c.loop-step.world c.args.steps.items c.loop-step.answers.items c.stands.ensures (
    done_of c.args.world.now c.loop-step.world c.args.steps.items c.in_ok-copies.copies.items c.loop-step.answers.items c.in_ok-copies.ensures
    (all_done c.args.world.now c.loop-step.world c.in_ok-copies.copies.items c.from_vec-left.result.items c.loop-step.left.items c.pop_front.new.self.items
    c.loop-step.answers.items _ c.from_vec-left.ensures.items c.loop-step.invariant c.in_default.ensures.items c.in_default.ensures.rest))

pub returns-clause-stands : goal.returns-clause-stands
returns-clause-stands c fresh =
    stands_of c.args.world.now c.loop-step.world c.args.steps.items c.loop-step.answers.items c.stands.ensures (
    done_of c.args.world.now c.loop-step.world c.args.steps.items c.in_ok-copies.copies.items c.loop-step.answers.items c.in_ok-copies.ensures
    (all_done c.args.world.now c.loop-step.world c.in_ok-copies.copies.items c.from_vec-left.result.items c.loop-step.left.items c.pop_front.new.self.items
    c.loop-step.answers.items _ c.from_vec-left.ensures.items c.loop-step.invariant c.in_default.ensures.items c.in_default.ensures.rest)) fresh

pub returns-clause-stands_in_its_run : goal.returns-clause-stands_in_its_run
returns-clause-stands_in_its_run c =
    stand_in_runs c.args.world.now c.loop-step.world c.args.steps.items c.loop-step.answers.items (
    done_of c.args.world.now c.loop-step.world c.args.steps.items c.in_ok-copies.copies.items c.loop-step.answers.items c.in_ok-copies.ensures
    (all_done c.args.world.now c.loop-step.world c.in_ok-copies.copies.items c.from_vec-left.result.items c.loop-step.left.items c.pop_front.new.self.items
    c.loop-step.answers.items _ c.from_vec-left.ensures.items c.loop-step.invariant c.in_default.ensures.items c.in_default.ensures.rest))

pub returns-clause-chosen : goal.returns-clause-chosen
returns-clause-chosen c fresh =
    chosen_of c.args.world.now c.loop-step.world c.args.steps.items c.loop-step.answers.items c.stands.ensures (
    done_of c.args.world.now c.loop-step.world c.args.steps.items c.in_ok-copies.copies.items c.loop-step.answers.items c.in_ok-copies.ensures
    (all_done c.args.world.now c.loop-step.world c.in_ok-copies.copies.items c.from_vec-left.result.items c.loop-step.left.items c.pop_front.new.self.items
    c.loop-step.answers.items _ c.from_vec-left.ensures.items c.loop-step.invariant c.in_default.ensures.items c.in_default.ensures.rest)) fresh

pub returns-clause-fresh_answers : goal.returns-clause-fresh_answers
returns-clause-fresh_answers c =
    later_of c.args.world.now c.loop-step.world c.args.steps.items c.loop-step.answers.items c.stands.ensures (
    done_of c.args.world.now c.loop-step.world c.args.steps.items c.in_ok-copies.copies.items c.loop-step.answers.items c.in_ok-copies.ensures
    (all_done c.args.world.now c.loop-step.world c.in_ok-copies.copies.items c.from_vec-left.result.items c.loop-step.left.items c.pop_front.new.self.items
    c.loop-step.answers.items _ c.from_vec-left.ensures.items c.loop-step.invariant c.in_default.ensures.items c.in_default.ensures.rest))

pub returns-clause-known : goal.returns-clause-known
returns-clause-known c =
    known_of c.args.world.now c.loop-step.world c.args.steps.items c.loop-step.answers.items c.stands.ensures (
    done_of c.args.world.now c.loop-step.world c.args.steps.items c.in_ok-copies.copies.items c.loop-step.answers.items c.in_ok-copies.ensures
    (all_done c.args.world.now c.loop-step.world c.in_ok-copies.copies.items c.from_vec-left.result.items c.loop-step.left.items c.pop_front.new.self.items
    c.loop-step.answers.items _ c.from_vec-left.ensures.items c.loop-step.invariant c.in_default.ensures.items c.in_default.ensures.rest))

pub returns-clause-at_once : goal.returns-clause-at_once
returns-clause-at_once c =
    at_once_of c.args.world.now c.loop-step.world c.args.steps.items c.loop-step.answers.items c.stands.ensures (
    done_of c.args.world.now c.loop-step.world c.args.steps.items c.in_ok-copies.copies.items c.loop-step.answers.items c.in_ok-copies.ensures
    (all_done c.args.world.now c.loop-step.world c.in_ok-copies.copies.items c.from_vec-left.result.items c.loop-step.left.items c.pop_front.new.self.items
    c.loop-step.answers.items _ c.from_vec-left.ensures.items c.loop-step.invariant c.in_default.ensures.items c.in_default.ensures.rest))
