use Rattle.std.proofs.Common.{◌≡◌, ◌∙◌, Some, sym, ap, subst}
use Rattle.std.specs.List.{list_any}
use Rattle.mc_model.specs.message.Submission.{Submission}
use Rattle.mc_model.specs.message.Chain.{taken_in}
use Rattle.node_model.specs.Starts.{cancels}
use Rattle.waiting_requests.specs.Queues.{timely}
use Rattle.waiting_requests.specs.Waiting.{held_in}
use Rattle.tick_rules.specs.Dues.{IsDueBehind}
use Rattle.tick_rules.specs.Reaching.{reached_by}
use Rattle.tick_rules.specs.declared.attempted.Attempted.{Attempted}
use Rattle.node_parts.specs.Reaching.{reach_of}
use Rattle.node_parts.proofs.Ticks.{ruled_behind}
use Rattle.node_parts.proofs.message.Message.ruling_behind.Goals as goal

pub returns-clause-rule : goal.returns-clause-rule
returns-clause-rule c setup k rest =
    let at = c.args.at.now in
    let reach = reach_of c.args.reach.now in
    let chain = c.args.chain.now in
    let held = timely at.clock (held_in c.args.queue.now) in
    let cancelled = c.cancels-cancelled.result in
    let reached = c.reached-reached.result in
    let due = subst (λ (a : Attempted). IsDueBehind at a cancelled reached chain.decrees (Some c.in-Some.due)) c.at.ensures c.in-Some.ensures.due in
    let same : (taken : Submission) → taken_in chain.decrees ≡ Some taken → c.submission-taken.result.now ≡ taken =
    λ taken is. let both : Some c.submission-taken.result.now ≡ Some taken = sym c.submission-taken.ensures ∙ is in cc in
    let by : (taken : Submission) → taken_in chain.decrees ≡ Some taken → cancelled ≡ list_any (cancels chain.id taken) held =
    λ taken is. (rw c.id.ensures at c.cancels-cancelled.ensures) ∙ ap (λ (message : Submission). list_any (cancels chain.id message) held) (same taken is) in
    let reaches : (taken : Submission) → taken_in chain.decrees ≡ Some taken → reached ≡ reached_by reach chain.id taken =
    λ taken is. (rw c.id-2.ensures at c.reached-reached.ensures) ∙ ap (reached_by reach chain.id) (same taken is) in
    ruled_behind setup k held reach chain.id c.args.self.now at rest chain.decrees c.place-place.result cancelled reached
    c.in-Some.due c.in_ok-chain.chain c.given_up-given_up.result
    c.place-place.ensures.place by reaches due c.in-Some.ensures.may c.in_ok-chain.ensures.decrees c.given_up-given_up.ensures.place
