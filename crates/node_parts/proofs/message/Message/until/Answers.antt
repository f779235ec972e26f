use Rattle.std.proofs.Common.{◌≡◌, ◌∙◌, ℕ, Some, sym, ap, arith}
use Rattle.std.specs.Option.{option_copied}
use Rattle.node_model.specs.Starts.{follow}
use Rattle.delivery.specs.Targets.{is_up}
use Rattle.node_parts.specs.Reaching.{reach_with}
use Rattle.node_parts.specs.Sleeping.{sleep_behind}
use Rattle.node_parts.proofs.Sleeping.{mapped_none, sleep_is, sleeps_by, sleeps_so, sleeps_until}
use Rattle.node_parts.proofs.message.Message.until.Goals as goal

pub returns-in-Some-clause-until : goal.returns-in-Some-clause-until
returns-in-Some-clause-until c =
    let me = c.args.me.now in
    let reach = reach_with (is_up c.args.up.now) c.args.tries in
    let m = c.args.self.now in
    sleeps_by me reach c.args.id m c.running.result (option_copied c.follow.result) c.until_due.result c.running.ensures (sym c.if-is_some.ensures)
    (c.follow.ensures.start ∙ (λ i. follow (c.known-known.ensures.known i) (c.tell.ensures i))) (mapped_none _ c.follow.result (sym c.if-is_some-2.ensures))
    (sleep_is me reach c.args.id m.attempts c.in-Some.chain.now.decrees c.place.result c.at.result c.reached_with-reached.result c.until_due.result
    c.submission.result.now c.place.ensures.place c.at.ensures c.submission.ensures (c.reached_with-reached.ensures c.args.id) c.until_due.ensures.until
    ∙ ap (sleep_behind me reach c.args.id m.attempts) c.in-Some.ensures.known)

pub returns-in-Some-clause-asleep : goal.returns-in-Some-clause-asleep
returns-in-Some-clause-asleep c =
    sleeps_so c.args.me.now (reach_with (is_up c.args.up.now) c.args.tries) c.args.id c.args.self.now c.until_due.result (returns-in-Some-clause-until c)

pub returns-in-None-clause-asleep : goal.returns-in-None-clause-asleep
returns-in-None-clause-asleep c =
    let me = c.args.me.now in
    let reach = reach_with (is_up c.args.up.now) c.args.tries in
    let m = c.args.self.now in
    let last : c.later.result ≡ 4102444799 = omega (arith, c.later.ensures, c.least.ensures) in
    sleeps_until me reach c.args.id m c.later.result
    (sym (sleeps_by me reach c.args.id m c.running.result (option_copied c.follow.result) (Some c.later.result) c.running.ensures (sym c.if-is_some.ensures)
    (c.follow.ensures.start ∙ (λ i. follow (c.known-known.ensures.known i) (c.tell.ensures i))) (mapped_none _ c.follow.result (sym c.if-is_some-2.ensures))
    (ap (λ (n : ℕ). Some n) last ∙ ap (sleep_behind me reach c.args.id m.attempts) c.in-None.ensures.known)))
