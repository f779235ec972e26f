use Rattle.std.proofs.Common.{◌≡◌, List, ap, refl, sym, ◌∙◌}
use Rattle.std.specs.Prelude.{Result, Ok, Err, OnOk, count_by}
use Rattle.waiting_messages.specs.Backlogs.{Backlog}
use Rattle.waiting_messages.specs.Queues.{Queue}
use Rattle.waiting_messages.specs.Named.{share_of}
use Rattle.waiting_messages.proofs.Firsts.{named-none, passed-none, shares_of}
use Rattle.waiting_messages.proofs.backlog.Backlog.name.Goals as goal

pub returns-then-share-eq0-clause-shares : goal.returns-then-share-eq0-clause-shares
returns-then-share-eq0-clause-shares c =
    let there : c.deref.result.now ≡ c.args.self.now.queues = c.deref.ensures.value ∙ ap (λ (backlog : Backlog). backlog.queues) c.self.view_is in
    shares_of c.args.naming.now.spread.now c.args.naming.now.node c.args.naming.now.now c.args.most 0 c.args.account.now c.args.self.now.queues c.args.self.now.queues
    c.args.named.now c.args.named.now
    (λ test. sym c.if-share-eq0.true ∙ c.share-share.ensures.share test ∙ ap (λ (queues : List Queue). share_of c.args.most (count_by test.passes queues)) there)
    (λ test. rw (named-none test.passes c.args.naming.now.now c.args.self.now.queues) refl)
    (λ test. rw (passed-none test.passes c.args.naming.now.now c.args.self.now.queues) refl)

pub returns-else-is_err-clause-shares : goal.returns-else-is_err-clause-shares
returns-else-is_err-clause-shares c =
    let within : c.self.inside.queues.items ≡ c.args.self.now.queues = ap (λ (backlog : Backlog). backlog.queues) c.self.view_is in
    let there : c.deref.result.now ≡ c.args.self.now.queues = c.deref.ensures.value ∙ within in
    on_both c.name_all-is_named.result _ _ _ c.name_all-is_named.ensures.named c.name_all-is_named.ensures.passed
    (λ named passed. shares_of c.args.naming.now.spread.now c.args.naming.now.node c.args.naming.now.now c.args.most c.share-share.result c.args.account.now
    c.args.self.now.queues c.name_all-is_named.new.queues.items c.args.named.now c.name_all-is_named.new.named
    (λ test. rw (← there) (c.share-share.ensures.share test)) (λ test. rw (← within) (named test)) (λ test. rw (← within) (passed test)))
  where
    on_both : {A E : Type 0} (r : Result A E) (P Q R : Type 0) → OnOk r P → OnOk r Q → (P → Q → R) → OnOk r R
    on_both (Ok x) P Q R one other joined = joined one other
    on_both (Err x) P Q R one other joined = tt
