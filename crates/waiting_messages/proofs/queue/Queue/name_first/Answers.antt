use Rattle.std.proofs.Common.{◌≡◌, ◌+◌, ℕ, List, ap, ◌∙◌, rules, arith, take}
use Rattle.std.proofs.lemmas.Grind.{common_steps}
use Rattle.std.specs.Prelude.{Result, Ok, Err, OnErr}
use Rattle.waiting_messages.specs.Queues.{all_named, first_due}
use Rattle.waiting_messages.proofs.queue.Queue.name_first.Goals as goal

pub returns-in_err-pass-clause-some : goal.returns-in_err-pass-clause-some
returns-in_err-pass-clause-some c =
    let items : c.deref-due-items.result.now ≡ first_due c.args.now c.args.most c.args.self.now = c.deref-due-items.ensures.value ∙ c.in_ok-first.ensures in
    let put : c.put.new.self ≡ all_named c.args.named.now (take (c.loop-due.due-index + 1) c.deref-due-items.result.now) =
    first_of (search rules, grind (arith, common_steps)) in
    if_err c.from_residual-in_err-pass.result _
    (c.loop-due.due-index + 1, put ∙ ap (λ (dues : List (ℕ × ℕ)). all_named c.args.named.now (take (c.loop-due.due-index + 1) dues)) items)
  where
    if_err : {A E : Type 0} (r : Result A E) (P : Type 0) → P → OnErr r P
    if_err (Ok x) P h = tt
    if_err (Err x) P h = h
