use Rattle.std.proofs.Common.{◌++◌, None, Some, ◌∙◌, sym, ap, arith}
use Rattle.std.proofs.lemmas.List.{append-nil}
use Rattle.esme_service.specs.Pushes.{accounts_up, receiver_of}
use Rattle.esme_service.proofs.Receivers.{accounts_from, all_accounts, no_account, no_account_found, one_looked_at}
use Rattle.esme_service.proofs.receiving.accounts_up.Goals.{in-Some+in_ok-copy+in_ok-push, in_default}
use Rattle.esme_service.proofs.receiving.accounts_up.Goals as goal

pub loop-number-init : goal.loop-number-init
loop-number-init c =
    ap (λ found. found ++ accounts_from c.args.sessions.now.entries 1) c.new-accounts.ensures.items ∙ all_accounts c.args.sessions.now.entries

pub loop-number-preserved : goal.loop-number-preserved
loop-number-preserved c =
    elim c.match-receiver_of.branch [
      | in-Some+in_ok-copy+in_ok-push w ↦
          one_looked_at c.args.sessions.now.entries c.loop-number.number-counter (Some w.in_ok-copy.field-0) c.loop-number.accounts.items
          c.match-receiver_of.accounts.items
          (accounts_up c.args.sessions.now.entries) (omega (arith, c.loop-number-test.true, c.behind_last-end.ensures.most)) c.loop-number.invariant
          (ap Some w.in_ok-copy.ensures ∙ w.in-Some.ensures ∙ ap receiver_of c.get.ensures.value) ((λ i. (w.accounts-is i).items) ∙ w.in_ok-push.ensures.items)
      | in_default w ↦
          one_looked_at c.args.sessions.now.entries c.loop-number.number-counter None c.loop-number.accounts.items c.match-receiver_of.accounts.items
          (accounts_up c.args.sessions.now.entries) (omega (arith, c.loop-number-test.true, c.behind_last-end.ensures.most)) c.loop-number.invariant
          (w.in_default.ensures ∙ ap receiver_of c.get.ensures.value) ((λ i. (w.accounts-is i).items) ∙ sym (append-nil c.loop-number.accounts.items))
    ]

pub returns-clause-up : goal.returns-clause-up
returns-clause-up c =
    sym (append-nil c.loop-number.accounts.items)
    ∙ ap (λ rest. c.loop-number.accounts.items ++ rest) (sym (no_account c.args.sessions.now.entries c.loop-number.number-counter
    (λ other from most. c.behind_last-end.ensures.gone other (omega (arith, c.loop-number-test.false, from)) most)))
    ∙ c.loop-number.invariant

pub returns-in_err-copy-clause-none : goal.returns-in_err-copy-clause-none
returns-in_err-copy-clause-none c = λ none.
    absurd (no_account_found c.args.sessions.now.entries c.loop-number.number-counter c.in-Some.account.now c.loop-number.accounts.items
    (accounts_up c.args.sessions.now.entries)
    (omega (arith, c.loop-number-test.true, c.behind_last-end.ensures.most)) c.loop-number.invariant (c.in-Some.ensures ∙ ap receiver_of c.get.ensures.value) none)

pub returns-in_err-push-clause-none : goal.returns-in_err-push-clause-none
returns-in_err-push-clause-none c = λ none.
    absurd (no_account_found c.args.sessions.now.entries c.loop-number.number-counter c.in-Some.account.now c.loop-number.accounts.items
    (accounts_up c.args.sessions.now.entries)
    (omega (arith, c.loop-number-test.true, c.behind_last-end.ensures.most)) c.loop-number.invariant (c.in-Some.ensures ∙ ap receiver_of c.get.ensures.value) none)
