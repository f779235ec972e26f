-- Replies go out, and then receipts.
use Rattle.std.proofs.Common.{◌≡◌, ℕ, List, [], ◌++◌, Result, Ok, Err, sym, ap, ◌∙◌, subst}
use Rattle.std.specs.Result.{result_and}
use Rattle.std.specs.Prelude.{OnOk}
use Rattle.std.specs.declared.alloc.AllocError.{AllocError}
use Rattle.mc_model.specs.node.Outputs.{Receipt, Reply}
use Rattle.esme_service.specs.Service.{Service}
use Rattle.script_text.specs.Prints.{Print}
use Rattle.script_text.specs.Receipts.{Mail, all_posted}
use Rattle.script_text.specs.Runner.{told}
use Rattle.esme_site.specs.Puts.{given_out, mail_in}

module _ (now : ℕ) (service between : Service) (replies : List Reply) (receipts : List Receipt)
    (sessions : between.sessions ≡ (told service.sessions replies).next) (waiting : between.waiting ≡ service.waiting) where
  abbrev its_mail : Mail
  its_mail = record { sessions = (told service.sessions replies).next; waiting = service.waiting }

  mails : mail_in between ≡ its_mail
  mails = λ i. record { sessions = sessions i; waiting = waiting i }

  pub mail_given : (first last both : Result (Unit {0}) AllocError) (left : Service) → both ≡ result_and first last
      → OnOk last (mail_in left ≡ (all_posted now (mail_in between) receipts).next)
      → OnOk both (mail_in left ≡ (given_out now service replies receipts).next)
  mail_given (Err fault) last both left and mail =
      subst (λ (b : Result (Unit {0}) AllocError). OnOk b (mail_in left ≡ (given_out now service replies receipts).next)) (sym and) tt
  mail_given (Ok done) (Err fault) both left and mail =
      subst (λ (b : Result (Unit {0}) AllocError). OnOk b (mail_in left ≡ (given_out now service replies receipts).next)) (sym and) tt
  mail_given (Ok done) (Ok too) both left and mail =
      subst (λ (b : Result (Unit {0}) AllocError). OnOk b (mail_in left ≡ (given_out now service replies receipts).next)) (sym and)
      (mail ∙ ap (λ (m : Mail). (all_posted now m receipts).next) mails)

  module _ {O : Type 0} (puts : O → List Print → List ℕ → O → Type 0)
      (follows : (before between after : O) (first last : List Print) (lost more : List ℕ) → puts before first lost between → puts between last more after
      → puts before (first ++ last) (lost ++ more) after) where
    pub prints_given : (first last both : Result (Unit {0}) AllocError) (before at after : O) → both ≡ result_and first last
        → OnOk first (puts before (told service.sessions replies).prints [] at) → OnOk last (puts at (all_posted now (mail_in between) receipts).prints [] after)
        → OnOk both (puts before (given_out now service replies receipts).prints [] after)
    prints_given (Err fault) last both before at after and one two =
        subst (λ (b : Result (Unit {0}) AllocError). OnOk b (puts before (given_out now service replies receipts).prints [] after)) (sym and) tt
    prints_given (Ok done) (Err fault) both before at after and one two =
        subst (λ (b : Result (Unit {0}) AllocError). OnOk b (puts before (given_out now service replies receipts).prints [] after)) (sym and) tt
    prints_given (Ok done) (Ok too) both before at after and one two =
        subst (λ (b : Result (Unit {0}) AllocError). OnOk b (puts before (given_out now service replies receipts).prints [] after)) (sym and)
        (follows before at after (told service.sessions replies).prints (all_posted now its_mail receipts).prints [] [] one
        (subst (λ (m : Mail). puts at (all_posted now m receipts).prints [] after) mails two))
