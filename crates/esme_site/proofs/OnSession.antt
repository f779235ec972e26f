-- What waits for the account of a session goes out.
use Rattle.std.proofs.Common.{◌≡◌, ℕ, suc, ◌==◌, Bool, true, false, List, [], ◌∷◌, length, Option, Some, None, Result, Ok, Err}
use Rattle.std.proofs.Common.{refl, sym, ap, ◌∙◌, subst, arith, inl, inr}
use Rattle.std.proofs.lemmas.Bool.{eqb-true}
use Rattle.std.specs.Prelude.{OnErr, OnOk, not}
use Rattle.std.specs.declared.alloc.AllocError.{AllocError}
use Rattle.mc_model.specs.node.Outputs.{Receipt}
use Rattle.esme_service.specs.Service.{Service}
use Rattle.esme_service.specs.Sessions.{account_at}
use Rattle.script_text.specs.Left.{rests}
use Rattle.script_text.specs.Prints.{Print}
use Rattle.script_text.specs.Receipts.{Mail, Posted, goes_out_up_to, posted_for, posted_for_any}
use Rattle.esme_site.specs.Puts.{HasSettled, SettlesOrStays, mail_in, posted_on}

none_there : (waiting : List Receipt) → not (length waiting == 0) ≡ false → waiting ≡ []
none_there [] none = refl
none_there (receipt ∷ waiting) none = absurd (by_test (suc (length waiting) == 0) refl none)
  where
    by_test : (b : Bool) → (suc (length waiting) == 0) ≡ b → not b ≡ false → ⊥
    by_test true is some = let same : suc (length waiting) ≡ 0 = eqb-true _ _ is in omega (arith, same)
    by_test false is some = cc

none_posted : (now : ℕ) (mail : Mail) (account : Option (List ℕ)) → mail.waiting ≡ [] → posted_for_any now mail account ≡ rests mail
unfolding goes_out_up_to
none_posted now mail None none = refl
none_posted now mail (Some account) none = ap (λ (waiting : List Receipt). goes_out_up_to (length waiting) now account mail) none

module _ (now : ℕ) (service : Service) (number : ℕ) where
  abbrev goes_out_on : Posted
  goes_out_on = posted_on now service number

  -- no receipt waits
  pub idle_on : (has : Bool) → has ≡ not (length service.waiting == 0) → has ≡ false → goes_out_on ≡ rests (mail_in service)
  idle_on has is idle = none_posted now (mail_in service) (account_at service.sessions number) (none_there service.waiting (sym is ∙ idle))

  -- nobody is bound there
  pub unbound_on : None ≡ account_at service.sessions number → goes_out_on ≡ rests (mail_in service)
  unbound_on nobody = ap (posted_for_any now (mail_in service)) (sym nobody)

  pub same_mail : goes_out_on ≡ rests (mail_in service) → mail_in service ≡ goes_out_on.next
  same_mail none = ap (λ (p : Posted). p.next) (sym none)

  pub bound_on : (account : List ℕ) → Some account ≡ account_at service.sessions number → posted_for now (mail_in service) account ≡ goes_out_on
  bound_on account bound = ap (posted_for_any now (mail_in service)) bound

  module _ {O : Type 0} (puts : O → List Print → List ℕ → O → Type 0) (before after : O) where
    pub puts_none : goes_out_on ≡ rests (mail_in service) → puts before [] [] after → puts before goes_out_on.prints [] after
    puts_none none did = subst (λ (prints : List Print). puts before prints [] after) (ap (λ (p : Posted). p.prints) (sym none)) did

    -- nothing changed
    pub stays_on : (r : Result (Unit {0}) AllocError) → puts before [] [] after → OnErr r (SettlesOrStays puts goes_out_on service before service after)
    stays_on (Ok done) did = tt
    stays_on (Err fault) did = inr (refl, did)

    module _ (r : Result (Unit {0}) AllocError) (left : Service) (account : List ℕ) (bound : Some account ≡ account_at service.sessions number) where
      pub puts_bound : OnOk r (puts before (posted_for now (mail_in service) account).prints [] after) → OnOk r (puts before goes_out_on.prints [] after)
      puts_bound did = subst (λ (p : Posted). OnOk r (puts before p.prints [] after)) (bound_on account bound) did

      pub mail_bound : mail_in left ≡ (posted_for now (mail_in service) account).next → OnOk r (mail_in left ≡ goes_out_on.next)
      mail_bound mail = by_result r
        where
          by_result : (r : Result (Unit {0}) AllocError) → OnOk r (mail_in left ≡ goes_out_on.next)
          by_result (Ok done) = mail ∙ ap (λ (p : Posted). p.next) (bound_on account bound)
          by_result (Err fault) = tt

      pub settles_bound : mail_in left ≡ (posted_for now (mail_in service) account).next
          → OnErr r (HasSettled puts (posted_for now (mail_in service) account).prints before after)
          → OnErr r (SettlesOrStays puts goes_out_on service before left after)
      settles_bound mail settled =
          subst (λ (p : Posted). OnErr r (SettlesOrStays puts p service before left after)) (bound_on account bound) (by_result r settled)
        where
          by_result : (r : Result (Unit {0}) AllocError) → OnErr r (HasSettled puts (posted_for now (mail_in service) account).prints before after)
              → OnErr r (SettlesOrStays puts (posted_for now (mail_in service) account) service before left after)
          by_result (Ok done) settled = tt
          by_result (Err fault) settled = inl (mail, settled)
