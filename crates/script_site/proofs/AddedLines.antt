-- What is put is added to the lines of a node.
use Rattle.std.proofs.Common.{◌≡◌, ℕ, List, [], ◌∷◌, ◌++◌, Option, Some, None, Result, Ok, Err, refl, sym, ap, ◌∙◌, subst}
use Rattle.std.proofs.lemmas.List.{append-nil}
use Rattle.std.specs.Prelude.{OnOk, option_map}
use Rattle.std.specs.declared.alloc.AllocError.{AllocError}
use Rattle.receipts.specs.Texts.{Report}
use Rattle.sessions.specs.Session.{Session}
use Rattle.esme_service.specs.Sendings.{report_octets}
use Rattle.esme_service.specs.Service.{Service}
use Rattle.esme_service.specs.declared.pushed_on.PushedOn.{PushedOn}
use Rattle.esme_service.specs.declared.sending.Sending.{Sending}
use Rattle.esme_service.specs.declared.sending.Sending.TheVariants as sendings
use Rattle.script_text.specs.Prints.{Print, text_at}
use Rattle.script_text.specs.Receipts.{Posted}
use Rattle.script_text.specs.Runner.{Told}
use Rattle.esme_site.specs.Puts.{ArePrintsOf, report_prints}
use Rattle.script_site.specs.Posting.{IsPosted, mail_in}
use Rattle.script_site.specs.Told.{AreTold}
use Rattle.script_site.specs.Written.{Adds, IsWritten, line_of}

module _ (r : Result (Unit {0}) AllocError) (node one two : ℕ) (before from to after : List ℕ) (here : one ≡ node) (begins : from ≡ before)
    (ends : after ≡ to) where
  pub text_so : (prints : List Print) → Adds one from prints two to → after ≡ before ++ text_at node prints
  text_so prints did = ends ∙ did.text ∙ (λ i. begins i ++ text_at (here i) prints)

  pub are_told : (told : Told) (left : List (ℕ × Session)) → left ≡ told.next → OnOk r (Adds one from told.prints two to)
      → OnOk r (AreTold node told left before after)
  are_told told left sessions did = by_result r did
    where
      by_result : (r : Result (Unit {0}) AllocError) → OnOk r (Adds one from told.prints two to) → OnOk r (AreTold node told left before after)
      by_result (Ok done) did = record { sessions = sessions; text = text_so told.prints did }
      by_result (Err fault) did = tt

  pub is_posted : (posted : Posted) (left : Service) → OnOk r (mail_in left ≡ posted.next) → OnOk r (Adds one from posted.prints two to)
      → OnOk r (IsPosted node posted left before after)
  is_posted posted left mail did = by_result r mail did
    where
      by_result : (r : Result (Unit {0}) AllocError) → OnOk r (mail_in left ≡ posted.next) → OnOk r (Adds one from posted.prints two to)
          → OnOk r (IsPosted node posted left before after)
      by_result (Ok done) mail did = record { mail = mail; text = text_so posted.prints did }
      by_result (Err fault) mail did = tt

pub on_any : (r : Result (Unit {0}) AllocError) (A : Type 0) → A → OnOk r A
on_any (Ok done) A a = a
on_any (Err fault) A a = tt
