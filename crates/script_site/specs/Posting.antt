-- Receipts that go out on the sessions of a script, in the words of its text.
use Rattle.std.specs.Prelude.{◌≡◌, ℕ, List, ◌++◌}
use Rattle.esme_service.specs.Service.{Service}
use Rattle.script_text.specs.Prints.{text_at}
use Rattle.script_text.specs.Receipts.{Posted}
pub use Rattle.esme_site.specs.Puts.{mail_in}

-- Receipts went out at a node: they left this service, and added the text of what was printed.
pub record IsPosted (node : ℕ) (posted : Posted) (left : Service) (before after : List ℕ) : Type 0 where
  pub mail : mail_in left ≡ posted.next
  pub text : after ≡ before ++ text_at node posted.prints
