-- What is told on the sessions of a script, in the words of its text.
use Rattle.std.specs.Prelude.{◌≡◌, ℕ, List, ◌++◌}
use Rattle.sessions.specs.Session.{Session}
use Rattle.script_text.specs.Prints.{text_at}
use Rattle.script_text.specs.Runner.{Told}

-- Replies went out at a node: they left these sessions, and added the text of what was printed.
pub record AreTold (node : ℕ) (told : Told) (left : List (ℕ × Session)) (before after : List ℕ) : Type 0 where
  pub sessions : left ≡ told.next
  pub text : after ≡ before ++ text_at node told.prints
