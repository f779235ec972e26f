-- What a site keeps, and loses.
use Rattle.std.specs.Prelude.{◌≡◌, ℕ, List, [], ◌++◌}
use Rattle.std.specs.Ordering.{nat_cmp}
use Rattle.std.specs.Map.{remove_entry}
use Rattle.std.specs.BTreeMap.{is_at}
use Rattle.esme_service.specs.Sessions.{put_at, session_in}
use Rattle.script_text.specs.Prints.{text_at}
use Rattle.script_text.specs.Runner.{gives_up, gone_prints}
use Rattle.script_text.specs.World.{World}
use Rattle.script_text.specs.Runner.{Runner}
use Rattle.script_site.specs.Sites.{IsRunning, Placed}
use Rattle.script_site.specs.declared.site.Site.{Site}

-- no session is connected, no receipt waits
pub record IsEmpty (node : ℕ) (site : Site) : Type 0 where
  pub node_is : site.node ≡ node
  pub sessions : site.service.sessions ≡ []
  pub streams : site.streams ≡ []
  pub waiting : site.service.waiting ≡ []

-- it is so now, and the line of each session was added that it is gone
pub record HasLeft (old new : Site) (before after : List ℕ) : Type 0 where
  pub empty : IsEmpty old.node new
  pub text : after ≡ before ++ text_at old.node (gone_prints old.service.sessions)

-- a session is connected, and its stream is at hand
pub record HasOpened (old : Site) (number : ℕ) (new : Site) : Type 0 where
  pub node_is : new.node ≡ old.node
  pub sessions : new.service.sessions ≡ put_at old.service.sessions number (session_in old.service.sessions number)
  pub streams : new.streams ≡ remove_entry (is_at (nat_cmp number)) old.streams
  pub waiting : new.service.waiting ≡ old.service.waiting

-- what was pushed and waits too long at a moment was given up
abbrev pub HasGivenUp : ℕ → ℕ → Placed → Placed → Type 0
HasGivenUp home now old new = (w : World) (runner : Runner) → IsRunning home old w runner → IsRunning home new w (gives_up runner now).next
