use Rattle.std.proofs.Common.{◌≡◌, false, ◌+◌, ◌++◌, length}
use Rattle.std.specs.Prelude.{is_none}
use Rattle.script_text.specs.Pushes.{session_at}
use Rattle.script_text.specs.Settings.{settings_of}
use Rattle.script_site.proofs.Streaming.{Proceeds}
use Rattle.script_site.proofs.site.Site.octets.Given as goal

abbrev pub invariant-loop-count : goal.invariant-loop-count
invariant-loop-count l =
    (is_none (session_at l.self.service.sessions l.number) ≡ false)
    × Proceeds l.fn.self.node (settings_of l.config) l.number l.octets (record { world = l.fn.world; site = l.fn.self }) l.fn.text.items
    (record { world = l.world; site = l.self }) (l.framer ++ l.rest) l.text.items

abbrev pub decreases-loop-count : goal.decreases-loop-count
decreases-loop-count l = length l.framer + length l.rest
