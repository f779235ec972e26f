use Rattle.std.proofs.Common.{drop, map}
use Rattle.std.specs.Prelude.{◌↔◌}
use Rattle.journal_parts.specs.GoingOn.{AreSound}
use Rattle.journal_parts.specs.Members.{posted}
use Rattle.journal_parts.proofs.going_on.are_sound.Given as goal

abbrev pub invariant-loop-post : goal.invariant-loop-post
invariant-loop-post g l = AreSound (map posted (drop l.post-index l.posts)) ↔ AreSound (map posted l.posts)
