use Rattle.std.proofs.Common.{List, map, ap, subst, ◌∙◌, IsTrue}
use Rattle.std.specs.Prelude.{◌↔◌}
use Rattle.journal_parts.specs.declared.post.Post.{Post}
use Rattle.journal_parts.specs.Closing.{Closed}
use Rattle.journal_parts.specs.GoingOn.{AreSound}
use Rattle.journal_parts.specs.Members.{Posted, posted}
use Rattle.journal_parts.proofs.journal.Journal.is_sound.Goals as goal

pub returns : goal.returns
returns g c =
    subst (λ (ps : List (Posted _)). IsTrue c.are_sound.result ↔ AreSound ps)
    (ap (λ (ps : List (Post _)). map posted ps) c.as_slice.ensures.value ∙ ap (λ (j : Closed _). j.posts) c.self.view_is) c.are_sound.ensures
