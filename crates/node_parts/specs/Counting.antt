-- A vote on a message that is counted anew.
use Rattle.std.specs.Prelude.{◌≡◌, ◌⊎◌, ℕ, true, false, List, Option, Some, None}
use Rattle.node_model.specs.Learner.{heard, makes_known}
use Rattle.synod_acceptor.specs.declared.vote.Vote.{Vote as Cast}
use Rattle.synod_acceptor.specs.Votes.{slot_in, vote_of}
use Rattle.synod_learner.specs.declared.recount.Recount.{Recount}
use Rattle.synod_learner.specs.Counts.{IsUncounted}
use Rattle.synod_learner.specs.Hearing.{IsRecount, message_in, recounted}
use Rattle.shelf.specs.Shelved.{value_at, with_value}
use Rattle.node_parts.specs.declared.message.Message.{Message as Filed}
use Rattle.node_parts.specs.Messages.{IsHeard}

abbrev pub recounted_in : Filed → Recount → Filed
recounted_in m r = record m { learner = recounted m.learner r }

-- so the vote of which a node tells is counted, and nothing becomes known
pub record IsHeardAnew (old : Filed) (sender : ℕ) (vote : Cast) (r : Recount) : Type 0 where
  pub fits : IsRecount old.learner r
  pub heard : IsHeard old sender vote (recounted_in old r) false

-- how it is counted; not so, if it is the first of its chain and ballot, or makes its chain known
abbrev pub IsHeardAnewFor : Filed → ℕ → Cast → Option Recount → Type 0
IsHeardAnewFor old sender vote None =
    IsUncounted old.learner.counts (slot_in vote) (vote_of vote)
    ⊎ (makes_known old.learner.nodes (heard (message_in old.learner vote.chain.id) sender (vote_of vote)) (vote_of vote) ≡ true)
IsHeardAnewFor old sender vote (Some r) = IsHeardAnew old sender vote r

-- ---- among the messages that are kept

abbrev pub recounted_of : List (ℕ × Filed) → ℕ → Recount → Option Filed → List (ℕ × Filed)
recounted_of entries id r None = entries
recounted_of entries id r (Some m) = with_value entries id (recounted_in m r)

abbrev pub recounted_at : List (ℕ × Filed) → ℕ → Recount → List (ℕ × Filed)
recounted_at entries id r = recounted_of entries id r (value_at entries id)

-- the message of this id is kept, and has that count
pub record IsCountable (entries : List (ℕ × Filed)) (id : ℕ) (r : Recount) : Type 0 where
  pub message : Filed
  pub kept : value_at entries id ≡ Some message
  pub fits : IsRecount message.learner r
