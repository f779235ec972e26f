-- A vote that is counted anew is heard, and leaves the list of those that are live as it is.
use Rattle.std.proofs.Common.{◌≡◌, ℕ, false, List, length, Option, Some, None, refl, sym, ap, subst, ◌∙◌}
use Rattle.std.specs.List.Sorted.{IsStrictlySortedBy}
use Rattle.std.specs.Map.{keys_of}
use Rattle.std.specs.Ordering.{nat_cmp}
use Rattle.shelf.specs.Shelved.{value_at, with_value}
use Rattle.synod_acceptor.specs.declared.vote.Vote.{Vote as Cast}
use Rattle.synod_learner.specs.declared.recount.Recount.{Recount}
use Rattle.synod_learner.specs.Hearing.{IsRecountFor, recounted}
use Rattle.node_parts.specs.declared.message.Message.{Message as Filed}
use Rattle.node_parts.specs.Counting.{IsCountable, IsHeardAnewFor, recounted_at, recounted_in, recounted_of}
use Rattle.node_parts.specs.Living.{AreListed}
use Rattle.node_parts.proofs.Hearing.{heard_only}
use Rattle.node_parts.proofs.Living.{changed_length, listed_changed}

pub heard_anew : (old : Filed) (sender : ℕ) (vote : Cast) (found : Option Recount) → IsRecountFor old.learner sender vote found →
    IsHeardAnewFor old sender vote found
heard_anew old sender vote None more = more
heard_anew old sender vote (Some r) is = record {
  fits = is.fits;
  heard = heard_only old sender vote (recounted old.learner r) false refl (sym is.nothing) is.message refl;
}

pub recounted_there : (entries : List (ℕ × Filed)) (id : ℕ) (r : Recount) (m : Filed) → value_at entries id ≡ Some m →
    recounted_at entries id r ≡ with_value entries id (recounted_in m r)
recounted_there entries id r m found = ap (recounted_of entries id r) found

module _ (entries : List (ℕ × Filed)) (live : List ℕ) (room id : ℕ) (r : Recount) (listed : AreListed entries live room)
    (ascends : IsStrictlySortedBy nat_cmp (keys_of entries)) (is : IsCountable entries id r) where
  pub recounted_length : length (recounted_at entries id r) ≡ length entries
  recounted_length =
      ap length (recounted_there entries id r is.message is.kept)
      ∙ changed_length entries live room id is.message (recounted_in is.message r) listed ascends is.kept

  pub listed_anew : AreListed (recounted_at entries id r) live room
  listed_anew =
      subst (λ (es : List (ℕ × Filed)). AreListed es live room) (sym (recounted_there entries id r is.message is.kept))
      (listed_changed entries live room id is.message (recounted_in is.message r) listed ascends is.kept
      (λ settled. record { decided = settled.decided; rests = settled.rests }))
