-- The sessions of a runner, as the one node has them: one is served, and no other changes.
use Rattle.std.proofs.Common.{◌≡◌, ℕ, List, Option, Some, inl, inr, sym, ◌∙◌, ap, subst}
use Rattle.std.specs.List.{AllByRecursion}
use Rattle.std.specs.Ordering.{nat_cmp}
use Rattle.std.specs.Map.{lookup, remove_entry, set_value}
use Rattle.std.specs.BTreeMap.{insert_entry, is_at}
use Rattle.std.proofs.lemmas.Bool.{cases_eq}
use Rattle.node_model.proofs.Places.{elsewhere, here}
use Rattle.sessions.specs.Session.{Session}
use Rattle.script_text.specs.Runner.{Owned, session_in, session_or_opened}
use Rattle.calm_laws.proofs.Entries.{AreApart, IsNot, all_to, insert_all, insert_apart, remove_all, remove_apart, remove_elsewhere}
use Rattle.calm_laws.proofs.Entries.{set_all, set_apart, set_elsewhere, set_here}
use Rattle.calm_laws.proofs.Plain.{holding}
use Rattle.calm_laws.proofs.Standing.{requests_at}

-- the session of a number as the runner has it, by the sessions of the one node and the request that waits
abbrev pub ours_at : List (ℕ × Session) → Option Owned → ℕ → Session
ours_at theirs holds number = holding (session_in theirs number) (requests_at holds number)

abbrev pub SessionIs : List (ℕ × Session) → Option Owned → List (ℕ × Session) → ℕ → Type 0
SessionIs theirs holds connected number = session_in connected number ≡ ours_at theirs holds number

abbrev pub EntryIs : List (ℕ × Session) → Option Owned → ℕ × Session → Type 0
EntryIs theirs holds entry = entry.1 ≡ ours_at theirs holds entry.0

pub record AreConnected (theirs : List (ℕ × Session)) (holds : Option Owned) (connected : List (ℕ × Session)) : Type 0 where
  pub each : (number : ℕ) → SessionIs theirs holds connected number
  pub entries : AllByRecursion (EntryIs theirs holds) connected
  pub distinct : AreApart connected

-- the session of a number changes, and of each other session the one node has what it had
module _ (before now : List (ℕ × Session)) (owned holds : Option Owned) (connected : List (ℕ × Session)) (number : ℕ) (session : Session)
    (is : session ≡ ours_at now holds number)
    (as_before : (other : ℕ) → (number ≡ other → ⊥) → ours_at before owned other ≡ ours_at now holds other)
    (were : AreConnected before owned connected) where
  each_is : (changed : List (ℕ × Session)) → session_in changed number ≡ session →
      ((other : ℕ) → (number ≡ other → ⊥) → session_in changed other ≡ session_in connected other) → (other : ℕ) → SessionIs now holds changed other
  each_is changed here_is elsewhere_is other = elim (cases_eq number other) [
    | inl same ↦ subst (SessionIs now holds changed) same (here_is ∙ is)
    | inr differ ↦ elsewhere_is other differ ∙ were.each other ∙ as_before other differ
  ]

  -- ---- it was taken out, and is put in again

  abbrev removed : List (ℕ × Session)
  removed = remove_entry (is_at (nat_cmp number)) connected

  none : AllByRecursion (IsNot number) removed
  none = (remove_apart number connected were.distinct).1

  others_are : AllByRecursion (EntryIs now holds) removed
  others_are =
      all_to (EntryIs before owned) (EntryIs now holds) number removed (λ e differ entry_is. entry_is ∙ as_before e.0 differ) none
      (remove_all (EntryIs before owned) (is_at (nat_cmp number)) connected were.entries)

  pub one_served : AreConnected now holds (insert_entry nat_cmp removed number session)
  one_served = record {
    each =
        each_is (insert_entry nat_cmp removed number session) (ap session_or_opened (here number session removed))
        (λ other differ.
        ap session_or_opened
        (elsewhere number session other (λ same. differ (sym same)) removed ∙ remove_elsewhere connected number other differ));
    entries = insert_all (EntryIs now holds) removed number session none is others_are;
    distinct = insert_apart removed number session none (remove_apart number connected were.distinct).0;
  }

  -- ---- it is set in its place

  pub one_set : (old : Session) → lookup (is_at (nat_cmp number)) connected ≡ Some old →
      AreConnected now holds (set_value (is_at (nat_cmp number)) connected session)
  one_set old found = record {
    each =
        each_is (set_value (is_at (nat_cmp number)) connected session) (ap session_or_opened (set_here connected number old session found))
        (λ other differ. ap session_or_opened (set_elsewhere connected number other session differ));
    entries =
        set_all (EntryIs before owned) (EntryIs now holds) number connected session (λ e differ entry_is. entry_is ∙ as_before e.0 differ)
        (λ k at. subst (λ (n : ℕ). session ≡ ours_at now holds n) at is) were.distinct were.entries;
    distinct = set_apart (is_at (nat_cmp number)) connected session were.distinct;
  }
