-- What a read of the last incarnation, and the store of the next one, leave.
use Rattle.std.proofs.Common.{◌≡◌, ℕ, ℤ, pos, ◌+◌, List, Option, Some, None, refl, sym, ap, subst, ◌∙◌, arith}
use Rattle.mc_model.specs.message.Ids.{IsIncarnation}
use Rattle.sqlite.specs.Order.{Row, column}
use Rattle.sqlite.specs.Tree.{Trees}
use Rattle.sqlite.specs.Effect.{Database}
use Rattle.sqlite.specs.State.{State, HasCleanDisk, Survives}
use Rattle.sqlite.proofs.StateLemmas.{survives_then}
use Rattle.record_rows.specs.Beside.{IsSchemaOf}
use Rattle.record_rows.specs.Content.{AreLife}
use Rattle.record_rows.specs.Ours.{HasPutLife, HasReadLife, IsOurs, IsStrange, PutsLife, Stands}
use Rattle.record_rows.specs.Tables.{Layout, life_tree, slots_tree}
use Rattle.sql_records.specs.Calls.{HasNotStarted, HasPutNext, PutsNext}
use Rattle.sql_records.specs.Stores.{IsLast, IsStarted}

pub ours_then : (layout : Layout) (old new : State) → IsOurs layout old → Stands old new → IsOurs layout new
ours_then layout old new ours stands = record {
  is_open = stands.is_open;
  schema = subst (IsSchemaOf layout) (sym (ap (λ (d : Database). d.schema) stands.now)) ours.schema;
  autocommit = stands.autocommit;
  committed = stands.now ∙ ours.committed ∙ sym stands.committed;
}

pub life_of_one : (rows : List Row) (a b : Option ℤ) → AreLife rows a → AreLife rows b → a ≡ b
life_of_one rows None None one other = refl
life_of_one rows None (Some b) one other = let clash = sym one ∙ other.1 in absurd (cc)
life_of_one rows (Some a) None one other = let clash = sym other ∙ one.1 in absurd (cc)
life_of_one rows (Some a) (Some b) one other =
    let lists = sym one.1 ∙ other.1 in
    let row : one.0 ≡ other.0 = cc in
    let numbers = sym one.3 ∙ ap (λ (r : Row). column r 2) row ∙ other.3 in
    let same : a ≡ b = cc in
    ap (λ n. Some n) same

module _ (old mid : State) (last : Option ℤ) (next : ℕ) (read : HasReadLife last old) (follows : (started : ℕ) → IsLast last started → next ≡ started + 1)
    (is : IsIncarnation next) where
  last_is : (layout : Layout) (started : ℕ) → IsOurs layout old → IsStarted layout old.now.trees started → IsLast last started
  last_is layout started ours it =
      subst (λ n. IsLast n started) (life_of_one _ it.last last it.are (read layout ours)) it.is

  life_there : (layout : Layout) → IsOurs layout old → Stands old mid → AreLife (mid.now.trees (life_tree layout)) last
  life_there layout ours stands = subst (λ (d : Database). AreLife (d.trees (life_tree layout)) last) (sym stands.now) (read layout ours)

  life_put : (layout : Layout) (db : Trees) → IsOurs layout old → Stands old mid → PutsLife last (pos next) mid db → IsStarted layout db next
  life_put layout db ours stands puts = record {
    last = Some (pos next);
    are = puts.life layout (ours_then layout old mid ours stands) (life_there layout ours stands);
    is = (refl, is);
  }

  slots_stay : (layout : Layout) (db : Trees) → IsOurs layout old → Stands old mid → PutsLife last (pos next) mid db
      → db (slots_tree layout) ≡ old.now.trees (slots_tree layout)
  slots_stay layout db ours stands puts =
      puts.slots layout (ours_then layout old mid ours stands) ∙ ap (λ (d : Database). d.trees (slots_tree layout)) stands.now

  pub puts_next : (db : Trees) → ((layout : Layout) → IsOurs layout old → Stands old mid) → PutsLife last (pos next) mid db → PutsNext old db
  puts_next db stands puts = record {
    started = λ layout started ours it. subst (IsStarted layout db) (follows started (last_is layout started ours it)) (life_put layout db ours
        (stands layout ours) puts);
    slots = λ layout ours. slots_stay layout db ours (stands layout ours) puts;
  }

  pub has_put_next : (new : State) → ((layout : Layout) → IsOurs layout old → Stands old mid) → HasPutLife last (pos next) mid new
      → HasPutNext next old new
  has_put_next new stands put = record {
    follows = λ layout started ours it. follows started (last_is layout started ours it);
    started = λ layout ours. life_put layout new.now.trees ours (stands layout ours) put.puts;
    slots = λ layout ours. slots_stay layout new.now.trees ours (stands layout ours) put.puts;
    ours = λ layout ours. put.ours layout (ours_then layout old mid ours (stands layout ours));
  }

-- what is told of the last incarnation
pub not_started : (old : State) (last : Option ℤ) → HasReadLife last old → ((started : ℕ) → IsLast last started → ⊥) → HasNotStarted old
not_started old last read none layout started ours it =
    none started (subst (λ n. IsLast n started) (life_of_one _ it.last last it.are (read layout ours)) it.is)

pub survives_next : (old mid : State) (last : Option ℤ) (next : ℕ) → (HasCleanDisk mid → HasReadLife last old)
    → ((started : ℕ) → IsLast last started → next ≡ started + 1) → IsIncarnation next → (new : State)
    → (HasCleanDisk mid → (layout : Layout) → IsOurs layout old → Stands old mid)
    → Survives old mid (IsStrange old) → Survives mid new (PutsLife last (pos next) mid) → Survives old new (PutsNext old)
survives_next old mid last next read follows is new stands first second =
    survives_then old mid new (IsStrange old) (PutsLife last (pos next) mid) (PutsNext old) (λ clean db strange. record {
      started = λ layout started ours it. absurd (strange layout ours);
      slots = λ layout ours. absurd (strange layout ours);
    }) (λ clean db puts. let early : HasCleanDisk mid = omega (arith, second.clean) in
    puts_next old mid last next (read early) follows is db (stands early) puts) first second
