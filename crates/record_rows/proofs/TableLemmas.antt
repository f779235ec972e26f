-- When a table is one of the two.
use Rattle.std.proofs.Common.{◌≡◌, ℕ, Bool, true, false, IsTrue, List, [], ◌∷◌, codes, length, get_or, ◌<◌, ◌≤◌, ◌↔◌, sym, arith}
use Rattle.sqlite.specs.Table.{Table}
use Rattle.sqlite_schema.specs.declared.schema.Index.{Index}
use Rattle.sqlite_value.specs.Keys.{plain}
use Rattle.record_rows.specs.Found.{HasFirstKey, HasSlotsKeys, IsPlainTable}
use Rattle.record_rows.specs.Tables.{life_table, slots_table, slots_index, is_one}

pub life_is : (table : Table) (tree : ℕ) → IsPlainTable table → (table.name ≡ codes "life") × (table.tree ≡ tree)
    → table.columns ≡ (life_table 0).columns → HasFirstKey table → table.checks ≡ is_one ∷ [] → table ≡ life_table tree
life_is table tree bare named columns keys checks = λ i. record {
  name = named.0 i;
  tree = named.1 i;
  columns = columns i;
  key = keys.key i;
  primary = keys.primary i;
  uniques = keys.uniques i;
  orders = keys.orders i;
  checks = checks i;
  references = bare.references i;
  computed = bare.computed i;
  stamps = bare.stamps i;
  is_counted = bare.counted i;
}

pub slots_is : (table : Table) (tree : ℕ) → IsPlainTable table → (table.name ≡ codes "slots") × (table.tree ≡ tree)
    → table.columns ≡ (slots_table 0).columns → HasSlotsKeys table → table.checks ≡ [] → table ≡ slots_table tree
slots_is table tree bare named columns keys checks = λ i. record {
  name = named.0 i;
  tree = named.1 i;
  columns = columns i;
  key = keys.key i;
  primary = keys.primary i;
  uniques = keys.uniques i;
  orders = keys.orders i;
  checks = checks i;
  references = bare.references i;
  computed = bare.computed i;
  stamps = bare.stamps i;
  is_counted = bare.counted i;
}

pub index_is : (index : Index) (table tree : ℕ) → index.name ≡ codes "sqlite_autoindex_slots_1" → index.table ≡ table → index.tree ≡ tree
    → index.columns ≡ 1 ∷ 2 ∷ [] → index.order ≡ plain → index.is_unique ≡ true → index ≡ slots_index table tree
index_is index table tree n t e c o u = λ i. record { name = n i; tree = e i; table = t i; columns = c i; order = o i; is_unique = u i }

pub five_are : {X : Type 0} (xs : List X) (a b c d e : X) → 5 ≤ length xs → length xs < 6 → a ≡ get_or xs 0 a → b ≡ get_or xs 1 b
    → c ≡ get_or xs 2 c → d ≡ get_or xs 3 d → e ≡ get_or xs 4 e
    → xs ≡ a ∷ b ∷ c ∷ d ∷ e ∷ []
five_are (v ∷ w ∷ x ∷ y ∷ z ∷ []) a b c d e low high p q r s t = sym (λ i. p i ∷ q i ∷ r i ∷ s i ∷ t i ∷ [])
five_are [] a b c d e low high p q r s t = absurd (omega arith)
five_are (v ∷ []) a b c d e low high p q r s t = absurd (omega arith)
five_are (v ∷ w ∷ []) a b c d e low high p q r s t = absurd (omega arith)
five_are (v ∷ w ∷ x ∷ []) a b c d e low high p q r s t = absurd (omega arith)
five_are (v ∷ w ∷ x ∷ y ∷ []) a b c d e low high p q r s t = absurd (omega arith)
five_are (v ∷ w ∷ x ∷ y ∷ z ∷ m ∷ more) a b c d e low high p q r s t = absurd (omega arith)

pub five_same : {X : Type 0} (a b c d e a' b' c' d' e' : X) → a ≡ a' → b ≡ b' → c ≡ c' → d ≡ d' → e ≡ e'
    → ◌≡◌ {A = List X} (a ∷ b ∷ c ∷ d ∷ e ∷ []) (a' ∷ b' ∷ c' ∷ d' ∷ e' ∷ [])
five_same a b c d e a' b' c' d' e' p q r s t = λ i. p i ∷ q i ∷ r i ∷ s i ∷ t i ∷ []

-- what a test that failed was about does not hold
pub refuted : {P : Type 0} (test : Bool) → test ≡ false → (IsTrue test ↔ P) → P → ⊥
refuted test failed tells p =
    let yes : test ≡ true = tells.1 p in
    cc

pub five_parts : {X : Type 0} (a b c d e a' b' c' d' e' : X) → ◌≡◌ {A = List X} (a ∷ b ∷ c ∷ d ∷ e ∷ []) (a' ∷ b' ∷ c' ∷ d' ∷ e' ∷ [])
    → (a ≡ a') × (b ≡ b') × (c ≡ c') × (d ≡ d') × (e ≡ e')
five_parts a b c d e a' b' c' d' e' same = (cc, cc, cc, cc, cc)
