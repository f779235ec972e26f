-- What putting rows into `known` leaves of a connection.
use Rattle.std.proofs.Common.{◌≡◌, ◌⊎◌, inl, inr, ℕ, ◌+◌, ◌<◌, false, List, [], ◌∷◌, ◌++◌, length, get_or, map, take, None, Ok, refl, sym, ap, subst, ◌∙◌, arith}
use Rattle.std.proofs.lemmas.List.{map-append, take_more}
use Rattle.sqlite.specs.declared.types.Value.TheVariants.{Int, Blob}
use Rattle.sqlite.specs.declared.types.ValueRef.{ValueRef}
use Rattle.sqlite.specs.Value.{owned}
use Rattle.sqlite.specs.Values.{bound}
use Rattle.sqlite.specs.Order.{Row}
use Rattle.sqlite.specs.Tree.{Trees}
use Rattle.sqlite.specs.Schema.{Schema}
use Rattle.sqlite.specs.Table.{Table}
use Rattle.sqlite.specs.Effect.{Database}
use Rattle.sqlite.specs.Does.{Tally, Does}
use Rattle.sqlite.specs.Listing.{understood}
use Rattle.sqlite.specs.State.{State, ExecutesInside, Shows, mode_of}
use Rattle.sqlite.proofs.Callers.{statement_of}
use Rattle.sqlite_rules.specs.Lists.{Has}
use Rattle.sqlite_rules.proofs.ListLemmas.{has_left, has_right}
use Rattle.record_rows.specs.Beside.{AreBeside, IsSchemaOf, known, table_of, whose}
use Rattle.record_rows.specs.Ours.{IsOurs}
use Rattle.record_rows.specs.Tables.{Layout, life_first, slots_first}
use Rattle.record_rows.proofs.BesideLemmas.{no_actions}
use Rattle.record_rows.proofs.WriteLemmas.{IsWrite, has_written}
use Rattle.record_rows.specs.declared.known_row.KnownRow.{KnownRow}
use Rattle.record_rows.specs.Known.{AreKnownIn, HasKnown, HasPutInside, HasPutKnown, PutsIn, PutsKnown, known_in, known_of, known_tree, stored, whose_tree}
use Rattle.record_rows.proofs.KnownPuts.{params_of, put_in}
use Rattle.record_rows.proofs.KnownSchemas.{has_both}
use Rattle.record_rows.proofs.KnownTexts.{put_command, put_is, put_plain, put_text, with_known}

-- the values as they are bound
pub bound_are : (row : KnownRow) (id place voted voters chain : ValueRef) → owned id ≡ Int row.id → owned place ≡ Int row.place → owned voted ≡ Int row.voted
    → owned voters ≡ Int row.voters → owned chain ≡ Blob row.chain.items → bound (id ∷ place ∷ voted ∷ voters ∷ chain ∷ []) ≡ params_of (known_of row)
bound_are row id place voted voters chain a b c d e = rw (a, b, c, d, e)

put_writes : IsWrite put_command
put_writes = record { runs = λ old new text params count h. h; commit = λ e. cc; release = λ name e. cc }

-- ---- one row

record Left (layout : Layout) (rest : List Table) (row : KnownRow) (db : Trees) (after : Database) : Type 0 where
  schema : after.schema ≡ with_known layout rest
  puts : PutsIn layout (row ∷ []) db after.trees

module _ (rest : List Table) (are : AreBeside (table_of whose whose_tree ∷ table_of known known_tree ∷ rest)) (s : State) (row : KnownRow) where
  -- each row was there, or is the one that was put in
  one_only : (db next : Trees) → ((r : Row) → Has (next 4) r → (r ≡ stored (known_of row)) ⊎ Has (db 4) r) → (r : Row) → Has (next known_tree) r
      → Has (db known_tree) r ⊎ Has (map stored (known_in (row ∷ []))) r
  one_only db next only r has = elim (only r has) [ inl new ↦ inr (inl new) | inr was ↦ inl was ]

  left : (layout : Layout) (text : List ℕ) (tally : Tally) (db : Trees) (after : Database) → Does s.step_limit (mode_of s) (params_of (known_of row)) (record
      { schema = with_known layout rest; trees = db }) text None put_command (Ok (tally, after)) → Left layout rest row db after
  left life_first text tally db after h =
      let quiet = no_actions life_first (table_of whose whose_tree ∷ table_of known known_tree ∷ rest) are 4 in
      let it = put_in (with_known life_first rest) quiet s.step_limit (known_of row) (mode_of s) 3 db tally after h in
      record {
        schema = it.schema_is;
        puts = record {
          only = one_only db after.trees it.put.only;
          slots = it.put.others.1.0 (λ e. omega (arith, e));
          life = it.put.others.0 (λ e. omega (arith, e));
          whose = it.put.others.1.1.0 (λ e. omega (arith, e));
        };
      }
  left slots_first text tally db after h =
      let quiet = no_actions slots_first (table_of whose whose_tree ∷ table_of known known_tree ∷ rest) are 4 in
      let it = put_in (with_known slots_first rest) quiet s.step_limit (known_of row) (mode_of s) 3 db tally after h in
      record {
        schema = it.schema_is;
        puts = record {
          only = one_only db after.trees it.put.only;
          slots = it.put.others.0 (λ e. omega (arith, e));
          life = it.put.others.1.0 (λ e. omega (arith, e));
          whose = it.put.others.1.1.0 (λ e. omega (arith, e));
        };
      }

pub one_put : (row : KnownRow) (old new : State) (count : ℕ) → ExecutesInside 0 put_text (params_of (known_of row)) old new (Ok count) → HasPutInside (row ∷ []) old new
one_put row old new count h = record {
  inside = h.1.mode;
  each = λ layout is has.
      let it = has_both layout old.now.schema is has in
      let wrote = (has_written put_text (params_of (known_of row)) old (with_known layout it.rest) it.is put_command (put_is layout it.rest)
      (put_plain layout it.rest) put_writes new count h.0).0 in
      let is_left = left it.rest it.are old row layout (statement_of put_text (understood (with_known layout it.rest) put_text)) wrote.tally old.now.trees
      new.now wrote.does in
      record { schema = is_left.schema ∙ sym it.is; puts = is_left.puts };
}

-- ---- several rows

stored_both : (rows more : List KnownRow) → map stored (known_in (rows ++ more)) ≡ map stored (known_in rows) ++ map stored (known_in more)
stored_both rows more = ap (map stored) (map-append known_of rows more) ∙ map-append stored (known_in rows) (known_in more)

puts_both : (layout : Layout) (rows more : List KnownRow) (a b c : Trees) → PutsIn layout rows a b → PutsIn layout more b c → PutsIn layout (rows ++ more) a c
puts_both layout rows more a b c one two = record {
  only = λ r has. subst (λ (xs : List Row). Has (a known_tree) r ⊎ Has xs r) (sym (stored_both rows more)) (elim (two.only r has) [
    | inl was ↦ elim (one.only r was) [
      | inl before ↦ inl before
      | inr first ↦ inr (has_left (map stored (known_in rows)) (map stored (known_in more)) r first)
    ]
    | inr last ↦ inr (has_right (map stored (known_in rows)) (map stored (known_in more)) r last)
  ]);
  slots = two.slots ∙ one.slots;
  life = two.life ∙ one.life;
  whose = two.whose ∙ one.whose;
}

then_put : (rows more : List KnownRow) (a b c : State) → HasPutInside rows a b → HasPutInside more b c → HasPutInside (rows ++ more) a c
then_put rows more a b c first next = record {
  inside = next.inside;
  each = λ layout is has.
      let one = first.each layout is has in
      let two = next.each layout (subst (IsSchemaOf layout) (sym one.schema) is) (subst (λ (s : Schema). HasKnown s.tables) (sym one.schema) has) in
      record {
        schema = two.schema ∙ one.schema;
        puts = puts_both layout rows more a.now.trees b.now.trees c.now.trees one.puts two.puts;
      };
}

pub put_more : (rows : List KnownRow) (at : ℕ) (row : KnownRow) → at < length rows → row ≡ get_or rows at row → (a b c : State)
    → HasPutInside (take at rows) a b → HasPutInside (row ∷ []) b c → HasPutInside (take (at + 1) rows) a c
put_more rows at row low is a b c first next = rw (take_more rows at row low, ← is) (then_put (take at rows) (row ∷ []) a b c first next)

-- ---- the commit

module _ (rows : List KnownRow) (old begun mid : State) (same : old.now ≡ begun.now) (put : HasPutInside rows begun mid) where
  amid : (layout : Layout) → IsOurs layout old → HasKnown old.now.schema.tables → AreKnownIn layout rows old.now mid.now
  amid layout ours has = subst (λ (d : Database). AreKnownIn layout rows d mid.now) (sym same) (put.each layout
      (subst (λ (d : Database). IsSchemaOf layout d.schema) same ours.schema) (subst (λ (d : Database). HasKnown d.schema.tables) same has))

  pub puts_known : PutsKnown rows old mid.now.trees
  puts_known = record { each = λ layout ours has. (amid layout ours has).puts }

  pub has_put_known : (new : State) → Shows mid new mid.now mid.now false → HasPutKnown rows old new
  has_put_known new shown = record {
    puts = subst (λ (d : Database). PutsKnown rows old d.trees) (sym shown.now_is) puts_known;
    ours = λ layout ours has. record {
      is_open = shown.is_open;
      schema = subst (IsSchemaOf layout) (sym (ap (λ (d : Database). d.schema) shown.now_is ∙ (amid layout ours has).schema)) ours.schema;
      autocommit = shown.mode;
      committed = shown.now_is ∙ sym shown.committed_is;
    };
  }

-- ---- no rows

pub has_put_nothing : (s : State) → HasPutKnown [] s s
has_put_nothing s = record {
  puts = record { each = λ layout ours has. record { only = λ r had. inl had; slots = refl; life = refl; whose = refl } };
  ours = λ layout ours has. ours;
}
