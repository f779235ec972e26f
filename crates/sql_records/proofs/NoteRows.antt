-- Rows that stand for notes, one more after others.
use Rattle.std.proofs.Common.{◌≡◌, IfOk, Result, Ok, Err, inl, inr, ℕ, ◌+◌, ◌<◌, ◌≤◌, List, [], ◌∷◌, ◌++◌, length, get_or, take, map, refl, sym, ap, subst, arith}
use Rattle.std.specs.Prelude.{Vec}
use Rattle.std.specs.declared.alloc.Global.{Global}
use Rattle.std.proofs.lemmas.List.{map-append, take_more}
use Rattle.mc_model.specs.synod.Lists.{In}
use Rattle.mc_parts.proofs.Membership.{in_two}
use Rattle.record_rows.specs.declared.known_row.KnownRow.{KnownRow}
use Rattle.sqlite.specs.Order.{Row}
use Rattle.sqlite.specs.State.{State}
use Rattle.sqlite.specs.Tree.{Trees}
use Rattle.sqlite_rules.specs.Lists.{Has}
use Rattle.record_rows.specs.Ours.{IsOurs}
use Rattle.record_rows.specs.Tables.{Layout}
use Rattle.record_rows.specs.declared.fault.ReadFault.{ReadFault}
use Rattle.record_rows.specs.Known.{HasKnown, HasPutKnown, HasReadKnown, IsShownKnown, Known, PutsKnown, known_in, known_of, shown_of, stored}
use Rattle.record_rows.proofs.ShownLemmas.{all_zip-push}
use Rattle.noting_store.specs.Noted.{AreApart, AreOf, Note, Noted, noted_in, noted_of}
use Rattle.noting_store.proofs.Notes.{apart_more, noted_pushed, of_more}
use Rattle.sql_records.specs.Noting.{HasNote, HasPutNotes, IsNoteRow, PutsNotes, AreNoteRows}
use Rattle.sql_records.proofs.NoteStandings.{note_of_one}

pub rows_more : (notes : List Note) (at : ℕ) (note : Note) (rows : List KnownRow) (row : KnownRow) → at < length notes → note ≡ get_or notes at note
    → AreNoteRows (known_in rows) (noted_in (take at notes)) → IsNoteRow (known_of row) (noted_of note)
    → AreNoteRows (known_in (rows ++ row ∷ [])) (noted_in (take (at + 1) notes))
rows_more notes at note rows row low is before one =
    rw (take_more notes at note low, ← is, map-append known_of rows (row ∷ []), noted_pushed (take at notes) note)
    (all_zip-push IsNoteRow (known_in rows) (noted_in (take at notes)) (known_of row) (noted_of note) before one)

pub notes_more : (rows : List KnownRow) (at : ℕ) (row : KnownRow) (notes : List Note) (note : Note) → at < length rows → row ≡ get_or rows at row
    → AreNoteRows (known_in (take at rows)) (noted_in notes) → IsNoteRow (known_of row) (noted_of note)
    → AreNoteRows (known_in (take (at + 1) rows)) (noted_in (notes ++ note ∷ []))
notes_more rows at row notes note low is before one =
    rw (take_more rows at row low, ← is, map-append known_of (take at rows) (row ∷ []), noted_pushed notes note)
    (all_zip-push IsNoteRow (known_in (take at rows)) (noted_in notes) (known_of row) (noted_of note) before one)

-- notes of a cluster of so many nodes, of messages that ascend up to this one
pub record AreNext (count : ℕ) (notes : List Note) (last : ℕ) : Type 0 where
  pub within : (n : Noted) → In n (noted_in notes) → n.slot.id ≤ last
  pub nodes : AreOf count notes
  pub apart : AreApart (noted_in notes)

pub next_more : (count : ℕ) (notes : List Note) (note : Note) (last : ℕ) → AreNext count notes last → note.nodes ≡ count → last < note.vote.chain.id
    → AreNext count (notes ++ note ∷ []) note.vote.chain.id
next_more count notes note last before of high = record {
  within = λ n among. elim (in_two n (noted_in notes) (noted_of note) (subst (In n) (noted_pushed notes note) among)) [
    | inl was ↦ omega (arith, before.within n was, high)
    | inr same ↦ omega (arith, ap (λ (x : Noted). x.slot.id) same)
  ];
  nodes = of_more count notes note before.nodes of;
  apart = apart_more notes note before.apart (λ n among same. omega (arith, before.within n among, same, high));
}

-- ---- what a call leaves

known_is_one : (k other : Known) → IsShownKnown (shown_of (stored other)) k → other ≡ k
known_is_one k other is =
    let id : other.id ≡ k.id = let e = is.id in cc in
    let place : other.place ≡ k.place = let e = is.place in cc in
    let voted : other.voted ≡ k.voted = let e = is.voted in cc in
    let voters : other.voters ≡ k.voters = let e = is.voters in cc in
    let chain : other.chain ≡ k.chain = let e = is.chain in cc in
    λ i. record { id = id i; place = place i; voted = voted i; voters = voters i; chain = chain i }

-- a row that was put stands for one of the notes
of_put : (ks : List Known) (ns : List Noted) → AreNoteRows ks ns → (r : Row) → Has (map stored ks) r → (k : Known) → IsShownKnown (shown_of r) k → (n : Noted)
    → IsNoteRow k n → In n ns
of_put [] ns each r has k shown n is = absurd has
of_put (first ∷ ks) [] each r has k shown n is = absurd each
of_put (first ∷ ks) (noted ∷ ns) each r (inl same) k shown n is =
    let one : first ≡ k = known_is_one k first (subst (λ (row : Row). IsShownKnown (shown_of row) k) same shown) in
    inl (note_of_one k n noted is (subst (λ (x : Known). IsNoteRow x noted) one each.0))
of_put (first ∷ ks) (noted ∷ ns) each r (inr later) k shown n is = inr (of_put ks ns each.1 r later k shown n is)

pub puts_notes : (old : State) (db : Trees) (rows : List KnownRow) (notes : List Noted) → AreNoteRows (known_in rows) notes
    → HasKnown old.now.schema.tables → PutsKnown rows old db → PutsNotes notes old db
puts_notes old db rows notes each has puts = record {
  only = λ layout ours n it. elim ((puts.each layout ours has).only it.1.0 it.1.1) [
    | inl was ↦ inl (it.0, (it.1.0, was, it.1.2), it.2)
    | inr put ↦ inr (of_put (known_in rows) notes each it.1.0 put it.0 it.1.2 n it.2)
  ];
  slots = λ layout ours. (puts.each layout ours has).slots;
  life = λ layout ours. (puts.each layout ours has).life;
}

pub has_put_notes : (old new : State) (rows : List KnownRow) (notes : List Noted) → AreNoteRows (known_in rows) notes
    → HasKnown old.now.schema.tables → HasPutKnown rows old new → HasPutNotes notes old new
has_put_notes old new rows notes each has put = record {
  puts = puts_notes old new.now.trees rows notes each has put.puts;
  ours = λ layout ours. put.ours layout ours has;
}

-- nothing was done
pub put_nothing : (notes : List Noted) (s : State) → HasPutNotes notes s s
put_nothing notes s = record {
  puts = record { only = λ layout ours n it. inl it; slots = λ layout ours. refl; life = λ layout ours. refl };
  ours = λ layout ours. ours;
}

-- ---- what was read

noted_at : (ks : List Known) (ns : List Noted) → AreNoteRows ks ns → (n : Noted) → In n ns → (k : Known) × Has ks k × IsNoteRow k n
noted_at [] [] each n among = absurd among
noted_at [] (noted ∷ ns) each n among = absurd each
noted_at (first ∷ ks) [] each n among = absurd each
noted_at (first ∷ ks) (noted ∷ ns) each n (inl same) = (first, inl refl, subst (IsNoteRow first) (sym same) each.0)
noted_at (first ∷ ks) (noted ∷ ns) each n (inr later) = let it = noted_at ks ns each.1 n later in (it.0, inr it.1, it.2)

pub has_notes : (s : State) (rows : List KnownRow) (notes : List Noted) → HasKnown s.now.schema.tables → HasReadKnown (known_in rows) s
    → AreNoteRows (known_in rows) notes → (layout : Layout) → IsOurs layout s → (n : Noted) → In n notes → HasNote s.now.trees n
has_notes s rows notes has read each layout ours n among =
    let it = noted_at (known_in rows) notes each n among in (it.0, read layout ours has it.0 it.1, it.2)

pub if_noted : {P Q : Vec Note Global → Type 0} (r : Result (Vec Note Global) ReadFault) → ((notes : _) → P notes → Q notes) → IfOk r P → IfOk r Q
if_noted (Ok notes) so is = so notes is
if_noted (Err fault) so is = tt
