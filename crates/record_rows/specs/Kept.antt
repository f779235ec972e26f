-- The forms of tables beside the two, as the code has them (own).
use Rattle.std.specs.Prelude.{Bool, true, false, List, [], ◌∷◌, map}
use Rattle.sqlite.specs.Term.{Term}
use Rattle.sqlite_schema.specs.declared.schema.Column.{Column}
use Rattle.record_rows.specs.declared.beside.Form.{Form as Made}
use Rattle.record_rows.specs.declared.beside.Kept.{Kept}
use Rattle.record_rows.specs.declared.beside.Kept.TheVariants.{Whole, Octets}
use Rattle.record_rows.specs.Beside.{Form, key, whole, octets}
use Rattle.record_rows.specs.Tables.{is_one}

abbrev pub column_kept : Kept → Column
column_kept (Whole name) = whole name.now
column_kept (Octets name) = octets name.now

abbrev pub checks_kept : Bool → List Term
checks_kept true = is_one ∷ []
checks_kept false = []

abbrev pub form_of : Made → Form
form_of made = record {
  name = made.name.now;
  columns = key made.first.now ∷ map column_kept made.others.now;
  checks = checks_kept made.is_single;
}
