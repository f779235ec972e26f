-- The tables of a text in which the keys stand, and what stands in them.
use Rattle.std.specs.Prelude.{Bool, true, false, ◌≡◌, ◌<◌, slice_get, ◌||◌, ◌==◌, ℕ, ℤ, pos, negsuc, List, [], ◌∷◌, codes, Option, Some, None, is_some, option_and_then}
use Rattle.std.specs.List.{list_any}
use Rattle.std.specs.Str.{bytes_eq}
use Rattle.toml.specs.Data.{Data, Items, no_items, item, get, as_str, as_integer, as_array, as_table}
use Rattle.config.specs.declared.key.Part.{Part}
use Rattle.config.specs.declared.key.Part.TheVariants.{Whole, Nodes, Accounts, Routes}

-- ---- what is in a value

abbrev pub listed : Items → List Data
listed no_items = []
listed (item first others) = first ∷ listed others

abbrev pub elements_of : Option Items → List Data
elements_of None = []
elements_of (Some items) = listed items

abbrev pub is_table : Data → Bool
is_table value = is_some (as_table value)

abbrev pub not_negative : ℤ → Option ℕ
not_negative (pos number) = Some number
not_negative (negsuc number) = None

-- a number that is not negative
abbrev pub as_number : Data → Option ℕ
as_number value = option_and_then not_negative (as_integer value)

-- ---- what is under a name of a table

abbrev pub text_in : List ℕ → Data → Option (List ℕ)
text_in name row = option_and_then as_str (get name row)

abbrev pub number_in : List ℕ → Data → Option ℕ
number_in name row = option_and_then as_number (get name row)

abbrev pub within : List ℕ → Data → List Data
within name document = elements_of (option_and_then as_array (get name document))

-- the tables of a part: the whole document, or what is in an array of it
abbrev pub rows_of : Data → Part → List Data
rows_of document Whole = document ∷ []
rows_of document Nodes = within (codes "node") document
rows_of document Accounts = within (codes "account") document
rows_of document Routes = within (codes "route") document

-- ---- the same twice

abbrev pub same_text : Option (List ℕ) → Option (List ℕ) → Bool
same_text None other = false
same_text (Some text) None = false
same_text (Some text) (Some other) = bytes_eq text other

abbrev pub same_number : Option ℕ → Option ℕ → Bool
same_number None other = false
same_number (Some number) None = false
same_number (Some number) (Some other) = number == other

-- whether two rows have one text or one number under a name
abbrev pub same_value : List ℕ → Data → Data → Bool
same_value name one other = same_text (text_in name one) (text_in name other) || same_number (number_in name one) (number_in name other)

-- a row that has the value of an earlier one under a name
pub record RepeatsAt (name : List ℕ) (rows : List Data) (place : ℕ) : Type 0 where
  pub row : Data
  pub at : slice_get rows place ≡ Some row
  pub earlier : ℕ
  pub first : Data
  pub before : earlier < place
  pub at_first : slice_get rows earlier ≡ Some first
  pub same : same_value name first row ≡ true

-- whether any two rows do
abbrev pub has_twice : List ℕ → List Data → Bool
has_twice name [] = false
has_twice name (first ∷ others) = list_any (same_value name first) others || has_twice name others
