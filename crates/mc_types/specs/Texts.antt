-- The text of a message id (SMPP 3.4, 5.2.23): its ten decimal digits.
use Rattle.std.specs.Prelude.{ℕ, Bool, ◌==◌, ◌&&◌, nat_le, List, length, Option, Some, None, if◌then◌else◌}
use Rattle.std.specs.List.{list_all}
use Rattle.std.specs.Char.{is_ascii_digit}
use Rattle.std.specs.Str.Parse.{digits_value}
use Rattle.mc_model.specs.message.Ids.{node_of, incarnation_of, serial_of}

-- whether a number is a message id
abbrev pub is_id : ℕ → Bool
is_id number =
    nat_le 1 (node_of number) && nat_le (node_of number) 9 && nat_le 1 (incarnation_of number) && nat_le 1 (serial_of number)

abbrev pub is_ten_digits : List ℕ → Bool
is_ten_digits text = length text == 10 && list_all is_ascii_digit text

-- the message id that a text names, if it names one
unfoldable pub id_in : List ℕ → Option ℕ
id_in text = if is_ten_digits text && is_id (digits_value 10 text) then Some (digits_value 10 text) else None
