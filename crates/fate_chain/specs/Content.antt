-- The text of a message, with the optional parameters that are passed on.
use Rattle.std.specs.Prelude.{ℕ, ◌+◌, ◌≤◌, Bool, ◌||◌, not, nat_le, nat_lt, List, length, IsTrue}
use Rattle.pdu_codec.specs.Text.{optional_octets}

pub record Content : Type 0 where
  pub text : List ℕ
  pub passed : List (ℕ × List ℕ)

-- how many octets a short_message has at most (SMPP 3.4, 5.2.22), and a text (own)
abbrev pub most_short : ℕ
most_short = 254

abbrev pub most_text : ℕ
most_text = 4096

-- how many octets a text and the optional parameters have at most, if the text is one of them: the 7,000 of a PDU less those of its tag and length (own)
abbrev pub most_beside : ℕ
most_beside = 6996

-- a text that is too long for a short_message is a message_payload (SMPP 3.4, 5.3.2.32)
abbrev pub is_long : List ℕ → Bool
is_long text = nat_lt most_short (length text)

-- so there has to be room for it beside the octets of the others
abbrev pub has_room : List ℕ → List ℕ → Bool
has_room text others = not (is_long text) || nat_le (length text + length others) most_beside

pub record IsContent (text : List ℕ) (passed : List (ℕ × List ℕ)) : Type 0 where
  pub most : length text ≤ most_text
  pub beside : IsTrue (has_room text (optional_octets passed))
