-- What a line of a script says: how it is spelled, and how it is read from the left.
use Rattle.std.specs.Prelude.{◌≡◌, ◌≢◌, ◌⊎◌, ℕ, ◌-◌, ◌^◌, ◌≤◌, nat_lt, nat_le, nat_eq, ◌==◌, ◌&&◌, ◌||◌, Bool, true, false, not}
use Rattle.std.specs.Prelude.{if◌then◌else◌, List, [], ◌∷◌, ◌++◌, filter, length, take, drop, map, Option, Some, None, option_map, Ok}
use Rattle.std.specs.Prelude.{codes, All}
use Rattle.std.specs.List.{flat_map, starts_with, position_or_len, list_all, range_with_len}
use Rattle.std.specs.Int.{is_in_range}
use Rattle.std.specs.Char.{is_ascii_digit}
use Rattle.std.specs.Str.{bytes_eq}
use Rattle.std.specs.Str.Parse.{digits_value}
use Rattle.std.specs.Fmt.{decimal}
use Rattle.std.specs.Result.{result_ok}
use Rattle.hex.specs.Hex.{decode_of}
use Rattle.mc_model.specs.message.Ids.{IsId, IsMoment, IsNode}
use Rattle.mc_types.specs.Nodes.{has}
use Rattle.mc_types.specs.Texts.{id_in}
use Rattle.script_lines.specs.declared.line.Line.{Line}
use Rattle.script_lines.specs.declared.line.Line.TheVariants as lines

-- what a line says
pub data Said : Type 0 where
  -- nothing: the line is empty or a comment
  Skipped : Said
  -- so many nodes, whose first messages have this serial
  Nodes : ℕ → ℕ → Said
  -- octets that came to a node, on a session
  Octets : ℕ → ℕ → List ℕ → Said
  -- the packet of a number comes to a node
  Deliver : ℕ → ℕ → Said
  -- a node stops while it saves what comes of the packet of a number: after it is saved, or before
  Crash : ℕ → ℕ → Bool → Said
  -- at a node this moment has come
  Tick : ℕ → ℕ → Said
  -- a node is asked for the attempt of the message of this id
  Grant : ℕ → ℕ → Said
  -- what was asked is answered, by these nodes alone, in ascending order; by all nodes if these are none
  Settle : List ℕ → Said
  -- a node starts anew
  Restart : ℕ → Said
  -- all packets come again, so many times
  Replay : ℕ → Said

-- ---- nodes

-- whether a node is one of these
abbrev pub is_listed : List ℕ → ℕ → Bool
is_listed [] node = false
is_listed (first ∷ others) node = node == first || is_listed others node

-- the nodes that pass a test, in ascending order
unfoldable pub nodes_with : (ℕ → Bool) → List ℕ
nodes_with test = filter test (range_with_len 1 9)

-- each of these nodes once, in ascending order
abbrev pub each_once : List ℕ → List ℕ
each_once nodes = nodes_with (is_listed nodes)

-- whether each node that is named is one of the nodes from 1 to this one
abbrev pub names_within : ℕ → Said → Bool
names_within most Skipped = true
names_within most (Nodes count serial) = nat_le count most
names_within most (Octets node session octets) = nat_le node most
names_within most (Deliver number node) = nat_le node most
names_within most (Crash node number after) = nat_le node most
names_within most (Tick node moment) = nat_le node most
names_within most (Grant node id) = nat_le node most
names_within most (Settle nodes) = list_all (λ node. nat_le node most) nodes
names_within most (Restart node) = nat_le node most
names_within most (Replay count) = true

-- what a line of the code says
abbrev pub said_by : Line → Said
said_by lines.Skipped = Skipped
said_by (lines.Nodes count serial) = Nodes count serial
said_by (lines.Octets node session octets) = Octets node session octets.items
said_by (lines.Deliver number node) = Deliver number node
said_by (lines.Crash node number after) = Crash node number after
said_by (lines.Tick node moment) = Tick node moment
said_by (lines.Grant node id) = Grant node id
said_by (lines.Settle nodes) = Settle (nodes_with (has nodes))
said_by (lines.Restart node) = Restart node
said_by (lines.Replay count) = Replay count

-- ---- How a line is spelled

-- a space before each word
abbrev pub spaced : List (List ℕ) → List ℕ
spaced words = flat_map (λ word. 32 ∷ word) words

-- sessions are numbered from 1 to 99
pub record IsSession (session : ℕ) : Type 0 where
  pub least : 1 ≤ session
  pub most : session ≤ 99

-- it begins with `#`
abbrev pub IsComment : List ℕ → Type 0
IsComment [] = ⊥
IsComment (octet ∷ octets) = octet ≡ 35

-- numbers go up to 2^64 - 1
abbrev pub most_number : ℕ
most_number = 18446744073709551615

-- a crash is before the save or after it
abbrev pub side_word : Bool → List ℕ
side_word false = codes "before"
side_word true = codes "after"

-- What the words of a line are. Nodes begin at the serial 1 if none is given; numbers are decimal, with no leading zero; octets are an even
-- number of hex digits in either case, two at least; a node that is listed twice counts once.
abbrev pub IsWording : Said → List ℕ → Type 0
IsWording Skipped line = (line ≡ []) ⊎ IsComment line
IsWording (Nodes count serial) line =
    IsNode count × (1 ≤ serial) × (serial ≤ 99999)
    × ((line ≡ codes "nodes" ++ spaced (decimal count ∷ decimal serial ∷ [])) ⊎ ((serial ≡ 1) × (line ≡ codes "nodes" ++ spaced (decimal count ∷ []))))
IsWording (Octets node session octets) line =
    IsNode node × IsSession session
    × ((digits : List ℕ) × (digits ≢ []) × (decode_of digits ≡ Ok octets)
    × (line ≡ codes "pdu" ++ spaced (decimal node ∷ decimal session ∷ digits ∷ [])))
IsWording (Deliver number node) line =
    (number ≤ most_number) × IsNode node × (line ≡ codes "deliver" ++ spaced (decimal number ∷ decimal node ∷ []))
IsWording (Crash node number after) line =
    IsNode node × (number ≤ most_number) × (line ≡ codes "crash" ++ spaced (decimal node ∷ decimal number ∷ side_word after ∷ []))
IsWording (Tick node moment) line = IsNode node × IsMoment moment × (line ≡ codes "tick" ++ spaced (decimal node ∷ decimal moment ∷ []))
IsWording (Grant node id) line = IsNode node × IsId id × (line ≡ codes "grant" ++ spaced (decimal node ∷ decimal id ∷ []))
IsWording (Settle nodes) line =
    (words : List ℕ) × All IsNode words × (nodes ≡ each_once words) × (line ≡ codes "settle" ++ spaced (map decimal words))
IsWording (Restart node) line = IsNode node × (line ≡ codes "restart" ++ spaced (decimal node ∷ []))
IsWording (Replay count) line = (count ≤ most_number) × (line ≡ codes "replay" ++ spaced (decimal count ∷ []))

-- a line of at most 20,000 octets says this
pub record Spells (said : Said) (line : List ℕ) : Type 0 where
  pub short : length line ≤ 20000
  pub wording : IsWording said line

-- ---- Reading from the left

infixl 10 ◌>>=◌
abbrev pub ◌>>=◌ : {A B : Type 0} → Option A → (A → Option B) → Option B
(Some x) >>= f = f x
None >>= f = None

-- what is behind the front
unfoldable pub behind : List ℕ → List ℕ → Option (List ℕ)
behind front text = if starts_with nat_eq text front then Some (drop (length front) text) else None

-- a zero with more behind it
abbrev pub has_leading_zero : List ℕ → Bool
has_leading_zero [] = false
has_leading_zero (digit ∷ []) = false
has_leading_zero (digit ∷ next ∷ digits) = digit == 48

-- decimal digits, one at least, and no zero in front of others
abbrev pub is_numeral : List ℕ → Bool
is_numeral word = nat_lt 0 (length word) && not (has_leading_zero word) && list_all is_ascii_digit word

-- the number that the digits are
unfoldable pub number_of : List ℕ → Option ℕ
number_of word =
    if is_numeral word && nat_lt (digits_value 10 word) (2 ^ 64) then Some (digits_value 10 word) else None

-- how many octets stand before the first space, or the end
abbrev pub word_len : List ℕ → ℕ
word_len words = position_or_len (λ octet. octet == 32) words

-- a space and a number of this range, and what is behind it
unfoldable pub number_at : ℕ → ℕ → List ℕ → Option (ℕ × List ℕ)
number_at least most text = do
  words ← behind (codes " ") text
  number ← number_of (take (word_len words) words)
  if nat_le least number && nat_le number most then Some (number, drop (word_len words) words) else None

-- a space and the digit of a node, and what is behind it
unfoldable pub node_at : List ℕ → Option (ℕ × List ℕ)
node_at [] = None
node_at (octet ∷ []) = None
node_at (octet ∷ digit ∷ text) = if octet == 32 && is_in_range 49 57 digit then Some (digit - 48, text) else None

-- this is said, if nothing is behind it
abbrev pub ends : Said → List ℕ → Option Said
ends said text = if length text == 0 then Some said else None

-- what is behind `nodes`
unfoldable pub nodes_said : List ℕ → Option Said
nodes_said text = do
  count ← node_at text
  if length count.1 == 0 then Some (Nodes count.0 1) else do
    serial ← number_at 1 99999 count.1
    ends (Nodes count.0 serial.0) serial.1

-- the node, the session and the digits behind `pdu`
unfoldable pub octets_parts : List ℕ → Option (ℕ × ℕ × List ℕ)
octets_parts text = do
  node ← node_at text
  session ← number_at 1 99 node.1
  digits ← behind (codes " ") session.1
  if length digits == 0 then None else Some (node.0, session.0, digits)

-- what is behind `pdu`
unfoldable pub octets_said : List ℕ → Option Said
octets_said text = do
  parts ← octets_parts text
  octets ← result_ok (decode_of parts.2)
  Some (Octets parts.0 parts.1 octets)

-- what is behind `deliver`
unfoldable pub deliver_said : List ℕ → Option Said
deliver_said text = do
  number ← number_at 0 most_number text
  node ← node_at number.1
  ends (Deliver number.0 node.0) node.1

-- a space and the word of a side, and nothing behind it
abbrev pub side_in : List ℕ → Option Bool
side_in text =
    if bytes_eq text (codes " before") then Some false
    else if bytes_eq text (codes " after") then Some true
    else None

-- what is behind `crash`
unfoldable pub crash_said : List ℕ → Option Said
crash_said text = do
  node ← node_at text
  number ← number_at 0 most_number node.1
  after ← side_in number.1
  Some (Crash node.0 number.0 after)

-- what is behind `tick`
unfoldable pub tick_said : List ℕ → Option Said
tick_said text = do
  node ← node_at text
  moment ← number_at 946684800 4102444799 node.1
  ends (Tick node.0 moment.0) moment.1

-- what is behind `grant`
unfoldable pub grant_said : List ℕ → Option Said
grant_said text = do
  node ← node_at text
  word ← behind (codes " ") node.1
  id ← id_in word
  Some (Grant node.0 id)

-- the nodes that are listed, each with a space before it
unfoldable pub nodes_in : List ℕ → Option (List ℕ)
nodes_in [] = Some []
nodes_in (octet ∷ []) = None
nodes_in (octet ∷ digit ∷ text) =
    if octet == 32 && is_in_range 49 57 digit then option_map (λ nodes. (digit - 48) ∷ nodes) (nodes_in text) else None

-- what is behind `settle`
unfoldable pub settle_said : List ℕ → Option Said
settle_said text = option_map (λ nodes. Settle (each_once nodes)) (nodes_in text)

-- what is behind `restart`
unfoldable pub restart_said : List ℕ → Option Said
restart_said text = do
  node ← node_at text
  ends (Restart node.0) node.1

-- what is behind `replay`
unfoldable pub replay_said : List ℕ → Option Said
replay_said text = do
  count ← number_at 0 most_number text
  ends (Replay count.0) count.1

-- what the line says by its first word, if that is not `pdu`
unfoldable pub named_said : List ℕ → Option Said
named_said line =
    if starts_with nat_eq line (codes "nodes") then nodes_said (drop 5 line)
    else if starts_with nat_eq line (codes "deliver") then deliver_said (drop 7 line)
    else if starts_with nat_eq line (codes "crash") then crash_said (drop 5 line)
    else if starts_with nat_eq line (codes "tick") then tick_said (drop 4 line)
    else if starts_with nat_eq line (codes "grant") then grant_said (drop 5 line)
    else if starts_with nat_eq line (codes "settle") then settle_said (drop 6 line)
    else if starts_with nat_eq line (codes "restart") then restart_said (drop 7 line)
    else if starts_with nat_eq line (codes "replay") then replay_said (drop 6 line)
    else None

-- what the line says, if it is neither empty nor a comment
unfoldable pub words_said : List ℕ → Option Said
words_said line = if starts_with nat_eq line (codes "pdu") then octets_said (drop 3 line) else named_said line

-- it is empty, or begins with `#`
abbrev pub is_skipped : List ℕ → Bool
is_skipped [] = true
is_skipped (octet ∷ octets) = octet == 35

-- what the line says; nothing is said by a bad line
unfoldable pub said_of : List ℕ → Option Said
said_of line =
    if nat_lt 20000 (length line) then None
    else if is_skipped line then Some Skipped
    else words_said line

-- what the line says, if each node that it names is one of the nodes from 1 to this one
abbrev pub said_within : ℕ → List ℕ → Option Said
said_within most line = do
  said ← said_of line
  if names_within most said then Some said else None

-- octets are said
abbrev pub SaysOctets : Option Said → Type 0
SaysOctets (Some (Octets node session octets)) = Unit {0}
SaysOctets (Some Skipped) = ⊥
SaysOctets (Some (Nodes count serial)) = ⊥
SaysOctets (Some (Deliver number node)) = ⊥
SaysOctets (Some (Crash node number after)) = ⊥
SaysOctets (Some (Tick node moment)) = ⊥
SaysOctets (Some (Grant node id)) = ⊥
SaysOctets (Some (Settle nodes)) = ⊥
SaysOctets (Some (Restart node)) = ⊥
SaysOctets (Some (Replay count)) = ⊥
SaysOctets None = ⊥
