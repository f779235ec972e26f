-- The messages that wait for a worker, by account (own).
use Rattle.std.specs.Prelude.{◌≡◌, ℕ, ◌+◌, ◌==◌, Bool, true, false, ◌&&◌, nat_lt, List, [], ◌∷◌, ◌++◌, count_by, drop, filter, length, min, not, position, slice_get, slice_set}
use Rattle.std.specs.Prelude.{Option, Some, None, is_some, sum_by, unwrap_or, if◌then◌else◌}
use Rattle.std.specs.BTreeMap.{is_at}
use Rattle.std.specs.List.{list_any}
use Rattle.std.specs.Ordering.{nat_cmp}
use Rattle.std.specs.Str.{bytes_eq}

-- a message that waits, and how many had come to wait before it
pub record Waiter : Type 0 where
  pub id : ℕ
  pub turn : ℕ

-- those that go to one account, with a long text or a short one, in two queues; in each the first came first
pub record Lane : Type 0 where
  pub account : List ℕ
  pub long : List Waiter
  pub short : List Waiter

pub record Lanes : Type 0 where
  pub lanes : List Lane
  -- how many have come to wait
  pub turns : ℕ

-- ---- one lane

abbrev pub empty : List ℕ → Lane
empty account = record { account = account; long = []; short = [] }

abbrev pub is_of : List ℕ → Lane → Bool
is_of account lane = bytes_eq lane.account account

abbrev pub is_empty : Lane → Bool
is_empty lane = (length lane.long == 0) && (length lane.short == 0)

abbrev pub queue : Bool → Lane → List Waiter
queue true lane = lane.long
queue false lane = lane.short

abbrev pub with_queue : Bool → List Waiter → Lane → Lane
with_queue true waiters lane = record lane { long = waiters }
with_queue false waiters lane = record lane { short = waiters }

abbrev pub front : Bool → Lane → Option Waiter
front long lane = slice_get (queue long lane) 0

-- a message comes behind the others of its kind
abbrev pub put_behind : Bool → Waiter → Lane → Lane
put_behind long waiter lane = with_queue long (queue long lane ++ waiter ∷ []) lane

-- the first of a kind leaves
abbrev pub without_front : Bool → Lane → Lane
without_front long lane = with_queue long (drop 1 (queue long lane)) lane

abbrev pub came_before : Option Waiter → Option Waiter → Bool
came_before None other = false
came_before (Some waiter) None = true
came_before (Some waiter) (Some other) = nat_lt waiter.turn other.turn

-- the first with a long text came before the first with a short one
abbrev pub begins_long : Lane → Bool
begins_long lane = came_before (front true lane) (front false lane)

-- ---- all lanes

abbrev pub place_of : List ℕ → List Lane → Option ℕ
place_of account lanes = position (is_of account) lanes

abbrev pub with_at : Option Lane → ℕ → (Lane → Lane) → List Lane → List Lane
with_at None place change lanes = lanes
with_at (Some lane) place change lanes = slice_set lanes place (change lane)

-- the lane at a place is changed, if there is one
abbrev pub changed_at : ℕ → (Lane → Lane) → List Lane → List Lane
changed_at place change lanes = with_at (slice_get lanes place) place change lanes

-- the account has a lane, behind the others if it had none
abbrev pub with_lane : List ℕ → List Lane → List Lane
with_lane account lanes = if is_some (place_of account lanes) then lanes else lanes ++ empty account ∷ []

abbrev pub place_in : List ℕ → List Lane → ℕ
place_in account lanes = unwrap_or (place_of account lanes) (length lanes)

-- how often a message stands in the queues
abbrev pub times_in_lane : ℕ → Lane → ℕ
times_in_lane id lane = count_by (λ waiter. waiter.id == id) lane.long + count_by (λ waiter. waiter.id == id) lane.short

abbrev pub times_in : ℕ → List Lane → ℕ
times_in id lanes = sum_by (times_in_lane id) lanes

abbrev pub waits : ℕ → Lanes → Bool
waits id lanes = nat_lt 0 (times_in id lanes.lanes)

-- a message comes to wait behind the others of its kind for its account
abbrev pub lined_up : List ℕ → Bool → ℕ → Lanes → Lanes
lined_up account long id lanes = record {
  lanes = changed_at (place_in account lanes.lanes) (put_behind long (record { id = id; turn = lanes.turns })) (with_lane account lanes.lanes);
  turns = min (lanes.turns + 1) 0xFFFF_FFFF_FFFF_FFFF;
}

-- unless it waits already
abbrev pub put : List ℕ → Bool → ℕ → Lanes → Lanes
put account long id lanes = if waits id lanes then lanes else lined_up account long id lanes

-- the first of a kind in a lane waits no more
abbrev pub taken_off : ℕ → Bool → Lanes → Lanes
taken_off place long lanes = record lanes { lanes = changed_at place (without_front long) lanes.lanes }

-- lanes in which none waits are gone
abbrev pub tidied : Lanes → Lanes
tidied lanes = record lanes { lanes = filter (λ lane. not (is_empty lane)) lanes.lanes }

-- how many wait in the lane of an account
abbrev pub count_in : Option Lane → ℕ
count_in None = 0
count_in (Some lane) = min (length lane.long + length lane.short) 0xFFFF_FFFF_FFFF_FFFF

-- The numbers are those of all that wait, and each of these stands in one queue, once.
abbrev pub StandOnce : List ℕ → List Lane → Type 0
StandOnce numbers lanes = (id : ℕ) → times_in id lanes ≡ (if list_any (is_at (nat_cmp id)) numbers then 1 else 0)
