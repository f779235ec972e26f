-- The rules of a tick in their order, of which the first that fits starts a round (own).
use Rattle.std.specs.Prelude.{ℕ, ◌+◌, ◌*◌, Bool, false, ◌==◌, ◌&&◌, not, nat_le, nat_lt, List, [], ◌∷◌, length, Option, Some, None, if◌then◌else◌}
use Rattle.std.specs.Option.{is_none, option_map, option_or}
use Rattle.mc_model.specs.message.Submission.{Submission}
use Rattle.mc_model.specs.message.Decree.{Attempt, Decree, Expired, Failed, Fate, Kind, Taken, Told, Undeliverable}
use Rattle.mc_model.specs.message.Neighbours.{most_attempts, retry_delay}
use Rattle.mc_model.specs.message.Chain.{attempts_in, taken_in}
use Rattle.mc_model.specs.synod.Packet.{TopVote}
use Rattle.mc_model.specs.node.Outcome.{Outcome, decree_of, no_session_error, older_incarnation_error}
use Rattle.mc_model.specs.node.Setup.{Setup}
use Rattle.mc_model.specs.node.Reach.{Reach, may_begin}
use Rattle.mc_model.specs.node.FirstRule.{Announce, Close, Delete, Expire, Follow, GiveUp, Lose, Rule, Take, Try, Undeliver}
use Rattle.node_model.specs.Acceptor.{told_of}
use Rattle.node_model.specs.Message.{Message}
use Rattle.node_model.specs.Kept.{Held, Kept, message_at}
use Rattle.node_model.specs.Requests.{higher_top, id_of}
use Rattle.node_model.specs.Proposer.{Start}
use Rattle.node_model.specs.Starts.{announced, delete_for, follow, is_idle, moment_behind, start_behind, take_for}

-- a rule that fits, and the round that it starts
pub record Fitting : Type 0 where
  pub rule : Rule
  pub start : Start

-- 1: a submit_sm waits
abbrev pub taken_for : Setup → Kept → ℕ → List Held → Option Start
taken_for setup k id [] = None
taken_for setup k id (h ∷ others) =
    option_or (if id_of h == id then take_for setup k h h.waiting.request else None) (taken_for setup k id others)

-- 2: a vote stands beyond what is known, told to a request that waits, or the node's own
abbrev pub shown_to : ℕ → List Held → Option TopVote → Option TopVote
shown_to id [] top = top
shown_to id (h ∷ others) top = shown_to id others (if id_of h == id then higher_top top h.top else top)

abbrev pub followed : Kept → ℕ → Option Start
followed k id = follow (message_at k id).known (shown_to id k.held (told_of k.records id))

-- ---- an attempt of the node

abbrev pub is_attempt_by : ℕ → Decree → Kind → Bool
is_attempt_by node newest (Taken message) = false
is_attempt_by node newest (Attempt number) = newest.author.node == node
is_attempt_by node newest (Failed error) = false
is_attempt_by node newest (Fate final error) = false
is_attempt_by node newest Told = false

-- 3: it was closed
abbrev pub closing : Setup → Kept → Decree → List Decree → Option Outcome → Option Start
closing setup k newest older outcome = option_map (λ closed. start_behind setup k newest older (decree_of closed)) outcome

-- 4: it is of an older incarnation, and lost
abbrev pub losing : Setup → Kept → Decree → List Decree → Option Start
losing setup k newest older =
    if nat_lt newest.author.incarnation k.incarnation
    then Some (start_behind setup k newest older (Failed older_incarnation_error))
    else None

-- 5: it was not granted, and its target is not up
abbrev pub giving_up : Setup → Kept → Message → Bool → Decree → List Decree → Option Start
giving_up setup k m up newest older =
    if not (m.granted (length older)) && (is_none (m.closed (length older)) && not up)
    then Some (start_behind setup k newest older (Failed no_session_error))
    else None

-- ---- a message that waits for its next attempt

-- 7: it expires
abbrev pub expiring : Setup → Kept → Submission → Decree → List Decree → Option Start
expiring setup k taken newest older =
    if is_idle newest.kind && nat_le taken.expiry (moment_behind k newest)
    then Some (start_behind setup k newest older (Fate Expired 0))
    else None

-- 8: all its attempts failed
abbrev pub undelivered : Setup → Kept → Decree → List Decree → Kind → Option Start
undelivered setup k newest older (Taken message) = None
undelivered setup k newest older (Attempt number) = None
undelivered setup k newest older (Failed error) =
    if attempts_in (newest ∷ older) == most_attempts
    then Some (start_behind setup k newest older (Fate Undeliverable error))
    else None
undelivered setup k newest older (Fate final error) = None
undelivered setup k newest older Told = None

-- 9: the next attempt is due and may begin
abbrev pub tried : Setup → Kept → Submission → Decree → List Decree → Kind → Option Start
tried setup k taken newest older (Taken message) =
    if nat_le taken.schedule (moment_behind k newest) && nat_lt (moment_behind k newest) taken.expiry
    then Some (start_behind setup k newest older (Attempt 1))
    else None
tried setup k taken newest older (Attempt number) = None
tried setup k taken newest older (Failed error) =
    if nat_lt (attempts_in (newest ∷ older)) most_attempts
    && (nat_lt (moment_behind k newest) taken.expiry
    && nat_le (newest.moment + retry_delay * attempts_in (newest ∷ older)) (moment_behind k newest))
    then Some (start_behind setup k newest older (Attempt (attempts_in (newest ∷ older) + 1)))
    else None
tried setup k taken newest older (Fate final error) = None
tried setup k taken newest older Told = None

-- ---- the first that fits

abbrev pub fitting : Rule → Option Start → Option Fitting
fitting rule start = option_map (λ it. record { rule = rule; start = it }) start

abbrev pub if_so : Bool → Option Start → Option Start
if_so holds start = if holds then start else None

-- of an attempt of the node, the newest decree of what is known, in this incarnation or an older one
abbrev pub attempt_rule : Setup → Kept → Message → Bool → Decree → List Decree → Option Fitting
attempt_rule setup k m up newest older =
    option_or (fitting Close (if_so (newest.author.incarnation == k.incarnation) (closing setup k newest older (m.closed (length older)))))
    (option_or (fitting Lose (losing setup k newest older))
    (fitting GiveUp (if_so (newest.author.incarnation == k.incarnation) (giving_up setup k m up newest older))))

-- of a message that waits
abbrev pub idle_rule : Setup → Kept → ℕ → Submission → Bool → Decree → List Decree → Option Fitting
idle_rule setup k id taken may newest older =
    option_or (fitting Delete (delete_for setup k id k.held (Some (newest ∷ older))))
    (option_or (fitting Expire (expiring setup k taken newest older))
    (option_or (fitting Undeliver (undelivered setup k newest older newest.kind))
    (option_or (fitting Try (if_so may (tried setup k taken newest older newest.kind)))
    (fitting Announce (announced setup k taken newest older newest.kind)))))

abbrev pub own_rule : Setup → Kept → Reach → ℕ → Decree → List Decree → Option Submission → Option Fitting
own_rule setup k reach id newest older None = None
own_rule setup k reach id newest older (Some taken) =
    if is_attempt_by setup.node newest newest.kind
    then attempt_rule setup k (message_at k id) (reach.up taken.target) newest older
    else idle_rule setup k id taken (may_begin reach id taken.target) newest older

abbrev pub known_rule : Setup → Kept → Reach → ℕ → Option (List Decree) → Option Fitting
known_rule setup k reach id None = None
known_rule setup k reach id (Some []) = None
known_rule setup k reach id (Some (newest ∷ older)) = own_rule setup k reach id newest older (taken_in (newest ∷ older))

abbrev pub first_rule : Setup → Kept → Reach → ℕ → Option Fitting
first_rule setup k reach id =
    option_or (fitting Take (taken_for setup k id k.held))
    (option_or (fitting Follow (followed k id))
    (known_rule setup k reach id (message_at k id).known))
