-- A message that is at rest at a node: nothing is to be done about it any more (own; receipts are asked for as in SMPP 3.4, 5.2.17).
use Rattle.std.specs.Prelude.{◌≡◌, ℕ, Bool, true, false, not, List, [], ◌∷◌, Option, Some, None}
use Rattle.std.specs.Map.{keys_of}
use Rattle.std.specs.List.Sorted.{IsStrictlySortedBy}
use Rattle.std.specs.Ordering.{nat_cmp}
use Rattle.mc_model.specs.message.Submission.{Submission}
use Rattle.mc_model.specs.message.Decree.{Attempt, Decree, Failed, Fate, Final, Kind, Taken, Told}
use Rattle.mc_model.specs.message.Chain.{taken_in}
use Rattle.mc_model.specs.synod.Lists.{In}
use Rattle.node_model.specs.Acceptor.{told_of}
use Rattle.node_model.specs.Answers.{is_asked}
use Rattle.node_model.specs.Granted.{is_open_in}
use Rattle.node_model.specs.Kept.{Held, Kept, message_at}
use Rattle.node_model.specs.Requests.{id_of}
use Rattle.node_model.specs.Starts.{follow}

-- nothing may follow a decree: it tells the receipt, or is a final state of which none was asked for
abbrev pub is_unasked : Final → Option Submission → Bool
is_unasked final None = false
is_unasked final (Some taken) = not (is_asked final taken)

abbrev pub is_last : Option Submission → Kind → Bool
is_last taken (Taken message) = false
is_last taken (Attempt number) = false
is_last taken (Failed error) = false
is_last taken (Fate final error) = is_unasked final taken
is_last taken Told = true

-- a chain ends in such a decree
abbrev pub is_over : List Decree → Bool
is_over [] = false
is_over (newest ∷ older) = is_last (taken_in (newest ∷ older)) newest.kind

-- Such a chain is known, no own vote stands beyond it, no round runs, no attempt is open, and no request waits that asks of the message.
pub record IsAtRest (k : Kept) (id : ℕ) : Type 0 where
  pub chain : List Decree
  pub known : (message_at k id).known ≡ Some chain
  pub over : is_over chain ≡ true
  pub round : (message_at k id).round ≡ None
  pub reached : follow (Some chain) (told_of k.records id) ≡ None
  pub shut : (place : ℕ) → is_open_in (message_at k id) place ≡ false
  pub unasked : (h : Held) → In h k.held → id_of h ≡ id → ⊥

-- those that are gone are at rest; messages are kept by ascending ids
pub record AreAtRest (gone : ℕ → Bool) (k : Kept) : Type 0 where
  pub ascend : IsStrictlySortedBy nat_cmp (keys_of k.messages)
  pub rest : (id : ℕ) → gone id ≡ true → IsAtRest k id
