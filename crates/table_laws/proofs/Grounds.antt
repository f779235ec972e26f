-- What a round that a rule starts stands on: what is kept, or that with an attempt given up.
use Rattle.std.proofs.Common.{◌≡◌, ℕ, pred, ◌<◌, ◌≤◌, false, List, ◌∷◌, get_or, length, Some, refl, ap, ◌∙◌, arith}
use Rattle.std.specs.Prelude.{◌==◌, if◌then◌else◌}
use Rattle.std.proofs.lemmas.Bool.{ne_eqb}
use Rattle.mc_model.specs.message.Chain.{taken_by, taken_in}
use Rattle.mc_model.specs.message.Decree.{Attempt, Decree, Failed, Fate, Told, Kind, Taken}
use Rattle.mc_model.specs.message.Submission.{Submission}
use Rattle.mc_model.specs.node.FirstRule.{Announce, Close, Delete, Expire, Follow, GiveUp, Lose, Rule, Take, Try, Undeliver}
use Rattle.mc_model.specs.node.Outcome.{Outcome, Unanswered, no_session_error}
use Rattle.node_model.specs.Kept.{Kept, message_at, with_message}
use Rattle.node_model.specs.Message.{Message}
use Rattle.node_model.specs.Ticks.{given_up}
use Rattle.node_model.proofs.Places.{message_here}
use Rattle.table_laws.specs.Resting.{IsReady, IsTaken}
use Rattle.table_laws.proofs.Frames.{IsSameBut, same_then, same_with}

pub record IsGround (id : ℕ) (chain : List Decree) (k ground : Kept) : Type 0 where
  pub ready : IsReady ground id chain
  pub same : (m : Message) → IsSameBut id k (with_message ground id m)
  pub held : ground.held ≡ k.held
  pub up : ground.up ≡ k.up
  pub incarnation : ground.incarnation ≡ k.incarnation

pub own_ground : (k : Kept) (id : ℕ) (chain : List Decree) → IsReady k id chain → IsGround id chain k k
own_ground k id chain ready = record { ready = ready; same = λ m. same_with k id m k.held; held = refl; up = refl; incarnation = refl }

-- an attempt is closed at the newest place
module _ (k : Kept) (id : ℕ) (chain : List Decree) (some : 0 < length chain) (outcome : Outcome) where
  abbrev pub closed_then : Message
  closed_then = record (message_at k id) { closed = λ other. if other == pred (length chain) then Some outcome else (message_at k id).closed other }

  beyond_newest : (place : ℕ) → length chain ≤ place → closed_then.closed place ≡ (message_at k id).closed place
  beyond_newest place above =
      let other : (place == pred (length chain)) ≡ false = ne_eqb place (pred (length chain)) (λ same. omega (arith, some, above, same)) in rw other refl

  pub closed_ground : IsReady k id chain → IsGround id chain k (with_message k id closed_then)
  closed_ground ready = record {
    ready = record {
      known = ap (λ (m : Message). m.known) (message_here k id closed_then) ∙ ready.known;
      idle = ap (λ (m : Message). m.round) (message_here k id closed_then) ∙ ready.idle;
      votes = ready.votes;
      beyond = λ place above. record {
        record_is = (ready.beyond place above).record_is;
        seen = ap (λ (m : Message). get_or m.seen place 0) (message_here k id closed_then) ∙ (ready.beyond place above).seen;
        ungranted = ap (λ (m : Message). m.granted place) (message_here k id closed_then) ∙ (ready.beyond place above).ungranted;
        unclosed = ap (λ (m : Message). m.closed place) (message_here k id closed_then) ∙ (beyond_newest place above ∙ (ready.beyond place above).unclosed);
      };
    };
    same = λ m. same_then id k (with_message k id closed_then) (with_message (with_message k id closed_then) id m) (same_with k id closed_then k.held)
        (same_with (with_message k id closed_then) id m k.held);
    held = refl;
    up = refl;
    incarnation = refl;
  }

-- whatever the rule is
pub given_up_ground : (k : Kept) (id : ℕ) (chain : List Decree) → 0 < length chain → IsReady k id chain → (rule : Rule) →
    IsGround id chain k (given_up rule k id (pred (length chain)))
given_up_ground k id chain some ready GiveUp = closed_ground k id chain some (Unanswered no_session_error) ready
given_up_ground k id chain some ready Take = own_ground k id chain ready
given_up_ground k id chain some ready Follow = own_ground k id chain ready
given_up_ground k id chain some ready Close = own_ground k id chain ready
given_up_ground k id chain some ready Lose = own_ground k id chain ready
given_up_ground k id chain some ready Delete = own_ground k id chain ready
given_up_ground k id chain some ready Expire = own_ground k id chain ready
given_up_ground k id chain some ready Undeliver = own_ground k id chain ready
given_up_ground k id chain some ready Try = own_ground k id chain ready
given_up_ground k id chain some ready Announce = own_ground k id chain ready

-- a message that was taken still was, whatever is decreed
pub taken_more : (k : Kept) (id : ℕ) (decree : Decree) (old : List Decree) → IsTaken k id old → IsTaken k id (decree ∷ old)
taken_more k id decree old taken = let more = by_kind decree.kind in record { message = more.0; taken = more.1; given = taken.given }
  where
    by_kind : (kind : Kind) → (message : Submission) × (taken_by kind (taken_in old) ≡ Some message)
    by_kind (Taken message) = (message, refl)
    by_kind (Attempt number) = (taken.message, taken.taken)
    by_kind (Failed error) = (taken.message, taken.taken)
    by_kind (Fate final error) = (taken.message, taken.taken)
    by_kind Told = (taken.message, taken.taken)
