-- Which rule fits a message of a node by itself at a tick.
use Rattle.std.proofs.Common.{◌≡◌, ℕ, Bool, true, false, List, [], ◌∷◌, length, max, Option, Some, None, refl, sym, ap, subst, ◌∙◌}
use Rattle.std.specs.Prelude.{◌==◌, ◌&&◌, ◌+◌, ◌*◌, not, nat_le, nat_lt, if◌then◌else◌}
use Rattle.std.specs.Option.{option_or}
use Rattle.mc_model.specs.node.Reach.{of_all}
use Rattle.mc_model.specs.message.Submission.{Submission}
use Rattle.mc_model.specs.message.Decree.{Attempt, Decree, Expired, Failed, Fate, Told, Kind, Taken, Undeliverable, Author}
use Rattle.mc_model.specs.message.Chain.{attempts_in, taken_in}
use Rattle.mc_model.specs.message.Neighbours.{most_attempts, retry_delay}
use Rattle.mc_model.specs.synod.Packet.{TopVote}
use Rattle.mc_model.specs.node.FirstRule.{Announce, Close, Expire, GiveUp, Lose, Rule, Try, Undeliver}
use Rattle.mc_model.specs.node.Outcome.{no_session_error, older_incarnation_error}
use Rattle.mc_model.specs.node.Setup.{Setup}
use Rattle.node_model.specs.Acceptor.{told_of}
use Rattle.node_model.specs.Kept.{Kept, message_at, Held}
use Rattle.node_model.specs.Requests.{higher_top}
use Rattle.node_model.specs.Rules.{Fitting, attempt_rule, first_rule, fitting, followed, idle_rule, if_so, known_rule, taken_for, is_attempt_by, shown_to}
use Rattle.node_model.specs.Starts.{follow, start_behind, delete_for}
use Rattle.table_laws.specs.Alone.{alone}
use Rattle.table_laws.specs.Tables.{Entry, TableNode, decree_by, is_to_tell, known_as}
use Rattle.table_laws.specs.Ticks.{due, due_behind, due_if, due_of, due_of_attempt}
use Rattle.table_laws.specs.Resting.{IsAtRest}
use Rattle.table_laws.proofs.Asking.{told_is_reached}
use Rattle.table_laws.proofs.Carrying.{start}
use Rattle.table_laws.proofs.Ending.{nobody_deletes}

higher_than_none : (told : Option TopVote) → higher_top None told ≡ told
higher_than_none None = refl
higher_than_none (Some told) = refl

-- a rule that fits starts the round for what is due, and if nothing is, none fits
abbrev pub FitsAs : ℕ → ℕ → ℕ → TableNode → List Decree → Option Fitting → Option Kind → Type 0
FitsAs first validity id t chain None None = Unit {0}
FitsAs first validity id t chain (Some fit) (Some kind) = fit.start ≡ start first validity id chain (decree_by t chain kind)
FitsAs first validity id t chain None (Some kind) = ⊥
FitsAs first validity id t chain (Some fit) None = ⊥

module _ (first validity : ℕ) (k : Kept) (t0 : TableNode) (id : ℕ) (up : List ℕ → Bool) (held : k.held ≡ []) where
  abbrev setup : Setup
  setup = alone first validity

  -- the table, with the clock and the incarnation of the node
  abbrev t : TableNode
  t = record t0 { incarnation = k.incarnation; clock = k.clock }

  abbrev Fits : List Decree → Option Fitting → Option Kind → Type 0
  Fits = FitsAs first validity id t

  fits_or : (chain : List Decree) (one two : Option Fitting) (some other : Option Kind) → Fits chain one some → Fits chain two other →
      Fits chain (option_or one two) (option_or some other)
  fits_or chain None two None other fits also = also
  fits_or chain (Some fit) two (Some kind) other fits also = fits
  fits_or chain None two (Some kind) other fits also = absurd fits
  fits_or chain (Some fit) two None other fits also = absurd fits

  none_behind : (chain : List Decree) (one : Option Fitting) (some : Option Kind) → Fits chain one some → Fits chain (option_or one None) some
  none_behind chain None None fits = tt
  none_behind chain (Some fit) (Some kind) fits = fits
  none_behind chain None (Some kind) fits = absurd fits
  none_behind chain (Some fit) None fits = absurd fits

  none_so : (rule : Rule) (test : Bool) → fitting rule (if_so test None) ≡ None
  none_so rule true = refl
  none_so rule false = refl

  module _ (newest : Decree) (older : List Decree) where
    fits_if : (rule : Rule) (kind : Kind) (test : Bool) →
        Fits (newest ∷ older) (fitting rule (if test then Some (start_behind setup k newest older kind) else None)) (due_if test kind)
    fits_if rule kind true = refl
    fits_if rule kind false = tt

    fits_both : (rule : Rule) (kind : Kind) (one test : Bool) →
        Fits (newest ∷ older) (fitting rule (if_so one (if test then Some (start_behind setup k newest older kind) else None))) (due_if (one && test) kind)
    fits_both rule kind true test = fits_if rule kind test
    fits_both rule kind false test = tt

    undeleted : delete_for setup k id k.held (Some (newest ∷ older)) ≡ None
    undeleted = ap (λ (hs : List Held). delete_for setup k id hs (Some (newest ∷ older))) held ∙ nobody_deletes setup k id newest older

  -- by the kind of the newest decree
  module _ (author : Author) (moment : ℕ) (older : List Decree) (granted target : Bool) (message : Submission)
      (unclosed : (message_at k id).closed (length older) ≡ None) (granted_is : (message_at k id).granted (length older) ≡ granted) where
    abbrev newest : Kind → Decree
    newest kind = record { author = author; moment = moment; kind = kind }

    abbrev now : ℕ
    now = max k.clock moment

    abbrev ruled_by : Kind → Bool → Option Fitting
    ruled_by kind own =
        if own then attempt_rule setup k (message_at k id) target (newest kind) older else idle_rule setup k id message target (newest kind) older

    attempt_as : (number : ℕ) (own : Bool) →
        Fits (newest (Attempt number) ∷ older) (ruled_by (Attempt number) own) (if own then due_of_attempt t granted target (newest (Attempt number)) else None)
    attempt_as number true =
        rw (unclosed, none_so Close (author.incarnation == k.incarnation), granted_is)
        (fits_or (newest (Attempt number) ∷ older) _ _ _ _
        (fits_if (newest (Attempt number)) older Lose (Failed older_incarnation_error) (nat_lt author.incarnation k.incarnation))
        (fits_both (newest (Attempt number)) older GiveUp (Failed no_session_error) (author.incarnation == k.incarnation) (not granted && not target)))
    attempt_as number false = rw (undeleted (newest (Attempt number)) older, none_so Try target) tt

    own_as : (kind : Kind) →
        Fits (newest kind ∷ older) (ruled_by kind (is_attempt_by 1 (newest kind) kind)) (due_behind t granted target message (newest kind) older kind)
    own_as (Taken taken) =
        rw (undeleted (newest (Taken taken)) older)
        (fits_or (newest (Taken taken) ∷ older) _ _ _ _
        (fits_if (newest (Taken taken)) older Expire (Fate Expired 0) (nat_le message.expiry now))
        (none_behind (newest (Taken taken) ∷ older) _ _
        (fits_both (newest (Taken taken)) older Try (Attempt 1) target (nat_le message.schedule now && nat_lt now message.expiry))))
    own_as (Attempt number) = attempt_as number (author.node == 1)
    own_as (Failed error) =
        let attempts : ℕ = attempts_in (newest (Failed error) ∷ older) in
        rw (undeleted (newest (Failed error)) older)
        (fits_or (newest (Failed error) ∷ older) _ _ _ _
        (fits_if (newest (Failed error)) older Expire (Fate Expired 0) (nat_le message.expiry now))
        (fits_or (newest (Failed error) ∷ older) _ _ _ _
        (fits_if (newest (Failed error)) older Undeliver (Fate Undeliverable error) (attempts_in (newest (Failed error) ∷ older) == most_attempts))
        (none_behind (newest (Failed error) ∷ older) _ _
        (fits_both (newest (Failed error)) older Try (Attempt (attempts_in (newest (Failed error) ∷ older) + 1)) target
        (nat_lt (attempts_in (newest (Failed error) ∷ older)) most_attempts
        && (nat_lt now message.expiry && nat_le (moment + retry_delay * attempts_in (newest (Failed error) ∷ older)) now))))))
    own_as (Fate final error) =
        rw (undeleted (newest (Fate final error)) older, none_so Try target)
        (fits_if (newest (Fate final error)) older Announce Told (is_to_tell message (newest (Fate final error) ∷ older) (Fate final error)))
    own_as Told = rw (undeleted (newest Told) older, none_so Try target) tt

  known_fits : (chain : List Decree) (granted : Bool) → IsAtRest k id (record { chain = chain; granted = granted }) →
      Fits chain (known_rule setup k (of_all up) id (known_as chain)) (due_of t up granted chain (taken_in chain))
  known_fits [] granted rest = tt
  known_fits (newest ∷ older) granted rest =
      rw rest.taken.taken
      (own_as newest.author newest.moment older granted (up rest.taken.message.target) rest.taken.message rest.unclosed rest.granted newest.kind)

  module _ (entry : Entry) (rest : IsAtRest k id entry) where
    untaken : taken_for setup k id k.held ≡ None
    untaken = ap (taken_for setup k id) held

    unfollowed : followed k id ≡ None
    unfollowed =
        ap (λ (hs : List Held). follow (message_at k id).known (shown_to id hs (told_of k.records id))) held
        ∙ (ap (λ (o : Option (List Decree)). follow o (told_of k.records id)) rest.ready.known
        ∙ (ap (follow (known_as entry.chain)) (sym (higher_than_none (told_of k.records id))) ∙ (told_is_reached k id entry.chain rest.ready).unfollowed))

    -- the first rule that fits
    first_as : Fits entry.chain (first_rule setup k (of_all up) id) (due t up entry)
    first_as = rw (untaken, unfollowed, rest.ready.known) (known_fits entry.chain entry.granted rest)

-- by the clock and the incarnation of the table
pub first_fits : (first validity : ℕ) (k : Kept) (t : TableNode) (id : ℕ) (up : List ℕ → Bool) → k.held ≡ [] →
    k.incarnation ≡ t.incarnation → k.clock ≡ t.clock →
    (entry : Entry) → IsAtRest k id entry → FitsAs first validity id t entry.chain (first_rule (alone first validity) k (of_all up) id) (due t up entry)
first_fits first validity k t id up held incarnation clock entry rest =
    subst (λ (n : TableNode). FitsAs first validity id n entry.chain (first_rule (alone first validity) k (of_all up) id) (due n up entry))
    (λ i. record t { incarnation = incarnation i; clock = clock i })
    (first_as first validity k t id up held entry rest)
