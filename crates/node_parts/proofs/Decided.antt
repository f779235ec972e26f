-- No rule fits a message that is decided while no request asks of it.
use Rattle.std.proofs.Common.{◌≡◌, ℕ, Bool, true, false, List, [], ◌∷◌, Option, Some, None, refl, sym, ap, ◌∙◌, inl, inr}
use Rattle.std.specs.Prelude.{◌==◌, ◌&&◌, if◌then◌else◌}
use Rattle.std.specs.Option.{is_none, option_or}
use Rattle.std.proofs.lemmas.Bool.{and_parts, cases_Bool, not-true, true≢false}
use Rattle.std.proofs.lemmas.Bool.Decides.{Decides-eqb}
use Rattle.mc_model.specs.message.Submission.{Submission}
use Rattle.mc_model.specs.message.Decree.{Attempt, Decree, Failed, Fate, Final, Kind, Taken, Told}
use Rattle.mc_model.specs.message.Chain.{home_in, taken_in}
use Rattle.mc_model.specs.synod.Lists.{In}
use Rattle.mc_model.specs.synod.Packet.{TopVote}
use Rattle.mc_model.specs.node.FirstRule.{Announce, Delete, Expire, Try, Undeliver}
use Rattle.mc_model.specs.node.Reach.{Reach, may_begin}
use Rattle.mc_model.specs.node.Setup.{Setup}
use Rattle.node_model.specs.Acceptor.{told_of}
use Rattle.node_model.specs.Answers.{is_asked}
use Rattle.node_model.specs.Kept.{Held, Kept, message_at}
use Rattle.node_model.specs.Requests.{id_of}
use Rattle.node_model.specs.Rules.{attempt_rule, expiring, first_rule, fitting, idle_rule, if_so, is_attempt_by, known_rule, own_rule}
use Rattle.node_model.specs.Rules.{shown_to, taken_for, tried, undelivered}
use Rattle.node_model.specs.Starts.{announced, delete_of, follow, is_idle, start_behind}
use Rattle.waiting_requests.specs.Numbers.{ids_in}
use Rattle.tick_rules.specs.declared.standpoint.Standpoint.{Standpoint}
use Rattle.tick_rules.proofs.Waiting.{nothing_either}
use Rattle.synod_acceptor.specs.Records.{record_at}
use Rattle.node_parts.specs.declared.message.Message.{Message as Filed}
use Rattle.node_parts.specs.Living.{is_decided, is_known_over, is_last}
use Rattle.node_parts.specs.Messages.{message_of}
use Rattle.node_parts.specs.Turning.{IsAtRest}
use Rattle.node_parts.proofs.Ticks.{goes_on}

-- ---- no request asks of it

pub apart : (id : ℕ) (h : Held) (others : List Held) → (In id (ids_in (h ∷ others)) → ⊥) → (id_of h == id) ≡ false
apart id h others unasked = elim (cases_Bool (id_of h == id)) [
  | inl same ↦ absurd (unasked (inl (sym ((Decides-eqb (id_of h) id).0 same))))
  | inr differs ↦ differs
]

pub none_taken : (setup : Setup) (k : Kept) (id : ℕ) (held : List Held) → (In id (ids_in held) → ⊥) → taken_for setup k id held ≡ None
none_taken setup k id [] unasked = refl
none_taken setup k id (h ∷ others) unasked = rw (apart id h others unasked) (none_taken setup k id others (λ later. unasked (inr later)))

pub none_shown : (id : ℕ) (held : List Held) (top : Option TopVote) → (In id (ids_in held) → ⊥) → shown_to id held top ≡ top
none_shown id [] top unasked = refl
none_shown id (h ∷ others) top unasked = rw (apart id h others unasked) (none_shown id others top (λ later. unasked (inr later)))

-- ---- a final state is known

-- behind a fate of which no receipt is asked, or that is told
module _ (setup : Setup) (k : Kept) (id : ℕ) (newest : Decree) (older : List Decree) (taken : Submission) where
  -- no rule fits such a newest decree
  record IsOver (kind : Kind) : Type 0 where
    waits : is_idle kind ≡ false
    tries : is_attempt_by setup.node newest kind ≡ false
    undelivers : undelivered setup k newest older kind ≡ None
    tried_again : tried setup k taken newest older kind ≡ None
    untold : announced setup k taken newest older kind ≡ None

  module _ (over : IsOver newest.kind) where
    none_deleted : (message : Option Submission) → delete_of setup k id k.held newest older message ≡ None
    none_deleted None = refl
    none_deleted (Some message) = rw over.waits refl

    none_expires : expiring setup k taken newest older ≡ None
    none_expires = rw over.waits refl

    idle_none : (up : Bool) → idle_rule setup k id taken up newest older ≡ None
    idle_none up = λ i.
        option_or (fitting Delete (none_deleted (taken_in (newest ∷ older)) i))
        (option_or (fitting Expire (none_expires i))
        (option_or (fitting Undeliver (over.undelivers i))
        (option_or (fitting Try ((ap (if_so up) over.tried_again ∙ nothing_either up) i))
        (fitting Announce (over.untold i)))))

    own_none : (reach : Reach) → own_rule setup k reach id newest older (Some taken) ≡ None
    own_none reach =
        ap (λ (test : Bool). if test then attempt_rule setup k (message_at k id) (reach.up taken.target) newest older
        else idle_rule setup k id taken (may_begin reach id taken.target) newest older) over.tries
        ∙ idle_none (may_begin reach id taken.target)

  -- no receipt is told of which none was asked for
  none_told : (final : Final) (error : ℕ) → is_asked final taken ≡ false → announced setup k taken newest older (Fate final error) ≡ None
  none_told final error unasked = rw unasked (by_home (setup.node == home_in (newest ∷ older)))
    where
      by_home : (home : Bool) → (if home && false then Some (start_behind setup k newest older Told) else None) ≡ None
      by_home true = refl
      by_home false = refl

  over_by : (kind : Kind) → is_last (Some taken) kind ≡ true → IsOver kind
  over_by (Taken message) last = absurd (true≢false (sym last))
  over_by (Attempt number) last = absurd (true≢false (sym last))
  over_by (Failed error) last = absurd (true≢false (sym last))
  over_by (Fate final error) last = record {
    waits = refl;
    tries = refl;
    undelivers = refl;
    tried_again = refl;
    untold = none_told final error (not-true (is_asked final taken) last);
  }
  over_by Told last = record { waits = refl; tries = refl; undelivers = refl; tried_again = refl; untold = refl }

none_behind : (setup : Setup) (k : Kept) (reach : Reach) (id : ℕ) (newest : Decree) (older : List Decree) (taken : Option Submission) →
    is_last taken newest.kind ≡ true → own_rule setup k reach id newest older taken ≡ None
none_behind setup k reach id newest older None last = refl
none_behind setup k reach id newest older (Some taken) last =
    own_none setup k id newest older taken (over_by setup k id newest older taken newest.kind last) reach

none_known : (setup : Setup) (k : Kept) (reach : Reach) (id : ℕ) (known : Option (List Decree)) → is_known_over known ≡ true →
    known_rule setup k reach id known ≡ None
none_known setup k reach id None over = absurd (true≢false (sym over))
none_known setup k reach id (Some []) over = refl
none_known setup k reach id (Some (newest ∷ older)) over = none_behind setup k reach id newest older (taken_in (newest ∷ older)) over

-- ---- no rule fits

nothing : {A : Type 0} (found : Option A) → is_none found ≡ true → None ≡ found
nothing None is = refl
nothing (Some x) is = absurd (true≢false (sym is))

pub no_rule : (setup : Setup) (k : Kept) (held : List Held) (reach : Reach) (id : ℕ) (m : Filed) (s : Standpoint) → IsAtRest setup k held id m s →
    is_decided id m ≡ true → (In id (ids_in held) → ⊥) → first_rule setup k reach id ≡ None
no_rule setup k held reach id m s rest decided unasked =
    let both = and_parts (is_known_over (message_of id m).known) (is_none (follow (message_of id m).known (told_of (record_at m.acceptor) id))) decided in
    let nothing_shown : None ≡ follow (message_of id m).known (shown_to id held (told_of (record_at m.acceptor) id)) =
    nothing (follow (message_of id m).known (told_of (record_at m.acceptor) id)) both.1
    ∙ ap (follow (message_of id m).known) (sym (none_shown id held (told_of (record_at m.acceptor) id) unasked)) in
    sym (goes_on setup k held reach id m s rest (sym (none_taken setup k id held unasked)) nothing_shown)
    ∙ none_known setup k reach id (message_of id m).known both.0
