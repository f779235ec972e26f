-- The rules of a tick, at a node that forgot something of other messages.
use Rattle.std.proofs.Common.{◌≡◌, ℕ, pred, Bool, false, List, [], ◌∷◌, Option, Some, None, refl, ap, ◌∙◌}
use Rattle.std.specs.Prelude.{◌==◌, if◌then◌else◌}
use Rattle.std.specs.Option.{option_or}
use Rattle.mc_model.specs.message.Submission.{Submission}
use Rattle.mc_model.specs.message.Decree.{Attempt, Decree, Failed, Fate, Kind, Taken, Told}
use Rattle.mc_model.specs.message.Chain.{taken_in}
use Rattle.mc_model.specs.node.FirstRule.{Announce, Close, Delete, Expire, Follow, GiveUp, Lose, Rule, Take, Try, Undeliver}
use Rattle.mc_model.specs.node.Reach.{Reach, may_begin}
use Rattle.mc_model.specs.node.Setup.{Setup}
use Rattle.node_model.specs.Kept.{Held, Kept, message_at, with_message}
use Rattle.node_model.specs.Message.{Message, most_places}
use Rattle.node_model.specs.Proposer.{started}
use Rattle.mc_model.specs.node.Outcome.{Unanswered, no_session_error}
use Rattle.node_model.specs.Requests.{id_of}
use Rattle.node_model.specs.Rules.{Fitting, attempt_rule, expiring, first_rule, fitting, followed, idle_rule, if_so, is_attempt_by, known_rule, own_rule, shown_to, taken_for, tried, undelivered}
use Rattle.node_model.specs.Starts.{follow}
use Rattle.node_model.specs.Ticks.{given_up, ruled}
use Rattle.rest_laws.proofs.forgetting.Kept.{Forgetting, less, less_prepared, message_same, started_same, told_same, with_same}
use Rattle.rest_laws.proofs.forgetting.Others.{take_same}
use Rattle.rest_laws.proofs.forgetting.Packets.{announced_same, delete_same}

module _ (f : Forgetting) where
  -- ---- the first rule that fits

  taken_same : (setup : Setup) (k : Kept) (id : ℕ) (held : List Held) → taken_for setup (less f k) id held ≡ taken_for setup k id held
  taken_same setup k id [] = refl
  taken_same setup k id (h ∷ others) =
      λ i. option_or (if id_of h == id then take_same f setup k h h.waiting.request i else None) (taken_same setup k id others i)

  undelivered_same : (setup : Setup) (k : Kept) (newest : Decree) (older : List Decree) (kind : Kind) →
      undelivered setup (less f k) newest older kind ≡ undelivered setup k newest older kind
  undelivered_same setup k newest older (Taken message) = refl
  undelivered_same setup k newest older (Attempt number) = refl
  undelivered_same setup k newest older (Failed error) = refl
  undelivered_same setup k newest older (Fate final error) = refl
  undelivered_same setup k newest older Told = refl

  tried_same : (setup : Setup) (k : Kept) (taken : Submission) (newest : Decree) (older : List Decree) (kind : Kind) →
      tried setup (less f k) taken newest older kind ≡ tried setup k taken newest older kind
  tried_same setup k taken newest older (Taken message) = refl
  tried_same setup k taken newest older (Attempt number) = refl
  tried_same setup k taken newest older (Failed error) = refl
  tried_same setup k taken newest older (Fate final error) = refl
  tried_same setup k taken newest older Told = refl

  idle_same : (setup : Setup) (k : Kept) (id : ℕ) (taken : Submission) (may : Bool) (newest : Decree) (older : List Decree) →
      idle_rule setup (less f k) id taken may newest older ≡ idle_rule setup k id taken may newest older
  idle_same setup k id taken may newest older =
      λ i. option_or (fitting Delete (delete_same f setup k id k.held (Some (newest ∷ older)) i))
      (option_or (fitting Expire (expiring setup k taken newest older))
      (option_or (fitting Undeliver (undelivered_same setup k newest older newest.kind i))
      (option_or (fitting Try (if_so may (tried_same setup k taken newest older newest.kind i)))
      (fitting Announce (announced_same f setup k taken newest older newest.kind i)))))

  own_same : (setup : Setup) (k : Kept) (reach : Reach) (id : ℕ) (newest : Decree) (older : List Decree) (taken : Option Submission) →
      f.some_of id ≡ false → own_rule setup (less f k) reach id newest older taken ≡ own_rule setup k reach id newest older taken
  own_same setup k reach id newest older None stays = refl
  own_same setup k reach id newest older (Some taken) stays =
      λ i. if is_attempt_by setup.node newest newest.kind
      then attempt_rule setup k (message_same f k id stays i) (reach.up taken.target) newest older
      else idle_same setup k id taken (may_begin reach id taken.target) newest older i

  known_rule_same : (setup : Setup) (k : Kept) (reach : Reach) (id : ℕ) (known : Option (List Decree)) → f.some_of id ≡ false →
      known_rule setup (less f k) reach id known ≡ known_rule setup k reach id known
  known_rule_same setup k reach id None stays = refl
  known_rule_same setup k reach id (Some []) stays = refl
  known_rule_same setup k reach id (Some (newest ∷ older)) stays = own_same setup k reach id newest older (taken_in (newest ∷ older)) stays

  pub first_same : (setup : Setup) (k : Kept) (reach : Reach) (id : ℕ) → f.some_of id ≡ false →
      first_rule setup (less f k) reach id ≡ first_rule setup k reach id
  first_same setup k reach id stays =
      let m = message_same f k id stays in
      let shown : followed (less f k) id ≡ followed k id =
      λ i. follow (m i).known (shown_to id k.held (told_same f k id stays most_places i)) in
      let r : known_rule setup (less f k) reach id (message_at (less f k) id).known ≡ known_rule setup k reach id (message_at k id).known =
      ap (λ (x : Message). known_rule setup (less f k) reach id x.known) m ∙ known_rule_same setup k reach id (message_at k id).known stays in
      λ i. option_or (fitting Take (taken_same setup k id k.held i)) (option_or (fitting Follow (shown i)) (r i))

  -- an attempt is given up
  given_same : (rule : Rule) (k : Kept) (id place : ℕ) → f.Ordered k.messages → f.some_of id ≡ false →
      given_up rule (less f k) id place ≡ less f (given_up rule k id place)
  given_same Take k id place ordered stays = refl
  given_same Follow k id place ordered stays = refl
  given_same Close k id place ordered stays = refl
  given_same Lose k id place ordered stays = refl
  given_same GiveUp k id place ordered stays =
      let m = message_same f k id stays in
      let new : Message = record (message_at k id) {
        closed = λ other. if other == place then Some (Unanswered no_session_error) else (message_at k id).closed other;
      } in
      (λ i. with_message (less f k) id (record (m i) {
        closed = λ other. if other == place then Some (Unanswered no_session_error) else (m i).closed other;
      }))
      ∙ with_same f k id new ordered stays
  given_same Delete k id place ordered stays = refl
  given_same Expire k id place ordered stays = refl
  given_same Undeliver k id place ordered stays = refl
  given_same Try k id place ordered stays = refl
  given_same Announce k id place ordered stays = refl

  given_ordered : (rule : Rule) (k : Kept) (id place : ℕ) → f.Ordered k.messages → f.Ordered (given_up rule k id place).messages
  given_ordered Take k id place ordered = ordered
  given_ordered Follow k id place ordered = ordered
  given_ordered Close k id place ordered = ordered
  given_ordered Lose k id place ordered = ordered
  given_ordered GiveUp k id place ordered = f.still_ordered k.messages id (record (message_at k id) {
    closed = λ other. if other == place then Some (Unanswered no_session_error) else (message_at k id).closed other;
  }) ordered
  given_ordered Delete k id place ordered = ordered
  given_ordered Expire k id place ordered = ordered
  given_ordered Undeliver k id place ordered = ordered
  given_ordered Try k id place ordered = ordered
  given_ordered Announce k id place ordered = ordered

  -- one message, by its rule
  pub ruled_same : (setup : Setup) (k : Kept) (id : ℕ) (fit : Option Fitting) → f.Ordered k.messages → f.some_of id ≡ false →
      ruled setup (less f k) id fit ≡ less_prepared f (ruled setup k id fit)
  ruled_same setup k id None ordered stays = refl
  ruled_same setup k id (Some fit) ordered stays =
      (λ i. started setup (given_same fit.rule k id (pred fit.start.place) ordered stays i) id (Some fit.start))
      ∙ started_same f setup (given_up fit.rule k id (pred fit.start.place)) id (Some fit.start)
      (given_ordered fit.rule k id (pred fit.start.place) ordered) stays
