-- The chain of a rule's round is the node's own, at a place beyond what it knows.
use Rattle.std.proofs.Common.{◌≡◌, ◌⊎◌, ℕ, pred, ◌<◌, ◌≤◌, Bool, List, ◌∷◌, length, Option, refl, sym, ap, subst, ◌∙◌, inl, inr, arith}
use Rattle.mc_model.specs.node.Reach.{Reach}
use Rattle.mc_model.specs.message.Submission.{Submission}
use Rattle.mc_model.specs.message.Decree.{Attempt, Author, Decree, Deleted, Delivered, Expired, Failed, Fate, Told, Kind, Rejected, Taken, Undeliverable}
use Rattle.mc_model.specs.message.Neighbours.{MayFollow}
use Rattle.mc_model.specs.message.Chain.{IsPermitted, MayExtend, attempts_in, home_in, taken_in}
use Rattle.mc_model.specs.synod.Lists.{In}
use Rattle.mc_model.specs.synod.OneSlot.{vote_at}
use Rattle.mc_model.specs.synod.Packet.{Packet, Slot, Voted, slot_at, slot_of}
use Rattle.mc_model.specs.synod.Acceptor.{Records}
use Rattle.mc_model.specs.node.Actor.{Actor}
use Rattle.mc_model.specs.node.FirstRule.{Announce, Close, Delete, Expire, FitsRule, Follow, GiveUp, Lose, Rule, Take, Try, Undeliver, order_of}
use Rattle.mc_model.specs.node.Knowledge.{IsLearned, Knows}
use Rattle.mc_model.specs.node.Outcome.{Concluded, Outcome, Unanswered, decree_of, no_session_error, older_incarnation_error}
use Rattle.mc_model.specs.node.Proposal.{Allows, HasError, IsCancelled, IsClosed, IsNext}
use Rattle.mc_model.specs.node.Rules.{GoesFurther, IsAhead, IsAttemptBy, next_decree}
use Rattle.mc_parts.proofs.Known.{knows_one}
use Rattle.mc_parts.proofs.Lengths.{most_decrees}
use Rattle.mc_parts.proofs.Majorities.{both}
use Rattle.node_model.specs.Message.{most_places}
use Rattle.node_laws.specs.Stands.{IsClosing, IsCoherent}

-- ---- what is known is permitted

pub learned_permitted : (nodes node : ℕ) (a : Actor) → IsCoherent node a → (id ballot : ℕ) (chain : List Decree) →
    IsLearned nodes a.received (slot_of id chain) (vote_at ballot chain) → IsPermitted id chain
learned_permitted nodes node a coherent id ballot chain learned =
    let told =
    both nodes (λ voter. In (Voted voter (slot_of id chain) (vote_at ballot chain)) a.received)
    (λ voter. In (Voted voter (slot_of id chain) (vote_at ballot chain)) a.received) learned learned in
    (coherent.fits (Voted told.node (slot_of id chain) (vote_at ballot chain)) told.one).0.permitted

-- ---- what goes further from what is known

pub record GoesOn (nodes node : ℕ) (a : Actor) (id place : ℕ) (chain : List Decree) : Type 0 where
  pub kind : Kind
  pub further : GoesFurther nodes node a id place chain kind

pub goes_on : (nodes node : ℕ) (a : Actor) (records : Records) (reach : Reach) (id : ℕ) (rule : Rule) (place : ℕ) (chain : List Decree) →
    3 ≤ order_of rule →
    FitsRule nodes node a records reach id place chain rule → GoesOn nodes node a id place chain
goes_on nodes node a records reach id Take place chain late fits = absurd (omega arith)
goes_on nodes node a records reach id Follow place chain late fits = absurd (omega arith)
goes_on nodes node a records reach id Close place chain late fits = record { kind = _; further = fits.further }
goes_on nodes node a records reach id Lose place chain late fits = record { kind = _; further = fits.further }
goes_on nodes node a records reach id GiveUp place chain late fits = record { kind = _; further = fits.further }
goes_on nodes node a records reach id Delete place chain late fits = record { kind = _; further = fits.further }
goes_on nodes node a records reach id Expire place chain late fits = record { kind = _; further = fits.further }
goes_on nodes node a records reach id Undeliver place chain late fits = record { kind = _; further = fits.due.further }
goes_on nodes node a records reach id Try place chain late fits = record { kind = _; further = fits.due.further }
goes_on nodes node a records reach id Announce place chain late fits = record { kind = _; further = fits.further }

-- ---- what may follow an attempt

closing_follows : (kind : Kind) (number : ℕ) → kind ≡ Attempt number → (outcome : Outcome) → IsClosing outcome →
    (message : Submission) (home attempt : ℕ) (old author : Author) (before moment : ℕ) →
    author ≡ old → MayFollow message home attempt old before kind author moment (decree_of outcome)
closing_follows (Taken of) number is outcome closing message home attempt old author before moment same = absurd (cc)
closing_follows (Attempt tried) number is (Unanswered error) closing message home attempt old author before moment same = record {
  node = ap (λ (x : Author). x.node) same;
  incarnation = let incarnations = ap (λ (x : Author). x.incarnation) same in omega arith;
}
closing_follows (Attempt tried) number is (Concluded Delivered error) closing message home attempt old author before moment same = same
closing_follows (Attempt tried) number is (Concluded Undeliverable error) closing message home attempt old author before moment same = same
closing_follows (Attempt tried) number is (Concluded Rejected error) closing message home attempt old author before moment same = same
closing_follows (Attempt tried) number is (Concluded Expired error) (inl none) message home attempt old author before moment same = absurd none
closing_follows (Attempt tried) number is (Concluded Expired error) (inr other) message home attempt old author before moment same = absurd (cc)
closing_follows (Attempt tried) number is (Concluded Deleted error) (inl none) message home attempt old author before moment same = absurd none
closing_follows (Attempt tried) number is (Concluded Deleted error) (inr other) message home attempt old author before moment same = absurd (cc)
closing_follows (Failed error) number is outcome closing message home attempt old author before moment same = absurd (cc)
closing_follows (Fate final error) number is outcome closing message home attempt old author before moment same = absurd (cc)
closing_follows Told number is outcome closing message home attempt old author before moment same = absurd (cc)

closing_error : (kind : Kind) (number : ℕ) → kind ≡ Attempt number → (outcome : Outcome) → IsClosing outcome → HasError kind (decree_of outcome)
closing_error (Taken of) number is outcome closing = absurd (cc)
closing_error (Attempt tried) number is (Unanswered error) closing = tt
closing_error (Attempt tried) number is (Concluded Delivered error) closing = tt
closing_error (Attempt tried) number is (Concluded Undeliverable error) closing = tt
closing_error (Attempt tried) number is (Concluded Rejected error) closing = tt
closing_error (Attempt tried) number is (Concluded Expired error) (inl none) = absurd none
closing_error (Attempt tried) number is (Concluded Expired error) (inr other) = absurd (cc)
closing_error (Attempt tried) number is (Concluded Deleted error) (inl none) = absurd none
closing_error (Attempt tried) number is (Concluded Deleted error) (inr other) = absurd (cc)
closing_error (Failed error) number is outcome closing = absurd (cc)
closing_error (Fate final error) number is outcome closing = absurd (cc)
closing_error Told number is outcome closing = absurd (cc)

failure_follows : (kind : Kind) (number error : ℕ) → kind ≡ Attempt number → (message : Submission) (home attempt : ℕ) (old author : Author) (before moment : ℕ) →
    author.node ≡ old.node → old.incarnation ≤ author.incarnation → MayFollow message home attempt old before kind author moment (Failed error)
failure_follows (Taken of) number error is message home attempt old author before moment nodes incarnations = absurd (cc)
failure_follows (Attempt tried) number error is message home attempt old author before moment nodes incarnations =
    record { node = nodes; incarnation = incarnations }
failure_follows (Failed cause) number error is message home attempt old author before moment nodes incarnations = absurd (cc)
failure_follows (Fate final cause) number error is message home attempt old author before moment nodes incarnations = absurd (cc)
failure_follows Told number error is message home attempt old author before moment nodes incarnations = absurd (cc)

failure_error : (kind : Kind) (error : ℕ) → HasError kind (Failed error)
failure_error (Taken of) error = tt
failure_error (Attempt tried) error = tt
failure_error (Failed cause) error = tt
failure_error (Fate final cause) error = tt
failure_error Told error = tt

-- what the node needs to close an attempt, or to call it lost
allows_closed : (a : Actor) (slot : Slot) (taken : Submission) (attempted : Author) (kind : Kind) (number : ℕ) → kind ≡ Attempt number → (next : Kind) →
    IsClosed a slot attempted next → Allows a slot taken attempted kind next
allows_closed a slot taken attempted (Taken of) number is next closed = absurd (cc)
allows_closed a slot taken attempted (Attempt tried) number is next closed = inl closed
allows_closed a slot taken attempted (Failed error) number is next closed = absurd (cc)
allows_closed a slot taken attempted (Fate final error) number is next closed = absurd (cc)
allows_closed a slot taken attempted Told number is next closed = absurd (cc)

allows_lost : (a : Actor) (slot : Slot) (taken : Submission) (attempted : Author) (kind : Kind) (number : ℕ) → kind ≡ Attempt number →
    attempted.incarnation < a.incarnation →
    Allows a slot taken attempted kind (Failed older_incarnation_error)
allows_lost a slot taken attempted (Taken of) number is before = absurd (cc)
allows_lost a slot taken attempted (Attempt tried) number is before = inr (record { incarnation = before; kind = refl })
allows_lost a slot taken attempted (Failed error) number is before = absurd (cc)
allows_lost a slot taken attempted (Fate final error) number is before = absurd (cc)
allows_lost a slot taken attempted Told number is before = absurd (cc)

-- ---- what may follow a message that waits

deleted_follows : (kind : Kind) → ((message : Submission) × (kind ≡ Taken message)) ⊎ ((error : ℕ) × (kind ≡ Failed error)) →
    (message : Submission) (home attempt : ℕ) (old author : Author) (before moment : ℕ) →
    MayFollow message home attempt old before kind author moment (Fate Deleted 0)
deleted_follows (Taken of) idle message home attempt old author before moment = tt
deleted_follows (Attempt tried) (inl taken) message home attempt old author before moment = let same = taken.1 in absurd (cc)
deleted_follows (Attempt tried) (inr failed) message home attempt old author before moment = let same = failed.1 in absurd (cc)
deleted_follows (Failed cause) idle message home attempt old author before moment = tt
deleted_follows (Fate final cause) (inl taken) message home attempt old author before moment = let same = taken.1 in absurd (cc)
deleted_follows (Fate final cause) (inr failed) message home attempt old author before moment = let same = failed.1 in absurd (cc)
deleted_follows Told (inl failed) message home attempt old author before moment = let same = failed.1 in absurd (cc)
deleted_follows Told (inr failed) message home attempt old author before moment = let same = failed.1 in absurd (cc)

deleted_allowed : (a : Actor) (slot : Slot) (taken : Submission) (attempted : Author) (kind : Kind) →
    ((message : Submission) × (kind ≡ Taken message)) ⊎ ((error : ℕ) × (kind ≡ Failed error)) →
    IsCancelled a slot.id taken → Allows a slot taken attempted kind (Fate Deleted 0)
deleted_allowed a slot taken attempted (Taken of) idle cancelled = cancelled
deleted_allowed a slot taken attempted (Attempt tried) (inl is) cancelled = let same = is.1 in absurd (cc)
deleted_allowed a slot taken attempted (Attempt tried) (inr is) cancelled = let same = is.1 in absurd (cc)
deleted_allowed a slot taken attempted (Failed cause) idle cancelled = cancelled
deleted_allowed a slot taken attempted (Fate final cause) idle cancelled = cancelled
deleted_allowed a slot taken attempted Told idle cancelled = cancelled

deleted_error : (kind : Kind) → HasError kind (Fate Deleted 0)
deleted_error (Taken of) = refl
deleted_error (Attempt tried) = refl
deleted_error (Failed cause) = refl
deleted_error (Fate final cause) = refl
deleted_error Told = refl

expired_allowed :
    (a : Actor) (slot : Slot) (taken : Submission) (attempted : Author) (kind : Kind) (message : Submission) (home attempt : ℕ) (old author : Author)
    (before moment : ℕ) →
    MayFollow message home attempt old before kind author moment (Fate Expired 0) → Allows a slot taken attempted kind (Fate Expired 0)
expired_allowed a slot taken attempted (Taken of) message home attempt old author before moment may = tt
expired_allowed a slot taken attempted (Attempt tried) message home attempt old author before moment may = absurd may
expired_allowed a slot taken attempted (Failed cause) message home attempt old author before moment may = tt
expired_allowed a slot taken attempted (Fate final cause) message home attempt old author before moment may = tt
expired_allowed a slot taken attempted Told message home attempt old author before moment may = tt

expired_error : (kind : Kind) → HasError kind (Fate Expired 0)
expired_error (Taken of) = refl
expired_error (Attempt tried) = refl
expired_error (Failed cause) = refl
expired_error (Fate final cause) = refl
expired_error Told = refl

undelivered_allowed : (a : Actor) (slot : Slot) (taken : Submission) (attempted : Author) (kind : Kind) (error : ℕ) → kind ≡ Failed error →
    Allows a slot taken attempted kind (Fate Undeliverable error)
undelivered_allowed a slot taken attempted (Taken of) error is = absurd (cc)
undelivered_allowed a slot taken attempted (Attempt tried) error is = absurd (cc)
undelivered_allowed a slot taken attempted (Failed cause) error is = tt
undelivered_allowed a slot taken attempted (Fate final cause) error is = absurd (cc)
undelivered_allowed a slot taken attempted Told error is = absurd (cc)

undelivered_error : (kind : Kind) (error : ℕ) → kind ≡ Failed error → HasError kind (Fate Undeliverable error)
undelivered_error (Taken of) error is = absurd (cc)
undelivered_error (Attempt tried) error is = absurd (cc)
undelivered_error (Failed cause) error is = let same : cause ≡ error = cc in sym same
undelivered_error (Fate final cause) error is = absurd (cc)
undelivered_error Told error is = absurd (cc)

tried_allowed :
    (a : Actor) (slot : Slot) (taken : Submission) (attempted : Author) (kind : Kind) (number : ℕ) (message : Submission) (home attempt : ℕ) (old author : Author)
    (before moment : ℕ) →
    MayFollow message home attempt old before kind author moment (Attempt number) → Allows a slot taken attempted kind (Attempt number)
tried_allowed a slot taken attempted (Taken of) number message home attempt old author before moment may = tt
tried_allowed a slot taken attempted (Attempt tried) number message home attempt old author before moment may = absurd may
tried_allowed a slot taken attempted (Failed cause) number message home attempt old author before moment may = tt
tried_allowed a slot taken attempted (Fate final cause) number message home attempt old author before moment may = tt
tried_allowed a slot taken attempted Told number message home attempt old author before moment may = tt

tried_error : (kind : Kind) (number : ℕ) → HasError kind (Attempt number)
tried_error (Taken of) number = tt
tried_error (Attempt tried) number = tt
tried_error (Failed cause) number = tt
tried_error (Fate final cause) number = tt
tried_error Told number = tt

told_allowed :
    (a : Actor) (slot : Slot) (taken : Submission) (attempted : Author) (kind : Kind) (message : Submission) (home attempt : ℕ) (old author : Author)
    (before moment : ℕ) →
    MayFollow message home attempt old before kind author moment Told → Allows a slot taken attempted kind Told
told_allowed a slot taken attempted (Taken of) message home attempt old author before moment may = tt
told_allowed a slot taken attempted (Attempt tried) message home attempt old author before moment may = absurd may
told_allowed a slot taken attempted (Failed cause) message home attempt old author before moment may = tt
told_allowed a slot taken attempted (Fate final cause) message home attempt old author before moment may = tt
told_allowed a slot taken attempted Told message home attempt old author before moment may = tt

told_error : (kind : Kind) → HasError kind Told
told_error (Taken of) = tt
told_error (Attempt tried) = tt
told_error (Failed cause) = tt
told_error (Fate final cause) = tt
told_error Told = tt

-- ---- the next chain

module _ (nodes node : ℕ) (a : Actor) (coherent : IsCoherent node a) (records : Records) (reach : Reach) (id : ℕ) where
  -- the actor once an attempt is given up, by this rule alone
  abbrev pub after_rule : Rule → ℕ → Actor
  after_rule GiveUp place = record a { closed = (slot_at id (pred place), Unanswered no_session_error) ∷ a.closed }
  after_rule rule place = a

  abbrev Next : Actor → List Decree → Type 0
  Next b chain = IsNext (IsLearned nodes b.received) node b id chain

  next_of : (place : ℕ) (chain : List Decree) (kind : Kind) (g : GoesFurther nodes node a id place chain kind) →
      MayFollow g.taken (home_in (g.newest ∷ g.older)) (attempts_in (g.newest ∷ g.older)) g.newest.author g.newest.moment g.newest.kind (next_decree node a g.newest kind).author
      (next_decree node a g.newest kind).moment kind →
      Allows a (slot_of id (g.newest ∷ g.older)) g.taken g.newest.author g.newest.kind kind → HasError g.newest.kind kind → Next a chain
  next_of place chain kind g may allowed error = record {
    next = next_decree node a g.newest kind;
    newest = g.newest;
    older = g.older;
    taken = g.taken;
    ballot = g.known.ballot;
    chain_is = g.chain_is;
    chosen = g.known.learned;
    author = refl;
    moment = refl;
    message = g.message;
    may = (omega arith, may);
    allowed = allowed;
    error = error;
  }

  own_author : (newest : Decree) → IsAttemptBy node newest → newest.author.incarnation ≡ a.incarnation →
      record { node = node; incarnation = a.incarnation } ≡ newest.author
  own_author newest own now = λ i. record { node = sym own.1 i; incarnation = sym now i }

  pub rule_next : (rule : Rule) (place : ℕ) (chain : List Decree) → 3 ≤ order_of rule → FitsRule nodes node a records reach id place chain rule →
      Next (after_rule rule place) chain
  rule_next Take place chain late fits = absurd (omega arith)
  rule_next Follow place chain late fits = absurd (omega arith)
  rule_next Close place chain late fits =
      let g = fits.further in
      let closing = coherent.outcomes (slot_of id (g.newest ∷ g.older)) fits.outcome fits.closed in
      next_of place chain (decree_of fits.outcome) g
      (closing_follows g.newest.kind fits.attempt.0.0 fits.attempt.0.1 fits.outcome closing g.taken _
      (attempts_in (g.newest ∷ g.older)) g.newest.author _ g.newest.moment _ (own_author g.newest fits.attempt fits.now))
      (allows_closed a (slot_of id (g.newest ∷ g.older)) g.taken g.newest.author g.newest.kind fits.attempt.0.0 fits.attempt.0.1 (decree_of fits.outcome)
      (record { outcome = fits.outcome; incarnation = fits.now; closed = fits.closed; kind = refl }))
      (closing_error g.newest.kind fits.attempt.0.0 fits.attempt.0.1 fits.outcome closing)
  rule_next Lose place chain late fits =
      let g = fits.further in
      let before = fits.before in
      next_of place chain (Failed older_incarnation_error) g
      (failure_follows g.newest.kind fits.attempt.0.0 older_incarnation_error fits.attempt.0.1 g.taken _
      (attempts_in (g.newest ∷ g.older)) g.newest.author _ g.newest.moment _ (sym fits.attempt.1) (omega arith))
      (allows_lost a (slot_of id (g.newest ∷ g.older)) g.taken g.newest.author g.newest.kind fits.attempt.0.0 fits.attempt.0.1 fits.before)
      (failure_error g.newest.kind older_incarnation_error)
  rule_next GiveUp place chain late fits =
      let g = fits.further in
      let slots : slot_at id (pred place) ≡ slot_of id (g.newest ∷ g.older) = ap (λ (p : ℕ). slot_at id (pred p)) g.behind in
      record {
        next = next_decree node a g.newest (Failed no_session_error);
        newest = g.newest;
        older = g.older;
        taken = g.taken;
        ballot = g.known.ballot;
        chain_is = g.chain_is;
        chosen = g.known.learned;
        author = refl;
        moment = refl;
        message = g.message;
        may = (
          omega arith,
          failure_follows g.newest.kind fits.attempt.0.0 no_session_error fits.attempt.0.1 g.taken _
              (attempts_in (g.newest ∷ g.older)) g.newest.author _ g.newest.moment _ (sym fits.attempt.1) (let now = fits.now in omega arith),
        );
        allowed =
            allows_closed (after_rule GiveUp place) (slot_of id (g.newest ∷ g.older)) g.taken g.newest.author g.newest.kind fits.attempt.0.0 fits.attempt.0.1
            (Failed no_session_error) (record {
              outcome = Unanswered no_session_error;
              incarnation = fits.now;
              closed = inl (λ i. (sym slots i, Unanswered no_session_error));
              kind = refl;
            });
        error = failure_error g.newest.kind no_session_error;
      }
  rule_next Delete place chain late fits =
      let g = fits.further in
      next_of place chain (Fate Deleted 0) g
      (deleted_follows g.newest.kind fits.idle g.taken _ (attempts_in (g.newest ∷ g.older)) g.newest.author _ g.newest.moment _)
      (deleted_allowed a (slot_of id (g.newest ∷ g.older)) g.taken g.newest.author g.newest.kind fits.idle fits.cancelled)
      (deleted_error g.newest.kind)
  rule_next Expire place chain late fits =
      let g = fits.further in
      next_of place chain (Fate Expired 0) g fits.may.1
      (expired_allowed a (slot_of id (g.newest ∷ g.older)) g.taken g.newest.author g.newest.kind g.taken (home_in (g.newest ∷ g.older)) (attempts_in (g.newest ∷ g.older)) g.newest.author
      (next_decree node a g.newest (Fate Expired 0)).author
      g.newest.moment
      (next_decree node a g.newest (Fate Expired 0)).moment
      fits.may.1)
      (expired_error g.newest.kind)
  rule_next Undeliver place chain late fits =
      let g = fits.due.further in
      next_of place chain (Fate Undeliverable fits.error) g fits.due.may.1
      (undelivered_allowed a (slot_of id (g.newest ∷ g.older)) g.taken g.newest.author g.newest.kind fits.error fits.failed)
      (undelivered_error g.newest.kind fits.error fits.failed)
  rule_next Try place chain late fits =
      let g = fits.due.further in
      next_of place chain (Attempt fits.number) g fits.due.may.1
      (tried_allowed a (slot_of id (g.newest ∷ g.older)) g.taken g.newest.author g.newest.kind fits.number g.taken _
      (attempts_in (g.newest ∷ g.older)) g.newest.author
      (next_decree node a g.newest (Attempt fits.number)).author
      g.newest.moment
      (next_decree node a g.newest (Attempt fits.number)).moment
      fits.due.may.1)
      (tried_error g.newest.kind fits.number)
  rule_next Announce place chain late fits =
      let g = fits.further in
      next_of place chain Told g fits.may.1
      (told_allowed a (slot_of id (g.newest ∷ g.older)) g.taken g.newest.author g.newest.kind g.taken (home_in (g.newest ∷ g.older))
      (attempts_in (g.newest ∷ g.older)) g.newest.author (next_decree node a g.newest Told).author g.newest.moment
      (next_decree node a g.newest Told).moment fits.may.1)
      (told_error g.newest.kind)

  next_permitted : (b : Actor) → b.received ≡ a.received → (chain : List Decree) → Next b chain → IsPermitted id chain
  next_permitted b same chain n =
      let learned =
      subst (λ (received : List Packet). IsLearned nodes received (slot_of id (n.newest ∷ n.older))
      (vote_at n.ballot (n.newest ∷ n.older))) same n.chosen in
      let before = learned_permitted nodes node a coherent id n.ballot (n.newest ∷ n.older) learned in
      let further : MayExtend (taken_in (n.newest ∷ n.older)) (n.newest ∷ n.older) n.next =
      subst (λ (t : Option Submission). MayExtend t (n.newest ∷ n.older) n.next) (sym n.message) n.may in
      subst (IsPermitted id) (sym n.chain_is) (before, further)

  pub received_still : (rule : Rule) (place : ℕ) → (after_rule rule place).received ≡ a.received
  received_still Take place = refl
  received_still Follow place = refl
  received_still Close place = refl
  received_still Lose place = refl
  received_still GiveUp place = refl
  received_still Delete place = refl
  received_still Expire place = refl
  received_still Undeliver place = refl
  received_still Try place = refl
  received_still Announce place = refl

  -- ---- its place

  pub record IsBehindKnown (place : ℕ) (chain : List Decree) : Type 0 where
    pub slot_is : slot_at id place ≡ slot_of id chain
    pub within : place < most_places
    pub ahead : IsAhead nodes a id place
    pub next : Decree
    pub newest : Decree
    pub older : List Decree
    pub chain_is : chain ≡ next ∷ newest ∷ older
    pub known : Knows nodes a.received id (newest ∷ older)

  pub rule_place : (rule : Rule) (place : ℕ) (chain : List Decree) → 3 ≤ order_of rule → FitsRule nodes node a records reach id place chain rule →
      IsBehindKnown place chain
  rule_place rule place chain late fits =
      let it = goes_on nodes node a records reach id rule place chain late fits in
      let g = it.further in
      let permitted = next_permitted (after_rule rule place) (received_still rule place) chain (rule_next rule place chain late fits) in
      let length_most = most_decrees id chain permitted in
      let length_is : length chain ≡ length (next_decree node a g.newest it.kind ∷ g.newest ∷ g.older) = ap length g.chain_is in
      let behind = g.behind in
      record {
        slot_is = let place_is : place ≡ pred (length chain) = omega arith in ap (slot_at id) place_is;
        within = omega arith;
        ahead = λ known knows.
            let same : known ≡ g.newest ∷ g.older = knows_one nodes a.received id known (g.newest ∷ g.older) knows g.known in
            let lengths : length known ≡ length (g.newest ∷ g.older) = ap length same in
            omega arith;
        next = next_decree node a g.newest it.kind;
        newest = g.newest;
        older = g.older;
        chain_is = g.chain_is;
        known = g.known;
      }

  -- a rule behind what is known has one place
  pub one_place : (rule other : Rule) (place at : ℕ) (chain of : List Decree) → 3 ≤ order_of rule → 3 ≤ order_of other →
      FitsRule nodes node a records reach id place chain rule →
      FitsRule nodes node a records reach id at of other → at ≡ place
  one_place rule other place at chain of late later fits fits_other =
      let one = (goes_on nodes node a records reach id rule place chain late fits).further in
      let second = (goes_on nodes node a records reach id other at of later fits_other).further in
      let same : second.newest ∷ second.older ≡ one.newest ∷ one.older =
      knows_one nodes a.received id (second.newest ∷ second.older) (one.newest ∷ one.older) second.known one.known in
      second.behind ∙ ap length same ∙ sym one.behind
