-- A tick starts a round by the first rule that fits.
use Rattle.std.proofs.Common.{◌≡◌, ℕ, suc, ◌<◌, ◌≤◌, Bool, true, false, List, [], ◌∷◌, ◌++◌, length, Some, refl, sym, ◌∙◌, ap, subst, inl, inr, arith}
use Rattle.std.proofs.lemmas.Bool.{cases_lt}
use Rattle.mc_model.specs.message.Submission.{Submission}
use Rattle.mc_model.specs.message.Decree.{Decree, Kind, Taken, Attempt, Failed, Fate, Told, Delivered, Expired, Undeliverable}
use Rattle.mc_model.specs.message.Receipts.{AsksReceipt}
use Rattle.mc_model.specs.message.Chain.{MayExtend, taken_in}
use Rattle.mc_model.specs.synod.Lists.{In}
use Rattle.mc_model.specs.synod.Ballot.{proposer_of, incarnation_in}
use Rattle.mc_model.specs.synod.OneSlot.{vote_at}
use Rattle.mc_model.specs.synod.Packet.{Slot, slot_at, slot_of, Packet, Voted}
use Rattle.mc_model.specs.node.Outcome.{Outcome, Concluded, older_incarnation_error, no_session_error}
use Rattle.mc_model.specs.node.Actor.{opening_clock, Actor}
use Rattle.mc_model.specs.node.Knowledge.{Knows}
use Rattle.mc_model.specs.node.Replies.{TooLate}
use Rattle.mc_model.specs.node.Act.{Act, Settles, Replies, Asks, Abandons, Prepares, Proposes, Reports, Ticks}
use Rattle.mc_model.specs.node.Effect.{did}
use Rattle.mc_model.specs.node.Rounds.{HasSeen, MayPrepare}
use Rattle.mc_model.specs.node.Rules.{next_decree, IsDue, GoesFurther}
use Rattle.mc_model.specs.node.FirstRule.{Announce, Rule, Take, Follow, Close, Lose, GiveUp, Delete, Expire, Undeliver, Try, FitsRule, IsFirstRule, order_of}
use Rattle.mc_model.specs.node.Input.{Tick}
use Rattle.mc_model.specs.node.Due.{AreDue, key_of}
use Rattle.mc_model.specs.node.Phases.{DueToSettle, DueToEnd, DueToAsk, DueToAbandon, DueToPrepare, DueToPropose, DueToReply, DueToReport}
use Rattle.mc_model.specs.node.Step.{IsExact}
use Rattle.mc_model.specs.node.Alone.{IsStepAlone}
use Rattle.mc_laws.specs.Stories.{first_id, first_ballot, first_setup, decreed, taken_chain, attempted_chain, delivered_chain, told_chain, MayBeTried}
use Rattle.mc_model.specs.node.Reach.{Reach}
use Rattle.mc_laws.specs.NodeStories.{knowing, no_records, node_of_actor, opening_ballot, all_up, none_begin, none_up}
use Rattle.mc_laws.specs.TickStories.{one_minute_later, expired_chain, undelivered_chain, lost_chain, given_up_chain, starting, giving_up, failed_chain}
use Rattle.mc_laws.proofs.story.Rounds.{one_of_one}
use Rattle.mc_parts.proofs.Known.{knows_one}
use Rattle.mc_parts.proofs.Membership.{never_empty}
use Rattle.mc_laws.proofs.story.Delivery.{knows}
use Rattle.mc_laws.proofs.story.FirstStep.{none_due, none_due_once}

-- nothing more behind a list
ends : (xs : List Act) → xs ≡ (xs ++ [] ++ [] ++ [])
ends [] = refl
ends (x ∷ xs) = ap (λ (ys : List Act). x ∷ ys) (ends xs)

-- ---- a node that knows one chain

abbrev told_of : List Decree → List Packet
told_of chain = Voted 1 (slot_of first_id chain) (vote_at first_ballot chain) ∷ []

pub known_here : (chain : List Decree) → Knows 1 (told_of chain) first_id chain
known_here chain = knows (told_of chain) chain ((omega arith, λ same. refl), tt) (inl refl)

pub known_id : (chain : List Decree) (id : ℕ) (other : List Decree) → Knows 1 (told_of chain) id other → id ≡ first_id
known_id chain id other known =
    elim (one_of_one (λ acceptor. In (Voted acceptor (slot_of id other) (vote_at known.ballot other)) (told_of chain)) known.learned) [
      | inl same ↦ let slots : slot_of id other ≡ slot_of first_id chain = cc in ap (λ (s : Slot). s.id) slots
      | inr none ↦ absurd none
    ]

pub only_known : (chain : List Decree) (id : ℕ) (other : List Decree) → Knows 1 (told_of chain) id other → other ≡ chain
only_known chain id other known =
    knows_one 1 (told_of chain) first_id other chain
    (subst (λ (i : ℕ). Knows 1 (told_of chain) i other) (known_id chain id other known) known) (known_here chain)

-- ---- a tick of it

module _ (incarnation clock : ℕ) (newest : Decree) (older : List Decree) (granted : List Slot) (closed : List (Slot × Outcome)) (moment : ℕ)
    (reach : Reach) where
  abbrev before : Actor
  before = knowing incarnation clock (newest ∷ older) granted closed

  abbrev now : Actor
  now = did 1 before (Ticks moment ∷ [])

  -- what a rule goes on from
  further_id : (id place : ℕ) (chain : List Decree) (kind : Kind) → GoesFurther 1 1 now id place chain kind → id ≡ first_id
  further_id id place chain kind further = known_id (newest ∷ older) id _ further.known

  further_is : (id place : ℕ) (chain : List Decree) (kind : Kind) (further : GoesFurther 1 1 now id place chain kind) → further.newest ≡ newest
  further_is id place chain kind further = let same = only_known (newest ∷ older) id _ further.known in cc

  further_place : (id place : ℕ) (chain : List Decree) (kind : Kind) (further : GoesFurther 1 1 now id place chain kind) → place ≡ length (newest ∷ older)
  further_place id place chain kind further = further.behind ∙ ap (λ (c : List Decree). length c) (only_known (newest ∷ older) id _ further.known)

  rule_id : (id place : ℕ) (chain : List Decree) (rule : Rule) → FitsRule 1 1 now no_records reach id place chain rule → id ≡ first_id
  rule_id id place chain Take fits = absurd fits.1.waits
  rule_id id place chain Follow fits = elim fits.highest.shown [ inl told ↦ absurd told.waits | inr own ↦ cc ]
  rule_id id place chain Close fits = further_id id place chain _ fits.further
  rule_id id place chain Lose fits = further_id id place chain _ fits.further
  rule_id id place chain GiveUp fits = further_id id place chain _ fits.further
  rule_id id place chain Delete fits = further_id id place chain _ fits.further
  rule_id id place chain Expire fits = further_id id place chain _ fits.further
  rule_id id place chain Undeliver fits = further_id id place chain _ fits.due.further
  rule_id id place chain Try fits = further_id id place chain _ fits.due.further
  rule_id id place chain Announce fits = further_id id place chain _ fits.further

  -- no request waits, and no round runs
  settles_none : (act : Act) → DueToSettle 1 1 now act → ⊥
  settles_none (Settles ticket) due = due.waits
  settles_none act due = due

  ends_none : (act : Act) → DueToEnd (Tick moment reach) now act → ⊥
  ends_none (Replies ticket id TooLate) due = due.asked.waits
  ends_none act due = due

  asks_none : (act : Act) → DueToAsk 1 1 before now (Tick moment reach) act → ⊥
  asks_none (Asks id ticket) due = due.waits
  asks_none act due = due

  proposes_none : (act : Act) → DueToPropose 1 1 before now act → ⊥
  proposes_none (Proposes slot vote) due = never_empty due.0.running.round.newer due.0.running.round.older _ due.0.running.round.split
  proposes_none act due = due

  replies_none : (act : Act) → DueToReply 1 1 now act → ⊥
  replies_none (Replies ticket id answer) due = due.asked.waits
  replies_none act due = due

  -- what is known now was known before
  reports_none : (act : Act) → DueToReport 1 1 before now act → ⊥
  reports_none (Reports id chain) due = due.new due.known
  reports_none act due = due

  seen_none : (slot : Slot) (round : ℕ) → HasSeen 1 now no_records slot round → round ≡ 0
  seen_none slot round (inl own) = own
  seen_none slot round (inr (inl refused)) = elim refused.heard [ inl same ↦ cc | inr none ↦ absurd none ]
  seen_none slot round (inr (inr prepared)) = absurd prepared.sent

  prepares_so : (slot : Slot) → MayPrepare 1 1 now no_records slot (opening_ballot incarnation)
  prepares_so slot = record {
    none = λ other ballot same running. never_empty running.round.newer running.round.older _ running.round.split;
    next = record {
      highest = 0;
      seen = inl refl;
      most = λ round seen. let none = seen_none slot round seen in omega (arith, none);
      ballot_is = refl;
      round = record { least = omega arith; most = omega arith };
    };
  }

  abbrev rounds : List Decree → List Act
  rounds chain = Prepares (slot_at first_id (length (newest ∷ older))) (opening_ballot incarnation) chain ∷ []

  prepares_only : (rule : Rule) (chain : List Decree) → IsFirstRule 1 1 now no_records reach first_id (length (newest ∷ older)) chain rule →
      (act : Act) → In act (rounds chain) →
      DueToPrepare 1 1 before now no_records (Tick moment reach) act
  prepares_only rule chain fits act (inl same) = subst (DueToPrepare 1 1 before now no_records (Tick moment reach)) (sym same) ((rule, fits), prepares_so _)
  prepares_only rule chain fits act (inr none) = absurd none

  prepares_all : (act : Act) → DueToPrepare 1 1 before now no_records (Tick moment reach) act → In (key_of act) (first_id ∷ [])
  prepares_all (Prepares slot ballot chain) due = inl (rule_id slot.id slot.place chain due.0.0 due.0.1.fits)
  prepares_all act due = absurd due

  -- by a rule that gives nothing up
  abandons_none : (rule : Rule) (place : ℕ) (chain : List Decree) → IsFirstRule 1 1 now no_records reach first_id place chain rule →
      (order_of rule ≡ order_of GiveUp → ⊥) → (act : Act) → DueToAbandon 1 1 now no_records (Tick moment reach) act →
      ⊥
  abandons_none rule place chain first apart (Abandons slot) due =
      let g : IsFirstRule 1 1 now no_records reach first_id (suc slot.place) due.0 GiveUp = subst
      (λ (i : ℕ). IsFirstRule 1 1 now no_records reach i (suc slot.place) due.0 GiveUp)
      (rule_id slot.id (suc slot.place) due.0 GiveUp due.1.fits) due.1 in
      elim (cases_lt (order_of rule) (order_of GiveUp)) [
        | inl before_it ↦ g.first rule place chain before_it first.fits
        | inr not_before ↦ first.first GiveUp (suc slot.place) due.0 (omega (arith, not_before, apart)) g.fits
      ]
  abandons_none rule place chain first apart act due = due

  pub tick_exact : (rule : Rule) (chain : List Decree) → IsFirstRule 1 1 now no_records reach first_id (length (newest ∷ older)) chain rule →
      (abandons : List Act) → AreDue (DueToAbandon 1 1 now no_records (Tick moment reach)) abandons → (acts : List Act) →
      acts ≡ (rounds chain ++ abandons) ++ Ticks moment ∷ [] →
      IsExact first_setup before no_records (Tick moment reach) acts
  tick_exact rule chain first abandons abandoned acts is = record {
    core = Ticks moment ∷ [];
    settles = [];
    late = [];
    asks = [];
    abandons = abandons;
    prepares = rounds chain;
    proposes = [];
    replies = [];
    reports = [];
    acts_are = is ∙ ap (λ (xs : List Act). xs ++ Ticks moment ∷ []) (ends (rounds chain ++ abandons));
    core_is = refl;
    settled = none_due (DueToSettle 1 1 now) settles_none;
    ended = none_due (DueToEnd (Tick moment reach) now) ends_none;
    asked = none_due (DueToAsk 1 1 before now (Tick moment reach)) asks_none;
    abandoned = abandoned;
    prepared = record { only = prepares_only rule chain first; all = prepares_all; order = tt };
    proposed = none_due_once (DueToPropose 1 1 before now) proposes_none;
    replied = none_due (DueToReply 1 1 now) replies_none;
    reported = none_due (DueToReport 1 1 before now) reports_none;
  }

  -- and if no rule fits, the tick does nothing else
  module _ (none : (rule : Rule) (place : ℕ) (chain : List Decree) → FitsRule 1 1 now no_records reach first_id place chain rule → ⊥) where
    not_prepared : (act : Act) → DueToPrepare 1 1 before now no_records (Tick moment reach) act → ⊥
    not_prepared (Prepares slot ballot chain) due =
        let id = rule_id slot.id slot.place chain due.0.0 due.0.1.fits in
        none due.0.0 slot.place chain (subst (λ (i : ℕ). FitsRule 1 1 now no_records reach i slot.place chain due.0.0) id due.0.1.fits)
    not_prepared act due = due

    not_abandoned : (act : Act) → DueToAbandon 1 1 now no_records (Tick moment reach) act → ⊥
    not_abandoned (Abandons slot) due =
        let id = rule_id slot.id (suc slot.place) due.0 GiveUp due.1.fits in
        none GiveUp (suc slot.place) due.0 (subst (λ (i : ℕ). FitsRule 1 1 now no_records reach i (suc slot.place) due.0 GiveUp) id due.1.fits)
    not_abandoned act due = due

    pub nothing_exact : IsExact first_setup before no_records (Tick moment reach) (Ticks moment ∷ [])
    nothing_exact = record {
      core = Ticks moment ∷ [];
      settles = [];
      late = [];
      asks = [];
      abandons = [];
      prepares = [];
      proposes = [];
      replies = [];
      reports = [];
      acts_are = refl;
      core_is = refl;
      settled = none_due (DueToSettle 1 1 now) settles_none;
      ended = none_due (DueToEnd (Tick moment reach) now) ends_none;
      asked = none_due (DueToAsk 1 1 before now (Tick moment reach)) asks_none;
      abandoned = none_due (DueToAbandon 1 1 now no_records (Tick moment reach)) not_abandoned;
      prepared = none_due_once (DueToPrepare 1 1 before now no_records (Tick moment reach)) not_prepared;
      proposed = none_due_once (DueToPropose 1 1 before now) proposes_none;
      replied = none_due (DueToReply 1 1 now) replies_none;
      reported = none_due (DueToReport 1 1 before now) reports_none;
    }

-- ---- the rules, one by one

module _ (incarnation clock : ℕ) (newest : Decree) (older : List Decree) (granted : List Slot) (closed : List (Slot × Outcome)) (moment : ℕ)
    (reach : Reach) where
  abbrev after_tick : Actor
  after_tick = did 1 (knowing incarnation clock (newest ∷ older) granted closed) (Ticks moment ∷ [])

  abbrev Fits : ℕ → List Decree → Rule → Type 0
  Fits place chain rule = FitsRule 1 1 after_tick no_records reach first_id place chain rule

  is_newest : (place : ℕ) (chain : List Decree) (kind : Kind) (further : GoesFurther 1 1 after_tick first_id place chain kind) → further.newest ≡ newest
  is_newest = further_is incarnation clock newest older granted closed moment reach first_id

  -- no request waits, and no vote is its own
  first_two : (place : ℕ) (chain : List Decree) (rule : Rule) → order_of rule < 3 → Fits place chain rule → ⊥
  first_two place chain Take below fits = fits.1.waits
  first_two place chain Follow below fits = elim fits.highest.shown [ inl told ↦ told.waits | inr own ↦ cc ]
  first_two place chain Close below fits = omega (arith, below)
  first_two place chain Lose below fits = omega (arith, below)
  first_two place chain GiveUp below fits = omega (arith, below)
  first_two place chain Delete below fits = omega (arith, below)
  first_two place chain Expire below fits = omega (arith, below)
  first_two place chain Undeliver below fits = omega (arith, below)
  first_two place chain Try below fits = omega (arith, below)
  first_two place chain Announce below fits = omega (arith, below)

  -- the newest decree is no attempt
  first_six : ((number : ℕ) → newest.kind ≡ Attempt number → ⊥) → (place : ℕ) (chain : List Decree) (rule : Rule) → order_of rule < 7 →
      Fits place chain rule →
      ⊥
  first_six none place chain Take below fits = fits.1.waits
  first_six none place chain Follow below fits = elim fits.highest.shown [ inl told ↦ told.waits | inr own ↦ cc ]
  first_six none place chain Close below fits = none fits.attempt.0.0
      (ap (λ (d : Decree). d.kind) (sym (is_newest place chain _ fits.further)) ∙ fits.attempt.0.1)
  first_six none place chain Lose below fits = none fits.attempt.0.0
      (ap (λ (d : Decree). d.kind) (sym (is_newest place chain _ fits.further)) ∙ fits.attempt.0.1)
  first_six none place chain GiveUp below fits = none fits.attempt.0.0
      (ap (λ (d : Decree). d.kind) (sym (is_newest place chain _ fits.further)) ∙ fits.attempt.0.1)
  first_six none place chain Delete below fits = fits.cancelled.waits
  first_six none place chain Expire below fits = omega (arith, below)
  first_six none place chain Undeliver below fits = omega (arith, below)
  first_six none place chain Try below fits = omega (arith, below)
  first_six none place chain Announce below fits = omega (arith, below)

  abbrev goes_further : (taken : Submission) (kind : Kind) → taken_in (newest ∷ older) ≡ Some taken →
      GoesFurther 1 1 after_tick first_id (length (newest ∷ older)) (next_decree 1 after_tick newest kind ∷ newest ∷ older) kind
  goes_further taken kind message = record {
    newest = newest;
    older = older;
    taken = taken;
    known = known_here (newest ∷ older);
    behind =
        refl;
    message = message;
    chain_is = refl;
  }

  -- what is due is due behind what is known
  due_here : (place : ℕ) (chain : List Decree) (kind : Kind) (taken : Submission) → taken_in (newest ∷ older) ≡ Some taken →
      IsDue 1 1 after_tick first_id place chain kind →
      MayExtend (Some taken) (newest ∷ older) (next_decree 1 after_tick newest kind)
  due_here place chain kind taken message due =
      let chains = only_known (newest ∷ older) first_id _ due.further.known in
      let takens : Some due.further.taken ≡ Some taken = sym due.further.message ∙ ap taken_in chains ∙ message in
      let same : due.further.taken ≡ taken = cc in
      subst (λ (c : List Decree). MayExtend (Some taken) c (next_decree 1 after_tick newest kind)) chains (
      subst (λ (m : Submission). MayExtend (Some m) (due.further.newest ∷ due.further.older) (next_decree 1 after_tick newest kind)) same (
      subst (λ (d : Decree). MayExtend (Some due.further.taken) (due.further.newest ∷ due.further.older) (next_decree 1 after_tick d kind))
      (is_newest place chain kind due.further) due.may))

  -- nothing comes before the last three rules, or before one of them
  before_last : ((number : ℕ) → newest.kind ≡ Attempt number → ⊥) → (last : ℕ) →
      ((rule : Rule) (place : ℕ) (chain : List Decree) → 6 < order_of rule → order_of rule < last → Fits place chain rule → ⊥) →
      (rule : Rule) (place : ℕ) (chain : List Decree) → order_of rule < last → Fits place chain rule →
      ⊥
  before_last none last others rule place chain below fits = elim (cases_lt (order_of rule) 7) [
    | inl early ↦ first_six none place chain rule early fits
    | inr late ↦ others rule place chain late below fits
  ]

-- ---- each rule

-- the next attempt is due
try_first : (message : Submission) → MayBeTried message →
    IsFirstRule 1 1 (after_tick 1 opening_clock (decreed (Taken message)) [] [] [] opening_clock all_up) no_records all_up first_id 1
    (attempted_chain message) Try
try_first message tried = record {
  fits = record {
    number = 1;
    due = record {
      further = goes_further 1 opening_clock (decreed (Taken message)) [] [] [] opening_clock all_up message (Attempt 1) refl;
      may = (omega arith, record { first = refl; scheduled = tried.scheduled; valid = tried.valid });
    };
    begins = refl;
  };
  first = before_last 1 opening_clock (decreed (Taken message)) [] [] [] opening_clock all_up (λ number same. cc) 9 others;
}
  where
    others : (rule : Rule) (place : ℕ) (chain : List Decree) → 6 < order_of rule → order_of rule < 9 →
        FitsRule 1 1 (after_tick 1 opening_clock (decreed (Taken message)) [] [] [] opening_clock all_up) no_records all_up first_id place chain rule →
        ⊥
    others Expire place chain late below fits =
        let due = due_here 1 opening_clock (decreed (Taken message)) [] [] [] opening_clock all_up place chain (Fate Expired 0) message refl fits in
        let over : message.expiry ≤ opening_clock = due.1 in
        let valid = tried.valid in
        omega (arith, over, valid)
    others Undeliver place chain late below fits =
        let kinds : Taken message ≡ Failed fits.error = ap (λ (d : Decree). d.kind)
        (sym (is_newest 1 opening_clock (decreed (Taken message)) [] [] [] opening_clock all_up place chain _ fits.due.further)) ∙ fits.failed in
        cc
    others Try place chain late below fits = omega (arith, below)
    others Announce place chain late below fits = omega (arith, below)
    others Take place chain late below fits = omega (arith, late)
    others Follow place chain late below fits = omega (arith, late)
    others Close place chain late below fits = omega (arith, late)
    others Lose place chain late below fits = omega (arith, late)
    others GiveUp place chain late below fits = omega (arith, late)
    others Delete place chain late below fits = omega (arith, late)

-- the message expires
expire_first : (message : Submission) → message.expiry ≤ one_minute_later →
    IsFirstRule 1 1 (after_tick 1 opening_clock (decreed (Taken message)) [] [] [] one_minute_later all_up) no_records all_up first_id 1
    (expired_chain message) Expire
expire_first message over = record {
  fits = record {
    further = goes_further 1 opening_clock (decreed (Taken message)) [] [] [] one_minute_later all_up message (Fate Expired 0) refl;
    may = (omega arith, over);
  };
  first = λ rule place chain below. first_six 1 opening_clock (decreed (Taken message)) [] [] [] one_minute_later all_up
      (λ number same. cc) place chain rule below;
}

-- after eight failures
undeliver_first : (message : Submission) → MayBeTried message →
    IsFirstRule 1 1 (after_tick 1 opening_clock (decreed (Failed 100)) (decreed (Attempt 8) ∷ failed_chain 7 message) []
    [] opening_clock all_up) no_records all_up first_id 17 (undelivered_chain message) Undeliver
undeliver_first message tried = record {
  fits = record {
    error = 100;
    due = record {
      further = goes_further 1 opening_clock (decreed (Failed 100)) (decreed (Attempt 8) ∷ failed_chain 7 message) []
          [] opening_clock all_up message (Fate Undeliverable 100) refl;
      may = (omega arith, refl);
    };
    failed = refl;
  };
  first = before_last 1 opening_clock (decreed (Failed 100)) (decreed (Attempt 8) ∷ failed_chain 7 message) [] [] opening_clock all_up
      (λ number same. cc) 8 others;
}
  where
    others : (rule : Rule) (place : ℕ) (chain : List Decree) → 6 < order_of rule → order_of rule < 8 →
        FitsRule 1 1 (after_tick 1 opening_clock (decreed (Failed 100)) (decreed (Attempt 8) ∷ failed_chain 7 message) []
        [] opening_clock all_up) no_records all_up first_id place chain rule →
        ⊥
    others Expire place chain late below fits =
        let due = due_here 1 opening_clock (decreed (Failed 100)) (decreed (Attempt 8) ∷ failed_chain 7 message) []
        [] opening_clock all_up place chain (Fate Expired 0) message refl fits in
        let over : message.expiry ≤ opening_clock = due.1 in
        let valid = tried.valid in
        omega (arith, over, valid)
    others Undeliver place chain late below fits = omega (arith, below)
    others Try place chain late below fits = omega (arith, below)
    others Announce place chain late below fits = omega (arith, below)
    others Take place chain late below fits = omega (arith, late)
    others Follow place chain late below fits = omega (arith, late)
    others Close place chain late below fits = omega (arith, late)
    others Lose place chain late below fits = omega (arith, late)
    others GiveUp place chain late below fits = omega (arith, late)
    others Delete place chain late below fits = omega (arith, late)

-- the outcome of an attempt
close_first : (message : Submission) →
    IsFirstRule 1 1 (after_tick 1 opening_clock (decreed (Attempt 1)) (taken_chain message) []
    ((slot_of first_id (attempted_chain message), Concluded Delivered 0) ∷ []) opening_clock all_up) no_records all_up first_id 2
    (delivered_chain message) Close
close_first message = record {
  fits = record {
    outcome = Concluded Delivered 0;
    further = goes_further 1 opening_clock (decreed (Attempt 1)) (taken_chain message) []
        ((slot_of first_id (attempted_chain message), Concluded Delivered 0) ∷ []) opening_clock all_up message (Fate Delivered 0) refl;
    attempt = ((1, refl), refl);
    now = refl;
    closed = inl refl;
  };
  first = λ rule place chain below. first_two 1 opening_clock (decreed (Attempt 1)) (taken_chain message) []
      ((slot_of first_id (attempted_chain message), Concluded Delivered 0) ∷ []) opening_clock all_up place chain rule below;
}

-- an attempt of an older incarnation is lost
lose_first : (message : Submission) →
    IsFirstRule 1 1 (after_tick 2 opening_clock (decreed (Attempt 1)) (taken_chain message) []
    [] opening_clock all_up) no_records all_up first_id 2 (lost_chain message) Lose
lose_first message = record {
  fits = record {
    further = goes_further 2 opening_clock (decreed (Attempt 1)) (taken_chain message) [] [] opening_clock all_up message (Failed older_incarnation_error) refl;
    attempt = ((1, refl), refl);
    before = omega arith;
  };
  first = earlier;
}
  where
    earlier : (rule : Rule) (place : ℕ) (chain : List Decree) → order_of rule < 4 →
        FitsRule 1 1 (after_tick 2 opening_clock (decreed (Attempt 1)) (taken_chain message) []
        [] opening_clock all_up) no_records all_up first_id place chain rule →
        ⊥
    earlier Close place chain below fits = fits.closed
    earlier Take place chain below fits = fits.1.waits
    earlier Follow place chain below fits = first_two 2 opening_clock (decreed (Attempt 1)) (taken_chain message) []
        [] opening_clock all_up place chain Follow (omega arith) fits
    earlier Lose place chain below fits = omega (arith, below)
    earlier GiveUp place chain below fits = omega (arith, below)
    earlier Delete place chain below fits = omega (arith, below)
    earlier Expire place chain below fits = omega (arith, below)
    earlier Undeliver place chain below fits = omega (arith, below)
    earlier Try place chain below fits = omega (arith, below)
    earlier Announce place chain below fits = omega (arith, below)

-- an attempt is given up
give_up_first : (message : Submission) →
    IsFirstRule 1 1 (after_tick 1 opening_clock (decreed (Attempt 1)) (taken_chain message) []
    [] opening_clock none_up) no_records none_up first_id 2 (given_up_chain message) GiveUp
give_up_first message = record {
  fits = record {
    further = goes_further 1 opening_clock (decreed (Attempt 1)) (taken_chain message) [] [] opening_clock none_up message (Failed no_session_error) refl;
    attempt = ((1, refl), refl);
    now = refl;
    granted = λ none. none;
    closed = λ outcome none. none;
    down = refl;
  };
  first = earlier;
}
  where
    earlier : (rule : Rule) (place : ℕ) (chain : List Decree) → order_of rule < 5 →
        FitsRule 1 1 (after_tick 1 opening_clock (decreed (Attempt 1)) (taken_chain message) []
        [] opening_clock none_up) no_records none_up first_id place chain rule →
        ⊥
    earlier Close place chain below fits = fits.closed
    earlier Lose place chain below fits =
        let newest = is_newest 1 opening_clock (decreed (Attempt 1)) (taken_chain message) [] [] opening_clock none_up place chain _ fits.further in
        let same : fits.further.newest.author.incarnation ≡ 1 = ap (λ (d : Decree). d.author.incarnation) newest in
        let before = fits.before in
        omega (arith, same, before)
    earlier Take place chain below fits = fits.1.waits
    earlier Follow place chain below fits = first_two 1 opening_clock (decreed (Attempt 1)) (taken_chain message) []
        [] opening_clock none_up place chain Follow (omega arith) fits
    earlier GiveUp place chain below fits = omega (arith, below)
    earlier Delete place chain below fits = omega (arith, below)
    earlier Expire place chain below fits = omega (arith, below)
    earlier Undeliver place chain below fits = omega (arith, below)
    earlier Try place chain below fits = omega (arith, below)
    earlier Announce place chain below fits = omega (arith, below)

-- the receipt on a fate is to be told
announce_first : (message : Submission) → AsksReceipt Delivered message →
    IsFirstRule 1 1 (after_tick 1 opening_clock (decreed (Fate Delivered 0)) (attempted_chain message) []
    [] opening_clock all_up) no_records all_up first_id 3 (told_chain message) Announce
announce_first message asked = record {
  fits = record {
    further = goes_further 1 opening_clock (decreed (Fate Delivered 0)) (attempted_chain message) [] [] opening_clock all_up message Told refl;
    may = (omega arith, record { node = refl; asked = asked });
  };
  first = before_last 1 opening_clock (decreed (Fate Delivered 0)) (attempted_chain message) [] [] opening_clock all_up (λ number same. cc) 10 others;
}
  where
    others : (rule : Rule) (place : ℕ) (chain : List Decree) → 6 < order_of rule → order_of rule < 10 →
        FitsRule 1 1 (after_tick 1 opening_clock (decreed (Fate Delivered 0)) (attempted_chain message) []
        [] opening_clock all_up) no_records all_up first_id place chain rule →
        ⊥
    others Expire place chain late below fits =
        (due_here 1 opening_clock (decreed (Fate Delivered 0)) (attempted_chain message) [] [] opening_clock all_up place chain _ message refl fits).1
    others Undeliver place chain late below fits =
        (due_here 1 opening_clock (decreed (Fate Delivered 0)) (attempted_chain message) [] [] opening_clock all_up place chain _ message refl fits.due).1
    others Try place chain late below fits =
        (due_here 1 opening_clock (decreed (Fate Delivered 0)) (attempted_chain message) [] [] opening_clock all_up place chain _ message refl fits.due).1
    others Announce place chain late below fits = omega (arith, below)
    others Take place chain late below fits = omega (arith, late)
    others Follow place chain late below fits = omega (arith, late)
    others Close place chain late below fits = omega (arith, late)
    others Lose place chain late below fits = omega (arith, late)
    others GiveUp place chain late below fits = omega (arith, late)
    others Delete place chain late below fits = omega (arith, late)

-- ---- no attempt begins of a message of which none may

of_ten : (rule : Rule) → order_of rule < 11
of_ten Take = omega arith
of_ten Follow = omega arith
of_ten Close = omega arith
of_ten Lose = omega arith
of_ten GiveUp = omega arith
of_ten Delete = omega arith
of_ten Expire = omega arith
of_ten Undeliver = omega arith
of_ten Try = omega arith
of_ten Announce = omega arith

none_fits : (message : Submission) → MayBeTried message → (rule : Rule) (place : ℕ) (chain : List Decree) →
    FitsRule 1 1 (after_tick 1 opening_clock (decreed (Taken message)) [] [] [] opening_clock none_begin) no_records none_begin first_id place chain rule → ⊥
none_fits message tried rule place chain fits =
    before_last 1 opening_clock (decreed (Taken message)) [] [] [] opening_clock none_begin (λ number same. cc) 11 others rule place chain (of_ten rule) fits
  where
    others : (rule : Rule) (place : ℕ) (chain : List Decree) → 6 < order_of rule → order_of rule < 11 →
        FitsRule 1 1 (after_tick 1 opening_clock (decreed (Taken message)) [] [] [] opening_clock none_begin) no_records none_begin first_id place chain rule →
        ⊥
    others Expire place chain late below fits =
        let due = due_here 1 opening_clock (decreed (Taken message)) [] [] [] opening_clock none_begin place chain (Fate Expired 0) message refl fits in
        let over : message.expiry ≤ opening_clock = due.1 in
        let valid = tried.valid in
        omega (arith, over, valid)
    others Undeliver place chain late below fits =
        let kinds : Taken message ≡ Failed fits.error = ap (λ (d : Decree). d.kind)
        (sym (is_newest 1 opening_clock (decreed (Taken message)) [] [] [] opening_clock none_begin place chain _ fits.due.further)) ∙ fits.failed in
        cc
    others Try place chain late below fits = let begins : false ≡ true = fits.begins in cc
    others Announce place chain late below fits =
        (due_here 1 opening_clock (decreed (Taken message)) [] [] [] opening_clock none_begin place chain Told message refl fits).1
    others Take place chain late below fits = omega (arith, late)
    others Follow place chain late below fits = omega (arith, late)
    others Close place chain late below fits = omega (arith, late)
    others Lose place chain late below fits = omega (arith, late)
    others GiveUp place chain late below fits = omega (arith, late)
    others Delete place chain late below fits = omega (arith, late)

pub held_back_step : (message : Submission) → MayBeTried message →
    IsStepAlone first_setup (node_of_actor (knowing 1 opening_clock (taken_chain message) [] [])) (Tick opening_clock none_begin)
    (Ticks opening_clock ∷ [])
held_back_step message tried = record {
  run = (record { least = omega arith; most = omega arith; up = refl; needs = tt }, tt);
  exact = nothing_exact 1 opening_clock (decreed (Taken message)) [] [] [] opening_clock none_begin (none_fits message tried);
}

-- ---- as steps of the node

started_alone : (incarnation clock : ℕ) (newest : Decree) (older : List Decree) (granted : List Slot) (closed : List (Slot × Outcome))
    (moment : ℕ) (reach : Reach) (rule : Rule) (chain : List Decree) → proposer_of (opening_ballot incarnation) ≡ 1 →
    incarnation_in (opening_ballot incarnation) ≡ incarnation →
    IsFirstRule 1 1 (after_tick incarnation clock newest older granted closed moment reach) no_records reach first_id (length (newest ∷ older)) chain rule →
    (order_of rule ≡ order_of GiveUp → ⊥) → slot_of first_id chain ≡ slot_at first_id (length (newest ∷ older)) →
    IsStepAlone first_setup (node_of_actor (knowing incarnation clock (newest ∷ older) granted closed)) (Tick moment reach) (starting incarnation moment chain)
started_alone incarnation clock newest older granted closed moment reach rule chain proposer mine first apart place = record {
  run = (
    record { least = omega arith; most = omega arith; up = refl; needs = (proposer, mine) },
    (record { least = omega arith; most = omega arith; up = refl; needs = tt }, tt),
  );
  exact = tick_exact incarnation clock newest older granted closed moment reach rule chain first []
      (none_due _ (abandons_none incarnation clock newest older granted closed moment reach rule _ chain first apart))
      (starting incarnation moment chain) (ap (λ (s : Slot). Prepares s (opening_ballot incarnation) chain ∷ Ticks moment ∷ []) place);
}

pub try_step : (message : Submission) → MayBeTried message →
    IsStepAlone first_setup (node_of_actor (knowing 1 opening_clock (taken_chain message) [] [])) (Tick opening_clock all_up)
    (starting 1 opening_clock (attempted_chain message))
try_step message tried =
    started_alone 1 opening_clock (decreed (Taken message)) [] [] [] opening_clock all_up Try (attempted_chain message) refl refl
    (try_first message tried) (λ same. omega (arith, same)) refl

pub expire_step : (message : Submission) → message.expiry ≤ one_minute_later →
    IsStepAlone first_setup (node_of_actor (knowing 1 opening_clock (taken_chain message) [] [])) (Tick one_minute_later all_up)
    (starting 1 one_minute_later (expired_chain message))
expire_step message over =
    started_alone 1 opening_clock (decreed (Taken message)) [] [] [] one_minute_later all_up Expire (expired_chain message) refl refl
    (expire_first message over) (λ same. omega (arith, same)) refl

pub undeliver_step : (message : Submission) → MayBeTried message →
    IsStepAlone first_setup (node_of_actor (knowing 1 opening_clock (failed_chain 8 message) [] [])) (Tick opening_clock all_up)
    (starting 1 opening_clock (undelivered_chain message))
undeliver_step message tried =
    started_alone 1 opening_clock (decreed (Failed 100)) (decreed (Attempt 8) ∷ failed_chain 7 message) [] [] opening_clock all_up Undeliver
    (undelivered_chain message) refl refl (undeliver_first message tried) (λ same. omega (arith, same)) refl

pub close_step : (message : Submission) →
    IsStepAlone first_setup (node_of_actor (knowing 1 opening_clock (attempted_chain message) []
    ((slot_of first_id (attempted_chain message), Concluded Delivered 0) ∷ []))) (Tick opening_clock all_up)
    (starting 1 opening_clock (delivered_chain message))
close_step message =
    started_alone 1 opening_clock (decreed (Attempt 1)) (taken_chain message) []
    ((slot_of first_id (attempted_chain message), Concluded Delivered 0) ∷ []) opening_clock all_up Close
    (delivered_chain message) refl refl (close_first message) (λ same. omega (arith, same)) refl

pub lose_step : (message : Submission) →
    IsStepAlone first_setup (node_of_actor (knowing 2 opening_clock (attempted_chain message) [] [])) (Tick opening_clock all_up)
    (starting 2 opening_clock (lost_chain message))
lose_step message =
    started_alone 2 opening_clock (decreed (Attempt 1)) (taken_chain message) [] [] opening_clock all_up Lose (lost_chain message) refl refl
    (lose_first message) (λ same. omega (arith, same)) refl

pub announce_step : (message : Submission) → AsksReceipt Delivered message →
    IsStepAlone first_setup (node_of_actor (knowing 1 opening_clock (delivered_chain message) [] [])) (Tick opening_clock all_up)
    (starting 1 opening_clock (told_chain message))
announce_step message asked =
    started_alone 1 opening_clock (decreed (Fate Delivered 0)) (attempted_chain message) [] [] opening_clock all_up Announce (told_chain message) refl refl
    (announce_first message asked) (λ same. omega (arith, same)) refl

-- the attempt that is given up
abandoned_one : (message : Submission) →
    AreDue (DueToAbandon 1 1 (after_tick 1 opening_clock (decreed (Attempt 1)) (taken_chain message) [] [] opening_clock none_up) no_records
    (Tick opening_clock none_up)) (Abandons (slot_of first_id (attempted_chain message)) ∷ [])
abandoned_one message = record { each = λ act. (there act, back act); order = tt }
  where
    there : (act : Act) → In act (Abandons (slot_of first_id (attempted_chain message)) ∷ []) →
        DueToAbandon 1 1 (after_tick 1 opening_clock (decreed (Attempt 1)) (taken_chain message) [] [] opening_clock none_up) no_records
        (Tick opening_clock none_up) act
    there act (inl same) = subst (DueToAbandon 1 1
        (after_tick 1 opening_clock (decreed (Attempt 1)) (taken_chain message) [] [] opening_clock none_up) no_records
        (Tick opening_clock none_up)) (sym same) (given_up_chain message, give_up_first message)
    there act (inr none) = absurd none

    back : (act : Act) →
        DueToAbandon 1 1 (after_tick 1 opening_clock (decreed (Attempt 1)) (taken_chain message) [] [] opening_clock none_up) no_records
        (Tick opening_clock none_up) act →
        In act (Abandons (slot_of first_id (attempted_chain message)) ∷ [])
    back (Abandons slot) due =
        let ids : slot.id ≡ first_id = rule_id 1 opening_clock (decreed (Attempt 1)) (taken_chain message) []
        [] opening_clock none_up slot.id (suc slot.place) due.0 GiveUp due.1.fits in
        let places : suc slot.place ≡ 2 = further_place 1 opening_clock (decreed (Attempt 1)) (taken_chain message) []
        [] opening_clock none_up slot.id (suc slot.place) due.0 _ due.1.fits.further in
        let place : slot.place ≡ 1 = omega (arith, places) in
        inl (λ i. Abandons (slot_at (ids i) (place i)))
    back act due = absurd due

pub give_up_step : (message : Submission) →
    IsStepAlone first_setup (node_of_actor (knowing 1 opening_clock (attempted_chain message) [] [])) (Tick opening_clock none_up)
    (giving_up 1 opening_clock (slot_of first_id (attempted_chain message)) (given_up_chain message))
give_up_step message = record {
  run = (
    record { least = omega arith; most = omega arith; up = refl; needs = (refl, refl) },
    (
      record {
        least = omega arith;
        most = omega arith;
        up = refl;
        needs = record {
          attempting = record {
            newest = decreed (Attempt 1);
            older = taken_chain message;
            number = 1;
            known = known_here
                (attempted_chain message);
            place = refl;
            attempt = refl;
            author = refl;
          };
          granted = λ none. none;
          closed = λ outcome none. none;
        };
      },
      (record { least = omega arith; most = omega arith; up = refl; needs = tt }, tt),
    ),
  );
  exact = tick_exact 1 opening_clock (decreed (Attempt 1)) (taken_chain message) [] [] opening_clock none_up GiveUp (given_up_chain message)
      (give_up_first message) (Abandons (slot_of first_id (attempted_chain message)) ∷ []) (abandoned_one message) _ refl;
}
