-- The first rule of a tick that fits is found.
use Rattle.std.proofs.Common.{◌≡◌, ◌⊎◌, ℕ, suc, ◌<◌, ◌≤◌, Bool, true, false, List, [], ◌∷◌, get_or, map, Option, Some, None, refl, sym, ap, subst, ◌∙◌, inl}
use Rattle.std.proofs.Common.{inr, arith}
use Rattle.std.specs.Prelude.{if◌then◌else◌}
use Rattle.std.specs.Option.{option_or}
use Rattle.std.proofs.lemmas.Bool.{true≢false}
use Rattle.mc_model.specs.node.Reach.{Reach, may_begin}
use Rattle.mc_model.specs.message.Submission.{Submission}
use Rattle.mc_model.specs.message.Decree.{Attempt, Author, Decree, Expired, Failed, Fate, Told, Kind, Taken}
use Rattle.mc_model.specs.message.Neighbours.{MayFollow}
use Rattle.mc_model.specs.message.Chain.{attempts_in, home_in, taken_in}
use Rattle.mc_model.specs.synod.Lists.{In}
use Rattle.mc_model.specs.synod.Packet.{Slot}
use Rattle.mc_model.specs.synod.Acceptor.{Records}
use Rattle.mc_model.specs.node.Actor.{Actor, name_of}
use Rattle.mc_model.specs.node.FirstRule.{Announce, Close, Delete, Expire, FitsRule, Follow, GiveUp, IsFirstRule, Lose, Rule, Take, Try, Undeliver, order_of}
use Rattle.mc_model.specs.node.Knowledge.{IsKnown, Knows}
use Rattle.mc_model.specs.node.Rules.{GoesFurther, IsAttemptBy, next_decree}
use Rattle.mc_model.specs.node.Setup.{Setup}
use Rattle.mc_parts.proofs.Known.{knows_one}
use Rattle.node_model.specs.Kept.{Held, Kept, message_at}
use Rattle.node_model.specs.Proposer.{Start}
use Rattle.node_model.specs.Rules.{Fitting, attempt_rule, first_rule, fitting, idle_rule, is_attempt_by, known_rule, own_rule}
use Rattle.node_model.specs.Starts.{delete_for, delete_of}
use Rattle.node_model.specs.Acceptor.{ArePlaced}
use Rattle.mc_model.specs.node.Alone.{Node}
use Rattle.node_laws.specs.Stands.{Agrees, HasAttempts, IsHeld}
use Rattle.node_laws.proofs.invariant.Decided.{Decided}
use Rattle.node_laws.proofs.step.FollowRule.{follow_decided}
use Rattle.node_laws.proofs.step.KnownRules.{announce_decided, attempt_decides, close_decided, delete_decided, expire_decided, give_up_decided, lose_decided, try_decided}
use Rattle.node_laws.proofs.step.KnownRules.{undeliver_decided}
use Rattle.node_laws.proofs.step.RuleChains.{goes_on}
use Rattle.node_laws.proofs.step.TakeRule.{take_decided}

-- what the rules of a message look at is kept as the actor has it
pub record AgreesOn (setup : Setup) (a : Actor) (records : Records) (k : Kept) (id : ℕ) : Type 0 where
  pub incarnation : k.incarnation ≡ a.incarnation
  pub clock : k.clock ≡ a.clock
  pub same_records : (slot : Slot) → k.records slot ≡ records slot
  pub placed : ArePlaced k.records
  pub waiting : map (λ h. h.waiting) k.held ≡ a.waiting
  pub told : (h : Held) → In h k.held → IsHeld a.received (name_of setup.node a h.waiting) h
  pub known : IsKnown setup.nodes a.received id (message_at k id).known
  pub attempts : HasAttempts a id (message_at k id)

-- ---- what may not follow an attempt

busy : (kind : Kind) (number : ℕ) → kind ≡ Attempt number → ((message : Submission) × (kind ≡ Taken message)) ⊎ ((error : ℕ) × (kind ≡ Failed error)) → ⊥
busy kind number is (inl taken) = let both : Attempt number ≡ Taken taken.0 = sym is ∙ taken.1 in absurd (cc)
busy kind number is (inr failed) = let both : Attempt number ≡ Failed failed.0 = sym is ∙ failed.1 in absurd (cc)

never_expires : (kind : Kind) (number : ℕ) → kind ≡ Attempt number → (taken : Submission) (home attempts : ℕ) (old author : Author) (before moment : ℕ) →
    MayFollow taken home attempts old before kind author moment (Fate Expired 0) → ⊥
never_expires (Taken of) number is taken home attempts old author before moment may = absurd (cc)
never_expires (Attempt other) number is taken home attempts old author before moment may = may
never_expires (Failed error) number is taken home attempts old author before moment may = absurd (cc)
never_expires (Fate final error) number is taken home attempts old author before moment may = may
never_expires Told number is taken home attempts old author before moment may = may

never_tried : (kind : Kind) (number : ℕ) → kind ≡ Attempt number → (next : ℕ) (taken : Submission) (home attempts : ℕ) (old author : Author) (before moment : ℕ) →
    MayFollow taken home attempts old before kind author moment (Attempt next) → ⊥
never_tried (Taken of) number is next taken home attempts old author before moment may = absurd (cc)
never_tried (Attempt other) number is next taken home attempts old author before moment may = may
never_tried (Failed error) number is next taken home attempts old author before moment may = absurd (cc)
never_tried (Fate final error) number is next taken home attempts old author before moment may = may
never_tried Told number is next taken home attempts old author before moment may = may

never_told : (kind : Kind) (number : ℕ) → kind ≡ Attempt number → (taken : Submission) (home attempts : ℕ) (old author : Author) (before moment : ℕ) →
    MayFollow taken home attempts old before kind author moment Told → ⊥
never_told (Taken of) number is taken home attempts old author before moment may = may
never_told (Attempt other) number is taken home attempts old author before moment may = may
never_told (Failed error) number is taken home attempts old author before moment may = may
never_told (Fate final error) number is taken home attempts old author before moment may = absurd (cc)
never_told Told number is taken home attempts old author before moment may = may

-- ---- rules by their order

abbrev rule_at : ℕ → Rule
rule_at order = get_or (Take ∷ Take ∷ Follow ∷ Close ∷ Lose ∷ GiveUp ∷ Delete ∷ Expire ∷ Undeliver ∷ Try ∷ Announce ∷ []) order Announce

at_order : (rule : Rule) → rule_at (order_of rule) ≡ rule
at_order Take = refl
at_order Follow = refl
at_order Close = refl
at_order Lose = refl
at_order GiveUp = refl
at_order Delete = refl
at_order Expire = refl
at_order Undeliver = refl
at_order Try = refl
at_order Announce = refl

pub same_rule : (one other : Rule) → order_of one ≡ order_of other → one ≡ other
same_rule one other same = sym (at_order one) ∙ ap rule_at same ∙ at_order other

module _ (setup : Setup) (a : Actor) (records : Records) (k : Kept) (reach : Reach) (id : ℕ) where
  abbrev pub Fits : Rule → ℕ → List Decree → Type 0
  Fits rule place chain = FitsRule setup.nodes setup.node a records reach id place chain rule

  -- of the rules from this order on, the one that was found is the first that fits
  pub record IsFirstFrom (order : ℕ) (fit : Fitting) : Type 0 where
    pub within : order ≤ order_of fit.rule
    pub fits : Fits fit.rule fit.start.place fit.start.chain
    pub first : (earlier : Rule) (place : ℕ) (chain : List Decree) → order ≤ order_of earlier → order_of earlier < order_of fit.rule →
        Fits earlier place chain → ⊥

  abbrev pub FoundFrom : ℕ → Option Fitting → Type 0
  FoundFrom order None = (rule : Rule) (place : ℕ) (chain : List Decree) → order ≤ order_of rule → Fits rule place chain → ⊥
  FoundFrom order (Some fit) = IsFirstFrom order fit

  none_at : (rule other : Rule) → Decided None (Fits rule) → order_of other ≡ order_of rule → (place : ℕ) (chain : List Decree) → Fits other place chain → ⊥
  none_at rule other none same place chain fits = none place chain (subst (λ (r : Rule). Fits r place chain) (same_rule other rule same) fits)

  pub rule_then : (rule : Rule) (start : Option Start) (rest : Option Fitting) → Decided start (Fits rule) → FoundFrom (suc (order_of rule)) rest →
      FoundFrom (order_of rule) (option_or (fitting rule start) rest)
  rule_then rule (Some start) rest fits others = record {
    within = omega arith;
    fits = fits;
    first = λ earlier place chain least below. absurd (omega arith);
  }
  rule_then rule None None none others = λ other place chain least fits. elim (next (order_of rule) (order_of other) least) [
    | inl same ↦ none_at rule other none same place chain fits
    | inr above ↦ others other place chain above fits
  ]
    where
      next : (low high : ℕ) → low ≤ high → (high ≡ low) ⊎ (suc low ≤ high)
      next low high least = grind arith
  rule_then rule None (Some fit) none others = record {
    within = let least = others.within in omega arith;
    fits = others.fits;
    first = λ earlier place chain least below fits. elim (next (order_of rule) (order_of earlier) least) [
      | inl same ↦ none_at rule earlier none same place chain fits
      | inr above ↦ others.first earlier place chain above below fits
    ];
  }
    where
      next : (low high : ℕ) → low ≤ high → (high ≡ low) ⊎ (suc low ≤ high)
      next low high least = grind arith

  last_rule : (rule : Rule) (start : Option Start) → Decided start (Fits rule) → FoundFrom (suc (order_of rule)) None →
      FoundFrom (order_of rule) (fitting rule start)
  last_rule rule None none others = rule_then rule None None none others
  last_rule rule (Some start) fits others = rule_then rule (Some start) None fits others

  -- a rule that cannot fit is passed over
  passed : (rule : Rule) → Decided None (Fits rule) → (rest : Option Fitting) → FoundFrom (suc (order_of rule)) rest → FoundFrom (order_of rule) rest
  passed rule none None others = rule_then rule None None none others
  passed rule none (Some fit) others = rule_then rule None (Some fit) none others

  module _ (agrees : AgreesOn setup a records k id) where
    -- behind an attempt of the node no rule fits that is for a message that waits, and behind another decree none that is for one
    module _ (newest : Decree) (older : List Decree) (taken : Submission) (known : Knows setup.nodes a.received id (newest ∷ older))
        (message : taken_in (newest ∷ older) ≡ Some taken) where
      newest_is : (place : ℕ) (chain : List Decree) (kind : Kind) → (g : GoesFurther setup.nodes setup.node a id place chain kind) → g.newest ≡ newest
      newest_is place chain kind g =
          let same : g.newest ∷ g.older ≡ newest ∷ older = knows_one setup.nodes a.received id (g.newest ∷ g.older) (newest ∷ older) g.known known in cc

      no_attempt : (IsAttemptBy setup.node newest → ⊥) → (place : ℕ) (chain : List Decree) (kind : Kind) →
          (g : GoesFurther setup.nodes setup.node a id place chain kind) → IsAttemptBy setup.node g.newest → ⊥
      no_attempt other place chain kind g own = other (subst (λ (n : Decree). IsAttemptBy setup.node n) (newest_is place chain kind g) own)

      attempt_found : IsAttemptBy setup.node newest → FoundFrom 3 (attempt_rule setup k (message_at k id) (reach.up taken.target) newest older)
      attempt_found own =
          rule_then Close _ _ (close_decided setup a k id agrees.incarnation agrees.clock newest older taken known message
          (message_at k id) agrees.attempts own)
          (rule_then Lose _ _ (lose_decided setup a k id agrees.incarnation agrees.clock newest older taken known message (message_at k id) agrees.attempts own)
          (last_rule GiveUp _ (give_up_decided setup a k id agrees.incarnation agrees.clock newest older taken known message
          (message_at k id) agrees.attempts own reach) none_waits))
        where
          kind_at : (place : ℕ) (chain : List Decree) (kind : Kind) → (g : GoesFurther setup.nodes setup.node a id place chain kind) →
              g.newest.kind ≡ Attempt own.0.0
          kind_at place chain kind g = ap (λ (n : Decree). n.kind) (newest_is place chain kind g) ∙ own.0.1

          none_waits : FoundFrom 6 None
          none_waits Take place chain late fits = absurd (omega arith)
          none_waits Follow place chain late fits = absurd (omega arith)
          none_waits Close place chain late fits = absurd (omega arith)
          none_waits Lose place chain late fits = absurd (omega arith)
          none_waits GiveUp place chain late fits = absurd (omega arith)
          none_waits Delete place chain late fits = busy fits.further.newest.kind own.0.0 (kind_at place chain _ fits.further) fits.idle
          none_waits Expire place chain late fits =
              never_expires fits.further.newest.kind own.0.0 (kind_at place chain _ fits.further) fits.further.taken
              (home_in (fits.further.newest ∷ fits.further.older))
              (attempts_in (fits.further.newest ∷ fits.further.older))
              fits.further.newest.author
              (next_decree setup.node a fits.further.newest (Fate Expired 0)).author
              fits.further.newest.moment
              (next_decree setup.node a fits.further.newest (Fate Expired 0)).moment
              fits.may.1
          none_waits Undeliver place chain late fits =
              let both : Attempt own.0.0 ≡ Failed fits.error = sym (kind_at place chain _ fits.due.further) ∙ fits.failed in
              absurd (cc)
          none_waits Try place chain late fits =
              never_tried fits.due.further.newest.kind own.0.0 (kind_at place chain _ fits.due.further) fits.number fits.due.further.taken
              (home_in (fits.due.further.newest ∷ fits.due.further.older))
              (attempts_in (fits.due.further.newest ∷ fits.due.further.older))
              fits.due.further.newest.author
              (next_decree setup.node a fits.due.further.newest (Attempt fits.number)).author
              fits.due.further.newest.moment
              (next_decree setup.node a fits.due.further.newest (Attempt fits.number)).moment
              fits.due.may.1
          none_waits Announce place chain late fits =
              never_told fits.further.newest.kind own.0.0 (kind_at place chain _ fits.further) fits.further.taken
              (home_in (fits.further.newest ∷ fits.further.older))
              (attempts_in (fits.further.newest ∷ fits.further.older))
              fits.further.newest.author
              (next_decree setup.node a fits.further.newest Told).author
              fits.further.newest.moment
              (next_decree setup.node a fits.further.newest Told).moment
              fits.may.1

      idle_found : (IsAttemptBy setup.node newest → ⊥) → FoundFrom 3 (idle_rule setup k id taken (may_begin reach id taken.target) newest older)
      idle_found other =
          passed Close (λ place chain fits. no_attempt other place chain _ fits.further fits.attempt) _
          (passed Lose (λ place chain fits. no_attempt other place chain _ fits.further fits.attempt) _
          (passed GiveUp (λ place chain fits. no_attempt other place chain _ fits.further fits.attempt) _
          (rule_then Delete _ _ deletes
          (rule_then Expire _ _ (expire_decided setup a k id agrees.incarnation agrees.clock newest older taken known message)
          (rule_then Undeliver _ _ (undeliver_decided setup a k id agrees.incarnation agrees.clock newest older taken known message)
          (rule_then Try _ _ (try_decided setup a k id agrees.incarnation agrees.clock newest older taken known message reach)
          (last_rule Announce _ (announce_decided setup a k id agrees.incarnation agrees.clock newest older taken known message) none_later)))))))
        where
          none_later : FoundFrom 11 None
          none_later Take place chain late fits = absurd (omega arith)
          none_later Follow place chain late fits = absurd (omega arith)
          none_later Close place chain late fits = absurd (omega arith)
          none_later Lose place chain late fits = absurd (omega arith)
          none_later GiveUp place chain late fits = absurd (omega arith)
          none_later Delete place chain late fits = absurd (omega arith)
          none_later Expire place chain late fits = absurd (omega arith)
          none_later Undeliver place chain late fits = absurd (omega arith)
          none_later Try place chain late fits = absurd (omega arith)
          none_later Announce place chain late fits = absurd (omega arith)

          deletes : Decided (delete_for setup k id k.held (Some (newest ∷ older))) (Fits Delete)
          deletes = subst (λ (t : Option Submission). Decided (delete_of setup k id k.held newest older t) (Fits Delete)) (sym message)
              (delete_decided setup a k id agrees.incarnation agrees.clock newest older taken known message agrees.waiting)

      own_found : FoundFrom 3 (own_rule setup k reach id newest older (Some taken))
      own_found = by_test (is_attempt_by setup.node newest newest.kind) refl
        where
          by_test : (test : Bool) → is_attempt_by setup.node newest newest.kind ≡ test →
              FoundFrom 3 (if test then attempt_rule setup k (message_at k id) (reach.up taken.target) newest older
              else idle_rule setup k id taken (may_begin reach id taken.target) newest older)
          by_test true own = attempt_found ((attempt_decides setup.node newest).0 own)
          by_test false other = idle_found (λ own. true≢false (sym ((attempt_decides setup.node newest).1 own) ∙ other))

    -- if nothing is known that a decree could follow
    none_further : ((newest : Decree) (older : List Decree) (taken : Submission) → Knows setup.nodes a.received id (newest ∷ older) →
        taken_in (newest ∷ older) ≡ Some taken → ⊥) →
        FoundFrom 3 None
    none_further none rule place chain late fits =
        let it = goes_on setup.nodes setup.node a records reach id rule place chain late fits in
        none it.further.newest it.further.older it.further.taken it.further.known it.further.message

    known_found : (known : Option (List Decree)) → IsKnown setup.nodes a.received id known → FoundFrom 3 (known_rule setup k reach id known)
    known_found None nothing = none_further (λ newest older taken known message. nothing _ _ known.learned)
    known_found (Some []) knows = none_further (λ newest older taken known message.
        let same : newest ∷ older ≡ [] = knows_one setup.nodes a.received id (newest ∷ older) [] known knows in absurd (cc))
    known_found (Some (newest ∷ older)) knows = by_taken (taken_in (newest ∷ older)) refl
      where
        by_taken : (taken : Option Submission) → taken_in (newest ∷ older) ≡ taken → FoundFrom 3 (own_rule setup k reach id newest older taken)
        by_taken None is = none_further (λ further before taken known message.
            let same : further ∷ before ≡ newest ∷ older = knows_one setup.nodes a.received id (further ∷ before) (newest ∷ older) known knows in
            let both : Some taken ≡ None = sym message ∙ ap taken_in same ∙ is in
            absurd (cc))
        by_taken (Some taken) is = own_found newest older taken knows is

    pub first_found : FoundFrom 1 (first_rule setup k reach id)
    first_found =
        rule_then Take _ _ (take_decided setup k id a agrees.incarnation agrees.waiting)
        (rule_then Follow _ _ (follow_decided setup a records k id agrees.same_records agrees.placed agrees.waiting agrees.told agrees.known)
        (known_found (message_at k id).known agrees.known))

-- ---- as the model says it

module _ (setup : Setup) (a : Actor) (records : Records) (k : Kept) (reach : Reach) (id : ℕ) (agrees : AgreesOn setup a records k id) where
  least : (rule : Rule) → 1 ≤ order_of rule
  least Take = omega arith
  least Follow = omega arith
  least Close = omega arith
  least Lose = omega arith
  least GiveUp = omega arith
  least Delete = omega arith
  least Expire = omega arith
  least Undeliver = omega arith
  least Try = omega arith
  least Announce = omega arith

  pub is_first : (fit : Fitting) → first_rule setup k reach id ≡ Some fit →
      IsFirstRule setup.nodes setup.node a records reach id fit.start.place fit.start.chain fit.rule
  is_first fit is =
      let found : IsFirstFrom setup a records k reach id 1 fit = subst (FoundFrom setup a records k reach id 1) is (first_found setup a records k reach id agrees) in
      record { fits = found.fits; first = λ earlier place chain below fits. found.first earlier place chain (least earlier) below fits }

  pub none_fits : first_rule setup k reach id ≡ None → (rule : Rule) (place : ℕ) (chain : List Decree) →
      FitsRule setup.nodes setup.node a records reach id place chain rule → ⊥
  none_fits is rule place chain fits =
      let found : FoundFrom setup a records k reach id 1 None = subst (FoundFrom setup a records k reach id 1) is (first_found setup a records k reach id agrees) in
      found rule place chain (least rule) fits

-- ---- of what is kept

pub agrees_on : (setup : Setup) (k : Kept) (s : Node) → Agrees setup k s → (id : ℕ) → AgreesOn setup s.actor s.records k id
agrees_on setup k s agrees id = record {
  incarnation = agrees.incarnation;
  clock = agrees.clock;
  same_records = agrees.records;
  placed = λ slot vote voted. (agrees.placed slot vote voted).1;
  waiting = agrees.waiting;
  told = agrees.told;
  known = (agrees.message id).heard.known;
  attempts = (agrees.message id).attempts;
}
