-- The rules of a tick behind the newest decree of what is known.
use Rattle.std.proofs.Common.{◌≡◌, ◌⊎◌, ℕ, ◌+◌, ◌*◌, ◌<◌, ◌≤◌, max, Bool, true, false, List, ◌∷◌, length, map, Option, Some, None, refl, sym, ap, subst, ◌∙◌}
use Rattle.std.proofs.Common.{inl, inr, arith}
use Rattle.std.specs.Prelude.{◌==◌, ◌&&◌, nat_le, nat_lt, not, if◌then◌else◌}
use Rattle.std.specs.Bool.{Decides}
use Rattle.std.specs.List.{list_any}
use Rattle.std.specs.Option.{is_none}
use Rattle.std.proofs.lemmas.Bool.{true≢false}
use Rattle.std.proofs.lemmas.Bool.Decides.{Decides-and, Decides-eqb, Decides-ltb}
use Rattle.mc_model.specs.node.Reach.{Reach, may_begin}
use Rattle.mc_model.specs.message.Submission.{Submission}
use Rattle.mc_model.specs.message.Decree.{Attempt, Author, Decree, Deleted, Expired, Failed, Fate, Told, Kind, Taken, Undeliverable, Final}
use Rattle.mc_model.specs.message.Neighbours.{MayFollow, most_attempts, retry_delay}
use Rattle.mc_model.specs.message.Receipts.{AsksReceipt}
use Rattle.mc_model.specs.message.Chain.{MayExtend, attempts_in, home_in, taken_in}
use Rattle.mc_model.specs.synod.Lists.{In}
use Rattle.mc_model.specs.synod.Packet.{Slot, slot_at, slot_of}
use Rattle.mc_model.specs.node.Actor.{Actor}
use Rattle.mc_model.specs.node.Knowledge.{Knows}
use Rattle.mc_model.specs.node.Outcome.{Outcome, decree_of, no_session_error, older_incarnation_error}
use Rattle.mc_model.specs.node.Rules.{FitsClose, FitsDelete, FitsGiveUp, FitsLose, FitsTry, FitsUndeliver, GoesFurther, IsAttemptBy, IsDue, IsIdle, next_decree}
use Rattle.mc_model.specs.node.Proposal.{IsCancelled}
use Rattle.mc_model.specs.node.Setup.{Setup}
use Rattle.mc_parts.proofs.Known.{knows_one}
use Rattle.node_model.specs.Kept.{Kept}
use Rattle.node_model.specs.Message.{Message}
use Rattle.node_model.specs.Starts.{announced, cancels, delete_of, is_idle, moment_behind, start_behind}
use Rattle.node_model.specs.Rules.{closing, expiring, giving_up, if_so, is_attempt_by, losing, tried, undelivered}
use Rattle.node_model.specs.Answers.{is_asked}
use Rattle.node_model.proofs.Decisions.{nat_le_decides}
use Rattle.node_model.proofs.Receipts.{asked_decides}
use Rattle.node_laws.specs.Stands.{HasAttempts}
use Rattle.node_laws.proofs.invariant.Cancelling.{cancelled_decides}
use Rattle.node_laws.proofs.invariant.Decided.{Decided}

-- ---- kinds

idle_kind : (kind : Kind) → is_idle kind ≡ true → ((message : Submission) × (kind ≡ Taken message)) ⊎ ((error : ℕ) × (kind ≡ Failed error))
idle_kind (Taken message) idle = inl (message, refl)
idle_kind (Attempt number) idle = absurd (true≢false (sym idle))
idle_kind (Failed error) idle = inr (error, refl)
idle_kind (Fate final error) idle = absurd (true≢false (sym idle))
idle_kind Told idle = absurd (true≢false (sym idle))

pub idle_decides : (newest : Decree) → Decides (is_idle newest.kind) (IsIdle newest)
idle_decides newest = (idle_kind newest.kind, λ idle. elim idle [ inl taken ↦ ap is_idle taken.1 | inr failed ↦ ap is_idle failed.1 ])

attempt_kind : (node : ℕ) (newest : Decree) (kind : Kind) → is_attempt_by node newest kind ≡ true →
    ((number : ℕ) × (kind ≡ Attempt number)) × (newest.author.node ≡ node)
attempt_kind node newest (Taken message) own = absurd (true≢false (sym own))
attempt_kind node newest (Attempt number) own = ((number, refl), (Decides-eqb newest.author.node node).0 own)
attempt_kind node newest (Failed error) own = absurd (true≢false (sym own))
attempt_kind node newest (Fate final error) own = absurd (true≢false (sym own))
attempt_kind node newest Told own = absurd (true≢false (sym own))

pub attempt_decides : (node : ℕ) (newest : Decree) → Decides (is_attempt_by node newest newest.kind) (IsAttemptBy node newest)
attempt_decides node newest = (
  attempt_kind node newest newest.kind,
  λ own. ap (is_attempt_by node newest) own.0.1 ∙ (Decides-eqb newest.author.node node).1 own.1,
)

-- a message expires behind its taking or a failure, from its expiry on
expires : (kind : Kind) (message : Submission) (home attempt before moment : ℕ) (old author : Author) →
    Decides (is_idle kind && nat_le message.expiry moment) (MayFollow message home attempt old before kind author moment (Fate Expired 0))
expires (Taken taken) message home attempt before moment old author = nat_le_decides message.expiry moment
expires (Attempt number) message home attempt before moment old author = ((λ t. absurd (true≢false (sym t))), (λ none. absurd none))
expires (Failed error) message home attempt before moment old author = nat_le_decides message.expiry moment
expires (Fate final error) message home attempt before moment old author = ((λ t. absurd (true≢false (sym t))), (λ none. absurd none))
expires Told message home attempt before moment old author = ((λ t. absurd (true≢false (sym t))), (λ none. absurd none))

-- ---- behind this decree of what is known

module _ (setup : Setup) (a : Actor) (k : Kept) (id : ℕ) (incarnation : k.incarnation ≡ a.incarnation) (clock : k.clock ≡ a.clock)
    (newest : Decree) (older : List Decree) (taken : Submission) (known : Knows setup.nodes a.received id (newest ∷ older))
    (message : taken_in (newest ∷ older) ≡ Some taken) where
  abbrev Goes : ℕ → List Decree → Kind → Type 0
  Goes place chain kind = GoesFurther setup.nodes setup.node a id place chain kind

  abbrev pub goes : (kind : Kind) → Goes (start_behind setup k newest older kind).place (start_behind setup k newest older kind).chain kind
  goes kind = record {
    newest = newest;
    older = older;
    taken = taken;
    known = known;
    behind = refl;
    message = message;
    chain_is = λ i. record {
      author = record { node = setup.node; incarnation = incarnation i };
      moment = max (clock i) newest.moment;
      kind = kind;
    } ∷ newest ∷ older;
  }

  -- what goes further goes further from here
  pub record IsHere (from : Decree) (before : List Decree) (of : Submission) : Type 0 where
    pub newest_is : from ≡ newest
    pub older_is : before ≡ older
    pub taken_is : of ≡ taken

  pub here : (place : ℕ) (chain : List Decree) (kind : Kind) → (g : Goes place chain kind) → IsHere g.newest g.older g.taken
  here place chain kind g =
      let same : g.newest ∷ g.older ≡ newest ∷ older = knows_one setup.nodes a.received id (g.newest ∷ g.older) (newest ∷ older) g.known known in
      let both : Some g.taken ≡ Some taken = sym g.message ∙ ap taken_in same ∙ message in
      record { newest_is = cc; older_is = cc; taken_is = cc }

  moment_is : moment_behind k newest ≡ max a.clock newest.moment
  moment_is = ap (λ (c : ℕ). max c newest.moment) clock

  -- ---- a decree that may follow

  abbrev May : Kind → Type 0
  May kind = MayExtend (Some taken) (newest ∷ older) (next_decree setup.node a newest kind)

  may_here : (place : ℕ) (chain : List Decree) (kind : Kind) → IsDue setup.nodes setup.node a id place chain kind → May kind
  may_here place chain kind due =
      let it = here place chain kind due.further in
      subst (λ (t : Submission). MayExtend (Some t) (newest ∷ older) (next_decree setup.node a newest kind)) it.taken_is
      (subst (λ (o : List Decree). MayExtend (Some due.further.taken) (newest ∷ o) (next_decree setup.node a newest kind)) it.older_is
      (subst (λ (n : Decree). MayExtend (Some due.further.taken) (n ∷ due.further.older) (next_decree setup.node a n kind)) it.newest_is due.may))

  abbrev due : (kind : Kind) → May kind →
      IsDue setup.nodes setup.node a id (start_behind setup k newest older kind).place (start_behind setup k newest older kind).chain kind
  due kind may = record { further = goes kind; may = may }

  later : newest.moment ≤ max a.clock newest.moment
  later = omega arith

  pub expire_decided : Decided (expiring setup k taken newest older) (λ place chain. IsDue setup.nodes setup.node a id place chain (Fate Expired 0))
  expire_decided = by_test (is_idle newest.kind && nat_le taken.expiry (moment_behind k newest)) refl
    where
      test_is : (is_idle newest.kind && nat_le taken.expiry (moment_behind k newest)) ≡ (is_idle newest.kind && nat_le taken.expiry (max a.clock newest.moment))
      test_is = ap (λ (c : ℕ). is_idle newest.kind && nat_le taken.expiry c) moment_is

      holds :
          Decides (is_idle newest.kind && nat_le taken.expiry (max a.clock newest.moment))
          (MayFollow taken (home_in (newest ∷ older)) (attempts_in (newest ∷ older)) newest.author newest.moment newest.kind (next_decree setup.node a newest (Fate Expired 0)).author
          (max a.clock newest.moment) (Fate Expired 0))
      holds =
          expires newest.kind taken (home_in (newest ∷ older)) (attempts_in (newest ∷ older)) newest.moment (max a.clock newest.moment) newest.author
          (next_decree setup.node a newest (Fate Expired 0)).author

      by_test : (test : Bool) → (is_idle newest.kind && nat_le taken.expiry (moment_behind k newest)) ≡ test →
          Decided (if test then Some (start_behind setup k newest older (Fate Expired 0)) else None)
          (λ place chain. IsDue setup.nodes setup.node a id place chain (Fate Expired 0))
      by_test true is = due (Fate Expired 0) (later, holds.0 (sym test_is ∙ is))
      by_test false is = λ place chain fits. true≢false (sym (holds.1 (may_here place chain (Fate Expired 0) fits).1) ∙ sym test_is ∙ is)

  -- ---- an attempt of the node

  module _ (m : Message) (attempts_are : HasAttempts a id m) (own : IsAttemptBy setup.node newest) where
    now_decides : Decides (newest.author.incarnation == k.incarnation) (newest.author.incarnation ≡ a.incarnation)
    now_decides = (
      λ t. (Decides-eqb newest.author.incarnation k.incarnation).0 t ∙ incarnation,
      λ same. (Decides-eqb newest.author.incarnation k.incarnation).1 (same ∙ sym incarnation),
    )

    slot_here : (place : ℕ) (chain : List Decree) (kind : Kind) → (g : Goes place chain kind) → slot_of id (g.newest ∷ g.older) ≡ slot_at id (length older)
    slot_here place chain kind g = ap (λ (o : List Decree). slot_at id (length o)) (here place chain kind g).older_is

    pub close_decided :
        Decided (if_so (newest.author.incarnation == k.incarnation) (closing setup k newest older (m.closed (length older))))
        (FitsClose setup.nodes setup.node a id)
    close_decided = by_now (newest.author.incarnation == k.incarnation) refl
      where
        by_outcome : newest.author.incarnation ≡ a.incarnation → (outcome : Option Outcome) → m.closed (length older) ≡ outcome →
            Decided (closing setup k newest older outcome) (FitsClose setup.nodes setup.node a id)
        by_outcome now (Some outcome) is = record {
          outcome = outcome;
          further = goes (decree_of outcome);
          attempt = own;
          now = now;
          closed = (attempts_are.closed (length older) outcome).0 is;
        }
        by_outcome now None is = λ place chain fits.
            let there = subst (λ (s : Slot). In (s, fits.outcome) a.closed) (slot_here place chain (decree_of fits.outcome) fits.further) fits.closed in
            let both : Some fits.outcome ≡ None = sym ((attempts_are.closed (length older) fits.outcome).1 there) ∙ is in
            absurd (cc)

        by_now : (test : Bool) → (newest.author.incarnation == k.incarnation) ≡ test →
            Decided (if_so test (closing setup k newest older (m.closed (length older)))) (FitsClose setup.nodes setup.node a id)
        by_now true now = by_outcome (now_decides.0 now) (m.closed (length older)) refl
        by_now false other = λ place chain fits.
            let same = ap (λ (n : Decree). n.author.incarnation) (here place chain (decree_of fits.outcome) fits.further).newest_is in
            true≢false (sym (now_decides.1 (sym same ∙ fits.now)) ∙ other)

    pub lose_decided : Decided (losing setup k newest older) (FitsLose setup.nodes setup.node a id)
    lose_decided = by_test (nat_lt newest.author.incarnation k.incarnation) refl
      where
        by_test : (test : Bool) → nat_lt newest.author.incarnation k.incarnation ≡ test →
            Decided (if test then Some (start_behind setup k newest older (Failed older_incarnation_error)) else None) (FitsLose setup.nodes setup.node a id)
        by_test true is = record {
          further = goes (Failed older_incarnation_error);
          attempt = own;
          before = subst (λ (n : ℕ). newest.author.incarnation < n) incarnation ((Decides-ltb newest.author.incarnation k.incarnation).0 is);
        }
        by_test false is = λ place chain fits.
            let same = ap (λ (n : Decree). n.author.incarnation) (here place chain (Failed older_incarnation_error) fits.further).newest_is in
            let before : newest.author.incarnation < k.incarnation =
            subst (λ (n : ℕ). newest.author.incarnation < n) (sym incarnation) (subst (λ (n : ℕ). n < a.incarnation) same fits.before) in
            true≢false (sym ((Decides-ltb newest.author.incarnation k.incarnation).1 before) ∙ is)

    -- it was neither granted nor closed
    record IsUntouched (up : Bool) : Type 0 where
      granted : In (slot_at id (length older)) a.granted → ⊥
      closed : (outcome : Outcome) → In (slot_at id (length older), outcome) a.closed → ⊥
      down : up ≡ false

    untouched_decides : (up : Bool) → Decides (not (m.granted (length older)) && (is_none (m.closed (length older)) && not up)) (IsUntouched up)
    untouched_decides up = by_tests (m.granted (length older)) refl (m.closed (length older)) refl up
      where
        by_tests : (granted : Bool) → m.granted (length older) ≡ granted → (closed : Option Outcome) → m.closed (length older) ≡ closed → (target : Bool) →
            Decides (not granted && (is_none closed && not target)) (IsUntouched target)
        by_tests true was closed is target = ((λ t. absurd (true≢false (sym t))), (λ it. absurd (it.granted ((attempts_are.granted (length older)).0 was))))
        by_tests false was (Some outcome) is target =
            ((λ t. absurd (true≢false (sym t))), (λ it. absurd (it.closed outcome ((attempts_are.closed (length older) outcome).0 is))))
        by_tests false was None is true = ((λ t. absurd (true≢false (sym t))), (λ it. absurd (true≢false it.down)))
        by_tests false was None is false = (
          λ t. record {
            granted = λ given. true≢false (sym ((attempts_are.granted (length older)).1 given) ∙ was);
            closed = λ outcome among. let both : Some outcome ≡ None = sym ((attempts_are.closed (length older) outcome).1 among) ∙ is in absurd (cc);
            down = refl;
          },
          λ it. refl,
        )

    pub give_up_decided : (reach : Reach) →
        Decided (if_so (newest.author.incarnation == k.incarnation) (giving_up setup k m (reach.up taken.target) newest older))
        (FitsGiveUp setup.nodes setup.node a reach id)
    give_up_decided reach = by_now (newest.author.incarnation == k.incarnation) refl
      where
        by_test : newest.author.incarnation ≡ a.incarnation → (test : Bool) →
            (not (m.granted (length older)) && (is_none (m.closed (length older)) && not (reach.up taken.target))) ≡ test →
            Decided (if test then Some (start_behind setup k newest older (Failed no_session_error)) else None) (FitsGiveUp setup.nodes setup.node a reach id)
        by_test now true is =
            let it = (untouched_decides (reach.up taken.target)).0 is in
            record {
              further = goes (Failed no_session_error);
              attempt = own;
              now = now;
              granted = it.granted;
              closed = it.closed;
              down = it.down;
            }
        by_test now false is = λ place chain fits.
            let at = slot_here place chain (Failed no_session_error) fits.further in
            let untouched : IsUntouched (reach.up taken.target) = record {
              granted = λ given. fits.granted (subst (λ (s : Slot). In s a.granted) (sym at) given);
              closed = λ outcome among. fits.closed outcome (subst (λ (s : Slot). In (s, outcome) a.closed) (sym at) among);
              down = ap (λ (t : Submission). reach.up t.target) (sym (here place chain (Failed no_session_error) fits.further).taken_is) ∙ fits.down;
            } in
            true≢false (sym ((untouched_decides (reach.up taken.target)).1 untouched) ∙ is)

        by_now : (test : Bool) → (newest.author.incarnation == k.incarnation) ≡ test →
            Decided (if_so test (giving_up setup k m (reach.up taken.target) newest older)) (FitsGiveUp setup.nodes setup.node a reach id)
        by_now true now = by_test (now_decides.0 now) (not (m.granted (length older)) && (is_none (m.closed (length older)) && not (reach.up taken.target))) refl
        by_now false other = λ place chain fits.
            let same = ap (λ (n : Decree). n.author.incarnation) (here place chain (Failed no_session_error) fits.further).newest_is in
            true≢false (sym (now_decides.1 (sym same ∙ fits.now)) ∙ other)

  -- ---- a message that waits

  pub delete_decided : map (λ h. h.waiting) k.held ≡ a.waiting →
      Decided (delete_of setup k id k.held newest older (Some taken)) (FitsDelete setup.nodes setup.node a id)
  delete_decided waiting = by_test (is_idle newest.kind && list_any (cancels id taken) k.held) refl
    where
      holds : Decides (is_idle newest.kind && list_any (cancels id taken) k.held) (IsIdle newest × IsCancelled a id taken)
      holds = Decides-and _ _ (idle_decides newest) (cancelled_decides a k.held waiting id taken)

      by_test : (test : Bool) → (is_idle newest.kind && list_any (cancels id taken) k.held) ≡ test →
          Decided (if test then Some (start_behind setup k newest older (Fate Deleted 0)) else None) (FitsDelete setup.nodes setup.node a id)
      by_test true is = let both = holds.0 is in record { further = goes (Fate Deleted 0); idle = both.0; cancelled = both.1 }
      by_test false is = λ place chain fits.
          let it = here place chain (Fate Deleted 0) fits.further in
          let idle = subst (λ (n : Decree). IsIdle n) it.newest_is fits.idle in
          let cancelled = subst (λ (t : Submission). IsCancelled a id t) it.taken_is fits.cancelled in
          true≢false (sym (holds.1 (idle, cancelled)) ∙ is)

  pub undeliver_decided : Decided (undelivered setup k newest older newest.kind) (FitsUndeliver setup.nodes setup.node a id)
  undeliver_decided = by_kind newest.kind refl
    where
      never : (kind : Kind) → newest.kind ≡ kind → ((error : ℕ) → kind ≡ Failed error → ⊥) → (place : ℕ) (chain : List Decree) →
          FitsUndeliver setup.nodes setup.node a id place chain → ⊥
      never kind is other place chain fits =
          let same = ap (λ (n : Decree). n.kind) (here place chain (Fate Undeliverable fits.error) fits.due.further).newest_is in
          other fits.error (sym is ∙ sym same ∙ fits.failed)

      allowed : (error : ℕ) → newest.kind ≡ Failed error → attempts_in (newest ∷ older) ≡ most_attempts → May (Fate Undeliverable error)
      allowed error is most = (
        later,
        subst (λ (kind : Kind). MayFollow taken (home_in (newest ∷ older)) (attempts_in (newest ∷ older)) newest.author newest.moment kind
            (next_decree setup.node a newest (Fate Undeliverable error)).author (max a.clock newest.moment) (Fate Undeliverable error)) (sym is) most,
      )

      by_test : (error : ℕ) → newest.kind ≡ Failed error → (test : Bool) → (attempts_in (newest ∷ older) == most_attempts) ≡ test →
          Decided (if test then Some (start_behind setup k newest older (Fate Undeliverable error)) else None) (FitsUndeliver setup.nodes setup.node a id)
      by_test error is true most = record {
        error = error;
        due = due (Fate Undeliverable error) (allowed error is ((Decides-eqb (attempts_in (newest ∷ older)) most_attempts).0 most));
        failed = is;
      }
      by_test error is false fewer = λ place chain fits.
          let may = (may_here place chain (Fate Undeliverable fits.error) fits.due).1 in
          let most =
          subst (λ (kind : Kind). MayFollow taken (home_in (newest ∷ older)) (attempts_in (newest ∷ older)) newest.author newest.moment kind
          (next_decree setup.node a newest (Fate Undeliverable fits.error)).author (max a.clock newest.moment) (Fate Undeliverable fits.error)) is may in
          true≢false (sym ((Decides-eqb (attempts_in (newest ∷ older)) most_attempts).1 most) ∙ fewer)

      by_kind : (kind : Kind) → newest.kind ≡ kind → Decided (undelivered setup k newest older kind) (FitsUndeliver setup.nodes setup.node a id)
      by_kind (Taken of) is = never (Taken of) is (λ error same. absurd (cc))
      by_kind (Attempt number) is = never (Attempt number) is (λ error same. absurd (cc))
      by_kind (Failed error) is = by_test error is (attempts_in (newest ∷ older) == most_attempts) refl
      by_kind (Fate final error) is = never (Fate final error) is (λ other same. absurd (cc))
      by_kind Told is = never Told is (λ other same. absurd (cc))

  -- the receipt on a fate is to be told
  pub announce_decided : Decided (announced setup k taken newest older newest.kind) (λ place chain. IsDue setup.nodes setup.node a id place chain Told)
  announce_decided = by_kind newest.kind refl
    where
      home : ℕ
      home = home_in (newest ∷ older)

      MayTell : Kind → Type 0
      MayTell kind = MayFollow taken home (attempts_in (newest ∷ older)) newest.author newest.moment kind (next_decree setup.node a newest Told).author
          (max a.clock newest.moment) Told

      telling : (place : ℕ) (chain : List Decree) (kind : Kind) → newest.kind ≡ kind → IsDue setup.nodes setup.node a id place chain Told → MayTell kind
      telling place chain kind is fits = subst MayTell is (may_here place chain Told fits).1

      holds : (final : Final) → Decides ((setup.node == home) && is_asked final taken) ((setup.node ≡ home) × AsksReceipt final taken)
      holds final = Decides-and _ _ (Decides-eqb setup.node home) (asked_decides final taken)

      by_test : (final : Final) (error : ℕ) → newest.kind ≡ Fate final error → (test : Bool) → ((setup.node == home) && is_asked final taken) ≡ test →
          Decided (if test then Some (start_behind setup k newest older Told) else None) (λ place chain. IsDue setup.nodes setup.node a id place chain Told)
      by_test final error is true asks =
          let both = (holds final).0 asks in
          due Told (later, subst MayTell (sym is) (record { node = both.0; asked = both.1 }))
      by_test final error is false not_asked = λ place chain fits.
          let it = telling place chain (Fate final error) is fits in
          true≢false (sym ((holds final).1 (it.node, it.asked)) ∙ not_asked)

      by_kind : (kind : Kind) → newest.kind ≡ kind →
          Decided (announced setup k taken newest older kind) (λ place chain. IsDue setup.nodes setup.node a id place chain Told)
      by_kind (Taken of) is = λ place chain fits. telling place chain (Taken of) is fits
      by_kind (Attempt number) is = λ place chain fits. telling place chain (Attempt number) is fits
      by_kind (Failed error) is = λ place chain fits. telling place chain (Failed error) is fits
      by_kind (Fate final error) is = by_test final error is ((setup.node == home) && is_asked final taken) refl
      by_kind Told is = λ place chain fits. telling place chain Told is fits

  -- the next attempt may follow this kind
  abbrev MayTry : Kind → ℕ → Type 0
  MayTry kind number =
      MayFollow taken (home_in (newest ∷ older)) (attempts_in (newest ∷ older)) newest.author newest.moment kind (next_decree setup.node a newest (Attempt number)).author
      (max a.clock newest.moment) (Attempt number)

  module _ (reach : Reach) where
    abbrev Tries : ℕ → List Decree → Type 0
    Tries = FitsTry setup.nodes setup.node a reach id

    try_here : (place : ℕ) (chain : List Decree) (kind : Kind) → newest.kind ≡ kind → (fits : Tries place chain) → MayTry kind fits.number
    try_here place chain kind is fits = subst (λ (x : Kind). MayTry x fits.number) is (may_here place chain (Attempt fits.number) fits.due).1

    none_up : may_begin reach id taken.target ≡ false → (place : ℕ) (chain : List Decree) → Tries place chain → ⊥
    none_up down place chain fits =
        let same = ap (λ (t : Submission). may_begin reach id t.target) (here place chain (Attempt fits.number) fits.due.further).taken_is in
        true≢false (sym fits.begins ∙ same ∙ down)

    tries : (kind : Kind) (number : ℕ) → newest.kind ≡ kind → MayTry kind number → may_begin reach id taken.target ≡ true →
        Tries (start_behind setup k newest older (Attempt number)).place (start_behind setup k newest older (Attempt number)).chain
    tries kind number is may begins = record {
      number = number;
      due = due (Attempt number) (later, subst (λ (x : Kind). MayTry x number) (sym is) may);
      begins = begins;
    }

    first_decides :
        Decides (nat_le taken.schedule (moment_behind k newest) && nat_lt (moment_behind k newest) taken.expiry)
        ((taken.schedule ≤ max a.clock newest.moment) × (max a.clock newest.moment < taken.expiry))
    first_decides =
        subst (λ (c : ℕ). Decides (nat_le taken.schedule c && nat_lt c taken.expiry)
        ((taken.schedule ≤ max a.clock newest.moment) × (max a.clock newest.moment < taken.expiry))) (sym moment_is)
        (Decides-and _ _ (nat_le_decides taken.schedule (max a.clock newest.moment)) (Decides-ltb (max a.clock newest.moment) taken.expiry))

    abbrev attempts : ℕ
    attempts = attempts_in (newest ∷ older)

    abbrev again : ℕ → Bool
    again moment = nat_lt attempts most_attempts && (nat_lt moment taken.expiry && nat_le (newest.moment + retry_delay * attempts) moment)

    abbrev MayAgain : Type 0
    MayAgain = (attempts < most_attempts) × ((max a.clock newest.moment < taken.expiry) × (newest.moment + retry_delay * attempts ≤ max a.clock newest.moment))

    again_decides : Decides (again (moment_behind k newest)) MayAgain
    again_decides = subst (λ (c : ℕ). Decides (again c) MayAgain) (sym moment_is)
        (Decides-and _ _ (Decides-ltb attempts most_attempts)
        (Decides-and _ _ (Decides-ltb (max a.clock newest.moment) taken.expiry)
        (nat_le_decides (newest.moment + retry_delay * attempts) (max a.clock newest.moment))))

    first_tried : (of : Submission) → newest.kind ≡ Taken of → may_begin reach id taken.target ≡ true → (test : Bool) →
        (nat_le taken.schedule (moment_behind k newest) && nat_lt (moment_behind k newest) taken.expiry) ≡ test →
        Decided (if test then Some (start_behind setup k newest older (Attempt 1)) else None) Tries
    first_tried of is begins true holds =
        let both = first_decides.0 holds in tries (Taken of) 1 is (record { first = refl; scheduled = both.0; valid = both.1 }) begins
    first_tried of is begins false fails = λ place chain fits.
        let may = try_here place chain (Taken of) is fits in true≢false (sym (first_decides.1 (may.scheduled, may.valid)) ∙ fails)

    tried_again : (error : ℕ) → newest.kind ≡ Failed error → may_begin reach id taken.target ≡ true → (test : Bool) → again (moment_behind k newest) ≡ test →
        Decided (if test then Some (start_behind setup k newest older (Attempt (attempts + 1))) else None) Tries
    tried_again error is begins true holds =
        let all = again_decides.0 holds in
        tries (Failed error) (attempts + 1) is (record { next = refl; most = all.0; valid = all.1.0; delayed = all.1.1 }) begins
    tried_again error is begins false fails = λ place chain fits.
        let may = try_here place chain (Failed error) is fits in true≢false (sym (again_decides.1 (may.most, (may.valid, may.delayed))) ∙ fails)

    pub try_decided : Decided (if_so (may_begin reach id taken.target) (tried setup k taken newest older newest.kind)) Tries
    try_decided = by_up (may_begin reach id taken.target) refl
      where
        by_kind : may_begin reach id taken.target ≡ true → (kind : Kind) → newest.kind ≡ kind → Decided (tried setup k taken newest older kind) Tries
        by_kind begins (Taken of) is =
            first_tried of is begins (nat_le taken.schedule (moment_behind k newest) && nat_lt (moment_behind k newest) taken.expiry) refl
        by_kind begins (Attempt number) is = λ place chain fits. try_here place chain (Attempt number) is fits
        by_kind begins (Failed error) is = tried_again error is begins (again (moment_behind k newest)) refl
        by_kind begins (Fate final error) is = λ place chain fits. try_here place chain (Fate final error) is fits
        by_kind begins Told is = λ place chain fits. try_here place chain Told is fits

        by_up : (test : Bool) → may_begin reach id taken.target ≡ test → Decided (if_so test (tried setup k taken newest older newest.kind)) Tries
        by_up true begins = by_kind begins newest.kind refl
        by_up false down = none_up down
