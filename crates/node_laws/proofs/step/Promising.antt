-- The step of a node to which a promise comes.
use Rattle.std.proofs.Common.{◌≡◌, ◌↔◌, ◌⊎◌, ℕ, ◌<◌, ◌≤◌, Bool, true, false, List, [], ◌∷◌, Option, Some, None, refl, sym, ap, subst, subst₂, ◌∙◌, inl, inr}
use Rattle.std.proofs.Common.{arith}
use Rattle.std.specs.Prelude.{◌==◌, ◌&&◌, nat_lt, not, if◌then◌else◌}
use Rattle.std.specs.Bool.{Decides}
use Rattle.std.proofs.lemmas.Bool.{and_from, and_parts, eqb-false, eqb-true, not-true, true≢false}
use Rattle.std.proofs.lemmas.Bool.Decides.{Decides-and, Decides-eqb, Decides-like, Decides-or, nat_tests}
use Rattle.mc_model.specs.synod.Lists.{In}
use Rattle.mc_model.specs.synod.OneSlot.{IsOfHighest, IsWithin, Vote, vote_at}
use Rattle.mc_model.specs.message.Decree.{Decree}
use Rattle.mc_model.specs.synod.Ballot.{incarnation_in, proposer_of}
use Rattle.mc_model.specs.synod.Packet.{Ask, Packet, Prepare, Promise, Propose, Refused, Slot, Tell, Voted, same_slot, slot_at, slot_of}
use Rattle.mc_model.specs.node.Act.{Act, Proposes, Receives}
use Rattle.mc_model.specs.node.Actor.{Actor}
use Rattle.mc_model.specs.node.Alone.{Node, StandsAt}
use Rattle.mc_model.specs.node.Causes.{CausesFollow}
use Rattle.mc_model.specs.node.Concerns.{IsMember, WasAskedFor}
use Rattle.mc_model.specs.node.Due.{AreDueOnce, key_of}
use Rattle.mc_model.specs.node.Input.{Delivery}
use Rattle.mc_model.specs.node.Knowledge.{IsLearned}
use Rattle.mc_model.specs.node.Phases.{DueToPropose}
use Rattle.mc_model.specs.node.Proposal.{IsFree, IsOwn, MayPropose, OwnBallot}
use Rattle.mc_model.specs.node.Rounds.{IsForRound, IsPromised, IsRunning}
use Rattle.mc_model.specs.node.Setup.{Setup}
use Rattle.mc_parts.proofs.Membership.{of_only}
use Rattle.node_model.specs.Kept.{Kept, message_at, with_message}
use Rattle.node_model.specs.Message.{Message, Round}
use Rattle.node_model.specs.Outputs.{leaves, sends}
use Rattle.node_model.specs.Packets.{is_member, on_promise, promised_in, proposals}
use Rattle.node_model.specs.Proposer.{chain_offered, completes, higher_of, offered, promised_by, runs_at}
use Rattle.node_model.specs.Sets.{is_majority, with_node}
use Rattle.node_model.specs.Stepped.{stepped}
use Rattle.node_laws.specs.Stands.{Agrees, HasHeard, IsHighestReport, IsMessage, IsRound, IsRoundOf as IsKeptRound, Stands}
use Rattle.node_laws.specs.Steps.{IsAtWork, StepsAs}
use Rattle.node_laws.proofs.step.AcceptorSteps.{member_is, member_test, stepped_is}
use Rattle.node_laws.proofs.invariant.Agreeing.{agrees_heard, agrees_with}
use Rattle.node_laws.proofs.step.AsideSteps.{TellsNobody, ignored}
use Rattle.node_laws.proofs.invariant.Deciding.{quiet_of}
use Rattle.node_laws.proofs.invariant.Hearing.{RefusesNone, behind_heard, free_heard, highest_heard, message_heard, one_round, received, round_heard, round_sent}
use Rattle.node_laws.proofs.invariant.Hearing.{running_before, running_heard}
use Rattle.node_laws.proofs.invariant.Learning.{heard_still, majority_decides}
use Rattle.node_laws.proofs.invariant.Messages.{each_with}
use Rattle.node_laws.proofs.step.Plain.{IsUnmoved, calm_then, plain_steps, received_exact}
use Rattle.node_laws.proofs.invariant.Slots.{slot_decides}
use Rattle.node_laws.proofs.step.Proposed.{IsComplete, agrees_proposed, proposed}

-- ---- whether a promise was asked for

was_sent : (node : ℕ) (slot : Slot) (ballot : ℕ) (sent : List Packet) → In (Prepare node slot ballot) sent ⊎ (In (Prepare node slot ballot) sent → ⊥)
was_sent node slot ballot [] = inr (λ none. none)
was_sent node slot ballot (packet ∷ sent) = elim (was_sent node slot ballot sent) [
  | inl before ↦ inl (inr before)
  | inr none ↦ elim (is_it packet) [ inl same ↦ inl (inl same) | inr other ↦ inr (λ is_in. elim is_in [ inl same ↦ other same | inr before ↦ none before ]) ]
]
  where
    by_parts : (sender : ℕ) (other : Slot) (above : ℕ) (test : Bool) → (node == sender) && (same_slot slot other && ballot == above) ≡ test →
        (Prepare node slot ballot ≡ Prepare sender other above) ⊎ (Prepare node slot ballot ≡ Prepare sender other above → ⊥)
    by_parts sender other above true is =
        let parts = and_parts (node == sender) (same_slot slot other && ballot == above) is in
        let both = and_parts (same_slot slot other) (ballot == above) parts.1 in
        let nodes : node ≡ sender = eqb-true node sender parts.0 in
        let slots : slot ≡ other = (slot_decides slot other).0 both.0 in
        let ballots : ballot ≡ above = eqb-true ballot above both.1 in
        inl (λ i. Prepare (nodes i) (slots i) (ballots i))
    by_parts sender other above false differs = inr (λ same.
        let nodes : node ≡ sender = cc in
        let slots : slot ≡ other = cc in
        let ballots : ballot ≡ above = cc in
        true≢false (sym (and_from (node == sender) (same_slot slot other && ballot == above) ((Decides-eqb node sender).1 nodes)
        (and_from (same_slot slot other) (ballot == above) ((slot_decides slot other).1 slots) ((Decides-eqb ballot above).1 ballots))) ∙ differs))

    is_it : (packet : Packet) → (Prepare node slot ballot ≡ packet) ⊎ (Prepare node slot ballot ≡ packet → ⊥)
    is_it (Prepare sender other above) = by_parts sender other above ((node == sender) && (same_slot slot other && ballot == above)) refl
    is_it (Promise sender other above report) = inr (λ same. absurd (cc))
    is_it (Propose sender other vote) = inr (λ same. absurd (cc))
    is_it (Voted sender other vote) = inr (λ same. absurd (cc))
    is_it (Refused sender other above promised) = inr (λ same. absurd (cc))
    is_it (Ask sender id name) = inr (λ same. absurd (cc))
    is_it (Tell sender name told) = inr (λ same. absurd (cc))

pub was_asked : (node : ℕ) (a : Actor) (slot : Slot) (ballot : ℕ) → WasAskedFor node a slot ballot ⊎ (WasAskedFor node a slot ballot → ⊥)
was_asked node a slot ballot = elim (was_sent node slot ballot a.sent) [
  | inl sent ↦ inl (λ own. sent)
  | inr none ↦ by_own ((proposer_of ballot == node) && (incarnation_in ballot == a.incarnation)) refl none
]
  where
    own_is : Decides ((proposer_of ballot == node) && (incarnation_in ballot == a.incarnation)) (OwnBallot node a ballot)
    own_is = Decides-and _ _ (Decides-eqb (proposer_of ballot) node) (Decides-eqb (incarnation_in ballot) a.incarnation)

    by_own : (test : Bool) → (proposer_of ballot == node) && (incarnation_in ballot == a.incarnation) ≡ test → (In (Prepare node slot ballot) a.sent → ⊥) →
        WasAskedFor node a slot ballot ⊎ (WasAskedFor node a slot ballot → ⊥)
    by_own true own none = inr (λ asked. none (asked (own_is.0 own)))
    by_own false strange none = inl (λ own. absurd (true≢false (sym (own_is.1 own) ∙ strange)))

module _ (setup : Setup) (k : Kept) (s : Node) (stands : Stands setup k s) (sender ballot : ℕ) (slot : Slot) (report : Option Vote) where
  abbrev packet : Packet
  packet = Promise sender slot ballot report

  abbrev t : Node
  t = received s packet

  abbrev m : Message
  m = message_at k slot.id

  abbrev old : IsMessage setup s slot.id m
  old = stands.agrees.message slot.id

  tells_nobody : TellsNobody packet
  tells_nobody teller name told same = absurd (cc)

  follows_nothing : (other place : ℕ) (chain : List Decree) → CausesFollow setup.nodes setup.node s.actor t.actor (Delivery packet) other place chain → ⊥
  follows_nothing other place chain follows = follows

  refuses_none : (other : Slot) (above : ℕ) → RefusesNone packet other above
  refuses_none other above from of greater same = absurd (cc)

  heard_then : (id : ℕ) → HasHeard setup.nodes t.actor.received id (message_at k id)
  heard_then id = heard_still setup.nodes id packet s.actor.received (message_at k id) (λ voter place vote same. absurd (cc)) (stands.agrees.message id).heard

  other_message : (id : ℕ) → (id ≡ slot.id → ⊥) → IsMessage setup t id (message_at k id)
  other_message id apart = message_heard setup s packet id (message_at k id) (record {
    votes = λ voter place vote same. absurd (cc);
    promises = λ other above about acceptor it same. let slots : other ≡ slot = cc in apart (sym about ∙ ap (λ (x : Slot). x.id) slots);
    refusals = λ other above from of about same. absurd (cc);
  }) (stands.agrees.message id)

  running_then : (other : Slot) (above : ℕ) → IsRunning setup.nodes setup.node t.actor other above → IsRunning setup.nodes setup.node s.actor other above
  running_then other above runs = running_before setup s packet other.id _ (stands.agrees.message other.id).heard.known
      (heard_then other.id).known other above refl runs

  -- a promise for another slot or ballot was there before
  promised_before : (other : Slot) (above : ℕ) → (other ≡ slot → above ≡ ballot → ⊥) → IsPromised setup.nodes t.actor other above →
      IsPromised setup.nodes s.actor other above
  promised_before other above apart promised = record {
    test = promised.test;
    most = promised.most;
    each = λ acceptor least within passes.
        let promise = promised.each acceptor least within passes in
        elim promise.1 [
          | inl same ↦ let slots : other ≡ slot = cc in let ballots : above ≡ ballot = cc in absurd (apart slots ballots)
          | inr earlier ↦ (promise.0, earlier)
        ];
  }

  -- ---- for no round that runs

  module _ (none : IsRunning setup.nodes setup.node s.actor slot ballot → ⊥) where
    idle_proposes : (act : Act) → DueToPropose setup.nodes setup.node s.actor t.actor act → ⊥
    idle_proposes (Proposes other vote) due =
        due.0.new (promised_before other vote.ballot
        (λ slots ballots. none (subst₂ (λ (x : Slot) (b : ℕ). IsRunning setup.nodes setup.node s.actor x b) slots ballots
        (running_then other vote.ballot due.0.running)))
        due.0.promised)
    idle_proposes act due = due

    promises_other : (round : Option Round) → IsKeptRound setup.nodes setup.node s slot.id round → IsKeptRound setup.nodes setup.node t slot.id round
    promises_other None is = λ other above about runs. is other above about (running_then other above runs)
    promises_other (Some r) is =
        round_heard setup s packet slot.id m.known old.heard.known (heard_then slot.id).known (Some r) (λ acceptor it same.
        let slots : r.slot ≡ slot = cc in
        let ballots : r.ballot ≡ ballot = cc in
        none (subst₂ (λ (x : Slot) (b : ℕ). IsRunning setup.nodes setup.node s.actor x b) slots ballots is.running))
        (refuses_none r.slot r.ballot) is

    message_idle : (id : ℕ) → IsMessage setup t id (message_at k id)
    message_idle id = by_id (id == slot.id) refl
      where
        here : IsMessage setup t slot.id m
        here = record {
          heard = heard_then slot.id;
          places = old.places;
          seen = λ place within. highest_heard setup s packet (slot_at slot.id place) _ (λ above from of own same. absurd (cc)) (old.seen place within);
          round = promises_other m.round old.round;
          attempts = record { granted = old.attempts.granted; closed = old.attempts.closed };
          covers = old.covers;
        }

        by_id : (same : Bool) → (id == slot.id) ≡ same → IsMessage setup t id (message_at k id)
        by_id true same = subst (λ (i : ℕ). IsMessage setup t i (message_at k i)) (sym (eqb-true id slot.id same)) here
        by_id false differs = other_message id (eqb-false id slot.id differs)

    idle_steps : IsAtWork setup s → IsMember setup.nodes sender → StepsAs setup s (Delivery packet) (leaves k)
    idle_steps works member = elim (was_asked setup.node s.actor slot ballot) [
      | inl asked ↦
          plain_steps setup k s stands packet follows_nothing k (agrees_heard setup k s stands.agrees packet tells_nobody asked message_idle)
          (record { held = refl; known = λ id. refl }) works (member, asked) refl idle_proposes
      | inr strange ↦ ignored setup s k stands packet (λ concerned. strange concerned.1)
    ]

  -- ---- for the round that runs

  module _ (r : Round) (is : IsRound setup.nodes setup.node s slot.id r) (same_slots : r.slot ≡ slot) (same_ballots : r.ballot ≡ ballot) where
    abbrev new : Round
    new = promised_by r sender report

    abbrev k' : Kept
    k' = with_message k slot.id (record m { round = Some new })

    prepared : In (Prepare setup.node r.slot r.ballot) s.actor.sent
    prepared = round_sent setup.node s.actor r.slot r.ballot is.running.round

    asked : WasAskedFor setup.node s.actor slot ballot
    asked own = subst₂ (λ (x : Slot) (b : ℕ). In (Prepare setup.node x b) s.actor.sent) same_slots same_ballots prepared

    own_ballot : OwnBallot setup.node s.actor r.ballot
    own_ballot = stands.agrees.coherent.own r.slot r.ballot prepared

    -- ---- who promised, and what they reported

    abbrev HasPromised : ℕ → Type 0
    HasPromised acceptor = (it : Option Vote) × In (Promise acceptor r.slot r.ballot it) t.actor.received

    promised_is : (acceptor : ℕ) → (new.promised acceptor ≡ true) ↔ HasPromised acceptor
    promised_is acceptor =
        Decides-like (with_node r.promised sender acceptor)
        (λ p. elim p [
          | inl before ↦ let promise = (is.promised acceptor).0 before in (promise.0, inr promise.1)
          | inr now ↦ (report, inl (λ i. Promise (now i) (same_slots i) (same_ballots i) report))
        ])
        (λ promise. elim promise.1 [
          | inl same ↦ inr (cc)
          | inr before ↦ inl ((is.promised acceptor).1 (promise.0, before))
        ])
        (Decides-or (r.promised acceptor) (acceptor == sender) ((λ x. x), (λ x. x)) (Decides-eqb acceptor sender))

    reported_before : (acceptor : ℕ) (it : Vote) → In (Promise acceptor r.slot r.ballot (Some it)) t.actor.received →
        (report ≡ Some it) ⊎ In (Promise acceptor r.slot r.ballot (Some it)) s.actor.received
    reported_before acceptor it (inl same) = inl (cc)
    reported_before acceptor it (inr before) = inr before

    highest_is : (top it : Option Vote) → it ≡ report → IsHighestReport s.actor.received r.slot r.ballot top →
        IsHighestReport t.actor.received r.slot r.ballot (higher_of top it)
    highest_is None None same none = λ acceptor vote came. elim (reported_before acceptor vote came) [
      | inl now ↦ let both : None ≡ Some vote = same ∙ now in absurd (cc)
      | inr before ↦ none acceptor vote before
    ]
    highest_is (Some top) None same highest = record {
      reported = (highest.reported.0, inr highest.reported.1);
      highest = λ acceptor vote came. elim (reported_before acceptor vote came) [
        | inl now ↦ let both : None ≡ Some vote = same ∙ now in absurd (cc)
        | inr before ↦ highest.highest acceptor vote before
      ];
    }
    highest_is None (Some vote) same none = record {
      reported = (sender, inl (λ i. Promise sender (same_slots i) (same_ballots i) (same i)));
      highest = λ acceptor other came. elim (reported_before acceptor other came) [
        | inl now ↦ let both : Some vote ≡ Some other = same ∙ now in let votes : vote ≡ other = cc in let ballots = ap (λ (v : Vote). v.ballot) votes in
            omega arith
        | inr before ↦ absurd (none acceptor other before)
      ];
    }
    highest_is (Some top) (Some vote) same highest = by_test (nat_lt top.ballot vote.ballot) refl
      where
        by_test : (test : Bool) → nat_lt top.ballot vote.ballot ≡ test → IsHighestReport t.actor.received r.slot r.ballot (if test then Some vote else Some top)
        by_test true below = record {
          reported = (sender, inl (λ i. Promise sender (same_slots i) (same_ballots i) (same i)));
          highest = λ acceptor other came. elim (reported_before acceptor other came) [
            | inl now ↦ let both : Some vote ≡ Some other = same ∙ now in let votes : vote ≡ other = cc in let ballots = ap (λ (v : Vote). v.ballot) votes in
                omega arith
            | inr before ↦ let most = highest.highest acceptor other before in let less : top.ballot < vote.ballot = grind (arith, nat_tests) in omega arith
          ];
        }
        by_test false from = record {
          reported = (highest.reported.0, inr highest.reported.1);
          highest = λ acceptor other came. elim (reported_before acceptor other came) [
            | inl now ↦
                let both : Some vote ≡ Some other = same ∙ now in
                let votes : vote ≡ other = cc in
                let ballots = ap (λ (v : Vote). v.ballot) votes in
                let most : vote.ballot ≤ top.ballot = grind (arith, nat_tests) in
                omega arith
            | inr before ↦ highest.highest acceptor other before
          ];
        }

    report_is : IsHighestReport t.actor.received r.slot r.ballot new.highest
    report_is = highest_is r.highest report refl is.highest

    -- ---- a majority of them

    most_before : (is_majority setup.nodes r.promised ≡ true) ↔ IsPromised setup.nodes s.actor r.slot r.ballot
    most_before = majority_decides setup.nodes (λ acceptor. (it : Option Vote) × In
        (Promise acceptor r.slot r.ballot it) s.actor.received) r.promised is.promised

    most_now : (is_majority setup.nodes new.promised ≡ true) ↔ IsPromised setup.nodes t.actor r.slot r.ballot
    most_now = majority_decides setup.nodes HasPromised new.promised promised_is

    still_few : is_majority setup.nodes new.promised ≡ false → is_majority setup.nodes r.promised ≡ false
    still_few few = by_test (is_majority setup.nodes r.promised) refl
      where
        by_test : (test : Bool) → is_majority setup.nodes r.promised ≡ test → test ≡ false
        by_test true most =
            let before = most_before.0 most in
            absurd (true≢false (sym (most_now.1 (record {
              test = before.test;
              most = before.most;
              each = λ acceptor least within passes. let promise = before.each acceptor least within passes in (promise.0, inr promise.1);
            })) ∙ few))
        by_test false rest = refl

    -- ---- what is kept agrees with the actor that has heard it

    round_now : IsRound setup.nodes setup.node t slot.id new
    round_now = record {
      about = is.about;
      running = running_heard setup s packet slot.id m.known old.heard.known (heard_then slot.id).known r.slot r.ballot is.about
          (refuses_none r.slot r.ballot) is.running;
      promised = promised_is;
      highest = report_is;
      offered = is.offered;
      free = free_heard setup s packet r.slot slot.id r.own is.free;
      behind = behind_heard setup s packet slot.id m.known old.heard.known (heard_then slot.id).known r.slot r.own r.own is.behind;
      unproposed = λ few. is.unproposed (still_few few);
    }

    agrees_now : Agrees setup k' t
    agrees_now = agrees_with setup k s stands.agrees packet tells_nobody asked slot.id (record m { round = Some new })
        (record {
          heard = record { votes = (heard_then slot.id).votes; known = (heard_then slot.id).known };
          places = old.places;
          seen = λ place within. highest_heard setup s packet (slot_at slot.id place) _ (λ above from of own same. absurd (cc)) (old.seen place within);
          round = round_now;
          attempts = record { granted = old.attempts.granted; closed = old.attempts.closed };
          covers = old.covers;
        })
        other_message

    unmoved : IsUnmoved k k'
    unmoved = record {
      held = refl;
      known = each_with (λ id it. it.known ≡ (message_at k id).known) k slot.id (record m { round = Some new }) refl
          (λ id apart. refl);
    }

    -- ---- what is due to be proposed

    running_now : IsRunning setup.nodes setup.node t.actor r.slot r.ballot
    running_now = round_now.running

    due_slot : (other : Slot) (vote : Vote) → DueToPropose setup.nodes setup.node s.actor t.actor (Proposes other vote) →
        ((other ≡ r.slot) × (vote.ballot ≡ r.ballot))
    due_slot other vote due = by_test (same_slot other slot && vote.ballot == ballot) refl
      where
        by_test : (test : Bool) → same_slot other slot && vote.ballot == ballot ≡ test → ((other ≡ r.slot) × (vote.ballot ≡ r.ballot))
        by_test true same =
            let parts = and_parts (same_slot other slot) (vote.ballot == ballot) same in
            ((slot_decides other slot).0 parts.0 ∙ sym same_slots, eqb-true vote.ballot ballot parts.1 ∙ sym same_ballots)
        by_test false differs =
            absurd (due.0.new (promised_before other vote.ballot
            (λ slots ballots. true≢false (sym (and_from (same_slot other slot) (vote.ballot == ballot) ((slot_decides other slot).1 slots)
            ((Decides-eqb vote.ballot ballot).1 ballots)) ∙ differs))
            due.0.promised))

    carried : (top : Option Vote) → new.highest ≡ top → IsHighestReport t.actor.received r.slot r.ballot top →
        IsForRound t.actor r.slot (vote_at r.ballot (chain_offered top r.own))
    carried None none reports = inl (record { offered = is.offered; unreported = reports })
    carried (Some top) some reports = inr (record {
      acceptor = reports.reported.0;
      top = top;
      reported = reports.reported.1;
      highest = reports.highest;
      chain_is = refl;
    })

    completed_due : completes setup.nodes r sender ≡ true → DueToPropose setup.nodes setup.node s.actor t.actor (Proposes r.slot (offered new))
    completed_due completes =
        let parts = and_parts (not (is_majority setup.nodes r.promised)) (is_majority setup.nodes new.promised) completes in (
          record {
            running = running_now;
            promised = most_now.0 parts.1;
            new = λ before. true≢false (sym parts.0 ∙ ap not (most_before.1 before));
          },
          carried new.highest refl report_is,
        )

    incomplete_due : completes setup.nodes r sender ≡ false → (act : Act) → DueToPropose setup.nodes setup.node s.actor t.actor act → ⊥
    incomplete_due few (Proposes other vote) due =
        let at = due_slot other vote due in
        let promised : IsPromised setup.nodes t.actor r.slot r.ballot =
        subst₂ (λ (x : Slot) (b : ℕ). IsPromised setup.nodes t.actor x b) at.0 at.1 due.0.promised in
        let fresh : IsPromised setup.nodes s.actor r.slot r.ballot → ⊥ =
        λ before. due.0.new (subst₂ (λ (x : Slot) (b : ℕ). IsPromised setup.nodes s.actor x b) (sym at.0) (sym at.1) before) in
        true≢false (sym (and_from (not (is_majority setup.nodes r.promised)) (is_majority setup.nodes new.promised) (was_few fresh) (most_now.1 promised))
        ∙ few)
      where
        was_few : (IsPromised setup.nodes s.actor r.slot r.ballot → ⊥) → not (is_majority setup.nodes r.promised) ≡ true
        was_few fresh = by_test (is_majority setup.nodes r.promised) refl
          where
            by_test : (test : Bool) → is_majority setup.nodes r.promised ≡ test → not test ≡ true
            by_test true most = absurd (fresh (most_before.0 most))
            by_test false rest = refl
    incomplete_due few act due = due

    due_once : completes setup.nodes r sender ≡ true → AreDueOnce (DueToPropose setup.nodes setup.node s.actor t.actor) (Proposes r.slot (offered new) ∷ [])
    due_once completes = record {
      only = λ act is_in. of_only (DueToPropose setup.nodes setup.node s.actor t.actor) (Proposes r.slot (offered new)) act (completed_due completes) is_in;
      all = λ act due. all act due;
      order = tt;
    }
      where
        all : (act : Act) → DueToPropose setup.nodes setup.node s.actor t.actor act → In (key_of act) (r.slot.id ∷ [])
        all (Proposes other vote) due = let at = due_slot other vote due in inl (ap (λ (x : Slot). x.id) at.0)
        all act due = absurd due

    -- ---- it may be proposed

    within : (top : Option Vote) → IsHighestReport t.actor.received r.slot r.ballot top → (acceptor : ℕ) (it : Option Vote) →
        In (Promise acceptor r.slot r.ballot it) t.actor.received → IsWithin top it
    within top reports acceptor None came = tt
    within None none acceptor (Some vote) came = none acceptor vote came
    within (Some top) reports acceptor (Some vote) came = reports.highest acceptor vote came

    of_highest : (top : Option Vote) → IsHighestReport t.actor.received r.slot r.ballot top →
        IsOfHighest (λ acceptor it. In (Promise acceptor r.slot r.ballot it) t.actor.received) (chain_offered top r.own) top
    of_highest None none = tt
    of_highest (Some top) reports = (refl, (reports.reported.0, reports.reported.1))

    free_of : (top : Option Vote) → IsFree top (StandsAt t r.slot (chain_offered top r.own))
        ((r.slot ≡ slot_of r.slot.id (chain_offered top r.own)) × IsOwn (IsLearned setup.nodes t.actor.received) setup.node t.actor r.slot.id
        (chain_offered top r.own))
    free_of None = subst (λ (id : ℕ). StandsAt t r.slot r.own ⊎ ((r.slot ≡ slot_of id r.own) × IsOwn
        (IsLearned setup.nodes t.actor.received) setup.node t.actor id r.own)) (sym is.about) round_now.free
    free_of (Some top) = tt

    may_propose : completes setup.nodes r sender ≡ true →
        MayPropose setup.nodes (λ it. In it t.actor.received) (StandsAt t) (IsLearned setup.nodes t.actor.received) setup.node t.actor r.slot (offered new)
    may_propose completes =
        let parts = and_parts (not (is_majority setup.nodes r.promised)) (is_majority setup.nodes new.promised) completes in
        let most = most_now.0 parts.1 in
        record {
          proposer = own_ballot.0;
          incarnation = own_ballot.1;
          once = λ chain sent. is.unproposed (not-true (is_majority setup.nodes r.promised) parts.0) (vote_at r.ballot chain) refl sent;
          justified = record {
            highest = new.highest;
            majority = record {
              test = most.test;
              most = most.most;
              each = λ acceptor least within_all passes.
                  let promise = most.each acceptor least within_all passes in
                  record { report = promise.0; made = promise.1; within = within new.highest report_is acceptor promise.0 promise.1 };
            };
            carried = of_highest new.highest report_is;
          };
          free = free_of new.highest;
        }

    -- ---- the step

    others_complete : completes setup.nodes r sender ≡ true → (id : ℕ) → IsComplete setup t r.slot (offered new) (message_at k' id).round
    others_complete completes = each_with (λ id it. IsComplete setup t r.slot (offered new) it.round) k slot.id (record m { round = Some new })
        (λ few same. let parts = and_parts (not (is_majority setup.nodes r.promised)) (is_majority setup.nodes new.promised) completes in
        true≢false (sym parts.1 ∙ few))
        (λ id apart. elsewhere_complete id apart (message_at k id).round (stands.agrees.message id).round)
      where
        elsewhere_complete : (id : ℕ) → (id ≡ slot.id → ⊥) → (round : Option Round) → IsKeptRound setup.nodes setup.node s id round →
            IsComplete setup t r.slot (offered new) round
        elsewhere_complete id apart None none = tt
        elsewhere_complete id apart (Some other) it = λ few same. apart (sym it.about ∙ ap (λ (x : Slot). x.id) same ∙ is.about)

    running_steps : IsAtWork setup s → IsMember setup.nodes sender → (complete : Bool) → completes setup.nodes r sender ≡ complete →
        StepsAs setup s (Delivery packet) (sends k' (if complete then Propose setup.node r.slot (offered new) ∷ [] else []) [] [])
    running_steps works member false few =
        plain_steps setup k s stands packet follows_nothing k' agrees_now unmoved works (member, asked) refl (incomplete_due few)
    running_steps works member true completes =
        let agrees = agrees_proposed setup t r.slot (offered new) k' agrees_now prepared (others_complete completes) in
        record {
          acts = Proposes r.slot (offered new) ∷ Receives packet ∷ [];
          taken = record {
            run = (
              record { least = works.least; most = works.most; up = works.up; needs = may_propose completes },
              (record { least = works.least; most = works.most; up = works.up; needs = tt }, tt),
            );
            exact = received_exact setup k s stands packet follows_nothing k' agrees_now unmoved (Proposes r.slot (offered new) ∷ []) (due_once completes)
                (member, asked) refl;
          };
          stands = record {
            agrees = agrees;
            quiet = quiet_of setup k' (proposed setup t r.slot (offered new)) agrees
                (calm_then setup k s stands packet follows_nothing k' agrees_now unmoved);
          };
          outputs = refl;
        }

  -- ---- any promise

  by_round : IsAtWork setup s → IsMember setup.nodes sender → (round : Option Round) → IsKeptRound setup.nodes setup.node s slot.id round →
      StepsAs setup s (Delivery packet) (promised_in setup k m round sender slot ballot report)
  by_round works member None none = idle_steps (none slot ballot refl) works member
  by_round works member (Some r) is = by_test (runs_at (Some r) slot ballot) refl
    where
      by_test : (runs : Bool) → runs_at (Some r) slot ballot ≡ runs →
          StepsAs setup s (Delivery packet) (if runs then sends (with_message k slot.id (record m { round = Some (promised_by r sender report) }))
          (proposals setup r sender report) [] [] else leaves k)
      by_test true runs =
          let parts = and_parts (same_slot r.slot slot) (r.ballot == ballot) runs in
          running_steps r is ((slot_decides r.slot slot).0 parts.0) (eqb-true r.ballot ballot parts.1) works member (completes setup.nodes r sender) refl
      by_test false differs = idle_steps (λ running.
          let one = one_round setup.node s.actor r.slot slot r.ballot ballot is.about is.running.round running.round in
          true≢false (sym (and_from (same_slot r.slot slot) (r.ballot == ballot) ((slot_decides r.slot slot).1 one.0) ((Decides-eqb r.ballot ballot).1 one.1))
          ∙ differs)) works member

  pub promise_steps : IsAtWork setup s → StepsAs setup s (Delivery packet) (stepped setup k (Delivery packet))
  promise_steps works = subst (StepsAs setup s (Delivery packet)) (sym (stepped_is setup k s packet stands works)) (by_member (is_member setup sender) refl)
    where
      by_member : (member : Bool) → is_member setup sender ≡ member →
          StepsAs setup s (Delivery packet) (if member then on_promise setup k sender slot ballot report else leaves k)
      by_member true is = by_round works (member_is setup sender is) m.round old.round
      by_member false is = ignored setup s k stands packet (λ concerned. true≢false (sym (member_test setup sender concerned.0) ∙ is))
