-- The step of a node to which a refusal comes.
use Rattle.std.proofs.Common.{List, ◌≡◌, ℕ, ◌<◌, ◌≤◌, max, Bool, true, false, get_or, set, Option, Some, None, refl, sym, ap, subst, subst₂, ◌∙◌, inl, inr}
use Rattle.std.proofs.Common.{arith}
use Rattle.std.specs.Prelude.{◌==◌, ◌&&◌, nat_lt, if◌then◌else◌}
use Rattle.std.specs.Bool.{Decides}
use Rattle.std.proofs.lemmas.Bool.{and_from, and_parts, cases_lt, eqb-false, eqb-true, true≢false}
use Rattle.std.proofs.lemmas.Bool.Decides.{Decides-and, Decides-eqb, Decides-ltb}
use Rattle.std.proofs.lemmas.List.{get_or-set_other, get_or-set_same, length-set}
use Rattle.node_laws.proofs.invariant.Running.{round_later}
use Rattle.node_laws.proofs.invariant.Slots.{slot_decides}
use Rattle.mc_model.specs.message.Decree.{Decree}
use Rattle.mc_model.specs.synod.Ballot.{incarnation_in, proposer_of, round_in}
use Rattle.mc_model.specs.synod.Lists.{In}
use Rattle.mc_model.specs.synod.OneSlot.{Vote}
use Rattle.mc_model.specs.synod.Packet.{Packet, Promise, Refused, Slot, same_slot, slot_at}
use Rattle.mc_model.specs.node.Act.{Act, Proposes}
use Rattle.mc_model.specs.node.Alone.{Node}
use Rattle.mc_model.specs.node.Causes.{CausesFollow}
use Rattle.mc_model.specs.node.Concerns.{IsMember}
use Rattle.mc_model.specs.node.Input.{Delivery}
use Rattle.mc_model.specs.node.Phases.{DueToPropose}
use Rattle.mc_model.specs.node.Proposal.{OwnBallot}
use Rattle.mc_model.specs.node.Rounds.{RunsNone}
use Rattle.mc_model.specs.node.Setup.{Setup}
use Rattle.node_model.specs.Kept.{Kept, message_at, with_message}
use Rattle.node_model.specs.Message.{Message, Round, most_places}
use Rattle.node_model.specs.Outputs.{leaves}
use Rattle.node_model.specs.Packets.{is_member, on_refused}
use Rattle.node_model.specs.Proposer.{is_own_ballot, refused, runs_at}
use Rattle.node_model.specs.Stepped.{stepped}
use Rattle.node_laws.specs.Stands.{HasHeard, IsHighestSeen, IsMessage, IsRoundOf as IsKeptRound, Stands, WasSeen}
use Rattle.node_laws.specs.Steps.{IsAtWork, StepsAs}
use Rattle.node_laws.proofs.step.AcceptorSteps.{member_is, member_test, stepped_is}
use Rattle.node_laws.proofs.step.AsideSteps.{TellsNobody, ignored}
use Rattle.node_laws.proofs.invariant.Agreeing.{agrees_heard, agrees_with}
use Rattle.node_laws.proofs.invariant.Hearing.{PromisesNone, RefusesNone, highest_heard, message_heard, one_round, received, round_heard, round_sent, running_before}
use Rattle.node_laws.proofs.invariant.Hearing.{seen_heard}
use Rattle.node_laws.proofs.invariant.Learning.{heard_still}
use Rattle.node_laws.proofs.invariant.Messages.{each_with}
use Rattle.node_laws.proofs.step.Plain.{plain_steps}

module _ (setup : Setup) (k : Kept) (s : Node) (stands : Stands setup k s) (sender ballot promised : ℕ) (slot : Slot) where
  abbrev packet : Packet
  packet = Refused sender slot ballot promised

  abbrev t : Node
  t = received s packet

  abbrev m : Message
  m = message_at k slot.id

  abbrev old : IsMessage setup s slot.id m
  old = stands.agrees.message slot.id

  tells_nobody : TellsNobody packet
  tells_nobody teller name told same = absurd (cc)

  follows_nothing : (other place : ℕ) (chain : List Decree) → CausesFollow setup.nodes setup.node s.actor t.actor (Delivery packet) other place chain → ⊥
  follows_nothing other place chain follows = follows

  promises_none : (other : Slot) (above : ℕ) → PromisesNone packet other above
  promises_none other above acceptor report same = absurd (cc)

  heard_then : (id : ℕ) → HasHeard setup.nodes t.actor.received id (message_at k id)
  heard_then id = heard_still setup.nodes id packet s.actor.received (message_at k id) (λ voter place vote same. absurd (cc)) (stands.agrees.message id).heard

  other_message : (id : ℕ) → (id ≡ slot.id → ⊥) → IsMessage setup t id (message_at k id)
  other_message id apart = message_heard setup s packet id (message_at k id) (record {
    votes = λ voter place vote same. absurd (cc);
    promises = λ other above about. promises_none other above;
    refusals = λ other above from of about same. let slots : other ≡ slot = cc in apart (sym about ∙ ap (λ (x : Slot). x.id) slots);
  }) (stands.agrees.message id)

  own_decides : Decides (is_own_ballot setup k ballot) (OwnBallot setup.node s.actor ballot)
  own_decides =
      let is = Decides-and _ _ (Decides-eqb (proposer_of ballot) setup.node) (Decides-eqb (incarnation_in ballot) k.incarnation) in
      let same = stands.agrees.incarnation in
      (λ t. let both = is.0 t in (both.0, both.1 ∙ same), λ own. is.1 (own.0, own.1 ∙ sym same))

  proposes_none : (act : Act) → DueToPropose setup.nodes setup.node s.actor t.actor act → ⊥
  proposes_none (Proposes other vote) due =
      let most = due.0.promised in
      due.0.new (record {
        test = most.test;
        most = most.most;
        each = λ acceptor least within passes. let promise = most.each acceptor least within passes in (promise.0, before acceptor promise.0 promise.1);
      })
    where
      before : (acceptor : ℕ) (report : Option Vote) → In (Promise acceptor other vote.ballot report) t.actor.received →
          In (Promise acceptor other vote.ballot report) s.actor.received
      before acceptor report (inl same) = absurd (cc)
      before acceptor report (inr earlier) = earlier
  proposes_none act due = due

  -- a round that runs is at a ballot of the node's own
  own_round : (r : Round) → IsKeptRound setup.nodes setup.node s slot.id (Some r) → OwnBallot setup.node s.actor r.ballot
  own_round r is = stands.agrees.coherent.own r.slot r.ballot (round_sent setup.node s.actor r.slot r.ballot is.running.round)

  -- it goes on, unless it was refused for a greater ballot
  still_runs : (r : Round) → IsKeptRound setup.nodes setup.node s slot.id (Some r) → ((r.slot ≡ slot) × ((r.ballot ≡ ballot) × (ballot < promised)) → ⊥) →
      IsKeptRound setup.nodes setup.node t slot.id (Some r)
  still_runs r is stays =
      round_heard setup s packet slot.id m.known old.heard.known (heard_then slot.id).known (Some r) (promises_none r.slot r.ballot) refuses is
    where
      refuses : RefusesNone packet r.slot r.ballot
      refuses from of greater same =
          let slots : r.slot ≡ slot = cc in
          let ballots : r.ballot ≡ ballot = cc in
          let promises : of ≡ promised = cc in
          stays (slots, (ballots, subst₂ (λ (a b : ℕ). a < b) ballots promises greater))

  -- ---- at a ballot of the node's own

  module _ (own : OwnBallot setup.node s.actor ballot) where
    abbrev number : ℕ
    number = max (get_or m.seen slot.place 0) (round_in promised)

    -- of its slot the highest round is that of the refusal, if that is higher
    highest_here : slot.place < most_places → IsHighestSeen setup.node t.actor slot number
    highest_here within = record {
      seen = elim (cases_lt (get_or m.seen slot.place 0) (round_in promised)) [
        | inl below ↦ inr (inl (record {
          sender = sender;
          ballot = ballot;
          promised = promised;
          heard = inl refl;
          proposer = own.0;
          incarnation = own.1;
          names = omega arith;
        }))
        | inr from ↦
            let same : get_or m.seen slot.place 0 ≡ number = omega arith in
            elim before.seen [
              | inl none ↦ inl (sym same ∙ none)
              | inr seen ↦ inr (subst (λ (round : ℕ). WasSeen setup.node t.actor slot round) same (seen_heard setup s packet slot _ seen))
            ]
      ];
      most = λ round seen. most_seen round seen;
    }
      where
        before : IsHighestSeen setup.node s.actor slot (get_or m.seen slot.place 0)
        before = old.seen slot.place within

        most_seen : (round : ℕ) → WasSeen setup.node t.actor slot round → round ≤ number
        most_seen round (inl was) = elim was.heard [
          | inl same ↦
              let of : was.promised ≡ promised = cc in
              let names : round ≡ round_in promised = was.names ∙ ap round_in of in
              omega arith
          | inr heard ↦
              let most = before.most round (inl (record {
                sender = was.sender;
                ballot = was.ballot;
                promised = was.promised;
                heard = heard;
                proposer = was.proposer;
                incarnation = was.incarnation;
                names = was.names;
              })) in
              omega arith
        ]
        most_seen round (inr sent) = let most = before.most round (inr (record { ballot = sent.ballot; sent = sent.sent; names = sent.names })) in omega arith

    seen_then : (place : ℕ) → place < most_places → IsHighestSeen setup.node t.actor (slot_at slot.id place) (get_or (set m.seen slot.place number) place 0)
    seen_then place within = by_place (place == slot.place) refl
      where
        by_place : (same : Bool) → (place == slot.place) ≡ same →
            IsHighestSeen setup.node t.actor (slot_at slot.id place) (get_or (set m.seen slot.place number) place 0)
        by_place true same =
            let is : place ≡ slot.place = eqb-true place slot.place same in
            let here : slot.place < most_places = subst (λ (p : ℕ). p < most_places) is within in
            let long = old.places in
            subst (λ (p : ℕ). IsHighestSeen setup.node t.actor (slot_at slot.id p) (get_or (set m.seen slot.place number) p 0)) (sym is)
            (subst (IsHighestSeen setup.node t.actor slot) (sym (get_or-set_same m.seen slot.place number 0 (omega arith))) (highest_here here))
        by_place false differs =
            let apart : place ≡ slot.place → ⊥ = eqb-false place slot.place differs in
            subst (IsHighestSeen setup.node t.actor (slot_at slot.id place)) (sym (get_or-set_other m.seen slot.place place number 0 apart))
            (highest_heard setup s packet (slot_at slot.id place) _
            (λ above from of mine same. let slots : slot_at slot.id place ≡ slot = cc in apart (ap (λ (x : Slot). x.place) slots))
            (old.seen place within))

    -- ---- the round that runs ends, if it was refused for a greater one

    ended : (r : Round) → IsKeptRound setup.nodes setup.node s slot.id (Some r) → r.slot ≡ slot → r.ballot ≡ ballot → ballot < promised →
        RunsNone setup.nodes setup.node t.actor slot.id
    ended r is same_slot same_ballot greater other above about runs =
        let one = one_round setup.node t.actor other r.slot above r.ballot (about ∙ sym is.about) runs.round
        (round_later setup.node s.actor t.actor r.slot r.ballot refl is.running.round) in
        runs.accepted (record {
          sender = sender;
          promised = promised;
          heard = inl (λ i. Refused sender ((one.0 ∙ same_slot) i) ((one.1 ∙ same_ballot) i) promised);
          greater = subst (λ (b : ℕ). b < promised) (sym (one.1 ∙ same_ballot)) greater;
        })

    runs_at_is : (r : Round) → Decides (runs_at (Some r) slot ballot && nat_lt ballot promised) ((r.slot ≡ slot) × ((r.ballot ≡ ballot) × (ballot < promised)))
    runs_at_is r = (
      λ t.
          let parts = and_parts (runs_at (Some r) slot ballot) (nat_lt ballot promised) t in
          let both = and_parts (same_slot r.slot slot) (r.ballot == ballot) parts.0 in
          ((slot_decides r.slot slot).0 both.0, (eqb-true r.ballot ballot both.1, (Decides-ltb ballot promised).0 parts.1)),
      λ all.
          and_from (runs_at (Some r) slot ballot) (nat_lt ballot promised)
          (and_from (same_slot r.slot slot) (r.ballot == ballot) ((slot_decides r.slot slot).1 all.0) ((Decides-eqb r.ballot ballot).1 all.1.0))
          ((Decides-ltb ballot promised).1 all.1.1),
    )

    round_then : (round : Option Round) → IsKeptRound setup.nodes setup.node s slot.id round →
        IsKeptRound setup.nodes setup.node t slot.id (if runs_at round slot ballot && nat_lt ballot promised then None else round)
    round_then None none = λ other above about runs. none other above about
        (running_before setup s packet slot.id m.known old.heard.known (heard_then slot.id).known other above about runs)
    round_then (Some r) is = by_test (runs_at (Some r) slot ballot && nat_lt ballot promised) refl
      where
        by_test : (test : Bool) → runs_at (Some r) slot ballot && nat_lt ballot promised ≡ test →
            IsKeptRound setup.nodes setup.node t slot.id (if test then None else Some r)
        by_test true ends = let it = (runs_at_is r).0 ends in ended r is it.0 it.1.0 it.1.1
        by_test false stays = still_runs r is (λ all. true≢false (sym ((runs_at_is r).1 all) ∙ stays))

    message_then : IsMessage setup t slot.id (refused m slot ballot promised)
    message_then =
        let heard = heard_then slot.id in
        record {
          heard = record { votes = heard.votes; known = heard.known };
          places = length-set m.seen slot.place number ∙ old.places;
          seen = seen_then;
          round = round_then m.round old.round;
          attempts = record { granted = old.attempts.granted; closed = old.attempts.closed };
          covers = old.covers;
        }

    own_steps : IsAtWork setup s → IsMember setup.nodes sender →
        StepsAs setup s (Delivery packet) (leaves (with_message k slot.id (refused m slot ballot promised)))
    own_steps works member =
        plain_steps setup k s stands packet follows_nothing (with_message k slot.id (refused m slot ballot promised))
        (agrees_with setup k s stands.agrees packet tells_nobody tt slot.id (refused m slot ballot promised) message_then other_message)
        (record {
          held = refl;
          known = each_with (λ id it. it.known ≡ (message_at k id).known) k slot.id (refused m slot ballot promised) refl
              (λ id apart. refl);
        })
        works member refl proposes_none

  -- ---- at another ballot

  module _ (strange : OwnBallot setup.node s.actor ballot → ⊥) where
    round_stays : (round : Option Round) → IsKeptRound setup.nodes setup.node s slot.id round → IsKeptRound setup.nodes setup.node t slot.id round
    round_stays None none = λ other above about runs. none other above about
        (running_before setup s packet slot.id m.known old.heard.known (heard_then slot.id).known other above about runs)
    round_stays (Some r) is = still_runs r is (λ all. strange (subst (OwnBallot setup.node s.actor) all.1.0 (own_round r is)))

    message_stays : (id : ℕ) → IsMessage setup t id (message_at k id)
    message_stays id = by_id (id == slot.id) refl
      where
        here : IsMessage setup t slot.id m
        here = record {
          heard = heard_then slot.id;
          places = old.places;
          seen = λ place within. highest_heard setup s packet (slot_at slot.id place) _
              (λ above from of own same. let ballots : above ≡ ballot = cc in strange (subst (OwnBallot setup.node s.actor) ballots own))
              (old.seen place within);
          round = round_stays m.round old.round;
          attempts = record { granted = old.attempts.granted; closed = old.attempts.closed };
          covers = old.covers;
        }

        by_id : (same : Bool) → (id == slot.id) ≡ same → IsMessage setup t id (message_at k id)
        by_id true same = subst (λ (i : ℕ). IsMessage setup t i (message_at k i)) (sym (eqb-true id slot.id same)) here
        by_id false differs = other_message id (eqb-false id slot.id differs)

    strange_steps : IsAtWork setup s → IsMember setup.nodes sender → StepsAs setup s (Delivery packet) (leaves k)
    strange_steps works member =
        plain_steps setup k s stands packet follows_nothing k (agrees_heard setup k s stands.agrees packet tells_nobody tt message_stays)
        (record { held = refl; known = λ id. refl }) works member refl proposes_none

  -- ---- at any ballot

  on_refused_steps : IsAtWork setup s → IsMember setup.nodes sender → StepsAs setup s (Delivery packet) (on_refused setup k slot ballot promised)
  on_refused_steps works member = by_own (is_own_ballot setup k ballot) refl
    where
      by_own : (own : Bool) → is_own_ballot setup k ballot ≡ own →
          StepsAs setup s (Delivery packet) (if own then leaves (with_message k slot.id (refused m slot ballot promised)) else leaves k)
      by_own true own = own_steps (own_decides.0 own) works member
      by_own false strange = strange_steps (λ own. true≢false (sym (own_decides.1 own) ∙ strange)) works member

  pub refused_steps : IsAtWork setup s → StepsAs setup s (Delivery packet) (stepped setup k (Delivery packet))
  refused_steps works = subst (StepsAs setup s (Delivery packet)) (sym (stepped_is setup k s packet stands works)) (by_member (is_member setup sender) refl)
    where
      by_member : (member : Bool) → is_member setup sender ≡ member →
          StepsAs setup s (Delivery packet) (if member then on_refused setup k slot ballot promised else leaves k)
      by_member true is = on_refused_steps works (member_is setup sender is)
      by_member false is = ignored setup s k stands packet (λ member. true≢false (sym (member_test setup sender member) ∙ is))
