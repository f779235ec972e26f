-- The step of a node that is told of a vote.
use Rattle.std.proofs.Common.{◌≡◌, ◌⊎◌, ℕ, pred, ◌<◌, ◌≤◌, Bool, true, false, cond, List, [], ◌∷◌, length, map, Option, Some, None, refl, sym, ap, subst, ◌∙◌}
use Rattle.std.proofs.Common.{inl, inr, arith}
use Rattle.std.specs.Prelude.{◌==◌, ◌||◌, filter, if◌then◌else◌, nat_le, not}
use Rattle.std.specs.Bool.{Decides}
use Rattle.std.specs.Option.{is_none}
use Rattle.std.proofs.lemmas.Bool.{and_parts, eqb-false, eqb-true, true≢false}
use Rattle.std.proofs.lemmas.Bool.Decides.{Decides-and, Decides-eqb, Decides-like, Decides-ltb, Decides-or, nat_tests}
use Rattle.mc_model.specs.message.Ids.{incarnation_of, node_of, serial_of}
use Rattle.mc_model.specs.message.Submission.{Submission}
use Rattle.mc_model.specs.message.Decree.{Decree, Final, Told}
use Rattle.mc_model.specs.message.Chain.{IsPermitted, final_in, taken_in}
use Rattle.mc_model.specs.synod.Lists.{In}
use Rattle.mc_model.specs.synod.OneSlot.{Vote}
use Rattle.mc_model.specs.synod.Packet.{Packet, Promise, Slot, Voted, slot_at, slot_of}
use Rattle.mc_model.specs.node.Act.{Act, Proposes}
use Rattle.mc_model.specs.node.Actor.{Waiting, id_in}
use Rattle.mc_model.specs.node.Alone.{Node, StandsAt}
use Rattle.mc_model.specs.node.Causes.{Causes, CausesDelete, CausesFollow, CausesTold}
use Rattle.mc_model.specs.node.Concerns.{Concerns, IsMember, WasGiven}
use Rattle.mc_model.specs.node.Input.{Delivery}
use Rattle.mc_model.specs.node.Knowledge.{IsKnown, IsLearned, Knows}
use Rattle.mc_model.specs.node.Phases.{DueToPropose}
use Rattle.mc_model.specs.node.Rounds.{IsPromised, IsRunning}
use Rattle.mc_model.specs.node.Proposal.{IsOwn}
use Rattle.mc_model.specs.node.Rules.{FitsDelete, IsDue}
use Rattle.mc_model.specs.node.Setup.{Setup}
use Rattle.mc_parts.proofs.Known.{knows_one}
use Rattle.mc_parts.proofs.Tellings.{unannounced}
use Rattle.node_model.specs.Answers.{answer_to, had_fate, is_known_so, receipts_of, replied, replies_to, reply_of, still_waits}
use Rattle.node_model.specs.Kept.{Held, Kept, message_at, with_message}
use Rattle.node_model.specs.Learner.{heard, is_shorter, makes_known}
use Rattle.node_model.specs.Message.{Message, Round}
use Rattle.node_model.specs.Outputs.{leaves, sends}
use Rattle.node_model.specs.Packets.{answered_then, is_member, known_then, on_known, on_voted, settled_for, start_known, vote_concerns, was_given}
use Rattle.node_model.specs.Proposer.{Prepared, Start, started, unless_reached}
use Rattle.node_model.specs.Requests.{id_of, settled_by, settles}
use Rattle.node_model.specs.Sets.{is_majority}
use Rattle.node_model.specs.Starts.{announced, delete_for, delete_of, tell_for, tell_of}
use Rattle.node_model.specs.Stepped.{stepped}
use Rattle.node_laws.specs.Stands.{Agrees, CoversGrant, HasHeard, IsBehind, IsHighestReport, IsMessage, IsRound, IsRoundOf as IsKeptRound, Stands}
use Rattle.node_laws.specs.Steps.{IsAtWork, StepsAs}
use Rattle.node_laws.proofs.step.AcceptorSteps.{member_is, member_test, stepped_is}
use Rattle.node_laws.proofs.invariant.Agreeing.{agrees_with}
use Rattle.node_laws.proofs.invariant.Answered.{known_is}
use Rattle.node_laws.proofs.step.AsideSteps.{TellsNobody, ignored}
use Rattle.node_laws.proofs.invariant.Deciding.{IsCalm, calm_of, known_for}
use Rattle.node_laws.proofs.invariant.Hearing.{PromisesNone, RefusesNone, free_heard, highest_heard, message_heard, one_round, received, round_heard, stands_heard}
use Rattle.node_laws.proofs.invariant.Learning.{known_before, known_more}
use Rattle.node_laws.proofs.invariant.Messages.{each_with}
use Rattle.node_laws.proofs.step.Plain.{plain_steps}
use Rattle.node_laws.proofs.step.Busy.{busy_steps, report_out, same_id}
use Rattle.node_laws.proofs.invariant.Decided.{Decided, decided_as, either_decided}
use Rattle.node_laws.proofs.step.Announcing.{fate_before, no_fate_before}
use Rattle.node_laws.proofs.step.Deleting.{deletes_start, tells_start}
use Rattle.node_laws.proofs.invariant.Held.{kept_as, waits_among}
use Rattle.node_laws.proofs.step.KnownRules.{announce_decided, delete_decided}
use Rattle.node_laws.proofs.invariant.Orders.{in_mapped}
use Rattle.node_model.proofs.Places.{message_elsewhere, message_here}
use Rattle.node_laws.proofs.invariant.Running.{round_later}
use Rattle.node_laws.proofs.invariant.Slots.{slot_decides}
use Rattle.node_laws.proofs.invariant.Replied.{cancels_of, replies_of, waits_on}
use Rattle.node_laws.proofs.step.Reporting.{Reported, reported}
use Rattle.node_laws.proofs.invariant.Settled.{all_settled, settled_agrees}
use Rattle.node_laws.proofs.step.Started.{IsDueStart, IsStartOf, StartsAs, started_as}
use Rattle.node_laws.proofs.invariant.Waiting.{waits}
use Rattle.mc_model.specs.message.Ids.{IsNode}
use Rattle.mc_model.specs.node.Replies.{Answer}

module _ (setup : Setup) (k : Kept) (s : Node) (stands : Stands setup k s) (voter id : ℕ) (vote : Vote) (permitted : IsPermitted id vote.chain) where
  abbrev slot : Slot
  slot = slot_of id vote.chain

  abbrev packet : Packet
  packet = Voted voter slot vote

  abbrev t : Node
  t = received s packet

  abbrev m : Message
  m = message_at k id

  abbrev new : Message
  new = heard m voter vote

  abbrev old : IsMessage setup s id m
  old = stands.agrees.message id

  tells_nobody : TellsNobody packet
  tells_nobody teller name told same = absurd (cc)

  follows_nothing : (other place : ℕ) (chain : List Decree) → CausesFollow setup.nodes setup.node s.actor t.actor (Delivery packet) other place chain → ⊥
  follows_nothing other place chain follows = follows

  promises_none : (other : Slot) (above : ℕ) → PromisesNone packet other above
  promises_none other above acceptor report same = absurd (cc)

  refuses_none : (other : Slot) (above : ℕ) → RefusesNone packet other above
  refuses_none other above from of greater same = absurd (cc)

  other_message : (other : ℕ) → (other ≡ id → ⊥) → IsMessage setup t other (message_at k other)
  other_message other apart = message_heard setup s packet other (message_at k other) (record {
    votes = λ from place cast same. let slots : slot_at other place ≡ slot = cc in apart (ap (λ (x : Slot). x.id) slots);
    promises = λ at above about. promises_none at above;
    refusals = λ at above from of about same. absurd (cc);
  }) (stands.agrees.message other)

  promised_before : (at : Slot) (ballot : ℕ) → IsPromised setup.nodes t.actor at ballot → IsPromised setup.nodes s.actor at ballot
  promised_before at ballot promised = record {
    test = promised.test;
    most = promised.most;
    each = λ acceptor least within passes.
        let promise = promised.each acceptor least within passes in
        (promise.0, elim promise.1 [ inl same ↦ absurd (cc) | inr before ↦ before ]);
  }

  -- ---- nothing becomes known

  module _ (few : makes_known setup.nodes new vote ≡ false) where
    heard_now : HasHeard setup.nodes t.actor.received id new
    heard_now = known_before setup.nodes voter id vote s.actor.received m old.heard few

    round_now : (round : Option Round) → IsKeptRound setup.nodes setup.node s id round → IsKeptRound setup.nodes setup.node t id round
    round_now None is = round_heard setup s packet id m.known old.heard.known heard_now.known None tt tt is
    round_now (Some r) is = round_heard setup s packet id m.known old.heard.known heard_now.known (Some r) (promises_none r.slot r.ballot)
        (refuses_none r.slot r.ballot) is

    message_now : IsMessage setup t id new
    message_now = record {
      heard = heard_now;
      places = old.places;
      seen = λ place within. highest_heard setup s packet (slot_at id place) _ (λ above from of own same. absurd (cc)) (old.seen place within);
      round = round_now m.round old.round;
      attempts = record { granted = old.attempts.granted; closed = old.attempts.closed };
      covers = old.covers;
    }

    idle_proposes : (act : Act) → DueToPropose setup.nodes setup.node s.actor t.actor act → ⊥
    idle_proposes (Proposes at cast) due = due.0.new (promised_before at cast.ballot due.0.promised)
    idle_proposes act due = due

    heard_steps : IsAtWork setup s → Concerns setup.nodes setup.node s.actor packet → StepsAs setup s (Delivery packet) (leaves (with_message k id new))
    heard_steps works concerned =
        plain_steps setup k s stands packet follows_nothing (with_message k id new)
        (agrees_with setup k s stands.agrees packet tells_nobody (
          record { slot_is = refl; permitted = permitted },
          concerned.2,
        ) id new message_now other_message)
        (record { held = refl; known = each_with (λ other it. it.known ≡ (message_at k other).known) k id new refl (λ other apart. refl) })
        works concerned refl idle_proposes

  -- ---- the chain of the vote becomes known

  module _ (makes : makes_known setup.nodes new vote ≡ true) where
    abbrev known : Message
    known = known_then new vote.chain

    abbrev k1 : Kept
    k1 = with_message k id known

    heard_known : HasHeard setup.nodes t.actor.received id known
    heard_known = known_more setup.nodes voter id vote s.actor.received m old.heard makes

    knows_now : Knows setup.nodes t.actor.received id vote.chain
    knows_now = heard_known.known

    -- what was known is shorter
    shorter : (chain : List Decree) → Knows setup.nodes s.actor.received id chain → pred (length chain) < pred (length vote.chain)
    shorter chain knows =
        let parts = and_parts (is_majority setup.nodes (new.votes vote)) (is_shorter m.known vote.chain) makes in
        let same : m.known ≡ Some chain = known_is setup.nodes id s.actor.received m.known chain old.heard.known knows in
        (Decides-ltb (pred (length chain)) (pred (length vote.chain))).0 (ap (λ (it : Option (List Decree)). is_shorter it vote.chain) (sym same) ∙ parts.1)

    not_known_before : Knows setup.nodes s.actor.received id vote.chain → ⊥
    not_known_before knows = let less = shorter vote.chain knows in omega arith

    one_known : (chain : List Decree) → Knows setup.nodes t.actor.received id chain → chain ≡ vote.chain
    one_known chain knows = knows_one setup.nodes t.actor.received id chain vote.chain knows knows_now

    -- ---- the round

    running_before : (at : Slot) (ballot : ℕ) → at.id ≡ id → IsRunning setup.nodes setup.node t.actor at ballot →
        IsRunning setup.nodes setup.node s.actor at ballot
    running_before at ballot about runs = record {
      round = round_later setup.node t.actor s.actor at ballot refl runs.round;
      accepted = λ refused. runs.accepted (record {
        sender = refused.sender;
        promised = refused.promised;
        heard = inr refused.heard;
        greater = refused.greater;
      });
      short = λ reached.
          let less = shorter reached.chain (subst (λ (i : ℕ). Knows setup.nodes s.actor.received i reached.chain) about reached.known) in
          let far = reached.far in
          runs.short (record {
            chain = vote.chain;
            known = subst (λ (i : ℕ). Knows setup.nodes t.actor.received i vote.chain) (sym about) knows_now;
            far = omega arith;
          });
    }

    -- a round that is not reached goes on
    unreached : (r : Round) → IsRound setup.nodes setup.node s id r → nat_le r.slot.place (pred (length vote.chain)) ≡ false →
        IsRound setup.nodes setup.node t id r
    unreached r is beyond = record {
      about = is.about;
      running = record {
        round = round_later setup.node s.actor t.actor r.slot r.ballot refl is.running.round;
        accepted = λ refused. elim refused.heard [
          | inl same ↦ absurd (cc)
          | inr before ↦ is.running.accepted (record { sender = refused.sender; promised = refused.promised; heard = before; greater = refused.greater })
        ];
        short = λ reached.
            let same = one_known reached.chain (subst (λ (i : ℕ). Knows setup.nodes t.actor.received i reached.chain) is.about reached.known) in
            let far : r.slot.place ≤ pred (length vote.chain) = subst (λ (c : List Decree). r.slot.place ≤ pred (length c)) same reached.far in
            let above : pred (length vote.chain) < r.slot.place = grind (arith, nat_tests) in
            omega arith;
      };
      promised = λ acceptor. (
        λ passes. let promise = (is.promised acceptor).0 passes in (promise.0, inr promise.1),
        λ promise. (is.promised acceptor).1 (promise.0, promise_before acceptor promise.0 promise.1),
      );
      highest = report_still r.highest is.highest;
      offered = is.offered;
      free = free_heard setup s packet r.slot id r.own is.free;
      behind = behind_now is.free r.own refl is.behind;
      unproposed = is.unproposed;
    }
      where
        promise_before : (acceptor : ℕ) (report : Option Vote) → In (Promise acceptor r.slot r.ballot report) t.actor.received →
            In (Promise acceptor r.slot r.ballot report) s.actor.received
        promise_before acceptor report (inl same) = absurd (cc)
        promise_before acceptor report (inr before) = before

        report_still : (highest : Option Vote) → IsHighestReport s.actor.received r.slot r.ballot highest →
            IsHighestReport t.actor.received r.slot r.ballot highest
        report_still None none = λ acceptor other came. none acceptor other (promise_before acceptor (Some other) came)
        report_still (Some top) highest = record {
          reported = (highest.reported.0, inr highest.reported.1);
          highest = λ acceptor other came. highest.highest acceptor other (promise_before acceptor (Some other) came);
        }

        -- a chain that goes on from what was known would be reached
        behind_now : StandsAt s r.slot r.own ⊎ ((r.slot ≡ slot_of id r.own) × IsOwn (IsLearned setup.nodes s.actor.received) setup.node s.actor id r.own) →
            (own : List Decree) → r.own ≡ own →
            IsBehind setup.nodes s.actor.received id (StandsAt s r.slot r.own) own → IsBehind setup.nodes t.actor.received id (StandsAt t r.slot r.own) own
        behind_now free [] chain_is behind = tt
        behind_now free (only ∷ []) chain_is behind = tt
        behind_now free (next ∷ newest ∷ older) chain_is (inl stood) = inl (stands_heard setup s packet r.slot r.own stood)
        behind_now (inl stood) (next ∷ newest ∷ older) chain_is (inr knows) = inl (stands_heard setup s packet r.slot r.own stood)
        behind_now (inr own) (next ∷ newest ∷ older) chain_is (inr knows) =
            let less = shorter (newest ∷ older) knows in
            let place : r.slot.place ≡ length (newest ∷ older) = ap (λ (x : Slot). x.place) own.0 ∙ ap (λ (c : List Decree). pred (length c)) chain_is in
            let above : pred (length vote.chain) < r.slot.place = grind (arith, nat_tests) in
            absurd (omega arith)

    round_then : (round : Option Round) → IsKeptRound setup.nodes setup.node s id round →
        IsKeptRound setup.nodes setup.node t id (unless_reached vote.chain round)
    round_then None none = λ at ballot about runs. none at ballot about (running_before at ballot about runs)
    round_then (Some r) is = by_place (nat_le r.slot.place (pred (length vote.chain))) refl
      where
        by_place : (reached : Bool) → nat_le r.slot.place (pred (length vote.chain)) ≡ reached →
            IsKeptRound setup.nodes setup.node t id (if reached then None else Some r)
        by_place true reached = λ at ballot about runs.
            let one = one_round setup.node t.actor at r.slot ballot r.ballot (about ∙ sym is.about) runs.round
            (round_later setup.node s.actor t.actor r.slot r.ballot refl is.running.round) in
            let places : at.place ≡ r.slot.place = ap (λ (x : Slot). x.place) one.0 in
            let far : r.slot.place ≤ pred (length vote.chain) = grind (arith, nat_tests) in
            runs.short (record {
              chain = vote.chain;
              known = subst (λ (i : ℕ). Knows setup.nodes t.actor.received i vote.chain) (sym about) knows_now;
              far = omega arith;
            })
        by_place false beyond = unreached r is beyond

    -- an attempt that was granted is behind it now
    covers_now : (before : Option (List Decree)) → IsKnown setup.nodes s.actor.received id before → (place : ℕ) → CoversGrant setup.node s.actor before place →
        CoversGrant setup.node t.actor (Some vote.chain) place
    covers_now None is place covers = absurd covers
    covers_now (Some chain) is place covers =
        let less = shorter chain is in
        let far = covers.0 in
        (omega arith, λ same. absurd (omega arith))

    agrees_1 : IsAtWork setup s → Concerns setup.nodes setup.node s.actor packet → Agrees setup k1 t
    agrees_1 works concerned =
        agrees_with setup k s stands.agrees packet tells_nobody (record { slot_is = refl; permitted = permitted }, concerned.2) id known
        (record {
          heard = heard_known;
          places = old.places;
          seen = λ place within. highest_heard setup s packet (slot_at id place) _ (λ above from of own same. absurd (cc)) (old.seen place within);
          round = round_then m.round old.round;
          attempts = record { granted = old.attempts.granted; closed = old.attempts.closed };
          covers = λ place granted. covers_now m.known old.heard.known place (old.covers place granted);
        })
        other_message

    -- ---- what is settled, and what it starts

    module _ (works : IsAtWork setup s) (mine : IsNode setup.node) (concerned : Concerns setup.nodes setup.node s.actor packet) where
      abbrev agrees : Agrees setup k1 t
      agrees = agrees_1 works concerned

      abbrev held_2 : List Held
      held_2 = all_settled setup.nodes k1

      abbrev k_2 : Kept
      k_2 = record k1 { held = held_2 }

      abbrev s_2 : Node
      s_2 = waits setup t (map (λ h. h.waiting) held_2)

      abbrev agrees_2 : Agrees setup k_2 s_2
      agrees_2 = settled_agrees setup k1 t agrees (record { least = works.least; most = works.most; up = works.up })

      calm : IsCalm setup.nodes k
      calm = calm_of setup k s stands.agrees stands.quiet

      known_here : (h : Held) → id_of h ≡ id → known_for k1 h ≡ Some vote.chain
      known_here h about = ap (λ (i : ℕ). (message_at k1 i).known) about ∙ ap (λ (x : Message). x.known) (message_here k id known)

      known_elsewhere : (h : Held) → (id_of h ≡ id → ⊥) → known_for k1 h ≡ known_for k h
      known_elsewhere h apart = ap (λ (x : Message). x.known) (message_elsewhere k id (id_of h) known apart)

      -- a request of another message is not settled
      settled_elsewhere : (h : Held) → In h k.held → (id_of h ≡ id → ⊥) → settled_by setup.nodes (known_for k1 h) h ≡ h
      settled_elsewhere h among apart =
          ap (λ (b : Bool). if b then record h { waiting = record h.waiting { settled = true } } else h)
          (ap (λ (x : Option (List Decree)). settles setup.nodes x h) (known_elsewhere h apart) ∙ calm.settled h among)

      settled_same : (h : Held) → In h k.held → settled_for setup.nodes id vote.chain h ≡ settled_by setup.nodes (known_for k1 h) h
      settled_same h among = by_id (id_of h == id) refl
        where
          by_id : (same : Bool) → (id_of h == id) ≡ same →
              (if same then settled_by setup.nodes (Some vote.chain) h else h) ≡ settled_by setup.nodes (known_for k1 h) h
          by_id true same = ap (λ (x : Option (List Decree)). settled_by setup.nodes x h) (sym (known_here h (eqb-true (id_of h) id same)))
          by_id false differs = sym (settled_elsewhere h among (eqb-false (id_of h) id differs))

      held_same : (held : List Held) → ((h : Held) → In h held → In h k.held) →
          map (settled_for setup.nodes id vote.chain) held ≡ map (λ h. settled_by setup.nodes (known_for k1 h) h) held
      held_same [] among = refl
      held_same (h ∷ held) among = λ i. settled_same h (among h (inl refl)) i ∷ held_same held (λ it is_in. among it (inr is_in)) i

      -- ---- rounds that are due

      abbrev Starts : ℕ → ℕ → List Decree → Type 0
      Starts other place chain = Causes setup.nodes setup.node s.actor s_2.actor (Delivery packet) other place chain

      -- a deletion, or that a receipt is told
      abbrev Deletes : ℕ → ℕ → List Decree → Type 0
      Deletes other place chain = CausesDelete setup.nodes setup.node s.actor s_2.actor other place chain

      abbrev Tells : ℕ → ℕ → List Decree → Type 0
      Tells other place chain = CausesTold setup.nodes setup.node s.actor s_2.actor other place chain

      either_of : (other place : ℕ) (chain : List Decree) → Starts other place chain → Deletes other place chain ⊎ Tells other place chain
      either_of other place chain (inl take) = absurd take
      either_of other place chain (inr (inl close)) = absurd close
      either_of other place chain (inr (inr (inl follows))) = absurd follows
      either_of other place chain (inr (inr (inr own))) = own

      -- a cancel_sm of another message that is settled now was settled before
      settled_before : (other : ℕ) → (other ≡ id → ⊥) → (w : Waiting) → In w s_2.actor.waiting → id_in w.request ≡ other → In w s.actor.waiting
      settled_before other apart w waits about =
          let kept = kept_as held_2 w waits in
          let it = in_mapped (λ h. settled_by setup.nodes (known_for k1 h) h) k1.held kept.request kept.among in
          let of : id_of it.from ≡ other = sym (same_id setup.nodes (known_for k1 it.from) it.from) ∙ ap id_of (sym it.is)
          ∙ ap (λ (x : Waiting). id_in x.request) kept.same ∙ about in
          let same : it.from.waiting ≡ w =
          ap (λ (h : Held). h.waiting) (sym (settled_elsewhere it.from it.among (λ is. apart (sym of ∙ is)))) ∙ ap (λ (h : Held). h.waiting) (sym it.is)
          ∙ kept.same in
          subst (λ (x : Waiting). In x s.actor.waiting) same (subst (λ (ws : List Waiting). In it.from.waiting ws) stands.agrees.waiting
          (waits_among k.held it.from it.among))

      knew_elsewhere : (other : ℕ) → (other ≡ id → ⊥) → (chain : List Decree) → Knows setup.nodes t.actor.received other chain →
          Knows setup.nodes s.actor.received other chain
      knew_elsewhere other apart chain knows =
          let is : (message_at k other).known ≡ Some chain =
          ap (λ (x : Message). x.known) (sym (message_elsewhere k id other known apart))
          ∙ known_is setup.nodes other t.actor.received (message_at k1 other).known chain (agrees.message other).heard.known knows in
          subst (IsKnown setup.nodes s.actor.received other) is (stands.agrees.message other).heard.known

      elsewhere : (other place : ℕ) (chain : List Decree) → Starts other place chain → other ≡ id
      elsewhere other place chain starts = by_id (other == id) refl
        where
          by_id : (same : Bool) → (other == id) ≡ same → other ≡ id
          by_id true same = eqb-true other id same
          by_id false differs =
              let apart : other ≡ id → ⊥ = eqb-false other id differs in
              elim (either_of other place chain starts) [
                | inl it ↦
                    let c = it.deletes.cancelled in
                    absurd (it.new
                    (record {
                      waiting = c.waiting;
                      waits = settled_before other apart c.waiting c.waits (cancels_of c.waiting.request other it.deletes.further.taken c.cancels);
                      ticket_is = refl;
                      settled = c.settled;
                    })
                    (knew_elsewhere other apart _ it.deletes.further.known))
                | inr tells ↦ absurd (unannounced setup.nodes setup.node s.actor s_2.actor other place chain (knew_elsewhere other apart) tells)
              ]

      unproposed : (act : Act) → DueToPropose setup.nodes setup.node s.actor s_2.actor act → ⊥
      unproposed (Proposes at cast) due = due.0.new (promised_before at cast.ballot
          (record { test = due.0.promised.test; most = due.0.promised.most; each = due.0.promised.each }))
      unproposed act due = due

      -- ---- the deletion, or the Told

      abbrev Fits : ℕ → List Decree → Type 0
      Fits place chain = FitsDelete setup.nodes setup.node s_2.actor id place chain ⊎ Tells id place chain

      fits_of : (place : ℕ) (chain : List Decree) → Starts id place chain → Fits place chain
      fits_of place chain starts = elim (either_of id place chain starts) [ inl it ↦ inl it.deletes | inr tells ↦ inr tells ]

      deletion_due : (place : ℕ) (chain : List Decree) → FitsDelete setup.nodes setup.node s_2.actor id place chain → Starts id place chain
      deletion_due place chain fits = inr (inr (inr (inl (record {
        deletes = fits;
        new = λ was knew. not_known_before (subst (Knows setup.nodes s.actor.received id)
            (one_known (fits.further.newest ∷ fits.further.older) fits.further.known) knew);
      }))))

      -- it goes behind what is known
      place_of : (place : ℕ) (chain : List Decree) → Fits place chain → place ≡ length vote.chain
      place_of place chain (inl fits) =
          fits.further.behind ∙ ap length (one_known (fits.further.newest ∷ fits.further.older) fits.further.known)
      place_of place chain (inr tells) =
          tells.due.further.behind ∙ ap length (one_known (tells.due.further.newest ∷ tells.due.further.older) tells.due.further.known)

      one_place : (place : ℕ) (chain : List Decree) → Fits place chain → (at : ℕ) (of : List Decree) → Starts id at of → at ≡ place
      one_place place chain fits at of starts = place_of at of (fits_of at of starts) ∙ sym (place_of place chain fits)

      fit_starts : (start : Start) → Fits start.place start.chain → IsDueStart setup s_2 id (Starts id) start
      fit_starts start (inl fits) =
          deletes_start setup s_2 agrees_2.coherent id (Starts id) start (deletion_due start.place start.chain fits)
          (one_place start.place start.chain (inl fits)) fits
      fit_starts start (inr tells) =
          tells_start setup s_2 agrees_2.coherent id (Starts id) start (inr (inr (inr (inr tells))))
          (one_place start.place start.chain (inr tells)) tells.due

      decided_start : (start : Option Start) → Decided start Fits → IsStartOf setup s_2 id (Starts id) start
      decided_start None none = λ place chain starts. none place chain (fits_of place chain starts)
      decided_start (Some start) fits = fit_starts start fits

      -- of no chain, or of one that took no message, nothing is deleted
      none_taken : (chain : List Decree) → vote.chain ≡ chain → taken_in chain ≡ None → (place : ℕ) (of : List Decree) →
          FitsDelete setup.nodes setup.node s_2.actor id place of → ⊥
      none_taken chain is none place of fits =
          let same : fits.further.newest ∷ fits.further.older ≡ chain = one_known (fits.further.newest ∷ fits.further.older) fits.further.known ∙ is in
          let both : Some fits.further.taken ≡ None = sym fits.further.message ∙ ap taken_in same ∙ none in
          absurd (cc)

      delete_taken : (newest : Decree) (older : List Decree) → vote.chain ≡ newest ∷ older → (taken : Option Submission) → taken_in (newest ∷ older) ≡ taken →
          Decided (delete_of setup k_2 id held_2 newest older taken) (FitsDelete setup.nodes setup.node s_2.actor id)
      delete_taken newest older is None none = none_taken (newest ∷ older) is none
      delete_taken newest older is (Some taken) message =
          delete_decided setup s_2.actor k_2 id agrees_2.incarnation agrees_2.clock newest older taken
          (subst (Knows setup.nodes t.actor.received id) is knows_now) message agrees_2.waiting

      delete_is : (chain : List Decree) → vote.chain ≡ chain →
          Decided (delete_for setup k_2 id held_2 (Some chain)) (FitsDelete setup.nodes setup.node s_2.actor id)
      delete_is [] is = none_taken [] is refl
      delete_is (newest ∷ older) is = delete_taken newest older is (taken_in (newest ∷ older)) refl

      -- ---- the Told alone

      untaken : (chain : List Decree) → vote.chain ≡ chain → taken_in chain ≡ None → (place : ℕ) (of : List Decree) → Tells id place of → ⊥
      untaken chain is none place of tells =
          let further = tells.due.further in
          let same : further.newest ∷ further.older ≡ chain = one_known (further.newest ∷ further.older) further.known ∙ is in
          let both : Some further.taken ≡ None = sym further.message ∙ ap taken_in same ∙ none in
          absurd (cc)

      tell_taken : (newest : Decree) (older : List Decree) → vote.chain ≡ newest ∷ older →
          ((before : List Decree) (final : Final) → Knows setup.nodes s.actor.received id before → final_in before ≡ Some final → ⊥) →
          (taken : Option Submission) → taken_in (newest ∷ older) ≡ taken → Decided (tell_of setup k_2 newest older taken) (Tells id)
      tell_taken newest older is unfated None none = untaken (newest ∷ older) is none
      tell_taken newest older is unfated (Some taken) message =
          decided_as (λ place chain. IsDue setup.nodes setup.node s_2.actor id place chain Told) (Tells id) (announced setup k_2 taken newest older newest.kind)
          (λ place chain due. record { due = due; new = unfated }) (λ place chain tells. tells.due)
          (announce_decided setup s_2.actor k_2 id agrees_2.incarnation agrees_2.clock newest older taken
          (subst (Knows setup.nodes t.actor.received id) is knows_now) message)

      tell_is : (chain : List Decree) → vote.chain ≡ chain → Decided (tell_for setup k_2 m.known chain) (Tells id)
      tell_is [] is = untaken [] is refl
      tell_is (newest ∷ older) is = by_fate (had_fate m.known) refl
        where
          by_fate : (had : Bool) → had_fate m.known ≡ had →
              Decided (if had then None else tell_of setup k_2 newest older (taken_in (newest ∷ older))) (Tells id)
          by_fate true fate = λ place of tells.
              let it = fate_before setup.nodes s.actor.received id m.known old.heard.known fate in
              tells.new it.older it.final it.knew it.ends
          by_fate false fate = tell_taken newest older is (no_fate_before setup.nodes s.actor.received id m.known old.heard.known fate)
              (taken_in (newest ∷ older)) refl

      abbrev start : Option Start
      start = start_known setup k_2 id m.known vote.chain

      starts : StartsAs setup k_2 s_2 id (Starts id) (started setup k_2 id start)
      starts = started_as setup k_2 s_2 agrees_2 mine (record { least = works.least; most = works.most; up = works.up }) id (Starts id) start
          (decided_start start (either_decided (FitsDelete setup.nodes setup.node s_2.actor id) (Tells id) (delete_for setup k_2 id held_2 (Some vote.chain))
          (tell_for setup k_2 m.known vote.chain) (delete_is vote.chain refl) (tell_is vote.chain refl)))

      -- ---- who is answered

      abbrev answer_2 : Held → Option Answer
      answer_2 h = answer_to setup.nodes (known_for k_2 h) h

      answer_same : (h : Held) → In h held_2 → reply_of setup.nodes (Some vote.chain) id h ≡ answer_2 h
      answer_same h among = by_id (id_of h == id) refl
        where
          by_id : (same : Bool) → (id_of h == id) ≡ same → (if same then answer_to setup.nodes (Some vote.chain) h else None) ≡ answer_2 h
          by_id true same = ap (λ (x : Option (List Decree)). answer_to setup.nodes x h) (sym (known_here h (eqb-true (id_of h) id same)))
          by_id false differs =
              let apart : id_of h ≡ id → ⊥ = eqb-false (id_of h) id differs in
              let it = in_mapped (λ g. settled_by setup.nodes (known_for k1 g) g) k1.held h among in
              let of : id_of it.from ≡ id_of h = sym (same_id setup.nodes (known_for k1 it.from) it.from) ∙ ap id_of (sym it.is) in
              let same : h ≡ it.from = it.is ∙ settled_elsewhere it.from it.among (λ is. apart (sym of ∙ is)) in
              sym (ap (λ (x : Option (List Decree)). answer_to setup.nodes x h) (known_elsewhere h apart)
              ∙ ap (λ (g : Held). answer_to setup.nodes (known_for k g) g) same
              ∙ calm.answered it.from it.among)

      replies_same : (held : List Held) → ((h : Held) → In h held → In h held_2) → replies_to setup.nodes (Some vote.chain) id held ≡ replies_of answer_2 held
      replies_same [] among = refl
      replies_same (h ∷ held) among = λ i. replied h (answer_same h (among h (inl refl)) i) (replies_same held (λ it is_in. among it (inr is_in)) i)

      left_same : (held : List Held) → ((h : Held) → In h held → In h held_2) →
          filter (still_waits setup.nodes (Some vote.chain) id) held ≡ filter (waits_on answer_2) held
      left_same [] among = refl
      left_same (h ∷ held) among = λ i. cond (is_none (answer_same h (among h (inl refl)) i)) (h ∷ left_same held (λ it is_in. among it (inr is_in)) i)
          (left_same held (λ it is_in. among it (inr is_in)) i)

      -- ---- the step

      fresh : (before : Option (List Decree)) → IsKnown setup.nodes s.actor.received id before → is_known_so before vote.chain ≡ false
      fresh None is = refl
      fresh (Some chain) is = let less = shorter chain is in grind (arith, nat_tests)

      receipt : Reported setup.nodes setup.node k.incarnation s.actor t.actor stands.agrees.incarnation id m.known vote.chain (fresh m.known old.heard.known)
          not_known_before knows_now knew_elsewhere (receipts_of setup.node k.incarnation id m.known vote.chain)
      receipt = reported setup.nodes setup.node k.incarnation s.actor t.actor stands.agrees.incarnation id m.known vote.chain (fresh m.known old.heard.known)
          not_known_before knows_now knew_elsewhere

      abbrev after : Prepared
      after = started setup k_2 id start

      known_steps : StepsAs setup s (Delivery packet) (answered_then setup k_2 id m.known vote.chain after)
      known_steps = subst (StepsAs setup s (Delivery packet)) same_step
          (busy_steps setup k s stands works packet concerned refl k1 agrees id after starts elsewhere unproposed receipt.report receipt.is)
        where
          held_is : filter (waits_on answer_2) after.kept.held ≡ filter (still_waits setup.nodes (Some vote.chain) id) held_2
          held_is = ap (filter (waits_on answer_2)) starts.held ∙ sym (left_same held_2 (λ h among. among))

          replies_are : replies_of answer_2 after.kept.held ≡ replies_to setup.nodes (Some vote.chain) id held_2
          replies_are = ap (replies_of answer_2) starts.held ∙ sym (replies_same held_2 (λ h among. among))

          same_step : sends (record after.kept { held = filter (waits_on answer_2) after.kept.held }) after.packets (replies_of answer_2 after.kept.held)
              (report_out id receipt.report) ≡
              answered_then setup k_2 id m.known vote.chain after
          same_step = λ i. sends (record after.kept { held = held_is i }) after.packets (replies_are i) (sym receipt.out i)

      on_known_steps : StepsAs setup s (Delivery packet) (on_known setup k id new vote.chain)
      on_known_steps =
          subst (λ (held : List Held). StepsAs setup s (Delivery packet)
          (answered_then setup (record k1 { held = held }) id m.known vote.chain
          (started setup (record k1 { held = held }) id (start_known setup (record k1 { held = held }) id m.known vote.chain))))
          (sym (held_same k.held (λ h among. among))) known_steps

  -- ---- a vote that concerns the node

  on_voted_steps : IsAtWork setup s → IsNode setup.node → Concerns setup.nodes setup.node s.actor packet →
      StepsAs setup s (Delivery packet) (on_voted setup k voter slot vote)
  on_voted_steps works mine concerned = by_makes (makes_known setup.nodes new vote) refl
    where
      by_makes : (makes : Bool) → makes_known setup.nodes new vote ≡ makes →
          StepsAs setup s (Delivery packet) (if makes then on_known setup k id new vote.chain else leaves (with_message k id new))
      by_makes true makes = on_known_steps makes works mine concerned
      by_makes false few = heard_steps few works concerned

-- ---- any vote

module _ (setup : Setup) (k : Kept) (s : Node) (stands : Stands setup k s) where
  given_decides : (id : ℕ) → Decides (was_given k id) (WasGiven s.actor id)
  given_decides id =
      let is = Decides-or _ _ (Decides-ltb (incarnation_of id) k.incarnation)
      (Decides-and _ _ (Decides-eqb (incarnation_of id) k.incarnation) (Decides-ltb (serial_of id) k.serial)) in
      let incarnations = stands.agrees.incarnation in
      let serials = stands.agrees.serial in
      Decides-like (was_given k id)
      (λ p. elim p [ inl older ↦ inl (omega arith) | inr now ↦ let at = now.0 in let below = now.1 in inr (omega arith, omega arith) ])
      (λ given. elim given [ inl older ↦ inl (omega arith) | inr now ↦ let at = now.0 in let below = now.1 in inr (omega arith, omega arith) ])
      is

  pub concerns_decides : (slot : Slot) (vote : Vote) →
      Decides (vote_concerns setup k slot vote) ((slot ≡ slot_of slot.id vote.chain) × (node_of slot.id ≡ setup.node → WasGiven s.actor slot.id))
  concerns_decides slot vote = Decides-and _ _ (slot_decides slot (slot_of slot.id vote.chain)) mine_decides
    where
      by_test : (own given : Bool) → Decides own (node_of slot.id ≡ setup.node) → Decides given (WasGiven s.actor slot.id) →
          Decides (not own || given) (node_of slot.id ≡ setup.node → WasGiven s.actor slot.id)
      by_test true given own_is given_is = ((λ t. λ own. given_is.0 t), (λ holds. given_is.1 (holds (own_is.0 refl))))
      by_test false given own_is given_is = ((λ t. λ own. absurd (true≢false (sym (own_is.1 own)))), (λ holds. refl))

      mine_decides : Decides (not (node_of slot.id == setup.node) || was_given k slot.id) (node_of slot.id ≡ setup.node → WasGiven s.actor slot.id)
      mine_decides = by_test (node_of slot.id == setup.node) (was_given k slot.id) (Decides-eqb (node_of slot.id) setup.node) (given_decides slot.id)

  placed_steps : (voter : ℕ) (slot : Slot) (vote : Vote) → IsPermitted slot.id vote.chain → IsAtWork setup s → IsNode setup.node →
      Concerns setup.nodes setup.node s.actor (Voted voter slot vote) →
      StepsAs setup s (Delivery (Voted voter slot vote)) (on_voted setup k voter slot vote)
  placed_steps voter slot vote permitted works mine concerned =
      let is : slot ≡ slot_of slot.id vote.chain = concerned.1 in
      subst (λ (x : Slot). StepsAs setup s (Delivery (Voted voter x vote)) (on_voted setup k voter x vote)) (sym is)
      (on_voted_steps setup k s stands voter slot.id vote permitted works mine (concerned.0, refl, concerned.2))

  pub voted_steps : (voter : ℕ) (slot : Slot) (vote : Vote) → IsPermitted slot.id vote.chain → IsAtWork setup s → IsNode setup.node →
      StepsAs setup s (Delivery (Voted voter slot vote)) (stepped setup k (Delivery (Voted voter slot vote)))
  voted_steps voter slot vote permitted works mine =
      subst (StepsAs setup s (Delivery (Voted voter slot vote))) (sym (stepped_is setup k s (Voted voter slot vote) stands works))
      (by_member (is_member setup voter) refl)
    where
      by_concern : IsMember setup.nodes voter → (concerns : Bool) → vote_concerns setup k slot vote ≡ concerns →
          StepsAs setup s (Delivery (Voted voter slot vote)) (if concerns then on_voted setup k voter slot vote else leaves k)
      by_concern member true is = let both = (concerns_decides slot vote).0 is in placed_steps voter slot vote permitted works mine (member, both.0, both.1)
      by_concern member false is = ignored setup s k stands (Voted voter slot vote)
          (λ concerned. true≢false (sym ((concerns_decides slot vote).1 (concerned.1, concerned.2)) ∙ is))

      by_member : (member : Bool) → is_member setup voter ≡ member →
          StepsAs setup s (Delivery (Voted voter slot vote)) (if member then
          (if vote_concerns setup k slot vote then on_voted setup k voter slot vote else leaves k) else leaves k)
      by_member true is = by_concern (member_is setup voter is) (vote_concerns setup k slot vote) refl
      by_member false is = ignored setup s k stands (Voted voter slot vote) (λ concerned. true≢false (sym (member_test setup voter concerned.0) ∙ is))
