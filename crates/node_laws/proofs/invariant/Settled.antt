-- Each request that is to be settled is settled, by ascending tickets.
use Rattle.std.proofs.Common.{◌≡◌, ℕ, ◌<◌, Bool, true, false, cond, List, [], ◌∷◌, ◌++◌, map, Option, Some, None, refl, sym, ap, subst, ◌∙◌, inl, inr, arith}
use Rattle.std.specs.Prelude.{◌==◌, ◌&&◌, filter, if◌then◌else◌, not, reverse}
use Rattle.std.specs.List.Sorted.{IsStrictlyIncreasing}
use Rattle.std.proofs.lemmas.Bool.{eqb-false, eqb-true}
use Rattle.std.proofs.lemmas.Grind.{reverse_onto}
use Rattle.mc_model.specs.message.Submission.{Submission}
use Rattle.mc_model.specs.synod.Acceptor.{Records}
use Rattle.mc_model.specs.synod.Lists.{In}
use Rattle.mc_model.specs.synod.Packet.{Name, Packet}
use Rattle.mc_model.specs.node.Act.{Act, Settles}
use Rattle.mc_model.specs.node.Actor.{Actor, Request, Submit, Waiting, id_in, name_of}
use Rattle.mc_model.specs.node.Alone.{IsRunAlone, Node, after_alone, reached_alone}
use Rattle.mc_model.specs.node.Due.{AreDue}
use Rattle.mc_model.specs.node.Effect.{did, saved, settle}
use Rattle.mc_model.specs.node.Outputs.{Receipt, Reply, packets_in, receipts_in, replies_in}
use Rattle.mc_model.specs.node.Phases.{DueToSettle}
use Rattle.mc_model.specs.node.Setup.{Setup}
use Rattle.mc_model.specs.node.Settling.{MaySettle}
use Rattle.mc_parts.proofs.Membership.{in_filter}
use Rattle.node_model.specs.Kept.{Held, Kept, message_at}
use Rattle.node_model.specs.Message.{Round}
use Rattle.node_model.specs.Requests.{Ascend, is_cancel, is_settled, settled_by, settles, ticket_of}
use Rattle.node_laws.specs.Stands.{Agrees, IsHeld}
use Rattle.node_laws.specs.Steps.{IsAtWork}
use Rattle.node_laws.proofs.invariant.Deciding.{known_for, settled_in, to_settle}
use Rattle.node_laws.proofs.invariant.Held.{IsKeptAs, kept_as, waits_among}
use Rattle.node_model.proofs.Ascending.{ascend_kept}
use Rattle.node_laws.proofs.invariant.Orders.{acts_fall, ascend_from, below_in, in_mapped, in_reverse, mapped_in, reverse_in}
use Rattle.node_model.proofs.Filters.{filter_in, filter_passes}
use Rattle.node_laws.proofs.cluster.Runs.{did_more, packets_more, receipts_more, replies_more, run_more, saved_more}
use Rattle.mc_laws.proofs.step.Assembly.{alone_on}
use Rattle.node_laws.proofs.invariant.Waiting.{StaysFree, agrees_waits, waits}

abbrev pub settle_act : Held → Act
settle_act h = Settles (ticket_of h)

abbrev pub settle_acts : List Held → List Act
settle_acts held = reverse (map settle_act held)

settle_first : (h : Held) (held : List Held) → settle_acts (h ∷ held) ≡ settle_acts held ++ settle_act h ∷ []
settle_first h held = reverse_onto (map settle_act held) (settle_act h) []

-- ---- what they leave

abbrev settled_waiting : List Held → List Waiting → List Waiting
settled_waiting [] waiting = waiting
settled_waiting (h ∷ held) waiting = settled_waiting held (map (settle (ticket_of h)) waiting)

did_settle : (node : ℕ) (a : Actor) (held : List Held) → did node a (settle_acts held) ≡ record a { waiting = settled_waiting held a.waiting }
did_settle node a [] = refl
did_settle node a (h ∷ held) =
    ap (did node a) (settle_first h held)
    ∙ did_more node a (settle_acts held) (settle_act h ∷ [])
    ∙ did_settle node (record a { waiting = map (settle (ticket_of h)) a.waiting }) held

-- a request of another ticket stays
settle_other : (ticket : ℕ) (w : Waiting) → (w.ticket ≡ ticket → ⊥) → settle ticket w ≡ w
settle_other ticket w apart = by_test (w.ticket == ticket) refl
  where
    by_test : (test : Bool) → (w.ticket == ticket) ≡ test → record w { settled = if test then true else w.settled } ≡ w
    by_test true same = absurd (apart (eqb-true w.ticket ticket same))
    by_test false differs = refl

settle_own : (w : Waiting) → settle w.ticket w ≡ record w { settled = true }
settle_own w = by_test (w.ticket == w.ticket) refl
  where
    by_test : (test : Bool) → (w.ticket == w.ticket) ≡ test → record w { settled = if test then true else w.settled } ≡ record w { settled = true }
    by_test true same = refl
    by_test false differs = absurd (eqb-false w.ticket w.ticket differs refl)

settle_none : (ticket : ℕ) (held : List Held) → ((h : Held) → In h held → ticket < ticket_of h) →
    map (settle ticket) (map (λ h. h.waiting) held) ≡ map (λ h. h.waiting) held
settle_none ticket [] below = refl
settle_none ticket (h ∷ held) below =
    (λ i. settle_other ticket h.waiting (λ same. let less = below h (inl refl) in absurd (omega arith)) i ∷ settle_none ticket held
    (λ it among. below it (inr among)) i)

-- one that stands before all that are settled stays
settled_first : (w : Waiting) (held : List Held) (waiting : List Waiting) → ((h : Held) → In h held → w.ticket < ticket_of h) →
    settled_waiting held (w ∷ waiting) ≡ w ∷ settled_waiting held waiting
settled_first w [] waiting below = refl
settled_first w (h ∷ held) waiting below =
    ap (λ (x : Waiting). settled_waiting held (x ∷ map (settle (ticket_of h)) waiting))
    (settle_other (ticket_of h) w (λ same. let less = below h (inl refl) in absurd (omega arith)))
    ∙ settled_first w held (map (settle (ticket_of h)) waiting) (λ it among. below it (inr among))

abbrev as_settled : Bool → Held → Held
as_settled test h = if test then record h { waiting = record h.waiting { settled = true } } else h

module _ (test : Held → Bool) where
  settled_all : (held : List Held) → Ascend held →
      settled_waiting (filter test held) (map (λ h. h.waiting) held) ≡ map (λ h. h.waiting) (map (λ h. as_settled (test h) h) held)
  settled_all [] ascends = refl
  settled_all (h ∷ held) ascends = by_test (test h) (settled_all held ascends.1)
    where
      by_test : (b : Bool) →
          settled_waiting (filter test held) (map (λ it. it.waiting) held) ≡ map (λ it. it.waiting) (map (λ it. as_settled (test it) it) held) →
          settled_waiting (cond b (h ∷ filter test held) (filter test held)) (h.waiting ∷ map (λ it. it.waiting) held) ≡ (as_settled b h).waiting ∷ map
          (λ it. it.waiting) (map (λ it. as_settled (test it) it) held)
      by_test true rest =
          (λ i. settled_waiting (filter test held) (settle_own h.waiting i ∷ settle_none (ticket_of h) held (below_in (ticket_of h) held ascends.0) i))
          ∙ settled_first (record h.waiting { settled = true }) (filter test held) (map (λ it. it.waiting) held)
          (λ it among. below_in (ticket_of h) held ascends.0 it (in_filter test held it among))
          ∙ ap (λ (ws : List Waiting). record h.waiting { settled = true } ∷ ws) rest
      by_test false rest =
          settled_first h.waiting (filter test held) (map (λ it. it.waiting) held) (λ it among. below_in (ticket_of h) held ascends.0 it (in_filter test held it among))
          ∙ ap (λ (ws : List Waiting). h.waiting ∷ ws) rest

-- ---- they may be settled

may_still : (nodes node ticket other : ℕ) (a : Actor) → MaySettle nodes node a ticket →
    MaySettle nodes node (record a { waiting = map (settle other) a.waiting }) ticket
may_still nodes node ticket other a may = record {
  id = may.id;
  known = may.known;
  asked = record {
    waiting = settle other may.asked.waiting;
    waits = mapped_in (settle other) a.waiting may.asked.waiting may.asked.waits;
    ticket_is = may.asked.ticket_is;
    about = may.asked.about;
  };
  knows = may.knows;
  settled = may.settled;
}

run_settles : (setup : Setup) (s : Node) (held : List Held) → IsAtWork setup s →
    ((h : Held) → In h held → MaySettle setup.nodes setup.node s.actor (ticket_of h)) →
    IsRunAlone setup.nodes setup.node s (settle_acts held)
run_settles setup s [] works may = tt
run_settles setup s (h ∷ held) works may =
    subst (IsRunAlone setup.nodes setup.node s) (sym (settle_first h held))
    (run_more setup.nodes setup.node s (settle_acts held) (settle_act h ∷ [])
    (run_settles setup (after_alone setup.node s (settle_act h)) held (record { least = works.least; most = works.most; up = works.up })
    (λ it among. may_still setup.nodes setup.node (ticket_of it) (ticket_of h) s.actor (may it (inr among))))
    (record { least = works.least; most = works.most; up = works.up; needs = may h (inl refl) }, tt))

reached_settles : (node : ℕ) (s : Node) (held : List Held) →
    reached_alone node s (settle_acts held) ≡ record { actor = did node s.actor (settle_acts held); records = s.records; began = s.began }
reached_settles node s [] = refl
reached_settles node s (h ∷ held) =
    ap (reached_alone node s) (settle_first h held)
    ∙ alone_on node s (settle_acts held) (settle_act h ∷ [])
    ∙ reached_settles node (after_alone node s (settle_act h)) held
    ∙ sym (λ i. record {
      actor = (ap (did node s.actor) (settle_first h held) ∙ did_more node s.actor (settle_acts held) (settle_act h ∷ [])) i;
      records = s.records;
      began = s.began;
    })

-- ---- by what is kept

-- the requests as they are kept then
abbrev pub all_settled : ℕ → Kept → List Held
all_settled nodes k = map (λ h. settled_by nodes (known_for k h) h) k.held

module _ (setup : Setup) (k : Kept) (s : Node) (agrees : Agrees setup k s) (works : IsAtWork setup s) where
  abbrev test : Held → Bool
  test h = settles setup.nodes (known_for k h) h

  abbrev ascends : Ascend k.held
  ascends = ascend_from k.held agrees.tickets

  abbrev pub settled_acts : List Act
  settled_acts = settle_acts (filter test k.held)

  abbrev Due : Act → Type 0
  Due = DueToSettle setup.nodes setup.node s.actor

  due_of : (h : Held) → In h (filter test k.held) → Due (settle_act h)
  due_of h among = to_settle setup k s agrees (ticket_of h) (record {
    request = h;
    among = in_filter test k.held h among;
    ticket_is = refl;
    settled = filter_passes test k.held h among;
  })

  due_all : (act : Act) → Due act → In act settled_acts
  due_all (Settles ticket) due =
      let it = settled_in setup k s agrees ticket due in
      subst (λ (n : ℕ). In (Settles n) settled_acts) it.ticket_is
      (reverse_in (settle_act it.request) (map settle_act (filter test k.held))
      (mapped_in settle_act (filter test k.held) it.request (filter_in test k.held it.request it.among it.settled)))
  due_all act due = absurd due

  pub settles_due : AreDue Due settled_acts
  settles_due = record {
    each = λ act. (
      λ is_in. let it = in_mapped settle_act (filter test k.held) act (in_reverse act (map settle_act (filter test k.held)) is_in) in
          subst Due (sym it.is) (due_of it.from it.among),
      due_all act,
    );
    order = acts_fall settle_act (λ h. refl) (filter test k.held) (ascend_kept test k.held ascends);
  }

  pub settles_run : IsRunAlone setup.nodes setup.node s settled_acts
  settles_run = run_settles setup s (filter test k.held) works (λ h among.
      let due = due_of h among in
      record {
        id = id_in due.waiting.request;
        known = due.known;
        asked = record { waiting = due.waiting; waits = due.waits; ticket_is = due.ticket_is; about = refl };
        knows = due.knows;
        settled = due.settled;
      })

  pub settles_lead : reached_alone setup.node s settled_acts ≡ waits setup s (map (λ h. h.waiting) (all_settled setup.nodes k))
  settles_lead =
      reached_settles setup.node s (filter test k.held)
      ∙ (λ i. record { actor = did_settle setup.node s.actor (filter test k.held) i; records = s.records; began = s.began })
      ∙ ap (waits setup s) (ap (settled_waiting (filter test k.held)) (sym agrees.waiting) ∙ settled_all test k.held ascends)

  -- ---- what is kept agrees then

  -- one that is not to be settled stays
  unsettled_in : (h : Held) → In h k.held → test h ≡ false → In h.waiting (map (λ it. it.waiting) (all_settled setup.nodes k))
  unsettled_in h among not_so =
      subst (λ (w : Waiting). In w (map (λ it. it.waiting) (all_settled setup.nodes k))) (ap (λ (b : Bool). (as_settled b h).waiting) not_so)
      (waits_among (all_settled setup.nodes k) (as_settled (test h) h) (mapped_in (λ it. as_settled (test it) it) k.held h among))

  settled_stays : (h : Held) → h.waiting.settled ≡ true → test h ≡ false
  settled_stays h settled = by_cancel (is_cancel h.waiting.request)
    where
      by_cancel : (cancel : Bool) → cancel && (not h.waiting.settled && is_settled setup.nodes (known_for k h) h) ≡ false
      by_cancel true = ap (λ (b : Bool). not b && is_settled setup.nodes (known_for k h) h) settled
      by_cancel false = refl

  submit_stays : (id : ℕ) (message : Submission) (h : Held) → h.waiting.request ≡ Submit id message → test h ≡ false
  submit_stays id message h submits = ap (λ (r : Request). is_cancel r && (not h.waiting.settled && is_settled setup.nodes (known_for k h) h)) submits

  stays : (id : ℕ) (round : Option Round) → StaysFree setup s (map (λ h. h.waiting) (all_settled setup.nodes k)) id round
  stays id None = tt
  stays id (Some r) = inr (record {
    first = λ w message only chain_is waits submits.
        let kept = found w waits in
        subst (λ (x : Waiting). In x (map (λ it. it.waiting) (all_settled setup.nodes k))) kept.same
        (unsettled_in kept.request kept.among (submit_stays id message kept.request (ap (λ (x : Waiting). x.request) kept.same ∙ submits)));
    cancelled = λ w next newest older taken chain_is waits settled message cancels idle.
        let kept = found w waits in
        subst (λ (x : Waiting). In x (map (λ it. it.waiting) (all_settled setup.nodes k))) kept.same
        (unsettled_in kept.request kept.among (settled_stays kept.request (ap (λ (x : Waiting). x.settled) kept.same ∙ settled)));
  })
    where
      found : (w : Waiting) → In w s.actor.waiting → IsKeptAs k.held w
      found w waits = kept_as k.held w (subst (λ (ws : List Waiting). In w ws) (sym agrees.waiting) waits)

  held_settled : (received : List Packet) (name : Name) (b : Bool) (h : Held) → IsHeld received name h → IsHeld received name (as_settled b h)
  held_settled received name true h is = record { tellers = is.tellers; top = is.top; about = is.about }
  held_settled received name false h is = is

  same_ticket : (b : Bool) (h : Held) → ticket_of (as_settled b h) ≡ ticket_of h
  same_ticket true h = refl
  same_ticket false h = refl

  same_tickets : (held : List Held) → map ticket_of (map (λ h. as_settled (test h) h) held) ≡ map ticket_of held
  same_tickets [] = refl
  same_tickets (h ∷ held) = λ i. same_ticket (test h) h i ∷ same_tickets held i

  pub settled_agrees : Agrees setup (record k { held = all_settled setup.nodes k }) (waits setup s (map (λ h. h.waiting) (all_settled setup.nodes k)))
  settled_agrees = agrees_waits setup k s (all_settled setup.nodes k) agrees (λ id. stays id (message_at k id).round)
      (λ h among.
      let it = in_mapped (λ x. as_settled (test x) x) k.held h among in
      subst (λ (x : Held). IsHeld s.actor.received (name_of setup.node s.actor x.waiting) x) (sym it.is)
      (subst (λ (n : ℕ). IsHeld s.actor.received (record { node = setup.node; incarnation = s.actor.incarnation; ticket = n })
      (as_settled (test it.from) it.from)) (sym (same_ticket (test it.from) it.from))
      (held_settled s.actor.received (name_of setup.node s.actor it.from.waiting) (test it.from) it.from (agrees.told it.from it.among))))
      (subst IsStrictlyIncreasing (sym (same_tickets k.held)) agrees.tickets)
      (λ h among.
      let it = in_mapped (λ x. as_settled (test x) x) k.held h among in
      let below = agrees.given it.from it.among in
      let same : ticket_of h ≡ ticket_of it.from = ap ticket_of it.is ∙ same_ticket (test it.from) it.from in
      omega arith)

-- ---- nothing goes out

pub settles_packets : (node : ℕ) (a : Actor) (records : Records) (held : List Held) → packets_in node a records (settle_acts held) ≡ []
settles_packets node a records [] = refl
settles_packets node a records (h ∷ held) =
    ap (packets_in node a records) (settle_first h held)
    ∙ packets_more node a records (settle_acts held) (settle_act h ∷ [])
    ∙ ap (λ (ps : List Packet). ps ++ []) (settles_packets node (did node a (settle_act h ∷ [])) records held)

pub settles_records : (records : Records) (held : List Held) → saved records (settle_acts held) ≡ records
settles_records records [] = refl
settles_records records (h ∷ held) = ap (saved records) (settle_first h held) ∙ saved_more records (settle_acts held) (settle_act h ∷ [])
    ∙ settles_records records held

pub settles_replies : (held : List Held) → replies_in (settle_acts held) ≡ []
settles_replies [] = refl
settles_replies (h ∷ held) =
    ap replies_in (settle_first h held) ∙ replies_more (settle_acts held) (settle_act h ∷ []) ∙ ap (λ (rs : List Reply). rs ++ []) (settles_replies held)

pub settles_receipts : (held : List Held) → receipts_in (settle_acts held) ≡ []
settles_receipts [] = refl
settles_receipts (h ∷ held) =
    ap receipts_in (settle_first h held) ∙ receipts_more (settle_acts held) (settle_act h ∷ []) ∙ ap (λ (rs : List Receipt). rs ++ []) (settles_receipts held)
