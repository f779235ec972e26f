-- Each request that has an answer is answered, by ascending tickets, and waits no more.
use Rattle.std.proofs.Common.{◌≡◌, ◌⊎◌, ℕ, pred, ◌<◌, Bool, true, false, cond, List, [], ◌∷◌, ◌++◌, length, map, Option, Some, None, refl, sym, ap, subst}
use Rattle.std.proofs.Common.{subst₂, ◌∙◌, append-nil, inl, inr, arith}
use Rattle.std.specs.Prelude.{◌==◌, filter, if◌then◌else◌, not, reverse}
use Rattle.std.specs.Option.{is_none}
use Rattle.std.proofs.lemmas.Bool.{eqb-false, eqb-true}
use Rattle.std.proofs.lemmas.List.{map-append, reverse-append}
use Rattle.mc_model.specs.message.Submission.{Submission}
use Rattle.mc_model.specs.message.Decree.{Attempt, Decree, Failed, Fate, Told, Final, Kind, Taken}
use Rattle.mc_model.specs.message.Chain.{final_by, final_in, taken_in}
use Rattle.mc_model.specs.synod.Acceptor.{Records}
use Rattle.mc_model.specs.synod.Lists.{In}
use Rattle.mc_model.specs.synod.Packet.{Slot, slot_of}
use Rattle.mc_model.specs.node.Act.{Act, Replies}
use Rattle.mc_model.specs.node.Actor.{Actor, Cancel, Query, Request, Submit, Waiting, id_in}
use Rattle.mc_model.specs.node.Alone.{IsRunAlone, Node, StandsAt, after_alone, reached_alone}
use Rattle.mc_model.specs.node.Due.{AreDue, Fall, key_of}
use Rattle.mc_model.specs.node.Effect.{did, saved}
use Rattle.mc_model.specs.node.Knowledge.{IsKnown, Knows}
use Rattle.mc_model.specs.node.Proposal.{Cancels}
use Rattle.mc_model.specs.node.Outputs.{Reply, packets_in, receipts_in, replies_in}
use Rattle.mc_model.specs.node.Phases.{DueToReply}
use Rattle.mc_model.specs.node.Replies.{Accepted, Answer, FitsRequest, IsAnswer, Kept as Keeps, NotMatched, NotOwner, Removed, Shown, TooLate, Unknown}
use Rattle.mc_model.specs.node.Setup.{Setup}
use Rattle.mc_parts.proofs.Membership.{in_either, in_filter}
use Rattle.node_model.specs.Kept.{Held, Kept, message_at}
use Rattle.node_model.specs.Message.{Round}
use Rattle.node_model.specs.Answers.{answer_by, answer_to, cancel_answer, cancel_answer_of, cancel_decided, replied}
use Rattle.node_model.specs.Requests.{Ascend, id_of, is_settled, ticket_of}
use Rattle.node_laws.specs.Stands.{Agrees, IsBehind, IsRound, IsRoundOf as IsKeptRound}
use Rattle.node_laws.specs.Steps.{IsAtWork}
use Rattle.node_laws.proofs.invariant.Answered.{AnswerIs, answer_is, known_is}
use Rattle.node_laws.proofs.invariant.Deciding.{answered_in, known_for, to_answer}
use Rattle.node_laws.proofs.invariant.Cancelling.{match_decides}
use Rattle.node_laws.proofs.invariant.Held.{IsKeptAs, kept_as, waits_among}
use Rattle.node_model.proofs.Ascending.{ascend_kept}
use Rattle.node_laws.proofs.invariant.Orders.{ascend_from, below_in, fall_join, in_append, in_mapped, increasing_from}
use Rattle.node_model.proofs.Filters.{filter_in}
use Rattle.node_laws.proofs.cluster.Runs.{packets_more, receipts_more, replies_more, run_more}
use Rattle.mc_laws.proofs.step.Assembly.{alone_on}
use Rattle.node_laws.proofs.invariant.Waiting.{IsIdleKind, KeepsGround, StaysFree, agrees_waits, waits}

-- ---- the acts, by what each request is answered, if anything

module _ (answer : Held → Option Answer) where
  abbrev reply_with : Held → Option Answer → List Act
  reply_with h None = []
  reply_with h (Some it) = Replies (ticket_of h) (id_of h) it ∷ []

  abbrev pub reply_acts : List Held → List Act
  reply_acts [] = []
  reply_acts (h ∷ others) = reply_acts others ++ reply_with h (answer h)

  -- the replies, the oldest first
  abbrev pub replies_of : List Held → List Reply
  replies_of [] = []
  replies_of (h ∷ others) = replied h (answer h) (replies_of others)

  abbrev pub waits_on : Held → Bool
  waits_on h = is_none (answer h)

  pub record IsReplied (held : List Held) (act : Act) : Type 0 where
    pub request : Held
    pub with : Answer
    pub among : In request held
    pub answers : answer request ≡ Some with
    pub is : act ≡ Replies (ticket_of request) (id_of request) with

  pub replied_in : (held : List Held) (act : Act) → In act (reply_acts held) → IsReplied held act
  replied_in [] act none = absurd none
  replied_in (h ∷ others) act is_in = elim (in_either act (reply_acts others) (reply_with h (answer h)) is_in) [
    | inl later ↦ let it = replied_in others act later in record {
      request = it.request;
      with = it.with;
      among = inr it.among;
      answers = it.answers;
      is = it.is;
    }
    | inr now ↦ first (answer h) refl now
  ]
    where
      first : (x : Option Answer) → answer h ≡ x → In act (reply_with h x) → IsReplied (h ∷ others) act
      first None is none = absurd none
      first (Some it) is (inl same) = record { request = h; with = it; among = inl refl; answers = is; is = same }
      first (Some it) is (inr none) = absurd none

  pub in_replied : (held : List Held) (h : Held) (it : Answer) → In h held → answer h ≡ Some it → In (Replies (ticket_of h) (id_of h) it) (reply_acts held)
  in_replied [] h it none is = none
  in_replied (first ∷ others) h it (inl same) is =
      in_append (Replies (ticket_of h) (id_of h) it) (reply_acts others) (reply_with first (answer first))
      (inr (subst (λ (x : Option Answer). In (Replies (ticket_of h) (id_of h) it) (reply_with first x)) (sym (ap answer (sym same) ∙ is))
      (subst (λ (g : Held). In (Replies (ticket_of h) (id_of h) it) (reply_with g (Some it))) same (inl refl))))
  in_replied (first ∷ others) h it (inr later) is =
      in_append (Replies (ticket_of h) (id_of h) it) (reply_acts others) (reply_with first (answer first)) (inl (in_replied others h it later is))

  pub replies_fall : (held : List Held) → Ascend held → Fall (map key_of (reply_acts held))
  replies_fall [] ascends = tt
  replies_fall (h ∷ others) ascends = by_answer (answer h) (replies_fall others ascends.1)
    where
      apart : (it : Answer) (high low : ℕ) → In high (map key_of (reply_acts others)) → In low (ticket_of h ∷ []) → low < high
      apart it high low above (inr none) = absurd none
      apart it high low above (inl same) =
          let of = in_mapped key_of (reply_acts others) high above in
          let from = replied_in others of.from of.among in
          let below = below_in (ticket_of h) others ascends.0 from.request from.among in
          let keys : high ≡ ticket_of from.request = of.is ∙ ap key_of from.is in
          omega arith

      by_answer : (x : Option Answer) → Fall (map key_of (reply_acts others)) → Fall (map key_of (reply_acts others ++ reply_with h x))
      by_answer None rest = subst (λ (acts : List Act). Fall (map key_of acts)) (sym (append-nil (reply_acts others))) rest
      by_answer (Some it) rest =
          subst Fall (sym (map-append key_of (reply_acts others) (Replies (ticket_of h) (id_of h) it ∷ [])))
          (fall_join (map key_of (reply_acts others)) (ticket_of h ∷ []) rest tt (apart it))

  -- ---- what they leave

  abbrev other_than : ℕ → Waiting → Bool
  other_than ticket w = not (w.ticket == ticket)

  abbrev without_one : ℕ → Option Answer → List Waiting → List Waiting
  without_one ticket None waiting = waiting
  without_one ticket (Some it) waiting = filter (other_than ticket) waiting

  abbrev pub without : List Held → List Waiting → List Waiting
  without [] waiting = waiting
  without (h ∷ others) waiting = without others (without_one (ticket_of h) (answer h) waiting)

  is_other : (w : Waiting) (ticket : ℕ) → (w.ticket ≡ ticket → ⊥) → other_than ticket w ≡ true
  is_other w ticket apart = by_test (w.ticket == ticket) refl
    where
      by_test : (test : Bool) → (w.ticket == ticket) ≡ test → not test ≡ true
      by_test true same = absurd (apart (eqb-true w.ticket ticket same))
      by_test false differs = refl

  is_own : (w : Waiting) (ticket : ℕ) → w.ticket ≡ ticket → other_than ticket w ≡ false
  is_own w ticket same = by_test (w.ticket == ticket) refl
    where
      by_test : (test : Bool) → (w.ticket == ticket) ≡ test → not test ≡ false
      by_test true is = refl
      by_test false differs = absurd (eqb-false w.ticket ticket differs same)

  -- one that stands before all that are answered stays
  without_first : (w : Waiting) (held : List Held) (waiting : List Waiting) → ((h : Held) → In h held → w.ticket < ticket_of h) →
      without held (w ∷ waiting) ≡ w ∷ without held waiting
  without_first w [] waiting below = refl
  without_first w (h ∷ others) waiting below = by_answer (answer h) (λ ws. without_first w others ws (λ it among. below it (inr among)))
    where
      by_answer : (x : Option Answer) → ((ws : List Waiting) → without others (w ∷ ws) ≡ w ∷ without others ws) →
          without others (without_one (ticket_of h) x (w ∷ waiting)) ≡ w ∷ without others (without_one (ticket_of h) x waiting)
      by_answer None rest = rest waiting
      by_answer (Some it) rest =
          ap (λ (b : Bool). without others (cond b (w ∷ filter (other_than (ticket_of h)) waiting) (filter (other_than (ticket_of h)) waiting)))
          (is_other w (ticket_of h) (λ same. let less = below h (inl refl) in absurd (omega arith)))
          ∙ rest (filter (other_than (ticket_of h)) waiting)

  none_gone : (ticket : ℕ) (held : List Held) → ((h : Held) → In h held → ticket < ticket_of h) →
      filter (other_than ticket) (map (λ h. h.waiting) held) ≡ map (λ h. h.waiting) held
  none_gone ticket [] below = refl
  none_gone ticket (h ∷ others) below =
      ap (λ (b : Bool). cond b (h.waiting ∷ filter (other_than ticket) (map (λ it. it.waiting) others))
      (filter (other_than ticket) (map (λ it. it.waiting) others)))
      (is_other h.waiting ticket (λ same. let less = below h (inl refl) in absurd (omega arith)))
      ∙ ap (λ (ws : List Waiting). h.waiting ∷ ws) (none_gone ticket others (λ it among. below it (inr among)))

  pub without_all : (held : List Held) → Ascend held → without held (map (λ h. h.waiting) held) ≡ map (λ h. h.waiting) (filter waits_on held)
  without_all [] ascends = refl
  without_all (h ∷ others) ascends = by_answer (answer h) (without_all others ascends.1)
    where
      by_answer : (x : Option Answer) → without others (map (λ it. it.waiting) others) ≡ map (λ it. it.waiting) (filter waits_on others) →
          without others (without_one (ticket_of h) x (h.waiting ∷ map (λ it. it.waiting) others)) ≡
          map (λ it. it.waiting) (cond (is_none x) (h ∷ filter waits_on others) (filter waits_on others))
      by_answer None rest =
          without_first h.waiting others (map (λ it. it.waiting) others) (below_in (ticket_of h) others ascends.0)
          ∙ ap (λ (ws : List Waiting). h.waiting ∷ ws) rest
      by_answer (Some it) rest =
          ap (λ (b : Bool). without others (cond b (h.waiting ∷ filter (other_than (ticket_of h)) (map (λ x. x.waiting) others))
          (filter (other_than (ticket_of h)) (map (λ x. x.waiting) others))))
          (is_own h.waiting (ticket_of h) refl)
          ∙ ap (without others) (none_gone (ticket_of h) others (below_in (ticket_of h) others ascends.0))
          ∙ rest

  -- ---- what goes out

  pub replies_out : (held : List Held) → reverse (replies_in (reply_acts held)) ≡ replies_of held
  replies_out [] = refl
  replies_out (h ∷ others) =
      ap reverse (replies_more (reply_acts others) (reply_with h (answer h)))
      ∙ reverse-append (replies_in (reply_acts others)) (replies_in (reply_with h (answer h)))
      ∙ by_answer (answer h) (replies_out others)
    where
      by_answer : (x : Option Answer) → reverse (replies_in (reply_acts others)) ≡ replies_of others →
          reverse (replies_in (reply_with h x)) ++ reverse (replies_in (reply_acts others)) ≡ replied h x (replies_of others)
      by_answer None rest = rest
      by_answer (Some it) rest = ap (λ (rs : List Reply). record { ticket = ticket_of h; id = id_of h; answer = it } ∷ rs) rest

  pub replies_packets : (node : ℕ) (a : Actor) (records : Records) (held : List Held) → packets_in node a records (reply_acts held) ≡ []
  replies_packets node a records [] = refl
  replies_packets node a records (h ∷ others) =
      packets_more node a records (reply_acts others) (reply_with h (answer h))
      ∙ (λ i. replies_packets node (did node a (reply_with h (answer h))) (saved records (reply_with h (answer h))) others i ++ one (answer h) i)
    where
      one : (x : Option Answer) → packets_in node a records (reply_with h x) ≡ []
      one None = refl
      one (Some it) = refl

  pub replies_receipts : (held : List Held) → receipts_in (reply_acts held) ≡ []
  replies_receipts [] = refl
  replies_receipts (h ∷ others) =
      receipts_more (reply_acts others) (reply_with h (answer h)) ∙ (λ i. replies_receipts others i ++ one (answer h) i)
    where
      one : (x : Option Answer) → receipts_in (reply_with h x) ≡ []
      one None = refl
      one (Some it) = refl

  pub reached_replies : (node : ℕ) (s : Node) (held : List Held) →
      reached_alone node s (reply_acts held) ≡ record {
        actor = record s.actor { waiting = without held s.actor.waiting };
        records = s.records;
        began = s.began;
      }
  reached_replies node s [] = refl
  reached_replies node s (h ∷ others) =
      alone_on node s (reply_acts others) (reply_with h (answer h))
      ∙ ap (λ (x : Node). reached_alone node x (reply_acts others)) (one (answer h))
      ∙ reached_replies node (record {
        actor = record s.actor { waiting = without_one (ticket_of h) (answer h) s.actor.waiting };
        records = s.records;
        began = s.began;
      }) others
    where
      one : (x : Option Answer) →
          reached_alone node s (reply_with h x) ≡ record {
            actor = record s.actor { waiting = without_one (ticket_of h) x s.actor.waiting };
            records = s.records;
            began = s.began;
          }
      one None = refl
      one (Some it) = refl

  -- ---- they may be given

  -- a request may be answered, whatever others wait
  abbrev pub Fits : Setup → Actor → Held → Answer → Type 0
  Fits setup a h it = (ws : List Waiting) → IsAnswer setup.nodes setup.node (record a { waiting = ws }) h.waiting it

  pub run_replies : (setup : Setup) (s : Node) (held : List Held) → Ascend held → IsAtWork setup s → ((h : Held) → In h held → In h.waiting s.actor.waiting) →
      ((h : Held) (it : Answer) → In h held → answer h ≡ Some it → Fits setup s.actor h it) → IsRunAlone setup.nodes setup.node s (reply_acts held)
  run_replies setup s [] ascends works waits fits = tt
  run_replies setup s (h ∷ others) ascends works waits fits =
      by_answer (answer h) refl (λ next at_work still may. run_replies setup next others ascends.1 at_work still may)
    where
      Rest : Type 0
      Rest = (next : Node) → IsAtWork setup next → ((it : Held) → In it others → In it.waiting next.actor.waiting) →
          ((it : Held) (with : Answer) → In it others → answer it ≡ Some with → Fits setup next.actor it with) →
          IsRunAlone setup.nodes setup.node next (reply_acts others)

      by_answer : (x : Option Answer) → answer h ≡ x → Rest → IsRunAlone setup.nodes setup.node s (reply_acts others ++ reply_with h x)
      by_answer None is rest =
          run_more setup.nodes setup.node s (reply_acts others) [] (rest s works (λ it among. waits it (inr among))
          (λ it with among. fits it with (inr among))) tt
      by_answer (Some it) is rest =
          run_more setup.nodes setup.node s (reply_acts others) (Replies (ticket_of h) (id_of h) it ∷ [])
          (rest (after_alone setup.node s (Replies (ticket_of h) (id_of h) it)) (record { least = works.least; most = works.most; up = works.up })
          (λ x among. filter_in (other_than (ticket_of h)) s.actor.waiting x.waiting (waits x (inr among))
          (is_other x.waiting (ticket_of h) (λ same. let less = below_in (ticket_of h) others ascends.0 x among in absurd (omega arith))))
          (λ x with among answers ws. fits x with (inr among) answers ws)) (
            record {
              least = works.least;
              most = works.most;
              up = works.up;
              needs = record {
                asked = record { waiting = h.waiting; waits = waits h (inl refl); ticket_is = refl; about = refl };
                fits = fits h it (inl refl) is s.actor.waiting;
              };
            },
            tt,
          )

-- ---- what is not answered

fits_any : (nodes node : ℕ) (a : Actor) (w : Waiting) (request : Request) (it : Answer) → request ≡ w.request → FitsRequest nodes node a w request it →
    IsAnswer nodes node a w it
fits_any nodes node a w (Submit id message) TooLate is fits = absurd fits
fits_any nodes node a w (Query id account source) TooLate is fits = absurd fits
fits_any nodes node a w (Cancel id account source destination) TooLate is fits = absurd fits
fits_any nodes node a w request Accepted is fits = subst (λ (r : Request). FitsRequest nodes node a w r Accepted) is fits
fits_any nodes node a w request (Shown chain) is fits = subst (λ (r : Request). FitsRequest nodes node a w r (Shown chain)) is fits
fits_any nodes node a w request (Removed chain) is fits = subst (λ (r : Request). FitsRequest nodes node a w r (Removed chain)) is fits
fits_any nodes node a w request (Keeps chain) is fits = subst (λ (r : Request). FitsRequest nodes node a w r (Keeps chain)) is fits
fits_any nodes node a w request NotOwner is fits = subst (λ (r : Request). FitsRequest nodes node a w r NotOwner) is fits
fits_any nodes node a w request (NotMatched chain) is fits = subst (λ (r : Request). FitsRequest nodes node a w r (NotMatched chain)) is fits
fits_any nodes node a w request Unknown is fits = subst (λ (r : Request). FitsRequest nodes node a w r Unknown) is fits

idle_answer : (kind : Kind) (older : Option Final) (chain : List Decree) → IsIdleKind kind → cancel_answer (final_by kind older) kind chain ≡ None
idle_answer (Taken message) older chain idle = refl
idle_answer (Attempt number) older chain idle = absurd idle
idle_answer (Failed error) older chain idle = refl
idle_answer (Fate final error) older chain idle = absurd idle
idle_answer Told older chain idle = absurd idle

-- a cancel_sm that is settled waits while the message is idle
cancel_open : (id : ℕ) (taken : Submission) (newest : Decree) (older : List Decree) (reached settled : Bool) (request : Request) → settled ≡ true →
    taken_in (newest ∷ older) ≡ Some taken →
    Cancels request id taken → IsIdleKind newest.kind → answer_by (Some (newest ∷ older)) reached settled request ≡ None
cancel_open id taken newest older reached settled (Submit other message) is taking cancels idle = absurd cancels
cancel_open id taken newest older reached settled (Query other account source) is taking cancels idle = absurd cancels
cancel_open id taken newest older reached settled (Cancel other account source destination) is taking cancels idle =
    ap (λ (b : Bool). if b then cancel_decided account source destination (newest ∷ older) (taken_in (newest ∷ older)) else None) is
    ∙ ap (cancel_decided account source destination (newest ∷ older)) taking
    ∙ ap (λ (b : Bool). if b then cancel_answer_of (newest ∷ older) else Some (NotMatched (newest ∷ older)))
    ((match_decides taken account source destination).1 cancels.1)
    ∙ idle_answer newest.kind (final_in older) (newest ∷ older) idle

pub cancels_of : (request : Request) (id : ℕ) (taken : Submission) → Cancels request id taken → id_in request ≡ id
cancels_of (Submit other message) id taken cancels = absurd cancels
cancels_of (Query other account source) id taken cancels = absurd cancels
cancels_of (Cancel other account source destination) id taken cancels = cancels.0

-- ---- by what is kept

module _ (setup : Setup) (k : Kept) (s : Node) (agrees : Agrees setup k s) (works : IsAtWork setup s) (answer : Held → Option Answer)
    (is : (h : Held) → In h k.held → answer h ≡ answer_to setup.nodes (known_for k h) h) where
  abbrev ascends : Ascend k.held
  ascends = ascend_from k.held agrees.tickets

  abbrev acts : List Act
  acts = reply_acts answer k.held

  abbrev left : List Held
  left = filter (waits_on answer) k.held

  abbrev Due : Act → Type 0
  Due = DueToReply setup.nodes setup.node s.actor

  due_only : (act : Act) → In act acts → Due act
  due_only act is_in =
      let it = replied_in answer k.held act is_in in
      subst Due (sym it.is) (to_answer setup k s agrees (ticket_of it.request) (id_of it.request) it.with (record {
        request = it.request;
        among = it.among;
        ticket_is = refl;
        about = refl;
        answers = sym (is it.request it.among) ∙ it.answers;
      }))

  due_all : (act : Act) → Due act → In act acts
  due_all (Replies ticket id with) due =
      let it = answered_in setup k s agrees ticket id with due in
      subst₂ (λ (n i : ℕ). In (Replies n i with) acts) it.ticket_is it.about
      (in_replied answer k.held it.request with it.among (is it.request it.among ∙ it.answers))
  due_all act due = absurd due

  pub replies_due : AreDue Due acts
  replies_due = record { each = λ act. (due_only act, due_all act); order = replies_fall answer k.held ascends }

  pub replies_run : IsRunAlone setup.nodes setup.node s acts
  replies_run = run_replies answer setup s k.held ascends works
      (λ h among. subst (λ (ws : List Waiting). In h.waiting ws) agrees.waiting (waits_among k.held h among))
      (λ h it among answers ws.
      let a = record s.actor { waiting = ws } in
      fits_any setup.nodes setup.node a h.waiting h.waiting.request it refl
      (subst (λ (x : Option Answer). AnswerIs x (FitsRequest setup.nodes setup.node a h.waiting h.waiting.request)) (sym (is h among) ∙ answers)
      (answer_is setup.nodes setup.node a h (agrees.told h among) h.waiting.request refl (known_for k h) (agrees.message (id_of h)).heard.known)))

  pub replies_lead : reached_alone setup.node s acts ≡ waits setup s (map (λ h. h.waiting) left)
  replies_lead =
      reached_replies answer setup.node s k.held
      ∙ ap (waits setup s) (ap (without answer k.held) (sym agrees.waiting) ∙ without_all answer k.held ascends)

  -- ---- the ground of rounds that run stays

  unanswered_in : (h : Held) → In h k.held → answer h ≡ None → In h.waiting (map (λ it. it.waiting) left)
  unanswered_in h among none = waits_among left h (filter_in (waits_on answer) k.held h among (ap is_none none))

  found : (w : Waiting) → In w s.actor.waiting → IsKeptAs k.held w
  found w waits = kept_as k.held w (subst (λ (ws : List Waiting). In w ws) (sym agrees.waiting) waits)

  -- of a round for a first chain nothing is known yet
  none_known : (id : ℕ) (r : Round) (only : Decree) → IsRound setup.nodes setup.node s id r → r.own ≡ only ∷ [] → r.slot ≡ slot_of id r.own →
      (known : Option (List Decree)) → IsKnown setup.nodes s.actor.received id known → known ≡ None
  none_known id r only running chain_is slot_is None knows = refl
  none_known id r only running chain_is slot_is (Some chain) knows =
      let place : r.slot.place ≡ 0 = ap (λ (x : Slot). x.place) slot_is ∙ ap (λ (c : List Decree). pred (length c)) chain_is in
      absurd (running.running.short (record {
        chain = chain;
        known = subst (λ (i : ℕ). Knows setup.nodes s.actor.received i chain) (sym running.about) knows;
        far = omega arith;
      }))

  submit_waits : (id : ℕ) (r : Round) (only : Decree) → IsRound setup.nodes setup.node s id r → r.own ≡ only ∷ [] → r.slot ≡ slot_of id r.own →
      (h : Held) (message : Submission) → In h k.held → h.waiting.request ≡ Submit id message → answer h ≡ None
  submit_waits id r only running chain_is slot_is h message among submits =
      let about : id_of h ≡ id = ap id_in submits in
      let none : known_for k h ≡ None = ap (λ (i : ℕ). (message_at k i).known) about
      ∙ none_known id r only running chain_is slot_is (message_at k id).known (agrees.message id).heard.known in
      is h among
      ∙ ap (λ (known : Option (List Decree)). answer_to setup.nodes known h) none
      ∙ ap (answer_by None (is_settled setup.nodes None h) h.waiting.settled) submits

  cancel_waits : (id : ℕ) (newest : Decree) (older : List Decree) (taken : Submission) → Knows setup.nodes s.actor.received id (newest ∷ older) → (h : Held) →
      In h k.held →
      h.waiting.settled ≡ true → taken_in (newest ∷ older) ≡ Some taken → Cancels h.waiting.request id taken → IsIdleKind newest.kind → answer h ≡ None
  cancel_waits id newest older taken knows h among settled taking cancels idle =
      let about : id_of h ≡ id = cancels_of h.waiting.request id taken cancels in
      let some : known_for k h ≡ Some (newest ∷ older) =
      ap (λ (i : ℕ). (message_at k i).known) about ∙ known_is setup.nodes id s.actor.received (message_at k id).known (newest ∷ older)
      (agrees.message id).heard.known knows in
      is h among
      ∙ ap (λ (known : Option (List Decree)). answer_to setup.nodes known h) some
      ∙ cancel_open id taken newest older (is_settled setup.nodes (Some (newest ∷ older)) h) h.waiting.settled h.waiting.request settled taking cancels idle

  keeps_ground : (id : ℕ) (r : Round) → IsRound setup.nodes setup.node s id r → r.slot ≡ slot_of id r.own → (own : List Decree) → r.own ≡ own →
      IsBehind setup.nodes s.actor.received id (StandsAt s r.slot r.own) own →
      StandsAt s r.slot r.own ⊎ KeepsGround setup s (map (λ h. h.waiting) left) id r.own
  keeps_ground id r running slot_is [] chain_is behind = inr (record {
    first = λ w message only also waits submits. let none : [] ≡ only ∷ [] = sym chain_is ∙ also in absurd (cc);
    cancelled = λ w next newest older taken also waits settled taking cancels idle. let none : [] ≡ next ∷ newest ∷ older = sym chain_is ∙ also in absurd (cc);
  })
  keeps_ground id r running slot_is (only ∷ []) chain_is behind = inr (record {
    first = λ w message of also waits submits.
        let kept = found w waits in
        subst (λ (x : Waiting). In x (map (λ it. it.waiting) left)) kept.same
        (unanswered_in kept.request kept.among
        (submit_waits id r only running chain_is slot_is kept.request message kept.among (ap (λ (x : Waiting). x.request) kept.same ∙ submits)));
    cancelled = λ w next newest older taken also waits settled taking cancels idle. let none : only ∷ [] ≡ next ∷ newest ∷ older = sym chain_is ∙ also in
        absurd (cc);
  })
  keeps_ground id r running slot_is (next ∷ newest ∷ older) chain_is (inl stood) = inl stood
  keeps_ground id r running slot_is (next ∷ newest ∷ older) chain_is (inr knows) = inr (record {
    first = λ w message only also waits submits. let none : next ∷ newest ∷ older ≡ only ∷ [] = sym chain_is ∙ also in absurd (cc);
    cancelled = λ w first second others taken also waits settled taking cancels idle.
        let kept = found w waits in
        let same : next ∷ newest ∷ older ≡ first ∷ second ∷ others = sym chain_is ∙ also in
        let behind : second ∷ others ≡ newest ∷ older = cc in
        subst (λ (x : Waiting). In x (map (λ it. it.waiting) left)) kept.same
        (unanswered_in kept.request kept.among
        (cancel_waits id second others taken (subst (Knows setup.nodes s.actor.received id) (sym behind) knows) kept.request kept.among
        (ap (λ (x : Waiting). x.settled) kept.same ∙ settled) taking (subst (λ (x : Waiting). Cancels x.request id taken) (sym kept.same) cancels) idle));
  })

  stays : (id : ℕ) (round : Option Round) → IsKeptRound setup.nodes setup.node s id round → StaysFree setup s (map (λ h. h.waiting) left) id round
  stays id None none = tt
  stays id (Some r) running = elim running.free [
    | inl stood ↦ inl stood
    | inr own ↦ keeps_ground id r running own.0 r.own refl running.behind
  ]

  pub replied_agrees : Agrees setup (record k { held = left }) (waits setup s (map (λ h. h.waiting) left))
  replied_agrees = agrees_waits setup k s left agrees (λ id. stays id (message_at k id).round (agrees.message id).round)
      (λ h among. agrees.told h (in_filter (waits_on answer) k.held h among))
      (increasing_from left (ascend_kept (waits_on answer) k.held ascends))
      (λ h among. agrees.given h (in_filter (waits_on answer) k.held h among))
