-- The step of a node to which a Prepare, a Propose or a question comes.
use Rattle.std.proofs.Common.{◌≡◌, ℕ, Bool, true, false, List, [], ◌∷◌, ◌++◌, Option, Some, None, IsSome, refl, sym, ap, subst, ◌∙◌, inl, inr}
use Rattle.std.specs.Prelude.{◌==◌, ◌&&◌, if◌then◌else◌, reverse}
use Rattle.std.specs.Ordering.{nat_cmp}
use Rattle.std.specs.Map.{lookup}
use Rattle.std.specs.BTreeMap.{insert_entry, is_at}
use Rattle.std.proofs.lemmas.Bool.{cases_Bool, eqb-false, eqb-true}
use Rattle.mc_model.specs.message.Decree.{Decree}
use Rattle.mc_model.specs.synod.Acceptor.{Records, SlotRecord, with_record}
use Rattle.mc_model.specs.synod.OneSlot.{Vote}
use Rattle.mc_model.specs.synod.Packet.{Name, Packet, Slot, Tell, TopVote, same_slot}
use Rattle.mc_model.specs.node.Act.{Act, Asks, Prepares, Proposes, Receives, Replies, Reports, Settles}
use Rattle.mc_model.specs.node.Actor.{Actor}
use Rattle.mc_model.specs.node.Alone.{MayAlone, Node, StandsAt, began_by}
use Rattle.mc_model.specs.node.Causes.{Causes, CausesDelete, CausesTold, CausesFollow}
use Rattle.mc_model.specs.node.Concerns.{Concerns}
use Rattle.mc_model.specs.node.Core.{AcceptorReplies, IsCore, IsRefusal}
use Rattle.mc_model.specs.node.Due.{AreDue, AreDueOnce}
use Rattle.mc_model.specs.node.Effect.{actor_by, did, packets_by, records_by, saved as saved_by}
use Rattle.mc_model.specs.node.Input.{Delivery, Input, Refusal}
use Rattle.mc_model.specs.node.Outputs.{receipts_in, replies_in}
use Rattle.mc_model.specs.node.Phases.{DueToAbandon, DueToAsk, DueToEnd, DueToPrepare, DueToPropose, DueToReply, DueToReport, DueToSettle}
use Rattle.mc_model.specs.node.Setup.{Setup}
use Rattle.mc_model.specs.node.Step.{IsExact}
use Rattle.node_laws.proofs.invariant.Slots.{slot_decides}
use Rattle.mc_parts.proofs.Tellings.{unannounced}
use Rattle.node_model.specs.Acceptor.{Judgement}
use Rattle.node_model.specs.Kept.{Kept, message_at, saved}
use Rattle.node_model.specs.Outputs.{leaves, sends}
use Rattle.node_model.specs.Packets.{judged}
use Rattle.node_model.specs.Stepped.{refused_with, stepped, stepped_down, stepped_up}
use Rattle.node_laws.specs.Stands.{IsAside, IsCoherent, IsMessage, IsPlaced, Stands}
use Rattle.node_laws.specs.Steps.{IsAtWork, StepsAs}
use Rattle.node_model.proofs.Records.{same_record}
use Rattle.node_laws.proofs.invariant.Coherence.{aside_fits, coherent_heard}
use Rattle.node_laws.proofs.invariant.Aside.{held_still, knows_before, later, message_still, promise_before, quiet_still, stands_still}
use Rattle.node_model.proofs.Places.{elsewhere, here, message_elsewhere, message_here}
use Rattle.mc_laws.proofs.story.FirstStep.{none_due, none_due_once}
use Rattle.shelf.proofs.Entries.{still_ascends}

-- a packet is no Tell
abbrev pub TellsNobody : Packet → Type 0
TellsNobody packet = (teller : ℕ) (name : Name) (told : Option TopVote) → Tell teller name told ≡ packet → ⊥

-- a round is started by a Tell alone, and by one that concerns the node
pub follows_concern : (nodes node : ℕ) (before a : Actor) (packet : Packet) (id place : ℕ) (chain : List Decree) →
    CausesFollow nodes node before a (Delivery packet) id place chain →
    Concerns nodes node before packet
follows_concern nodes node before a (Tell teller name told) id place chain follows = follows.0
follows_concern nodes node before a packet id place chain follows = absurd follows

pub follows_none : (nodes node : ℕ) (before a : Actor) (packet : Packet) (id place : ℕ) (chain : List Decree) → TellsNobody packet →
    CausesFollow nodes node before a (Delivery packet) id place chain → ⊥
follows_none nodes node before a (Tell teller name told) id place chain none follows = none teller name told refl
follows_none nodes node before a packet id place chain none follows = follows

module _ (setup : Setup) (s : Node) (packet : Packet) (aside : IsAside packet) (k : Kept) (stands : Stands setup k s) where
  abbrev pub heard : Node
  heard = later setup s s.records packet aside

  settles_none : (act : Act) → DueToSettle setup.nodes setup.node heard.actor act → ⊥
  settles_none (Settles ticket) due = (quiet_still setup s s.records packet aside stands.quiet).settled ticket due
  settles_none act due = due

  ends_none : (act : Act) → DueToEnd (Delivery packet) heard.actor act → ⊥
  ends_none act due = due

  asks_none : (act : Act) → DueToAsk setup.nodes setup.node s.actor heard.actor (Delivery packet) act → ⊥
  asks_none (Asks id ticket) due = due
  asks_none act due = due

  abandons_none : (records : Records) (act : Act) → DueToAbandon setup.nodes setup.node heard.actor records (Delivery packet) act → ⊥
  abandons_none records act due = due

  deletes_none : (id place : ℕ) (chain : List Decree) → CausesDelete setup.nodes setup.node s.actor heard.actor id place chain → ⊥
  deletes_none id place chain deletes =
      let cancelled = deletes.deletes.cancelled in
      deletes.new
      (record { waiting = cancelled.waiting; waits = cancelled.waits; ticket_is = refl; settled = cancelled.settled })
      (knows_before setup.nodes setup.node s.actor packet aside id _ deletes.deletes.further.known)

  causes_none : (id place : ℕ) (chain : List Decree) → Causes setup.nodes setup.node s.actor heard.actor (Delivery packet) id place chain → ⊥
  causes_none id place chain (inl take) = take
  causes_none id place chain (inr (inl close)) = close
  causes_none id place chain (inr (inr (inl follows))) = follows_none setup.nodes setup.node s.actor heard.actor packet id place chain aside.tells follows
  causes_none id place chain (inr (inr (inr (inl deletes)))) = deletes_none id place chain deletes
  causes_none id place chain (inr (inr (inr (inr tells)))) = unannounced setup.nodes setup.node s.actor heard.actor id place chain
      (knows_before setup.nodes setup.node s.actor packet aside id) tells

  prepares_none : (records : Records) (act : Act) → DueToPrepare setup.nodes setup.node s.actor heard.actor records (Delivery packet) act → ⊥
  prepares_none records (Prepares slot ballot chain) due = causes_none slot.id slot.place chain due.0
  prepares_none records act due = due

  proposes_none : (act : Act) → DueToPropose setup.nodes setup.node s.actor heard.actor act → ⊥
  proposes_none (Proposes slot vote) due =
      let promised = due.0.promised in
      due.0.new (record {
        test = promised.test;
        most = promised.most;
        each = λ acceptor least most passes.
            let promise = promised.each acceptor least most passes in
            (promise.0, promise_before setup.nodes setup.node s.actor packet aside acceptor vote.ballot slot promise.0 promise.1);
      })
  proposes_none act due = due

  replies_none : (act : Act) → DueToReply setup.nodes setup.node heard.actor act → ⊥
  replies_none (Replies ticket id answer) due = (quiet_still setup s s.records packet aside stands.quiet).answered ticket id answer due
  replies_none act due = due

  reports_none : (act : Act) → DueToReport setup.nodes setup.node s.actor heard.actor act → ⊥
  reports_none (Reports id chain) due =
      due.new (knows_before setup.nodes setup.node s.actor packet aside id chain due.known)
  reports_none act due = due

  -- the packet is received, and the acceptor answers by one act that changes nothing else of the actor
  exact : (core : List Act) → did setup.node s.actor core ≡ heard.actor → IsCore setup s.actor s.records (Delivery packet) core →
      IsExact setup s.actor s.records (Delivery packet) core
  exact core is core_is = record {
    core = core;
    settles = [];
    late = [];
    asks = [];
    abandons = [];
    prepares = [];
    proposes = [];
    replies = [];
    reports = [];
    acts_are = refl;
    core_is = core_is;
    settled = subst (λ (x : Actor). AreDue (DueToSettle setup.nodes setup.node x) []) (sym is) (none_due _ settles_none);
    ended = subst (λ (x : Actor). AreDue (DueToEnd (Delivery packet) x) []) (sym is) (none_due _ ends_none);
    asked = subst (λ (x : Actor). AreDue (DueToAsk setup.nodes setup.node s.actor x (Delivery packet)) []) (sym is) (none_due _ asks_none);
    abandoned = subst (λ (x : Actor). AreDue (DueToAbandon setup.nodes setup.node x (saved_by s.records core) (Delivery packet)) []) (sym is)
        (none_due _ (abandons_none (saved_by s.records core)));
    prepared = subst (λ (x : Actor). AreDueOnce (DueToPrepare setup.nodes setup.node s.actor x (saved_by s.records core) (Delivery packet)) []) (sym is)
        (none_due_once _ (prepares_none (saved_by s.records core)));
    proposed = subst (λ (x : Actor). AreDueOnce (DueToPropose setup.nodes setup.node s.actor x) []) (sym is) (none_due_once _ proposes_none);
    replied = subst (λ (x : Actor). AreDue (DueToReply setup.nodes setup.node x) []) (sym is) (none_due _ replies_none);
    reported = subst (λ (x : Actor). AreDue (DueToReport setup.nodes setup.node s.actor x) []) (sym is) (none_due _ reports_none);
  }

  -- ---- what is kept stands for it then

  pub same_message : (slot : Slot) (new : SlotRecord) (id : ℕ) → message_at (saved k slot new) id ≡ message_at k id
  same_message slot new id = elim (cases_Bool (id == slot.id)) [
    | inl same ↦
        let is = eqb-true id slot.id same in
        ap (message_at (saved k slot new)) is ∙ message_here k slot.id (message_at k slot.id) ∙ ap (message_at k) (sym is)
    | inr differs ↦ message_elsewhere k slot.id id (message_at k slot.id) (λ same. not_same same differs)
  ]
    where
      not_same : id ≡ slot.id → (id == slot.id) ≡ false → ⊥
      not_same same differs = eqb-false id slot.id differs same

  listed_still : (slot other : Slot) (new : SlotRecord) (vote : Vote) → (with_record k.records slot new other).vote ≡ Some vote →
      IsSome (lookup (is_at (nat_cmp other.id)) (insert_entry nat_cmp k.messages slot.id (message_at k slot.id)))
  listed_still slot other new vote voted = by_id (other.id == slot.id) refl
    where
      by_id : (same : Bool) → (other.id == slot.id) ≡ same → IsSome (lookup (is_at (nat_cmp other.id))
          (insert_entry nat_cmp k.messages slot.id (message_at k slot.id)))
      by_id true same =
          let is = eqb-true other.id slot.id same in
          subst (λ (i : ℕ). IsSome (lookup (is_at (nat_cmp i)) (insert_entry nat_cmp k.messages slot.id (message_at k slot.id)))) (sym is)
          (subst IsSome (sym (here slot.id (message_at k slot.id) k.messages)) refl)
      by_id false differs =
          let apart : other.id ≡ slot.id → ⊥ = eqb-false other.id slot.id differs in
          subst IsSome (sym (elsewhere slot.id (message_at k slot.id) other.id apart k.messages))
          (stands.agrees.listed other vote (ap (λ (b : Bool). (if b && (other.place == slot.place) then new else k.records other).vote) (sym differs) ∙ voted))

  placed_still : (slot other : Slot) (new : SlotRecord) (vote : Vote) → ((cast : Vote) → new.vote ≡ Some cast → IsPlaced slot cast) →
      (with_record k.records slot new other).vote ≡ Some vote → IsPlaced other vote
  placed_still slot other new vote fits = by_slot (same_slot other slot) refl
    where
      by_slot : (same : Bool) → same_slot other slot ≡ same → (if same then new else k.records other).vote ≡ Some vote → IsPlaced other vote
      by_slot true same voted = subst (λ (x : Slot). IsPlaced x vote) (sym ((slot_decides other slot).0 same)) (fits vote voted)
      by_slot false differs voted = stands.agrees.placed other vote voted

  pub stands_later : (slot : Slot) (chain : List Decree) → StandsAt s slot chain → StandsAt heard slot chain
  stands_later slot chain stood = stands_still setup s s.records packet aside slot chain stood

  voted_still : (slot other : Slot) (new : SlotRecord) (vote : Vote) → ((cast : Vote) → new.vote ≡ Some cast → StandsAt heard slot cast.chain) →
      (with_record k.records slot new other).vote ≡ Some vote → StandsAt heard other vote.chain
  voted_still slot other new vote stood = by_slot (same_slot other slot) refl
    where
      by_slot : (same : Bool) → same_slot other slot ≡ same → (if same then new else k.records other).vote ≡ Some vote → StandsAt heard other vote.chain
      by_slot true same voted = subst (λ (x : Slot). StandsAt heard x vote.chain) (sym ((slot_decides other slot).0 same)) (stood vote voted)
      by_slot false differs voted = stands_later other vote.chain (stands.agrees.voted other vote voted)

  coherent_still : IsCoherent setup.node heard.actor
  coherent_still = coherent_heard setup.node s.actor packet (aside_fits setup.node s.actor packet aside) stands.agrees.coherent

  pub stands_saved : (slot : Slot) (new : SlotRecord) (records : Records) → ((other : Slot) → with_record k.records slot new other ≡ records other) →
      ((cast : Vote) → new.vote ≡ Some cast → IsPlaced slot cast × StandsAt heard slot cast.chain) →
      Stands setup (saved k slot new) (later setup s records packet aside)
  stands_saved slot new records leaves fits = record {
    agrees = record {
      up = stands.agrees.up;
      incarnation = stands.agrees.incarnation;
      clock = stands.agrees.clock;
      serial = stands.agrees.serial;
      ticket = stands.agrees.ticket;
      records = leaves;
      message = λ id. subst (IsMessage setup (later setup s records packet aside) id) (sym (same_message slot new id))
          (message_still setup s records packet aside id (message_at k id) (stands.agrees.message id));
      waiting = stands.agrees.waiting;
      told = λ h is_in. held_still setup s records packet aside _ h (stands.agrees.told h is_in);
      tickets = stands.agrees.tickets;
      given = stands.agrees.given;
      listed = λ other vote voted. listed_still slot other new vote voted;
      ascends = still_ascends k.messages slot.id (message_at k slot.id) stands.agrees.ascends;
      placed = λ other vote voted. placed_still slot other new vote (λ cast is. (fits cast is).0) voted;
      voted = λ other vote voted. voted_still slot other new vote (λ cast is. (fits cast is).1) voted;
      coherent = coherent_still;
    };
    quiet = quiet_still setup s records packet aside stands.quiet;
  }

  -- ---- a step by one act that answers

  pub same_with : (slot : Slot) (new other_new : SlotRecord) → new ≡ other_new → (other : Slot) →
      with_record k.records slot new other ≡ with_record s.records slot other_new other
  same_with slot new other_new same other = λ i. if same_slot other slot then same i else stands.agrees.records other i

  pub unchanged : (slot other : Slot) → with_record k.records slot (k.records slot) other ≡ s.records other
  unchanged slot other = sym (same_record k.records slot other) ∙ stands.agrees.records other

  pub stands_heard : Stands setup k heard
  stands_heard = record {
    agrees = record {
      up = stands.agrees.up;
      incarnation = stands.agrees.incarnation;
      clock = stands.agrees.clock;
      serial = stands.agrees.serial;
      ticket = stands.agrees.ticket;
      records = stands.agrees.records;
      message = λ id. message_still setup s s.records packet aside id (message_at k id) (stands.agrees.message id);
      waiting = stands.agrees.waiting;
      told = λ h is_in. held_still setup s s.records packet aside _ h (stands.agrees.told h is_in);
      tickets = stands.agrees.tickets;
      given = stands.agrees.given;
      listed = stands.agrees.listed;
      ascends = stands.agrees.ascends;
      placed = stands.agrees.placed;
      voted = λ other vote voted. stands_later other vote.chain (stands.agrees.voted other vote voted);
      coherent = coherent_still;
    };
    quiet = quiet_still setup s s.records packet aside stands.quiet;
  }

  -- the act answers, and leaves nothing else of the actor changed
  pub record Answers (act : Act) (answer : Packet) : Type 0 where
    pub works : IsAtWork setup s
    pub concerned : Concerns setup.nodes setup.node s.actor packet
    pub stays : (x : Actor) → actor_by setup.node x act ≡ x
    pub began : began_by heard act ≡ s.began
    pub no_replies : replies_in (act ∷ Receives packet ∷ []) ≡ []
    pub no_receipts : receipts_in (act ∷ Receives packet ∷ []) ≡ []
    pub may : MayAlone setup.nodes setup.node heard act
    pub replies : AcceptorReplies s.records packet (act ∷ [])
    pub gives : packets_by setup.node heard.actor s.records act ≡ answer ∷ []

  pub answered_with : (act : Act) (answer : Packet) (kept : Kept) → Answers act answer →
      Stands setup kept (later setup s (records_by s.records act) packet aside) →
      StepsAs setup s (Delivery packet) (sends kept (answer ∷ []) [] [])
  answered_with act answer kept a after = record {
    acts = act ∷ Receives packet ∷ [];
    taken = record {
      run = (a.may, (record { least = a.works.least; most = a.works.most; up = a.works.up; needs = tt }, tt));
      exact = exact (act ∷ Receives packet ∷ []) (a.stays heard.actor)
          (inl (a.concerned, record { answer = act ∷ []; answered = a.replies; acts_are = refl }));
    };
    stands = subst (Stands setup kept)
        (λ i. record { actor = sym (a.stays heard.actor) i; records = records_by s.records act; began = sym a.began i })
        after;
    outputs = λ i. record {
      ticket = None;
      refused = None;
      packets = reverse (sym a.gives i ++ []);
      replies = reverse (sym a.no_replies i);
      receipts = reverse (sym a.no_receipts i);
      granted = None;
    };
  }

  pub answered : (act : Act) (judgement : Judgement) (slot : Slot) → Answers act judgement.answer →
      ((other : Slot) → with_record k.records slot judgement.after other ≡ records_by s.records act other) →
      ((cast : Vote) → judgement.after.vote ≡ Some cast → IsPlaced slot cast × StandsAt heard slot cast.chain) →
      StepsAs setup s (Delivery packet) (judged k slot judgement)
  answered act judgement slot a leaves fits =
      answered_with act judgement.answer (saved k slot judgement.after) a (stands_saved slot judgement.after (records_by s.records act) leaves fits)

-- ---- a step in which the actor does nothing

module _ (setup : Setup) (s : Node) (k : Kept) (stands : Stands setup k s) where
  idle_settles : (act : Act) → DueToSettle setup.nodes setup.node s.actor act → ⊥
  idle_settles (Settles ticket) due = stands.quiet.settled ticket due
  idle_settles act due = due

  idle_deletes : (id place : ℕ) (chain : List Decree) → CausesDelete setup.nodes setup.node s.actor s.actor id place chain → ⊥
  idle_deletes id place chain deletes =
      let cancelled = deletes.deletes.cancelled in
      deletes.new
      (record { waiting = cancelled.waiting; waits = cancelled.waits; ticket_is = refl; settled = cancelled.settled })
      deletes.deletes.further.known

  idle_tells : (id place : ℕ) (chain : List Decree) → CausesTold setup.nodes setup.node s.actor s.actor id place chain → ⊥
  idle_tells id place chain = unannounced setup.nodes setup.node s.actor s.actor id place chain (λ known knows. knows)

  idle_proposes : (act : Act) → DueToPropose setup.nodes setup.node s.actor s.actor act → ⊥
  idle_proposes (Proposes slot vote) due = due.0.new due.0.promised
  idle_proposes act due = due

  idle_replies : (act : Act) → DueToReply setup.nodes setup.node s.actor act → ⊥
  idle_replies (Replies ticket id answer) due = stands.quiet.answered ticket id answer due
  idle_replies act due = due

  idle_reports : (act : Act) → DueToReport setup.nodes setup.node s.actor s.actor act → ⊥
  idle_reports (Reports id chain) due = due.new due.known
  idle_reports act due = due

  -- by an input that does nothing itself, and asks, prepares, ends and gives up nothing
  idle_exact : (input : Input) → IsCore setup s.actor s.records input [] →
      ((act : Act) → DueToEnd input s.actor act → ⊥) →
      ((act : Act) → DueToAsk setup.nodes setup.node s.actor s.actor input act → ⊥) →
      ((act : Act) → DueToAbandon setup.nodes setup.node s.actor s.records input act → ⊥) →
      ((act : Act) → DueToPrepare setup.nodes setup.node s.actor s.actor s.records input act → ⊥) →
      IsExact setup s.actor s.records input []
  idle_exact input core ends asks abandons prepares = record {
    core = [];
    settles = [];
    late = [];
    asks = [];
    abandons = [];
    prepares = [];
    proposes = [];
    replies = [];
    reports = [];
    acts_are = refl;
    core_is = core;
    settled = none_due _ idle_settles;
    ended = none_due _ ends;
    asked = none_due _ asks;
    abandoned = none_due _ abandons;
    prepared = none_due_once _ prepares;
    proposed = none_due_once _ idle_proposes;
    replied = none_due _ idle_replies;
    reported = none_due _ idle_reports;
  }

  -- ---- a request that is refused at once

  refusal_asks : (status : ℕ) (act : Act) → DueToAsk setup.nodes setup.node s.actor s.actor (Refusal status) act → ⊥
  refusal_asks status (Asks id ticket) due = due
  refusal_asks status act due = due

  refusal_causes : (status id place : ℕ) (chain : List Decree) → Causes setup.nodes setup.node s.actor s.actor (Refusal status) id place chain → ⊥
  refusal_causes status id place chain (inl take) = take
  refusal_causes status id place chain (inr (inl close)) = close
  refusal_causes status id place chain (inr (inr (inl follows))) = follows
  refusal_causes status id place chain (inr (inr (inr (inl deletes)))) = idle_deletes id place chain deletes
  refusal_causes status id place chain (inr (inr (inr (inr tells)))) = idle_tells id place chain tells

  refusal_prepares : (status : ℕ) (act : Act) → DueToPrepare setup.nodes setup.node s.actor s.actor s.records (Refusal status) act → ⊥
  refusal_prepares status (Prepares slot ballot chain) due = refusal_causes status slot.id slot.place chain due.0
  refusal_prepares status act due = due

  pub refusal_steps : (status : ℕ) → IsAtWork setup s → IsRefusal s.actor status → StepsAs setup s (Refusal status) (stepped setup k (Refusal status))
  refusal_steps status works refusal = subst (StepsAs setup s (Refusal status)) (sym up) (record {
    acts = [];
    taken = record {
      run = tt;
      exact = idle_exact (Refusal status) (refusal, refl) (λ act due. due) (refusal_asks status) (λ act due. due) (refusal_prepares status);
    };
    stands = stands;
    outputs = refl;
  })
    where
      up : stepped setup k (Refusal status) ≡ refused_with k status
      up = ap (λ (up : Bool). if up then stepped_up setup k (Refusal status) else stepped_down setup k (Refusal status)) (stands.agrees.up ∙ works.up)

  -- ---- a packet that does not concern the node is ignored

  idle_asks : (packet : Packet) (act : Act) → DueToAsk setup.nodes setup.node s.actor s.actor (Delivery packet) act → ⊥
  idle_asks packet (Asks id ticket) due = due
  idle_asks packet act due = due

  idle_causes : (packet : Packet) → (Concerns setup.nodes setup.node s.actor packet → ⊥) → (id place : ℕ) (chain : List Decree) →
      Causes setup.nodes setup.node s.actor s.actor (Delivery packet) id place chain → ⊥
  idle_causes packet strange id place chain (inl take) = take
  idle_causes packet strange id place chain (inr (inl close)) = close
  idle_causes packet strange id place chain (inr (inr (inl follows))) =
      strange (follows_concern setup.nodes setup.node s.actor s.actor packet id place chain follows)
  idle_causes packet strange id place chain (inr (inr (inr (inl deletes)))) = idle_deletes id place chain deletes
  idle_causes packet strange id place chain (inr (inr (inr (inr tells)))) = idle_tells id place chain tells

  idle_prepares : (packet : Packet) → (Concerns setup.nodes setup.node s.actor packet → ⊥) → (act : Act) →
      DueToPrepare setup.nodes setup.node s.actor s.actor s.records (Delivery packet) act → ⊥
  idle_prepares packet strange (Prepares slot ballot chain) due = idle_causes packet strange slot.id slot.place chain due.0
  idle_prepares packet strange act due = due

  pub ignored : (packet : Packet) → (Concerns setup.nodes setup.node s.actor packet → ⊥) → StepsAs setup s (Delivery packet) (leaves k)
  ignored packet strange = record {
    acts = [];
    taken = record {
      run = tt;
      exact = idle_exact (Delivery packet) (inr (strange, refl)) (λ act due. due) (idle_asks packet) (λ act due. due) (idle_prepares packet strange);
    };
    stands = stands;
    outputs = refl;
  }
