-- A round of a node by itself: its Prepare, its promise, its Propose and its vote, and the chain that is known then.
use Rattle.std.proofs.Common.{◌≡◌, ℕ, ◌<◌, true, List, [], ◌∷◌, get_or, length, map, Option, Some, None, refl, ap, ◌∙◌, arith, false, Bool}
use Rattle.std.specs.Prelude.{nat_le, nat_lt}
use Rattle.std.specs.Option.{option_or}
use Rattle.std.proofs.lemmas.Bool.{le-leb, lt-ltb}
use Rattle.mc_model.specs.message.Decree.{Decree}
use Rattle.mc_model.specs.synod.OneSlot.{Vote, vote_at}
use Rattle.mc_model.specs.synod.Packet.{Packet, Prepare, Promise, Propose, Slot, Voted, slot_at}
use Rattle.mc_model.specs.synod.Acceptor.{SlotRecord, after_vote, blank}
use Rattle.mc_model.specs.node.Input.{Delivery}
use Rattle.mc_model.specs.node.Setup.{Setup}
use Rattle.mc_model.specs.node.Outcome.{Outcome}
use Rattle.node_model.specs.Message.{Message, Round}
use Rattle.node_model.specs.Kept.{Held, Kept, message_at, saved, with_message}
use Rattle.node_model.specs.Learner.{heard, is_shorter}
use Rattle.node_model.specs.Outputs.{sends}
use Rattle.node_model.specs.Packets.{answered_then, known_then, settled_for, start_known}
use Rattle.node_model.specs.Proposer.{Start, started, unless_reached}
use Rattle.node_model.specs.Starts.{delete_for, tell_for}
use Rattle.node_model.specs.Stepped.{stepped}
use Rattle.node_model.proofs.Places.{message_here}
use Rattle.table_laws.specs.Alone.{alone}
use Rattle.table_laws.specs.Tables.{known_as, extended}
use Rattle.table_laws.specs.Resting.{HasVotes, IsAtRest, IsFresh, IsTaken}
use Rattle.table_laws.proofs.Frames.{IsSameBut, message_saved, record_at_other, same_saved, same_with, votes_as, fresh_as}
use Rattle.mc_parts.proofs.Membership.{slot_self, with_here}
use Rattle.table_laws.proofs.Deliveries.{begun_round, prepare_delivered, promise_delivered, promised_round, propose_delivered, voted_delivered}

-- A round for the next decree on a chain that is known: it, and the record of its slot.
pub record IsUnderWay (id : ℕ) (old : List Decree) (k : Kept) (round : Option Round) (here : SlotRecord) : Type 0 where
  pub known : (message_at k id).known ≡ known_as old
  pub round_is : (message_at k id).round ≡ round
  pub votes : HasVotes k.records id old
  pub here_is : k.records (slot_at id (length old)) ≡ here
  pub ungranted : (message_at k id).granted (length old) ≡ false
  pub unclosed : (message_at k id).closed (length old) ≡ None
  pub beyond : (place : ℕ) → length old < place → IsFresh k id place

-- of what is known the next decree is longer
is_longer : (old : List Decree) (decree : Decree) → is_shorter (known_as old) (decree ∷ old) ≡ true
is_longer [] decree = refl
is_longer (newest ∷ older) decree = lt-ltb (length older) (length (newest ∷ older)) (omega arith)

module _ (first validity : ℕ) (id : ℕ) (old : List Decree) (decree : Decree) (ballot : ℕ) where
  abbrev setup : Setup
  setup = alone first validity

  abbrev slot : Slot
  slot = slot_at id (length old)

  abbrev chain : List Decree
  chain = decree ∷ old

  abbrev vote : Vote
  vote = vote_at ballot chain

  abbrev begun : Option Round
  begun = Some (begun_round slot ballot chain)

  abbrev promised : Option Round
  promised = Some (promised_round slot ballot chain)

  abbrev promise : SlotRecord
  promise = record { promised = ballot; vote = None }

  pub under_with : (k : Kept) (m : Message) (round new : Option Round) (here : SlotRecord) → IsUnderWay id old k round here → m.known ≡
      (message_at k id).known →
      ((place : ℕ) → length old < place → get_or m.seen place 0 ≡ get_or (message_at k id).seen place 0) → m.round ≡ new → m.granted ≡
      (message_at k id).granted →
      m.closed ≡ (message_at k id).closed → IsUnderWay id old (with_message k id m) new here
  under_with k m round new here under known seen round_is granted closed = record {
    known = ap (λ (x : Message). x.known) (message_here k id m) ∙ (known ∙ under.known);
    round_is = ap (λ (x : Message). x.round) (message_here k id m) ∙ round_is;
    votes = under.votes;
    here_is = under.here_is;
    ungranted = ap (λ (x : Message). x.granted (length old)) (message_here k id m) ∙ (ap (λ (f : ℕ → Bool). f (length old)) granted ∙ under.ungranted);
    unclosed = ap (λ (x : Message). x.closed (length old)) (message_here k id m) ∙ (ap (λ (f : ℕ → Option Outcome). f (length old)) closed ∙ under.unclosed);
    beyond = λ place above. record {
      record_is = (under.beyond place above).record_is;
      seen = ap (λ (x : Message). get_or x.seen place 0) (message_here k id m) ∙ (seen place above ∙ (under.beyond place above).seen);
      ungranted = ap (λ (x : Message). x.granted place) (message_here k id m) ∙ (ap (λ (f : ℕ → Bool). f place) granted ∙ (under.beyond place above).ungranted);
      unclosed = ap (λ (x : Message). x.closed place) (message_here k id m) ∙
          (ap (λ (f : ℕ → Option Outcome). f place) closed ∙ (under.beyond place above).unclosed);
    };
  }

  under_saved : (k : Kept) (r : SlotRecord) (round : Option Round) (here : SlotRecord) → IsUnderWay id old k round here →
      IsUnderWay id old (saved k slot r) round r
  under_saved k r round here under = record {
    known = ap (λ (x : Message). x.known) (message_saved k slot r id) ∙ under.known;
    round_is = ap (λ (x : Message). x.round) (message_saved k slot r id) ∙ under.round_is;
    votes = votes_as k.records (saved k slot r).records id old (λ place below. at_other place (λ same. omega arith)) under.votes;
    here_is = with_here k.records slot r;
    ungranted = ap (λ (x : Message). x.granted (length old)) (message_saved k slot r id) ∙ under.ungranted;
    unclosed = ap (λ (x : Message). x.closed (length old)) (message_saved k slot r id) ∙ under.unclosed;
    beyond = λ place above.
        fresh_as k (saved k slot r) id place (message_saved k slot r id) (at_other place (λ same. omega arith)) (under.beyond place above);
  }
    where
      at_other : (place : ℕ) → (place ≡ length old → ⊥) → (saved k slot r).records (slot_at id place) ≡ k.records (slot_at id place)
      at_other place apart = record_at_other k.records slot (slot_at id place) r apart

  -- ---- a packet leads on to the next

  pub record Advances (k : Kept) (packet next : Packet) (round : Option Round) (here : SlotRecord) : Type 0 where
    pub new : Kept
    pub step : stepped setup k (Delivery packet) ≡ sends new (next ∷ []) [] []
    pub under : IsUnderWay id old new round here
    pub same : IsSameBut id k new
    pub held : new.held ≡ k.held

  pub prepare_advances : (k : Kept) → k.up ≡ true → nat_lt 0 ballot ≡ true → IsUnderWay id old k begun blank →
      Advances k (Prepare 1 slot ballot) (Promise 1 slot ballot None) begun promise
  prepare_advances k up above under = record {
    new = saved k slot promise;
    step = prepare_delivered first validity k up slot ballot under.here_is above;
    under = under_saved k promise begun blank under;
    same = same_saved k slot promise;
    held = refl;
  }

  pub promise_advances : (k : Kept) → k.up ≡ true → IsUnderWay id old k begun promise →
      Advances k (Promise 1 slot ballot None) (Propose 1 slot vote) promised promise
  promise_advances k up under = record {
    new = with_message k id (record (message_at k id) { round = promised });
    step = promise_delivered first validity k up slot ballot chain under.round_is;
    under = under_with k (record (message_at k id) { round = promised }) begun promised promise under refl (λ place above. refl) refl refl refl;
    same = same_with k id (record (message_at k id) { round = promised }) k.held;
    held = refl;
  }

  pub propose_advances : (k : Kept) → k.up ≡ true → IsUnderWay id old k promised promise →
      Advances k (Propose 1 slot vote) (Voted 1 slot vote) promised (after_vote vote)
  propose_advances k up under = record {
    new = saved k slot (after_vote vote);
    step = propose_delivered first validity k up slot ballot chain under.here_is;
    under = under_saved k (after_vote vote) promised promise under;
    same = same_saved k slot (after_vote vote);
    held = refl;
  }

  -- ---- its chain becomes known

  abbrev pub learned : Kept → Message
  learned k = heard (message_at k id) 1 vote

  abbrev pub known_with : Kept → List Held → Kept
  known_with k held = record (with_message k id (known_then (learned k) chain)) { held = held }

  abbrev pub settled_held : Kept → List Held
  settled_held k = map (settled_for 1 id chain) k.held

  idle_then : (round : Option Round) → round ≡ promised → unless_reached chain round ≡ None
  idle_then round is =
      let below : nat_le (length old) (length old) ≡ true = le-leb (length old) (length old) (omega arith) in rw (is, below) refl

  -- the message is at rest, whoever still waits
  pub known_rests : (k : Kept) (held : List Held) → IsUnderWay id old k promised (after_vote vote) → IsTaken k id chain →
      IsAtRest (known_with k held) id (extended old decree)
  known_rests k held under taken = record {
    ready = record {
      known = ap (λ (x : Message). x.known) here;
      idle = ap (λ (x : Message). x.round) here ∙ idle_then (message_at k id).round under.round_is;
      votes = ((ballot, ap (λ (r : SlotRecord). r.vote) under.here_is), under.votes);
      beyond = λ place above.
          let fresh = under.beyond place (omega (arith, above)) in
          record {
            record_is = fresh.record_is;
            seen = ap (λ (x : Message). get_or x.seen place 0) here ∙ fresh.seen;
            ungranted = ap (λ (x : Message). x.granted place) here ∙ fresh.ungranted;
            unclosed = ap (λ (x : Message). x.closed place) here ∙ fresh.unclosed;
          };
    };
    taken = record { message = taken.message; taken = taken.taken; given = taken.given };
    granted = ap (λ (x : Message). x.granted (length old)) here ∙ under.ungranted;
    unclosed = ap (λ (x : Message). x.closed (length old)) here ∙ under.unclosed;
  }
    where
      here : message_at (known_with k held) id ≡ known_then (learned k) chain
      here = message_here k id (known_then (learned k) chain)

  pub known_same : (k : Kept) (held : List Held) → IsSameBut id k (known_with k held)
  known_same k held = same_with k id (known_then (learned k) chain) held

  -- the start of its Told, if that is due
  abbrev pub told_start : Kept → Option Start
  told_start k = tell_for setup k (known_as old) chain

  -- its vote is delivered, and no deletion is to be started then
  pub vote_ends : (k : Kept) → k.up ≡ true → IsUnderWay id old k promised (after_vote vote) → IsTaken k id chain →
      delete_for setup (known_with k (settled_held k)) id (settled_held k) (Some chain) ≡ None → (start : Option Start) →
      told_start (known_with k (settled_held k)) ≡ start →
      stepped setup k (Delivery (Voted 1 slot vote))
      ≡ answered_then setup (known_with k (settled_held k)) id (known_as old) chain (started setup (known_with k (settled_held k)) id start)
  vote_ends k up under taken none start is =
      voted_delivered first validity k up slot vote (slot_self slot) taken.given
      (ap (λ (o : Option (List Decree)). is_shorter o chain) under.known ∙ is_longer old decree)
      ∙ (ap (λ (before : Option (List Decree)). answered_then setup (known_with k (settled_held k)) id before chain
      (started setup (known_with k (settled_held k)) id (start_known setup (known_with k (settled_held k)) id before chain))) under.known
      ∙ ap (λ (it : Option Start). answered_then setup (known_with k (settled_held k)) id (known_as old) chain
      (started setup (known_with k (settled_held k)) id it))
      (ap (λ (deletes : Option Start). option_or deletes (told_start (known_with k (settled_held k)))) none ∙ is))
