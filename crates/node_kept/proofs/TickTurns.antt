-- What a tick makes of several messages, one after another.
use Rattle.std.proofs.Common.{◌≡◌, ◌⊎◌, ℕ, suc, ◌<◌, List, [], ◌∷◌, ◌++◌, map, Option, Some, None, refl, sym, ap, subst, ◌∙◌, inl}
use Rattle.std.proofs.Common.{inr, append_assoc, arith}
use Rattle.std.proofs.lemmas.List.{append-nil, map-append}
use Rattle.std.specs.Prelude.{IfOk, Ok, Err, Result, not, option_map}
use Rattle.std.specs.Box.{box_value}
use Rattle.std.specs.Map.{keys_of}
use Rattle.std.specs.Option.{unwrap_or}
use Rattle.mc_model.specs.synod.Lists.{In}
use Rattle.mc_model.specs.synod.Packet.{Packet, Slot, slot_at}
use Rattle.mc_model.specs.node.Reach.{Reach}
use Rattle.mc_model.specs.node.Setup.{Setup}
use Rattle.node_model.specs.Kept.{Kept, message_at, with_message}
use Rattle.node_model.specs.Message.{Message, unseen}
use Rattle.node_model.specs.Proposer.{Prepared}
use Rattle.node_model.specs.Rules.{first_rule}
use Rattle.node_model.specs.Ticks.{and_then, ids_of, is_late, ruled, ruled_each, ticked, without_round}
use Rattle.node_model.proofs.Places.{elsewhere}
use Rattle.waiting_requests.specs.Queues.{timely}
use Rattle.waiting_requests.specs.Waiting.{held_in}
use Rattle.fate_chain.specs.declared.decree.Author.{Author}
use Rattle.tick_rules.specs.declared.standpoint.Standpoint.{Standpoint}
use Rattle.shelf.specs.Shelved.{value_at, with_value}
use Rattle.shelf.proofs.Apart.{put_apart}
use Rattle.shelf.proofs.Visited.{value_visited}
use Rattle.synod_acceptor.specs.Packets.{packet_of}
use Rattle.synod_acceptor.specs.Records.{record_at}
use Rattle.synod_acceptor.specs.declared.packet.Packet.{Packet as Sent}
use Rattle.node_parts.specs.declared.message.Message.{Message as Filed}
use Rattle.node_parts.specs.declared.turn.Turn.{Turn}
use Rattle.node_parts.specs.Lists.{listed}
use Rattle.node_parts.specs.Messages.{IsOf, IsOfSame, message_of, rested, rested_entry}
use Rattle.node_parts.specs.Turning.{IsAtRest, IsOfTurn, turned}
use Rattle.node_parts.proofs.Turns.{rest_same}
use Rattle.node_kept.specs.declared.kept.Kept.{Kept as Holding}
use Rattle.node_kept.specs.declared.step.Put.{Put}
use Rattle.node_kept.specs.declared.turn_list.TurnList.{TurnList}
use Rattle.node_kept.specs.Keeping.{AreOf, AreOwn, IsTaken, acceptor_in, filed_as, kept_of, records_of}
use Rattle.node_kept.specs.Queueing.{AreAsked}
use Rattle.node_kept.specs.Steps.{entries_after}
use Rattle.node_kept.specs.Ticking.{IsAdded, IsTurnOf, IsTurned, entries_turned, ids_turned, kept_turned}
use Rattle.node_kept.proofs.Entries.{message_looked_up, message_put, own_put, records_kept}
use Rattle.node_kept.proofs.Putting.{put_last}
use Rattle.node_kept.proofs.Queueing.{asked_kept}

-- ---- several messages of the model

each_more : (setup : Setup) (reach : Reach) (front back : List ℕ) (k : Kept) →
    ruled_each setup reach (front ++ back) k ≡ and_then (ruled_each setup reach front k) (ruled_each setup reach back (ruled_each setup reach front k).kept)
each_more setup reach [] back k = refl
each_more setup reach (id ∷ front) back k =
    let first : Prepared = ruled setup k id (first_rule setup k reach id) in
    let middle : Prepared = ruled_each setup reach front first.kept in
    let last : Prepared = ruled_each setup reach back middle.kept in
    ap (and_then first) (each_more setup reach front back first.kept)
    ∙ (λ i. record { kept = last.kept; packets = sym (append_assoc first.packets middle.packets last.packets) i })

-- one more
one_more : (setup : Setup) (reach : Reach) (front : List ℕ) (id : ℕ) (k : Kept) (so : Prepared) → ruled_each setup reach front k ≡ so →
    ruled_each setup reach (front ++ id ∷ []) k ≡ and_then so (ruled setup so.kept id (first_rule setup so.kept reach id))
one_more setup reach front id k so is =
    each_more setup reach front (id ∷ []) k
    ∙ ap (λ (p : Prepared). and_then p (ruled_each setup reach (id ∷ []) p.kept)) is
    ∙ (λ i. record { kept = last.kept; packets = so.packets ++ append-nil last.packets i })
  where
    last : Prepared
    last = ruled setup so.kept id (first_rule setup so.kept reach id)

-- ---- messages without their rounds

abbrev unrounded : Message → Message
unrounded m = record m { round = None }

pub rested_filed : (entries : List (ℕ × Filed)) → map filed_as (map rested_entry entries) ≡ map without_round (map filed_as entries)
rested_filed [] = refl
rested_filed (e ∷ es) = ap (λ (others : List (ℕ × Message)). without_round (filed_as e) ∷ others) (rested_filed es)

pub same_ids : (entries : List (ℕ × Filed)) → keys_of (map without_round (map filed_as entries)) ≡ keys_of entries
same_ids [] = refl
same_ids (e ∷ es) = ap (λ (keys : List ℕ). e.0 ∷ keys) (same_ids es)

own_rested : (setup : Setup) (starts : ℕ) (entries : List (ℕ × Filed)) → AreOf setup starts entries → AreOf setup starts (map rested_entry entries)
own_rested setup starts [] own = tt
own_rested setup starts (e ∷ es) own = ((rest_same e.0 e.1).of setup.node starts setup.nodes own.0, own_rested setup starts es own.1)

records_rested : (entries : List (ℕ × Filed)) (slot : Slot) → records_of (map rested_entry entries) slot ≡ records_of entries slot
records_rested entries slot =
    ap (λ (found : Option Filed). record_at (acceptor_in found) slot) (value_visited rested entries slot.id) ∙ by_value (value_at entries slot.id)
  where
    by_value : (found : Option Filed) → record_at (acceptor_in (option_map rested found)) slot ≡ record_at (acceptor_in found) slot
    by_value None = refl
    by_value (Some m) = refl

-- ---- messages in the places of others

module _ (entries : List (ℕ × Filed)) where
  -- what is kept of another id stays
  untouched : (puts : List Put) (id : ℕ) → (In id (map (λ (put : Put). put.id) puts) → ⊥) →
      value_at (entries_after entries puts) id ≡ value_at entries id
  untouched [] id new = refl
  untouched (put ∷ others) id new =
      elsewhere put.id (box_value put.message) id (λ same. new (inl same)) (entries_after entries others)
      ∙ untouched others id (λ among. new (inr among))

put_first : (entries : List (ℕ × Filed)) (puts : List Put) (id : ℕ) (m : Filed) → (In id (map (λ (put : Put). put.id) puts) → ⊥) →
    entries_after (with_value entries id m) puts ≡ with_value (entries_after entries puts) id m
put_first entries [] id m new = refl
put_first entries (put ∷ others) id m new =
    ap (λ (es : List (ℕ × Filed)). with_value es put.id (box_value put.message)) (put_first entries others id m (λ among. new (inr among)))
    ∙ put_apart (entries_after entries others) id put.id m (box_value put.message) (λ same. new (inl same))

ids_more : (puts : List Put) (put : Put) (id : ℕ) → In id (map (λ (it : Put). it.id) (puts ++ put ∷ [])) →
    In id (map (λ (it : Put). it.id) puts) ⊎ (id ≡ put.id)
ids_more [] put id (inl same) = inr same
ids_more [] put id (inr none) = absurd none
ids_more (first ∷ others) put id (inl same) = inl (inl same)
ids_more (first ∷ others) put id (inr later) = elim (ids_more others put id later) [ inl among ↦ inl (inr among) | inr same ↦ inr same ]

in_front : (ids back : List ℕ) (id : ℕ) → In id ids → In id (ids ++ back)
in_front [] back id none = absurd none
in_front (first ∷ others) back id (inl same) = inl same
in_front (first ∷ others) back id (inr later) = inr (in_front others back id later)

in_last : (ids : List ℕ) (id : ℕ) → In id (ids ++ id ∷ [])
in_last [] id = inl refl
in_last (first ∷ others) id = inr (in_last others id)

-- ---- at the start

pub none_turned : (k : Holding) (clock : ℕ) (reach : Reach) (turns : TurnList) → AreOwn k → turns.messages.items ≡ [] → turns.packets.items ≡ [] →
    IsTurned k clock reach [] turns
none_turned k clock reach turns own messages packets =
    let entries : entries_turned k turns ≡ map rested_entry k.messages.entries = ap (entries_after (map rested_entry k.messages.entries)) messages in
    record {
      made = λ i. record {
        kept = record (ticked (kept_of k) clock) { messages = sym (ap (map filed_as) entries ∙ rested_filed k.messages.entries) i };
        packets = map packet_of (sym packets i);
      };
      saved = λ slot. ap (λ (es : List (ℕ × Filed)). records_of es slot) entries ∙ records_rested k.messages.entries slot;
      own = subst (AreOf k.setup k.incarnation) (sym entries) (own_rested k.setup k.incarnation k.messages.entries own.each);
      only = λ id among. subst (λ (puts : List Put). In id (map (λ (put : Put). put.id) puts)) messages among;
    }

-- ---- the requests that wait then

pub asked_timely : (k : Holding) (clock : ℕ) → AreOwn k → AreAsked k.setup.node k.incarnation (suc k.given) (timely clock (held_in k.queue))
asked_timely k clock own = asked_kept k.setup.node k.incarnation (suc k.given) (λ h. not (is_late clock h)) (held_in k.queue) own.asked

-- ---- before the first message

by_rested : (id : ℕ) (found : Option Filed) →
    unwrap_or (option_map (message_of id) (option_map rested found)) unseen ≡ unrounded (unwrap_or (option_map (message_of id) found) unseen)
by_rested id None = refl
by_rested id (Some other) = refl

message_ticked : (k : Holding) (clock id : ℕ) (m : Filed) → IsTaken k id m → message_at (ticked (kept_of k) clock) id ≡ message_of id (rested m)
message_ticked k clock id m taken =
    ap (λ (entries : List (ℕ × Message)). message_at (record (kept_of k) { messages = entries }) id) (sym (rested_filed k.messages.entries))
    ∙ ap (λ (found : Option Message). unwrap_or found unseen) (message_looked_up (map rested_entry k.messages.entries) id)
    ∙ ap (λ (found : Option Filed). unwrap_or (option_map (message_of id) found) unseen) (value_visited rested k.messages.entries id)
    ∙ by_rested id (value_at k.messages.entries id)
    ∙ ap unrounded (sym (ap (λ (found : Option Message). unwrap_or found unseen) (message_looked_up k.messages.entries id)) ∙ sym taken.message)

pub rests_first : (k : Holding) (id : ℕ) (m : Filed) (s : Standpoint) → AreOwn k → s.author.node ≡ k.setup.node →
    s.author.incarnation ≡ k.incarnation → IsTaken k id m →
    IsAtRest k.setup (ticked (kept_of k) s.clock) (timely s.clock (held_in k.queue)) id m s
rests_first k id m s own node incarnation taken = record {
  node = node;
  incarnation = incarnation;
  clock = refl;
  waits = refl;
  numbered = (asked_timely k s.clock own).numbered;
  message = message_ticked k s.clock id m taken;
  records = taken.records;
}

-- ---- one more message

module _ (k : Holding) (clock : ℕ) (reach : Reach) (ids : List ℕ) (turns : TurnList) (is : IsTurned k clock reach ids turns)
    (id : ℕ) (m : Filed) (taken : IsTaken k id m) (new : In id ids → ⊥) where
  abbrev Before : List (ℕ × Filed)
  Before = entries_turned k turns

  not_put : In id (ids_turned turns) → ⊥
  not_put among = new (is.only id among)

  message_is : message_at (kept_turned k clock turns) id ≡ message_of id (rested m)
  message_is =
      ap (λ (found : Option Message). unwrap_or found unseen) (message_looked_up Before id)
      ∙ ap (λ (found : Option Filed). unwrap_or (option_map (message_of id) found) unseen)
      (untouched (map rested_entry k.messages.entries) turns.messages.items id not_put ∙ value_visited rested k.messages.entries id)
      ∙ by_rested id (value_at k.messages.entries id)
      ∙ ap unrounded (sym (ap (λ (found : Option Message). unwrap_or found unseen) (message_looked_up k.messages.entries id)) ∙ sym taken.message)

  pub at_rest : (s : Standpoint) → s.author.node ≡ k.setup.node → s.author.incarnation ≡ k.incarnation → s.clock ≡ clock → AreOwn k →
      IsAtRest k.setup (kept_turned k clock turns) (timely clock (held_in k.queue)) id m s
  at_rest s node incarnation at own = record {
    node = node;
    incarnation = incarnation;
    clock = at;
    waits = refl;
    numbered = (asked_timely k clock own).numbered;
    message = message_is;
    records = taken.records;
  }

  abbrev Rule : Prepared
  Rule = ruled k.setup (kept_turned k clock turns) id (first_rule k.setup (kept_turned k clock turns) reach id)

  abbrev so_far : Prepared
  so_far = record { kept = kept_turned k clock turns; packets = map packet_of turns.packets.items }

  pub turned_same : turned (kept_turned k clock turns) id None ≡ Rule → IsTurned k clock reach (ids ++ id ∷ []) turns
  turned_same rule = record {
    made =
        one_more k.setup reach ids id (ticked (kept_of k) clock) so_far is.made
        ∙ ap (and_then so_far) (sym rule)
        ∙ (λ i. record { kept = kept_turned k clock turns; packets = append-nil (map packet_of turns.packets.items) i });
    saved = is.saved;
    own = is.own;
    only = λ other among. in_front ids (id ∷ []) other (is.only other among);
  }

  module _ (turn : Turn) (of : IsOfSame id m turn.message) (after : TurnList) (added : IsAdded turns id turn after) where
    entries_then : entries_turned k after ≡ with_value Before id turn.message
    entries_then =
        ap (entries_after (map rested_entry k.messages.entries)) added.messages
        ∙ put_last (map rested_entry k.messages.entries) turns.messages.items added.put
        ∙ (λ i. entries_after (with_value (map rested_entry k.messages.entries) (added.named i) (added.message i)) turns.messages.items)
        ∙ put_first (map rested_entry k.messages.entries) turns.messages.items id turn.message not_put

    kept_then : with_message (kept_turned k clock turns) id (message_of id turn.message) ≡ kept_turned k clock after
    kept_then = λ i. record (ticked (kept_of k) clock) {
      messages = (sym (message_put Before id turn.message) ∙ ap (map filed_as) (sym entries_then)) i;
    }

    one_sent : (packet : Option Sent) → listed (option_map packet_of packet) ≡ map packet_of (listed packet)
    one_sent None = refl
    one_sent (Some packet) = refl

    packets_then : map packet_of turns.packets.items ++ listed (option_map packet_of turn.packet) ≡ map packet_of after.packets.items
    packets_then =
        ap (λ (packets : List Packet). map packet_of turns.packets.items ++ packets) (one_sent turn.packet)
        ∙ sym (map-append packet_of turns.packets.items (listed turn.packet))
        ∙ ap (map packet_of) (sym added.packets)

    records_then : (place : ℕ) → record_at turn.message.acceptor (slot_at id place) ≡ records_of Before (slot_at id place)
    records_then place = ap (λ a. record_at a (slot_at id place)) of.acceptor ∙ taken.records place ∙ sym (is.saved (slot_at id place))

    pub turned_more : AreOwn k → turned (kept_turned k clock turns) id (Some turn) ≡ Rule → IsTurned k clock reach (ids ++ id ∷ []) after
    turned_more own rule = record {
      made =
          one_more k.setup reach ids id (ticked (kept_of k) clock) so_far is.made
          ∙ ap (and_then so_far) (sym rule)
          ∙ (λ i. record { kept = kept_then i; packets = packets_then i });
      saved = λ slot.
          ap (λ (es : List (ℕ × Filed)). records_of es slot) entries_then
          ∙ records_kept Before id turn.message records_then slot
          ∙ is.saved slot;
      own = subst (AreOf k.setup k.incarnation) (sym entries_then)
          (own_put k.setup k.incarnation Before id turn.message (of.of k.setup.node k.incarnation k.setup.nodes (taken.own own)) is.own);
      only = λ other among. elim (ids_more turns.messages.items added.put other
          (subst (λ (puts : List Put). In other (map (λ (put : Put). put.id) puts)) added.messages among)) [
            | inl before ↦ in_front ids (id ∷ []) other (is.only other before)
            | inr same ↦ subst (λ (it : ℕ). In it (ids ++ id ∷ [])) (sym (same ∙ added.named)) (in_last ids id)
          ];
    }

-- ---- one after another

pub turn_found : {E : Type 0} (k : Holding) (id : ℕ) (s : Standpoint) (reach : Reach) (m : Filed) (result : Result (Option Turn) E) → IsTaken k id m →
    IfOk result (IsOfTurn id m) →
    IfOk result (λ turn. (setup : Setup) (kept : Kept) → IsAtRest setup kept (timely s.clock (held_in k.queue)) id m s →
    IsOf setup.node kept.incarnation setup.nodes id m → turned kept id turn ≡ ruled setup kept id (first_rule setup kept reach id)) →
    IfOk result (IsTurnOf k id s reach)
turn_found k id s reach m (Ok turn) taken same is = record { from = m; taken = taken; same = same; turned_is = is }
turn_found k id s reach m (Err e) taken same is = tt

-- while the lowest id that is left is taken first
pub record IsTurning (k : Holding) (clock : ℕ) (reach : Reach) (left : List ℕ) (turns : TurnList) : Type 0 where
  pub done : List ℕ
  pub split : done ++ left ≡ ids_of (ticked (kept_of k) clock)
  pub below : (one later : ℕ) → In one done → In later left → one < later
  pub is : IsTurned k clock reach done turns

pub turning_begins : (k : Holding) (clock : ℕ) (reach : Reach) (left : List ℕ) (turns : TurnList) → left ≡ ids_of (ticked (kept_of k) clock) →
    IsTurned k clock reach [] turns → IsTurning k clock reach left turns
turning_begins k clock reach left turns all is = record {
  done = [];
  split = all;
  below = λ one later none among. absurd none;
  is = is;
}

module _ (k : Holding) (clock : ℕ) (reach : Reach) (left : List ℕ) (turns : TurnList) (is : IsTurning k clock reach left turns)
    (id : ℕ) (rest : List ℕ) (split : left ≡ id ∷ rest) where
  there : In id left
  there = subst (In id) (sym split) (inl refl)

  pub is_next : In id is.done → ⊥
  is_next among = let below = is.below id id among there in absurd (omega arith)

  later : (other : ℕ) → In other rest → In other left
  later other among = subst (In other) (sym split) (inr among)

  done_or : (ids : List ℕ) (one : ℕ) → In one (ids ++ id ∷ []) → In one ids ⊎ (one ≡ id)
  done_or [] one (inl same) = inr same
  done_or [] one (inr none) = absurd none
  done_or (first ∷ others) one (inl same) = inl (inl same)
  done_or (first ∷ others) one (inr among) = elim (done_or others one among) [ inl before ↦ inl (inr before) | inr same ↦ inr same ]

  pub turning_goes_on : (after : TurnList) → ((other : ℕ) → In other rest → id < other) → IsTurned k clock reach (is.done ++ id ∷ []) after →
      IsTurning k clock reach rest after
  turning_goes_on after above turned_so = record {
    done = is.done ++ id ∷ [];
    split = append_assoc is.done (id ∷ []) rest ∙ sym (ap (λ (ids : List ℕ). is.done ++ ids) split) ∙ is.split;
    below = λ one other among behind. elim (done_or is.done one among) [
      | inl before ↦ is.below one other before (later other behind)
      | inr same ↦ let lower = above other behind in subst (λ (it : ℕ). it < other) (sym same) lower
    ];
    is = turned_so;
  }

  module _ (author : Author) (node : author.node ≡ k.setup.node) (incarnation : author.incarnation ≡ k.incarnation) (own : AreOwn k) where
    abbrev at : Standpoint
    at = record { author = author; clock = clock }

    rule_is : (turn : Option Turn) (of : IsTurnOf k id at reach turn) →
        turned (kept_turned k clock turns) id turn ≡ ruled k.setup (kept_turned k clock turns) id (first_rule k.setup (kept_turned k clock turns) reach id)
    rule_is turn of =
        of.turned_is k.setup (kept_turned k clock turns)
        (at_rest k clock reach is.done turns is.is id of.from of.taken is_next at node incarnation refl own) (of.taken.own own)

    pub same_then : IsTurnOf k id at reach None → IsTurned k clock reach (is.done ++ id ∷ []) turns
    same_then of = turned_same k clock reach is.done turns is.is id of.from of.taken is_next (rule_is None of)

    pub more_then : (turn : Turn) → IsTurnOf k id at reach (Some turn) → (after : TurnList) → IsAdded turns id turn after →
        IsTurned k clock reach (is.done ++ id ∷ []) after
    more_then turn of after added =
        turned_more k clock reach is.done turns is.is id of.from of.taken is_next turn of.same after added own (rule_is (Some turn) of)

pub turning_ends : (k : Holding) (clock : ℕ) (reach : Reach) (left : List ℕ) (turns : TurnList) → IsTurning k clock reach left turns → left ≡ [] →
    IsTurned k clock reach (ids_of (ticked (kept_of k) clock)) turns
turning_ends k clock reach left turns is none =
    subst (λ (ids : List ℕ). IsTurned k clock reach ids turns) (sym (append-nil is.done) ∙ sym (ap (λ (ids : List ℕ). is.done ++ ids) none) ∙ is.split) is.is
