-- A node that forgot something of some messages, and nothing of the others: what it keeps of these, and what becomes of it.
use Rattle.std.proofs.Common.{◌≡◌, ℕ, zero, suc, Bool, true, false, max, List, [], ◌∷◌, get_or, Option, Some, None, is_some, refl, ◌∙◌}
use Rattle.std.specs.Prelude.{◌&&◌, not, nat_lt, if◌then◌else◌}
use Rattle.std.specs.Map.{lookup}
use Rattle.std.specs.Ordering.{nat_cmp}
use Rattle.std.specs.BTreeMap.{insert_entry, is_at}
use Rattle.std.specs.Option.{unwrap_or}
use Rattle.mc_model.specs.message.Decree.{Decree}
use Rattle.mc_model.specs.node.Setup.{Setup}
use Rattle.mc_model.specs.synod.Acceptor.{Records, SlotRecord, with_record}
use Rattle.mc_model.specs.synod.Ballot.{ballot_of, round_in}
use Rattle.mc_model.specs.synod.Packet.{Prepare, Slot, slot_at}
use Rattle.node_model.specs.Acceptor.{told_below, told_with}
use Rattle.node_model.specs.Kept.{Kept, message_at, saved, with_message}
use Rattle.node_model.specs.Message.{Message, unseen}
use Rattle.node_model.specs.Outputs.{Stepped}
use Rattle.node_model.specs.Proposer.{Prepared, Start, last_round, started, started_at}

pub record Forgetting : Type 1 where
  -- of which messages it forgot something
  pub some_of : ℕ → Bool
  -- what is left of its records, and of the messages that it keeps
  pub records : Records → Records
  pub messages : List (ℕ × Message) → List (ℕ × Message)
  -- what holds of the messages that it keeps, however many come to them
  pub Ordered : List (ℕ × Message) → Type 0
  pub still_ordered : (es : List (ℕ × Message)) (id : ℕ) (m : Message) → Ordered es → Ordered (insert_entry nat_cmp es id m)
  -- all is left of the others
  pub found : (es : List (ℕ × Message)) (id : ℕ) → some_of id ≡ false →
      unwrap_or (lookup (is_at (nat_cmp id)) (messages es)) unseen ≡ unwrap_or (lookup (is_at (nat_cmp id)) es) unseen
  pub put : (es : List (ℕ × Message)) (id : ℕ) (m : Message) → Ordered es → some_of id ≡ false →
      insert_entry nat_cmp (messages es) id m ≡ messages (insert_entry nat_cmp es id m)
  pub record_found : (all : Records) (slot : Slot) → some_of slot.id ≡ false → records all slot ≡ all slot
  pub record_put : (all : Records) (slot : Slot) (new : SlotRecord) → some_of slot.id ≡ false →
      with_record (records all) slot new ≡ records (with_record all slot new)

module _ (f : Forgetting) where
  -- what is left
  abbrev pub less : Kept → Kept
  less k = record k { records = f.records k.records; messages = f.messages k.messages }

  abbrev pub less_step : Stepped → Stepped
  less_step s = record { kept = less s.kept; outputs = s.outputs }

  abbrev pub less_prepared : Prepared → Prepared
  less_prepared p = record { kept = less p.kept; packets = p.packets }

  pub either : (b : Bool) (x y : Stepped) → (if b then less_step x else less_step y) ≡ less_step (if b then x else y)
  either true x y = refl
  either false x y = refl

  -- ---- one message

  pub message_same : (k : Kept) (id : ℕ) → f.some_of id ≡ false → message_at (less k) id ≡ message_at k id
  message_same k id stays = f.found k.messages id stays

  pub with_same : (k : Kept) (id : ℕ) (m : Message) → f.Ordered k.messages → f.some_of id ≡ false →
      with_message (less k) id m ≡ less (with_message k id m)
  with_same k id m ordered stays = λ i. record (less k) { messages = f.put k.messages id m ordered stays i }

  pub record_same : (k : Kept) (slot : Slot) → f.some_of slot.id ≡ false → (less k).records slot ≡ k.records slot
  record_same k slot stays = f.record_found k.records slot stays

  pub told_same : (k : Kept) (id : ℕ) → f.some_of id ≡ false → (bound : ℕ) → told_below (less k).records id bound ≡ told_below k.records id bound
  told_same k id stays zero = refl
  told_same k id stays (suc place) =
      (λ i. told_with (slot_at id place) (record_same k (slot_at id place) stays i).vote (told_same k id stays place i))

  pub saved_same : (k : Kept) (slot : Slot) (new : SlotRecord) → f.Ordered k.messages → f.some_of slot.id ≡ false →
      saved (less k) slot new ≡ less (saved k slot new)
  saved_same k slot new ordered stays =
      (λ i. record (with_message (less k) slot.id (message_same k slot.id stays i)) { records = with_record (less k).records slot new })
      ∙ ((λ i. record (with_same k slot.id (message_at k slot.id) ordered stays i) { records = with_record (less k).records slot new })
      ∙ (λ i. record (less (with_message k slot.id (message_at k slot.id))) { records = f.record_put k.records slot new stays i }))

  -- ---- a round of it starts

  abbrev prepared_of : Setup → Kept → Slot → List Decree → Message → SlotRecord → Prepared
  prepared_of setup k slot chain m r =
      let number : ℕ = suc (max (round_in r.promised) (get_or m.seen slot.place 0)) in
      record {
        kept = with_message k slot.id (started_at m slot number (ballot_of number k.incarnation setup.node) chain);
        packets = Prepare setup.node slot (ballot_of number k.incarnation setup.node) ∷ [];
      }

  abbrev free_of : Slot → Message → SlotRecord → Bool
  free_of slot m r = not (is_some m.round) && nat_lt (max (round_in r.promised) (get_or m.seen slot.place 0)) last_round

  pub started_same : (setup : Setup) (k : Kept) (id : ℕ) (start : Option Start) → f.Ordered k.messages → f.some_of id ≡ false →
      started setup (less k) id start ≡ less_prepared (started setup k id start)
  started_same setup k id None ordered stays = refl
  started_same setup k id (Some start) ordered stays =
      let slot : Slot = slot_at id start.place in
      let m = message_same k id stays in
      let r = record_same k slot stays in
      (λ i. if free_of slot (m i) (r i) then prepared_of setup (less k) slot start.chain (m i) (r i) else record { kept = less k; packets = [] })
      ∙ by (free_of slot (message_at k id) (k.records slot))
    where
      by : (b : Bool) →
          (if b then prepared_of setup (less k) (slot_at id start.place) start.chain (message_at k id) (k.records (slot_at id start.place))
          else record { kept = less k; packets = [] })
          ≡ less_prepared
          (if b then prepared_of setup k (slot_at id start.place) start.chain (message_at k id) (k.records (slot_at id start.place))
          else record { kept = k; packets = [] })
      by true = λ i. record {
        kept = with_same k id
            (started_at (message_at k id) (slot_at id start.place)
            (suc (max (round_in (k.records (slot_at id start.place)).promised) (get_or (message_at k id).seen start.place 0)))
            (ballot_of (suc (max (round_in (k.records (slot_at id start.place)).promised) (get_or (message_at k id).seen start.place 0)))
            k.incarnation setup.node) start.chain)
            ordered stays i;
        packets = Prepare setup.node (slot_at id start.place)
            (ballot_of (suc (max (round_in (k.records (slot_at id start.place)).promised) (get_or (message_at k id).seen start.place 0)))
            k.incarnation setup.node) ∷ [];
      }
      by false = refl
