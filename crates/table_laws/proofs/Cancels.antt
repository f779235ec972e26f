-- A cancel_sm comes to a node by itself, which settles.
use Rattle.std.proofs.Common.{◌≡◌, ℕ, Bool, true, false, List, [], ◌∷◌, length, max, Option, Some, None, refl, sym, ap, ◌∙◌, inl, inr, arith}
use Rattle.std.specs.Prelude.{◌&&◌, ◌||◌, if◌then◌else◌}
use Rattle.std.proofs.lemmas.Bool.{and_parts, true≢false}
use Rattle.mc_model.specs.message.Decree.{Attempt, Decree, Deleted, Delivered, Expired, Failed, Fate, Told, Final, Kind, Rejected, Taken, Undeliverable}
use Rattle.mc_model.specs.message.Chain.{final_by, final_in, taken_in}
use Rattle.mc_model.specs.message.Submission.{Submission}
use Rattle.mc_model.specs.synod.Packet.{Ask, Name, Packet, Prepare, Tell, TopVote, slot_at}
use Rattle.mc_model.specs.node.Actor.{Cancel, Request}
use Rattle.mc_model.specs.node.Input.{Arrival, Delivery}
use Rattle.mc_model.specs.node.Outputs.{Receipt, Reply}
use Rattle.mc_model.specs.node.Replies.{NotMatched}
use Rattle.mc_model.specs.node.Setup.{Setup}
use Rattle.node_model.specs.Acceptor.{told_of}
use Rattle.node_model.specs.Answers.{answer_by, answer_to, cancel_answer, cancel_answer_of, is_match}
use Rattle.node_model.specs.Kept.{Held, Kept, message_at, with_message}
use Rattle.node_model.specs.Outputs.{sends}
use Rattle.node_model.specs.Packets.{answer_told, settled_told, start_told}
use Rattle.node_model.specs.Proposer.{Prepared, Start, started}
use Rattle.node_model.specs.Requests.{higher_top, is_reached, settled_by, told_by, with_held}
use Rattle.node_model.specs.Starts.{delete_for, is_idle}
use Rattle.node_model.specs.Stepped.{stepped}
use Rattle.node_model.specs.Ticks.{begun_with}
use Rattle.table_laws.specs.Alone.{alone}
use Rattle.table_laws.specs.Tables.{TableNode, cancelled, decree_by, is_deleted, is_meant, known_as, receipts_by, receipts_with, removed, removed_in, reply_to, settled}
use Rattle.table_laws.specs.Tables.{requested, with_entry, chain_at, Table, decreed}
use Rattle.table_laws.specs.Resting.{IsResting, IsTaken, IsTakenIfAny}
use Rattle.table_laws.specs.Settling.{SettlesOn}
use Rattle.table_laws.proofs.Frames.{eqb_self}
use Rattle.table_laws.proofs.Leading.{Leads, leads_on, leads_sending, leads_then, settling, few_enough}
use Rattle.table_laws.proofs.Deliveries.{ask_delivered}
use Rattle.table_laws.proofs.Carrying.{ballot, round_starts, start, tried}
use Rattle.table_laws.proofs.Ending.{AllAnswered, ends_after, settles_after}
use Rattle.table_laws.proofs.Coming.{round_ends, round_orderly}
use Rattle.table_laws.proofs.Calm.{IsCalm, arrived, calm_arrived, held_arrived, newcomer, noted, rests_still, calm_with, calm_but}
use Rattle.table_laws.proofs.Asking.{IsReachedBy, answer_given, name, tell_delivered, told_is_reached}

module _ (first validity : ℕ) (k : Kept) (t : TableNode) (id : ℕ) (account source destination : List ℕ) (resting : IsResting k t) where
  abbrev setup : Setup
  setup = alone first validity

  abbrev request : Request
  request = Cancel id account source destination

  abbrev k0 : Kept
  k0 = arrived k request

  abbrev new : Held
  new = newcomer k request

  abbrev old : List Decree
  old = chain_at t.table id

  abbrev told : Option TopVote
  told = told_of k.records id

  abbrev known : Option (List Decree)
  known = (message_at k id).known

  abbrev named : Name
  named = name first validity k t request resting

  -- the node has told, and the request is settled
  abbrev heard : Held
  heard = told_by new 1 told

  abbrev held : Held
  held = record heard { waiting = record heard.waiting { settled = true } }

  calm : IsCalm k0 (noted t request)
  calm = calm_arrived k t request resting

  reached : IsReachedBy id old told
  reached = told_is_reached k id old (resting.message id).ready

  known_is : known ≡ known_as old
  known_is = (resting.message id).ready.known

  reached_is : is_reached known (higher_top None told) ≡ true
  reached_is = ap (λ (o : Option (List Decree)). is_reached o (higher_top None told)) known_is ∙ reached.reached

  settled_is : settled_by 1 known heard ≡ held
  settled_is = rw reached_is refl

  begun_is : stepped setup k (Arrival request) ≡ begun_with setup k new (record { kept = k0; packets = [] })
  begun_is = rw resting.up refl

  told_is : stepped setup k0 (Delivery (Tell 1 named told)) ≡ settled_told setup k0 known heard held
  told_is =
      tell_delivered first validity k t request resting told reached.about
      ∙ ap (settled_told setup k0 known heard) settled_is

  -- ---- whether it is to be deleted

  abbrev decree : Decree
  decree = decree_by t old (Fate Deleted 0)

  abbrev deletes : Bool → Option Start
  deletes test = if test then Some (start first validity id old decree) else None

  delete_is : (chain : List Decree) → IsTakenIfAny k id chain →
      delete_for setup k0 id (held ∷ []) (known_as chain)
      ≡ (if is_deleted account source destination chain then Some (start first validity id chain (decree_by t chain (Fate Deleted 0))) else None)
  delete_is [] taken = refl
  delete_is (newest ∷ older) taken = rw (taken.taken, eqb_self id) (by_tests (is_idle newest.kind) (is_match taken.message account source destination))
    where
      by_tests : (idle match : Bool) →
          (if idle && (match || false) then Some (record {
            place = length (newest ∷ older);
            chain = record {
              author = record { node = 1; incarnation = k.incarnation };
              moment = max k.clock newest.moment;
              kind =
                  Fate Deleted 0;
            } ∷ newest ∷ older;
          }) else None)
          ≡ (if idle && match then Some (start first validity id (newest ∷ older) (decree_by t (newest ∷ older) (Fate Deleted 0))) else None)
      by_tests true true = λ i. Some (record {
        place = length (newest ∷ older);
        chain = record {
          author = record { node = 1; incarnation = resting.incarnation i };
          moment = max (resting.clock i) newest.moment;
          kind =
              Fate Deleted 0;
        } ∷ newest ∷ older;
      })
      by_tests true false = refl
      by_tests false match = refl

  start_is : start_told setup k0 known heard held ≡ deletes (is_deleted account source destination old)
  start_is =
      let settles_now : start_told setup k0 known heard held ≡ delete_for setup k0 id (held ∷ []) known = rw reached_is refl in
      settles_now ∙ (ap (delete_for setup k0 id (held ∷ [])) known_is ∙ delete_is old (resting.message id).taken)

  -- the answer, by what was known
  answer_is : answer_to 1 known held ≡ answer_by (known_as old) true true request
  answer_is =
      ap (λ (o : Option (List Decree)). answer_by o (is_reached o (higher_top None told)) true request) known_is
      ∙ ap (λ (b : Bool). answer_by (known_as old) b true request) reached.reached

  asked : (end : Kept) (packets : List Packet) (replies : List Reply) → stepped setup k0 (Delivery (Tell 1 named told)) ≡ sends end packets replies [] →
      Leads setup 2 (settling k0 (Ask 1 id named ∷ []) [] []) (settling end packets replies [])
  asked end packets replies is =
      leads_then setup _ _ _ (leads_sending setup k0 (Ask 1 id named) [] [] [] k0 (Tell 1 named told ∷ []) (ask_delivered first validity k0 calm.up id named))
      (leads_on setup k0 (Tell 1 named told) [] [] [] (sends end packets replies []) is)

  -- what it comes to, by the table then and the chain of the message in it
  abbrev reply_for : List Decree → Reply
  reply_for chain = record { ticket = t.ticket; id = id; answer = cancelled account source destination chain (taken_in chain) }

  abbrev Comes : Table → List Decree → List Receipt → Type 0
  Comes table chain receipts =
      SettlesOn setup (stepped setup k (Arrival request)) (record (noted t request) { table = table }) (reply_for chain ∷ []) receipts

  -- ---- it is not deleted

  kept_answer : (chain : List Decree) → IsTakenIfAny k id chain → is_deleted account source destination chain ≡ false →
      answer_by (known_as chain) true true request ≡ Some (cancelled account source destination chain (taken_in chain))
  kept_answer [] taken not_deleted = refl
  kept_answer (newest ∷ older) taken not_deleted =
      rw taken.taken (by_match (is_match taken.message account source destination)
      (ap (λ (o : Option Submission). is_idle newest.kind && is_meant account source destination o) (sym taken.taken) ∙ not_deleted))
    where
      by_state : (state : Option Final) (kind : Kind) → is_idle kind && true ≡ false →
          cancel_answer state kind (newest ∷ older) ≡ Some (removed state (newest ∷ older))
      by_state None (Taken message) is = absurd (true≢false is)
      by_state None (Attempt number) is = refl
      by_state None (Failed error) is = absurd (true≢false is)
      by_state None (Fate final error) is = refl
      by_state None Told is = refl
      by_state (Some Delivered) kind is = refl
      by_state (Some Expired) kind is = refl
      by_state (Some Deleted) kind is = refl
      by_state (Some Undeliverable) kind is = refl
      by_state (Some Rejected) kind is = refl

      by_match : (match : Bool) → is_idle newest.kind && match ≡ false →
          (if match then cancel_answer_of (newest ∷ older) else Some (NotMatched (newest ∷ older)))
          ≡ Some (if match then removed_in (newest ∷ older) else NotMatched (newest ∷ older))
      by_match true is = by_state (final_in (newest ∷ older)) newest.kind is
      by_match false is = refl

  kept : is_deleted account source destination old ≡ false → Comes t.table old []
  kept not_deleted =
      settles_after setup _ _ (noted t request) (reply_for old ∷ []) [] begun_is refl refl (inr (inl refl)) (record {
        kept = record k0 { held = [] };
        leads = asked (record k0 { held = [] }) [] (reply_for old ∷ []) (told_is
            ∙ (answer_given setup k0 known new heard held (cancelled account source destination old (taken_in old)) (held_arrived k t request resting) refl
            (start_is ∙ ap deletes not_deleted) (answer_is ∙ kept_answer old (resting.message id).taken not_deleted)
            ∙ (λ i. sends (record k0 { held = [] }) []
            (record { ticket = resting.ticket i; id = id; answer = cancelled account source destination old (taken_in old) } ∷ []) [])));
        resting = rests_still k0 (noted t request) calm;
      }) (few_enough (noted t request) (omega arith))

  -- ---- it is deleted

  record WasMeant (chain : List Decree) : Type 0 where
    taken : IsTaken k id chain
    matched : is_match taken.message account source destination ≡ true
    waits : cancel_answer_of chain ≡ None

  was_meant : (chain : List Decree) → IsTakenIfAny k id chain → is_deleted account source destination chain ≡ true → WasMeant chain
  was_meant [] taken deleted = absurd (true≢false (sym deleted))
  was_meant (newest ∷ older) taken deleted =
      let parts = and_parts (is_idle newest.kind) (is_meant account source destination (taken_in (newest ∷ older))) deleted in
      record { taken = taken; matched = ap (is_meant account source destination) (sym taken.taken) ∙ parts.1; waits = by_kind newest.kind (final_in older) parts.0 }
    where
      by_kind : (kind : Kind) (below : Option Final) → is_idle kind ≡ true → cancel_answer (final_by kind below) kind (newest ∷ older) ≡ None
      by_kind (Taken message) below is = refl
      by_kind (Attempt number) below is = absurd (true≢false (sym is))
      by_kind (Failed error) below is = refl
      by_kind (Fate final error) below is = absurd (true≢false (sym is))
      by_kind Told below is = absurd (true≢false (sym is))

  unanswered : (chain : List Decree) → WasMeant chain → answer_by (known_as chain) true true request ≡ None
  unanswered [] meant = let both = meant.taken.taken in absurd (cc)
  unanswered (newest ∷ older) meant = rw (meant.taken.taken, meant.matched) meant.waits

  module _ (deleted : is_deleted account source destination old ≡ true) where
    meant : WasMeant old
    meant = was_meant old (resting.message id).taken deleted

    -- the request waits, and was settled
    abbrev k1 : Kept
    k1 = record k0 { held = with_held k0.held held }

    calm_then : IsCalm k1 (noted t request)
    calm_then = calm_with k0 (noted t request) (with_held k0.held held) calm

    held_is : k1.held ≡ held ∷ []
    held_is =
        let one : with_held (new ∷ []) held ≡ held ∷ [] = rw (eqb_self k.ticket) refl in
        ap (λ (hs : List Held). with_held hs held) (held_arrived k t request resting) ∙ one

    told_then : stepped setup k0 (Delivery (Tell 1 named told))
        ≡ sends (with_message k1 id (tried first validity id old decree k1))
        (Prepare 1 (slot_at id (length old)) (ballot first validity id old decree k1) ∷ []) [] []
    told_then =
        told_is
        ∙ (ap (λ (o : Option Start). answer_told (started setup k1 id o) held (answer_to 1 known held)) (start_is ∙ ap deletes deleted)
        ∙ (ap (answer_told (started setup k1 id (Some (start first validity id old decree))) held) (answer_is ∙ unanswered old meant)
        ∙ ap (λ (p : Prepared). answer_told p held None) (round_starts first validity id old decree k1 (calm_then.message id).ready)))

    answered : AllAnswered setup id (decree ∷ old) (held ∷ []) (reply_for (decree ∷ old) ∷ [])
    answered = record {
      settled = rw (eqb_self id) refl;
      undeleted = λ kept. rw meant.taken.taken refl;
      gone = rw (eqb_self id, meant.taken.taken, meant.matched) refl;
      told = rw (eqb_self id, meant.taken.taken, meant.matched, resting.ticket) refl;
    }

    taken_then : IsTaken k1 id (decree ∷ old)
    taken_then = record { message = meant.taken.message; taken = meant.taken.taken; given = meant.taken.given }

    abbrev table_then : TableNode
    table_then = record (noted t request) { table = with_entry t.table id (settled t old decree) }

    deleted_then : Comes (with_entry t.table id (settled t old decree)) (decree ∷ old) (receipts_with t id old decree)
    deleted_then =
        settles_after setup _ _ table_then (reply_for (decree ∷ old) ∷ []) (receipts_with t id old decree) begun_is refl refl
        (inr (inr (round_orderly first validity k1 (noted t request) id old decree (held ∷ []) (reply_for (decree ∷ old) ∷ [])
        (calm_but id k1 (noted t request) calm_then) (calm_then.message id).ready held_is taken_then answered _ (asked _ _ [] told_then))))
        (ends_after setup _ _ table_then (reply_for (decree ∷ old) ∷ []) (receipts_with t id old decree) (asked _ _ [] told_then)
        (round_ends first validity k1 (noted t request) id old decree (held ∷ []) (reply_for (decree ∷ old) ∷ [])
        (calm_but id k1 (noted t request) calm_then) (calm_then.message id).ready held_is taken_then answered))
        (few_enough table_then (omega arith))

  pub cancel_settles : SettlesOn setup (stepped setup k (Arrival request)) (requested t request) (reply_to t request ∷ []) (receipts_by t request)
  cancel_settles = by_test (is_deleted account source destination old) refl
    where
      by_test : (test : Bool) → is_deleted account source destination old ≡ test →
          Comes (if test then decreed t id (Fate Deleted 0) else t.table) (if test then decree ∷ old else old)
          (if test then receipts_with t id old decree else [])
      by_test true deleted = deleted_then deleted
      by_test false not_deleted = kept not_deleted
