-- A round of a node by itself, from its start to the vote for it.
use Rattle.std.proofs.Common.{◌≡◌, ℕ, max, true, List, [], ◌∷◌, length, Option, Some, None, refl, ◌∙◌, arith}
use Rattle.std.specs.Prelude.{nat_lt}
use Rattle.std.proofs.lemmas.Bool.{lt-ltb}
use Rattle.std.proofs.lemmas.List.{get_or-set_other}
use Rattle.mc_model.specs.message.Decree.{Decree}
use Rattle.mc_model.specs.synod.Ballot.{ballot_of, round_in}
use Rattle.mc_model.specs.synod.OneSlot.{Vote, vote_at}
use Rattle.mc_model.specs.synod.Packet.{Prepare, Promise, Propose, Slot, Voted, slot_at}
use Rattle.mc_model.specs.synod.Acceptor.{SlotRecord, after_vote, blank}
use Rattle.mc_model.specs.node.Outputs.{Receipt, Reply}
use Rattle.mc_model.specs.node.Setup.{Setup}
use Rattle.node_model.specs.Message.{Message, Round}
use Rattle.node_model.specs.Kept.{Kept, message_at, with_message}
use Rattle.node_model.specs.Proposer.{Start, highest_round, started, started_at}
use Rattle.table_laws.specs.Alone.{alone}
use Rattle.table_laws.specs.Resting.{IsReady}
use Rattle.table_laws.proofs.Frames.{IsSameBut, same_then, same_with}
use Rattle.table_laws.proofs.Deliveries.{begun_round, promised_round}
use Rattle.table_laws.proofs.Leading.{Leads, leads_sending, leads_then, settling}
use Rattle.table_laws.proofs.Stages.{Advances, IsUnderWay, prepare_advances, promise_advances, propose_advances, under_with}

module _ (first validity : ℕ) (id : ℕ) (old : List Decree) (decree : Decree) where
  abbrev setup : Setup
  setup = alone first validity

  abbrev slot : Slot
  slot = slot_at id (length old)

  -- the first round of the slot
  abbrev pub ballot : Kept → ℕ
  ballot k = ballot_of 1 k.incarnation 1

  abbrev pub vote : Kept → Vote
  vote k = vote_at (ballot k) (decree ∷ old)

  abbrev pub start : Start
  start = record { place = length old; chain = decree ∷ old }

  abbrev pub tried : Kept → Message
  tried k = started_at (message_at k id) slot 1 (ballot k) (decree ∷ old)

  unseen_before : (k : Kept) → IsReady k id old → highest_round k.records (message_at k id) slot ≡ 0
  unseen_before k rest =
      let fresh = rest.beyond (length old) (omega arith) in
      (λ i. max (round_in (fresh.record_is i).promised) (fresh.seen i))

  pub round_starts : (k : Kept) → IsReady k id old →
      started setup k id (Some start) ≡ record { kept = with_message k id (tried k); packets = Prepare 1 slot (ballot k) ∷ [] }
  round_starts k rest = rw (rest.idle, unseen_before k rest) refl

  pub round_is_under_way : (k : Kept) → IsReady k id old →
      IsUnderWay id old (with_message k id (tried k)) (Some (begun_round slot (ballot k) (decree ∷ old))) blank
  round_is_under_way k rest =
      under_with first validity id old decree (ballot k) k (tried k) None (Some (begun_round slot (ballot k) (decree ∷ old))) blank
      (record {
        known = rest.known;
        round_is = rest.idle;
        votes = rest.votes;
        here_is = (rest.beyond (length old) (omega arith)).record_is;
        ungranted = (rest.beyond (length old) (omega arith)).ungranted;
        unclosed = (rest.beyond (length old) (omega arith)).unclosed;
        beyond = λ place above. rest.beyond place (omega (arith, above));
      })
      refl
      (λ place above. get_or-set_other (message_at k id).seen (length old) place 1 0 (λ same. omega arith))
      refl
      refl
      refl

  -- From its start on a round leads to the vote for it, and nothing else has changed.
  pub record Carried (k : Kept) : Type 0 where
    pub voted : Kept
    pub under : IsUnderWay id old voted (Some (promised_round slot (ballot k) (decree ∷ old))) (after_vote (vote k))
    pub same : IsSameBut id k voted
    pub held : voted.held ≡ k.held
    pub leads : (replies : List Reply) (receipts : List Receipt) →
        Leads setup 3 (settling (with_message k id (tried k)) (Prepare 1 slot (ballot k) ∷ []) replies receipts)
        (settling voted (Voted 1 slot (vote k) ∷ []) replies receipts)

  module _ (k : Kept) (up : k.up ≡ true) (rest : IsReady k id old) where
    abbrev b : ℕ
    b = ballot k

    abbrev begun : Option Round
    begun = Some (begun_round slot b (decree ∷ old))

    abbrev promised : Option Round
    promised = Some (promised_round slot b (decree ∷ old))

    abbrev promise : SlotRecord
    promise = record { promised = b; vote = None }

    abbrev k1 : Kept
    k1 = with_message k id (tried k)

    above : nat_lt 0 b ≡ true
    above = lt-ltb 0 b (omega arith)

    one : Advances first validity id old decree b k1 (Prepare 1 slot b) (Promise 1 slot b None) begun promise
    one = prepare_advances first validity id old decree b k1 up above (round_is_under_way k rest)

    two : Advances first validity id old decree b one.new (Promise 1 slot b None) (Propose 1 slot (vote k)) promised promise
    two = promise_advances first validity id old decree b one.new (one.same.up ∙ up) one.under

    three : Advances first validity id old decree b two.new (Propose 1 slot (vote k)) (Voted 1 slot (vote k)) promised (after_vote (vote k))
    three = propose_advances first validity id old decree b two.new (two.same.up ∙ (one.same.up ∙ up)) two.under

    pub round_carried : Carried k
    round_carried = record {
      voted = three.new;
      under = three.under;
      same = same_then id k k1 three.new (same_with k id (tried k) k.held)
          (same_then id k1 one.new three.new one.same (same_then id one.new two.new three.new two.same three.same));
      held = three.held ∙ (two.held ∙ one.held);
      leads = λ replies receipts.
          leads_then setup _ _ _ (leads_sending setup k1 (Prepare 1 slot b) [] replies receipts one.new (Promise 1 slot b None ∷ []) one.step)
          (leads_then setup _ _ _ (leads_sending setup one.new (Promise 1 slot b None) [] replies receipts two.new (Propose 1 slot (vote k) ∷ []) two.step)
          (leads_sending setup two.new (Propose 1 slot (vote k)) [] replies receipts three.new (Voted 1 slot (vote k) ∷ []) three.step));
    }
