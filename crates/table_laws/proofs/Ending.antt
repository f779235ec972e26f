-- A round of a node by itself, from its start to its end, at which whoever waits is answered.
use Rattle.std.proofs.Common.{◌≡◌, ℕ, List, [], ◌∷◌, length, map, filter, Some, None, refl, sym, ap, subst, ◌∙◌, Bool, false, Option, ◌+◌, ◌≤◌}
use Rattle.std.specs.Prelude.{true, ◌&&◌, if◌then◌else◌}
use Rattle.mc_model.specs.message.Decree.{Decree, Fate, Deleted}
use Rattle.mc_model.specs.message.Submission.{Submission}
use Rattle.mc_model.specs.message.Chain.{taken_in}
use Rattle.mc_model.specs.synod.Packet.{Prepare, Voted, slot_at}
use Rattle.mc_model.specs.synod.Acceptor.{after_vote}
use Rattle.mc_model.specs.synod.OneSlot.{vote_at}
use Rattle.mc_model.specs.node.Input.{Delivery}
use Rattle.mc_model.specs.node.Outputs.{Receipt, Reply}
use Rattle.mc_model.specs.node.Setup.{Setup}
use Rattle.node_model.specs.Kept.{Held, Kept, with_message}
use Rattle.node_model.specs.Answers.{receipts_of, replies_to, still_waits}
use Rattle.node_model.specs.Outputs.{Stepped, sends}
use Rattle.node_model.specs.Packets.{answered_then, settled_for}
use Rattle.node_model.specs.Proposer.{Start, started}
use Rattle.node_model.specs.Starts.{delete_for, start_behind, delete_of, is_idle}
use Rattle.node_model.specs.Stepped.{stepped}
use Rattle.table_laws.specs.Alone.{alone}
use Rattle.table_laws.specs.Tables.{TableNode, known_as}
use Rattle.table_laws.specs.Resting.{IsReady, IsResting, IsTaken}
use Rattle.table_laws.specs.Settling.{Settling, SettlesOn, begins_with, most_deliveries}
use Rattle.table_laws.proofs.Leading.{HasOrder, Leads, leads_then, settles_on, settling, leads_most}
use Rattle.table_laws.proofs.Stages.{known_rests, known_with, settled_held, told_start, vote_ends, IsUnderWay}
use Rattle.table_laws.proofs.Carrying.{ballot as round_ballot, round_starts, start, tried}
use Rattle.table_laws.proofs.Deliveries.{promised_round}

-- What the chain makes of those who wait: nobody is to be settled, nothing is to be deleted, and all are answered so.
pub record AllAnswered (setup : Setup) (id : ℕ) (chain : List Decree) (held : List Held) (replies : List Reply) : Type 0 where
  pub settled : map (settled_for 1 id chain) held ≡ held
  pub undeleted : (k : Kept) → delete_for setup k id held (Some chain) ≡ None
  pub gone : filter (still_waits 1 (Some chain) id) held ≡ []
  pub told : replies_to 1 (Some chain) id held ≡ replies

-- nothing is deleted for nobody
pub nobody_deletes : (setup : Setup) (k : Kept) (id : ℕ) (newest : Decree) (older : List Decree) → delete_for setup k id [] (Some (newest ∷ older)) ≡ None
nobody_deletes setup k id newest older = by_taken (taken_in (newest ∷ older))
  where
    by_idle : (idle : Bool) → (if idle && false then Some (start_behind setup k newest older (Fate Deleted 0)) else None) ≡ None
    by_idle true = refl
    by_idle false = refl

    by_taken : (taken : Option Submission) → delete_of setup k id [] newest older taken ≡ None
    by_taken None = refl
    by_taken (Some message) = by_idle (is_idle newest.kind)

-- nobody waits, and nobody is answered
pub none_answered : (first validity : ℕ) (id : ℕ) (decree : Decree) (old : List Decree) → AllAnswered (alone first validity) id (decree ∷ old) [] []
none_answered first validity id decree old = record {
  settled = refl;
  undeleted = λ kept. nobody_deletes (alone first validity) kept id decree old;
  gone = refl;
  told = refl;
}

-- the vote for the chain is delivered, and all are answered
module _ (first validity : ℕ) (id : ℕ) (old : List Decree) (decree : Decree) (ballot : ℕ) (k : Kept) (up : k.up ≡ true)
    (under : IsUnderWay id old k (Some (promised_round (slot_at id (length old)) ballot (decree ∷ old))) (after_vote (vote_at ballot (decree ∷ old))))
    (taken : IsTaken k id (decree ∷ old)) (held : List Held) (replies : List Reply) (held_is : k.held ≡ held)
    (answered : AllAnswered (alone first validity) id (decree ∷ old) held replies) where
  abbrev setup : Setup
  setup = alone first validity

  abbrev chain : List Decree
  chain = decree ∷ old

  abbrev then_held : List Held → Kept
  then_held hs = known_with first validity id old decree ballot k hs

  abbrev receipts : List Receipt
  receipts = receipts_of 1 k.incarnation id (known_as old) chain

  settled_is : settled_held first validity id old decree ballot k ≡ held
  settled_is = ap (map (settled_for 1 id chain)) held_is ∙ answered.settled

  none_deleted : delete_for setup (then_held (settled_held first validity id old decree ballot k)) id
      (settled_held first validity id old decree ballot k) (Some chain) ≡ None
  none_deleted =
      ap (λ (hs : List Held). delete_for setup (then_held hs) id hs (Some chain)) settled_is
      ∙ answered.undeleted (then_held held)

  -- with this start
  abbrev Starting : Option Start → Stepped
  Starting start = answered_then setup (then_held held) id (known_as old) chain (started setup (then_held held) id start)

  vote_starts : (start : Option Start) → ((hs : List Held) → told_start first validity id old decree ballot (then_held hs) ≡ start) →
      stepped setup k (Delivery (Voted 1 (slot_at id (length old)) (vote_at ballot chain))) ≡ Starting start
  vote_starts start is =
      vote_ends first validity id old decree ballot k up under taken none_deleted start (is (settled_held first validity id old decree ballot k))
      ∙ ap (λ (hs : List Held). answered_then setup (then_held hs) id (known_as old) chain (started setup (then_held hs) id start)) settled_is

  -- no Told follows
  pub vote_answered : ((hs : List Held) → told_start first validity id old decree ballot (then_held hs) ≡ None) →
      stepped setup k (Delivery (Voted 1 (slot_at id (length old)) (vote_at ballot chain))) ≡ sends (then_held []) [] replies receipts
  vote_answered untold =
      vote_starts None untold ∙ (λ i. sends (then_held (answered.gone i)) [] (answered.told i) receipts)

  -- one follows at once
  module _ (told : Decree) where
    ready_for : IsReady (then_held held) id chain
    ready_for = (known_rests first validity id old decree ballot k held under taken).ready

    pub vote_told : ((hs : List Held) → told_start first validity id old decree ballot (then_held hs) ≡ Some (start first validity id chain told)) →
        stepped setup k (Delivery (Voted 1 (slot_at id (length old)) (vote_at ballot chain)))
        ≡ sends (with_message (then_held []) id (tried first validity id chain told (then_held [])))
        (Prepare 1 (slot_at id (length chain)) (round_ballot first validity id chain told (then_held [])) ∷ []) replies receipts
    vote_told starts =
        vote_starts (Some (start first validity id chain told)) starts
        ∙ (ap (answered_then setup (then_held held) id (known_as old) chain) (round_starts first validity id chain told (then_held held) ready_for)
        ∙ (λ i. sends (record (with_message (then_held held) id (tried first validity id chain told (then_held held))) { held = answered.gone i })
        (Prepare 1 (slot_at id (length chain)) (round_ballot first validity id chain told (then_held held)) ∷ []) (answered.told i) receipts))

-- this many deliveries at most lead to a node at rest
pub record Ends (setup : Setup) (most : ℕ) (s : Settling) (t : TableNode) (replies : List Reply) (receipts : List Receipt) : Type 0 where
  pub kept : Kept
  pub leads : Leads setup most s (settling kept [] replies receipts)
  pub resting : IsResting kept t

pub ends_after : (setup : Setup) {m n : ℕ} (s u : Settling) (t : TableNode) (replies : List Reply) (receipts : List Receipt) →
    Leads setup m s u → Ends setup n u t replies receipts →
    Ends setup (m + n) s t replies receipts
ends_after setup s u t replies receipts leads ends = record { kept = ends.kept; leads = leads_then setup s u _ leads ends.leads; resting = ends.resting }

pub settles_after : (setup : Setup) {n : ℕ} (step begun : Stepped) (t : TableNode) (replies : List Reply) (receipts : List Receipt) → step ≡ begun →
    begun.outputs.replies ≡ [] → begun.outputs.receipts ≡ [] → HasOrder setup (begins_with begun) replies receipts →
    Ends setup n (begins_with begun) t replies receipts → n ≤ most_deliveries t → SettlesOn setup step t replies receipts
settles_after setup step begun t replies receipts is no_replies no_receipts order ends within =
    subst (λ (s : Stepped). SettlesOn setup s t replies receipts) (sym is)
    (settles_on setup begun (settling ends.kept [] replies receipts) t no_replies no_receipts order
    (leads_most setup (most_deliveries t) _ _ within ends.leads) refl ends.resting)
