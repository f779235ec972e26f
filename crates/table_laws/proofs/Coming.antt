-- A round of a node by itself, and that of the Told behind it, from the start to the end.
use Rattle.std.proofs.Common.{◌≡◌, ℕ, List, [], ◌∷◌, length, refl, subst, Bool, false, ◌++◌, append-nil, arith}
use Rattle.std.specs.Prelude.{true, if◌then◌else◌}
use Rattle.mc_model.specs.message.Decree.{Decree}
use Rattle.mc_model.specs.synod.Packet.{Prepare, slot_at}
use Rattle.mc_model.specs.node.Outputs.{Receipt, Reply}
use Rattle.mc_model.specs.node.Setup.{Setup}
use Rattle.node_model.specs.Kept.{Held, Kept, with_message}
use Rattle.node_model.specs.Answers.{receipts_of}
use Rattle.table_laws.specs.Alone.{alone}
use Rattle.table_laws.specs.Tables.{Table, TableNode, extended, known_as, receipts_with, settled, tells, with_entry}
use Rattle.table_laws.specs.Resting.{IsReady, IsResting, IsTaken}
use Rattle.table_laws.specs.Settling.{IsOrderly, Settling}
use Rattle.table_laws.proofs.Frames.{entry_again}
use Rattle.table_laws.proofs.Leading.{Leads, leads_same, leads_then, settling, leads_most}
use Rattle.table_laws.proofs.Stages.{known_with}
use Rattle.table_laws.proofs.Carrying.{ballot, tried}
use Rattle.table_laws.proofs.Tellings.{none_behind_told, receipts_told, told}
use Rattle.table_laws.proofs.Calm.{IsCalmBut, calm_at_rest, calm_but}
use Rattle.table_laws.proofs.Ending.{AllAnswered, Ends, none_answered}
use Rattle.table_laws.proofs.Ways.{begun_with_round, carried, end as end_of, end_ready, end_rests, end_taken, plain_leads, plain_orderly, told_leads}

module _ (first validity : ℕ) (k : Kept) (t : TableNode) (id : ℕ) (old : List Decree) (decree : Decree) (held : List Held) (replies : List Reply)
    (calm : IsCalmBut id k t) (ready : IsReady k id old) (held_is : k.held ≡ held) (taken : IsTaken k id (decree ∷ old))
    (answered : AllAnswered (alone first validity) id (decree ∷ old) held replies) where
  abbrev setup : Setup
  setup = alone first validity

  abbrev chain : List Decree
  chain = decree ∷ old

  abbrev telling : Decree
  telling = told first validity t id old decree

  abbrev begins : Settling
  begins = settling (with_message k id (tried first validity id old decree k)) (Prepare 1 (slot_at id (length old)) (ballot first validity id old decree k) ∷ []) [] []

  abbrev TableWith : Bool → TableNode
  TableWith test = record t { table = with_entry t.table id (record { chain = if test then telling ∷ chain else chain; granted = false }) }

  abbrev ReceiptsWith : Bool → List Receipt
  ReceiptsWith test = receipts_of 1 t.incarnation id (known_as old) (if test then telling ∷ chain else chain)

  record Comes (test : Bool) : Type 0 where
    ends : Ends setup 8 begins (TableWith test) replies (ReceiptsWith test)
    orderly : {m : ℕ} (s : Settling) → Leads setup m s begins → IsOrderly setup s replies

  comes_plain : tells old decree ≡ false → Comes false
  comes_plain plain = record {
    ends = record {
      kept = _;
      leads = leads_most setup 8 _ _ (omega arith) (plain_leads first validity k t id old decree held replies calm ready held_is taken answered plain [] []);
      resting = end_rests first validity k t id old decree held replies calm ready held_is taken answered;
    };
    orderly = λ s before. plain_orderly first validity k t id old decree held replies calm ready held_is taken answered plain s [] replies refl before;
  }

  module _ (tells_it : tells old decree ≡ true) where
    abbrev end : Kept
    end = known_with first validity id old decree (ballot first validity id old decree k)
        (carried first validity k t id old decree held replies calm ready held_is taken answered).voted []

    abbrev t1 : TableNode
    t1 = record t { table = with_entry t.table id (extended old decree) }

    rests_1 : IsResting end t1
    rests_1 = end_rests first validity k t id old decree held replies calm ready held_is taken answered

    calm_1 : IsCalmBut id end t1
    calm_1 = calm_but id end t1 (calm_at_rest end t1 rests_1)

    ready_1 : IsReady end id chain
    ready_1 = end_ready first validity k t id old decree held replies calm ready held_is taken answered tells_it

    taken_1 : IsTaken end id (telling ∷ chain)
    taken_1 = end_taken first validity k t id old decree held replies calm ready held_is taken answered tells_it

    nobody : AllAnswered setup id (telling ∷ chain) [] []
    nobody = none_answered first validity id telling chain

    leads_1 : Leads setup 4 begins (begun_with_round first validity end t1 id chain telling [] [] calm_1 ready_1 refl taken_1 nobody replies [])
    leads_1 = told_leads first validity k t id old decree held replies calm ready held_is taken answered tells_it

    abbrev end_2 : Kept
    end_2 = end_of first validity end t1 id chain telling [] [] calm_1 ready_1 refl taken_1 nobody

    leads_2 : Leads setup 8 begins (settling end_2 [] (replies ++ []) ([] ++ receipts_of 1 t.incarnation id (known_as chain) (telling ∷ chain)))
    leads_2 =
        leads_then setup _ _ _ leads_1
        (plain_leads first validity end t1 id chain telling [] [] calm_1 ready_1 refl taken_1 nobody (none_behind_told t1 chain) replies [])

    comes_told : Comes true
    comes_told = record {
      ends = record {
        kept = end_2;
        leads = leads_then setup _ _ _ leads_2 (leads_same setup _ _ (λ i. settling end_2 [] (append-nil replies i) (receipts_told first validity t id old decree i)));
        resting =
            subst (λ (table : Table). IsResting end_2 (record t { table = table })) (entry_again t.table id (extended old decree) (extended chain telling))
            (end_rests first validity end t1 id chain telling [] [] calm_1 ready_1 refl taken_1 nobody);
      };
      orderly = λ s before. plain_orderly first validity end t1 id chain telling [] [] calm_1 ready_1 refl taken_1 nobody (none_behind_told t1 chain) s replies
          replies (append-nil replies) (leads_then setup s _ _ before leads_1);
    }

  comes : Comes (tells old decree)
  comes = by_test (tells old decree) refl
    where
      by_test : (test : Bool) → tells old decree ≡ test → Comes test
      by_test true is = comes_told is
      by_test false is = comes_plain is

  pub round_ends : Ends setup 8 begins (record t { table = with_entry t.table id (settled t old decree) }) replies (receipts_with t id old decree)
  round_ends = comes.ends

  -- If nothing was given out before, no reply comes behind a receipt.
  pub round_orderly : {m : ℕ} (s : Settling) → Leads setup m s begins → IsOrderly setup s replies
  round_orderly = comes.orderly
