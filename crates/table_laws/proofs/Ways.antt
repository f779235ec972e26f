-- The vote for a decree on its way: what a round leads to, with a Told behind it and without.
use Rattle.std.proofs.Common.{◌≡◌, ℕ, suc, List, [], ◌∷◌, length, Some, None, refl, ap, ◌∙◌, Bool, false, ◌+◌, ◌++◌, arith}
use Rattle.std.specs.Prelude.{true, if◌then◌else◌}
use Rattle.mc_model.specs.message.Decree.{Decree}
use Rattle.mc_model.specs.synod.Packet.{Packet, Prepare, Voted, slot_at}
use Rattle.mc_model.specs.node.Input.{Delivery}
use Rattle.mc_model.specs.node.Outputs.{Receipt, Reply}
use Rattle.mc_model.specs.node.Setup.{Setup}
use Rattle.node_model.specs.Kept.{Held, Kept, with_message}
use Rattle.node_model.specs.Answers.{receipts_of}
use Rattle.node_model.specs.Outputs.{sends}
use Rattle.node_model.specs.Stepped.{stepped}
use Rattle.table_laws.specs.Alone.{alone}
use Rattle.table_laws.specs.Tables.{TableNode, extended, known_as, tells, with_entry}
use Rattle.table_laws.specs.Resting.{IsReady, IsResting, IsTaken}
use Rattle.table_laws.specs.Settling.{IsOrderly, Settling, delivered, first_delivered, goes_on}
use Rattle.table_laws.proofs.Frames.{given_as, same_then}
use Rattle.table_laws.proofs.Leading.{Leads, goes_on_by_one, leads_on, orderly_last, leads_then, settling}
use Rattle.table_laws.proofs.Stages.{known_rests, known_same, known_with, told_start}
use Rattle.table_laws.proofs.Carrying.{Carried, ballot, round_carried, start, tried, vote}
use Rattle.table_laws.proofs.Tellings.{silent, tell_is, told}
use Rattle.table_laws.proofs.Calm.{IsCalmBut, rests_with}
use Rattle.table_laws.proofs.Ending.{AllAnswered, vote_answered, vote_told}

module _ (first validity : ℕ) (k : Kept) (t : TableNode) (id : ℕ) (old : List Decree) (decree : Decree) (held : List Held) (replies : List Reply)
    (calm : IsCalmBut id k t) (ready : IsReady k id old) (held_is : k.held ≡ held) (taken : IsTaken k id (decree ∷ old))
    (answered : AllAnswered (alone first validity) id (decree ∷ old) held replies) where
  abbrev setup : Setup
  setup = alone first validity

  abbrev chain : List Decree
  chain = decree ∷ old

  abbrev b : ℕ
  b = ballot first validity id old decree k

  pub carried : Carried first validity id old decree k
  carried = round_carried first validity id old decree k calm.up ready

  abbrev pub voted : Kept
  voted = carried.voted

  taken_then : IsTaken voted id chain
  taken_then = record { message = taken.message; taken = taken.taken; given = given_as k voted id carried.same.incarnation carried.same.serial taken.given }

  abbrev pub begun_with_round : List Reply → List Receipt → Settling
  begun_with_round given gave =
      settling (with_message k id (tried first validity id old decree k)) (Prepare 1 (slot_at id (length old)) b ∷ []) given gave

  abbrev vote_packet : Packet
  vote_packet = Voted 1 (slot_at id (length old)) (vote first validity id old decree k)

  abbrev pub table_then : TableNode
  table_then = record t { table = with_entry t.table id (extended old decree) }

  abbrev pub end : Kept
  end = known_with first validity id old decree b voted []

  abbrev receipts : List Receipt
  receipts = receipts_of 1 t.incarnation id (known_as old) chain

  incarnation_then : voted.incarnation ≡ t.incarnation
  incarnation_then = carried.same.incarnation ∙ calm.incarnation

  start_then : (hs : List Held) → told_start first validity id old decree b (known_with first validity id old decree b voted hs)
      ≡ (if tells old decree then Some (start first validity id chain (told first validity t id old decree)) else None)
  start_then hs = tell_is first validity t id old decree (known_with first validity id old decree b voted hs) incarnation_then (carried.same.clock ∙ calm.clock)

  pub end_rests : IsResting end table_then
  end_rests =
      rests_with k end t id (extended old decree) calm (same_then id k voted end carried.same (known_same first validity id old decree b voted [])) refl
      (known_rests first validity id old decree b voted [] carried.under taken_then)

  -- ---- no Told follows

  module _ (plain : tells old decree ≡ false) where
    last_step : stepped setup voted (Delivery vote_packet) ≡ sends end [] replies receipts
    last_step =
        vote_answered first validity id old decree b voted (carried.same.up ∙ calm.up) carried.under taken_then held replies (carried.held ∙ held_is) answered
        (λ hs. start_then hs ∙ ap (λ (test : Bool). if test then Some (start first validity id chain (told first validity t id old decree)) else None) plain)
        ∙ ap (λ (n : ℕ). sends end [] replies (receipts_of 1 n id (known_as old) chain)) incarnation_then

    pub plain_leads : (given : List Reply) (gave : List Receipt) → Leads setup 4 (begun_with_round given gave) (settling end [] (given ++ replies) (gave ++ receipts))
    plain_leads given gave =
        leads_then setup _ _ _ (carried.leads given gave) (leads_on setup voted vote_packet [] given gave (sends end [] replies receipts) last_step)

    -- all is given out with the last delivery
    pub plain_orderly : {m : ℕ} (s : Settling) (given all : List Reply) → given ++ replies ≡ all → Leads setup m s (begun_with_round given []) →
        IsOrderly setup s all
    plain_orderly s given all is before =
        let leads = leads_then setup s _ _ before (carried.leads given []) in
        let one_more : suc leads.deliveries ≡ leads.deliveries + 1 = omega arith in
        let last : delivered setup (suc leads.deliveries) s ≡ settling end [] (given ++ replies) receipts =
        ap (λ (n : ℕ). delivered setup n s) one_more
        ∙ goes_on_by_one setup s leads.deliveries
        ∙ ap (λ (t : Settling). first_delivered setup t t.packets) leads.reached
        ∙ ap (goes_on (settling voted (vote_packet ∷ []) given []) []) last_step in
        orderly_last setup s leads.deliveries all (ap (λ (t : Settling). t.receipts) leads.reached) (ap (λ (t : Settling). t.packets) last)
        (ap (λ (t : Settling). t.replies) last ∙ is)

  -- ---- one does

  module _ (tells_it : tells old decree ≡ true) where
    abbrev telling : Decree
    telling = told first validity t id old decree

    pub told_step : stepped setup voted (Delivery vote_packet)
        ≡ sends (with_message end id (tried first validity id chain telling end)) (Prepare 1 (slot_at id (length chain))
        (ballot first validity id chain telling end) ∷ []) replies []
    told_step =
        vote_told first validity id old decree b voted (carried.same.up ∙ calm.up) carried.under taken_then held replies (carried.held ∙ held_is) answered telling
        (λ hs. start_then hs ∙ ap (λ (test : Bool). if test then Some (start first validity id chain telling) else None) tells_it)
        ∙ ap (sends (with_message end id (tried first validity id chain telling end)) (Prepare 1 (slot_at id (length chain))
        (ballot first validity id chain telling end) ∷ []) replies) (silent first validity t id old decree voted.incarnation tells_it)

    pub told_leads : Leads setup 4 (begun_with_round [] [])
        (settling (with_message end id (tried first validity id chain telling end)) (Prepare 1 (slot_at id (length chain))
        (ballot first validity id chain telling end) ∷ []) replies [])
    told_leads =
        leads_then setup _ _ _ (carried.leads [] [])
        (leads_on setup voted vote_packet [] [] []
        (sends (with_message end id (tried first validity id chain telling end)) (Prepare 1 (slot_at id (length chain))
        (ballot first validity id chain telling end) ∷ []) replies []) told_step)

    pub end_ready : IsReady end id chain
    end_ready = (known_rests first validity id old decree b voted [] carried.under taken_then).ready

    pub end_taken : IsTaken end id (telling ∷ chain)
    end_taken =
        let rest = (known_rests first validity id old decree b voted [] carried.under taken_then).taken in
        record { message = rest.message; taken = rest.taken; given = rest.given }
