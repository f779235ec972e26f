-- A query_sm comes to a node by itself, which settles.
use Rattle.std.proofs.Common.{◌≡◌, ℕ, Bool, true, false, List, [], ◌∷◌, Option, Some, None, refl, ap, ◌∙◌, inl, inr, arith}
use Rattle.std.specs.Prelude.{if◌then◌else◌}
use Rattle.mc_model.specs.message.Decree.{Decree}
use Rattle.mc_model.specs.message.Chain.{taken_in}
use Rattle.mc_model.specs.synod.Packet.{Ask, Name, Tell, TopVote}
use Rattle.mc_model.specs.node.Actor.{Query, Request}
use Rattle.mc_model.specs.node.Input.{Arrival, Delivery}
use Rattle.mc_model.specs.node.Replies.{NotOwner, Shown}
use Rattle.mc_model.specs.node.Setup.{Setup}
use Rattle.node_model.specs.Acceptor.{told_of}
use Rattle.node_model.specs.Answers.{answer_by, answer_to, is_owner}
use Rattle.node_model.specs.Kept.{Held, Kept, message_at}
use Rattle.node_model.specs.Outputs.{sends}
use Rattle.node_model.specs.Packets.{start_told}
use Rattle.node_model.specs.Requests.{higher_top, is_reached, told_by}
use Rattle.node_model.specs.Starts.{follow}
use Rattle.node_model.specs.Stepped.{stepped}
use Rattle.node_model.specs.Ticks.{begun_with}
use Rattle.table_laws.specs.Alone.{alone}
use Rattle.table_laws.specs.Tables.{TableNode, known_as, receipts_by, reply_to, requested, shown, chain_at}
use Rattle.table_laws.specs.Resting.{IsResting, IsTakenIfAny}
use Rattle.table_laws.specs.Settling.{SettlesOn}
use Rattle.table_laws.proofs.Leading.{leads_on, leads_sending, leads_then, few_enough}
use Rattle.table_laws.proofs.Deliveries.{ask_delivered}
use Rattle.table_laws.proofs.Ending.{settles_after}
use Rattle.table_laws.proofs.Calm.{IsCalm, arrived, calm_arrived, held_arrived, newcomer, noted, rests_still}
use Rattle.table_laws.proofs.Asking.{IsReachedBy, answer_given, name, tell_delivered, told_is_reached}

-- ---- what it is answered

query_answer : (k : Kept) (id : ℕ) (chain : List Decree) (account source : List ℕ) → IsTakenIfAny k id chain →
    answer_by (known_as chain) true false (Query id account source) ≡ Some (shown account source chain (taken_in chain))
query_answer k id [] account source taken = refl
query_answer k id (newest ∷ older) account source taken = rw taken.taken (by_owner (is_owner taken.message account source))
  where
    by_owner : (test : Bool) → (if test then Some (Shown (newest ∷ older)) else Some NotOwner) ≡ Some (if test then Shown (newest ∷ older) else NotOwner)
    by_owner true = refl
    by_owner false = refl

module _ (first validity : ℕ) (k : Kept) (t : TableNode) (id : ℕ) (account source : List ℕ) (resting : IsResting k t) where
  abbrev setup : Setup
  setup = alone first validity

  abbrev request : Request
  request = Query id account source

  abbrev k0 : Kept
  k0 = arrived k request

  abbrev new : Held
  new = newcomer k request

  abbrev old : List Decree
  old = chain_at t.table id

  abbrev told : Option TopVote
  told = told_of k.records id

  abbrev known : Option (List Decree)
  known = (message_at k id).known

  abbrev named : Name
  named = name first validity k t request resting

  calm : IsCalm k0 (noted t request)
  calm = calm_arrived k t request resting

  reached : IsReachedBy id old told
  reached = told_is_reached k id old (resting.message id).ready

  known_is : known ≡ known_as old
  known_is = (resting.message id).ready.known

  begun_is : stepped setup k (Arrival request) ≡ begun_with setup k new (record { kept = k0; packets = [] })
  begun_is = rw resting.up refl

  unstarted : start_told setup k0 known (told_by new 1 told) (told_by new 1 told) ≡ None
  unstarted = ap (λ (o : Option (List Decree)). follow o (higher_top None told)) known_is ∙ reached.unfollowed

  answer : answer_to 1 known (told_by new 1 told) ≡ Some (shown account source old (taken_in old))
  answer =
      ap (λ (o : Option (List Decree)). answer_by o (is_reached o (higher_top None told)) false request) known_is
      ∙ (ap (λ (b : Bool). answer_by (known_as old) b false request) reached.reached ∙ query_answer k id old account source (resting.message id).taken)

  abbrev end : Kept
  end = record k0 { held = [] }

  answered : stepped setup k0 (Delivery (Tell 1 named told)) ≡ sends end [] (reply_to t request ∷ []) []
  answered =
      tell_delivered first validity k t request resting told reached.about
      ∙ (answer_given setup k0 known new (told_by new 1 told) (told_by new 1 told) (shown account source old (taken_in old))
      (held_arrived k t request resting) refl
      unstarted answer
      ∙ (λ i. sends end [] (record { ticket = resting.ticket i; id = id; answer = shown account source old (taken_in old) } ∷ []) []))

  pub query_settles : SettlesOn setup (stepped setup k (Arrival request)) (requested t request) (reply_to t request ∷ []) (receipts_by t request)
  query_settles =
      settles_after setup _ _ (requested t request) (reply_to t request ∷ []) [] begun_is refl refl (inr (inl refl)) (record {
        kept = end;
        leads =
            leads_then setup _ _ _ (leads_sending setup k0 (Ask 1 id named) [] [] [] k0 (Tell 1 named told ∷ [])
            (ask_delivered first validity k0 calm.up id named))
            (leads_on setup k0 (Tell 1 named told) [] [] [] (sends end [] (reply_to t request ∷ []) []) answered);
        resting = rests_still k0 (noted t request) calm;
      }) (few_enough (requested t request) (omega arith))
