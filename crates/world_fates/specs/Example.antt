-- A script over three nodes: a message is cancelled at the node 1, and asked for at the node 2.
use Rattle.std.specs.Prelude.{ℕ, List, [], ◌∷◌, ◌++◌, None, Some, codes}
use Rattle.mc_model.specs.synod.Lists.{In}
use Rattle.pdu_tables.specs.StateCodes.{state_code}
use Rattle.pdu_tables.specs.declared.state.State.TheVariants as states
use Rattle.script_text.specs.Example.{second_script}
use Rattle.script_text.specs.Laws.{TellsDeletion, TellsReceipt, TellsState}
use Rattle.script_text.specs.Prints.{Print}
use Rattle.script_text.specs.Settings.{script_settings}
use Rattle.script_text.specs.Prints.{At, WorldPrint}
use Rattle.script_text.specs.Script.{Joins, Stage, prints_of}
use Rattle.script_text.specs.World.{NodeInput, World}
use Rattle.world_fates.specs.Requests.{GoesOutOn, IsQueryOf, IsUsedFor}

-- At the node 1 an ESME binds, submits with a receipt asked for, and cancels, and all nodes agree. At the node 2 it binds and asks.
abbrev pub cancelled_and_asked : List ℕ
cancelled_and_asked =
    codes "nodes 3" ++ 10 ∷
    (codes "pdu 1 1 0000001e000000090000000000000001736d653100707731000034000000" ++ 10 ∷
    (codes "pdu 1 1 0000002900000004000000000000000200010131343400010131353500000000000001000000024869" ++ 10 ∷
    (codes "settle" ++ 10 ∷
    (codes "pdu 1 1 00000025000000080000000000000004003130303031303030303100010131343400000000" ++ 10 ∷
    (codes "settle" ++ 10 ∷
    (codes "pdu 2 1 0000001e000000090000000000000001736d653100707731000034000000" ++ 10 ∷
    (codes "pdu 2 1 000000210000000300000000000000033130303031303030303100010131343400" ++ 10 ∷
    (codes "settle" ++ 10 ∷ []))))))))

-- the message_id of its message
abbrev pub its_message : List ℕ
its_message = codes "1000100001"

-- the node 1 answers the cancel_sm ESME_ROK and sends the receipt, and the node 2 tells DELETED
pub record TwoNodesTellOneFate : Type 0 where
  pub cancel : Print
  pub receipt : Print
  pub query : Print
  pub cancel_in : In (At 1 cancel) (prints_of cancelled_and_asked)
  pub receipt_in : In (At 1 receipt) (prints_of cancelled_and_asked)
  pub query_in : In (At 2 query) (prints_of cancelled_and_asked)
  pub deletion : TellsDeletion cancel its_message
  pub report : TellsReceipt receipt its_message (state_code states.Deleted)
  pub state : TellsState query its_message (state_code states.Deleted)

-- its lines up to the bind of the ESME that asks, and those behind it: its query_sm, and the settle
abbrev pub until_it_asks : List (List ℕ)
until_it_asks =
    codes "nodes 3"
    ∷ codes "pdu 1 1 0000001e000000090000000000000001736d653100707731000034000000"
    ∷ codes "pdu 1 1 0000002900000004000000000000000200010131343400010131353500000000000001000000024869"
    ∷ codes "settle"
    ∷ codes "pdu 1 1 00000025000000080000000000000004003130303031303030303100010131343400000000"
    ∷ codes "settle"
    ∷ codes "pdu 2 1 0000001e000000090000000000000001736d653100707731000034000000" ∷ []

abbrev pub then_it_asks : List (List ℕ)
then_it_asks =
    codes "pdu 2 1 000000210000000300000000000000033130303031303030303100010131343400"
    ∷ codes "settle" ∷ []

-- Then the cancel_sm is answered ESME_ROK before it asks, its sequence_number is used for query_sms of the message alone, and it is told DELETED.
pub record ALaterQueryIsTold : Type 0 where
  pub world : World
  pub last : Stage
  pub came : List NodeInput
  pub coming : List NodeInput
  pub prints : List WorldPrint
  pub others : List WorldPrint
  pub joins : Joins script_settings None until_it_asks came prints (Some world)
  pub more : Joins script_settings (Some world) then_it_asks coming others last
  pub cancel : Print
  pub cancel_in : In (At 1 cancel) prints
  pub deletion : TellsDeletion cancel its_message
  pub used : IsUsedFor (IsQueryOf its_message) script_settings world then_it_asks 2 1 3
  pub query : Print
  pub query_in : In (At 2 query) others
  pub goes : GoesOutOn query 1 3
  pub state : TellsState query its_message (state_code states.Deleted)

-- In a script over one node an attempt is granted, its deliver_sm is answered ESME_ROK, and the receipt tells so.
pub record ADeliveryIsTold : Type 0 where
  pub receipt : Print
  pub among : In (At 1 receipt) (prints_of second_script)
  pub report : TellsReceipt receipt its_message (state_code states.Delivered)
