-- A script over three nodes: a message is taken at the node 1, and asked for at the node 2.
use Rattle.std.specs.Prelude.{◌≡◌, ℕ, List, [], ◌∷◌, ◌++◌, None, codes}
use Rattle.script_text.specs.Script.{bad_line, text_of}

-- At the node 1 an ESME binds and submits, and all nodes agree. At the node 2 it binds and asks, and two nodes tell. The node 3 stops at a
-- packet, is told of a moment, starts anew, and gets all packets again.
abbrev pub three_nodes : List ℕ
three_nodes =
    codes "nodes 3" ++ 10 ∷
    (codes "deliver 1 1" ++ 10 ∷
    (codes "pdu 1 1 0000001e000000090000000000000001736d653100707731000034000000" ++ 10 ∷
    (codes "pdu 1 1 0000002900000004000000000000000200010131343400010131353500000000000001000000024869" ++ 10 ∷
    (codes "settle" ++ 10 ∷
    (codes "pdu 2 1 0000001e000000090000000000000001736d653100707731000034000000" ++ 10 ∷
    (codes "pdu 2 1 000000210000000300000000000000033130303031303030303100010131343400" ++ 10 ∷
    (codes "settle 2 3" ++ 10 ∷
    (codes "crash 3 1 before" ++ 10 ∷
    (codes "tick 3 946684801" ++ 10 ∷
    (codes "restart 3" ++ 10 ∷
    (codes "replay 1" ++ 10 ∷
    (codes "restart 1" ++ 10 ∷ []))))))))))))

-- what it prints: no packet has the number 1 yet; the bind_transceiver_resp and the submit_sm_resp of the node 1; those of the node 2, of
-- which the query_sm_resp tells ENROUTE; the node 3 is down; and the session of the node 1 is gone
abbrev pub three_nodes_text : List ℕ
three_nodes_text =
    codes "refused 1" ++ 10 ∷
    (codes "pdu 1 1 0000001c80000009000000000000000143454e545245000210000134" ++ 10 ∷
    (codes "pdu 1 1 0000001b8000000400000000000000023130303031303030303100" ++ 10 ∷
    (codes "pdu 2 1 0000001c80000009000000000000000143454e545245000210000134" ++ 10 ∷
    (codes "pdu 2 1 0000001e8000000300000000000000033130303031303030303100000100" ++ 10 ∷
    (codes "refused 4" ++ 10 ∷
    (codes "gone 1 1" ++ 10 ∷ []))))))

abbrev pub ThreeNodesPrint : Type 0
ThreeNodesPrint = (text_of three_nodes ≡ three_nodes_text) × (bad_line three_nodes ≡ None)
