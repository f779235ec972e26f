-- A script over three nodes of whose text two lines tell one fate, and in which a cancel_sm is answered ESME_ROK.
use Rattle.std.specs.Prelude.{◌≡◌, ℕ, List, [], ◌∷◌, ◌++◌, codes, drop, take}
use Rattle.mc_model.specs.synod.Lists.{In}
use Rattle.pdu_fields.specs.Grammar.{query_answer_parts}
use Rattle.pdu_bodies.specs.Contents.{query_answer_contents}
use Rattle.pdu_bodies.specs.declared.pdu.QueryAnswer.{QueryAnswer}
use Rattle.script_lines.specs.Lines.{lines_of}
use Rattle.script_text.specs.Script.{text_of}
use Rattle.world_fates.specs.Example.{cancelled_and_asked, its_message}
use Rattle.octet_laws.specs.Sessions.{IsCancelAnswer, Writes, heard_on}
use Rattle.octet_laws.specs.Tellings.{IsPdu, TellsFate, esme_rok, query_sm_resp}

-- the delivery receipt of the message that was cancelled, at the node 1
abbrev pub receipt_line : List ℕ
receipt_line =
    codes "pdu 1 1 000000a3000000050000000000000001000101313535000101313434000400000000000000006869643a31303030313030303031207375623a30303120646c7672643a303030207375626d697420646174653a3030303130313030303020646f6e6520646174653a3030303130313030303020737461743a44454c45544544206572723a30303020746578743a4869001e000b31303030313030303031000427000104"

-- the query_sm_resp at the node 2
abbrev pub answer_line : List ℕ
answer_line = codes "pdu 2 1 0000002e80000003000000000000000331303030313030303031003030303130313030303030303030302b000400"

-- both are lines of the text, and tell DELETED
pub record TwoLinesTellOneFate : Type 0 where
  pub receipt_in : In receipt_line (lines_of (text_of cancelled_and_asked))
  pub answer_in : In answer_line (lines_of (text_of cancelled_and_asked))
  pub receipt : TellsFate receipt_line its_message 4
  pub answer : TellsFate answer_line its_message 4

-- its lines up to the cancel_sm; the settle behind them, by which that is answered; and those up to the query_sm, before the settle by which that is
abbrev pub up_to_cancel : List (List ℕ)
up_to_cancel = take 5 (lines_of cancelled_and_asked)

abbrev pub settle : List ℕ
settle = codes "settle"

abbrev pub up_to_query : List (List ℕ)
up_to_query = drop 6 (take 8 (lines_of cancelled_and_asked))

-- The cancel_sm of the sequence_number 4 is answered ESME_ROK on the session 1 of the node 1, and the query_sm of the sequence_number 3 on the session 1
-- of the node 2, where nothing had come before.
pub record ACancelIsAnswered : Type 0 where
  pub cancelled : List ℕ
  pub cancel_answer : Writes up_to_cancel settle 1 1 cancelled
  pub is_cancel_answer : IsCancelAnswer cancelled 4
  pub told : List ℕ
  pub query_answer : Writes ((up_to_cancel ++ settle ∷ []) ++ up_to_query) settle 2 1 told
  pub answer : QueryAnswer
  pub is_query_answer : IsPdu told query_sm_resp esme_rok query_answer_parts (query_answer_contents answer)
  pub message : answer.message_id ≡ its_message
  pub fresh : heard_on 2 1 (up_to_cancel ++ settle ∷ []) ≡ []
