-- That verdicts are those of the acceptor of the definitions.
use Rattle.std.specs.Prelude.{◌≡◌, ℕ, [], ◌∷◌}
use Rattle.mc_model.specs.synod.OneSlot.{Vote}
use Rattle.mc_model.specs.synod.Packet.{Slot, Prepare, Propose}
use Rattle.mc_model.specs.synod.Acceptor.{Records, with_record}
use Rattle.mc_model.specs.node.Actor.{Actor}
use Rattle.mc_model.specs.node.Act.{Act}
use Rattle.mc_model.specs.node.Core.{AcceptorReplies}
use Rattle.mc_model.specs.node.Effect.{packets_by, records_by}
use Rattle.node_model.specs.Acceptor.{Judgement, prepare_judged, propose_judged}

-- the act of a node sends the answer, and leaves the record in the slot
pub record Does (node : ℕ) (a : Actor) (records : Records) (slot : Slot) (act : Act) (judged : Judgement) : Type 0 where
  pub sends : packets_by node a records act ≡ judged.answer ∷ []
  pub leaves : (other : Slot) → records_by records act other ≡ with_record records slot judged.after other

abbrev pub PreparesKeepTheRule : Type 0
PreparesKeepTheRule = (node sender : ℕ) (a : Actor) (records : Records) (slot : Slot) (ballot : ℕ) (act : Act) →
    AcceptorReplies records (Prepare sender slot ballot) (act ∷ []) →
    Does node a records slot act (prepare_judged node slot ballot (records slot))

abbrev pub ProposesKeepTheRule : Type 0
ProposesKeepTheRule = (node sender : ℕ) (a : Actor) (records : Records) (slot : Slot) (vote : Vote) (act : Act) →
    AcceptorReplies records (Propose sender slot vote) (act ∷ []) →
    Does node a records slot act (propose_judged node slot vote (records slot))
