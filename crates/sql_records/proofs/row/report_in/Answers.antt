use Rattle.std.proofs.Common.{rules, ◌≡◌, pos, Some, None, Option}
use Rattle.mc_model.specs.synod.OneSlot.{Vote}
use Rattle.mc_model.specs.synod.Packet.{Slot}
use Rattle.record_rows.specs.Content.{Body, body_of}
use Rattle.sql_records.specs.Standing.{IsChainIn, IsVoteIn, chain_in}
use Rattle.sql_records.proofs.row.report_in.Goals as goal

-- a ballot that is not 0 is that of a vote, and so of a chain
no_vote : (slot : Slot) (body : Body) → (body.voted ≡ pos 0 → ⊥) → ((vote : Vote) → IsChainIn slot body.chain (chain_in slot vote) → ⊥)
    → (vote : Option Vote) → IsVoteIn slot vote body → ⊥
no_vote slot body voted none None is = voted is.voted
no_vote slot body voted none (Some vote) is = none vote is.chain

pub returns-in_err-chain-clause-damaged : goal.returns-in_err-chain-clause-damaged
returns-in_err-chain-clause-damaged c is =
    no_vote c.args.slot (body_of c.args.row.now) (λ none. c.if-row-eq0.false (rw none)) (λ vote chain. c.in_err-chain.ensures.damaged
    (search rules) (chain_in c.args.slot vote) (rw c.deref.ensures.value chain))
