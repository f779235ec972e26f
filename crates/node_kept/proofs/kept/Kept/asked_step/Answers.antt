use Rattle.synod_acceptor.specs.Votes.{slot_in, vote_of}
use Rattle.node_kept.proofs.Alone.{alone_prepare, alone_propose, if_more}
use Rattle.node_kept.proofs.kept.Kept.asked_step.Goals as goal

pub returns-in-Prepare : goal.returns-in-Prepare
returns-in-Prepare c =
    let k = c.args.self.now in
    rw c.in-Prepare.is
    (if_more c.on_prepare.result _ _ (λ step alone id asks. alone_prepare k c.in-Prepare.from c.in-Prepare.slot id step asks c.in-Prepare.ballot alone)
    (c.on_prepare.ensures.alone c.requires.own))

pub returns-in-Propose : goal.returns-in-Propose
returns-in-Propose c =
    let k = c.args.self.now in
    rw c.in-Propose.is
    (if_more c.on_propose.result _ _ (λ step alone id asks.
    alone_propose k c.in-Propose.from (slot_in c.in-Propose.vote) id step asks (vote_of c.in-Propose.vote) alone)
    (c.on_propose.ensures.alone c.requires.own))
