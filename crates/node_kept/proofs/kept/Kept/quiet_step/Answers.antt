use Rattle.std.proofs.Common.{◌≡◌, ◌∙◌, true, sym, ap, subst, ℕ}
use Rattle.std.specs.Prelude.{IfSome}
use Rattle.node_model.specs.Outputs.{Stepped}
use Rattle.node_model.specs.Packets.{is_member}
use Rattle.synod_acceptor.specs.Votes.{slot_in, vote_of}
use Rattle.node_kept.specs.Keeping.{kept_of}
use Rattle.node_kept.specs.Steps.{IsQuietStep}
use Rattle.node_kept.specs.Voting.{voted_in}
use Rattle.node_kept.proofs.Answering.{of_member}
use Rattle.node_kept.proofs.kept.Kept.quiet_step.Goals as goal

pub returns-in-Voted : goal.returns-in-Voted
returns-in-Voted c =
    let k = c.args.self.now in
    let setup = k.setup in
    let from : c.sender.result ≡ c.in-Voted.from = rw c.in-Voted.is at c.sender.ensures in
    let member : is_member setup c.in-Voted.from ≡ true = sym (ap (λ (n : ℕ). is_member setup n) from) ∙ sym c.is_member.ensures ∙ c.if-not-is_member.false in
    rw c.in-Voted.is
    (subst (λ (to : Stepped). IfSome c.quiet_vote.result (IsQuietStep k to))
    (of_member setup (kept_of k) c.in-Voted.from (voted_in setup (kept_of k) c.in-Voted.from (slot_in c.in-Voted.vote) (vote_of c.in-Voted.vote)) member)
    c.quiet_vote.ensures.step)
