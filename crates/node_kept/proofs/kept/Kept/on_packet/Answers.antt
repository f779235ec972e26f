use Rattle.std.proofs.Common.{◌≡◌, ◌∙◌, true, sym, ap, subst, ℕ}
use Rattle.std.specs.Prelude.{IfOk}
use Rattle.node_model.specs.Outputs.{Stepped}
use Rattle.node_model.specs.Packets.{is_member, on_prepare, on_propose}
use Rattle.synod_acceptor.specs.Votes.{slot_in, vote_of}
use Rattle.node_kept.specs.Keeping.{kept_of}
use Rattle.node_kept.specs.Steps.{IsStep}
use Rattle.node_kept.specs.Voting.{voted_in}
use Rattle.node_kept.proofs.Answering.{of_member}
use Rattle.node_kept.proofs.kept.Kept.on_packet.Goals as goal

pub returns-in-Prepare : goal.returns-in-Prepare
returns-in-Prepare c =
    let setup = c.args.self.now.setup in
    let from : c.sender.result ≡ c.in-Prepare.from = rw c.in-Prepare.is at c.sender.ensures in
    let member : is_member setup c.in-Prepare.from ≡ true = sym (ap (λ (n : ℕ). is_member setup n) from) ∙ sym c.is_member.ensures ∙ c.if-not-is_member.false in
    rw c.in-Prepare.is
    (subst (λ (to : Stepped). IfOk c.on_prepare.result (IsStep c.args.self.now to))
    (of_member setup (kept_of c.args.self.now) c.in-Prepare.from (on_prepare setup (kept_of c.args.self.now) c.in-Prepare.slot c.in-Prepare.ballot) member)
    c.on_prepare.ensures.step)

pub returns-in-Propose : goal.returns-in-Propose
returns-in-Propose c =
    let setup = c.args.self.now.setup in
    let from : c.sender.result ≡ c.in-Propose.from = rw c.in-Propose.is at c.sender.ensures in
    let member : is_member setup c.in-Propose.from ≡ true = sym (ap (λ (n : ℕ). is_member setup n) from) ∙ sym c.is_member.ensures ∙ c.if-not-is_member.false in
    rw c.in-Propose.is
    (subst (λ (to : Stepped). IfOk c.on_propose.result (IsStep c.args.self.now to))
    (of_member setup (kept_of c.args.self.now) c.in-Propose.from
    (on_propose setup (kept_of c.args.self.now) (slot_in c.in-Propose.vote) (vote_of c.in-Propose.vote)) member)
    c.on_propose.ensures.step)

pub returns-in-Voted : goal.returns-in-Voted
returns-in-Voted c =
    let setup = c.args.self.now.setup in
    let from : c.sender.result ≡ c.in-Voted.from = rw c.in-Voted.is at c.sender.ensures in
    let member : is_member setup c.in-Voted.from ≡ true = sym (ap (λ (n : ℕ). is_member setup n) from) ∙ sym c.is_member.ensures ∙ c.if-not-is_member.false in
    rw c.in-Voted.is
    (subst (λ (to : Stepped). IfOk c.on_voted.result (IsStep c.args.self.now to))
    (of_member setup (kept_of c.args.self.now) c.in-Voted.from
    (voted_in setup (kept_of c.args.self.now) c.in-Voted.from (slot_in c.in-Voted.vote) (vote_of c.in-Voted.vote)) member)
    c.on_voted.ensures)
