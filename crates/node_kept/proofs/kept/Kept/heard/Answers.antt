use Rattle.std.proofs.Common.{◌∙◌, ap}
use Rattle.std.proofs.lemmas.Result.{IfOk-weaker}
use Rattle.synod_acceptor.specs.Votes.{vote_of}
use Rattle.node_model.specs.Answers.{had_fate}
use Rattle.node_model.specs.Kept.{message_at}
use Rattle.node_model.specs.Learner.{heard}
use Rattle.node_model.specs.Message.{Message}
use Rattle.node_kept.specs.Keeping.{kept_of}
use Rattle.node_kept.proofs.Voting.{known_anew, known_as, voted_known, voted_only}
use Rattle.node_kept.proofs.kept.Kept.heard.Goals as goal

pub returns-then-not-branch : goal.returns-then-not-branch
returns-then-not-branch c =
    let taken = rw c.id-id.ensures at c.in_ok-message.ensures in
    IfOk-weaker c.leave.result _ _ (λ step is.
    voted_only c.args.self.now c.args.from c.args.vote.now c.in_ok-message.message c.heard.new.self c.in_ok-heard.field-0 c.requires.own
    c.requires.concerns taken c.in_ok-heard.ensures step c.if-not-branch.true (rw c.id-id.ensures at is)) c.leave.ensures

pub returns : goal.returns
returns c =
    let k = c.args.self.now in
    let taken = rw c.id-id.ensures at c.in_ok-message.ensures in
    let fate = rw c.id-id.ensures at c.has_fate-had_fate.ensures ∙ ap (λ (m : Message). had_fate m.known) taken.message in
    let is_known = c.if-not-branch.false in
    let grows = c.in_ok-heard.field-0 in
    IfOk-weaker c.learned.result _ _ (λ step is.
    voted_known k c.args.from c.args.vote.now c.in_ok-message.message c.heard.new.self grows c.requires.own c.requires.concerns taken
    c.in_ok-heard.ensures step is_known
    (is (heard (message_at (kept_of k) c.args.vote.now.chain.id) c.args.from (vote_of c.args.vote.now))
    (known_as k c.args.from c.args.vote.now c.in_ok-message.message c.heard.new.self grows c.requires.own c.requires.concerns taken
    c.in_ok-heard.ensures is_known) fate
    (known_anew k c.args.from c.args.vote.now c.in_ok-message.message c.heard.new.self grows c.requires.own c.requires.concerns taken
    c.in_ok-heard.ensures is_known))) c.learned.ensures
