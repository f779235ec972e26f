use Rattle.std.proofs.Common.{◌≡◌, Some, sym}
use Rattle.mc_model.specs.synod.Acceptor.{SlotRecord}
use Rattle.node_model.specs.Acceptor.{Judgement, propose_judged}
use Rattle.node_model.specs.Packets.{on_propose}
use Rattle.synod_acceptor.specs.Votes.{slot_in, vote_of}
use Rattle.mc_model.specs.node.Setup.{Setup}
use Rattle.node_kept.specs.declared.step.Step.{Step}
use Rattle.node_kept.specs.Grouping.{IsAlone}
use Rattle.node_kept.specs.Keeping.{kept_of}
use Rattle.shelf.specs.Shelved.{value_at}
use Rattle.node_kept.specs.Steps.{HasRoom, IsStep, PutsOne}
use Rattle.node_kept.proofs.Alone.{alone_first, alone_there}
use Rattle.node_kept.proofs.Answering.{answered_first, answered_there, if_both}
use Rattle.node_kept.proofs.kept.Kept.on_propose.Goals as goal

pub returns-in_ok-verdict-in-Some-clause-step : goal.returns-in_ok-verdict-in-Some-clause-step
returns-in_ok-verdict-in-Some-clause-step c =
    let k = c.args.self.now in
    let slot = slot_in c.args.vote.now in
    let judgement : SlotRecord → Judgement = (λ r. propose_judged k.setup.node (slot_in c.args.vote.now) (vote_of c.args.vote.now) r) in
    let id = c.id-id.ensures in
    let found : Some c.in-Some.message.now ≡ value_at k.messages.entries slot.id = rw id at (rw c.in-Some.is at c.find.ensures.value) in
    let judged = rw c.node.ensures at c.in_ok-verdict-in-Some.ensures.judged in
    if_both c.answer.result _ _ _ (λ step is none.
    answered_there k slot c.in-Some.message.now judgement c.in_ok-verdict-in-Some.verdict step judged is c.ascends.ensures (sym found) none)
    c.answer.ensures.answer c.answer.ensures.messages

pub returns-in_ok-verdict-in-None-clause-step : goal.returns-in_ok-verdict-in-None-clause-step
returns-in_ok-verdict-in-None-clause-step c =
    let k = c.args.self.now in
    let slot = slot_in c.args.vote.now in
    let judgement : SlotRecord → Judgement = (λ r. propose_judged k.setup.node (slot_in c.args.vote.now) (vote_of c.args.vote.now) r) in
    let id = c.id-id.ensures in
    let taken = rw id at c.first-message.ensures in
    let puts_at : (step : Step) → PutsOne c.id-id.result c.first-message.result step.next.messages.items → PutsOne slot.id c.first-message.result step.next.messages.items =
    λ step puts. rw id at puts in
    let judged = rw c.node-in-None.ensures at c.in_ok-verdict-in-None.ensures.judged in
    if_both c.answer_first.result _ (λ step. HasRoom k.messages step.next) _ (λ step so room. so room)
    (if_both c.answer_first.result _ _ (λ step. HasRoom k.messages step.next → IsStep k (on_propose k.setup (kept_of k) slot (vote_of c.args.vote.now)) step) (λ step is puts. λ room.
    answered_first k slot c.first-message.result judgement c.in_ok-verdict-in-None.verdict step judged is taken ((puts_at step puts).entries k.messages.entries) room)
    c.answer_first.ensures.answer c.answer_first.ensures.messages) c.answer_first.ensures.room

pub returns-in_ok-verdict-in-Some-clause-alone : goal.returns-in_ok-verdict-in-Some-clause-alone
returns-in_ok-verdict-in-Some-clause-alone c = λ own.
    let k = c.args.self.now in
    let slot = slot_in c.args.vote.now in
    let judgement : Setup → SlotRecord → Judgement = (λ setup r. propose_judged setup.node (slot_in c.args.vote.now) (vote_of c.args.vote.now) r) in
    let id = c.id-id.ensures in
    let found : Some c.in-Some.message.now ≡ value_at k.messages.entries slot.id = rw id at (rw c.in-Some.is at c.find.ensures.value) in
    let judged = rw c.node.ensures at c.in_ok-verdict-in-Some.ensures.judged in
    if_both c.answer.result _ _ (IsAlone slot.id k (λ setup kept. on_propose setup kept (slot_in c.args.vote.now) (vote_of c.args.vote.now))) (λ step is none.
    alone_there k slot c.in-Some.message.now judgement c.in_ok-verdict-in-Some.verdict step judged is (sym found) none)
    c.answer.ensures.answer c.answer.ensures.messages

pub returns-in_ok-verdict-in-None-clause-alone : goal.returns-in_ok-verdict-in-None-clause-alone
returns-in_ok-verdict-in-None-clause-alone c = λ own.
    let k = c.args.self.now in
    let slot = slot_in c.args.vote.now in
    let judgement : Setup → SlotRecord → Judgement = (λ setup r. propose_judged setup.node (slot_in c.args.vote.now) (vote_of c.args.vote.now) r) in
    let id = c.id-id.ensures in
    let taken = rw id at c.first-message.ensures in
    let judged = rw c.node-in-None.ensures at c.in_ok-verdict-in-None.ensures.judged in
    if_both c.answer_first.result _ _ (IsAlone slot.id k (λ setup kept. on_propose setup kept (slot_in c.args.vote.now) (vote_of c.args.vote.now))) (λ step is puts.
    alone_first k slot c.first-message.result judgement c.in_ok-verdict-in-None.verdict step judged is own taken (rw id at puts))
    c.answer_first.ensures.answer c.answer_first.ensures.messages
