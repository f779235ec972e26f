use Rattle.std.proofs.Common.{◌≡◌, Some, sym, ap}
use Rattle.mc_model.specs.synod.Packet.{Slot}
use Rattle.mc_model.specs.synod.Acceptor.{SlotRecord}
use Rattle.node_model.specs.Acceptor.{Judgement, prepare_judged}
use Rattle.node_model.specs.Packets.{on_prepare}
use Rattle.mc_model.specs.node.Setup.{Setup}
use Rattle.node_kept.specs.declared.step.Step.{Step}
use Rattle.node_kept.specs.Grouping.{IsAlone}
use Rattle.node_kept.specs.Keeping.{kept_of}
use Rattle.shelf.specs.Shelved.{value_at}
use Rattle.node_kept.specs.Steps.{HasRoom, IsStep, PutsOne}
use Rattle.node_kept.proofs.Alone.{alone_first, alone_there}
use Rattle.node_kept.proofs.Answering.{answered_first, answered_there, if_both}
use Rattle.node_kept.proofs.kept.Kept.on_prepare.Goals as goal

pub returns-in_ok-verdict-in-Some-clause-step : goal.returns-in_ok-verdict-in-Some-clause-step
returns-in_ok-verdict-in-Some-clause-step c =
    let k = c.args.self.now in
    let slot = c.args.slot in
    let judgement : SlotRecord → Judgement = (λ r. prepare_judged k.setup.node c.args.slot c.args.ballot r) in
    let id : c.slot.inside.id ≡ c.args.slot.id = ap (λ (s : Slot). s.id) c.slot.view_is in
    let found : Some c.in-Some.message.now ≡ value_at k.messages.entries slot.id = rw id at (rw c.in-Some.is at c.find.ensures.value) in
    let judged = rw c.node.ensures at c.in_ok-verdict-in-Some.ensures.judged in
    if_both c.answer.result _ _ _ (λ step is none.
    answered_there k slot c.in-Some.message.now judgement c.in_ok-verdict-in-Some.verdict step judged is c.ascends.ensures (sym found) none)
    c.answer.ensures.answer c.answer.ensures.messages

pub returns-in_ok-verdict-in-None-clause-step : goal.returns-in_ok-verdict-in-None-clause-step
returns-in_ok-verdict-in-None-clause-step c =
    let k = c.args.self.now in
    let slot = c.args.slot in
    let judgement : SlotRecord → Judgement = (λ r. prepare_judged k.setup.node c.args.slot c.args.ballot r) in
    let id : c.slot.inside.id ≡ c.args.slot.id = ap (λ (s : Slot). s.id) c.slot.view_is in
    let taken = rw id at c.first-message.ensures in
    let puts_at : (step : Step) → PutsOne c.slot.inside.id c.first-message.result step.next.messages.items → PutsOne slot.id c.first-message.result step.next.messages.items =
    λ step puts. rw id at puts in
    let judged = rw c.node-in-None.ensures at c.in_ok-verdict-in-None.ensures.judged in
    if_both c.answer_first.result _ (λ step. HasRoom k.messages step.next) _ (λ step so room. so room)
    (if_both c.answer_first.result _ _ (λ step. HasRoom k.messages step.next → IsStep k (on_prepare k.setup (kept_of k) c.args.slot c.args.ballot) step) (λ step is puts. λ room.
    answered_first k slot c.first-message.result judgement c.in_ok-verdict-in-None.verdict step judged is taken ((puts_at step puts).entries k.messages.entries) room)
    c.answer_first.ensures.answer c.answer_first.ensures.messages) c.answer_first.ensures.room

pub returns-in_ok-verdict-in-Some-clause-alone : goal.returns-in_ok-verdict-in-Some-clause-alone
returns-in_ok-verdict-in-Some-clause-alone c = λ own.
    let k = c.args.self.now in
    let slot = c.args.slot in
    let judgement : Setup → SlotRecord → Judgement = (λ setup r. prepare_judged setup.node c.args.slot c.args.ballot r) in
    let id : c.slot.inside.id ≡ c.args.slot.id = ap (λ (s : Slot). s.id) c.slot.view_is in
    let found : Some c.in-Some.message.now ≡ value_at k.messages.entries slot.id = rw id at (rw c.in-Some.is at c.find.ensures.value) in
    let judged = rw c.node.ensures at c.in_ok-verdict-in-Some.ensures.judged in
    if_both c.answer.result _ _ (IsAlone slot.id k (λ setup kept. on_prepare setup kept c.args.slot c.args.ballot)) (λ step is none.
    alone_there k slot c.in-Some.message.now judgement c.in_ok-verdict-in-Some.verdict step judged is (sym found) none)
    c.answer.ensures.answer c.answer.ensures.messages

pub returns-in_ok-verdict-in-None-clause-alone : goal.returns-in_ok-verdict-in-None-clause-alone
returns-in_ok-verdict-in-None-clause-alone c = λ own.
    let k = c.args.self.now in
    let slot = c.args.slot in
    let judgement : Setup → SlotRecord → Judgement = (λ setup r. prepare_judged setup.node c.args.slot c.args.ballot r) in
    let id : c.slot.inside.id ≡ c.args.slot.id = ap (λ (s : Slot). s.id) c.slot.view_is in
    let taken = rw id at c.first-message.ensures in
    let judged = rw c.node-in-None.ensures at c.in_ok-verdict-in-None.ensures.judged in
    if_both c.answer_first.result _ _ (IsAlone slot.id k (λ setup kept. on_prepare setup kept c.args.slot c.args.ballot)) (λ step is puts.
    alone_first k slot c.first-message.result judgement c.in_ok-verdict-in-None.verdict step judged is own taken (rw id at puts))
    c.answer_first.ensures.answer c.answer_first.ensures.messages
