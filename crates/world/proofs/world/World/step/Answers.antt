use Rattle.std.proofs.Common.{◌≡◌, sym, subst}
use Rattle.std.specs.Prelude.{OnOk}
use Rattle.node_runs.specs.Input.TheVariants as inputs
use Rattle.node_entry.specs.declared.step.Step.{Step}
use Rattle.world.specs.Runs.{Leads, leaves_up}
use Rattle.node_entry.specs.Taking.{node_at}
use Rattle.world.specs.Scenes.{is_up_in}
use Rattle.world.proofs.Answering.{answered_is, grant_is, input_leads, request_is, tick_is}
use Rattle.world.proofs.Placing.{taken_up}
use Rattle.world.proofs.world.World.step.Goals as goal

pub returns-in-Request-clause-leads : goal.returns-in-Request-clause-leads
returns-in-Request-clause-leads c =
    let old = c.args.self.now in
    subst (λ (step : Step). Leads old step c.take.result c.take.new.self) (sym c.in-Request.is)
    (input_leads old c.take.new.self _ c.in-Request.node _ (request_is old c.in-Request.node c.in-Request.account c.in-Request.request) c.take.result
    c.take.ensures.least tt
    c.take.ensures.taken c.take.ensures.refused c.take.ensures.stays)

pub returns-in-Tick-clause-leads : goal.returns-in-Tick-clause-leads
returns-in-Tick-clause-leads c =
    let old = c.args.self.now in
    subst (λ (step : Step). Leads old step c.take-in-Tick.result c.take-in-Tick.new.self) (sym c.in-Tick.is)
    (input_leads old c.take-in-Tick.new.self _ c.in-Tick.node _ (tick_is old c.in-Tick.node c.in-Tick.moment c.in-Tick.reach) c.take-in-Tick.result
    c.take-in-Tick.ensures.least tt
    c.take-in-Tick.ensures.taken c.take-in-Tick.ensures.refused c.take-in-Tick.ensures.stays)

pub returns-in-Grant-clause-leads : goal.returns-in-Grant-clause-leads
returns-in-Grant-clause-leads c =
    let old = c.args.self.now in
    subst (λ (step : Step). Leads old step c.take-in-Grant.result c.take-in-Grant.new.self) (sym c.in-Grant.is)
    (input_leads old c.take-in-Grant.new.self _ c.in-Grant.node _ (grant_is old c.in-Grant.node c.in-Grant.id) c.take-in-Grant.result
    c.take-in-Grant.ensures.least tt
    c.take-in-Grant.ensures.taken c.take-in-Grant.ensures.refused c.take-in-Grant.ensures.stays)

pub returns-in-Answered-clause-leads : goal.returns-in-Answered-clause-leads
returns-in-Answered-clause-leads c =
    let old = c.args.self.now in
    subst (λ (step : Step). Leads old step c.take-in-Answered.result c.take-in-Answered.new.self) (sym c.in-Answered.is)
    (input_leads old c.take-in-Answered.new.self _ c.in-Answered.node _ (answered_is old c.in-Answered.node c.in-Answered.slot c.in-Answered.outcome)
    c.take-in-Answered.result c.take-in-Answered.ensures.least tt
    c.take-in-Answered.ensures.taken c.take-in-Answered.ensures.refused c.take-in-Answered.ensures.stays)

pub returns-in-Request-clause-up : goal.returns-in-Request-clause-up
returns-in-Request-clause-up c =
    subst (λ (step : Step). OnOk c.take.result (is_up_in c.take.new.self (node_at step) ≡ leaves_up step)) (sym c.in-Request.is)
    (taken_up c.args.self.now c.take.new.self c.in-Request.node (inputs.Request c.in-Request.account c.in-Request.request) c.take.result c.take.ensures.taken)

pub returns-in-Tick-clause-up : goal.returns-in-Tick-clause-up
returns-in-Tick-clause-up c =
    subst (λ (step : Step). OnOk c.take-in-Tick.result (is_up_in c.take-in-Tick.new.self (node_at step) ≡ leaves_up step)) (sym c.in-Tick.is)
    (taken_up c.args.self.now c.take-in-Tick.new.self c.in-Tick.node (inputs.Tick c.in-Tick.moment c.in-Tick.reach) c.take-in-Tick.result c.take-in-Tick.ensures.taken)

pub returns-in-Grant-clause-up : goal.returns-in-Grant-clause-up
returns-in-Grant-clause-up c =
    subst (λ (step : Step). OnOk c.take-in-Grant.result (is_up_in c.take-in-Grant.new.self (node_at step) ≡ leaves_up step)) (sym c.in-Grant.is)
    (taken_up c.args.self.now c.take-in-Grant.new.self c.in-Grant.node (inputs.Grant c.in-Grant.id) c.take-in-Grant.result c.take-in-Grant.ensures.taken)

pub returns-in-Answered-clause-up : goal.returns-in-Answered-clause-up
returns-in-Answered-clause-up c =
    subst (λ (step : Step). OnOk c.take-in-Answered.result (is_up_in c.take-in-Answered.new.self (node_at step) ≡ leaves_up step)) (sym c.in-Answered.is)
    (taken_up c.args.self.now c.take-in-Answered.new.self c.in-Answered.node (inputs.Answered c.in-Answered.slot c.in-Answered.outcome) c.take-in-Answered.result c.take-in-Answered.ensures.taken)
