use Rattle.std.proofs.lemmas.List.{drop_all}
use Rattle.std.proofs.Common.{refl, subst, arith}
use Rattle.mc_model.specs.node.Outcome.{Outcome}
use Rattle.std.specs.Prelude.{Some}
use Rattle.script_text.specs.Attempts.{delivered_so}
use Rattle.script_site.specs.Sites.{Goes}
use Rattle.script_site.proofs.Concluding.{all_left, none_left, one_left}
use Rattle.script_site.proofs.steps.give_up.Goals as goal

pub loop-request-init : goal.loop-request-init
loop-request-init c = all_left c.args.node c.args.world.now c.args.pushed.now c.args.pushed.now refl

pub loop-request-preserved : goal.loop-request-preserved
loop-request-preserved c =
    one_left c.args.node c.args.world.now c.args.pushed.now c.loop-request.world c.loop-request.request-index c.request-item.result c.conclude_by.new.world
    c.loop-request.invariant (omega (arith, c.loop-request-test.true)) c.request-item.is
    (subst (λ (o : Outcome). Goes c.args.node (λ n. delivered_so n c.request-item.result.delivery (Some o)) c.loop-request.world c.conclude_by.new.world)
    c.unanswered.ensures c.in_ok-conclude_by.ensures)

pub returns : goal.returns
returns c =
    none_left c.args.node c.args.world.now c.args.pushed.now c.loop-request.world _
    (drop_all c.loop-request.request-index c.args.pushed.now c.loop-request-test.false) c.loop-request.invariant
