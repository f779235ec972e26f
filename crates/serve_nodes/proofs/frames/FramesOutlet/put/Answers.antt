use Rattle.std.proofs.Common.{◌∙◌, ap}
use Rattle.serve_nodes.specs.Frames.{puts_none, those}
use Rattle.serve_nodes.proofs.Framed.{if_err, its_frame, nothing_more}
use Rattle.serve_nodes.proofs.frames.FramesOutlet.put.Goals as goal

pub returns-in_err-frame-clause-err : goal.returns-in_err-frame-clause-err
returns-in_err-frame-clause-err c = if_err c.from_residual.result _ (puts_none c.args.self.now.frames.items)

pub returns-in_err-push-clause-err : goal.returns-in_err-push-clause-err
returns-in_err-push-clause-err c =
    if_err c.from_residual-in_err-push.result _ (nothing_more c.args.self.now.frames.items c.push.new.self.frames.items c.in_err-push.ensures.err)

pub returns-clause-put : goal.returns-clause-put
returns-clause-put c = λ prints is. record {
  more = those c.in_ok-frame.frame;
  behind = ap (λ frames. frames.items) c.count.ensures ∙ c.in_ok-push.ensures.put;
  are = its_frame c.args.sending.now c.in_ok-frame.frame prints c.in_ok-frame.ensures.number c.in_ok-frame.ensures.octets is;
}
