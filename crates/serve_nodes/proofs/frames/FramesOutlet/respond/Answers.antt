use Rattle.sessions.specs.Responses.{pdu_of}
use Rattle.serve_nodes.specs.Frames.{puts_none}
use Rattle.serve_nodes.proofs.Framed.{if_err, nothing_put, response_put}
use Rattle.serve_nodes.proofs.frames.FramesOutlet.respond.Goals as goal

pub returns-in_err-frame-clause-err : goal.returns-in_err-frame-clause-err
returns-in_err-frame-clause-err c = if_err c.from_residual.result _ (puts_none c.args.self.now.frames.items)

pub returns-clause-put : goal.returns-clause-put
returns-clause-put c =
    response_put c.push.result c.args.self.now.frames.items c.push.new.self.frames.items c.in_ok-frame.frame c.args.number
    (pdu_of c.args.system_id.now c.args.outgoing) c.in_ok-frame.ensures.number c.in_ok-frame.ensures.octets c.push.ensures.put

pub returns-clause-err : goal.returns-clause-err
returns-clause-err c = nothing_put c.push.result c.args.self.now.frames.items c.push.new.self.frames.items c.push.ensures.err
