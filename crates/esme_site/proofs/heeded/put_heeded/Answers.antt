use Rattle.esme_site.proofs.Ending.{end_begun, end_put}
use Rattle.esme_site.proofs.heeded.put_heeded.Goals as goal

pub returns-in_ok-respond-in-Gone-clause-put : goal.returns-in_ok-respond-in-Gone-clause-put
returns-in_ok-respond-in-Gone-clause-put g c =
    end_put g.O.Outlet.puts g.met.O.Outlet.follows c.args.system_id.now c.args.number c.args.heeded.now c.in-Gone.outgoing c.in-Gone.field-1 c.in-Gone.is
    c.args.outlet.now c.respond.new.self c.end.new.self c.in_ok-respond-in-Gone.ensures.put c.end.result c.end.ensures.put

pub returns-in_ok-respond-in-Gone-clause-err : goal.returns-in_ok-respond-in-Gone-clause-err
returns-in_ok-respond-in-Gone-clause-err g c =
    end_begun g.O.Outlet.puts g.met.O.Outlet.follows c.args.system_id.now c.args.number c.args.heeded.now c.in-Gone.outgoing c.in-Gone.field-1 c.in-Gone.is
    c.args.outlet.now c.respond.new.self c.end.new.self c.in_ok-respond-in-Gone.ensures.put c.end.result c.end.ensures.err
