use Rattle.std.proofs.Common.{ℕ, [], ◌∷◌, ap, subst, sym, ◌∙◌}
use Rattle.mc_model.specs.node.Outputs.{Reply}
use Rattle.waiting_requests.specs.Replying.{reply_given}
use Rattle.script_text.specs.Runner.{owner_of, reply_prints}
use Rattle.esme_service.specs.Told.{reply_to}
use Rattle.esme_site.specs.Puts.{IsSettledBy}
use Rattle.esme_site.proofs.Replies.{lost_for, none_for, reply_lost}
use Rattle.esme_site.proofs.replying.reply_one.Goals as goal

pub returns-in-Some-clause-err : goal.returns-in-Some-clause-err
returns-in-Some-clause-err g c =
    reply_lost g.O.Outlet.puts c.args.service.now.sessions c.args.reply.now c.in-Some.sending (c.in-Some.ensures.sending ∙ (λ i. reply_to (c.in-Ok.ensures i) (owner_of c.args.service.now.sessions (c.in-Ok.ensures i).ticket)))
    c.put_or_lose.result c.args.outlet.now
    c.put_or_lose.new.outlet c.put_or_lose.ensures.err

pub returns-in-Some-reply-clause-err : goal.returns-in-Some-reply-clause-err
returns-in-Some-reply-clause-err g c = record {
  put = [];
  lost = c.number.result ∷ [];
  did = c.lose.ensures;
  settled = subst (λ (n : ℕ). IsSettledBy [] (n ∷ []) (reply_prints (reply_given c.args.reply.now) (owner_of c.args.service.now.sessions c.args.reply.now.ticket)))
      (sym c.number.ensures)
      (lost_for c.args.service.now.sessions c.args.reply.now c.too_late.result c.in-Some-reply.unsent
      (ap (λ (r : Reply). r.ticket) c.too_late.ensures ∙ c.ticket.ensures) c.in-Some-reply.ensures.sending);
}

pub returns-in_default-clause-err : goal.returns-in_default-clause-err
returns-in_default-clause-err g c = record {
  put = [];
  lost = [];
  did = g.met.O.Outlet.rests c.args.outlet.now;
  settled = none_for c.args.service.now.sessions c.args.reply.now c.too_late.result (ap (λ (r : Reply). r.ticket) c.too_late.ensures ∙ c.ticket.ensures)
      c.in_default.ensures.sending;
}
