use Rattle.std.proofs.Common.{ap, ◌∙◌, sym}
use Rattle.std.specs.Ordering.{nat_cmp}
use Rattle.std.specs.Map.{set_value}
use Rattle.std.specs.BTreeMap.{is_at}
use Rattle.esme_service.specs.Pushes.{session_at, takes_for}
use Rattle.esme_service.proofs.Receivers.{gives_sequence, goes_out, is_there, not_refused, takes_it}
use Rattle.esme_service.proofs.receiving.push.Goals as goal

pub unreachable-requires : goal.unreachable-requires
unreachable-requires c =
    is_there c.args.long c.args.target.now (session_at c.args.sessions.now.entries c.in_ok-number.number)
    (takes_it c.args.sessions.now.entries c.args.long c.args.target.now c.in_ok-number.number c.in_ok-number.ensures)
    (sym c.in_default.ensures.value)

pub unreachable-requires-in_default-push_request : goal.unreachable-requires-in_default-push_request
unreachable-requires-in_default-push_request c =
    let takes = takes_it c.args.sessions.now.entries c.args.long c.args.target.now c.in_ok-number.number c.in_ok-number.ensures in
    let refused = not_refused c.args.long c.args.target.now c.in-Some.session.now (ap (takes_for c.args.long c.args.target.now) c.in-Some.ensures.value ∙ takes) in
    c.in_default-push_request.not-Ok c.in-Some.session.now.next_sequence (c.push_request.ensures.sequence ∙ gives_sequence c.in-Some.session.now refused)

pub returns : goal.returns
returns c =
    goes_out c.args.sessions.now.entries (c.get_mut.follows.lender c.push_request.new.self).entries c.args.long c.args.target.now c.args.now c.in-Ok.sequence
    c.args.delivery c.in_ok-number.number
    c.knows_optional-knows_optional.result c.in-Some.session.now c.in_ok-number.ensures (sym c.in-Some.ensures.value) (sym c.in-Ok.ensures.sequence)
    c.knows_optional-knows_optional.ensures
    ((c.get_mut.follows.holds c.push_request.new.self).0 ∙ ap (set_value (is_at (nat_cmp c.in_ok-number.number)) c.args.sessions.now.entries)
    c.push_request.ensures.after)
