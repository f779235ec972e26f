use Rattle.std.proofs.Common.{refl, sym, ◌∙◌}
use Rattle.pdu_bodies.proofs.bodies.query_answer_of.Goals as goal

pub returns : goal.returns
returns c =
    rw (sym c.is_empty.ensures ∙ c.if-is_empty.false, c.in_ok-message_id.ensures.read, c.in_ok-final_date.ensures.read)
    (rw (c.in_ok-message_state.ensures, c.in_ok-error_code.ensures, c.in_ok-nothing_at.ensures, c.in_ok-of.ensures, c.in_ok-of-2.ensures) refl)
