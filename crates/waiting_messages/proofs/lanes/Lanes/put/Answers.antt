use Rattle.std.proofs.Common.{ℕ, ◌≡◌, sym, ap, ◌∙◌, false, ltb}
use Rattle.std.specs.List.{list_any}
use Rattle.std.specs.BTreeMap.{is_at}
use Rattle.std.specs.Ordering.{nat_cmp}
use Rattle.waiting_messages.specs.Lanes.{Lanes, times_in}
use Rattle.waiting_messages.proofs.Standing.{on_err, on_ok, once-back, once-put, times-with_lane}
use Rattle.waiting_messages.proofs.lanes.Lanes.put.Goals as goal

pub invariant_of-self-then-is_err : goal.invariant_of-self-then-is_err
invariant_of-self-then-is_err c =
    let absent : ltb 0 (times_in c.args.id c.self.inside.lanes.items) ≡ false =
    ap (λ (l : Lanes). ltb 0 (times_in c.args.id l.lanes)) c.self.view_is ∙ sym c.has.ensures ∙ c.if-has.false in
    let back = on_err c.line_up.result _ (sym c.is_err.ensures.value ∙ c.if-is_err.true) c.line_up.ensures.same in
    once-back c.args.id c.self.inside.lanes.items c.line_up.new.lanes.items
    (λ (q : ℕ). list_any (is_at (nat_cmp q)) c.self.inside.waiting.keys) (λ (q : ℕ). list_any (is_at (nat_cmp q)) c.insert.new.self.keys)
    (λ (q : ℕ). list_any (is_at (nat_cmp q)) c.remove.new.self.keys) c.self.invariant absent
    (λ (q : ℕ). ap (times_in q) (back ∙ c.in_ok-place.ensures.lanes) ∙ times-with_lane q c.args.account c.self.inside.lanes.items)
    (λ (q : ℕ). rw c.number.ensures.value at (c.in_ok-insert.ensures.updates.0 q))
    (λ (q : ℕ). rw c.number-then-is_err.ensures.value at (c.remove.ensures.updates.0 q))

pub invariant_of-self-2 : goal.invariant_of-self-2
invariant_of-self-2 c =
    let absent : ltb 0 (times_in c.args.id c.self.inside.lanes.items) ≡ false =
    ap (λ (l : Lanes). ltb 0 (times_in c.args.id l.lanes)) c.self.view_is ∙ sym c.has.ensures ∙ c.if-has.false in
    let behind = on_ok c.line_up.result _ (sym c.is_err.ensures.value ∙ c.if-is_err.false) c.line_up.ensures.put in
    once-put (record { id = c.args.id; turn = c.self.inside.turns }) c.args.long c.in_ok-place.place c.self.inside.lanes.items c.line_up.new.lanes.items
    (λ (q : ℕ). list_any (is_at (nat_cmp q)) c.self.inside.waiting.keys) (λ (q : ℕ). list_any (is_at (nat_cmp q)) c.insert.new.self.keys)
    c.self.invariant absent c.lane_for.new.lanes.items
    (λ (q : ℕ). ap (times_in q) c.in_ok-place.ensures.lanes ∙ times-with_lane q c.args.account c.self.inside.lanes.items)
    c.in_ok-place.ensures.within behind (λ (q : ℕ). rw c.number.ensures.value at (c.in_ok-insert.ensures.updates.0 q))
