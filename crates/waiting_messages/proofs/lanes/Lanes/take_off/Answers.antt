use Rattle.std.proofs.Common.{ℕ, ap, rules, sym, ◌∙◌}
use Rattle.std.specs.List.{list_any}
use Rattle.std.specs.BTreeMap.{is_at}
use Rattle.std.specs.Ordering.{nat_cmp}
use Rattle.waiting_messages.specs.Lanes.{Waiter}
use Rattle.waiting_messages.proofs.Standing.{once-not_taken, once-taken}
use Rattle.waiting_messages.proofs.lanes.Lanes.take_off.Goals as goal

pub invariant_of-self : goal.invariant_of-self
invariant_of-self c =
    once-taken c.in-Some.waiter c.args.long c.args.place c.self.inside.lanes.items c.take_front.new.lanes.items
    (λ (q : ℕ). list_any (is_at (nat_cmp q)) c.self.inside.waiting.keys) (λ (q : ℕ). list_any (is_at (nat_cmp q)) c.remove.new.self.keys)
    c.self.invariant (sym c.take_front.ensures.first ∙ c.in-Some.is) c.take_front.ensures.after
    (λ (q : ℕ). rw (c.number.ensures.value ∙ ap (λ (w : Waiter). w.id) c.waiter.view_is) at (c.remove.ensures.updates.0 q))

pub invariant_of-self-in_default : goal.invariant_of-self-in_default
invariant_of-self-in_default c =
    once-not_taken c.args.long c.args.place c.self.inside.lanes.items c.take_front.new.lanes.items
    (λ (q : ℕ). list_any (is_at (nat_cmp q)) c.self.inside.waiting.keys) c.self.invariant (search rules) c.take_front.ensures.after
