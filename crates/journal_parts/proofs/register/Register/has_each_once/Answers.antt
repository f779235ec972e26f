use Rattle.std.proofs.Common.{◌≡◌, ℕ, Bool, List, length, false, sym, ap, subst, ◌∙◌, IsTrue, arith}
use Rattle.std.specs.Prelude.{replicate}
use Rattle.std.specs.Prelude.{◌&&◌, ◌↔◌}
use Rattle.std.specs.List.{list_all}
use Rattle.sim_net.proofs.Numbers.{map_length}
use Rattle.journal_parts.specs.declared.noted.Noted.{Noted}
use Rattle.journal_parts.specs.Entries.{entry_of}
use Rattle.journal_parts.specs.Marks.{EachOnce, marked_in}
use Rattle.journal_parts.specs.Registers.{Registered}
use Rattle.journal_parts.proofs.Marking.{each_once}
use Rattle.journal_parts.proofs.register.Register.has_each_once.Goals.{then-are_as_many, else-are_as_many}
use Rattle.journal_parts.proofs.register.Register.has_each_once.Goals as goal

pub returns-clause-each : goal.returns-clause-each
returns-clause-each g c =
    let seen = ap (λ (r : Registered). length r.entries) (sym c.self.view_is) in
    let long = map_length (λ (n : Noted). entry_of n.entry) c.self.inside.noted.items in
    let own = c.self.inside.noted.ok in
    let first = c.len.ensures in
    let second = c.len-2.ensures in
    let counted : length c.args.self.now.entries ≡ c.len-2.result = omega (arith, seen, long, own, second) in
    let same : c.len.result ≡ c.len-2.result = omega (arith, first, second) in
    let all : c.are_set-are_set.result ≡ list_all (λ mark. mark) (marked_in c.args.seats.now (replicate c.len-2.result false)) =
    c.are_set-are_set.ensures
    ∙ ap (λ (ms : List Bool). list_all (λ mark. mark) ms)
    (c.set_all.ensures.marks ∙ ap (marked_in c.args.seats.now) (c.begin.ensures.marks ∙ ap (λ (n : ℕ). replicate n false) same)) in
    let asked = each_once c.len-2.result c.args.seats.now c.are_as_many.result c.are_as_many.ensures in
    subst (λ (n : ℕ). IsTrue c.if-are_as_many.result ↔ EachOnce n c.args.seats.now) (sym counted)
    (subst (λ (b : Bool). IsTrue b ↔ EachOnce c.len-2.result c.args.seats.now)
    (ap (λ (b : Bool). c.are_as_many.result && b) (sym all) ∙ sym result) asked)
  where
    result : c.if-are_as_many.result ≡ (c.are_as_many.result && c.are_set-are_set.result)
    result = elim c.if-are_as_many.branch [
      | then-are_as_many w ↦ w.result-is ∙ ap (λ (b : Bool). b && c.are_set-are_set.result) (sym w.if-are_as_many.true)
      | else-are_as_many w ↦
          w.result-is ∙ w.if-are_as_many.false ∙ ap (λ (b : Bool). b && c.are_set-are_set.result) (sym w.if-are_as_many.false)
    ]
