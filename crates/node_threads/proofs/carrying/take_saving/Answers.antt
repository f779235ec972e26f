use Rattle.std.proofs.Common.{ℕ, List, sym, subst}
use Rattle.journal_parts.specs.Slips.{Slipped}
use Rattle.node_threads.specs.Carrying.{AreSplit, Carries, HaveCome}
use Rattle.node_threads.proofs.CarriedSlips.{all_split, carries_both}
use Rattle.node_threads.proofs.carrying.take_saving.Goals as goal

pub returns-in_ok-take_all-in-Ok-clause-carries : goal.returns-in_ok-take_all-in-Ok-clause-carries
returns-in_ok-take_all-in-Ok-clause-carries g c =
    carries_both c.args.door.now.node c.args.seat.now.slips c.take_all.new.seat.slips c.take_each-in-Ok.new.seat.slips
    (subst (λ (ss : List Slipped). Carries c.args.door.now.node ss c.take_all.new.seat.slips) c.in-Ok.ensures.slips
    c.in_ok-take_all-in-Ok.ensures.carries) c.take_each-in-Ok.ensures.carries

pub returns-in_ok-take_all-in-Ok-clause-all : goal.returns-in_ok-take_all-in-Ok-clause-all
returns-in_ok-take_all-in-Ok-clause-all g c =
    let all = c.in-Ok.ensures.all in
    let at = λ (ss : List Slipped). HaveCome c.args.door.now.node all.0 ss c.take_all.new.seat.slips in
    let first = subst at c.in-Ok.ensures.slips (c.in_ok-take_all-in-Ok.ensures.all all.0 all.1) in
    let before = subst (λ (ss : List Slipped). Carries c.args.door.now.node ss c.take_all.new.seat.slips) c.in-Ok.ensures.slips
    c.in_ok-take_all-in-Ok.ensures.carries in
    let split = subst (λ (ns : List ℕ). AreSplit c.args.numbers.now all.0 ns) (sym c.as_slice.ensures.value) all.2 in
    all_split c.take_each-in-Ok.result c.args.door.now.node c.args.numbers.now all.0 _ c.args.seat.now.slips c.take_all.new.seat.slips
    c.take_each-in-Ok.new.seat.slips split first before c.take_each-in-Ok.ensures.carries c.take_each-in-Ok.ensures.all
