use Rattle.std.proofs.Common.{◌≡◌, ◌<◌, Some, length, sym, ap, ◌∙◌, arith}
use Rattle.std.proofs.lemmas.Bool.Decides.{nat_tests}
use Rattle.std.specs.Prelude.{option_map}
use Rattle.mc_types.specs.Nodes.{has}
use Rattle.script_lines.specs.Said.{nodes_in, settle_said}
use Rattle.script_lines.proofs.WordLemmas.{joined, joined-first, joined-next, joined-none, nodes_in-end, nodes_in-next, nodes_in-none, settled, unsettled}
use Rattle.script_lines.proofs.line.settle_of.Goals as goal

pub listed-init : goal.listed-init
listed-init c = joined-first (has c.empty-nodes.result) c.empty-nodes.ensures (nodes_in c.args.words.now)

pub returns-in_err-node : goal.returns-in_err-node
unfolding settle_said
returns-in_err-node c =
    let some : 0 < length c.listed.rest.now = grind (arith, nat_tests, c.listed-test.ensures) in
    let none = ap (option_map (joined (has c.listed.nodes))) (nodes_in-end c.listed.rest.now some c.in_err-node.ensures.value) in
    rw c.from_residual.ensures (unsettled (nodes_in c.args.words.now) (sym none ∙ c.listed.invariant))

pub listed-smaller : goal.listed-smaller
listed-smaller c = (nodes_in-next _ _ _ c.in_ok-node.ensures.value).shorter

pub listed-preserved : goal.listed-preserved
listed-preserved c =
    let goes_on = nodes_in-next _ _ _ c.in_ok-node.ensures.value in
    joined-next (has c.listed.nodes) (has c.add.new.self) c.in_ok-node.node _ c.of.ensures c.add.ensures (nodes_in c.in_ok-node.behind_it.now)
    ∙ sym (ap (option_map (joined (has c.listed.nodes))) goes_on.listed)
    ∙ c.listed.invariant

pub returns : goal.returns
unfolding settle_said
returns c =
    let none : length c.listed.rest.now ≡ 0 = grind (arith, nat_tests, c.listed-test.ensures) in
    let all = ap (option_map (joined (has c.listed.nodes))) (nodes_in-none c.listed.rest.now none) in
    settled _ (nodes_in c.args.words.now) (sym (ap Some (joined-none (has c.listed.nodes))) ∙ sym all ∙ c.listed.invariant)
