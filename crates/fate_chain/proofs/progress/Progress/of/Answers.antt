use Rattle.std.proofs.Common.{◌+◌, List, get_or, reverse, take, sym}
use Rattle.std.proofs.lemmas.List.{take_more}
use Rattle.mc_model.specs.message.Decree.{Decree}
use Rattle.fate_chain.proofs.Steps.{pushed}
use Rattle.fate_chain.proofs.progress.Progress.of.Goals as goal

pub loop-decree-preserved : goal.loop-decree-preserved
loop-decree-preserved c =
    let i = c.loop-decree.decree-index in
    let all : List Decree = c.args.decrees.now in
    let next : Decree = c.decree-item.result in
    rw (pushed (take i all) (take (i + 1) all) (get_or all i next) next (take_more all i next c.loop-decree-test.true)
    (sym c.decree-item.is)) (c.after-progress.ensures (reverse (take i all)) next c.loop-decree.invariant c.mark.ensures)
