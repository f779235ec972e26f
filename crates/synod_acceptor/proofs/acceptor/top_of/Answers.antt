use Rattle.std.proofs.Common.{◌≡◌, take, arith}
use Rattle.std.proofs.lemmas.List.{take_all}
use Rattle.std.specs.Option.{option_copied}
use Rattle.synod_acceptor.specs.Votes.{told_vote}
use Rattle.synod_acceptor.proofs.Tops.{passes_next}
use Rattle.synod_acceptor.proofs.acceptor.top_of.Goals as goal

pub loop-record-preserved : goal.loop-record-preserved
loop-record-preserved c =
    passes_next c.args.records.now c.loop-record.record-index c.record-item.result c.args.id (told_vote (option_copied c.loop-record.top))
    (told_vote (option_copied c.higher-top.result)) (omega arith) c.record-item.is (rw c.report.ensures at c.higher-top.ensures) c.loop-record.invariant

pub returns : goal.returns
returns c =
    let all : take c.loop-record.record-index c.args.records.now ≡ c.args.records.now = take_all c.loop-record.record-index c.args.records.now (omega arith) in
    rw all at c.loop-record.invariant
