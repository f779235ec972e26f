use Rattle.std.specs.Vec.{with_item}
use Rattle.std.proofs.Common.{refl, arith}
use Rattle.script_runner.proofs.Moving.{told_if}
use Rattle.script_runner.proofs.centre.Centre.tell.Goals as goal

pub returns : goal.returns
returns c =
    told_if c.tell.result c.args.self.now (record c.args.self.now { sites = with_item c.args.self.now.sites c.args.at c.tell.new.self }) c.args.at
    c.index_mut.result.now c.tell.new.self c.args.given c.args.text.now.items c.tell.new.text.items
    (omega (arith, c.len.ensures, c.if-at-len.false)) c.index_mut.ensures.value refl refl refl c.tell.ensures
