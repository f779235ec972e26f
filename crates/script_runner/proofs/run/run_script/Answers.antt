use Rattle.std.proofs.Common.{◌≤◌, length, sym, ap, arith}
use Rattle.std.proofs.lemmas.List.{length-take-le}
use Rattle.script_runner.proofs.Running.{started, grown, within_line, with_fault, nothing_done, after_good_line, within_held, after_last}
use Rattle.script_runner.proofs.Running.{after_line, after_too_long, whole}
use Rattle.script_runner.specs.declared.fault.ScriptFault.TheVariants.{Memory, Read}
use Rattle.script_runner.proofs.run.run_script.Goals as goal

pub returns-in_err-buffer : goal.returns-in_err-buffer
returns-in_err-buffer g c =
    with_fault g.R.Read.remaining g.W.Write.contents _ Memory _ _ _ _ c.from_residual-in_err-buffer.ensures.1
    (nothing_done g.R.Read.remaining g.W.Write.contents c.args.reader.now c.args.writer.now)

pub returns-in_err-config : goal.returns-in_err-config
returns-in_err-config g c =
    with_fault g.R.Read.remaining g.W.Write.contents _ Memory _ _ _ _ c.from_residual.ensures.1
    (nothing_done g.R.Read.remaining g.W.Write.contents c.args.reader.now c.args.writer.now)

pub lines-init : goal.lines-init
lines-init g c = started g.R.Read.remaining g.W.Write.contents c.args.reader.now c.args.writer.now c.in_ok-buffer.buffer c.in_ok-buffer.ensures

pub returns-in_err-find_line : goal.returns-in_err-find_line
returns-in_err-find_line g c =
    let p = grown g.R.Read.remaining g.W.Write.contents c.args.reader.now c.lines.reader c.find_line.new.reader c.args.writer.now c.lines.writer
    c.lines.buffer c.find_line.new.self c.lines.invariant.stage c.lines.number c.find_line.ensures.grew.0 c.lines.invariant.progress
    c.find_line.ensures.grew.1 c.find_line.ensures.grew.2 c.find_line.ensures.room c.find_line.ensures.needed in
    with_fault g.R.Read.remaining g.W.Write.contents _ Read _ _ _ _ c.from_residual-in_err-find_line.ensures.1
    (within_line g.R.Read.remaining g.W.Write.contents c.args.reader.now c.lines.reader c.find_line.new.reader c.args.writer.now c.lines.writer
    c.find_line.new.self c.lines.invariant.stage c.lines.number p c.lines.invariant.goes_on c.in_err-find_line.ensures.none
    c.in_err-find_line.ensures.fault)

pub returns-in-TooLong : goal.returns-in-TooLong
returns-in-TooLong g c =
    let p = grown g.R.Read.remaining g.W.Write.contents c.args.reader.now c.lines.reader c.find_line.new.reader c.args.writer.now c.lines.writer
    c.lines.buffer c.find_line.new.self c.lines.invariant.stage c.lines.number c.find_line.ensures.grew.0 c.lines.invariant.progress
    c.find_line.ensures.grew.1 c.find_line.ensures.grew.2 c.find_line.ensures.room c.find_line.ensures.needed in
    after_too_long g.R.Read.remaining g.W.Write.contents c.lines_are_read.ensures c.spelled_so.ensures c.args.reader.now c.lines.reader
    c.find_line.new.reader c.args.writer.now c.lines.writer c.find_line.new.self c.lines.invariant.stage c.lines.number p c.lines.invariant.goes_on
    (rw c.in-TooLong.is at c.in_ok-find_line.ensures.reached) (rw c.in-TooLong.is at c.in_ok-find_line.ensures.found)

pub returns-in-Last : goal.returns-in-Last
returns-in-Last g c =
    let p = grown g.R.Read.remaining g.W.Write.contents c.args.reader.now c.lines.reader c.find_line.new.reader c.args.writer.now c.lines.writer
    c.lines.buffer c.find_line.new.self c.lines.invariant.stage c.lines.number c.find_line.ensures.grew.0 c.lines.invariant.progress
    c.find_line.ensures.grew.1 c.find_line.ensures.grew.2 c.find_line.ensures.room c.find_line.ensures.needed in
    let found = rw c.in-Last.is at c.in_ok-find_line.ensures.found in
    after_last g.R.Read.remaining g.W.Write.contents c.lines_are_read.ensures c.write_line.result c.args.reader.now c.lines.reader
    c.find_line.new.reader c.args.writer.now c.lines.writer c.write_line.new.writer c.find_line.new.self c.lines.invariant.stage
    c.write_line.new.stage c.lines.number c.in-Last.count c.octets.result.now c.octets.ensures.octets p c.lines.invariant.goes_on found.0 found.1
    (rw c.in-Last.is at c.in_ok-find_line.ensures.reached) (c.write_line.ensures c.lines.invariant.stage c.lines.invariant.stands)

pub slice_bounds-line-end-in-Line : goal.slice_bounds-line-end-in-Line
slice_bounds-line-end-in-Line g c =
    let found = rw c.in-Line.is at c.in_ok-find_line.ensures.found in
    let within = within_held c.in-Line.count c.find_line.new.self found.1 in
    let enough : c.in-Line.count ≤ length c.octets-in-Line.result.now = omega (arith, within, ap length c.octets-in-Line.ensures.octets) in
    sym (length-take-le c.in-Line.count c.octets-in-Line.result.now enough)

pub returns-in_err-write_line-in-Line : goal.returns-in_err-write_line-in-Line
returns-in_err-write_line-in-Line g c =
    let p = grown g.R.Read.remaining g.W.Write.contents c.args.reader.now c.lines.reader c.find_line.new.reader c.args.writer.now c.lines.writer
    c.lines.buffer c.find_line.new.self c.lines.invariant.stage c.lines.number c.find_line.ensures.grew.0 c.lines.invariant.progress
    c.find_line.ensures.grew.1 c.find_line.ensures.grew.2 c.find_line.ensures.room c.find_line.ensures.needed in
    let found = rw c.in-Line.is at c.in_ok-find_line.ensures.found in
    with_fault g.R.Read.remaining g.W.Write.contents _ c.in_err-write_line-in-Line.field-0.0 _ _ _ _
    c.from_residual-in_err-write_line-in-Line.ensures.1
    (after_line g.R.Read.remaining g.W.Write.contents c.lines_are_read.ensures c.in_err-write_line-in-Line.field-0.0 c.args.reader.now c.lines.reader
    c.find_line.new.reader c.args.writer.now c.lines.writer c.write_line-in-Line.new.writer c.find_line.new.self c.lines.invariant.stage
    c.write_line-in-Line.new.stage c.lines.number c.in-Line.count c.octets-in-Line.result.now c.octets-in-Line.ensures.octets p
    c.lines.invariant.goes_on found.0 found.1 (rw c.in-Line.is at c.in_ok-find_line.ensures.reached)
    (c.in_err-write_line-in-Line.ensures c.lines.invariant.stage c.lines.invariant.stands))

pub take_off-requires : goal.take_off-requires
take_off-requires g c =
    let found = rw c.in-Line.is at c.in_ok-find_line.ensures.found in
    within_held c.in-Line.count c.find_line.new.self found.1

pub lines-preserved : goal.lines-preserved
lines-preserved g c =
    let p = grown g.R.Read.remaining g.W.Write.contents c.args.reader.now c.lines.reader c.find_line.new.reader c.args.writer.now c.lines.writer
    c.lines.buffer c.find_line.new.self c.lines.invariant.stage c.lines.number c.find_line.ensures.grew.0 c.lines.invariant.progress
    c.find_line.ensures.grew.1 c.find_line.ensures.grew.2 c.find_line.ensures.room c.find_line.ensures.needed in
    let found = rw c.in-Line.is at c.in_ok-find_line.ensures.found in
    after_good_line g.R.Read.remaining g.W.Write.contents c.lines_are_read.ensures c.args.reader.now c.lines.reader c.find_line.new.reader
    c.args.writer.now c.lines.writer c.write_line-in-Line.new.writer c.find_line.new.self c.take_off.new.self c.lines.invariant.stage
    c.write_line-in-Line.new.stage c.lines.number c.in-Line.count c.octets-in-Line.result.now c.octets-in-Line.ensures.octets p
    c.lines.invariant.goes_on found.1 (rw c.in-Line.is at c.in_ok-find_line.ensures.reached)
    (c.in_ok-write_line-in-Line.ensures c.lines.invariant.stage c.lines.invariant.stands) c.take_off.ensures

pub returns-in-End : goal.returns-in-End
returns-in-End g c =
    let p = grown g.R.Read.remaining g.W.Write.contents c.args.reader.now c.lines.reader c.find_line.new.reader c.args.writer.now c.lines.writer
    c.lines.buffer c.find_line.new.self c.lines.invariant.stage c.lines.number c.find_line.ensures.grew.0 c.lines.invariant.progress
    c.find_line.ensures.grew.1 c.find_line.ensures.grew.2 c.find_line.ensures.room c.find_line.ensures.needed in
    let reached = rw c.in-End.is at c.in_ok-find_line.ensures.reached in
    whole g.R.Read.remaining g.W.Write.contents c.args.reader.now c.lines.reader c.find_line.new.reader c.args.writer.now c.lines.writer
    c.find_line.new.self c.lines.invariant.stage c.lines.number p c.lines.invariant.goes_on (rw c.in-End.is at c.in_ok-find_line.ensures.found)
    reached.0 reached.1
