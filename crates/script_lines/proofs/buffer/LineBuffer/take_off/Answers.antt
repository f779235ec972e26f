use Rattle.std.proofs.Common.{◌+◌, ◌≤◌, length, drop, ap, ◌∙◌, arith}
use Rattle.script_lines.proofs.BufferLemmas.{length-slice_range, slice_range-drop}
use Rattle.script_lines.proofs.buffer.LineBuffer.take_off.Goals as goal

pub returns : goal.returns
returns c =
    let b = c.self.inside in
    let within : b.start + c.args.count ≤ b.end =
    omega (arith, c.requires, ap length c.self.view_is, length-slice_range b.octets.items b.start b.end (omega arith)) in
    slice_range-drop b.octets.items b.start c.args.count b.end within ∙ ap (drop c.args.count) c.self.view_is
