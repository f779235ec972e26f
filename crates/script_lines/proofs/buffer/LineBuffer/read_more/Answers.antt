use Rattle.std.proofs.Common.{◌+◌, ◌-◌, length, take, drop, slice_range, ap, ◌∙◌, arith}
use Rattle.std.proofs.lemmas.List.{take_at}
use Rattle.script_lines.proofs.BufferLemmas.{slice_range-filled}
use Rattle.script_lines.proofs.buffer.LineBuffer.read_more.Goals as goal

pub returns-clause-more : goal.returns-clause-more
returns-clause-more g c =
    let b = c.self.inside in
    let filled = c.read_behind.new.octets in
    let front = b.end - b.start in
    let gives = rw c.in-Some.is at c.in_ok-count.ensures.gives in
    let kept = c.in_ok-count.ensures.front ∙ ap (λ xs. slice_range xs b.start b.end) c.as_mut_slice.ensures.value ∙ c.self.view_is in
    let whole = take_at filled (drop (length filled) b.octets.items) b.octets.len (omega arith) in (
      take c.in-Some.count (drop front filled),
      gives.1,
      ap (λ xs. slice_range xs 0 (front + c.in-Some.count)) whole ∙ slice_range-filled c.args.self.now filled front c.in-Some.count kept,
    )
