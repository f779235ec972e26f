use Rattle.receipts.proofs.Pieces.{four}
use Rattle.receipts.proofs.text.put_message.Goals as goal

pub returns-clause-text : goal.returns-clause-text
returns-clause-text c =
    let one = c.in_ok-extend_from_slice.ensures.items in
    let two = rw c.text.ensures.text at c.in_ok-extend_from_slice-2.ensures.items in
    let three = c.in_ok-extend_from_slice-3.ensures.items in
    let last = rw c.delivered_count.ensures at c.in_ok-extend_from_slice-4.ensures.items in
    four c.args.text.now.items _ _ _ _ _ _ _ _ one two three last
