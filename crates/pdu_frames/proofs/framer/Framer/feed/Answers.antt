use Rattle.std.proofs.Common.{List, ℕ, ◌++◌, length, ◌-◌, take, drop, refl, ap, ◌∙◌}
use Rattle.pdu_frames.proofs.Fronts.{added_in_two}
use Rattle.pdu_frames.proofs.framer.Framer.feed.Goals as goal

pub returns-then-has_wrong_length-clause-fault : goal.returns-then-has_wrong_length-clause-fault
returns-then-has_wrong_length-clause-fault c = (refl, refl)

pub returns-clause-taken : goal.returns-clause-taken
returns-clause-taken c =
    let piece = c.args.piece.now in
    let first = c.fill-of_length.result in
    let second = c.fill-of_frame.result in
    c.fill-of_frame.ensures.taken
    ∙ ap (λ (held : List ℕ). held ++ take second (take (length piece - first) (drop first piece))) c.fill-of_length.ensures.taken
    ∙ added_in_two c.args.self.now piece first second
