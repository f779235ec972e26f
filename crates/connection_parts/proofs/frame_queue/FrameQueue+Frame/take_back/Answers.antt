use Rattle.std.proofs.Common.{rules}
use Rattle.std.specs.Prelude.{not}
use Rattle.std.proofs.lemmas.Fn.{filter_same}
use Rattle.connection_parts.specs.Frames.{is_of}
use Rattle.connection_parts.proofs.frame_queue.FrameQueue+Frame.take_back.Goals as goal

pub returns-clause-after : goal.returns-clause-after
returns-clause-after c =
    let kept = filter_same _ (λ frame. not (is_of c.args.sequence frame)) _ (λ x b f' k. search rules) _ _ c.retain.ensures.filtered in
    search (rules, kept)
