use Rattle.std.proofs.Common.{rules}
use Rattle.std.proofs.lemmas.Fn.{filter_same}
use Rattle.waiting_messages.specs.Presences.{lingers}
use Rattle.waiting_messages.proofs.presence.Presence.forget.Goals as goal

pub returns : goal.returns
returns c =
    let kept = filter_same _ (λ seen. lingers c.args.now c.args.linger_seconds seen) _ (λ x b f' k. search rules) _ _ c.retain.ensures.filtered in
    search (rules, kept)
