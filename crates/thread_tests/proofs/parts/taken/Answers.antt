use Rattle.std.proofs.Common.{◌≡◌, false, sym, ap, ◌∙◌}
use Rattle.std.proofs.lemmas.Bool.{or_parts}
use Rattle.thread_tests.proofs.parts.taken.Goals as goal

pub commit-requires-clause-sound : goal.commit-requires-clause-sound
commit-requires-clause-sound g c =
    let works : c.is_broken.result ≡ false = rw c.expect-packet.ensures at c.admit.ensures.works in
    ap (λ p. p.astray) c.prepare.ensures.post
    ∙ (or_parts c.args.member.now.post.astray c.args.member.now.post.node.broken (sym c.is_broken.ensures ∙ works)).0
