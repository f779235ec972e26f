use Rattle.std.proofs.Common.{◌≡◌, ◌∙◌, option_map, refl}
use Rattle.node_model.specs.Kept.{message_at}
use Rattle.std.specs.Option.{option_copied}
use Rattle.node_model.specs.Requests.{id_of, settled_by, settles}
use Rattle.waiting_requests.specs.Waiting.{held_of, known_of}
use Rattle.tick_rules.specs.Standpoints.{start_of}
use Rattle.node_parts.specs.declared.outputs.Outputs.{Outputs}
use Rattle.node_kept.specs.Keeping.{kept_of}
use Rattle.node_kept.specs.Telling.{next_told}
use Rattle.node_kept.proofs.Tells.{told_here}
use Rattle.node_kept.proofs.kept.Kept.told_to.Goals as goal

pub returns : goal.returns
returns c =
    let k = c.args.self.now in
    let told = held_of c.args.held in
    let known = (message_at (kept_of k) (id_of told)).known in
    let known_is : known_of (option_copied c.known-known.result) ≡ known = rw c.id-id.ensures at c.known-known.ensures.known in
    let settles_is : c.settles-settles.result ≡ settles k.setup.nodes known told = c.settles-settles.ensures ∙
    (λ i. settles (c.nodes.ensures i) (known_is i) told) in
    let new_is : held_of c.settle.new.self ≡ settled_by k.setup.nodes known told = c.settle.ensures ∙
    (λ i. settled_by (c.nodes-2.ensures i) (known_is i) told) in
    let verdict = rw (new_is, known_is) at c.in_ok-replies.ensures in
    let start = c.in_ok-next.ensures.start ∙ (λ i. next_told k.setup (kept_of k) (settles_is i) (known_is i) (new_is i)) in
    let outputs : Outputs = record c.in_ok-step.step.outputs { replies = c.in_ok-replies.replies } in
    told_here k known told (option_map start_of c.in_ok-next.next) c.in_ok-step.step (c.in_ok-replies.replies, c.in_ok-replies.queue) outputs
    c.requires.own c.requires.sound (rw c.id-id.ensures at c.in_ok-step.ensures.step) c.in_ok-step.ensures.given verdict start refl
