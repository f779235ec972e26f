use Rattle.std.proofs.Common.{rules, ◌≡◌, Some, arith, length, refl, sym, ap, subst, ◌∙◌}
use Rattle.std.specs.List.{slice_get}
use Rattle.std.proofs.lemmas.List.{length-map}
use Rattle.std.proofs.lemmas.Option.{slice_get_read}
use Rattle.mc_model.specs.node.Input.{Delivery}
use Rattle.node_model.specs.Stepped.{stepped}
use Rattle.node_laws.specs.Steps.{IsWellMade}
use Rattle.synod_acceptor.specs.Packets.{packet_of}
use Rattle.synod_acceptor.specs.declared.packet.Packet.{Packet as Sent}
use Rattle.node_core.specs.Keeping.{kept_of}
use Rattle.node_core.specs.Steps.{outputs_of}
use Rattle.journal_parts.specs.declared.done.Done.{Done}
use Rattle.journal_parts.specs.Gathering.{IsGathered}
use Rattle.journal_parts.proofs.Gathering.{gathered_so, same_at}
use Rattle.journal_parts.proofs.ready_group.done_at.Goals as goal

pub returns-clause-gathered : goal.returns-clause-gathered
returns-clause-gathered c = λ packet at.
    let here : c.in-Some.packet.now ≡ packet = search rules in
    let same : c.in_ok-packet.packet ≡ packet = c.in_ok-packet.ensures.copy ∙ here in
    let well : IsWellMade (packet_of packet) = subst (λ (p : Sent). IsWellMade (packet_of p)) here c.is_well_made.ensures in
    let place = c.requires.place in
    let same_count = ap length c.outputs.ensures in
    let outputs = length-map c.outputs.result.now outputs_of in
    let packets = length-map c.args.group.now.packets
    (λ (p : Sent). (stepped c.args.group.now.was.setup (kept_of c.args.group.now.was) (Delivery (packet_of p))).outputs) in
    let out : slice_get c.outputs.result.now c.args.place ≡ Some c.index-outputs-place.result =
    slice_get_read c.outputs.result.now (length c.outputs.result.now) c.args.place c.index-outputs-place.result refl
    (omega (arith, place, same_count, outputs, packets)) c.index-outputs-place.is in
    let gives : outputs_of c.index-outputs-place.result ≡ (stepped c.args.group.now.was.setup (kept_of c.args.group.now.was) (Delivery (packet_of packet))).outputs =
    same_at outputs_of (λ (p : Sent). (stepped c.args.group.now.was.setup (kept_of c.args.group.now.was) (Delivery (packet_of p))).outputs)
    c.outputs.result.now c.args.group.now.packets c.args.place c.index-outputs-place.result packet c.outputs.ensures out at in
    let copied : outputs_of c.in_ok-outputs.outputs ≡ outputs_of c.index-outputs-place.result = search rules in
    subst (λ (d : Done). IsGathered c.args.group.now.was packet d) (sym c.in_ok-new.ensures.ok)
    (gathered_so c.args.group.now.was packet c.in_ok-packet.packet c.args.step c.in_ok-outputs.outputs same c.requires.step well (copied ∙ gives))
