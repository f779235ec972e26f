use Rattle.std.proofs.Common.{refl, ap}
use Rattle.std.specs.Prelude.{option_map}
use Rattle.pdu_tables.specs.declared.command.Command.TheVariants as commands
use Rattle.pdu_bodies.specs.declared.pdu.Body.TheVariants as bodies
use Rattle.pdu_bodies.specs.Bodies.{body_at}
use Rattle.pdu_bodies.specs.Contents.{bind_contents, bind_answer_contents, message_contents, message_id_contents, query_contents}
use Rattle.pdu_bodies.specs.Contents.{query_answer_contents, cancel_contents}
use Rattle.pdu_bodies.proofs.Making.{body_made, bind_answer_again, message_id_again, query_answer_again}
use Rattle.pdu_bodies.proofs.reading.body_of.Goals as goal

pub returns-in-BindReceiver : goal.returns-in-BindReceiver
returns-in-BindReceiver c =
    rw c.in-BindReceiver.is (body_made commands.BindReceiver
    (bind_contents) bodies.BindReceiver c.args.octets.now c.bind_of.result c.map.result (λ x. refl) c.bind_of.ensures c.map.ensures.cases)

pub returns-in-BindReceiverResp : goal.returns-in-BindReceiverResp
returns-in-BindReceiverResp c =
    rw c.in-BindReceiverResp.is (body_made commands.BindReceiverResp
    (option_map bind_answer_contents) bodies.BindReceiverResp c.args.octets.now c.bind_answer_of.result c.map-in-BindReceiverResp.result
    (λ x. ap bodies.BindReceiverResp (bind_answer_again x)) c.bind_answer_of.ensures c.map-in-BindReceiverResp.ensures.cases)

pub returns-in-BindTransmitter : goal.returns-in-BindTransmitter
returns-in-BindTransmitter c =
    rw c.in-BindTransmitter.is (body_made commands.BindTransmitter
    (bind_contents) bodies.BindTransmitter c.args.octets.now c.bind_of-in-BindTransmitter.result c.map-in-BindTransmitter.result
    (λ x. refl) c.bind_of-in-BindTransmitter.ensures c.map-in-BindTransmitter.ensures.cases)

pub returns-in-BindTransmitterResp : goal.returns-in-BindTransmitterResp
returns-in-BindTransmitterResp c =
    rw c.in-BindTransmitterResp.is (body_made commands.BindTransmitterResp
    (option_map bind_answer_contents) bodies.BindTransmitterResp c.args.octets.now c.bind_answer_of-in-BindTransmitterResp.result
    c.map-in-BindTransmitterResp.result (λ x. ap bodies.BindTransmitterResp (bind_answer_again x))
    c.bind_answer_of-in-BindTransmitterResp.ensures c.map-in-BindTransmitterResp.ensures.cases)

pub returns-in-BindTransceiver : goal.returns-in-BindTransceiver
returns-in-BindTransceiver c =
    rw c.in-BindTransceiver.is (body_made commands.BindTransceiver
    (bind_contents) bodies.BindTransceiver c.args.octets.now c.bind_of-in-BindTransceiver.result c.map-in-BindTransceiver.result
    (λ x. refl) c.bind_of-in-BindTransceiver.ensures c.map-in-BindTransceiver.ensures.cases)

pub returns-in-BindTransceiverResp : goal.returns-in-BindTransceiverResp
returns-in-BindTransceiverResp c =
    rw c.in-BindTransceiverResp.is (body_made commands.BindTransceiverResp
    (option_map bind_answer_contents) bodies.BindTransceiverResp c.args.octets.now c.bind_answer_of-in-BindTransceiverResp.result
    c.map-in-BindTransceiverResp.result (λ x. ap bodies.BindTransceiverResp (bind_answer_again x))
    c.bind_answer_of-in-BindTransceiverResp.ensures c.map-in-BindTransceiverResp.ensures.cases)

pub returns-in-SubmitSm : goal.returns-in-SubmitSm
returns-in-SubmitSm c =
    rw c.in-SubmitSm.is (body_made commands.SubmitSm
    (message_contents) bodies.SubmitSm c.args.octets.now c.message_of.result c.map-in-SubmitSm.result
    (λ x. refl) c.message_of.ensures c.map-in-SubmitSm.ensures.cases)

pub returns-in-SubmitSmResp : goal.returns-in-SubmitSmResp
returns-in-SubmitSmResp c =
    rw c.in-SubmitSmResp.is (body_made commands.SubmitSmResp
    (option_map message_id_contents) bodies.SubmitSmResp c.args.octets.now c.message_id_of.result c.map-in-SubmitSmResp.result
    (λ x. ap bodies.SubmitSmResp (message_id_again x)) c.message_id_of.ensures c.map-in-SubmitSmResp.ensures.cases)

pub returns-in-DeliverSm : goal.returns-in-DeliverSm
returns-in-DeliverSm c =
    rw c.in-DeliverSm.is (body_made commands.DeliverSm
    (message_contents) bodies.DeliverSm c.args.octets.now c.message_of-in-DeliverSm.result c.map-in-DeliverSm.result
    (λ x. refl) c.message_of-in-DeliverSm.ensures c.map-in-DeliverSm.ensures.cases)

pub returns-in-DeliverSmResp : goal.returns-in-DeliverSmResp
returns-in-DeliverSmResp c =
    rw c.in-DeliverSmResp.is (body_made commands.DeliverSmResp
    (option_map message_id_contents) bodies.DeliverSmResp c.args.octets.now c.message_id_of-in-DeliverSmResp.result
    c.map-in-DeliverSmResp.result (λ x. ap bodies.DeliverSmResp (message_id_again x)) c.message_id_of-in-DeliverSmResp.ensures
    c.map-in-DeliverSmResp.ensures.cases)

pub returns-in-QuerySm : goal.returns-in-QuerySm
returns-in-QuerySm c =
    rw c.in-QuerySm.is (body_made commands.QuerySm
    (query_contents) bodies.QuerySm c.args.octets.now c.query_of.result c.map-in-QuerySm.result
    (λ x. refl) c.query_of.ensures c.map-in-QuerySm.ensures.cases)

pub returns-in-QuerySmResp : goal.returns-in-QuerySmResp
returns-in-QuerySmResp c =
    rw c.in-QuerySmResp.is (body_made commands.QuerySmResp
    (option_map query_answer_contents) bodies.QuerySmResp c.args.octets.now c.query_answer_of.result c.map-in-QuerySmResp.result
    (λ x. ap bodies.QuerySmResp (query_answer_again x)) c.query_answer_of.ensures c.map-in-QuerySmResp.ensures.cases)

pub returns-in-CancelSm : goal.returns-in-CancelSm
returns-in-CancelSm c =
    rw c.in-CancelSm.is (body_made commands.CancelSm
    (cancel_contents) bodies.CancelSm c.args.octets.now c.cancel_of.result c.map-in-CancelSm.result
    (λ x. refl) c.cancel_of.ensures c.map-in-CancelSm.ensures.cases)

pub returns-in-CancelSmResp : goal.returns-in-CancelSmResp
unfolding body_at
returns-in-CancelSmResp c = rw c.in-CancelSmResp.is c.bare.ensures

pub returns-in-Unbind : goal.returns-in-Unbind
unfolding body_at
returns-in-Unbind c = rw c.in-Unbind.is c.bare-in-Unbind.ensures

pub returns-in-UnbindResp : goal.returns-in-UnbindResp
unfolding body_at
returns-in-UnbindResp c = rw c.in-UnbindResp.is c.bare-in-UnbindResp.ensures

pub returns-in-EnquireLink : goal.returns-in-EnquireLink
unfolding body_at
returns-in-EnquireLink c = rw c.in-EnquireLink.is c.bare-in-EnquireLink.ensures

pub returns-in-EnquireLinkResp : goal.returns-in-EnquireLinkResp
unfolding body_at
returns-in-EnquireLinkResp c = rw c.in-EnquireLinkResp.is c.bare-in-EnquireLinkResp.ensures

pub returns-in-GenericNack : goal.returns-in-GenericNack
unfolding body_at
returns-in-GenericNack c = rw c.in-GenericNack.is c.bare-in-GenericNack.ensures
