-- What a node keeps, and a group of steps that waits to be saved, may go to another thread, and threads may share them.
use denote.RattleType.{RattleType}
use denote.Param.Send.{IsSend, IsSync, plain_send, plain_sync, sendable, view_send, view_sync}
use denote.Param.SendFields.{as_row_send, as_row_sync, declared_send, declared_sync, variants_send, variants_sync}
use Rattle.std.proofs.Crossing.{Vec-send, Vec-sync, crosses}
use Rattle.std.specs.contracts.option.Option as Option
use Rattle.mc_types.proofs.number.Moment.TheSendSync as moment
use Rattle.mc_types.proofs.id.MsgId.TheSendSync as id
use Rattle.mc_types.proofs.node_set.NodeSet.TheSendSync as nodes
use Rattle.fate_chain.proofs.chain.Chain.TheSendSync as chain
use Rattle.synod_acceptor.proofs.packet.Packet.TheSendSync as packet
use Rattle.synod_acceptor.proofs.record.Change.TheSendSync as change
use Rattle.synod_acceptor.proofs.room.RecordRoom.TheSendSync as records
use Rattle.synod_acceptor.proofs.vote.Vote.TheSendSync as vote
use Rattle.waiting_requests.specs.contracts.taken.Taken as Taken
use Rattle.waiting_requests.specs.contracts.request.Request as Request
use Rattle.waiting_requests.specs.contracts.held.Held as Held
use Rattle.waiting_requests.specs.contracts.queue.Queue as Queue
use Rattle.node_parts.proofs.message_room.MessageRoom.TheSendSync as room
use Rattle.node_parts.proofs.message_shelf.MessageShelf.TheSendSync as shelf
use Rattle.node_parts.proofs.outputs.Outputs.TheSendSync as outputs
use Rattle.node_parts.proofs.reach.Reach.TheSendSync as reach
use Rattle.node_kept.proofs.step.Counted.TheSendSync as counted
use Rattle.node_kept.proofs.step.Put.TheSendSync as put
use Rattle.node_kept.specs.contracts.grouped_step.GroupedStep as Grouped
use Rattle.node_kept.specs.contracts.kept.Kept as Kept
use Rattle.node_kept.specs.contracts.queue_change.QueueChange as QueueChange
use Rattle.node_kept.specs.contracts.step.Next as Next
use Rattle.node_kept.specs.contracts.step_group.StepGroup as Group
use Rattle.node_kept.specs.contracts.step_group.StepGroup.TheInside as GroupFields

taken_send : IsSend Taken.the_row
taken_send = search (sendable, crosses, chain.the_send) depth 30

request_send : IsSend Request.the_row
request_send = search (sendable, crosses, taken_send) depth 30

held_send : IsSend Held.the_row
held_send = search (
  crosses,
  view_send,
  declared_send,
  variants_send,
  as_row_send,
  plain_send,
  request_send,
  vote.the_send,
  moment.the_send,
  nodes.the_send,
) depth 20

queue_send : IsSend Queue.the_row
queue_send = search (sendable, crosses, held_send) depth 30

pub kept_send : IsSend Kept.the_row
kept_send = search (sendable, crosses, queue_send, shelf.the_send) depth 30

queue_change_send : IsSend QueueChange.the_row
queue_change_send = search (sendable, crosses, held_send, chain.the_send) depth 30

pub option_send : (T : RattleType) → IsSend T → IsSend (Option.the_row T)
option_send T s = search sendable depth 20

-- Each lemma of a struct has a line for each of its fields.
next_send : IsSend Next.the_row
next_send = declared_send Next.the_type (
  moment.the_send,
  (
    search sendable,
    (
      search sendable,
      (
        option_send _ counted.the_send,
        (
          search sendable,
          (
            queue_change_send,
            (
              Vec-send _ put.the_send,
              (
                option_send _ room.the_send,
                (option_send _ change.the_send, (records.the_send, (option_send _ reach.the_send, tt))),
              ),
            ),
          ),
        ),
      ),
    ),
  ),
)

grouped_send : IsSend Grouped.the_row
grouped_send = declared_send Grouped.the_type (packet.the_send, (id.the_send, (next_send, (search crosses depth 10, tt))))

pub group_send : IsSend Group.the_row
group_send = view_send GroupFields.the_row _ _ _ _ (declared_send GroupFields.the_type (
  search crosses depth 10,
  (
    Vec-send _ grouped_send,
    (Vec-send _ outputs.the_send, (Vec-send _ change.the_send, (room.the_send, tt))),
  ),
))

taken_sync : IsSync Taken.the_row
taken_sync = search (sendable, crosses, chain.the_sync) depth 30

request_sync : IsSync Request.the_row
request_sync = search (sendable, crosses, taken_sync) depth 30

held_sync : IsSync Held.the_row
held_sync = search (
  crosses,
  view_sync,
  declared_sync,
  variants_sync,
  as_row_sync,
  plain_sync,
  request_sync,
  vote.the_sync,
  moment.the_sync,
  nodes.the_sync,
) depth 20

queue_sync : IsSync Queue.the_row
queue_sync = search (sendable, crosses, held_sync) depth 30

pub kept_sync : IsSync Kept.the_row
kept_sync = search (sendable, crosses, queue_sync, shelf.the_sync) depth 30

queue_change_sync : IsSync QueueChange.the_row
queue_change_sync = search (sendable, crosses, held_sync, chain.the_sync) depth 30

pub option_sync : (T : RattleType) → IsSync T → IsSync (Option.the_row T)
option_sync T s = search sendable depth 20

next_sync : IsSync Next.the_row
next_sync = declared_sync Next.the_type (
  moment.the_sync,
  (
    search sendable,
    (
      search sendable,
      (
        option_sync _ counted.the_sync,
        (
          search sendable,
          (
            queue_change_sync,
            (
              Vec-sync _ put.the_sync,
              (
                option_sync _ room.the_sync,
                (option_sync _ change.the_sync, (records.the_sync, (option_sync _ reach.the_sync, tt))),
              ),
            ),
          ),
        ),
      ),
    ),
  ),
)

grouped_sync : IsSync Grouped.the_row
grouped_sync = declared_sync Grouped.the_type (packet.the_sync, (id.the_sync, (next_sync, (search crosses depth 10, tt))))

pub group_sync : IsSync Group.the_row
group_sync = view_sync GroupFields.the_row _ _ _ _ (declared_sync GroupFields.the_type (
  search crosses depth 10,
  (
    Vec-sync _ grouped_sync,
    (Vec-sync _ outputs.the_sync, (Vec-sync _ change.the_sync, (room.the_sync, tt))),
  ),
))
