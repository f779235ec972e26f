-- What the threads of a server share may be shared, if the nodes' stores may.
use denote.RattleType.{RattleType}
use denote.Param.Send.{IsSend, IsSync, sendable}
use denote.Param.SendFields.{declared_sync}
use Rattle.std.proofs.Crossing.{crosses}
use Rattle.std.proofs.alloc.Global.TheSendSync as heap
use Rattle.std.specs.declared.sync.ledger.Ledger as Ledger
use Rattle.stable_store.specs.declared.store.StableStore as Store
use Rattle.node_workers.proofs.LifeSendSync as life
use Rattle.serve_sessions.proofs.arrival.Arrival.TheSendSync as arrival
use Rattle.serve_sessions.proofs.connection.Connection.TheSendSync as connection
use Rattle.serve_nodes.proofs.house.House.TheSendSync as house
use Rattle.serve_nodes.proofs.station.Station.TheSendSync as station
use Rattle.node_workers.specs.Begins as Begins
use Rattle.node_workers.proofs.Crossing.{cluster_sync}
use Rattle.server.proofs.seat_pool.SeatPool.TheSendSync as pool
use Rattle.server.specs.contracts.shared.Shared as Shared

-- what a search takes, besides, for the rest that a thread is handed
pub ruleset crossing =
    (crosses, heap.the_send, life.the_send, life.the_sync, connection.the_send, connection.the_sync, station.the_sync, house.the_send, house.the_sync)

-- the same for who serves a session
pub ruleset arriving = (crosses, life.the_sync, station.the_sync, arrival.the_send)

-- It has a line for each field.
module _ (S : RattleType) (s : Store.Ghosts S.Denot) (L : RattleType) (l : Begins.Ghosts L.Denot) (k : Ledger.Ghosts L.Denot) where
  pub shared_sync : IsSend S → IsSync S → IsSync (Shared.the_row S L s l k)
  shared_sync send sync = declared_sync (Shared.the_type S L s l k) (
    search (crosses, sendable, house.the_send, house.the_sync) depth 20,
    (cluster_sync S s L l k send sync, (search (sendable, pool.the_sync) depth 20, tt)),
  )
