-- The nodes of a cluster may go to another thread, and threads may share the cluster, if the nodes' stores may go.
use denote.RattleType.{RattleType}
use denote.Param.Send.{IsSend, IsSync, sendable, view_send, view_sync}
use denote.Param.SendFields.{as_row_send, as_row_sync, declared_send, declared_sync}
use Rattle.std.proofs.Crossing.{crosses, Vec-send, Vec-sync}
use Rattle.std.specs.declared.sync.ledger.Ledger as Ledger
use Rattle.stable_store.specs.declared.store.StableStore as Store
use Rattle.synod_acceptor.proofs.packet.Packet.TheSendSync as packet
use Rattle.node_core.proofs.Crossing.{group_send, group_sync, kept_send, kept_sync, option_send, option_sync}
use Rattle.node_core.proofs.StoppedSendSync as stopped
use Rattle.node_core.specs.contracts.node.Node as Node
use Rattle.node_core.specs.contracts.node.Node.TheInside as NodeFields
use Rattle.journal_parts.specs.declared.begins.Begins as Begins
use Rattle.journal_parts.specs.contracts.member.Member as Member
use Rattle.journal_parts.specs.contracts.member.Member.TheInside as MemberFields
use Rattle.journal_parts.specs.contracts.post.Post as Post
use Rattle.journal_parts.proofs.post.Halted.TheSendSync as halted
use Rattle.journal_parts.proofs.entry.Entry.TheSendSync as entry
use Rattle.journal_parts.proofs.register.Register.TheSendSync as register
use Rattle.node_threads.specs.contracts.cluster.Cluster as Cluster
use Rattle.node_threads.specs.contracts.cluster.Rooms as Rooms

-- Each lemma of a struct has a line for each of its fields.
module _ (S : RattleType) (s : Store.Ghosts S.Denot) where
  module _ (store : IsSend S) where
    pub node_send : IsSend (Node.the_row S s)
    node_send = view_send (NodeFields.the_row S s) _ _ _ _ (declared_send (NodeFields.the_type S s) (
      search (as_row_send, store),
      (
        kept_send,
        (
          search sendable,
          (
            option_send _ packet.the_send,
            (option_send _ group_send, (option_send _ stopped.the_send, tt)),
          ),
        ),
      ),
    ))

    pub post_send : IsSend (Post.the_row S s)
    post_send = declared_send (Post.the_type S s) (
      node_send,
      (
        option_send _ halted.the_send,
        (search sendable, tt),
      ),
    )

  module _ (store : IsSync S) where
    pub node_sync : IsSync (Node.the_row S s)
    node_sync = view_sync (NodeFields.the_row S s) _ _ _ _ (declared_sync (NodeFields.the_type S s) (
      search (as_row_sync, store),
      (
        kept_sync,
        (
          search sendable,
          (
            option_sync _ packet.the_sync,
            (option_sync _ group_sync, (option_sync _ stopped.the_sync, tt)),
          ),
        ),
      ),
    ))

    pub post_sync : IsSync (Post.the_row S s)
    post_sync = declared_sync (Post.the_type S s) (
      node_sync,
      (
        option_sync _ halted.the_sync,
        (search sendable, tt),
      ),
    )

  module _ (L : RattleType) (l : Begins.Ghosts L.Denot) (k : Ledger.Ghosts L.Denot) where
    pub member_send : IsSend S → IsSend (Member.the_row S L s l k)
    member_send store = view_send (MemberFields.the_row S L s l k) _ _ _ _ (declared_send (MemberFields.the_type S L s l k) (
      post_send store,
      (
        Vec-send _ entry.the_send,
        (search sendable, tt),
      ),
    ))

    pub member_sync : IsSync S → IsSync (Member.the_row S L s l k)
    member_sync store = view_sync (MemberFields.the_row S L s l k) _ _ _ _ (declared_sync (MemberFields.the_type S L s l k) (
      post_sync store,
      (
        Vec-sync _ entry.the_sync,
        (search sendable, tt),
      ),
    ))

    rooms_sync : IsSync S → IsSync (Rooms.the_row S L s l k)
    rooms_sync store = declared_sync (Rooms.the_type S L s l k) (Vec-sync _ (member_sync store), (Vec-sync _ (post_sync store), tt))

    pub cluster_sync : IsSend S → IsSync S → IsSync (Cluster.the_row S L s l k)
    cluster_sync store shared = declared_sync (Cluster.the_type S L s l k) (
      search sendable depth 20,
      (
        Vec-sync _ (search (crosses, member_send store)),
        (search (crosses, register.the_send), (rooms_sync shared, tt)),
      ),
    )
