use Rattle.std.proofs.Common.{List, subst}
use Rattle.node_laws.specs.Clusters.{NodeInput}
use Rattle.journal_parts.specs.Journals.{IsJournal}
use Rattle.journal_parts.proofs.Telling.{
  accepted_known,
  all_chosen,
  all_deliveries_stand,
  all_receipts_stand,
  cancels_tell_deleted,
  deliveries_stand_in_the_run,
  grants_none_after_a_cancel,
  grants_nothing_after,
  ids_known,
  queries_told,
  tells_one_fate,
  tells_one_receipt,
}
use Rattle.journal_parts.specs.Closing.{entries_in}
use Rattle.node_threads.proofs.Behind.{behind}
use Rattle.node_threads.proofs.cluster.Cluster.close.Goals as goal

pub returns-in-Ok-clause-fate : goal.returns-in-Ok-clause-fate
returns-in-Ok-clause-fate g c = λ sure packets have before inputs lead.
    tells_one_fate g.L.Begins.cluster before inputs (entries_in c.into_journal.result) c.into_journal.ensures.closed.ends
    (behind g.S.StableStore.stored g.L.Begins.cluster g.L.Begins.kept g.L.Begins.numbers c.into_journal.result c.into_journal.ensures.closed sure packets have
    before inputs lead)

pub returns-in-Ok-clause-receipts : goal.returns-in-Ok-clause-receipts
returns-in-Ok-clause-receipts g c = λ sure packets have before inputs lead.
    tells_one_receipt g.L.Begins.cluster before inputs (entries_in c.into_journal.result) c.into_journal.ensures.closed.ends
    (behind g.S.StableStore.stored g.L.Begins.cluster g.L.Begins.kept g.L.Begins.numbers c.into_journal.result c.into_journal.ensures.closed sure packets have
    before inputs lead)

pub returns-in-Ok-clause-grants : goal.returns-in-Ok-clause-grants
returns-in-Ok-clause-grants g c = λ sure packets have before inputs lead.
    grants_nothing_after g.L.Begins.cluster before inputs (entries_in c.into_journal.result) c.into_journal.ensures.closed.ends
    (behind g.S.StableStore.stored g.L.Begins.cluster g.L.Begins.kept g.L.Begins.numbers c.into_journal.result c.into_journal.ensures.closed sure packets have
    before inputs lead)

pub returns-in-Ok-clause-cancels : goal.returns-in-Ok-clause-cancels
returns-in-Ok-clause-cancels g c = λ sure packets have before inputs lead.
    cancels_tell_deleted g.L.Begins.cluster before inputs (entries_in c.into_journal.result) c.into_journal.ensures.closed.ends
    (behind g.S.StableStore.stored g.L.Begins.cluster g.L.Begins.kept g.L.Begins.numbers c.into_journal.result c.into_journal.ensures.closed sure packets have
    before inputs lead)

pub returns-in-Ok-clause-cancelled : goal.returns-in-Ok-clause-cancelled
returns-in-Ok-clause-cancelled g c = λ sure packets have before inputs lead.
    grants_none_after_a_cancel g.L.Begins.cluster before inputs (entries_in c.into_journal.result) c.into_journal.ensures.closed.ends
    (behind g.S.StableStore.stored g.L.Begins.cluster g.L.Begins.kept g.L.Begins.numbers c.into_journal.result c.into_journal.ensures.closed sure packets have
    before inputs lead)

pub returns-in-Ok-clause-receipts_stand : goal.returns-in-Ok-clause-receipts_stand
returns-in-Ok-clause-receipts_stand g c = λ sure packets have before inputs lead.
    all_receipts_stand g.L.Begins.cluster before inputs (entries_in c.into_journal.result) c.into_journal.ensures.closed.ends
    (behind g.S.StableStore.stored g.L.Begins.cluster g.L.Begins.kept g.L.Begins.numbers c.into_journal.result c.into_journal.ensures.closed sure packets have
    before inputs lead)

pub returns-in-Ok-clause-chosen : goal.returns-in-Ok-clause-chosen
returns-in-Ok-clause-chosen g c = λ sure packets have before inputs lead.
    all_chosen g.L.Begins.cluster before inputs (entries_in c.into_journal.result) c.into_journal.ensures.closed.ends
    (behind g.S.StableStore.stored g.L.Begins.cluster g.L.Begins.kept g.L.Begins.numbers c.into_journal.result c.into_journal.ensures.closed sure packets have
    before inputs lead)

pub returns-in-Ok-clause-deliveries : goal.returns-in-Ok-clause-deliveries
returns-in-Ok-clause-deliveries g c = λ sure packets have before inputs lead.
    deliveries_stand_in_the_run g.L.Begins.cluster before inputs (entries_in c.into_journal.result) c.into_journal.ensures.closed.ends
    (behind g.S.StableStore.stored g.L.Begins.cluster g.L.Begins.kept g.L.Begins.numbers c.into_journal.result c.into_journal.ensures.closed sure packets have
    before inputs lead)

pub returns-in-Ok-clause-deliveries_here : goal.returns-in-Ok-clause-deliveries_here
returns-in-Ok-clause-deliveries_here g c = λ sure packets have before inputs lead none.
    all_deliveries_stand g.L.Begins.cluster before (entries_in c.into_journal.result) c.into_journal.ensures.closed.ends
    (subst (λ (is : List NodeInput). IsJournal g.L.Begins.cluster before is (entries_in c.into_journal.result) c.into_journal.ensures.closed.ends) none
    (behind g.S.StableStore.stored g.L.Begins.cluster g.L.Begins.kept g.L.Begins.numbers c.into_journal.result c.into_journal.ensures.closed sure packets have
    before inputs lead))

pub returns-in-Ok-clause-queries : goal.returns-in-Ok-clause-queries
returns-in-Ok-clause-queries g c = λ sure packets have before inputs lead.
    queries_told g.L.Begins.cluster before inputs (entries_in c.into_journal.result) c.into_journal.ensures.closed.ends
    (behind g.S.StableStore.stored g.L.Begins.cluster g.L.Begins.kept g.L.Begins.numbers c.into_journal.result c.into_journal.ensures.closed sure packets have
    before inputs lead)

pub returns-in-Ok-clause-accepted : goal.returns-in-Ok-clause-accepted
returns-in-Ok-clause-accepted g c = λ sure packets have before inputs lead.
    accepted_known g.L.Begins.cluster before inputs (entries_in c.into_journal.result) c.into_journal.ensures.closed.ends
    (behind g.S.StableStore.stored g.L.Begins.cluster g.L.Begins.kept g.L.Begins.numbers c.into_journal.result c.into_journal.ensures.closed sure packets have
    before inputs lead)

pub returns-in-Ok-clause-at_once : goal.returns-in-Ok-clause-at_once
returns-in-Ok-clause-at_once g c = λ sure packets have before inputs lead.
    ids_known g.L.Begins.cluster before inputs (entries_in c.into_journal.result) c.into_journal.ensures.closed.ends
    (behind g.S.StableStore.stored g.L.Begins.cluster g.L.Begins.kept g.L.Begins.numbers c.into_journal.result c.into_journal.ensures.closed sure packets have
    before inputs lead)
