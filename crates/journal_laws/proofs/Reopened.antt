-- The worked journal of a node that opens over the store that it left is one.
use Rattle.std.proofs.Common.{◌≡◌, ℕ, ◌+◌, ◌<◌, List, [], None, Some, refl, sym, ap, subst, inl, inr, arith}
use Rattle.mc_model.specs.message.Chain.{IsPermitted}
use Rattle.mc_model.specs.synod.Packet.{Packet, Prepare, Promise, Propose, Voted}
use Rattle.mc_model.specs.synod.Lists.{In}
use Rattle.mc_model.specs.node.Input.{Delivery, Input, Tick}
use Rattle.mc_model.specs.node.Outputs.{Outputs}
use Rattle.mc_model.specs.cluster.Steps.{setup_of}
use Rattle.mc_parts.specs.FirstMessage.{first_id, midnight, taken}
use Rattle.node_model.specs.Kept.{Kept}
use Rattle.node_model.specs.Outputs.{nothing}
use Rattle.node_model.specs.Recorded.{has_record}
use Rattle.node_model.specs.Stepped.{stepped}
use Rattle.node_laws.specs.Clusters.{MayHappen, kept_reached}
use Rattle.node_laws.specs.Examples.{deleted}
use Rattle.world_runs.specs.Given.{Given}
use Rattle.world_runs.specs.Reach.{Reach}
use Rattle.world_runs.specs.Reaching.{reach_of}
use Rattle.world_runs.specs.Runs.{given_out}
use Rattle.world_runs.specs.Taking.{node_at}
use Rattle.journal_laws.specs.Journals.{Entry, IsInRange, IsOwnRun, WereSent, done_in, entries_at}
use Rattle.journal_laws.specs.OldStores.{AreLeft, IsJournalOver, kept_opened}
use Rattle.journal_laws.specs.Example.{IsQuiet, alone}
use Rattle.journal_laws.specs.Reopened.{
  TellsIt,
  WasToldDeleted,
  again,
  cancelled,
  deleted_vote,
  following_ballot,
  last_slot,
  next_slot,
  none_lost,
  none_new,
  reopened,
  submitted,
  telling_ballot,
  telling_vote,
  told_anew,
}
use Rattle.journal_laws.proofs.Worked.{happens as happened_before, one_of, setup}

-- ---- what happened before

permitted_taken : IsPermitted first_id taken
permitted_taken = record { node = refl; incarnation = refl; expiry = omega arith; schedule = omega arith }

permitted_deleted : IsPermitted first_id deleted
permitted_deleted = (permitted_taken, (omega arith, record {}))

permitted_told : IsPermitted first_id told_anew
permitted_told = (permitted_deleted, (omega arith, record { node = refl; asked = inl refl }))

was_submitted : MayHappen alone submitted
was_submitted = (
  one_of,
  refl,
  permitted_taken,
  inl refl,
  (
    one_of,
    refl,
    (refl, omega arith),
    inl refl,
    (one_of, refl, record {}, inl refl, (one_of, refl, record {}, inl refl, happened_before)),
  ),
)

happens : MayHappen alone cancelled
happens = (
  one_of,
  refl,
  permitted_deleted,
  inl refl,
  (
    one_of,
    refl,
    (refl, omega arith),
    inl refl,
    (
      one_of,
      refl,
      record {},
      inl refl,
      (
        one_of,
        refl,
        record {},
        inl refl,
        (
          one_of,
          refl,
          omega arith,
          inl refl,
          (one_of, refl, record {}, inl refl, (one_of, refl, (refl, record {}), record {}, was_submitted)),
        ),
      ),
    ),
  ),
)

-- ---- what the node does then

abbrev then : Kept → Input → Kept
then k input = (stepped setup k input).kept

pub told_deleted : WasToldDeleted
told_deleted = record { outputs = _; given = inl refl; told = inl refl }

abbrev opened : Kept
opened = kept_opened alone cancelled none_new none_lost 1

is_one : (node : ℕ) → IsInRange alone node → 1 ≡ node
is_one node one = omega (arith, one.0, one.1)

left : AreLeft alone cancelled none_new none_lost
left = record {
  few = omega arith;
  may = happens;
  untouched = λ node input fresh came. absurd cc;
  within = λ node one fresh.
      subst (λ (n : ℕ). ((kept_reached alone cancelled).kept n).incarnation + none_lost n < 9999) (is_one node one) (omega arith);
}

module _ (quiet : ℕ → Given) (is : IsQuiet quiet) (telling : Given) (tells : TellsIt telling) (reach : Reach) where
  abbrev ticked : Kept
  ticked = then opened (Tick midnight (reach_of reach))

  abbrev promised : Kept
  promised = then ticked (Delivery (Prepare 1 next_slot following_ballot))

  abbrev proposed : Kept
  proposed = then promised (Delivery (Promise 1 next_slot following_ballot (Some deleted_vote)))

  abbrev voted : Kept
  voted = then proposed (Delivery (Propose 1 next_slot again))

  abbrev known : Kept
  known = then voted (Delivery (Voted 1 next_slot again))

  abbrev promised_last : Kept
  promised_last = then known (Delivery (Prepare 1 last_slot telling_ballot))

  abbrev proposed_last : Kept
  proposed_last = then promised_last (Delivery (Promise 1 last_slot telling_ballot None))

  abbrev voted_last : Kept
  voted_last = then proposed_last (Delivery (Propose 1 last_slot telling_vote))

  abbrev pub at_last : Kept
  at_last = then voted_last (Delivery (Voted 1 last_slot telling_vote))

  gave : (count : ℕ) (packets : List Packet) → record nothing { packets = packets } ≡ record (given_out (quiet count)) { packets = packets }
  gave count packets = ap (λ (o : Outputs). record o { packets = packets }) (sym (is count).0)

  own_run : IsOwnRun setup opened (done_in (entries_at 1 (reopened quiet telling reach))) at_last
  unfolding has_record
  own_run = (
    record { input = Tick midnight (reach_of reach); comes = refl; up = refl; may = record {}; gives = gave 1 _; count = (is 1).1 },
    (
      record { input = Delivery (Prepare 1 next_slot following_ballot); comes = refl; up = refl; may = record {}; gives = gave 1 _; count = (is 1).1 },
      (
        record { input = Delivery (Promise 1 next_slot following_ballot (Some deleted_vote)); comes = refl; up = refl; may = record {}; gives = gave 1 _; count = (is 1).1 },
        (
          record { input = Delivery (Propose 1 next_slot again); comes = refl; up = refl; may = (refl, omega arith); gives = gave 1 _; count = (is 1).1 },
          (
            record { input = Delivery (Voted 1 next_slot again); comes = refl; up = refl; may = permitted_deleted; gives = gave 1 _; count = (is 1).1 },
            (
              record { input = Delivery (Prepare 1 last_slot telling_ballot); comes = refl; up = refl; may = record {}; gives = gave 1 _; count = (is 1).1 },
              (
                record { input = Delivery (Promise 1 last_slot telling_ballot None); comes = refl; up = refl; may = record {}; gives = gave 1 _; count = (is 1).1 },
                (
                  record { input = Delivery (Propose 1 last_slot telling_vote); comes = refl; up = refl; may = (refl, omega arith); gives = gave 1 _; count = (is 1).1 },
                  (
                    record {
                      input = Delivery (Voted 1 last_slot telling_vote);
                      comes = refl;
                      up = refl;
                      may = permitted_told;
                      gives = ap (λ (o : Outputs). record o { packets = [] }) (sym tells.gives);
                      count = tells.sends;
                    },
                    refl,
                  ),
                ),
              ),
            ),
          ),
        ),
      ),
    ),
  )

  were_sent : WereSent 0 [] (done_in (reopened quiet telling reach))
  were_sent = (
    record {},
    (
      (omega arith, record { newer = []; older = _; split = refl; number_is = refl }),
      (
        (omega arith, record { newer = []; older = _; split = refl; number_is = refl }),
        (
          (omega arith, record { newer = []; older = _; split = refl; number_is = refl }),
          (
            (omega arith, record { newer = []; older = _; split = refl; number_is = refl }),
            (
              (omega arith, record { newer = []; older = _; split = refl; number_is = refl }),
              (
                (omega arith, record { newer = []; older = _; split = refl; number_is = refl }),
                (
                  (omega arith, record { newer = []; older = _; split = refl; number_is = refl }),
                  ((omega arith, record { newer = []; older = _; split = refl; number_is = refl }), record {}),
                ),
              ),
            ),
          ),
        ),
      ),
    ),
  )

  in_node : (entry first : Entry) → entry ≡ first → node_at first.done.step ≡ 1 → IsInRange alone (node_at entry.done.step)
  in_node entry first same one = subst (λ (e : Entry). IsInRange alone (node_at e.done.step)) (sym same) (subst (IsInRange alone) (sym one) (omega arith, omega arith))

  in_range : (entry : Entry) → In entry (reopened quiet telling reach) → IsInRange alone (node_at entry.done.step)
  in_range entry (inl same) = in_node entry _ same refl
  in_range entry (inr (inl same)) = in_node entry _ same refl
  in_range entry (inr (inr (inl same))) = in_node entry _ same refl
  in_range entry (inr (inr (inr (inl same)))) = in_node entry _ same refl
  in_range entry (inr (inr (inr (inr (inl same))))) = in_node entry _ same refl
  in_range entry (inr (inr (inr (inr (inr (inl same)))))) = in_node entry _ same refl
  in_range entry (inr (inr (inr (inr (inr (inr (inl same))))))) = in_node entry _ same refl
  in_range entry (inr (inr (inr (inr (inr (inr (inr (inl same)))))))) = in_node entry _ same refl
  in_range entry (inr (inr (inr (inr (inr (inr (inr (inr (inl same))))))))) = in_node entry _ same refl
  in_range entry (inr (inr (inr (inr (inr (inr (inr (inr (inr none))))))))) = absurd none

  pub is_journal : IsJournalOver alone cancelled none_new none_lost (reopened quiet telling reach) (λ node. at_last)
  is_journal = record {
    left = left;
    nodes = in_range;
    own = λ node one.
        subst
        (λ (n : ℕ). IsOwnRun (setup_of alone n) (kept_opened alone cancelled none_new none_lost n) (done_in (entries_at n (reopened quiet telling reach))) at_last)
        (is_one node one)
        own_run;
    sent = were_sent;
  }
