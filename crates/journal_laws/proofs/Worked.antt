-- The worked journal is one.
use Rattle.std.proofs.Common.{◌≡◌, ℕ, true, List, [], ◌∷◌, refl, sym, ap, subst, inl, inr, arith}
use Rattle.mc_model.specs.synod.Packet.{Packet}
use Rattle.mc_model.specs.synod.Lists.{In}
use Rattle.mc_model.specs.node.Input.{Crash, Delivery, Input, Restart, Tick}
use Rattle.mc_model.specs.node.Outputs.{Outputs}
use Rattle.mc_model.specs.node.Setup.{Setup}
use Rattle.mc_model.specs.cluster.Steps.{setup_of}
use Rattle.mc_parts.specs.FirstMessage.{first_id, message, midnight}
use Rattle.node_model.specs.Kept.{Kept}
use Rattle.node_model.specs.Outputs.{nothing}
use Rattle.node_model.specs.Stepped.{stepped}
use Rattle.node_laws.specs.Clusters.{MayHappen, comes_to, kept_reached}
use Rattle.node_laws.specs.Examples.{none_up}
use Rattle.node_laws.specs.Runs.{IsNextMessage, IsOneOf}
use Rattle.world_runs.specs.Given.{Given}
use Rattle.world_runs.specs.Runs.{given_out}
use Rattle.world_runs.specs.Taking.{node_at}
use Rattle.journal_laws.specs.Journals.{Entry, IsInRange, IsJournal, IsOwnRun, WereSent, done_in, entries_at}
use Rattle.journal_laws.specs.Example.{IsQuiet, alone, before, prepare, promise, propose, refused, worked}

abbrev pub setup : Setup
setup = setup_of alone 1

abbrev then : Kept → Input → Kept
then k input = (stepped setup k input).kept

-- before the submit_sm comes
abbrev ticked : Kept
ticked = (kept_reached alone (comes_to 1 (Tick midnight none_up) ∷ [])).kept 1

abbrev at_first : Kept
at_first = (kept_reached alone before).kept 1

abbrev promised : Kept
promised = then at_first (Delivery prepare)

abbrev proposed : Kept
proposed = then promised (Delivery promise)

abbrev halted : Kept
halted = then proposed (Crash propose true)

abbrev anew : Kept
anew = then halted (Restart 0)

abbrev pub at_last : Kept
at_last = then anew (Delivery prepare)

pub one_of : IsOneOf setup
one_of = record { least = omega arith; most = omega arith; few = omega arith }

next_message : IsNextMessage setup ticked first_id message
next_message = record {
  serial = record { least = omega arith; most = omega arith };
  id_is = refl;
  takes = record { node = refl; incarnation = refl; expiry = omega arith; schedule = omega arith };
}

pub happens : MayHappen alone before
happens = (
  one_of,
  refl,
  (refl, next_message),
  record {},
  (one_of, refl, record {}, record {}, record {}),
)

module _ (quiet : ℕ → Given) (is : IsQuiet quiet) where
  gave : (count : ℕ) (packets : List Packet) → record nothing { packets = packets } ≡ record (given_out (quiet count)) { packets = packets }
  gave count packets = ap (λ (o : Outputs). record o { packets = packets }) (sym (is count).0)

  own_run : IsOwnRun setup at_first (done_in (entries_at 1 (worked quiet))) at_last
  own_run = (
    record { input = Delivery prepare; comes = refl; up = refl; may = record {}; gives = gave 1 (promise ∷ []); count = (is 1).1 },
    (
      record { input = Delivery promise; comes = refl; up = refl; may = record {}; gives = gave 1 (propose ∷ []); count = (is 1).1 },
      (
        record { input = Crash propose true; comes = refl; up = refl; may = (refl, omega arith); gives = gave 0 []; count = (is 0).1 },
        (
          record { input = Restart 0; comes = (0, refl); up = record {}; may = omega arith; gives = gave 0 []; count = (is 0).1 },
          (record { input = Delivery prepare; comes = refl; up = refl; may = record {}; gives = gave 1 (refused ∷ []); count = (is 1).1 }, refl),
        ),
      ),
    ),
  )

  were_sent : WereSent 0 (kept_reached alone before).packets (done_in (worked quiet))
  were_sent = (
    (omega arith, record { newer = []; older = []; split = refl; number_is = refl }),
    (
      (omega arith, record { newer = []; older = prepare ∷ []; split = refl; number_is = refl }),
      (
        (omega arith, record { newer = []; older = promise ∷ prepare ∷ []; split = refl; number_is = refl }),
        (record {}, ((omega arith, record { newer = propose ∷ promise ∷ []; older = []; split = refl; number_is = refl }), record {})),
      ),
    ),
  )

  in_range : (entry : Entry) → In entry (worked quiet) → IsInRange alone (node_at entry.done.step)
  in_range entry (inl same) = subst (λ (e : Entry). IsInRange alone (node_at e.done.step)) (sym same) (omega arith, omega arith)
  in_range entry (inr (inl same)) = subst (λ (e : Entry). IsInRange alone (node_at e.done.step)) (sym same) (omega arith, omega arith)
  in_range entry (inr (inr (inl same))) = subst (λ (e : Entry). IsInRange alone (node_at e.done.step)) (sym same) (omega arith, omega arith)
  in_range entry (inr (inr (inr (inl same)))) = subst (λ (e : Entry). IsInRange alone (node_at e.done.step)) (sym same) (omega arith, omega arith)
  in_range entry (inr (inr (inr (inr none)))) = absurd none

  pub is_journal : IsJournal alone [] before (worked quiet) (λ node. at_last)
  is_journal = record {
    few = omega arith;
    may = happens;
    nodes = in_range;
    own = λ node one.
        let same : 1 ≡ node = omega (arith, one.0, one.1) in
        subst (λ (n : ℕ). IsOwnRun (setup_of alone n) ((kept_reached alone before).kept n) (done_in (entries_at n (worked quiet))) at_last) same own_run;
    sent = were_sent;
  }
