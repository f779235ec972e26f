-- A node that is opened again, and its own entries.
use Rattle.std.proofs.Common.{◌≡◌, ℕ, false, List, [], ◌∷◌, ◌++◌, Option, Some, None}
use Rattle.std.proofs.Common.{IfSome, refl, sym, ap, subst, ◌∙◌, inl, inr, arith, append-nil}
use Rattle.std.specs.Prelude.{map, option_map}
use Rattle.mc_model.specs.synod.Lists.{In}
use Rattle.mc_model.specs.node.Setup.{Setup}
use Rattle.mc_model.specs.cluster.Steps.{Cluster, setup_of}
use Rattle.mc_parts.proofs.Membership.{in_either}
use Rattle.node_model.specs.Kept.{Kept}
use Rattle.node_model.specs.Outputs.{nothing}
use Rattle.node_laws.specs.Steps.{IsWellMade}
use Rattle.stable_store.specs.Stored.{Stored}
use Rattle.synod_acceptor.specs.Packets.{packet_of}
use Rattle.synod_acceptor.specs.declared.packet.Packet.{Packet}
use Rattle.world.specs.declared.given.Given.{Given}
use Rattle.node_entry.specs.declared.step.Step.TheVariants as steps
use Rattle.world.specs.Runs.{IsGiven}
use Rattle.node_entry.specs.Taking.{node_at}
use Rattle.node_core.specs.Keeping.{kept_of}
use Rattle.node_core.specs.Stopped.{Stopped}
use Rattle.node_core.specs.Stops.{IsTold}
use Rattle.node_core.specs.Nodes.{Standing, records_in}
use Rattle.node_core.specs.declared.life.Life.{Life}
use Rattle.journal_laws.specs.Journals.{Done, Entry, IsInRange, IsOwnRun, Unfinished, done_in, steps_for}
use Rattle.journal_laws.specs.Taken.{IsReopened, started_anew}
use Rattle.journal_laws.proofs.Taken.{starts_anew, stops_and_starts_anew}
use Rattle.journal_laws.proofs.Growing.{entry_more}
use Rattle.journal_parts.specs.declared.done.Done.{Done as Taken}
use Rattle.journal_parts.specs.Entries.{GivesNothing, NamesASave, done_of}
use Rattle.journal_parts.specs.Members.{IsMember, Posted, Reopens, packet_halted, save_by}

-- ---- the steps of a start anew

module _ {S : Type 0} (stored : S → Stored) (old new : Standing S) (life : Life) (is : IsReopened stored old new life) (given : Given)
    (gives : IsGiven given nothing) where
  StepsAnew : Option Packet → Option Unfinished → Type 0
  StepsAnew packet save =
      IsOwnRun old.kept.setup (kept_of old.kept) (steps_for (started_anew old.kept.setup.node given (option_map packet_of packet)) save) (kept_of new.kept)

  told : IsTold old.kept (records_in new.kept) old.unfinished new.stopped
  told = is.told is.undoubted

  -- no save failed
  by_none : old.unfinished ≡ None → new.stopped ≡ None
  by_none none = subst (λ (p : Option Packet). IsTold old.kept (records_in new.kept) p new.stopped) none told

  anew_by : (halted : Option (ℕ × Option Packet)) (stopped : Option Stopped) → old.unfinished ≡ packet_halted halted → new.stopped ≡ stopped →
      IfSome (packet_halted halted) (λ packet. IsWellMade (packet_of packet)) → StepsAnew (packet_halted halted) (save_by halted stopped)
  unfolding StepsAnew
  anew_by None stopped unfinished is_stopped well = starts_anew stored old new life is given (by_none unfinished) gives
  anew_by (Some (number, None)) None unfinished is_stopped well = starts_anew stored old new life is given (by_none unfinished) gives
  anew_by (Some (number, None)) (Some tells) unfinished is_stopped well = let none = by_none unfinished in absurd (cc)
  anew_by (Some (number, Some packet)) None unfinished is_stopped well =
      absurd (subst (λ (t : Option Stopped). IsTold old.kept (records_in new.kept) (Some packet) t) is_stopped
      (subst (λ (p : Option Packet). IsTold old.kept (records_in new.kept) p new.stopped) unfinished told))
  anew_by (Some (number, Some packet)) (Some tells) unfinished is_stopped well =
      let so = subst (λ (t : Option Stopped). IsTold old.kept (records_in new.kept) (Some packet) t) is_stopped
      (subst (λ (p : Option Packet). IsTold old.kept (records_in new.kept) p new.stopped) unfinished told) in
      subst (λ (p : Packet). StepsAnew (Some p) (Some (record { number = number; found = tells.found }))) so.is
      (stops_and_starts_anew stored old new life is tells is_stopped given number
      (subst (λ (p : Packet). IsWellMade (packet_of p)) (sym so.is) well) gives)

  pub anew : (halted : Option (ℕ × Option Packet)) → old.unfinished ≡ packet_halted halted →
      IfSome (packet_halted halted) (λ packet. IsWellMade (packet_of packet)) →
      IsOwnRun old.kept.setup (kept_of old.kept)
      (steps_for (started_anew old.kept.setup.node given (option_map packet_of (packet_halted halted))) (save_by halted new.stopped)) (kept_of new.kept)
  unfolding StepsAnew
  anew halted unfinished well = anew_by halted new.stopped unfinished refl well

-- ---- a member

-- the step of a start anew as it stands in the journal
anew_is : (node : ℕ) (packet : Option Packet) (done : Taken) → done.step ≡ steps.Restart node → done.packet ≡ packet → GivesNothing done →
    started_anew node (done_of done).given (option_map packet_of packet) ≡ done_of done
anew_is node packet done step came quiet = λ i. record {
  step = sym step i;
  packet = option_map packet_of (sym came i);
  given = (done_of done).given;
  sent = map packet_of (sym quiet.sent i);
}

pub names_so : (done : Taken) (node : ℕ) → done.step ≡ steps.Restart node → GivesNothing done → (save : Option Unfinished) → NamesASave (done_of done) save
names_so done node step quiet None = record {}
names_so done node step quiet (Some save) = (node, step, ap (map packet_of) quiet.sent)

module _ {S : Type 0} (stored : S → Stored) (cluster : Cluster) (kept : ℕ → Kept) where
  -- It started anew, and the entry of that stands behind its own.
  pub member_anew : (old new : Posted S) (own : List Entry) (done : Taken) (save : Option Unfinished) → IsMember stored cluster kept old own →
      old.astray ≡ false → done.step ≡ steps.Restart old.node.kept.setup.node → done.packet ≡ packet_halted old.halted → GivesNothing done →
      Reopens stored old save new → IsMember stored cluster kept new (own ++ record { done = done_of done; unfinished = save } ∷ [])
  member_anew old new own done save member sound step packet quiet opened = record {
    within = subst (λ (s : Setup). IsInRange cluster s.node) (sym opened.setup) member.within;
    setup = subst (λ (s : Setup). s ≡ setup_of cluster s.node) (sym opened.setup) member.setup;
    entries = λ one among. elim (in_either one own (entry ∷ []) among) [
      | inl here ↦ member.entries one here ∙ ap (λ (s : Setup). s.node) (sym opened.setup)
      | inr last ↦ at_last one last
    ];
    halts = opened.unfinished ∙ ap packet_halted (sym opened.halted);
    ends = kept_of new.node.kept;
    runs = λ none.
        let before = member.runs (omega (arith, none, opened.doubt)) in
        let steps = opened.runs none (done_of done).given quiet.given in
        subst (λ (s : Setup). IsOwnRun s (kept s.node) (done_in (own ++ entry ∷ [])) (kept_of new.node.kept)) (sym opened.setup)
        (entry_more setup (kept setup.node) (kept_of old.node.kept) (kept_of new.node.kept) own entry
        (subst (λ (k : Kept). IsOwnRun setup (kept setup.node) (done_in own) k) (member.is_end sound) before)
        (subst (λ (ds : List Done). IsOwnRun setup (kept_of old.node.kept) ds (kept_of new.node.kept)) (sym (append-nil (steps_for (done_of done) save)))
        (subst (λ (d : Done). IsOwnRun setup (kept_of old.node.kept) (steps_for d save) (kept_of new.node.kept))
        (anew_is setup.node (packet_halted old.halted) done step packet quiet) steps)));
    is_end = λ still. refl;
  }
    where
      setup : Setup
      setup = old.node.kept.setup

      entry : Entry
      entry = record { done = done_of done; unfinished = save }

      at_last : (one : Entry) → In one (entry ∷ []) → node_at one.done.step ≡ new.node.kept.setup.node
      at_last one (inl here) =
          ap (λ (e : Entry). node_at e.done.step) here ∙ ap node_at step ∙ ap (λ (s : Setup). s.node) (sym opened.setup)
      at_last one (inr none) = absurd none
