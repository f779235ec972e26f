-- What opens over a store, as an event of a node.
use Rattle.std.proofs.Common.{◌≡◌, ℕ, ◌≤◌, true, false, List, [], ◌∷◌, ◌++◌, refl, sym, subst, inl, inr}
use Rattle.std.proofs.Math.Path.{fun_ext}
use Rattle.mc_model.specs.synod.Acceptor.{Records}
use Rattle.stable_store.specs.Stored.{AreSame, Stored}
use Rattle.node_core.specs.Keeping.{kept_of}
use Rattle.node_core.specs.declared.life.Life.{Life}
use Rattle.node_core.specs.Nodes.{HasOpened, Standing, records_in}
use Rattle.node_core.specs.Restarts.{next_life}
use Rattle.node_runs.specs.Runs.{AreOneRun, Event, Happens, HasStarted, IsNext, IsWorking, StartsAsOpened, StopsAsOpened, last_in, last_incarnation}

working : {S : Type 0} (old new : Standing S) (lost : ℕ) → IsNext old lost new → IsWorking old
working old new lost next = record { works = next.works; lists = next.lists }

started : {S : Type 0} (old new : Standing S) (life : Life) (lost : ℕ) (records : Records) → IsNext old lost new →
    HasOpened old.kept.setup (records_in new.kept) new.kept.incarnation new life → AreSame (records_in new.kept) records → HasStarted records old lost new
started old new life lost records next opened same = record {
  life = life;
  within = subst (λ (n : ℕ). n ≤ last_incarnation) next.next next.within;
  opened = subst (λ (rs : Records). HasOpened old.kept.setup rs (next_life (kept_of old.kept) lost) new life) (fun_ext same.each)
      (subst (λ (n : ℕ). HasOpened old.kept.setup (records_in new.kept) n new life) next.next opened);
}

pub starts_as_opened : {S : Type 0} (stored : S → Stored) →
    ((s : S) (records left : Records) → (stored s).holds records → (stored s).may_hold left → AreSame left records) → StartsAsOpened stored
starts_as_opened stored settled old new before life lost next holds leaves over doubt = (
  working old new lost next,
  started old new life lost (kept_of old.kept).records next over.opened
      (settled old.store (kept_of old.kept).records (records_in new.kept) holds (leaves (records_in new.kept) (over.found.found doubt))),
)

pub stops_as_opened : {S : Type 0} (stored : S → Stored) → StopsAsOpened stored
stops_as_opened stored old halted new before packet life lost next well has_stopped leaves over doubt =
    elim (has_stopped.found (records_in new.kept) (leaves (records_in new.kept) (over.found.found doubt))) [
      | inl was ↦ (false, (working old new lost next, well, started old new life lost _ next over.opened was))
      | inr done ↦ (true, (working old new lost next, well, started old new life lost _ next over.opened done))
    ]

-- ---- two runs that are one

last_is : {S : Type 0} (first again : Standing S) (earlier later : List (Event × Standing S)) (event : Event) →
    last_in first (later ++ (event, again) ∷ earlier) ≡ last_in again later
last_is first again earlier [] event = refl
last_is first again earlier (newest ∷ older) event = refl

pub one_run : {S : Type 0} → AreOneRun S
one_run first again earlier [] event before happens after = (happens, before)
one_run first again earlier (newest ∷ older) event before happens after = (
  subst (λ (last : Standing _). Happens last newest.0 newest.1) (sym (last_is first again earlier older event)) after.0,
  one_run first again earlier older event before happens after.1,
)
