-- A list of steps, one after the other.
use Rattle.std.specs.Prelude.{drop, map}
use Rattle.std.proofs.Common.{◌≡◌, ℕ, ◌+◌, ◌≤◌, true, List, [], ◌∷◌, ◌++◌, length, Ok, Err, refl, sym, ap, subst, ◌∙◌, inl, inr, arith}
use Rattle.std.proofs.Common.{append_assoc, length-append}
use Rattle.mc_model.specs.synod.Packet.{Packet}
use Rattle.mc_model.specs.cluster.Steps.{Cluster}
use Rattle.mc_model.specs.node.Input.{Restart}
use Rattle.node_laws.specs.Clusters.{KeptCluster, NodeInput, comes_to, kept_reached}
use Rattle.synod_acceptor.specs.Packets.{packet_of}
use Rattle.world.specs.Step.{Step}
use Rattle.world.specs.Runs.{Comes, IsAt, IsSomewhere, Leads, LosesNone}
use Rattle.world.specs.Scenes.{Scene}
use Rattle.world_runs.specs.Histories.{BecomesBy, History, numbered_by}
use Rattle.world_runs.specs.Tellings.{AllReceiptsStand, CancelsAreDeletions, GrantsNoneAfterACancel, IdsAreNotRefusedAtOnce}
use Rattle.world_runs.specs.Traces.{AcceptedAreKnown, Answer, AreChosen, AreCopies, DeliveriesStand, DeliveriesStandInRuns, Event, GoesTo}
use Rattle.world_runs.specs.Traces.{GrantsNoneAfterAFate, HasOneFate, HasOneReceipt, LaterQueriesAreTold, LeadsAll, Tried, answers_in, events_of}
use Rattle.world_runs.proofs.Coming.{started_by_step}
use Rattle.world_runs.proofs.Copying.{becomes_of, copies_count}
use Rattle.world_runs.proofs.Linking.{accepted_known, chosen_all, deliveries_stand_in, goes_on_by, grants_none_after, has_one_fate, has_one_receipt}
use Rattle.world_runs.proofs.Linking.{cancelled_stay, cancels_delete_all, ids_known, later_queries_told, receipts_stand_all}
use Rattle.world_runs.proofs.Standing.{deliveries_stand_in_run}

-- ---- steps with their answers, as events

events_more : (steps : List Step) (answers : List Answer) (step : Step) (answer : Answer) → length answers ≡ length steps →
    events_of (steps ++ step ∷ []) (answers ++ answer ∷ []) ≡ events_of steps answers ++ Tried step answer ∷ []
events_more [] [] step answer count = refl
events_more [] (first ∷ answers) step answer count = absurd (omega (arith, count))
events_more (next ∷ steps) [] step answer count = absurd (omega (arith, count))
events_more (next ∷ steps) (first ∷ answers) step answer count =
    ap (λ (events : List Event). Tried next first ∷ events) (events_more steps answers step answer (omega (arith, count)))

answers_are : (steps : List Step) (answers : List Answer) → length answers ≡ length steps → answers_in (events_of steps answers) ≡ answers
answers_are [] [] count = refl
answers_are [] (first ∷ answers) count = absurd (omega (arith, count))
answers_are (next ∷ steps) [] count = absurd (omega (arith, count))
answers_are (next ∷ steps) (first ∷ answers) count = ap (λ (later : List Answer). first ∷ later) (answers_are steps answers (omega (arith, count)))

module _ (cluster : Cluster) (behind : List Packet) where
  -- one that started anew by this step did not
  loses_none : (w : KeptCluster) (step : Step) (next : NodeInput) (node lost : ℕ) → Comes cluster (length behind) w step next → LosesNone step next →
      comes_to node (Restart lost) ≡ next → lost ≡ 0
  loses_none w step next node lost comes loses same =
      let starts = started_by_step cluster (length behind) w node lost step (subst (Comes cluster (length behind) w step) (sym same) comes) in
      let now : next ≡ comes_to node (Restart 0) = subst (λ (s : Step). LosesNone s next) starts loses in
      let inputs : Restart lost ≡ Restart 0 = ap (λ (x : NodeInput). x.input) (same ∙ now) in
      cc

  goes_to : (inputs : List NodeInput) (old : Scene) (steps : List Step) (answers : List Answer) (new : Scene) → length answers ≡ length steps →
      BecomesBy old (events_of steps answers) new → IsAt cluster behind inputs old → GoesTo cluster behind inputs steps answers new
  goes_to inputs old [] [] new count same at = record {
    last = inputs;
    reaches = refl;
    loses = λ node lost among. inl among;
    at = subst (IsAt cluster behind inputs) (sym same) at;
  }
  goes_to inputs old [] (first ∷ answers) new count way at = absurd (omega (arith, count))
  goes_to inputs old (step ∷ steps) [] new count way at = absurd (omega (arith, count))
  goes_to inputs old (step ∷ steps) (Ok given ∷ answers) new count way at =
      let goes = way.1.each cluster behind inputs at in
      let on = goes_to (goes.next ∷ inputs) way.0 steps answers new (omega (arith, count)) way.2 goes.at in
      record {
        last = on.last;
        reaches = (goes.next, goes.allowed, goes.comes, goes.gives, on.reaches);
        loses = λ node lost among. elim (on.loses node lost among) [
          | inl before ↦ (elim before [
            | inl here ↦ inr (loses_none (kept_reached cluster inputs) step goes.next node lost goes.comes goes.loses here)
            | inr older ↦ inl older
          ])
          | inr none ↦ inr none
        ];
        at = on.at;
      }
  goes_to inputs old (step ∷ steps) (Err fault ∷ answers) new count way at =
      let stays = way.1.each cluster behind inputs at in
      let on = goes_to inputs way.0 steps answers new (omega (arith, count)) way.2 stays.at in
      record { last = on.last; reaches = (stays.refused, on.reaches); loses = on.loses; at = on.at }

-- ---- so far

-- of these steps some are done, with these answers, and there is room for the others'
pub record IsUnderWay (old : Scene) (steps left : List Step) (answers : List Answer) (room : ℕ) (now : Scene) : Type 0 where
  pub done : List Step
  pub split : steps ≡ done ++ left
  pub count : length answers ≡ length done
  pub room_is : length steps ≤ room
  pub becomes : BecomesBy old (events_of done answers) now

pub goes_on : (old mid new : Scene) (steps left rest : List Step) (answers more : List Answer) (step : Step) (answer : Answer) (room wider : ℕ) →
    IsUnderWay old steps left answers room mid → left ≡ step ∷ rest → Leads mid step answer new → more ≡ answers ++ answer ∷ [] → room ≤ wider →
    IsUnderWay old steps rest more wider new
goes_on old mid new steps left rest answers more step answer room wider way first one pushed wide = record {
  done = way.done ++ step ∷ [];
  split = way.split ∙ ap (λ (ss : List Step). way.done ++ ss) first ∙ sym (append_assoc way.done (step ∷ []) rest);
  count = let longer = length-append answers (answer ∷ []) in let further = length-append way.done (step ∷ []) in let so_far = way.count in
      let all = ap length pushed in omega arith;
  room_is = let fits = way.room_is in omega arith;
  becomes = subst (λ (events : List Event). BecomesBy old events new)
      (sym (events_more way.done answers step answer way.count)
      ∙ ap (events_of (way.done ++ step ∷ [])) (sym pushed))
      (goes_on_by old mid new (events_of way.done answers) (Tried step answer ∷ []) way.becomes (new, one, refl));
}

-- there is room for one answer more
pub has_room : (old mid : Scene) (steps left rest : List Step) (answers : List Answer) (step : Step) (room : ℕ) →
    IsUnderWay old steps left answers room mid → left ≡ step ∷ rest →
    length answers + 1 ≤ room
has_room old mid steps left rest answers step room way first =
    let all = ap length (way.split ∙ ap (λ (ss : List Step). way.done ++ ss) first) in
    let parts = length-append way.done (step ∷ rest) in
    let so_far = way.count in
    let fits = way.room_is in
    omega arith

append_none : (xs : List Step) → xs ++ [] ≡ xs
append_none [] = refl
append_none (x ∷ xs) = ap (λ (ys : List Step). x ∷ ys) (append_none xs)

-- ---- at the end

-- all are done
pub record AreDone (old : Scene) (steps : List Step) (answers : List Answer) (new : Scene) : Type 0 where
  pub count : length answers ≡ length steps
  pub becomes : BecomesBy old (events_of steps answers) new

-- nothing is left if nothing leaves at the front
none_left : (left rest : List Step) → left ≡ rest → rest ≡ drop 1 left → left ≡ []
none_left [] rest same dropped = refl
none_left (step ∷ left) rest same dropped = let long = ap length (same ∙ dropped) in absurd (omega (arith, long))

pub all_done : (old now : Scene) (given steps left rest : List Step) (answers : List Answer) (room : ℕ) → steps ≡ given →
    IsUnderWay old steps left answers room now → left ≡ rest → rest ≡ drop 1 left → AreDone old given answers now
all_done old now given steps left rest answers room same way kept dropped =
    let none = none_left left rest kept dropped in
    let done : way.done ≡ given = sym (way.split ∙ ap (λ (ss : List Step). way.done ++ ss) none ∙ append_none way.done) ∙ same in
    record {
      count = way.count ∙ ap length done;
      becomes = subst (λ (ss : List Step). BecomesBy old (events_of ss answers) now) done way.becomes;
    }

-- also those of which they are copies
pub done_of : (old now : Scene) (given steps : List Step) (answers : List Answer) → AreCopies given steps → AreDone old steps answers now →
    AreDone old given answers now
done_of old now given steps answers are done =
    record { count = done.count ∙ copies_count given steps are; becomes = becomes_of old given steps answers now are done.becomes }

pub leads_all : (old new : Scene) (steps : List Step) (answers : List Answer) → AreDone old steps answers new → LeadsAll old steps answers new
leads_all old new steps answers all =
    record { each = λ cluster behind inputs at. goes_to cluster behind inputs old steps answers new all.count all.becomes at }

pub stand_in_runs : (old new : Scene) (steps : List Step) (answers : List Answer) → AreDone old steps answers new →
    DeliveriesStandInRuns old steps answers
stand_in_runs old new steps answers all cluster behind inputs now =
    let so = goes_to cluster behind inputs old steps answers new all.count all.becomes now in
    deliveries_stand_in_run cluster behind inputs steps answers so.last so.reaches so.loses so.at.may

-- by steps alone the world goes on with its numbers
all_numbered : (old new : Scene) (steps : List Step) (answers : List Answer) → length answers ≡ length steps →
    (way : BecomesBy old (events_of steps answers) new) → numbered_by old (events_of steps answers) new way ≡ map packet_of new.packets
all_numbered old new [] [] count way = refl
all_numbered old new [] (first ∷ answers) count way = absurd (omega (arith, count))
all_numbered old new (step ∷ steps) [] count way = absurd (omega (arith, count))
all_numbered old new (step ∷ steps) (first ∷ answers) count way = all_numbered way.0 new steps answers (omega (arith, count)) way.2

module _ (old new : Scene) (steps : List Step) (answers : List Answer) (is : IsSomewhere old) (all : AreDone old steps answers new) where
  abbrev history : History
  history = record { first = old; stands = is; events = events_of steps answers; last = new; becomes = all.becomes }

  pub one_fate_of : HasOneFate answers
  one_fate_of = subst HasOneFate (answers_are steps answers all.count) (has_one_fate history)

  pub one_receipt_of : HasOneReceipt answers
  one_receipt_of = subst HasOneReceipt (answers_are steps answers all.count) (has_one_receipt history)

  pub no_grant_of : GrantsNoneAfterAFate answers
  no_grant_of = subst GrantsNoneAfterAFate (answers_are steps answers all.count) (grants_none_after history)

  pub stands_of : old.fresh ≡ true → DeliveriesStand (events_of steps answers)
  stands_of = deliveries_stand_in history

  pub later_of : LaterQueriesAreTold (events_of steps answers)
  later_of = later_queries_told history

  pub known_of : AcceptedAreKnown (events_of steps answers)
  known_of = accepted_known history

  pub cancels_of : CancelsAreDeletions answers
  cancels_of = subst CancelsAreDeletions (answers_are steps answers all.count) (cancels_delete_all history)

  pub cancelled_of : GrantsNoneAfterACancel answers
  cancelled_of = subst GrantsNoneAfterACancel (answers_are steps answers all.count) (cancelled_stay history)

  pub receipts_of : AllReceiptsStand (events_of steps answers)
  receipts_of = receipts_stand_all history

  pub at_once_of : IdsAreNotRefusedAtOnce (events_of steps answers)
  at_once_of = ids_known history

  pub chosen_of : old.fresh ≡ true → AreChosen (length new.members) (map packet_of new.packets) answers
  chosen_of fresh =
      subst (AreChosen (length new.members) (map packet_of new.packets)) (answers_are steps answers all.count)
      (subst (λ (packets : List Packet). AreChosen (length new.members) packets (answers_in (events_of steps answers)))
      (all_numbered old new steps answers all.count all.becomes) (chosen_all history fresh))
