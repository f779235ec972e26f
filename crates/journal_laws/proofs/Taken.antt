-- What a node of the code did is of its own run: a step, a start anew, and a stop before it.
use Rattle.std.proofs.Common.{◌≡◌, ℕ, suc, ◌+◌, ◌-◌, ◌<◌, true, [], Option, Some, None, Result, Ok, Err, refl, sym, ap, subst, ◌∙◌, arith}
use Rattle.std.proofs.lemmas.List.{length-map}
use Rattle.mc_model.specs.synod.Packet.{Packet}
use Rattle.mc_model.specs.node.Actor.{Request}
use Rattle.mc_model.specs.node.Input.{Crash, Restart}
use Rattle.mc_model.specs.node.Setup.{Setup}
use Rattle.node_model.specs.Kept.{Kept}
use Rattle.node_model.specs.Outputs.{Stepped, nothing}
use Rattle.node_model.specs.Stepped.{stepped}
use Rattle.node_laws.specs.Runs.{IsUpFor, MayCome}
use Rattle.node_laws.specs.Steps.{IsWellMade}
use Rattle.pdu_tables.specs.declared.status.Status.{Status}
use Rattle.desk.specs.Arrivals.{judged_as}
use Rattle.stable_store.specs.Stored.{AreSame, Stored}
use Rattle.synod_acceptor.specs.Packets.{packet_of}
use Rattle.synod_acceptor.specs.declared.packet.Packet.{Packet as Sent}
use Rattle.node_core.specs.Input.{Input}
use Rattle.node_core.specs.Input.TheVariants as inputs
use Rattle.node_core.specs.declared.life.Life.{Life}
use Rattle.node_core.specs.Keeping.{kept_of}
use Rattle.node_core.specs.Nodes.{HasOpened, HasTaken, Standing, records_in}
use Rattle.node_core.specs.Outputs.{Outputs}
use Rattle.node_core.specs.Restarts.{next_life}
use Rattle.node_core.specs.Steps.{input_of}
use Rattle.node_core.specs.Stopped.{Stopped}
use Rattle.node_core.specs.Stops.{IsTold, IsUnfinished, is_after}
use Rattle.node_core.proofs.Restarts.{as_restarted, stop_lists, told_as}
use Rattle.world_runs.specs.Given.{Given}
use Rattle.world_runs.specs.Runs.{IsGiven, given_out}
use Rattle.journal_laws.specs.Journals.{ComesBy, IsOwnRun, IsOwnStep, Unfinished, steps_for, stop_of}
use Rattle.journal_laws.specs.Taken.{IsReopened, done_by, packet_in, started_anew, step_of}
use Rattle.journal_laws.proofs.OldStores.{restart_step}

comes_so : (setup : Setup) (k : Kept) (node number : ℕ) (input : Input) →
    ComesBy setup k (step_of node number input) (packet_in input) (input_of setup k input)
comes_so setup k node number (inputs.Packet packet) = refl
comes_so setup k node number (inputs.Request account request) = refl
comes_so setup k node number (inputs.Grant id) = refl
comes_so setup k node number (inputs.Answered slot outcome) = refl
comes_so setup k node number (inputs.Tick moment reach) = refl

judged_up : (k : Kept) → k.up ≡ true → (r : Result Request Status) → IsUpFor k (judged_as r)
judged_up k up (Ok request) = up
judged_up k up (Err status) = up

pub up_for : {S : Type 0} (node : Standing S) (input : Input) → IsUpFor (kept_of node.kept) (input_of node.kept.setup (kept_of node.kept) input)
up_for node (inputs.Packet packet) = refl
up_for node (inputs.Request account request) = judged_up (kept_of node.kept) refl _
up_for node (inputs.Grant id) = refl
up_for node (inputs.Answered slot outcome) = refl
up_for node (inputs.Tick moment reach) = refl

pub is_own_step : {S : Type 0} (old new : Standing S) (number : ℕ) (input : Input) (outputs : Outputs) →
    MayCome old.kept.setup (kept_of old.kept) (input_of old.kept.setup (kept_of old.kept) input) → HasTaken old input new outputs →
    IsOwnStep old.kept.setup (kept_of old.kept) (done_by old.kept.setup.node number input outputs)
is_own_step old new number input outputs may taken = record {
  input = input_of old.kept.setup (kept_of old.kept) input;
  comes = comes_so old.kept.setup (kept_of old.kept) old.kept.setup.node number input;
  up = up_for old input;
  may = may;
  gives = sym taken.given;
  count = sym (length-map outputs.packets.items packet_of);
}

-- ---- a start anew

-- by a step that leaves no output nothing is given out
gives_none : (given : Given) → IsGiven given nothing → nothing ≡ record (given_out given) { packets = [] }
gives_none given is i = record (sym is.others i) { packets = [] }

-- a node that keeps this starts anew, however many incarnations are lost
start_step : (setup : Setup) (k : Kept) (node lost : ℕ) (given : Given) (packet : Option Packet) → k.incarnation + lost < 9999 → IsGiven given nothing →
    IsOwnStep setup k (started_anew node given packet)
start_step setup k node lost given packet within gives = record {
  input = Restart lost;
  comes = (lost, refl);
  up = record {};
  may = within;
  gives = ap (λ (s : Stepped). s.outputs) (restart_step setup k lost) ∙ gives_none given gives;
  count = gives.packets;
}

module _ {S : Type 0} (stored : S → Stored) (old new : Standing S) (life : Life) (is : IsReopened stored old new life) where
  abbrev k : Kept
  k = kept_of old.kept

  abbrev setup : Setup
  setup = old.kept.setup

  -- the incarnations between
  abbrev lost : ℕ
  lost = new.kept.incarnation - suc old.kept.incarnation

  begins : new.kept.incarnation ≡ next_life k lost
  begins = let later = is.later in omega (arith, later)

  within : old.kept.incarnation + lost < 9999
  within = let most = is.bounds.most in let next = begins in omega (arith, most, next)

  opened : HasOpened setup (records_in new.kept) (next_life k lost) new life
  opened = subst (λ (n : ℕ). HasOpened setup (records_in new.kept) n new life) begins is.opens.opened

  -- ---- it tells of no save

  same_records : new.stopped ≡ None → AreSame (records_in new.kept) k.records
  same_records none =
      by_packet old.unfinished (subst (IsTold old.kept (records_in new.kept) old.unfinished) none (is.told is.undoubted))
      (is.left (records_in new.kept) (is.opens.found.found is.undoubted))
    where
      by_packet : (packet : Option Sent) → IsTold old.kept (records_in new.kept) packet None → IsUnfinished old.kept (records_in new.kept) packet →
          AreSame (records_in new.kept) k.records
      by_packet None told same = record { each = same.each }
      by_packet (Some packet) told same = absurd told

  pub starts_anew : (given : Given) → new.stopped ≡ None → IsGiven given nothing →
      IsOwnRun setup k (steps_for (started_anew setup.node given None) None) (kept_of new.kept)
  unfolding start_step
  starts_anew given none gives =
      (start_step setup k setup.node lost given None within gives, as_restarted setup k (records_in new.kept) lost new life is.lists (same_records none) opened)

  -- ---- it tells of a save

  module _ (told : Stopped) (tells : new.stopped ≡ Some told) where
    abbrev packet : Packet
    packet = packet_of told.packet

    abbrev halted : Kept
    halted = (stepped setup k (Crash packet (is_after told.found))).kept

    kept_told : kept_of new.kept ≡ (stepped setup halted (Restart lost)).kept
    kept_told = by_packet old.unfinished (subst (IsTold old.kept (records_in new.kept) old.unfinished) tells (is.told is.undoubted))
      where
        by_packet : (sent : Option Sent) → IsTold old.kept (records_in new.kept) sent (Some told) →
            kept_of new.kept ≡ (stepped setup halted (Restart lost)).kept
        by_packet None none = absurd cc
        by_packet (Some sent) so =
            subst (λ (p : Sent). kept_of new.kept ≡ (stepped setup (stepped setup k (Crash (packet_of p) (is_after told.found))).kept (Restart lost)).kept)
            (sym so.is) (told_as old.kept (records_in new.kept) sent lost new life told is.lists opened so told.found refl)

    within_halted : halted.incarnation + lost < 9999
    within_halted =
        subst (λ (n : ℕ). n + lost < 9999) (sym (stop_lists setup k packet (is_after told.found) is.lists).life) within

    abbrev save : ℕ → Unfinished
    save number = record { number = number; found = told.found }

    stop_step : (given : Given) (number : ℕ) → IsWellMade packet → IsGiven given nothing →
        IsOwnStep setup k (stop_of (started_anew setup.node given (Some packet)) (save number))
    stop_step given number well gives = record {
      input = Crash packet (is_after told.found);
      comes = refl;
      up = refl;
      may = well;
      gives = gives_none given gives;
      count = gives.packets;
    }

    pub stops_and_starts_anew : (given : Given) (number : ℕ) → IsWellMade packet → IsGiven given nothing →
        IsOwnRun setup k (steps_for (started_anew setup.node given (Some packet)) (Some (save number))) (kept_of new.kept)
    unfolding stop_step start_step
    stops_and_starts_anew given number well gives =
        (stop_step given number well gives, (start_step setup halted setup.node lost given (Some packet) within_halted gives, kept_told))
