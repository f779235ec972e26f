-- A tick that finds nothing due.
use Rattle.std.specs.Prelude.{◌≡◌, ℕ, max, false, None}
use Rattle.mc_model.specs.synod.Lists.{In}
use Rattle.mc_model.specs.node.Reach.{Reach}
use Rattle.mc_model.specs.node.Setup.{Setup}
use Rattle.node_model.specs.Kept.{Held, Kept}
use Rattle.node_model.specs.Requests.{is_untold}
use Rattle.node_model.specs.Rules.{first_rule}
use Rattle.node_model.specs.Ticks.{ids_of, is_late, ticked}
use Rattle.node_parts.specs.Reaching.{reach_of}
use Rattle.node_parts.specs.declared.input.Input.{Input}
use Rattle.node_parts.specs.declared.input.Input.TheVariants.{Answered, Grant, Packet, Request, Tick}

-- no rule fits a message that is kept or asked of
abbrev pub NoneFits : Setup → Kept → ℕ → Reach → Type 0
NoneFits setup k clock reach = (id : ℕ) → In id (ids_of (ticked k clock)) → first_rule setup (ticked k clock) reach id ≡ None

-- at a clock: no request waited too long, a majority told to each that asks, and no rule fits
pub record IsIdle (setup : Setup) (k : Kept) (clock : ℕ) (reach : Reach) : Type 0 where
  pub timely : (h : Held) → In h k.held → is_late clock h ≡ false
  pub told : (h : Held) → In h k.held → is_untold setup.nodes h ≡ false
  pub unruled : NoneFits setup k clock reach

-- what comes is a tick that finds nothing due
abbrev pub FindsNothing : Setup → Kept → Input → Type 0
FindsNothing setup k (Packet packet) = ⊥
FindsNothing setup k (Request account request) = ⊥
FindsNothing setup k (Grant id) = ⊥
FindsNothing setup k (Answered slot outcome) = ⊥
FindsNothing setup k (Tick moment given) = IsIdle setup k (max k.clock moment) (reach_of given)
