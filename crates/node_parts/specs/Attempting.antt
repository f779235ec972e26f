-- What the code keeps of a node's attempts on a message.
use Rattle.std.specs.Prelude.{◌≡◌, ℕ, ◌≤◌, Bool, true, false, ◌==◌, ◌&&◌, List, [], ◌∷◌, length, get_or, Option, Some, None, option_map}
use Rattle.mc_model.specs.message.Decree.{Decree}
use Rattle.mc_model.specs.node.Grant.{AlreadyGranted, Closed, GrantRefusal, NotChosen, NotMine, OlderIncarnation}
use Rattle.mc_model.specs.node.Outcome.{Outcome}
use Rattle.mc_model.specs.node.Setup.{Setup}
use Rattle.node_model.specs.Message.{Message}
use Rattle.node_model.specs.Kept.{Kept}
use Rattle.node_model.specs.Rules.{is_attempt_by}
use Rattle.fate_chain.specs.declared.decree.Author.{Author}
use Rattle.tick_rules.specs.Attempts.{closed_as}
use Rattle.tick_rules.specs.declared.attempted.Attempted.{Attempted}
use Rattle.node_parts.specs.declared.attempts.Attempts.{Attempts}
use Rattle.node_parts.specs.declared.grant_refusal.GrantRefusal.{GrantRefusal as Reason}
use Rattle.node_parts.specs.declared.grant_refusal.GrantRefusal.TheVariants as reasons

-- ---- by place

abbrev pub untried : Attempted
untried = record { granted = false; closed = None }

abbrev pub attempted_in : Attempts → ℕ → Attempted
attempted_in attempts place = get_or attempts.each place untried

abbrev pub granted_in : Attempts → ℕ → Bool
granted_in attempts place = (attempted_in attempts place).granted

abbrev pub closed_in : Attempts → ℕ → Option Outcome
closed_in attempts place = option_map closed_as (attempted_in attempts place).closed

-- ---- grants

abbrev pub refusal_of : Reason → GrantRefusal
refusal_of reasons.NotChosen = NotChosen
refusal_of reasons.NotMine = NotMine
refusal_of reasons.OlderIncarnation = OlderIncarnation
refusal_of reasons.AlreadyGranted = AlreadyGranted
refusal_of reasons.Closed = Closed

abbrev pub reason_of : GrantRefusal → Reason
reason_of NotChosen = reasons.NotChosen
reason_of NotMine = reasons.NotMine
reason_of OlderIncarnation = reasons.OlderIncarnation
reason_of AlreadyGranted = reasons.AlreadyGranted
reason_of Closed = reasons.Closed

-- an author is the node in its incarnation
pub record IsBy (setup : Setup) (k : Kept) (me : Author) : Type 0 where
  pub node : me.node ≡ setup.node
  pub incarnation : me.incarnation ≡ k.incarnation

-- this was done with the attempt of a message at a place
pub record IsTried (m : Message) (place : ℕ) (attempted : Attempted) : Type 0 where
  pub granted : attempted.granted ≡ m.granted place
  pub closed : option_map closed_as attempted.closed ≡ m.closed place

-- A place of which an attempt was granted: what is known reaches it, and if it ends there, it ends in an attempt of this node after so
-- many starts.
abbrev pub IsBacked : ℕ → ℕ → ℕ → Option (List Decree) → Type 0
IsBacked me starts place None = ⊥
IsBacked me starts place (Some []) = ⊥
IsBacked me starts place (Some (newest ∷ older)) =
    (place ≤ length older)
    × (place ≡ length older → (is_attempt_by me newest newest.kind && newest.author.incarnation == starts) ≡ true)
