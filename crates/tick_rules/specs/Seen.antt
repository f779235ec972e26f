-- A message as the rules see it, of a node by what it keeps.
use Rattle.std.specs.Prelude.{◌≡◌, ℕ, Bool}
use Rattle.std.specs.List.{list_any}
use Rattle.std.specs.Option.{option_map}
use Rattle.mc_model.specs.message.Submission.{Submission}
use Rattle.mc_model.specs.node.Setup.{Setup}
use Rattle.node_model.specs.Kept.{Kept, message_at}
use Rattle.node_model.specs.Starts.{cancels}
use Rattle.tick_rules.specs.declared.attempted.Attempted.{Attempted}
use Rattle.tick_rules.specs.declared.standpoint.Standpoint.{Standpoint}
use Rattle.tick_rules.specs.Attempts.{closed_as}

-- the node's own standpoint, what it did with the attempt at a place, and whether a request asks to delete what was taken
pub record IsSeen (setup : Setup) (k : Kept) (id : ℕ) (taken : Submission) (place : ℕ) (s : Standpoint) (a : Attempted) (cancelled : Bool) : Type 0 where
  pub node : s.author.node ≡ setup.node
  pub incarnation : s.author.incarnation ≡ k.incarnation
  pub clock : s.clock ≡ k.clock
  pub granted : a.granted ≡ (message_at k id).granted place
  pub closed : option_map closed_as a.closed ≡ (message_at k id).closed place
  pub asked : cancelled ≡ list_any (cancels id taken) k.held
