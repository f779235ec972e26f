-- A worked row: the message that was delivered, and whose receipt was told, is at rest.
use Rattle.std.proofs.Common.{◌≡◌, ℕ, Bool, true, false, Some, None, refl}
use Rattle.std.specs.Prelude.{◌==◌, ◌&&◌, is_some, not, if◌then◌else◌}
use Rattle.mc_model.specs.message.Decree.{Delivered}
use Rattle.mc_model.specs.node.Outcome.{Concluded}
use Rattle.mc_parts.specs.FirstMessage.{first_id, told}
use Rattle.node_model.specs.Granted.{is_open_in}
use Rattle.node_model.specs.Kept.{message_at}
use Rattle.node_laws.specs.Examples.{delivers, played_alone}
use Rattle.rest_laws.specs.AtRest.{IsAtRest}

shut : (place : ℕ) → is_open_in (message_at (played_alone delivers).kept first_id) place ≡ false
shut place = by (place == 1)
  where
    by : (b : Bool) → ((if b then true else false) && not (is_some (if b then Some (Concluded Delivered 0) else None))) ≡ false
    by true = refl
    by false = refl

pub delivered_rests : IsAtRest (played_alone delivers).kept first_id
delivered_rests = record {
  chain = told;
  known = refl;
  over = refl;
  round = refl;
  reached = refl;
  shut = shut;
  unasked = λ h among same. among;
}
