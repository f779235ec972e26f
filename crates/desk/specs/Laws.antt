-- That a message without a route is refused.
use Rattle.std.specs.Prelude.{◌≡◌, ℕ, Bool, false, Err}
use Rattle.pdu_tables.specs.declared.status.Status.TheVariants as statuses
use Rattle.pdu_bodies.specs.declared.pdu.Message.{Message}
use Rattle.desk.specs.Desk.{submit_judged}

-- without a route the first check of a submit_sm fails
abbrev pub UnroutedAreRefused : Type 0
UnroutedAreRefused =
    (now validity serial : ℕ) (busy : Bool) (message : Message) →
    submit_judged false now validity serial busy message ≡ Err statuses.InvalidDestinationAddress
