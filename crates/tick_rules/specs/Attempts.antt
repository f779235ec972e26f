-- What a node did with an attempt, in the words of the node by what it keeps.
use Rattle.std.specs.Prelude.{option_map}
use Rattle.mc_model.specs.node.Outcome.{Outcome, Unanswered, no_session_error}
use Rattle.node_model.specs.Message.{Message, unseen}
use Rattle.delivery.specs.Kept.{outcome_kept}
use Rattle.tick_rules.specs.declared.attempted.Attempted.{Attempted}
use Rattle.tick_rules.specs.declared.attempted.Closing.{Closing}
use Rattle.tick_rules.specs.declared.attempted.Closing.TheVariants as closings

abbrev pub closed_as : Closing → Outcome
closed_as (closings.Answered outcome) = outcome_kept outcome
closed_as closings.GivenUp = Unanswered no_session_error

-- a message of which this is known at each place
abbrev pub attempted_at : Attempted → Message
attempted_at a = record unseen { granted = λ place. a.granted; closed = λ place. option_map closed_as a.closed }
