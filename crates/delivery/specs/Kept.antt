-- An outcome of the code, as the model's.
use Rattle.mc_model.specs.message.Decree.{Delivered, Rejected, Undeliverable}
use Rattle.mc_model.specs.node.Outcome.{Concluded, Outcome, Unanswered, rejected_error, undeliverable_error}
use Rattle.delivery.specs.declared.outcome.Outcome.{Outcome as Kept}
use Rattle.delivery.specs.declared.outcome.Outcome.TheVariants as kept

abbrev pub outcome_kept : Kept → Outcome
outcome_kept kept.Delivered = Concluded Delivered 0
outcome_kept kept.Undeliverable = Concluded Undeliverable undeliverable_error
outcome_kept kept.Rejected = Concluded Rejected rejected_error
outcome_kept (kept.Failed error) = Unanswered error
