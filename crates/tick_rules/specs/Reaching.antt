-- What a tick says of one message.
use Rattle.std.specs.Prelude.{ℕ}
use Rattle.mc_model.specs.message.Submission.{Submission}
use Rattle.mc_model.specs.node.Reach.{Reach, may_begin}
use Rattle.tick_rules.specs.declared.reached.Reached.{Reached}

-- of the one of this id that was taken so
abbrev pub reached_by : Reach → ℕ → Submission → Reached
reached_by reach id taken = record { up = reach.up taken.target; begins = may_begin reach id taken.target }
