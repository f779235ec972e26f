-- The round that starts once a chain is known: by which its message is deleted for a request (SMPP 3.4, 4.9), or its receipt is told.
use Rattle.std.specs.Prelude.{Bool, ◌&&◌, List, [], ◌∷◌, Option, Some, None, if◌then◌else◌}
use Rattle.std.specs.Option.{option_or}
use Rattle.mc_model.specs.message.Decree.{Decree, Deleted, Fate}
use Rattle.mc_model.specs.node.Setup.{Setup}
use Rattle.node_model.specs.Kept.{Kept}
use Rattle.node_model.specs.Proposer.{Start}
use Rattle.node_model.specs.Starts.{is_idle, start_behind, tell_for}

-- behind what is known, if a request asks for it and the message waits for an attempt
abbrev pub deletion_if : Setup → Kept → Bool → List Decree → Option Start
deletion_if setup k cancelled [] = None
deletion_if setup k cancelled (newest ∷ older) =
    if is_idle newest.kind && cancelled then Some (start_behind setup k newest older (Fate Deleted 0)) else None

-- else its receipt is told, if no final state was known before
abbrev pub next_known : Setup → Kept → Bool → Bool → List Decree → Option Start
next_known setup k had_fate cancelled chain =
    option_or (deletion_if setup k cancelled chain) (if had_fate then None else tell_for setup k None chain)
