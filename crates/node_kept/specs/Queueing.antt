-- What a step makes of the requests that wait (own).
use Rattle.std.specs.Prelude.{ℕ, ◌<◌, ◌==◌, not, List, [], ◌∷◌, ◌++◌, filter, length, map, Some}
use Rattle.std.specs.Box.{box_value}
use Rattle.mc_model.specs.node.Room.{most_waiting}
use Rattle.node_model.specs.Answers.{still_waits}
use Rattle.node_model.specs.Kept.{Held}
use Rattle.node_model.specs.Packets.{settled_for}
use Rattle.node_model.specs.Requests.{ticket_of, with_held}
use Rattle.waiting_requests.specs.Queues.{IsAbove, timely}
use Rattle.waiting_requests.specs.Submits.{AreNumberedBy, IsNumberedBy}
use Rattle.waiting_requests.specs.Waiting.{Waits, held_in, held_of}
use Rattle.node_parts.specs.Told.{AreToldOf, IsToldOf}
use Rattle.node_kept.specs.declared.queue_change.QueueChange.{QueueChange}
use Rattle.node_kept.specs.declared.queue_change.QueueChange.TheVariants as changes

abbrev pub requeued : ℕ → List Held → QueueChange → List Held
requeued nodes held changes.Same = held
requeued nodes held (changes.Push new) = held ++ held_of (box_value new) ∷ []
requeued nodes held (changes.Replace new) = with_held held (held_of (box_value new))
requeued nodes held (changes.Remove ticket) = filter (λ h. not (ticket_of h == ticket)) held
requeued nodes held (changes.Settle chain) =
    filter (still_waits nodes (Some chain.decrees) chain.id) (map (settled_for nodes chain.id chain.decrees) held)
requeued nodes held (changes.Expire clock) = timely clock held

-- one more has a place
abbrev pub HasPlace : List Waits → QueueChange → Type 0
HasPlace waits changes.Same = Unit {0}
HasPlace waits (changes.Push new) = (length waits < most_waiting) × IsAbove (held_in waits) (box_value new).waiting.ticket
HasPlace waits (changes.Replace new) = Unit {0}
HasPlace waits (changes.Remove ticket) = Unit {0}
HasPlace waits (changes.Settle chain) = Unit {0}
HasPlace waits (changes.Expire clock) = Unit {0}

-- a request of this node in this incarnation: if it is a submit_sm, its id is theirs
pub record IsSound (node incarnation : ℕ) (h : Held) : Type 0 where
  pub numbered : IsNumberedBy node incarnation h.waiting.request
  pub told : IsToldOf h

-- so is each, and each came before the request of this ticket
pub record AreAsked (node incarnation ticket : ℕ) (held : List Held) : Type 0 where
  pub above : IsAbove held ticket
  pub numbered : AreNumberedBy node incarnation held
  pub told : AreToldOf held
