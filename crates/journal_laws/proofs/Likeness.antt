-- The run of a node, in lists of their own.
use Rattle.std.proofs.Common.{◌≡◌, ℕ, List, [], ◌∷◌, ◌++◌, length, Option, Some, None, sym, ap, subst, ◌∙◌}
use Rattle.mc_model.specs.synod.Packet.{Packet}
use Rattle.mc_model.specs.node.Input.{Input, Tick}
use Rattle.mc_model.specs.node.Setup.{Setup}
use Rattle.node_model.specs.Kept.{Kept}
use Rattle.node_model.specs.Stepped.{stepped}
use Rattle.delivery.specs.Targets.{is_up}
use Rattle.node_core.specs.Reaching.{may_of}
use Rattle.world_runs.specs.Copies.{IsCopy}
use Rattle.world_runs.specs.Taking.{node_at}
use Rattle.world_runs.specs.Step.{Step}
use Rattle.world_runs.specs.Step.TheVariants as steps
use Rattle.journal_laws.specs.Journals.{Done, Entry, IsOwnRun, IsOwnStep, Unfinished, ComesBy, done_in, outputs_done, steps_for, stop_of}
use Rattle.journal_laws.specs.Likeness.{AreAllAlike, AreLike}

pub same_node : (one other : Step) → IsCopy one other → node_at other ≡ node_at one
same_node (steps.Tick node moment reach) (steps.Tick same then others) copy = copy.0
same_node (steps.Tick node moment reach) (steps.Deliver number other) copy = absurd copy
same_node (steps.Tick node moment reach) (steps.Request other account request) copy = absurd copy
same_node (steps.Tick node moment reach) (steps.Grant other id) copy = absurd copy
same_node (steps.Tick node moment reach) (steps.Answered other slot outcome) copy = absurd copy
same_node (steps.Tick node moment reach) (steps.Crash other number found) copy = absurd copy
same_node (steps.Tick node moment reach) (steps.Restart other) copy = absurd copy
same_node (steps.Deliver number node) other copy = ap node_at copy
same_node (steps.Request node account request) other copy = ap node_at copy
same_node (steps.Grant node id) other copy = ap node_at copy
same_node (steps.Answered node slot outcome) other copy = ap node_at copy
same_node (steps.Crash node number found) other copy = ap node_at copy
same_node (steps.Restart node) other copy = ap node_at copy

comes_alike : (setup : Setup) (k : Kept) (packet : Option Packet) (input : Input) (one other : Step) → IsCopy one other →
    ComesBy setup k one packet input → ComesBy setup k other packet input
comes_alike setup k packet input (steps.Tick node moment reach) (steps.Tick same then others) copy comes =
    comes ∙ (λ i. Tick (sym copy.1 i) (record { up = is_up (sym copy.2.0 i); may = may_of (sym copy.2.1 i) }))
comes_alike setup k packet input (steps.Tick node moment reach) (steps.Deliver number other) copy comes = absurd copy
comes_alike setup k packet input (steps.Tick node moment reach) (steps.Request other account request) copy comes = absurd copy
comes_alike setup k packet input (steps.Tick node moment reach) (steps.Grant other id) copy comes = absurd copy
comes_alike setup k packet input (steps.Tick node moment reach) (steps.Answered other slot outcome) copy comes = absurd copy
comes_alike setup k packet input (steps.Tick node moment reach) (steps.Crash other number found) copy comes = absurd copy
comes_alike setup k packet input (steps.Tick node moment reach) (steps.Restart other) copy comes = absurd copy
comes_alike setup k packet input (steps.Deliver number node) other copy comes = subst (λ (step : Step). ComesBy setup k step packet input) (sym copy) comes
comes_alike setup k packet input (steps.Request node account request) other copy comes =
    subst (λ (step : Step). ComesBy setup k step packet input) (sym copy) comes
comes_alike setup k packet input (steps.Grant node id) other copy comes = subst (λ (step : Step). ComesBy setup k step packet input) (sym copy) comes
comes_alike setup k packet input (steps.Answered node slot outcome) other copy comes =
    subst (λ (step : Step). ComesBy setup k step packet input) (sym copy) comes
comes_alike setup k packet input (steps.Crash node number found) other copy comes =
    subst (λ (step : Step). ComesBy setup k step packet input) (sym copy) comes
comes_alike setup k packet input (steps.Restart node) other copy comes = subst (λ (step : Step). ComesBy setup k step packet input) (sym copy) comes

gave_alike : (one other : Done) → AreLike one other → outputs_done one ≡ outputs_done other
gave_alike one other like = λ i. record (sym like.told i) { packets = sym like.sent i }

pub own_step_alike : (setup : Setup) (k : Kept) (one other : Done) → AreLike one other → IsOwnStep setup k one → IsOwnStep setup k other
own_step_alike setup k one other like own = record {
  input = own.input;
  comes =
      subst (λ (packet : Option Packet). ComesBy setup k other.step packet own.input) (sym like.packet)
      (comes_alike setup k one.packet own.input one.step other.step like.step own.comes);
  up = own.up;
  may = own.may;
  gives = own.gives ∙ gave_alike one other like;
  count = like.count ∙ own.count ∙ ap (λ (sent : List Packet). length sent) (sym like.sent);
}

-- ---- lists

abbrev pub AreInOrder : List Done → List Done → Type 0
AreInOrder [] [] = Unit {0}
AreInOrder [] (other ∷ others) = ⊥
AreInOrder (one ∷ ones) [] = ⊥
AreInOrder (one ∷ ones) (other ∷ others) = AreLike one other × AreInOrder ones others

stops_alike : (one other : Done) (save : Unfinished) → AreLike one other → AreLike (stop_of one save) (stop_of other save)
stops_alike one other save like = record {
  step = ap (λ (node : ℕ). steps.Crash node save.number save.found) (same_node one.step other.step like.step);
  packet = like.packet;
  told = like.told;
  count = like.count;
  sent = like.sent;
}

more_in_order : (entry other : Entry) (unfinished same : Option Unfinished) (ones others : List Done) → AreLike entry.done other.done → same ≡ unfinished →
    AreInOrder ones others → AreInOrder (steps_for entry.done unfinished ++ ones) (steps_for other.done same ++ others)
more_in_order entry other None same ones others like is order =
    subst (λ (u : Option Unfinished). AreInOrder (entry.done ∷ ones) (steps_for other.done u ++ others)) (sym is) (like, order)
more_in_order entry other (Some save) same ones others like is order =
    subst (λ (u : Option Unfinished). AreInOrder (stop_of entry.done save ∷ entry.done ∷ ones) (steps_for other.done u ++ others)) (sym is)
    (stops_alike entry.done other.done save like, (like, order))

in_order : (entries others : List Entry) → AreAllAlike entries others → AreInOrder (done_in entries) (done_in others)
in_order [] [] alike = record {}
in_order [] (other ∷ others) alike = absurd alike
in_order (entry ∷ entries) [] alike = absurd alike
in_order (entry ∷ entries) (other ∷ others) alike =
    more_in_order entry other entry.unfinished other.unfinished (done_in entries) (done_in others) alike.0.done alike.0.unfinished
    (in_order entries others alike.1)

own_in_order : (setup : Setup) (k last : Kept) (ones others : List Done) → AreInOrder ones others → IsOwnRun setup k ones last → IsOwnRun setup k others last
unfolding own_step_alike
own_in_order setup k last [] [] order own = own
own_in_order setup k last [] (other ∷ others) order own = absurd order
own_in_order setup k last (one ∷ ones) [] order own = absurd order
own_in_order setup k last (one ∷ ones) (other ∷ others) order own =
    (own_step_alike setup k one other order.0 own.0, own_in_order setup (stepped setup k own.0.input).kept last ones others order.1 own.1)

-- What is a node's own run stays it in a list of the same entries.
pub own_alike : (setup : Setup) (k last : Kept) (entries others : List Entry) → AreAllAlike entries others → IsOwnRun setup k (done_in entries) last →
    IsOwnRun setup k (done_in others) last
own_alike setup k last entries others alike own = own_in_order setup k last (done_in entries) (done_in others) (in_order entries others alike) own
