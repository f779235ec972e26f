-- What a node keeps is stored, once its step is.
use Rattle.std.proofs.Common.{◌≡◌, ℕ, false, List, [], Option, Some, None, refl, sym, ap, subst, ◌∙◌}
use Rattle.std.specs.Prelude.{IfSome, is_some}
use Rattle.std.proofs.Math.Path.{fun_ext}
use Rattle.std.proofs.lemmas.Bool.{true≢false}
use Rattle.mc_model.specs.synod.Acceptor.{Records}
use Rattle.synod_acceptor.specs.declared.packet.Packet.{Packet as Sent}
use Rattle.synod_acceptor.specs.declared.record.Change.{Change}
use Rattle.node_kept.specs.Input.{Input}
use Rattle.node_kept.specs.Message.{Message as Filed}
use Rattle.node_kept.specs.Messages.{changed_by}
use Rattle.node_kept.specs.declared.kept.Kept.{Kept as Holding}
use Rattle.node_kept.specs.declared.step.Step.{Step}
use Rattle.node_kept.specs.Grouping.{Grouped}
use Rattle.node_kept.specs.Keeping.{records_of}
use Rattle.node_kept.specs.Preparing.{IsPrepared, packet_in}
use Rattle.node_kept.specs.Steps.{IsInstalled}
use Rattle.node_kept.proofs.Installing.{own_then}
use Rattle.stable_store.specs.Stored.{AreSame, Stored}
use Rattle.node_core.specs.Nodes.{IsPending, IsStored, SavesAny, packets_waiting, records_in}
use Rattle.node_core.specs.Stops.{IsUnfinished, IsUnknown}
use Rattle.node_core.proofs.Unsaved.{saves_for}

some_is_none : {A : Type 0} (x : A) → Some x ≡ None → ⊥
some_is_none x same = true≢false (ap is_some same)

unchanged : (k : Holding) (input : Input) (step : Step) (packet : Option Sent) (change : Option Change) → step.next.change ≡ change →
    IsPrepared k input step packet → packet_in input ≡ None → step.next.change ≡ None
unchanged k input step packet None is prepared none = is
unchanged k input step packet (Some change) is prepared none =
    let from = saves_for k input step packet change prepared is in
    absurd (some_is_none from.packet (sym (ap packet_in from.came) ∙ none))

-- a step that saves nothing leaves what is stored
pub saves_none : (k was : Holding) (input given : Input) (step : Step) (packet : Option Sent) (stored : Stored) → was ≡ k → given ≡ input →
    IsPrepared was given step packet → packet_in input ≡ None → SavesAny step.next.change stored stored
saves_none k was input given step packet stored same_kept same_input prepared none =
    let now : IsPrepared k input step packet =
    subst (λ (i : Input). IsPrepared k i step packet) same_input (subst (λ (h : Holding). IsPrepared h given step packet) same_kept prepared) in
    subst (λ (c : Option Change). SavesAny c stored stored) (sym (unchanged k input step packet step.next.change refl now none)) (λ records holds. holds)

-- no packet is unfinished, and no group waits
pub at_rest : (k : Holding) (left : Records) (unfinished : Option Sent) (waiting : Option Grouped) → unfinished ≡ None → waiting ≡ None →
    AreSame left (records_in k) → IsUnknown k left unfinished (packets_waiting waiting)
at_rest k left unfinished waiting finished settled same =
    subst (λ (w : Option Grouped). IsUnknown k left unfinished (packets_waiting w)) (sym settled)
    (subst (λ (p : Option Sent). IsUnfinished k left p) (sym finished) same)

pub none_pending : (k : Holding) (waiting : Option Grouped) → waiting ≡ None → IfSome waiting (IsPending k)
none_pending k waiting settled = subst (λ (w : Option Grouped). IfSome w (IsPending k)) (sym settled) tt

-- no group waits, if none of its packets does
pub none_waits : (k : Holding) (waiting : Option Grouped) → IfSome waiting (IsPending k) → packets_waiting waiting ≡ [] → waiting ≡ None
none_waits k None pending none = refl
none_waits k (Some group) pending none = absurd (pending.some none)

-- what is stored is what it keeps, as before the step
pub stored_once : (k was new : Holding) (input given : Input) (step : Step) (packet unfinished : Option Sent) (waiting : Option Grouped)
    (before after : Stored) → was ≡ k → given ≡ input → IsPrepared was given step packet → IsInstalled k step.next new →
    SavesAny step.next.change before after → ((records left : Records) → after.holds records → after.may_hold left → AreSame left records) →
    IsStored false before unfinished waiting k → IsStored false after unfinished waiting new
stored_once k was new input given step packet unfinished waiting before after same_kept same_input prepared is saves settled old =
    let now : IsPrepared k input step packet =
    subst (λ (i : Input). IsPrepared k i step packet) same_input (subst (λ (h : Holding). IsPrepared h given step packet) same_kept prepared) in
    let records : records_in new ≡ changed_by step.next.change (records_in k) =
    fun_ext (λ slot. ap (λ (es : List (ℕ × Filed)). records_of es slot) is.entries ∙ now.is.is.saves slot) in
    let holds : after.holds (records_in new) = subst after.holds (sym records) (saves (records_in k) (old.saved refl)) in
    record {
      saved = λ works. holds;
      own = own_then k new step.next is (now.is.is.own old.own);
      finished = old.finished;
      settled = old.settled;
      pending = none_pending new waiting (old.settled refl);
      halted = λ left found. at_rest new left unfinished waiting (old.finished refl) (old.settled refl) (settled (records_in new) left holds found);
    }
