use Rattle.std.proofs.Common.{◌≡◌, false, Option, Err, sym, ap, subst, ◌∙◌}
use Rattle.std.specs.Arc.{arc_value}
use Rattle.synod_acceptor.specs.declared.packet.Packet.{Packet}
use Rattle.node_entry.specs.declared.step.Step.{Step}
use Rattle.node_laws.specs.Runs.{MayCome}
use Rattle.node_core.specs.Input.{Input as Given}
use Rattle.node_core.specs.Keeping.{kept_of}
use Rattle.node_core.specs.StepFault.{StepFault}
use Rattle.node_core.specs.Steps.{input_of}
use Rattle.journal_parts.specs.Entries.{done_of}
use Rattle.journal_parts.specs.Faults.{fault_at}
use Rattle.journal_parts.specs.Members.{ComesWith}
use Rattle.journal_parts.proofs.Faults.{broken_told, copied_freely, fault_told, memory_told, prepared_freely}
use Rattle.journal_parts.proofs.Readies.{ready_by}
use Rattle.journal_parts.proofs.post.Post.prepare.Goals as goal

pub invariant_of-result : goal.invariant_of-result
invariant_of-result g c =
    let awaited = c.in_ok-pending.ensures.ok in
    let done = c.in_ok-done.ensures in
    let comes : ComesWith (arc_value c.in_ok-done.done).step (arc_value c.in_ok-done.done).packet c.in_ok-pending.pending.input =
    subst (λ (i : Given). ComesWith (arc_value c.in_ok-done.done).step (arc_value c.in_ok-done.done).packet i) (sym awaited.given)
    (subst (λ (s : Step). ComesWith s (arc_value c.in_ok-done.done).packet c.in_ok-input.input) (sym done.step)
    (subst (λ (p : Option Packet). ComesWith c.args.step p c.in_ok-input.input) (sym done.packet) c.in_ok-input.ensures.comes)) in
    let may : MayCome c.args.self.now.node.kept.setup (kept_of c.args.self.now.node.kept)
    (input_of c.args.self.now.node.kept.setup (kept_of c.args.self.now.node.kept) c.in_ok-pending.pending.input) =
    subst (λ (i : Given). MayCome c.args.self.now.node.kept.setup (kept_of c.args.self.now.node.kept)
    (input_of c.args.self.now.node.kept.setup (kept_of c.args.self.now.node.kept) i)) (sym awaited.given) (c.may_come.ensures awaited.allowed) in (
      ready_by c.args.self.now.node c.in_ok-pending.pending.was c.in_ok-pending.pending.input (arc_value c.in_ok-done.done) awaited.was comes may done.outputs,
      c.in_ok-of.ensures
          ∙ (λ i. record { done = (c.of.ensures.done ∙ ap done_of c.in_ok-try_clone.ensures) i; unfinished = c.of.ensures.finished i }),
    )

pub returns-in_err-input-clause-faults : goal.returns-in_err-input-clause-faults
returns-in_err-input-clause-faults g c =
    let works : c.args.self.now.node.broken ≡ false = cc in
    memory_told c.from_residual.result (fault_at c.args.self.now.node c.args.step) c.from_residual.ensures.1
    (copied_freely c.args.self.now.node c.args.step c.in_err-input.ensures.copied works)

pub returns-in_err-pending-clause-broken : goal.returns-in_err-pending-clause-broken
returns-in_err-pending-clause-broken g c =
    let works : c.args.self.now.node.broken ≡ false = cc in (
      λ is. c.in_err-pending.ensures.broken.0
          (ap (λ (f : StepFault). Err f)
          (broken_told c.from_residual-in_err-pending.result c.in_err-pending.field-0.0 c.from_residual-in_err-pending.ensures.1 is)),
      λ broken. absurd (cc),
    )

pub returns-in_err-pending-clause-faults : goal.returns-in_err-pending-clause-faults
returns-in_err-pending-clause-faults g c =
    fault_told c.from_residual-in_err-pending.result c.args.self.now.node c.args.step c.args.packet c.in_ok-input.input c.in_err-pending.field-0.0
    c.from_residual-in_err-pending.ensures.1 c.in_ok-input.ensures.comes c.in_err-pending.ensures.faults

pub returns-in_err-done-clause-faults : goal.returns-in_err-done-clause-faults
returns-in_err-done-clause-faults g c =
    let works : c.args.self.now.node.broken ≡ false = cc in
    memory_told c.from_residual-in_err-done.result (fault_at c.args.self.now.node c.args.step) c.from_residual-in_err-done.ensures.1
    (prepared_freely c.args.self.now.node c.args.step c.args.packet c.in_ok-input.input c.in_ok-input.ensures.comes works c.in_ok-pending.ensures.ok.allowed)

pub returns-in_err-try_clone-clause-faults : goal.returns-in_err-try_clone-clause-faults
returns-in_err-try_clone-clause-faults g c =
    let works : c.args.self.now.node.broken ≡ false = cc in
    memory_told c.from_residual-in_err-try_clone.result (fault_at c.args.self.now.node c.args.step) c.from_residual-in_err-try_clone.ensures.1
    (prepared_freely c.args.self.now.node c.args.step c.args.packet c.in_ok-input.input c.in_ok-input.ensures.comes works c.in_ok-pending.ensures.ok.allowed)

pub returns-in_err-of-clause-faults : goal.returns-in_err-of-clause-faults
returns-in_err-of-clause-faults g c =
    let works : c.args.self.now.node.broken ≡ false = cc in
    memory_told c.from_residual-in_err-of.result (fault_at c.args.self.now.node c.args.step) c.from_residual-in_err-of.ensures.1
    (prepared_freely c.args.self.now.node c.args.step c.args.packet c.in_ok-input.input c.in_ok-input.ensures.comes works c.in_ok-pending.ensures.ok.allowed)

pub returns-clause-allowed : goal.returns-clause-allowed
returns-clause-allowed g c =
    let works : c.args.self.now.node.broken ≡ false = cc in
    prepared_freely c.args.self.now.node c.args.step c.args.packet c.in_ok-input.input c.in_ok-input.ensures.comes works c.in_ok-pending.ensures.ok.allowed
