-- A step that was prepared is one of its node's own.
use Rattle.std.proofs.Common.{◌≡◌, Option, Some, None, map, refl, sym, ap, subst, ◌∙◌, arith}
use Rattle.std.specs.Prelude.{option_map}
use Rattle.std.proofs.lemmas.List.{length-map}
use Rattle.mc_model.specs.node.Input.{Tick}
use Rattle.mc_model.specs.node.Setup.{Setup}
use Rattle.node_model.specs.Kept.{Kept}
use Rattle.node_model.specs.Outputs.{nothing}
use Rattle.node_model.specs.Stepped.{stepped}
use Rattle.node_laws.specs.Runs.{MayCome}
use Rattle.node_laws.specs.Steps.{IsWellMade}
use Rattle.stable_store.specs.Stored.{Stored}
use Rattle.delivery.specs.Targets.{is_up}
use Rattle.node_core.specs.Reaching.{may_of}
use Rattle.synod_acceptor.specs.Packets.{packet_of}
use Rattle.synod_acceptor.specs.declared.packet.Packet.{Packet}
use Rattle.node_entry.specs.declared.step.Step.{Step}
use Rattle.node_entry.specs.declared.step.Step.TheVariants as steps
use Rattle.node_core.specs.Input.{Input as Given}
use Rattle.node_core.specs.Input.TheVariants as given
use Rattle.node_core.specs.Keeping.{kept_of}
use Rattle.node_core.specs.Kept.{Kept as Holding}
use Rattle.node_core.specs.Nodes.{HasTakenQuietly, Standing}
use Rattle.node_core.specs.Steps.{input_of, outputs_of}
use Rattle.journal_laws.specs.Journals.{ComesBy}
use Rattle.journal_laws.specs.Taken.{IsTakenBy}
use Rattle.journal_laws.proofs.Taken.{up_for}
use Rattle.journal_parts.specs.declared.done.Done.{Done}
use Rattle.journal_parts.specs.Entries.{GivesNothing, done_of}
use Rattle.journal_parts.specs.Members.{CanBeTaken, ComesWith, IsReady, Posted, TakesQuietly}

comes_so : (setup : Setup) (k : Kept) (step : Step) (packet : Option Packet) (input : Given) → ComesWith step packet input →
    ComesBy setup k step (option_map packet_of packet) (input_of setup k input)
comes_so setup k (steps.Deliver number node) None input comes = absurd (cc)
comes_so setup k (steps.Deliver number node) (Some packet) input comes =
    let same : given.Packet packet ≡ input = cc in ap (λ (by : Given). Some (input_of setup k by)) same
comes_so setup k (steps.Request node account request) packet input comes = ap (input_of setup k) comes.1
comes_so setup k (steps.Grant node id) packet input comes = ap (input_of setup k) comes.1
comes_so setup k (steps.Answered node slot outcome) packet input comes = ap (input_of setup k) comes.1
comes_so setup k (steps.Tick node moment reach) packet (given.Tick then others) comes = λ i. Tick (comes.1 i) (record { up = is_up (comes.2.0 i); may = may_of (comes.2.1 i) })
comes_so setup k (steps.Tick node moment reach) packet (given.Packet came) comes = absurd comes
comes_so setup k (steps.Tick node moment reach) packet (given.Request account request) comes = absurd comes
comes_so setup k (steps.Tick node moment reach) packet (given.Grant id) comes = absurd comes
comes_so setup k (steps.Tick node moment reach) packet (given.Answered slot outcome) comes = absurd comes
comes_so setup k (steps.Crash node number found) packet input comes = absurd comes
comes_so setup k (steps.Restart node) packet input comes = absurd comes

pub taken_by : {S : Type 0} (node : Standing S) (input : Given) (done : Done) → ComesWith done.step done.packet input →
    MayCome node.kept.setup (kept_of node.kept) (input_of node.kept.setup (kept_of node.kept) input) →
    outputs_of done.outputs ≡ (stepped node.kept.setup (kept_of node.kept) (input_of node.kept.setup (kept_of node.kept) input)).outputs →
    IsTakenBy node.kept.setup (kept_of node.kept) (input_of node.kept.setup (kept_of node.kept) input) (done_of done)
taken_by node input done comes may gives = record {
  own = record {
    input = input_of node.kept.setup (kept_of node.kept) input;
    comes = comes_so node.kept.setup (kept_of node.kept) done.step done.packet input comes;
    up = up_for node input;
    may = may;
    gives = sym gives;
    count = sym (length-map done.outputs.packets.items packet_of);
  };
  by = refl;
}

-- So it is for what the node kept as it was prepared.
pub ready_by : {S : Type 0} (node : Standing S) (was : Holding) (input : Given) (done : Done) → was ≡ node.kept → ComesWith done.step done.packet input →
    MayCome node.kept.setup (kept_of node.kept) (input_of node.kept.setup (kept_of node.kept) input) →
    outputs_of done.outputs ≡ (stepped was.setup (kept_of was) (input_of was.setup (kept_of was) input)).outputs → IsReady was.setup (kept_of was) input done
ready_by node was input done is comes may gives =
    subst (λ (k : Holding). IsReady k.setup (kept_of k) input done) (sym is)
    (record {
      comes = comes;
      taken = taken_by node input done comes may
          (subst (λ (k : Holding). outputs_of done.outputs ≡ (stepped k.setup (kept_of k) (input_of k.setup (kept_of k) input)).outputs) is gives);
    })

-- ---- a step that was taken quietly

packet_comes : (step : Step) (came : Option Packet) (packet : Packet) → CanBeTaken step came → came ≡ Some packet → ComesWith step came (given.Packet packet)
packet_comes (steps.Deliver number node) came packet can is = ap (option_map given.Packet) is
packet_comes (steps.Request node account request) came packet can is = absurd (cc)
packet_comes (steps.Tick node moment reach) came packet can is = absurd (cc)
packet_comes (steps.Grant node id) came packet can is = absurd (cc)
packet_comes (steps.Answered node slot outcome) came packet can is = absurd (cc)
packet_comes (steps.Crash node number found) came packet can is = absurd can
packet_comes (steps.Restart node) came packet can is = absurd can

-- It took the packet that comes by this.
pub taken_quietly : {S : Type 0} (stored : S → Stored) (old new : Posted S) (done : Done) (packet : Packet) → CanBeTaken done.step done.packet →
    done.packet ≡ Some packet → IsWellMade (packet_of packet) → HasTakenQuietly old.node packet new.node → new.node.store ≡ old.node.store →
    new.halted ≡ old.halted → new.astray ≡ old.astray → TakesQuietly stored old done new
taken_quietly stored old new done packet can is well took store halted astray = record {
  input = given.Packet packet;
  comes = packet_comes done.step done.packet packet can is;
  may = well;
  gives = took.gives;
  takes = record {
    kept = took.kept;
    setup = took.setup;
    unfinished = took.unfinished;
    halted = halted;
    astray = astray;
    doubt = let same = ap (λ s. (stored s).doubt) store in omega (arith, same);
  };
}

gave_nothing : (done : Done) → GivesNothing done → outputs_of done.outputs ≡ nothing
gave_nothing done none = λ i. record (none.given.others i) { packets = map packet_of (none.sent i) }

-- So the step is one of its node's own, if this gives nothing out.
pub ready_quietly : {S : Type 0} (stored : S → Stored) (old new : Posted S) (done : Done) → (took : TakesQuietly stored old done new) → GivesNothing done →
    IsReady old.node.kept.setup (kept_of old.node.kept) took.input done
ready_quietly stored old new done took none =
    ready_by old.node old.node.kept took.input done refl took.comes took.may (gave_nothing done none ∙ sym took.gives)
