-- The checks of a submit_sm, one after another.
use Rattle.std.proofs.Common.{◌≡◌, true, None, Result, ap, ◌∙◌}
use Rattle.pdu_tables.specs.declared.status.Status.{Status}
use Rattle.pdu_bodies.specs.declared.pdu.Message.{Message}
use Rattle.desk.specs.declared.door.Door.{Door}
use Rattle.desk.specs.Times.{Times, times_of}
use Rattle.desk.specs.Desk.{fields_refusal, unless, with_room, submit_judged}

pub judged : (message : Message) (door : Door) (times : Result Times Status) → None ≡ fields_refusal true message →
    times ≡ times_of door.validity door.clock message
    → with_room door.serial door.busy times ≡ submit_judged true door.clock door.validity door.serial door.busy message
judged message door times none same =
    ap (with_room door.serial door.busy) same ∙ ap
    (λ refusal. unless refusal (with_room door.serial door.busy (times_of door.validity door.clock message))) none
