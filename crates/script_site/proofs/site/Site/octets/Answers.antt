use Rattle.std.proofs.Common.{Ok, Err, refl, ◌++◌, length, take, drop, ◌-◌, ap, ◌∙◌, subst}
use Rattle.pdu_frames.specs.Frames.{IsPart, HasWrongLength}
use Rattle.script_text.specs.Settings.{settings_of}
use Rattle.script_text.specs.Pushes.{session_at}
use Rattle.script_site.specs.Sites.{Placed}
use Rattle.script_site.proofs.Streaming.{all_taken, is_opened, is_there, joined, kept_acts, last_acts, not_there, opened, proceeds, wrong_acts}
use Rattle.script_site.proofs.Streaming.{wrong_in_front}
use Rattle.script_site.proofs.site.Site.octets.Goals as goal

pub loop-count-init : goal.loop-count-init
loop-count-init c =
    let start : Placed = record { world = c.args.world.now; site = c.args.self.now } in (
      is_opened c.args.self.now c.open.new.self c.args.number c.in_ok-framer.ensures.left,
      opened c.args.self.now.node (settings_of c.args.config.now) c.args.number c.args.octets.now start c.args.text.now.items c.open.new.self
          c.in_ok-framer.framer c.in_ok-framer.ensures.held c.in_ok-framer.ensures.left,
    )

pub returns-in-Err : goal.returns-in-Err
returns-in-Err c =
    let wrong = c.feed.ensures.wrong.1 (c.in-Err.is ∙ ap Err c.in-Err.ensures.fault.0) in
    wrong_acts c.args.self.now.node (settings_of c.args.config.now) c.args.number c.args.octets.now
    (record { world = c.args.world.now; site = c.args.self.now }) c.args.text.now.items
    (record { world = c.loop-count.world; site = c.loop-count.self }) c.loop-count.text.items c.end.result
    (record { world = c.end.new.world; site = c.end.new.self }) (c.loop-count.framer ++ c.loop-count.rest.now) c.end.new.text.items
    c.loop-count.invariant.1 (wrong_in_front c.loop-count.framer c.loop-count.rest.now wrong) c.end.ensures

pub returns-in-Ok-None : goal.returns-in-Ok-None
returns-in-Ok-None c =
    let part = c.frame.ensures.part.1 (c.in-Ok-None.is ∙ ap Ok c.in-Ok-None.field-0-is) in
    let all = all_taken c.loop-count.framer c.loop-count.rest.now c.feed.new.self c.in-Ok.count c.in-Ok.ensures.taken (c.in-Ok.ensures.all part) in
    kept_acts c.args.self.now.node (settings_of c.args.config.now) c.args.number c.args.octets.now
    (record { world = c.args.world.now; site = c.args.self.now }) c.args.text.now.items
    (record { world = c.loop-count.world; site = c.loop-count.self }) c.loop-count.text.items c.put_back.result c.put_back.new.self
    (c.loop-count.framer ++ c.loop-count.rest.now) c.feed.new.self c.loop-count.invariant.1 (subst (λ s. IsPart s) all part) all c.put_back.ensures

pub returns-in-Err-frame : goal.returns-in-Err-frame
returns-in-Err-frame c =
    let wrong = c.frame.ensures.wrong.1 (c.in-Err-frame.is ∙ ap Err c.in-Err-frame.ensures.fault) in
    let rest = take (length c.loop-count.rest.now - c.in-Ok.count) (drop c.in-Ok.count c.loop-count.rest.now) in
    let parts = joined c.loop-count.framer c.loop-count.rest.now c.feed.new.self c.in-Ok.count c.in-Ok.ensures.taken in
    wrong_acts c.args.self.now.node (settings_of c.args.config.now) c.args.number c.args.octets.now
    (record { world = c.args.world.now; site = c.args.self.now }) c.args.text.now.items
    (record { world = c.loop-count.world; site = c.loop-count.self }) c.loop-count.text.items c.end-in-Err-frame.result
    (record { world = c.end-in-Err-frame.new.world; site = c.end-in-Err-frame.new.self }) (c.loop-count.framer ++ c.loop-count.rest.now)
    c.end-in-Err-frame.new.text.items
    c.loop-count.invariant.1 (subst (λ s. HasWrongLength s) parts (wrong_in_front c.feed.new.self rest wrong)) c.end-in-Err-frame.ensures

pub returns-then-not-has : goal.returns-then-not-has
returns-then-not-has c =
    let held = rw c.in-Ok-Some.field-0-is at c.in-Ok-Some.ensures.frame in
    let gone = not_there (session_at c.serve.new.self.service.sessions c.args.number) c.has.result c.has.ensures c.if-not-has.true in
    last_acts c.args.self.now.node (settings_of c.args.config.now) c.args.number c.args.octets.now
    (record { world = c.args.world.now; site = c.args.self.now }) c.args.text.now.items
    (record { world = c.loop-count.world; site = c.loop-count.self }) c.loop-count.text.items (record { world = c.serve.new.world; site = c.serve.new.self })
    c.loop-count.framer c.loop-count.rest.now c.feed.new.self c.feed.new.self c.serve.new.text.items c.in-Ok.count c.loop-count.invariant.1
    c.in-Ok.ensures.taken (held.0, refl) (rw held.1 at c.in_ok-serve-in-Ok-Some.ensures) gone

pub loop-count-preserved : goal.loop-count-preserved
loop-count-preserved c =
    let held = rw c.in-Ok-Some.field-0-is at c.in-Ok-Some.ensures.frame in
    let stays = is_there (session_at c.serve.new.self.service.sessions c.args.number) c.has.result c.has.ensures c.if-not-has.false in (
      stays,
      proceeds c.args.self.now.node (settings_of c.args.config.now) c.args.number c.args.octets.now
          (record { world = c.args.world.now; site = c.args.self.now }) c.args.text.now.items
          (record { world = c.loop-count.world; site = c.loop-count.self }) c.loop-count.text.items
          (record { world = c.serve.new.world; site = c.serve.new.self })
          c.loop-count.framer c.loop-count.rest.now c.feed.new.self c.feed.new.self c.let_go.new.self c.serve.new.text.items c.in-Ok.count
          c.loop-count.invariant.1 c.in-Ok.ensures.taken c.let_go.ensures (rw held.1 at c.in_ok-serve-in-Ok-Some.ensures) stays,
    )

pub end-requires : goal.end-requires
end-requires c = c.loop-count.invariant.0
