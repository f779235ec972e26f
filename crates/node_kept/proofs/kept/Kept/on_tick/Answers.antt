use Rattle.std.proofs.Common.{◌≡◌, ℕ, false, [], length, map, max, refl, sym, ap, subst, ◌∙◌, rules}
use Rattle.std.proofs.lemmas.Bool.{true≢false}
use Rattle.std.specs.List.{list_any}
use Rattle.std.specs.Vec.{vec_capacity}
use Rattle.node_model.specs.Requests.{is_untold}
use Rattle.node_model.specs.Ticks.{is_late}
use Rattle.waiting_requests.specs.Queues.{timely}
use Rattle.waiting_requests.specs.Waiting.{held_in}
use Rattle.waiting_requests.specs.Replying.{reply_given}
use Rattle.node_parts.specs.Reaching.{reach_of}
use Rattle.synod_acceptor.specs.Packets.{packet_of}
use Rattle.node_kept.specs.Idling.{NoneFits}
use Rattle.node_kept.specs.Keeping.{kept_of}
use Rattle.node_kept.proofs.Idling.{none_passes, timely_in}
use Rattle.node_kept.proofs.TickSteps.{room_serves, ticked_at}
use Rattle.node_kept.proofs.kept.Kept.on_tick.Goals as goal

pub returns-clause-step : goal.returns-clause-step
returns-clause-step c =
    let k = c.args.self.now in
    let clock : c.max-clock.result ≡ max k.clock c.args.moment = search (rules, c.max-clock.ensures) in
    let turns = c.in_ok-turns.turns in
    let many : c.len.result ≡ length turns.messages.items = search rules in
    let same = c.unchanged-next.ensures in
    let packets = ap (λ v. map packet_of v.items) c.telling.ensures.packets ∙ c.in_ok-packets.ensures.packets in
    let replies = ap (λ v. map reply_given v.items) c.telling.ensures.replies ∙ c.in_ok-replies.ensures.replies in
    ticked_at k c.args.moment c.max-clock.result (reach_of c.args.reach) turns _ clock
    (record {
      clock_is = refl;
      serial = same.serial;
      given = same.given;
      counted = same.counted;
      drops = refl;
      queue = refl;
      messages = refl;
      room = (
        room_serves k.messages.room (length k.messages.entries) (length turns.messages.items) c.in_ok-room.room.shelf (rw many at c.in_ok-room.ensures.shelf),
        room_serves k.messages.listings (length k.messages.entries) (length turns.messages.items) (vec_capacity c.in_ok-room.room.live)
            (rw many at c.in_ok-room.ensures.live),
      );
      ticket = c.telling.ensures.ticket;
      refused = c.telling.ensures.refused;
      packets = packets;
      replies = replies;
      receipts = c.telling.ensures.receipts;
      granted = c.telling.ensures.granted;
      change = same.change;
    })
    c.in_ok-turns.ensures.turned

pub returns-in_err-replies-clause-idle : goal.returns-in_err-replies-clause-idle
returns-in_err-replies-clause-idle c idle =
    let k = c.args.self.now in
    let clock : c.max-clock.result ≡ max k.clock c.args.moment = search rules in
    let none = none_passes (is_late (max k.clock c.args.moment)) (held_in k.queue) idle.timely in
    absurd (true≢false (sym (rw (c.in_err-replies.was, clock) at c.late.ensures.memory) ∙ none))

pub returns-in_err-packets-clause-idle : goal.returns-in_err-packets-clause-idle
returns-in_err-packets-clause-idle c idle =
    let k = c.args.self.now in
    let clock : c.max-clock.result ≡ max k.clock c.args.moment = search rules in
    let none : list_any (is_untold k.setup.nodes) (timely c.max-clock.result (held_in k.queue)) ≡ false =
    none_passes (is_untold k.setup.nodes) (timely c.max-clock.result (held_in k.queue))
    (λ h among. idle.told h (timely_in c.max-clock.result (held_in k.queue) h among)) in
    let fits : NoneFits k.setup (kept_of k) c.max-clock.result (reach_of c.args.reach) = subst
    (λ (n : ℕ). NoneFits k.setup (kept_of k) n (reach_of c.args.reach)) (sym clock) idle.unruled in
    let empty : c.in_ok-turns.turns.packets.items ≡ [] = (rw c.in_ok-turns.was at (c.turns.ensures.idle fits)).1 in
    let ok = c.with_questions.ensures.idle none empty in
    absurd (true≢false (sym (rw c.in_err-packets.was at ok)))
