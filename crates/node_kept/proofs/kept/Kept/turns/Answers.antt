use Rattle.std.proofs.Common.{◌≡◌, ◌∙◌, ◌<◌, ℕ, suc, List, [], ◌∷◌, length, None, Ok, refl, sym, ap, subst, arith}
use Rattle.std.specs.Prelude.{filter, nat_le}
use Rattle.mc_model.specs.synod.Lists.{In}
use Rattle.node_model.specs.Ticks.{ids_of, ticked}
use Rattle.node_parts.specs.Reaching.{reach_of}
use Rattle.tick_rules.specs.declared.standpoint.Standpoint.{Standpoint}
use Rattle.node_parts.specs.Living.{IsPassedIn, lower_of}
use Rattle.node_parts.specs.Sleeping.{IsAsleep}
use Rattle.node_kept.specs.Keeping.{kept_of}
use Rattle.node_kept.specs.Walking.{ids_left}
use Rattle.node_kept.specs.declared.walk.Walk.{Walk}
use Rattle.node_kept.specs.declared.turn_list.TurnList.{TurnList}
use Rattle.node_kept.proofs.Passing.{all_turned, next_turning}
use Rattle.node_kept.proofs.TickTurns.{IsTurning, more_then, none_turned, same_then, turning_begins, turning_goes_on}
use Rattle.node_kept.proofs.Walking.{all_passed, fewer_left, from_nothing, in_left, next_by, next_is, rise_all, walk_begins}
use Rattle.node_kept.proofs.kept.Kept.turns.Goals.{in-Some-2+in_ok-add, in_default-2}
use Rattle.node_kept.proofs.kept.Kept.turns.Goals as goal

pub loop-id-init : goal.loop-id-init
loop-id-init c =
    let k = c.args.self.now in
    let clock = c.args.clock in
    let reach = reach_of c.args.reach.now in
    let at : Standpoint = record { author = c.author.result; clock = clock } in
    let walk : Walk = record { from = 0; live = c.next_due.result; asked = c.next_id.result } in
    record {
      walks = walk_begins k at reach walk refl (next_by (IsPassedIn k.messages c.asleep_at-asleep.result c.args.reach.now.may) (IsAsleep at reach) k.messages.entries 0 c.next_due.result c.asleep_at-asleep.ensures.passed c.next_due.ensures)
          c.next_id.ensures;
      turns = turning_begins k clock (reach_of c.args.reach.now) (ids_left k clock walk) c.empty-turns.result (from_nothing (ids_of (ticked (kept_of k) clock)))
          (none_turned k clock (reach_of c.args.reach.now) c.empty-turns.result c.requires c.empty-turns.ensures.messages c.empty-turns.ensures.packets);
      none = λ fits. (c.empty-turns.ensures.messages, c.empty-turns.ensures.packets);
      rising = rise_all k at reach c.ascends.ensures;
    }

pub returns-in_err-turn-clause-idle : goal.returns-in_err-turn-clause-idle
returns-in_err-turn-clause-idle c fits =
    let next = next_is c.args.self.now (record { author = c.author.result; clock = c.args.clock }) (reach_of c.args.reach.now) c.loop-id.walk c.loop-id.invariant.walks c.in-Some.id (sym c.next.ensures ∙ c.in-Some.is) in
    let nothing = sym (c.turn_of.ensures.idle (fits c.in-Some.id next.among)) ∙ c.in_err-turn.was in
    absurd (cc)

pub returns-in_err-add-clause-idle : goal.returns-in_err-add-clause-idle
returns-in_err-add-clause-idle c fits =
    let next = next_is c.args.self.now (record { author = c.author.result; clock = c.args.clock }) (reach_of c.args.reach.now) c.loop-id.walk c.loop-id.invariant.walks c.in-Some.id (sym c.next.ensures ∙ c.in-Some.is) in
    let nothing = sym (c.turn_of.ensures.idle (fits c.in-Some.id next.among)) ∙ c.in_ok-turn.was ∙ ap Ok c.in-Some-2.is in
    absurd (cc)

pub loop-id-smaller : goal.loop-id-smaller
loop-id-smaller c =
    let k = c.args.self.now in
    let ids = ids_of (ticked (kept_of k) c.args.clock) in
    let next = next_is k (record { author = c.author.result; clock = c.args.clock }) (reach_of c.args.reach.now) c.loop-id.walk c.loop-id.invariant.walks c.in-Some.id (sym c.next.ensures ∙ c.in-Some.is) in
    subst (λ (n : ℕ). length (filter (nat_le n) ids) < length (ids_left k c.args.clock c.loop-id.walk)) (sym c.passed-walk.ensures.from)
    (fewer_left c.loop-id.walk.from c.in-Some.id ids c.loop-id.invariant.rising next.among next.from)

pub loop-id-preserved : goal.loop-id-preserved
loop-id-preserved c =
    let k = c.args.self.now in
    let clock = c.args.clock in
    let id = c.in-Some.id in
    let ids = ids_of (ticked (kept_of k) clock) in
    let reach = reach_of c.args.reach.now in
    let at : Standpoint = record { author = c.author.result; clock = clock } in
    let next = next_is k at reach c.loop-id.walk c.loop-id.invariant.walks id (sym c.next.ensures ∙ c.in-Some.is) in
    let turns = c.loop-id.turns in
    let passed = c.passed-walk.ensures in
    let after = filter (nat_le (suc id)) ids in
    let rest : ids_left k clock c.passed-walk.result ≡ after = ap (λ (n : ℕ). filter (nat_le n) ids) passed.from in
    let here = next_turning k clock reach turns c.author.result c.author.ensures.node c.author.ensures.incarnation c.requires c.loop-id.walk id
    c.loop-id.invariant.rising next c.loop-id.invariant.turns in
    let of = rw c.in_ok-turn.was at c.turn_of.ensures.turned in
    let above : (other : ℕ) → In other after → id < other =
    (λ other among. let there = in_left (suc id) other ids among in let lower = there.1 in omega (arith, lower)) in
    record {
      walks = next.on c.passed-walk.result passed.from passed.same_live
          (λ it. next_by (IsPassedIn k.messages c.asleep_at-asleep.result c.args.reach.now.may) (IsAsleep at reach) k.messages.entries (suc id) c.passed-walk.result.live
          c.asleep_at-asleep.ensures.passed (passed.live it))
          passed.same_asked passed.asked;
      turns = elim c.match-branch-2.branch [
        | in-Some-2+in_ok-add w ↦ subst (IsTurning k clock reach (ids_left k clock c.passed-walk.result)) (sym w.turns-is)
            (subst (λ (left : List ℕ). IsTurning k clock reach left w.add.new.self) (sym rest)
            (turning_goes_on k clock reach (id ∷ after) turns here id after refl w.add.new.self above
            (more_then k clock reach (id ∷ after) turns here id after refl
            c.author.result c.author.ensures.node c.author.ensures.incarnation c.requires w.in-Some-2.turn
            (rw w.in-Some-2.is at of) w.add.new.self (rw w.in_ok-add.was at w.add.ensures))))
        | in_default-2 w ↦ subst (IsTurning k clock reach (ids_left k clock c.passed-walk.result)) (sym w.turns-is)
            (subst (λ (left : List ℕ). IsTurning k clock reach left turns) (sym rest)
            (turning_goes_on k clock reach (id ∷ after) turns here id after refl turns above
            (same_then k clock reach (id ∷ after) turns here id after refl
            c.author.result c.author.ensures.node c.author.ensures.incarnation c.requires (rw w.in_default-2.is at of))))
      ];
      none = λ fits. elim c.match-branch-2.branch [
        | in-Some-2+in_ok-add w ↦
            let nothing = sym (c.turn_of.ensures.idle (fits id next.among)) ∙ c.in_ok-turn.was ∙ ap Ok w.in-Some-2.is in
            absurd (cc)
        | in_default-2 w ↦ subst (λ (it : TurnList). (it.messages.items ≡ []) × (it.packets.items ≡ [])) (sym w.turns-is) (c.loop-id.invariant.none fits)
      ];
      rising = c.loop-id.invariant.rising;
    }

pub returns-clause-turned : goal.returns-clause-turned
returns-clause-turned c =
    let k = c.args.self.now in
    let clock = c.args.clock in
    let walk = c.loop-id.walk in
    let none : lower_of walk.live walk.asked ≡ None = sym c.next.ensures ∙ c.in_default.is in
    all_turned k clock (reach_of c.args.reach.now) c.loop-id.turns c.author.result c.author.ensures.node c.author.ensures.incarnation c.requires
    walk c.loop-id.invariant.rising
    (all_passed k (record { author = c.author.result; clock = clock }) (reach_of c.args.reach.now) walk c.loop-id.invariant.walks none) c.loop-id.invariant.turns
