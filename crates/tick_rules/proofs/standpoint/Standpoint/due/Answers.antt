use Rattle.std.proofs.Common.{◌≡◌, sym, ◌∙◌, false, Some, None}
use Rattle.std.specs.Prelude.{◌&&◌}
use Rattle.std.proofs.lemmas.Bool.{and_left, and_right}
use Rattle.node_model.specs.Rules.{is_attempt_by}
use Rattle.node_model.specs.Starts.{is_idle, moment_behind}
use Rattle.tick_rules.specs.Standpoints.{kept_of}
use Rattle.tick_rules.proofs.Waiting.{decree_is_due, due_found, idle_may, telling_is_due}
use Rattle.tick_rules.proofs.standpoint.Standpoint.due.Goals.{else-cancelled-via-then-cancelled+else-is_idle, else-cancelled-via-else-cancelled}
use Rattle.tick_rules.proofs.standpoint.Standpoint.due.Goals as goal

pub returns-in-Some-clause-due : goal.returns-in-Some-clause-due
returns-in-Some-clause-due c =
    let newest = c.newest-newest.result.now in
    let other : is_attempt_by c.args.self.now.author.node newest newest.kind ≡ false = sym c.is_attempt.ensures ∙ c.if-is_attempt.false in
    let kept : (is_idle newest.kind && c.args.cancelled) ≡ false = elim c.else-cancelled.branch [
      | else-cancelled-via-then-cancelled+else-is_idle w ↦ and_left (is_idle newest.kind) c.args.cancelled (sym w.is_idle.ensures ∙ w.if-is_idle.false)
      | else-cancelled-via-else-cancelled w ↦ and_right (is_idle newest.kind) c.args.cancelled w.if-cancelled.false
    ] in
    decree_is_due c.args.self.now c.args.attempted c.args.cancelled c.args.reached c.args.chain.now.decrees newest c.newest-newest.ensures other kept
    c.in-Some.due
    (due_found c.args.chain.now.decrees c.moment_behind.result (moment_behind (kept_of c.args.self.now) newest) c.args.reached.begins c.due.result
    (Some c.in-Some.due) c.moment_behind.ensures c.in-Some.is c.due.ensures)

pub returns-in-Some-clause-may : goal.returns-in-Some-clause-may
returns-in-Some-clause-may c =
    let newest = c.newest-newest.result.now in
    idle_may c.args.self.now c.args.chain.now.decrees newest c.args.reached.begins c.in-Some.due c.newest-newest.ensures
    (due_found c.args.chain.now.decrees c.moment_behind.result (moment_behind (kept_of c.args.self.now) newest) c.args.reached.begins c.due.result
    (Some c.in-Some.due) c.moment_behind.ensures c.in-Some.is c.due.ensures)

pub returns-in-None-clause-due : goal.returns-in-None-clause-due
returns-in-None-clause-due c =
    let newest = c.newest-newest.result.now in
    let other : is_attempt_by c.args.self.now.author.node newest newest.kind ≡ false = sym c.is_attempt.ensures ∙ c.if-is_attempt.false in
    let kept : (is_idle newest.kind && c.args.cancelled) ≡ false = elim c.else-cancelled.branch [
      | else-cancelled-via-then-cancelled+else-is_idle w ↦ and_left (is_idle newest.kind) c.args.cancelled (sym w.is_idle.ensures ∙ w.if-is_idle.false)
      | else-cancelled-via-else-cancelled w ↦ and_right (is_idle newest.kind) c.args.cancelled w.if-cancelled.false
    ] in
    telling_is_due c.args.self.now c.args.attempted c.args.cancelled c.args.reached c.args.chain.now.decrees newest c.newest-newest.ensures other kept
    (due_found c.args.chain.now.decrees c.moment_behind.result (moment_behind (kept_of c.args.self.now) newest) c.args.reached.begins c.due.result None
    c.moment_behind.ensures c.in-None.is c.due.ensures)
    c.telling.result c.telling.ensures.due
