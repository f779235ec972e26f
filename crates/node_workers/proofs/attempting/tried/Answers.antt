use Rattle.std.proofs.Common.{◌≡◌, ℕ, List, [], ◌∷◌, ◌++◌, Result, Ok, Err, OnErr, refl, ap, ◌∙◌, inr, append_assoc, rules}
use Rattle.node_threads.specs.Step.TheVariants as steps
use Rattle.node_threads.specs.Life.{Life}
use Rattle.node_threads.specs.Slips.{Slipped}
use Rattle.node_workers.specs.Attempts.{Leaves}
use Rattle.node_workers.proofs.attempting.tried.Goals as goal

on_err : {T E P : Type 0} (r : Result T E) → P → OnErr r P
on_err (Ok t) p = tt
on_err (Err e) p = p

-- a grant of which nothing came
leaves_one : (node id : ℕ) (old new : List Slipped) (granted : Slipped) → new ≡ old ++ granted ∷ [] → granted.entry.done.step ≡ steps.Grant node id →
    Leaves node old new
leaves_one node id old new granted grown step = record { left = granted ∷ []; behind = grown; unanswered = inr (granted, refl, (id, step)) }

pub returns-in-Err-clause-err : goal.returns-in-Err-clause-err
returns-in-Err-clause-err g c =
    leaves_one c.args.home.now.life.now.node c.args.heard.id c.args.seat.now.slips c.granted.new.seat.slips c.in-Some.slip (search rules) (search rules)

pub returns-in_err-answered-in-Some-clause-err : goal.returns-in_err-answered-in-Some-clause-err
returns-in_err-answered-in-Some-clause-err g c =
    let slip = c.in-Some.slip in
    let grown : c.granted.new.seat.slips ≡ c.args.seat.now.slips ++ slip ∷ [] = search rules in
    on_err _ (leaves_one c.args.home.now.life.now.node c.args.heard.id c.args.seat.now.slips c.answered.new.seat.slips slip
    (c.in_err-answered-in-Some.ensures.err ∙ grown) (search rules))

pub returns-in_ok-answered-in-Some-clause-tried : goal.returns-in_ok-answered-in-Some-clause-tried
returns-in_ok-answered-in-Some-clause-tried g c =
    let slip = c.in-Some.slip in
    let permit = c.in-Some.permit in
    let outcome = c.attempt_outcome-outcome.result in
    let grown : c.granted.new.seat.slips ≡ c.args.seat.now.slips ++ slip ∷ [] = search rules in
    let step : slip.entry.done.step ≡ steps.Grant c.args.home.now.life.now.node c.args.heard.id = search rules in
    let life : permit.life ≡ c.args.home.now.life.now = search rules in
    let came = c.in_ok-answered-in-Some.ensures.slips in (
      slip,
      came.0,
      came.2 ∙ ap (λ slips. slips ++ came.0 ∷ []) grown ∙ append_assoc c.args.seat.now.slips (slip ∷ []) (came.0 ∷ []),
      record {
        answer = c.in-Ok.answer;
        granted_is = (c.args.heard.id, step);
        carried = c.in-Ok.ensures.carried;
        answered_is = record {
          slot = permit.slot;
          outcome = outcome;
          step = came.1 ∙ ap (λ (l : Life). steps.Answered l.node permit.slot outcome) life;
          by = c.attempt_outcome-outcome.ensures;
        };
      },
    )
