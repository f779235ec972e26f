-- What a request is answered that the known chain settles.
use Rattle.std.proofs.Common.{◌≡◌, ℕ, Bool, true, false, cond, List, Option, refl, ap, ◌∙◌}
use Rattle.std.specs.Prelude.{◌&&◌, ◌||◌, not}
use Rattle.mc_model.specs.message.Decree.{Decree}
use Rattle.node_model.specs.Kept.{Held}
use Rattle.node_model.specs.Requests.{is_cancel, is_settled, settled_by, settles}
use Rattle.node_model.specs.Answers.{answer_by, answer_to}

by_cases : (cancel settled reached : Bool) → cond (cancel && (not settled && reached)) true settled ≡ (settled || (cancel && reached))
by_cases true true reached = refl
by_cases true false true = refl
by_cases true false false = refl
by_cases false true reached = refl
by_cases false false reached = refl

pub answer_settled : (nodes : ℕ) (known : Option (List Decree)) (h : Held) →
    answer_to nodes known (settled_by nodes known h) ≡ answer_by known (is_settled nodes known h)
    (h.waiting.settled || (is_cancel h.waiting.request && is_settled nodes known h)) h.waiting.request
answer_settled nodes known h =
    settled_if (settles nodes known h)
    ∙ ap (λ (settled : Bool). answer_by known (is_settled nodes known h) settled h.waiting.request)
    (by_cases (is_cancel h.waiting.request) h.waiting.settled (is_settled nodes known h))
  where
    settled_if : (now : Bool) →
        answer_to nodes known (cond now (record h { waiting = record h.waiting { settled = true } }) h) ≡ answer_by known
        (is_settled nodes known h) (cond now true h.waiting.settled) h.waiting.request
    settled_if true = refl
    settled_if false = refl
