-- A tick makes nothing of the messages that it does not look at.
use Rattle.std.proofs.Common.{◌≡◌, ℕ, suc, ◌<◌, ◌≤◌, Bool, true, false, cond, List, [], ◌∷◌, None, refl, sym, ap, subst, ◌∙◌, inl, inr, arith}
use Rattle.std.specs.Prelude.{filter, nat_le}
use Rattle.std.proofs.lemmas.Bool.Decides.{nat_tests}
use Rattle.mc_model.specs.synod.Lists.{In}
use Rattle.mc_model.specs.node.Reach.{Reach}
use Rattle.node_model.specs.Ticks.{ids_of, ruled, ticked}
use Rattle.waiting_requests.specs.Queues.{timely}
use Rattle.waiting_requests.specs.Waiting.{held_in}
use Rattle.fate_chain.specs.declared.decree.Author.{Author}
use Rattle.tick_rules.specs.declared.standpoint.Standpoint.{Standpoint}
use Rattle.node_parts.specs.Rising.{AreRising}
use Rattle.node_parts.proofs.Rising.{each}
use Rattle.node_kept.specs.declared.kept.Kept.{Kept as Holding}
use Rattle.node_kept.specs.declared.turn_list.TurnList.{TurnList}
use Rattle.node_kept.specs.Keeping.{AreOwn, kept_of}
use Rattle.node_kept.specs.Ticking.{IsTurnOf, IsTurned}
use Rattle.node_kept.proofs.Answering.{taken_there}
use Rattle.node_kept.specs.Walking.{ids_left}
use Rattle.node_kept.specs.declared.walk.Walk.{Walk}
use Rattle.node_kept.proofs.TickTurns.{IsTurning, same_then, turning_ends, turning_goes_on}
use Rattle.node_kept.proofs.Walking.{IsNext, IsPassed, all_stay, first_left, from_on, in_left, left_from, rise_left}

module _ (k : Holding) (clock : ℕ) (reach : Reach) (turns : TurnList) (author : Author) (node : author.node ≡ k.setup.node)
    (incarnation : author.incarnation ≡ k.incarnation) (own : AreOwn k) where
  abbrev at : Standpoint
  at = record { author = author; clock = clock }

  not_turned : (id : ℕ) → IsPassed k at reach id → IsTurnOf k id at reach None
  not_turned id is = record {
    from = is.message;
    taken = taken_there k id is.message is.kept;
    same = tt;
    turned_is = λ setup kept rest of.
        sym (ap (ruled setup kept id) (is.asleep.unruled setup kept (timely clock (held_in k.queue)) rest is.unasked));
  }

  -- those before an id are passed
  pub passes : (id : ℕ) (left : List ℕ) → IsTurning k clock reach left turns → AreRising left →
      ((other : ℕ) → In other left → other < id → IsPassed k at reach other) →
      IsTurning k clock reach (filter (nat_le id) left) turns
  passes id [] is rise passed = is
  passes id (x ∷ xs) is rise passed = by_test (nat_le id x) refl (λ here. passes id xs here rise.1 (λ other among before. passed other (inr among) before))
    where
      by_test : (test : Bool) → nat_le id x ≡ test → (IsTurning k clock reach xs turns → IsTurning k clock reach (filter (nat_le id) xs) turns) →
          IsTurning k clock reach (cond test (x ∷ filter (nat_le id) xs) (filter (nat_le id) xs)) turns
      by_test true from rest =
          let lower : id ≤ x = grind (arith, nat_tests) in
          subst (λ (ids : List ℕ). IsTurning k clock reach (x ∷ ids) turns) (sym (all_stay id xs (from_on x id xs (omega (arith, lower)) rise.0))) is
      by_test false from rest =
          let lower : x < id = grind (arith, nat_tests) in
          rest (turning_goes_on k clock reach (x ∷ xs) turns is x xs refl turns (λ other among. each (λ (y : ℕ). x < y) xs rise.0 other among)
          (same_then k clock reach (x ∷ xs) turns is x xs refl author node incarnation own (not_turned x (passed x (inl refl) lower))))

  abbrev All_ids : List ℕ
  All_ids = ids_of (ticked (kept_of k) clock)

  -- once the next message is found: it comes first of those that are left
  pub next_turning : (walk : Walk) (id : ℕ) → AreRising All_ids → IsNext k at reach walk id → IsTurning k clock reach (ids_left k clock walk) turns →
      IsTurning k clock reach (id ∷ filter (nat_le (suc id)) All_ids) turns
  next_turning walk id rise next is =
      subst (λ (ids : List ℕ). IsTurning k clock reach ids turns) (left_from walk.from id All_ids next.from ∙ first_left id All_ids rise next.among)
      (passes id (ids_left k clock walk) is (rise_left walk.from All_ids rise)
      (λ other among before. let there = in_left walk.from other All_ids among in next.passed other there.0 there.1 before))

  -- once none is left
  pub all_turned : (walk : Walk) → AreRising All_ids → ((other : ℕ) → In other All_ids → walk.from ≤ other → IsPassed k at reach other) →
      IsTurning k clock reach (ids_left k clock walk) turns → IsTurned k clock reach All_ids turns
  all_turned walk rise passed is = over (ids_left k clock walk) is (rise_left walk.from All_ids rise)
      (λ other among. let there = in_left walk.from other All_ids among in passed other there.0 there.1)
    where
      over : (left : List ℕ) → IsTurning k clock reach left turns → AreRising left → ((other : ℕ) → In other left → IsPassed k at reach other) →
          IsTurned k clock reach All_ids turns
      over [] here rises each_passed = turning_ends k clock reach [] turns here refl
      over (x ∷ xs) here rises each_passed =
          over xs
          (turning_goes_on k clock reach (x ∷ xs) turns here x xs refl turns (λ other among. each (λ (y : ℕ). x < y) xs rises.0 other among)
          (same_then k clock reach (x ∷ xs) turns here x xs refl author node incarnation own (not_turned x (each_passed x (inl refl)))))
          rises.1 (λ other among. each_passed other (inr among))
