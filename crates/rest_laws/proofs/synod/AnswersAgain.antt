-- The acts of the revival may be done where they stand, if an acceptor that dropped is not silent.
use Rattle.std.proofs.Common.{◌≡◌, ℕ, zero, suc, false, None, refl, ap, arith, inl, inr}
use Rattle.mc_model.specs.synod.OneSlot.{Vote}
use Rattle.mc_model.specs.synod.Majority.{HoldsOf, count}
use Rattle.rest_laws.specs.Miniature.{AreActs}
use Rattle.rest_laws.specs.AnswersAgain.{first_two, last_two, answers_again}

of_first : (P : ℕ → Type 0) → P 1 → P 2 → HoldsOf 3 first_two P
of_first P one two zero least most passes = absurd (cc)
of_first P one two (suc zero) least most passes = one
of_first P one two (suc (suc zero)) least most passes = two
of_first P one two (suc (suc (suc node))) least most passes = absurd (cc)

of_last : (P : ℕ → Type 0) → P 2 → P 3 → HoldsOf 3 last_two P
of_last P two three zero least most passes = absurd (cc)
of_last P two three (suc zero) least most passes = absurd (cc)
of_last P two three (suc (suc zero)) least most passes = two
of_last P two three (suc (suc (suc zero))) least most passes = three
of_last P two three (suc (suc (suc (suc node)))) least most passes = absurd (omega (arith, most))

two_of_first : count first_two 3 ≡ 2
two_of_first = refl

two_of_last : count last_two 3 ≡ 2
two_of_last = refl

pub may : AreActs false 3 answers_again
may = (
  refl,
  (
    record { test = last_two; most = omega (arith, two_of_last); each = of_last _ (inr (inl refl)) (inl refl) },
    (
      (tt, omega arith, inl refl),
      (
        (tt, omega arith, inl refl),
        (
          (
            (λ other among. elim among [
              | inl same ↦ let ballots : 2 ≡ 1 = ap (λ (v : Vote). v.ballot) same in absurd (omega (arith, ballots))
              | inr none ↦ absurd none
            ]),
            record {
              highest = None;
              majority = record {
                test = last_two;
                most = omega (arith, two_of_last);
                each = of_last _ (record { report = None; made = inr (inl refl); within = tt }) (record { report = None; made = inl refl; within = tt });
              };
              carried = tt;
            },
          ),
          (
            (tt, omega arith),
            (
              (tt, omega arith),
              (
                tt,
                (
                  refl,
                  (
                    record { test = first_two; most = omega (arith, two_of_first); each = of_first _ (inr (inl refl)) (inl refl) },
                    (
                      (tt, omega arith, inl refl),
                      (
                        (tt, omega arith, inl refl),
                        (
                          (
                            (λ other among. absurd among),
                            record {
                              highest = None;
                              majority = record {
                                test = first_two;
                                most = omega (arith, two_of_first);
                                each = of_first _ (record { report = None; made = inr (inl refl); within = tt }) (record { report = None; made = inl refl; within = tt });
                              };
                              carried = tt;
                            },
                          ),
                          (
                            (tt, omega arith),
                            (
                              (tt, omega arith),
                              tt,
                            ),
                          ),
                        ),
                      ),
                    ),
                  ),
                ),
              ),
            ),
          ),
        ),
      ),
    ),
  ),
)
