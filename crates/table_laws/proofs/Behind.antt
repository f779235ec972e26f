-- The rounds of the Tolds behind rounds that run side by side.
use Rattle.std.proofs.Common.{◌≡◌, ℕ, Bool, true, false, List, [], ◌∷◌, ◌++◌, flat_map, length, map, refl, ap, subst, ◌∙◌, arith, ◌≤◌, ◌*◌}
use Rattle.std.specs.Prelude.{if◌then◌else◌, nat_lt}
use Rattle.std.specs.Map.{keys_of}
use Rattle.mc_model.specs.node.Setup.{Setup}
use Rattle.node_model.specs.Kept.{Kept}
use Rattle.table_laws.specs.Alone.{alone}
use Rattle.table_laws.specs.Tables.{TableNode, tells}
use Rattle.table_laws.proofs.Apart.{AreApart, AreListed, Each, IsApart, IsSameApart, Next, apart_then, listed_as}
use Rattle.table_laws.proofs.Leading.{Leads, leads_most, leads_same, leads_then, settling}
use Rattle.table_laws.proofs.SideBySide.{Ended, Goes, Rests, RestsIf, afters, all_end, ballot, begun, prepares, receipts, told_next, untouched}
use Rattle.table_laws.proofs.Tellings.{none_behind_told}

module _ (first validity : ℕ) (t : TableNode) where
  abbrev setup : Setup
  setup = alone first validity

  abbrev pub afters_of : List Next → List Next
  afters_of rounds = flat_map (afters first validity t) rounds

  abbrev AfterIf : Bool → Next → List Next
  AfterIf test next = if test then told_next first validity t next ∷ [] else []

  -- they are of the same messages
  pub apart_afters : (id : ℕ) (rounds : List Next) → IsApart id rounds → IsApart id (afters_of rounds)
  apart_afters id [] apart = tt
  apart_afters id (round ∷ rounds) apart = by_test (tells round.old round.decree) (apart_afters id rounds apart.1)
    where
      by_test : (test : Bool) → IsApart id (afters_of rounds) → IsApart id (AfterIf test round ++ afters_of rounds)
      by_test true rest = (apart.0, rest)
      by_test false rest = rest

  are_apart : (rounds : List Next) → AreApart rounds → AreApart (afters_of rounds)
  are_apart [] apart = tt
  are_apart (round ∷ rounds) apart = by_test (tells round.old round.decree) (are_apart rounds apart.1)
    where
      by_test : (test : Bool) → AreApart (afters_of rounds) → AreApart (AfterIf test round ++ afters_of rounds)
      by_test true rest = (apart_afters round.id rounds apart.0, rest)
      by_test false rest = rest

  are_listed : (ids : List ℕ) (rounds : List Next) → AreListed ids rounds → AreListed ids (afters_of rounds)
  are_listed ids [] listed = tt
  are_listed ids (round ∷ rounds) listed = by_test (tells round.old round.decree) (are_listed ids rounds listed.1)
    where
      by_test : (test : Bool) → AreListed ids (afters_of rounds) → AreListed ids (AfterIf test round ++ afters_of rounds)
      by_test true rest = (listed.0, rest)
      by_test false rest = rest

  few_afters : (rounds : List Next) → length (afters_of rounds) ≤ length rounds
  few_afters [] = omega arith
  few_afters (round ∷ rounds) = by_test (tells round.old round.decree) (few_afters rounds)
    where
      by_test : (test : Bool) → length (afters_of rounds) ≤ length rounds → length (AfterIf test round ++ afters_of rounds) ≤ length (round ∷ rounds)
      by_test true few = omega (arith, few)
      by_test false few = omega (arith, few)

  -- each has begun once the vote before it has come
  goes_afters : (k : Kept) (rounds : List Next) → Each (Ended first validity t) k rounds →
      Each (Goes t (begun first validity t) (untouched first validity t)) k (afters_of rounds)
  goes_afters k [] each = tt
  goes_afters k (round ∷ rounds) each = by_test (tells round.old round.decree) each.0 (goes_afters k rounds each.1)
    where
      by_test : (test : Bool) → RestsIf first validity t test k round → Each (Goes t (begun first validity t) (untouched first validity t)) k (afters_of rounds) →
          Each (Goes t (begun first validity t) (untouched first validity t)) k (AfterIf test round ++ afters_of rounds)
      by_test true goes rest = (goes, rest)
      by_test false rests rest = rest

  -- and nothing follows it
  none_after : (rounds : List Next) → afters_of (afters_of rounds) ≡ []
  none_after [] = refl
  none_after (round ∷ rounds) = by_test (tells round.old round.decree) (none_after rounds)
    where
      by_test : (test : Bool) → afters_of (afters_of rounds) ≡ [] → afters_of (AfterIf test round ++ afters_of rounds) ≡ []
      by_test true rest =
          ap (λ (last : Bool). AfterIf last (told_next first validity t round) ++ afters_of (afters_of rounds)) (none_behind_told t (round.decree ∷ round.old)) ∙ rest
      by_test false rest = rest

  rest_after : (k : Kept) (rounds : List Next) → Each (Ended first validity t) k (afters_of rounds) → Each (Rests first validity t) k (afters_of rounds)
  rest_after k [] each = tt
  rest_after k (round ∷ rounds) each = by_test (tells round.old round.decree) (rest_after k rounds) each
    where
      by_test : (test : Bool) → (Each (Ended first validity t) k (afters_of rounds) → Each (Rests first validity t) k (afters_of rounds)) →
          Each (Ended first validity t) k (AfterIf test round ++ afters_of rounds) → Each (Rests first validity t) k (AfterIf test round ++ afters_of rounds)
      by_test true rest each = (
        subst (λ (last : Bool). RestsIf first validity t last k (told_next first validity t round)) (none_behind_told t (round.decree ∷ round.old)) each.0,
        rest each.1,
      )
      by_test false rest each = rest each

  wider : (rounds : List Next) (k new : Kept) → IsSameApart (afters_of rounds) k new → IsSameApart rounds k new
  wider rounds k new same = record {
    up = same.up;
    incarnation = same.incarnation;
    clock = same.clock;
    serial = same.serial;
    ticket = same.ticket;
    held = same.held;
    ids = same.ids;
    message = λ other apart. same.message other (apart_afters other rounds apart);
    records = λ other apart place. same.records other (apart_afters other rounds apart) place;
  }

  -- ---- both, from the starts to the ends

  pub record BothEnd (rounds : List Next) (k : Kept) : Type 0 where
    pub mid : Kept
    pub new : Kept
    pub leads : Leads setup (8 * length rounds) (settling k (map (prepares first validity t) rounds) [] [])
        (settling new [] [] (flat_map (receipts first validity t) rounds ++ flat_map (receipts first validity t) (afters_of rounds)))
    pub ended : Each (Ended first validity t) mid rounds
    pub told : Each (Rests first validity t) new (afters_of rounds)
    pub later : IsSameApart (afters_of rounds) mid new
    pub same : IsSameApart rounds k new

  pub both_end : nat_lt 0 (ballot first validity t) ≡ true → (rounds : List Next) (k : Kept) → k.up ≡ true → k.held ≡ [] → AreApart rounds →
      AreListed (keys_of k.messages) rounds → Each (Goes t (begun first validity t) (untouched first validity t)) k rounds → BothEnd rounds k
  both_end above rounds k up held apart listed each =
      let one = all_end first validity t above rounds k [] up held apart listed each in
      let two = all_end first validity t above (afters_of rounds) one.new (flat_map (receipts first validity t) rounds) (one.same.up ∙ up) (one.same.held ∙ held)
      (are_apart rounds apart)
      (listed_as _ _ (afters_of rounds) one.same.ids (are_listed (keys_of k.messages) rounds listed)) (goes_afters one.new rounds one.each) in
      let few = few_afters rounds in
      record {
        mid = one.new;
        new = two.new;
        leads = leads_most setup (8 * length rounds) _ _ (omega (arith, few))
            (leads_then setup _ _ _ one.leads (leads_then setup _ _ _ two.leads
            (leads_same setup _ _ (λ i. settling two.new (map (prepares first validity t) (none_after rounds i)) []
            (flat_map (receipts first validity t) rounds ++ flat_map (receipts first validity t) (afters_of rounds))))));
        ended = one.each;
        told = rest_after two.new rounds two.each;
        later = two.same;
        same = apart_then rounds k one.new two.new one.same (wider rounds one.new two.new two.same);
      }
