-- The statements of a list of steps, one after the other.
use Rattle.std.proofs.Common.{◌≡◌, ◌⊎◌, ℕ, zero, suc, ◌+◌, ◌<◌, ◌≤◌, List, [], ◌∷◌, ◌++◌, length, map, take, get_or, flat_map, Option}
use Rattle.std.proofs.Common.{Some, None, Ok, Err, refl, sym, ap, subst, ◌∙◌, inl, inr, arith}
use Rattle.std.specs.List.{enumerate_from, slice_get}
use Rattle.std.proofs.lemmas.List.{append-nil, flat_map_more, length-take-le, take_all, take_more}
use Rattle.std.proofs.lemmas.List.Concat.{flat_map-append}
use Rattle.std.proofs.lemmas.List.Folds.{flat_map-map}
use Rattle.mc_model.specs.message.Decree.{Decree, Final}
use Rattle.mc_model.specs.message.Chain.{final_in}
use Rattle.mc_model.specs.synod.Lists.{In}
use Rattle.mc_model.specs.cluster.Fate.{shown_by}
use Rattle.mc_model.specs.node.Outputs.{Outputs}
use Rattle.mc_parts.proofs.Membership.{at_place, in_either}
use Rattle.node_laws.specs.Clusters.{RepliesWith, StatesFinal}
use Rattle.node_laws.proofs.invariant.Orders.{in_append}
use Rattle.world.specs.declared.given.Given.{Given}
use Rattle.world_runs.specs.Statements.{AreTold, Agree, IsTold, Statement, TellsBy, stated_at, stated_by, stated_of, stated_received}
use Rattle.world_runs.specs.Statements.{stated_replied, stated_shown, statements_of, with_state}
use Rattle.world_runs.specs.Traces.{Answer, HasOneFate, told_in}

-- ---- lists that are put together

-- one more of them
pub one_more : {A B : Type 0} (f : A → List B) (xs : List A) (place : ℕ) (x : A) (old before after : List B) → place < length xs → x ≡ get_or xs place x →
    before ≡ old ++ flat_map f (take place xs) → after ≡ before ++ f x → after ≡ old ++ flat_map f (take (place + 1) xs)
one_more {A} {B} f xs place x old before after below is so_far more =
    let taken : take (place + 1) xs ≡ take place xs ++ x ∷ [] = take_more xs place x below ∙ ap (λ (y : A). take place xs ++ y ∷ []) (sym is) in
    more
    ∙ ap (λ (ys : List B). ys ++ f x) so_far
    ∙ flat_map_more f old (take place xs) x
    ∙ ap (λ (ys : List A). old ++ flat_map f ys) (sym taken)

-- all of them
pub all_told : {A B C : Type 0} (f : B → List C) (g : A → B) (xs : List A) (count : ℕ) (old now : List C) → length xs ≤ count →
    now ≡ old ++ flat_map (λ x. f (g x)) (take count xs) → now ≡ old ++ flat_map f (map g xs)
all_told {A} {B} {C} f g xs count old now past is =
    is
    ∙ ap (λ (ys : List A). old ++ flat_map (λ x. f (g x)) ys) (take_all count xs past)
    ∙ ap (λ (ys : List C). old ++ ys) (sym (flat_map-map f g xs))

-- with their places
placed-append : {A : Type 0} (n : ℕ) (xs ys : List A) → enumerate_from n (xs ++ ys) ≡ enumerate_from n xs ++ enumerate_from (n + length xs) ys
placed-append {A} n [] ys = ap (λ (m : ℕ). enumerate_from m ys) (omega arith)
placed-append {A} n (x ∷ xs) ys =
    let next : (n + 1) + length xs ≡ n + suc (length xs) = omega arith in
    ap (λ (zs : List (ℕ × A)). (n, x) ∷ zs)
    (placed-append (n + 1) xs ys ∙ ap (λ (m : ℕ). enumerate_from (n + 1) xs ++ enumerate_from m ys) next)

-- one more answer
pub told_next : (answers : List Answer) (place : ℕ) (answer : Answer) (before after : List Statement) → place < length answers →
    answer ≡ get_or answers place answer →
    before ≡ flat_map stated_by (enumerate_from 0 (take place answers)) → after ≡ before ++ stated_at place (told_in answer) →
    after ≡ flat_map stated_by (enumerate_from 0 (take (place + 1) answers))
told_next answers place answer before after below is so_far more =
    let taken : take (place + 1) answers ≡ take place answers ++ answer ∷ [] =
    take_more answers place answer below ∙ ap (λ (other : Answer). take place answers ++ other ∷ []) (sym is) in
    let count : length (take place answers) ≡ place = length-take-le place answers (omega (arith, below)) in
    let placed : enumerate_from 0 (take place answers ++ answer ∷ []) ≡ enumerate_from 0 (take place answers) ++ (place, answer) ∷ [] =
    placed-append 0 (take place answers) (answer ∷ [])
    ∙ ap (λ (m : ℕ). enumerate_from 0 (take place answers) ++ (m, answer) ∷ []) (omega (arith, count)) in
    more
    ∙ ap (λ (told : List Statement). told ++ stated_at place (told_in answer)) so_far
    ∙ ap (λ (told : List Statement). flat_map stated_by (enumerate_from 0 (take place answers)) ++ told) (sym (append-nil (stated_at place (told_in answer))))
    ∙ sym (flat_map-append stated_by (enumerate_from 0 (take place answers)) ((place, answer) ∷ []))
    ∙ ap (flat_map stated_by) (sym placed)
    ∙ ap (λ (those : List Answer). flat_map stated_by (enumerate_from 0 those)) (sym taken)

-- what is refused tells nothing
pub nothing_told : (place : ℕ) (answer : Answer) → ((given : Given) → answer ≡ Ok given → ⊥) → stated_at place (told_in answer) ≡ []
nothing_told place (Ok given) refused = absurd (refused given refl)
nothing_told place (Err fault) refused = refl

-- ---- a member of such a list

record IsPartOf {A B : Type 0} (f : A → List B) (xs : List A) (y : B) : Type 0 where
  from : A
  among : In from xs
  within : In y (f from)

part_of : {A B : Type 0} (f : A → List B) (xs : List A) (y : B) → In y (flat_map f xs) → IsPartOf f xs y
part_of f [] y none = absurd none
part_of f (x ∷ xs) y is = elim (in_either y (f x) (flat_map f xs) is) [
  | inl first ↦ record { from = x; among = inl refl; within = first }
  | inr later ↦ let it = part_of f xs y later in record { from = it.from; among = inr it.among; within = it.within }
]

part_in : {A B : Type 0} (f : A → List B) (xs : List A) (x : A) (y : B) → In x xs → In y (f x) → In y (flat_map f xs)
part_in f [] x y none within = none
part_in {A} f (first ∷ xs) x y (inl same) within = in_append y (f first) (flat_map f xs) (inl (subst (λ (z : A). In y (f z)) same within))
part_in f (first ∷ xs) x y (inr later) within = in_append y (f first) (flat_map f xs) (inr (part_in f xs x y later within))

-- with its place
placed_get : {A : Type 0} (n place : ℕ) (x : A) (xs : List A) → In (place, x) (enumerate_from n xs) → (k : ℕ) × (place ≡ n + k) × (slice_get xs k ≡ Some x)
placed_get n place x [] none = absurd none
placed_get {A} n place x (y ∷ xs) (inl same) =
    let here = ap (λ (p : ℕ × A). p.0) same in
    (0, omega (arith, here), ap (λ (p : ℕ × A). Some p.1) (sym same))
placed_get n place x (y ∷ xs) (inr later) =
    let it = placed_get (n + 1) place x xs later in
    let at = it.1 in
    (suc it.0, omega (arith, at), it.2)

get_placed : {A : Type 0} (n k : ℕ) (x : A) (xs : List A) → slice_get xs k ≡ Some x → In (n + k, x) (enumerate_from n xs)
get_placed n k x [] is = absurd cc
get_placed {A} n zero x (y ∷ xs) is = let same : y ≡ x = cc in let at : n + zero ≡ n = omega arith in inl (λ i. (at i, sym same i))
get_placed {A} n (suc k) x (y ∷ xs) is =
    let at : (n + 1) + k ≡ n + suc k = omega arith in
    inr (subst (λ (m : ℕ). In (m, x) (enumerate_from (n + 1) xs)) at (get_placed (n + 1) k x xs is))

-- ---- what one thing tells

-- what a chain tells is that it ends in a final state
record IsOf (step id : ℕ) (chain : List Decree) (one : Statement) : Type 0 where
  step_is : one.step ≡ step
  id_is : one.id ≡ id
  chain_is : one.chain ≡ chain
  state_is : final_in chain ≡ Some one.state

with_of : (step id : ℕ) (chain : List Decree) (final : Option Final) (one : Statement) → final_in chain ≡ final →
    In one (with_state step id chain final) →
    IsOf step id chain one
with_of step id chain None one is none = absurd none
with_of step id chain (Some state) one is (inl same) = record {
  step_is = ap (λ (s : Statement). s.step) same;
  id_is = ap (λ (s : Statement). s.id) same;
  chain_is = ap (λ (s : Statement). s.chain) same;
  state_is = is ∙ ap (λ (s : Statement). Some s.state) (sym same);
}
with_of step id chain (Some state) one is (inr none) = absurd none

of_with : (one : Statement) (final : Option Final) → final ≡ Some one.state → In one (with_state one.step one.id one.chain final)
of_with one None is = absurd cc
of_with one (Some state) is = let same : state ≡ one.state = cc in inl (λ i. record { id = one.id; state = sym same i; chain = one.chain; step = one.step })

shown_of : (step id : ℕ) (shown : Option (List Decree)) (one : Statement) → In one (stated_shown step id shown) →
    (chain : List Decree) × (shown ≡ Some chain) × IsOf step id chain one
shown_of step id None one none = absurd none
shown_of step id (Some chain) one is = (chain, refl, with_of step id chain (final_in chain) one refl is)

-- ---- what a step tells

tells_chain : (outputs : Outputs) (id : ℕ) (chain : List Decree) (step : ℕ) (one : Statement) → IsOf step id chain one →
    RepliesWith outputs id chain ⊎ In (record { id = id; chain = chain }) outputs.receipts → TellsBy outputs one.id one.state one.chain
tells_chain outputs id chain step one is tells =
    subst (λ (n : ℕ). TellsBy outputs n one.state one.chain) (sym is.id_is) (record {
      says = record { chain = chain; tells = tells; state = is.state_is };
      chain_is = sym is.chain_is;
    })

told_at : (step : ℕ) (outputs : Outputs) (one : Statement) → In one (stated_at step outputs) → (one.step ≡ step) × TellsBy outputs one.id one.state one.chain
told_at step outputs one is = elim (in_either one (flat_map (stated_replied step) outputs.replies) (flat_map (stated_received step) outputs.receipts) is) [
  | inl replied ↦
      let it = part_of (stated_replied step) outputs.replies one replied in
      let shown = shown_of step it.from.id (shown_by it.from.answer) one it.within in (
        shown.2.step_is,
        tells_chain outputs it.from.id shown.0 step one shown.2
            (inl (record { reply = it.from; among = it.among; about = refl; shown = shown.1 })),
      )
  | inr received ↦
      let it = part_of (stated_received step) outputs.receipts one received in
      let of = with_of step it.from.id it.from.chain (final_in it.from.chain) one refl it.within in
      (of.step_is, tells_chain outputs it.from.id it.from.chain step one of (inr it.among))
]

at_told : (outputs : Outputs) (one : Statement) → (says : StatesFinal outputs one.id one.state) → says.chain ≡ one.chain → In one (stated_at one.step outputs)
at_told outputs one says chain_is = elim says.tells [
  | inl reply ↦
      in_append one (flat_map (stated_replied one.step) outputs.replies) (flat_map (stated_received one.step) outputs.receipts)
      (inl (part_in (stated_replied one.step) outputs.replies reply.reply one reply.among
      (subst (λ (o : Option (List Decree)). In one (stated_shown one.step reply.reply.id o)) (sym (reply.shown ∙ ap Some chain_is))
      (subst (λ (n : ℕ). In one (stated_of one.step n one.chain)) (sym reply.about) whole))))
  | inr receipt ↦
      in_append one (flat_map (stated_replied one.step) outputs.replies) (flat_map (stated_received one.step) outputs.receipts)
      (inr (part_in (stated_received one.step) outputs.receipts (record { id = one.id; chain = says.chain }) one receipt
      (subst (λ (c : List Decree). In one (stated_of one.step one.id c)) (sym chain_is) whole)))
]
  where
    whole : In one (stated_of one.step one.id one.chain)
    whole = of_with one (final_in one.chain) (ap final_in (sym chain_is) ∙ says.state)

-- ---- over a list of answers

pub are_told : (answers : List Answer) → AreTold answers
are_told answers one = (there, back)
  where
    there : In one (statements_of answers) → IsTold answers one
    there is =
        let it = part_of stated_by (enumerate_from 0 answers) one is in
        let told = told_at it.from.0 (told_in it.from.1) one it.within in
        let at = placed_get 0 it.from.0 it.from.1 answers it.among in
        let place : at.0 ≡ one.step = let here = at.1 in let step = told.0 in omega (arith, here, step) in
        record {
          answer = it.from.1;
          at = subst (λ (k : ℕ). slice_get answers k ≡ Some it.from.1) place at.2;
          tells = told.1;
        }

    back : IsTold answers one → In one (statements_of answers)
    back told = part_in stated_by (enumerate_from 0 answers) (one.step, told.answer) one
        (let same : 0 + one.step ≡ one.step = omega arith in
        subst (λ (m : ℕ). In (m, told.answer) (enumerate_from 0 answers)) same (get_placed 0 one.step told.answer answers told.at))
        (at_told (told_in told.answer) one told.tells.says told.tells.chain_is)

pub agree : (answers : List Answer) → HasOneFate answers → Agree (statements_of answers)
agree answers one_fate one other is also same =
    let here = (are_told answers one).0 is in
    let there = (are_told answers other).0 also in
    one_fate here.answer there.answer one.id one.state other.state (at_place answers one.step here.answer here.at)
    (at_place answers other.step there.answer there.at) here.tells.says
    (subst (λ (n : ℕ). StatesFinal (told_in there.answer) n other.state) (sym same) there.tells.says)
