-- Of what a cluster of nodes by what they keep gives out one receipt at most is of a message.
use Rattle.std.proofs.Common.{◌≡◌, ℕ, ◌+◌, ◌≤◌, Bool, true, false, List, [], ◌∷◌, ◌++◌, refl, sym, ap, subst, inl, inr, ◌∙◌, arith}
use Rattle.std.specs.Prelude.{◌==◌, cond, count_by, reverse}
use Rattle.std.proofs.lemmas.Bool.{eqb-true}
use Rattle.std.proofs.lemmas.List.Sorted.{IsPermutation-reverse, sum_by-IsPermutation}
use Rattle.std.proofs.lemmas.List.Sums.{sum_by-append, sum_by-cons}
use Rattle.mc_model.specs.synod.Lists.{In}
use Rattle.mc_model.specs.node.Act.{Act, Reports}
use Rattle.mc_model.specs.node.Outputs.{Outputs, Receipt, receipts_in}
use Rattle.mc_model.specs.cluster.Steps.{AreSteps, Cluster, Step, StepRun, acts_in, by_node}
use Rattle.mc_model.specs.cluster.World.{Deed, World, reached, start}
use Rattle.mc_laws.proofs.step.OneReceipt.{one_receipt}
use Rattle.node_laws.specs.Clusters.{MayHappen, NodeInput, OneOfEach, cluster_outputs, receipts_given, step_outputs}
use Rattle.node_laws.proofs.cluster.Clustered.{clustered}
use Rattle.node_laws.proofs.cluster.NoGrant.{deed_at}
use Rattle.node_laws.proofs.cluster.Stated.{IsDone}

-- ---- the receipts that acts write

abbrev receipts_of : List (ℕ × Act) → List Receipt
receipts_of [] = []
receipts_of (newest ∷ older) = receipts_in (newest.1 ∷ []) ++ receipts_of older

of_a_step : (node : ℕ) (acts : List Act) (behind : List (ℕ × Act)) → receipts_of (by_node node acts ++ behind) ≡ receipts_in acts ++ receipts_of behind
of_a_step node [] behind = refl
of_a_step node (Reports id chain ∷ acts) behind =
    ap (λ (rs : List Receipt). record { id = id; chain = chain } ∷ rs) (of_a_step node acts behind)
of_a_step node (act ∷ acts) behind = of_a_step node acts behind

-- ---- how many of them are of a message

abbrev pub count_of : ℕ → List Receipt → ℕ
count_of id receipts = count_by (λ (receipt : Receipt). receipt.id == id) receipts

abbrev one_if : ℕ → Receipt → ℕ
one_if id receipt = cond (receipt.id == id) 1 0

pub count_both : (id : ℕ) (front back : List Receipt) → count_of id (front ++ back) ≡ count_of id front + count_of id back
count_both id front back = sum_by-append (one_if id) front back

count_back : (id : ℕ) (receipts : List Receipt) → count_of id (reverse receipts) ≡ count_of id receipts
count_back id receipts = sum_by-IsPermutation (one_if id) receipts (reverse receipts) (IsPermutation-reverse receipts)

counts_are : (cluster : Cluster) (id : ℕ) (steps : List Step) →
    count_of id (receipts_given (step_outputs cluster steps)) ≡ count_of id (receipts_of (acts_in steps))
counts_are cluster id [] = refl
counts_are cluster id (newest ∷ older) =
    let those = receipts_in newest.acts in
    count_both id (reverse those) (receipts_given (step_outputs cluster older))
    ∙ ap (λ (n : ℕ). n + count_of id (receipts_given (step_outputs cluster older))) (count_back id those)
    ∙ ap (λ (n : ℕ). count_of id those + n) (counts_are cluster id older)
    ∙ sym (count_both id those (receipts_of (acts_in older)))
    ∙ ap (count_of id) (sym (of_a_step newest.node newest.acts (acts_in older)))

-- of no two of these receipts the message is one
abbrev AreApart : List Receipt → Type 0
AreApart receipts =
    (front : List Receipt) (one : Receipt) (rest : List Receipt) (other : Receipt) → receipts ≡ front ++ one ∷ rest → In other rest → one.id ≡ other.id → ⊥

module _ (id : ℕ) where
  count_first : (first : Receipt) (rest : List Receipt) (is : Bool) → (first.id == id) ≡ is → count_of id (first ∷ rest) ≡ cond is 1 0 + count_of id rest
  count_first first rest is same = sum_by-cons (one_if id) first rest ∙ ap (λ (b : Bool). cond b 1 0 + count_of id rest) same

  none_of : (receipts : List Receipt) → ((one : Receipt) → In one receipts → one.id ≡ id → ⊥) → count_of id receipts ≡ 0
  none_of [] none = refl
  none_of (first ∷ rest) none = by_test (first.id == id) refl (none_of rest (λ one among. none one (inr among)))
    where
      by_test : (is : Bool) → (first.id == id) ≡ is → count_of id rest ≡ 0 → count_of id (first ∷ rest) ≡ 0
      by_test true is others = absurd (none first (inl refl) (eqb-true first.id id is))
      by_test false is others = let here = count_first first rest false is in omega (arith, here, others)

  one_at_most : (receipts : List Receipt) → AreApart receipts → count_of id receipts ≤ 1
  one_at_most [] apart = omega arith
  one_at_most (first ∷ rest) apart =
      by_test (first.id == id) refl
      (one_at_most rest (λ front one behind other split. apart (first ∷ front) one behind other (ap (λ (rs : List Receipt). first ∷ rs) split)))
    where
      by_test : (is : Bool) → (first.id == id) ≡ is → count_of id rest ≤ 1 → count_of id (first ∷ rest) ≤ 1
      by_test true is later =
          let here = count_first first rest true is in
          let others = none_of rest (λ other among same. apart [] first rest other refl among (eqb-true first.id id is ∙ sym same)) in
          omega (arith, here, others)
      by_test false is later = let here = count_first first rest false is in omega (arith, here, later)

-- ---- one of them is written behind what was done before

record IsWritten (acts : List (ℕ × Act)) (one : Receipt) (rest : List Receipt) : Type 0 where
  front : List (ℕ × Act)
  node : ℕ
  behind : List (ℕ × Act)
  split : acts ≡ front ++ (node, Reports one.id one.chain) ∷ behind
  rest_is : receipts_of behind ≡ rest

further : (newest : ℕ × Act) (acts : List (ℕ × Act)) (one : Receipt) (rest : List Receipt) → IsWritten acts one rest → IsWritten (newest ∷ acts) one rest
further newest acts one rest it = record {
  front = newest ∷ it.front;
  node = it.node;
  behind = it.behind;
  split = ap (λ (xs : List (ℕ × Act)). newest ∷ xs) it.split;
  rest_is = it.rest_is;
}

written : (acts : List (ℕ × Act)) (front : List Receipt) (one : Receipt) (rest : List Receipt) → receipts_of acts ≡ front ++ one ∷ rest →
    IsWritten acts one rest
written [] [] one rest is = absurd (cc)
written [] (x ∷ front) one rest is = absurd (cc)
written ((node, Reports id chain) ∷ acts) [] one rest is =
    let heads : ◌≡◌ {A = Receipt} (record { id = id; chain = chain }) one = cc in
    let tails : receipts_of acts ≡ rest = cc in
    record {
      front = [];
      node = node;
      behind = acts;
      split = ap (λ (r : Receipt). (node, Reports r.id r.chain) ∷ acts) heads;
      rest_is = tails;
    }
written ((node, Reports id chain) ∷ acts) (x ∷ front) one rest is =
    let tails : receipts_of acts ≡ front ++ one ∷ rest = cc in
    further (node, Reports id chain) acts one rest (written acts front one rest tails)
written ((node, act) ∷ acts) front one rest is = further (node, act) acts one rest (written acts front one rest is)

-- ---- as deeds

record IsDoneAt (first : World) (node : ℕ) (act : Act) (behind : List (ℕ × Act)) (past : List Deed) : Type 0 where
  newer : List Deed
  split : past ≡ newer ++ deed_at (reached first behind) node act ∷ (reached first behind).past

done_at : (first : World) (front : List (ℕ × Act)) (node : ℕ) (act : Act) (behind : List (ℕ × Act)) →
    IsDoneAt first node act behind (reached first (front ++ (node, act) ∷ behind)).past
done_at first [] node act behind = record { newer = []; split = refl }
done_at first (newest ∷ front) node act behind =
    let it = done_at first front node act behind in
    record { newer = _ ∷ it.newer; split = λ i. deed_at (reached first (front ++ (node, act) ∷ behind)) newest.0 newest.1 ∷ it.split i }

later : (first : World) (newest : ℕ × Act) (acts : List (ℕ × Act)) (act : Act) → IsDone (reached first acts) act → IsDone (reached first (newest ∷ acts)) act
later first newest acts act it = record { deed = it.deed; past = inr it.past; act_is = it.act_is }

done : (first : World) (acts : List (ℕ × Act)) (one : Receipt) → In one (receipts_of acts) → IsDone (reached first acts) (Reports one.id one.chain)
done first [] one none = absurd none
done first ((node, Reports id chain) ∷ acts) one (inl same) = record {
  deed = deed_at (reached first acts) node (Reports id chain);
  past = inl refl;
  act_is = ap (λ (r : Receipt). Reports r.id r.chain) (sym same);
}
done first ((node, Reports id chain) ∷ acts) one (inr among) =
    later first (node, Reports id chain) acts (Reports one.id one.chain) (done first acts one among)
done first ((node, act) ∷ acts) one among = later first (node, act) acts (Reports one.id one.chain) (done first acts one among)

-- ---- so one of them at most is of a message

are_apart : (cluster : Cluster) (steps : List Step) → AreSteps cluster (start cluster.nodes cluster.serials) steps → AreApart (receipts_of (acts_in steps))
are_apart cluster steps are front one rest other receipts among same =
    let run : StepRun = record { cluster = cluster; steps = steps; are = are } in
    let begins : World = start cluster.nodes cluster.serials in
    let it = written (acts_in steps) front one rest receipts in
    let before = done begins it.behind other (subst (In other) (sym it.rest_is) among) in
    let now = done_at begins it.front it.node (Reports one.id one.chain) it.behind in
    one_receipt run before.deed (deed_at (reached begins it.behind) it.node (Reports one.id one.chain)) one.id other.chain one.chain
    (record {
      newer = now.newer;
      older = (reached begins it.behind).past;
      split = ap (λ (acts : List (ℕ × Act)). (reached begins acts).past) it.split ∙ now.split;
      before = before.past;
    })
    (before.act_is ∙ ap (λ (id : ℕ). Reports id other.chain) (sym same))
    refl

pub one_of_each : (cluster : Cluster) (inputs : List NodeInput) → MayHappen cluster inputs → OneOfEach (receipts_given (cluster_outputs cluster inputs))
one_of_each cluster inputs may id =
    let run = clustered cluster inputs may in
    let given = ap (λ (outputs : List Outputs). count_of id (receipts_given outputs)) run.outputs ∙ counts_are cluster id run.steps in
    let most = one_at_most id (receipts_of (acts_in run.steps)) (are_apart cluster run.steps run.are) in
    omega (arith, given, most)
