-- A run over stores that are not new goes on by the start of each node, to what the nodes keep then.
use Rattle.std.proofs.Common.{◌≡◌, ℕ, zero, suc, ◌+◌, ◌<◌, ◌≤◌, Bool, true, false, List, [], ◌∷◌, ◌++◌, refl, sym, ap, subst, ◌∙◌, inl, inr, arith, eqb-true}
use Rattle.std.specs.Prelude.{reverse, ◌==◌, if◌then◌else◌}
use Rattle.std.proofs.lemmas.Bool.{cases_lt}
use Rattle.mc_model.specs.synod.Lists.{In}
use Rattle.mc_model.specs.node.Input.{Input, Restart}
use Rattle.mc_model.specs.node.Setup.{Setup}
use Rattle.mc_model.specs.cluster.Steps.{Cluster, setup_of}
use Rattle.mc_model.specs.cluster.World.{changed}
use Rattle.mc_laws.proofs.invariant.Growth.{changed_here}
use Rattle.node_model.specs.Kept.{Kept}
use Rattle.node_model.specs.Outputs.{Stepped, leaves}
use Rattle.node_model.specs.Stepped.{opened_new, restarted, stepped}
use Rattle.node_laws.specs.Clusters.{KeptCluster, MayHappen, NodeInput, comes_to, kept_reached}
use Rattle.journal_laws.specs.OldStores.{AreLeft, kept_opened, openings}
use Rattle.journal_laws.specs.Parts.{LeadTo}

-- ---- nodes that start anew

pub restart_step : (setup : Setup) (k : Kept) (lost : ℕ) → stepped setup k (Restart lost) ≡ leaves (restarted setup k lost)
restart_step setup k lost = by_up k.up
  where
    by_up : (up : Bool) → (if up then leaves (restarted setup k lost) else leaves (restarted setup k lost)) ≡ leaves (restarted setup k lost)
    by_up true = refl
    by_up false = refl

-- what another node keeps stays
stays : (kept : ℕ → Kept) (node : ℕ) (new : Kept) (other : ℕ) → (other ≡ node → ⊥) → changed kept node new other ≡ kept other
stays kept node new other apart = by_test (other == node) refl
  where
    by_test : (b : Bool) → (other == node) ≡ b → changed kept node new other ≡ kept other
    by_test true test = absurd (apart (eqb-true other node test))
    by_test false test = ap (λ (b : Bool). if b then new else kept other) test

-- a node to which nothing came keeps what it opened with
kept_untouched : (cluster : Cluster) (node : ℕ) (inputs : List NodeInput) → ((input : Input) → In (comes_to node input) inputs → ⊥) →
    (kept_reached cluster inputs).kept node ≡ opened_new (setup_of cluster node)
kept_untouched cluster node [] none = refl
kept_untouched cluster node (newest ∷ older) none =
    stays (kept_reached cluster older).kept newest.node _ node
    (λ same. none newest.input (inl (λ i. record { node = same i; input = newest.input })))
    ∙ kept_untouched cluster node older (λ input among. none input (inr among))

module _ (cluster : Cluster) (inputs : List NodeInput) (fresh : ℕ → Bool) (lost : ℕ → ℕ) (left : AreLeft cluster inputs fresh lost) where
  abbrev old : KeptCluster
  old = kept_reached cluster inputs

  abbrev reached : List NodeInput → KeptCluster
  reached starts = kept_reached cluster (starts ++ inputs)

  -- by what of the nodes before holds, and of one more
  one_more : (P : List NodeInput → Type 0) (count : ℕ) → (fresh (suc count) ≡ true → P (openings fresh lost count)) →
      (fresh (suc count) ≡ false → P (comes_to (suc count) (Restart (lost (suc count))) ∷ openings fresh lost count)) → P (openings fresh lost (suc count))
  one_more P count new anew = by_test (fresh (suc count)) refl
    where
      by_test : (b : Bool) → fresh (suc count) ≡ b → P (openings fresh lost (suc count))
      by_test true test =
          subst (λ (b : Bool). P (if b then openings fresh lost count else comes_to (suc count) (Restart (lost (suc count))) ∷ openings fresh lost count))
          (sym test) (new test)
      by_test false test =
          subst (λ (b : Bool). P (if b then openings fresh lost count else comes_to (suc count) (Restart (lost (suc count))) ∷ openings fresh lost count))
          (sym test) (anew test)

  same_packets : (count : ℕ) → (reached (openings fresh lost count)).packets ≡ old.packets
  same_packets zero = refl
  same_packets (suc count) =
      one_more (λ starts. (reached starts).packets ≡ old.packets) count (λ new. same_packets count)
      (λ anew.
      ap (λ (step : Stepped). reverse step.outputs.packets ++ (reached (openings fresh lost count)).packets)
      (restart_step (setup_of cluster (suc count)) ((reached (openings fresh lost count)).kept (suc count)) (lost (suc count)))
      ∙ same_packets count)

  beyond : (count node : ℕ) → count < node → (reached (openings fresh lost count)).kept node ≡ old.kept node
  beyond zero node above = refl
  beyond (suc count) node above =
      one_more (λ starts. (reached starts).kept node ≡ old.kept node) count (λ new. beyond count node (omega (arith, above)))
      (λ anew.
      stays (reached (openings fresh lost count)).kept (suc count) _ node (λ same. omega (arith, above, same))
      ∙ beyond count node (omega (arith, above)))

  -- the node that starts last
  opened_last : (count : ℕ) → (reached (openings fresh lost (suc count))).kept (suc count) ≡ kept_opened cluster inputs fresh lost (suc count)
  opened_last count =
      let node = suc count in
      let setup = setup_of cluster node in
      let before = reached (openings fresh lost count) in
      let was : before.kept node ≡ old.kept node = beyond count node (omega arith) in
      one_more (λ starts. (reached starts).kept node ≡ kept_opened cluster inputs fresh lost node) count
      (λ new.
      was
      ∙ kept_untouched cluster node inputs (λ input among. left.untouched node input new among)
      ∙ sym (ap (λ (b : Bool). if b then opened_new setup else restarted setup (old.kept node) (lost node)) new))
      (λ anew.
      changed_here before.kept node (stepped setup (before.kept node) (Restart (lost node))).kept
      ∙ ap (λ (step : Stepped). step.kept) (restart_step setup (before.kept node) (lost node))
      ∙ ap (λ (k : Kept). restarted setup k (lost node)) was
      ∙ sym (ap (λ (b : Bool). if b then opened_new setup else restarted setup (old.kept node) (lost node)) anew))

  opened : (count node : ℕ) → 1 ≤ node → node ≤ count → (reached (openings fresh lost count)).kept node ≡ kept_opened cluster inputs fresh lost node
  opened zero node least most = absurd (omega (arith, least, most))
  opened (suc count) node least most = elim (cases_lt node (suc count)) [
    | inl below ↦ one_more (λ starts. (reached starts).kept node ≡ kept_opened cluster inputs fresh lost node) count
        (λ new. opened count node least (omega (arith, below)))
        (λ anew.
        stays (reached (openings fresh lost count)).kept (suc count) _ node (λ same. omega (arith, below, same))
        ∙ opened count node least (omega (arith, below)))
    | inr above ↦ (let same : suc count ≡ node = omega (arith, above, most) in
        subst (λ (n : ℕ). (reached (openings fresh lost (suc count))).kept n ≡ kept_opened cluster inputs fresh lost n) same (opened_last count))
  ]

  starts_may : (count : ℕ) → count ≤ cluster.nodes → MayHappen cluster (openings fresh lost count ++ inputs)
  starts_may zero few = left.may
  starts_may (suc count) few =
      one_more (λ starts. MayHappen cluster (starts ++ inputs)) count (λ new. starts_may count (omega (arith, few)))
      (λ anew. (
        record { least = omega arith; most = few; few = left.few },
        record {},
        subst (λ (k : Kept). k.incarnation + lost (suc count) < 9999) (sym (beyond count (suc count) (omega arith)))
            (left.within (suc count) (omega arith, few) anew),
        record {},
        starts_may count (omega (arith, few)),
      ))

-- these inputs lead the cluster to what its nodes keep as they have opened, and to no packet that has a number
pub leads_over : (cluster : Cluster) (inputs : List NodeInput) (fresh : ℕ → Bool) (lost : ℕ → ℕ) → AreLeft cluster inputs fresh lost →
    LeadTo cluster (kept_reached cluster inputs).packets (openings fresh lost cluster.nodes ++ inputs) (kept_opened cluster inputs fresh lost) []
leads_over cluster inputs fresh lost left = record {
  may = starts_may cluster inputs fresh lost left cluster.nodes (omega arith);
  is_kept = λ node within. opened cluster inputs fresh lost left cluster.nodes node within.0 within.1;
  are_sent = same_packets cluster inputs fresh lost left cluster.nodes;
}
