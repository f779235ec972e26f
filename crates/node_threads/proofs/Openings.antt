-- Nodes that opened over their stores, one after the other, and where their journal begins.
use Rattle.std.proofs.Common.{◌≡◌, ℕ, ◌+◌, ◌-◌, ◌<◌, Bool, true, false, List, [], ◌∷◌, ◌++◌, length, Option, Some}
use Rattle.std.proofs.Common.{sym, ap, subst, ◌∙◌, inl, inr, arith, append_assoc, length-append}
use Rattle.std.specs.Prelude.{if◌then◌else◌}
use Rattle.std.specs.List.{slice_get}
use Rattle.std.proofs.lemmas.Option.{slice_get_within}
use Rattle.mc_model.specs.node.Setup.{Setup}
use Rattle.mc_model.specs.cluster.Steps.{Cluster, setup_of}
use Rattle.mc_parts.proofs.Membership.{at_place}
use Rattle.node_model.specs.Kept.{Kept}
use Rattle.node_model.specs.Stepped.{opened_new, restarted}
use Rattle.node_laws.specs.Clusters.{NodeInput, kept_reached}
use Rattle.sim_net.proofs.Growing.{get_push}
use Rattle.stable_store.specs.Stored.{Stored}
use Rattle.node_core.specs.declared.life.Life.{Life}
use Rattle.node_core.specs.Keeping.{kept_of}
use Rattle.node_core.specs.Listing.{ListsRecorded}
use Rattle.node_core.specs.Nodes.{OpensOver, Standing}
use Rattle.node_core.specs.Setups.{setup_with}
use Rattle.journal_parts.specs.OldStores.{kept_opened}
use Rattle.journal_parts.specs.Openings.{IsAsLeft}
use Rattle.journal_parts.proofs.Openings.{IsSettled, keeps_as_left, keeps_as_new}
use Rattle.journal_parts.proofs.Recorded.{lists_reached}
use Rattle.journal_parts.proofs.GoingOn.{place_in, there_is}
use Rattle.node_threads.specs.Actions.{AllBegin}
use Rattle.node_threads.specs.Defaults.{Defaults}
use Rattle.node_threads.specs.Openings.{AreAsLeft, AreNew, AreOpened, AreUndoubted, IsOpened}
use Rattle.node_threads.specs.Openings.{StandInOrder, cluster_of, kept_at, kept_or}

-- ---- one after the other

-- what was there before stands before the end
pub before_end : {A : Type 0} (xs : List A) (x y : A) (place : ℕ) → slice_get (xs ++ x ∷ []) place ≡ Some y → (place ≡ length xs → ⊥) → slice_get xs place ≡ Some y
before_end xs x y place is apart = elim (get_push xs place x y is) [ inl both ↦ absurd (apart both.0) | inr before ↦ before ]

pub at_end : {A : Type 0} (xs : List A) (x y : A) (place : ℕ) → slice_get (xs ++ x ∷ []) place ≡ Some y → place ≡ length xs → y ≡ x
at_end xs x y place is last = elim (get_push xs place x y is) [
  | inl both ↦ both.1
  | inr before ↦ (let within = slice_get_within xs place y before in absurd (omega (arith, within, last)))
]

module _ {S : Type 0} (stored : S → Stored) where
  one_more : (count : ℕ) (defaults : Defaults) (stores : List S) (nodes : List (Standing S)) (lives : List Life) (store : S) (node : Standing S) (life : Life) →
      AreOpened stored count defaults stores nodes lives → IsOpened stored (setup_with (length nodes + 1) count defaults.first_serial defaults.default_validity) store node life →
      AreOpened stored count defaults (stores ++ store ∷ []) (nodes ++ node ∷ []) (lives ++ life ∷ [])
  one_more count defaults stores nodes lives store node life are is = record {
    nodes_are = let one = length-append nodes (node ∷ []) in let other = length-append stores (store ∷ []) in let same = are.nodes_are in omega arith;
    lives_are = let one = length-append lives (life ∷ []) in let other = length-append stores (store ∷ []) in let same = are.lives_are in omega arith;
    each = λ place s n l here there after. elim (get_push nodes place node n there) [
      | inl both ↦
          let last : place ≡ length stores = both.0 ∙ are.nodes_are in
          let same_store : s ≡ store = at_end stores store s place here last in
          let same_life : l ≡ life = at_end lives life l place after (last ∙ sym are.lives_are) in
          subst (λ (x : S). IsOpened stored (setup_with (place + 1) count defaults.first_serial defaults.default_validity) x n l) (sym same_store)
          (subst (λ (x : Standing S). IsOpened stored (setup_with (place + 1) count defaults.first_serial defaults.default_validity) store x l) (sym both.1)
          (subst (λ (x : Life). IsOpened stored (setup_with (place + 1) count defaults.first_serial defaults.default_validity) store node x) (sym same_life)
          (subst (λ (x : ℕ). IsOpened stored (setup_with (x + 1) count defaults.first_serial defaults.default_validity) store node life) (sym both.0) is)))
      | inr before ↦
          let within = slice_get_within nodes place n before in
          let same = are.nodes_are in
          let also = are.lives_are in
          are.each place s n l (before_end stores store s place here (λ last. omega (arith, within, same, last))) before
          (before_end lives life l place after (λ last. omega (arith, within, same, also, last)))
    ];
  }

  -- these opened, and those are left
  pub record HaveOpened (count : ℕ) (defaults : Defaults) (stores left : List S) (nodes : List (Standing S)) (lives : List Life) : Type 0 where
    pub older : List S
    pub split : stores ≡ older ++ left
    pub are : AreOpened stored count defaults older nodes lives

  pub none_yet : (count : ℕ) (defaults : Defaults) (stores left : List S) (nodes : List (Standing S)) (lives : List Life) → left ≡ stores → nodes ≡ [] → lives ≡ [] →
      HaveOpened count defaults stores left nodes lives
  none_yet count defaults stores left nodes lives all none nobody = record {
    older = [];
    split = sym all;
    are = record {
      nodes_are = ap length none;
      lives_are = ap length nobody;
      each = λ place store node life is. absurd cc;
    };
  }

  pub one_next : (count : ℕ) (defaults : Defaults) (stores : List S) (store : S) (before left : List S) (nodes more : List (Standing S)) (lives longer : List Life)
      (with : Setup) (node : Standing S) (life : Life) → HaveOpened count defaults stores before nodes lives → before ≡ store ∷ left →
      with ≡ setup_with (length nodes + 1) count defaults.first_serial defaults.default_validity → IsOpened stored with store node life → more ≡ nodes ++ node ∷ [] →
      longer ≡ lives ++ life ∷ [] → HaveOpened count defaults stores left more longer
  one_next count defaults stores store before left nodes more lives longer with node life have first setup is pushed also = record {
    older = have.older ++ store ∷ [];
    split = have.split ∙ ap (λ (rest : List S). have.older ++ rest) first ∙ sym (append_assoc have.older (store ∷ []) left);
    are =
        subst (λ (ns : List (Standing S)). AreOpened stored count defaults (have.older ++ store ∷ []) ns longer) (sym pushed)
        (subst (λ (ls : List Life). AreOpened stored count defaults (have.older ++ store ∷ []) (nodes ++ node ∷ []) ls) (sym also)
        (one_more count defaults have.older nodes lives store node life have.are (subst (λ (s : Setup). IsOpened stored s store node life) setup is)));
  }

-- ---- where their journal begins

keeps : {S : Type 0} (stored : S → Stored) → IsSettled stored → (store : S) (with : Setup) (node : Standing S) (life : Life) (k : Kept) (lost : ℕ) →
    OpensOver (stored store) with (stored node.store) node life → (stored node.store).doubt ≡ 0 → ListsRecorded k → (fresh : Bool) →
    IsAsLeft fresh k lost (stored store) → kept_of node.kept ≡ (if fresh then opened_new with else restarted with k lost)
keeps stored settled store with node life k lost over sure lists true new = keeps_as_new stored settled store with node life over sure new
keeps stored settled store with node life k lost over sure lists false left = keeps_as_left stored settled store with node life k lost over sure lists left

module _ {S : Type 0} (stored : S → Stored) (defaults : Defaults) (stores : List S) (nodes : List (Standing S)) (lives : List Life)
    (are : AreOpened stored (length stores) defaults stores nodes lives) where
  abbrev cluster : Cluster
  cluster = cluster_of nodes defaults

  -- it opened over the store at its place
  record IsAt (place : ℕ) (node : Standing S) : Type 0 where
    store : S
    life : Life
    there : slice_get stores place ≡ Some store
    within : place < length nodes
    is : IsOpened stored (setup_of cluster (place + 1)) store node life

  at : (place : ℕ) (node : Standing S) → slice_get nodes place ≡ Some node → IsAt place node
  at place node here =
      let within : place < length nodes = slice_get_within nodes place node here in
      let same = are.nodes_are in
      let also = are.lives_are in
      let (store, there) = there_is stores place (omega (arith, within, same)) in
      let (life, after) = there_is lives place (omega (arith, within, same, also)) in
      record {
        store = store;
        life = life;
        there = there;
        within = within;
        is = subst (λ (count : ℕ). IsOpened stored (setup_with (place + 1) count defaults.first_serial defaults.default_validity) store node life) (sym same)
            (are.each place store node life there here after);
      }

  pub in_order : StandInOrder cluster nodes
  in_order place node here = (at place node here).is.over.opened.setup

  begins : (kept : ℕ → Kept) →
      ((place : ℕ) (node : Standing S) → slice_get nodes place ≡ Some node → IsAt place node → kept_of node.kept ≡ kept (place + 1)) →
      AllBegin cluster kept nodes
  begins kept keep node among =
      let (place, here) = place_in nodes node among in
      let it = at place node here in
      let within = it.within in
      let setup : node.kept.setup ≡ setup_of cluster (place + 1) = it.is.over.opened.setup in
      let number : node.kept.setup.node ≡ place + 1 = ap (λ (s : Setup). s.node) setup in
      record {
        within = (omega (arith, number), omega (arith, number, within));
        setup = setup ∙ ap (setup_of cluster) (sym number);
        begins = keep place node here it ∙ ap kept (sym number);
        finished = it.is.finished;
      }

  pub as_they_are : AllBegin cluster (kept_at nodes defaults) nodes
  as_they_are = begins (kept_at nodes defaults) (λ place node here it.
      let other = opened_new (setup_of cluster (place + 1)) in
      let number : place + 1 - 1 ≡ place = omega arith in
      sym (ap (λ (n : ℕ). kept_or other (slice_get nodes n)) number ∙ ap (λ (found : Option (Standing S)). kept_or other found) here))

  pub as_left : IsSettled stored → (inputs : List NodeInput) (fresh : ℕ → Bool) (lost : ℕ → ℕ) → AreAsLeft stored cluster inputs fresh lost stores →
      AreUndoubted stored nodes → AllBegin cluster (kept_opened cluster inputs fresh lost) nodes
  as_left settled inputs fresh lost left sure = begins (kept_opened cluster inputs fresh lost) (λ place node here it.
      keeps stored settled it.store (setup_of cluster (place + 1)) node it.life ((kept_reached cluster inputs).kept (place + 1)) (lost (place + 1))
      it.is.over (sure node (at_place nodes place node here)) (lists_reached cluster inputs (place + 1)) (fresh (place + 1))
      (left place it.store it.there))

  pub as_new : IsSettled stored → AreNew stored stores → AreUndoubted stored nodes →
      AllBegin cluster (λ node. opened_new (setup_of cluster node)) nodes
  as_new settled new sure =
      as_left settled [] (λ node. true) (λ node. 0) (λ place store there. new store (at_place stores place store there)) sure
