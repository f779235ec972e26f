-- Nodes that are loaded over their stores one after the other, and begin one after the other.
use Rattle.std.proofs.Common.{◌≡◌, ℕ, ◌+◌, ◌<◌, List, [], ◌∷◌, ◌++◌, length, Some, None}
use Rattle.std.proofs.Common.{sym, ap, subst, ◌∙◌, inl, inr, arith, append_assoc, append-nil, length-append}
use Rattle.std.specs.List.{slice_get}
use Rattle.std.proofs.lemmas.Option.{slice_get_within}
use Rattle.mc_model.specs.node.Setup.{Setup}
use Rattle.sim_net.proofs.Growing.{get_push}
use Rattle.stable_store.specs.Stored.{Stored}
use Rattle.node_core.specs.declared.life.Life.{Life}
use Rattle.stable_store.specs.declared.fault.StoreFault.{StoreFault}
use Rattle.stable_store.specs.declared.fault.StoreFault.TheVariants as faults
use Rattle.node_core.specs.Loadings.{Begins, FailsToBegin, IsLoaded, Loading}
use Rattle.node_core.specs.Nodes.{Standing}
use Rattle.node_core.specs.Setups.{setup_with}
use Rattle.journal_parts.proofs.GoingOn.{there_is}
use Rattle.node_threads.specs.Defaults.{Defaults}
use Rattle.node_threads.specs.Loadings.{AreLoaded, BeginOver, CantBegin, CantBeginOne, HaveBegun}
use Rattle.node_threads.specs.Openings.{fault_at}
use Rattle.node_threads.specs.declared.start_fault.StartFault.{StartFault}
use Rattle.node_threads.specs.declared.start_fault.StartFault.TheVariants as starts
use Rattle.node_threads.proofs.Openings.{at_end, before_end}

-- ---- three lists, one more of each

module _ {A B C : Type 0} (Fits : ℕ → A → B → C → Type 0) where
  record AreThree (xs : List A) (ys : List B) (zs : List C) : Type 0 where
    ys_are : length ys ≡ length xs
    zs_are : length zs ≡ length xs
    each : (place : ℕ) (x : A) (y : B) (z : C) → slice_get xs place ≡ Some x → slice_get ys place ≡ Some y → slice_get zs place ≡ Some z → Fits place x y z

  three_more : (xs : List A) (ys : List B) (zs : List C) (x : A) (y : B) (z : C) → AreThree xs ys zs → Fits (length ys) x y z →
      AreThree (xs ++ x ∷ []) (ys ++ y ∷ []) (zs ++ z ∷ [])
  three_more xs ys zs x y z are is = record {
    ys_are = let one = length-append ys (y ∷ []) in let other = length-append xs (x ∷ []) in let same = are.ys_are in omega arith;
    zs_are = let one = length-append zs (z ∷ []) in let other = length-append xs (x ∷ []) in let same = are.zs_are in omega arith;
    each = λ place a b c here there after. elim (get_push ys place y b there) [
      | inl both ↦
          let last : place ≡ length xs = both.0 ∙ are.ys_are in
          let same_a : a ≡ x = at_end xs x a place here last in
          let same_c : c ≡ z = at_end zs z c place after (last ∙ sym are.zs_are) in
          subst (λ (n : A). Fits place n b c) (sym same_a)
          (subst (λ (n : B). Fits place x n c) (sym both.1)
          (subst (λ (n : C). Fits place x y n) (sym same_c) (subst (λ (n : ℕ). Fits n x y z) (sym both.0) is)))
      | inr before ↦
          let within = slice_get_within ys place b before in
          let same = are.ys_are in
          let also = are.zs_are in
          are.each place a b c (before_end xs x a place here (λ last. omega (arith, within, same, last))) before
          (before_end zs z c place after (λ last. omega (arith, within, same, also, last)))
    ];
  }

module _ {S : Type 0} (stored : S → Stored) where
  -- ---- the first half

  module _ (count : ℕ) (defaults : Defaults) where
    abbrev setup_for : ℕ → Setup
    setup_for place = setup_with (place + 1) count defaults.first_serial defaults.default_validity

    abbrev Fits : ℕ → S → Loading S → Loading S → Type 0
    Fits place store one again = IsLoaded stored (setup_for place) store one

    loaded_more : (stores : List S) (loaded : List (Loading S)) (store : S) (one : Loading S) → AreLoaded stored count defaults stores loaded →
        IsLoaded stored (setup_for (length loaded)) store one → AreLoaded stored count defaults (stores ++ store ∷ []) (loaded ++ one ∷ [])
    loaded_more stores loaded store one are is =
        let three = three_more Fits stores loaded loaded store one one
        (record { ys_are = are.loaded_are; zs_are = are.loaded_are; each = λ place s l other here there again. are.each place s l here there }) is in
        record { loaded_are = three.ys_are; each = λ place s l here there. three.each place s l l here there there }

    -- these are loaded, and those are left
    pub record HaveLoaded (stores left : List S) (loaded : List (Loading S)) : Type 0 where
      pub older : List S
      pub split : stores ≡ older ++ left
      pub are : AreLoaded stored count defaults older loaded

    pub none_loaded : (stores left : List S) (loaded : List (Loading S)) → left ≡ stores → loaded ≡ [] → HaveLoaded stores left loaded
    none_loaded stores left loaded all none = record {
      older = [];
      split = sym all;
      are = record { loaded_are = ap length none; each = λ place store one is. absurd cc };
    }

    pub next_loaded : (stores : List S) (store : S) (before left : List S) (loaded more : List (Loading S)) (with : Setup) (one : Loading S) →
        HaveLoaded stores before loaded → before ≡ store ∷ left → with ≡ setup_for (length loaded) → IsLoaded stored with store one →
        more ≡ loaded ++ one ∷ [] → HaveLoaded stores left more
    next_loaded stores store before left loaded more with one have first setup is pushed = record {
      older = have.older ++ store ∷ [];
      split = have.split ∙ ap (λ (rest : List S). have.older ++ rest) first ∙ sym (append_assoc have.older (store ∷ []) left);
      are = subst (λ (ls : List (Loading S)). AreLoaded stored count defaults (have.older ++ store ∷ []) ls) (sym pushed)
          (loaded_more have.older loaded store one have.are (subst (λ (s : Setup). IsLoaded stored s store one) setup is));
    }

    pub all_loaded : (stores left : List S) (loaded : List (Loading S)) → left ≡ [] → HaveLoaded stores left loaded →
        AreLoaded stored count defaults stores loaded
    all_loaded stores left loaded none have =
        subst (λ (ss : List S). AreLoaded stored count defaults ss loaded)
        (sym (have.split ∙ ap (λ (rest : List S). have.older ++ rest) none ∙ append-nil have.older)) have.are

  -- ---- the second half

  abbrev BeginsAt : ℕ → Loading S → Standing S → Life → Type 0
  BeginsAt place one node life = Begins stored one node life × (node.unfinished ≡ None) × (node.stopped ≡ None)

  begun_more : (loaded : List (Loading S)) (nodes : List (Standing S)) (lives : List Life) (one : Loading S) (node : Standing S) (life : Life) →
      HaveBegun stored loaded nodes lives → BeginsAt (length nodes) one node life →
      HaveBegun stored (loaded ++ one ∷ []) (nodes ++ node ∷ []) (lives ++ life ∷ [])
  begun_more loaded nodes lives one node life are is =
      let three = three_more BeginsAt loaded nodes lives one node life
      (record { ys_are = are.nodes_are; zs_are = are.lives_are; each = are.each }) is in
      record { nodes_are = three.ys_are; lives_are = three.zs_are; each = three.each }

  -- these began, and those are left
  pub record AreBeginning (all left : List (Loading S)) (nodes : List (Standing S)) (lives : List Life) : Type 0 where
    pub older : List (Loading S)
    pub split : all ≡ older ++ left
    pub are : HaveBegun stored older nodes lives

  pub none_begun : (all left : List (Loading S)) (nodes : List (Standing S)) (lives : List Life) → left ≡ all → nodes ≡ [] → lives ≡ [] →
      AreBeginning all left nodes lives
  none_begun all left nodes lives same none nobody = record {
    older = [];
    split = sym same;
    are = record { nodes_are = ap length none; lives_are = ap length nobody; each = λ place one node life is. absurd cc };
  }

  pub next_begun : (all : List (Loading S)) (one : Loading S) (before left : List (Loading S)) (nodes more : List (Standing S)) (lives longer : List Life)
      (node : Standing S) (life : Life) → AreBeginning all before nodes lives → before ≡ one ∷ left → BeginsAt (length nodes) one node life →
      more ≡ nodes ++ node ∷ [] → longer ≡ lives ++ life ∷ [] → AreBeginning all left more longer
  next_begun all one before left nodes more lives longer node life have first is pushed also = record {
    older = have.older ++ one ∷ [];
    split = have.split ∙ ap (λ (rest : List (Loading S)). have.older ++ rest) first ∙ sym (append_assoc have.older (one ∷ []) left);
    are =
        subst (λ (ns : List (Standing S)). HaveBegun stored (have.older ++ one ∷ []) ns longer) (sym pushed)
        (subst (λ (ls : List Life). HaveBegun stored (have.older ++ one ∷ []) (nodes ++ node ∷ []) ls) (sym also)
        (begun_more have.older nodes lives one node life have.are is));
  }

  begin_over : (loaded : List (Loading S)) (nodes : List (Standing S)) (lives : List Life) → HaveBegun stored loaded nodes lives →
      BeginOver stored loaded nodes lives
  begin_over loaded nodes lives have defaults stores are = record {
    nodes_are = have.nodes_are ∙ are.loaded_are;
    lives_are = have.lives_are ∙ are.loaded_are;
    each = λ place store node life here there after.
        let within : place < length nodes = slice_get_within nodes place node there in
        let same = have.nodes_are in
        let (one, among) = there_is loaded place (omega (arith, within, same)) in
        let begun = have.each place one node life among there after in
        record { over = begun.0 _ store (are.each place store one here among); finished = begun.1; untold = begun.2 };
  }

  pub all_begun : (all left : List (Loading S)) (nodes : List (Standing S)) (lives : List Life) → left ≡ [] → AreBeginning all left nodes lives →
      BeginOver stored all nodes lives
  all_begun all left nodes lives none have =
      begin_over all nodes lives
      (subst (λ (ls : List (Loading S)). HaveBegun stored ls nodes lives)
      (sym (have.split ∙ ap (λ (rest : List (Loading S)). have.older ++ rest) none ∙ append-nil have.older)) have.are)

  -- ---- why they do not begin

  pub cant_begin : (one : Loading S) (number : ℕ) (fault : StoreFault) (after : S) → number ≡ one.kept.setup.node → FailsToBegin stored one fault after →
      CantBeginOne stored one (fault_at number fault)
  cant_begin one number faults.Memory after is fails = tt
  cant_begin one number faults.Device after is fails = (is, λ same. cc, after, fails)
  cant_begin one number faults.Damaged after is fails = (is, λ same. cc, after, fails)
  cant_begin one number faults.Incarnations after is fails = (is, λ same. cc, after, fails)

  pub fails_there : (all before left : List (Loading S)) (one : Loading S) (nodes : List (Standing S)) (lives : List Life) (fault : StartFault) →
      AreBeginning all before nodes lives → before ≡ one ∷ left → CantBeginOne stored one fault → CantBegin stored all fault
  fails_there all before left one nodes lives (starts.Open number fault) have first cant = record {
    older = have.older;
    one = one;
    newer = left;
    split = have.split ∙ ap (λ (rest : List (Loading S)). have.older ++ rest) first;
    number_is = cant.0;
    nodes = nodes;
    lives = lives;
    before = have.are;
    known = cant.1;
    after = cant.2;
    fails = cant.3;
  }
  fails_there all before left one nodes lives starts.Nodes have first none = none
  fails_there all before left one nodes lives starts.Memory have first cant = tt
