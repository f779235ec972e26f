-- What a journal is that was closed.
use Rattle.std.proofs.Common.{◌≡◌, ℕ, zero, suc, ◌+◌, ◌≤◌, ◌<◌, Bool, true, false, List, [], ◌∷◌, ◌++◌, length, Some}
use Rattle.std.proofs.Common.{refl, sym, ap, subst, ◌∙◌, inl, inr, arith, length-append}
use Rattle.std.specs.Prelude.{◌==◌, ◌-◌, if◌then◌else◌, slice_get}
use Rattle.std.proofs.lemmas.Bool.Decides.{nat_tests}
use Rattle.std.proofs.lemmas.List.{map-append}
use Rattle.mc_model.specs.synod.Lists.{In}
use Rattle.mc_model.specs.synod.Packet.{Packet}
use Rattle.mc_model.specs.node.Setup.{Setup}
use Rattle.mc_model.specs.cluster.Steps.{Cluster, setup_of}
use Rattle.node_core.specs.Setups.{IsSetup}
use Rattle.node_model.specs.Kept.{Kept}
use Rattle.node_core.specs.Keeping.{kept_of}
use Rattle.sim_net.proofs.Numbers.{map_length, split_at}
use Rattle.stable_store.specs.Stored.{Stored}
use Rattle.journal_laws.specs.Journals.{Entry, IsOwnRun, done_in, entries_at, packets_sent}
use Rattle.journal_laws.specs.Likeness.{AreAlike, AreAllAlike}
use Rattle.journal_laws.proofs.Likeness.{own_alike}
use Rattle.journal_parts.specs.declared.noted.Noted.{Noted}
use Rattle.journal_parts.specs.declared.carried.Carried.{Carried}
use Rattle.journal_parts.specs.Closing.{AllFound, AreSure, IsClosed, IsFound, StandsAt, entry_at}
use Rattle.journal_parts.specs.Entries.{IsSound, entry_of}
use Rattle.journal_parts.specs.Members.{IsMember, Posted, packet_halted}
use Rattle.journal_parts.specs.Numbers.{Numbers}
use Rattle.journal_parts.specs.Registers.{AreNumbered, IsRegister, count_in, entries_of}
use Rattle.journal_parts.specs.Slips.{Slipped}
use Rattle.journal_parts.proofs.Numbers.{sent_first}

-- ---- a slip at its number

-- how many packets had numbers before an entry
numbers_before : (front back : List Noted) (one : Noted) (before sent : ℕ) → AreNumbered before (front ++ one ∷ back) sent →
    ((entry : Entry) → In entry (entries_of (front ++ one ∷ back)) → IsSound entry) → one.before ≡ before + length (packets_sent (entries_of front))
numbers_before [] back one before sent are sound = omega (arith, are.0)
numbers_before (first ∷ front) back one before sent are sound =
    let later = numbers_before front back one (before + count_in first) sent are.1 (λ entry among. sound entry (inr among)) in
    let here = ap (λ (ps : List Packet). length ps)
    (sent_first (entry_of first.entry) (entries_of front) (sound (entry_of first.entry) (inl refl))) in
    let both = length-append (entry_of first.entry).done.sent (packets_sent (entries_of front)) in
    omega (arith, later, here, both)

-- Whoever has the number of an entry, and is of the same, stands at it.
pub stands_at : (noted : List Noted) (count : ℕ) (sent place : ℕ) (one : Noted) (slip : Slipped) → AreNumbered count noted sent →
    ((entry : Entry) → In entry (entries_of noted) → IsSound entry) → slice_get noted place ≡ Some one → slip.number ≡ place + 1 →
    slip.before ≡ one.before → AreAlike (entry_of one.entry) slip.entry → StandsAt count (entries_of noted) slip
stands_at noted count sent place one slip are sound is number before same =
    let it = split_at noted place one is in
    let long = map_length (λ (n : Noted). entry_of n.entry) it.front in
    let at = it.place_is in
    record {
      older = entries_of it.front;
      entry = entry_of one.entry;
      newer = entries_of it.back;
      split = ap entries_of it.split ∙ map-append (λ (n : Noted). entry_of n.entry) it.front (one ∷ it.back);
      number = omega (arith, number, at, long);
      packets = before ∙ numbers_before it.front it.back one count sent
          (subst (λ (ns : List Noted). AreNumbered count ns sent) it.split are)
          (λ entry among. sound entry (subst (λ (ns : List Noted). In entry (entries_of ns)) (sym it.split) among));
      same = same;
    }

-- ---- the nodes

module _ {S : Type 0} (stored : S → Stored) (cluster : Cluster) (kept : ℕ → Kept) where
  -- A member whose entries are those of its node in the journal is found there.
  pub found : (entries own : List Entry) (post : Posted S) (node : ℕ) → IsMember stored cluster kept post own → IsSetup post.node.kept.setup →
      post.node.kept.setup.node ≡ node → AreAllAlike own (entries_at node entries) → IsFound stored cluster kept entries node post
  found entries own post node member bounds is alike = record {
    setup = member.setup ∙ ap (setup_of cluster) is;
    few = subst (λ (s : Setup). s.nodes ≤ 9) member.setup bounds.nodes;
    halts = member.halts;
    ends = member.ends;
    runs = λ none.
        own_alike (setup_of cluster node) (kept node) member.ends own (entries_at node entries) alike
        (subst (λ (n : ℕ). IsOwnRun (setup_of cluster n) (kept n) (done_in own) member.ends) is
        (subst (λ (s : Setup). IsOwnRun s (kept post.node.kept.setup.node) (done_in own) member.ends) member.setup (member.runs none)));
    is_end = member.is_end;
  }

  module _ (entries : List Entry) where
    abbrev Found : ℕ → List (Posted S) → Type 0
    Found node posts = AllFound stored cluster kept entries node posts

    -- what each of the nodes behind this one keeps at last
    abbrev ends_from : (node : ℕ) (posts : List (Posted S)) → Found node posts → ℕ → Kept
    ends_from node [] all at = kept at
    ends_from node (post ∷ later) all at = if at == node + 1 then all.0.ends else ends_from (node + 1) later all.1 at

    abbrev IsOwn : ℕ → Kept → Type 0
    IsOwn at ends = IsOwnRun (setup_of cluster at) (kept at) (done_in (entries_at at entries)) ends

    own_by : (node at : ℕ) (here later : Kept) (b : Bool) → (at == node + 1) ≡ b → node < at → IsOwn (node + 1) here → (node + 1 < at → IsOwn at later) →
        IsOwn at (if b then here else later)
    own_by node at here later true is above own rest =
        let same : node + 1 ≡ at = grind (arith, nat_tests, is) in
        subst (λ (n : ℕ). IsOwn n here) same own
    own_by node at here later false is above own rest = rest (grind (arith, nat_tests, is, above))

    own_from : (node : ℕ) (posts : List (Posted S)) (all : Found node posts) (at : ℕ) → node < at → at ≤ node + length posts → AreSure stored posts →
        IsOwn at (ends_from node posts all at)
    own_from node [] all at above below sure = absurd (omega (arith, above, below))
    own_from node (post ∷ later) all at above below sure =
        own_by node at all.0.ends (ends_from (node + 1) later all.1 at) (at == node + 1) refl above (all.0.runs (sure post (inl refl)))
        (λ higher. own_from (node + 1) later all.1 at higher (omega (arith, below)) (λ one among. sure one (inr among)))

    -- the nodes behind this one have higher numbers
    above_all : (node : ℕ) (posts : List (Posted S)) → Found node posts → (post : Posted S) → In post posts → node < post.node.kept.setup.node
    above_all node [] all post none = absurd none
    above_all node (first ∷ later) all post (inl here) =
        let is : post.node.kept.setup.node ≡ node + 1 =
        ap (λ (p : Posted S). p.node.kept.setup.node) here ∙ ap (λ (s : Setup). s.node) all.0.setup in
        omega (arith, is)
    above_all node (first ∷ later) all post (inr among) = let above = above_all (node + 1) later all.1 post among in omega (arith, above)

    lasts_from : (node : ℕ) (posts : List (Posted S)) (all : Found node posts) (post : Posted S) → In post posts → post.astray ≡ false →
        ends_from node posts all post.node.kept.setup.node ≡ kept_of post.node.kept
    lasts_from node [] all post none still = absurd none
    lasts_from node (first ∷ later) all post (inl here) still =
        let is : post.node.kept.setup.node ≡ node + 1 =
        ap (λ (p : Posted S). p.node.kept.setup.node) here ∙ ap (λ (s : Setup). s.node) all.0.setup in
        let at : (post.node.kept.setup.node == node + 1) ≡ true = grind (arith, nat_tests, is) in
        ap (λ (b : Bool). if b then all.0.ends else ends_from (node + 1) later all.1 post.node.kept.setup.node) at
        ∙ all.0.is_end (ap (λ (p : Posted S). p.astray) (sym here) ∙ still)
        ∙ ap (λ (p : Posted S). kept_of p.node.kept) (sym here)
    lasts_from node (first ∷ later) all post (inr among) still =
        let above = above_all (node + 1) later all.1 post among in
        let at : (post.node.kept.setup.node == node + 1) ≡ false = grind (arith, nat_tests, above) in
        ap (λ (b : Bool). if b then all.0.ends else ends_from (node + 1) later all.1 post.node.kept.setup.node) at
        ∙ lasts_from (node + 1) later all.1 post among still

    setups_from : (node : ℕ) (posts : List (Posted S)) → Found node posts → (place : ℕ) (post : Posted S) → slice_get posts place ≡ Some post →
        post.node.kept.setup ≡ setup_of cluster (node + (place + 1))
    setups_from node [] all place post is = absurd cc
    setups_from node (first ∷ later) all zero post is =
        let here : first ≡ post = cc in
        ap (λ (p : Posted S). p.node.kept.setup) (sym here) ∙ all.0.setup
    setups_from node (first ∷ later) all (suc place) post is =
        let at : (node + 1) + (place + 1) ≡ node + (suc place + 1) = omega arith in
        setups_from (node + 1) later all.1 place post is ∙ ap (setup_of cluster) at

    halts_from : (node : ℕ) (posts : List (Posted S)) → Found node posts → (post : Posted S) → In post posts →
        post.node.unfinished ≡ packet_halted post.halted
    halts_from node [] all post none = absurd none
    halts_from node (first ∷ later) all post (inl here) =
        subst (λ (p : Posted S). p.node.unfinished ≡ packet_halted p.halted) (sym here) all.0.halts
    halts_from node (first ∷ later) all post (inr among) = halts_from (node + 1) later all.1 post among

    few_all : (posts : List (Posted S)) → Found 0 posts → length posts ≡ cluster.nodes → cluster.nodes ≤ 9
    few_all [] all count = omega (arith, count)
    few_all (first ∷ later) all count = all.0.few

  -- If each node is found at its place, the journal is closed behind them.
  pub closed : (numbers : Numbers) (noted : List Noted) (carried : List Carried) (sent : ℕ) (posts : List (Posted S)) →
      IsRegister cluster numbers noted carried sent → length posts ≡ cluster.nodes → AllFound stored cluster kept (entries_of noted) 0 posts →
      IsClosed stored cluster kept numbers (record {
        noted = noted;
        carried = carried;
        sent = sent;
        posts = posts;
      })
  closed numbers noted carried sent posts register count all = record {
    register = register;
    count = count;
    setups = λ place post is.
        let at : 0 + (place + 1) ≡ place + 1 = omega arith in
        setups_from (entries_of noted) 0 posts all place post is ∙ ap (setup_of cluster) at;
    halts = halts_from (entries_of noted) 0 posts all;
    ends = ends_from (entries_of noted) 0 posts all;
    part = λ sure packets have. record {
      few = few_all (entries_of noted) posts all count;
      nodes = register.nodes;
      own = λ node within.
          let below = within.1 in
          own_from (entries_of noted) 0 posts all node within.0 (omega (arith, below, count)) sure;
      sent = register.came packets have;
    };
    lasts = lasts_from (entries_of noted) 0 posts all;
  }

-- ---- an entry of what is left

pub entry_place : (entries : List Entry) (number place : ℕ) → 1 ≤ number → place ≡ number - 1 → entry_at entries number ≡ slice_get entries place
entry_place entries zero place least is = absurd (omega (arith, least))
entry_place entries (suc before) place least is =
    let same : before ≡ place = omega (arith, is) in
    ap (λ (p : ℕ). slice_get entries p) same
