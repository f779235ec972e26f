-- What a receipt stands on: a Told that its node learned in that life.
use Rattle.std.proofs.Common.{◌≡◌, ℕ, suc, pred, ◌+◌, ◌≤◌, List, [], ◌∷◌, ◌++◌, length, sym, ◌∙◌, ap, subst, inl, inr, arith, refl}
use Rattle.std.proofs.lemmas.Bool.{cases_lt}
use Rattle.mc_model.specs.message.Decree.{Decree, Told}
use Rattle.mc_model.specs.synod.Lists.{In}
use Rattle.mc_model.specs.synod.OneSlot.{Vote, vote_at}
use Rattle.mc_model.specs.synod.Packet.{Packet, Slot, Voted, slot_at, slot_of}
use Rattle.mc_model.specs.node.Act.{Act, Reports}
use Rattle.mc_model.specs.node.Actor.{Actor}
use Rattle.mc_model.specs.node.Effect.{actor_by}
use Rattle.mc_model.specs.node.Knowledge.{IsLearned, Knows}
use Rattle.mc_model.specs.node.Replies.{IsToldBy}
use Rattle.mc_model.specs.cluster.Fate.{IsToldChosen, TellsOf}
use Rattle.mc_model.specs.cluster.World.{World, Deed, IsChosenIn, IsRun, May, after, reached, start}
use Rattle.mc_parts.proofs.Fates.{told_ends}
use Rattle.mc_parts.proofs.Membership.{in_right}
use Rattle.mc_laws.proofs.invariant.Agreement.{Chosen, begins, chosen_same, extended, learned_chosen, learned_more, standing}
use Rattle.mc_laws.specs.Receipts.{EndsInItsTold}
use Rattle.mc_laws.proofs.invariant.Growth.{actor_here, actors_after, nodes_same, remembers}
use Rattle.mc_laws.proofs.invariant.Links.{chosen_standing}
use Rattle.mc_laws.proofs.invariant.Reached.{Holds, holds}

-- ---- a chain that ends in a Told is the longest

module _ (w : World) (h : Holds w) (id : ℕ) where
  goes_no_further : (told : Decree) (older : List Decree) → told.kind ≡ Told → (last : Decree) (more : List Decree) →
      Chosen w id (last ∷ (more ++ told ∷ older)) →
      ⊥
  goes_no_further told older is last more chosen =
      let e = extended w h.keeps h.links id last more (told ∷ older) chosen in
      told_ends _ told older e.next is (standing w h.keeps h.links id (e.next ∷ told ∷ older) e.chosen).orderly.1

  same_if_longer : (told : Decree) (older chain : List Decree) → told.kind ≡ Told → Chosen w id (told ∷ older) → Chosen w id chain →
      length (told ∷ older) ≤ length chain →
      chain ≡ told ∷ older
  same_if_longer told older chain is is_told is_chain long =
      let b = begins w h.keeps h.links id (told ∷ older) chain is_told is_chain long in
      by_more b.more b.chain_is
    where
      by_more : (more : List Decree) → chain ≡ more ++ told ∷ older → chain ≡ told ∷ older
      by_more [] chain_is = chain_is
      by_more (last ∷ more) chain_is = absurd (goes_no_further told older is last more (subst (Chosen w id) chain_is is_chain))

  pub one_told : (told : Decree) (older : List Decree) (other : Decree) (others : List Decree) → told.kind ≡ Told → other.kind ≡ Told →
      Chosen w id (told ∷ older) → Chosen w id (other ∷ others) →
      (told ∷ older) ≡ (other ∷ others)
  one_told told older other others is also is_told is_other = elim (cases_lt (length (told ∷ older)) (length (other ∷ others))) [
    | inl shorter ↦ sym (same_if_longer told older (other ∷ others) is is_told is_other (omega (arith, shorter)))
    | inr longer ↦ same_if_longer other others (told ∷ older) also is_other is_told longer
  ]

  -- so a node that learned it knows it
  module _ (node : ℕ) (told : Decree) (older : List Decree) (ballot : ℕ) (is : told.kind ≡ Told)
      (learned : IsLearned w.nodes (w.actors node).received (slot_of id (told ∷ older)) (vote_at ballot (told ∷ older))) where
    is_chosen : Chosen w id (told ∷ older)
    is_chosen = record { ballot = ballot; chosen = learned_chosen w h.keeps node (slot_of id (told ∷ older)) (vote_at ballot (told ∷ older)) learned }

    no_later : (place : ℕ) (vote : Vote) → IsLearned w.nodes (w.actors node).received (slot_at id place) vote → place ≤ length older
    no_later place vote also =
        let in_slot = learned_chosen w h.keeps node (slot_at id place) vote also in
        let place_is = (chosen_standing w h.keeps h.links (slot_at id place) vote in_slot).place in
        let at : place ≡ pred (length vote.chain) = ap (λ (s : Slot). s.place) place_is in
        let chosen : Chosen w id vote.chain = record { ballot = vote.ballot; chosen = subst (λ (s : Slot). IsChosenIn w s vote) place_is in_slot } in
        elim (cases_lt (length older) place) [
          | inl beyond ↦
              let same = same_if_longer told older vote.chain is is_chosen chosen (omega (arith, beyond, at)) in
              let long = ap (λ (c : List Decree). length c) same in
              omega (arith, long, at)
          | inr within ↦ within
        ]

    the_first : (newer before : List Packet) (vote : Vote) → (w.actors node).received ≡ newer ++ before →
        IsLearned w.nodes before (slot_of id (told ∷ older)) vote →
        (earlier : ℕ) × IsLearned w.nodes before (slot_of id (told ∷ older)) (vote_at earlier (told ∷ older))
    the_first newer before vote split then =
        let now : IsLearned w.nodes (w.actors node).received (slot_of id (told ∷ older)) vote = record {
          test = then.test;
          most = then.most;
          each = λ acceptor least most passes. subst (λ (ps : List Packet). In (Voted acceptor (slot_of id (told ∷ older)) vote) ps) (sym split)
              (in_right (Voted acceptor (slot_of id (told ∷ older)) vote) newer before (then.each acceptor least most passes));
        } in
        let same = chosen_same w h.keeps (slot_of id (told ∷ older)) vote (vote_at ballot (told ∷ older))
        (learned_chosen w h.keeps node (slot_of id (told ∷ older)) vote now)
        (learned_chosen w h.keeps node (slot_of id (told ∷ older)) (vote_at ballot (told ∷ older)) learned) in
        (vote.ballot, subst (λ (c : List Decree). IsLearned w.nodes before (slot_of id (told ∷ older)) (vote_at vote.ballot c)) same then)

    pub told_known : Knows w.nodes (w.actors node).received id (told ∷ older)
    told_known = record { ballot = ballot; learned = learned; longest = no_later; first = the_first }

-- ---- a node that wrote a receipt has learned its chain, until it starts anew

abbrev pub AllLearned : World → Type 0
AllLearned w =
    (deed : Deed) (id : ℕ) (chain : List Decree) → In deed w.past → deed.act ≡ Reports id chain → deed.incarnation ≡ (w.actors deed.node).incarnation →
    (ballot : ℕ) × IsLearned w.nodes (w.actors deed.node).received (slot_of id chain) (vote_at ballot chain)

module _ (w : World) (h : Holds w) (all : AllLearned w) (node : ℕ) (act : Act) (may : May w node act) where
  abbrev v : World
  v = after w node act

  abbrev Learned : Actor → ℕ → List Decree → Type 0
  Learned a id chain = (ballot : ℕ) × IsLearned w.nodes a.received (slot_of id chain) (vote_at ballot chain)

  learned_by : (deed : Deed) (id : ℕ) (chain : List Decree) → In deed w.past → deed.act ≡ Reports id chain → deed.node ≡ node →
      deed.incarnation ≡ (actor_by node (w.actors node) act).incarnation → Learned (actor_by node (w.actors node) act) id chain
  learned_by deed id chain is_in reports here now =
      let lived : deed.incarnation ≤ (w.actors node).incarnation = subst (λ (n : ℕ). deed.incarnation ≤ (w.actors n).incarnation) here (h.links.lived deed is_in) in
      elim (remembers node (w.actors node) act) [
        | inl anew ↦
            let later : (actor_by node (w.actors node) act).incarnation ≡ suc ((w.actors node).incarnation + anew.0) =
            ap (λ (x : Act). (actor_by node (w.actors node) x).incarnation) anew.2 in
            absurd (omega (arith, lived, now, later))
        | inr keeps ↦
            let before = all deed id chain is_in reports
            (now ∙ (keeps.incarnation ∙ ap (λ (n : ℕ). (w.actors n).incarnation) (sym here))) in (
              before.0,
              learned_more w.nodes (w.actors node).received (actor_by node (w.actors node) act).received (slot_of id chain) (vote_at before.0 chain)
                  keeps.received (subst (λ (n : ℕ). IsLearned w.nodes (w.actors n).received (slot_of id chain) (vote_at before.0 chain)) here before.1),
            )
      ]

  learned_old : (deed : Deed) (id : ℕ) (chain : List Decree) → In deed w.past → deed.act ≡ Reports id chain →
      deed.incarnation ≡ (v.actors deed.node).incarnation → Learned (v.actors deed.node) id chain
  learned_old deed id chain is_in reports now = elim (actors_after w node act deed.node) [
    | inl here ↦
        subst (λ (a : Actor). Learned a id chain) (sym here.actor_is)
        (learned_by deed id chain is_in reports here.node_is (now ∙ ap (λ (a : Actor). a.incarnation) here.actor_is))
    | inr elsewhere ↦
        subst (λ (a : Actor). Learned a id chain) (sym elsewhere)
        (all deed id chain is_in reports (now ∙ ap (λ (a : Actor). a.incarnation) elsewhere))
  ]

  learned_new : (id : ℕ) (chain : List Decree) → act ≡ Reports id chain → Learned (v.actors node) id chain
  learned_new id chain is =
      let m : May w node (Reports id chain) = subst (May w node) is may in
      let same : v.actors node ≡ w.actors node = actor_here w node act ∙ ap (actor_by node (w.actors node)) is in
      subst (λ (a : Actor). Learned a id chain) (sym same) (m.needs.known.ballot, m.needs.known.learned)

  learned_after : AllLearned v
  learned_after deed id chain (inl new) reports now =
      let nodes : deed.node ≡ node = ap (λ (d : Deed). d.node) new in
      subst (λ (n : ℕ). Learned (v.actors n) id chain) (sym nodes) (learned_new id chain (ap (λ (d : Deed). d.act) (sym new) ∙ reports))
  learned_after deed id chain (inr old) reports now = learned_old deed id chain old reports now

pub all_learned : (nodes : ℕ) (serials : ℕ → ℕ) (acts : List (ℕ × Act)) → IsRun (start nodes serials) acts → AllLearned (reached (start nodes serials) acts)
all_learned nodes serials [] run = λ deed id chain is_in reports now. absurd is_in
all_learned nodes serials (newest ∷ older) run =
    learned_after (reached (start nodes serials) older) (holds nodes serials older run.1) (all_learned nodes serials older run.1) newest.0 newest.1 run.0

-- ---- by whom a receipt was written

pub reported : (nodes : ℕ) (serials : ℕ → ℕ) (acts : List (ℕ × Act)) → IsRun (start nodes serials) acts → (deed : Deed) (id : ℕ) (chain : List Decree) →
    In deed (reached (start nodes serials) acts).past → deed.act ≡ Reports id chain →
    EndsInItsTold deed chain
reported nodes serials [] run deed id chain is_in reports = absurd is_in
reported nodes serials (newest ∷ older) run deed id chain (inl same) reports =
    let w = reached (start nodes serials) older in
    let acts : newest.1 ≡ Reports id chain = ap (λ (d : Deed). d.act) (sym same) ∙ reports in
    let may : May w newest.0 (Reports id chain) = subst (May w newest.0) acts run.0 in
    let it : IsToldBy newest.0 (w.actors newest.0) chain = may.needs.told in
    record {
      told = it.told;
      older = it.older;
      chain_is = it.chain_is;
      kind = it.kind;
      author = it.author ∙ (λ i. record { node = (sym same i).node; incarnation = (sym same i).incarnation });
    }
reported nodes serials (newest ∷ older) run deed id chain (inr later) reports =
    let it = reported nodes serials older run.1 deed id chain later reports in
    record { told = it.told; older = it.older; chain_is = it.chain_is; kind = it.kind; author = it.author }

module _ (nodes : ℕ) (serials : ℕ → ℕ) (acts : List (ℕ × Act)) (run : IsRun (start nodes serials) acts) (deed : Deed) (id : ℕ) (chain : List Decree)
    (is_in : In deed (reached (start nodes serials) acts).past) (reports : deed.act ≡ Reports id chain) where
  abbrev w : World
  w = reached (start nodes serials) acts

  h : Holds w
  h = holds nodes serials acts run

  pub report_chosen : IsToldChosen w id chain
  report_chosen = h.told.chosen deed id chain is_in (subst (λ (act : Act). TellsOf act id chain) (sym reports) (refl, refl))

  pub report_known : deed.incarnation ≡ (w.actors deed.node).incarnation → Knows nodes (w.actors deed.node).received id chain
  report_known still =
      let is = reported nodes serials acts run deed id chain is_in reports in
      let learned = all_learned nodes serials acts run deed id chain is_in reports still in
      subst (λ (c : List Decree). Knows nodes (w.actors deed.node).received id c) (sym is.chain_is)
      (subst (λ (n : ℕ). Knows n (w.actors deed.node).received id (is.told ∷ is.older)) (nodes_same (start nodes serials) acts)
      (told_known w h id deed.node is.told is.older learned.0 is.kind
      (subst (λ (c : List Decree). IsLearned w.nodes (w.actors deed.node).received (slot_of id c) (vote_at learned.0 c)) is.chain_is learned.1)))
