-- The receipt that goes out if a Told of the node becomes known.
use Rattle.std.proofs.Common.{◌≡◌, ℕ, Bool, true, false, List, [], ◌∷◌, Option, Some, None, refl, sym, ap, subst, subst₂, ◌∙◌}
use Rattle.std.specs.Prelude.{◌==◌, ◌&&◌, if◌then◌else◌, not}
use Rattle.std.proofs.lemmas.Bool.{and_from, and_parts, eqb-false, eqb-true, true≢false}
use Rattle.std.proofs.lemmas.Bool.Decides.{Decides-eqb}
use Rattle.mc_model.specs.message.Ids.{node_of}
use Rattle.mc_model.specs.message.Decree.{Attempt, Author, Decree, Failed, Fate, Kind, Taken, Told}
use Rattle.mc_model.specs.node.Act.{Act, Reports}
use Rattle.mc_model.specs.node.Actor.{Actor}
use Rattle.mc_model.specs.node.Knowledge.{Knows}
use Rattle.mc_model.specs.node.Outputs.{Receipt}
use Rattle.mc_model.specs.node.Phases.{DueToReport, IsDueReport}
use Rattle.mc_model.specs.node.Replies.{IsToldBy}
use Rattle.mc_parts.proofs.Known.{knows_one}
use Rattle.node_model.specs.Answers.{ends_told, is_known_so, is_told_by, receipts_of}
use Rattle.node_laws.proofs.step.Busy.{IsReport, report_out}

-- ---- a chain ends in a Told of the node

kind_told : (node incarnation : ℕ) (author : Author) (kind : Kind) → is_told_by node incarnation author kind ≡ true →
    (kind ≡ Told) × ((author.node ≡ node) × (author.incarnation ≡ incarnation))
kind_told node incarnation author (Taken message) is = absurd (true≢false (sym is))
kind_told node incarnation author (Attempt number) is = absurd (true≢false (sym is))
kind_told node incarnation author (Failed error) is = absurd (true≢false (sym is))
kind_told node incarnation author (Fate final error) is = absurd (true≢false (sym is))
kind_told node incarnation author Told is =
    let both = and_parts (author.node == node) (author.incarnation == incarnation) is in
    (refl, (eqb-true author.node node both.0, eqb-true author.incarnation incarnation both.1))

module _ (node incarnation : ℕ) (a : Actor) (same : incarnation ≡ a.incarnation) where
  told_so : (chain : List Decree) → ends_told node incarnation chain ≡ true → IsToldBy node a chain
  told_so [] is = absurd (true≢false (sym is))
  told_so (newest ∷ older) is =
      let it = kind_told node incarnation newest.author newest.kind is in
      record {
        told = newest;
        older = older;
        chain_is = refl;
        kind = it.0;
        author = λ i. record { node = it.1.0 i; incarnation = (it.1.1 ∙ same) i };
      }

  told_back : (chain : List Decree) → IsToldBy node a chain → ends_told node incarnation chain ≡ true
  told_back chain told =
      let nodes : told.told.author.node ≡ node = ap (λ (x : Author). x.node) told.author in
      let incarnations : told.told.author.incarnation ≡ incarnation = ap (λ (x : Author). x.incarnation) told.author ∙ sym same in
      ap (ends_told node incarnation) told.chain_is
      ∙ ap (is_told_by node incarnation told.told.author) told.kind
      ∙ and_from (told.told.author.node == node) (told.told.author.incarnation == incarnation) ((Decides-eqb told.told.author.node node).1 nodes)
      ((Decides-eqb told.told.author.incarnation incarnation).1 incarnations)

-- ---- of this message this chain becomes known, and of others what is known stays

module _ (nodes node incarnation : ℕ) (before a : Actor) (same : incarnation ≡ a.incarnation) (id : ℕ) (known : Option (List Decree))
    (chain : List Decree) (fresh : is_known_so known chain ≡ false) (new : Knows nodes before.received id chain → ⊥) (knows : Knows nodes a.received id chain)
    (others : (other : ℕ) → (other ≡ id → ⊥) → (of : List Decree) → Knows nodes a.received other of → Knows nodes before.received other of) where
  -- the receipt, and that it is the one that is due
  pub record Reported (receipts : List Receipt) : Type 0 where
    pub report : Option (List Decree)
    pub out : receipts ≡ report_out id report
    pub is : IsReport nodes node before a id report

  only_here : (other : ℕ) (of : List Decree) → IsDueReport nodes node before a other of → (other ≡ id) × (of ≡ chain)
  only_here other of due = by_id (other == id) refl
    where
      by_id : (test : Bool) → (other == id) ≡ test → (other ≡ id) × (of ≡ chain)
      by_id true equal =
          let is = eqb-true other id equal in
          (is, knows_one nodes a.received id of chain (subst (λ (i : ℕ). Knows nodes a.received i of) is due.known) knows)
      by_id false differs = absurd (due.new (others other (eqb-false other id differs) of due.known))

  -- if it is not due here, then nowhere
  none_here : (IsDueReport nodes node before a id chain → ⊥) → (act : Act) → DueToReport nodes node before a act → ⊥
  none_here none (Reports other of) due =
      let here = only_here other of due in
      none (subst₂ (λ (i : ℕ) (c : List Decree). IsDueReport nodes node before a i c) here.0 here.1 due)
  none_here none act due = due

  pub reported : Reported (receipts_of node incarnation id known chain)
  reported = by_test ((node_of id == node) && (ends_told node incarnation chain && not (is_known_so known chain))) refl
    where
      new_test : not (is_known_so known chain) ≡ true
      new_test = ap not fresh

      by_test : (test : Bool) → (node_of id == node) && (ends_told node incarnation chain && not (is_known_so known chain)) ≡ test →
          Reported (if test then record { id = id; chain = chain } ∷ [] else [])
      by_test true is =
          let parts = and_parts (node_of id == node) (ends_told node incarnation chain && not (is_known_so known chain)) is in
          let told = and_parts (ends_told node incarnation chain) (not (is_known_so known chain)) parts.1 in
          record {
            report = Some chain;
            out = refl;
            is = (
              record { named = eqb-true (node_of id) node parts.0; known = knows; told = told_so node incarnation a same chain told.0; new = new },
              only_here,
            );
          }
      by_test false is = record {
        report = None;
        out = refl;
        is = none_here (λ due. true≢false
            (sym (and_from (node_of id == node) (ends_told node incarnation chain && not (is_known_so known chain))
            ((Decides-eqb (node_of id) node).1 due.named)
            (and_from (ends_told node incarnation chain) (not (is_known_so known chain)) (told_back node incarnation a same chain due.told) new_test))
            ∙ is));
      }
