-- A round of the code is a round as a node keeps it.
use Rattle.std.proofs.Common.{◌≡◌, ℕ, Bool, true, Option, Some, None, inl, inr, sym, ap, subst, ◌∙◌}
use Rattle.std.proofs.Math.Path.{fun_ext}
use Rattle.std.specs.Prelude.{option_map, if◌then◌else◌}
use Rattle.std.specs.Bool.{Decides}
use Rattle.std.proofs.lemmas.Bool.{cases_Bool}
use Rattle.std.proofs.lemmas.Bool.Decides.{Decides-and, Decides-like, Decides-not}
use Rattle.mc_types.specs.Nodes.{has}
use Rattle.mc_model.specs.synod.Majority.{IsMajority}
use Rattle.mc_model.specs.synod.OneSlot.{Vote}
use Rattle.mc_model.specs.synod.Packet.{Propose}
use Rattle.node_model.specs.Message.{Round}
use Rattle.node_model.specs.Proposer.{completes, offered, promised_by}
use Rattle.node_model.specs.Sets.{is_majority, with_node}
use Rattle.node_model.proofs.Decisions.{most_decides}
use Rattle.synod_proposer.specs.Proposing.{Completes, IsCounted, Offers, Running, as_round, proposed_in}

pub counted_is : (old new : Running) (node : ℕ) (report : Option Vote) → IsCounted old node report new → as_round new ≡ promised_by (as_round old) node report
counted_is old new node report is = λ i. record {
  slot = is.slot i;
  ballot = is.ballot i;
  own = is.own i;
  promised = fun_ext is.promised i;
  highest = is.highest i;
}

-- what a set of nodes with one more tells of the round
pub completes_so : (nodes : ℕ) (old : Running) (after node : ℕ) → ((other : ℕ) → has after other ≡ with_node (has old.promised) node other) →
    (IsMajority nodes (has old.promised) → ⊥) → IsMajority nodes (has after) → completes nodes (as_round old) node ≡ true
completes_so nodes old after node members before most =
    (Decides-and _ _ (Decides-not (is_majority nodes (has old.promised)) (most_decides nodes (has old.promised)))
    (most_decides nodes (with_node (has old.promised) node))).1 (before, subst (λ (f : ℕ → Bool). IsMajority nodes f) (fun_ext members) most)

completes_decides : (nodes : ℕ) (old new : Running) (node : ℕ) (report : Option Vote) → IsCounted old node report new →
    Decides (completes nodes (as_round old) node) (Completes nodes old new)
completes_decides nodes old new node report is =
    Decides-like (completes nodes (as_round old) node)
    (λ p. record { before = p.0; after = subst (λ (f : ℕ → Bool). IsMajority nodes f) (sym members) p.1 })
    (λ c. (c.before, subst (λ (f : ℕ → Bool). IsMajority nodes f) members c.after))
    (Decides-and _ _ (Decides-not (is_majority nodes (has old.promised)) (most_decides nodes (has old.promised)))
    (most_decides nodes (with_node (has old.promised) node)))
  where
    members : has new.promised ≡ with_node (has old.promised) node
    members = fun_ext is.promised

pub offers_is : (me nodes : ℕ) (old new : Running) (node : ℕ) (report offer : Option Vote) → IsCounted old node report new →
    Offers nodes old new offer → option_map (λ vote. Propose me old.slot vote) offer ≡ proposed_in me nodes (Some (as_round old)) node report
offers_is me nodes old new node report None is none = elim (cases_Bool (completes nodes (as_round old) node)) [
  | inl test ↦ absurd (none ((completes_decides nodes old new node report is).0 test))
  | inr test ↦ sym (ap (λ (b : Bool). if b then Some (Propose me old.slot (offered (promised_by (as_round old) node report))) else None) test)
]
offers_is me nodes old new node report (Some vote) is offers =
    let test = (completes_decides nodes old new node report is).1 offers.0 in
    let offer : vote ≡ offered (promised_by (as_round old) node report) = offers.1 ∙ ap (λ (r : Round). offered r) (counted_is old new node report is) in
    ap (λ (v : Vote). Some (Propose me old.slot v)) offer
    ∙ sym (ap (λ (b : Bool). if b then Some (Propose me old.slot (offered (promised_by (as_round old) node report))) else None) test)
