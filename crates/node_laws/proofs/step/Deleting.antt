-- A round that deletes a message for a cancel_sm, or tells its receipt, outside a tick.
use Rattle.std.proofs.Common.{◌≡◌, ℕ, ◌≤◌, false, List, sym, subst, inr, arith}
use Rattle.mc_model.specs.node.Reach.{of_all}
use Rattle.mc_model.specs.message.Decree.{Decree, Told}
use Rattle.mc_model.specs.synod.Packet.{slot_at}
use Rattle.mc_model.specs.node.Alone.{Node, StandsAt}
use Rattle.mc_model.specs.node.FirstRule.{Announce, Delete, FitsRule, Rule, order_of}
use Rattle.mc_model.specs.node.Knowledge.{IsLearned}
use Rattle.mc_model.specs.node.Proposal.{IsNext}
use Rattle.mc_model.specs.node.Rules.{FitsDelete, IsDue}
use Rattle.mc_model.specs.node.Setup.{Setup}
use Rattle.node_model.specs.Proposer.{Start}
use Rattle.node_laws.specs.Stands.{IsBehind, IsCoherent}
use Rattle.node_laws.proofs.step.RuleChains.{rule_next, rule_place}
use Rattle.node_laws.proofs.step.Started.{IsDueStart}

-- by a rule for what is known: what fits it may be started, if it is due and nothing is at another place
rule_start : (setup : Setup) (s : Node) → IsCoherent setup.node s.actor → (id : ℕ) (rule : Rule) → 3 ≤ order_of rule → (Due : ℕ → List Decree → Type 0)
    (start : Start) → Due start.place start.chain → ((place : ℕ) (chain : List Decree) → Due place chain → place ≡ start.place) →
    FitsRule setup.nodes setup.node s.actor s.records (of_all (λ account. false)) id start.place start.chain rule →
    IsNext (IsLearned setup.nodes s.actor.received) setup.node s.actor id start.chain →
    IsDueStart setup s id Due start
rule_start setup s coherent id rule late Due start due only fits next =
    let at = rule_place setup.nodes setup.node s.actor coherent s.records (of_all (λ account. false)) id rule start.place start.chain late fits in
    record {
      due = due;
      only = only;
      within = at.within;
      ahead = at.ahead;
      free = inr (at.slot_is, inr next);
      behind = subst (IsBehind setup.nodes s.actor.received id (StandsAt s (slot_at id start.place) start.chain)) (sym at.chain_is) (inr at.known);
    }

-- a deletion
pub deletes_start : (setup : Setup) (s : Node) → IsCoherent setup.node s.actor → (id : ℕ) (Due : ℕ → List Decree → Type 0) (start : Start) →
    Due start.place start.chain →
    ((place : ℕ) (chain : List Decree) → Due place chain → place ≡ start.place) → FitsDelete setup.nodes setup.node s.actor id start.place start.chain →
    IsDueStart setup s id Due start
deletes_start setup s coherent id Due start due only fits =
    rule_start setup s coherent id Delete (omega arith) Due start due only fits
    (rule_next setup.nodes setup.node s.actor coherent s.records (of_all (λ account. false)) id Delete start.place start.chain (omega arith) fits)

-- that a receipt is told
pub tells_start : (setup : Setup) (s : Node) → IsCoherent setup.node s.actor → (id : ℕ) (Due : ℕ → List Decree → Type 0) (start : Start) →
    Due start.place start.chain →
    ((place : ℕ) (chain : List Decree) → Due place chain → place ≡ start.place) → IsDue setup.nodes setup.node s.actor id start.place start.chain Told →
    IsDueStart setup s id Due start
tells_start setup s coherent id Due start due only fits =
    rule_start setup s coherent id Announce (omega arith) Due start due only fits
    (rule_next setup.nodes setup.node s.actor coherent s.records (of_all (λ account. false)) id Announce start.place start.chain (omega arith) fits)
