-- When no receipt is to be told, and none goes out.
use Rattle.std.proofs.Common.{◌≡◌, ℕ, List, ◌∷◌, Some, refl, sym, ◌∙◌, ap, subst}
use Rattle.mc_model.specs.message.Decree.{Decree, Final, Told}
use Rattle.mc_model.specs.message.Chain.{final_in}
use Rattle.mc_model.specs.node.Actor.{Actor}
use Rattle.mc_model.specs.node.Knowledge.{Knows}
use Rattle.mc_model.specs.node.Rules.{IsDue}
use Rattle.mc_model.specs.node.Causes.{CausesTold}
use Rattle.mc_model.specs.synod.Packet.{Packet}
use Rattle.mc_model.specs.node.Replies.{IsToldBy}
use Rattle.mc_parts.proofs.Tellings.{told_behind_fate, unannounced}

-- what is known has no final state
pub unfated : (nodes node : ℕ) (a : Actor) (id place : ℕ) (chain : List Decree) →
    ((known : List Decree) (final : Final) → Knows nodes a.received id known → final_in known ≡ Some final → ⊥) → IsDue nodes node a id place chain Told →
    ⊥
unfated nodes node a id place chain none due =
    let fate = told_behind_fate (Some due.further.taken) (due.further.newest ∷ due.further.older) _ refl due.may in
    none (due.further.newest ∷ due.further.older) fate.0 due.further.known fate.1

-- the newest decree is no Told
pub untold_newest : (node : ℕ) (a : Actor) (chain : List Decree) (newest : Decree) (older : List Decree) → chain ≡ newest ∷ older →
    (newest.kind ≡ Told → ⊥) → IsToldBy node a chain →
    ⊥
untold_newest node a chain newest older is other told =
    let both : newest ∷ older ≡ told.told ∷ told.older = sym is ∙ told.chain_is in
    let heads : newest ≡ told.told = cc in
    other (ap (λ (d : Decree). d.kind) heads ∙ told.kind)

-- nothing was received
pub nothing_new : (nodes node : ℕ) (before after : Actor) → before.received ≡ after.received → (id place : ℕ) (chain : List Decree) →
    CausesTold nodes node before after id place chain →
    ⊥
nothing_new nodes node before after same id place chain =
    unannounced nodes node before after id place chain (λ known. subst (λ (packets : List Packet). Knows nodes packets id known) (sym same))
