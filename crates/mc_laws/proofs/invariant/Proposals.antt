-- What holds of every chain that is proposed, where it holds of those that nodes make themselves.
use Rattle.std.proofs.Common.{◌≡◌, ◌⊎◌, ℕ, List, Option, Some, None, refl, sym, subst, inl, inr}
use Rattle.mc_model.specs.message.Decree.{Decree}
use Rattle.mc_model.specs.synod.Lists.{In}
use Rattle.mc_model.specs.synod.OneSlot.{Vote, vote_at, IsOfHighest}
use Rattle.mc_model.specs.synod.Packet.{Slot, slot_of, Promise}
use Rattle.mc_model.specs.node.Proposal.{IsOwn, IsFree}
use Rattle.mc_model.specs.node.Act.{Act, Proposes}
use Rattle.mc_model.specs.cluster.World.{World, cast, May, IsChosenIn, StandsIn, after}
use Rattle.mc_parts.proofs.Majorities.{both}
use Rattle.mc_laws.proofs.invariant.Keeping.{Keeps, WasProposed, PromiseFits, proposal_cases}

-- a fact about a world, a message and a chain holds of every chain that is proposed for that message
abbrev pub AllProposed : (World → ℕ → List Decree → Type 0) → World → Type 0
AllProposed Good w = (slot : Slot) (vote : Vote) → WasProposed w slot vote → Good w slot.id vote.chain

-- so of every chosen one
pub chosen_good : (Good : World → ℕ → List Decree → Type 0) (w : World) → Keeps w → AllProposed Good w → (slot : Slot) (vote : Vote) →
    IsChosenIn w slot vote →
    Good w slot.id vote.chain
chosen_good Good w keeps good slot vote chosen =
    let voter = both w.nodes _ _ chosen chosen in good slot vote (keeps.proposed (cast voter.node slot vote) voter.one)

free_good : (Good : World → ℕ → List Decree → Type 0) (w : World) → Keeps w → AllProposed Good w →
    (node : ℕ) (slot : Slot) (chain : List Decree) → (IsOwn (IsChosenIn w) node (w.actors node) slot.id chain → Good w slot.id chain) →
    StandsIn w slot chain ⊎ ((slot ≡ slot_of slot.id chain) × IsOwn (IsChosenIn w) node (w.actors node) slot.id chain) →
    Good w slot.id chain
free_good Good w keeps good node slot chain own (inl (inl sent)) = good slot (vote_at sent.1 chain) (record { sender = sent.0; sent = sent.2 })
free_good Good w keeps good node slot chain own (inl (inr voted)) =
    good slot (vote_at voted.1 chain) (keeps.proposed (cast voted.0 slot (vote_at voted.1 chain)) voted.2)
free_good Good w keeps good node slot chain own (inr mine) = own mine.1

highest_good : (Good : World → ℕ → List Decree → Type 0) (w : World) → Keeps w → AllProposed Good w →
    (node : ℕ) (slot : Slot) (vote : Vote) (highest : Option Vote) →
    (IsOwn (IsChosenIn w) node (w.actors node) slot.id vote.chain → Good w slot.id vote.chain) →
    IsOfHighest (λ acceptor report. In (Promise acceptor slot vote.ballot report) w.packets) vote.chain highest →
    IsFree highest (StandsIn w slot vote.chain)
    ((slot ≡ slot_of slot.id vote.chain) × IsOwn (IsChosenIn w) node (w.actors node) slot.id vote.chain) →
    Good w slot.id vote.chain
highest_good Good w keeps good node slot vote None own carried free = free_good Good w keeps good node slot vote.chain own free
highest_good Good w keeps good node slot vote (Some top) own carried free =
    let fits : PromiseFits w carried.1.0 slot vote.ballot (Some top) = keeps.fits (Promise carried.1.0 slot vote.ballot (Some top)) carried.1.1 in
    let honest = fits.honest top refl in
    subst (Good w slot.id) (sym carried.0) (good slot top (keeps.proposed (cast carried.1.0 slot top) honest.0))

-- it goes on holding where an act keeps it, and it holds of what the node may make itself
pub good_after : (Good : World → ℕ → List Decree → Type 0) (w : World) → Keeps w → AllProposed Good w → (node : ℕ) (act : Act) →
    May w node act → ((id : ℕ) (chain : List Decree) → Good w id chain → Good (after w node act) id chain) →
    ((id : ℕ) (chain : List Decree) → IsOwn (IsChosenIn w) node (w.actors node) id chain → Good w id chain) →
    AllProposed Good (after w node act)
good_after Good w keeps good node act may still own slot vote proposed =
    still slot.id vote.chain (elim (proposal_cases w node act proposed.sender slot vote proposed.sent) [
      | inl new ↦
          let m : May w node (Proposes slot vote) = subst (May w node) new.by may in
          highest_good Good w keeps good node slot vote m.needs.justified.highest (own slot.id vote.chain) m.needs.justified.carried m.needs.free
      | inr old ↦ good slot vote (record { sender = proposed.sender; sent = old })
    ])
