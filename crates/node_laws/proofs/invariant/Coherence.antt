-- What an actor remembers still hangs together after an act.
use Rattle.std.proofs.Common.{◌≡◌, ℕ, ◌<◌, ◌≤◌, refl, sym, ◌∙◌, subst, inl, inr, arith, ◌∷◌}
use Rattle.mc_model.specs.message.Ids.{incarnation_of}
use Rattle.mc_model.specs.synod.Lists.{In}
use Rattle.mc_model.specs.synod.Packet.{Ask, Packet, Prepare, Promise, Propose, Refused, Slot, Tell, Voted}
use Rattle.mc_model.specs.node.Actor.{Actor}
use Rattle.mc_model.specs.node.Concerns.{WasGiven}
use Rattle.node_laws.specs.Stands.{IsAside, IsCoherent, IsFit}

-- an actor is one of the same incarnation, which has sent and given all that the earlier one had
pub record IsLater (node : ℕ) (before after : Actor) : Type 0 where
  pub incarnation : after.incarnation ≡ before.incarnation
  pub sent : (slot : Slot) (ballot : ℕ) → In (Prepare node slot ballot) before.sent → In (Prepare node slot ballot) after.sent
  pub ticket : before.ticket ≤ after.ticket
  pub serial : before.serial ≤ after.serial

module _ (node : ℕ) (before after : Actor) (later : IsLater node before after) where
  given_later : (id : ℕ) → WasGiven before id → WasGiven after id
  given_later id (inl older) = inl (subst (λ (i : ℕ). incarnation_of id < i) (sym later.incarnation) older)
  given_later id (inr now) = let more = later.serial in inr (now.0 ∙ sym later.incarnation, omega (arith, now.1, more))

  -- what held of a packet that came holds of it then
  pub fit_later : (packet : Packet) → IsFit node before packet → IsFit node after packet
  fit_later (Promise acceptor slot ballot report) fit = λ own. later.sent slot ballot (fit (own.0, own.1 ∙ later.incarnation))
  fit_later (Voted voter slot vote) fit = (fit.0, λ mine. given_later slot.id (fit.1 mine))
  fit_later (Tell teller name told) fit = (
    fit.0,
    λ mine now. let less = fit.1 mine (now ∙ later.incarnation) in let more = later.ticket in
        omega (arith, less, more),
  )
  fit_later (Prepare sender slot ballot) fit = tt
  fit_later (Propose sender slot vote) fit = tt
  fit_later (Refused sender slot ballot promised) fit = tt
  fit_later (Ask sender id name) fit = tt

-- one more packet came
pub coherent_heard : (node : ℕ) (a : Actor) (packet : Packet) → IsFit node a packet → IsCoherent node a →
    IsCoherent node (record a { received = packet ∷ a.received })
coherent_heard node a packet fit is = record {
  life = is.life;
  ticked = is.ticked;
  fits = λ other came. elim came [
    | inl same ↦ fit_now other (subst (IsFit node a) (sym same) fit)
    | inr before ↦ fit_now other (is.fits other before)
  ];
  own = is.own;
  prepared = is.prepared;
  outcomes = is.outcomes;
}
  where
    fit_now : (other : Packet) → IsFit node a other → IsFit node (record a { received = packet ∷ a.received }) other
    fit_now = fit_later node a (record a { received = packet ∷ a.received }) (record {
      incarnation = refl;
      sent = λ slot ballot sent. sent;
      ticket = omega arith;
      serial = omega arith;
    })

-- of a packet that tells nothing, nothing is to hold
pub aside_fits : (node : ℕ) (a : Actor) (packet : Packet) → IsAside packet → IsFit node a packet
aside_fits node a (Promise acceptor slot ballot report) aside = absurd (aside.promises acceptor ballot slot report refl)
aside_fits node a (Voted voter slot vote) aside = absurd (aside.votes voter slot vote refl)
aside_fits node a (Tell teller name told) aside = absurd (aside.tells teller name told refl)
aside_fits node a (Prepare sender slot ballot) aside = tt
aside_fits node a (Propose sender slot vote) aside = tt
aside_fits node a (Refused sender slot ballot promised) aside = tt
aside_fits node a (Ask sender id name) aside = tt
