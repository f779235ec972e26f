-- The acts of a tick: what they lead to, and that each may be done where it stands.
use Rattle.std.proofs.Common.{◌≡◌, ℕ, ◌+◌, ◌<◌, Bool, List, [], ◌∷◌, length, map, refl, sym, ap, subst, ◌∙◌, inl, inr, arith}
use Rattle.mc_model.specs.node.Reach.{Reach}
use Rattle.mc_model.specs.message.Ids.{IsNode}
use Rattle.mc_model.specs.synod.Acceptor.{Records}
use Rattle.mc_model.specs.synod.Ballot.{incarnation_in, proposer_of}
use Rattle.mc_model.specs.synod.Lists.{In}
use Rattle.mc_model.specs.synod.Packet.{Slot, slot_of}
use Rattle.mc_model.specs.node.Act.{Abandons}
use Rattle.mc_model.specs.node.Actor.{Actor, Offer}
use Rattle.mc_model.specs.node.Alone.{IsRunAlone, MayAlone, Node, after_alone, reached_alone}
use Rattle.mc_model.specs.node.Due.{Fall, key_of}
use Rattle.mc_model.specs.node.Grant.{MayGrant}
use Rattle.mc_model.specs.node.Outcome.{Outcome}
use Rattle.mc_model.specs.node.Outputs.{packets_in, receipts_in, replies_in}
use Rattle.mc_model.specs.node.Proposal.{OwnBallot}
use Rattle.mc_model.specs.node.Rounds.{MayPrepare}
use Rattle.mc_model.specs.node.Setup.{Setup}
use Rattle.mc_parts.proofs.Membership.{in_either}
use Rattle.node_laws.specs.Stands.{IsCoherent}
use Rattle.node_laws.specs.Steps.{IsAtWork}
use Rattle.node_laws.proofs.invariant.Orders.{in_mapped}
use Rattle.node_laws.proofs.step.Ruling.{GivesUp, later, prepare_of, reached_starts, unanswered}
use Rattle.node_laws.proofs.step.RulingAll.{id_of_slot}
use Rattle.node_laws.proofs.step.Starting.{own_ballot}

-- ---- attempts that are given up

pub reached_abandons : (setup : Setup) (s : Node) (slots : List Slot) → reached_alone setup.node s (map Abandons slots) ≡ later setup s slots []
reached_abandons setup s [] = refl
reached_abandons setup s (slot ∷ slots) = ap (λ (x : Node). after_alone setup.node x (Abandons slot)) (reached_abandons setup s slots)

pub abandon_keys : (slots : List Slot) → map key_of (map Abandons slots) ≡ map id_of_slot slots
abandon_keys [] = refl
abandon_keys (slot ∷ slots) = ap (λ (ns : List ℕ). slot.id ∷ ns) (abandon_keys slots)

pub abandon_packets : (node : ℕ) (a : Actor) (records : Records) (slots : List Slot) → packets_in node a records (map Abandons slots) ≡ []
abandon_packets node a records [] = refl
abandon_packets node a records (slot ∷ slots) = abandon_packets node a records slots

pub abandon_replies : (slots : List Slot) → replies_in (map Abandons slots) ≡ []
abandon_replies [] = refl
abandon_replies (slot ∷ slots) = abandon_replies slots

pub abandon_receipts : (slots : List Slot) → receipts_in (map Abandons slots) ≡ []
abandon_receipts [] = refl
abandon_receipts (slot ∷ slots) = abandon_receipts slots

pub start_replies : (offers : List Offer) → replies_in (map prepare_of offers) ≡ []
start_replies [] = refl
start_replies (offer ∷ offers) = start_replies offers

pub start_receipts : (offers : List Offer) → receipts_in (map prepare_of offers) ≡ []
start_receipts [] = refl
start_receipts (offer ∷ offers) = start_receipts offers

-- the first of numbers that fall is above the others
fall_above : (first : ℕ) (others : List ℕ) → Fall (first ∷ others) → (other : ℕ) → In other others → other < first
fall_above first [] falls other none = absurd none
fall_above first (second ∷ others) falls other (inl same) = let below = falls.0 in omega arith
fall_above first (second ∷ others) falls other (inr later) = let below = falls.0 in let further = fall_above second others falls.1 other later in omega arith

fall_rest : (first : ℕ) (others : List ℕ) → Fall (first ∷ others) → Fall others
fall_rest first [] falls = tt
fall_rest first (second ∷ others) falls = falls.1

mapped : (slots : List Slot) (slot : Slot) → In slot slots → In slot.id (map id_of_slot slots)
mapped [] slot none = none
mapped (first ∷ slots) slot (inl same) = inl (ap id_of_slot same)
mapped (first ∷ slots) slot (inr later) = inr (mapped slots slot later)

module _ (setup : Setup) (s : Node) (works : IsAtWork setup s) (reach : Reach) where
  may_give_up : (slot : Slot) (older : List Slot) → GivesUp setup s reach slot → ((other : Slot) → In other older → other.id < slot.id) →
      MayGrant setup.nodes setup.node (later setup s older []).actor slot
  may_give_up slot older gives below =
      let fits = gives.1.fits in
      let g = fits.further in
      let place_is : slot ≡ slot_of slot.id (g.newest ∷ g.older) =
      (let behind = g.behind in let places : slot.place ≡ length g.older = omega arith in λ i. record { id = slot.id; place = places i }) in
      record {
        attempting = record {
          newest = g.newest;
          older = g.older;
          number = fits.attempt.0.0;
          known = g.known;
          place = place_is;
          attempt = fits.attempt.0.1;
          author = λ i. record { node = fits.attempt.1 i; incarnation = fits.now i };
        };
        granted = λ given. fits.granted (subst (λ (x : Slot). In x s.actor.granted) place_is given);
        closed = λ outcome is_in. elim (in_either (slot, outcome) (map unanswered older) s.actor.closed is_in) [
          | inl now ↦
              let it = in_mapped unanswered older (slot, outcome) now in
              let less = below it.from it.among in
              let same : slot.id ≡ it.from.id = ap (λ (x : Slot × Outcome). x.0.id) it.is in
              omega arith
          | inr before ↦ fits.closed outcome (subst (λ (x : Slot). In (x, outcome) s.actor.closed) place_is before)
        ];
      }

  pub run_abandons : (slots : List Slot) → Fall (map id_of_slot slots) → ((slot : Slot) → In slot slots → GivesUp setup s reach slot) →
      IsRunAlone setup.nodes setup.node s (map Abandons slots)
  run_abandons [] falls gives = tt
  run_abandons (slot ∷ slots) falls gives = (
    subst (λ (x : Node). MayAlone setup.nodes setup.node x (Abandons slot)) (sym (reached_abandons setup s slots)) (record {
      least = works.least;
      most = works.most;
      up = works.up;
      needs =
          may_give_up slot slots (gives slot (inl refl)) (λ other among. fall_above slot.id (map id_of_slot slots) falls other.id (mapped slots other among));
    }),
    run_abandons slots (fall_rest slot.id (map id_of_slot slots) falls) (λ other among. gives other (inr among)),
  )

  -- ---- rounds that start

  pub run_starts : IsCoherent setup.node s.actor → IsNode setup.node → (slots : List Slot) (offers : List Offer) →
      ((offer : Offer) → In offer offers → MayPrepare setup.nodes setup.node s.actor s.records offer.slot offer.ballot) →
      IsRunAlone setup.nodes setup.node (later setup s slots []) (map prepare_of offers)
  run_starts coherent mine slots offers may = each offers may
    where
      own : (offer : Offer) → MayPrepare setup.nodes setup.node s.actor s.records offer.slot offer.ballot → OwnBallot setup.node s.actor offer.ballot
      own offer is =
          let both = own_ballot (is.next.highest + 1) s.actor.incarnation setup.node coherent.life mine in
          (ap proposer_of is.next.ballot_is ∙ both.0, ap incarnation_in is.next.ballot_is ∙ both.1)

      each : (some : List Offer) → ((offer : Offer) → In offer some → MayPrepare setup.nodes setup.node s.actor s.records offer.slot offer.ballot) →
          IsRunAlone setup.nodes setup.node (later setup s slots []) (map prepare_of some)
      each [] may = tt
      each (offer ∷ some) may = (
        subst (λ (x : Node). MayAlone setup.nodes setup.node x (prepare_of offer)) (sym (reached_starts setup s some slots [])) (record {
          least = works.least;
          most = works.most;
          up = works.up;
          needs = own offer (may offer (inl refl));
        }),
        each some (λ other among. may other (inr among)),
      )
