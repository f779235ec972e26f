-- What holds of every world that acts lead to.
use Rattle.std.proofs.Common.{◌≡◌, ℕ, ◌≤◌, List, [], ◌∷◌, ◌++◌, length, Some, arith}
use Rattle.mc_model.specs.message.Decree.{Decree, Final, Delivered}
use Rattle.mc_model.specs.message.Chain.{final_in}
use Rattle.mc_model.specs.synod.Lists.{In}
use Rattle.mc_model.specs.node.Act.{Act}
use Rattle.mc_model.specs.cluster.World.{World, Deed, May, after, start, reached, IsRun}
use Rattle.mc_model.specs.cluster.Fate.{CameBefore, States, IsGrant, IsDelivery}
use Rattle.mc_laws.proofs.invariant.Loosening.{loosely}
use Rattle.mc_laws.proofs.invariant.Keeping.{Keeps, ToldVotes, keeps_start, keeps_after, told_votes_after}
use Rattle.mc_laws.proofs.invariant.Links.{Links, links_start, links_after}
use Rattle.mc_laws.proofs.invariant.Agreement.{Chosen}
use Rattle.mc_laws.proofs.invariant.Fated.{AcceptedHaveChains, Truthful, accepted_after, told_start, told_after}
use Rattle.mc_laws.proofs.invariant.LooseRuns.{HoldsLoosely, delivery_behind, longest_fate, none_granted_after, one_fate_stated, same_fates}
use Rattle.mc_laws.proofs.invariant.Permitted.{Permitted, permitted_after, permitted_start}
use Rattle.mc_laws.proofs.invariant.Deletions.{Deletions, deletions_start, deletions_after}
use Rattle.mc_laws.proofs.invariant.Freshness.{Names, names_start, names_after}
use Rattle.mc_laws.proofs.invariant.Honest.{Honest, honest_start, honest_after}
use Rattle.mc_laws.proofs.invariant.Grantings.{Grantings, grantings_start, grantings_after}
use Rattle.mc_laws.proofs.invariant.OwnDecrees.{OwnDecrees, own_decrees_start, own_decrees_after}
use Rattle.mc_laws.proofs.invariant.Rooms.{HasRoom, room_after}
use Rattle.mc_laws.proofs.invariant.Stopping.{StaysDown, down_after}

pub record Holds (w : World) : Type 0 where
  pub keeps : Keeps w
  pub links : Links w
  pub told : Truthful w
  pub accepted : AcceptedHaveChains w
  pub told_votes : ToldVotes w
  pub permitted : Permitted w
  pub names : Names w
  pub deletions : Deletions w
  pub honest : Honest w
  pub grantings : Grantings w
  pub own : OwnDecrees w
  pub rooms : (node : ℕ) → HasRoom (w.actors node)
  pub down : (node : ℕ) → StaysDown w.past node (w.actors node)

pub holds_after : (w : World) → Holds w → (node : ℕ) (act : Act) → May w node act → Holds (after w node act)
holds_after w h node act may = record {
  keeps = keeps_after w h.keeps node act (loosely w node act may);
  links = links_after w h.keeps h.links node act (loosely w node act may);
  told = told_after w h.keeps h.links h.told node act (loosely w node act may);
  accepted = accepted_after w h.keeps h.accepted node act may;
  told_votes = told_votes_after w h.keeps h.told_votes node act may;
  permitted = permitted_after w h.keeps h.permitted node act may;
  names = names_after w h.keeps h.names node act may;
  deletions = deletions_after w h.keeps h.deletions node act may;
  honest = honest_after w h.keeps h.names h.honest node act may;
  grantings = grantings_after w h.links h.grantings node act may;
  own = own_decrees_after w h.keeps h.own node act may;
  rooms = room_after w node act may h.rooms;
  down = down_after w h.links h.down node act may;
}

pub holds : (nodes : ℕ) (serials : ℕ → ℕ) (acts : List (ℕ × Act)) → IsRun (start nodes serials) acts → Holds (reached (start nodes serials) acts)
holds nodes serials [] run =
    record {
      keeps = keeps_start nodes serials;
      links = links_start nodes serials;
      told = told_start nodes serials;
      accepted = λ deed ticket id is_in. absurd is_in;
      told_votes = λ sender name told is_in. absurd is_in;
      permitted = permitted_start nodes serials;
      names =
          names_start nodes serials;
      deletions = deletions_start nodes serials;
      honest = honest_start nodes serials;
      grantings =
          grantings_start nodes serials;
      own = own_decrees_start nodes serials;
      rooms = λ node. omega arith;
      down = λ node is_in. absurd is_in;
    }
holds nodes serials (newest ∷ older) run = holds_after (reached (start nodes serials) older) (holds nodes serials older run.1) newest.0 newest.1 run.0

-- ---- fates, as in a loose run

loosened : (w : World) → Holds w → HoldsLoosely w
loosened w h = record { keeps = h.keeps; links = h.links; told = h.told }

pub fate_longest : (w : World) → Holds w → (id : ℕ) (one other : List Decree) (final : Final) → Chosen w id one → Chosen w id other →
    final_in one ≡ Some final → length one ≤ length other →
    final_in other ≡ Some final
fate_longest w h = longest_fate w (loosened w h)

pub chosen_fates_same : (w : World) → Holds w → (id : ℕ) (one other : List Decree) (first second : Final) → Chosen w id one →
    Chosen w id other → final_in one ≡ Some first → final_in other ≡ Some second →
    first ≡ second
chosen_fates_same w h = same_fates w (loosened w h)

pub one_fate : (w : World) → Holds w → (one other : Deed) (id : ℕ) (first second : Final) → In one w.past → In other w.past →
    States one id first → States other id second →
    first ≡ second
one_fate w h = one_fate_stated w (loosened w h)

pub no_grant_after : (w : World) → Holds w → (stating granting : Deed) (id : ℕ) (final : Final) → CameBefore stating granting w.past →
    States stating id final → IsGrant granting id →
    ⊥
no_grant_after w h = none_granted_after w (loosened w h)

pub stands_on_delivery : (w : World) → Holds w → (newer : List Deed) (stating : Deed) (older : List Deed) (id : ℕ) →
    w.past ≡ newer ++ stating ∷ older → (states : States stating id Delivered) →
    IsDelivery id states.chain older
stands_on_delivery w h = delivery_behind w (loosened w h)
