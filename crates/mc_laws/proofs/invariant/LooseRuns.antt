-- What holds of every world that a loose run leads to, and the headline of it.
use Rattle.std.proofs.Common.{◌≡◌, ◌⊎◌, ℕ, ◌≤◌, List, [], ◌∷◌, ◌++◌, length, Some, sym, ◌∙◌, ap, subst, inl, inr, arith}
use Rattle.std.proofs.lemmas.Bool.{cases_lt}
use Rattle.mc_model.specs.message.Decree.{Decree, Attempt, Final, Delivered}
use Rattle.mc_model.specs.message.Chain.{GoesOn, final_in}
use Rattle.mc_model.specs.synod.Lists.{In}
use Rattle.mc_model.specs.synod.OneSlot.{Vote}
use Rattle.mc_model.specs.synod.Packet.{Slot, Propose, slot_of}
use Rattle.mc_model.specs.node.Outcome.{Outcome}
use Rattle.mc_model.specs.node.Act.{Act}
use Rattle.mc_model.specs.cluster.World.{World, Deed, cast, IsChosenIn, after, start, reached}
use Rattle.mc_model.specs.cluster.Fate.{CameBefore, States, IsGrant, IsDelivery}
use Rattle.mc_model.specs.cluster.Loose.{MayLoosely, IsLooseRun, LooseRun, end_of}
use Rattle.mc_parts.proofs.Stable.{stable}
use Rattle.mc_laws.proofs.invariant.Keeping.{Keeps, sound, keeps_start, keeps_after}
use Rattle.mc_laws.proofs.invariant.Links.{Links, ChainFits, links_start, links_after}
use Rattle.mc_laws.proofs.invariant.Orderly.{IsOrderly, state_stays}
use Rattle.mc_laws.proofs.invariant.Agreement.{Chosen, standing, begins, agree}
use Rattle.mc_laws.proofs.invariant.Fated.{open_passed, passed_at, Timely, AllTimely, Truthful, told_start, told_after}

pub record HoldsLoosely (w : World) : Type 0 where
  pub keeps : Keeps w
  pub links : Links w
  pub told : Truthful w

pub loosely_after : (w : World) → HoldsLoosely w → (node : ℕ) (act : Act) → MayLoosely w node act → HoldsLoosely (after w node act)
loosely_after w h node act may = record {
  keeps = keeps_after w h.keeps node act may;
  links = links_after w h.keeps h.links node act may;
  told = told_after w h.keeps h.links h.told node act may;
}

pub holds_loosely : (nodes : ℕ) (serials : ℕ → ℕ) (acts : List (ℕ × Act)) → IsLooseRun (start nodes serials) acts →
    HoldsLoosely (reached (start nodes serials) acts)
holds_loosely nodes serials [] run =
    record { keeps = keeps_start nodes serials; links = links_start nodes serials; told = told_start nodes serials }
holds_loosely nodes serials (newest ∷ older) run =
    loosely_after (reached (start nodes serials) older) (holds_loosely nodes serials older run.1) newest.0 newest.1 run.0

pub holds_at_end : (run : LooseRun) → HoldsLoosely (end_of run)
holds_at_end run = holds_loosely run.nodes run.serials run.acts run.may

-- ---- one fate

-- a chosen chain with a fate, or one that goes on from it, has the same
pub longest_fate : (w : World) → HoldsLoosely w → (id : ℕ) (one other : List Decree) (final : Final) → Chosen w id one → Chosen w id other →
    final_in one ≡ Some final → length one ≤ length other →
    final_in other ≡ Some final
longest_fate w h id one other final is_one is_other ends long =
    let b = begins w h.keeps h.links id one other is_one is_other long in
    let s = standing w h.keeps h.links id other is_other in
    ap final_in b.chain_is ∙ state_stays one b.more final (subst IsOrderly b.chain_is s.orderly) ends

fates_same : (w : World) → HoldsLoosely w → (id : ℕ) (one other : List Decree) (first second : Final) → Chosen w id one → Chosen w id other →
    final_in one ≡ Some first → final_in other ≡ Some second → length one ≤ length other →
    first ≡ second
fates_same w h id one other first second is_one is_other ends_one ends_other long =
    let same = longest_fate w h id one other first is_one is_other ends_one long in
    let both : Some first ≡ Some second = sym same ∙ ends_other in
    cc

pub same_fates : (w : World) → HoldsLoosely w → (id : ℕ) (one other : List Decree) (first second : Final) → Chosen w id one →
    Chosen w id other → final_in one ≡ Some first → final_in other ≡ Some second →
    first ≡ second
same_fates w h id one other first second is_one is_other ends_one ends_other = elim (cases_lt (length one) (length other)) [
  | inl shorter ↦ fates_same w h id one other first second is_one is_other ends_one ends_other (omega (arith, shorter))
  | inr longer ↦ sym (fates_same w h id other one second first is_other is_one ends_other ends_one longer)
]

pub one_fate_stated : (w : World) → HoldsLoosely w → (one other : Deed) (id : ℕ) (first second : Final) → In one w.past → In other w.past →
    States one id first → States other id second →
    first ≡ second
one_fate_stated w h one other id first second in_one in_other s t =
    same_fates w h id s.chain t.chain first second (h.told.chosen one id s.chain in_one s.tells)
    (h.told.chosen other id t.chain in_other t.tells) s.state t.state

-- ---- deeds in their order

-- the deed that stands before these older ones was timely
timely_at : (past newer : List Deed) (deed : Deed) (older : List Deed) → AllTimely past → past ≡ newer ++ deed ∷ older → Timely deed older
timely_at [] [] deed older timely is = cc
timely_at [] (x ∷ newer) deed older timely is = cc
timely_at (first ∷ past) [] deed older timely is =
    let heads : first ≡ deed = cc in
    let tails : past ≡ older = cc in
    subst (λ (ds : List Deed). Timely deed ds) tails (subst (λ (d : Deed). Timely d past) heads timely.0)
timely_at (first ∷ past) (x ∷ newer) deed older timely is =
    let tails : past ≡ newer ++ deed ∷ older = cc in
    timely_at past newer deed older timely.1 tails

pub none_granted_after : (w : World) → HoldsLoosely w → (stating granting : Deed) (id : ℕ) (final : Final) → CameBefore stating granting w.past →
    States stating id final → IsGrant granting id →
    ⊥
none_granted_after w h stating granting id final came states grant =
    (timely_at w.past came.newer granting came.older h.told.timely came.split).grants grant.slot stating final grant.grants came.before
    (subst (λ (i : ℕ). States stating i final) (sym grant.about) states)

pub delivery_behind : (w : World) → HoldsLoosely w → (newer : List Deed) (stating : Deed) (older : List Deed) (id : ℕ) →
    w.past ≡ newer ++ stating ∷ older → (states : States stating id Delivered) →
    IsDelivery id states.chain older
delivery_behind w h newer stating older id is states =
    (timely_at w.past newer stating older h.told.timely is).delivers id states.chain states.tells states.state

-- ---- what stands behind it

pub choice_stays : (w : World) → HoldsLoosely w → (slot : Slot) (chosen : Vote) (acceptor : ℕ) (vote : Vote) → IsChosenIn w slot chosen →
    In (cast acceptor slot vote) w.votes → chosen.ballot ≤ vote.ballot →
    vote.chain ≡ chosen.chain
choice_stays w h slot chosen acceptor vote is_chosen is_in =
    stable w.nodes _ _ _ (sound w h.keeps slot) chosen is_chosen vote (h.keeps.proposed (cast acceptor slot vote) is_in)

pub chains_agree : (w : World) → HoldsLoosely w → (one other : Slot) (first second : Vote) → one.id ≡ other.id → IsChosenIn w one first →
    IsChosenIn w other second →
    GoesOn first.chain second.chain ⊎ GoesOn second.chain first.chain
chains_agree w h = agree w h.keeps h.links

-- a decree behind an attempt, of a chain that stands
open_attempt : (w : World) → HoldsLoosely w → (id node : ℕ) (next newest : Decree) (older : List Decree) (number : ℕ) →
    newest.kind ≡ Attempt number → newest.author ≡ record { node = node; incarnation = (w.actors node).incarnation } →
    ((outcome : Outcome) → In (slot_of id (newest ∷ older), outcome) (w.actors node).closed → ⊥) → ChainFits w id (next ∷ newest ∷ older) →
    ⊥
open_attempt w h id node next newest older number attempt author unclosed fits =
    open_passed w h.links node (slot_of id (newest ∷ older)) newest.author next.kind author unclosed
    (passed_at w newest.author (slot_of id (newest ∷ older)) newest.kind next.kind number attempt fits.passed)

-- a chain that stands goes on from an attempt at once, or its own beginning does, which is chosen
passes : (w : World) → HoldsLoosely w → (id node : ℕ) (last : Decree) (more : List Decree) (newest : Decree) (older : List Decree) (number : ℕ) →
    newest.kind ≡ Attempt number → newest.author ≡ record { node = node; incarnation = (w.actors node).incarnation } →
    ((outcome : Outcome) → In (slot_of id (newest ∷ older), outcome) (w.actors node).closed → ⊥) →
    ChainFits w id (last ∷ (more ++ newest ∷ older)) →
    ⊥
passes w h id node last [] newest older number attempt author unclosed fits = open_attempt w h id node last newest older number attempt author unclosed fits
passes w h id node last (next ∷ more) newest older number attempt author unclosed fits =
    passes w h id node next more newest older number attempt author unclosed
    (standing w h.keeps h.links id (next ∷ (more ++ newest ∷ older)) (record { ballot = fits.ballot; chosen = fits.chosen })).fits

pub attempt_not_passed : (w : World) → HoldsLoosely w → (sender : ℕ) (slot : Slot) (vote : Vote) (node : ℕ) (last : Decree) (more : List Decree)
    (newest : Decree) (older : List Decree) (number : ℕ) → In (Propose sender slot vote) w.packets →
    vote.chain ≡ last ∷ (more ++ newest ∷ older) → newest.kind ≡ Attempt number →
    newest.author ≡ record { node = node; incarnation = (w.actors node).incarnation } →
    ((outcome : Outcome) → In (slot_of slot.id (newest ∷ older), outcome) (w.actors node).closed → ⊥) →
    ⊥
attempt_not_passed w h sender slot vote node last more newest older number sent is attempt author unclosed =
    passes w h slot.id node last more newest older number attempt author unclosed
    (subst (ChainFits w slot.id) is (h.links.standing slot vote (record { sender = sender; sent = sent })).fits)
