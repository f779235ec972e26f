-- What ESMEs are told of a message's fate, and what attempts are granted.
use Rattle.std.proofs.Common.{◌≡◌, ◌⊎◌, ℕ, ◌<◌, List, [], ◌∷◌, ◌++◌, length, Option, Some, None, refl, sym, ◌∙◌, ap, subst, inl, inr, arith}
use Rattle.std.proofs.lemmas.Bool.{cases_lt}
use Rattle.mc_model.specs.message.Submission.{Submission}
use Rattle.mc_model.specs.message.Decree.{Author, Decree, Kind, Taken, Attempt, Failed, Fate, Told, Final, Delivered, Expired, Deleted, Undeliverable, Rejected}
use Rattle.mc_model.specs.message.Neighbours.{MayFollow}
use Rattle.mc_model.specs.message.Chain.{MayExtend, taken_in, final_in, final_by}
use Rattle.mc_model.specs.synod.Lists.{In}
use Rattle.mc_model.specs.synod.OneSlot.{vote_at}
use Rattle.mc_model.specs.synod.Packet.{Slot, slot_of}
use Rattle.mc_model.specs.node.Outcome.{Outcome, Concluded, Unanswered, decree_of}
use Rattle.mc_model.specs.node.Actor.{Actor, Request, Submit, Query, Cancel, Waiting, id_in}
use Rattle.mc_model.specs.node.Replies.{Accepted, IsAccepted, FitsRequest, MayReply}
use Rattle.mc_model.specs.node.Grant.{MayGrant}
use Rattle.mc_model.specs.node.Act.{Act, Replies, Grants, Concludes, Restarts}
use Rattle.mc_model.specs.node.Effect.{actor_by}
use Rattle.mc_model.specs.cluster.World.{World, Deed, May, after, start}
use Rattle.mc_model.specs.cluster.Fate.{TellsOf, States, CameBefore, deed_by, IsDelivery}
use Rattle.mc_model.specs.cluster.Loose.{MayLoosely}
use Rattle.mc_parts.proofs.Fates.{open_kind, told_ends, told_or_not, untold_below, untold_told}
use Rattle.mc_laws.proofs.invariant.Growth.{grows, grows_loosely, later, actors_after}
pub use Rattle.mc_laws.proofs.invariant.Loosening.{tells_known}
use Rattle.mc_laws.proofs.invariant.Keeping.{Keeps}
use Rattle.mc_laws.proofs.invariant.Orderly.{IsOrderly, fate_is_last, taking_is_no_fate}
use Rattle.mc_laws.proofs.invariant.Links.{Links, ClosedIn, Passed, PassedClosed, PassedLost, chosen_still}
use Rattle.mc_laws.proofs.invariant.Agreement.{Chosen, standing, known_chosen, begins, Extended, extended}

-- ---- deeds in their order

-- an answered attempt was granted before; a granted one is of a message of which no final state was stated; and a chain that
-- ends in the fate DELIVERED, of which an ESME is told, stands on a delivery
pub record Timely (deed : Deed) (older : List Deed) : Type 0 where
  pub answers : (slot : Slot) (outcome : Outcome) → deed.act ≡ Concludes slot outcome → In (record deed { act = Grants slot }) older
  pub grants : (slot : Slot) (earlier : Deed) (final : Final) → deed.act ≡ Grants slot → In earlier older → States earlier slot.id final → ⊥
  pub delivers : (id : ℕ) (chain : List Decree) → TellsOf deed.act id chain → final_in chain ≡ Some Delivered → IsDelivery id chain older

abbrev pub AllTimely : List Deed → Type 0
AllTimely [] = Unit {0}
AllTimely (deed ∷ older) = Timely deed older × AllTimely older

-- a message of which a submit_sm was accepted has a chosen chain
pub record HasChain (w : World) (id : ℕ) : Type 0 where
  pub chain : List Decree
  pub chosen : Chosen w id chain

abbrev pub AcceptedHaveChains : World → Type 0
AcceptedHaveChains w = (deed : Deed) (ticket id : ℕ) → In deed w.past → deed.act ≡ Replies ticket id Accepted → HasChain w id

pub record Truthful (w : World) : Type 0 where
  pub chosen : (deed : Deed) (id : ℕ) (chain : List Decree) → In deed w.past → TellsOf deed.act id chain → Chosen w id chain
  pub granted : (node : ℕ) (slot : Slot) → In slot (w.actors node).granted →
      In (deed_by (record { node = node; incarnation = (w.actors node).incarnation }) (Grants slot)) w.past
  pub timely : AllTimely w.past

chosen_after : (w : World) → Keeps w → Truthful w → (node : ℕ) (act : Act) → MayLoosely w node act → (deed : Deed) (id : ℕ) (chain : List Decree) →
    In deed (after w node act).past → TellsOf deed.act id chain →
    Chosen (after w node act) id chain
chosen_after w keeps told node act may deed id chain is_in tells =
    let c : Chosen w id chain = elim is_in [
      | inl new ↦ known_chosen w keeps node id chain (may.known id chain (subst (λ (d : Deed). TellsOf d.act id chain) new tells))
      | inr old ↦ told.chosen deed id chain old tells
    ] in
    record { ballot = c.ballot; chosen = chosen_still w (after w node act) (grows_loosely w node act may) (slot_of id chain) (vote_at c.ballot chain) c.chosen }

accepted_known : (nodes node : ℕ) (a : Actor) (w : Waiting) (request : Request) → FitsRequest nodes node a w request Accepted →
    IsAccepted nodes a (id_in request)
accepted_known nodes node a w (Submit id message) fits = fits
accepted_known nodes node a w (Query id account source) fits = absurd fits
accepted_known nodes node a w (Cancel id account source destination) fits = absurd fits

accepted_new : (w : World) → Keeps w → (node ticket id : ℕ) → MayReply w.nodes node (w.actors node) ticket id Accepted → HasChain w id
accepted_new w keeps node ticket id may =
    let a = accepted_known w.nodes node (w.actors node) may.asked.waiting may.asked.waiting.request may.fits in
    subst (HasChain w) may.asked.about (record { chain = a.chain; chosen = known_chosen w keeps node (id_in may.asked.waiting.request) a.chain a.known })

pub accepted_after : (w : World) → Keeps w → AcceptedHaveChains w → (node : ℕ) (act : Act) → May w node act → AcceptedHaveChains (after w node act)
accepted_after w keeps accepted node act may deed ticket id is_in is =
    let c : HasChain w id = elim is_in [
      | inl new ↦ accepted_new w keeps node ticket id (subst (May w node) (ap (λ (d : Deed). d.act) (sym new) ∙ is) may).needs
      | inr old ↦ accepted deed ticket id old is
    ] in
    record {
      chain = c.chain;
      chosen = record {
        ballot = c.chosen.ballot;
        chosen = chosen_still w (after w node act) (grows w node act may)
            (slot_of id c.chain) (vote_at c.chosen.ballot c.chain) c.chosen.chosen;
      };
    }

-- ---- an attempt that may be granted is of no message that has a fate

-- an attempt is no fate
attempt_open : (newest : Decree) (older : List Decree) (number : ℕ) (final : Final) → newest.kind ≡ Attempt number → final_in (newest ∷ older) ≡ Some final → ⊥
attempt_open newest older number final attempt ends = let none : final_by newest.kind (final_in older) ≡ None = ap (λ (kind : Kind). final_by kind (final_in older)) attempt in cc

-- so no chain that begins with one that has a fate ends in an attempt
attempt_behind : (newest : Decree) (older chain more : List Decree) (number : ℕ) (final : Final) → newest.kind ≡ Attempt number →
    (newest ∷ older) ≡ more ++ chain → IsOrderly (newest ∷ older) → final_in chain ≡ Some final →
    ⊥
attempt_behind newest older chain more number final attempt is orderly ends =
    elim (fate_is_last chain more final (subst IsOrderly is orderly) ends) [
      | inl none ↦
          let same : (newest ∷ older) ≡ chain = is ∙ ap (λ (m : List Decree). m ++ chain) none in
          attempt_open newest older number final attempt (ap final_in same ∙ ends)
      | inr told ↦
          let same : (newest ∷ older) ≡ told.0 ∷ chain = is ∙ ap (λ (m : List Decree). m ++ chain) told.1.0 in
          let kinds : newest.kind ≡ told.0.kind = (let heads : newest ≡ told.0 = cc in ap (λ (d : Decree). d.kind) heads) in
          let clash : Attempt number ≡ Told = sym attempt ∙ (kinds ∙ told.1.1) in
          cc
    ]

goes_on : (w : World) → Keeps w → Links w → (id : ℕ) (newest : Decree) (older chain more : List Decree) (number : ℕ) (final : Final) →
    newest.kind ≡ Attempt number → chain ≡ more ++ (newest ∷ older) → Chosen w id chain → final_in chain ≡ Some final →
    Extended w id (newest ∷ older)
goes_on w keeps links id newest older chain [] number final attempt is chosen ends =
    absurd (attempt_open newest older number final attempt (ap final_in (sym is) ∙ ends))
goes_on w keeps links id newest older chain (last ∷ more) number final attempt is chosen ends =
    extended w keeps links id last more (newest ∷ older) (subst (Chosen w id) is chosen)

-- a message with a fate whose chosen chain had come to an attempt went on from there
beyond_attempt : (w : World) → Keeps w → Links w → (id : ℕ) (newest : Decree) (older chain : List Decree) (number : ℕ) (final : Final) →
    newest.kind ≡ Attempt number → Chosen w id (newest ∷ older) → Chosen w id chain → final_in chain ≡ Some final →
    Extended w id (newest ∷ older)
beyond_attempt w keeps links id newest older chain number final attempt is_attempt is_chain ends = elim (cases_lt (length chain) (length (newest ∷ older))) [
  | inl shorter ↦
      let b = begins w keeps links id chain (newest ∷ older) is_chain is_attempt (omega (arith, shorter)) in
      absurd (attempt_behind newest older chain b.more number final attempt b.chain_is
      (standing w keeps links id (newest ∷ older) is_attempt).orderly ends)
  | inr longer ↦
      let b = begins w keeps links id (newest ∷ older) chain is_attempt is_chain longer in
      goes_on w keeps links id newest older chain b.more number final attempt b.chain_is is_chain ends
]

-- what goes on from an attempt has it closed, or its author started anew
pub open_passed : (w : World) → Links w → (node : ℕ) (slot : Slot) (attempted : Author) (next : Kind) →
    attempted ≡ record { node = node; incarnation = (w.actors node).incarnation } →
    ((outcome : Outcome) → In (slot, outcome) (w.actors node).closed → ⊥) →
    PassedClosed w attempted slot next ⊎ PassedLost w attempted next →
    ⊥
open_passed w links node slot attempted next is unclosed (inl closed) =
    unclosed closed.outcome (links.recalls node slot closed.outcome (subst (λ (a : Author). ClosedIn w.past a slot closed.outcome) is closed.closed))
open_passed w links node slot attempted next is unclosed (inr lost) =
    let later = subst (λ (a : Author). a.incarnation < (w.actors a.node).incarnation) is lost.later in omega (arith, later)

pub passed_at : (w : World) (attempted : Author) (slot : Slot) (kind next : Kind) (number : ℕ) → kind ≡ Attempt number →
    Passed w attempted slot kind next →
    PassedClosed w attempted slot next ⊎ PassedLost w attempted next
passed_at w attempted slot kind next number is passed = subst (λ (k : Kind). Passed w attempted slot k next) is passed

no_fate_at_grant : (w : World) → Keeps w → Links w → Truthful w → (node : ℕ) (slot : Slot) → MayGrant w.nodes node (w.actors node) slot →
    (earlier : Deed) (final : Final) → In earlier w.past → States earlier slot.id final →
    ⊥
no_fate_at_grant w keeps links told node slot may earlier final is_in states =
    let a = may.attempting in
    let attempt = known_chosen w keeps node slot.id (a.newest ∷ a.older) a.known in
    let fated = told.chosen earlier slot.id states.chain is_in states.tells in
    let e = beyond_attempt w keeps links slot.id a.newest a.older states.chain a.number final a.attempt attempt fated states.state in
    let s = standing w keeps links slot.id (e.next ∷ a.newest ∷ a.older) e.chosen in
    open_passed w links node (slot_of slot.id (a.newest ∷ a.older)) a.newest.author e.next.kind a.author
    (λ outcome is_closed. may.closed outcome (subst (λ (s : Slot). In (s, outcome) (w.actors node).closed) (sym a.place) is_closed))
    (passed_at w a.newest.author (slot_of slot.id (a.newest ∷ a.older)) a.newest.kind e.next.kind a.number a.attempt s.fits.passed)

-- ---- what the fate DELIVERED stands on

pub record IsDelivered (attempted author : Author) (kind next : Kind) : Type 0 where
  pub number : ℕ
  pub error : ℕ
  pub attempt : kind ≡ Attempt number
  pub delivered : next ≡ Fate Delivered error
  pub same : author ≡ attempted

delivered_next : (message : Submission) (home attempts : ℕ) (old : Author) (before : ℕ) (kind : Kind) (author : Author) (moment : ℕ) (next : Kind)
    (older : Option Final) → MayFollow message home attempts old before kind author moment next → (next ≡ Told → ⊥) →
    final_by next older ≡ Some Delivered →
    IsDelivered old author kind next
delivered_next message home attempts old before (Attempt number) author moment (Fate Delivered error) older may apart is =
    record { number = number; error = error; attempt = refl; delivered = refl; same = may }
delivered_next message home attempts old before (Taken taken) author moment (Fate Delivered error) older may apart is = absurd may
delivered_next message home attempts old before (Failed cause) author moment (Fate Delivered error) older may apart is = absurd may
delivered_next message home attempts old before (Fate final cause) author moment (Fate Delivered error) older may apart is = absurd may
delivered_next message home attempts old before Told author moment (Fate Delivered error) older may apart is = absurd may
delivered_next message home attempts old before kind author moment (Fate Expired error) older may apart is = cc
delivered_next message home attempts old before kind author moment (Fate Deleted error) older may apart is = cc
delivered_next message home attempts old before kind author moment (Fate Undeliverable error) older may apart is = cc
delivered_next message home attempts old before kind author moment (Fate Rejected error) older may apart is = cc
delivered_next message home attempts old before kind author moment (Taken taken) older may apart is = cc
delivered_next message home attempts old before kind author moment (Attempt number) older may apart is = cc
delivered_next message home attempts old before kind author moment (Failed error) older may apart is = cc
delivered_next message home attempts old before kind author moment Told older may apart is = absurd (apart refl)

delivered_after : (message : Option Submission) (attempt : Decree) (older : List Decree) (fate : Decree) →
    MayExtend message (attempt ∷ older) fate → (fate.kind ≡ Told → ⊥) → final_in (fate ∷ attempt ∷ older) ≡ Some Delivered →
    IsDelivered attempt.author fate.author attempt.kind fate.kind
delivered_after None attempt older fate may apart is = absurd may
delivered_after (Some message) attempt older fate may apart is =
    delivered_next message _ _ attempt.author attempt.moment attempt.kind fate.author fate.moment fate.kind _ may.1 apart is

-- the outcome that such a decree tells of came from an answer
delivering : (outcome : Outcome) (error : ℕ) → Fate Delivered error ≡ decree_of outcome → outcome ≡ Concluded Delivered error
delivering (Concluded final other) error is = cc
delivering (Unanswered other) error is = cc

answered_delivery : (past : List Deed) (author : Author) (slot : Slot) (outcome : Outcome) (error : ℕ) →
    outcome ≡ Concluded Delivered error → ClosedIn past author slot outcome →
    In (deed_by author (Concludes slot (Concluded Delivered error))) past
answered_delivery past author slot outcome error is (inl answered) = subst (λ (o : Outcome). In (deed_by author (Concludes slot o)) past) is answered
answered_delivery past author slot outcome error is (inr abandoned) = let clash : Unanswered 998 ≡ Concluded Delivered error = sym abandoned.0 ∙ is in cc

passed_delivery : (w : World) (author : Author) (slot : Slot) (error : ℕ) →
    PassedClosed w author slot (Fate Delivered error) ⊎ PassedLost w author (Fate Delivered error) →
    In (deed_by author (Concludes slot (Concluded Delivered error))) w.past
passed_delivery w author slot error (inl closed) =
    answered_delivery w.past author slot closed.outcome error (delivering closed.outcome error closed.kind) closed.closed
passed_delivery w author slot error (inr lost) = let clash : Fate Delivered error ≡ Failed 999 = lost.kind in cc

-- an answered attempt was granted before
granted_before : (past : List Deed) → AllTimely past → (author : Author) (slot : Slot) (outcome : Outcome) →
    In (deed_by author (Concludes slot outcome)) past →
    CameBefore (deed_by author (Grants slot)) (deed_by author (Concludes slot outcome)) past
granted_before [] timely author slot outcome is_in = absurd is_in
granted_before (deed ∷ older) timely author slot outcome (inl same) = record {
  newer = [];
  older = older;
  split = ap (λ (d : Deed). d ∷ older) (sym same);
  before = subst (λ (d : Deed). In (record d { act = Grants slot }) older) (sym same) (timely.0.answers slot outcome (ap (λ (d : Deed). d.act) (sym same)));
}
granted_before (deed ∷ older) timely author slot outcome (inr later) =
    let b = granted_before older timely.1 author slot outcome later in
    record { newer = deed ∷ b.newer; older = b.older; split = ap (λ (ds : List Deed). deed ∷ ds) b.split; before = b.before }

untold_delivery : (w : World) → Keeps w → Links w → Truthful w → (id : ℕ) (fate : Decree) (below : List Decree) → Chosen w id (fate ∷ below) →
    (fate.kind ≡ Told → ⊥) → final_in (fate ∷ below) ≡ Some Delivered →
    IsDelivery id (fate ∷ below) w.past
untold_delivery w keeps links told id fate [] chosen apart is =
    absurd (taking_is_no_fate fate.kind _ Delivered (standing w keeps links id (fate ∷ []) chosen).orderly is)
untold_delivery w keeps links told id fate (attempt ∷ older) chosen apart is =
    let s = standing w keeps links id (fate ∷ attempt ∷ older) chosen in
    let d = delivered_after (taken_in (attempt ∷ older)) attempt older fate s.orderly.1 apart is in
    let passed = passed_at w attempt.author (slot_of id (attempt ∷ older)) attempt.kind fate.kind d.number d.attempt s.fits.passed in
    let answered = passed_delivery w attempt.author (slot_of id (attempt ∷ older)) d.error
    (subst (λ (k : Kind). PassedClosed w attempt.author (slot_of id (attempt ∷ older)) k ⊎ PassedLost w attempt.author k) d.delivered passed) in
    record {
      fate = fate;
      attempt = attempt;
      older = older;
      number = d.number;
      error = d.error;
      chain_is = open_kind fate.kind (fate ∷ attempt ∷ older) (attempt ∷ older) apart;
      attempted = d.attempt;
      delivered = d.delivered;
      author = d.same;
      granted = granted_before w.past told.timely attempt.author (slot_of id (attempt ∷ older)) (Concluded Delivered d.error) answered;
    }

-- a Told stands on the delivery of the chain below it
told_delivery : (w : World) → Keeps w → Links w → (id : ℕ) (newest : Decree) (older : List Decree) → Chosen w id (newest ∷ older) → newest.kind ≡ Told →
    IsDelivery id older w.past →
    IsDelivery id (newest ∷ older) w.past
told_delivery w keeps links id newest [] chosen is d = cc
told_delivery w keeps links id newest (older ∷ oldest) chosen is d =
    let s = standing w keeps links id (newest ∷ older ∷ oldest) chosen in
    record {
      fate = d.fate;
      attempt = d.attempt;
      older = d.older;
      number = d.number;
      error = d.error;
      chain_is = untold_told newest (older ∷ oldest) is ∙ (sym (untold_below _ (older ∷ oldest) newest s.orderly.1) ∙ d.chain_is);
      attempted = d.attempted;
      delivered = d.delivered;
      author = d.author;
      granted = d.granted;
    }

delivery : (w : World) → Keeps w → Links w → Truthful w → (id : ℕ) (chain : List Decree) → Chosen w id chain → final_in chain ≡ Some Delivered →
    IsDelivery id chain w.past
delivery w keeps links told id [] chosen is = cc
delivery w keeps links told id (newest ∷ older) chosen is = elim (told_or_not newest.kind) [
  | inl ends ↦ told_delivery w keeps links id newest older chosen ends
      (below w keeps links told id newest older chosen ends (ap (λ (kind : Kind). final_by kind (final_in older)) (sym ends) ∙ is))
  | inr apart ↦ untold_delivery w keeps links told id newest older chosen apart is
]
  where
    below : (w : World) → Keeps w → Links w → Truthful w → (id : ℕ) (newest : Decree) (older : List Decree) → Chosen w id (newest ∷ older) →
        newest.kind ≡ Told → final_in older ≡ Some Delivered →
        IsDelivery id older w.past
    below w keeps links told id newest [] chosen ends is = cc
    below w keeps links told id newest (older ∷ oldest) chosen ends is =
        let s = standing w keeps links id (newest ∷ older ∷ oldest) chosen in
        untold_delivery w keeps links told id older oldest (record { ballot = s.fits.ballot; chosen = s.fits.chosen })
        (λ told_too. told_ends _ older oldest newest told_too s.orderly.1) is

-- ---- every world that is reached

granted_by : (w : World) → Truthful w → (node : ℕ) (act : Act) (slot : Slot) → In slot (actor_by node (w.actors node) act).granted →
    In (deed_by (record { node = node; incarnation = (actor_by node (w.actors node) act).incarnation }) (Grants slot)) (after w node act).past
granted_by w told node (Grants other) slot (inl new) = inl (λ i. record { node = node; incarnation = (w.actors node).incarnation; act = Grants (new i) })
granted_by w told node (Grants other) slot (inr old) = inr (told.granted node slot old)
granted_by w told node (Restarts lost serial) slot is_in = absurd is_in
granted_by w told node act slot is_in = inr (told.granted node slot is_in)

granted_after : (w : World) → Truthful w → (node : ℕ) (act : Act) (other : ℕ) (slot : Slot) →
    In slot ((after w node act).actors other).granted →
    In (deed_by (record { node = other; incarnation = ((after w node act).actors other).incarnation }) (Grants slot)) (after w node act).past
granted_after w told node act other slot is_in = elim (actors_after w node act other) [
  | inl here ↦
      subst (λ (a : Actor). In (deed_by (record { node = other; incarnation = a.incarnation }) (Grants slot)) (after w node act).past) (sym here.actor_is) (
      subst (λ (n : ℕ). In (deed_by (record { node = n; incarnation = (actor_by node (w.actors node) act).incarnation }) (Grants slot))
      (after w node act).past) (sym here.node_is) (
      granted_by w told node act slot (subst (λ (a : Actor). In slot a.granted) here.actor_is is_in)))
  | inr elsewhere ↦
      subst (λ (a : Actor). In (deed_by (record { node = other; incarnation = a.incarnation }) (Grants slot)) (after w node act).past) (sym elsewhere) (
      inr (told.granted other slot (subst (λ (a : Actor). In slot a.granted) elsewhere is_in)))
]

timely_new : (w : World) → Keeps w → Links w → Truthful w → (node : ℕ) (act : Act) → MayLoosely w node act →
    Timely (record { node = node; incarnation = (w.actors node).incarnation; act = act }) w.past
timely_new w keeps links told node act may = record {
  answers = λ slot outcome is. let m : MayLoosely w node (Concludes slot outcome) = subst (MayLoosely w node) is may in told.granted node slot m.needs;
  grants = λ slot earlier final is is_in states. let m : MayLoosely w node (Grants slot) = subst (MayLoosely w node) is may in
      no_fate_at_grant w keeps links told node slot m.needs earlier final is_in states;
  delivers = λ id chain tells is. delivery w keeps links told id chain (known_chosen w keeps node id chain (may.known id chain tells)) is;
}

pub told_after : (w : World) → Keeps w → Links w → Truthful w → (node : ℕ) (act : Act) → MayLoosely w node act → Truthful (after w node act)
told_after w keeps links told node act may = record {
  chosen = chosen_after w keeps told node act may;
  granted = granted_after w told node act;
  timely = (timely_new w keeps links told node act may, told.timely);
}

pub told_start : (nodes : ℕ) (serials : ℕ → ℕ) → Truthful (start nodes serials)
told_start nodes serials = record {
  chosen = λ deed id chain is_in tells. absurd is_in;
  granted = λ node slot is_in. absurd is_in;
  timely = tt;
}
