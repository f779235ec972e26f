-- Every chain that is proposed is an orderly one, and stands on a chosen one; and an open attempt is not passed.
use Rattle.std.proofs.Common.{◌≡◌, ◌⊎◌, ℕ, ◌<◌, ◌≤◌, List, [], ◌∷◌, Option, Some, None, refl, sym, ◌∙◌, ap, subst, inl, inr, arith}
use Rattle.std.proofs.lemmas.Bool.{cases_eq}
use Rattle.mc_model.specs.message.Submission.{Submission}
use Rattle.mc_model.specs.message.Decree.{Author, Decree, Kind, Taken, Attempt, Failed, Fate, Told, Delivered, Expired, Deleted, Undeliverable, Rejected}
use Rattle.mc_model.specs.message.Neighbours.{MayFollow}
use Rattle.mc_model.specs.message.Chain.{MayExtend}
use Rattle.mc_model.specs.synod.Lists.{In}
use Rattle.mc_model.specs.synod.Majority.{Majority}
use Rattle.mc_model.specs.synod.OneSlot.{Vote, vote_at, IsOfHighest}
use Rattle.mc_model.specs.synod.Packet.{Slot, slot_of, Promise}
use Rattle.mc_model.specs.node.Outcome.{Outcome, Unanswered, decree_of}
use Rattle.mc_model.specs.node.Actor.{Actor}
use Rattle.mc_model.specs.node.Proposal.{IsFirst, IsNext, IsOwn, IsFree, IsClosed, IsLost, Allows}
use Rattle.mc_model.specs.node.Act.{Act, Proposes, Concludes, Abandons, Restarts}
use Rattle.mc_model.specs.node.Effect.{actor_by}
use Rattle.mc_model.specs.cluster.World.{World, Deed, cast, IsChosenIn, StandsIn, after, start}
use Rattle.mc_model.specs.cluster.Fate.{deed_by}
use Rattle.mc_model.specs.cluster.Loose.{MayLoosely}
use Rattle.mc_parts.proofs.Majorities.{both}
use Rattle.mc_laws.proofs.invariant.Growth.{Grows, grows_loosely, changed_cases, later, same_life, actor_here, actor_apart}
use Rattle.mc_laws.proofs.invariant.Keeping.{Keeps, WasProposed, PromiseFits, proposal_cases}
use Rattle.mc_laws.proofs.invariant.Orderly.{IsOrderly}

-- ---- what stands behind what

-- an attempt was closed by its author, with this outcome
abbrev pub ClosedIn : List Deed → Author → Slot → Outcome → Type 0
ClosedIn past author slot outcome =
    In (deed_by author (Concludes slot outcome)) past ⊎ ((outcome ≡ Unanswered 998) × In (deed_by author (Abandons slot)) past)

pub record PassedClosed (w : World) (attempted : Author) (slot : Slot) (next : Kind) : Type 0 where
  pub outcome : Outcome
  pub closed : ClosedIn w.past attempted slot outcome
  pub kind : next ≡ decree_of outcome

pub record PassedLost (w : World) (attempted : Author) (next : Kind) : Type 0 where
  pub later : attempted.incarnation < (w.actors attempted.node).incarnation
  pub kind : next ≡ Failed 999

abbrev pub Passed : World → Author → Slot → Kind → Kind → Type 0
Passed w attempted slot (Taken message) next = Unit {0}
Passed w attempted slot (Attempt number) next = PassedClosed w attempted slot next ⊎ PassedLost w attempted next
Passed w attempted slot (Failed error) next = Unit {0}
Passed w attempted slot (Fate final error) next = Unit {0}
Passed w attempted slot Told next = Unit {0}

pub record Linked (w : World) (id : ℕ) (next newest : Decree) (older : List Decree) : Type 0 where
  pub ballot : ℕ
  pub chosen : IsChosenIn w (slot_of id (newest ∷ older)) (vote_at ballot (newest ∷ older))
  pub passed : Passed w newest.author (slot_of id (newest ∷ older)) newest.kind next.kind

abbrev pub ChainFits : World → ℕ → List Decree → Type 0
ChainFits w id [] = Unit {0}
ChainFits w id (first ∷ []) = Unit {0}
ChainFits w id (next ∷ newest ∷ older) = Linked w id next newest older

pub record Standing (w : World) (slot : Slot) (chain : List Decree) : Type 0 where
  pub place : slot ≡ slot_of slot.id chain
  pub orderly : IsOrderly chain
  pub fits : ChainFits w slot.id chain

-- what an actor closed in its incarnation it has closed
abbrev pub Recalls : List Deed → ℕ → Actor → Type 0
Recalls past node a =
    (slot : Slot) (outcome : Outcome) → ClosedIn past (record { node = node; incarnation = a.incarnation }) slot outcome → In (slot, outcome) a.closed

pub record Links (w : World) : Type 0 where
  pub standing : (slot : Slot) (vote : Vote) → WasProposed w slot vote → Standing w slot vote.chain
  pub closed : (node : ℕ) (slot : Slot) (outcome : Outcome) → In (slot, outcome) (w.actors node).closed →
      ClosedIn w.past (record { node = node; incarnation = (w.actors node).incarnation }) slot outcome
  pub lived : (deed : Deed) → In deed w.past → deed.incarnation ≤ (w.actors deed.node).incarnation
  pub recalls : (node : ℕ) → Recalls w.past node (w.actors node)

-- ---- what stands goes on standing

pub chosen_still : (w v : World) → Grows w v → (slot : Slot) (vote : Vote) → IsChosenIn w slot vote → IsChosenIn v slot vote
chosen_still w v grown slot vote chosen =
    subst (λ (n : ℕ). Majority n (λ acceptor. In (cast acceptor slot vote) v.votes)) (sym grown.nodes) (record {
      test = chosen.test;
      most = chosen.most;
      each = λ node least most passes. grown.votes (cast node slot vote) (chosen.each node least most passes);
    })

closed_still : (w v : World) → Grows w v → (author : Author) (slot : Slot) (outcome : Outcome) → ClosedIn w.past author slot outcome →
    ClosedIn v.past author slot outcome
closed_still w v grown author slot outcome (inl answered) = inl (grown.past _ answered)
closed_still w v grown author slot outcome (inr abandoned) = inr (abandoned.0, grown.past _ abandoned.1)

passed_still : (w v : World) → Grows w v → (attempted : Author) (slot : Slot) (before next : Kind) → Passed w attempted slot before next →
    Passed v attempted slot before next
passed_still w v grown attempted slot (Taken message) next passed = tt
passed_still w v grown attempted slot (Attempt number) next (inl closed) =
    inl (record { outcome = closed.outcome; closed = closed_still w v grown attempted slot closed.outcome closed.closed; kind = closed.kind })
passed_still w v grown attempted slot (Attempt number) next (inr lost) =
    inr (record { later = let more = grown.incarnations attempted.node in omega (arith, more, lost.later); kind = lost.kind })
passed_still w v grown attempted slot (Failed error) next passed = tt
passed_still w v grown attempted slot (Fate final error) next passed = tt
passed_still w v grown attempted slot Told next passed = tt

fits_still : (w v : World) → Grows w v → (id : ℕ) (chain : List Decree) → ChainFits w id chain → ChainFits v id chain
fits_still w v grown id [] fits = tt
fits_still w v grown id (first ∷ []) fits = tt
fits_still w v grown id (next ∷ newest ∷ older) fits = record {
  ballot = fits.ballot;
  chosen = chosen_still w v grown _ _ fits.chosen;
  passed = passed_still w v grown newest.author _ newest.kind next.kind fits.passed;
}

standing_still : (w v : World) → Grows w v → (slot : Slot) (chain : List Decree) → Standing w slot chain → Standing v slot chain
standing_still w v grown slot chain s = record { place = s.place; orderly = s.orderly; fits = fits_still w v grown slot.id chain s.fits }

-- ---- a new proposal stands

pub chosen_standing : (w : World) → Keeps w → Links w → (slot : Slot) (vote : Vote) → IsChosenIn w slot vote → Standing w slot vote.chain
chosen_standing w keeps links slot vote chosen =
    let voter = both w.nodes _ _ chosen chosen in
    links.standing slot vote (keeps.proposed (cast voter.node slot vote) voter.one)

-- an attempt's outcome is decided by its node
attempt_node : (message : Submission) (home attempts : ℕ) (old : Author) (before number : ℕ) (author : Author) (moment : ℕ) (next : Kind) →
    MayFollow message home attempts old before (Attempt number) author moment next →
    old.node ≡ author.node
attempt_node message home attempts old before number author moment (Failed error) may = sym may.node
attempt_node message home attempts old before number author moment (Fate Delivered error) may = ap (λ (a : Author). a.node) (sym may)
attempt_node message home attempts old before number author moment (Fate Undeliverable error) may = ap (λ (a : Author). a.node) (sym may)
attempt_node message home attempts old before number author moment (Fate Rejected error) may = ap (λ (a : Author). a.node) (sym may)
attempt_node message home attempts old before number author moment (Fate Expired error) may = absurd may
attempt_node message home attempts old before number author moment (Fate Deleted error) may = absurd may
attempt_node message home attempts old before number author moment (Taken other) may = absurd may
attempt_node message home attempts old before number author moment (Attempt other) may = absurd may
attempt_node message home attempts old before number author moment Told may = absurd may

passed_attempt : (w : World) → Links w → (node : ℕ) (slot : Slot) (attempted : Author) (next : Kind) → attempted.node ≡ node →
    IsClosed (w.actors node) slot attempted next ⊎ IsLost (w.actors node) attempted next →
    PassedClosed w attempted slot next ⊎ PassedLost w attempted next
passed_attempt w links node slot attempted next is (inl closed) =
    let author : record { node = node; incarnation = (w.actors node).incarnation } ≡ attempted = λ i. record
    { node = sym is i; incarnation = sym closed.incarnation i } in
    inl (record {
      outcome = closed.outcome;
      closed = subst (λ (a : Author). ClosedIn w.past a slot closed.outcome) author
          (links.closed node slot closed.outcome closed.closed);
      kind = closed.kind;
    })
passed_attempt w links node slot attempted next is (inr lost) =
    inr (record { later = subst (λ (n : ℕ). attempted.incarnation < (w.actors n).incarnation) (sym is) lost.incarnation; kind = lost.kind })

own_passed : (w : World) → Links w →
    (node : ℕ) (slot : Slot) (taken : Submission) (home attempts : ℕ) (attempted author : Author) (before moment : ℕ) (kind next : Kind) →
    author.node ≡ node → MayFollow taken home attempts attempted before kind author moment next →
    Allows (w.actors node) slot taken attempted kind next →
    Passed w attempted slot kind next
own_passed w links node slot taken home attempts attempted author before moment (Taken message) next is may allowed = tt
own_passed w links node slot taken home attempts attempted author before moment (Attempt number) next is may allowed =
    passed_attempt w links node slot attempted next (attempt_node taken home attempts attempted before number author moment next may ∙ is) allowed
own_passed w links node slot taken home attempts attempted author before moment (Failed error) next is may allowed = tt
own_passed w links node slot taken home attempts attempted author before moment (Fate final error) next is may allowed = tt
own_passed w links node slot taken home attempts attempted author before moment Told next is may allowed = tt

first_standing : (w : World) (node id : ℕ) (chain : List Decree) → IsFirst node (w.actors node) id chain →
    IsOrderly chain × ChainFits w id chain
first_standing w node id chain first =
    subst (λ (c : List Decree). IsOrderly c × ChainFits w id c) (sym first.chain_is)
    (tt, tt)

next_standing : (w : World) → Keeps w → Links w → (node id : ℕ) (chain : List Decree) →
    IsNext (IsChosenIn w) node (w.actors node) id chain →
    IsOrderly chain × ChainFits w id chain
next_standing w keeps links node id chain n =
    let before = chosen_standing w keeps links (slot_of id (n.newest ∷ n.older)) (vote_at n.ballot (n.newest ∷ n.older)) n.chosen in
    let may = subst (λ (t : Option Submission). MayExtend t (n.newest ∷ n.older) n.next) (sym n.message) n.may in
    subst (λ (c : List Decree). IsOrderly c × ChainFits w id c) (sym n.chain_is) (
      (before.orderly, may),
      record {
        ballot = n.ballot;
        chosen = n.chosen;
        passed = own_passed w links node (slot_of id
            (n.newest ∷ n.older)) n.taken _ _ n.newest.author n.next.author n.newest.moment n.next.moment n.newest.kind n.next.kind
            (ap (λ (a : Author). a.node) n.author) n.may.1 n.allowed;
      },
    )

own_standing : (w : World) → Keeps w → Links w → (node id : ℕ) (chain : List Decree) → IsOwn (IsChosenIn w) node (w.actors node) id chain →
    IsOrderly chain × ChainFits w id chain
own_standing w keeps links node id chain (inl first) = first_standing w node id chain first
own_standing w keeps links node id chain (inr next) = next_standing w keeps links node id chain next

free_standing : (w : World) → Keeps w → Links w → (node : ℕ) (slot : Slot) (chain : List Decree) →
    StandsIn w slot chain ⊎ ((slot ≡ slot_of slot.id chain) × IsOwn (IsChosenIn w) node (w.actors node) slot.id chain) →
    Standing w slot chain
free_standing w keeps links node slot chain (inl (inl sent)) = links.standing slot (vote_at sent.1 chain) (record { sender = sent.0; sent = sent.2 })
free_standing w keeps links node slot chain (inl (inr voted)) =
    links.standing slot (vote_at voted.1 chain) (keeps.proposed (cast voted.0 slot (vote_at voted.1 chain)) voted.2)
free_standing w keeps links node slot chain (inr own) =
    let s = own_standing w keeps links node slot.id chain own.1 in record { place = own.0; orderly = s.0; fits = s.1 }

-- by the highest vote that was reported
highest_standing : (w : World) → Keeps w → Links w → (node : ℕ) (slot : Slot) (vote : Vote) (highest : Option Vote) →
    IsOfHighest (λ acceptor report. In (Promise acceptor slot vote.ballot report) w.packets) vote.chain highest →
    IsFree highest (StandsIn w slot vote.chain)
    ((slot ≡ slot_of slot.id vote.chain) × IsOwn (IsChosenIn w) node (w.actors node) slot.id vote.chain) →
    Standing w slot vote.chain
highest_standing w keeps links node slot vote None carried free = free_standing w keeps links node slot vote.chain free
highest_standing w keeps links node slot vote (Some top) carried free =
    let fits : PromiseFits w carried.1.0 slot vote.ballot (Some top) = keeps.fits (Promise carried.1.0 slot vote.ballot (Some top)) carried.1.1 in
    let honest = fits.honest top refl in
    subst (Standing w slot) (sym carried.0) (links.standing slot top (keeps.proposed (cast carried.1.0 slot top) honest.0))

standing_after : (w : World) → Keeps w → Links w → (node : ℕ) (act : Act) → MayLoosely w node act → (slot : Slot) (vote : Vote) →
    WasProposed (after w node act) slot vote →
    Standing (after w node act) slot vote.chain
standing_after w keeps links node act may slot vote proposed =
    standing_still w (after w node act) (grows_loosely w node act may) slot vote.chain (elim (proposal_cases w node act proposed.sender slot vote proposed.sent) [
      | inl new ↦
          let m : MayLoosely w node (Proposes slot vote) = subst (MayLoosely w node) new.by may in
          highest_standing w keeps links node slot vote m.needs.justified.highest m.needs.justified.carried m.needs.free
      | inr old ↦ links.standing slot vote (record { sender = proposed.sender; sent = old })
    ])

-- ---- what the actors remember

closed_more : (w : World) (node : ℕ) (act : Act) (author : Author) (slot : Slot) (outcome : Outcome) → ClosedIn w.past author slot outcome →
    ClosedIn (after w node act).past author slot outcome
closed_more w node act author slot outcome (inl answered) = inl (inr answered)
closed_more w node act author slot outcome (inr abandoned) = inr (abandoned.0, inr abandoned.1)

-- what an act leaves that an actor has closed
closed_by : (w : World) → Links w → (node : ℕ) (act : Act) (slot : Slot) (outcome : Outcome) →
    In (slot, outcome) (actor_by node (w.actors node) act).closed →
    ClosedIn (after w node act).past (record { node = node; incarnation = (actor_by node (w.actors node) act).incarnation }) slot outcome
closed_by w links node (Concludes other came) slot outcome (inl new) =
    inl (inl (λ i. record { node = node; incarnation = (w.actors node).incarnation; act = Concludes (new i).0 (new i).1 }))
closed_by w links node (Concludes other came) slot outcome (inr old) =
    closed_more w node (Concludes other came) _ slot outcome (links.closed node slot outcome old)
closed_by w links node (Abandons other) slot outcome (inl new) =
    inr (ap (λ (x : Slot × Outcome). x.1) new, inl (λ i. record { node = node; incarnation = (w.actors node).incarnation; act = Abandons (new i).0 }))
closed_by w links node (Abandons other) slot outcome (inr old) = closed_more w node (Abandons other) _ slot outcome (links.closed node slot outcome old)
closed_by w links node (Restarts lost serial) slot outcome is_in = absurd is_in
closed_by w links node act slot outcome is_in = closed_more w node act _ slot outcome (links.closed node slot outcome is_in)

closed_after : (w : World) → Links w → (node : ℕ) (act : Act) (other : ℕ) (slot : Slot) (outcome : Outcome) →
    In (slot, outcome) ((after w node act).actors other).closed →
    ClosedIn (after w node act).past (record { node = other; incarnation = ((after w node act).actors other).incarnation }) slot outcome
closed_after w links node act other slot outcome is_in = elim (changed_cases w.actors node (actor_by node (w.actors node) act) other) [
  | inl here ↦
      subst (λ (a : Actor). ClosedIn (after w node act).past (record { node = other; incarnation = a.incarnation }) slot outcome) (sym here.1) (
      subst (λ (n : ℕ). ClosedIn (after w node act).past
      (record { node = n; incarnation = (actor_by node (w.actors node) act).incarnation }) slot outcome) (sym here.0) (
      closed_by w links node act slot outcome (subst (λ (a : Actor). In (slot, outcome) a.closed) here.1 is_in)))
  | inr elsewhere ↦
      subst (λ (a : Actor). ClosedIn (after w node act).past (record { node = other; incarnation = a.incarnation }) slot outcome) (sym elsewhere) (
      closed_more w node act _ slot outcome (links.closed other slot outcome (subst (λ (a : Actor). In (slot, outcome) a.closed) elsewhere is_in)))
]

lived_after : (w : World) → Links w → (node : ℕ) (act : Act) → MayLoosely w node act → (deed : Deed) → In deed (after w node act).past →
    deed.incarnation ≤ ((after w node act).actors deed.node).incarnation
lived_after w links node act may deed (inl new) =
    let grown = (grows_loosely w node act may).incarnations node in
    subst (λ (d : Deed). d.incarnation ≤ ((after w node act).actors d.node).incarnation) (sym new) grown
lived_after w links node act may deed (inr old) =
    let grown = (grows_loosely w node act may).incarnations deed.node in
    let before = links.lived deed old in omega (arith, grown, before)

-- ---- what an actor closed in this incarnation it remembers

closed_new : (w : World) (node : ℕ) (act : Act) (slot : Slot) (outcome : Outcome) → act ≡ Concludes slot outcome →
    In (slot, outcome) (actor_by node (w.actors node) act).closed
closed_new w node act slot outcome is = subst (λ (x : Act). In (slot, outcome) (actor_by node (w.actors node) x).closed) (sym is) (inl refl)

abandoned_new : (w : World) (node : ℕ) (act : Act) (slot : Slot) → act ≡ Abandons slot → In (slot, Unanswered 998) (actor_by node (w.actors node) act).closed
abandoned_new w node act slot is = subst (λ (x : Act). In (slot, Unanswered 998) (actor_by node (w.actors node) x).closed) (sym is) (inl refl)

-- an old closing is remembered where the incarnation is the same
recalls_old : (w : World) → Links w → (node : ℕ) (act : Act) (slot : Slot) (outcome : Outcome) →
    ClosedIn w.past (record { node = node; incarnation = (actor_by node (w.actors node) act).incarnation }) slot outcome →
    (actor_by node (w.actors node) act).incarnation ≡ (w.actors node).incarnation →
    In (slot, outcome) (actor_by node (w.actors node) act).closed
recalls_old w links node act slot outcome closed same =
    (same_life node (w.actors node) act same).closed (slot, outcome)
    (links.recalls node slot outcome (subst (λ (i : ℕ). ClosedIn w.past (record { node = node; incarnation = i }) slot outcome) same closed))

-- nothing was closed in an incarnation that is still to come
closed_lived : (w : World) → Links w → (author : Author) (slot : Slot) (outcome : Outcome) → ClosedIn w.past author slot outcome →
    author.incarnation ≤ (w.actors author.node).incarnation
closed_lived w links author slot outcome (inl answered) = links.lived _ answered
closed_lived w links author slot outcome (inr abandoned) = links.lived _ abandoned.1

recalls_by : (w : World) → Links w → (node : ℕ) (act : Act) → Recalls (after w node act).past node (actor_by node (w.actors node) act)
recalls_by w links node act slot outcome (inl (inl new)) = closed_new w node act slot outcome (ap (λ (d : Deed). d.act) (sym new))
recalls_by w links node act slot outcome (inl (inr old)) = recalls_past w links node act slot outcome (inl old)
  where
    recalls_past : (w : World) → Links w → (node : ℕ) (act : Act) (slot : Slot) (outcome : Outcome) →
        ClosedIn w.past (record { node = node; incarnation = (actor_by node (w.actors node) act).incarnation }) slot outcome →
        In (slot, outcome) (actor_by node (w.actors node) act).closed
    recalls_past w links node act slot outcome closed =
        let lived = closed_lived w links _ slot outcome closed in
        let more = later node (w.actors node) act in
        recalls_old w links node act slot outcome closed (omega (arith, lived, more))
recalls_by w links node act slot outcome (inr (is, inl new)) =
    subst (λ (o : Outcome). In (slot, o) (actor_by node (w.actors node) act).closed) (sym is)
    (abandoned_new w node act slot (ap (λ (d : Deed). d.act) (sym new)))
recalls_by w links node act slot outcome (inr (is, inr old)) =
    let lived = links.lived _ old in
    let more = later node (w.actors node) act in
    recalls_old w links node act slot outcome (inr (is, old)) (omega (arith, lived, more))

-- what another node did closes nothing here
recalls_other : (w : World) → Links w → (node : ℕ) (act : Act) (other : ℕ) → (other ≡ node → ⊥) → Recalls (after w node act).past other (w.actors other)
recalls_other w links node act other apart slot outcome (inl (inl new)) = absurd (apart (ap (λ (d : Deed). d.node) new))
recalls_other w links node act other apart slot outcome (inl (inr old)) = links.recalls other slot outcome (inl old)
recalls_other w links node act other apart slot outcome (inr (is, inl new)) = absurd (apart (ap (λ (d : Deed). d.node) new))
recalls_other w links node act other apart slot outcome (inr (is, inr old)) = links.recalls other slot outcome (inr (is, old))

recalls_after : (w : World) → Links w → (node : ℕ) (act : Act) (other : ℕ) → Recalls (after w node act).past other ((after w node act).actors other)
recalls_after w links node act other = elim (cases_eq other node) [
  | inl here ↦ subst (λ (n : ℕ). Recalls (after w node act).past n ((after w node act).actors n)) (sym here)
      (subst (λ (a : Actor). Recalls (after w node act).past node a) (sym (actor_here w node act)) (recalls_by w links node act))
  | inr apart ↦ subst (λ (a : Actor). Recalls (after w node act).past other a) (sym (actor_apart w node act other apart))
      (recalls_other w links node act other apart)
]

-- ---- every world that is reached

pub links_after : (w : World) → Keeps w → Links w → (node : ℕ) (act : Act) → MayLoosely w node act → Links (after w node act)
links_after w keeps links node act may = record {
  standing = standing_after w keeps links node act may;
  closed = closed_after w links node act;
  lived = lived_after w links node act may;
  recalls = recalls_after w links node act;
}

pub links_start : (nodes : ℕ) (serials : ℕ → ℕ) → Links (start nodes serials)
links_start nodes serials = record {
  standing = λ slot vote proposed. absurd proposed.sent;
  closed = λ node slot outcome is_in. absurd is_in;
  lived = λ deed is_in. absurd is_in;
  recalls = λ node slot outcome closed. elim closed [ inl answered ↦ absurd answered | inr abandoned ↦ absurd abandoned.1 ];
}
