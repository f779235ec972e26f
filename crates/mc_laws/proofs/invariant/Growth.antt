-- What every act leaves as it was, or lets grow.
use Rattle.std.proofs.Common.{◌∷◌, [], ◌≡◌, ◌⊎◌, ℕ, suc, ◌+◌, ◌<◌, ◌≤◌, Bool, true, false, List, refl, sym, ◌∙◌, ap, subst, inl, inr, arith}
use Rattle.std.specs.Prelude.{◌==◌, if◌then◌else◌}
use Rattle.std.proofs.lemmas.Bool.{eq-eqb, eqb-true}
use Rattle.mc_model.specs.synod.Lists.{In}
use Rattle.mc_model.specs.synod.Packet.{Slot, same_slot, Packet}
use Rattle.mc_model.specs.synod.Acceptor.{SlotRecord, Records, with_record, after_promise, after_vote}
use Rattle.mc_model.specs.node.Outcome.{Outcome}
use Rattle.mc_model.specs.node.Actor.{Actor}
use Rattle.mc_model.specs.node.Act.{Act, Receives, Promises, Votes, Prepares, Proposes, Begins, Grants, Concludes, Abandons, Restarts}
use Rattle.mc_model.specs.node.Effect.{records_by, actor_by}
use Rattle.mc_model.specs.cluster.World.{World, Deed, Cast, cast, May, after, changed, votes_by, sent_by, reached}
use Rattle.mc_model.specs.cluster.Loose.{MayLoosely}
use Rattle.mc_parts.proofs.Membership.{in_right, in_either, of_only, slots_same}
use Rattle.mc_parts.proofs.Requests.{serials}
use Rattle.mc_laws.proofs.invariant.Loosening.{loosely}

-- ---- what an act does to a record

-- the record that an act makes new
abbrev pub IsNew : Records → Act → Slot → SlotRecord → Type 0
IsNew records (Promises slot ballot sent) other new = (other ≡ slot) × (new ≡ after_promise (records slot) ballot)
IsNew records (Votes slot vote sent) other new = (other ≡ slot) × (new ≡ after_vote vote)
IsNew records act other new = ⊥

with_cases : (records : Records) (slot : Slot) (new : SlotRecord) (other : Slot) (test : Bool) → same_slot other slot ≡ test →
    (with_record records slot new other ≡ records other) ⊎ ((other ≡ slot) × (with_record records slot new other ≡ new))
with_cases records slot new other true same = inr (slots_same other slot same, ap (λ (test : Bool). if test then new else records other) same)
with_cases records slot new other false same = inl (ap (λ (test : Bool). if test then new else records other) same)

pub record_cases : (records : Records) (act : Act) (slot : Slot) →
    (records_by records act slot ≡ records slot) ⊎ IsNew records act slot (records_by records act slot)
record_cases records (Promises slot ballot sent) other = with_cases records slot (after_promise (records slot) ballot) other (same_slot other slot) refl
record_cases records (Votes slot vote sent) other = with_cases records slot (after_vote vote) other (same_slot other slot) refl
record_cases records act other = inl refl

-- what a node has after an act of some node: the same, or it is that node and has what is new
pub changed_cases : {A : Type 0} (things : ℕ → A) (node : ℕ) (new : A) (other : ℕ) →
    ((other ≡ node) × (changed things node new other ≡ new)) ⊎ (changed things node new other ≡ things other)
changed_cases things node new other = by_test (other == node) refl
  where
    by_test : (test : Bool) → (other == node) ≡ test → ((other ≡ node) × (changed things node new other ≡ new)) ⊎ (changed things node new other ≡ things other)
    by_test true same = inl (eqb-true other node same, ap (λ (test : Bool). if test then new else things other) same)
    by_test false same = inr (ap (λ (test : Bool). if test then new else things other) same)

pub record NewRecord (w : World) (node : ℕ) (act : Act) (other : ℕ) (slot : Slot) : Type 0 where
  pub node_is : other ≡ node
  pub is_new : IsNew (w.records node) act slot ((after w node act).records other slot)

pub records_after : (w : World) (node : ℕ) (act : Act) (other : ℕ) (slot : Slot) →
    ((after w node act).records other slot ≡ w.records other slot) ⊎ NewRecord w node act other slot
records_after w node act other slot =
    elim (changed_cases w.records node (records_by (w.records node) act) other) [
      | inl here ↦ elim (record_cases (w.records node) act slot) [
        | inl same ↦ inl (ap (λ (r : Records). r slot) here.1 ∙ same ∙ ap (λ (n : ℕ). w.records n slot) (sym here.0))
        | inr new ↦ inr (record { node_is = here.0; is_new = subst (λ (r : Records). IsNew (w.records node) act slot (r slot)) (sym here.1) new })
      ]
      | inr elsewhere ↦ inl (ap (λ (r : Records). r slot) elsewhere)
    ]

-- ---- what only grows

pub record Grows (w v : World) : Type 0 where
  pub nodes : v.nodes ≡ w.nodes
  pub packets : (packet : Packet) → In packet w.packets → In packet v.packets
  pub votes : (c : Cast) → In c w.votes → In c v.votes
  -- a new vote is at a ballot that is not below what its acceptor has promised
  pub late : (c : Cast) → In c v.votes → In c w.votes ⊎ ((w.records c.acceptor c.slot).promised ≤ c.vote.ballot)
  pub promised : (node : ℕ) (slot : Slot) → (w.records node slot).promised ≤ (v.records node slot).promised
  pub incarnations : (node : ℕ) → (w.actors node).incarnation ≤ (v.actors node).incarnation
  pub past : (deed : Deed) → In deed w.past → In deed v.past

new_promised : (w : World) (node : ℕ) (act : Act) → MayLoosely w node act → (slot : Slot) (new : SlotRecord) →
    IsNew (w.records node) act slot new →
    (w.records node slot).promised ≤ new.promised
new_promised w node (Promises slot ballot sent) may other new is =
    let below : (w.records node slot).promised < ballot = may.needs in
    subst (λ (s : Slot). (w.records node s).promised ≤ new.promised) (sym is.0)
    (subst (λ (r : SlotRecord). (w.records node slot).promised ≤ r.promised) (sym is.1) (omega (arith, below)))
new_promised w node (Votes slot vote sent) may other new is =
    let below : (w.records node slot).promised ≤ vote.ballot = may.needs.0 in
    subst (λ (s : Slot). (w.records node s).promised ≤ new.promised) (sym is.0)
    (subst (λ (r : SlotRecord). (w.records node slot).promised ≤ r.promised) (sym is.1) below)
new_promised w node act may other new is = absurd is

promised_after : (w : World) (node : ℕ) (act : Act) → MayLoosely w node act → (other : ℕ) (slot : Slot) →
    (w.records other slot).promised ≤ ((after w node act).records other slot).promised
promised_after w node act may other slot =
    elim (records_after w node act other slot) [
      | inl same ↦ subst (λ (r : SlotRecord). (w.records other slot).promised ≤ r.promised) (sym same) (omega arith)
      | inr new ↦ subst (λ (n : ℕ). (w.records n slot).promised ≤ ((after w node act).records other slot).promised) (sym new.node_is)
          (new_promised w node act may slot ((after w node act).records other slot) new.is_new)
    ]

-- the actor of the node that did the act
pub record NewActor (w : World) (node : ℕ) (act : Act) (other : ℕ) : Type 0 where
  pub node_is : other ≡ node
  pub actor_is : (after w node act).actors other ≡ actor_by node (w.actors node) act

pub actors_after : (w : World) (node : ℕ) (act : Act) (other : ℕ) → NewActor w node act other ⊎ ((after w node act).actors other ≡ w.actors other)
actors_after w node act other = elim (changed_cases w.actors node (actor_by node (w.actors node) act) other) [
  | inl here ↦ inl (record { node_is = here.0; actor_is = here.1 })
  | inr elsewhere ↦ inr elsewhere
]

pub changed_here : {A : Type 0} (things : ℕ → A) (node : ℕ) (new : A) → changed things node new node ≡ new
changed_here things node new = ap (λ (test : Bool). if test then new else things node) (eq-eqb node node refl)

pub actor_here : (w : World) (node : ℕ) (act : Act) → (after w node act).actors node ≡ actor_by node (w.actors node) act
actor_here w node act = changed_here w.actors node (actor_by node (w.actors node) act)

pub actor_apart : (w : World) (node : ℕ) (act : Act) (other : ℕ) → (other ≡ node → ⊥) → (after w node act).actors other ≡ w.actors other
actor_apart w node act other apart = elim (actors_after w node act other) [ inl here ↦ absurd (apart here.node_is) | inr elsewhere ↦ elsewhere ]

-- what an actor goes on to hold, unless it starts anew
pub record Remembers (a b : Actor) : Type 0 where
  pub incarnation : b.incarnation ≡ a.incarnation
  pub ticket : a.ticket ≤ b.ticket
  pub serial : a.serial ≤ b.serial
  pub received : (packet : Packet) → In packet a.received → In packet b.received
  pub sent : (packet : Packet) → In packet a.sent → In packet b.sent
  pub granted : (slot : Slot) → In slot a.granted → In slot b.granted
  pub closed : (attempt : Slot × Outcome) → In attempt a.closed → In attempt b.closed

remembers_all : (a b : Actor) → b.incarnation ≡ a.incarnation → b.ticket ≡ a.ticket → b.serial ≡ a.serial → b.received ≡ a.received →
    b.sent ≡ a.sent → b.granted ≡ a.granted → b.closed ≡ a.closed →
    Remembers a b
remembers_all a b incarnation ticket serial received sent granted closed = record {
  incarnation = incarnation;
  ticket = omega (arith, ticket);
  serial = omega (arith, serial);
  received = λ packet is_in. subst (λ (xs : List Packet). In packet xs) (sym received) is_in;
  sent = λ packet is_in. subst (λ (xs : List Packet). In packet xs) (sym sent) is_in;
  granted = λ slot is_in. subst (λ (xs : List Slot). In slot xs) (sym granted) is_in;
  closed = λ attempt is_in. subst (λ (xs : List (Slot × Outcome)). In attempt xs) (sym closed) is_in;
}

abbrev pub StartsAnew : Act → Type 0
StartsAnew act = (lost : ℕ) × (serial : ℕ) × (act ≡ Restarts lost serial)

pub remembers : (node : ℕ) (a : Actor) (act : Act) → StartsAnew act ⊎ Remembers a (actor_by node a act)
remembers node a (Restarts lost serial) = inl (lost, serial, refl)
remembers node a (Receives packet) =
    inr (record {
      incarnation = refl;
      ticket = omega arith;
      serial = omega arith;
      received = λ other is_in. inr is_in;
      sent =
          λ other is_in. is_in;
      granted = λ slot is_in. is_in;
      closed = λ attempt is_in. is_in;
    })
remembers node a (Prepares slot ballot chain) =
    inr (record {
      incarnation = refl;
      ticket = omega arith;
      serial = omega arith;
      received = λ packet is_in. is_in;
      sent =
          λ packet is_in. inr is_in;
      granted = λ other is_in. is_in;
      closed = λ attempt is_in. is_in;
    })
remembers node a (Proposes slot vote) =
    inr (record {
      incarnation = refl;
      ticket = omega arith;
      serial = omega arith;
      received = λ packet is_in. is_in;
      sent =
          λ packet is_in. inr is_in;
      granted = λ other is_in. is_in;
      closed = λ attempt is_in. is_in;
    })
remembers node a (Begins ticket request) =
    inr (record {
      incarnation = refl;
      ticket = omega arith;
      serial = serials request a.serial;
      received = λ packet is_in. is_in;
      sent =
          λ packet is_in. is_in;
      granted = λ slot is_in. is_in;
      closed = λ attempt is_in. is_in;
    })
remembers node a (Grants slot) =
    inr (record {
      incarnation = refl;
      ticket = omega arith;
      serial = omega arith;
      received = λ packet is_in. is_in;
      sent =
          λ packet is_in. is_in;
      granted = λ other is_in. inr is_in;
      closed = λ attempt is_in. is_in;
    })
remembers node a (Concludes slot outcome) =
    inr (record {
      incarnation = refl;
      ticket = omega arith;
      serial = omega arith;
      received = λ packet is_in. is_in;
      sent =
          λ packet is_in. is_in;
      granted = λ other is_in. is_in;
      closed = λ attempt is_in. inr is_in;
    })
remembers node a (Abandons slot) =
    inr (record {
      incarnation = refl;
      ticket = omega arith;
      serial = omega arith;
      received = λ packet is_in. is_in;
      sent =
          λ packet is_in. is_in;
      granted = λ other is_in. is_in;
      closed = λ attempt is_in. inr is_in;
    })
remembers node a act = inr (remembers_all a (actor_by node a act) refl refl refl refl refl refl refl)

pub later : (node : ℕ) (a : Actor) (act : Act) → a.incarnation ≤ (actor_by node a act).incarnation
later node a act = elim (remembers node a act) [
  | inl anew ↦ subst (λ (x : Act). a.incarnation ≤ (actor_by node a x).incarnation) (sym anew.2) (omega arith)
  | inr r ↦ let same = r.incarnation in omega (arith, same)
]

-- an actor that is in the same incarnation remembers
pub same_life : (node : ℕ) (a : Actor) (act : Act) → (actor_by node a act).incarnation ≡ a.incarnation → Remembers a (actor_by node a act)
same_life node a act same = elim (remembers node a act) [
  | inl anew ↦ absurd (let next : (actor_by node a act).incarnation ≡ suc (a.incarnation + anew.0) = ap
      (λ (x : Act). (actor_by node a x).incarnation) anew.2 in omega (arith, same, next))
  | inr r ↦ r
]

later_after : (w : World) (node : ℕ) (act : Act) (other : ℕ) → (w.actors other).incarnation ≤ ((after w node act).actors other).incarnation
later_after w node act other =
    elim (changed_cases w.actors node (actor_by node (w.actors node) act) other) [
      | inl here ↦ subst (λ (a : Actor). (w.actors other).incarnation ≤ a.incarnation) (sym here.1)
          (subst (λ (n : ℕ). (w.actors n).incarnation ≤ (actor_by node (w.actors node) act).incarnation) (sym here.0)
          (later node (w.actors node) act))
      | inr elsewhere ↦ subst (λ (a : Actor). (w.actors other).incarnation ≤ a.incarnation) (sym elsewhere) (omega arith)
    ]

late_by : (w : World) (node : ℕ) (act : Act) → MayLoosely w node act → (c : Cast) → In c (votes_by node act) → (w.records c.acceptor c.slot).promised ≤ c.vote.ballot
late_by w node (Votes slot vote sent) may c is_in =
    of_only (λ (x : Cast). (w.records x.acceptor x.slot).promised ≤ x.vote.ballot) (cast node slot vote) c may.needs.0 is_in
late_by w node act may c is_in = absurd is_in

pub grows_loosely : (w : World) (node : ℕ) (act : Act) → MayLoosely w node act → Grows w (after w node act)
grows_loosely w node act may = record {
  nodes = refl;
  packets = λ packet. in_right packet (sent_by w node act) w.packets;
  votes = λ c. in_right c (votes_by node act) w.votes;
  late = λ c is_in. elim (in_either c (votes_by node act) w.votes is_in) [ inl new ↦ inr (late_by w node act may c new) | inr old ↦ inl old ];
  promised = promised_after w node act may;
  incarnations = later_after w node act;
  past = λ deed is_in. inr is_in;
}

pub grows : (w : World) (node : ℕ) (act : Act) → May w node act → Grows w (after w node act)
grows w node act may = grows_loosely w node act (loosely w node act may)

-- the nodes stay
pub nodes_same : (first : World) (acts : List (ℕ × Act)) → (reached first acts).nodes ≡ first.nodes
nodes_same first [] = refl
nodes_same first (act ∷ acts) = nodes_same first acts
