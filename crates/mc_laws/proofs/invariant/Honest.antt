-- In a cluster every packet concerns every node.
use Rattle.std.proofs.Common.{◌≡◌, ◌⊎◌, ℕ, suc, ◌+◌, ◌<◌, ◌≤◌, Bool, List, [], ◌∷◌, Option, Some, None, refl, sym, ◌∙◌, ap, subst, inl, inr, arith}
use Rattle.std.proofs.lemmas.Bool.{cases_eq}
use Rattle.mc_model.specs.message.Ids.{node_of, incarnation_of, serial_of}
use Rattle.mc_model.specs.message.Submission.{Submission}
use Rattle.mc_model.specs.message.Decree.{Decree}
use Rattle.mc_model.specs.synod.Lists.{In}
use Rattle.mc_model.specs.synod.Ballot.{proposer_of, incarnation_in}
use Rattle.mc_model.specs.synod.OneSlot.{Vote, vote_at}
use Rattle.mc_model.specs.synod.Packet.{Slot, slot_of, Packet, Prepare, Promise, Propose, Voted, Refused, Name, TopVote, Ask, Tell}
use Rattle.mc_model.specs.node.Actor.{Actor, Request, Submit, Waiting, id_in}
use Rattle.mc_model.specs.node.Room.{IsWaiting, IsNumbered, IsFitToWait}
use Rattle.mc_model.specs.node.Proposal.{IsOwn}
use Rattle.mc_model.specs.node.Act.{Act, Promises, Votes, Refuses, Tells, Prepares, Proposes, Begins, Asks, Settles, Replies, Restarts, MayTell}
use Rattle.mc_model.specs.node.Effect.{actor_by, settle}
use Rattle.mc_model.specs.node.Concerns.{IsMember, WasGiven, TellsAbout, IsExpected, Concerns}
use Rattle.mc_model.specs.cluster.World.{World, cast, May, IsChosenIn, after, sent_by, start}
use Rattle.mc_parts.proofs.Membership.{in_either, of_only, in_map, in_filter}
use Rattle.mc_laws.proofs.invariant.Growth.{grows, later, same_life, remembers, actors_after, actor_here, actor_apart}
use Rattle.mc_laws.proofs.invariant.Keeping.{Keeps, IsSent, sent_is}
use Rattle.mc_laws.proofs.invariant.Links.{Links}
use Rattle.mc_laws.proofs.invariant.Freshness.{Names, HaveTickets, IsAbout, WasNamed, ask_cases, tell_cases, about_by}
use Rattle.mc_laws.proofs.invariant.Proposals.{AllProposed, chosen_good, good_after}

-- ---- what holds of a world

abbrev sender_of : Packet → ℕ
sender_of (Prepare sender slot ballot) = sender
sender_of (Promise sender slot ballot report) = sender
sender_of (Propose sender slot vote) = sender
sender_of (Voted sender slot vote) = sender
sender_of (Refused sender slot ballot promised) = sender
sender_of (Ask sender id name) = sender
sender_of (Tell sender name told) = sender

-- a ballot of its sender, of an incarnation that it has reached
pub record PrepareFits (w : World) (sender ballot : ℕ) : Type 0 where
  pub proposer : proposer_of ballot ≡ sender
  pub lived : incarnation_in ballot ≤ (w.actors sender).incarnation

pub record IsPreparedBy (w : World) (slot : Slot) (ballot : ℕ) : Type 0 where
  pub sender : ℕ
  pub sent : In (Prepare sender slot ballot) w.packets

pub record IsAsked (w : World) (id : ℕ) (name : Name) : Type 0 where
  pub asker : ℕ
  pub sent : In (Ask asker id name) w.packets

-- requests with one ticket are about one message
abbrev AreDistinct : Actor → Type 0
AreDistinct a = (x y : Waiting) → In x a.waiting → In y a.waiting → x.ticket ≡ y.ticket → id_in x.request ≡ id_in y.request

-- the message of a submit_sm that waits has a serial that its node has given
pub record IsOwnId (node : ℕ) (a : Actor) (id : ℕ) : Type 0 where
  pub node_is : node_of id ≡ node
  pub given : WasGiven a id

abbrev AreNumbered : ℕ → Actor → Type 0
AreNumbered node a = (waiting : Waiting) (id : ℕ) (message : Submission) → In waiting a.waiting → waiting.request ≡ Submit id message → IsOwnId node a id

abbrev GivenIn : World → ℕ → List Decree → Type 0
GivenIn w id chain = WasGiven (w.actors (node_of id)) id

pub record Honest (w : World) : Type 0 where
  pub members : (packet : Packet) → In packet w.packets → IsMember w.nodes (sender_of packet)
  pub prepares : (sender : ℕ) (slot : Slot) (ballot : ℕ) → In (Prepare sender slot ballot) w.packets → PrepareFits w sender ballot
  pub prepared : (node : ℕ) (slot : Slot) (ballot : ℕ) → In (Prepare node slot ballot) w.packets →
      incarnation_in ballot ≡ (w.actors node).incarnation →
      In (Prepare node slot ballot) (w.actors node).sent
  pub promised : (acceptor : ℕ) (slot : Slot) (ballot : ℕ) (report : Option Vote) → In (Promise acceptor slot ballot report) w.packets →
      IsPreparedBy w slot ballot
  pub lives : (node : ℕ) → (w.actors node).incarnation ≤ 9999
  pub distinct : (node : ℕ) → AreDistinct (w.actors node)
  pub numbered : (node : ℕ) → AreNumbered node (w.actors node)
  pub given : AllProposed GivenIn w
  pub about : (asker id : ℕ) (name : Name) → In (Ask asker id name) w.packets → IsAbout name id (w.actors name.node)
  pub tells : (teller : ℕ) (name : Name) (told : TopVote) → In (Tell teller name (Some told)) w.packets → IsAsked w told.id name

-- ---- every packet concerns every node

expected : (w : World) → Names w → Honest w → (node teller : ℕ) (name : Name) (told : Option TopVote) →
    In (Tell teller name told) w.packets → name.node ≡ node → name.incarnation ≡ (w.actors node).incarnation →
    IsExpected (w.actors node) name.ticket told
expected w names honest node teller name told is_in nodes incarnations = record {
  given = below;
  about = λ waiting waits is. of_told told is_in waiting waits is;
}
  where
    below : name.ticket < (w.actors node).ticket
    below =
        let asked = names.told teller name told is_in in
        let named : WasNamed (w.actors node) name = subst (λ (n : ℕ). WasNamed (w.actors n) name) nodes (names.asked asked.sender asked.id name asked.sent) in
        elim named [ inl before ↦ absurd (omega (arith, before, incarnations)) | inr now ↦ now.1 ]

    of_told : (told : Option TopVote) → In (Tell teller name told) w.packets → (waiting : Waiting) → In waiting (w.actors node).waiting →
        waiting.ticket ≡ name.ticket →
        TellsAbout told (id_in waiting.request)
    of_told None is_in waiting waits is = tt
    of_told (Some top) is_in waiting waits is =
        let asked = honest.tells teller name top is_in in
        let about = subst (λ (n : ℕ). IsAbout name top.id (w.actors n)) nodes (honest.about asked.asker top.id name asked.sent) in
        sym (about (sym incarnations) waiting waits is)

pub all_concern : (w : World) → Keeps w → Links w → Names w → Honest w → (node : ℕ) (packet : Packet) → In packet w.packets →
    Concerns w.nodes node (w.actors node) packet
all_concern w keeps links names honest node (Prepare sender slot ballot) is_in = honest.members _ is_in
all_concern w keeps links names honest node (Promise sender slot ballot report) is_in = (
  honest.members _ is_in,
  λ own.
      let p = honest.promised sender slot ballot report is_in in
      let sender_is : p.sender ≡ node = sym (honest.prepares p.sender slot ballot p.sent).proposer ∙ own.0 in
      honest.prepared node slot ballot (subst (λ (n : ℕ). In (Prepare n slot ballot) w.packets) sender_is p.sent) own.1,
)
all_concern w keeps links names honest node (Propose sender slot vote) is_in = honest.members _ is_in
all_concern w keeps links names honest node (Voted sender slot vote) is_in =
    let proposed = keeps.proposed (cast sender slot vote) (keeps.fits (Voted sender slot vote) is_in) in (
      honest.members _ is_in,
      (links.standing slot vote proposed).place,
      λ mine. subst (λ (n : ℕ). WasGiven (w.actors n) slot.id) mine
          (honest.given slot vote proposed),
    )
all_concern w keeps links names honest node (Refused sender slot ballot promised) is_in = honest.members _ is_in
all_concern w keeps links names honest node (Ask sender id name) is_in = honest.members _ is_in
all_concern w keeps links names honest node (Tell sender name told) is_in = (honest.members _ is_in, expected w names honest node sender name told is_in)

-- ---- each act keeps it

-- an act of a node sends packets of that node
new_sender : (w : World) (node : ℕ) (act : Act) (packet : Packet) → IsSent w node act packet → sender_of packet ≡ node
new_sender w node (Promises slot ballot sent) packet is = ap sender_of is
new_sender w node (Votes slot vote sent) packet is = ap sender_of is
new_sender w node (Refuses slot ballot) packet is = ap sender_of is
new_sender w node (Tells id name told) packet is = ap sender_of is
new_sender w node (Prepares slot ballot chain) packet is = ap sender_of is
new_sender w node (Proposes slot vote) packet is = ap sender_of is
new_sender w node (Asks id ticket) packet is = ap sender_of is
new_sender w node act packet is = absurd is

members_after : (w : World) → Honest w → (node : ℕ) (act : Act) → May w node act → (packet : Packet) →
    In packet (after w node act).packets →
    IsMember w.nodes (sender_of packet)
members_after w honest node act may packet is_in = elim (in_either packet (sent_by w node act) w.packets is_in) [
  | inl new ↦ subst (IsMember w.nodes) (sym (new_sender w node act packet (sent_is w node act packet new))) (record { least = may.least; most = may.most })
  | inr old ↦ honest.members packet old
]

-- the act that prepares
record Preparing (node : ℕ) (act : Act) (sender : ℕ) (slot : Slot) (ballot : ℕ) : Type 0 where
  chain : List Decree
  by : act ≡ Prepares slot ballot chain
  sender_is : sender ≡ node

preparing : (w : World) (node : ℕ) (act : Act) (sender : ℕ) (slot : Slot) (ballot : ℕ) → IsSent w node act (Prepare sender slot ballot) →
    Preparing node act sender slot ballot
preparing w node (Prepares other at chain) sender slot ballot is = record { chain = chain; by = cc; sender_is = cc }
preparing w node (Promises other at sent) sender slot ballot is = cc
preparing w node (Votes other voted sent) sender slot ballot is = cc
preparing w node (Refuses other at) sender slot ballot is = cc
preparing w node (Tells id name told) sender slot ballot is = cc
preparing w node (Proposes other vote) sender slot ballot is = cc
preparing w node (Asks id ticket) sender slot ballot is = cc
preparing w node act sender slot ballot is = absurd is

prepare_cases : (w : World) (node : ℕ) (act : Act) (sender : ℕ) (slot : Slot) (ballot : ℕ) →
    In (Prepare sender slot ballot) (after w node act).packets →
    Preparing node act sender slot ballot ⊎ In (Prepare sender slot ballot) w.packets
prepare_cases w node act sender slot ballot is_in = elim (in_either (Prepare sender slot ballot) (sent_by w node act) w.packets is_in) [
  | inl new ↦ inl (preparing w node act sender slot ballot (sent_is w node act _ new))
  | inr old ↦ inr old
]

prepares_after : (w : World) → Honest w → (node : ℕ) (act : Act) → May w node act → (sender : ℕ) (slot : Slot) (ballot : ℕ) →
    In (Prepare sender slot ballot) (after w node act).packets →
    PrepareFits (after w node act) sender ballot
prepares_after w honest node act may sender slot ballot is_in = elim (prepare_cases w node act sender slot ballot is_in) [
  | inl new ↦
      let m : May w node (Prepares slot ballot new.chain) = subst (May w node) new.by may in
      let more = (grows w node act may).incarnations node in
      let same : incarnation_in ballot ≡ (w.actors node).incarnation = m.needs.1 in
      subst (λ (n : ℕ). PrepareFits (after w node act) n ballot) (sym new.sender_is) (record { proposer = m.needs.0; lived = omega (arith, same, more) })
  | inr old ↦
      let fits = honest.prepares sender slot ballot old in
      let more = (grows w node act may).incarnations sender in
      let lived : incarnation_in ballot ≤ (w.actors sender).incarnation = fits.lived in
      record { proposer = fits.proposer; lived = omega (arith, lived, more) }
]

-- of this incarnation the actor has it
prepared_here : (w : World) → Honest w → (node : ℕ) (act : Act) (slot : Slot) (ballot : ℕ) → In (Prepare node slot ballot) w.packets →
    incarnation_in ballot ≡ (actor_by node (w.actors node) act).incarnation →
    In (Prepare node slot ballot) (actor_by node (w.actors node) act).sent
prepared_here w honest node act slot ballot is_in same =
    let fits = honest.prepares node slot ballot is_in in
    let lived : incarnation_in ballot ≤ (w.actors node).incarnation = fits.lived in
    let more = later node (w.actors node) act in
    let now : incarnation_in ballot ≡ (w.actors node).incarnation = omega (arith, lived, same, more) in
    (same_life node (w.actors node) act (sym same ∙ now)).sent _ (honest.prepared node slot ballot is_in now)

prepared_new : (node : ℕ) (a : Actor) (act : Act) (slot : Slot) (ballot : ℕ) (chain : List Decree) → act ≡ Prepares slot ballot chain →
    In (Prepare node slot ballot) (actor_by node a act).sent
prepared_new node a act slot ballot chain is = subst (λ (x : Act). In (Prepare node slot ballot) (actor_by node a x).sent) (sym is) (inl refl)

prepared_at : (w : World) → Honest w → (node : ℕ) (act : Act) (slot : Slot) (ballot : ℕ) →
    Preparing node act node slot ballot ⊎ In (Prepare node slot ballot) w.packets →
    incarnation_in ballot ≡ (actor_by node (w.actors node) act).incarnation →
    In (Prepare node slot ballot) (actor_by node (w.actors node) act).sent
prepared_at w honest node act slot ballot (inl new) same = prepared_new node (w.actors node) act slot ballot new.chain new.by
prepared_at w honest node act slot ballot (inr old) same = prepared_here w honest node act slot ballot old same

abbrev HasPrepared : World → Slot → ℕ → ℕ → Actor → Type 0
HasPrepared v slot ballot node a = In (Prepare node slot ballot) v.packets → incarnation_in ballot ≡ a.incarnation → In (Prepare node slot ballot) a.sent

prepared_after : (w : World) → Honest w → (node : ℕ) (act : Act) (other : ℕ) (slot : Slot) (ballot : ℕ) →
    HasPrepared (after w node act) slot ballot other ((after w node act).actors other)
prepared_after w honest node act other slot ballot = elim (cases_eq other node) [
  | inl here ↦
      subst (λ (n : ℕ). HasPrepared (after w node act) slot ballot n ((after w node act).actors n)) (sym here) (
      subst (HasPrepared (after w node act) slot ballot node) (sym (actor_here w node act))
      (λ is_in. prepared_at w honest node act slot ballot (prepare_cases w node act node slot ballot is_in)))
  | inr apart ↦
      subst (HasPrepared (after w node act) slot ballot other) (sym (actor_apart w node act other apart))
      (λ is_in. honest.prepared other slot ballot (elim (prepare_cases w node act other slot ballot is_in) [
        | inl new ↦ absurd (apart new.sender_is)
        | inr old ↦ old
      ]))
]

-- the act that promises
record Promising (node : ℕ) (act : Act) (slot : Slot) (ballot : ℕ) : Type 0 where
  sent : Bool
  by : act ≡ Promises slot ballot sent

promising : (w : World) (node : ℕ) (act : Act) (acceptor : ℕ) (slot : Slot) (ballot : ℕ) (report : Option Vote) →
    IsSent w node act (Promise acceptor slot ballot report) →
    Promising node act slot ballot
promising w node (Promises other at sent) acceptor slot ballot report is = record { sent = sent; by = cc }
promising w node (Prepares other at chain) acceptor slot ballot report is = cc
promising w node (Votes other voted sent) acceptor slot ballot report is = cc
promising w node (Refuses other at) acceptor slot ballot report is = cc
promising w node (Tells id name told) acceptor slot ballot report is = cc
promising w node (Proposes other vote) acceptor slot ballot report is = cc
promising w node (Asks id ticket) acceptor slot ballot report is = cc
promising w node act acceptor slot ballot report is = absurd is

promised_after : (w : World) → Keeps w → Honest w → (node : ℕ) (act : Act) → May w node act →
    (acceptor : ℕ) (slot : Slot) (ballot : ℕ) (report : Option Vote) → In (Promise acceptor slot ballot report) (after w node act).packets →
    IsPreparedBy (after w node act) slot ballot
promised_after w keeps honest node act may acceptor slot ballot report is_in =
    let grown = grows w node act may in
    elim (in_either (Promise acceptor slot ballot report) (sent_by w node act) w.packets is_in) [
      | inl new ↦
          let p = promising w node act acceptor slot ballot report (sent_is w node act _ new) in
          let m : May w node (Promises slot ballot p.sent) = subst (May w node) p.by may in
          record { sender = m.needs.sender; sent = grown.packets _ (keeps.received node _ m.needs.prepared) }
      | inr old ↦ let p = honest.promised acceptor slot ballot report old in record { sender = p.sender; sent = grown.packets _ p.sent }
    ]

-- ---- actors

-- what holds of each actor goes on to hold, where the act of a node keeps it there
at_each : (P : ℕ → Actor → Type 0) (w : World) (node : ℕ) (act : Act) → ((other : ℕ) → P other (w.actors other)) →
    P node (actor_by node (w.actors node) act) → (other : ℕ) →
    P other ((after w node act).actors other)
at_each P w node act each new other = elim (actors_after w node act other) [
  | inl here ↦ subst (P other) (sym here.actor_is) (subst (λ (n : ℕ). P n (actor_by node (w.actors node) act)) (sym here.node_is) new)
  | inr elsewhere ↦ subst (P other) (sym elsewhere) (each other)
]

lives_by : (w : World) → Honest w → (node : ℕ) (act : Act) → May w node act → (actor_by node (w.actors node) act).incarnation ≤ 9999
lives_by w honest node (Restarts lost serial) may = let below : (w.actors node).incarnation + lost < 9999 = may.needs in omega (arith, below)
lives_by w honest node act may = honest.lives node

same_only : (x y only : Waiting) → In x (only ∷ []) → In y (only ∷ []) → x ≡ y
same_only x y only (inl one) (inl other) = one ∙ sym other
same_only x y only (inr none) other = absurd none
same_only x y only (inl one) (inr none) = absurd none

distinct_by : (node : ℕ) (a : Actor) (act : Act) → HaveTickets a → AreDistinct a → AreDistinct (actor_by node a act)
distinct_by node a (Begins ticket request) have distinct x y in_x in_y same = elim (in_either x a.waiting _ in_x) [
  | inl old_x ↦ elim (in_either y a.waiting _ in_y) [
    | inl old_y ↦ distinct x y old_x old_y same
    | inr new_y ↦ of_only (λ (z : Waiting). x.ticket ≡ z.ticket → id_in x.request ≡ id_in z.request) _ y
        (λ is. absurd (let below = have x old_x in omega (arith, below, is))) new_y same
  ]
  | inr new_x ↦ elim (in_either y a.waiting _ in_y) [
    | inl old_y ↦ of_only (λ (z : Waiting). z.ticket ≡ y.ticket → id_in z.request ≡ id_in y.request) _ x
        (λ is. absurd (let below = have y old_y in omega (arith, below, is))) new_x same
    | inr new_y ↦ ap (λ (z : Waiting). id_in z.request) (same_only x y _ new_x new_y)
  ]
]
distinct_by node a (Settles ticket) have distinct x y in_x in_y same =
    let m = in_map (settle ticket) a.waiting x in_x in
    let n = in_map (settle ticket) a.waiting y in_y in
    let requests = distinct m.from n.from m.member n.member (ap (λ (z : Waiting). z.ticket) (sym m.made) ∙ same ∙ ap (λ (z : Waiting). z.ticket) n.made) in
    ap (λ (z : Waiting). id_in z.request) m.made ∙ requests ∙ ap (λ (z : Waiting). id_in z.request) (sym n.made)
distinct_by node a (Replies ticket id answer) have distinct x y in_x in_y same = distinct x y (in_filter _ a.waiting x in_x) (in_filter _ a.waiting y in_y) same
distinct_by node a (Restarts lost serial) have distinct x y in_x in_y same = absurd in_x
distinct_by node a act have distinct x y in_x in_y same = distinct x y in_x in_y same

-- ---- serials

-- a serial that was given stays so
given_by : (node : ℕ) (a : Actor) (act : Act) (id : ℕ) → WasGiven a id → WasGiven (actor_by node a act) id
given_by node a act id given = elim (remembers node a act) [
  | inl anew ↦ subst (λ (x : Act). WasGiven (actor_by node a x) id) (sym anew.2)
      (elim given [ inl before ↦ inl (omega (arith, before)) | inr now ↦ inl (let same = now.0 in omega (arith, same)) ])
  | inr r ↦ elim given [
    | inl before ↦ inl (let same = r.incarnation in omega (arith, before, same))
    | inr now ↦ inr (now.0 ∙ sym r.incarnation, let more = r.serial in let below = now.1 in omega (arith, below, more))
  ]
]

given_after : (w : World) (node : ℕ) (act : Act) (other id : ℕ) → WasGiven (w.actors other) id → WasGiven ((after w node act).actors other) id
given_after w node act other id given = elim (actors_after w node act other) [
  | inl here ↦ subst (λ (a : Actor). WasGiven a id) (sym here.actor_is)
      (given_by node (w.actors node) act id (subst (λ (n : ℕ). WasGiven (w.actors n) id) here.node_is given))
  | inr elsewhere ↦ subst (λ (a : Actor). WasGiven a id) (sym elsewhere) given
]

-- the parts of an id that is given
own_id : (node : ℕ) (a : Actor) (id : ℕ) (message : Submission) → a.incarnation ≤ 9999 → IsNumbered node a id message →
    (node_of id ≡ node) × (incarnation_of id ≡ a.incarnation) × (serial_of id ≡ a.serial)
own_id node a id message most n =
    let is = n.id_is in
    let serial = n.serial.most in
    (omega (arith, is, serial, most), omega (arith, is, serial, most), omega (arith, is, serial, most))

begun_numbered : (node : ℕ) (a : Actor) (ticket : ℕ) (request : Request) → a.incarnation ≤ 9999 → IsFitToWait node a request →
    AreNumbered node a →
    AreNumbered node (actor_by node a (Begins ticket request))
begun_numbered node a ticket request most fit numbered waiting id message is_in submits = elim (in_either waiting a.waiting _ is_in) [
  | inl old ↦
      let n = numbered waiting id message old submits in
      record { node_is = n.node_is; given = given_by node a (Begins ticket request) id n.given }
  | inr new ↦ of_only (λ (x : Waiting). x.request ≡ Submit id message → IsOwnId node (actor_by node a (Begins ticket request)) id) _ waiting (λ is.
      let m : IsNumbered node a id message = subst (IsFitToWait node a) is fit in
      let parts = own_id node a id message most m in
      let serial = parts.2 in
      let next : (actor_by node a (Begins ticket request)).serial ≡ suc a.serial = ap (λ (r : Request). (actor_by node a (Begins ticket r)).serial) is in
      record { node_is = parts.0; given = inr (parts.1, omega (arith, serial, next)) }) new submits
]

own_still : (node : ℕ) (a : Actor) (act : Act) (id : ℕ) → IsOwnId node a id → IsOwnId node (actor_by node a act) id
own_still node a act id n = record { node_is = n.node_is; given = given_by node a act id n.given }

numbered_by : (w : World) → Honest w → (node : ℕ) (act : Act) → May w node act → AreNumbered node (actor_by node (w.actors node) act)
numbered_by w honest node (Begins ticket request) may waiting id message is_in submits =
    begun_numbered node (w.actors node) ticket request (honest.lives node) may.needs.fit (honest.numbered node) waiting id message is_in submits
numbered_by w honest node (Settles ticket) may waiting id message is_in submits =
    let m = in_map (settle ticket) (w.actors node).waiting waiting is_in in
    own_still node (w.actors node) (Settles ticket) id
    (honest.numbered node m.from id message m.member (ap (λ (x : Waiting). x.request) (sym m.made) ∙ submits))
numbered_by w honest node (Replies ticket other answer) may waiting id message is_in submits =
    own_still node (w.actors node) (Replies ticket other answer) id
    (honest.numbered node waiting id message (in_filter _ (w.actors node).waiting waiting is_in) submits)
numbered_by w honest node (Restarts lost serial) may waiting id message is_in submits = absurd is_in
numbered_by w honest node act may waiting id message is_in submits =
    own_still node (w.actors node) act id (honest.numbered node waiting id message is_in submits)

-- the message of a chain of a node's own has a serial that was given
own_given : (w : World) → Keeps w → Honest w → (node id : ℕ) (chain : List Decree) → IsOwn (IsChosenIn w) node (w.actors node) id chain → GivenIn w id chain
own_given w keeps honest node id chain (inl first) =
    let n = honest.numbered node first.waiting id first.message first.waits first.submits in
    subst (λ (m : ℕ). WasGiven (w.actors m) id) (sym n.node_is) n.given
own_given w keeps honest node id chain (inr next) =
    chosen_good GivenIn w keeps honest.given (slot_of id (next.newest ∷ next.older)) (vote_at next.ballot (next.newest ∷ next.older)) next.chosen

-- ---- questions

about_at : (w : World) → Names w → Honest w → (node : ℕ) (act : Act) (asker id : ℕ) (name : Name) → In (Ask asker id name) w.packets →
    IsAbout name id ((after w node act).actors name.node)
about_at w names honest node act asker id name old = elim (actors_after w node act name.node) [
  | inl here ↦ subst (IsAbout name id) (sym here.actor_is)
      (about_by node (w.actors node) act name id (subst (λ (n : ℕ). WasNamed (w.actors n) name) here.node_is
      (names.asked asker id name old)) (subst (λ (n : ℕ). IsAbout name id (w.actors n)) here.node_is (honest.about asker id name old)))
  | inr elsewhere ↦ subst (IsAbout name id) (sym elsewhere) (honest.about asker id name old)
]

about_asked : (w : World) → Honest w → (node id : ℕ) (name : Name) →
    name ≡ record { node = node; incarnation = (w.actors node).incarnation; ticket = name.ticket } →
    IsWaiting (w.actors node) id name.ticket →
    IsAbout name id ((after w node (Asks id name.ticket)).actors name.node)
about_asked w honest node id name is asks =
    let nodes : name.node ≡ node = ap (λ (n : Name). n.node) is in
    subst (λ (n : ℕ). IsAbout name id ((after w node (Asks id name.ticket)).actors n)) (sym nodes) (
    subst (IsAbout name id) (sym (actor_here w node (Asks id name.ticket)))
    (λ same waiting waits ticket. honest.distinct node waiting asks.waiting waits asks.waits (ticket ∙ sym asks.ticket_is) ∙ asks.about))

about_after : (w : World) → Names w → Honest w → (node : ℕ) (act : Act) → May w node act → (asker id : ℕ) (name : Name) →
    In (Ask asker id name) (after w node act).packets →
    IsAbout name id ((after w node act).actors name.node)
about_after w names honest node act may asker id name is_in = elim (ask_cases w node act asker id name is_in) [
  | inl new ↦
      let m : May w node (Asks id name.ticket) = subst (May w node) new.by may in
      subst (λ (x : Act). IsAbout name id ((after w node x).actors name.node)) (sym new.by) (about_asked w honest node id name new.name_is m.needs)
  | inr old ↦ about_at w names honest node act asker id name old
]

tells_after : (w : World) → Keeps w → Honest w → (node : ℕ) (act : Act) → May w node act → (teller : ℕ) (name : Name) (told : TopVote) →
    In (Tell teller name (Some told)) (after w node act).packets →
    IsAsked (after w node act) told.id name
tells_after w keeps honest node act may teller name told is_in =
    let grown = grows w node act may in
    elim (tell_cases w node act teller name (Some told) is_in) [
      | inl new ↦
          let m : MayTell (w.actors node) (w.records node) new.id name (Some told) = (subst (May w node) new.by may).needs in
          record {
            asker = m.asker;
            sent = grown.packets _
                (keeps.received node _ (subst (λ (i : ℕ). In (Ask m.asker i name) (w.actors node).received) (sym m.told_is.about) m.asked));
          }
      | inr old ↦ let a = honest.tells teller name told old in record { asker = a.asker; sent = grown.packets _ a.sent }
    ]

-- ---- every world that is reached

pub honest_after : (w : World) → Keeps w → Names w → Honest w → (node : ℕ) (act : Act) → May w node act → Honest (after w node act)
honest_after w keeps names honest node act may = record {
  members = members_after w honest node act may;
  prepares = prepares_after w honest node act may;
  prepared = prepared_after w honest node act;
  promised = promised_after w keeps honest node act may;
  lives = at_each (λ n a. a.incarnation ≤ 9999) w node act honest.lives (lives_by w honest node act may);
  distinct = at_each (λ n a. AreDistinct a) w node act honest.distinct (distinct_by node (w.actors node) act (names.tickets node) (honest.distinct node));
  numbered = at_each AreNumbered w node act honest.numbered (numbered_by w honest node act may);
  given = good_after GivenIn w keeps honest.given node act may (λ id chain. given_after w node act (node_of id) id) (own_given w keeps honest node);
  about = about_after w names honest node act may;
  tells = tells_after w keeps honest node act may;
}

pub honest_start : (nodes : ℕ) (serials : ℕ → ℕ) → Honest (start nodes serials)
honest_start nodes serials = record {
  members = λ packet is_in. absurd is_in;
  prepares = λ sender slot ballot is_in. absurd is_in;
  prepared = λ node slot ballot is_in same. absurd is_in;
  promised = λ acceptor slot ballot report is_in. absurd is_in;
  lives = λ node. omega arith;
  distinct = λ node x y in_x in_y same. absurd in_x;
  numbered = λ node waiting id message is_in submits. absurd is_in;
  given = λ slot vote proposed. absurd proposed.sent;
  about = λ asker id name is_in. absurd is_in;
  tells = λ teller name told is_in. absurd is_in;
}
