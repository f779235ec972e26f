-- A request whose questions a majority answered knows all that was chosen before it came.
use Rattle.std.proofs.Common.{◌≡◌, ◌⊎◌, ℕ, suc, ◌<◌, ◌≤◌, Option, Some, None, refl, sym, ◌∙◌, ap, subst, inl, inr, arith}
use Rattle.mc_model.specs.synod.Lists.{In}
use Rattle.mc_model.specs.synod.OneSlot.{Vote}
use Rattle.mc_model.specs.synod.Packet.{slot_at, Name, TopVote, Ask, Tell}
use Rattle.mc_model.specs.synod.Acceptor.{Records, IsTold}
use Rattle.mc_model.specs.node.Actor.{Actor, Request, Waiting, id_in}
use Rattle.mc_model.specs.node.Room.{IsWaiting}
use Rattle.mc_model.specs.node.Act.{Act, Promises, Votes, Refuses, Tells, Prepares, Proposes, Begins, Asks, Settles, Replies, Restarts, MayTell}
use Rattle.mc_model.specs.node.Effect.{actor_by, settle}
use Rattle.mc_model.specs.cluster.World.{World, Cast, cast, May, after, sent_by, start}
use Rattle.mc_parts.proofs.Membership.{in_either, of_only, in_map, in_filter}
use Rattle.mc_laws.proofs.invariant.Growth.{grows, remembers, actors_after, actor_here}
use Rattle.mc_laws.proofs.invariant.Keeping.{Keeps, IsSent, sent_is}

-- ---- names

-- a name that an actor has given
abbrev pub WasNamed : Actor → Name → Type 0
WasNamed a name = (name.incarnation < a.incarnation) ⊎ ((name.incarnation ≡ a.incarnation) × (name.ticket < a.ticket))

pub record WasAsked (w : World) (name : Name) : Type 0 where
  pub sender : ℕ
  pub id : ℕ
  pub sent : In (Ask sender id name) w.packets

pub record Names (w : World) : Type 0 where
  pub asked : (sender id : ℕ) (name : Name) → In (Ask sender id name) w.packets → WasNamed (w.actors name.node) name
  pub told : (node : ℕ) (name : Name) (told : Option TopVote) → In (Tell node name told) w.packets → WasAsked w name
  pub tickets : (node : ℕ) (waiting : Waiting) → In waiting (w.actors node).waiting → waiting.ticket < (w.actors node).ticket

-- an actor goes on having given it
named_by : (node : ℕ) (a : Actor) (act : Act) (name : Name) → WasNamed a name → WasNamed (actor_by node a act) name
named_by node a act name named = elim (remembers node a act) [
  | inl anew ↦ subst (λ (x : Act). WasNamed (actor_by node a x) name) (sym anew.2)
      (elim named [ inl before ↦ inl (omega (arith, before)) | inr now ↦ inl (omega (arith, now.0)) ])
  | inr r ↦ elim named [
    | inl before ↦ inl (let same = r.incarnation in omega (arith, before, same))
    | inr now ↦ inr
        (now.0 ∙ sym r.incarnation, let more = r.ticket in omega (arith, now.1, more))
  ]
]

pub named_after : (w : World) (node : ℕ) (act : Act) (name : Name) → WasNamed (w.actors name.node) name → WasNamed ((after w node act).actors name.node) name
named_after w node act name named = elim (actors_after w node act name.node) [
  | inl here ↦ subst (λ (a : Actor). WasNamed a name) (sym here.actor_is)
      (named_by node (w.actors node) act name (subst (λ (n : ℕ). WasNamed (w.actors n) name) here.node_is named))
  | inr elsewhere ↦ subst (λ (a : Actor). WasNamed a name) (sym elsewhere) named
]

-- the act that sends a question
pub record Asking (w : World) (node : ℕ) (act : Act) (sender id : ℕ) (name : Name) : Type 0 where
  pub by : act ≡ Asks id name.ticket
  pub sender_is : sender ≡ node
  pub name_is : name ≡ record { node = node; incarnation = (w.actors node).incarnation; ticket = name.ticket }

pub asking : (w : World) (node : ℕ) (act : Act) (sender id : ℕ) (name : Name) → IsSent w node act (Ask sender id name) → Asking w node act sender id name
asking w node (Asks other ticket) sender id name is =
    let names : name ≡ record { node = node; incarnation = (w.actors node).incarnation; ticket = ticket } = cc in
    let tickets : name.ticket ≡ ticket = ap (λ (n : Name). n.ticket) names in
    let ids : id ≡ other = cc in
    record {
      by = λ i. Asks (sym ids i) (sym tickets i);
      sender_is = cc;
      name_is = names ∙ ap (λ (t : ℕ). record { node = node; incarnation = (w.actors node).incarnation; ticket = t }) (sym tickets);
    }
asking w node (Promises slot ballot sent) sender id name is = cc
asking w node (Votes slot vote sent) sender id name is = cc
asking w node (Refuses slot ballot) sender id name is = cc
asking w node (Tells other tells told) sender id name is = cc
asking w node (Prepares slot ballot chain) sender id name is = cc
asking w node (Proposes slot vote) sender id name is = cc
asking w node act sender id name is = absurd is

pub ask_cases : (w : World) (node : ℕ) (act : Act) (sender id : ℕ) (name : Name) → In (Ask sender id name) (after w node act).packets →
    Asking w node act sender id name ⊎ In (Ask sender id name) w.packets
ask_cases w node act sender id name is_in = elim (in_either (Ask sender id name) (sent_by w node act) w.packets is_in) [
  | inl new ↦ inl (asking w node act sender id name (sent_is w node act _ new))
  | inr old ↦ inr old
]

-- the act that tells
pub record Telling (node : ℕ) (act : Act) (teller : ℕ) (name : Name) (told : Option TopVote) : Type 0 where
  pub id : ℕ
  pub by : act ≡ Tells id name told
  pub teller_is : teller ≡ node

pub telling : (w : World) (node : ℕ) (act : Act) (teller : ℕ) (name : Name) (told : Option TopVote) →
    IsSent w node act (Tell teller name told) →
    Telling node act teller name told
telling w node (Tells id other answer) teller name told is =
    let names : name ≡ other = cc in
    let tolds : told ≡ answer = cc in
    record { id = id; by = λ i. Tells id (sym names i) (sym tolds i); teller_is = cc }
telling w node (Promises slot ballot sent) teller name told is = cc
telling w node (Votes slot vote sent) teller name told is = cc
telling w node (Refuses slot ballot) teller name told is = cc
telling w node (Asks other ticket) teller name told is = cc
telling w node (Prepares slot ballot chain) teller name told is = cc
telling w node (Proposes slot vote) teller name told is = cc
telling w node act teller name told is = absurd is

pub tell_cases : (w : World) (node : ℕ) (act : Act) (teller : ℕ) (name : Name) (told : Option TopVote) →
    In (Tell teller name told) (after w node act).packets →
    Telling node act teller name told ⊎ In (Tell teller name told) w.packets
tell_cases w node act teller name told is_in = elim (in_either (Tell teller name told) (sent_by w node act) w.packets is_in) [
  | inl new ↦ inl (telling w node act teller name told (sent_is w node act _ new))
  | inr old ↦ inr old
]

asked_after : (w : World) → Names w → (node : ℕ) (act : Act) → May w node act → (sender id : ℕ) (name : Name) →
    In (Ask sender id name) (after w node act).packets →
    WasNamed ((after w node act).actors name.node) name
asked_after w names node act may sender id name is_in = named_after w node act name (elim (ask_cases w node act sender id name is_in) [
  | inl new ↦
      let m : IsWaiting (w.actors node) id name.ticket = (subst (May w node) new.by may).needs in
      let below = names.tickets node m.waiting m.waits in
      let nodes : name.node ≡ node = ap (λ (n : Name). n.node) new.name_is in
      let incarnations : name.incarnation ≡ (w.actors node).incarnation = ap (λ (n : Name). n.incarnation) new.name_is in
      subst (λ (n : ℕ). WasNamed (w.actors n) name) (sym nodes) (inr (incarnations, let same = m.ticket_is in omega (arith, below, same)))
  | inr old ↦ names.asked sender id name old
])

told_after : (w : World) → Keeps w → Names w → (node : ℕ) (act : Act) → May w node act →
    (teller : ℕ) (name : Name) (told : Option TopVote) → In (Tell teller name told) (after w node act).packets →
    WasAsked (after w node act) name
told_after w keeps names node act may teller name told is_in =
    let grown = grows w node act may in
    elim (tell_cases w node act teller name told is_in) [
      | inl new ↦
          let m : MayTell (w.actors node) (w.records node) new.id name told = (subst (May w node) new.by may).needs in
          record { sender = m.asker; id = new.id; sent = grown.packets _ (keeps.received node _ m.asked) }
      | inr old ↦ let a = names.told teller name told old in record { sender = a.sender; id = a.id; sent = grown.packets _ a.sent }
    ]

-- ---- requests that wait

abbrev pub HaveTickets : Actor → Type 0
HaveTickets a = (waiting : Waiting) → In waiting a.waiting → waiting.ticket < a.ticket

tickets_by : (node : ℕ) (a : Actor) (act : Act) → HaveTickets a → HaveTickets (actor_by node a act)
tickets_by node a (Begins ticket request) have waiting is_in = elim (in_either waiting a.waiting _ is_in) [
  | inl old ↦ let below = have waiting old in omega (arith, below)
  | inr new ↦ of_only (λ (x : Waiting). x.ticket < suc a.ticket) _ waiting (omega arith) new
]
tickets_by node a (Settles ticket) have waiting is_in =
    let m = in_map (settle ticket) a.waiting waiting is_in in
    subst (λ (x : Waiting). x.ticket < a.ticket) (sym m.made) (have m.from m.member)
tickets_by node a (Replies ticket id answer) have waiting is_in = have waiting (in_filter _ a.waiting waiting is_in)
tickets_by node a (Restarts lost serial) have waiting is_in = absurd is_in
tickets_by node a act have waiting is_in = have waiting is_in

tickets_after : (w : World) → Names w → (node : ℕ) (act : Act) (other : ℕ) → HaveTickets ((after w node act).actors other)
tickets_after w names node act other = elim (actors_after w node act other) [
  | inl here ↦ subst HaveTickets (sym here.actor_is) (tickets_by node (w.actors node) act (names.tickets node))
  | inr elsewhere ↦ subst HaveTickets (sym elsewhere) (names.tickets other)
]

pub names_after : (w : World) → Keeps w → Names w → (node : ℕ) (act : Act) → May w node act → Names (after w node act)
names_after w keeps names node act may = record {
  asked = asked_after w names node act may;
  told = told_after w keeps names node act may;
  tickets = tickets_after w names node act;
}

pub names_start : (nodes : ℕ) (serials : ℕ → ℕ) → Names (start nodes serials)
names_start nodes serials = record {
  asked = λ sender id name is_in. absurd is_in;
  told = λ node name told is_in. absurd is_in;
  tickets = λ node waiting is_in. absurd is_in;
}

-- ---- since a request came

-- what is told is not below a place
abbrev pub HasReached : Option TopVote → ℕ → Type 0
HasReached None place = ⊥
HasReached (Some told) place = place ≤ told.place

-- the requests of a name that wait are about one message
abbrev pub IsAbout : Name → ℕ → Actor → Type 0
IsAbout name id a = a.incarnation ≡ name.incarnation → (waiting : Waiting) → In waiting a.waiting → waiting.ticket ≡ name.ticket → id_in waiting.request ≡ id

-- since a world in which a request for a message came under a name
pub record Fresh (before : World) (name : Name) (id : ℕ) (w : World) : Type 0 where
  pub votes : (c : Cast) → In c before.votes → In c w.votes
  pub asks : (sender other : ℕ) → In (Ask sender other name) w.packets → other ≡ id
  pub tells : (node : ℕ) (told : Option TopVote) → In (Tell node name told) w.packets → (place : ℕ) (vote : Vote) →
      In (cast node (slot_at id place) vote) before.votes →
      HasReached told place
  pub about : IsAbout name id (w.actors name.node)
  pub named : WasNamed (w.actors name.node) name

pub about_by : (node : ℕ) (a : Actor) (act : Act) (name : Name) (id : ℕ) → WasNamed a name → IsAbout name id a → IsAbout name id (actor_by node a act)
about_by node a (Begins ticket request) name id named about same waiting is_in is = elim (in_either waiting a.waiting _ is_in) [
  | inl old ↦ about same waiting old is
  | inr new ↦ of_only (λ (x : Waiting). x.ticket ≡ name.ticket → id_in x.request ≡ id) _ waiting (λ t. absurd (given a name named same t)) new is
]
  where
    given : (a : Actor) (name : Name) → WasNamed a name → a.incarnation ≡ name.incarnation → a.ticket ≡ name.ticket → ⊥
    given a name (inl before) same ticket = omega (arith, before, same)
    given a name (inr now) same ticket = let below = now.1 in omega (arith, below, ticket)
about_by node a (Settles ticket) name id named about same waiting is_in is =
    let m = in_map (settle ticket) a.waiting waiting is_in in
    subst (λ (x : Waiting). id_in x.request ≡ id) (sym m.made) (about same m.from m.member (ap (λ (x : Waiting). x.ticket) (sym m.made) ∙ is))
about_by node a (Replies ticket other answer) name id named about same waiting is_in is = about same waiting (in_filter _ a.waiting waiting is_in) is
about_by node a (Restarts lost serial) name id named about same waiting is_in is = absurd is_in
about_by node a act name id named about same waiting is_in is = about same waiting is_in is

about_after : (before w : World) (name : Name) (id : ℕ) → Fresh before name id w → (node : ℕ) (act : Act) →
    IsAbout name id ((after w node act).actors name.node)
about_after before w name id fresh node act = elim (actors_after w node act name.node) [
  | inl here ↦ subst (IsAbout name id) (sym here.actor_is)
      (about_by node (w.actors node) act name id (subst (λ (n : ℕ). WasNamed (w.actors n) name) here.node_is fresh.named)
      (subst (λ (n : ℕ). IsAbout name id (w.actors n)) here.node_is fresh.about))
  | inr elsewhere ↦ subst (IsAbout name id) (sym elsewhere) fresh.about
]

asks_after : (before w : World) (name : Name) (id : ℕ) → Fresh before name id w → (node : ℕ) (act : Act) → May w node act →
    (sender other : ℕ) → In (Ask sender other name) (after w node act).packets →
    other ≡ id
asks_after before w name id fresh node act may sender other is_in = elim (ask_cases w node act sender other name is_in) [
  | inl new ↦
      let m : IsWaiting (w.actors node) other name.ticket = (subst (May w node) new.by may).needs in
      let nodes : name.node ≡ node = ap (λ (n : Name). n.node) new.name_is in
      let incarnations : (w.actors node).incarnation ≡ name.incarnation = ap (λ (n : Name). n.incarnation) (sym new.name_is) in
      let about : IsAbout name id (w.actors node) = subst (λ (n : ℕ). IsAbout name id (w.actors n)) nodes fresh.about in
      sym m.about ∙ about incarnations m.waiting m.waits m.ticket_is
  | inr old ↦ fresh.asks sender other old
]

-- a teller that voted at a place tells of that place or of a higher one
reaches_vote : (records : Records) (id place : ℕ) (vote held : Vote) (told : Option TopVote) →
    (records (slot_at id place)).vote ≡ Some held → IsTold records id told →
    HasReached told place
reaches_vote records id place vote held None holds is = let none = is place in cc
reaches_vote records id place vote held (Some told) holds is = is.highest place held holds

tells_after : (before w : World) → Keeps w → (name : Name) (id : ℕ) → Fresh before name id w → (node : ℕ) (act : Act) → May w node act →
    (teller : ℕ) (told : Option TopVote) → In (Tell teller name told) (after w node act).packets → (place : ℕ) (vote : Vote) →
    In (cast teller (slot_at id place) vote) before.votes →
    HasReached told place
tells_after before w keeps name id fresh node act may teller told is_in place vote voted = elim (tell_cases w node act teller name told is_in) [
  | inl new ↦
      let m : MayTell (w.actors node) (w.records node) new.id name told = (subst (May w node) new.by may).needs in
      let ids : new.id ≡ id = fresh.asks m.asker new.id (keeps.received node _ m.asked) in
      let kept = keeps.records (cast teller (slot_at id place) vote) (fresh.votes _ voted) in
      let holds = subst (λ (n : ℕ). (w.records n (slot_at id place)).vote ≡ Some kept.held) new.teller_is kept.holds in
      reaches_vote (w.records node) id place vote kept.held told holds (subst (λ (i : ℕ). IsTold (w.records node) i told) ids m.told_is)
  | inr old ↦ fresh.tells teller told old place vote voted
]

pub fresh_after : (before w : World) → Keeps w → (name : Name) (id : ℕ) → Fresh before name id w → (node : ℕ) (act : Act) → May w node act →
    Fresh before name id (after w node act)
fresh_after before w keeps name id fresh node act may = record {
  votes = λ c is_in. (grows w node act may).votes c (fresh.votes c is_in);
  asks = asks_after before w name id fresh node act may;
  tells = tells_after before w keeps name id fresh node act may;
  about = about_after before w name id fresh node act;
  named = named_after w node act name fresh.named;
}

-- the step in which it comes
pub fresh_begun : (w : World) → Names w → (node ticket : ℕ) (request : Request) → May w node (Begins ticket request) →
    Fresh w (record { node = node; incarnation = (w.actors node).incarnation; ticket = ticket }) (id_in request) (after w node (Begins ticket request))
fresh_begun w names node ticket request may =
    let name : Name = record { node = node; incarnation = (w.actors node).incarnation; ticket = ticket } in
    let here = actor_here w node (Begins ticket request) in
    let is_next : ticket ≡ (w.actors node).ticket = may.needs.next in
    record {
      votes = λ c is_in. is_in;
      asks = λ sender other is_in. absurd (not_given (w.actors node) ticket (names.asked sender other name is_in) is_next);
      tells = λ teller told is_in place vote voted. let a = names.told teller name told is_in in absurd
          (not_given (w.actors node) ticket (names.asked a.sender a.id name a.sent) is_next);
      about = subst (IsAbout name (id_in request)) (sym here) (λ same waiting is_in is. elim (in_either waiting (w.actors node).waiting _ is_in) [
        | inl old ↦ absurd (let below = names.tickets node waiting old in omega (arith, below, is, is_next))
        | inr new ↦ of_only (λ (x : Waiting). id_in x.request ≡ id_in request) _ waiting refl new
      ]);
      named = subst (λ (a : Actor). WasNamed a name) (sym here) (inr (refl, omega (arith, is_next)));
    }
  where
    not_given : (a : Actor) (ticket : ℕ) → WasNamed a (record { node = node; incarnation = a.incarnation; ticket = ticket }) → ticket ≡ a.ticket → ⊥
    not_given a ticket (inl before) is = omega (arith, before)
    not_given a ticket (inr now) is = let below = now.1 in omega (arith, below, is)
