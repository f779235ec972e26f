-- Every world that is reached keeps the rules of the synod in each slot.
use Rattle.std.proofs.Common.{◌≡◌, ◌⊎◌, ℕ, ◌<◌, ◌≤◌, Bool, true, false, List, [], ◌∷◌, Option, Some, None, refl, sym, ◌∙◌, ap, subst, inl, inr, arith}
use Rattle.mc_model.specs.message.Decree.{Decree}
use Rattle.mc_model.specs.synod.Lists.{In}
use Rattle.mc_model.specs.synod.Ballot.{proposer_of, incarnation_in}
use Rattle.mc_model.specs.synod.OneSlot.{Vote, vote_at, IsOfHighest, IsJustified, IsSound, Reaches}
use Rattle.mc_model.specs.synod.Packet.{Slot, slot_at, Name, TopVote, Packet, Prepare, Promise, Propose, Voted, Refused, Ask, Tell}
use Rattle.mc_model.specs.synod.Acceptor.{SlotRecord, Records, IsTop, after_promise, after_vote}
use Rattle.mc_model.specs.node.Actor.{Actor}
use Rattle.mc_model.specs.node.Act.{Act, Receives, Promises, Votes, Refuses, Tells, Prepares, Proposes, Asks, Restarts}
use Rattle.mc_model.specs.node.Effect.{records_by, actor_by, if_sent}
use Rattle.mc_model.specs.cluster.World.{World, Cast, cast, May, after, votes_by, sent_by, start}
use Rattle.mc_model.specs.cluster.Loose.{MayLoosely}
use Rattle.mc_parts.proofs.Membership.{in_either, with_here}
use Rattle.mc_laws.proofs.invariant.Growth.{Grows, grows, grows_loosely, IsNew, records_after, changed_cases, later, same_life, changed_here}

-- ---- what holds of each packet

pub record PromiseFits (w : World) (acceptor : ℕ) (slot : Slot) (ballot : ℕ) (report : Option Vote) : Type 0 where
  pub bound : ballot ≤ (w.records acceptor slot).promised
  pub kept : (vote : Vote) → In (cast acceptor slot vote) w.votes → vote.ballot < ballot → Reaches report vote.ballot
  pub honest : (vote : Vote) → report ≡ Some vote → In (cast acceptor slot vote) w.votes × (vote.ballot < ballot)

pub record ProposeFits (w : World) (sender : ℕ) (slot : Slot) (vote : Vote) : Type 0 where
  pub proposer : proposer_of vote.ballot ≡ sender
  pub lived : incarnation_in vote.ballot ≤ (w.actors sender).incarnation
  pub justified : IsJustified w.nodes (λ acceptor report. In (Promise acceptor slot vote.ballot report) w.packets) vote.chain

abbrev pub Fits : World → Packet → Type 0
Fits w (Prepare sender slot ballot) = Unit {0}
Fits w (Promise sender slot ballot report) = PromiseFits w sender slot ballot report
Fits w (Propose sender slot vote) = ProposeFits w sender slot vote
Fits w (Voted sender slot vote) = In (cast sender slot vote) w.votes
Fits w (Refused sender slot ballot promised) = Unit {0}
Fits w (Ask sender id name) = Unit {0}
Fits w (Tell sender name told) = Unit {0}

-- ---- what holds of a world

-- a record keeps a vote: it has one that is not below it
pub record KeepsVote (r : SlotRecord) (vote : Vote) : Type 0 where
  pub held : Vote
  pub holds : r.vote ≡ Some held
  pub above : vote.ballot ≤ held.ballot

pub record HoldsVote (w : World) (acceptor : ℕ) (slot : Slot) (vote : Vote) : Type 0 where
  pub voted : In (cast acceptor slot vote) w.votes
  pub within : vote.ballot ≤ (w.records acceptor slot).promised

pub record WasProposed (w : World) (slot : Slot) (vote : Vote) : Type 0 where
  pub sender : ℕ
  pub sent : In (Propose sender slot vote) w.packets

pub record Keeps (w : World) : Type 0 where
  pub records : (c : Cast) → In c w.votes → KeepsVote (w.records c.acceptor c.slot) c.vote
  pub held : (acceptor : ℕ) (slot : Slot) (vote : Vote) → (w.records acceptor slot).vote ≡ Some vote → HoldsVote w acceptor slot vote
  pub proposed : (c : Cast) → In c w.votes → WasProposed w c.slot c.vote
  pub fits : (packet : Packet) → In packet w.packets → Fits w packet
  pub sent : (node : ℕ) (slot : Slot) (vote : Vote) → In (Propose node slot vote) w.packets →
      incarnation_in vote.ballot ≡ (w.actors node).incarnation →
      In (Propose node slot vote) (w.actors node).sent
  pub single : (slot : Slot) (m n : ℕ) (one other : Vote) → In (Propose m slot one) w.packets → In (Propose n slot other) w.packets →
      one.ballot ≡ other.ballot →
      one.chain ≡ other.chain
  pub received : (node : ℕ) (packet : Packet) → In packet (w.actors node).received → In packet w.packets

-- ---- old packets still fit

pub carried_more : (P Q : ℕ → Option Vote → Type 0) (chain : List Decree) →
    ((acceptor : ℕ) (report : Option Vote) → P acceptor report → Q acceptor report) → (highest : Option Vote) →
    IsOfHighest P chain highest →
    IsOfHighest Q chain highest
carried_more P Q chain more None carried = carried
carried_more P Q chain more (Some top) carried = (carried.0, (carried.1.0, more carried.1.0 (Some top) carried.1.1))

abbrev pub justified_more : (nodes : ℕ) (P Q : ℕ → Option Vote → Type 0) (chain : List Decree) →
    ((acceptor : ℕ) (report : Option Vote) → P acceptor report → Q acceptor report) → IsJustified nodes P chain →
    IsJustified nodes Q chain
justified_more nodes P Q chain more j = record {
  highest = j.highest;
  majority = record {
    test = j.majority.test;
    most = j.majority.most;
    each = λ node least most passes.
        let r = j.majority.each node least most passes in
        record { report = r.report; made = more node r.report r.made; within = r.within };
  };
  carried = carried_more P Q chain more j.highest j.carried;
}

fits_still : (w v : World) → Grows w v → (packet : Packet) → Fits w packet → Fits v packet
fits_still w v grown (Prepare sender slot ballot) fits = tt
fits_still w v grown (Promise sender slot ballot report) fits = record {
  bound = let more = grown.promised sender slot in let bound : ballot ≤ (w.records sender slot).promised = fits.bound in omega (arith, more, bound);
  kept = λ vote is_in below. elim (grown.late (cast sender slot vote) is_in) [
    | inl old ↦ fits.kept vote old below
    | inr above ↦ absurd (omega (arith, above, below, fits.bound))
  ];
  honest = λ vote is. let h = fits.honest vote is in (grown.votes (cast sender slot vote) h.0, h.1);
}
fits_still w v grown (Propose sender slot vote) fits = record {
  proposer = fits.proposer;
  lived = let more = grown.incarnations sender in omega (arith, more, fits.lived);
  justified = subst (λ (n : ℕ). IsJustified n (λ acceptor report. In (Promise acceptor slot vote.ballot report) v.packets) vote.chain)
      (sym grown.nodes) (justified_more w.nodes (λ acceptor report. In (Promise acceptor slot vote.ballot report) w.packets)
      (λ acceptor report. In (Promise acceptor slot vote.ballot report) v.packets) vote.chain
      (λ acceptor report. grown.packets (Promise acceptor slot vote.ballot report)) fits.justified);
}
fits_still w v grown (Voted sender slot vote) fits = grown.votes (cast sender slot vote) fits
fits_still w v grown (Refused sender slot ballot promised) fits = tt
fits_still w v grown (Ask sender id name) fits = tt
fits_still w v grown (Tell sender name told) fits = tt

-- ---- the record that a node has after its own act

promise_here : (w : World) (node : ℕ) (slot : Slot) (ballot : ℕ) (sent : Bool) →
    (after w node (Promises slot ballot sent)).records node slot ≡ after_promise (w.records node slot) ballot
promise_here w node slot ballot sent =
    ap (λ (r : Records). r slot) (changed_here w.records node (records_by (w.records node) (Promises slot ballot sent))) ∙ with_here
    (w.records node) slot (after_promise (w.records node slot) ballot)

-- ---- the packet that an act sends

abbrev pub IsSent : World → ℕ → Act → Packet → Type 0
IsSent w node (Promises slot ballot sent) packet = packet ≡ Promise node slot ballot (w.records node slot).vote
IsSent w node (Votes slot vote sent) packet = packet ≡ Voted node slot vote
IsSent w node (Refuses slot ballot) packet = packet ≡ Refused node slot ballot (w.records node slot).promised
IsSent w node (Tells id name told) packet = packet ≡ Tell node name told
IsSent w node (Prepares slot ballot chain) packet = packet ≡ Prepare node slot ballot
IsSent w node (Proposes slot vote) packet = packet ≡ Propose node slot vote
IsSent w node (Asks id ticket) packet = packet ≡ Ask node id (record { node = node; incarnation = (w.actors node).incarnation; ticket = ticket })
IsSent w node act packet = ⊥

only : {A : Type 0} (x y : A) → In x (y ∷ []) → x ≡ y
only x y (inl same) = same
only x y (inr none) = absurd none

only_if : (sent : Bool) (x y : Packet) → In x (if_sent sent y) → x ≡ y
only_if true x y is_in = only x y is_in
only_if false x y is_in = absurd is_in

pub sent_is : (w : World) (node : ℕ) (act : Act) (packet : Packet) → In packet (sent_by w node act) → IsSent w node act packet
sent_is w node (Promises slot ballot sent) packet is_in = only_if sent packet _ is_in
sent_is w node (Votes slot vote sent) packet is_in = only_if sent packet _ is_in
sent_is w node (Refuses slot ballot) packet is_in = only packet _ is_in
sent_is w node (Tells id name told) packet is_in = only packet _ is_in
sent_is w node (Prepares slot ballot chain) packet is_in = only packet _ is_in
sent_is w node (Proposes slot vote) packet is_in = only packet _ is_in
sent_is w node (Asks id ticket) packet is_in = only packet _ is_in
sent_is w node act packet is_in = absurd is_in

-- a promise reports the vote of the record, which is the highest so far and below the ballot
reaches : (report : Option Vote) (held : Vote) (ballot : ℕ) → report ≡ Some held → ballot ≤ held.ballot → Reaches report ballot
reaches report held ballot is above = subst (λ (r : Option Vote). Reaches r ballot) (sym is) above

promise_fits : (w : World) → Keeps w → (node : ℕ) (slot : Slot) (ballot : ℕ) (sent : Bool) → (w.records node slot).promised < ballot →
    PromiseFits (after w node (Promises slot ballot sent)) node slot ballot (w.records node slot).vote
promise_fits w keeps node slot ballot sent below = record {
  bound = subst (λ (r : SlotRecord). ballot ≤ r.promised) (sym (promise_here w node slot ballot sent)) (omega arith);
  kept = λ vote is_in lower.
      let k = keeps.records (cast node slot vote) is_in in
      reaches (w.records node slot).vote k.held vote.ballot k.holds k.above;
  honest = λ vote is. let h = keeps.held node slot vote is in (h.voted, omega (arith, h.within, below));
}

propose_fits : (w : World) (node : ℕ) (slot : Slot) (vote : Vote) → MayLoosely w node (Proposes slot vote) →
    ProposeFits (after w node (Proposes slot vote)) node slot vote
propose_fits w node slot vote may = record {
  proposer = may.needs.proposer;
  lived = subst (λ (n : ℕ). incarnation_in vote.ballot ≤ n)
      (ap (λ (a : Actor). a.incarnation) (sym (changed_here w.actors node (actor_by node (w.actors node) (Proposes slot vote)))))
      (let same : incarnation_in vote.ballot ≡ (w.actors node).incarnation = may.needs.incarnation in omega (arith, same));
  justified = justified_more w.nodes (λ acceptor report. In (Promise acceptor slot vote.ballot report) w.packets)
      (λ acceptor report. In (Promise acceptor slot vote.ballot report) (after w node (Proposes slot vote)).packets) vote.chain
      (λ acceptor report is_in. inr is_in) may.needs.justified;
}

fits_new : (w : World) → Keeps w → (node : ℕ) (act : Act) → MayLoosely w node act → (packet : Packet) → IsSent w node act packet → Fits (after w node act) packet
fits_new w keeps node (Promises slot ballot sent) may packet is =
    subst (λ (p : Packet). Fits (after w node (Promises slot ballot sent)) p) (sym is) (promise_fits w keeps node slot ballot sent may.needs)
fits_new w keeps node (Votes slot vote sent) may packet is =
    subst (λ (p : Packet). Fits (after w node (Votes slot vote sent)) p) (sym is) (inl refl)
fits_new w keeps node (Proposes slot vote) may packet is =
    subst (λ (p : Packet). Fits (after w node (Proposes slot vote)) p) (sym is) (propose_fits w node slot vote may)
fits_new w keeps node (Refuses slot ballot) may packet is = subst (λ (p : Packet). Fits (after w node (Refuses slot ballot)) p) (sym is) tt
fits_new w keeps node (Tells id name told) may packet is = subst (λ (p : Packet). Fits (after w node (Tells id name told)) p) (sym is) tt
fits_new w keeps node (Prepares slot ballot chain) may packet is = subst (λ (p : Packet). Fits (after w node (Prepares slot ballot chain)) p) (sym is) tt
fits_new w keeps node (Asks id ticket) may packet is = subst (λ (p : Packet). Fits (after w node (Asks id ticket)) p) (sym is) tt
fits_new w keeps node act may packet is = absurd is

fits_after : (w : World) → Keeps w → (node : ℕ) (act : Act) → MayLoosely w node act → (packet : Packet) → In packet (after w node act).packets →
    Fits (after w node act) packet
fits_after w keeps node act may packet is_in = elim (in_either packet (sent_by w node act) w.packets is_in) [
  | inl new ↦ fits_new w keeps node act may packet (sent_is w node act packet new)
  | inr old ↦ fits_still w (after w node act) (grows_loosely w node act may) packet (keeps.fits packet old)
]

-- ---- records and votes

-- what a record keeps it keeps when it is made new
keeps_new : (w : World) → Keeps w → (node : ℕ) (act : Act) → MayLoosely w node act → (slot : Slot) (new : SlotRecord) →
    IsNew (w.records node) act slot new → (vote : Vote) → In (cast node slot vote) w.votes →
    KeepsVote new vote
keeps_new w keeps node (Promises slot ballot sent) may other new is vote is_in =
    let k = keeps.records (cast node other vote) is_in in
    record { held = k.held; holds = ap (λ (r : SlotRecord). r.vote) is.1 ∙ ap (λ (s : Slot). (w.records node s).vote) (sym is.0) ∙ k.holds; above = k.above }
keeps_new w keeps node (Votes slot voted sent) may other new is vote is_in =
    let k = keeps.records (cast node other vote) is_in in
    let h = keeps.held node other k.held k.holds in
    let may_vote : (w.records node slot).promised ≤ voted.ballot = may.needs.0 in
    let same : (w.records node other).promised ≡ (w.records node slot).promised = ap (λ (s : Slot). (w.records node s).promised) is.0 in
    record { held = voted; holds = ap (λ (r : SlotRecord). r.vote) is.1; above = omega (arith, k.above, h.within, may_vote, same) }
keeps_new w keeps node act may other new is vote is_in = absurd is

same_record : (r s : SlotRecord) (vote : Vote) → s ≡ r → KeepsVote r vote → KeepsVote s vote
same_record r s vote same k = record { held = k.held; holds = ap (λ (x : SlotRecord). x.vote) same ∙ k.holds; above = k.above }

old_kept : (w : World) → Keeps w → (node : ℕ) (act : Act) → MayLoosely w node act → (c : Cast) → In c w.votes →
    KeepsVote ((after w node act).records c.acceptor c.slot) c.vote
old_kept w keeps node act may c is_in = elim (records_after w node act c.acceptor c.slot) [
  | inl same ↦ same_record (w.records c.acceptor c.slot) _ c.vote same (keeps.records c is_in)
  | inr new ↦ keeps_new w keeps node act may c.slot _ new.is_new c.vote (subst (λ (n : ℕ). In (cast n c.slot c.vote) w.votes) new.node_is is_in)
]

vote_here : (w : World) (node : ℕ) (slot : Slot) (vote : Vote) (sent : Bool) → (after w node (Votes slot vote sent)).records node slot ≡ after_vote vote
vote_here w node slot vote sent =
    ap (λ (r : Records). r slot) (changed_here w.records node (records_by (w.records node) (Votes slot vote sent))) ∙ with_here
    (w.records node) slot (after_vote vote)

-- the vote that an act saves
abbrev pub IsCast : ℕ → Act → Cast → Type 0
IsCast node (Votes slot vote sent) c = c ≡ cast node slot vote
IsCast node act c = ⊥

pub cast_is : (node : ℕ) (act : Act) (c : Cast) → In c (votes_by node act) → IsCast node act c
cast_is node (Votes slot vote sent) c is_in = only c (cast node slot vote) is_in
cast_is node act c is_in = absurd is_in

-- what is known of the one vote that an act saves, for every vote that it saves
new_cast : (w : World) (node : ℕ) (act : Act) (P : Cast → Type 0) →
    ((slot : Slot) (vote : Vote) (sent : Bool) → act ≡ Votes slot vote sent → P (cast node slot vote)) → (c : Cast) → IsCast node act c →
    P c
new_cast w node (Votes slot vote sent) P each c is = subst P (sym is) (each slot vote sent refl)
new_cast w node act P each c is = absurd is

records_kept : (w : World) → Keeps w → (node : ℕ) (act : Act) → MayLoosely w node act → (c : Cast) → In c (after w node act).votes →
    KeepsVote ((after w node act).records c.acceptor c.slot) c.vote
records_kept w keeps node act may c is_in = elim (in_either c (votes_by node act) w.votes is_in) [
  | inl new ↦ new_cast w node act (λ (x : Cast). KeepsVote ((after w node act).records x.acceptor x.slot) x.vote)
      (λ slot vote sent is. subst (λ (a : Act). KeepsVote ((after w node a).records node slot) vote) (sym is)
      (same_record (after_vote vote) _ vote (vote_here w node slot vote sent)
      (record { held = vote; holds = refl; above = omega arith }))) c (cast_is node act c new)
  | inr old ↦ old_kept w keeps node act may c old
]

-- a record that an act makes new holds a vote that was saved
held_new : (w : World) → Keeps w → (node : ℕ) (act : Act) → MayLoosely w node act → (slot : Slot) (new : SlotRecord) →
    IsNew (w.records node) act slot new → (vote : Vote) → new.vote ≡ Some vote →
    In (cast node slot vote) (after w node act).votes × (vote.ballot ≤ new.promised)
held_new w keeps node (Promises slot ballot sent) may other new is vote holds =
    let before : (w.records node other).vote ≡ Some vote = ap (λ (s : Slot). (w.records node s).vote) is.0 ∙ sym
    (ap (λ (r : SlotRecord). r.vote) is.1) ∙ holds in
    let h = keeps.held node other vote before in
    let below : (w.records node slot).promised < ballot = may.needs in
    let same : (w.records node other).promised ≡ (w.records node slot).promised = ap (λ (s : Slot). (w.records node s).promised) is.0 in
    let promised : new.promised ≡ ballot = ap (λ (r : SlotRecord). r.promised) is.1 in
    (h.voted, omega (arith, h.within, below, same, promised))
held_new w keeps node (Votes slot voted sent) may other new is vote holds =
    let same : Some voted ≡ Some vote = sym (ap (λ (r : SlotRecord). r.vote) is.1) ∙ holds in
    let votes : voted ≡ vote = cc in
    let promised : new.promised ≡ voted.ballot = ap (λ (r : SlotRecord). r.promised) is.1 in (
      inl (λ i. cast node (is.0 i) (sym votes i)),
      let ballots : voted.ballot ≡ vote.ballot = ap (λ (v : Vote). v.ballot) votes in
          omega (arith, promised, ballots),
    )
held_new w keeps node act may other new is vote holds = absurd is

held_after : (w : World) → Keeps w → (node : ℕ) (act : Act) → MayLoosely w node act → (other : ℕ) (slot : Slot) (vote : Vote) →
    ((after w node act).records other slot).vote ≡ Some vote →
    HoldsVote (after w node act) other slot vote
held_after w keeps node act may other slot vote holds =
    let grown = grows_loosely w node act may in
    elim (records_after w node act other slot) [
      | inl same ↦
          let h = keeps.held other slot vote (sym (ap (λ (r : SlotRecord). r.vote) same) ∙ holds) in
          let more = grown.promised other slot in
          record { voted = grown.votes (cast other slot vote) h.voted; within = omega (arith, h.within, more) }
      | inr new ↦
          let h = held_new w keeps node act may slot _ new.is_new vote holds in
          record { voted = subst (λ (n : ℕ). In (cast n slot vote) (after w node act).votes) (sym new.node_is) h.0; within = h.1 }
    ]

proposed_after : (w : World) → Keeps w → (node : ℕ) (act : Act) → MayLoosely w node act → (c : Cast) → In c (after w node act).votes →
    WasProposed (after w node act) c.slot c.vote
proposed_after w keeps node act may c is_in =
    let grown = grows_loosely w node act may in
    elim (in_either c (votes_by node act) w.votes is_in) [
      | inl new ↦ new_cast w node act (λ (x : Cast). WasProposed (after w node act) x.slot x.vote) (λ slot vote sent is.
          let m : MayLoosely w node (Votes slot vote sent) = subst (MayLoosely w node) is may in
          record { sender = m.needs.1; sent = grown.packets _ (keeps.received node _ m.needs.2) }) c (cast_is node act c new)
      | inr old ↦ let p = keeps.proposed c old in record { sender = p.sender; sent = grown.packets _ p.sent }
    ]

-- ---- proposals

-- an act that sends a Propose proposes it
pub record Proposing (node : ℕ) (act : Act) (sender : ℕ) (slot : Slot) (vote : Vote) : Type 0 where
  pub by : act ≡ Proposes slot vote
  pub sender_is : sender ≡ node

pub proposing : (w : World) (node : ℕ) (act : Act) (sender : ℕ) (slot : Slot) (vote : Vote) → IsSent w node act (Propose sender slot vote) →
    Proposing node act sender slot vote
proposing w node (Proposes other voted) sender slot vote is = record { by = cc; sender_is = cc }
proposing w node (Promises other ballot sent) sender slot vote is = cc
proposing w node (Votes other voted sent) sender slot vote is = cc
proposing w node (Refuses other ballot) sender slot vote is = cc
proposing w node (Tells id name told) sender slot vote is = cc
proposing w node (Prepares other ballot chain) sender slot vote is = cc
proposing w node (Asks id ticket) sender slot vote is = cc
proposing w node act sender slot vote is = absurd is

pub proposal_cases : (w : World) (node : ℕ) (act : Act) (sender : ℕ) (slot : Slot) (vote : Vote) →
    In (Propose sender slot vote) (after w node act).packets →
    Proposing node act sender slot vote ⊎ In (Propose sender slot vote) w.packets
proposal_cases w node act sender slot vote is_in = elim (in_either (Propose sender slot vote) (sent_by w node act) w.packets is_in) [
  | inl new ↦ inl (proposing w node act sender slot vote (sent_is w node act _ new))
  | inr old ↦ inr old
]

-- an older incarnation sent it, or this one and the actor has it
sent_here : (w : World) → Keeps w → (node : ℕ) (act : Act) (slot : Slot) (vote : Vote) → In (Propose node slot vote) w.packets →
    incarnation_in vote.ballot ≡ (actor_by node (w.actors node) act).incarnation →
    In (Propose node slot vote) (actor_by node (w.actors node) act).sent
sent_here w keeps node act slot vote is_in same =
    let fits : ProposeFits w node slot vote = keeps.fits (Propose node slot vote) is_in in
    let more = later node (w.actors node) act in
    let now : incarnation_in vote.ballot ≡ (w.actors node).incarnation = omega (arith, fits.lived, same, more) in
    (same_life node (w.actors node) act (sym same ∙ now)).sent (Propose node slot vote) (keeps.sent node slot vote is_in now)

sent_proposed : (w : World) (node : ℕ) (act : Act) (slot : Slot) (vote : Vote) → act ≡ Proposes slot vote →
    In (Propose node slot vote) (actor_by node (w.actors node) act).sent
sent_proposed w node act slot vote is = subst (λ (a : Act). In (Propose node slot vote) (actor_by node (w.actors node) a).sent) (sym is) (inl refl)

-- at the node that did the act
sent_by_node : (w : World) → Keeps w → (node : ℕ) (act : Act) (slot : Slot) (vote : Vote) →
    In (Propose node slot vote) (after w node act).packets → incarnation_in vote.ballot ≡ (actor_by node (w.actors node) act).incarnation →
    In (Propose node slot vote) (actor_by node (w.actors node) act).sent
sent_by_node w keeps node act slot vote is_in same = elim (proposal_cases w node act node slot vote is_in) [
  | inl new ↦ sent_proposed w node act slot vote new.by
  | inr old ↦ sent_here w keeps node act slot vote old same
]

sent_after : (w : World) → Keeps w → (node : ℕ) (act : Act) (other : ℕ) (slot : Slot) (vote : Vote) →
    In (Propose other slot vote) (after w node act).packets → incarnation_in vote.ballot ≡ ((after w node act).actors other).incarnation →
    In (Propose other slot vote) ((after w node act).actors other).sent
sent_after w keeps node act other slot vote is_in same = elim (changed_cases w.actors node (actor_by node (w.actors node) act) other) [
  | inl here ↦
      let mine : In (Propose node slot vote) (after w node act).packets = subst (λ (n : ℕ). In (Propose n slot vote) (after w node act).packets) here.0 is_in in
      let life : incarnation_in vote.ballot ≡ (actor_by node (w.actors node) act).incarnation = same ∙ ap (λ (a : Actor). a.incarnation) here.1 in
      subst (λ (a : Actor). In (Propose other slot vote) a.sent) (sym here.1)
      (subst (λ (n : ℕ). In (Propose n slot vote) (actor_by node (w.actors node) act).sent) (sym here.0)
      (sent_by_node w keeps node act slot vote mine life))
  | inr elsewhere ↦
      subst (λ (a : Actor). In (Propose other slot vote) a.sent) (sym elsewhere) (elim (proposal_cases w node act other slot vote is_in) [
        | inl new ↦ subst (λ (a : Actor). In (Propose other slot vote) a.sent) elsewhere
            (subst (λ (a : Actor). In (Propose other slot vote) a.sent) (sym (at_node w node act other new.sender_is))
            (subst (λ (n : ℕ). In (Propose n slot vote) (actor_by node (w.actors node) act).sent) (sym new.sender_is)
            (sent_proposed w node act slot vote new.by)))
        | inr old ↦ keeps.sent other slot vote old (same ∙ ap (λ (a : Actor). a.incarnation) elsewhere)
      ])
]
  where
    at_node : (w : World) (node : ℕ) (act : Act) (other : ℕ) → other ≡ node → (after w node act).actors other ≡ actor_by node (w.actors node) act
    at_node w node act other is = ap (after w node act).actors is ∙ changed_here w.actors node (actor_by node (w.actors node) act)

-- a new proposal and an old one at one ballot are of one actor, which proposes once at a ballot
single_new : (w : World) → Keeps w → (node : ℕ) (act : Act) → MayLoosely w node act → (slot : Slot) (n : ℕ) (one other : Vote) →
    act ≡ Proposes slot one → In (Propose n slot other) w.packets → one.ballot ≡ other.ballot →
    one.chain ≡ other.chain
single_new w keeps node act may slot n one other is old same =
    let m : MayLoosely w node (Proposes slot one) = subst (MayLoosely w node) is may in
    let fits : ProposeFits w n slot other = keeps.fits (Propose n slot other) old in
    let proposer : proposer_of one.ballot ≡ node = m.needs.proposer in
    let sender : n ≡ node = sym fits.proposer ∙ ap proposer_of (sym same) ∙ proposer in
    let mine : In (Propose node slot other) w.packets = subst (λ (x : ℕ). In (Propose x slot other) w.packets) sender old in
    let incarnation : incarnation_in one.ballot ≡ (w.actors node).incarnation = m.needs.incarnation in
    let sent : In (Propose node slot other) (w.actors node).sent = keeps.sent node slot other mine (ap incarnation_in (sym same) ∙ incarnation) in
    absurd (m.needs.once other.chain (subst (λ (b : ℕ). In (Propose node slot (vote_at b other.chain)) (w.actors node).sent) (sym same) sent))

same_act : (one other : Vote) (slot : Slot) → Proposes slot one ≡ Proposes slot other → one.chain ≡ other.chain
same_act one other slot same = let votes : one ≡ other = cc in ap (λ (v : Vote). v.chain) votes

single_after : (w : World) → Keeps w → (node : ℕ) (act : Act) → MayLoosely w node act → (slot : Slot) (m n : ℕ) (one other : Vote) →
    In (Propose m slot one) (after w node act).packets → In (Propose n slot other) (after w node act).packets → one.ballot ≡ other.ballot →
    one.chain ≡ other.chain
single_after w keeps node act may slot m n one other in_one in_other same =
    elim (proposal_cases w node act m slot one in_one) [
      | inl new ↦ elim (proposal_cases w node act n slot other in_other) [
        | inl again ↦ same_act one other slot (sym new.by ∙ again.by)
        | inr old ↦ single_new w keeps node act may slot n one other new.by old same
      ]
      | inr old ↦ elim (proposal_cases w node act n slot other in_other) [
        | inl new ↦ sym (single_new w keeps node act may slot m other one new.by old (sym same))
        | inr both ↦ keeps.single slot m n one other old both same
      ]
    ]

-- ---- what was received was sent

heard : (w : World) → Keeps w → (node : ℕ) (act : Act) → MayLoosely w node act → (packet : Packet) →
    In packet (actor_by node (w.actors node) act).received →
    In packet w.packets
heard w keeps node (Receives new) may packet (inl same) = subst (λ (p : Packet). In p w.packets) (sym same) may.needs
heard w keeps node (Receives new) may packet (inr old) = keeps.received node packet old
heard w keeps node (Restarts lost serial) may packet is_in = absurd is_in
heard w keeps node act may packet is_in = keeps.received node packet is_in

received_after : (w : World) → Keeps w → (node : ℕ) (act : Act) → MayLoosely w node act → (other : ℕ) (packet : Packet) →
    In packet ((after w node act).actors other).received →
    In packet (after w node act).packets
received_after w keeps node act may other packet is_in =
    (grows_loosely w node act may).packets packet (elim (changed_cases w.actors node (actor_by node (w.actors node) act) other) [
      | inl here ↦ heard w keeps node act may packet (subst (λ (a : Actor). In packet a.received) here.1 is_in)
      | inr elsewhere ↦ keeps.received other packet (subst (λ (a : Actor). In packet a.received) elsewhere is_in)
    ])

-- ---- every world that is reached

pub keeps_after : (w : World) → Keeps w → (node : ℕ) (act : Act) → MayLoosely w node act → Keeps (after w node act)
keeps_after w keeps node act may = record {
  records = records_kept w keeps node act may;
  held = held_after w keeps node act may;
  proposed = proposed_after w keeps node act may;
  fits = fits_after w keeps node act may;
  sent = sent_after w keeps node act;
  single = single_after w keeps node act may;
  received = received_after w keeps node act may;
}

pub keeps_start : (nodes : ℕ) (serials : ℕ → ℕ) → Keeps (start nodes serials)
keeps_start nodes serials = record {
  records = λ c is_in. absurd is_in;
  held = λ acceptor slot vote is. cc;
  proposed = λ c is_in. absurd is_in;
  fits = λ packet is_in. absurd is_in;
  sent = λ node slot vote is_in same. absurd is_in;
  single = λ slot m n one other in_one in_other same. absurd in_one;
  received = λ node packet is_in. absurd is_in;
}

-- ---- what acceptors told

-- what was told was voted for
abbrev pub ToldVotes : World → Type 0
ToldVotes w = (sender : ℕ) (name : Name) (told : TopVote) → In (Tell sender name (Some told)) w.packets →
    In (cast sender (slot_at told.id told.place) told.vote) w.votes

-- what an acceptor tells of it voted for
told_cast : (w : World) → Keeps w → (node id : ℕ) (told : TopVote) → IsTop (w.records node) id told →
    In (cast node (slot_at told.id told.place) told.vote) w.votes
told_cast w keeps node id told top =
    subst (λ (i : ℕ). In (cast node (slot_at i told.place) told.vote) w.votes) (sym top.about)
    (keeps.held node (slot_at id told.place) told.vote top.voted).voted

told_new : (w : World) → Keeps w → (node : ℕ) (act : Act) → May w node act → (sender : ℕ) (name : Name) (told : TopVote) →
    IsSent w node act (Tell sender name (Some told)) →
    In (cast sender (slot_at told.id told.place) told.vote) w.votes
told_new w keeps node (Tells id other None) may sender name told is = cc
told_new w keeps node (Tells id other (Some top)) may sender name told is =
    let told_is : told ≡ top = cc in
    let sender_is : sender ≡ node = cc in
    subst (λ (t : TopVote). In (cast sender (slot_at t.id t.place) t.vote) w.votes) (sym told_is)
    (subst (λ (n : ℕ). In (cast n (slot_at top.id top.place) top.vote) w.votes) (sym sender_is) (told_cast w keeps node id top may.needs.told_is))
told_new w keeps node (Promises slot ballot sent) may sender name told is = cc
told_new w keeps node (Votes slot vote sent) may sender name told is = cc
told_new w keeps node (Refuses slot ballot) may sender name told is = cc
told_new w keeps node (Prepares slot ballot chain) may sender name told is = cc
told_new w keeps node (Proposes slot vote) may sender name told is = cc
told_new w keeps node (Asks id ticket) may sender name told is = cc
told_new w keeps node act may sender name told is = absurd is

pub told_votes_after : (w : World) → Keeps w → ToldVotes w → (node : ℕ) (act : Act) → May w node act → ToldVotes (after w node act)
told_votes_after w keeps votes node act may sender name told is_in =
    (grows w node act may).votes _ (elim (in_either (Tell sender name (Some told)) (sent_by w node act) w.packets is_in) [
      | inl new ↦ told_new w keeps node act may sender name told (sent_is w node act _ new)
      | inr old ↦ votes sender name told old
    ])

-- ---- so the rules of the synod hold in each slot

pub sound : (w : World) → Keeps w → (slot : Slot) →
    IsSound w.nodes (λ acceptor vote. In (cast acceptor slot vote) w.votes)
    (λ acceptor ballot report. In (Promise acceptor slot ballot report) w.packets) (λ vote. WasProposed w slot vote)
sound w keeps slot = record {
  proposed = λ acceptor vote is_in. keeps.proposed (cast acceptor slot vote) is_in;
  single = λ ballot one other first second. keeps.single slot first.sender second.sender (vote_at ballot one)
      (vote_at ballot other) first.sent second.sent refl;
  kept = λ acceptor ballot report vote promised voted below. let fits : PromiseFits w acceptor slot ballot report = keeps.fits
      (Promise acceptor slot ballot report) promised in fits.kept vote voted below;
  honest = λ acceptor ballot vote promised. let fits : PromiseFits w acceptor slot ballot (Some vote) = keeps.fits
      (Promise acceptor slot ballot (Some vote)) promised in fits.honest vote refl;
  justified = λ vote proposed. let fits : ProposeFits w proposed.sender slot vote = keeps.fits
      (Propose proposed.sender slot vote) proposed.sent in fits.justified;
}
