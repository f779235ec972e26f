-- Behind each deletion stands a cancel_sm.
use Rattle.std.proofs.Common.{◌≡◌, ◌⊎◌, ℕ, Bool, true, false, List, [], ◌∷◌, Option, Some, None, refl, sym, ◌∙◌, ap, subst, inl, inr}
use Rattle.std.specs.Prelude.{◌==◌, if◌then◌else◌}
use Rattle.std.proofs.lemmas.Bool.{eqb-true}
use Rattle.mc_model.specs.message.Submission.{Submission}
use Rattle.mc_model.specs.message.Decree.{Author, Decree, Kind, Final, Taken, Attempt, Failed, Fate, Told, Delivered, Expired, Deleted, Undeliverable, Rejected}
use Rattle.mc_model.specs.message.Neighbours.{MayFollow}
use Rattle.mc_model.specs.message.Chain.{taken_in, taken_by, final_in, final_by}
use Rattle.mc_model.specs.synod.Lists.{In}
use Rattle.mc_model.specs.synod.OneSlot.{Vote, vote_at, IsOfHighest}
use Rattle.mc_model.specs.synod.Packet.{Slot, slot_of, Promise}
use Rattle.mc_model.specs.node.Actor.{Actor, Waiting}
use Rattle.mc_model.specs.node.Proposal.{Cancels, IsCancelled, Allows, IsNext, IsOwn, IsFree}
use Rattle.mc_model.specs.node.Act.{Act, Proposes, Begins, Settles, Replies, Restarts}
use Rattle.mc_model.specs.node.Effect.{actor_by, settle}
use Rattle.mc_model.specs.cluster.World.{World, Deed, cast, May, IsChosenIn, StandsIn, after, start}
use Rattle.mc_model.specs.cluster.Fate.{deed_by}
use Rattle.mc_model.specs.cluster.Decrees.{CameToCancel, IsDeletion}
use Rattle.mc_parts.proofs.Membership.{in_either, of_only, in_map, in_filter}
use Rattle.mc_parts.proofs.Majorities.{both}
use Rattle.mc_parts.proofs.Fates.{told_ends, told_or_not}
use Rattle.mc_laws.proofs.invariant.Growth.{actors_after}
use Rattle.mc_laws.proofs.invariant.Keeping.{Keeps, WasProposed, PromiseFits, proposal_cases}
use Rattle.mc_laws.proofs.invariant.Agreement.{Chosen, standing}
use Rattle.mc_laws.proofs.invariant.Links.{Links}

-- ---- what holds of a world

abbrev lived_by : ℕ → Actor → Author
lived_by node a = record { node = node; incarnation = a.incarnation }

-- a request that waits came
abbrev pub AllCame : List Deed → ℕ → Actor → Type 0
AllCame past node a = (waiting : Waiting) → In waiting a.waiting → In (deed_by (lived_by node a) (Begins waiting.ticket waiting.request)) past

-- one that is settled was settled
abbrev pub AllSettled : List Deed → ℕ → Actor → Type 0
AllSettled past node a = (waiting : Waiting) → In waiting a.waiting → waiting.settled ≡ true → In (deed_by (lived_by node a) (Settles waiting.ticket)) past

abbrev DeletedBy : List Deed → ℕ → Option Submission → Kind → Type 0
DeletedBy past id None (Fate Deleted error) = ⊥
DeletedBy past id (Some taken) (Fate Deleted error) = CameToCancel past id taken
DeletedBy past id taken kind = Unit {0}

abbrev pub IsAskedFor : List Deed → ℕ → List Decree → Type 0
IsAskedFor past id [] = Unit {0}
IsAskedFor past id (newest ∷ older) = DeletedBy past id (taken_in older) newest.kind

pub record Deletions (w : World) : Type 0 where
  pub came : (node : ℕ) → AllCame w.past node (w.actors node)
  pub settled : (node : ℕ) → AllSettled w.past node (w.actors node)
  pub asked : (slot : Slot) (vote : Vote) → WasProposed w slot vote → IsAskedFor w.past slot.id vote.chain

-- ---- requests that wait

came_by : (w : World) (node : ℕ) (act : Act) → May w node act → AllCame w.past node (w.actors node) →
    AllCame (after w node act).past node (actor_by node (w.actors node) act)
came_by w node (Begins ticket request) may came waiting is_in = elim (in_either waiting (w.actors node).waiting _ is_in) [
  | inl old ↦ inr (came waiting old)
  | inr new ↦ of_only (λ (x : Waiting). In (deed_by (lived_by node (w.actors node)) (Begins x.ticket x.request))
      (after w node (Begins ticket request)).past) _ waiting
      (inl (ap (λ (t : ℕ). deed_by (lived_by node (w.actors node)) (Begins t request)) (sym may.needs.next))) new
]
came_by w node (Settles ticket) may came waiting is_in =
    let m = in_map (settle ticket) (w.actors node).waiting waiting is_in in
    subst (λ (x : Waiting). In (deed_by (lived_by node (w.actors node)) (Begins x.ticket x.request)) (after w node (Settles ticket)).past)
    (sym m.made) (inr (came m.from m.member))
came_by w node (Replies ticket id answer) may came waiting is_in = inr (came waiting (in_filter _ (w.actors node).waiting waiting is_in))
came_by w node (Restarts lost serial) may came waiting is_in = absurd is_in
came_by w node act may came waiting is_in = inr (came waiting is_in)

came_after : (w : World) → Deletions w → (node : ℕ) (act : Act) → May w node act → (other : ℕ) →
    AllCame (after w node act).past other ((after w node act).actors other)
came_after w deletions node act may other = elim (actors_after w node act other) [
  | inl here ↦ subst (AllCame (after w node act).past other) (sym here.actor_is)
      (subst (λ (n : ℕ). AllCame (after w node act).past n (actor_by node (w.actors node) act)) (sym here.node_is)
      (came_by w node act may (deletions.came node)))
  | inr elsewhere ↦ subst (AllCame (after w node act).past other) (sym elsewhere) (λ waiting is_in. inr (deletions.came other waiting is_in))
]

-- what is settled now was settled by this act, or before
settled_now : (past : List Deed) (node : ℕ) (a : Actor) (ticket : ℕ) (from : Waiting) (test : Bool) → (from.ticket == ticket) ≡ test →
    (if test then true else from.settled) ≡ true → (from.settled ≡ true → In (deed_by (lived_by node a) (Settles from.ticket)) past) →
    In (deed_by (lived_by node a) (Settles from.ticket)) (deed_by (lived_by node a) (Settles ticket) ∷ past)
settled_now past node a ticket from true same is before = inl (ap (λ (t : ℕ). deed_by (lived_by node a) (Settles t)) (eqb-true from.ticket ticket same))
settled_now past node a ticket from false other is before = inr (before is)

settled_by : (w : World) (node : ℕ) (act : Act) → AllSettled w.past node (w.actors node) →
    AllSettled (after w node act).past node (actor_by node (w.actors node) act)
settled_by w node (Begins ticket request) settled waiting is_in is = elim (in_either waiting (w.actors node).waiting _ is_in) [
  | inl old ↦ inr (settled waiting old is)
  | inr new ↦ of_only (λ (x : Waiting). x.settled ≡ true → In (deed_by (lived_by node (w.actors node)) (Settles x.ticket))
      (after w node (Begins ticket request)).past) _ waiting (λ clash. absurd cc) new is
]
settled_by w node (Settles ticket) settled waiting is_in is =
    let m = in_map (settle ticket) (w.actors node).waiting waiting is_in in
    subst (λ (x : Waiting). In (deed_by (lived_by node (w.actors node)) (Settles x.ticket)) (after w node (Settles ticket)).past) (sym m.made)
    (settled_now w.past node (w.actors node) ticket m.from (m.from.ticket == ticket) refl
    (ap (λ (x : Waiting). x.settled) (sym m.made) ∙ is) (settled m.from m.member))
settled_by w node (Replies ticket id answer) settled waiting is_in is = inr (settled waiting (in_filter _ (w.actors node).waiting waiting is_in) is)
settled_by w node (Restarts lost serial) settled waiting is_in is = absurd is_in
settled_by w node act settled waiting is_in is = inr (settled waiting is_in is)

settled_after : (w : World) → Deletions w → (node : ℕ) (act : Act) (other : ℕ) → AllSettled (after w node act).past other ((after w node act).actors other)
settled_after w deletions node act other = elim (actors_after w node act other) [
  | inl here ↦ subst (AllSettled (after w node act).past other) (sym here.actor_is)
      (subst (λ (n : ℕ). AllSettled (after w node act).past n (actor_by node (w.actors node) act)) (sym here.node_is)
      (settled_by w node act (deletions.settled node)))
  | inr elsewhere ↦ subst (AllSettled (after w node act).past other) (sym elsewhere) (λ waiting is_in is. inr (deletions.settled other waiting is_in is))
]

-- ---- proposals

asked_more : (past : List Deed) (deed : Deed) (id : ℕ) (taken : Option Submission) (kind : Kind) → DeletedBy past id taken kind →
    DeletedBy (deed ∷ past) id taken kind
asked_more past deed id (Some taken) (Fate Deleted error) c =
    record { deed = c.deed; ticket = c.ticket; request = c.request; came = inr c.came; begins = c.begins; settled = inr c.settled; cancels = c.cancels }
asked_more past deed id None (Fate Deleted error) c = absurd c
asked_more past deed id None (Taken message) c = tt
asked_more past deed id None (Attempt number) c = tt
asked_more past deed id None (Failed error) c = tt
asked_more past deed id None (Fate Delivered error) c = tt
asked_more past deed id None (Fate Expired error) c = tt
asked_more past deed id None (Fate Undeliverable error) c = tt
asked_more past deed id None (Fate Rejected error) c = tt
asked_more past deed id (Some taken) (Taken message) c = tt
asked_more past deed id (Some taken) (Attempt number) c = tt
asked_more past deed id (Some taken) (Failed error) c = tt
asked_more past deed id (Some taken) (Fate Delivered error) c = tt
asked_more past deed id (Some taken) (Fate Expired error) c = tt
asked_more past deed id (Some taken) (Fate Undeliverable error) c = tt
asked_more past deed id (Some taken) (Fate Rejected error) c = tt
asked_more past deed id None Told c = tt
asked_more past deed id (Some taken) Told c = tt

asked_still : (past : List Deed) (deed : Deed) (id : ℕ) (chain : List Decree) → IsAskedFor past id chain → IsAskedFor (deed ∷ past) id chain
asked_still past deed id [] asked = tt
asked_still past deed id (newest ∷ older) asked = asked_more past deed id (taken_in older) newest.kind asked

cancelled : (w : World) → Deletions w → (node id : ℕ) (slot : Slot) (taken : Submission) → slot.id ≡ id →
    IsCancelled (w.actors node) slot.id taken →
    CameToCancel w.past id taken
cancelled w deletions node id slot taken is c = record {
  deed = deed_by (lived_by node (w.actors node)) (Begins c.waiting.ticket c.waiting.request);
  ticket = c.waiting.ticket;
  request = c.waiting.request;
  came = deletions.came node c.waiting c.waits;
  begins = refl;
  settled = deletions.settled node c.waiting c.waits c.settled;
  cancels = subst (λ (i : ℕ). Cancels c.waiting.request i taken) is c.cancels;
}

-- a decree of a node's own deletes a message for which a cancel_sm waits
own_asked : (w : World) → Deletions w →
    (node id : ℕ) (slot : Slot) (home attempts : ℕ) (attempted author : Author) (before moment : ℕ) (taken : Submission) (kind next : Kind) →
    slot.id ≡ id → MayFollow taken home attempts attempted before kind author moment next →
    Allows (w.actors node) slot taken attempted kind next →
    DeletedBy w.past id (Some taken) next
own_asked w deletions node id slot home attempts attempted author before moment taken (Attempt number) (Fate Deleted error) is may allowed = absurd may
own_asked w deletions node id slot home attempts attempted author before moment taken (Taken message) (Fate Deleted error) is may allowed =
    cancelled w deletions node id slot taken is allowed
own_asked w deletions node id slot home attempts attempted author before moment taken (Failed cause) (Fate Deleted error) is may allowed =
    cancelled w deletions node id slot taken is allowed
own_asked w deletions node id slot home attempts attempted author before moment taken (Fate final cause) (Fate Deleted error) is may allowed = absurd may
own_asked w deletions node id slot home attempts attempted author before moment taken Told (Fate Deleted error) is may allowed = absurd may
own_asked w deletions node id slot home attempts attempted author before moment taken kind (Taken message) is may allowed = tt
own_asked w deletions node id slot home attempts attempted author before moment taken kind (Attempt number) is may allowed = tt
own_asked w deletions node id slot home attempts attempted author before moment taken kind (Failed error) is may allowed = tt
own_asked w deletions node id slot home attempts attempted author before moment taken kind (Fate Delivered error) is may allowed = tt
own_asked w deletions node id slot home attempts attempted author before moment taken kind (Fate Expired error) is may allowed = tt
own_asked w deletions node id slot home attempts attempted author before moment taken kind (Fate Undeliverable error) is may allowed = tt
own_asked w deletions node id slot home attempts attempted author before moment taken kind (Fate Rejected error) is may allowed = tt
own_asked w deletions node id slot home attempts attempted author before moment taken kind Told is may allowed = tt

next_asked : (w : World) → Deletions w → (node id : ℕ) (chain : List Decree) → IsNext (IsChosenIn w) node (w.actors node) id chain → IsAskedFor w.past id chain
next_asked w deletions node id chain n =
    subst (IsAskedFor w.past id) (sym n.chain_is) (subst (λ (t : Option Submission). DeletedBy w.past id t n.next.kind) (sym n.message)
    (own_asked w deletions node id (slot_of id
    (n.newest ∷ n.older)) _ _ n.newest.author n.next.author n.newest.moment n.next.moment n.taken n.newest.kind n.next.kind refl n.may.1 n.allowed))

free_asked : (w : World) → Keeps w → Deletions w → (node : ℕ) (slot : Slot) (chain : List Decree) →
    StandsIn w slot chain ⊎ ((slot ≡ slot_of slot.id chain) × IsOwn (IsChosenIn w) node (w.actors node) slot.id chain) →
    IsAskedFor w.past slot.id chain
free_asked w keeps deletions node slot chain (inl (inl sent)) = deletions.asked slot (vote_at sent.1 chain) (record { sender = sent.0; sent = sent.2 })
free_asked w keeps deletions node slot chain (inl (inr voted)) =
    deletions.asked slot (vote_at voted.1 chain) (keeps.proposed (cast voted.0 slot (vote_at voted.1 chain)) voted.2)
free_asked w keeps deletions node slot chain (inr (place, inl first)) = subst (IsAskedFor w.past slot.id) (sym first.chain_is) tt
free_asked w keeps deletions node slot chain (inr (place, inr next)) = next_asked w deletions node slot.id chain next

highest_asked : (w : World) → Keeps w → Deletions w → (node : ℕ) (slot : Slot) (vote : Vote) (highest : Option Vote) →
    IsOfHighest (λ acceptor report. In (Promise acceptor slot vote.ballot report) w.packets) vote.chain highest →
    IsFree highest (StandsIn w slot vote.chain)
    ((slot ≡ slot_of slot.id vote.chain) × IsOwn (IsChosenIn w) node (w.actors node) slot.id vote.chain) →
    IsAskedFor w.past slot.id vote.chain
highest_asked w keeps deletions node slot vote None carried free = free_asked w keeps deletions node slot vote.chain free
highest_asked w keeps deletions node slot vote (Some top) carried free =
    let fits : PromiseFits w carried.1.0 slot vote.ballot (Some top) = keeps.fits (Promise carried.1.0 slot vote.ballot (Some top)) carried.1.1 in
    let honest = fits.honest top refl in
    subst (IsAskedFor w.past slot.id) (sym carried.0) (deletions.asked slot top (keeps.proposed (cast carried.1.0 slot top) honest.0))

asked_after : (w : World) → Keeps w → Deletions w → (node : ℕ) (act : Act) → May w node act → (slot : Slot) (vote : Vote) →
    WasProposed (after w node act) slot vote →
    IsAskedFor (after w node act).past slot.id vote.chain
asked_after w keeps deletions node act may slot vote proposed =
    asked_still w.past _ slot.id vote.chain (elim (proposal_cases w node act proposed.sender slot vote proposed.sent) [
      | inl new ↦
          let m : May w node (Proposes slot vote) = subst (May w node) new.by may in
          highest_asked w keeps deletions node slot vote m.needs.justified.highest m.needs.justified.carried m.needs.free
      | inr old ↦ deletions.asked slot vote (record { sender = proposed.sender; sent = old })
    ])

pub deletions_after : (w : World) → Keeps w → Deletions w → (node : ℕ) (act : Act) → May w node act → Deletions (after w node act)
deletions_after w keeps deletions node act may = record {
  came = came_after w deletions node act may;
  settled = settled_after w deletions node act;
  asked = asked_after w keeps deletions node act may;
}

pub deletions_start : (nodes : ℕ) (serials : ℕ → ℕ) → Deletions (start nodes serials)
deletions_start nodes serials =
    record { came = λ node waiting is_in. absurd is_in; settled = λ node waiting is_in is. absurd is_in; asked = λ slot vote proposed. absurd proposed.sent }

-- ---- what is stated

deletion : (past : List Deed) (id : ℕ) (taken : Option Submission) (kind : Kind) (older : Option Final) → (kind ≡ Told → ⊥) →
    final_by kind older ≡ Some Deleted → DeletedBy past id taken kind →
    (message : Submission) × (taken ≡ Some message) × CameToCancel past id message
deletion past id (Some taken) (Fate Deleted error) older apart is c = (taken, refl, c)
deletion past id None (Fate Deleted error) older apart is c = absurd c
deletion past id taken (Taken message) older apart is c = cc
deletion past id taken (Attempt number) older apart is c = cc
deletion past id taken (Failed error) older apart is c = cc
deletion past id taken (Fate Delivered error) older apart is c = cc
deletion past id taken (Fate Expired error) older apart is c = cc
deletion past id taken (Fate Undeliverable error) older apart is c = cc
deletion past id taken (Fate Rejected error) older apart is c = cc
deletion past id taken Told older apart is c = absurd (apart refl)

taken_before : (kind : Kind) (older : Option Final) (taken : Option Submission) → final_by kind older ≡ Some Deleted → taken_by kind taken ≡ taken
taken_before (Taken message) older taken is = cc
taken_before (Attempt number) older taken is = refl
taken_before (Failed error) older taken is = refl
taken_before (Fate final error) older taken is = refl
taken_before Told older taken is = refl

-- by a decree that is no Told
untold_deletion : (w : World) → Keeps w → Deletions w → (id : ℕ) (newest : Decree) (older : List Decree) → Chosen w id (newest ∷ older) →
    (newest.kind ≡ Told → ⊥) → final_in (newest ∷ older) ≡ Some Deleted →
    IsDeletion id (newest ∷ older) w.past
untold_deletion w keeps deletions id newest older chosen apart is =
    let voter = both w.nodes _ _ chosen.chosen chosen.chosen in
    let asked = deletions.asked (slot_of id (newest ∷ older)) (vote_at chosen.ballot (newest ∷ older))
    (keeps.proposed (cast voter.node (slot_of id (newest ∷ older)) (vote_at chosen.ballot (newest ∷ older))) voter.one) in
    let d = deletion w.past id (taken_in older) newest.kind _ apart is asked in
    record { taken = d.0; message = taken_before newest.kind _ (taken_in older) is ∙ d.1; cancelled = d.2 }

-- or by the one below it
told_deletion : (w : World) → Keeps w → Links w → Deletions w → (id : ℕ) (told : Decree) (older : List Decree) → Chosen w id (told ∷ older) →
    told.kind ≡ Told → final_in older ≡ Some Deleted →
    IsDeletion id (told ∷ older) w.past
told_deletion w keeps links deletions id told [] chosen ends is = cc
told_deletion w keeps links deletions id told (newest ∷ older) chosen ends is =
    let s = standing w keeps links id (told ∷ newest ∷ older) chosen in
    let d = untold_deletion w keeps deletions id newest older (record { ballot = s.fits.ballot; chosen = s.fits.chosen })
    (λ told_too. told_ends _ newest older told told_too s.orderly.1) is in
    record { taken = d.taken; message = ap (λ (kind : Kind). taken_by kind (taken_in (newest ∷ older))) ends ∙ d.message; cancelled = d.cancelled }

pub chosen_deletion : (w : World) → Keeps w → Links w → Deletions w → (id : ℕ) (chain : List Decree) → Chosen w id chain →
    final_in chain ≡ Some Deleted →
    IsDeletion id chain w.past
chosen_deletion w keeps links deletions id [] chosen is = cc
chosen_deletion w keeps links deletions id (newest ∷ older) chosen is = elim (told_or_not newest.kind) [
  | inl ends ↦ told_deletion w keeps links deletions id newest older chosen ends (ap (λ (kind : Kind). final_by kind (final_in older)) (sym ends) ∙ is)
  | inr apart ↦ untold_deletion w keeps deletions id newest older chosen apart is
]
