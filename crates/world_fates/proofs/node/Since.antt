-- Requests that wait and came since something was chosen.
use Rattle.std.proofs.Common.{◌≡◌, ◌⊎◌, ℕ, refl, sym, ◌∙◌, ap, subst, inl, inr}
use Rattle.mc_model.specs.synod.Lists.{In}
use Rattle.mc_model.specs.synod.OneSlot.{Vote}
use Rattle.mc_model.specs.synod.Packet.{Name, Slot}
use Rattle.mc_model.specs.node.Actor.{Actor, Request, Waiting, id_in, name_of}
use Rattle.mc_model.specs.node.Act.{Act, Begins, Replies, Restarts, Settles}
use Rattle.mc_model.specs.node.Effect.{actor_by, settle}
use Rattle.mc_model.specs.cluster.World.{Cast, IsChosenIn, May, World, after}
use Rattle.mc_parts.proofs.Membership.{in_either, in_filter, in_map, of_only}
use Rattle.mc_laws.proofs.invariant.Freshness.{Fresh, fresh_after, fresh_begun}
use Rattle.mc_laws.proofs.invariant.Growth.{StartsAnew, actors_after, grows, remembers}
use Rattle.mc_laws.proofs.invariant.Reached.{Holds}

-- a vote was chosen in a world, and each request about its message that waits at a node came later
pub record AllSince (node : ℕ) (slot : Slot) (vote : Vote) (w : World) : Type 0 where
  pub before : World
  pub nodes : w.nodes ≡ before.nodes
  pub chosen : IsChosenIn before slot vote
  pub votes : (c : Cast) → In c before.votes → In c w.votes
  pub asked : (waiting : Waiting) → In waiting (w.actors node).waiting → id_in waiting.request ≡ slot.id →
      Fresh before (name_of node (w.actors node) waiting) (id_in waiting.request) w

-- under which name a request of a ticket is asked for
abbrev name_at : ℕ → Actor → ℕ → Name
name_at node a ticket = record { node = node; incarnation = a.incarnation; ticket = ticket }

-- what came since one world came since an older one
since_older : (older before w : World) (name : Name) (id : ℕ) → ((c : Cast) → In c older.votes → In c before.votes) →
    Fresh before name id w → Fresh older name id w
since_older older before w name id more fresh = record {
  votes = λ c is_in. fresh.votes c (more c is_in);
  asks = fresh.asks;
  tells = λ teller told is_in place vote voted. fresh.tells teller told is_in place vote (more _ voted);
  about = fresh.about;
  named = fresh.named;
}

-- ---- what waits after an act

-- a request waited before, under its name
pub record WaitedSo (a : Actor) (ticket : ℕ) (request : Request) : Type 0 where
  pub waiting : Waiting
  pub among : In waiting a.waiting
  pub ticket_is : waiting.ticket ≡ ticket
  pub request_is : waiting.request ≡ request

-- or an act began it
pub record BeginsIt (a : Actor) (act : Act) (waiting : Waiting) : Type 0 where
  pub ticket : ℕ
  pub begins : act ≡ Begins ticket waiting.request
  pub ticket_is : waiting.ticket ≡ a.ticket

waited_then : (node : ℕ) (a : Actor) (act : Act) (waiting : Waiting) → In waiting (actor_by node a act).waiting →
    WaitedSo a waiting.ticket waiting.request ⊎ BeginsIt a act waiting
waited_then node a (Begins ticket request) waiting is_in = elim (in_either waiting a.waiting _ is_in) [
  | inl old ↦ inl (record { waiting = waiting; among = old; ticket_is = refl; request_is = refl })
  | inr new ↦ inr (of_only (BeginsIt a (Begins ticket request)) _ waiting (record { ticket = ticket; begins = refl; ticket_is = refl }) new)
]
waited_then node a (Settles ticket) waiting is_in =
    let m = in_map (settle ticket) a.waiting waiting is_in in
    inl (record {
      waiting = m.from;
      among = m.member;
      ticket_is = ap (λ (x : Waiting). x.ticket) (sym m.made);
      request_is = ap (λ (x : Waiting). x.request) (sym m.made);
    })
waited_then node a (Replies ticket id answer) waiting is_in =
    inl (record { waiting = waiting; among = in_filter _ a.waiting waiting is_in; ticket_is = refl; request_is = refl })
waited_then node a (Restarts lost serial) waiting is_in = absurd is_in
waited_then node a act waiting is_in = inl (record { waiting = waiting; among = is_in; ticket_is = refl; request_is = refl })

-- nothing waits at a node that starts anew
pub nobody_waits : (node : ℕ) (a : Actor) (act : Act) → StartsAnew act → (waiting : Waiting) → In waiting (actor_by node a act).waiting → ⊥
nobody_waits node a act anew waiting is_in = none (subst (λ (x : Act). In waiting (actor_by node a x).waiting) anew.2 is_in)
  where
    none : In waiting (actor_by node a (Restarts anew.0 anew.1)).waiting → ⊥
    none is_in = is_in

-- the incarnation is the same, unless nothing waits
same_life : (node : ℕ) (a : Actor) (act : Act) (waiting : Waiting) → In waiting (actor_by node a act).waiting →
    (actor_by node a act).incarnation ≡ a.incarnation
same_life node a act waiting is_in = elim (remembers node a act) [
  | inl anew ↦ absurd (nobody_waits node a act anew waiting is_in)
  | inr r ↦ r.incarnation
]

module _ (node : ℕ) (slot : Slot) (vote : Vote) (w : World) (h : Holds w) (since : AllSince node slot vote w) (by : ℕ) (act : Act)
    (may : May w by act) where
  abbrev v : World
  v = after w by act

  -- a request that waited is as fresh
  still : (ticket : ℕ) (request : Request) → id_in request ≡ slot.id → WaitedSo (w.actors node) ticket request →
      Fresh since.before (name_at node (w.actors node) ticket) (id_in request) v
  still ticket request about it =
      fresh_after since.before w h.keeps _ (id_in request)
      (subst (λ (t : ℕ). Fresh since.before (name_at node (w.actors node) t) (id_in request) w) it.ticket_is
      (subst (λ (r : Request). Fresh since.before (name_of node (w.actors node) it.waiting) (id_in r) w) it.request_is
      (since.asked it.waiting it.among (ap id_in it.request_is ∙ about))))
      by act may

  -- the node that does the act
  here : by ≡ node → (waiting : Waiting) → id_in waiting.request ≡ slot.id → In waiting (actor_by by (w.actors by) act).waiting →
      Fresh since.before (name_of node (w.actors node) waiting) (id_in waiting.request) v
  here same waiting about is_in = elim (waited_then by (w.actors by) act waiting is_in) [
    | inl old ↦ still waiting.ticket waiting.request about (subst (λ (n : ℕ). WaitedSo (w.actors n) waiting.ticket waiting.request) same old)
    | inr new ↦ begun new
  ]
    where
      begun : BeginsIt (w.actors by) act waiting → Fresh since.before (name_of node (w.actors node) waiting) (id_in waiting.request) v
      begun new =
          let begins = subst (May w by) new.begins may in
          let next : new.ticket ≡ (w.actors by).ticket = begins.needs.next in
          subst (λ (n : ℕ). Fresh since.before (name_at n (w.actors n) waiting.ticket) (id_in waiting.request) v) same
          (subst (λ (t : ℕ). Fresh since.before (name_at by (w.actors by) t) (id_in waiting.request) v)
          (next ∙ sym new.ticket_is)
          (since_older since.before w v _ (id_in waiting.request) since.votes
          (subst (λ (x : Act). Fresh w (name_at by (w.actors by) new.ticket) (id_in waiting.request) (after w by x))
          (sym new.begins)
          (fresh_begun w h.names by new.ticket waiting.request begins))))

  asked_then : (waiting : Waiting) → In waiting (v.actors node).waiting → id_in waiting.request ≡ slot.id →
      Fresh since.before (name_of node (v.actors node) waiting) (id_in waiting.request) v
  asked_then waiting is_in about = elim (actors_after w by act node) [
    | inl at ↦
        let among = subst (λ (a : Actor). In waiting a.waiting) at.actor_is is_in in
        let life : (v.actors node).incarnation ≡ (w.actors node).incarnation =
        ap (λ (a : Actor). a.incarnation) at.actor_is ∙ same_life by (w.actors by) act waiting among
        ∙ ap (λ (n : ℕ). (w.actors n).incarnation) (sym at.node_is) in
        subst (λ (i : ℕ). Fresh since.before (record { node = node; incarnation = i; ticket = waiting.ticket }) (id_in waiting.request) v) (sym life)
        (here (sym at.node_is) waiting about among)
    | inr elsewhere ↦
        subst (λ (a : Actor). Fresh since.before (name_of node a waiting) (id_in waiting.request) v) (sym elsewhere)
        (still waiting.ticket waiting.request about
        (record { waiting = waiting; among = subst (λ (a : Actor). In waiting a.waiting) elsewhere is_in; ticket_is = refl; request_is = refl }))
  ]

  pub since_after : AllSince node slot vote v
  since_after = record {
    before = since.before;
    nodes = since.nodes;
    chosen = since.chosen;
    votes = λ c is_in. (grows w by act may).votes c (since.votes c is_in);
    asked = asked_then;
  }
