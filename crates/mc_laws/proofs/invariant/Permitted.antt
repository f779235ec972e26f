-- Every chain that is proposed is a permitted one.
use Rattle.std.proofs.Common.{◌≡◌, ℕ, List, ◌∷◌, Option, sym, ◌∙◌, ap, subst, inl, inr}
use Rattle.mc_model.specs.message.Submission.{Submission}
use Rattle.mc_model.specs.message.Decree.{Decree}
use Rattle.mc_model.specs.message.Neighbours.{IsTaken}
use Rattle.mc_model.specs.message.Chain.{IsPermitted, MayExtend}
use Rattle.mc_model.specs.synod.Lists.{In}
use Rattle.mc_model.specs.synod.OneSlot.{vote_at}
use Rattle.mc_model.specs.synod.Packet.{slot_of}
use Rattle.mc_model.specs.node.Actor.{Actor, Request, Submit, Waiting}
use Rattle.mc_model.specs.node.Room.{IsFitToWait, IsNumbered}
use Rattle.mc_model.specs.node.Proposal.{IsOwn}
use Rattle.mc_model.specs.node.Act.{Act, Begins, Settles, Replies, Restarts}
use Rattle.mc_model.specs.node.Effect.{actor_by, settle}
use Rattle.mc_model.specs.cluster.World.{World, May, IsChosenIn, after, start}
use Rattle.mc_parts.proofs.Membership.{in_either, of_only, in_map, in_filter}
use Rattle.mc_laws.proofs.invariant.Growth.{actors_after}
use Rattle.mc_laws.proofs.invariant.Keeping.{Keeps}
use Rattle.mc_laws.proofs.invariant.Proposals.{AllProposed, chosen_good, good_after}

-- a request that waits is of a message that may be taken
abbrev pub MayTake : ℕ → Actor → Type 0
MayTake node a =
    (waiting : Waiting) (id : ℕ) (message : Submission) → In waiting a.waiting → waiting.request ≡ Submit id message → IsTaken id
    (record { node = node; incarnation = a.incarnation }) waiting.since message

abbrev pub PermittedIn : World → ℕ → List Decree → Type 0
PermittedIn w id chain = IsPermitted id chain

pub record Permitted (w : World) : Type 0 where
  pub takes : (node : ℕ) → MayTake node (w.actors node)
  pub chains : AllProposed PermittedIn w

-- ---- the messages that wait to be taken

begun_takes : (node : ℕ) (a : Actor) (ticket : ℕ) (request : Request) → IsFitToWait node a request → MayTake node a →
    MayTake node (actor_by node a (Begins ticket request))
begun_takes node a ticket request may takes waiting id message is_in submits = elim (in_either waiting a.waiting _ is_in) [
  | inl old ↦ takes waiting id message old submits
  | inr new ↦ of_only (λ (x : Waiting). x.request ≡ Submit id message → IsTaken id
      (record { node = node; incarnation = a.incarnation }) x.since message) _ waiting
      (λ is. let m : IsNumbered node a id message = subst (IsFitToWait node a) is may in m.takes) new submits
]

takes_by : (w : World) (node : ℕ) (act : Act) → May w node act → MayTake node (w.actors node) → MayTake node (actor_by node (w.actors node) act)
takes_by w node (Begins ticket request) may takes waiting id message is_in submits =
    begun_takes node (w.actors node) ticket request may.needs.fit takes waiting id message is_in submits
takes_by w node (Settles ticket) may takes waiting id message is_in submits =
    let m = in_map (settle ticket) (w.actors node).waiting waiting is_in in
    subst (λ (x : Waiting). IsTaken id (record { node = node; incarnation = (w.actors node).incarnation }) x.since message) (sym m.made)
    (takes m.from id message m.member (ap (λ (x : Waiting). x.request) (sym m.made) ∙ submits))
takes_by w node (Replies ticket other answer) may takes waiting id message is_in submits =
    takes waiting id message (in_filter _ (w.actors node).waiting waiting is_in) submits
takes_by w node (Restarts lost serial) may takes waiting id message is_in submits = absurd is_in
takes_by w node act may takes waiting id message is_in submits = takes waiting id message is_in submits

takes_after : (w : World) → Permitted w → (node : ℕ) (act : Act) → May w node act → (other : ℕ) → MayTake other ((after w node act).actors other)
takes_after w permitted node act may other = elim (actors_after w node act other) [
  | inl here ↦ subst (λ (a : Actor). MayTake other a) (sym here.actor_is)
      (subst (λ (n : ℕ). MayTake n (actor_by node (w.actors node) act)) (sym here.node_is) (takes_by w node act may (permitted.takes node)))
  | inr elsewhere ↦ subst (λ (a : Actor). MayTake other a) (sym elsewhere) (permitted.takes other)
]

-- ---- every world that is reached

own_permitted : (w : World) → Keeps w → Permitted w → (node id : ℕ) (chain : List Decree) → IsOwn (IsChosenIn w) node (w.actors node) id chain →
    PermittedIn w id chain
own_permitted w keeps permitted node id chain (inl first) =
    subst (IsPermitted id) (sym first.chain_is) (permitted.takes node first.waiting id first.message first.waits first.submits)
own_permitted w keeps permitted node id chain (inr n) =
    let before = chosen_good PermittedIn w keeps permitted.chains (slot_of id (n.newest ∷ n.older)) (vote_at n.ballot (n.newest ∷ n.older)) n.chosen in
    let may = subst (λ (t : Option Submission). MayExtend t (n.newest ∷ n.older) n.next) (sym n.message) n.may in
    subst (IsPermitted id) (sym n.chain_is) (before, may)

pub permitted_after : (w : World) → Keeps w → Permitted w → (node : ℕ) (act : Act) → May w node act → Permitted (after w node act)
permitted_after w keeps permitted node act may = record {
  takes = takes_after w permitted node act may;
  chains = good_after PermittedIn w keeps permitted.chains node act may (λ id chain good. good) (own_permitted w keeps permitted node);
}

pub permitted_start : (nodes : ℕ) (serials : ℕ → ℕ) → Permitted (start nodes serials)
permitted_start nodes serials = record {
  takes = λ node waiting id message is_in submits. absurd is_in;
  chains = λ slot vote proposed. absurd proposed.sent;
}
