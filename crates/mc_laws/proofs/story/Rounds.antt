-- How one node alone settles a slot.
use Rattle.std.proofs.Common.{◌≡◌, ℕ, zero, suc, ◌<◌, ◌≤◌, Bool, true, false, List, ◌∷◌, map, None, refl, sym, ap, subst, inl, inr, arith}
use Rattle.std.specs.Prelude.{if◌then◌else◌}
use Rattle.mc_model.specs.message.Submission.{Submission}
use Rattle.mc_model.specs.message.Decree.{Author, Decree, Kind, Taken, Attempt, Failed, Fate, Told, Delivered, Expired, Deleted, Undeliverable, Rejected}
use Rattle.mc_model.specs.synod.Lists.{In}
use Rattle.mc_model.specs.synod.Majority.{Majority, IsMajority, count}
use Rattle.mc_model.specs.synod.Ballot.{proposer_of, incarnation_in}
use Rattle.mc_model.specs.synod.OneSlot.{Vote, vote_at, ReportsWithin}
use Rattle.mc_model.specs.synod.Packet.{Slot, slot_of, Packet, Prepare, Promise, Propose}
use Rattle.mc_model.specs.synod.Acceptor.{SlotRecord, blank, after_promise}
use Rattle.mc_model.specs.node.Actor.{Actor, Offer}
use Rattle.mc_model.specs.node.Proposal.{Allows, IsOwn, MayPropose}
use Rattle.mc_model.specs.node.Act.{Receives, Promises, Prepares}
use Rattle.mc_model.specs.cluster.World.{World, IsChosenIn, StandsIn, IsRun, after}
use Rattle.mc_parts.proofs.Membership.{with_here}
use Rattle.mc_laws.specs.Stories.{round, by_node_1}

-- what holds of node 1 holds of the majority of a cluster of one
pub all_of_one : (nodes : ℕ) (P : ℕ → Type 0) → nodes ≡ 1 → P 1 → Majority nodes P
all_of_one nodes P is holds = record {
  test = λ node. true;
  most = subst (λ (n : ℕ). IsMajority n (λ node. true)) (sym is) (omega arith);
  each = λ node least most passes. let same : node ≡ 1 = omega (arith, least, most, is) in subst P (sym same) holds;
}

-- and the other way round
passing : (test : ℕ → Bool) (one : Bool) → test 1 ≡ one → IsMajority 1 test → test 1 ≡ true
passing test true is most = is
passing test false is most =
    absurd (let none : count test 1 ≡ 0 = ap (λ (b : Bool). if b then suc (count test zero) else count test zero) is in omega (arith, most, none))

pub one_of_one : (P : ℕ → Type 0) → Majority 1 P → P 1
one_of_one P m = m.each 1 (omega arith) (omega arith) (passing m.test (m.test 1) refl m.most)

-- a world in which node 1 alone may settle a slot
pub record IsReady (w : World) (slot : Slot) (vote : Vote) : Type 0 where
  pub nodes : w.nodes ≡ 1
  pub up : (w.actors 1).up ≡ true
  pub proposer : proposer_of vote.ballot ≡ 1
  pub incarnation : incarnation_in vote.ballot ≡ (w.actors 1).incarnation
  pub above : 0 < vote.ballot
  pub unused : w.records 1 slot ≡ blank
  pub once : (chain : List Decree) → In (Propose 1 slot (vote_at vote.ballot chain)) (w.actors 1).sent → ⊥
  pub place : slot ≡ slot_of slot.id vote.chain
  pub mine : IsOwn (IsChosenIn w) 1 (w.actors 1) slot.id vote.chain

-- and so is what it needs
allowed_still : (a : Actor) (received sent : List Packet) (offers : List Offer) (slot : Slot) (taken : Submission) (attempted : Author)
    (kind next : Kind) → Allows a slot taken attempted kind next →
    Allows (record a { received = received; sent = sent; offers = offers }) slot taken attempted kind next
allowed_still a received sent offers slot taken attempted (Attempt number) next (inl closed) =
    inl (record { outcome = closed.outcome; incarnation = closed.incarnation; closed = closed.closed; kind = closed.kind })
allowed_still a received sent offers slot taken attempted (Attempt number) next (inr lost) = inr (record { incarnation = lost.incarnation; kind = lost.kind })
allowed_still a received sent offers slot taken attempted (Taken message) (Fate Deleted error) c =
    record { waiting = c.waiting; waits = c.waits; settled = c.settled; cancels = c.cancels }
allowed_still a received sent offers slot taken attempted (Failed cause) (Fate Deleted error) c =
    record { waiting = c.waiting; waits = c.waits; settled = c.settled; cancels = c.cancels }
allowed_still a received sent offers slot taken attempted (Fate final cause) (Fate Deleted error) c =
    record { waiting = c.waiting; waits = c.waits; settled = c.settled; cancels = c.cancels }
allowed_still a received sent offers slot taken attempted (Taken message) (Fate Delivered error) c = tt
allowed_still a received sent offers slot taken attempted (Taken message) (Fate Expired error) c = tt
allowed_still a received sent offers slot taken attempted (Taken message) (Fate Undeliverable error) c = tt
allowed_still a received sent offers slot taken attempted (Taken message) (Fate Rejected error) c = tt
allowed_still a received sent offers slot taken attempted (Taken message) (Taken other) c = tt
allowed_still a received sent offers slot taken attempted (Taken message) (Attempt number) c = tt
allowed_still a received sent offers slot taken attempted (Taken message) (Failed error) c = tt
allowed_still a received sent offers slot taken attempted (Failed cause) (Fate Delivered error) c = tt
allowed_still a received sent offers slot taken attempted (Failed cause) (Fate Expired error) c = tt
allowed_still a received sent offers slot taken attempted (Failed cause) (Fate Undeliverable error) c = tt
allowed_still a received sent offers slot taken attempted (Failed cause) (Fate Rejected error) c = tt
allowed_still a received sent offers slot taken attempted (Failed cause) (Taken other) c = tt
allowed_still a received sent offers slot taken attempted (Failed cause) (Attempt number) c = tt
allowed_still a received sent offers slot taken attempted (Failed cause) (Failed error) c = tt
allowed_still a received sent offers slot taken attempted (Fate final cause) (Fate Delivered error) c = tt
allowed_still a received sent offers slot taken attempted (Fate final cause) (Fate Expired error) c = tt
allowed_still a received sent offers slot taken attempted (Fate final cause) (Fate Undeliverable error) c = tt
allowed_still a received sent offers slot taken attempted (Fate final cause) (Fate Rejected error) c = tt
allowed_still a received sent offers slot taken attempted (Fate final cause) (Taken other) c = tt
allowed_still a received sent offers slot taken attempted (Fate final cause) (Attempt number) c = tt
allowed_still a received sent offers slot taken attempted (Fate final cause) (Failed error) c = tt
allowed_still a received sent offers slot taken attempted (Taken message) Told c = tt
allowed_still a received sent offers slot taken attempted (Failed cause) Told c = tt
allowed_still a received sent offers slot taken attempted (Fate final cause) Told c = tt
allowed_still a received sent offers slot taken attempted Told (Fate Deleted error) c =
    record { waiting = c.waiting; waits = c.waits; settled = c.settled; cancels = c.cancels }
allowed_still a received sent offers slot taken attempted Told (Fate Delivered error) c = tt
allowed_still a received sent offers slot taken attempted Told (Fate Expired error) c = tt
allowed_still a received sent offers slot taken attempted Told (Fate Undeliverable error) c = tt
allowed_still a received sent offers slot taken attempted Told (Fate Rejected error) c = tt
allowed_still a received sent offers slot taken attempted Told (Taken other) c = tt
allowed_still a received sent offers slot taken attempted Told (Attempt number) c = tt
allowed_still a received sent offers slot taken attempted Told (Failed error) c = tt
allowed_still a received sent offers slot taken attempted Told Told c = tt

-- a chain of a node's own is its own also where it has received and sent more
own_still : (Chosen Later : Slot → Vote → Type 0) (a b : Actor) (id : ℕ) (chain : List Decree) →
    ((slot : Slot) (vote : Vote) → Chosen slot vote → Later slot vote) →
    b ≡ record a { received = b.received; sent = b.sent; offers = b.offers } → IsOwn Chosen 1 a id chain →
    IsOwn Later 1 b id chain
own_still Chosen Later a b id chain more is own =
    subst (λ (x : Actor). IsOwn Later 1 x id chain) (sym is) (kept own)
  where
    kept : IsOwn Chosen 1 a id chain → IsOwn Later 1 (record a { received = b.received; sent = b.sent; offers = b.offers }) id chain
    kept (inl first) = inl (record {
      waiting = first.waiting;
      message = first.message;
      waits = first.waits;
      submits = first.submits;
      chain_is = first.chain_is;
    })
    kept (inr n) = inr (record {
      next = n.next;
      newest = n.newest;
      older = n.older;
      taken = n.taken;
      ballot = n.ballot;
      chain_is = n.chain_is;
      chosen = more _ _ n.chosen;
      author = n.author;
      moment = n.moment;
      message = n.message;
      may = n.may;
      allowed = allowed_still a b.received b.sent b.offers (slot_of id (n.newest ∷ n.older)) n.taken n.newest.author n.newest.kind n.next.kind n.allowed;
      error = n.error;
    })

reported : (w : World) (slot : Slot) (vote : Vote) → IsReady w slot vote → Promise 1 slot vote.ballot None ≡ Promise 1 slot vote.ballot (w.records 1 slot).vote
reported w slot vote ready = ap (λ (r : SlotRecord). Promise 1 slot vote.ballot r.vote) (sym ready.unused)

-- once it has its own promise
abbrev promised : World → Slot → Vote → World
promised w slot vote =
    after (after (after (after w 1 (Prepares slot vote.ballot vote.chain)) 1 (Receives (Prepare 1 slot vote.ballot))) 1
    (Promises slot vote.ballot true)) 1 (Receives (Promise 1 slot vote.ballot None))

proposes : (w : World) (slot : Slot) (vote : Vote) → IsReady w slot vote →
    MayPropose w.nodes (λ packet. In packet (promised w slot vote).packets) (StandsIn (promised w slot vote))
    (IsChosenIn (promised w slot vote)) 1 ((promised w slot vote).actors 1) slot vote
proposes w slot vote ready = record {
  proposer = ready.proposer;
  incarnation = ready.incarnation;
  once = λ chain is_in. elim is_in [ inl new ↦ cc | inr old ↦ ready.once chain old ];
  justified = record {
    highest = None;
    majority = all_of_one w.nodes (ReportsWithin (λ acceptor report. In (Promise acceptor slot vote.ballot report)
        (promised w slot vote).packets) None) ready.nodes (record { report = None; made = inl (reported w slot vote ready); within = tt });
    carried = tt;
  };
  free = inr (
    ready.place,
    own_still (IsChosenIn w) (IsChosenIn (promised w slot vote)) (w.actors 1)
        ((promised w slot vote).actors 1) slot.id vote.chain (λ slot vote chosen. chosen) refl ready.mine,
  );
}

-- each act of a round may be done where it stands
pub round_runs : (w : World) (slot : Slot) (vote : Vote) → IsReady w slot vote → IsRun w (map by_node_1 (round slot vote))
round_runs w slot vote ready =
    let nodes = ready.nodes in (
      record { least = omega arith; most = omega (arith, nodes); up = ready.up; needs = inl refl },
      (
        record {
          least = omega arith;
          most = omega (arith, nodes);
          up = ready.up;
          needs = record {
            sender = 1;
            proposed = inl refl;
            may = subst (λ (r : SlotRecord). r.promised ≤ vote.ballot)
                (sym (with_here (w.records 1) slot (after_promise (w.records 1 slot) vote.ballot))) (omega arith);
          };
        },
        (
          record { least = omega arith; most = omega (arith, nodes); up = ready.up; needs = inl refl },
          (
            record { least = omega arith; most = omega (arith, nodes); up = ready.up; needs = proposes w slot vote ready },
            (
              record { least = omega arith; most = omega (arith, nodes); up = ready.up; needs = inl (reported w slot vote ready) },
              (
                record {
                  least = omega arith;
                  most = omega (arith, nodes);
                  up = ready.up;
                  needs = record
                      { sender = 1; prepared = inl refl; may = subst (λ (r : SlotRecord). r.promised < vote.ballot) (sym ready.unused) ready.above };
                },
                (
                  record { least = omega arith; most = omega (arith, nodes); up = ready.up; needs = inl refl },
                  (
                    record { least = omega arith; most = omega (arith, nodes); up = ready.up; needs = (ready.proposer, ready.incarnation) },
                    tt,
                  ),
                ),
              ),
            ),
          ),
        ),
      ),
    )
