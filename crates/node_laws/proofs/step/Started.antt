-- A round starts for a chain exactly if one is due, no round of the message runs and there is a round left.
use Rattle.std.proofs.Common.{◌≡◌, ◌⊎◌, ℕ, suc, ◌<◌, ◌≤◌, Bool, true, false, List, [], ◌∷◌, get_or, Option, Some, None, refl, sym, ap, subst, ◌∙◌, inl, inr}
use Rattle.std.proofs.Common.{arith}
use Rattle.std.specs.Prelude.{◌&&◌, is_some, not, nat_lt, if◌then◌else◌, reverse}
use Rattle.std.proofs.lemmas.Bool.{and_parts, cases_lt, true≢false}
use Rattle.std.proofs.lemmas.Bool.Decides.{nat_tests}
use Rattle.mc_model.specs.message.Decree.{Decree}
use Rattle.mc_model.specs.message.Ids.{IsNode}
use Rattle.mc_model.specs.synod.Ballot.{ballot_of, incarnation_in, proposer_of, round_in}
use Rattle.mc_model.specs.synod.Lists.{In}
use Rattle.mc_model.specs.synod.Acceptor.{SlotRecord}
use Rattle.mc_model.specs.synod.Packet.{Packet, Slot, slot_at, slot_of}
use Rattle.mc_model.specs.node.Act.{Act, Prepares}
use Rattle.mc_model.specs.node.Alone.{IsRunAlone, Node, StandsAt, reached_alone}
use Rattle.mc_model.specs.node.Due.{AreDueOnce, key_of}
use Rattle.mc_model.specs.node.Knowledge.{IsLearned}
use Rattle.mc_model.specs.node.Outputs.{packets_in, receipts_in, replies_in}
use Rattle.mc_model.specs.node.Proposal.{IsOwn, OwnBallot}
use Rattle.mc_model.specs.node.Rounds.{HasSeen, IsNextBallot, MayPrepare, RunsNone}
use Rattle.mc_model.specs.node.Rules.{IsAhead}
use Rattle.mc_model.specs.node.Setup.{Setup}
use Rattle.mc_parts.proofs.Membership.{of_only}
use Rattle.shelf.proofs.Entries.{still_ascends}
use Rattle.node_model.specs.Message.{Message, Round, most_places}
use Rattle.node_model.specs.Kept.{Kept, message_at}
use Rattle.node_model.specs.Proposer.{Prepared, Start, highest_round, is_free, last_round, prepared_at, started, started_at}
use Rattle.node_laws.specs.Stands.{Agrees, IsBehind, IsHighestSeen, IsMessage, IsRoundOf, WasSeen}
use Rattle.node_laws.specs.Steps.{IsAtWork}
use Rattle.node_laws.proofs.invariant.Messages.{each_with, listed_with}
use Rattle.mc_laws.proofs.story.FirstStep.{none_due_once}
use Rattle.node_laws.proofs.step.Starting.{coherent_prepared, message_here, message_other, own_ballot, prepared}

-- ---- a round that is due

-- A start is due, and all that is due is at its place, which is beyond what is known. Its chain stands there, or is the node's own.
pub record IsDueStart (setup : Setup) (s : Node) (id : ℕ) (Due : ℕ → List Decree → Type 0) (start : Start) : Type 0 where
  pub due : Due start.place start.chain
  pub only : (place : ℕ) (chain : List Decree) → Due place chain → place ≡ start.place
  pub within : start.place < most_places
  pub ahead : IsAhead setup.nodes s.actor id start.place
  pub free : StandsAt s (slot_at id start.place) start.chain ⊎ ((slot_at id start.place ≡ slot_of id start.chain) × IsOwn
      (IsLearned setup.nodes s.actor.received) setup.node s.actor id start.chain)
  pub behind : IsBehind setup.nodes s.actor.received id (StandsAt s (slot_at id start.place) start.chain) start.chain

-- a chain that stands already need not go on from what is known
pub behind_stood : (nodes id : ℕ) (received : List Packet) (Stood : Type 0) (chain : List Decree) → Stood → IsBehind nodes received id Stood chain
behind_stood nodes id received Stood [] stood = tt
behind_stood nodes id received Stood (only ∷ []) stood = tt
behind_stood nodes id received Stood (next ∷ newest ∷ older) stood = inl stood

abbrev pub IsStartOf : Setup → Node → ℕ → (ℕ → List Decree → Type 0) → Option Start → Type 0
IsStartOf setup s id Due None = (place : ℕ) (chain : List Decree) → Due place chain → ⊥
IsStartOf setup s id Due (Some start) = IsDueStart setup s id Due start

abbrev pub IsToPrepare : Setup → Node → ℕ → (ℕ → List Decree → Type 0) → Act → Type 0
IsToPrepare setup s id Due (Prepares slot ballot chain) =
    (slot.id ≡ id) × (Due slot.place chain × MayPrepare setup.nodes setup.node s.actor s.records slot ballot)
IsToPrepare setup s id Due act = ⊥

-- By these acts, which are due, the actor starts what is kept as started; nothing else of it changes.
pub record StartsAs (setup : Setup) (k : Kept) (s : Node) (id : ℕ) (Due : ℕ → List Decree → Type 0) (new : Prepared) : Type 0 where
  pub acts : List Act
  pub run : IsRunAlone setup.nodes setup.node s acts
  pub due : AreDueOnce (IsToPrepare setup s id Due) acts
  pub agrees : Agrees setup new.kept (reached_alone setup.node s acts)
  pub packets : new.packets ≡ reverse (packets_in setup.node s.actor s.records acts)
  pub no_replies : replies_in acts ≡ []
  pub no_receipts : receipts_in acts ≡ []
  pub up : new.kept.up ≡ k.up
  pub received : (reached_alone setup.node s acts).actor.received ≡ s.actor.received
  pub incarnation : (reached_alone setup.node s acts).actor.incarnation ≡ s.actor.incarnation
  pub held : new.kept.held ≡ k.held
  pub known : (other : ℕ) → (message_at new.kept other).known ≡ (message_at k other).known
  pub records : (reached_alone setup.node s acts).records ≡ s.records

-- ---- the next ballot

module _ (setup : Setup) (k : Kept) (s : Node) (agrees : Agrees setup k s) (slot : Slot) (within : slot.place < most_places) where
  abbrev m : Message
  m = message_at k slot.id

  abbrev highest : ℕ
  highest = highest_round k.records m slot

  seen_is : IsHighestSeen setup.node s.actor slot (get_or m.seen slot.place 0)
  seen_is = (agrees.message slot.id).seen slot.place within

  same_round : round_in (k.records slot).promised ≡ round_in (s.records slot).promised
  same_round = ap (λ (r : SlotRecord). round_in r.promised) (agrees.records slot)

  highest_seen : HasSeen setup.node s.actor s.records slot highest
  highest_seen = elim (cases_lt (round_in (k.records slot).promised) (get_or m.seen slot.place 0)) [
    | inl below ↦
        let is : get_or m.seen slot.place 0 ≡ highest = omega arith in
        elim seen_is.seen [
          | inl none ↦ absurd (omega arith)
          | inr seen ↦ inr (subst (λ (round : ℕ). WasSeen setup.node s.actor slot round) is seen)
        ]
    | inr from ↦ let same = same_round in inl (omega arith)
  ]

  highest_most : (round : ℕ) → HasSeen setup.node s.actor s.records slot round → round ≤ highest
  highest_most round (inl own) = let same = same_round in omega arith
  highest_most round (inr seen) = let most = seen_is.most round seen in omega arith

  next_ballot : nat_lt highest last_round ≡ true → IsNextBallot setup.node s.actor s.records slot (ballot_of (suc highest) k.incarnation setup.node)
  next_ballot left = record {
    highest = highest;
    seen = highest_seen;
    most = highest_most;
    ballot_is = let same = agrees.incarnation in omega arith;
    round = record { least = omega arith; most = grind (arith, nat_tests) };
  }

  none_next : nat_lt highest last_round ≡ false → (ballot : ℕ) → IsNextBallot setup.node s.actor s.records slot ballot → ⊥
  none_next gone ballot next =
      let most = next.most highest highest_seen in
      let last = next.round.most in
      let beyond : last_round ≤ highest = grind (arith, nat_tests) in
      omega arith

  runs_none : (round : Option Round) → IsRoundOf setup.nodes setup.node s slot.id round → not (is_some round) ≡ true →
      RunsNone setup.nodes setup.node s.actor slot.id
  runs_none None none free = none
  runs_none (Some r) is free = absurd (true≢false (sym free))

  not_free : (round : Option Round) → IsRoundOf setup.nodes setup.node s slot.id round → not (is_some round) && nat_lt highest last_round ≡ false →
      (ballot : ℕ) → MayPrepare setup.nodes setup.node s.actor s.records slot ballot → ⊥
  not_free None none gone ballot may = none_next gone ballot may.next
  not_free (Some r) is runs ballot may = may.none r.slot r.ballot is.about is.running

-- ---- it starts, or not

module _ (setup : Setup) (k : Kept) (s : Node) (agrees : Agrees setup k s) (mine : IsNode setup.node) (works : IsAtWork setup s) (id : ℕ)
    (Due : ℕ → List Decree → Type 0) where
  stays : ((act : Act) → IsToPrepare setup s id Due act → ⊥) → StartsAs setup k s id Due (record { kept = k; packets = [] })
  stays none = record {
    acts = [];
    run = tt;
    due = none_due_once (IsToPrepare setup s id Due) none;
    agrees = agrees;
    packets = refl;
    no_replies = refl;
    no_receipts = refl;
    up = refl;
    received = refl;
    incarnation = refl;
    held = refl;
    known = λ other. refl;
    records = refl;
  }

  none_to_prepare : ((place : ℕ) (chain : List Decree) → Due place chain → ⊥) → (act : Act) → IsToPrepare setup s id Due act → ⊥
  none_to_prepare none (Prepares slot ballot chain) due = none slot.place chain due.1.0
  none_to_prepare none act due = due

  module _ (start : Start) (is : IsDueStart setup s id Due start) where
    abbrev slot : Slot
    slot = slot_at id start.place

    abbrev number : ℕ
    number = suc (highest_round k.records (message_at k id) slot)

    abbrev ballot : ℕ
    ballot = ballot_of number k.incarnation setup.node

    -- no round is left, or one runs
    not_free_then : is_free k slot ≡ false → (act : Act) → IsToPrepare setup s id Due act → ⊥
    not_free_then gone (Prepares other above chain) due =
        let place : other.place ≡ start.place = is.only other.place chain due.1.0 in
        let same : other ≡ slot = λ i. record { id = due.0 i; place = place i } in
        not_free setup k s agrees slot is.within (message_at k id).round (agrees.message id).round gone above
        (subst (λ (x : Slot). MayPrepare setup.nodes setup.node s.actor s.records x above) same due.1.1)
    not_free_then gone act due = due

    abbrev new : Message
    new = started_at (message_at k id) slot number ballot start.chain

    new_message : IsMessage setup (prepared setup s slot ballot start.chain) id new
    new_message =
        let same = same_round setup k s agrees slot is.within in
        message_here setup s slot ballot start.chain (message_at k id) (agrees.message id) agrees.coherent mine is.within number (omega arith) (omega arith)
        (ap (λ (i : ℕ). ballot_of number i setup.node) agrees.incarnation) is.ahead is.free is.behind

    own_now : OwnBallot setup.node s.actor ballot
    own_now =
        let own = own_ballot number s.actor.incarnation setup.node agrees.coherent.life mine in
        let ballot_is : ballot ≡ ballot_of number s.actor.incarnation setup.node = ap (λ (i : ℕ). ballot_of number i setup.node) agrees.incarnation in
        (ap proposer_of ballot_is ∙ own.0, ap incarnation_in ballot_is ∙ own.1)

    agrees_then : Agrees setup (prepared_at setup k slot number start.chain).kept (prepared setup s slot ballot start.chain)
    agrees_then = record {
      up = agrees.up;
      incarnation = agrees.incarnation;
      clock = agrees.clock;
      serial = agrees.serial;
      ticket = agrees.ticket;
      records = agrees.records;
      message = each_with (λ other m. IsMessage setup (prepared setup s slot ballot start.chain) other m) k id new new_message
          (λ other apart. message_other setup s slot ballot start.chain other apart agrees.coherent (message_at k other) (agrees.message other));
      waiting = agrees.waiting;
      told = agrees.told;
      tickets = agrees.tickets;
      given = agrees.given;
      listed = λ other vote voted. listed_with k.messages id new other.id (agrees.listed other vote voted);
      ascends = still_ascends k.messages id new agrees.ascends;
      placed = agrees.placed;
      voted = agrees.voted;
      coherent = coherent_prepared setup s slot ballot start.chain own_now agrees.coherent;
    }

    prepares : is_free k slot ≡ true → StartsAs setup k s id Due (prepared_at setup k slot number start.chain)
    prepares free =
        let parts = and_parts (not (is_some (message_at k id).round)) (nat_lt (highest_round k.records (message_at k id) slot) last_round) free in
        record {
          acts = Prepares slot ballot start.chain ∷ [];
          run = (record { least = works.least; most = works.most; up = works.up; needs = own_now }, tt);
          due = record {
            only = λ act is_in. of_only (IsToPrepare setup s id Due) (Prepares slot ballot start.chain) act (
              refl,
              (
                is.due,
                record {
                  none = runs_none setup k s agrees slot is.within (message_at k id).round (agrees.message id).round parts.0;
                  next = next_ballot setup k s agrees slot is.within parts.1;
                },
              ),
            ) is_in;
            all = λ act. all act;
            order = tt;
          };
          agrees = agrees_then;
          packets = refl;
          no_replies = refl;
          no_receipts = refl;
          up = refl;
          received = refl;
          incarnation = refl;
          held = refl;
          known = each_with (λ other m. m.known ≡ (message_at k other).known) k id new refl (λ other apart. refl);
          records = refl;
        }
      where
        all : (act : Act) → IsToPrepare setup s id Due act → In (key_of act) (id ∷ [])
        all (Prepares other above chain) due = inl due.0
        all act due = absurd due

  -- what starts is what is due
  pub started_as : (start : Option Start) → IsStartOf setup s id Due start → StartsAs setup k s id Due (started setup k id start)
  started_as None none = stays (none_to_prepare none)
  started_as (Some start) is = by_free (is_free k (slot_at id start.place)) refl
    where
      by_free : (free : Bool) → is_free k (slot_at id start.place) ≡ free →
          StartsAs setup k s id Due (if free then prepared_at setup k (slot_at id start.place)
          (suc (highest_round k.records (message_at k id) (slot_at id start.place))) start.chain else record { kept = k; packets = [] })
      by_free true free = prepares start is free
      by_free false gone = stays (not_free_then start is gone)
