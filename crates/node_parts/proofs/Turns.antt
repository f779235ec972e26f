-- What a tick makes of a message is what the model makes of it.
use Rattle.std.proofs.Common.{◌≡◌, ℕ, Bool, true, false, List, [], ◌∷◌, Option, Some, None, refl, sym, ap, subst, ◌∙◌}
use Rattle.std.specs.Prelude.{pred, option_map, if◌then◌else◌}
use Rattle.mc_model.specs.message.Chain.{Chain}
use Rattle.mc_model.specs.synod.Ballot.{ballot_of}
use Rattle.mc_model.specs.synod.Packet.{Packet, Prepare, Slot, slot_at, slot_of}
use Rattle.mc_model.specs.node.FirstRule.{Announce, Close, Delete, Expire, Follow, GiveUp, Lose, Rule, Take, Try, Undeliver}
use Rattle.mc_model.specs.node.Outcome.{Unanswered, no_session_error}
use Rattle.mc_model.specs.node.Reach.{Reach}
use Rattle.mc_model.specs.node.Setup.{Setup}
use Rattle.node_model.specs.Kept.{Held, Kept, message_at, with_message}
use Rattle.node_model.specs.Message.{Message}
use Rattle.node_model.specs.Proposer.{Prepared, Start, started, started_at}
use Rattle.node_model.specs.Rules.{Fitting, first_rule}
use Rattle.node_model.specs.Ticks.{abandoned, given_up, ruled}
use Rattle.tick_rules.specs.Standpoints.{start_of}
use Rattle.tick_rules.specs.declared.standpoint.Standpoint.{Standpoint}
use Rattle.synod_acceptor.specs.Packets.{packet_of}
use Rattle.synod_acceptor.specs.Records.{record_at}
use Rattle.synod_acceptor.specs.declared.packet.Packet.{Packet as Sent}
use Rattle.synod_proposer.specs.Proposing.{Proposing}
use Rattle.node_parts.specs.declared.message.Message.{Message as Filed}
use Rattle.node_parts.specs.declared.ruling.Ruling.{Ruling}
use Rattle.node_parts.specs.Lists.{listed}
use Rattle.node_parts.specs.Messages.{IsOf, IsOfSame, IsStarted, IsTriedSo, closed_at, may_start, message_of, next_round, prepare_for, rested, with_round}
use Rattle.node_parts.specs.Turning.{IsAtRest, gives_up, ruled_as, ruled_by, turned}
use Rattle.node_parts.proofs.Attempting.{still_of}
use Rattle.node_parts.proofs.Starting.{prepare_same, start_same, started_so, started_with}

-- ---- by what counts of a rule

abbrev pub by_given : Setup → Kept → ℕ → Option ℕ → Start → Prepared
by_given setup k id None start = started setup k id (Some start)
by_given setup k id (Some place) start = started setup (abandoned k id place) id (Some start)

abbrev pub ruled_with : Setup → Kept → ℕ → Option (Option ℕ × Start) → Prepared
ruled_with setup k id None = record { kept = k; packets = [] }
ruled_with setup k id (Some it) = by_given setup k id it.0 it.1

ruled_is : (setup : Setup) (k : Kept) (id : ℕ) (fit : Option Fitting) → ruled setup k id fit ≡ ruled_with setup k id (option_map ruled_by fit)
ruled_is setup k id None = refl
ruled_is setup k id (Some fit) = by_rule fit.rule
  where
    by_rule : (rule : Rule) →
        started setup (given_up rule k id (pred fit.start.place)) id (Some fit.start) ≡ by_given setup k id
        (if gives_up rule then Some (pred fit.start.place) else None) fit.start
    by_rule Take = refl
    by_rule Follow = refl
    by_rule Close = refl
    by_rule Lose = refl
    by_rule GiveUp = refl
    by_rule Delete = refl
    by_rule Expire = refl
    by_rule Undeliver = refl
    by_rule Try = refl
    by_rule Announce = refl

-- ---- whose it is

pub rest_same : (id : ℕ) (m : Filed) → IsOfSame id m (rested m)
rest_same id m = record {
  acceptor = refl;
  of = λ me starts nodes of. record {
    learner = of.learner;
    node = of.node;
    incarnation = of.incarnation;
    proposer = of.proposer;
    named = of.named;
    backed = of.backed;
  };
}

both_same : (id : ℕ) (one mid other : Filed) → IsOfSame id one mid → IsOfSame id mid other → IsOfSame id one other
both_same id one mid other first then_so = record {
  acceptor = then_so.acceptor ∙ first.acceptor;
  of = λ me starts nodes of. then_so.of me starts nodes (first.of me starts nodes of);
}

started_same : (id : ℕ) (mid new : Filed) (chain : Chain) (packet : Option Sent) → chain.id ≡ id → IsStarted mid chain new packet → IsOfSame id mid new
started_same id mid new chain packet at is = subst (λ (i : ℕ). IsOfSame i mid new) at is.same

pub turned_same : (id : ℕ) (old mid new : Filed) (chain : Chain) (packet : Option Sent) → mid ≡ rested old → chain.id ≡ id →
    IsStarted mid chain new packet →
    IsOfSame id old new
turned_same id old mid new chain packet rests at is =
    both_same id old mid new (subst (IsOfSame id old) (sym rests) (rest_same id old)) (started_same id mid new chain packet at is)

pub given_same : (id place : ℕ) (old mid closed new : Filed) (chain : Chain) (packet : Option Sent) → mid ≡ rested old →
    IsTriedSo mid (λ m. closed_at m place (Unanswered no_session_error)) closed → chain.id ≡ id → IsStarted closed chain new packet → IsOfSame id old new
given_same id place old mid closed new chain packet rests tried at is =
    both_same id old mid new (subst (IsOfSame id old) (sym rests) (rest_same id old))
    (both_same id mid closed new
    (still_of id mid closed (λ m. closed_at m place (Unanswered no_session_error)) tried (λ me starts nodes other of granted. of.backed other granted))
    (started_same id closed new chain packet at is))

-- ---- what the model makes of it

module _ (setup : Setup) (k : Kept) (id : ℕ) (old : Filed) (s : Standpoint) (held : List Held) (rest : IsAtRest setup k held id old s)
    (of : IsOf setup.node k.incarnation setup.nodes id old) where
  module _ (mid new : Filed) (chain : Chain) (packet : Option Sent) (to : Message) (at : chain.id ≡ id) (proposer : mid.proposer ≡ (rested old).proposer)
      (acceptor : mid.acceptor ≡ old.acceptor) (message : message_of id mid ≡ to) (is_started : IsStarted mid chain new packet) where
    so_started : IsStarted mid (record { id = id; decrees = chain.decrees }) new packet
    so_started = subst (λ (c : Chain). IsStarted mid c new packet) (λ i. record { id = at i; decrees = chain.decrees }) is_started

    records : (place : ℕ) → record_at mid.acceptor (slot_at id place) ≡ k.records (slot_at id place)
    records place = ap (λ a. record_at a (slot_at id place)) acceptor ∙ rest.records place

    node : mid.proposer.node ≡ setup.node
    node = ap (λ (p : Proposing). p.node) proposer ∙ of.node

    incarnation : mid.proposer.incarnation ≡ k.incarnation
    incarnation = ap (λ (p : Proposing). p.incarnation) proposer ∙ of.incarnation

    then_kept : message_of id new ≡ with_round setup.node k.incarnation k.records to (slot_of id chain.decrees) chain.decrees
    then_kept =
        so_started.message
        ∙ (λ i. with_round (node i) (incarnation i) (record_at mid.acceptor) (message i) (slot_of id chain.decrees) chain.decrees)
        ∙ start_same setup.node k.incarnation (record_at mid.acceptor) k.records to id records (Some (start_of chain))

    pub then_sent : option_map packet_of packet ≡ prepare_for setup.node k.incarnation k.records to (slot_of id chain.decrees)
    then_sent =
        so_started.prepares
        ∙ (λ i. prepare_for (node i) (incarnation i) (record_at mid.acceptor) (message i) (slot_of id chain.decrees))
        ∙ prepare_same setup.node k.incarnation (record_at mid.acceptor) k.records to id records (Some (start_of chain))

    pub turned_so : turned k id (Some (record { message = new; packet = packet })) ≡ started_so setup k id to (Some (start_of chain))
    turned_so = λ i. record { kept = with_message k id (then_kept i); packets = listed (then_sent i) }

  -- an attempt is given up
  pub turned_given : (place : ℕ) (mid closed new : Filed) (chain : Chain) (packet : Option Sent) → mid ≡ rested old →
      IsTriedSo mid (λ m. closed_at m place (Unanswered no_session_error)) closed → chain.id ≡ id → IsStarted closed chain new packet →
      turned k id (Some (record { message = new; packet = packet })) ≡ by_given setup k id (Some place) (start_of chain)
  turned_given place mid closed new chain packet rests tried at is =
      let to = closed_at (message_at k id) place (Unanswered no_session_error) in
      let message : message_of id closed ≡ to =
      tried.message id
      ∙ ap (λ (m : Filed). closed_at (message_of id m) place (Unanswered no_session_error)) rests
      ∙ ap (λ (m : Message). closed_at m place (Unanswered no_session_error)) (sym rest.message) in
      turned_so closed new chain packet to at (tried.proposer ∙ ap (λ (m : Filed). m.proposer) rests)
      (tried.acceptor ∙ ap (λ (m : Filed). m.acceptor) rests) message is
      ∙ sym (started_with setup k id to (Some (start_of chain)))

  -- none is
  module _ (mid new : Filed) (chain : Chain) (rests : mid ≡ rested old) (at : chain.id ≡ id) where
    abbrev to : Message
    to = message_at k id

    abbrev slot : Slot
    slot = slot_of id chain.decrees

    abbrev began : Prepared
    began = record {
      kept = with_message k id (started_at to slot (next_round k.records to slot)
          (ballot_of (next_round k.records to slot) k.incarnation setup.node) chain.decrees);
      packets = Prepare setup.node slot (ballot_of (next_round k.records to slot) k.incarnation setup.node) ∷ [];
    }

    abbrev so : Bool → Prepared
    so test = record {
      kept = with_message k id (if test then started_at to slot (next_round k.records to slot)
          (ballot_of (next_round k.records to slot) k.incarnation setup.node) chain.decrees else to);
      packets = listed (if test then Some (Prepare setup.node slot (ballot_of (next_round k.records to slot) k.incarnation setup.node)) else None);
    }

    abbrev sent_if : (test : Bool) → Option Packet
    sent_if test = if test then Some (Prepare setup.node slot (ballot_of (next_round k.records to slot) k.incarnation setup.node)) else None

    message_is : message_of id mid ≡ to
    message_is = ap (message_of id) rests ∙ sym rest.message

    pub turned_begun : (packet : Sent) → IsStarted mid chain new (Some packet) →
        turned k id (Some (record { message = new; packet = Some packet })) ≡ by_given setup k id None (start_of chain)
    turned_begun packet is =
        turned_so mid new chain (Some packet) to at (ap (λ (m : Filed). m.proposer) rests) (ap (λ (m : Filed). m.acceptor) rests) message_is is
        ∙ by_test (may_start k.records to slot) (then_sent mid new chain (Some packet) to at (ap (λ (m : Filed). m.proposer) rests)
        (ap (λ (m : Filed). m.acceptor) rests) message_is is)
      where
        by_test : (test : Bool) → Some (packet_of packet) ≡ sent_if test → so test ≡ (if test then began else record { kept = k; packets = [] })
        by_test true sent = refl
        by_test false sent = absurd cc

    pub turned_not : IsStarted mid chain new None → turned k id None ≡ by_given setup k id None (start_of chain)
    turned_not is =
        by_test (may_start k.records to slot) (then_sent mid new chain None to at (ap (λ (m : Filed). m.proposer) rests)
        (ap (λ (m : Filed). m.acceptor) rests) message_is is)
      where
        by_test : (test : Bool) → None ≡ sent_if test → turned k id None ≡ (if test then began else record { kept = k; packets = [] })
        by_test true sent = absurd cc
        by_test false sent = refl

-- the ruling of the code is that of the model
pub ruling_is : (setup : Setup) (k : Kept) (reach : Reach) (id : ℕ) (ruling : Option Ruling) (made : Prepared) →
    option_map ruled_as ruling ≡ option_map ruled_by (first_rule setup k reach id) → made ≡ ruled_with setup k id (option_map ruled_as ruling) →
    made ≡ ruled setup k id (first_rule setup k reach id)
ruling_is setup k reach id ruling made same is = is ∙ ap (ruled_with setup k id) same ∙ sym (ruled_is setup k id (first_rule setup k reach id))
