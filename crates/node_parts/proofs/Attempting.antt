-- What is done with attempts, and what becomes of them.
use Rattle.std.proofs.Common.{◌≡◌, ℕ, Bool, true, false, List, [], ◌∷◌, length, Option, Some, None, refl, sym, ap, subst, ◌∙◌}
use Rattle.std.proofs.Math.Path.{fun_ext}
use Rattle.std.specs.Prelude.{◌==◌, ◌&&◌, pred, is_some, option_map, if◌then◌else◌}
use Rattle.std.proofs.lemmas.Bool.Decides.{Decides-eqb}
use Rattle.mc_model.specs.message.Submission.{Submission}
use Rattle.mc_model.specs.message.Decree.{Decree}
use Rattle.mc_model.specs.message.Chain.{Chain, MayExtend, error_in, taken_in}
use Rattle.mc_model.specs.synod.Packet.{Slot, same_slot, slot_at, slot_of}
use Rattle.mc_model.specs.node.Outcome.{decree_of}
use Rattle.node_model.specs.Attempts.{concluded}
use Rattle.node_model.specs.Starts.{start_behind}
use Rattle.node_model.specs.Message.{Message}
use Rattle.node_model.specs.Proposer.{Start}
use Rattle.synod_acceptor.specs.Records.{record_at}
use Rattle.synod_acceptor.specs.declared.packet.Packet.{Packet as Sent}
use Rattle.synod_learner.specs.Counts.{Learned}
use Rattle.synod_learner.specs.Hearing.{message_in}
use Rattle.synod_proposer.specs.Proposing.{Proposing}
use Rattle.synod_acceptor.proofs.Slots.{is_same}
use Rattle.tick_rules.specs.Dues.{IsBehind, IsEnd, MayBeDue, decree_for, start_for}
use Rattle.tick_rules.specs.Standpoints.{kept_of, setup_of, start_of}
use Rattle.tick_rules.specs.declared.due.Due.{Due}
use Rattle.tick_rules.specs.declared.due.Due.TheVariants as dues
use Rattle.tick_rules.specs.declared.standpoint.Standpoint.{Standpoint}
use Rattle.tick_rules.specs.Attempts.{closed_as}
use Rattle.tick_rules.specs.declared.attempted.Attempted.{Attempted}
use Rattle.tick_rules.specs.declared.attempted.Closing.{Closing}
use Rattle.node_parts.specs.declared.attempts.Attempts.{Attempts}
use Rattle.node_parts.specs.declared.message.Message.{Message as Filed}
use Rattle.node_parts.specs.Attempting.{IsBacked, attempted_in, closed_in, granted_in}
use Rattle.node_parts.specs.Messages.{IsConcluded, IsOf, IsOfSame, IsStarted, IsTriedSo, closed_at, message_of, prepare_for, prepare_from}
use Rattle.node_parts.specs.Messages.{with_round, with_start}

-- ---- one is closed

module _ (old : Filed) (new : Attempts) (place : ℕ) (closing : Closing)
    (noted : (other : ℕ) → attempted_in new other
    ≡ (if other == place then record { granted = granted_in old.attempts place; closed = Some closing } else attempted_in old.attempts other)) where
  abbrev then_at : ℕ → Bool → Attempted
  then_at other test = if test then record { granted = granted_in old.attempts place; closed = Some closing } else attempted_in old.attempts other

  still_granted : (other : ℕ) (test : Bool) → (other == place) ≡ test → granted_in new other ≡ granted_in old.attempts other
  still_granted other true same =
      let is : other ≡ place = (Decides-eqb other place).0 same in
      ap (λ (a : Attempted). a.granted) (noted other ∙ ap (then_at other) same) ∙ ap (granted_in old.attempts) (sym is)
  still_granted other false differs = ap (λ (a : Attempted). a.granted) (noted other ∙ ap (then_at other) differs)

  closed_then : (other : ℕ) (test : Bool) → (other == place) ≡ test →
      closed_in new other ≡ (if test then Some (closed_as closing) else closed_in old.attempts other)
  closed_then other true same = ap (λ (a : Attempted). option_map closed_as a.closed) (noted other ∙ ap (then_at other) same)
  closed_then other false differs = ap (λ (a : Attempted). option_map closed_as a.closed) (noted other ∙ ap (then_at other) differs)

  pub closed_so : IsTriedSo old (λ m. closed_at m place (closed_as closing)) (record old { attempts = new })
  closed_so = record {
    acceptor = refl;
    learner = refl;
    proposer = refl;
    message = λ id i. record (message_of id old) {
      granted = fun_ext (λ other. still_granted other (other == place) refl) i;
      closed = fun_ext (λ other. closed_then other (other == place) refl) i;
    };
  }

-- ---- what came of one

-- the chain with the decree on an attempt that was closed so is the one for which the model starts a round
pub next_concludes : (s : Standpoint) (slot : Slot) (closing : Closing) (chain : List Decree) (next : Chain) (due : Due) →
    pred (length chain) ≡ slot.place → IsEnd s closing chain (Some due) → MayBeDue s chain due → IsBehind s chain due next.decrees →
    IsBacked s.author.node s.author.incarnation slot.place (Some chain) →
    Some (start_of next) ≡ concluded (setup_of s) (kept_of s) slot (closed_as closing) (Some chain)
next_concludes s slot closing [] next due place end may behind backed = absurd end
next_concludes s slot closing (newest ∷ older) next due place end may behind backed =
    let own = backed.1 (sym place) in
    let both : Some due ≡ Some (dues.Close closing) = end ∙ ap (λ (b : Bool). if b then Some (dues.Close closing) else None) own in
    let closes : due ≡ dues.Close closing = cc in
    let start = start_behind (setup_of s) (kept_of s) newest older (decree_of (closed_as closing)) in
    let decrees : next.decrees ≡ start.chain = behind ∙ ap (λ (d : Due). (start_for s newest older d).chain) closes in
    let same : same_slot slot (slot_of slot.id (newest ∷ older)) ≡ true = is_same slot (slot_of slot.id (newest ∷ older))
    (λ i. slot_at slot.id (sym place i)) in
    (λ i. Some (record { place = pred (length (decrees i)); chain = decrees i }))
    ∙ sym (λ i. if same i && taken_here (taken_in (newest ∷ older)) may i then Some start else None)
  where
    taken_here : (taken : Option Submission) → MayExtend taken (newest ∷ older) (decree_for s newest (error_in (newest ∷ older)) due) → is_some taken ≡ true
    taken_here None may = absurd may
    taken_here (Some message) may = refl

-- what is done with an attempt leaves whose message it is, if what is granted then is backed by what is known
pub still_of : (id : ℕ) (old new : Filed) (to : Message → Message) → IsTriedSo old to new →
    ((me starts nodes place : ℕ) → IsOf me starts nodes id old → (to (message_of id old)).granted place ≡ true → IsBacked me starts place
    (message_of id old).known) →
    IsOfSame id old new
still_of id old new to is backed = record {
  acceptor = is.acceptor;
  of = λ me starts nodes of. record {
    learner = ap (λ (l : Learned). l.nodes) is.learner ∙ of.learner;
    node = ap (λ (p : Proposing). p.node) is.proposer ∙ of.node;
    incarnation = ap (λ (p : Proposing). p.incarnation) is.proposer ∙ of.incarnation;
    proposer = ap (λ (p : Proposing). p.nodes) is.proposer ∙ of.proposer;
    named = of.named;
    backed = λ place granted.
        subst (λ (l : Learned). IsBacked me starts place (message_in l id).known) (sym is.learner)
        (backed me starts nodes place of (sym (ap (λ (m : Message). m.granted place) (is.message id)) ∙ granted));
  };
}

module _ (s : Standpoint) (old mid : Filed) (slot : Slot) (closing : Closing)
    (closed : IsTriedSo old (λ m. closed_at m slot.place (closed_as closing)) mid) where
  abbrev Due-start : Option Start
  Due-start = concluded (setup_of s) (kept_of s) slot (closed_as closing) (message_of slot.id old).known

  abbrev Then : Message
  Then = closed_at (message_of slot.id old) slot.place (closed_as closing)

  same_closed : IsOfSame slot.id old mid
  same_closed = still_of slot.id old mid (λ m. closed_at m slot.place (closed_as closing)) closed (λ me starts nodes place of granted. of.backed place granted)

  pub concludes_alone : None ≡ Due-start → IsConcluded s old slot (closed_as closing) mid None
  concludes_alone none = record {
    same = same_closed;
    message = closed.message slot.id
        ∙ ap (with_start old.proposer.node old.proposer.incarnation (record_at old.acceptor) Then slot.id) none;
    prepares = ap (prepare_from old.proposer.node old.proposer.incarnation (record_at old.acceptor) Then slot.id) none;
  }

  pub concludes : (next : Chain) (new : Filed) (packet : Option Sent) → next.id ≡ slot.id → Some (start_of next) ≡ Due-start →
      IsStarted mid next new packet → IsConcluded s old slot (closed_as closing) new packet
  concludes next new packet id some is_started =
      let own : next ≡ record { id = slot.id; decrees = next.decrees } = λ i. record { id = id i; decrees = next.decrees } in
      let is = subst (λ (c : Chain). IsStarted mid c new packet) own is_started in
      let at = slot_of slot.id next.decrees in
      record {
        same = record {
          acceptor = is.same.acceptor ∙ same_closed.acceptor;
          of = λ me starts nodes of. is.same.of me starts nodes (same_closed.of me starts nodes of);
        };
        message = is.message
            ∙ (λ i. with_round (closed.proposer i).node (closed.proposer i).incarnation (record_at (closed.acceptor i))
            (closed.message slot.id i) at next.decrees)
            ∙ ap (with_start old.proposer.node old.proposer.incarnation (record_at old.acceptor) Then slot.id) some;
        prepares = is.prepares
            ∙ (λ i. prepare_for (closed.proposer i).node (closed.proposer i).incarnation (record_at (closed.acceptor i)) (closed.message slot.id i) at)
            ∙ ap (prepare_from old.proposer.node old.proposer.incarnation (record_at old.acceptor) Then slot.id) some;
      }
