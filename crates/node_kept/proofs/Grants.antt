-- Steps by which an attempt is granted, or closed with what came of it, are the model's.
use Rattle.std.proofs.Common.{◌≡◌, ℕ, Bool, true, false, List, [], ◌∷◌, length, Option, Some, None, refl, sym, ap, subst, ◌∙◌, arith}
use Rattle.std.specs.Prelude.{◌==◌, ◌&&◌, pred, map, not, option_map, if◌then◌else◌}
use Rattle.std.proofs.lemmas.Bool.Decides.{Decides-eqb}
use Rattle.mc_model.specs.message.Decree.{Attempt, Decree, Failed, Fate, Kind, Taken, Told}
use Rattle.mc_model.specs.message.Chain.{Chain}
use Rattle.mc_model.specs.synod.Packet.{Packet, Slot, slot_at}
use Rattle.mc_model.specs.node.Grant.{NotMine, OlderIncarnation}
use Rattle.mc_model.specs.node.Setup.{Setup}
use Rattle.mc_model.specs.node.Outcome.{Outcome}
use Rattle.node_model.specs.Attempts.{concluded, concluded_then, grant_refusal, known_refusal, newest_refusal, on_grant, on_response, own_refusal}
use Rattle.node_model.specs.Kept.{Kept, message_at}
use Rattle.node_model.specs.Message.{Message}
use Rattle.node_model.specs.Outputs.{Stepped, nothing}
use Rattle.node_model.specs.Rules.{is_attempt_by}
use Rattle.node_model.specs.Granted.{known_place, known_slot}
use Rattle.pdu_tables.specs.StatusCodes.{status_code}
use Rattle.waiting_requests.specs.Replying.{reply_given}
use Rattle.tick_rules.specs.Standpoints.{kept_of as kept_for, setup_of}
use Rattle.tick_rules.specs.declared.standpoint.Standpoint.{Standpoint}
use Rattle.synod_acceptor.specs.Packets.{packet_of}
use Rattle.synod_acceptor.specs.Records.{record_at}
use Rattle.synod_acceptor.specs.declared.packet.Packet.{Packet as Sent}
use Rattle.node_parts.specs.declared.message.Message.{Message as Filed}
use Rattle.node_parts.specs.declared.outputs.Outputs.{Outputs as Sent-outputs}
use Rattle.node_parts.specs.Attempting.{IsBacked}
use Rattle.node_parts.specs.Lists.{listed}
use Rattle.node_parts.specs.Messages.{IsConcluded, IsOf, IsOfSame, IsTriedSo, closed_at, granted_at, message_of, prepare_from, with_start}
use Rattle.node_parts.proofs.Attempting.{still_of}
use Rattle.node_parts.proofs.Starting.{prepare_same, start_same, started_with}
use Rattle.node_kept.specs.declared.kept.Kept.{Kept as Holding}
use Rattle.node_kept.specs.declared.step.Next.{Next}
use Rattle.node_kept.specs.declared.step.Step.{Step}
use Rattle.node_model.specs.Reported.{receipt_of}
use Rattle.node_kept.specs.Keeping.{AreOwn, IsTaken, kept_of}
use Rattle.node_kept.specs.Steps.{IsLeft, IsNext, IsStep, giving, granted_of}
use Rattle.node_kept.proofs.Leaving.{left}

-- ---- an outcome

pub concluded_for : (s : Standpoint) (setup : Setup) (k : Kept) → s.author.node ≡ setup.node → s.author.incarnation ≡ k.incarnation → s.clock ≡ k.clock →
    (slot : Slot) (outcome : Outcome) (known : Option (List Decree)) → concluded (setup_of s)
    (kept_for s) slot outcome known ≡ concluded setup k slot outcome known
concluded_for s setup k node incarnation clock slot outcome None = refl
concluded_for s setup k node incarnation clock slot outcome (Some []) = refl
concluded_for s setup k node incarnation clock slot outcome (Some (newest ∷ older)) =
    λ i. concluded (record setup { node = node i }) (record k { incarnation = incarnation i; clock = clock i }) slot outcome (Some (newest ∷ older))

pub answered_here : (k : Holding) (s : Standpoint) (slot : Slot) (outcome : Outcome) (taken new : Filed) (packet : Option Sent) (step : Step) → AreOwn k →
    s.author.node ≡ k.setup.node → s.author.incarnation ≡ k.incarnation → s.clock ≡ k.clock → IsTaken k slot.id taken →
    (IsOf s.author.node s.author.incarnation taken.learner.nodes slot.id taken → IsConcluded s taken slot outcome new packet) →
    IsLeft k slot.id new (giving (listed (option_map packet_of packet)) []) step →
    IsStep k (on_response k.setup (kept_of k) slot outcome) step
answered_here k s slot outcome taken new packet step own node incarnation clock is_taken concludes is_left =
    let of = is_taken.own own in
    let is = concludes (record {
      learner = refl;
      node = of.node ∙ sym node;
      incarnation = of.incarnation ∙ sym incarnation;
      proposer = of.proposer ∙ sym of.learner;
      named = of.named;
      backed = λ place granted.
          subst (λ (n : ℕ). IsBacked n s.author.incarnation place (message_of slot.id taken).known) (sym node)
          (subst (λ (n : ℕ). IsBacked k.setup.node n place (message_of slot.id taken).known) (sym incarnation) (of.backed place granted));
    }) in
    let m = message_at (kept_of k) slot.id in
    let closed = closed_at m slot.place outcome in
    let start = concluded k.setup (kept_of k) slot outcome m.known in
    let starts = (λ i. concluded (setup_of s) (kept_for s) slot outcome (is_taken.message i).known) ∙ concluded_for s k.setup
    (kept_of k) node incarnation clock slot outcome m.known in
    let to = with_start k.setup.node k.incarnation (kept_of k).records closed slot.id start in
    let sent = prepare_from k.setup.node k.incarnation (kept_of k).records closed slot.id start in
    let message : message_of slot.id new ≡ to =
    is.message
    ∙ (λ i. with_start (of.node i) (of.incarnation i) (record_at taken.acceptor) (closed_at (is_taken.message i) slot.place outcome) slot.id (starts i))
    ∙ start_same k.setup.node k.incarnation (record_at taken.acceptor) (kept_of k).records closed slot.id is_taken.records start in
    let packets : option_map packet_of packet ≡ sent =
    is.prepares
    ∙ (λ i. prepare_from (of.node i) (of.incarnation i) (record_at taken.acceptor) (closed_at (is_taken.message i) slot.place outcome) slot.id (starts i))
    ∙ prepare_same k.setup.node k.incarnation (record_at taken.acceptor) (kept_of k).records closed slot.id is_taken.records start in
    subst (λ (to : Stepped). IsStep k to step) (sym (ap concluded_then (started_with k.setup (kept_of k) slot.id closed start)))
    (left k slot.id taken new to (giving (listed sent) []) step is_taken is.same message
    (subst (λ (p : Option Packet). IsLeft k slot.id new (giving (listed p) []) step) packets is_left))

-- ---- a grant

-- what is not refused ends in an attempt of this node and incarnation
grant_backs : (setup : Setup) (k : Kept) (m : Message) (known : Option (List Decree)) → known_refusal setup k m known ≡ None →
    IsBacked setup.node k.incarnation (known_place known) known
grant_backs setup k m None given = absurd (cc)
grant_backs setup k m (Some []) given = absurd (cc)
grant_backs setup k m (Some (newest ∷ older)) given = (omega arith, λ same. by_kind newest.kind given)
  where
    by_node : (node : Bool) (incarnation : Bool) →
        (if not node then Some NotMine else if not incarnation then Some OlderIncarnation else own_refusal m (length older)) ≡ None →
        (node && incarnation) ≡ true
    by_node true true given = refl
    by_node true false given = absurd (cc)
    by_node false incarnation given = absurd (cc)

    by_kind : (kind : Kind) → newest_refusal setup k m newest (length older) kind ≡ None →
        (is_attempt_by setup.node newest kind && newest.author.incarnation == k.incarnation) ≡ true
    by_kind (Taken message) given = absurd (cc)
    by_kind (Attempt number) given = by_node (newest.author.node == setup.node) (newest.author.incarnation == k.incarnation) given
    by_kind (Failed error) given = absurd (cc)
    by_kind (Fate final error) given = absurd (cc)
    by_kind Told given = absurd (cc)

granted_here : (k : Holding) (id : ℕ) (taken new : Filed) (step : Step) → AreOwn k → grant_refusal k.setup (kept_of k) id ≡ None →
    IsTaken k id taken → IsTriedSo taken (λ m. granted_at m (known_place (message_at (kept_of k) id).known)) new →
    IsLeft k id new (record nothing { granted = Some (known_slot (kept_of k) id) }) step → IsStep k (on_grant (kept_of k) (known_slot (kept_of k) id)) step
granted_here k id taken new step own given is_taken is is_left =
    let m = message_at (kept_of k) id in
    let same : IsOfSame id taken new =
    still_of id taken new (λ n. granted_at n place) is (λ me starts nodes other of granted. at_place me starts nodes other of (other == place) refl granted) in
    left k id taken new (granted_at m place) (record nothing { granted = Some (known_slot (kept_of k) id) }) step is_taken same
    (is.message id ∙ ap (λ (n : Message). granted_at n place) is_taken.message) is_left
  where
    place : ℕ
    place = known_place (message_at (kept_of k) id).known

    own_of : IsOf k.setup.node k.incarnation k.setup.nodes id taken
    own_of = is_taken.own own

    here : IsBacked k.setup.node k.incarnation place (message_of id taken).known
    here =
        let m = message_at (kept_of k) id in
        subst (λ (n : Message). IsBacked k.setup.node k.incarnation place n.known) (sym is_taken.message) (grant_backs k.setup (kept_of k) m m.known given)

    at_place : (me starts nodes other : ℕ) → IsOf me starts nodes id taken → (test : Bool) → (other == place) ≡ test →
        (if test then true else (message_of id taken).granted other) ≡ true → IsBacked me starts other (message_of id taken).known
    at_place me starts nodes other of true same granted =
        let node : k.setup.node ≡ me = sym own_of.node ∙ of.node in
        let incarnation : k.incarnation ≡ starts = sym own_of.incarnation ∙ of.incarnation in
        let is : place ≡ other = sym ((Decides-eqb other place).0 same) in
        subst (λ (p : ℕ). IsBacked me starts p (message_of id taken).known) is
        (subst (λ (n : ℕ). IsBacked n starts place (message_of id taken).known) node
        (subst (λ (i : ℕ). IsBacked k.setup.node i place (message_of id taken).known) incarnation here))
    at_place me starts nodes other of false differs granted = of.backed other granted

pub granted_step : (k : Holding) (id place : ℕ) (chain : Chain) (taken new : Filed) (outputs : Sent-outputs) (next : Next) → AreOwn k →
    grant_refusal k.setup (kept_of k) id ≡ None → (message_at (kept_of k) id).known ≡ Some chain.decrees → chain.id ≡ id →
    place ≡ pred (length chain.decrees) → IsTaken k id taken → IsTriedSo taken (λ m. granted_at m place) new →
    outputs.ticket ≡ None → outputs.refused ≡ None → outputs.packets.items ≡ [] → outputs.replies.items ≡ [] → outputs.receipts.items ≡ [] →
    outputs.granted ≡ Some chain →
    IsNext k id new next →
    IsStep k (on_grant (kept_of k) (known_slot (kept_of k) id)) (record { outputs = outputs; next = next })
granted_step k id place chain taken new outputs next own given known of at is_taken is ticket refused packets replies receipts granted is_next =
    let slot : granted_of chain ≡ known_slot (kept_of k) id = λ i. slot_at (of i) (known_place (sym known i)) in
    let here = at ∙ sym (ap known_place known) in
    granted_here k id taken new (record { outputs = outputs; next = next }) own given is_taken
    (subst (λ (p : ℕ). IsTriedSo taken (λ m. granted_at m p) new) here is) (record {
      gives =
          (λ i. record nothing {
            ticket = ticket i;
            refused = option_map status_code (refused i);
            packets = map packet_of (packets i);
            replies = map reply_given (replies i);
            receipts = map receipt_of (receipts i);
            granted = option_map granted_of (granted i);
          })
          ∙ (λ i. record nothing { granted = Some (slot i) });
      next = is_next;
    })
