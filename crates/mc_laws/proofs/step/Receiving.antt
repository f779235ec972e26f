-- The packet that a node receives in a step is the one that came by it.
use Rattle.std.proofs.Common.{◌≡◌, ℕ, true, false, List, [], ◌∷◌, ◌++◌, sym, subst, inl, inr}
use Rattle.mc_model.specs.synod.Lists.{In}
use Rattle.mc_model.specs.synod.Packet.{Ask, Packet, Prepare, Promise, Propose, Refused, Tell, Voted}
use Rattle.mc_model.specs.synod.Acceptor.{Records}
use Rattle.mc_model.specs.node.Setup.{Setup}
use Rattle.mc_model.specs.node.Actor.{Actor}
use Rattle.mc_model.specs.node.Act.{Act, Receives, Stops}
use Rattle.mc_model.specs.node.Effect.{did, saved}
use Rattle.mc_model.specs.node.Input.{Arrival, Crash, Delivery, Grant, Input, Refusal, Response, Restart, Tick}
use Rattle.mc_model.specs.node.Due.{AreDue, AreDueOnce}
use Rattle.mc_model.specs.node.Core.{AcceptorReplies, IsCore, IsSaved}
use Rattle.mc_model.specs.node.Phases.{DueToAbandon, DueToAsk, DueToEnd}
use Rattle.mc_model.specs.node.Step.{IsExact}
use Rattle.mc_model.specs.cluster.World.{World}
use Rattle.mc_model.specs.cluster.Steps.{CameTo}
use Rattle.mc_parts.proofs.Membership.{in_either}

abbrev ReceivesNone : List Act → Type 0
ReceivesNone acts = (packet : Packet) → In (Receives packet) acts → ⊥

abbrev ReceivesOnly : Packet → List Act → Type 0
ReceivesOnly packet acts = (other : Packet) → In (Receives other) acts → other ≡ packet

none_of_one : (act : Act) (acts : List Act) → ((packet : Packet) → Receives packet ≡ act → ⊥) → acts ≡ act ∷ [] → ReceivesNone acts
none_of_one act acts apart is packet is_in = elim (subst (In (Receives packet)) is is_in) [ inl same ↦ apart packet same | inr none ↦ none ]

none_of_none : (acts : List Act) → acts ≡ [] → ReceivesNone acts
none_of_none acts is packet is_in = subst (In (Receives packet)) is is_in

answer_receives : (records : Records) (packet : Packet) (acts : List Act) → AcceptorReplies records packet acts → ReceivesNone acts
answer_receives records (Prepare sender slot ballot) acts (inl a) = none_of_one _ acts (λ packet same. cc) a.1
answer_receives records (Prepare sender slot ballot) acts (inr a) = none_of_one _ acts (λ packet same. cc) a.1
answer_receives records (Propose sender slot vote) acts (inl a) = none_of_one _ acts (λ packet same. cc) a.1
answer_receives records (Propose sender slot vote) acts (inr a) = none_of_one _ acts (λ packet same. cc) a.1
answer_receives records (Ask sender id name) acts a = none_of_one _ acts (λ packet same. cc) a.2
answer_receives records (Promise sender slot ballot report) acts a = none_of_none acts a
answer_receives records (Voted sender slot vote) acts a = none_of_none acts a
answer_receives records (Refused sender slot ballot promised) acts a = none_of_none acts a
answer_receives records (Tell sender name told) acts a = none_of_none acts a

only_of_two : (first : Act) (packet : Packet) (acts : List Act) → ((other : Packet) → Receives other ≡ first → ⊥) →
    acts ≡ first ∷ Receives packet ∷ [] →
    ReceivesOnly packet acts
only_of_two first packet acts apart is other is_in = elim (subst (In (Receives other)) is is_in) [
  | inl same ↦ absurd (apart other same)
  | inr rest ↦ elim rest [ inl same ↦ cc | inr none ↦ absurd none ]
]

saved_receives : (records : Records) (packet : Packet) (acts : List Act) → IsSaved records packet acts → ReceivesOnly packet acts
saved_receives records (Prepare sender slot ballot) acts (inl a) = only_of_two _ _ acts (λ packet same. cc) a.1
saved_receives records (Prepare sender slot ballot) acts (inr a) = λ other is_in. absurd (none_of_none acts a.1 other is_in)
saved_receives records (Propose sender slot vote) acts (inl a) = only_of_two _ _ acts (λ packet same. cc) a.1
saved_receives records (Propose sender slot vote) acts (inr a) = λ other is_in. absurd (none_of_none acts a.1 other is_in)
saved_receives records (Ask sender id name) acts a = λ other is_in. absurd (none_of_none acts a other is_in)
saved_receives records (Promise sender slot ballot report) acts a = λ other is_in. absurd (none_of_none acts a other is_in)
saved_receives records (Voted sender slot vote) acts a = λ other is_in. absurd (none_of_none acts a other is_in)
saved_receives records (Refused sender slot ballot promised) acts a = λ other is_in. absurd (none_of_none acts a other is_in)
saved_receives records (Tell sender name told) acts a = λ other is_in. absurd (none_of_none acts a other is_in)

-- what a core receives is the packet of its input
abbrev pub ComesWith : Input → Packet → Type 0
ComesWith (Delivery packet) other = other ≡ packet
ComesWith (Crash packet after) other = other ≡ packet
ComesWith input other = ⊥

-- and that packet was sent before
pub came_by_input : (w : World) (input : Input) (packet : Packet) → CameTo w input → ComesWith input packet → In packet w.packets
came_by_input w (Delivery packet) other came same = subst (λ (p : Packet). In p w.packets) (sym same) came
came_by_input w (Crash packet after) other came same = subst (λ (p : Packet). In p w.packets) (sym same) came
came_by_input w (Arrival request) other came none = absurd none
came_by_input w (Refusal status) other came none = absurd none
came_by_input w (Tick moment reach) other came none = absurd none
came_by_input w (Grant slot) other came none = absurd none
came_by_input w (Response slot outcome) other came none = absurd none
came_by_input w (Restart lost) other came none = absurd none

received_only : (records : Records) (packet : Packet) (answer acts : List Act) → ReceivesNone answer →
    acts ≡ answer ++ Receives packet ∷ [] →
    ReceivesOnly packet acts
received_only records packet answer acts none is other is_in =
    elim (in_either (Receives other) answer (Receives packet ∷ []) (subst (In (Receives other)) is is_in)) [
      | inl early ↦ absurd (none other early)
      | inr last ↦ elim last [ inl same ↦ cc | inr nothing ↦ absurd nothing ]
    ]

stopped_only : (packet : Packet) (before acts : List Act) → ReceivesOnly packet before → acts ≡ Stops ∷ before → ReceivesOnly packet acts
stopped_only packet before acts only is other is_in = elim (subst (In (Receives other)) is is_in) [ inl same ↦ cc | inr early ↦ only other early ]

core_receives : (setup : Setup) (a : Actor) (records : Records) (input : Input) (acts : List Act) → IsCore setup a records input acts →
    (packet : Packet) → In (Receives packet) acts →
    ComesWith input packet
core_receives setup a records (Delivery packet) acts (inl c) =
    received_only records packet c.1.answer acts (answer_receives records packet c.1.answer c.1.answered) c.1.acts_are
core_receives setup a records (Delivery packet) acts (inr c) = λ other is_in. absurd (none_of_none acts c.1 other is_in)
core_receives setup a records (Crash packet false) acts c = λ other is_in. absurd (none_of_one Stops acts (λ packet same. cc) c other is_in)
core_receives setup a records (Crash packet true) acts c = elim c.handled [
  | inl saves ↦ stopped_only packet c.before acts (saved_receives records packet c.before saves.1) c.acts_are
  | inr ignores ↦ stopped_only packet c.before acts (λ other is_in. absurd (none_of_none c.before ignores.1 other is_in)) c.acts_are
]
core_receives setup a records (Arrival request) acts c = none_of_one _ acts (λ packet same. cc) c
core_receives setup a records (Refusal status) acts c = none_of_none acts c.1
core_receives setup a records (Tick moment reach) acts c = none_of_one _ acts (λ packet same. cc) c
core_receives setup a records (Grant slot) acts c = none_of_one _ acts (λ packet same. cc) c
core_receives setup a records (Response slot outcome) acts c = none_of_one _ acts (λ packet same. cc) c
core_receives setup a records (Restart lost) acts c = none_of_one _ acts (λ packet same. cc) c

-- and nothing else that is due receives
due_receives : (Due : Act → Type 0) (acts : List Act) → ((packet : Packet) → Due (Receives packet) → ⊥) → AreDue Due acts → ReceivesNone acts
due_receives Due acts none due packet is_in = none packet ((due.each (Receives packet)).0 is_in)

once_receives : (Due : Act → Type 0) (acts : List Act) → ((packet : Packet) → Due (Receives packet) → ⊥) → AreDueOnce Due acts → ReceivesNone acts
once_receives Due acts none due packet is_in = none packet (due.only (Receives packet) is_in)

joined : (front back : List Act) → ReceivesNone front → ReceivesNone back → ReceivesNone (front ++ back)
joined front back none also packet is_in = elim (in_either (Receives packet) front back is_in) [ inl early ↦ none packet early | inr later ↦ also packet later ]

pub exact_receives : (setup : Setup) (a : Actor) (records : Records) (input : Input) (acts : List Act) → IsExact setup a records input acts →
    (packet : Packet) → In (Receives packet) acts →
    ComesWith input packet
exact_receives setup a records input acts e packet is_in =
    elim (in_either (Receives packet) _ e.core (subst (In (Receives packet)) e.acts_are is_in)) [
      | inl besides ↦ absurd (
          joined _ e.settles (joined _ e.late (joined _ e.asks (joined _ e.abandons (joined _ e.prepares (joined _ e.proposes (joined e.reports e.replies
          (due_receives _ e.reports (λ p none. none) e.reported)
          (due_receives _ e.replies (λ p none. none) e.replied))
          (once_receives _ e.proposes (λ p none. none) e.proposed))
          (once_receives _ e.prepares (λ p none. none) e.prepared))
          (due_receives _ e.abandons (not_abandoned input setup.nodes setup.node (did setup.node a (e.late ++ e.settles ++ e.core))
          (saved records e.core)) e.abandoned))
          (due_receives _ e.asks (not_asked input setup.nodes setup.node a (did setup.node a (e.late ++ e.settles ++ e.core))) e.asked))
          (due_receives _ e.late (not_ended input (did setup.node a (e.settles ++ e.core))) e.ended))
          (due_receives _ e.settles (λ p none. none) e.settled) packet besides)
      | inr own ↦ core_receives setup a records input e.core e.core_is packet own
    ]
  where
    not_ended : (input : Input) (a : Actor) (p : Packet) → DueToEnd input a (Receives p) → ⊥
    not_ended (Tick moment reach) a p none = none
    not_ended input a p none = none

    not_asked : (input : Input) (nodes node : ℕ) (before a : Actor) (p : Packet) → DueToAsk nodes node before a input (Receives p) → ⊥
    not_asked (Tick moment reach) nodes node before a p none = none
    not_asked input nodes node before a p none = none

    not_abandoned : (input : Input) (nodes node : ℕ) (a : Actor) (records : Records) (p : Packet) → DueToAbandon nodes node a records input (Receives p) → ⊥
    not_abandoned (Tick moment reach) nodes node a records p none = none
    not_abandoned input nodes node a records p none = none
