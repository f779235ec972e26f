-- The acts of a step that its input alone does.
use Rattle.std.proofs.Common.{◌≡◌, ℕ, true, false, List, [], ◌∷◌, ◌++◌, refl, subst, inl, inr}
use Rattle.mc_model.specs.synod.Lists.{In}
use Rattle.mc_model.specs.synod.Acceptor.{Records}
use Rattle.mc_model.specs.synod.Packet.{Ask, Packet, Prepare, Promise, Propose, Refused, Tell, Voted}
use Rattle.mc_model.specs.node.Act.{Abandons, Act, Asks, Begins, Concludes, Grants, Prepares, Proposes, Receives, Replies, Reports, Restarts, Settles, Stops}
use Rattle.mc_model.specs.node.Actor.{Actor}
use Rattle.mc_model.specs.node.Core.{AcceptorReplies, IsCore, IsHandled, IsReceived, IsSaved}
use Rattle.mc_model.specs.node.Input.{Arrival, Crash, Delivery, Grant, Input, Refusal, Response, Restart, Tick}
use Rattle.mc_model.specs.node.Phases.{DueToAbandon, DueToAsk, DueToEnd, DueToPrepare, DueToPropose, DueToReply, DueToReport, DueToSettle}
use Rattle.mc_model.specs.node.Setup.{Setup}
use Rattle.mc_model.specs.node.Step.{IsExact}
use Rattle.mc_parts.proofs.Membership.{in_either, of_only}

-- an attempt is granted and concluded, a request begins and a node starts anew as an input says so
abbrev pub IsBy : Input → Act → Type 0
IsBy input (Grants slot) = input ≡ Grant slot
IsBy input (Concludes slot outcome) = input ≡ Response slot outcome
IsBy input (Begins ticket request) = input ≡ Arrival request
IsBy input (Restarts lost serial) = input ≡ Restart lost
IsBy input act = Unit {0}

abbrev AreBy : Input → List Act → Type 0
AreBy input acts = (act : Act) → In act acts → IsBy input act

none_by : (input : Input) (acts : List Act) → acts ≡ [] → AreBy input acts
none_by input acts none act among = absurd (subst (In act) none among)

only_by : (input : Input) (acts : List Act) (only : Act) → acts ≡ only ∷ [] → IsBy input only → AreBy input acts
only_by input acts only same by act among = of_only (IsBy input) only act by (subst (In act) same among)

both_by : (input : Input) (front back : List Act) → AreBy input front → AreBy input back → AreBy input (front ++ back)
both_by input front back one other act among = elim (in_either act front back among) [ inl first ↦ one act first | inr second ↦ other act second ]

-- ---- what is due besides

module _ (nodes node : ℕ) (before a : Actor) (records : Records) (input : Input) where
  settles_by : (act : Act) → DueToSettle nodes node a act → IsBy input act
  settles_by (Settles ticket) due = tt
  settles_by act due = absurd due

  proposes_by : (act : Act) → DueToPropose nodes node before a act → IsBy input act
  proposes_by (Proposes slot vote) due = tt
  proposes_by act due = absurd due

  replies_by : (act : Act) → DueToReply nodes node a act → IsBy input act
  replies_by (Replies ticket id answer) due = tt
  replies_by act due = absurd due

  reports_by : (act : Act) → DueToReport nodes node before a act → IsBy input act
  reports_by (Reports id chain) due = tt
  reports_by act due = absurd due

  prepares_by : (act : Act) → DueToPrepare nodes node before a records input act → IsBy input act
  prepares_by (Prepares slot ballot chain) due = tt
  prepares_by act due = absurd due

ends_by : (a : Actor) (input : Input) (act : Act) → DueToEnd input a act → IsBy input act
ends_by a (Tick moment reach) (Replies ticket id answer) due = tt
ends_by a (Tick moment reach) act due = absurd due
ends_by a (Delivery packet) act due = absurd due
ends_by a (Crash packet after) act due = absurd due
ends_by a (Arrival request) act due = absurd due
ends_by a (Refusal status) act due = absurd due
ends_by a (Grant slot) act due = absurd due
ends_by a (Response slot outcome) act due = absurd due
ends_by a (Restart lost) act due = absurd due

asks_by : (nodes node : ℕ) (before a : Actor) (input : Input) (act : Act) → DueToAsk nodes node before a input act → IsBy input act
asks_by nodes node before a (Tick moment reach) (Asks id ticket) due = tt
asks_by nodes node before a (Tick moment reach) act due = absurd due
asks_by nodes node before a (Delivery packet) (Asks id ticket) due = tt
asks_by nodes node before a (Delivery packet) act due = absurd due
asks_by nodes node before a (Crash packet after) (Asks id ticket) due = tt
asks_by nodes node before a (Crash packet after) act due = absurd due
asks_by nodes node before a (Arrival request) (Asks id ticket) due = tt
asks_by nodes node before a (Arrival request) act due = absurd due
asks_by nodes node before a (Refusal status) (Asks id ticket) due = tt
asks_by nodes node before a (Refusal status) act due = absurd due
asks_by nodes node before a (Grant slot) (Asks id ticket) due = tt
asks_by nodes node before a (Grant slot) act due = absurd due
asks_by nodes node before a (Response slot outcome) (Asks id ticket) due = tt
asks_by nodes node before a (Response slot outcome) act due = absurd due
asks_by nodes node before a (Restart lost) (Asks id ticket) due = tt
asks_by nodes node before a (Restart lost) act due = absurd due

abandons_by : (nodes node : ℕ) (a : Actor) (records : Records) (input : Input) (act : Act) → DueToAbandon nodes node a records input act → IsBy input act
abandons_by nodes node a records (Tick moment reach) (Abandons slot) due = tt
abandons_by nodes node a records (Tick moment reach) act due = absurd due
abandons_by nodes node a records (Delivery packet) act due = absurd due
abandons_by nodes node a records (Crash packet after) act due = absurd due
abandons_by nodes node a records (Arrival request) act due = absurd due
abandons_by nodes node a records (Refusal status) act due = absurd due
abandons_by nodes node a records (Grant slot) act due = absurd due
abandons_by nodes node a records (Response slot outcome) act due = absurd due
abandons_by nodes node a records (Restart lost) act due = absurd due

-- ---- what the input does

answered_by : (records : Records) (input : Input) (packet : Packet) (acts : List Act) → AcceptorReplies records packet acts → AreBy input acts
answered_by records input (Prepare sender slot ballot) acts (inl it) = only_by input acts _ it.1 tt
answered_by records input (Prepare sender slot ballot) acts (inr it) = only_by input acts _ it.1 tt
answered_by records input (Propose sender slot vote) acts (inl it) = only_by input acts _ it.1 tt
answered_by records input (Propose sender slot vote) acts (inr it) = only_by input acts _ it.1 tt
answered_by records input (Ask sender id name) acts it = only_by input acts _ it.2 tt
answered_by records input (Promise sender slot ballot report) acts none = none_by input acts none
answered_by records input (Voted sender slot vote) acts none = none_by input acts none
answered_by records input (Refused sender slot ballot promised) acts none = none_by input acts none
answered_by records input (Tell sender name told) acts none = none_by input acts none

two_by : (input : Input) (acts : List Act) (first second : Act) → acts ≡ first ∷ second ∷ [] → IsBy input first → IsBy input second → AreBy input acts
two_by input acts first second same one other act among =
    both_by input (first ∷ []) (second ∷ []) (only_by input _ first refl one) (only_by input _ second refl other) act (subst (In act) same among)

saved_by : (records : Records) (input : Input) (packet : Packet) (acts : List Act) → IsSaved records packet acts → AreBy input acts
saved_by records input (Prepare sender slot ballot) acts (inl it) = two_by input acts _ _ it.1 tt tt
saved_by records input (Prepare sender slot ballot) acts (inr it) = none_by input acts it.1
saved_by records input (Propose sender slot vote) acts (inl it) = two_by input acts _ _ it.1 tt tt
saved_by records input (Propose sender slot vote) acts (inr it) = none_by input acts it.1
saved_by records input (Ask sender id name) acts none = none_by input acts none
saved_by records input (Promise sender slot ballot report) acts none = none_by input acts none
saved_by records input (Voted sender slot vote) acts none = none_by input acts none
saved_by records input (Refused sender slot ballot promised) acts none = none_by input acts none
saved_by records input (Tell sender name told) acts none = none_by input acts none

received_by : (records : Records) (packet : Packet) (acts : List Act) → IsReceived records packet acts → AreBy (Delivery packet) acts
received_by records packet acts it act among =
    both_by (Delivery packet) it.answer (Receives packet ∷ []) (answered_by records (Delivery packet) packet it.answer it.answered)
    (only_by (Delivery packet) _ (Receives packet) refl tt) act (subst (In act) it.acts_are among)

stopped_by : (input : Input) (acts before : List Act) → acts ≡ Stops ∷ before → AreBy input before → AreBy input acts
stopped_by input acts before same by act among = both_by input (Stops ∷ []) before (only_by input _ Stops refl tt) by act (subst (In act) same among)

handled_by : (input : Input) (Concerned : Type 0) (Does : List Act → Type 0) (acts : List Act) → (Does acts → AreBy input acts) →
    IsHandled Concerned Does acts → AreBy input acts
handled_by input Concerned Does acts does (inl handled) = does handled.1
handled_by input Concerned Does acts does (inr ignored) = none_by input acts ignored.1

core_by : (setup : Setup) (a : Actor) (records : Records) (input : Input) (acts : List Act) → IsCore setup a records input acts → AreBy input acts
core_by setup a records (Delivery packet) acts it = handled_by (Delivery packet) _ (IsReceived records packet) acts (received_by records packet acts) it
core_by setup a records (Crash packet false) acts same = only_by (Crash packet false) acts Stops same tt
core_by setup a records (Crash packet true) acts it =
    stopped_by (Crash packet true) acts it.before it.acts_are
    (handled_by (Crash packet true) _ (IsSaved records packet) it.before (saved_by records (Crash packet true) packet it.before) it.handled)
core_by setup a records (Arrival request) acts same = only_by (Arrival request) acts _ same refl
core_by setup a records (Refusal status) acts it = none_by (Refusal status) acts it.1
core_by setup a records (Tick moment reach) acts same = only_by (Tick moment reach) acts _ same tt
core_by setup a records (Grant slot) acts same = only_by (Grant slot) acts _ same refl
core_by setup a records (Response slot outcome) acts same = only_by (Response slot outcome) acts _ same refl
core_by setup a records (Restart lost) acts same = only_by (Restart lost) acts _ same refl

-- ---- the whole step

pub acts_by : (setup : Setup) (a : Actor) (records : Records) (input : Input) (acts : List Act) → IsExact setup a records input acts →
    (act : Act) → In act acts → IsBy input act
acts_by setup a records input acts e act among =
    both_by input _ e.core (both_by input _ e.settles (both_by input _ e.late (both_by input _ e.asks
    (both_by input _ e.abandons (both_by input _ e.prepares (both_by input _ e.proposes
    (both_by input e.reports e.replies
    (λ x is. reports_by setup.nodes setup.node a _ records input x ((e.reported.each x).0 is))
    (λ x is. replies_by setup.nodes setup.node a _ records input x ((e.replied.each x).0 is)))
    (λ x is. proposes_by setup.nodes setup.node a _ records input x (e.proposed.only x is)))
    (λ x is. prepares_by setup.nodes setup.node a _ _ input x (e.prepared.only x is)))
    (λ x is. abandons_by setup.nodes setup.node _ _ input x ((e.abandoned.each x).0 is)))
    (λ x is. asks_by setup.nodes setup.node a _ input x ((e.asked.each x).0 is)))
    (λ x is. ends_by _ input x ((e.ended.each x).0 is)))
    (λ x is. settles_by setup.nodes setup.node a _ records input x ((e.settled.each x).0 is)))
    (core_by setup a records input e.core e.core_is) act (subst (In act) e.acts_are among)
