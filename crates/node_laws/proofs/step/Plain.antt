-- The step of a node to which a packet comes that settles and answers nothing: what is kept of the requests and what is known stay.
use Rattle.std.proofs.Common.{◌≡◌, ℕ, false, List, [], ◌∷◌, ◌++◌, Option, Some, None, refl, sym, ap, subst, ◌∙◌, inl, inr}
use Rattle.mc_model.specs.message.Decree.{Decree}
use Rattle.mc_model.specs.synod.Packet.{Packet}
use Rattle.mc_model.specs.synod.Lists.{In}
use Rattle.mc_model.specs.node.Act.{Act, Asks, Prepares, Receives, Replies, Reports, Settles}
use Rattle.mc_model.specs.node.Alone.{Node}
use Rattle.mc_model.specs.node.Causes.{Causes, CausesDelete, CausesFollow}
use Rattle.mc_model.specs.node.Concerns.{Concerns}
use Rattle.mc_model.specs.node.Core.{AcceptorReplies}
use Rattle.mc_model.specs.node.Due.{AreDueOnce}
use Rattle.mc_model.specs.node.Input.{Delivery}
use Rattle.mc_model.specs.node.Knowledge.{IsKnown, Knows}
use Rattle.mc_model.specs.node.Phases.{DueToAsk, DueToPrepare, DueToPropose, DueToReply, DueToReport, DueToSettle}
use Rattle.mc_model.specs.node.Setup.{Setup}
use Rattle.mc_model.specs.node.Step.{IsExact}
use Rattle.mc_parts.proofs.Tellings.{unannounced}
use Rattle.node_model.specs.Kept.{Held, Kept, message_at}
use Rattle.node_model.specs.Answers.{answer_to}
use Rattle.node_model.specs.Requests.{id_of, settles}
use Rattle.node_model.specs.Outputs.{sends}
use Rattle.node_laws.specs.Stands.{Agrees, Stands}
use Rattle.node_laws.specs.Steps.{IsAtWork, StepsAs}
use Rattle.node_laws.proofs.invariant.Answered.{known_is}
use Rattle.node_laws.proofs.invariant.Hearing.{received}
use Rattle.mc_laws.proofs.story.FirstStep.{none_due, none_due_once}
use Rattle.node_laws.proofs.invariant.Deciding.{IsCalm, calm_of, quiet_of}

-- proposals alone
alone : (core proposes : List Act) → proposes ++ core ≡ [] ++ [] ++ proposes ++ [] ++ [] ++ [] ++ [] ++ [] ++ core
alone core [] = refl
alone core (act ∷ proposes) = ap (λ (acts : List Act). act ∷ acts) (alone core proposes)

-- what is known of each message, and the requests that wait, are as before
pub record IsUnmoved (before after : Kept) : Type 0 where
  pub held : after.held ≡ before.held
  pub known : (id : ℕ) → (message_at after id).known ≡ (message_at before id).known

pub calm_still : (nodes : ℕ) (before after : Kept) → IsUnmoved before after → IsCalm nodes before → IsCalm nodes after
calm_still nodes before after same calm = record {
  settled = λ h among.
      subst (λ (known : Option (List Decree)). settles nodes known h ≡ false) (sym (same.known (id_of h)))
      (calm.settled h (subst (λ (hs : List Held). In h hs) same.held among));
  answered = λ h among.
      subst (λ (known : Option (List Decree)). answer_to nodes known h ≡ None) (sym (same.known (id_of h)))
      (calm.answered h (subst (λ (hs : List Held). In h hs) same.held among));
}

module _ (setup : Setup) (k : Kept) (s : Node) (stands : Stands setup k s) (packet : Packet)
    (follows : (id place : ℕ) (chain : List Decree) → CausesFollow setup.nodes setup.node s.actor (received s packet).actor
    (Delivery packet) id place chain → ⊥) (k' : Kept)
    (after : Agrees setup k' (received s packet)) (same : IsUnmoved k k') where
  abbrev t : Node
  t = received s packet

  pub calm_then : IsCalm setup.nodes k'
  calm_then = calm_still setup.nodes k k' same (calm_of setup k s stands.agrees stands.quiet)

  -- what it knows then it knew
  pub knew : (id : ℕ) (chain : List Decree) → Knows setup.nodes t.actor.received id chain → Knows setup.nodes s.actor.received id chain
  knew id chain knows =
      let now : (message_at k' id).known ≡ Some chain = known_is setup.nodes id t.actor.received (message_at k' id).known chain
      (after.message id).heard.known knows in
      subst (IsKnown setup.nodes s.actor.received id) (sym (same.known id) ∙ now) (stands.agrees.message id).heard.known

  settles_none : (act : Act) → DueToSettle setup.nodes setup.node t.actor act → ⊥
  settles_none (Settles ticket) due = (quiet_of setup k' t after calm_then).settled ticket due
  settles_none act due = due

  asks_none : (act : Act) → DueToAsk setup.nodes setup.node s.actor t.actor (Delivery packet) act → ⊥
  asks_none (Asks id ticket) due = due
  asks_none act due = due

  deletes_none : (id place : ℕ) (chain : List Decree) → CausesDelete setup.nodes setup.node s.actor t.actor id place chain → ⊥
  deletes_none id place chain deletes =
      let cancelled = deletes.deletes.cancelled in
      deletes.new
      (record { waiting = cancelled.waiting; waits = cancelled.waits; ticket_is = refl; settled = cancelled.settled })
      (knew id _ deletes.deletes.further.known)

  causes_none : (id place : ℕ) (chain : List Decree) → Causes setup.nodes setup.node s.actor t.actor (Delivery packet) id place chain → ⊥
  causes_none id place chain (inl take) = take
  causes_none id place chain (inr (inl close)) = close
  causes_none id place chain (inr (inr (inl it))) = follows id place chain it
  causes_none id place chain (inr (inr (inr (inl deletes)))) = deletes_none id place chain deletes
  causes_none id place chain (inr (inr (inr (inr tells)))) = unannounced setup.nodes setup.node s.actor t.actor id place chain (knew id) tells

  prepares_none : (act : Act) → DueToPrepare setup.nodes setup.node s.actor t.actor s.records (Delivery packet) act → ⊥
  prepares_none (Prepares slot ballot chain) due = causes_none slot.id slot.place chain due.0
  prepares_none act due = due

  replies_none : (act : Act) → DueToReply setup.nodes setup.node t.actor act → ⊥
  replies_none (Replies ticket id answer) due = (quiet_of setup k' t after calm_then).answered ticket id answer due
  replies_none act due = due

  reports_none : (act : Act) → DueToReport setup.nodes setup.node s.actor t.actor act → ⊥
  reports_none (Reports id chain) due = due.new (knew id chain due.known)
  reports_none act due = due

  -- it is received, and proposes what is due
  pub received_exact : (proposes : List Act) → AreDueOnce (DueToPropose setup.nodes setup.node s.actor t.actor) proposes →
      Concerns setup.nodes setup.node s.actor packet → AcceptorReplies s.records packet [] →
      IsExact setup s.actor s.records (Delivery packet) (proposes ++ Receives packet ∷ [])
  received_exact proposes due concerned replies = record {
    core = Receives packet ∷ [];
    settles = [];
    late = [];
    asks = [];
    abandons = [];
    prepares = [];
    proposes = proposes;
    replies = [];
    reports = [];
    acts_are = alone (Receives packet ∷ []) proposes;
    core_is = inl (concerned, record { answer = []; answered = replies; acts_are = refl });
    settled = none_due _ settles_none;
    ended = none_due _ (λ act due. due);
    asked = none_due _ asks_none;
    abandoned = none_due _ (λ act due. due);
    prepared = none_due_once _ prepares_none;
    proposed = due;
    replied = none_due _ replies_none;
    reported = none_due _ reports_none;
  }

  -- and it proposes nothing
  pub plain_steps : IsAtWork setup s → Concerns setup.nodes setup.node s.actor packet → AcceptorReplies s.records packet [] →
      ((act : Act) → DueToPropose setup.nodes setup.node s.actor t.actor act → ⊥) → StepsAs setup s (Delivery packet) (sends k' [] [] [])
  plain_steps works concerned replies none = record {
    acts = Receives packet ∷ [];
    taken = record {
      run = (record { least = works.least; most = works.most; up = works.up; needs = tt }, tt);
      exact = received_exact [] (none_due_once _ none) concerned replies;
    };
    stands = record { agrees = after; quiet = quiet_of setup k' t after calm_then };
    outputs = refl;
  }
