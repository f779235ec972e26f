-- An attempt that is granted: what is kept then, and which grants are refused.
use Rattle.std.proofs.Common.{◌≡◌, ◌↔◌, ℕ, Bool, true, false, List, [], ◌∷◌, Option, Some, None, refl, sym, ap, subst, ◌∙◌, inl, inr, arith, eqb-true}
use Rattle.std.specs.Prelude.{◌==◌, if◌then◌else◌}
use Rattle.std.proofs.lemmas.Bool.{eqb-false}
use Rattle.mc_model.specs.message.Decree.{Author, Decree}
use Rattle.mc_model.specs.message.Ids.{IsNode}
use Rattle.mc_model.specs.synod.Lists.{In}
use Rattle.mc_model.specs.synod.Packet.{Slot, slot_at}
use Rattle.mc_model.specs.node.Act.{Act, Asks, Grants, Prepares}
use Rattle.mc_model.specs.node.Alone.{MayAlone, Node}
use Rattle.mc_model.specs.node.Causes.{Causes, CausesDelete}
use Rattle.mc_model.specs.node.Grant.{MayGrant}
use Rattle.mc_model.specs.node.Input.{Grant}
use Rattle.mc_model.specs.node.Phases.{DueToAsk, DueToPrepare}
use Rattle.mc_model.specs.node.Setup.{Setup}
use Rattle.mc_parts.proofs.Tellings.{unannounced}
use Rattle.node_model.specs.Attempts.{on_grant}
use Rattle.node_model.specs.Kept.{Kept, message_at, with_message}
use Rattle.node_model.specs.Message.{Message}
use Rattle.node_model.specs.Answers.{answer_to}
use Rattle.node_model.specs.Requests.{id_of, settles}
use Rattle.node_model.specs.Stepped.{stepped, stepped_down, stepped_up}
use Rattle.node_laws.specs.Stands.{Agrees, CoversGrant, IsMessage, Stands}
use Rattle.node_laws.specs.Steps.{IsAtWork, StepsAs}
use Rattle.node_laws.proofs.invariant.Answered.{known_is}
use Rattle.node_laws.proofs.step.Beginning.{TellsNothing, begun_steps}
use Rattle.node_laws.proofs.invariant.Changing.{message_changed}
use Rattle.node_laws.proofs.invariant.Coherence.{IsLater, fit_later}
use Rattle.node_laws.proofs.invariant.Deciding.{IsCalm, calm_of}
use Rattle.node_laws.proofs.invariant.Messages.{each_with, listed_with}
use Rattle.node_laws.proofs.invariant.Owning.{IsGround}
use Rattle.node_laws.proofs.step.Started.{IsToPrepare, StartsAs, started_as}
use Rattle.mc_laws.proofs.story.FirstStep.{none_due}
use Rattle.shelf.proofs.Entries.{still_ascends}

module _ (setup : Setup) (k : Kept) (s : Node) (stands : Stands setup k s) (slot : Slot) (may : MayGrant setup.nodes setup.node s.actor slot) where
  abbrev granted : Node
  granted = record {
    actor = record s.actor { granted = slot ∷ s.actor.granted };
    records = s.records;
    began = s.began;
  }

  abbrev m : Message
  m = message_at k slot.id

  abbrev given : ℕ → Bool
  given other = if other == slot.place then true else m.granted other

  abbrev k1 : Kept
  k1 = with_message k slot.id (record m { granted = given })

  is : IsMessage setup s slot.id m
  is = stands.agrees.message slot.id

  ground : (id : ℕ) → IsGround setup.nodes id s.actor granted.actor
  ground id = record {
    incarnation = refl;
    clock = refl;
    submits = λ w message waits submits. waits;
    cancels = λ w taken waits settled cancels. waits;
    closed = λ other outcome is_in. is_in;
    learned = λ other vote learned. learned;
  }

  given_now : (place : ℕ) → (given place ≡ true) ↔ In (slot_at slot.id place) granted.actor.granted
  given_now place = by_place (place == slot.place) refl
    where
      by_place : (test : Bool) → (place == slot.place) ≡ test →
          ((if test then true else m.granted place) ≡ true) ↔ In (slot_at slot.id place) granted.actor.granted
      by_place true same = ((λ t. inl (ap (slot_at slot.id) (eqb-true place slot.place same))), (λ is_in. refl))
      by_place false differs = (
        λ t. inr ((is.attempts.granted place).0 t),
        λ is_in. elim is_in [
          | inl now ↦ absurd (eqb-false place slot.place differs (ap (λ (x : Slot). x.place) now))
          | inr before ↦ (is.attempts.granted place).1 before
        ],
      )

  -- the attempt is what is known
  known_attempt : m.known ≡ Some (may.attempting.newest ∷ may.attempting.older)
  known_attempt = known_is setup.nodes slot.id s.actor.received m.known (may.attempting.newest ∷ may.attempting.older) is.heard.known may.attempting.known

  covers_here : CoversGrant setup.node s.actor m.known slot.place
  covers_here = subst (λ (known : Option (List Decree)). CoversGrant setup.node s.actor known slot.place) (sym known_attempt) (
    (let places = ap (λ (x : Slot). x.place) may.attempting.place in omega arith),
    λ same. (
      ((may.attempting.number, may.attempting.attempt), ap (λ (a : Author). a.node) may.attempting.author),
      ap (λ (a : Author). a.incarnation) may.attempting.author,
    ),
  )

  covers_now : (place : ℕ) → In (slot_at slot.id place) granted.actor.granted → CoversGrant setup.node granted.actor m.known place
  covers_now place (inl now) = subst (λ (p : ℕ). CoversGrant setup.node s.actor m.known p) (sym (ap (λ (x : Slot). x.place) now)) covers_here
  covers_now place (inr before) = is.covers place before

  message_here : IsMessage setup granted slot.id (record m { granted = given })
  message_here =
      message_changed setup s s.actor.up s.actor.serial s.actor.ticket s.actor.waiting (slot ∷ s.actor.granted) s.actor.closed slot.id
      (ground slot.id) m given m.closed is
      (record { granted = given_now; closed = is.attempts.closed })
      covers_now

  message_other : (id : ℕ) → (id ≡ slot.id → ⊥) → IsMessage setup granted id (message_at k id)
  message_other id apart =
      let old = stands.agrees.message id in
      message_changed setup s s.actor.up s.actor.serial s.actor.ticket s.actor.waiting (slot ∷ s.actor.granted) s.actor.closed id (ground id) (message_at k id)
      (message_at k id).granted (message_at k id).closed old
      (record {
        granted = λ place. (
          λ t. inr ((old.attempts.granted place).0 t),
          λ is_in. elim is_in [ inl now ↦ absurd (apart (ap (λ (x : Slot). x.id) now)) | inr before ↦ (old.attempts.granted place).1 before ],
        );
        closed = old.attempts.closed;
      })
      (λ place is_in. elim is_in [ inl now ↦ absurd (apart (ap (λ (x : Slot). x.id) now)) | inr before ↦ old.covers place before ])

  granted_agrees : Agrees setup k1 granted
  granted_agrees = record {
    up = stands.agrees.up;
    incarnation = stands.agrees.incarnation;
    clock = stands.agrees.clock;
    serial = stands.agrees.serial;
    ticket = stands.agrees.ticket;
    records = stands.agrees.records;
    message = each_with (λ id it. IsMessage setup granted id it) k slot.id (record m { granted = given }) message_here message_other;
    waiting = stands.agrees.waiting;
    told = stands.agrees.told;
    tickets = stands.agrees.tickets;
    given = stands.agrees.given;
    listed = λ other vote voted. listed_with k.messages slot.id _ other.id (stands.agrees.listed other vote voted);
    ascends = still_ascends k.messages slot.id _ stands.agrees.ascends;
    placed = stands.agrees.placed;
    voted = stands.agrees.voted;
    coherent = record {
      life = stands.agrees.coherent.life;
      ticked = stands.agrees.coherent.ticked;
      fits = λ packet came. fit_later setup.node s.actor granted.actor is_later packet (stands.agrees.coherent.fits packet came);
      own = stands.agrees.coherent.own;
      prepared = stands.agrees.coherent.prepared;
      outcomes = stands.agrees.coherent.outcomes;
    };
  }
    where
      is_later : IsLater setup.node s.actor granted.actor
      is_later = record {
        incarnation = refl;
        sent = λ other ballot sent. sent;
        ticket = omega arith;
        serial = omega arith;
      }

  -- ---- the step

  module _ (works : IsAtWork setup s) (mine : IsNode setup.node) where
    calm : IsCalm setup.nodes k1
    calm =
        let before = calm_of setup k s stands.agrees stands.quiet in
        record {
          settled = λ h among. ap (λ (known : Option (List Decree)). settles setup.nodes known h) (same_known (id_of h)) ∙ before.settled h among;
          answered = λ h among. ap (λ (known : Option (List Decree)). answer_to setup.nodes known h) (same_known (id_of h)) ∙ before.answered h among;
        }
      where
        same_known : (id : ℕ) → (message_at k1 id).known ≡ (message_at k id).known
        same_known = each_with (λ id it. it.known ≡ (message_at k id).known) k slot.id (record m { granted = given }) refl (λ id apart. refl)

    abbrev Due : ℕ → ℕ → List Decree → Type 0
    Due id place chain = Causes setup.nodes setup.node s.actor granted.actor (Grant slot) id place chain

    deletes_none : (id place : ℕ) (chain : List Decree) → CausesDelete setup.nodes setup.node s.actor granted.actor id place chain → ⊥
    deletes_none id place chain deletes =
        let cancelled = deletes.deletes.cancelled in
        deletes.new (record { waiting = cancelled.waiting; waits = cancelled.waits; ticket_is = refl; settled = cancelled.settled })
        deletes.deletes.further.known

    due_none : (id place : ℕ) (chain : List Decree) → Due id place chain → ⊥
    due_none id place chain (inl take) = take
    due_none id place chain (inr (inl close)) = close
    due_none id place chain (inr (inr (inl follows))) = follows
    due_none id place chain (inr (inr (inr (inl deletes)))) = deletes_none id place chain deletes
    due_none id place chain (inr (inr (inr (inr tells)))) = unannounced setup.nodes setup.node s.actor granted.actor id place chain (λ known knows. knows) tells

    starts : StartsAs setup k1 granted slot.id (Due slot.id) (record { kept = k1; packets = [] })
    starts =
        started_as setup k1 granted granted_agrees mine (record { least = works.least; most = works.most; up = works.up }) slot.id (Due slot.id) None
        (due_none slot.id)

    tells : TellsNothing setup.node s (Grants slot)
    tells = record { records = refl; received = refl; packets = refl; replies = refl; receipts = refl }

    may_grant : MayAlone setup.nodes setup.node s (Grants slot)
    may_grant = record { least = works.least; most = works.most; up = works.up; needs = may }

    prepares_none : (act : Act) → DueToPrepare setup.nodes setup.node s.actor granted.actor s.records (Grant slot) act → ⊥
    prepares_none (Prepares other ballot chain) due = due_none other.id other.place chain due.0
    prepares_none act due = due

    asks_none : (act : Act) → DueToAsk setup.nodes setup.node s.actor granted.actor (Grant slot) act → ⊥
    asks_none (Asks id ticket) due = due
    asks_none act due = due

    on_grant_steps : StepsAs setup s (Grant slot) (on_grant k slot)
    on_grant_steps =
        begun_steps setup s (Grant slot) (Grants slot) tells may_grant refl k1 [] slot.id (Due slot.id) (record { kept = k1; packets = [] }) (record {
          agrees = granted_agrees;
          calm = calm;
          ends = none_due _ (λ act due. due);
          abandons = none_due _ (λ act due. due);
          asks = none_due _ asks_none;
          asks_may = tt;
          starts = starts;
          prepares = record {
            only = λ act is_in. prepares_only act (starts.due.only act is_in);
            all = λ act due. absurd (prepares_none act due);
            order = starts.due.order;
          };
        })
      where
        prepares_only : (act : Act) → IsToPrepare setup granted slot.id (Due slot.id) act →
            DueToPrepare setup.nodes setup.node s.actor granted.actor s.records (Grant slot) act
        prepares_only (Prepares other ballot chain) due = absurd (due_none slot.id other.place chain due.1.0)
        prepares_only act due = absurd due

    pub grant_steps : StepsAs setup s (Grant slot) (stepped setup k (Grant slot))
    grant_steps = subst (StepsAs setup s (Grant slot)) (sym is_up) on_grant_steps
      where
        is_up : stepped setup k (Grant slot) ≡ on_grant k slot
        is_up = ap (λ (running : Bool). if running then stepped_up setup k (Grant slot) else stepped_down setup k (Grant slot)) (stands.agrees.up ∙ works.up)
