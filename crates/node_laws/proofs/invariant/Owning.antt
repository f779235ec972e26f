-- A chain of its own that a node may propose is one later, too.
use Rattle.std.proofs.Common.{◌≡◌, ℕ, ◌<◌, max, true, List, [], ◌∷◌, refl, sym, ap, subst, ◌∙◌, inl, inr}
use Rattle.mc_model.specs.message.Submission.{Submission}
use Rattle.mc_model.specs.message.Decree.{Attempt, Author, Decree, Deleted, Failed, Fate, Told, Kind, Taken}
use Rattle.mc_model.specs.synod.Lists.{In}
use Rattle.mc_model.specs.synod.OneSlot.{Vote}
use Rattle.mc_model.specs.synod.Packet.{Slot}
use Rattle.mc_model.specs.node.Actor.{Actor, Submit, Waiting}
use Rattle.mc_model.specs.node.Knowledge.{IsLearned}
use Rattle.mc_model.specs.node.Outcome.{Outcome}
use Rattle.mc_model.specs.node.Proposal.{Allows, Cancels, IsOwn}

-- what a chain of the node's own stands on is still there: its incarnation and clock, requests that wait, attempts that were
-- closed, and what was learned
pub record IsGround (nodes id : ℕ) (a b : Actor) : Type 0 where
  pub incarnation : b.incarnation ≡ a.incarnation
  pub clock : b.clock ≡ a.clock
  pub submits : (w : Waiting) (message : Submission) → In w a.waiting → w.request ≡ Submit id message → In w b.waiting
  pub cancels : (w : Waiting) (taken : Submission) → In w a.waiting → w.settled ≡ true → Cancels w.request id taken → In w b.waiting
  pub closed : (slot : Slot) (outcome : Outcome) → In (slot, outcome) a.closed → In (slot, outcome) b.closed
  pub learned : (slot : Slot) (vote : Vote) → IsLearned nodes a.received slot vote → IsLearned nodes b.received slot vote

module _ (nodes node id : ℕ) (a b : Actor) (ground : IsGround nodes id a b) where
  allows_later : (slot : Slot) → slot.id ≡ id → (taken : Submission) (attempted : Author) (before next : Kind) → Allows a slot taken attempted before next →
      Allows b slot taken attempted before next
  allows_later slot about taken attempted (Attempt number) next (inl closed) = inl (record {
    outcome = closed.outcome;
    incarnation = closed.incarnation ∙ sym ground.incarnation;
    closed = ground.closed slot closed.outcome closed.closed;
    kind = closed.kind;
  })
  allows_later slot about taken attempted (Attempt number) next (inr lost) = inr (record {
    incarnation = subst (λ (i : ℕ). attempted.incarnation < i) (sym ground.incarnation) lost.incarnation;
    kind = lost.kind;
  })
  allows_later slot about taken attempted (Taken message) (Fate Deleted error) c = record {
    waiting = c.waiting;
    waits = ground.cancels c.waiting taken c.waits c.settled (subst (λ (i : ℕ). Cancels c.waiting.request i taken) about c.cancels);
    settled = c.settled;
    cancels = c.cancels;
  }
  allows_later slot about taken attempted (Failed cause) (Fate Deleted error) c = record {
    waiting = c.waiting;
    waits = ground.cancels c.waiting taken c.waits c.settled (subst (λ (i : ℕ). Cancels c.waiting.request i taken) about c.cancels);
    settled = c.settled;
    cancels = c.cancels;
  }
  allows_later slot about taken attempted (Fate final last) (Fate Deleted error) c = record {
    waiting = c.waiting;
    waits = ground.cancels c.waiting taken c.waits c.settled (subst (λ (i : ℕ). Cancels c.waiting.request i taken) about c.cancels);
    settled = c.settled;
    cancels = c.cancels;
  }
  allows_later slot about taken attempted Told (Fate Deleted error) c = record {
    waiting = c.waiting;
    waits = ground.cancels c.waiting taken c.waits c.settled (subst (λ (i : ℕ). Cancels c.waiting.request i taken) about c.cancels);
    settled = c.settled;
    cancels = c.cancels;
  }
  allows_later slot about taken attempted before next allowed = tt

  pub own_later : (chain : List Decree) → IsOwn (IsLearned nodes a.received) node a id chain → IsOwn (IsLearned nodes b.received) node b id chain
  own_later chain (inl first) = inl (record {
    waiting = first.waiting;
    message = first.message;
    waits = ground.submits first.waiting first.message first.waits first.submits;
    submits = first.submits;
    chain_is = first.chain_is ∙ ap (λ (i : ℕ). record {
      author = record { node = node; incarnation = i };
      moment = first.waiting.since;
      kind = Taken first.message;
    } ∷ []) (sym ground.incarnation);
  })
  own_later chain (inr further) = inr (record {
    next = further.next;
    newest = further.newest;
    older = further.older;
    taken = further.taken;
    ballot = further.ballot;
    chain_is = further.chain_is;
    chosen = ground.learned _ _ further.chosen;
    author = further.author ∙ ap (λ (i : ℕ). record { node = node; incarnation = i }) (sym ground.incarnation);
    moment = further.moment ∙ ap (λ (c : ℕ). max c further.newest.moment) (sym ground.clock);
    message = further.message;
    may = further.may;
    allowed = allows_later _ refl further.taken further.newest.author further.newest.kind further.next.kind further.allowed;
    error = further.error;
  })
