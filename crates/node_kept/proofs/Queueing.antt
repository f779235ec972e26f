-- The requests that wait after a step.
use Rattle.std.proofs.Common.{◌≡◌, ◌≤◌, ℕ, suc, ◌<◌, ◌++◌, length, Bool, true, false, cond, List, [], ◌∷◌, map, Option, Some, None, refl}
use Rattle.std.proofs.Common.{sym, ap, subst, ◌∙◌, arith}
use Rattle.std.specs.Prelude.{◌==◌, IfSome, filter, not, if◌then◌else◌}
use Rattle.std.specs.Box.{box_value}
use Rattle.std.specs.Global.{Box}
use Rattle.std.proofs.lemmas.Bool.{eqb-true}
use Rattle.mc_model.specs.node.Room.{most_waiting}
use Rattle.mc_model.specs.message.Decree.{Decree}
use Rattle.mc_model.specs.synod.Packet.{TopVote}
use Rattle.mc_model.specs.node.Replies.{Answer}
use Rattle.mc_model.specs.node.Setup.{Setup}
use Rattle.node_model.specs.Kept.{Held, Kept}
use Rattle.waiting_requests.specs.Queues.{IsAbove}
use Rattle.waiting_requests.specs.Waiting.{Waits, held_in, held_of}
use Rattle.node_parts.specs.declared.outputs.Outputs.{Outputs as Sent}
use Rattle.node_parts.proofs.Told.{higher_told}
use Rattle.node_kept.specs.declared.kept.Kept.{Kept as Holding}
use Rattle.node_kept.specs.declared.queue_change.QueueChange.{QueueChange}
use Rattle.node_model.specs.Answers.{still_waits}
use Rattle.node_model.specs.Outputs.{Stepped}
use Rattle.node_model.specs.Packets.{settled_for, tells_about}
use Rattle.node_model.specs.Requests.{held_at, id_of, settled_by, settles, ticket_of, told_by, with_held}
use Rattle.node_kept.specs.declared.queue_change.QueueChange.TheVariants as changes
use Rattle.node_kept.specs.declared.step.Next.{Next}
use Rattle.node_kept.specs.declared.step.Step.{Step}
use Rattle.node_kept.specs.Keeping.{AreOwn}
use Rattle.node_kept.specs.Queueing.{AreAsked, HasPlace, IsSound, requeued}
use Rattle.node_kept.specs.Steps.{IsStep, held_then, outputs_of}
use Rattle.node_kept.specs.Telling.{left_by}

-- ---- none waits

pub asked_none : (node incarnation ticket : ℕ) (held : List Held) → held ≡ [] → AreAsked node incarnation ticket held
asked_none node incarnation ticket held none =
    subst (λ (hs : List Held). AreAsked node incarnation ticket hs) (sym none) (record { above = tt; numbered = tt; told = tt })

-- ---- they stay as they are

pub asked_still : (old new : Holding) → new.setup ≡ old.setup → new.incarnation ≡ old.incarnation → new.given ≡ old.given →
    held_in new.queue ≡ held_in old.queue → AreOwn old → AreAsked new.setup.node new.incarnation (suc new.given) (held_in new.queue)
asked_still old new setup incarnation ticket held own =
    subst (λ (hs : List Held). AreAsked new.setup.node new.incarnation (suc new.given) hs) (sym held)
    (subst (λ (t : ℕ). AreAsked new.setup.node new.incarnation t (held_in old.queue)) (sym (ap suc ticket))
    (subst (λ (n : ℕ). AreAsked new.setup.node n (suc old.given) (held_in old.queue)) (sym incarnation)
    (subst (λ (s : Setup). AreAsked s.node old.incarnation (suc old.given) (held_in old.queue)) (sym setup) own.asked)))

pub held_same : (k : Holding) (next : Next) → next.queue ≡ changes.Same → held_then k next ≡ held_in k.queue
held_same k next is = ap (λ (change : QueueChange). requeued k.setup.nodes (held_in k.queue) change) is

pub place_same : (waits : List Waits) (change : QueueChange) → change ≡ changes.Same → HasPlace waits change
place_same waits change is = subst (λ (c : QueueChange). HasPlace waits c) (sym is) tt

pub asked_same : (k : Holding) (next : Next) → next.queue ≡ changes.Same → next.given ≡ k.given → AreOwn k →
    AreAsked k.setup.node k.incarnation (suc next.given) (held_then k next)
asked_same k next is ticket own =
    subst (λ (held : List Held). AreAsked k.setup.node k.incarnation (suc next.given) held) (sym (held_same k next is))
    (subst (λ (t : ℕ). AreAsked k.setup.node k.incarnation t (held_in k.queue)) (sym (ap suc ticket)) own.asked)

-- ---- one of them

pub asked_at : (node incarnation ticket : ℕ) (held : List Held) (of : ℕ) (h : Held) → AreAsked node incarnation ticket held →
    held_at held of ≡ Some h → IsSound node incarnation h
asked_at node incarnation ticket [] of h asked found = absurd (cc)
asked_at node incarnation ticket (first ∷ others) of h asked found =
    by_test (ticket_of first == of) found
    (λ is. asked_at node incarnation ticket others of h (record { above = asked.above.1; numbered = asked.numbered.1; told = asked.told.1 }) is)
  where
    by_test : (test : Bool) → cond test (Some first) (held_at others of) ≡ Some h →
        (held_at others of ≡ Some h → IsSound node incarnation h) →
        IsSound node incarnation h
    by_test true is rest =
        let same : first ≡ h = cc in
        subst (λ (one : Held). IsSound node incarnation one) same (record { numbered = asked.numbered.0; told = asked.told.0 })
    by_test false is rest = rest is

about_is : (told : Option TopVote) (id : ℕ) → tells_about told id ≡ true → IfSome told (λ it. it.id ≡ id)
about_is None id is = tt
about_is (Some told) id is = eqb-true told.id id is

pub sound_told : (node incarnation teller : ℕ) (told : Option TopVote) (h : Held) → tells_about told (id_of h) ≡ true →
    IsSound node incarnation h → IsSound node incarnation (told_by h teller told)
sound_told node incarnation teller told h about sound = record {
  numbered = sound.numbered;
  told = higher_told (id_of h) h.top told sound.told (about_is told (id_of h) about);
}

pub sound_settled : (node incarnation nodes : ℕ) (known : Option (List Decree)) (h : Held) → IsSound node incarnation h →
    IsSound node incarnation (settled_by nodes known h)
sound_settled node incarnation nodes known h sound = by_test (settles nodes known h)
  where
    by_test : (test : Bool) → IsSound node incarnation (if test then record h { waiting = record h.waiting { settled = true } } else h)
    by_test true = record { numbered = sound.numbered; told = sound.told }
    by_test false = sound

-- ---- some are taken away

module _ (node incarnation ticket : ℕ) where
  pub asked_kept : (test : Held → Bool) (held : List Held) → AreAsked node incarnation ticket held → AreAsked node incarnation ticket (filter test held)
  asked_kept test [] asked = asked
  asked_kept test (h ∷ others) asked =
      at_test (test h) (asked_kept test others (record { above = asked.above.1; numbered = asked.numbered.1; told = asked.told.1 }))
    where
      at_test : (pass : Bool) → AreAsked node incarnation ticket (filter test others) →
          AreAsked node incarnation ticket (cond pass (h ∷ filter test others) (filter test others))
      at_test true rest = record { above = (asked.above.0, rest.above); numbered = (asked.numbered.0, rest.numbered); told = (asked.told.0, rest.told) }
      at_test false rest = rest

  -- ---- some are changed

  pub asked_changed : (f : Held → Held) → ((h : Held) → ticket_of h < ticket → ticket_of (f h) < ticket) →
      ((h : Held) → IsSound node incarnation h → IsSound node incarnation (f h)) →
      (held : List Held) → AreAsked node incarnation ticket held → AreAsked node incarnation ticket (map f held)
  asked_changed f lower sound [] asked = asked
  asked_changed f lower sound (h ∷ others) asked =
      let rest = asked_changed f lower sound others (record { above = asked.above.1; numbered = asked.numbered.1; told = asked.told.1 }) in
      let is = sound h (record { numbered = asked.numbered.0; told = asked.told.0 }) in
      record { above = (lower h asked.above.0, rest.above); numbered = (is.numbered, rest.numbered); told = (is.told, rest.told) }

  settled_sound : (nodes id : ℕ) (chain : List Decree) (h : Held) → IsSound node incarnation h → IsSound node incarnation (settled_for nodes id chain h)
  settled_sound nodes id chain h sound = by_test (id_of h == id)
    where
      by_test : (test : Bool) → IsSound node incarnation (if test then settled_by nodes (Some chain) h else h)
      by_test true = sound_settled node incarnation nodes (Some chain) h sound
      by_test false = sound

  settled_lower : (nodes id : ℕ) (chain : List Decree) (h : Held) → ticket_of h < ticket → ticket_of (settled_for nodes id chain h) < ticket
  settled_lower nodes id chain h lower = by_tests (id_of h == id) (settles nodes (Some chain) h)
    where
      by_tests : (about now : Bool) → ticket_of (if about then (if now then record h { waiting = record h.waiting { settled = true } } else h) else h) < ticket
      by_tests true true = lower
      by_tests true false = lower
      by_tests false now = lower

  -- a chain of a message becomes known
  pub asked_settled : (nodes id : ℕ) (chain : List Decree) (held : List Held) → AreAsked node incarnation ticket held →
      AreAsked node incarnation ticket (filter (still_waits nodes (Some chain) id) (map (settled_for nodes id chain) held))
  asked_settled nodes id chain held asked =
      asked_kept (still_waits nodes (Some chain) id) (map (settled_for nodes id chain) held)
      (asked_changed (settled_for nodes id chain) (settled_lower nodes id chain) (settled_sound nodes id chain) held asked)

  -- one of them has an answer, or none
  pub asked_left : (answer : Option Answer) (new : Held) → IsSound node incarnation new → (held : List Held) → AreAsked node incarnation ticket held →
      AreAsked node incarnation ticket (left_by answer new held)
  asked_left (Some answer) new sound held asked = asked_kept (λ other. not (ticket_of other == ticket_of new)) held asked
  asked_left None new sound held asked = asked_changed (λ h. if ticket_of h == ticket_of new then new else h) lower so held asked
    where
      lower : (h : Held) → ticket_of h < ticket → ticket_of (if ticket_of h == ticket_of new then new else h) < ticket
      lower h below = by_test (ticket_of h == ticket_of new) refl
        where
          by_test : (test : Bool) → (ticket_of h == ticket_of new) ≡ test → ticket_of (if test then new else h) < ticket
          by_test true is = let same = eqb-true (ticket_of h) (ticket_of new) is in omega (arith, same, below)
          by_test false is = below

      so : (h : Held) → IsSound node incarnation h → IsSound node incarnation (if ticket_of h == ticket_of new then new else h)
      so h is = by_test (ticket_of h == ticket_of new)
        where
          by_test : (test : Bool) → IsSound node incarnation (if test then new else h)
          by_test true = sound
          by_test false = is

-- one that has an answer is gone, whether it was replaced before or not
pub replaced_gone : (new : Held) (held : List Held) →
    filter (λ other. not (ticket_of other == ticket_of new)) (with_held held new) ≡ filter (λ other. not (ticket_of other == ticket_of new)) held
replaced_gone new [] = refl
replaced_gone new (h ∷ others) = by_test (ticket_of h == ticket_of new) refl (replaced_gone new others)
  where
    by_test : (test : Bool) → (ticket_of h == ticket_of new) ≡ test →
        filter (λ other. not (ticket_of other == ticket_of new)) (with_held others new) ≡ filter (λ other. not (ticket_of other == ticket_of new)) others →
        cond (not (ticket_of (if test then new else h) == ticket_of new))
        ((if test then new else h) ∷ filter (λ other. not (ticket_of other == ticket_of new)) (with_held others new))
        (filter (λ other. not (ticket_of other == ticket_of new)) (with_held others new))
        ≡ cond (not (ticket_of h == ticket_of new)) (h ∷ filter (λ other. not (ticket_of other == ticket_of new)) others)
        (filter (λ other. not (ticket_of other == ticket_of new)) others)
    by_test true is rest =
        let same = eqb-true (ticket_of h) (ticket_of new) is in
        let own : (ticket_of new == ticket_of new) ≡ true = ap (λ (t : ℕ). t == ticket_of new) (sym same) ∙ is in
        ap (λ (b : Bool). cond (not b) (new ∷ filter (λ other. not (ticket_of other == ticket_of new)) (with_held others new))
        (filter (λ other. not (ticket_of other == ticket_of new)) (with_held others new))) own
        ∙ rest
        ∙ sym (ap (λ (b : Bool). cond (not b) (h ∷ filter (λ other. not (ticket_of other == ticket_of new)) others)
        (filter (λ other. not (ticket_of other == ticket_of new)) others)) is)
    by_test false is rest =
        ap (λ (hs : List Held). cond (not (ticket_of h == ticket_of new)) (h ∷ hs) hs) rest

-- ---- a step that changes them besides

pub requeued_step : (k : Holding) (to : Stepped) (step : Step) (queue : QueueChange) (outputs : Sent) → IsStep k to step → step.next.given ≡ k.given →
    HasPlace k.queue queue →
    (AreOwn k → AreAsked k.setup.node k.incarnation (suc k.given) (requeued k.setup.nodes (held_in k.queue) queue)) →
    IsStep k (record { kept = record to.kept { held = requeued k.setup.nodes (held_in k.queue) queue }; outputs = outputs_of outputs })
    (record { outputs = outputs; next = record step.next { queue = queue } })
requeued_step k to step queue outputs is ticket place asked = record {
  kept = ap (λ (kept : Kept). record kept { held = requeued k.setup.nodes (held_in k.queue) queue }) is.kept;
  outputs = refl;
  saves = is.saves;
  alters = is.alters;
  own = λ own. record {
    each = (is.own own).each;
    asked = subst (λ (t : ℕ). AreAsked k.setup.node k.incarnation t (requeued k.setup.nodes (held_in k.queue) queue)) (sym (ap suc ticket)) (asked own);
    serial = (is.own own).serial;
  };
  room = is.room;
  count = is.count;
  change = is.change;
  place = place;
}

-- one more waits, under the next ticket
asked_more : (node incarnation ticket : ℕ) (held : List Held) (new : Held) → ticket_of new ≡ ticket → IsSound node incarnation new →
    AreAsked node incarnation ticket held → AreAsked node incarnation (suc ticket) (held ++ new ∷ [])
asked_more node incarnation ticket [] new is sound asked = record {
  above = (omega (arith, is), tt);
  numbered = (sound.numbered, tt);
  told = (sound.told, tt);
}
asked_more node incarnation ticket (h ∷ others) new is sound asked =
    let rest = asked_more node incarnation ticket others new is sound (record { above = asked.above.1; numbered = asked.numbered.1; told = asked.told.1 }) in
    let lower = asked.above.0 in
    record {
      above = (omega (arith, lower), rest.above);
      numbered = (asked.numbered.0, rest.numbered);
      told = (asked.told.0, rest.told);
    }

pub arrived_step : (k : Holding) (to : Stepped) (step : Step) (serial : ℕ) (new : Box Waits) (outputs : Sent) → IsStep k to step → ticket_of
    (held_of (box_value new)) ≡ suc k.given →
    length k.queue < most_waiting → IsSound k.setup.node k.incarnation (held_of (box_value new)) → AreOwn k → 1 ≤ serial →
    IsStep k
    (record {
      kept = record to.kept { serial = serial; ticket = suc (suc k.given); held = held_in k.queue ++ held_of (box_value new) ∷ [] };
      outputs = outputs_of outputs;
    })
    (record { outputs = outputs; next = record step.next { serial = serial; given = suc k.given; queue = changes.Push new } })
arrived_step k to step serial new outputs is ticket room sound own least = record {
  kept = ap (λ (kept : Kept). record kept { serial = serial; ticket = suc (suc k.given); held = held_in k.queue ++ held_of (box_value new) ∷ [] }) is.kept;
  outputs = refl;
  saves = is.saves;
  alters = is.alters;
  own = λ mine. record {
    each = (is.own mine).each;
    asked = asked_more k.setup.node k.incarnation (suc k.given) (held_in k.queue) (held_of (box_value new)) ticket sound mine.asked;
    serial = least;
  };
  room = is.room;
  count = is.count;
  change = is.change;
  place = (room, subst (IsAbove (held_in k.queue)) (sym ticket) own.asked.above);
}
