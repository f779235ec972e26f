-- What is kept once the clock has risen and late requests are gone, before any round starts.
use Rattle.std.proofs.Common.{◌≡◌, ℕ, ◌-◌, max, Bool, true, false, cond, List, [], ◌∷◌, ◌++◌, length, map, take, Some, None, IsSome, refl, sym, ap, subst, ◌∙◌}
use Rattle.std.proofs.Common.{inl, inr, arith}
use Rattle.std.specs.Prelude.{filter, not}
use Rattle.std.specs.Map.{keys_of, lookup}
use Rattle.std.specs.Option.{unwrap_or}
use Rattle.std.specs.Ordering.{nat_cmp}
use Rattle.std.specs.BTreeMap.{is_at}
use Rattle.std.specs.List.Sorted.{IsStrictlySortedBy}
use Rattle.mc_model.specs.synod.Lists.{In}
use Rattle.mc_model.specs.synod.Packet.{Packet, Prepare, slot_at}
use Rattle.mc_model.specs.node.Actor.{Actor, Waiting}
use Rattle.mc_model.specs.node.Alone.{Node}
use Rattle.mc_model.specs.node.Rounds.{RunsNone}
use Rattle.mc_model.specs.node.Setup.{Setup}
use Rattle.node_model.specs.Kept.{Held, Kept, message_at}
use Rattle.node_model.specs.Message.{Message, unseen}
use Rattle.node_model.specs.Ticks.{is_late, ticked, without_round}
use Rattle.node_laws.proofs.invariant.Seeing.{highest_later}
use Rattle.node_laws.specs.Stands.{Agrees, IsMessage}
use Rattle.node_laws.proofs.invariant.Coherence.{IsLater, fit_later}
use Rattle.node_model.proofs.Ascending.{ascend_kept}
use Rattle.node_laws.proofs.invariant.Orders.{ascend_from, increasing_from}
use Rattle.mc_parts.proofs.Membership.{in_filter}

-- ---- messages without their rounds

abbrev pub unrounded : Message → Message
unrounded m = record m { round = None }

lookup_unrounded : (test : ℕ → Bool) (es : List (ℕ × Message)) →
    unwrap_or (lookup test (map without_round es)) unseen ≡ unrounded (unwrap_or (lookup test es) unseen)
lookup_unrounded test [] = refl
lookup_unrounded test (e ∷ es) = by_test (test e.0) (lookup_unrounded test es)
  where
    by_test : (b : Bool) → unwrap_or (lookup test (map without_round es)) unseen ≡ unrounded (unwrap_or (lookup test es) unseen) →
        unwrap_or (cond b (Some (unrounded e.1)) (lookup test (map without_round es))) unseen ≡
        unrounded (unwrap_or (cond b (Some e.1) (lookup test es)) unseen)
    by_test true rest = refl
    by_test false rest = rest

pub keys_unrounded : (es : List (ℕ × Message)) → keys_of (map without_round es) ≡ keys_of es
keys_unrounded [] = refl
keys_unrounded (e ∷ es) = ap (λ (ks : List ℕ). e.0 ∷ ks) (keys_unrounded es)

listed_unrounded : (test : ℕ → Bool) (es : List (ℕ × Message)) → IsSome (lookup test es) → IsSome (lookup test (map without_round es))
listed_unrounded test [] some = some
listed_unrounded test (e ∷ es) some = by_test (test e.0) (listed_unrounded test es) some
  where
    by_test : (b : Bool) → (IsSome (lookup test es) → IsSome (lookup test (map without_round es))) → IsSome (cond b (Some e.1) (lookup test es)) →
        IsSome (cond b (Some (unrounded e.1)) (lookup test (map without_round es)))
    by_test true rest some = refl
    by_test false rest some = rest some

pub message_ticked : (k : Kept) (clock id : ℕ) → message_at (ticked k clock) id ≡ unrounded (message_at k id)
message_ticked k clock id = lookup_unrounded (is_at (nat_cmp id)) k.messages

-- ---- the actor

module _ (setup : Setup) (k : Kept) (s : Node) (agrees : Agrees setup k s) (moment : ℕ) where
  abbrev pub now : ℕ
  now = max s.actor.clock moment

  abbrev pub stays : Held → Bool
  stays h = not (is_late now h)

  abbrev pub risen : Actor
  risen = record s.actor { clock = now; before_tick = length s.actor.sent }

  abbrev pub after_late : Node
  after_late = record {
    actor = record risen { waiting = map (λ h. h.waiting) (filter stays k.held) };
    records = s.records;
    began = s.began;
  }

  pub waits_before : (w : Waiting) → In w after_late.actor.waiting → In w s.actor.waiting
  waits_before w waits = subst (In w) agrees.waiting (within k.held waits)
    where
      in_map_filter : (held : List Held) → In w (map (λ h. h.waiting) (filter stays held)) → In w (map (λ h. h.waiting) held)
      in_map_filter [] none = none
      in_map_filter (h ∷ held) is_in = by_test (stays h) (in_map_filter held) is_in
        where
          by_test : (b : Bool) → (In w (map (λ it. it.waiting) (filter stays held)) → In w (map (λ it. it.waiting) held)) →
              In w (map (λ it. it.waiting) (cond b (h ∷ filter stays held) (filter stays held))) → In w (map (λ it. it.waiting) (h ∷ held))
          by_test true rest (inl same) = inl same
          by_test true rest (inr later) = inr (rest later)
          by_test false rest later = inr (rest later)

      within : (held : List Held) → In w (map (λ h. h.waiting) (filter stays held)) → In w (map (λ h. h.waiting) held)
      within held is_in = in_map_filter held is_in

  -- ---- no round runs

  nothing_since : take (length s.actor.sent - length s.actor.sent) s.actor.sent ≡ []
  nothing_since = let none : length s.actor.sent - length s.actor.sent ≡ 0 = omega arith in ap (λ (n : ℕ). take n s.actor.sent) none

  pub none_runs : (id : ℕ) → RunsNone setup.nodes setup.node after_late.actor id
  none_runs id slot ballot about runs = no_split runs.round.newer runs.round.older (sym nothing_since ∙ runs.round.split)
    where
      no_split : (newer older : List Packet) → [] ≡ newer ++ Prepare setup.node slot ballot ∷ older → ⊥
      no_split [] older split = cc
      no_split (first ∷ newer) older split = cc

  message_then : (id : ℕ) (m : Message) → IsMessage setup s id m → IsMessage setup after_late id (unrounded m)
  message_then id m is = record {
    heard = record { votes = is.heard.votes; known = is.heard.known };
    places = is.places;
    seen = λ place within.
        highest_later setup.node s.actor after_late.actor (slot_at id place) refl (λ sender ballot promised. ((λ heard. heard), (λ heard. heard)))
        (λ ballot. ((λ sent. sent), (λ sent. sent))) _ (is.seen place within);
    round = none_runs id;
    attempts = record { granted = is.attempts.granted; closed = is.attempts.closed };
    covers = is.covers;
  }

  abbrev pub kept_then : Kept
  kept_then = ticked k (max k.clock moment)

  same_clock : max k.clock moment ≡ now
  same_clock = ap (λ (c : ℕ). max c moment) agrees.clock

  pub held_is : filter (λ h. not (is_late (max k.clock moment) h)) k.held ≡ filter stays k.held
  held_is = ap (λ (c : ℕ). filter (λ h. not (is_late c h)) k.held) same_clock

  pub agrees_then : Agrees setup kept_then after_late
  agrees_then = record {
    up = agrees.up;
    incarnation = agrees.incarnation;
    clock = same_clock;
    serial = agrees.serial;
    ticket = agrees.ticket;
    records = agrees.records;
    message =
        λ id. subst (IsMessage setup after_late id) (sym (message_ticked k (max k.clock moment) id)) (message_then id (message_at k id) (agrees.message id));
    waiting = ap (map (λ h. h.waiting)) held_is;
    told = λ h among. agrees.told h (in_filter (λ it. not (is_late (max k.clock moment) it)) k.held h among);
    tickets = increasing_from kept_then.held (ascend_kept (λ it. not (is_late (max k.clock moment) it)) k.held (ascend_from k.held agrees.tickets));
    given = λ h among. agrees.given h (in_filter (λ it. not (is_late (max k.clock moment) it)) k.held h among);
    listed = λ slot vote voted. listed_unrounded (is_at (nat_cmp slot.id)) k.messages (agrees.listed slot vote voted);
    ascends = subst (IsStrictlySortedBy nat_cmp) (sym (keys_unrounded k.messages)) agrees.ascends;
    placed = agrees.placed;
    voted = agrees.voted;
    coherent = record {
      life = agrees.coherent.life;
      ticked = omega arith;
      fits = λ packet came. fit_later setup.node s.actor after_late.actor is_later packet (agrees.coherent.fits packet came);
      own = agrees.coherent.own;
      prepared = agrees.coherent.prepared;
      outcomes = agrees.coherent.outcomes;
    };
  }
    where
      is_later : IsLater setup.node s.actor after_late.actor
      is_later = record {
        incarnation = refl;
        sent = λ slot ballot sent. sent;
        ticket = omega arith;
        serial = omega arith;
      }
