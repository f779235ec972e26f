-- A node that opens: what it keeps stands for an actor that remembers nothing.
use Rattle.std.proofs.Common.{◌≡◌, ℕ, suc, ◌+◌, ◌<◌, ◌≤◌, Bool, true, false, cond, List, [], ◌∷◌, ◌++◌, map, Some, IsSome, refl, sym, ap, subst}
use Rattle.std.proofs.Common.{◌∙◌, inl, inr, arith}
use Rattle.std.specs.Prelude.{if◌then◌else◌}
use Rattle.std.specs.Ordering.{nat_cmp}
use Rattle.std.specs.Map.{keys_of, lookup}
use Rattle.std.specs.BTreeMap.{is_at}
use Rattle.std.specs.Option.{unwrap_or}
use Rattle.std.specs.List.Sorted.{IsStrictlySortedBy}
use Rattle.std.proofs.lemmas.Bool.{true≢false}
use Rattle.std.proofs.lemmas.Bool.Decides.{nat_tests}
use Rattle.std.proofs.lemmas.List.Kept.{IsStrictlySortedBy-filter}
use Rattle.mc_model.specs.message.Decree.{Decree}
use Rattle.mc_model.specs.message.Ids.{IsIncarnation}
use Rattle.mc_model.specs.synod.Acceptor.{Records, SlotRecord, blank}
use Rattle.mc_model.specs.synod.OneSlot.{Vote, vote_at}
use Rattle.mc_model.specs.synod.Packet.{Packet, Prepare, Slot, slot_of}
use Rattle.mc_model.specs.node.Act.{Act, Asks, Prepares, Proposes, Replies, Reports, Restarts, Settles}
use Rattle.mc_model.specs.node.Actor.{Actor, opened}
use Rattle.mc_model.specs.node.Alone.{Node, opened_new as node_new, opened_over as node_over}
use Rattle.mc_model.specs.node.Causes.{Causes}
use Rattle.mc_model.specs.node.Input.{Restart}
use Rattle.mc_model.specs.node.Phases.{DueToAsk, DueToPrepare, DueToPropose, DueToReply, DueToReport, DueToSettle}
use Rattle.mc_model.specs.node.Rounds.{IsRunning}
use Rattle.mc_model.specs.node.Setup.{Setup}
use Rattle.mc_parts.proofs.Learning.{none_learned}
use Rattle.mc_model.specs.synod.Lists.{In}
use Rattle.node_model.specs.Message.{Message, most_places, unseen}
use Rattle.node_model.specs.Kept.{Kept}
use Rattle.node_model.specs.Recorded.{has_record, named_places, recorded_in}
use Rattle.node_model.specs.Outputs.{leaves}
use Rattle.node_model.specs.Stepped.{opened_new, opened_over, restarted, stepped}
use Rattle.node_model.proofs.Filters.{filter_in}
use Rattle.node_model.proofs.Recorded.{below_found}
use Rattle.node_model.proofs.Places.{zeros}
use Rattle.node_laws.specs.Stands.{IsMessage, IsPlaced, IsQuiet, Stands}
use Rattle.node_laws.specs.Steps.{StepsAs}
use Rattle.node_laws.proofs.invariant.Learning.{nothing_heard}
use Rattle.mc_laws.proofs.story.FirstStep.{none_due, none_due_once}
use Rattle.node_laws.proofs.step.TickIds.{listed_in}

-- ---- an actor that opens

never_runs : (nodes node incarnation serial : ℕ) (slot : Slot) (ballot : ℕ) → IsRunning nodes node (opened incarnation serial) slot ballot → ⊥
never_runs nodes node incarnation serial slot ballot runs = none runs.round.newer runs.round.older (Prepare node slot ballot) runs.round.split
  where
    none : (newer older : List Packet) (last : Packet) → [] ≡ newer ++ last ∷ older → ⊥
    none [] older last split = cc
    none (first ∷ newer) older last split = cc

quiet_opened : (nodes node incarnation serial : ℕ) → IsQuiet nodes node (opened incarnation serial)
quiet_opened nodes node incarnation serial = record {
  settled = λ ticket due. due.waits;
  answered = λ ticket id answer due. due.asked.waits;
}

unseen_stands : (setup : Setup) (records : Records) (incarnation serial id : ℕ) → IsMessage setup (node_over records incarnation serial) id unseen
unseen_stands setup records incarnation serial id = record {
  covers = λ place none. absurd none;
  heard = nothing_heard setup.nodes id;
  places = refl;
  seen = λ place within. record {
    seen = inl (zeros place);
    most = λ other seen. elim seen [ inl refused ↦ absurd refused.heard | inr prepared ↦ absurd prepared.sent ];
  };
  round = λ slot ballot about runs. never_runs setup.nodes setup.node incarnation serial slot ballot runs;
  attempts = record {
    granted = λ place. ((λ passes. absurd (true≢false (sym passes))), (λ none. absurd none));
    closed = λ place outcome. ((λ is. absurd (cc)), (λ none. absurd none));
  };
}

-- ---- its messages

abbrev entry : ℕ → ℕ × Message
entry id = (id, unseen)

all_unseen : (ids : List ℕ) (id : ℕ) → unwrap_or (lookup (is_at (nat_cmp id)) (map entry ids)) unseen ≡ unseen
all_unseen [] id = refl
all_unseen (first ∷ others) id = by_test (is_at (nat_cmp id) first) (all_unseen others id)
  where
    by_test : (test : Bool) → unwrap_or (lookup (is_at (nat_cmp id)) (map entry others)) unseen ≡ unseen →
        unwrap_or (cond test (Some unseen) (lookup (is_at (nat_cmp id)) (map entry others))) unseen ≡ unseen
    by_test true rest = refl
    by_test false rest = rest

entry_listed : (ids : List ℕ) (id : ℕ) → In id ids → IsSome (lookup (is_at (nat_cmp id)) (map entry ids))
entry_listed [] id none = absurd none
entry_listed (first ∷ others) id among = by_test (is_at (nat_cmp id) first) refl (entry_listed others id) among
  where
    by_test : (test : Bool) → is_at (nat_cmp id) first ≡ test → (In id others → IsSome (lookup (is_at (nat_cmp id)) (map entry others))) →
        In id (first ∷ others) → IsSome (cond test (Some unseen) (lookup (is_at (nat_cmp id)) (map entry others)))
    by_test true at rest among = refl
    by_test false apart rest (inl same) = absurd (true≢false (sym (grind (arith, nat_tests))))
    by_test false apart rest (inr later) = rest later

-- a message that has a vote is among those of which there is a record
vote_listed : (k : Kept) (slot : Slot) (vote : Vote) → (k.records slot).vote ≡ Some vote → slot.place < most_places →
    IsSome (lookup (is_at (nat_cmp slot.id)) k.messages) →
    IsSome (lookup (is_at (nat_cmp slot.id)) (map entry (recorded_in k.records (keys_of k.messages))))
vote_listed k slot vote voted within some =
    entry_listed (recorded_in k.records (keys_of k.messages)) slot.id
    (filter_in (λ id. has_record k.records id named_places) (keys_of k.messages) slot.id (listed_in slot.id k.messages some)
    (below_found k.records slot.id named_places slot.place (omega (arith, within))
    (λ none. absurd (let no_vote = sym voted ∙ ap (λ (r : SlotRecord). r.vote) none in cc))))

keys_are : (ids : List ℕ) → keys_of (map entry ids) ≡ ids
keys_are [] = refl
keys_are (first ∷ others) = ap (λ (rest : List ℕ). first ∷ rest) (keys_are others)

-- ---- what is kept then stands for it

pub stands_opened : (setup : Setup) (kept records : Records) (ids : List ℕ) (incarnation serial : ℕ) → IsIncarnation incarnation →
    ((slot : Slot) → kept slot ≡ records slot) →
    IsStrictlySortedBy nat_cmp ids →
    ((slot : Slot) (vote : Vote) → (kept slot).vote ≡ Some vote → IsSome (lookup (is_at (nat_cmp slot.id)) (map entry ids))) →
    ((slot : Slot) (vote : Vote) → (kept slot).vote ≡ Some vote → IsPlaced slot vote) →
    Stands setup (opened_over kept ids incarnation serial) (node_over records incarnation serial)
stands_opened setup kept records ids incarnation serial life same ascends listed placed = record {
  agrees = record {
    up = refl;
    incarnation = refl;
    clock = refl;
    serial = refl;
    ticket = refl;
    records = same;
    message =
        λ id. subst (IsMessage setup (node_over records incarnation serial) id) (sym (all_unseen ids id)) (unseen_stands setup records incarnation serial id);
    waiting = refl;
    told = λ h none. absurd none;
    tickets = λ k within. absurd (omega arith);
    given = λ h none. absurd none;
    listed = listed;
    ascends = subst (IsStrictlySortedBy nat_cmp) (sym (keys_are ids)) ascends;
    placed = placed;
    voted = λ slot vote voted. inr (inr (inr (inr (vote.ballot, ap (λ (r : SlotRecord). r.vote) (sym (same slot)) ∙ voted))));
    coherent = record {
      life = life;
      ticked = omega arith;
      fits = λ packet none. absurd none;
      own = λ slot ballot none. absurd none;
      prepared = λ slot vote none. absurd none;
      outcomes = λ slot outcome none. absurd none;
    };
  };
  quiet = quiet_opened setup.nodes setup.node incarnation serial;
}

-- ---- a restart

module _ (setup : Setup) (before : Actor) (incarnation serial lost : ℕ) where
  abbrev now : Actor
  now = opened incarnation serial

  settles_none : (act : Act) → DueToSettle setup.nodes setup.node now act → ⊥
  settles_none (Settles ticket) due = due.waits
  settles_none act due = due

  asks_none : (act : Act) → DueToAsk setup.nodes setup.node before now (Restart lost) act → ⊥
  asks_none (Asks id ticket) due = due
  asks_none act due = due

  causes_none : (id place : ℕ) (chain : List Decree) → Causes setup.nodes setup.node before now (Restart lost) id place chain → ⊥
  causes_none id place chain (inl take) = take
  causes_none id place chain (inr (inl close)) = close
  causes_none id place chain (inr (inr (inl follows))) = follows
  causes_none id place chain (inr (inr (inr (inl deletes)))) = deletes.deletes.cancelled.waits
  causes_none id place chain (inr (inr (inr (inr tells)))) = none_learned setup.nodes (slot_of id (tells.due.further.newest ∷ tells.due.further.older))
      (vote_at tells.due.further.known.ballot (tells.due.further.newest ∷ tells.due.further.older)) tells.due.further.known.learned

  prepares_none : (records : Records) (act : Act) → DueToPrepare setup.nodes setup.node before now records (Restart lost) act → ⊥
  prepares_none records (Prepares slot ballot chain) due = causes_none slot.id slot.place chain due.0
  prepares_none records act due = due

  proposes_none : (act : Act) → DueToPropose setup.nodes setup.node before now act → ⊥
  proposes_none (Proposes slot vote) due = never_runs setup.nodes setup.node incarnation serial slot vote.ballot due.0.running
  proposes_none act due = due

  replies_none : (act : Act) → DueToReply setup.nodes setup.node now act → ⊥
  replies_none (Replies ticket id answer) due = due.asked.waits
  replies_none act due = due

  reports_none : (act : Act) → DueToReport setup.nodes setup.node before now act → ⊥
  reports_none (Reports id chain) due = none_learned setup.nodes (slot_of id chain) (vote_at due.known.ballot chain) due.known.learned
  reports_none act due = due

restarted_is : (setup : Setup) (k : Kept) (lost : ℕ) → leaves (restarted setup k lost) ≡ stepped setup k (Restart lost)
restarted_is setup k lost = by_up k.up
  where
    by_up : (up : Bool) → leaves (restarted setup k lost) ≡ (if up then leaves (restarted setup k lost) else leaves (restarted setup k lost))
    by_up true = refl
    by_up false = refl

pub restart_steps : (setup : Setup) (k : Kept) (s : Node) (lost : ℕ) → Stands setup k s → 1 ≤ setup.node → setup.node ≤ setup.nodes →
    s.actor.incarnation + lost < 9999 →
    StepsAs setup s (Restart lost) (stepped setup k (Restart lost))
restart_steps setup k s lost stands least most left = subst (StepsAs setup s (Restart lost)) (restarted_is setup k lost) (record {
  acts = Restarts lost setup.first_serial ∷ [];
  taken = record {
    run = (record { least = least; most = most; up = tt; needs = left }, tt);
    exact = record {
      core = Restarts lost setup.first_serial ∷ [];
      settles = [];
      late = [];
      asks = [];
      abandons = [];
      prepares = [];
      proposes = [];
      replies = [];
      reports = [];
      acts_are = refl;
      core_is = refl;
      settled = none_due _ (settles_none setup s.actor (suc (s.actor.incarnation + lost)) setup.first_serial lost);
      ended = none_due _ (λ act due. due);
      asked = none_due _ (asks_none setup s.actor (suc (s.actor.incarnation + lost)) setup.first_serial lost);
      abandoned = none_due _ (λ act due. due);
      prepared = none_due_once _ (prepares_none setup s.actor (suc (s.actor.incarnation + lost)) setup.first_serial lost s.records);
      proposed = none_due_once _ (proposes_none setup s.actor (suc (s.actor.incarnation + lost)) setup.first_serial lost);
      replied = none_due _ (replies_none setup s.actor (suc (s.actor.incarnation + lost)) setup.first_serial lost);
      reported = none_due _ (reports_none setup s.actor (suc (s.actor.incarnation + lost)) setup.first_serial lost);
    };
  };
  stands =
      subst (λ (incarnation : ℕ). Stands setup (restarted setup k lost) (node_over s.records (suc (incarnation + lost)) setup.first_serial))
      stands.agrees.incarnation
      (stands_opened setup k.records s.records (recorded_in k.records (keys_of k.messages)) (suc (k.incarnation + lost)) setup.first_serial
      (record { least = omega arith; most = let same = stands.agrees.incarnation in omega (arith, same, left) })
      stands.agrees.records
      (IsStrictlySortedBy-filter nat_cmp (λ id. has_record k.records id named_places) (keys_of k.messages) stands.agrees.ascends)
      (λ slot vote voted. vote_listed k slot vote voted (stands.agrees.placed slot vote voted).1 (stands.agrees.listed slot vote voted)) stands.agrees.placed);
  outputs = refl;
})

none_sorted : IsStrictlySortedBy nat_cmp []
unfolding IsStrictlySortedBy
none_sorted = tt

pub new_stands : (setup : Setup) → Stands setup (opened_new setup) (node_new setup.first_serial)
new_stands setup =
    stands_opened setup (λ slot. blank) (λ slot. blank) [] 1 setup.first_serial (record { least = omega arith; most = omega arith }) (λ slot. refl) none_sorted
    (λ slot vote voted. absurd (cc)) (λ slot vote voted. absurd (cc))
