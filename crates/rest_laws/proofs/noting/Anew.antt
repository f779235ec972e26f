-- A start anew over the notes of what is gone does without it.
use Rattle.std.proofs.Common.{◌≡◌, ℕ, zero, suc, Bool, true, false, cond, List, [], ◌∷◌, ◌++◌, map, Some, refl, sym, subst, ap, ◌∙◌, inl, inr}
use Rattle.std.specs.Prelude.{◌==◌, ◌&&◌, ◌||◌, nat_lt, not, is_some, if◌then◌else◌}
use Rattle.std.specs.List.Sorted.{IsStrictlySortedBy}
use Rattle.std.specs.Map.{keys_of, lookup}
use Rattle.std.specs.Ordering.{nat_cmp}
use Rattle.std.specs.BTreeMap.{is_at}
use Rattle.std.specs.Option.{unwrap_or}
use Rattle.std.proofs.lemmas.List.{map-append}
use Rattle.std.proofs.lemmas.List.Kept.{IsStrictlySortedBy-filter}
use Rattle.mc_model.specs.message.Ids.{incarnation_of, node_of, serial_of}
use Rattle.mc_model.specs.node.Input.{Delivery, Input, Restart}
use Rattle.mc_model.specs.node.Setup.{Setup}
use Rattle.mc_model.specs.synod.Acceptor.{Records, blank}
use Rattle.mc_model.specs.synod.Lists.{In}
use Rattle.mc_model.specs.synod.Packet.{Packet, same_slot, slot_at, slot_of}
use Rattle.node_model.specs.Acceptor.{told_of}
use Rattle.node_model.specs.Answers.{ends_told}
use Rattle.node_model.specs.Granted.{is_open_in}
use Rattle.node_model.specs.Kept.{Held, Kept, message_at}
use Rattle.node_model.specs.Message.{Message, unseen}
use Rattle.node_model.specs.Outputs.{Stepped, leaves, nothing}
use Rattle.node_model.specs.Recorded.{has_record, is_blank, named_places, recorded_in}
use Rattle.node_model.specs.Requests.{id_of}
use Rattle.node_model.specs.Starts.{follow}
use Rattle.node_model.specs.Stepped.{restarted, stepped}
use Rattle.node_laws.specs.Runs.{kept_after, kept_outputs}
use Rattle.rest_laws.specs.AtRest.{IsAtRest}
use Rattle.rest_laws.specs.Notes.{AreAllNoted, AreNotesOfGone, AreNothing, IsNoteOfGone, Note, StartsWithout, anew, come, votes_in, votes_of}
use Rattle.rest_laws.specs.Without.{without}
use Rattle.rest_laws.proofs.noting.Hearing.{HasNoted, Hears, hears}
use Rattle.rest_laws.proofs.noting.Starts.{starts_none}
use Rattle.rest_laws.proofs.without.Entries.{Ascend, hidden, left, left_ids, left_keys}

-- ---- a start anew leaves the same

module _ (gone : ℕ → Bool) where
  record_there : (records : Records) (id : ℕ) → gone id ≡ false → (bound : ℕ) →
      has_record (hidden gone records) id bound ≡ has_record records id bound
  unfolding has_record
  record_there records id stays zero = refl
  record_there records id stays (suc place) =
      λ i. not (is_blank (if stays i then blank else records (slot_at id place))) || record_there records id stays place i

  recorded_left : (records : Records) (ids : List ℕ) →
      recorded_in (hidden gone records) (left_ids gone ids) ≡ left_ids gone (recorded_in records ids)
  recorded_left records [] = refl
  recorded_left records (id ∷ ids) = by (gone id) refl (recorded_left records ids)
    where
      of : (c : Bool) → gone id ≡ true →
          left_ids gone (cond c (id ∷ recorded_in records ids) (recorded_in records ids)) ≡ left_ids gone (recorded_in records ids)
      of true is = ap (λ (b : Bool). cond (not b) (id ∷ left_ids gone (recorded_in records ids)) (left_ids gone (recorded_in records ids))) is
      of false is = refl

      still : (c : Bool) → gone id ≡ false →
          cond c (id ∷ left_ids gone (recorded_in records ids)) (left_ids gone (recorded_in records ids))
          ≡ left_ids gone (cond c (id ∷ recorded_in records ids) (recorded_in records ids))
      still true is = λ i. cond (not (sym is i)) (id ∷ left_ids gone (recorded_in records ids)) (left_ids gone (recorded_in records ids))
      still false is = refl

      by : (b : Bool) → gone id ≡ b →
          recorded_in (hidden gone records) (left_ids gone ids) ≡ left_ids gone (recorded_in records ids) →
          recorded_in (hidden gone records) (cond (not b) (id ∷ left_ids gone ids) (left_ids gone ids))
          ≡ left_ids gone (recorded_in records (id ∷ ids))
      by true is rest = rest ∙ sym (of (has_record records id named_places) is)
      by false is rest =
          (λ i. cond (record_there records id is named_places i) (id ∷ rest i) (rest i)) ∙ still (has_record records id named_places) is

  unseen_left : (ids : List ℕ) → map (λ id. (id, unseen)) (left_ids gone ids) ≡ left gone (map (λ id. (id, unseen)) ids)
  unseen_left [] = refl
  unseen_left (id ∷ ids) = by (gone id) (unseen_left ids)
    where
      by : (b : Bool) → map (λ id. (id, unseen)) (left_ids gone ids) ≡ left gone (map (λ id. (id, unseen)) ids) →
          map (λ id. (id, unseen)) (cond (not b) (id ∷ left_ids gone ids) (left_ids gone ids))
          ≡ cond (not b) ((id, unseen) ∷ left gone (map (λ id. (id, unseen)) ids)) (left gone (map (λ id. (id, unseen)) ids))
      by true rest = rest
      by false rest = ap (λ (l : List (ℕ × Message)). (id, unseen) ∷ l) rest

  pub restarted_same : (setup : Setup) (k : Kept) (lost : ℕ) → restarted setup (without gone k) lost ≡ without gone (restarted setup k lost)
  restarted_same setup k lost =
      let p : map (λ id. (id, unseen)) (recorded_in (without gone k).records (keys_of (without gone k).messages))
      ≡ left gone (map (λ id. (id, unseen)) (recorded_in k.records (keys_of k.messages))) =
      ap (λ (ids : List ℕ). map (λ id. (id, unseen)) (recorded_in (without gone k).records ids)) (left_keys gone k.messages)
      ∙ (ap (map (λ id. (id, unseen))) (recorded_left k.records (keys_of k.messages))
      ∙ unseen_left (recorded_in k.records (keys_of k.messages))) in
      λ i. record (without gone (restarted setup k lost)) { messages = p i }

-- ---- a node that has just started anew heard nothing yet

keys_unseen : (ids : List ℕ) → keys_of (map (λ id. (id, unseen)) ids) ≡ ids
keys_unseen [] = refl
keys_unseen (id ∷ ids) = ap (λ (l : List ℕ). id ∷ l) (keys_unseen ids)

lookup_unseen : (test : ℕ → Bool) (ids : List ℕ) → unwrap_or (lookup test (map (λ id. (id, unseen)) ids)) unseen ≡ unseen
lookup_unseen test [] = refl
lookup_unseen test (id ∷ ids) = by (test id) (lookup_unseen test ids)
  where
    by : (b : Bool) → unwrap_or (lookup test (map (λ id. (id, unseen)) ids)) unseen ≡ unseen →
        unwrap_or (cond b (Some unseen) (lookup test (map (λ id. (id, unseen)) ids))) unseen ≡ unseen
    by true rest = refl
    by false rest = rest

pub restarted_unheard : (setup : Setup) (k : Kept) (lost id : ℕ) → message_at (restarted setup k lost) id ≡ unseen
restarted_unheard setup k lost id = lookup_unseen (is_at (nat_cmp id)) (recorded_in k.records (keys_of k.messages))

pub restarted_ascends : (setup : Setup) (k : Kept) (lost : ℕ) → Ascend (keys_of k.messages) → Ascend (keys_of (restarted setup k lost).messages)
restarted_ascends setup k lost ascend =
    subst (IsStrictlySortedBy nat_cmp) (sym (keys_unseen (recorded_in k.records (keys_of k.messages))))
    (IsStrictlySortedBy-filter nat_cmp (λ id. has_record k.records id named_places) (keys_of k.messages) ascend)

-- ---- one note after the other

abbrev pub heard_all : Setup → Kept → List Note → Kept
heard_all setup k [] = k
heard_all setup k (n ∷ notes) = kept_after setup (heard_all setup k notes) (come (votes_of n))

abbrev pub QuietAll : Setup → Kept → List Note → Type 0
QuietAll setup k [] = Unit {0}
QuietAll setup k (n ∷ notes) = AreNothing (kept_outputs setup (heard_all setup k notes) (come (votes_of n))) × QuietAll setup k notes

pub record HeardAll (setup : Setup) (gone : ℕ → Bool) (k : Kept) (notes : List Note) (now : Kept) : Type 0 where
  pub up : now.up ≡ true
  pub held : now.held ≡ []
  pub incarnation : now.incarnation ≡ k.incarnation
  pub serial : now.serial ≡ k.serial
  pub records : now.records ≡ k.records
  pub ascend : Ascend (keys_of now.messages)
  pub spared_is : without gone now ≡ without gone k
  pub quiet : QuietAll setup k notes
  pub rest : (n : Note) → In n notes → IsAtRest now n.slot.id
  pub untouched : (id : ℕ) → ((n : Note) → In n notes → n.slot.id ≡ id → ⊥) → message_at now id ≡ message_at k id

not_open : (m : Message) (place : ℕ) → m.granted place ≡ false → is_open_in m place ≡ false
not_open m place ungranted = ap (λ (b : Bool). b && not (is_some (m.closed place))) ungranted

none_asked : (now : Kept) (id : ℕ) → now.held ≡ [] → (h : Held) → In h now.held → id_of h ≡ id → ⊥
none_asked now id none h among same = absurd (subst (λ (held : List Held). In h held) none among)

-- the message of the note that was heard last
rests_now : (setup : Setup) (gone : ℕ → Bool) (k : Kept) (n : Note) (before now : Kept) → IsNoteOfGone setup gone k n → before.records ≡ k.records →
    Hears setup before n n.voters now → IsAtRest now n.slot.id
rests_now setup gone k n before now note records h = record {
  chain = n.vote.chain;
  known = elim h.known [
    | inl unknown ↦ let most = note.note.majority in let few = unknown.1 in absurd (cc)
    | inr known ↦ known
  ];
  over = note.over;
  round = h.round;
  reached = ap (λ (r : Records). follow (Some n.vote.chain) (told_of r n.slot.id)) (h.records ∙ records) ∙ note.reached;
  shut = λ place. not_open (message_at now n.slot.id) place (h.granted place);
  unasked = none_asked now n.slot.id h.held;
}

-- the others
rests_still : (setup : Setup) (n : Note) (before now : Kept) (id : ℕ) → (id ≡ n.slot.id → ⊥) → Hears setup before n n.voters now →
    IsAtRest before id → IsAtRest now id
rests_still setup n before now id apart h old =
    let same = h.others id apart in
    record {
      chain = old.chain;
      known = ap (λ (m : Message). m.known) same ∙ old.known;
      over = old.over;
      round = ap (λ (m : Message). m.round) same ∙ old.round;
      reached = ap (λ (r : Records). follow (Some old.chain) (told_of r id)) h.records ∙ old.reached;
      shut = λ place. ap (λ (m : Message). is_open_in m place) same ∙ old.shut place;
      unasked = none_asked now id h.held;
    }

module _ (setup : Setup) (gone : ℕ → Bool) (k : Kept) (up : k.up ≡ true) (held : k.held ≡ []) (ascend : Ascend (keys_of k.messages))
    (fresh : (id : ℕ) → message_at k id ≡ unseen) where
  pub hear_all : (notes : List Note) → AreNotesOfGone setup gone k notes → HeardAll setup gone k notes (heard_all setup k notes)
  hear_all [] are = record {
    up = up;
    held = held;
    incarnation = refl;
    serial = refl;
    records = refl;
    ascend = ascend;
    spared_is = refl;
    quiet = tt;
    rest = λ n among. absurd among;
    untouched = λ id apart. refl;
  }
  hear_all (n ∷ notes) are =
      let before = hear_all notes are.2 in
      let note = are.0 in
      let state : Kept = heard_all setup k notes in
      let has : HasNoted setup state n = record {
        up = before.up;
        held = before.held;
        unheard = before.untouched n.slot.id are.1 ∙ fresh n.slot.id;
        starts = starts_none setup n.slot.id n.vote.chain note.over;
        earlier = ap (λ (x : ℕ). ends_told setup.node x n.vote.chain) before.incarnation ∙ note.note.earlier;
        concerns =
            (λ i. same_slot n.slot (slot_of n.slot.id n.vote.chain)
            && (not (node_of n.slot.id == setup.node)
            || (nat_lt (incarnation_of n.slot.id) (before.incarnation i)
            || ((incarnation_of n.slot.id == before.incarnation i) && nat_lt (serial_of n.slot.id) (before.serial i)))))
            ∙ note.note.concerns;
        members = note.note.members;
        majority = note.note.majority;
      } in
      let h = hears setup state n has n.voters note.note.members in
      record {
        up = h.up;
        held = h.held;
        incarnation = h.incarnation ∙ before.incarnation;
        serial = h.serial ∙ before.serial;
        records = h.records ∙ before.records;
        ascend = h.ascends before.ascend;
        spared_is = h.spares gone note.dropped ∙ before.spared_is;
        quiet = (h.quiet, before.quiet);
        rest = λ one among. elim among [
          | inl same ↦
              subst (λ (x : Note). IsAtRest (heard_all setup k (n ∷ notes)) x.slot.id) (sym same)
              (rests_now setup gone k n state (heard_all setup k (n ∷ notes)) note before.records h)
          | inr old ↦
              rests_still setup n state (heard_all setup k (n ∷ notes)) one.slot.id (λ same. are.1 one old same) h (before.rest one old)
        ];
        untouched = λ id apart.
            h.others id (λ same. apart n (inl refl) (sym same)) ∙ before.untouched id (λ one among. apart one (inr among));
      }

-- ---- their inputs, one after the other

pub kept_on : (setup : Setup) (k : Kept) (newer older : List Input) → kept_after setup k (newer ++ older) ≡ kept_after setup (kept_after setup k older) newer
kept_on setup k [] older = refl
kept_on setup k (newest ∷ newer) older = ap (λ (x : Kept). (stepped setup x newest).kept) (kept_on setup k newer older)

pub quiet_on : (setup : Setup) (k : Kept) (newer older : List Input) → AreNothing (kept_outputs setup k older) →
    AreNothing (kept_outputs setup (kept_after setup k older) newer) → AreNothing (kept_outputs setup k (newer ++ older))
quiet_on setup k [] older before later = before
quiet_on setup k (newest ∷ newer) older before later =
    (ap (λ (x : Kept). (stepped setup x newest).outputs) (kept_on setup k newer older) ∙ later.0, quiet_on setup k newer older before later.1)

come_on : (first others : List Packet) → come (first ++ others) ≡ come first ++ come others
come_on first others = map-append Delivery first others

pub heard_is : (setup : Setup) (k : Kept) (notes : List Note) → kept_after setup k (come (votes_in notes)) ≡ heard_all setup k notes
heard_is setup k [] = refl
heard_is setup k (n ∷ notes) =
    ap (kept_after setup k) (come_on (votes_of n) (votes_in notes))
    ∙ (kept_on setup k (come (votes_of n)) (come (votes_in notes))
    ∙ ap (λ (x : Kept). kept_after setup x (come (votes_of n))) (heard_is setup k notes))

pub quiet_all : (setup : Setup) (k : Kept) (notes : List Note) → QuietAll setup k notes → AreNothing (kept_outputs setup k (come (votes_in notes)))
quiet_all setup k [] quiet = tt
quiet_all setup k (n ∷ notes) quiet =
    subst (λ (inputs : List Input). AreNothing (kept_outputs setup k inputs)) (sym (come_on (votes_of n) (votes_in notes)))
    (quiet_on setup k (come (votes_of n)) (come (votes_in notes)) (quiet_all setup k notes quiet.1)
    (subst (λ (x : Kept). AreNothing (kept_outputs setup x (come (votes_of n)))) (sym (heard_is setup k notes)) quiet.0))

pub restart_keeps : (setup : Setup) (k : Kept) (lost : ℕ) → (stepped setup k (Restart lost)).kept ≡ restarted setup k lost
restart_keeps setup k lost = by k.up
  where
    by : (b : Bool) → (if◌then◌else◌ {A = Stepped} b (leaves (restarted setup k lost)) (leaves (restarted setup k lost))).kept ≡ restarted setup k lost
    by true = refl
    by false = refl

pub restart_gives : (setup : Setup) (k : Kept) (lost : ℕ) → (stepped setup k (Restart lost)).outputs ≡ nothing
restart_gives setup k lost = by k.up
  where
    by : (b : Bool) → (if◌then◌else◌ {A = Stepped} b (leaves (restarted setup k lost)) (leaves (restarted setup k lost))).outputs ≡ nothing
    by true = refl
    by false = refl

pub starts_without : (setup : Setup) (gone : ℕ → Bool) (k : Kept) (lost : ℕ) (notes : List Note) → Ascend (keys_of k.messages) →
    AreAllNoted setup gone (restarted setup k lost) notes → StartsWithout setup gone k lost notes
starts_without setup gone k lost notes ascend are =
    let all = hear_all setup gone (restarted setup k lost) refl refl (restarted_ascends setup k lost ascend) (restarted_unheard setup k lost) notes are.each in
    let first : kept_after setup k (Restart lost ∷ []) ≡ restarted setup k lost = restart_keeps setup k lost in
    let leads : kept_after setup k (anew lost notes) ≡ heard_all setup (restarted setup k lost) notes =
    kept_on setup k (come (votes_in notes)) (Restart lost ∷ [])
    ∙ (ap (λ (x : Kept). kept_after setup x (come (votes_in notes))) first ∙ heard_is setup (restarted setup k lost) notes) in
    record {
      kept = ap (without gone) leads ∙ (all.spared_is ∙ sym (restarted_same gone setup k lost));
      quiet = quiet_on setup k (come (votes_in notes)) (Restart lost ∷ []) (restart_gives setup k lost, tt)
          (subst (λ (x : Kept). AreNothing (kept_outputs setup x (come (votes_in notes)))) (sym first)
          (quiet_all setup (restarted setup k lost) notes all.quiet));
      rest = record {
        ascend = subst (λ (x : Kept). Ascend (keys_of x.messages)) (sym leads) all.ascend;
        rest = λ id is.
            let found = are.all id is in
            subst (λ (x : Kept). IsAtRest x id) (sym leads)
            (subst (λ (x : ℕ). IsAtRest (heard_all setup (restarted setup k lost) notes) x) found.2 (all.rest found.0 found.1));
      };
    }
