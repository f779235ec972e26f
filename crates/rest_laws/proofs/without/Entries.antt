-- What a node keeps without the messages that are gone, entry by entry.
use Rattle.std.proofs.Common.{◌≡◌, ℕ, Bool, true, false, cond, List, [], ◌∷◌, filter, Option, Some, None, refl, sym, subst, ap, ◌∙◌, arith}
use Rattle.std.specs.Prelude.{not, if◌then◌else◌}
use Rattle.std.specs.List.{AllByRecursion}
use Rattle.std.specs.List.Sorted.{IsStrictlySortedBy}
use Rattle.std.specs.Map.{keys_of, lookup}
use Rattle.std.specs.Ordering.{match_ordering, nat_cmp}
use Rattle.std.specs.declared.cmp.Ordering.{Ordering}
use Rattle.std.specs.declared.cmp.Ordering.TheVariants.{Less, Equal, Greater}
use Rattle.std.specs.BTreeMap.{insert_entry, is_at}
use Rattle.std.specs.BTreeSet.{insert_key}
use Rattle.std.specs.Option.{unwrap_or}
use Rattle.std.proofs.lemmas.Bool.Decides.{nat_tests}
use Rattle.mc_model.specs.synod.Acceptor.{Records, SlotRecord, blank, with_record}
use Rattle.mc_model.specs.synod.Packet.{Slot, same_slot}
use Rattle.mc_parts.proofs.Membership.{slots_same}
use Rattle.node_model.specs.Kept.{Kept, message_at, with_message}
use Rattle.node_model.specs.Message.{Message, unseen}
use Rattle.node_model.proofs.Keys.{same_key}
use Rattle.shelf.proofs.Entries.{still_ascends}
use Rattle.rest_laws.specs.Without.{without}
use Rattle.rest_laws.proofs.forgetting.Kept.{Forgetting}

-- ---- ids and entries that ascend

-- each of these ids is above one
abbrev pub AreAbove : ℕ → List ℕ → Type 0
AreAbove low ids = AllByRecursion (λ (id : ℕ). nat_cmp low id ≡ Less) ids

abbrev pub Ascend : List ℕ → Type 0
Ascend ids = IsStrictlySortedBy nat_cmp ids

above_lower : (low high : ℕ) (ids : List ℕ) → nat_cmp low high ≡ Less → AreAbove high ids → AreAbove low ids
above_lower low high [] less above = tt
above_lower low high (id ∷ ids) less above =
    let first : nat_cmp high id ≡ Less = above.0 in
    let under : nat_cmp low id ≡ Less = grind (arith, nat_tests) in
    (under, above_lower low high ids less above.1)

above_filtered : (low : ℕ) (test : ℕ → Bool) (ids : List ℕ) → AreAbove low ids → AreAbove low (filter test ids)
above_filtered low test [] above = tt
above_filtered low test (id ∷ ids) above = by (test id) (above_filtered low test ids above.1)
  where
    by : (b : Bool) → AreAbove low (filter test ids) → AreAbove low (cond b (id ∷ filter test ids) (filter test ids))
    by true rest = (above.0, rest)
    by false rest = rest

-- an id, or an entry, below all comes first
key_front : (ids : List ℕ) (key : ℕ) → AreAbove key ids → insert_key nat_cmp ids key ≡ key ∷ ids
key_front [] key above = refl
key_front (id ∷ ids) key above = let order : nat_cmp key id ≡ Less = above.0 in rw order refl

entry_front : (es : List (ℕ × Message)) (key : ℕ) (m : Message) → AreAbove key (keys_of es) → insert_entry nat_cmp es key m ≡ (key, m) ∷ es
entry_front [] key m above = refl
entry_front (e ∷ es) key m above = let order : nat_cmp key e.0 ≡ Less = above.0 in rw order refl

above_inserted : (low : ℕ) (ids : List ℕ) (key : ℕ) → nat_cmp low key ≡ Less → AreAbove low ids → AreAbove low (insert_key nat_cmp ids key)
above_inserted low [] key less above = (less, tt)
above_inserted low (id ∷ ids) key less above = by (nat_cmp key id) (above_inserted low ids key less above.1)
  where
    by : (o : Ordering) → AreAbove low (insert_key nat_cmp ids key) →
        AreAbove low (match_ordering o (key ∷ id ∷ ids) (id ∷ ids) (id ∷ insert_key nat_cmp ids key))
    by Less rest = (less, (above.0, above.1))
    by Equal rest = (above.0, above.1)
    by Greater rest = (above.0, rest)

pub keys_ascend : (ids : List ℕ) (key : ℕ) → Ascend ids → Ascend (insert_key nat_cmp ids key)
unfolding IsStrictlySortedBy
keys_ascend [] key ascend = (tt, tt)
keys_ascend (id ∷ ids) key ascend = by (nat_cmp key id) refl (keys_ascend ids key ascend.1)
  where
    by : (o : Ordering) → nat_cmp key id ≡ o → Ascend (insert_key nat_cmp ids key) →
        Ascend (match_ordering o (key ∷ id ∷ ids) (id ∷ ids) (id ∷ insert_key nat_cmp ids key))
    by Less order rest = ((order, above_lower key id ids order ascend.0), ascend)
    by Equal order rest = ascend
    by Greater order rest =
        let less : nat_cmp id key ≡ Less = grind (arith, nat_tests) in (above_inserted id ids key less ascend.0, rest)

-- ---- those that are left

module _ (gone : ℕ → Bool) where
  abbrev pub left_ids : List ℕ → List ℕ
  left_ids ids = filter (λ id. not (gone id)) ids

  abbrev pub left : List (ℕ × Message) → List (ℕ × Message)
  left es = filter (λ entry. not (gone entry.0)) es

  pub left_keys : (es : List (ℕ × Message)) → keys_of (left es) ≡ left_ids (keys_of es)
  left_keys [] = refl
  left_keys (e ∷ es) = by (not (gone e.0)) (left_keys es)
    where
      by : (b : Bool) → keys_of (left es) ≡ left_ids (keys_of es) →
          keys_of (cond b (e ∷ left es) (left es)) ≡ cond b (e.0 ∷ left_ids (keys_of es)) (left_ids (keys_of es))
      by true rest = ap (λ (ids : List ℕ). e.0 ∷ ids) rest
      by false rest = rest

  left_above : (low : ℕ) (es : List (ℕ × Message)) → AreAbove low (keys_of es) → AreAbove low (keys_of (left es))
  left_above low es above =
      subst (AreAbove low) (sym (left_keys es)) (above_filtered low (λ id. not (gone id)) (keys_of es) above)

  -- a clash: an id that is gone is one that is not
  clash : {A : Type 0} (key id : ℕ) → gone id ≡ true → gone key ≡ false → nat_cmp key id ≡ Equal → A
  clash key id is stays order =
      let same : key ≡ id = grind (arith, nat_tests) in
      let no : gone id ≡ false = subst (λ (i : ℕ). gone i ≡ false) same stays in
      absurd (cc)

  pub key_left : (ids : List ℕ) (key : ℕ) → Ascend ids → gone key ≡ false → left_ids (insert_key nat_cmp ids key) ≡ insert_key nat_cmp (left_ids ids) key
  unfolding IsStrictlySortedBy
  key_left [] key ascend stays = rw stays refl
  key_left (id ∷ ids) key ascend stays = by (gone id) refl (nat_cmp key id) refl (key_left ids key ascend.1 stays)
    where
      by : (b : Bool) → gone id ≡ b → (o : Ordering) → nat_cmp key id ≡ o → left_ids (insert_key nat_cmp ids key) ≡ insert_key nat_cmp (left_ids ids) key →
          left_ids (match_ordering o (key ∷ id ∷ ids) (id ∷ ids) (id ∷ insert_key nat_cmp ids key))
          ≡ insert_key nat_cmp (cond (not b) (id ∷ left_ids ids) (left_ids ids)) key
      by false is Less order rest = rw (stays, is, order) refl
      by false is Equal order rest = rw (is, order) refl
      by false is Greater order rest = rw (is, order) (ap (λ (l : List ℕ). id ∷ l) rest)
      by true is Less order rest =
          let front = key_front (left_ids ids) key (above_filtered key (λ other. not (gone other)) ids (above_lower key id ids order ascend.0)) in
          rw (stays, is) (sym front)
      by true is Equal order rest = clash key id is stays order
      by true is Greater order rest = rw is rest

  pub entry_left : (es : List (ℕ × Message)) (key : ℕ) (m : Message) → Ascend (keys_of es) → gone key ≡ false →
      insert_entry nat_cmp (left es) key m ≡ left (insert_entry nat_cmp es key m)
  unfolding IsStrictlySortedBy
  entry_left [] key m ascend stays = rw stays refl
  entry_left (e ∷ es) key m ascend stays = by (gone e.0) refl (nat_cmp key e.0) refl (entry_left es key m ascend.1 stays)
    where
      by : (b : Bool) → gone e.0 ≡ b → (o : Ordering) → nat_cmp key e.0 ≡ o → insert_entry nat_cmp (left es) key m ≡ left (insert_entry nat_cmp es key m) →
          insert_entry nat_cmp (cond (not b) (e ∷ left es) (left es)) key m
          ≡ left (match_ordering o ((key, m) ∷ e ∷ es) ((e.0, m) ∷ es) (e ∷ insert_entry nat_cmp es key m))
      by false is Less order rest = rw (stays, is, order) refl
      by false is Equal order rest = rw (is, order) refl
      by false is Greater order rest = rw (is, order) (ap (λ (l : List (ℕ × Message)). e ∷ l) rest)
      by true is Less order rest =
          let front = entry_front (left es) key m (left_above key es (above_lower key e.0 (keys_of es) order ascend.0)) in
          rw (stays, is) front
      by true is Equal order rest = clash key e.0 is stays order
      by true is Greater order rest = rw is rest

  -- what is kept of one that is gone is not left
  insert_gone : (es : List (ℕ × Message)) (key : ℕ) (m : Message) → gone key ≡ true → left (insert_entry nat_cmp es key m) ≡ left es
  insert_gone [] key m is = rw is refl
  insert_gone (e ∷ es) key m is = by (nat_cmp key e.0) refl (insert_gone es key m is)
    where
      by : (o : Ordering) → nat_cmp key e.0 ≡ o → left (insert_entry nat_cmp es key m) ≡ left es →
          left (match_ordering o ((key, m) ∷ e ∷ es) ((e.0, m) ∷ es) (e ∷ insert_entry nat_cmp es key m)) ≡ left (e ∷ es)
      by Less order rest = ap (λ (b : Bool). cond (not b) ((key, m) ∷ left (e ∷ es)) (left (e ∷ es))) is
      by Equal order rest =
          let same : key ≡ e.0 = grind (arith, nat_tests) in
          let also : gone e.0 ≡ true = subst (λ (i : ℕ). gone i ≡ true) same is in
          (λ i. cond (not (also i)) ((e.0, m) ∷ left es) (left es)) ∙ (λ i. cond (not (sym also i)) (e ∷ left es) (left es))
      by Greater order rest = λ i. cond (not (gone e.0)) (e ∷ rest i) (rest i)

  pub with_gone : (k : Kept) (id : ℕ) (m : Message) → gone id ≡ true → without gone (with_message k id m) ≡ without gone k
  with_gone k id m is = λ i. record (without gone k) { messages = insert_gone k.messages id m is i }

  pub lookup_left : (es : List (ℕ × Message)) (id : ℕ) → gone id ≡ false → lookup (is_at (nat_cmp id)) (left es) ≡ lookup (is_at (nat_cmp id)) es
  lookup_left [] id stays = refl
  lookup_left (e ∷ es) id stays = by (gone e.0) refl (lookup_left es id stays)
    where
      other : gone e.0 ≡ true → (b : Bool) → is_at (nat_cmp id) e.0 ≡ b → b ≡ false
      other is true at =
          let same : id ≡ e.0 = same_key id e.0 at in
          let no : gone e.0 ≡ false = subst (λ (i : ℕ). gone i ≡ false) same stays in
          absurd (cc)
      other is false at = refl

      by : (b : Bool) → gone e.0 ≡ b → lookup (is_at (nat_cmp id)) (left es) ≡ lookup (is_at (nat_cmp id)) es →
          lookup (is_at (nat_cmp id)) (cond (not b) (e ∷ left es) (left es)) ≡ lookup (is_at (nat_cmp id)) (e ∷ es)
      by true is rest = let skipped = other is (is_at (nat_cmp id) e.0) refl in rw skipped rest
      by false is rest = ap (λ (o : Option Message). cond (is_at (nat_cmp id) e.0) (Some e.1) o) rest

  lookup_gone : (es : List (ℕ × Message)) (id : ℕ) → gone id ≡ true → lookup (is_at (nat_cmp id)) (left es) ≡ None
  lookup_gone [] id was = refl
  lookup_gone (e ∷ es) id was = by (gone e.0) refl (lookup_gone es id was)
    where
      other : gone e.0 ≡ false → (b : Bool) → is_at (nat_cmp id) e.0 ≡ b → b ≡ false
      other is true at =
          let same : id ≡ e.0 = same_key id e.0 at in
          let also : gone e.0 ≡ true = subst (λ (i : ℕ). gone i ≡ true) same was in
          absurd (cc)
      other is false at = refl

      by : (b : Bool) → gone e.0 ≡ b → lookup (is_at (nat_cmp id)) (left es) ≡ None →
          lookup (is_at (nat_cmp id)) (cond (not b) (e ∷ left es) (left es)) ≡ None
      by true is rest = rest
      by false is rest = let skipped = other is (is_at (nat_cmp id) e.0) refl in rw skipped rest

  pub message_gone : (k : Kept) (id : ℕ) → gone id ≡ true → message_at (without gone k) id ≡ unseen
  message_gone k id was = ap (λ (o : Option Message). unwrap_or o unseen) (lookup_gone k.messages id was)

  -- ---- records

  abbrev pub hidden : Records → Records
  hidden records = λ slot. if gone slot.id then blank else records slot

  pub records_with : (records : Records) (slot : Slot) (new : SlotRecord) → gone slot.id ≡ false →
      with_record (hidden records) slot new ≡ hidden (with_record records slot new)
  records_with records slot new stays = λ i other. each other i
    where
      each : (other : Slot) → with_record (hidden records) slot new other ≡ hidden (with_record records slot new) other
      each other = by (same_slot other slot) refl
        where
          by : (b : Bool) → same_slot other slot ≡ b →
              (if b then new else (if gone other.id then blank else records other))
              ≡ (if gone other.id then blank else (if b then new else records other))
          by true is =
              let same : other ≡ slot = slots_same other slot is in
              let still : gone other.id ≡ false = subst (λ (s : Slot). gone s.id ≡ false) (sym same) stays in
              rw still refl
          by false is = refl

  -- ---- so nothing of the others is forgotten

  abbrev pub dropping : Forgetting
  dropping = record {
    some_of = gone;
    records = hidden;
    messages = left;
    Ordered = λ es. Ascend (keys_of es);
    still_ordered = λ es id m ascend. still_ascends es id m ascend;
    found = λ es id stays. ap (λ (o : Option Message). unwrap_or o unseen) (lookup_left es id stays);
    put = λ es id m ascend stays. entry_left es id m ascend stays;
    record_found = λ all slot stays. ap (λ (b : Bool). if b then blank else all slot) stays;
    record_put = λ all slot new stays. records_with all slot new stays;
  }
