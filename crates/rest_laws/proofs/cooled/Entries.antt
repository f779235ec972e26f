-- What a node keeps that forgot what it heard and did of messages that are cold.
use Rattle.std.proofs.Common.{◌≡◌, ℕ, Bool, true, false, cond, List, [], ◌∷◌, map, Some, refl, sym, ap, ◌∙◌, arith}
use Rattle.std.specs.Map.{lookup}
use Rattle.std.specs.Ordering.{match_ordering, nat_cmp}
use Rattle.std.specs.declared.cmp.Ordering.{Ordering}
use Rattle.std.specs.declared.cmp.Ordering.TheVariants.{Less, Equal, Greater}
use Rattle.std.specs.BTreeMap.{insert_entry, is_at}
use Rattle.std.specs.Option.{unwrap_or}
use Rattle.std.proofs.lemmas.Bool.Decides.{nat_tests}
use Rattle.mc_model.specs.synod.Acceptor.{SlotRecord, with_record}
use Rattle.mc_model.specs.synod.Packet.{Slot}
use Rattle.node_model.specs.Kept.{Kept, message_at, saved, with_message}
use Rattle.node_model.specs.Message.{Message, unseen}
use Rattle.node_model.proofs.Keys.{same_key}
use Rattle.rest_laws.specs.Cooled.{cool, cooled, cooled_if}
use Rattle.rest_laws.proofs.forgetting.Kept.{Forgetting}

-- ---- what was cold for fewer is cold for more

module _ (fewer more : ℕ → Bool) (covers : (id : ℕ) → fewer id ≡ true → more id ≡ true) where
  both_cool : (id : ℕ) (m : Message) → cooled_if (more id) (cooled_if (fewer id) m) ≡ cooled_if (more id) m
  both_cool id m = by (fewer id) refl
    where
      twice : (b : Bool) → b ≡ true → cooled_if b (cooled m) ≡ cooled_if b m
      twice true is = refl
      twice false is = absurd (cc)

      by : (b : Bool) → fewer id ≡ b → cooled_if (more id) (cooled_if b m) ≡ cooled_if (more id) m
      by true is = twice (more id) (covers id is)
      by false is = refl

  abbrev by_some : (ℕ → Bool) → List (ℕ × Message) → List (ℕ × Message)
  by_some some es = map (λ (entry : ℕ × Message). (entry.0, cooled_if (some entry.0) entry.1)) es

  entries_more : (es : List (ℕ × Message)) → by_some more (by_some fewer es) ≡ by_some more es
  entries_more [] = refl
  entries_more (e ∷ es) = λ i. (e.0, both_cool e.0 e.1 i) ∷ entries_more es i

  pub cool_more : (k : Kept) → cool more (cool fewer k) ≡ cool more k
  cool_more k = λ i. record k { messages = entries_more k.messages i }

module _ (cold : ℕ → Bool) where
  abbrev pub cool_entry : ℕ × Message → ℕ × Message
  cool_entry entry = (entry.0, cooled_if (cold entry.0) entry.1)

  abbrev pub cool_all : List (ℕ × Message) → List (ℕ × Message)
  cool_all es = map cool_entry es

  pub insert_cool : (es : List (ℕ × Message)) (key : ℕ) (m : Message) →
      cool_all (insert_entry nat_cmp es key m) ≡ insert_entry nat_cmp (cool_all es) key (cooled_if (cold key) m)
  insert_cool [] key m = refl
  insert_cool (e ∷ es) key m = by (nat_cmp key e.0) refl (insert_cool es key m)
    where
      by : (o : Ordering) → nat_cmp key e.0 ≡ o → cool_all (insert_entry nat_cmp es key m) ≡ insert_entry nat_cmp (cool_all es) key (cooled_if (cold key) m) →
          cool_all (match_ordering o ((key, m) ∷ e ∷ es) ((e.0, m) ∷ es) (e ∷ insert_entry nat_cmp es key m))
          ≡ match_ordering o ((key, cooled_if (cold key) m) ∷ cool_entry e ∷ cool_all es) ((e.0, cooled_if (cold key) m) ∷ cool_all es)
          (cool_entry e ∷ insert_entry nat_cmp (cool_all es) key (cooled_if (cold key) m))
      by Less order rest = refl
      by Equal order rest =
          let same : key ≡ e.0 = grind (arith, nat_tests) in
          λ i. (e.0, cooled_if (cold (sym same i)) m) ∷ cool_all es
      by Greater order rest = ap (λ (l : List (ℕ × Message)). cool_entry e ∷ l) rest

  -- what is kept of a message then
  pub with_cool : (k : Kept) (id : ℕ) (m : Message) → with_message (cool cold k) id (cooled_if (cold id) m) ≡ cool cold (with_message k id m)
  with_cool k id m = λ i. record k { messages = sym (insert_cool k.messages id m) i }

  lookup_cool : (es : List (ℕ × Message)) (id : ℕ) →
      unwrap_or (lookup (is_at (nat_cmp id)) (cool_all es)) unseen ≡ cooled_if (cold id) (unwrap_or (lookup (is_at (nat_cmp id)) es) unseen)
  lookup_cool [] id = by (cold id)
    where
      by : (b : Bool) → unseen ≡ cooled_if b unseen
      by true = refl
      by false = refl
  lookup_cool (e ∷ es) id = by (is_at (nat_cmp id) e.0) refl (lookup_cool es id)
    where
      by : (b : Bool) → is_at (nat_cmp id) e.0 ≡ b →
          unwrap_or (lookup (is_at (nat_cmp id)) (cool_all es)) unseen ≡ cooled_if (cold id) (unwrap_or (lookup (is_at (nat_cmp id)) es) unseen) →
          unwrap_or (cond b (Some (cooled_if (cold e.0) e.1)) (lookup (is_at (nat_cmp id)) (cool_all es))) unseen
          ≡ cooled_if (cold id) (unwrap_or (cond b (Some e.1) (lookup (is_at (nat_cmp id)) es)) unseen)
      by true at rest = let same : id ≡ e.0 = same_key id e.0 at in λ i. cooled_if (cold (sym same i)) e.1
      by false at rest = rest

  pub message_cool : (k : Kept) (id : ℕ) → message_at (cool cold k) id ≡ cooled_if (cold id) (message_at k id)
  message_cool k id = lookup_cool k.messages id

  pub message_cooled : (k : Kept) (id : ℕ) → cold id ≡ true → message_at (cool cold k) id ≡ cooled (message_at k id)
  message_cooled k id is = message_cool k id ∙ ap (λ (b : Bool). cooled_if b (message_at k id)) is

  -- a record is saved, of any message
  pub saved_cool : (k : Kept) (slot : Slot) (new : SlotRecord) → saved (cool cold k) slot new ≡ cool cold (saved k slot new)
  saved_cool k slot new =
      (λ i. record (with_message (cool cold k) slot.id (message_cool k slot.id i)) { records = with_record k.records slot new })
      ∙ (λ i. record (with_cool k slot.id (message_at k slot.id) i) { records = with_record k.records slot new })

  -- nothing of the others is forgotten
  pub cool_found : (es : List (ℕ × Message)) (id : ℕ) → cold id ≡ false →
      unwrap_or (lookup (is_at (nat_cmp id)) (cool_all es)) unseen ≡ unwrap_or (lookup (is_at (nat_cmp id)) es) unseen
  cool_found es id stays = lookup_cool es id ∙ ap (λ (b : Bool). cooled_if b (unwrap_or (lookup (is_at (nat_cmp id)) es) unseen)) stays

  pub cool_put : (es : List (ℕ × Message)) (id : ℕ) (m : Message) → cold id ≡ false →
      insert_entry nat_cmp (cool_all es) id m ≡ cool_all (insert_entry nat_cmp es id m)
  cool_put es id m stays = (λ i. insert_entry nat_cmp (cool_all es) id (cooled_if (sym stays i) m)) ∙ sym (insert_cool es id m)

  abbrev pub cooling : Forgetting
  cooling = record {
    some_of = cold;
    records = λ all. all;
    messages = cool_all;
    Ordered = λ es. Unit {0};
    still_ordered = λ es id m ordered. tt;
    found = λ es id stays. cool_found es id stays;
    put = λ es id m ordered stays. cool_put es id m stays;
    record_found = λ all slot stays. refl;
    record_put = λ all slot new stays. refl;
  }

  -- ---- what is cool stays so

  pub cool_twice : (k : Kept) → cool cold (cool cold k) ≡ cool cold k
  cool_twice = cool_more cold cold (λ id is. is)

  -- a message that is cool may be kept with anything else but what is known, and its round
  pub with_any : (k : Kept) (id : ℕ) (m n : Message) → cooled_if (cold id) m ≡ cooled_if (cold id) n →
      cool cold (with_message (cool cold k) id m) ≡ cool cold (with_message k id n)
  with_any k id m n same = sym (with_cool (cool cold k) id m) ∙ ((λ i. with_message (cool_twice k i) id (same i)) ∙ with_cool k id n)
