-- The list of the messages that are live, as messages are put and rest.
use Rattle.std.proofs.Common.{◌≡◌, ◌⊎◌, ℕ, suc, ◌+◌, ◌-◌, ◌<◌, ◌≤◌, Bool, true, false, cond, List, [], ◌∷◌, length, map, Option, Some, None, refl, sym}
use Rattle.std.proofs.Common.{ap, subst, ◌∙◌, inl, inr, arith}
use Rattle.std.specs.Prelude.{◌==◌, option_map}
use Rattle.std.specs.BTreeMap.{is_at}
use Rattle.std.specs.BTreeSet.{insert_key}
use Rattle.std.specs.List.Sorted.{IsStrictlySortedBy}
use Rattle.std.specs.Map.{keys_of}
use Rattle.std.specs.Ordering.{match_ordering, nat_cmp}
use Rattle.std.specs.declared.cmp.Ordering.{Ordering}
use Rattle.std.specs.declared.cmp.Ordering.TheVariants.{Less, Equal, Greater}
use Rattle.std.proofs.lemmas.List.{length-map}
use Rattle.std.proofs.lemmas.Bool.{cases_Bool, eq-eqb, true≢false}
use Rattle.std.proofs.lemmas.Bool.Decides.{Decides-eqb}
use Rattle.fate_chain.specs.declared.decree.Author.{Author}
use Rattle.mc_model.specs.synod.Lists.{In}
use Rattle.node_model.proofs.Keys.{same_key}
use Rattle.node_model.proofs.Places.{elsewhere, here}
use Rattle.waiting_requests.specs.Numbers.{IsLeastFrom}
use Rattle.shelf.specs.Shelved.{value_at, with_value}
use Rattle.shelf.proofs.Entries.{still_ascends}
use Rattle.shelf.proofs.Visited.{same_keys, value_visited}
use Rattle.node_parts.specs.declared.message.Message.{Message as Filed}
use Rattle.node_parts.specs.Living.{AreListed, IsNextLive, IsSettled, is_decided}
use Rattle.node_parts.specs.Messages.{rested}
use Rattle.node_parts.specs.Renewal.{renewed}
use Rattle.node_parts.proofs.IdLists.{no_more}
use Rattle.node_parts.proofs.Rising.{in_put, put_in, rise_of, rise_put}

-- ---- the next one

pub next_live_is : (entries : List (ℕ × Filed)) (live : List ℕ) (room from : ℕ) (next : Option ℕ) → AreListed entries live room →
    IsLeastFrom from (λ id. In id live) next → IsNextLive entries from next
next_live_is entries live room from None listed least =
    λ id m found above. listed.others id m found (λ among. let below = least id among in absurd (omega (arith, below, above)))
next_live_is entries live room from (Some next) listed least = (
  listed.kept next least.0,
  (least.1.0, λ id m found above before. listed.others id m found (λ among. let lower = least.1.1 id among above in absurd (omega (arith, lower, before)))),
)

-- ---- how many are listed

key_length : (entries : List (ℕ × Filed)) → length (keys_of entries) ≡ length entries
key_length [] = refl
key_length (e ∷ es) = ap suc (key_length es)

pub few_listed : (entries : List (ℕ × Filed)) (live : List ℕ) (room : ℕ) → AreListed entries live room → IsStrictlySortedBy nat_cmp (keys_of entries) →
    length live ≤ room
few_listed entries live room listed ascends =
    let fewer = no_more live (keys_of entries) listed.rising (rise_of (keys_of entries) ascends) listed.kept in
    let keys = key_length entries in
    let fits = listed.fits in
    omega (arith, fewer, keys, fits)

-- ---- a message is put

pub keys_put : (entries : List (ℕ × Filed)) (id : ℕ) (m : Filed) → keys_of (with_value entries id m) ≡ insert_key nat_cmp (keys_of entries) id
keys_put [] id m = refl
keys_put (e ∷ es) id m = at_order (nat_cmp id e.0) refl (keys_put es id m)
  where
    at_order : (o : Ordering) → nat_cmp id e.0 ≡ o → keys_of (with_value es id m) ≡ insert_key nat_cmp (keys_of es) id →
        keys_of (match_ordering o ((id, m) ∷ e ∷ es) ((e.0, m) ∷ es) (e ∷ with_value es id m))
        ≡ match_ordering o (id ∷ e.0 ∷ keys_of es) (e.0 ∷ keys_of es) (e.0 ∷ insert_key nat_cmp (keys_of es) id)
    at_order Less is rest = refl
    at_order Equal is rest = refl
    at_order Greater is rest = ap (λ (keys : List ℕ). e.0 ∷ keys) rest

in_keys : (entries : List (ℕ × Filed)) (id other : ℕ) (m : Filed) → (other ≡ id) ⊎ In other (keys_of entries) → In other (keys_of (with_value entries id m))
in_keys entries id other m either = subst (In other) (sym (keys_put entries id m)) (put_in other id (keys_of entries) either)

one_longer : (entries : List (ℕ × Filed)) (id : ℕ) (m : Filed) → length (with_value entries id m) ≤ length entries + 1
one_longer [] id m = omega arith
one_longer (e ∷ es) id m = at_order (nat_cmp id e.0) (one_longer es id m)
  where
    at_order : (o : Ordering) → length (with_value es id m) ≤ length es + 1 →
        length (match_ordering o ((id, m) ∷ e ∷ es) ((e.0, m) ∷ es) (e ∷ with_value es id m)) ≤ length (e ∷ es) + 1
    at_order Less rest = omega arith
    at_order Equal rest = omega arith
    at_order Greater rest = omega (arith, rest)

module _ (entries : List (ℕ × Filed)) (live : List ℕ) (room id : ℕ) (m : Filed) (listed : AreListed entries live room) where
  live_kept : (other : ℕ) → In other (insert_key nat_cmp live id) → In other (keys_of (with_value entries id m))
  live_kept other among = in_keys entries id other m (elim (in_put other id live among) [ inl same ↦ inl same | inr there ↦ inr (listed.kept other there) ])

  -- there is room to list it
  pub room_to_list : 0 < room - length entries → IsStrictlySortedBy nat_cmp (keys_of (with_value entries id m)) → length (insert_key nat_cmp live id) ≤ room
  room_to_list more ascends =
      let fits = no_more (insert_key nat_cmp live id) (keys_of (with_value entries id m)) (rise_put id live listed.rising)
      (rise_of (keys_of (with_value entries id m)) ascends) live_kept in
      let keys = key_length (with_value entries id m) in
      let longer = one_longer entries id m in
      omega (arith, fits, keys, longer, more)

  pub listed_put : 0 < room - length entries → AreListed (with_value entries id m) (insert_key nat_cmp live id) room
  listed_put more = record {
    rising = rise_put id live listed.rising;
    kept = live_kept;
    others = λ other n found new.
        let apart : other ≡ id → ⊥ = (λ same. new (put_in other id live (inl same))) in
        listed.others other n (sym (elsewhere id m other apart entries) ∙ found) (λ among. new (put_in other id live (inr among)));
    fits = let longer = one_longer entries id m in omega (arith, longer, more);
  }

pub listings_left : (entries : List (ℕ × Filed)) (room id : ℕ) (m : Filed) → room - length entries ≤ (room - length (with_value entries id m)) + 1
listings_left entries room id m = let longer = one_longer entries id m in omega (arith, longer)

-- ---- a message that is kept is changed

pub listed_key : (entries : List (ℕ × Filed)) (id : ℕ) (m : Filed) → value_at entries id ≡ Some m → In id (keys_of entries)
listed_key [] id m found = absurd (cc)
listed_key (e ∷ es) id m found = by_test (is_at (nat_cmp id) e.0) refl found (listed_key es id m)
  where
    by_test : (test : Bool) → is_at (nat_cmp id) e.0 ≡ test → cond test (Some e.1) (value_at es id) ≡ Some m →
        (value_at es id ≡ Some m → In id (keys_of es)) → In id (e.0 ∷ keys_of es)
    by_test true at is rest = inl (same_key id e.0 at)
    by_test false at is rest = inr (rest is)

module _ (entries : List (ℕ × Filed)) (live : List ℕ) (room id : ℕ) (m to : Filed) (listed : AreListed entries live room)
    (ascends : IsStrictlySortedBy nat_cmp (keys_of entries)) (found : value_at entries id ≡ Some m) where
  abbrev Changed : List (ℕ × Filed)
  Changed = with_value entries id to

  was_key : (other : ℕ) → In other (keys_of Changed) → In other (keys_of entries)
  was_key other among = elim (in_put other id (keys_of entries) (subst (In other) (keys_put entries id to) among)) [
    | inl same ↦ subst (λ (key : ℕ). In key (keys_of entries)) (sym same) (listed_key entries id m found)
    | inr there ↦ there
  ]

  pub changed_length : length Changed ≡ length entries
  changed_length =
      let rise = rise_of (keys_of entries) ascends in
      let rise_then = rise_of (keys_of Changed) (still_ascends entries id to ascends) in
      let fewer = no_more (keys_of Changed) (keys_of entries) rise_then rise was_key in
      let more = no_more (keys_of entries) (keys_of Changed) rise rise_then (λ other among. in_keys entries id other to (inr among)) in
      omega (arith, fewer, more, key_length Changed, key_length entries)

  -- it is listed anew, for which there is room
  pub room_to_relist : length (insert_key nat_cmp live id) ≤ room
  room_to_relist =
      let fewer = no_more (insert_key nat_cmp live id) (keys_of Changed) (rise_put id live listed.rising)
      (rise_of (keys_of Changed) (still_ascends entries id to ascends)) (live_kept entries live room id to listed) in
      let fits = listed.fits in
      omega (arith, fewer, fits, changed_length, key_length Changed)

  pub relisted : AreListed Changed (insert_key nat_cmp live id) room
  relisted = record {
    rising = rise_put id live listed.rising;
    kept = live_kept entries live room id to listed;
    others = λ other n at new.
        let apart : other ≡ id → ⊥ = (λ same. new (put_in other id live (inl same))) in
        listed.others other n (sym (elsewhere id to other apart entries) ∙ at) (λ among. new (put_in other id live (inr among)));
    fits = let fits = listed.fits in omega (arith, fits, changed_length);
  }

  -- what was settled is so
  pub listed_changed : (IsSettled id m → IsSettled id to) → AreListed Changed live room
  listed_changed settled = record {
    rising = listed.rising;
    kept = λ other among. in_keys entries id other to (inr (listed.kept other among));
    others = others;
    fits = let fits = listed.fits in omega (arith, fits, changed_length);
  }
    where
      others : (other : ℕ) (n : Filed) → value_at Changed other ≡ Some n → (In other live → ⊥) → IsSettled other n
      others other n at new = elim (cases_Bool (other == id)) [
        | inl same ↦
            let ids : other ≡ id = (Decides-eqb other id).0 same in
            let put : Some n ≡ Some to = sym at ∙ subst (λ (key : ℕ). value_at Changed key ≡ Some to) (sym ids) (here id to entries) in
            let is : to ≡ n = cc in
            subst (λ (key : ℕ). IsSettled key n) (sym ids) (subst (IsSettled id) is
            (settled (listed.others id m found (λ among. new (subst (λ (key : ℕ). In key live) (sym ids) among)))))
        | inr differs ↦
            let apart : other ≡ id → ⊥ = λ ids. true≢false (sym (eq-eqb other id ids) ∙ differs) in
            listed.others other n (sym (elsewhere id to other apart entries) ∙ at) new
      ]

-- ---- each message is visited

module _ (f : Filed → Filed) (entries : List (ℕ × Filed)) where
  abbrev Visited : List (ℕ × Filed)
  Visited = map (λ (entry : ℕ × Filed). (entry.0, f entry.1)) entries

  pub visited_from : (id : ℕ) (n : Filed) → value_at Visited id ≡ Some n → (m : Filed) × (value_at entries id ≡ Some m) × (f m ≡ n)
  visited_from id n found = by_value (value_at entries id) refl (sym (value_visited f entries id) ∙ found)
    where
      by_value : (was : Option Filed) → value_at entries id ≡ was → option_map f was ≡ Some n → (m : Filed) × (value_at entries id ≡ Some m) × (f m ≡ n)
      by_value None at is = absurd (cc)
      by_value (Some m) at is = let both : f m ≡ n = cc in (m, at, both)

  pub visited_length : length Visited ≡ length entries
  visited_length = length-map entries (λ (entry : ℕ × Filed). (entry.0, f entry.1))

  -- what is settled stays so
  pub listed_visited : (live : List ℕ) (room : ℕ) → ((id : ℕ) (m : Filed) → IsSettled id m → IsSettled id (f m)) →
      AreListed entries live room →
      AreListed Visited live room
  listed_visited live room settled listed = record {
    rising = listed.rising;
    kept = λ id among. subst (In id) (sym (same_keys f entries)) (listed.kept id among);
    others = λ id n found new. let was = visited_from id n found in subst (IsSettled id) was.2 (settled id was.0 (listed.others id was.0 was.1 new));
    fits = let fits = listed.fits in omega (arith, fits, visited_length);
  }

pub renewed_settled : (me : Author) (id : ℕ) (m : Filed) → IsSettled id m → IsSettled id (renewed me m)
renewed_settled me id m is = record { decided = is.decided; rests = is.rests }

pub rested_settled : (id : ℕ) (m : Filed) → is_decided id m ≡ true → IsSettled id (rested m)
rested_settled id m is = record { decided = is; rests = refl }

-- ---- they are moved into more room

pub listed_moved : (entries new : List (ℕ × Filed)) (live moved : List ℕ) (room more : ℕ) → new ≡ entries → moved ≡ live → room ≤ more →
    AreListed entries live room → AreListed new moved more
listed_moved entries new live moved room more same_entries same_live grows listed =
    subst (λ (es : List (ℕ × Filed)). AreListed es moved more) (sym same_entries)
    (subst (λ (ids : List ℕ). AreListed entries ids more) (sym same_live)
    (record { rising = listed.rising; kept = listed.kept; others = listed.others; fits = let fits = listed.fits in omega (arith, fits, grows) }))
