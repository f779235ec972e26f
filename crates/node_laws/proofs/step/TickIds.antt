-- The messages that a tick looks at: their ids ascend, and of no other message a rule fits.
use Rattle.std.proofs.Common.{◌≡◌, ◌⊎◌, ℕ, ◌<◌, ◌≤◌, Bool, cond, List, [], ◌∷◌, Option, Some, None, IsSome, refl, sym, ap, subst, ◌∙◌, inl, inr, arith}
use Rattle.std.specs.Map.{keys_of, lookup}
use Rattle.std.specs.Option.{unwrap_or}
use Rattle.std.specs.Ordering.{is_eq, match_ordering, nat_cmp}
use Rattle.std.specs.declared.cmp.Ordering.{Ordering}
use Rattle.std.specs.declared.cmp.Ordering.TheVariants.{Equal, Greater, Less}
use Rattle.std.specs.BTreeMap.{is_at}
use Rattle.std.specs.BTreeSet.{insert_key}
use Rattle.std.specs.List.{AllByRecursion}
use Rattle.std.specs.List.Sorted.{IsStrictlySortedBy}
use Rattle.std.proofs.lemmas.Bool.Decides.{nat_tests}
use Rattle.mc_model.specs.node.Reach.{Reach}
use Rattle.mc_model.specs.message.Decree.{Decree}
use Rattle.mc_model.specs.synod.Acceptor.{SlotRecord}
use Rattle.mc_model.specs.synod.Lists.{In}
use Rattle.mc_model.specs.synod.OneSlot.{Vote}
use Rattle.mc_model.specs.synod.Packet.{slot_at}
use Rattle.mc_model.specs.node.Actor.{Waiting, id_in}
use Rattle.mc_model.specs.node.Alone.{Node}
use Rattle.mc_model.specs.node.FirstRule.{Announce, Close, Delete, Expire, FitsRule, Follow, GiveUp, Lose, Rule, Take, Try, Undeliver, order_of}
use Rattle.mc_model.specs.node.Knowledge.{IsKnown, Knows}
use Rattle.mc_model.specs.node.Rules.{IsShownAt}
use Rattle.mc_model.specs.node.Setup.{Setup}
use Rattle.node_model.specs.Kept.{Held, Kept}
use Rattle.node_model.specs.Message.{Message, unseen}
use Rattle.node_model.specs.Requests.{id_of}
use Rattle.node_model.specs.Ticks.{ids_of, ids_with}
use Rattle.node_laws.specs.Stands.{Agrees}
use Rattle.node_laws.proofs.invariant.Held.{kept_as}
use Rattle.node_laws.proofs.step.RuleChains.{goes_on}
use Rattle.node_laws.proofs.step.RulingAll.{Ascending}

-- ---- a key is put at its place

in_inserted : (key : ℕ) (keys : List ℕ) → In key (insert_key nat_cmp keys key)
in_inserted key [] = inl refl
in_inserted key (first ∷ keys) = by_order (nat_cmp key first) refl (in_inserted key keys)
  where
    by_order : (o : Ordering) → nat_cmp key first ≡ o → In key (insert_key nat_cmp keys key) →
        In key (match_ordering o (key ∷ first ∷ keys) (first ∷ keys) (first ∷ insert_key nat_cmp keys key))
    by_order Less is rest = inl refl
    by_order Equal is rest = let same : key ≡ first = grind (arith, nat_tests) in inl same
    by_order Greater is rest = inr rest

in_before : (key : ℕ) (keys : List ℕ) (other : ℕ) → In other keys → In other (insert_key nat_cmp keys key)
in_before key [] other none = absurd none
in_before key (first ∷ keys) other is_in = by_order (nat_cmp key first) (in_before key keys other) is_in
  where
    by_order : (o : Ordering) → (In other keys → In other (insert_key nat_cmp keys key)) → In other (first ∷ keys) →
        In other (match_ordering o (key ∷ first ∷ keys) (first ∷ keys) (first ∷ insert_key nat_cmp keys key))
    by_order Less rest among = inr among
    by_order Equal rest among = among
    by_order Greater rest (inl same) = inl same
    by_order Greater rest (inr later) = inr (rest later)

in_either : (key : ℕ) (keys : List ℕ) (other : ℕ) → In other (insert_key nat_cmp keys key) → (other ≡ key) ⊎ In other keys
in_either key [] other (inl same) = inl same
in_either key [] other (inr none) = absurd none
in_either key (first ∷ keys) other is_in = by_order (nat_cmp key first) (in_either key keys other) is_in
  where
    by_order : (o : Ordering) → (In other (insert_key nat_cmp keys key) → (other ≡ key) ⊎ In other keys) →
        In other (match_ordering o (key ∷ first ∷ keys) (first ∷ keys) (first ∷ insert_key nat_cmp keys key)) → (other ≡ key) ⊎ In other (first ∷ keys)
    by_order Less rest (inl same) = inl same
    by_order Less rest (inr later) = inr later
    by_order Equal rest among = inr among
    by_order Greater rest (inl same) = inr (inl same)
    by_order Greater rest (inr later) = elim (rest later) [ inl same ↦ inl same | inr among ↦ inr (inr among) ]

ascends_with : (key : ℕ) (keys : List ℕ) → Ascending keys → Ascending (insert_key nat_cmp keys key)
ascends_with key [] ascends = ((λ other none. absurd none), tt)
ascends_with key (first ∷ keys) ascends = by_order (nat_cmp key first) refl (ascends_with key keys ascends.1)
  where
    by_order : (o : Ordering) → nat_cmp key first ≡ o → Ascending (insert_key nat_cmp keys key) →
        Ascending (match_ordering o (key ∷ first ∷ keys) (first ∷ keys) (first ∷ insert_key nat_cmp keys key))
    by_order Less is rest =
        let below : key < first = grind (arith, nat_tests) in (
          (λ other among. elim among [
            | inl same ↦ omega arith
            | inr later ↦ let more = ascends.0 other later in omega arith
          ]),
          ascends,
        )
    by_order Equal is rest = ascends
    by_order Greater is rest =
        let above : first < key = grind (arith, nat_tests) in (
          (λ other among. elim (in_either key keys other among) [
            | inl same ↦ omega arith
            | inr later ↦ ascends.0 other later
          ]),
          rest,
        )

all_above : (key : ℕ) (keys : List ℕ) → AllByRecursion (λ (other : ℕ). nat_cmp key other ≡ Less) keys → (other : ℕ) → In other keys → key < other
all_above key [] all other none = absurd none
all_above key (first ∷ keys) all other (inl same) = let below : key < first = grind (arith, nat_tests) in omega arith
all_above key (first ∷ keys) all other (inr later) = all_above key keys all.1 other later

sorted_ascends : (keys : List ℕ) → IsStrictlySortedBy nat_cmp keys → Ascending keys
unfolding IsStrictlySortedBy
sorted_ascends [] sorted = tt
sorted_ascends (key ∷ keys) sorted = (all_above key keys sorted.0, sorted_ascends keys sorted.1)

-- ---- the ids of a tick

ids_ascend : (held : List Held) (ids : List ℕ) → Ascending ids → Ascending (ids_with held ids)
ids_ascend [] ids ascends = ascends
ids_ascend (h ∷ others) ids ascends = ascends_with (id_of h) (ids_with others ids) (ids_ascend others ids ascends)

kept_in : (held : List Held) (ids : List ℕ) (id : ℕ) → In id ids → In id (ids_with held ids)
kept_in [] ids id among = among
kept_in (h ∷ others) ids id among = in_before (id_of h) (ids_with others ids) id (kept_in others ids id among)

asked_in : (held : List Held) (ids : List ℕ) (h : Held) → In h held → In (id_of h) (ids_with held ids)
asked_in [] ids h none = absurd none
asked_in (first ∷ others) ids h (inl same) =
    subst (λ (x : Held). In (id_of x) (ids_with (first ∷ others) ids)) (sym same) (in_inserted (id_of first) (ids_with others ids))
asked_in (first ∷ others) ids h (inr later) = in_before (id_of first) (ids_with others ids) (id_of h) (asked_in others ids h later)

pub listed_in : (id : ℕ) (es : List (ℕ × Message)) → IsSome (lookup (is_at (nat_cmp id)) es) → In id (keys_of es)
listed_in id [] some = absurd (cc)
listed_in id (e ∷ es) some = by_order (nat_cmp id e.0) refl (listed_in id es) some
  where
    by_order : (o : Ordering) → nat_cmp id e.0 ≡ o → (IsSome (lookup (is_at (nat_cmp id)) es) → In id (keys_of es)) →
        IsSome (cond (is_eq o) (Some e.1) (lookup (is_at (nat_cmp id)) es)) → In id (keys_of (e ∷ es))
    by_order Less is rest some = inr (rest some)
    by_order Equal is rest some = let same : id ≡ e.0 = grind (arith, nat_tests) in inl same
    by_order Greater is rest some = inr (rest some)

module _ (setup : Setup) (k : Kept) (s : Node) (agrees : Agrees setup k s) where
  pub ids_ascending : Ascending (ids_of k)
  ids_ascending = ids_ascend k.held (keys_of k.messages) (sorted_ascends (keys_of k.messages) agrees.ascends)

  waits_in : (w : Waiting) → In w s.actor.waiting → In (id_in w.request) (ids_of k)
  waits_in w waits =
      let kept = kept_as k.held w (subst (In w) (sym agrees.waiting) waits) in
      subst (λ (x : Waiting). In (id_in x.request) (ids_of k)) kept.same (asked_in k.held (keys_of k.messages) kept.request kept.among)

  voted_in : (id place : ℕ) (vote : Vote) → (s.records (slot_at id place)).vote ≡ Some vote → In id (ids_of k)
  voted_in id place vote voted =
      let own = ap (λ (r : SlotRecord). r.vote) (agrees.records (slot_at id place)) ∙ voted in
      kept_in k.held (keys_of k.messages) id (listed_in id k.messages (agrees.listed (slot_at id place) vote own))

  known_in : (id : ℕ) (chain : List Decree) → Knows setup.nodes s.actor.received id chain → In id (ids_of k)
  known_in id chain knows = by_entry (lookup (is_at (nat_cmp id)) k.messages) refl
    where
      by_entry : (entry : Option Message) → lookup (is_at (nat_cmp id)) k.messages ≡ entry → In id (ids_of k)
      by_entry (Some m) is = kept_in k.held (keys_of k.messages) id (listed_in id k.messages (subst IsSome (sym is) refl))
      by_entry None is =
          let nothing : IsKnown setup.nodes s.actor.received id unseen.known =
          subst (λ (o : Option Message). IsKnown setup.nodes s.actor.received id (unwrap_or o unseen).known) is (agrees.message id).heard.known in
          absurd (nothing _ _ knows.learned)

  shown_in : (id place : ℕ) (vote : Vote) → IsShownAt setup.node s.actor s.records id place vote → In id (ids_of k)
  shown_in id place vote (inl told) = subst (λ (i : ℕ). In i (ids_of k)) told.about (waits_in told.waiting told.waits)
  shown_in id place vote (inr voted) = voted_in id place vote voted

  behind_in : (reach : Reach) (id : ℕ) (rule : Rule) (place : ℕ) (chain : List Decree) → 3 ≤ order_of rule →
      FitsRule setup.nodes setup.node s.actor s.records reach id place chain rule → In id (ids_of k)
  behind_in reach id rule place chain late fits =
      let it = goes_on setup.nodes setup.node s.actor s.records reach id rule place chain late fits in known_in id _ it.further.known

  pub fits_in : (reach : Reach) (id : ℕ) (rule : Rule) (place : ℕ) (chain : List Decree) →
      FitsRule setup.nodes setup.node s.actor s.records reach id place chain rule → In id (ids_of k)
  fits_in reach id Take place chain fits = subst (λ (i : ℕ). In i (ids_of k)) (ap id_in fits.1.submits) (waits_in fits.1.waiting fits.1.waits)
  fits_in reach id Follow place chain fits = shown_in id place fits.vote fits.highest.shown
  fits_in reach id Close place chain fits = behind_in reach id Close place chain (omega arith) fits
  fits_in reach id Lose place chain fits = behind_in reach id Lose place chain (omega arith) fits
  fits_in reach id GiveUp place chain fits = behind_in reach id GiveUp place chain (omega arith) fits
  fits_in reach id Delete place chain fits = behind_in reach id Delete place chain (omega arith) fits
  fits_in reach id Expire place chain fits = behind_in reach id Expire place chain (omega arith) fits
  fits_in reach id Undeliver place chain fits = behind_in reach id Undeliver place chain (omega arith) fits
  fits_in reach id Try place chain fits = behind_in reach id Try place chain (omega arith) fits
  fits_in reach id Announce place chain fits = behind_in reach id Announce place chain (omega arith) fits
