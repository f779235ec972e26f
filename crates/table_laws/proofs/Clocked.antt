-- A tick comes to a node by itself, which settles.
use Rattle.std.proofs.Common.{◌≡◌, ℕ, max, true, List, [], ◌∷◌, ◌++◌, filter, flat_map, map, Option, Some, None, refl, sym, ap, subst, ◌∙◌}
use Rattle.std.proofs.Common.{inl, inr, arith, Bool, false, length, ◌≤◌, ◌*◌, ◌+◌}
use Rattle.std.specs.Prelude.{if◌then◌else◌, nat_lt, not}
use Rattle.std.proofs.lemmas.Bool.{lt-ltb, true≢false}
use Rattle.std.specs.List.Sorted.{IsStrictlySortedBy}
use Rattle.std.specs.Map.{keys_of}
use Rattle.std.specs.Option.{unwrap_or}
use Rattle.std.specs.Ordering.{nat_cmp}
use Rattle.std.specs.BTreeMap.{is_at}
use Rattle.std.proofs.lemmas.List.{length-map}
use Rattle.mc_model.specs.node.Reach.{of_all}
use Rattle.mc_model.specs.message.Decree.{Decree, Kind, Told}
use Rattle.mc_model.specs.synod.Lists.{In}
use Rattle.mc_model.specs.node.Input.{Tick}
use Rattle.mc_model.specs.node.Outputs.{Receipt}
use Rattle.mc_model.specs.node.Setup.{Setup}
use Rattle.node_model.specs.Answers.{receipts_of}
use Rattle.node_model.specs.Kept.{Held, Kept, message_at}
use Rattle.node_model.specs.Message.{Message, unseen}
use Rattle.node_model.specs.Outputs.{sends}
use Rattle.node_model.specs.Proposer.{Prepared}
use Rattle.node_model.specs.Stepped.{stepped}
use Rattle.node_model.specs.Ticks.{is_late, late_reply, ruled_each, rules_then, tick_then, without_round}
use Rattle.table_laws.specs.Alone.{alone}
use Rattle.table_laws.specs.Tables.{Entry, TableNode, chain_at, decree_by, entry_at, extended, known_as, nothing, settled, tells}
use Rattle.table_laws.specs.Ticks.{at_clock, due, each_due, entry_then, entry_with, receipts_at_once, receipts_behind, receipts_ticked, ticked}
use Rattle.table_laws.specs.Resting.{IsAtRest, IsResting}
use Rattle.table_laws.specs.Settling.{SettlesOn, most_deliveries}
use Rattle.table_laws.proofs.Apart.{Each, IsApart, Next, IsSameApart, apart_then}
use Rattle.table_laws.proofs.Ending.{settles_after}
use Rattle.table_laws.proofs.Frames.{given_as, rest_as}
use Rattle.table_laws.proofs.Mapped.{among_keys, among_of, at_mapped, distinct_of, keys_mapped}
use Rattle.table_laws.proofs.Ruling.{EachRests, Ruled, all_ruled, are_apart, are_listed, next_at, round_if, rounds_of, AreAmong}
use Rattle.table_laws.proofs.Behind.{BothEnd, afters_of, both_end}
use Rattle.table_laws.proofs.SideBySide.{Ended, Rests, RestsIf, ballot, receipts, told_next}
use Rattle.table_laws.proofs.Leading.{leads_then, settling, leads_same}

-- ---- which rounds there are

module _ (t : TableNode) (up : List ℕ → Bool) where
  abbrev due_at : ℕ → Option Kind
  due_at id = due t up (entry_at t.table id)

  few_due : (ids : List ℕ) → length (rounds_of t up ids) ≤ length ids
  few_due [] = omega arith
  few_due (id ∷ ids) = by_due (due_at id) (few_due ids)
    where
      by_due : (kind : Option Kind) → length (rounds_of t up ids) ≤ length ids →
          length (round_if t up id (entry_at t.table id) kind ++ rounds_of t up ids) ≤ length (id ∷ ids)
      by_due None few = omega (arith, few)
      by_due (Some kind) few = omega (arith, few)

  -- none for a message for which nothing is due
  apart_if_none : (other : ℕ) → due_at other ≡ None → (ids : List ℕ) → IsApart other (rounds_of t up ids)
  apart_if_none other none [] = tt
  apart_if_none other none (id ∷ ids) = by_due (due_at id) refl (apart_if_none other none ids)
    where
      by_due : (kind : Option Kind) → due_at id ≡ kind → IsApart other (rounds_of t up ids) →
          IsApart other (round_if t up id (entry_at t.table id) kind ++ rounds_of t up ids)
      by_due None is apart = apart
      by_due (Some kind) is apart = ((λ same. let both : None ≡ Some kind = sym none ∙ (ap due_at same ∙ is) in absurd (cc)), apart)

  -- and one for each other that is listed
  module _ (P : Kept → Next → Type 0) (k : Kept) where
    holds_of_round : (other : ℕ) (kind : Kind) → due_at other ≡ Some kind → (ids : List ℕ) → In other ids → Each P k (rounds_of t up ids) →
        P k (next_at t up other (entry_at t.table other) kind)
    holds_of_round other kind is [] is_in each = absurd is_in
    holds_of_round other kind is (id ∷ ids) (inl same) each =
        subst (λ (i : ℕ). P k (next_at t up i (entry_at t.table i) kind)) (sym same) (by_due (due_at id) (sym (ap due_at same) ∙ is) each)
      where
        by_due : (found : Option Kind) → found ≡ Some kind → Each P k (round_if t up id (entry_at t.table id) found ++ rounds_of t up ids) →
            P k (next_at t up id (entry_at t.table id) kind)
        by_due None found each = absurd (cc)
        by_due (Some other_kind) found each =
            let kinds : other_kind ≡ kind = cc in subst (λ (x : Kind). P k (next_at t up id (entry_at t.table id) x)) kinds each.0
    holds_of_round other kind is (id ∷ ids) (inr among) each = holds_of_round other kind is ids among (by_due (due_at id) each)
      where
        by_due : (found : Option Kind) → Each P k (round_if t up id (entry_at t.table id) found ++ rounds_of t up ids) → Each P k (rounds_of t up ids)
        by_due None each = each
        by_due (Some other_kind) each = each.1

  -- ---- the table then, and the receipts

  pub entry_after : (id : ℕ) → entry_at (each_due t up).table id ≡ entry_then t up (entry_at t.table id)
  entry_after id = at_mapped (entry_then t up) nothing refl (is_at (nat_cmp id)) t.table

  -- of those that had only to be told
  receipts_first : (first validity : ℕ) (ids : List ℕ) →
      flat_map (receipts first validity t) (rounds_of t up ids) ≡ flat_map (λ id. receipts_at_once t id (chain_at t.table id) (due_at id)) ids
  receipts_first first validity [] = refl
  receipts_first first validity (id ∷ ids) = by_due (due_at id) (receipts_first first validity ids)
    where
      by_due : (kind : Option Kind) →
          flat_map (receipts first validity t) (rounds_of t up ids) ≡ flat_map (λ id. receipts_at_once t id (chain_at t.table id) (due_at id)) ids →
          flat_map (receipts first validity t) (round_if t up id (entry_at t.table id) kind ++ rounds_of t up ids)
          ≡ receipts_at_once t id (chain_at t.table id) kind ++ flat_map (λ id. receipts_at_once t id (chain_at t.table id) (due_at id)) ids
      by_due None rest = rest
      by_due (Some kind) rest =
          ap (λ (xs : List Receipt). receipts first validity t (next_at t up id (entry_at t.table id) kind) ++ xs) rest

  -- and of those that ended now
  receipts_then : (first validity : ℕ) (ids : List ℕ) →
      flat_map (receipts first validity t) (afters_of first validity t (rounds_of t up ids))
      ≡ flat_map (λ id. receipts_behind t id (chain_at t.table id) (due_at id)) ids
  receipts_then first validity [] = refl
  receipts_then first validity (id ∷ ids) = by_due (due_at id) (receipts_then first validity ids)
    where
      by_due : (kind : Option Kind) →
          flat_map (receipts first validity t) (afters_of first validity t (rounds_of t up ids))
          ≡ flat_map (λ id. receipts_behind t id (chain_at t.table id) (due_at id)) ids →
          flat_map (receipts first validity t) (afters_of first validity t (round_if t up id (entry_at t.table id) kind ++ rounds_of t up ids))
          ≡ receipts_behind t id (chain_at t.table id) kind ++ flat_map (λ id. receipts_behind t id (chain_at t.table id) (due_at id)) ids
      by_due None rest = rest
      by_due (Some kind) rest = by_test (tells old decree)
        where
          old : List Decree
          old = chain_at t.table id

          decree : Decree
          decree = decree_by t old kind

          by_test : (test : Bool) →
              flat_map (receipts first validity t)
              ((if test then told_next first validity t (next_at t up id (entry_at t.table id) kind) ∷ [] else [])
              ++ afters_of first validity t (rounds_of t up ids))
              ≡ (if test
              then receipts_of 1 t.incarnation id (known_as (decree_by t (chain_at t.table id) kind ∷ chain_at t.table id))
              (if test
              then decree_by t (decree_by t (chain_at t.table id) kind ∷ chain_at t.table id) Told ∷ decree_by t (chain_at t.table id) kind ∷ chain_at t.table id
              else decree_by t (chain_at t.table id) kind ∷ chain_at t.table id)
              else [])
              ++ flat_map (λ id. receipts_behind t id (chain_at t.table id) (due_at id)) ids
          by_test true =
              ap (λ (xs : List Receipt). receipts first validity t (told_next first validity t (next_at t up id (entry_at t.table id) kind)) ++ xs) rest
          by_test false = rest

  -- no Told follows, so none is of that message
  apart_if_plain : (first validity other : ℕ) (kind : Kind) → due_at other ≡ Some kind →
      tells (chain_at t.table other) (decree_by t (chain_at t.table other) kind) ≡ false → (ids : List ℕ) →
      IsApart other (afters_of first validity t (rounds_of t up ids))
  apart_if_plain first validity other kind is plain [] = tt
  apart_if_plain first validity other kind is plain (id ∷ ids) = by_due (due_at id) refl (apart_if_plain first validity other kind is plain ids)
    where
      by_due : (found : Option Kind) → due_at id ≡ found → IsApart other (afters_of first validity t (rounds_of t up ids)) →
          IsApart other (afters_of first validity t (round_if t up id (entry_at t.table id) found ++ rounds_of t up ids))
      by_due None found apart = apart
      by_due (Some due_kind) found apart = by_test (tells (chain_at t.table id) (decree_by t (chain_at t.table id) due_kind)) refl
        where
          differs : tells (chain_at t.table id) (decree_by t (chain_at t.table id) due_kind) ≡ true → other ≡ id → ⊥
          differs it same =
              let kinds : Some kind ≡ Some due_kind = sym is ∙ (ap due_at same ∙ found) in
              let kind_is : kind ≡ due_kind = cc in
              true≢false (sym it ∙ (λ i. tells (chain_at t.table (sym same i)) (decree_by t (chain_at t.table (sym same i)) (sym kind_is i))) ∙ plain)

          by_test : (test : Bool) → tells (chain_at t.table id) (decree_by t (chain_at t.table id) due_kind) ≡ test →
              IsApart other ((if test then told_next first validity t (next_at t up id (entry_at t.table id) due_kind) ∷ [] else [])
              ++ afters_of first validity t (rounds_of t up ids))
          by_test true it = (differs it, apart)
          by_test false it = apart

  -- one that is told rests with that
  abbrev ToldIf : (first validity : ℕ) → Bool → Kept → Next → Type 0
  ToldIf first validity true k next = Rests first validity t k (told_next first validity t next)
  ToldIf first validity false k next = Unit {0}

  each_told : (first validity : ℕ) (k : Kept) (rounds : List Next) → Each (Rests first validity t) k (afters_of first validity t rounds) →
      Each (λ k next. ToldIf first validity (tells next.old next.decree) k next) k rounds
  each_told first validity k [] each = tt
  each_told first validity k (round ∷ rounds) each = by_test (tells round.old round.decree) (each_told first validity k rounds) each
    where
      by_test : (test : Bool) →
          (Each (Rests first validity t) k (afters_of first validity t rounds) →
          Each (λ k next. ToldIf first validity (tells next.old next.decree) k next) k rounds) →
          Each (Rests first validity t) k ((if test then told_next first validity t round ∷ [] else []) ++ afters_of first validity t rounds) →
          ToldIf first validity test k round × Each (λ k next. ToldIf first validity (tells next.old next.decree) k next) k rounds
      by_test true rest each = (each.0, rest each.1)
      by_test false rest each = (tt, rest each)

-- ---- the tick

module _ (first validity : ℕ) (k : Kept) (t0 : TableNode) (moment : ℕ) (up : List ℕ → Bool) (resting : IsResting k t0) where
  abbrev setup : Setup
  setup = alone first validity

  abbrev t : TableNode
  t = at_clock t0 moment

  abbrev clock : ℕ
  clock = max k.clock moment

  abbrev ids : List ℕ
  ids = keys_of t0.table

  -- the clock shows it, and nobody waits
  abbrev k1 : Kept
  k1 = record k { clock = clock; held = []; messages = map without_round k.messages }

  begun_is : stepped setup k (Tick moment (of_all up)) ≡ sends (ruled_each setup (of_all up) ids k1).kept (ruled_each setup (of_all up) ids k1).packets [] []
  begun_is =
      let works : stepped setup k (Tick moment (of_all up)) ≡ tick_then setup
      (record k { clock = clock; held = filter (λ h. not (is_late clock h)) k.held; messages = map without_round k.messages }) (of_all up)
      (map late_reply (filter (is_late clock) k.held)) = rw resting.up refl in
      works
      ∙ ((λ i. tick_then setup (record k {
        clock = clock;
        held = filter (λ (h : Held). not (is_late clock h)) (resting.waits i);
        messages =
            map without_round k.messages;
      }) (of_all up)
      (map late_reply (filter (is_late clock) (resting.waits i))))
      ∙ ap (λ (xs : List ℕ). rules_then setup k1 [] (ruled_each setup (of_all up) xs k1))
      (keys_mapped (λ (m : Message). record m { round = None }) k.messages ∙ resting.ids))

  message_ticked : (id : ℕ) → message_at k1 id ≡ message_at k id
  message_ticked id =
      at_mapped (λ (m : Message). record m { round = None }) unseen refl (is_at (nat_cmp id)) k.messages
      ∙ (λ i. record (message_at k id) { round = sym (resting.message id).ready.idle i })

  rest_ticked : (id : ℕ) → IsAtRest k1 id (entry_at t.table id)
  rest_ticked id = rest_as k k1 id (entry_at t.table id) (message_ticked id) (λ place. refl) (λ given. given) (resting.message id)

  each_rests : (some : List ℕ) → EachRests first validity t up k1 some
  each_rests [] = tt
  each_rests (id ∷ others) = (rest_ticked id, each_rests others)

  keys_ticked : keys_of k1.messages ≡ ids
  keys_ticked = keys_mapped (λ (m : Message). record m { round = None }) k.messages ∙ resting.ids

  begun : Ruled first validity t up ids k1
  begun = all_ruled first validity t up ids k1 (record {
    waits = refl;
    incarnation = resting.incarnation;
    clock = ap (λ (c : ℕ). max c moment) resting.clock;
    rest = each_rests ids;
    distinct = distinct_of ids resting.ascends;
    among = subst (λ (keys : List ℕ). AreAmong keys ids) (sym keys_ticked) (among_of ids resting.ascends);
  })

  above : nat_lt 0 (ballot first validity t) ≡ true
  above = lt-ltb 0 (ballot first validity t) (omega arith)

  abbrev rounds : List Next
  rounds = rounds_of t up ids

  ended : BothEnd first validity t rounds begun.new
  ended =
      both_end first validity t above rounds begun.new (begun.same.up ∙ resting.up) begun.same.held
      (are_apart t up ids (distinct_of ids resting.ascends))
      (are_listed t up (keys_of begun.new.messages) ids
      (subst (λ (keys : List ℕ). AreAmong keys ids) (sym (begun.same.ids ∙ keys_ticked)) (among_of ids resting.ascends)))
      begun.each

  same : IsSameApart rounds k1 ended.new
  same = apart_then rounds k1 begun.new ended.new begun.same ended.same

  -- a message with a decree that was due, and its Told
  decreed_then : (id : ℕ) (kind : Kind) → due t up (entry_at t.table id) ≡ Some kind → In id ids →
      IsAtRest ended.new id (settled t (chain_at t.table id) (decree_by t (chain_at t.table id) kind))
  decreed_then id kind some among = by_test (tells old decree) refl
    where
      old : List Decree
      old = chain_at t.table id

      decree : Decree
      decree = decree_by t old kind

      told_there : ToldIf t up first validity (tells old decree) ended.new (next_at t up id (entry_at t.table id) kind)
      told_there =
          holds_of_round t up (λ k next. ToldIf t up first validity (tells next.old next.decree) k next) ended.new id kind some ids among
          (each_told t up first validity ended.new rounds ended.told)

      ended_there : RestsIf first validity t (tells old decree) ended.mid (next_at t up id (entry_at t.table id) kind)
      ended_there = holds_of_round t up (Ended first validity t) ended.mid id kind some ids among ended.ended

      by_test : (test : Bool) → tells old decree ≡ test →
          IsAtRest ended.new id (record { chain = if test then decree_by t (decree ∷ old) Told ∷ decree ∷ old else decree ∷ old; granted = false })
      by_test true it = subst (λ (test : Bool). ToldIf t up first validity test ended.new (next_at t up id (entry_at t.table id) kind)) it told_there
      by_test false plain =
          let apart = apart_if_plain t up first validity id kind some plain ids in
          rest_as ended.mid ended.new id (extended old decree) (ended.later.message id apart) (ended.later.records id apart)
          (given_as ended.mid ended.new id ended.later.incarnation ended.later.serial)
          (subst (λ (test : Bool). RestsIf first validity t test ended.mid (next_at t up id (entry_at t.table id) kind)) plain ended_there)

  -- each message then
  message_then : (id : ℕ) → IsAtRest ended.new id (entry_then t up (entry_at t.table id))
  message_then id = by_due (due t up (entry_at t.table id)) refl
    where
      by_due : (kind : Option Kind) → due t up (entry_at t.table id) ≡ kind → IsAtRest ended.new id (entry_with t (entry_at t.table id) kind)
      by_due None none =
          let apart = apart_if_none t up id none ids in
          rest_as k1 ended.new id (entry_at t.table id) (same.message id apart) (same.records id apart)
          (given_as k1 ended.new id same.incarnation same.serial) (rest_ticked id)
      by_due (Some kind) some = elim (among_keys id t.table) [
        | inl none ↦
            let nothing_due : due t up (entry_at t.table id) ≡ None = ap (λ (o : Option Entry). due t up (unwrap_or o nothing)) none in
            let both : None ≡ Some kind = sym nothing_due ∙ some in absurd (cc)
        | inr among ↦ decreed_then id kind some among
      ]

  keys_after : keys_of (each_due t up).table ≡ ids
  keys_after = keys_mapped (entry_then t up) t.table

  rests_then : IsResting ended.new (ticked t0 moment up)
  rests_then = record {
    up = same.up ∙ resting.up;
    life = rw same.incarnation resting.life;
    incarnation = same.incarnation ∙ resting.incarnation;
    clock = same.clock ∙ ap (λ (c : ℕ). max c moment) resting.clock;
    serial = same.serial ∙ resting.serial;
    ticket = same.ticket ∙ resting.ticket;
    waits = same.held;
    ids = same.ids ∙ (keys_ticked ∙ sym keys_after);
    ascends = subst (IsStrictlySortedBy nat_cmp) (sym keys_after) resting.ascends;
    message = λ id. subst (IsAtRest ended.new id) (sym (entry_after t up id)) (message_then id);
  }

  few_rounds : 8 * length rounds + 0 ≤ most_deliveries (ticked t0 moment up)
  few_rounds =
      let most : length rounds ≤ length ids = few_due t up ids in
      let listed : length ids ≡ length t0.table = length-map t0.table (λ (e : ℕ × Entry). e.0) in
      let entries : length (ticked t0 moment up).table ≡ length t0.table = length-map t0.table (λ (e : ℕ × Entry). (e.0, entry_then t up e.1)) in
      omega (arith, most, listed, entries)

  pub tick_settles : SettlesOn setup (stepped setup k (Tick moment (of_all up))) (ticked t0 moment up) [] (receipts_ticked t0 moment up)
  tick_settles =
      settles_after setup _ _ (ticked t0 moment up) [] (receipts_ticked t0 moment up)
      (begun_is ∙ ap (λ (p : Prepared). sends p.kept p.packets [] []) begun.prepared)
      refl
      refl
      (inl refl)
      (record {
        kept = ended.new;
        leads = leads_then setup _ _ _ ended.leads
            (leads_same setup _ _ (λ i. settling ended.new [] [] (receipts_first t up first validity ids i ++ receipts_then t up first validity ids i)));
        resting = rests_then;
      })
      few_rounds
