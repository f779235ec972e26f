-- What waits in the windows of the one node's sessions: an attempt that was pushed is the newest decree of its message, it was granted, and
-- no other attempt of that message waits.
use Rattle.std.proofs.Common.{◌≡◌, ℕ, pred, Bool, true, false, cond, List, [], ◌∷◌, ◌++◌, length, Some, sym, ◌∙◌, ap, subst}
use Rattle.std.specs.Prelude.{◌==◌, find}
use Rattle.std.specs.List.{AllByRecursion}
use Rattle.std.proofs.lemmas.Bool.{ne_eqb}
use Rattle.mc_model.specs.message.Decree.{Decree}
use Rattle.mc_model.specs.synod.Packet.{Slot}
use Rattle.node_model.specs.Starts.{is_idle}
use Rattle.table_laws.specs.Tables.{Entry, Table, chain_at, entry_at, with_entry}
use Rattle.table_laws.proofs.Frames.{entry_elsewhere, eqb_self}
use Rattle.sessions.specs.Session.{Session}
use Rattle.sessions.specs.Windows.{without_first}
use Rattle.sessions.specs.declared.pushed.Delivery.{Delivery}
use Rattle.sessions.specs.declared.pushed.Delivery.TheVariants.{Attempt, Receipt}
use Rattle.sessions.specs.declared.pushed.Pushed.{Pushed}
use Rattle.script_text.specs.Runner.{session_in}
use Rattle.calm_laws.proofs.Plain.{IsBut, each_but}

-- ---- lists

module _ {A : Type 0} where
  all_so : (P Q : A → Type 0) → ((x : A) → P x → Q x) → (xs : List A) → AllByRecursion P xs → AllByRecursion Q xs
  all_so P Q to [] all = tt
  all_so P Q to (x ∷ xs) all = (to x all.0, all_so P Q to xs all.1)

  both_so : (P Q R : A → Type 0) → ((x : A) → P x → Q x → R x) → (xs : List A) → AllByRecursion P xs → AllByRecursion Q xs → AllByRecursion R xs
  both_so P Q R to [] first second = tt
  both_so P Q R to (x ∷ xs) first second = (to x first.0 second.0, both_so P Q R to xs first.1 second.1)

  all_with : (P : A → Type 0) (xs : List A) (last : A) → AllByRecursion P xs → P last → AllByRecursion P (xs ++ last ∷ [])
  all_with P [] last all new = (new, tt)
  all_with P (x ∷ xs) last all new = (all.0, all_with P xs last all.1 new)

  all_left : (P : A → Type 0) (test : A → Bool) (xs : List A) → AllByRecursion P xs → AllByRecursion P (without_first test xs)
  all_left P test [] all = tt
  all_left P test (x ∷ xs) all = by_test (test x) (all_left P test xs all.1)
    where
      by_test : (passes : Bool) → AllByRecursion P (without_first test xs) → AllByRecursion P (cond passes xs (x ∷ without_first test xs))
      by_test true behind = all.1
      by_test false behind = (all.0, behind)

  all_found : (P : A → Type 0) (test : A → Bool) (xs : List A) (found : A) → find test xs ≡ Some found → AllByRecursion P xs → P found
  all_found P test [] found is all = absurd cc
  all_found P test (x ∷ xs) found is all = by_test (test x) (all_found P test xs found) is
    where
      by_test : (passes : Bool) → (find test xs ≡ Some found → AllByRecursion P xs → P found) → cond passes (Some x) (find test xs) ≡ Some found → P found
      by_test true behind is =
          let same : x ≡ found = cc in
          subst P same all.0
      by_test false behind is = behind is all.1

-- ---- what was pushed

-- the newest decree of a message is not idle
abbrev pub IsUnderway : List Decree → Type 0
IsUnderway [] = ⊥
IsUnderway (newest ∷ older) = is_idle newest.kind ≡ false

pub record IsNewest (entry : Entry) (slot : Slot) : Type 0 where
  pub place : slot.place ≡ pred (length entry.chain)
  pub granted : entry.granted ≡ true
  pub underway : IsUnderway entry.chain

-- it waits on the session that holds the attempt of its message
abbrev pub Waits : Table → (ℕ → ℕ) → ℕ → Delivery → Type 0
Waits table holder number (Attempt slot) = IsNewest (entry_at table slot.id) slot × (holder slot.id ≡ number)
Waits table holder number (Receipt id) = Unit {0}

-- it is no attempt of this message
abbrev pub IsOff : ℕ → Delivery → Type 0
IsOff id (Attempt slot) = slot.id ≡ id → ⊥
IsOff id (Receipt other) = Unit {0}

abbrev pub Differ : Delivery → Delivery → Type 0
Differ (Attempt slot) other = IsOff slot.id other
Differ (Receipt id) other = Unit {0}

abbrev pub AreDistinct : List Pushed → Type 0
AreDistinct [] = Unit {0}
AreDistinct (first ∷ others) = AllByRecursion (λ other. Differ first.delivery other.delivery) others × AreDistinct others

pub record AreWaiting (table : Table) (sessions : List (ℕ × Session)) : Type 0 where
  pub holder : ℕ → ℕ
  pub each : (number : ℕ) → AllByRecursion (λ pushed. Waits table holder number pushed.delivery) (session_in sessions number).pushed
  pub distinct : (number : ℕ) → AreDistinct (session_in sessions number).pushed

-- no attempt of this message waits
abbrev pub AreOff : ℕ → List (ℕ × Session) → Type 0
AreOff id sessions = (number : ℕ) → AllByRecursion (λ pushed. IsOff id pushed.delivery) (session_in sessions number).pushed

-- ---- a message changes of which no attempt waits

module _ (table : Table) (sessions : List (ℕ × Session)) (waiting : AreWaiting table sessions) (id : ℕ) where
  -- such is one that is idle, or not granted
  pub off_unless : (IsUnderway (chain_at table id) → (entry_at table id).granted ≡ true → ⊥) → AreOff id sessions
  off_unless never number =
      all_so (λ pushed. Waits table waiting.holder number pushed.delivery) (λ pushed. IsOff id pushed.delivery)
      (λ pushed waits. by_delivery pushed.delivery waits) (session_in sessions number).pushed (waiting.each number)
    where
      by_delivery : (delivery : Delivery) → Waits table waiting.holder number delivery → IsOff id delivery
      by_delivery (Attempt slot) waits = λ same.
          never (subst (λ (i : ℕ). IsUnderway (chain_at table i)) same waits.0.underway)
          (subst (λ (i : ℕ). (entry_at table i).granted ≡ true) same waits.0.granted)
      by_delivery (Receipt other) waits = tt

  pub waiting_with : (entry : Entry) → AreOff id sessions → AreWaiting (with_entry table id entry) sessions
  waiting_with entry off = record {
    holder = waiting.holder;
    each = λ number.
        both_so (λ pushed. IsOff id pushed.delivery) (λ pushed. Waits table waiting.holder number pushed.delivery)
        (λ pushed. Waits (with_entry table id entry) waiting.holder number pushed.delivery)
        (λ pushed is_off waits. still number pushed.delivery is_off waits) (session_in sessions number).pushed (off number) (waiting.each number);
    distinct = waiting.distinct;
  }
    where
      still : (number : ℕ) (delivery : Delivery) → IsOff id delivery → Waits table waiting.holder number delivery →
          Waits (with_entry table id entry) waiting.holder number delivery
      still number (Attempt slot) is_off waits =
          (subst (λ (e : Entry). IsNewest e slot) (sym (entry_elsewhere table id slot.id entry is_off)) waits.0, waits.1)
      still number (Receipt other) is_off waits = tt

-- ---- one of the sessions changes

module _ (table : Table) (before now : List (ℕ × Session)) (waiting : AreWaiting table before) (number : ℕ) (next : Session)
    (but : IsBut number before now next) where
  abbrev old : List Pushed
  old = (session_in before number).pushed

  -- it keeps what waits, or a part of it
  part_waits : AllByRecursion (λ pushed. Waits table waiting.holder number pushed.delivery) next.pushed → AreDistinct next.pushed → AreWaiting table now
  part_waits all distinct = record {
    holder = waiting.holder;
    each =
        each_but (λ n session. AllByRecursion (λ pushed. Waits table waiting.holder n pushed.delivery) session.pushed) number before now next but all
        (λ other differ. waiting.each other);
    distinct = each_but (λ n session. AreDistinct session.pushed) number before now next but distinct (λ other differ. waiting.distinct other);
  }

  pub same_waits : next.pushed ≡ old → AreWaiting table now
  same_waits same =
      part_waits
      (subst (λ (ps : List Pushed). AllByRecursion (λ pushed. Waits table waiting.holder number pushed.delivery) ps) (sym same) (waiting.each number))
      (subst AreDistinct (sym same) (waiting.distinct number))

  -- ---- one is answered

  module _ (test : Pushed → Bool) (answered : Pushed) (found : find test old ≡ Some answered) (left : next.pushed ≡ without_first test old) where
    distinct_left : (pushed : List Pushed) → AreDistinct pushed → AreDistinct (without_first test pushed)
    distinct_left [] distinct = tt
    distinct_left (first ∷ others) distinct = by_test (test first) (distinct_left others distinct.1)
      where
        by_test : (passes : Bool) → AreDistinct (without_first test others) → AreDistinct (cond passes others (first ∷ without_first test others))
        by_test true behind = distinct.1
        by_test false behind = (all_left (λ other. Differ first.delivery other.delivery) test others distinct.0, behind)

    pub left_waits : AreWaiting table now
    left_waits =
        part_waits
        (subst (λ (ps : List Pushed). AllByRecursion (λ pushed. Waits table waiting.holder number pushed.delivery) ps) (sym left)
        (all_left (λ pushed. Waits table waiting.holder number pushed.delivery) test old (waiting.each number)))
        (subst AreDistinct (sym left) (distinct_left old (waiting.distinct number)))

    module _ (slot : Slot) (is : answered.delivery ≡ Attempt slot) where
      -- it waited
      pub it_waits : Waits table waiting.holder number (Attempt slot)
      it_waits =
          subst (Waits table waiting.holder number) is
          (all_found (λ pushed. Waits table waiting.holder number pushed.delivery) test old answered found (waiting.each number))

      differs : (first : Delivery) → Differ first (Attempt slot) → IsOff slot.id first
      differs (Attempt other) differ = λ same. differ (sym same)
      differs (Receipt id) differ = tt

      others_off : (pushed : List Pushed) → find test pushed ≡ Some answered → AreDistinct pushed →
          AllByRecursion (λ p. IsOff slot.id p.delivery) (without_first test pushed)
      others_off [] among distinct = tt
      others_off (first ∷ others) among distinct = by_test (test first) (others_off others) among
        where
          by_test : (passes : Bool) →
              (find test others ≡ Some answered → AreDistinct others → AllByRecursion (λ p. IsOff slot.id p.delivery) (without_first test others)) →
              cond passes (Some first) (find test others) ≡ Some answered →
              AllByRecursion (λ p. IsOff slot.id p.delivery) (cond passes others (first ∷ without_first test others))
          by_test true behind among =
              let same : first ≡ answered = cc in
              let delivery : first.delivery ≡ Attempt slot = ap (λ (p : Pushed). p.delivery) same ∙ is in
              subst (λ (d : Delivery). AllByRecursion (λ other. Differ d other.delivery) others) delivery distinct.0
          by_test false behind among =
              let differ = all_found (λ other. Differ first.delivery other.delivery) test others answered among distinct.0 in
              (differs first.delivery (subst (Differ first.delivery) is differ), behind among distinct.1)

      -- no other attempt of its message does
      pub others_are_off : AreOff slot.id now
      others_are_off =
          each_but (λ n session. AllByRecursion (λ pushed. IsOff slot.id pushed.delivery) session.pushed) number before now next but
          (subst (λ (ps : List Pushed). AllByRecursion (λ pushed. IsOff slot.id pushed.delivery) ps) (sym left)
          (others_off old found (waiting.distinct number)))
          (λ other differ.
          all_so (λ pushed. Waits table waiting.holder other pushed.delivery) (λ pushed. IsOff slot.id pushed.delivery)
          (λ pushed waits. elsewhere other differ pushed.delivery waits) (session_in before other).pushed (waiting.each other))
        where
          elsewhere : (other : ℕ) → (number ≡ other → ⊥) → (delivery : Delivery) → Waits table waiting.holder other delivery → IsOff slot.id delivery
          elsewhere other differ (Attempt one) waits = λ same. differ (sym it_waits.1 ∙ ap waiting.holder (sym same) ∙ waits.1)
          elsewhere other differ (Receipt id) waits = tt

  -- ---- an attempt is pushed

  module _ (slot : Slot) (sequence since : ℕ) (newest : IsNewest (entry_at table slot.id) slot) (off : AreOff slot.id before) where
    abbrev new : Pushed
    new = record { sequence = sequence; since = since; delivery = Attempt slot }

    abbrev holds : ℕ → ℕ
    holds id = cond (id == slot.id) number (waiting.holder id)

    waits_still : (other : ℕ) (delivery : Delivery) → IsOff slot.id delivery → Waits table waiting.holder other delivery → Waits table holds other delivery
    waits_still other (Attempt one) is_off waits =
        (waits.0, ap (λ (test : Bool). cond test number (waiting.holder one.id)) (ne_eqb one.id slot.id is_off) ∙ waits.1)
    waits_still other (Receipt id) is_off waits = tt

    wait_still : (other : ℕ) → AllByRecursion (λ pushed. Waits table holds other pushed.delivery) (session_in before other).pushed
    wait_still other =
        both_so (λ pushed. IsOff slot.id pushed.delivery) (λ pushed. Waits table waiting.holder other pushed.delivery)
        (λ pushed. Waits table holds other pushed.delivery) (λ pushed is_off waits. waits_still other pushed.delivery is_off waits)
        (session_in before other).pushed (off other) (waiting.each other)

    is_apart : (first : Delivery) → IsOff slot.id first → Differ first (Attempt slot)
    is_apart (Attempt other) is_off = λ same. is_off (sym same)
    is_apart (Receipt id) is_off = tt

    distinct_with : (pushed : List Pushed) → AllByRecursion (λ p. IsOff slot.id p.delivery) pushed → AreDistinct pushed → AreDistinct (pushed ++ new ∷ [])
    distinct_with [] are_off distinct = (tt, tt)
    distinct_with (first ∷ others) are_off distinct = (
      all_with (λ other. Differ first.delivery other.delivery) others new distinct.0 (is_apart first.delivery are_off.0),
      distinct_with others are_off.1 distinct.1,
    )

    pub new_waits : next.pushed ≡ (old ++ new ∷ []) → AreWaiting table now
    new_waits grown = record {
      holder = holds;
      each =
          each_but (λ n session. AllByRecursion (λ pushed. Waits table holds n pushed.delivery) session.pushed) number before now next but
          (subst (λ (ps : List Pushed). AllByRecursion (λ pushed. Waits table holds number pushed.delivery) ps) (sym grown)
          (all_with (λ pushed. Waits table holds number pushed.delivery) old new (wait_still number)
          (newest, ap (λ (test : Bool). cond test number (waiting.holder slot.id)) (eqb_self slot.id))))
          (λ other differ. wait_still other);
      distinct =
          each_but (λ n session. AreDistinct session.pushed) number before now next but
          (subst AreDistinct (sym grown) (distinct_with old (off number) (waiting.distinct number))) (λ other differ. waiting.distinct other);
    }

  -- ---- a receipt is pushed

  module _ (id sequence since : ℕ) where
    abbrev note : Pushed
    note = record { sequence = sequence; since = since; delivery = Receipt id }

    is_other : (first : Delivery) → Differ first (Receipt id)
    is_other (Attempt slot) = tt
    is_other (Receipt other) = tt

    distinct_behind : (pushed : List Pushed) → AreDistinct pushed → AreDistinct (pushed ++ note ∷ [])
    distinct_behind [] distinct = (tt, tt)
    distinct_behind (first ∷ others) distinct = (
      all_with (λ other. Differ first.delivery other.delivery) others note distinct.0 (is_other first.delivery),
      distinct_behind others distinct.1,
    )

    pub note_waits : next.pushed ≡ (old ++ note ∷ []) → AreWaiting table now
    note_waits grown =
        part_waits
        (subst (λ (ps : List Pushed). AllByRecursion (λ pushed. Waits table waiting.holder number pushed.delivery) ps) (sym grown)
        (all_with (λ pushed. Waits table waiting.holder number pushed.delivery) old note (waiting.each number) tt))
        (subst AreDistinct (sym grown) (distinct_behind old (waiting.distinct number)))
