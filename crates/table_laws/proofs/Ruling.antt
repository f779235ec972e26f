-- A tick starts a round for each message for which something is due.
use Rattle.std.proofs.Common.{◌≡◌, ℕ, pred, ◌<◌, List, [], ◌∷◌, ◌++◌, length, map, Option, Some, None, refl, sym, ap, subst, ◌∙◌, arith, Bool}
use Rattle.std.specs.Ordering.{nat_cmp}
use Rattle.std.specs.Map.{keys_of}
use Rattle.std.specs.BTreeSet.{insert_key}
use Rattle.mc_model.specs.node.Reach.{of_all}
use Rattle.mc_model.specs.message.Decree.{Decree, Kind}
use Rattle.mc_model.specs.message.Chain.{taken_in}
use Rattle.mc_model.specs.message.Submission.{Submission}
use Rattle.mc_model.specs.synod.Acceptor.{blank}
use Rattle.mc_model.specs.synod.Ballot.{ballot_of}
use Rattle.mc_model.specs.synod.Packet.{Prepare, slot_at}
use Rattle.mc_model.specs.node.Setup.{Setup}
use Rattle.node_model.specs.Kept.{Kept, with_message}
use Rattle.node_model.specs.Proposer.{Prepared, Start, started}
use Rattle.node_model.specs.Rules.{Fitting, first_rule}
use Rattle.node_model.specs.Ticks.{and_then, given_up, ruled, ruled_each}
use Rattle.table_laws.specs.Alone.{alone}
use Rattle.table_laws.specs.Tables.{Entry, TableNode, decree_by, entry_at}
use Rattle.table_laws.specs.Ticks.{due, due_of}
use Rattle.table_laws.specs.Resting.{IsAtRest, IsTaken, IsTakenIfAny}
use Rattle.table_laws.proofs.Apart.{AreApart, AreListed, Each, IsApart, IsSameApart, Next, apart_more, apart_none}
use Rattle.table_laws.proofs.Carrying.{round_is_under_way, round_starts, start, tried}
use Rattle.table_laws.proofs.Deliveries.{begun_round}
use Rattle.table_laws.proofs.Frames.{IsSameBut, given_as, rest_but}
use Rattle.table_laws.proofs.Grounds.{IsGround, given_up_ground, taken_more}
use Rattle.table_laws.proofs.Rules.{FitsAs, first_fits}
use Rattle.table_laws.proofs.SideBySide.{Goes, begun, goes_apart, prepares, untouched}
use Rattle.table_laws.proofs.Stages.{IsUnderWay}

-- ---- ids

abbrev pub IsNotIn : ℕ → List ℕ → Type 0
IsNotIn id [] = Unit {0}
IsNotIn id (other ∷ ids) = (id ≡ other → ⊥) × IsNotIn id ids

abbrev pub AreDistinct : List ℕ → Type 0
AreDistinct [] = Unit {0}
AreDistinct (id ∷ ids) = IsNotIn id ids × AreDistinct ids

-- ---- the rounds that are to start

module _ (t : TableNode) (up : List ℕ → Bool) where
  abbrev pub next_at : ℕ → Entry → Kind → Next
  next_at id entry kind = record { id = id; old = entry.chain; decree = decree_by t entry.chain kind }

  abbrev pub round_if : ℕ → Entry → Option Kind → List Next
  round_if id entry None = []
  round_if id entry (Some kind) = next_at id entry kind ∷ []

  abbrev pub rounds_of : List ℕ → List Next
  rounds_of [] = []
  rounds_of (id ∷ ids) = round_if id (entry_at t.table id) (due t up (entry_at t.table id)) ++ rounds_of ids

  pub apart_from : (id : ℕ) (ids : List ℕ) → IsNotIn id ids → IsApart id (rounds_of ids)
  apart_from id [] away = tt
  apart_from id (other ∷ ids) away = by_due (due t up (entry_at t.table other)) (apart_from id ids away.1)
    where
      by_due : (kind : Option Kind) → IsApart id (rounds_of ids) → IsApart id (round_if other (entry_at t.table other) kind ++ rounds_of ids)
      by_due None apart = apart
      by_due (Some kind) apart = (away.0, apart)

  pub are_apart : (ids : List ℕ) → AreDistinct ids → AreApart (rounds_of ids)
  are_apart [] distinct = tt
  are_apart (id ∷ ids) distinct = by_due (due t up (entry_at t.table id)) (are_apart ids distinct.1)
    where
      by_due : (kind : Option Kind) → AreApart (rounds_of ids) → AreApart (round_if id (entry_at t.table id) kind ++ rounds_of ids)
      by_due None apart = apart
      by_due (Some kind) apart = (apart_from id ids distinct.0, apart)

-- each of these ids is listed
abbrev pub AreAmong : List ℕ → List ℕ → Type 0
AreAmong keys [] = Unit {0}
AreAmong keys (id ∷ ids) = (insert_key nat_cmp keys id ≡ keys) × AreAmong keys ids

pub are_listed : (t : TableNode) (up : List ℕ → Bool) (keys ids : List ℕ) → AreAmong keys ids → AreListed keys (rounds_of t up ids)
are_listed t up keys [] among = tt
are_listed t up keys (id ∷ ids) among = by_due (due t up (entry_at t.table id)) (are_listed t up keys ids among.1)
  where
    by_due : (kind : Option Kind) → AreListed keys (rounds_of t up ids) → AreListed keys (round_if t up id (entry_at t.table id) kind ++ rounds_of t up ids)
    by_due None listed = listed
    by_due (Some kind) listed = (among.0, listed)

-- ---- what a rule that fits tells

some_chain : (t : TableNode) (up : List ℕ → Bool) (granted : Bool) (chain : List Decree) (taken : Option Submission) (kind : Kind) →
    due_of t up granted chain taken ≡ Some kind → 0 < length chain
some_chain t up granted [] taken kind is = absurd (cc)
some_chain t up granted (newest ∷ older) taken kind is = omega arith

pub taken_now : (k : Kept) (id : ℕ) (chain : List Decree) → 0 < length chain → IsTakenIfAny k id chain → IsTaken k id chain
taken_now k id [] some taken = absurd (omega (arith, some))
taken_now k id (newest ∷ older) some taken = taken

none_fits : (first validity id : ℕ) (t : TableNode) (chain : List Decree) (found : Option Fitting) → FitsAs first validity id t chain found None → found ≡ None
none_fits first validity id t chain None fits = refl
none_fits first validity id t chain (Some fit) fits = absurd fits

record Found (first validity id : ℕ) (t : TableNode) (chain : List Decree) (kind : Kind) (found : Option Fitting) : Type 0 where
  fit : Fitting
  is : found ≡ Some fit
  start_is : fit.start ≡ start first validity id chain (decree_by t chain kind)

found_fits : (first validity id : ℕ) (t : TableNode) (chain : List Decree) (kind : Kind) (found : Option Fitting) →
    FitsAs first validity id t chain found (Some kind) →
    Found first validity id t chain kind found
found_fits first validity id t chain kind None fits = absurd fits
found_fits first validity id t chain kind (Some fit) fits = record { fit = fit; is = refl; start_is = fits }

-- ---- message by message

module _ (first validity : ℕ) (t : TableNode) (up : List ℕ → Bool) where
  abbrev setup : Setup
  setup = alone first validity

  abbrev pub ballot : ℕ
  ballot = ballot_of 1 t.incarnation 1

  abbrev pub EachRests : Kept → List ℕ → Type 0
  EachRests k [] = Unit {0}
  EachRests k (id ∷ ids) = IsAtRest k id (entry_at t.table id) × EachRests k ids

  pub record IsTicking (ids : List ℕ) (k : Kept) : Type 0 where
    pub waits : k.held ≡ []
    pub incarnation : k.incarnation ≡ t.incarnation
    pub clock : k.clock ≡ t.clock
    pub rest : EachRests k ids
    pub distinct : AreDistinct ids
    pub among : AreAmong (keys_of k.messages) ids

  pub record Ruled (ids : List ℕ) (k : Kept) : Type 0 where
    pub new : Kept
    pub prepared : ruled_each setup (of_all up) ids k ≡ record { kept = new; packets = map (prepares first validity t) (rounds_of t up ids) }
    pub each : Each (Goes t (begun first validity t) (untouched first validity t)) new (rounds_of t up ids)
    pub same : IsSameApart (rounds_of t up ids) k new

  -- with what is due for the first of them
  record RuledBy (id : ℕ) (ids : List ℕ) (k : Kept) (kind : Option Kind) : Type 0 where
    new : Kept
    prepared : ruled_each setup (of_all up) (id ∷ ids) k
        ≡ record { kept = new; packets = map (prepares first validity t) (round_if t up id (entry_at t.table id) kind ++ rounds_of t up ids) }
    each : Each (Goes t (begun first validity t) (untouched first validity t)) new (round_if t up id (entry_at t.table id) kind ++ rounds_of t up ids)
    same : IsSameApart (round_if t up id (entry_at t.table id) kind ++ rounds_of t up ids) k new

  -- the others are at rest still
  rests_but : (id : ℕ) (k new : Kept) → IsSameBut id k new → (ids : List ℕ) → IsNotIn id ids → EachRests k ids → EachRests new ids
  rests_but id k new same [] away rest = tt
  rests_but id k new same (other ∷ ids) away rest =
      (rest_but id k new same other (λ is. away.0 (sym is)) (entry_at t.table other) rest.0, rests_but id k new same ids away.1 rest.1)

  -- the round for what is due has started
  record StartsOne (id : ℕ) (k : Kept) (next : Next) : Type 0 where
    new : Kept
    prepared : ruled setup k id (first_rule setup k (of_all up) id) ≡ record { kept = new; packets = prepares first validity t next ∷ [] }
    goes : Goes t (begun first validity t) (untouched first validity t) new next
    same : IsSameBut id k new
    held : new.held ≡ k.held

  module _ (id : ℕ) (k : Kept) (kind : Kind) (waits : k.held ≡ []) (incarnation : k.incarnation ≡ t.incarnation) (clock : k.clock ≡ t.clock)
      (rest : IsAtRest k id (entry_at t.table id)) (is : due t up (entry_at t.table id) ≡ Some kind) where
    abbrev entry : Entry
    entry = entry_at t.table id

    abbrev old : List Decree
    old = entry.chain

    abbrev decree : Decree
    decree = decree_by t old kind

    found : Found first validity id t old kind (first_rule setup k (of_all up) id)
    found =
        found_fits first validity id t old kind (first_rule setup k (of_all up) id)
        (subst (FitsAs first validity id t old (first_rule setup k (of_all up) id)) is (first_fits first validity k t id up waits incarnation clock entry rest))

    some : 0 < length old
    some = some_chain t up entry.granted old (taken_in old) kind is

    abbrev base : Kept
    base = given_up found.fit.rule k id (pred (length old))

    ground : IsGround id old k base
    ground = given_up_ground k id old some rest.ready found.fit.rule

    abbrev started_then : Kept
    started_then = with_message base id (tried first validity id old decree base)

    same : IsSameBut id k started_then
    same = ground.same (tried first validity id old decree base)

    ballot_is : ballot_of 1 base.incarnation 1 ≡ ballot
    ballot_is = ap (λ (n : ℕ). ballot_of 1 n 1) (ground.incarnation ∙ incarnation)

    starts_one : StartsOne id k (next_at t up id entry kind)
    starts_one = record {
      new = started_then;
      prepared =
          ap (ruled setup k id) found.is
          ∙ (ap (λ (s : Start). started setup (given_up found.fit.rule k id (pred s.place)) id (Some s)) found.start_is
          ∙ (round_starts first validity id old decree base ground.ready
          ∙ (λ i. record { kept = started_then; packets = Prepare 1 (slot_at id (length old)) (ballot_is i) ∷ [] })));
      goes = record {
        under =
            subst (λ (b : ℕ). IsUnderWay id old started_then (Some (begun_round (slot_at id (length old)) b (decree ∷ old))) blank) ballot_is
            (round_is_under_way first validity id old decree base ground.ready);
        taken =
            let taken = taken_now k id old some rest.taken in
            taken_more started_then id decree old
            (record { message = taken.message; taken = taken.taken; given = given_as k started_then id same.incarnation same.serial taken.given });
        incarnation = same.incarnation ∙ incarnation;
        clock = same.clock ∙ clock;
      };
      same = same;
      held = ground.held;
    }

  -- of all messages
  then_none : (id : ℕ) (ids : List ℕ) (k : Kept) → ruled setup k id (first_rule setup k (of_all up) id) ≡ record { kept = k; packets = [] } → Ruled ids k →
      due t up (entry_at t.table id) ≡ None → RuledBy id ids k None
  then_none id ids k none others is = record {
    new = others.new;
    prepared =
        ap (λ (p : Prepared). and_then p (ruled_each setup (of_all up) ids p.kept)) none
        ∙ ap (and_then (record { kept = k; packets = [] })) others.prepared;
    each = others.each;
    same = others.same;
  }

  then_some : (id : ℕ) (ids : List ℕ) (k : Kept) (kind : Kind) → IsNotIn id ids → insert_key nat_cmp (keys_of k.messages) id ≡ keys_of k.messages →
      (one : StartsOne id k (next_at t up id (entry_at t.table id) kind)) → Ruled ids one.new → RuledBy id ids k (Some kind)
  then_some id ids k kind away listed one others = record {
    new = others.new;
    prepared =
        ap (λ (p : Prepared). and_then p (ruled_each setup (of_all up) ids p.kept)) one.prepared
        ∙ ap (and_then (record { kept = one.new; packets = prepares first validity t (next_at t up id (entry_at t.table id) kind) ∷ [] })) others.prepared;
    each = (
      goes_apart t (begun first validity t) (untouched first validity t) (rounds_of t up ids) one.new others.new others.same
          (next_at t up id (entry_at t.table id) kind) (apart_from t up id ids away) one.goes,
      others.each,
    );
    same = apart_more (next_at t up id (entry_at t.table id) kind) (rounds_of t up ids) k one.new others.new one.same one.held listed others.same;
  }

  as_ruled : (id : ℕ) (ids : List ℕ) (k : Kept) → RuledBy id ids k (due t up (entry_at t.table id)) → Ruled (id ∷ ids) k
  as_ruled id ids k by = record { new = by.new; prepared = by.prepared; each = by.each; same = by.same }

  pub all_ruled : (ids : List ℕ) (k : Kept) → IsTicking ids k → Ruled ids k
  all_ruled [] k ticking = record { new = k; prepared = refl; each = tt; same = apart_none k }
  all_ruled (id ∷ ids) k ticking = as_ruled id ids k (by_due (due t up (entry_at t.table id)) refl
      (all_ruled ids k (record {
        waits = ticking.waits;
        incarnation = ticking.incarnation;
        clock = ticking.clock;
        rest = ticking.rest.1;
        distinct = ticking.distinct.1;
        among = ticking.among.1;
      }))
      (λ (k1 : Kept). all_ruled ids k1))
    where
      by_due : (kind : Option Kind) → due t up (entry_at t.table id) ≡ kind → Ruled ids k →
          ((k1 : Kept) → IsTicking ids k1 → Ruled ids k1) →
          RuledBy id ids k kind
      by_due None is others after =
          then_none id ids k
          (ap (ruled setup k id) (none_fits first validity id t (entry_at t.table id).chain (first_rule setup k (of_all up) id)
          (subst (FitsAs first validity id t (entry_at t.table id).chain (first_rule setup k (of_all up) id)) is
          (first_fits first validity k t id up ticking.waits ticking.incarnation ticking.clock (entry_at t.table id) ticking.rest.0)))) others is
      by_due (Some kind) is others after =
          let one = starts_one id k kind ticking.waits ticking.incarnation ticking.clock ticking.rest.0 is in
          then_some id ids k kind ticking.distinct.0 ticking.among.0 one (after one.new (record {
            waits = one.held ∙ ticking.waits;
            incarnation = one.same.incarnation ∙ ticking.incarnation;
            clock = one.same.clock ∙ ticking.clock;
            rest = rests_but id k one.new one.same ids ticking.distinct.0 ticking.rest.1;
            distinct = ticking.distinct.1;
            among = subst (λ (keys : List ℕ). AreAmong keys ids) (sym (one.same.ids ∙ ticking.among.0)) ticking.among.1;
          }))
