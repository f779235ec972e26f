-- Rounds of several messages that start at one tick run side by side.
use Rattle.std.proofs.Common.{◌≡◌, ℕ, true, List, [], ◌∷◌, ◌++◌, flat_map, length, map, Option, Some, None, refl, sym, ap, subst, ◌∙◌, append-nil, arith, ◌*◌, Bool, false}
use Rattle.std.specs.Prelude.{if◌then◌else◌, nat_lt}
use Rattle.std.specs.Map.{keys_of}
use Rattle.mc_model.specs.message.Decree.{Decree}
use Rattle.mc_model.specs.synod.OneSlot.{vote_at}
use Rattle.mc_model.specs.synod.Packet.{Packet, Prepare, Promise, Propose, Voted, slot_at}
use Rattle.mc_model.specs.synod.Acceptor.{SlotRecord, after_vote, blank}
use Rattle.mc_model.specs.node.Outputs.{Receipt}
use Rattle.mc_model.specs.node.Setup.{Setup}
use Rattle.node_model.specs.Answers.{receipts_of}
use Rattle.node_model.specs.Kept.{Held, Kept, message_at, with_message}
use Rattle.node_model.specs.Outputs.{sends}
use Rattle.node_model.specs.Proposer.{Start}
use Rattle.node_model.specs.Stepped.{stepped}
use Rattle.mc_model.specs.node.Input.{Delivery}
use Rattle.mc_model.specs.synod.Ballot.{ballot_of}
use Rattle.node_model.specs.Message.{Message, Round}
use Rattle.table_laws.specs.Alone.{alone}
use Rattle.table_laws.specs.Tables.{TableNode, extended, known_as, tells}
use Rattle.table_laws.specs.Resting.{IsAtRest, IsReady, IsTaken}
use Rattle.table_laws.proofs.Apart.{AreApart, AreListed, Each, IsApart, IsSameApart, Next, apart_then, listed_as}
use Rattle.table_laws.proofs.Deliveries.{begun_round, promised_round}
use Rattle.table_laws.proofs.Ending.{AllAnswered, none_answered, vote_answered, vote_told}
use Rattle.table_laws.proofs.Carrying.{round_is_under_way, start, tried}
use Rattle.table_laws.proofs.Tellings.{tell_is, told}
use Rattle.table_laws.proofs.Frames.{IsSameBut, fresh_as, given_as, rest_as, same_then, same_with, votes_as}
use Rattle.table_laws.proofs.Leading.{Leads, leads_then, settling, leads_most, leads_same}
use Rattle.table_laws.proofs.Phases.{AreOwn, Passes, all_pass, none_each, one_each}
use Rattle.table_laws.proofs.Stages.{Advances, IsUnderWay, known_rests, known_same, known_with, prepare_advances, promise_advances, propose_advances, told_start}

-- ---- a round that goes on while others do

under_as : (k new : Kept) (id : ℕ) (old : List Decree) (round : Option Round) (here : SlotRecord) → message_at new id ≡ message_at k id →
    ((place : ℕ) → new.records (slot_at id place) ≡ k.records (slot_at id place)) → IsUnderWay id old k round here → IsUnderWay id old new round here
under_as k new id old round here message records under = record {
  known = ap (λ (m : Message). m.known) message ∙ under.known;
  round_is = ap (λ (m : Message). m.round) message ∙ under.round_is;
  votes = votes_as k.records new.records id old (λ place below. records place) under.votes;
  here_is = records (length old) ∙ under.here_is;
  ungranted = ap (λ (m : Message). m.granted (length old)) message ∙ under.ungranted;
  unclosed = ap (λ (m : Message). m.closed (length old)) message ∙ under.unclosed;
  beyond = λ place above. fresh_as k new id place message (records place) (under.beyond place above);
}

pub record Goes (t : TableNode) (round : Next → Option Round) (here : Next → SlotRecord) (k : Kept) (next : Next) : Type 0 where
  pub under : IsUnderWay next.id next.old k (round next) (here next)
  pub taken : IsTaken k next.id (next.decree ∷ next.old)
  pub incarnation : k.incarnation ≡ t.incarnation
  pub clock : k.clock ≡ t.clock

taken_still : (k new : Kept) (id : ℕ) (chain : List Decree) → new.incarnation ≡ k.incarnation → new.serial ≡ k.serial → IsTaken k id chain →
    IsTaken new id chain
taken_still k new id chain incarnation serial taken =
    record { message = taken.message; taken = taken.taken; given = given_as k new id incarnation serial taken.given }

pub goes_but : (t : TableNode) (round : Next → Option Round) (here : Next → SlotRecord) (id : ℕ) (k new : Kept) → IsSameBut id k new → (next : Next) →
    (next.id ≡ id → ⊥) → Goes t round here k next → Goes t round here new next
goes_but t round here id k new same next apart goes = record {
  under = under_as k new next.id next.old (round next) (here next) (same.message next.id apart) (same.records next.id apart) goes.under;
  taken = taken_still k new next.id (next.decree ∷ next.old) same.incarnation same.serial goes.taken;
  incarnation = same.incarnation ∙ goes.incarnation;
  clock = same.clock ∙ goes.clock;
}

pub goes_apart : (t : TableNode) (round : Next → Option Round) (here : Next → SlotRecord) (rounds : List Next) (k new : Kept) → IsSameApart rounds k new →
    (next : Next) → IsApart next.id rounds → Goes t round here k next → Goes t round here new next
goes_apart t round here rounds k new same next apart goes = record {
  under = under_as k new next.id next.old (round next) (here next) (same.message next.id apart) (same.records next.id apart) goes.under;
  taken = taken_still k new next.id (next.decree ∷ next.old) same.incarnation same.serial goes.taken;
  incarnation = same.incarnation ∙ goes.incarnation;
  clock = same.clock ∙ goes.clock;
}

module _ (first validity : ℕ) (t : TableNode) where
  abbrev setup : Setup
  setup = alone first validity

  abbrev pub ballot : ℕ
  ballot = ballot_of 1 t.incarnation 1

  abbrev pub begun : Next → Option Round
  begun next = Some (begun_round (slot_at next.id (length next.old)) ballot (next.decree ∷ next.old))

  abbrev promised : Next → Option Round
  promised next = Some (promised_round (slot_at next.id (length next.old)) ballot (next.decree ∷ next.old))

  abbrev pub untouched : Next → SlotRecord
  untouched next = blank

  abbrev promise : Next → SlotRecord
  promise next = record { promised = ballot; vote = None }

  abbrev voted : Next → SlotRecord
  voted next = after_vote (vote_at ballot (next.decree ∷ next.old))

  abbrev pub prepares : Next → Packet
  prepares next = Prepare 1 (slot_at next.id (length next.old)) ballot

  abbrev promises : Next → Packet
  promises next = Promise 1 (slot_at next.id (length next.old)) ballot None

  abbrev proposes : Next → Packet
  proposes next = Propose 1 (slot_at next.id (length next.old)) (vote_at ballot (next.decree ∷ next.old))

  abbrev votes : Next → Packet
  votes next = Voted 1 (slot_at next.id (length next.old)) (vote_at ballot (next.decree ∷ next.old))

  abbrev nothing_due : Next → List Receipt
  nothing_due next = []

  abbrev pub receipts : Next → List Receipt
  receipts next = receipts_of 1 t.incarnation next.id (known_as next.old) (next.decree ∷ next.old)

  abbrev pub Rests : Kept → Next → Type 0
  Rests k next = IsAtRest k next.id (extended next.old next.decree)

  -- ---- the round of the Told behind it

  abbrev pub told_next : Next → Next
  told_next next = record { id = next.id; old = next.decree ∷ next.old; decree = told first validity t next.id next.old next.decree }

  abbrev AfterIf : Bool → Next → List Next
  AfterIf test next = if test then told_next next ∷ [] else []

  abbrev pub afters : Next → List Next
  afters next = AfterIf (tells next.old next.decree) next

  abbrev pub RestsIf : Bool → Kept → Next → Type 0
  RestsIf true k next = Goes t begun untouched k (told_next next)
  RestsIf false k next = Rests k next

  abbrev pub Ended : Kept → Next → Type 0
  Ended k next = RestsIf (tells next.old next.decree) k next

  abbrev follows : Next → List Packet
  follows next = map prepares (afters next)

  -- a packet that leads its round on to the next passes
  module _ (round : Next → Option Round) (here : Next → SlotRecord) (packet following : Next → Packet) (P : Kept → Next → Type 0) where
    advanced : (k : Kept) (next : Next) → IsTaken k next.id (next.decree ∷ next.old) → k.incarnation ≡ t.incarnation → k.clock ≡ t.clock →
        Advances first validity next.id next.old next.decree ballot k (packet next) (following next) (round next) (here next) →
        Passes setup P (Goes t round here) packet (λ other. following other ∷ []) nothing_due k next
    advanced k next taken incarnation clock on = record {
      new = on.new;
      step = on.step;
      after = record {
        under = on.under;
        taken = taken_still k on.new next.id (next.decree ∷ next.old) on.same.incarnation on.same.serial taken;
        incarnation = on.same.incarnation ∙ incarnation;
        clock = on.same.clock ∙ clock;
      };
      same = on.same;
      held = on.held;
    }

  module _ (above : nat_lt 0 ballot ≡ true) where
    prepares_own : AreOwn setup (Goes t begun untouched) (Goes t begun promise) prepares (λ next. promises next ∷ []) nothing_due
    prepares_own = record {
      passes = λ k next up held goes. advanced begun promise prepares promises (Goes t begun untouched) k next goes.taken goes.incarnation goes.clock
          (prepare_advances first validity next.id next.old next.decree ballot k up above goes.under);
      before = goes_but t begun untouched;
      behind = goes_apart t begun promise;
    }

    promises_own : AreOwn setup (Goes t begun promise) (Goes t promised promise) promises (λ next. proposes next ∷ []) nothing_due
    promises_own = record {
      passes = λ k next up held goes. advanced promised promise promises proposes (Goes t begun promise) k next goes.taken goes.incarnation goes.clock
          (promise_advances first validity next.id next.old next.decree ballot k up goes.under);
      before = goes_but t begun promise;
      behind = goes_apart t promised promise;
    }

    proposes_own : AreOwn setup (Goes t promised promise) (Goes t promised voted) proposes (λ next. votes next ∷ []) nothing_due
    proposes_own = record {
      passes = λ k next up held goes. advanced promised voted proposes votes (Goes t promised promise) k next goes.taken goes.incarnation goes.clock
          (propose_advances first validity next.id next.old next.decree ballot k up goes.under);
      before = goes_but t promised promise;
      behind = goes_apart t promised voted;
    }

    -- ---- the vote, behind which a Told may follow

    record VotePasses (k : Kept) (next : Next) (test : Bool) : Type 0 where
      new : Kept
      step : stepped setup k (Delivery (votes next)) ≡ sends new (map prepares (AfterIf test next)) [] (receipts next)
      after : RestsIf test new next
      same : IsSameBut next.id k new
      held : new.held ≡ k.held

    module _ (k : Kept) (next : Next) (up : k.up ≡ true) (held : k.held ≡ []) (goes : Goes t promised voted k next) where
      abbrev id : ℕ
      id = next.id

      abbrev chain : List Decree
      chain = next.decree ∷ next.old

      abbrev telling : Decree
      telling = told first validity t id next.old next.decree

      abbrev known_then : Kept
      known_then = known_with first validity id next.old next.decree ballot k []

      abbrev StartIf : Bool → Option Start
      StartIf test = if test then Some (start first validity id chain telling) else None

      start_then : (test : Bool) → tells next.old next.decree ≡ test → (hs : List Held) →
          told_start first validity id next.old next.decree ballot (known_with first validity id next.old next.decree ballot k hs) ≡ StartIf test
      start_then test is hs =
          tell_is first validity t id next.old next.decree (known_with first validity id next.old next.decree ballot k hs) goes.incarnation goes.clock ∙ ap StartIf is

      nobody : AllAnswered setup id chain [] []
      nobody = none_answered first validity id next.decree next.old

      passes_plain : tells next.old next.decree ≡ false → VotePasses k next false
      passes_plain plain = record {
        new = known_then;
        step =
            vote_answered first validity id next.old next.decree ballot k up goes.under goes.taken [] [] held nobody (start_then false plain)
            ∙ ap (λ (n : ℕ). sends known_then [] [] (receipts_of 1 n id (known_as next.old) chain)) goes.incarnation;
        after = known_rests first validity id next.old next.decree ballot k [] goes.under goes.taken;
        same = known_same first validity id next.old next.decree ballot k [];
        held = sym held;
      }

      abbrev told_then : Kept
      told_then = with_message known_then id (tried first validity id chain telling known_then)

      ballot_is : ballot_of 1 k.incarnation 1 ≡ ballot
      ballot_is = ap (λ (n : ℕ). ballot_of 1 n 1) goes.incarnation

      known_ready : IsReady known_then id chain
      known_ready = (known_rests first validity id next.old next.decree ballot k [] goes.under goes.taken).ready

      goes_on : Goes t begun untouched told_then (told_next next)
      goes_on = record {
        under =
            subst (λ (b : ℕ). IsUnderWay id chain told_then (Some (begun_round (slot_at id (length chain)) b (telling ∷ chain))) blank) ballot_is
            (round_is_under_way first validity id chain telling known_then known_ready);
        taken = record { message = goes.taken.message; taken = goes.taken.taken; given = goes.taken.given };
        incarnation = goes.incarnation;
        clock = goes.clock;
      }

      passes_told : tells next.old next.decree ≡ true → VotePasses k next true
      passes_told it = record {
        new = told_then;
        step =
            vote_told first validity id next.old next.decree ballot k up goes.under goes.taken [] [] held nobody telling (start_then true it)
            ∙ (λ i. sends told_then (Prepare 1 (slot_at id (length chain)) (ballot_is i) ∷ []) []
            (receipts_of 1 (goes.incarnation i) id (known_as next.old) chain));
        after = goes_on;
        same =
            same_then id k known_then told_then (known_same first validity id next.old next.decree ballot k [])
            (same_with known_then id (tried first validity id chain telling known_then) []);
        held = sym held;
      }

      vote_passes_so : VotePasses k next (tells next.old next.decree)
      vote_passes_so = by_test (tells next.old next.decree) refl
        where
          by_test : (test : Bool) → tells next.old next.decree ≡ test → VotePasses k next test
          by_test true is = passes_told is
          by_test false is = passes_plain is

    vote_passes : (k : Kept) (next : Next) → k.up ≡ true → k.held ≡ [] → Goes t promised voted k next →
        Passes setup (Goes t promised voted) Ended votes follows receipts k next
    vote_passes k next up held goes =
        let it = vote_passes_so k next up held goes in
        record { new = it.new; step = it.step; after = it.after; same = it.same; held = it.held }

    ended_apart : (rounds : List Next) (k new : Kept) → IsSameApart rounds k new → (next : Next) → IsApart next.id rounds → (test : Bool) →
        RestsIf test k next → RestsIf test new next
    ended_apart rounds k new same next apart true goes = goes_apart t begun untouched rounds k new same (told_next next) apart goes
    ended_apart rounds k new same next apart false rest =
        rest_as k new next.id (extended next.old next.decree) (same.message next.id apart) (same.records next.id apart)
        (given_as k new next.id same.incarnation same.serial) rest

    votes_own : AreOwn setup (Goes t promised voted) Ended votes follows receipts
    votes_own = record {
      passes = vote_passes;
      before = goes_but t promised voted;
      behind = λ rounds k new same next apart ended. ended_apart rounds k new same next apart (tells next.old next.decree) ended;
    }

    -- ---- all of them, from their starts to their ends

    pub record AllEnd (rounds : List Next) (k : Kept) (given : List Receipt) : Type 0 where
      pub new : Kept
      pub leads : Leads setup (4 * length rounds) (settling k (map prepares rounds) [] given)
          (settling new (map prepares (flat_map afters rounds)) [] (given ++ flat_map receipts rounds))
      pub each : Each Ended new rounds
      pub same : IsSameApart rounds k new

    -- packets of one kind lead to those of the next, and to nothing else
    one_kind : (packet next : Next → Packet) (rounds : List Next) (k new : Kept) (given : List Receipt) →
        Leads setup (length rounds) (settling k (map packet rounds ++ []) [] given)
        (settling new ([] ++ flat_map (λ round. next round ∷ []) rounds) [] (given ++ flat_map nothing_due rounds)) →
        Leads setup (length rounds) (settling k (map packet rounds) [] given) (settling new (map next rounds) [] given)
    one_kind packet next rounds k new given leads =
        let none : given ++ flat_map nothing_due rounds ≡ given =
        ap (λ (xs : List Receipt). given ++ xs) (none_each nothing_due (λ round. refl) rounds) ∙ append-nil given in
        leads_most setup (length rounds) _ _ (omega arith)
        (leads_then setup _ _ _ (leads_same setup _ _ (λ i. settling k (sym (append-nil (map packet rounds)) i) [] given))
        (leads_then setup _ _ _ leads (leads_same setup _ _ (λ i. settling new (one_each next rounds i) [] (none i)))))

    all_follow : (rounds : List Next) → flat_map follows rounds ≡ map prepares (flat_map afters rounds)
    all_follow [] = refl
    all_follow (round ∷ rounds) = by_test (tells round.old round.decree) (all_follow rounds)
      where
        by_test : (test : Bool) → flat_map follows rounds ≡ map prepares (flat_map afters rounds) →
            map prepares (AfterIf test round) ++ flat_map follows rounds ≡ map prepares (AfterIf test round ++ flat_map afters rounds)
        by_test true rest = ap (λ (xs : List Packet). prepares (told_next round) ∷ xs) rest
        by_test false rest = rest

    pub all_end : (rounds : List Next) (k : Kept) (given : List Receipt) → k.up ≡ true → k.held ≡ [] → AreApart rounds → AreListed (keys_of k.messages) rounds →
        Each (Goes t begun untouched) k rounds → AllEnd rounds k given
    all_end rounds k given up held apart listed each =
        let one = all_pass setup (Goes t begun untouched) (Goes t begun promise) prepares
        (λ next. promises next ∷ []) nothing_due prepares_own rounds k [] [] given up held apart listed each in
        let two = all_pass setup (Goes t begun promise) (Goes t promised promise) promises
        (λ next. proposes next ∷ []) nothing_due promises_own rounds one.new [] [] given
        (one.same.up ∙ up) (one.same.held ∙ held) apart (listed_as _ _ rounds one.same.ids listed) one.each in
        let same_two = apart_then rounds k one.new two.new one.same two.same in
        let three = all_pass setup (Goes t promised promise) (Goes t promised voted) proposes
        (λ next. votes next ∷ []) nothing_due proposes_own rounds two.new [] [] given
        (same_two.up ∙ up) (same_two.held ∙ held) apart (listed_as _ _ rounds same_two.ids listed) two.each in
        let same_three = apart_then rounds k two.new three.new same_two three.same in
        let four = all_pass setup (Goes t promised voted) Ended votes follows receipts votes_own rounds three.new [] [] given
        (same_three.up ∙ up) (same_three.held ∙ held) apart (listed_as _ _ rounds same_three.ids listed) three.each in
        record {
          new = four.new;
          leads =
              leads_most setup (4 * length rounds) _ _ (omega arith) (leads_then setup _ _ _ (one_kind prepares promises rounds k one.new given one.leads)
              (leads_then setup _ _ _ (one_kind promises proposes rounds one.new two.new given two.leads)
              (leads_then setup _ _ _ (one_kind proposes votes rounds two.new three.new given three.leads)
              (leads_then setup _ _ _ (leads_same setup _ _ (λ i. settling three.new (sym (append-nil (map votes rounds)) i) [] given))
              (leads_then setup _ _ _ four.leads
              (leads_same setup _ _ (λ i. settling four.new (all_follow rounds i) [] (given ++ flat_map receipts rounds))))))));
          each = four.each;
          same = apart_then rounds k three.new four.new same_three four.same;
        }
