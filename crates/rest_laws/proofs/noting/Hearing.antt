-- The votes of a note come again.
use Rattle.std.proofs.Common.{◌≡◌, ◌⊎◌, ℕ, zero, suc, ◌*◌, Bool, true, false, List, [], ◌∷◌, Option, Some, None, refl, sym, subst, ap, ◌∙◌, arith, inl, inr}
use Rattle.std.specs.Prelude.{◌==◌, ◌&&◌, ◌||◌, not, nat_lt, if◌then◌else◌}
use Rattle.std.proofs.lemmas.Bool.Decides.{nat_tests}
use Rattle.mc_model.specs.message.Decree.{Decree}
use Rattle.mc_model.specs.message.Ids.{incarnation_of, node_of, serial_of}
use Rattle.mc_model.specs.node.Setup.{Setup}
use Rattle.mc_model.specs.synod.Lists.{In}
use Rattle.mc_model.specs.synod.OneSlot.{Vote}
use Rattle.mc_model.specs.synod.Packet.{Slot, same_slot, slot_of}
use Rattle.node_model.specs.Answers.{ends_told, is_known_so, receipts_of}
use Rattle.node_model.specs.Kept.{Kept, message_at, with_message}
use Rattle.node_model.specs.Learner.{heard, is_shorter, makes_known}
use Rattle.node_model.specs.Message.{Message}
use Rattle.node_model.specs.Outputs.{Stepped, leaves, nothing, sends}
use Rattle.node_model.specs.Packets.{answered_then, heard_in, is_member, known_then, on_known, on_voted, start_known, vote_concerns}
use Rattle.node_model.specs.Proposer.{started, unless_reached}
use Rattle.node_model.specs.Same.{same_vote}
use Rattle.node_model.specs.Sets.{is_majority, nobody, with_node}
use Rattle.mc_model.specs.synod.Majority.{count}
use Rattle.node_model.specs.Stepped.{stepped}
use Rattle.node_model.proofs.Places.{message_elsewhere, message_here}
use Rattle.rest_laws.specs.Without.{without}
use Rattle.rest_laws.proofs.without.Entries.{Ascend, with_gone}
use Rattle.node_model.proofs.Same.{vote_decides}
use Rattle.rest_laws.proofs.without.Resting.{and_no}
use Rattle.mc_model.specs.node.Input.{Delivery}
use Rattle.std.specs.BTreeMap.{insert_entry}
use Rattle.std.specs.Ordering.{match_ordering, nat_cmp}
use Rattle.std.specs.declared.cmp.Ordering.{Ordering}
use Rattle.std.specs.declared.cmp.Ordering.TheVariants.{Less, Equal, Greater}
use Rattle.std.proofs.lemmas.Bool.{eq-eqb}
use Rattle.rest_laws.specs.Cooled.{cool, cooled, cooled_if}
use Rattle.rest_laws.proofs.cooled.Entries.{with_cool}
use Rattle.rest_laws.specs.Notes.{AreNothing, IsFresh, IsNote, KnowsAgain, Note, StartsNoRound, come, set_of, votes_of}
use Rattle.node_laws.specs.Runs.{kept_after, kept_outputs}
use Rattle.mc_model.specs.synod.Packet.{Packet, Voted}
use Rattle.std.specs.Map.{keys_of}
use Rattle.shelf.proofs.Entries.{still_ascends}
use Rattle.node_model.specs.Message.{unseen}

no_receipt : (node incarnation id : ℕ) (before : Option (List Decree)) (chain : List Decree) → ends_told node incarnation chain ≡ false →
    receipts_of node incarnation id before chain ≡ []
no_receipt node incarnation id before chain earlier =
    let t : ((node_of id == node) && (ends_told node incarnation chain && not (is_known_so before chain))) ≡ false =
    ap (λ (b : Bool). (node_of id == node) && (b && not (is_known_so before chain))) earlier ∙ and_no (node_of id == node) in
    ap (λ (b : Bool). if b then record { id = id; chain = chain } ∷ [] else []) t

-- ---- it becomes known at a node at which nothing waits

abbrev quiet : Kept → Kept
quiet k = record k { up = true; held = [] }

becomes_known : (setup : Setup) (k : Kept) (id : ℕ) (m : Message) (chain : List Decree) → m.known ≡ None → StartsNoRound setup id chain →
    ends_told setup.node k.incarnation chain ≡ false →
    on_known setup (quiet k) id m chain ≡ leaves (with_message (quiet k) id (known_then m chain))
becomes_known setup k id m chain before starts earlier =
    let s : start_known setup (with_message (quiet k) id (known_then m chain)) id m.known chain ≡ None =
    ap (λ (b : Option (List Decree)). start_known setup (with_message (quiet k) id (known_then m chain)) id b chain) before
    ∙ starts (with_message (quiet k) id (known_then m chain)) refl in
    let r = no_receipt setup.node k.incarnation id m.known chain earlier in
    (λ i. answered_then setup (with_message (quiet k) id (known_then m chain)) id m.known chain
    (started setup (with_message (quiet k) id (known_then m chain)) id (s i)))
    ∙ (λ i. sends (with_message (quiet k) id (known_then m chain)) [] [] (r i))

-- ---- one vote is heard

abbrev KnowsIt : ℕ → List Decree → Message → (ℕ → Bool) → Type 0
KnowsIt nodes chain m voters = ((m.known ≡ None) × (is_majority nodes voters ≡ false)) ⊎ (m.known ≡ Some chain)

record Heard (setup : Setup) (k : Kept) (slot : Slot) (vote : Vote) (voter : ℕ) (before : ℕ → Bool) : Type 0 where
  pub m : Message
  pub is : stepped setup (quiet k) (Delivery (Voted voter slot vote)) ≡ leaves (with_message (quiet k) slot.id m)
  pub round : m.round ≡ None
  pub votes : m.votes vote ≡ with_node before voter
  pub known : KnowsIt setup.nodes vote.chain m (with_node before voter)
  pub granted : m.granted ≡ (message_at k slot.id).granted

not_shorter : (chain : List Decree) → is_shorter (Some chain) chain ≡ false
not_shorter chain = grind (arith, nat_tests)

module _ (setup : Setup) (k : Kept) (slot : Slot) (vote : Vote) (voter : ℕ) (before : ℕ → Bool) (starts : StartsNoRound setup slot.id vote.chain)
    (earlier : ends_told setup.node k.incarnation vote.chain ≡ false) (concerns : vote_concerns setup k slot vote ≡ true)
    (member : is_member setup voter ≡ true) (idle : (message_at k slot.id).round ≡ None) (told : (message_at k slot.id).votes vote ≡ before) where
  abbrev now : Message
  now = heard (message_at k slot.id) voter vote

  comes : stepped setup (quiet k) (Delivery (Voted voter slot vote)) ≡ heard_in setup (quiet k) slot.id now vote
  comes = λ i. if member i then (if concerns i then on_voted setup (quiet k) voter slot vote else leaves (quiet k)) else leaves (quiet k)

  now_told : now.votes vote ≡ with_node before voter
  now_told =
      let self : same_vote vote vote ≡ true = (vote_decides vote vote).1 refl in
      (λ i. if self i then with_node ((message_at k slot.id).votes vote) voter else (message_at k slot.id).votes vote)
      ∙ ap (λ (t : ℕ → Bool). with_node t voter) told

  known_before : (message_at k slot.id).known ≡ Some vote.chain → Heard setup k slot vote voter before
  known_before known =
      let f : makes_known setup.nodes now vote ≡ false =
      ap (λ (b : Bool). is_majority setup.nodes (now.votes vote) && b)
      (ap (λ (o : Option (List Decree)). is_shorter o vote.chain) known ∙ not_shorter vote.chain)
      ∙ and_no (is_majority setup.nodes (now.votes vote)) in
      record {
        m = now;
        is = comes ∙ (λ i. if f i then on_known setup (quiet k) slot.id now vote.chain else leaves (with_message (quiet k) slot.id now));
        round = idle;
        votes = now_told;
        known = inr known;
        granted = refl;
      }

  unknown_before : (message_at k slot.id).known ≡ None → Heard setup k slot vote voter before
  unknown_before none = by (is_majority setup.nodes (with_node before voter)) refl
    where
      by : (b : Bool) → is_majority setup.nodes (with_node before voter) ≡ b → Heard setup k slot vote voter before
      by true most =
          let t : makes_known setup.nodes now vote ≡ true =
          (λ i. is_majority setup.nodes (now_told i) && is_shorter (none i) vote.chain) ∙ (λ i. most i && true) in
          record {
            m = known_then now vote.chain;
            is = comes
                ∙ ((λ i. if t i then on_known setup (quiet k) slot.id now vote.chain else leaves (with_message (quiet k) slot.id now))
                ∙ becomes_known setup k slot.id now vote.chain none starts earlier);
            round = ap (unless_reached vote.chain) idle;
            votes = now_told;
            known = inr refl;
            granted = refl;
          }
      by false few =
          let f : makes_known setup.nodes now vote ≡ false =
          (λ i. is_majority setup.nodes (now_told i) && is_shorter (none i) vote.chain) ∙ (λ i. few i && true) in
          record {
            m = now;
            is = comes ∙ (λ i. if f i then on_known setup (quiet k) slot.id now vote.chain else leaves (with_message (quiet k) slot.id now));
            round = idle;
            votes = now_told;
            known = inl (none, few);
            granted = refl;
          }

  hears_one : KnowsIt setup.nodes vote.chain (message_at k slot.id) before → Heard setup k slot vote voter before
  hears_one (inl unknown) = unknown_before unknown.0
  hears_one (inr known) = known_before known

-- ---- all of them are

-- the votes of these voters come
abbrev pub votes_by : Note → List ℕ → List Packet
votes_by n voters = votes_of (record n { voters = voters })

-- a node that has just started anew, and has a note
pub record HasNoted (setup : Setup) (k : Kept) (n : Note) : Type 0 where
  pub up : k.up ≡ true
  pub held : k.held ≡ []
  pub unheard : message_at k n.slot.id ≡ unseen
  pub starts : StartsNoRound setup n.slot.id n.vote.chain
  pub earlier : ends_told setup.node k.incarnation n.vote.chain ≡ false
  pub concerns : vote_concerns setup k n.slot n.vote ≡ true
  pub members : (voter : ℕ) → In voter n.voters → is_member setup voter ≡ true
  pub majority : is_majority setup.nodes (set_of n.voters) ≡ true

pub record Hears (setup : Setup) (k : Kept) (n : Note) (voters : List ℕ) (now : Kept) : Type 0 where
  pub up : now.up ≡ true
  pub held : now.held ≡ []
  pub incarnation : now.incarnation ≡ k.incarnation
  pub serial : now.serial ≡ k.serial
  pub records : now.records ≡ k.records
  pub round : (message_at now n.slot.id).round ≡ None
  pub votes : (message_at now n.slot.id).votes n.vote ≡ set_of voters
  pub known : KnowsIt setup.nodes n.vote.chain (message_at now n.slot.id) (set_of voters)
  pub quiet : AreNothing (kept_outputs setup k (come (votes_by n voters)))
  pub granted : (place : ℕ) → (message_at now n.slot.id).granted place ≡ false
  -- nothing else changes
  pub others : (other : ℕ) → (other ≡ n.slot.id → ⊥) → message_at now other ≡ message_at k other
  pub spares : (gone : ℕ → Bool) → gone n.slot.id ≡ true → without gone now ≡ without gone k
  pub ascends : Ascend (keys_of k.messages) → Ascend (keys_of now.messages)
  pub only : (now ≡ k) ⊎ ((m : Message) × (now ≡ with_message k n.slot.id m))

-- what is kept last stays
put_again : (es : List (ℕ × Message)) (id : ℕ) (m last : Message) →
    insert_entry nat_cmp (insert_entry nat_cmp es id m) id last ≡ insert_entry nat_cmp es id last
put_again [] id m last = let same : nat_cmp id id ≡ Equal = grind (arith, nat_tests) in rw same refl
put_again (e ∷ es) id m last = by (nat_cmp id e.0) refl (put_again es id m last)
  where
    by : (o : Ordering) → nat_cmp id e.0 ≡ o → insert_entry nat_cmp (insert_entry nat_cmp es id m) id last ≡ insert_entry nat_cmp es id last →
        insert_entry nat_cmp (match_ordering o ((id, m) ∷ e ∷ es) ((e.0, m) ∷ es) (e ∷ insert_entry nat_cmp es id m)) id last
        ≡ match_ordering o ((id, last) ∷ e ∷ es) ((e.0, last) ∷ es) (e ∷ insert_entry nat_cmp es id last)
    by Less order rest = let same : nat_cmp id id ≡ Equal = grind (arith, nat_tests) in rw same refl
    by Equal order rest = rw order refl
    by Greater order rest = rw order (ap (λ (l : List (ℕ × Message)). e ∷ l) rest)

only_last : (k now : Kept) (id : ℕ) (last : Message) → (now ≡ k) ⊎ ((m : Message) × (now ≡ with_message k id m)) →
    with_message now id last ≡ with_message k id last
only_last k later id last (inl same) = ap (λ (x : Kept). with_message x id last) same
only_last k later id last (inr put) =
    ap (λ (x : Kept). with_message x id last) put.1 ∙ (λ i. record k { messages = put_again k.messages id put.0 last i })

-- of an empty set no majority is
none_count : (set : ℕ → Bool) (nodes : ℕ) → ((node : ℕ) → set node ≡ false) → count set nodes ≡ 0
none_count set zero empty = refl
none_count set (suc nodes) empty = rw (empty (suc nodes)) (none_count set nodes empty)

none_decide : (set : ℕ → Bool) (nodes : ℕ) → ((node : ℕ) → set node ≡ false) → is_majority nodes set ≡ false
none_decide set nodes empty =
    let none : nat_lt nodes 0 ≡ false = grind (arith, nat_tests) in
    ap (λ (c : ℕ). nat_lt nodes (2 * c)) (none_count set nodes empty) ∙ none

begins : (setup : Setup) (k : Kept) (n : Note) → HasNoted setup k n → Hears setup k n [] k
begins setup k n has = record {
  up = has.up;
  held = has.held;
  incarnation = refl;
  serial = refl;
  records = refl;
  round = ap (λ (m : Message). m.round) has.unheard;
  votes = ap (λ (m : Message). m.votes n.vote) has.unheard;
  known = inl (ap (λ (m : Message). m.known) has.unheard, none_decide nobody setup.nodes (λ node. refl));
  quiet = tt;
  granted = λ place. ap (λ (m : Message). m.granted place) has.unheard;
  others = λ other apart. refl;
  spares = λ gone is. refl;
  ascends = λ ascend. ascend;
  only = inl refl;
}

goes_on : (setup : Setup) (k : Kept) (n : Note) (voter : ℕ) (earlier : List ℕ) (now : Kept) → now ≡ kept_after setup k (come (votes_by n earlier)) →
    HasNoted setup k n → is_member setup voter ≡ true → Hears setup k n earlier now →
    Hears setup k n (voter ∷ earlier) (stepped setup now (Delivery (Voted voter n.slot n.vote))).kept
goes_on setup k n voter earlier now is has member h =
    let still : ends_told setup.node now.incarnation n.vote.chain ≡ false =
    ap (λ (x : ℕ). ends_told setup.node x n.vote.chain) h.incarnation ∙ has.earlier in
    let concerns : vote_concerns setup now n.slot n.vote ≡ true =
    (λ i. same_slot n.slot (slot_of n.slot.id n.vote.chain)
    && (not (node_of n.slot.id == setup.node)
    || (nat_lt (incarnation_of n.slot.id) (h.incarnation i)
    || ((incarnation_of n.slot.id == h.incarnation i) && nat_lt (serial_of n.slot.id) (h.serial i)))))
    ∙ has.concerns in
    let one = hears_one setup now n.slot n.vote voter (set_of earlier) has.starts still concerns member h.round h.votes h.known in
    let rests : now ≡ quiet now = λ i. record now { up = h.up i; held = h.held i } in
    let all : stepped setup now (Delivery (Voted voter n.slot n.vote)) ≡ leaves (with_message (quiet now) n.slot.id one.m) =
    ap (λ (x : Kept). stepped setup x (Delivery (Voted voter n.slot n.vote))) rests ∙ one.is in
    let kept : (stepped setup now (Delivery (Voted voter n.slot n.vote))).kept ≡ with_message (quiet now) n.slot.id one.m =
    ap (λ (x : Stepped). x.kept) all in
    let message : message_at (stepped setup now (Delivery (Voted voter n.slot n.vote))).kept n.slot.id ≡ one.m =
    ap (λ (x : Kept). message_at x n.slot.id) kept ∙ message_here (quiet now) n.slot.id one.m in
    let given : (stepped setup now (Delivery (Voted voter n.slot n.vote))).outputs ≡ nothing = ap (λ (x : Stepped). x.outputs) all in
    record {
      up = ap (λ (x : Kept). x.up) kept;
      held = ap (λ (x : Kept). x.held) kept;
      incarnation = ap (λ (x : Kept). x.incarnation) kept ∙ h.incarnation;
      serial = ap (λ (x : Kept). x.serial) kept ∙ h.serial;
      records = ap (λ (x : Kept). x.records) kept ∙ h.records;
      round = ap (λ (m : Message). m.round) message ∙ one.round;
      votes = ap (λ (m : Message). m.votes n.vote) message ∙ one.votes;
      known = elim one.known [
        | inl unknown ↦ inl (ap (λ (m : Message). m.known) message ∙ unknown.0, unknown.1)
        | inr known ↦ inr (ap (λ (m : Message). m.known) message ∙ known)
      ];
      quiet = (subst (λ (x : Kept). (stepped setup x (Delivery (Voted voter n.slot n.vote))).outputs ≡ nothing) is given, h.quiet);
      granted = λ place. ap (λ (m : Message). m.granted place) message ∙ (ap (λ (g : ℕ → Bool). g place) one.granted ∙ h.granted place);
      others = λ other apart.
          ap (λ (x : Kept). message_at x other) kept ∙ (message_elsewhere (quiet now) n.slot.id other one.m apart ∙ h.others other apart);
      spares = λ gone same.
          ap (without gone) kept ∙ (with_gone gone (quiet now) n.slot.id one.m same ∙ (ap (without gone) (sym rests) ∙ h.spares gone same));
      ascends = λ ascend.
          subst (λ (x : Kept). Ascend (keys_of x.messages)) (sym kept) (still_ascends now.messages n.slot.id one.m (h.ascends ascend));
      only = inr (one.m, kept ∙ (ap (λ (x : Kept). with_message x n.slot.id one.m) (sym rests) ∙ only_last k now n.slot.id one.m h.only));
    }

pub hears : (setup : Setup) (k : Kept) (n : Note) → HasNoted setup k n → (voters : List ℕ) →
    ((voter : ℕ) → In voter voters → is_member setup voter ≡ true) → Hears setup k n voters (kept_after setup k (come (votes_by n voters)))
hears setup k n has [] members = begins setup k n has
hears setup k n has (voter ∷ earlier) members =
    goes_on setup k n voter earlier (kept_after setup k (come (votes_by n earlier))) refl has (members voter (inl refl))
    (hears setup k n has earlier (λ other among. members other (inr among)))

-- all that is kept, but for what was heard
module _ (k now : Kept) (id : ℕ) (chain : List Decree) (unheard : message_at k id ≡ unseen) (known : (message_at now id).known ≡ Some chain)
    (round : (message_at now id).round ≡ None) where
  abbrev one : ℕ → Bool
  one other = other == id

  only_known : (now ≡ k) ⊎ ((m : Message) × (now ≡ with_message k id m)) →
      cool one now ≡ cool one (with_message k id (record unseen { known = Some chain }))
  only_known (inl same) =
      let none : (message_at now id).known ≡ None = ap (λ (x : Kept). (message_at x id).known) same ∙ ap (λ (m : Message). m.known) unheard in
      absurd (cc)
  only_known (inr put) =
      let there : message_at now id ≡ put.0 = ap (λ (x : Kept). message_at x id) put.1 ∙ message_here k id put.0 in
      let self : one id ≡ true = eq-eqb id id refl in
      let cooler : cooled put.0 ≡ cooled (record unseen { known = Some chain }) =
      λ i. record unseen { known = (ap (λ (m : Message). m.known) (sym there) ∙ known) i; round = (ap (λ (m : Message). m.round) (sym there) ∙ round) i } in
      ap (cool one) put.1
      ∙ (sym (with_cool one k id put.0)
      ∙ ((λ i. with_message (cool one k) id (cooled_if (self i) put.0))
      ∙ ((λ i. with_message (cool one k) id (cooler i))
      ∙ ((λ i. with_message (cool one k) id (cooled_if (sym self i) (record unseen { known = Some chain })))
      ∙ with_cool one k id (record unseen { known = Some chain })))))

decided : (setup : Setup) {k : Kept} (n : Note) (now : Kept) → HasNoted setup k n → Hears setup k n n.voters now →
    (message_at now n.slot.id).known ≡ Some n.vote.chain
decided setup n later has h = elim h.known [
  | inl unknown ↦ let most = has.majority in let few = unknown.1 in absurd (cc)
  | inr known ↦ known
]

pub knows_last : (setup : Setup) (k : Kept) (n : Note) → HasNoted setup k n →
    cool (λ other. other == n.slot.id) (kept_after setup k (come (votes_of n)))
    ≡ cool (λ other. other == n.slot.id) (with_message k n.slot.id (record unseen { known = Some n.vote.chain }))
knows_last setup k n has =
    let h = hears setup k n has n.voters has.members in
    only_known k (kept_after setup k (come (votes_of n))) n.slot.id n.vote.chain has.unheard (decided setup n (kept_after setup k (come (votes_of n))) has h) h.round
    h.only

pub knows_again : (setup : Setup) (k : Kept) (n : Note) → IsFresh k n.slot.id → IsNote setup k n → StartsNoRound setup n.slot.id n.vote.chain →
    KnowsAgain setup k n
knows_again setup k n fresh note starts =
    let has : HasNoted setup k n = record {
      up = fresh.up;
      held = fresh.held;
      unheard = fresh.unheard;
      starts = starts;
      earlier = note.earlier;
      concerns = note.concerns;
      members = note.members;
      majority = note.majority;
    } in
    let h = hears setup k n has n.voters has.members in
    record {
      known = decided setup n (kept_after setup k (come (votes_of n))) has h;
      kept = knows_last setup k n has;
      round = h.round;
      records = h.records;
      quiet = h.quiet;
    }
