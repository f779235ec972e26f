-- The steps of a group, one behind the other.
use Rattle.std.proofs.Common.{◌≡◌, ◌≤◌, ℕ, suc, Bool, true, false, List, [], ◌∷◌, ◌++◌, add-one, append_assoc, drop, length, length-append, lit≤, map}
use Rattle.std.proofs.Common.{Option, Some, None, refl, sym, ap, subst, ◌∙◌, arith, inl, inr, ◌⊎◌}
use Rattle.std.proofs.Math.Path.{fun_ext}
use Rattle.std.specs.Prelude.{◌==◌, ◌||◌, IsSome, nat_le, if◌then◌else◌}
use Rattle.std.specs.List.{list_any}
use Rattle.std.specs.List.Sorted.{IsStrictlySortedBy}
use Rattle.std.specs.Map.{keys_of}
use Rattle.std.specs.Ordering.{nat_cmp}
use Rattle.std.specs.Global.{Vec}
use Rattle.std.specs.Vec.{vec_capacity}
use Rattle.std.proofs.lemmas.Bool.{cases_Bool, eq-eqb, leb-false, true≢false}
use Rattle.std.proofs.lemmas.List.{append-nil, length-map, map-append}
use Rattle.mc_model.specs.synod.Acceptor.{Records}
use Rattle.mc_model.specs.synod.Lists.{In}
use Rattle.mc_model.specs.node.Input.{Delivery}
use Rattle.mc_model.specs.node.Setup.{Setup}
use Rattle.node_model.specs.Stepped.{stepped}
use Rattle.shelf.specs.Shelved.{value_at}
use Rattle.synod_acceptor.specs.Packets.{packet_of}
use Rattle.synod_acceptor.specs.declared.packet.Packet.{Packet as Sent}
use Rattle.synod_acceptor.specs.declared.record.Change.{Change}
use Rattle.waiting_requests.specs.Waiting.{Waits, held_in}
use Rattle.node_parts.specs.declared.message.Message.{Message as Filed}
use Rattle.node_parts.specs.declared.message_room.MessageRoom.{MessageRoom}
use Rattle.node_parts.specs.declared.outputs.Outputs.{Outputs as Given}
use Rattle.node_parts.specs.Lists.{listed}
use Rattle.node_parts.specs.Messages.{changed_by}
use Rattle.node_kept.specs.declared.grouped_step.GroupedStep.{GroupedStep}
use Rattle.node_kept.specs.declared.join_fault.JoinFault.TheVariants as faults
use Rattle.node_kept.specs.declared.kept.Kept.{Kept as Holding}
use Rattle.node_kept.specs.declared.step.Step.{Step}
use Rattle.node_kept.specs.Grouping.{AreGrouped, AreOfOthers, Grouped, HasInstalled, HasSteppedAll, IsAlike, IsAlone, IsGroup, IsGrouped, IsRoomFor}
use Rattle.node_kept.specs.Grouping.{IsSame, StartsWith}
use Rattle.node_kept.specs.Grouping.{asked_in, changed_by_all, changes_in, is_asked_in, is_of, join_fault, joins_unless, most_grouped, outputs_in, packets_in}
use Rattle.node_kept.specs.Keeping.{AreOf, AreOwn, filed_as, kept_of, records_of}
use Rattle.node_kept.specs.Queueing.{AreAsked}
use Rattle.node_kept.specs.Steps.{outputs_of}
use Rattle.node_kept.proofs.Installing.{alike_itself, alike_on}

-- ---- over what else is kept

grouped_alike : (k other : Holding) (s : GroupedStep) → IsAlike s.id k other → IsGrouped k s → IsGrouped other s
grouped_alike k other s alike is = record {
  asked = ap (λ (setup : Setup). asked_in setup (packet_of s.packet)) alike.setup ∙ is.asked;
  alone = record {
    of = record {
      clock = is.alone.of.clock ∙ sym alike.clock;
      serial = is.alone.of.serial ∙ sym alike.serial;
      given = is.alone.of.given ∙ sym alike.given;
      counted = is.alone.of.counted;
      drops = is.alone.of.drops;
      queue = is.alone.of.queue;
      puts = is.alone.of.puts;
      once = is.alone.of.once;
      changes = is.alone.of.changes;
    };
    is = λ later on room has. is.alone.is later (alike_on s.id k other later alike on) room has;
  };
  next = is.next;
  saves = is.saves;
}

-- what is prepared of several messages is prepared of what is kept once another step is taken, too
pub all_alike : (k other : Holding) (steps : List GroupedStep) → ((s : GroupedStep) → In s steps → IsAlike s.id k other) → AreGrouped k steps →
    AreGrouped other steps
all_alike k other [] alike are = tt
all_alike k other (first ∷ others) alike are = (
  grouped_alike k other first (alike first (inl refl)) are.0,
  are.1,
  all_alike k other others (λ s in_others. alike s (inr in_others)) are.2,
)

-- ---- while they are taken

pub record IsTaking (start now : Holding) (all left : List GroupedStep) (saved : Records) (changes : List Change) : Type 0 where
  pub steps : AreGrouped now left
  pub own : AreOwn now
  pub changes_are : changes ≡ changes_in left
  pub room : length left ≤ now.messages.room
  pub lists : length left ≤ now.messages.listings
  pub ends : (new : Holding) → HasSteppedAll now (packets_in left) (outputs_in left) new → HasSteppedAll start (packets_in all) (outputs_in all) new
  pub records : changed_by_all changes (records_of now.messages.entries) ≡ saved

pub begins_taking : (k : Holding) (steps left : List GroupedStep) (changes these : List Change) → left ≡ steps → these ≡ changes →
    AreGrouped k steps → AreOwn k → changes ≡ changes_in steps → length steps ≤ k.messages.room → length steps ≤ k.messages.listings →
    IsTaking k k steps left (changed_by_all changes (records_of k.messages.entries)) these
begins_taking k steps left changes these same same_changes are own of room lists =
    subst (λ (l : List GroupedStep). IsTaking k k steps l (changed_by_all changes (records_of k.messages.entries)) these) (sym same)
    (subst (λ (cs : List Change). IsTaking k k steps steps (changed_by_all changes (records_of k.messages.entries)) cs) (sym same_changes)
    (record {
      steps = are;
      own = own;
      changes_are = of;
      room = room;
      lists = lists;
      ends = λ new taken. taken;
      records = refl;
    }))

-- the changes of the first, and those that are left then
pub starts_so : (first : GroupedStep) (left others : List GroupedStep) (changes : List Change) → left ≡ first ∷ others → changes ≡ changes_in left →
    StartsWith first changes
starts_so first left others changes split are = (changes_in others, are ∙ ap changes_in split)

rest_of : (change : Option Change) (others : List Change) → drop (length (listed change)) (listed change ++ others) ≡ others
rest_of None others = refl
rest_of (Some change) others = refl

pub first_changed : (change : Option Change) (others : List Change) (records : Records) →
    changed_by_all (listed change ++ others) records ≡ changed_by_all others (changed_by change records)
first_changed None others records = refl
first_changed (Some change) others records = refl

module _ (start now new : Holding) (all left others : List GroupedStep) (first : GroupedStep) (saved : Records) (changes these : List Change)
    (split : left ≡ first ∷ others) (is : IsTaking start now all left saved changes) where
  abbrev These : List Change
  These = changes_in others

  now_is : AreGrouped now (first ∷ others)
  now_is = subst (AreGrouped now) split is.steps

  longer : length left ≡ suc (length others)
  longer = ap length split

  pub first_grouped : IsGrouped now first
  first_grouped = now_is.0

  pub first_fits : (1 ≤ now.messages.room) × (1 ≤ now.messages.listings)
  first_fits =
      let more = longer in
      let room = is.room in
      let lists = is.lists in
      (omega (arith, more, room), omega (arith, more, lists))

  changes_split : changes ≡ listed first.whole.value.next.change ++ These
  changes_split = is.changes_are ∙ ap changes_in split

  pub taking_goes_on : HasInstalled now first new → these ≡ drop (length (listed first.whole.value.next.change)) changes →
      IsTaking start new all others saved these
  taking_goes_on installed dropped =
      let more = longer in
      let had = is.room in
      let had_lists = is.lists in
      let room = installed.room in
      let lists = installed.lists in
      let rest : these ≡ These =
      dropped ∙ ap (drop (length (listed first.whole.value.next.change))) changes_split ∙ rest_of first.whole.value.next.change These in
      record {
        steps = all_alike now new others (λ s in_others. installed.others s.id (now_is.1 s in_others)) now_is.2;
        own = installed.own;
        changes_are = rest;
        room = omega (arith, more, had, room);
        lists = omega (arith, more, had_lists, lists);
        ends = λ last taken. is.ends last (subst (λ (l : List GroupedStep). HasSteppedAll now (packets_in l) (outputs_in l) last) (sym split)
            (new, installed.taken, taken));
        records =
            ap (λ (cs : List Change). changed_by_all cs (records_of new.messages.entries)) rest
            ∙ ap (changed_by_all These) (fun_ext installed.records)
            ∙ sym (first_changed first.whole.value.next.change These (records_of now.messages.entries))
            ∙ sym (ap (λ (cs : List Change). changed_by_all cs (records_of now.messages.entries)) changes_split)
            ∙ is.records;
      }

pub record HaveTaken (start new : Holding) (all : List GroupedStep) (saved : Records) : Type 0 where
  pub taken : HasSteppedAll start (packets_in all) (outputs_in all) new
  pub records : records_of new.messages.entries ≡ saved
  pub own : AreOwn new

pub all_taken : (start now : Holding) (all left : List GroupedStep) (saved : Records) (changes : List Change) → left ≡ [] →
    IsTaking start now all left saved changes →
    HaveTaken start now all saved
all_taken start now all left saved changes none is =
    let no_changes : changes ≡ [] = is.changes_are ∙ ap changes_in none in
    record {
      taken = is.ends now (subst (λ (l : List GroupedStep). HasSteppedAll now (packets_in l) (outputs_in l) now) (sym none)
          (record { kept = refl; setup = refl; incarnation = refl }));
      records = sym (ap (λ (cs : List Change). changed_by_all cs (records_of now.messages.entries)) no_changes) ∙ is.records;
      own = is.own;
    }

-- ---- while they join

pub asked_is : (k : Holding) (steps : List GroupedStep) (id : ℕ) → AreGrouped k steps →
    is_asked_in k.setup (packets_in steps) id ≡ list_any (λ (s : GroupedStep). s.id == id) steps
asked_is k [] id are = refl
asked_is k (first ∷ others) id are =
    (λ i. is_of id (are.0.asked i) || is_asked_in k.setup (packets_in others) id)
    ∙ ap (λ (b : Bool). (first.id == id) || b) (asked_is k others id are.2)

-- none of them is for a message for which none asks
pub not_asked : (k : Holding) (steps : List GroupedStep) (id : ℕ) → AreGrouped k steps → is_asked_in k.setup (packets_in steps) id ≡ false →
    AreOfOthers id steps
not_asked k steps id are none = apart steps (sym (asked_is k steps id are) ∙ none)
  where
    apart : (steps : List GroupedStep) → list_any (λ (s : GroupedStep). s.id == id) steps ≡ false → AreOfOthers id steps
    apart [] none s at same = at
    apart (first ∷ others) none s at same = elim (cases_Bool (first.id == id)) [
      | inl is ↦ absurd (true≢false (sym (ap (λ (b : Bool). b || list_any (λ (s : GroupedStep). s.id == id) others) is) ∙ none))
      | inr differs ↦
          let later : list_any (λ (s : GroupedStep). s.id == id) others ≡ false =
          sym (ap (λ (b : Bool). b || list_any (λ (s : GroupedStep). s.id == id) others) differs) ∙ none in
          elim at [
            | inl here ↦ true≢false (sym (eq-eqb first.id id (ap (λ (s : GroupedStep). s.id) (sym here) ∙ same)) ∙ differs)
            | inr there ↦ apart others later s there same
          ]
    ]

in_more : (s new : GroupedStep) (steps : List GroupedStep) → In s (steps ++ new ∷ []) → In s steps ⊎ (s ≡ new)
in_more s new [] at = elim at [ inl is ↦ inr is | inr none ↦ absurd none ]
in_more s new (first ∷ others) at = elim at [
  | inl is ↦ inl (inl is)
  | inr later ↦ elim (in_more s new others later) [ inl there ↦ inl (inr there) | inr is ↦ inr is ]
]

pub one_more : (k : Holding) (steps : List GroupedStep) (new : GroupedStep) → AreGrouped k steps → AreOfOthers new.id steps → IsGrouped k new →
    AreGrouped k (steps ++ new ∷ [])
one_more k [] new are apart is = (is, λ s none same. none, tt)
one_more k (first ∷ others) new are apart is = (
  are.0,
  λ s at same. elim (in_more s new others at) [
    | inl there ↦ are.1 s there same
    | inr it ↦ apart first (inl refl) (sym same ∙ ap (λ (g : GroupedStep). g.id) it)
  ],
  one_more k others new are.2 (λ s at. apart s (inr at)) is,
)

pub changes_more : (steps : List GroupedStep) (new : GroupedStep) → changes_in (steps ++ new ∷ []) ≡ changes_in steps ++ listed new.whole.value.next.change
changes_more [] new = append-nil (listed new.whole.value.next.change)
changes_more (first ∷ others) new =
    ap (λ (changes : List Change). listed first.whole.value.next.change ++ changes) (changes_more others new)
    ∙ sym (append_assoc (listed first.whole.value.next.change) (changes_in others) (listed new.whole.value.next.change))

at_most_one : (change : Option Change) → length (listed change) ≤ 1
at_most_one None = lit≤ tt
at_most_one (Some change) = lit≤ tt

pub few_changes : (steps : List GroupedStep) → length (changes_in steps) ≤ length steps
few_changes [] = lit≤ tt
few_changes (first ∷ others) =
    let rest = few_changes others in
    let one = at_most_one first.whole.value.next.change in
    let both = length-append (listed first.whole.value.next.change) (changes_in others) in
    omega (arith, rest, one, both)

-- ---- what they give out

pub gives_each : (k : Holding) (steps : List GroupedStep) (room : Option MessageRoom) → AreGrouped k steps →
    IsStrictlySortedBy nat_cmp (keys_of k.messages.entries) → IsRoomFor most_grouped k.messages room →
    map outputs_of (outputs_in steps) ≡ map (λ (packet : Sent). (stepped k.setup (kept_of k) (Delivery (packet_of packet))).outputs) (packets_in steps)
gives_each k [] room are ascend fits = refl
gives_each k (first ∷ others) room are ascend fits =
    let once = are.0.alone.of.once in
    let shelf = fits.shelf in
    let lists = fits.lists in
    let is = are.0.alone.is k (alike_itself first.id k ascend) room (omega (arith, once, shelf), omega (arith, once, lists)) in
    λ i. is.outputs i ∷ gives_each k others room are.2 ascend fits i

-- ---- from what is the same

pub same_start : (k other new : Holding) (packets : List Sent) (outputs : List Given) → IsSame k other → HasSteppedAll other packets outputs new →
    HasSteppedAll k packets outputs new
same_start k other new [] [] same taken = record {
  kept = taken.kept ∙ same.kept;
  setup = taken.setup ∙ same.setup;
  incarnation = taken.incarnation ∙ same.incarnation;
}
same_start k other new [] (given ∷ more) same taken = taken
same_start k other new (packet ∷ packets) [] same taken = taken
same_start k other new (packet ∷ packets) (given ∷ more) same taken = (
  taken.0,
  record {
    kept = taken.1.kept ∙ (λ i. (stepped (same.setup i) (same.kept i) (Delivery (packet_of packet))).kept);
    gives = taken.1.gives ∙ (λ i. (stepped (same.setup i) (same.kept i) (Delivery (packet_of packet))).outputs);
    setup = taken.1.setup ∙ same.setup;
    incarnation = taken.1.incarnation ∙ same.incarnation;
  },
  taken.2,
)

-- ---- one more in the group

-- one that may join asks for a message for which none of the others asks, and there are not as many as may be
pub may_join : (group : Grouped) (packet : Sent) (id : ℕ) → asked_in group.was.setup (packet_of packet) ≡ Some id → join_fault group packet ≡ None →
    (is_asked_in group.was.setup group.packets id ≡ false) × (suc (length group.packets) ≤ most_grouped)
may_join group packet id asked none = by_asked (is_asked_in group.was.setup group.packets id) refl
  where
    may : joins_unless group (Some id) ≡ None
    may = sym (ap (joins_unless group) asked) ∙ none

    by_length : (full : Bool) → nat_le most_grouped (length group.packets) ≡ full → is_asked_in group.was.setup group.packets id ≡ false →
        suc (length group.packets) ≤ most_grouped
    by_length true is new =
        let fault : Some faults.Full ≡ None = (λ i. if sym new i then Some faults.SameMessage else if sym is i then Some faults.Full else None) ∙ may in
        absurd (cc)
    by_length false is new = leb-false most_grouped (length group.packets) is

    by_asked : (asked : Bool) → is_asked_in group.was.setup group.packets id ≡ asked →
        (is_asked_in group.was.setup group.packets id ≡ false) × (suc (length group.packets) ≤ most_grouped)
    by_asked true is =
        let fault : Some faults.SameMessage ≡ None =
        (λ i. if sym is i then Some faults.SameMessage else if nat_le most_grouped (length group.packets) then Some faults.Full else None) ∙ may in
        absurd (cc)
    by_asked false is = (is, by_length (nat_le most_grouped (length group.packets)) refl is)

pub group_more : (k : Holding) (steps steps_then : Vec GroupedStep) (outputs outputs_then : Vec Given) (changes changes_then : Vec Change) (room : MessageRoom)
    (new : GroupedStep) → IsGroup k steps outputs changes room → AreOfOthers new.id steps.items → IsGrouped k new → suc (length steps.items) ≤ most_grouped →
    steps_then.items ≡ steps.items ++ new ∷ [] → outputs_then.items ≡ outputs.items ++ new.whole.value.outputs ∷ [] →
    changes_then.items ≡ changes.items ++ listed new.whole.value.next.change → vec_capacity steps_then ≡ vec_capacity steps →
    vec_capacity outputs_then ≡ vec_capacity outputs → vec_capacity changes_then ≡ vec_capacity changes →
    IsGroup k steps_then outputs_then changes_then room
group_more k steps steps_then outputs outputs_then changes changes_then room new is apart grouped less in_steps in_outputs in_changes for_steps for_outputs
    for_changes =
    let longer : length steps_then.items ≡ suc (length steps.items) =
    ap length in_steps ∙ length-append steps.items (new ∷ []) ∙ add-one (length steps.items) in
    record {
      ascend = is.ascend;
      steps_are = subst (AreGrouped k) (sym in_steps) (one_more k steps.items new is.steps_are apart grouped);
      outputs_are = in_outputs
          ∙ ap (λ (os : List Given). os ++ new.whole.value.outputs ∷ []) is.outputs_are
          ∙ sym (map-append (λ (s : GroupedStep). s.whole.value.outputs) steps.items (new ∷ []))
          ∙ sym (ap outputs_in in_steps);
      changes_are = in_changes
          ∙ ap (λ (cs : List Change). cs ++ listed new.whole.value.next.change) is.changes_are
          ∙ sym (changes_more steps.items new)
          ∙ sym (ap changes_in in_steps);
      few = subst (λ (n : ℕ). n ≤ most_grouped) (sym longer) less;
      for_steps = subst (λ (n : ℕ). most_grouped ≤ n) (sym for_steps) is.for_steps;
      for_outputs = subst (λ (n : ℕ). most_grouped ≤ n) (sym for_outputs) is.for_outputs;
      for_changes = subst (λ (n : ℕ). most_grouped ≤ n) (sym for_changes) is.for_changes;
      for_messages = is.for_messages;
    }

-- ---- the room is made

module _ (k made : Holding) (steps : List GroupedStep) (setup : made.setup ≡ k.setup) (incarnation : made.incarnation ≡ k.incarnation)
    (clock : made.clock ≡ k.clock) (serial : made.serial ≡ k.serial) (given : made.given ≡ k.given) (queue : made.queue ≡ k.queue)
    (entries : made.messages.entries ≡ k.messages.entries) (ascend : IsStrictlySortedBy nat_cmp (keys_of made.messages.entries)) where
  pub made_same : IsSame k made
  made_same = record {
    kept = λ i. record {
      records = records_of (entries i);
      up = true;
      incarnation = incarnation i;
      clock = clock i;
      serial = serial i;
      ticket = suc (given i);
      held = held_in (queue i);
      messages = map filed_as (entries i);
    };
    setup = setup;
    incarnation = incarnation;
  }

  pub made_grouped : AreGrouped k steps → AreGrouped made steps
  made_grouped = all_alike k made steps (λ s in_steps. record {
    setup = setup;
    incarnation = incarnation;
    clock = clock;
    serial = serial;
    given = given;
    message = ap (λ (es : List (ℕ × Filed)). value_at es s.id) entries;
    ascend = ascend;
  })

-- the step of one that may join
pub grouped_new : (k : Holding) (step : Step) (new : GroupedStep) → asked_in k.setup (packet_of new.packet) ≡ Some new.id →
    IsAlone new.id k (λ setup kept. stepped setup kept (Delivery (packet_of new.packet))) step → step ≡ new.whole.value →
    new.next ≡ record step.next { room = None; change = None } → IsSome step.next.change → IsGrouped k new
grouped_new k step new asked alone whole next saves = record {
  asked = asked;
  alone = subst (λ (s : Step). IsAlone new.id k (λ setup kept. stepped setup kept (Delivery (packet_of new.packet))) s) whole alone;
  next = next ∙ ap (λ (s : Step). record s.next { room = None; change = None }) whole;
  saves = subst (λ (s : Step). IsSome s.next.change) whole saves;
}

module _ (k : Holding) (steps : Vec GroupedStep) (outputs : Vec Given) (changes : Vec Change) (room : MessageRoom) (group : Grouped) (packet : Sent) (id : ℕ)
    (is : IsGroup k steps outputs changes room) (view : record { was = k; packets = packets_in steps.items; changes = changes.items } ≡ group)
    (asked : asked_in group.was.setup (packet_of packet) ≡ Some id) (allowed : join_fault group packet ≡ None) where
  asked_here : asked_in k.setup (packet_of packet) ≡ Some id
  asked_here = ap (λ (g : Grouped). asked_in g.was.setup (packet_of packet)) view ∙ asked

  may : (is_asked_in k.setup (packets_in steps.items) id ≡ false) × (suc (length (packets_in steps.items)) ≤ most_grouped)
  may = may_join (record { was = k; packets = packets_in steps.items; changes = changes.items }) packet id asked_here
      (ap (λ (g : Grouped). join_fault g packet) view ∙ allowed)

  pub still_fits : suc (length steps.items) ≤ most_grouped
  still_fits = subst (λ (n : ℕ). suc n ≤ most_grouped) (length-map steps.items (λ (s : GroupedStep). s.packet)) may.1

  pub changes_fit : suc (length changes.items) ≤ vec_capacity changes
  changes_fit =
      let few : length changes.items ≤ length steps.items =
      subst (λ (cs : List Change). length cs ≤ length steps.items) (sym is.changes_are) (few_changes steps.items) in
      let less = still_fits in
      let capacity = is.for_changes in
      omega (arith, few, less, capacity)

  pub joined : (step : Step) (new : GroupedStep) (steps_then : Vec GroupedStep) (outputs_then : Vec Given) (changes_then : Vec Change) → packet ≡ new.packet →
      id ≡ new.id → IsAlone id group.was (λ setup kept. stepped setup kept (Delivery (packet_of packet))) step → step ≡ new.whole.value →
      new.next ≡ record step.next { room = None; change = None } → IsSome step.next.change →
      steps_then.items ≡ steps.items ++ new ∷ [] → outputs_then.items ≡ outputs.items ++ step.outputs ∷ [] →
      changes_then.items ≡ changes.items ++ listed step.next.change → vec_capacity steps_then ≡ vec_capacity steps →
      vec_capacity outputs_then ≡ vec_capacity outputs → vec_capacity changes_then ≡ vec_capacity changes →
      IsGroup k steps_then outputs_then changes_then room
  joined step new steps_then outputs_then changes_then of about alone whole next saves in_steps in_outputs in_changes for_steps for_outputs for_changes =
      let here : IsAlone id k (λ setup kept. stepped setup kept (Delivery (packet_of packet))) step =
      subst (λ (g : Grouped). IsAlone id g.was (λ setup kept. stepped setup kept (Delivery (packet_of packet))) step) (sym view) alone in
      let grouped : IsGrouped k new =
      grouped_new k step new (ap (λ (p : Sent). asked_in k.setup (packet_of p)) (sym of) ∙ asked_here ∙ ap (λ (n : ℕ). Some n) about)
      (subst (λ (p : Sent). IsAlone new.id k (λ setup kept. stepped setup kept (Delivery (packet_of p))) step) of
      (subst (λ (n : ℕ). IsAlone n k (λ setup kept. stepped setup kept (Delivery (packet_of packet))) step) about here)) whole next saves in
      group_more k steps steps_then outputs outputs_then changes changes_then room new is
      (subst (λ (n : ℕ). AreOfOthers n steps.items) about (not_asked k steps.items id is.steps_are may.0)) grouped still_fits in_steps
      (in_outputs ∙ ap (λ (s : Step). outputs.items ++ s.outputs ∷ []) whole) (in_changes ∙ ap (λ (s : Step). changes.items ++ listed s.next.change) whole)
      for_steps for_outputs for_changes
