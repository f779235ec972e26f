-- Several steps behind one save are a node's own run.
use Rattle.std.proofs.Common.{◌≡◌, ℕ, zero, suc, List, [], ◌∷◌, ◌++◌, ◌≤◌, ◌<◌, ◌+◌, add-one, get_or, Option, Some, None, append_assoc, drop, length, length-append, map, take, false, refl, sym, ap, subst, ◌∙◌, inl, inr, arith}
use Rattle.std.specs.List.{slice_get}
use Rattle.std.proofs.Math.Seq.{take-suc}
use Rattle.std.proofs.lemmas.List.{map-append, take-append-drop}
use Rattle.mc_model.specs.synod.Lists.{In}
use Rattle.mc_model.specs.node.Input.{Delivery, Input}
use Rattle.mc_model.specs.node.Setup.{Setup}
use Rattle.mc_model.specs.cluster.Steps.{Cluster, setup_of}
use Rattle.mc_parts.proofs.Membership.{in_either}
use Rattle.node_model.specs.Kept.{Kept}
use Rattle.node_model.specs.Stepped.{stepped}
use Rattle.node_laws.specs.Steps.{IsWellMade}
use Rattle.stable_store.specs.Stored.{Stored}
use Rattle.synod_acceptor.specs.Packets.{packet_of}
use Rattle.synod_acceptor.specs.declared.packet.Packet.{Packet}
use Rattle.node_entry.specs.Taking.{node_at}
use Rattle.node_entry.specs.declared.step.Step.{Step}
use Rattle.node_entry.specs.declared.step.Step.TheVariants as steps
use Rattle.node_core.specs.Input.TheVariants as given
use Rattle.node_core.specs.Keeping.{kept_of}
use Rattle.node_core.specs.Kept.{Kept as Holding}
use Rattle.node_core.specs.Nodes.{AreGiven, HasSettled, HasTakenAll, Standing, unbroken}
use Rattle.node_core.specs.Outputs.{Outputs}
use Rattle.node_core.specs.Steps.{outputs_of}
use Rattle.journal_laws.specs.Journals.{Done, Entry, IsInRange, IsOwnRun, done_in}
use Rattle.journal_laws.specs.Taken.{IsTakenBy}
use Rattle.journal_laws.proofs.Joining.{done_both, own_both}
use Rattle.journal_parts.specs.declared.done.Done.{Done as Taken}
use Rattle.journal_parts.specs.Entries.{done_of}
use Rattle.journal_parts.specs.Gathering.{AllDeliver, AreGathered, AreNumbered, IsGathered, IsHaltedAt, TakesSeveral, entry_done}
use Rattle.journal_parts.specs.Members.{ComesWith, IsMember, Posted, packet_halted}
use Rattle.journal_parts.proofs.Readies.{taken_by}

-- From what a node keeps, the steps of packets that it takes one behind the other are its own run: each gives out what stands in its entry.
pub own_all : {S : Type 0} (k : Holding) (old new : Standing S) (packets : List Packet) (outputs : List Outputs) (dones : List Taken) →
    AreGathered k packets dones → AreGiven k packets outputs → HasTakenAll old packets outputs new →
    IsOwnRun old.kept.setup (kept_of old.kept) (map done_of dones) (kept_of new.kept)
own_all k old new [] [] [] gathered gave taken = taken.kept
own_all k old new [] [] (done ∷ dones) gathered gave taken = absurd gathered
own_all k old new [] (one ∷ outputs) dones gathered gave taken = absurd taken
own_all k old new (packet ∷ packets) [] dones gathered gave taken = absurd taken
own_all k old new (packet ∷ packets) (one ∷ outputs) [] gathered gave taken = absurd gathered
own_all k old new (packet ∷ packets) (one ∷ outputs) (done ∷ dones) gathered gave taken =
    let between = taken.0 in
    let took = taken.1 in
    let first : outputs_of one ≡ (stepped k.setup (kept_of k) (Delivery (packet_of packet))).outputs = cc in
    let more : AreGiven k packets outputs = cc in
    let step : IsTakenBy old.kept.setup (kept_of old.kept) (Delivery (packet_of packet)) (done_of done) =
    taken_by old (given.Packet packet) done gathered.0.comes gathered.0.well (gathered.0.gives ∙ sym first ∙ took.given) in
    let later : IsOwnRun between.kept.setup (kept_of between.kept) (map done_of dones) (kept_of new.kept) =
    own_all k between new packets outputs dones gathered.1 more taken.2 in
    let on : IsOwnRun old.kept.setup (stepped old.kept.setup (kept_of old.kept) (Delivery (packet_of packet))).kept (map done_of dones) (kept_of new.kept) =
    subst (λ (from : Kept). IsOwnRun old.kept.setup from (map done_of dones) (kept_of new.kept)) took.kept
    (subst (λ (s : Setup). IsOwnRun s (kept_of between.kept) (map done_of dones) (kept_of new.kept)) took.setup later) in (
      step.own,
      subst (λ (by : Input). IsOwnRun old.kept.setup (stepped old.kept.setup (kept_of old.kept) by).kept (map done_of dones) (kept_of new.kept))
          (sym step.by) on,
    )

done_each : (dones : List Taken) → done_in (map entry_done dones) ≡ map done_of dones
done_each [] = refl
done_each (done ∷ dones) = ap (λ (ds : List Done). done_of done ∷ ds) (done_each dones)

at_each : (node : ℕ) (dones : List Taken) (entry : Entry) → ((done : Taken) → In done dones → node_at done.step ≡ node) → In entry (map entry_done dones) →
    node_at entry.done.step ≡ node
at_each node [] entry at among = absurd among
at_each node (done ∷ dones) entry at (inl here) = ap (λ (e : Entry). node_at e.done.step) here ∙ at done (inl refl)
at_each node (done ∷ dones) entry at (inr later) = at_each node dones entry (λ one among. at one (inr among)) later

module _ {S : Type 0} (stored : S → Stored) (cluster : Cluster) (kept : ℕ → Kept) where
  -- A node went on by several steps, and their entries stand behind its own.
  pub member_on : (old new : Posted S) (own : List Entry) (dones : List Taken) → IsMember stored cluster kept old own → old.astray ≡ false →
      ((done : Taken) → In done dones → node_at done.step ≡ old.node.kept.setup.node) → TakesSeveral stored old dones new →
      IsMember stored cluster kept new (own ++ map entry_done dones)
  member_on old new own dones member sound at took = record {
    within = subst (λ (s : Setup). IsInRange cluster s.node) (sym took.setup) member.within;
    setup = subst (λ (s : Setup). s ≡ setup_of cluster s.node) (sym took.setup) member.setup;
    entries = λ one among. elim (in_either one own (map entry_done dones) among) [
      | inl here ↦ member.entries one here ∙ ap (λ (s : Setup). s.node) (sym took.setup)
      | inr last ↦ at_each old.node.kept.setup.node dones one at last ∙ ap (λ (s : Setup). s.node) (sym took.setup)
    ];
    halts = took.halts member.halts;
    ends = kept_of new.node.kept;
    runs = λ none.
        let before = subst (λ (k : Kept). IsOwnRun setup (kept setup.node) (done_in own) k) (member.is_end sound)
        (member.runs (omega (arith, none, took.doubt))) in
        subst (λ (s : Setup). IsOwnRun s (kept s.node) (done_in (own ++ map entry_done dones)) (kept_of new.node.kept)) (sym took.setup)
        (subst (λ (ds : List Done). IsOwnRun setup (kept setup.node) ds (kept_of new.node.kept))
        (sym (done_both own (map entry_done dones) ∙ ap (λ (ds : List Done). done_in own ++ ds) (done_each dones)))
        (own_both setup (kept setup.node) (kept_of old.node.kept) (kept_of new.node.kept) (done_in own) (map done_of dones) before took.runs));
    is_end = λ still. refl;
  }
    where
      setup : Setup
      setup = old.node.kept.setup

-- ---- packets that are gathered one behind the other

take_more : (packets : List Packet) (place : ℕ) (packet : Packet) → slice_get packets place ≡ Some packet →
    take (suc place) packets ≡ take place packets ++ packet ∷ []
take_more [] place packet at = absurd (cc)
take_more (first ∷ packets) zero packet at = let same : first ≡ packet = cc in ap (λ (p : Packet). p ∷ []) same
take_more (first ∷ packets) (suc place) packet at = ap (λ (ps : List Packet). first ∷ ps) (take_more packets place packet at)

pub gathered_more : (k : Holding) (packets : List Packet) (dones : List Taken) (place : ℕ) (packet : Packet) (done : Taken) →
    AreGathered k (take place packets) dones → slice_get packets place ≡ Some packet → IsGathered k packet done →
    AreGathered k (take (suc place) packets) (dones ++ done ∷ [])
gathered_more k packets dones place packet done are at is =
    subst (λ (ps : List Packet). AreGathered k ps (dones ++ done ∷ [])) (sym (take_more packets place packet at)) (behind (take place packets) dones are)
  where
    behind : (ps : List Packet) (ds : List Taken) → AreGathered k ps ds → AreGathered k (ps ++ packet ∷ []) (ds ++ done ∷ [])
    behind [] [] are = (is, tt)
    behind [] (d ∷ ds) are = absurd are
    behind (p ∷ ps) [] are = absurd are
    behind (p ∷ ps) (d ∷ ds) are = (are.0, behind ps ds are.1)

-- so are their steps, with the numbers of their packets
pub numbered_more : (node : ℕ) (numbers : List ℕ) (dones : List Taken) (place number : ℕ) (done : Taken) → place < length numbers →
    number ≡ get_or numbers place 0 → done.step ≡ steps.Deliver number node → AreNumbered node (take place numbers) dones →
    AreNumbered node (take (place + 1) numbers) (dones ++ done ∷ [])
numbered_more node numbers dones place number done below read step so =
    let taken : take (place + 1) numbers ≡ take place numbers ++ number ∷ [] =
    ap (λ (n : ℕ). take n numbers) (add-one place) ∙ take-suc numbers place 0 below ∙ ap (λ (n : ℕ). take place numbers ++ n ∷ []) (sym read) in
    map-append (λ (d : Taken). d.step) dones (done ∷ []) ∙ (λ i. so i ++ step i ∷ [])
    ∙ sym (map-append (λ (n : ℕ). steps.Deliver n node) (take place numbers) (number ∷ []))
    ∙ ap (λ (ns : List ℕ). map (λ (n : ℕ). steps.Deliver n node) ns) (sym taken)

step_of_packet : (step : Step) (packet : Option Packet) (came : Packet) → ComesWith step packet (given.Packet came) →
    (number : ℕ) × (node : ℕ) × (step ≡ steps.Deliver number node)
step_of_packet (steps.Deliver number node) packet came comes = (number, node, refl)
step_of_packet (steps.Request node account request) packet came comes = absurd (cc)
step_of_packet (steps.Tick node moment reach) packet came comes = absurd comes
step_of_packet (steps.Grant node id) packet came comes = absurd (cc)
step_of_packet (steps.Answered node slot outcome) packet came comes = absurd (cc)
step_of_packet (steps.Crash node number found) packet came comes = absurd comes
step_of_packet (steps.Restart node) packet came comes = absurd comes

delivers : (k : Holding) (packet : Packet) (done : Taken) → IsGathered k packet done → (number : ℕ) × (done.step ≡ steps.Deliver number k.setup.node)
delivers k packet done is =
    let step = step_of_packet done.step done.packet packet is.comes in
    let node : step.1 ≡ k.setup.node = sym (ap node_at step.2) ∙ is.node in
    (step.0, step.2 ∙ ap (steps.Deliver step.0) node)

pub all_deliver : (k : Holding) (packets : List Packet) (dones : List Taken) → AreGathered k packets dones → AllDeliver k.setup.node dones
all_deliver k [] [] are one among = absurd among
all_deliver k [] (done ∷ dones) are one among = absurd are
all_deliver k (packet ∷ packets) [] are one among = absurd among
all_deliver k (packet ∷ packets) (done ∷ dones) are one (inl here) =
    subst (λ (d : Taken). (number : ℕ) × (d.step ≡ steps.Deliver number k.setup.node)) (sym here) (delivers k packet done are.0)
all_deliver k (packet ∷ packets) (done ∷ dones) are one (inr later) = all_deliver k packets dones are.1 one later

pub count_same : (k : Holding) (packets : List Packet) (dones : List Taken) → AreGathered k packets dones → length dones ≡ length packets
count_same k [] [] are = refl
count_same k [] (done ∷ dones) are = absurd are
count_same k (packet ∷ packets) [] are = absurd are
count_same k (packet ∷ packets) (done ∷ dones) are = ap suc (count_same k packets dones are.1)

-- ---- what is found of them

packet_of_done : (step : Step) (packet : Option Packet) (came : Packet) → ComesWith step packet (given.Packet came) → packet ≡ Some came
packet_of_done (steps.Deliver number node) None came comes = absurd (cc)
packet_of_done (steps.Deliver number node) (Some packet) came comes = let same : packet ≡ came = cc in ap Some same
packet_of_done (steps.Request node account request) packet came comes = absurd (cc)
packet_of_done (steps.Tick node moment reach) packet came comes = absurd comes
packet_of_done (steps.Grant node id) packet came comes = absurd (cc)
packet_of_done (steps.Answered node slot outcome) packet came comes = absurd (cc)
packet_of_done (steps.Crash node number found) packet came comes = absurd comes
packet_of_done (steps.Restart node) packet came comes = absurd comes

-- the first of them, and the one behind
record AreSplit (k : Holding) (firsts : List Packet) (packet : Packet) (dones : List Taken) (done : Taken) : Type 0 where
  front : AreGathered k firsts dones
  last : IsGathered k packet done

split_so : (k : Holding) (firsts : List Packet) (packet : Packet) (others : List Packet) (dones : List Taken) (done : Taken) (left : List Taken) →
    length dones ≡ length firsts → AreGathered k (firsts ++ packet ∷ others) (dones ++ done ∷ left) → AreSplit k firsts packet dones done
split_so k [] packet others [] done left same are = record { front = tt; last = are.0 }
split_so k [] packet others (d ∷ ds) done left same are = absurd (cc)
split_so k (p ∷ ps) packet others [] done left same are = absurd (cc)
split_so k (p ∷ ps) packet others (d ∷ ds) done left same are =
    let rest = split_so k ps packet others ds done left (cc) are.1 in record { front = (are.0, rest.front); last = rest.last }

pub as_many : {S : Type 0} (old new : Standing S) (packets : List Packet) (outputs : List Outputs) → HasTakenAll old packets outputs new →
    length outputs ≡ length packets
as_many old new [] [] taken = refl
as_many old new [] (one ∷ outputs) taken = absurd taken
as_many old new (packet ∷ packets) [] taken = absurd taken
as_many old new (packet ∷ packets) (one ∷ outputs) taken = ap suc (as_many taken.0 new packets outputs taken.2)

-- Once it is known what is stored of a group, it has taken the steps before the one in whose save it stopped.
pub settled_so : {S : Type 0} (stored : S → Stored) (old new : Posted S) (outputs : List Outputs) (dones taken : List Taken) (packet : Option Packet) →
    AreGathered old.node.kept old.node.waiting dones → HasSettled old.node outputs new.node → IsHaltedAt dones (length outputs) taken packet →
    packet_halted new.halted ≡ packet → new.node.kept.setup ≡ old.node.kept.setup → (stored old.node.store).doubt ≤ (stored new.node.store).doubt →
    TakesSeveral stored old taken new
settled_so stored old new outputs dones taken packet gathered settled at halted setup doubt = elim settled.found [
  | inl before ↦
      let none : taken ≡ [] = no_length taken (at.count ∙ ap length before.gives) in
      let split = split_so old.node.kept [] before.packet before.others taken at.done at.left (ap length none)
      (subst (λ (ds : List Taken). AreGathered old.node.kept (before.packet ∷ before.others) ds) at.are
      (subst (λ (ps : List Packet). AreGathered old.node.kept ps dones) before.packets gathered)) in
      record {
        runs = subst (λ (ds : List Taken). IsOwnRun old.node.kept.setup (kept_of old.node.kept) (map done_of ds) (kept_of new.node.kept)) (sym none)
            (ap kept_of before.kept);
        setup = setup;
        halts = λ was. before.unfinished ∙ sym (packet_of_done at.done.step at.done.packet before.packet split.last.comes) ∙ sym at.packet_is ∙ sym halted;
        doubt = doubt;
      }
  | inr behind ↦
      let count : length taken ≡ length behind.firsts = at.count ∙ as_many (unbroken old.node) (unbroken new.node) behind.firsts outputs behind.taken in
      let split = split_so old.node.kept behind.firsts behind.packet [] taken at.done at.left count
      (subst (λ (ds : List Taken). AreGathered old.node.kept (behind.firsts ++ behind.packet ∷ []) ds) at.are
      (subst (λ (ps : List Packet). AreGathered old.node.kept ps dones) behind.packets gathered)) in
      record {
        runs = own_all old.node.kept (unbroken old.node) (unbroken new.node) behind.firsts outputs taken split.front behind.gives behind.taken;
        setup = setup;
        halts = λ was. behind.unfinished ∙ sym (packet_of_done at.done.step at.done.packet behind.packet split.last.comes) ∙ sym at.packet_is ∙ sym halted;
        doubt = doubt;
      }
]
  where
    no_length : (ds : List Taken) → length ds ≡ 0 → ds ≡ []
    no_length [] same = refl
    no_length (d ∷ ds) same = absurd (cc)

-- Fewer were taken than there are.
pub fewer_taken : {S : Type 0} (old new : Standing S) (outputs : List Outputs) (dones : List Taken) → AreGathered old.kept old.waiting dones →
    HasSettled old outputs new → length outputs < length dones
fewer_taken old new outputs dones gathered settled =
    let same = count_same old.kept old.waiting dones gathered in
    elim settled.found [
      | inl before ↦
          let none = ap length before.gives in
          let some = ap length before.packets in
          omega (arith, same, none, some)
      | inr behind ↦
          let count = as_many (unbroken old) (unbroken new) behind.firsts outputs behind.taken in
          let all = ap length behind.packets ∙ length-append behind.firsts (behind.packet ∷ []) in
          omega (arith, same, count, all)
    ]

still_unfinished : {S : Type 0} (old new : Standing S) (packets : List Packet) (outputs : List Outputs) → HasTakenAll old packets outputs new →
    new.unfinished ≡ old.unfinished
still_unfinished old new [] [] taken = taken.unfinished
still_unfinished old new [] (one ∷ outputs) taken = absurd taken
still_unfinished old new (packet ∷ packets) [] taken = absurd taken
still_unfinished old new (packet ∷ packets) (one ∷ outputs) taken = still_unfinished taken.0 new packets outputs taken.2 ∙ taken.1.unfinished

module _ {S : Type 0} (stored : S → Stored) where
  -- It took all of them.
  pub taken_so : (old new : Posted S) (k : Holding) (packets : List Packet) (outputs : List Outputs) (dones : List Taken) → k ≡ old.node.kept →
      AreGathered k packets dones → AreGiven old.node.kept packets outputs → HasTakenAll old.node packets outputs new.node →
      new.node.kept.setup ≡ old.node.kept.setup → new.halted ≡ old.halted → (stored old.node.store).doubt ≤ (stored new.node.store).doubt →
      TakesSeveral stored old dones new
  taken_so old new k packets outputs dones is gathered gave taken setup halted doubt = record {
    runs = own_all old.node.kept old.node new.node packets outputs dones (subst (λ (h : Holding). AreGathered h packets dones) is gathered) gave taken;
    setup = setup;
    halts = λ was. still_unfinished old.node new.node packets outputs taken ∙ was ∙ sym (ap packet_halted halted);
    doubt = doubt;
  }

  -- It took none.
  pub stays_so : (old new : Posted S) → new.node.kept ≡ old.node.kept → new.node.unfinished ≡ old.node.unfinished → new.halted ≡ old.halted →
      (stored old.node.store).doubt ≤ (stored new.node.store).doubt → TakesSeveral stored old [] new
  stays_so old new kept unfinished halted doubt = record {
    runs = ap kept_of kept;
    setup = ap (λ (k : Holding). k.setup) kept;
    halts = λ was. unfinished ∙ was ∙ sym (ap packet_halted halted);
    doubt = doubt;
  }

  -- What it took since the save failed it took since before.
  pub before_it : (old between new : Posted S) (dones : List Taken) → between.node.kept ≡ old.node.kept → between.node.unfinished ≡ old.node.unfinished →
      between.halted ≡ old.halted → (stored old.node.store).doubt ≤ (stored between.node.store).doubt → TakesSeveral stored between dones new →
      TakesSeveral stored old dones new
  before_it old between new dones kept unfinished halted doubt took = record {
    runs = subst (λ (k : Holding). IsOwnRun k.setup (kept_of k) (map done_of dones) (kept_of new.node.kept)) kept took.runs;
    setup = took.setup ∙ ap (λ (k : Holding). k.setup) kept;
    halts = λ was. took.halts (unfinished ∙ was ∙ sym (ap packet_halted halted));
    doubt = let more = took.doubt in omega (arith, doubt, more);
  }

-- ---- at a place of a list

-- A list that is cut behind a place ends in the value there.
pub cut_behind : {A B : Type 0} (f : A → B) (all taken front : List A) (one : A) (count : ℕ) → taken ≡ take count all → taken ≡ front ++ one ∷ [] →
    map f all ≡ map f front ++ f one ∷ map f (drop count all)
cut_behind {A} f all taken front one count is split =
    let whole : all ≡ front ++ one ∷ drop count all =
    sym (take-append-drop count all) ∙ ap (λ (xs : List A). xs ++ drop count all) (sym is ∙ split) ∙ append_assoc front (one ∷ []) (drop count all) in
    ap (λ (xs : List A). map f xs) whole ∙ map-append f front (one ∷ drop count all)

-- what is the same of two lists is the same at each place
pub same_at : {A B C : Type 0} (f : A → C) (g : B → C) (all : List A) (others : List B) (place : ℕ) (one : A) (other : B) → map f all ≡ map g others →
    slice_get all place ≡ Some one → slice_get others place ≡ Some other → f one ≡ g other
same_at f g [] others place one other same at there = absurd (cc)
same_at f g (first ∷ all) [] place one other same at there = absurd (cc)
same_at f g (first ∷ all) (next ∷ others) zero one other same at there =
    let here : first ≡ one = cc in let too : next ≡ other = cc in let both : f first ≡ g next = cc in sym (ap f here) ∙ both ∙ ap g too
same_at f g (first ∷ all) (next ∷ others) (suc place) one other same at there =
    let rest : map f all ≡ map g others = cc in same_at f g all others place one other rest at there

-- The step of a packet that comes to a node, with what it gives out.
pub gathered_so : (k : Holding) (packet copy : Packet) (step : Step) (outputs : Outputs) → copy ≡ packet →
    ((number : ℕ) × (step ≡ steps.Deliver number k.setup.node)) → IsWellMade (packet_of packet) →
    outputs_of outputs ≡ (stepped k.setup (kept_of k) (Delivery (packet_of packet))).outputs →
    IsGathered k packet (record { step = step; packet = Some copy; outputs = outputs })
gathered_so k packet copy step outputs same is well gives = record {
  comes = subst (λ (s : Step). ComesWith s (Some copy) (given.Packet packet)) (sym is.1) (ap (λ (p : Packet). Some (given.Packet p)) same);
  well = well;
  node = ap node_at is.1;
  gives = gives;
}

-- A node that takes nothing keeps what it kept, and has the same packet unfinished.
pub record KeepsIt {S : Type 0} (old new : Standing S) : Type 0 where
  pub kept : new.kept ≡ old.kept
  pub unfinished : new.unfinished ≡ old.unfinished

pub gathered_nodes : (k : Holding) (packets : List Packet) (dones : List Taken) (done : Taken) → AreGathered k packets dones → In done dones →
    node_at done.step ≡ k.setup.node
gathered_nodes k [] [] done are among = absurd among
gathered_nodes k [] (first ∷ dones) done are among = absurd are
gathered_nodes k (packet ∷ packets) [] done are among = absurd among
gathered_nodes k (packet ∷ packets) (first ∷ dones) done are (inl here) = ap (λ (d : Taken). node_at d.step) here ∙ are.0.node
gathered_nodes k (packet ∷ packets) (first ∷ dones) done are (inr later) = gathered_nodes k packets dones done are.1 later
