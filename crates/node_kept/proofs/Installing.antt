-- What is kept once a step is installed.
use Rattle.std.proofs.Common.{◌≡◌, ◌≤◌, ℕ, suc, true, List, [], ◌∷◌, map, Option, Some, None, refl, sym, ap, subst, ◌∙◌, arith}
use Rattle.std.specs.List.{AllByRecursion}
use Rattle.std.specs.List.Sorted.{IsStrictlySortedBy}
use Rattle.std.specs.Box.{box_value}
use Rattle.std.specs.Map.{keys_of}
use Rattle.std.specs.Ordering.{nat_cmp}
use Rattle.mc_model.specs.node.Input.{Delivery}
use Rattle.mc_model.specs.node.Setup.{Setup}
use Rattle.node_model.specs.Kept.{Held}
use Rattle.node_model.specs.Stepped.{stepped}
use Rattle.node_model.proofs.Places.{elsewhere}
use Rattle.shelf.specs.Shelved.{value_at}
use Rattle.synod_acceptor.specs.Packets.{packet_of}
use Rattle.synod_acceptor.specs.declared.record.Change.{Change}
use Rattle.waiting_requests.specs.Waiting.{held_in}
use Rattle.node_parts.specs.declared.message.Message.{Message as Filed}
use Rattle.node_parts.specs.Lists.{listed}
use Rattle.node_parts.specs.Recording.{id_changed, recorded_in, recorded_of}
use Rattle.node_kept.specs.declared.grouped_step.GroupedStep.{GroupedStep}
use Rattle.node_kept.specs.declared.kept.Kept.{Kept as Holding}
use Rattle.node_kept.specs.declared.step.Next.{Next}
use Rattle.node_kept.specs.declared.step.Put.{Put}
use Rattle.node_kept.specs.declared.step.Step.{Step}
use Rattle.node_kept.specs.Grouping.{HasInstalled, IsAlike, IsGrouped, IsOfOne, roomed}
use Rattle.node_kept.specs.Keeping.{AreOf, AreOwn, filed_as, kept_of, records_of}
use Rattle.node_kept.specs.Queueing.{AreAsked}
use Rattle.node_kept.specs.Steps.{AreOwnThen, HasRoom, IsInstalled, IsStep, counted_if, entries_after, entries_then, kept_then, recorded_if, rested_if}

pub installed_so : (old new : Holding) (next : Next) → IsInstalled old next new → kept_of new ≡ kept_then old next
installed_so old new next is = λ i. record {
  records = records_of (is.entries i);
  up = true;
  incarnation = is.incarnation i;
  clock = is.clock i;
  serial = is.serial i;
  ticket = suc (is.given i);
  held = is.queue i;
  messages = map filed_as (is.entries i);
}

pub own_then : (k new : Holding) (next : Next) → IsInstalled k next new → AreOwnThen k next → AreOwn new
own_then k new next is own = record {
  each = subst (λ (s : Setup). AreOf s new.incarnation new.messages.entries) (sym is.setup)
      (subst (λ (i : ℕ). AreOf k.setup i new.messages.entries) (sym is.incarnation)
      (subst (λ (es : List (ℕ × Filed)). AreOf k.setup k.incarnation es) (sym is.entries) own.each));
  asked = subst (λ (s : Setup). AreAsked s.node new.incarnation (suc new.given) (held_in new.queue)) (sym is.setup)
      (subst (λ (i : ℕ). AreAsked k.setup.node i (suc new.given) (held_in new.queue)) (sym is.incarnation)
      (subst (λ (n : ℕ). AreAsked k.setup.node k.incarnation (suc n) (held_in new.queue)) (sym is.given)
      (subst (λ (hs : List Held). AreAsked k.setup.node k.incarnation (suc next.given) hs) (sym is.queue) own.asked)));
  serial = subst (λ (n : ℕ). 1 ≤ n) (sym is.serial) own.serial;
}

-- ---- what is kept of other messages

puts_elsewhere : (id other : ℕ) (entries : List (ℕ × Filed)) (puts : List Put) → (other ≡ id → ⊥) → AllByRecursion (λ (put : Put). put.id ≡ id) puts →
    value_at (entries_after entries puts) other ≡ value_at entries other
puts_elsewhere id other entries [] apart are = refl
puts_elsewhere id other entries (first ∷ others) apart are =
    elsewhere first.id (box_value first.message) other (λ same. apart (same ∙ are.0)) (entries_after entries others)
    ∙ puts_elsewhere id other entries others apart are.1

recorded_elsewhere : (id other : ℕ) (entries : List (ℕ × Filed)) (change : Change) (m : Option Filed) → (other ≡ id → ⊥) →
    value_at (recorded_of entries id change m) other ≡ value_at entries other
recorded_elsewhere id other entries change None apart = refl
recorded_elsewhere id other entries change (Some m) apart = elsewhere id (recorded_in m change) other apart entries

change_elsewhere : (id other : ℕ) (entries : List (ℕ × Filed)) (change : Option Change) → (other ≡ id → ⊥) →
    AllByRecursion (λ (change : Change). id_changed change ≡ id) (listed change) → value_at (recorded_if change entries) other ≡ value_at entries other
change_elsewhere id other entries None apart are = refl
change_elsewhere id other entries (Some change) apart are =
    recorded_elsewhere (id_changed change) other entries change (value_at entries (id_changed change)) (λ same. apart (same ∙ are.0))

pub then_elsewhere : (id other : ℕ) (k : Holding) (next : Next) → (other ≡ id → ⊥) → IsOfOne id k next → (entries : List (ℕ × Filed)) →
    value_at (entries_then entries next) other ≡ value_at entries other
then_elsewhere id other k next apart of entries =
    change_elsewhere id other _ next.change apart of.changes
    ∙ (λ i. value_at (entries_after (rested_if (of.drops i) (counted_if (of.counted i) entries)) next.messages.items) other)
    ∙ puts_elsewhere id other entries next.messages.items apart of.puts

pub alike_itself : (id : ℕ) (k : Holding) → IsStrictlySortedBy nat_cmp (keys_of k.messages.entries) → IsAlike id k k
alike_itself id k ascend = record {
  setup = refl;
  incarnation = refl;
  clock = refl;
  serial = refl;
  given = refl;
  message = refl;
  ascend = ascend;
}

pub alike_on : (id : ℕ) (k between other : Holding) → IsAlike id k between → IsAlike id between other → IsAlike id k other
alike_on id k between other one two = record {
  setup = two.setup ∙ one.setup;
  incarnation = two.incarnation ∙ one.incarnation;
  clock = two.clock ∙ one.clock;
  serial = two.serial ∙ one.serial;
  given = two.given ∙ one.given;
  message = two.message ∙ one.message;
  ascend = two.ascend;
}

-- ---- a step of a group

module _ (k : Holding) (s : GroupedStep) (is : IsGrouped k s) (ascend : IsStrictlySortedBy nat_cmp (keys_of k.messages.entries))
    (room : 1 ≤ k.messages.room) (lists : 1 ≤ k.messages.listings) where
  abbrev Whole : Step
  Whole = roomed s.whole.value None

  has_room : HasRoom k.messages Whole.next
  has_room = let once = is.alone.of.once in (omega (arith, once, room), omega (arith, once, lists))

  pub grouped_step : IsStep k (stepped k.setup (kept_of k) (Delivery (packet_of s.packet))) Whole
  grouped_step = is.alone.is k (alike_itself s.id k ascend) None has_room

  others_alike : (new : Holding) → IsInstalled k Whole.next new → IsStrictlySortedBy nat_cmp (keys_of new.messages.entries) → (id : ℕ) → (id ≡ s.id → ⊥) →
      IsAlike id k new
  others_alike new installed rises id apart = record {
    setup = installed.setup;
    incarnation = installed.incarnation;
    clock = installed.clock ∙ is.alone.of.clock;
    serial = installed.serial ∙ is.alone.of.serial;
    given = installed.given ∙ is.alone.of.given;
    message = ap (λ (es : List (ℕ × Filed)). value_at es id) installed.entries
        ∙ then_elsewhere s.id id k s.whole.value.next apart is.alone.of k.messages.entries;
    ascend = rises;
  }

  pub installed_one : (new : Holding) → AreOwn k → IsInstalled k Whole.next new → IsStrictlySortedBy nat_cmp (keys_of new.messages.entries) →
      HasInstalled k s new
  installed_one new own installed rises =
      let step = grouped_step in
      let once = is.alone.of.once in
      let left = installed.room in
      let lists_left = installed.listings in
      record {
        taken = record {
          kept = installed_so k new Whole.next installed ∙ step.kept;
          gives = step.outputs;
          setup = installed.setup;
          incarnation = installed.incarnation;
        };
        records = λ slot. ap (λ (es : List (ℕ × Filed)). records_of es slot) installed.entries ∙ step.saves slot;
        own = own_then k new Whole.next installed (step.own own);
        others = others_alike new installed rises;
        room = omega (arith, once, left);
        lists = omega (arith, once, lists_left);
      }
