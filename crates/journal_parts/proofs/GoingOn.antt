-- A journal that goes on with another part of the same run.
use Rattle.std.proofs.Common.{◌≡◌, ◌⊎◌, ℕ, zero, suc, ◌+◌, ◌-◌, ◌<◌, Bool, true, false, List, [], ◌∷◌, ◌++◌, length, Some}
use Rattle.std.proofs.Common.{refl, sym, ap, subst, ◌∙◌, inl, inr, arith, length-append}
use Rattle.std.proofs.lemmas.List.{length-reverse}
use Rattle.std.proofs.lemmas.List.Elements.{filter-append}
use Rattle.std.specs.Prelude.{◌==◌, if◌then◌else◌, reverse, slice_get}
use Rattle.std.proofs.lemmas.Bool.Decides.{nat_tests}
use Rattle.std.proofs.lemmas.Option.{slice_get_within}
use Rattle.mc_model.specs.node.Setup.{Setup}
use Rattle.mc_model.specs.synod.Lists.{In}
use Rattle.mc_model.specs.synod.Packet.{Packet}
use Rattle.mc_model.specs.cluster.Steps.{Cluster, setup_of}
use Rattle.mc_parts.proofs.Membership.{at_place, in_either}
use Rattle.node_model.specs.Kept.{Kept}
use Rattle.node_core.specs.Keeping.{kept_of}
use Rattle.stable_store.specs.Stored.{Stored}
use Rattle.std.specs.Arc.{arc_value}
use Rattle.synod_acceptor.specs.Packets.{packet_of}
use Rattle.synod_acceptor.specs.declared.packet.Packet.{Packet as Sent}
use Rattle.journal_laws.specs.Journals.{IsInRange, IsOwnRun, done_in, entries_at, packets_sent}
use Rattle.journal_laws.specs.Parts.{IsPart}
use Rattle.journal_laws.proofs.Parts.{parts_go_on}
use Rattle.journal_parts.specs.declared.carried.Carried.{Carried}
use Rattle.journal_parts.specs.declared.noted.Noted.{Noted}
use Rattle.journal_parts.specs.Closing.{AreSure, Closed, IsClosed, entries_in}
use Rattle.journal_parts.specs.GoingOn.{AreSound, GoesOn, kept_in, numbered_behind, numbers_behind}
use Rattle.journal_parts.specs.Members.{IsMember, Posted}
use Rattle.journal_parts.specs.Numbers.{HaveNumbers, IsCarried, Numbers, all_from, all_sent_by, is_from, numbered_from, sent_by}
use Rattle.journal_parts.specs.Registers.{AreNumbered, IsNumberedIn, IsRegister}
use Rattle.journal_parts.proofs.Numbers.{number_kept, numbered}
use Rattle.journal_parts.proofs.Unsent.{sent_count}

-- ---- places

pub place_in : {A : Type 0} (xs : List A) (x : A) → In x xs → (place : ℕ) × (slice_get xs place ≡ Some x)
place_in [] x none = absurd none
place_in (y ∷ ys) x (inl same) = (zero, ap Some (sym same))
place_in (y ∷ ys) x (inr later) = let (place, is) = place_in ys x later in (suc place, is)

pub there_is : {A : Type 0} (xs : List A) (place : ℕ) → place < length xs → (x : A) × (slice_get xs place ≡ Some x)
there_is [] place within = absurd (omega (arith, within))
there_is (y ∷ ys) zero within = (y, refl)
there_is (y ∷ ys) (suc place) within = there_is ys place (omega (arith, within))

-- ---- the packets of both parts

again_kept : (packets newer : List Packet) (carried : List Carried) (one : Carried) → ((other : Carried) → In other carried → IsCarried packets other) →
    In one carried → IsCarried (newer ++ packets) one
again_kept packets newer carried one each among = number_kept packets newer one.number (packet_of one.packet) (each one among)

-- one that stands under its number was sent by the entry
numbered_in : (before : ℕ) (sent : List Sent) (one : Carried) → In one (numbered_from before sent) →
    (place : ℕ) × (slice_get sent place ≡ Some one.packet) × (one.number ≡ before + (place + 1))
numbered_in before [] one none = absurd none
numbered_in before (packet ∷ later) one (inl same) =
    (zero, ap (λ (c : Carried). Some c.packet) (sym same), ap (λ (c : Carried). c.number) same)
numbered_in before (packet ∷ later) one (inr among) =
    let (place, is, number) = numbered_in (before + 1) later one among in (suc place, is, omega (arith, number))

sent_in : (noted : List Noted) (one : Carried) → In one (all_sent_by noted) → (here : Noted) × In here noted × IsNumberedIn here one.number one.packet
sent_in [] one none = absurd none
sent_in (first ∷ later) one among = elim (in_either one (sent_by first) (all_sent_by later) among) [
  | inl here ↦
      let (place, is, number) = numbered_in first.before (arc_value first.entry.done).outputs.packets.items one here in
      (first, inl refl, record { place = place; is = is; number_is = number })
  | inr there ↦ let (other, behind, is) = sent_in later one there in (other, inr behind, is)
]

module _ {S : Type 0} (cluster : Cluster) (numbers : Numbers) (packets : List Packet) (closed : Closed S)
    (register : IsRegister cluster numbers closed.noted closed.carried closed.sent) (have : HaveNumbers numbers packets) where
  come_behind : (one : Carried) → In one closed.carried ⊎ In one (all_sent_by closed.noted) → IsCarried (numbered_behind closed packets) one
  come_behind one (inl again) =
      again_kept packets (reverse (packets_sent (entries_in closed))) closed.carried one (λ other among. have.come other (register.carries other among)) again
  come_behind one (inr sent) =
      let (here, among, is) = sent_in closed.noted one sent in
      let (place, at) = place_in closed.noted here among in
      numbered closed.noted packets closed.sent place one.number here one.packet
      (subst (λ (n : ℕ). AreNumbered n closed.noted closed.sent) (sym have.count) register.numbered) register.sound at is

  -- Behind a journal the packets of before and those of its entries have the numbers that go on.
  pub numbers_go_on : HaveNumbers (numbers_behind closed) (numbered_behind closed packets)
  numbers_go_on = record {
    count =
        let sent = packets_sent (entries_in closed) in
        let both = length-append (reverse sent) packets in
        let turned = length-reverse sent in
        let counted = sent_count numbers.count closed.noted closed.sent register.numbered register.sound in
        let begins = have.count in
        omega (arith, both, turned, counted, begins);
    come = λ one among. come_behind one (in_either one closed.carried (all_sent_by closed.noted) among);
  }

-- ---- what is carried

pub from_both : (from : ℕ) (first second : List Carried) → all_from from first ++ all_from from second ≡ all_from from (first ++ second)
from_both from first second = sym (filter-append (is_from from) first second)

among_kept : (b : Bool) (kept later : List Carried) (first one : Carried) → In one (if b then first ∷ kept else kept) →
    (In one kept → In one later) → In one (first ∷ later)
among_kept true kept later first one (inl same) rest = inl same
among_kept true kept later first one (inr there) rest = inr (rest there)
among_kept false kept later first one there rest = inr (rest there)

-- What is carried came from those that may come.
pub from_among : (from : ℕ) (all : List Carried) (one : Carried) → In one (all_from from all) → In one all
from_among from [] one none = absurd none
from_among from (first ∷ later) one among = among_kept (is_from from first) (all_from from later) later first one among (from_among from later one)

-- ---- what the nodes keep

module _ {S : Type 0} (other : Kept) where
  -- node n stands behind so many others at the place n - 1
  abbrev StandFrom : ℕ → List (Posted S) → Type 0
  StandFrom behind posts = (place : ℕ) (post : Posted S) → slice_get posts place ≡ Some post → post.node.kept.setup.node ≡ behind + (place + 1)

  kept_from : (behind : ℕ) (posts : List (Posted S)) → StandFrom behind posts → (place : ℕ) (post : Posted S) → slice_get posts place ≡ Some post →
      kept_in other posts (behind + (place + 1)) ≡ kept_of post.node.kept
  kept_from behind [] stand place post is = absurd cc
  kept_from behind (first ∷ later) stand zero post is =
      let number : first.node.kept.setup.node ≡ behind + 1 = stand zero first refl in
      let at : (first.node.kept.setup.node == behind + 1) ≡ true = grind (arith, nat_tests, number) in
      let same : first ≡ post = cc in
      ap (λ (b : Bool). if b then kept_of first.node.kept else kept_in other later (behind + 1)) at
      ∙ ap (λ (p : Posted S). kept_of p.node.kept) same
  kept_from behind (first ∷ later) stand (suc place) post is =
      let number : first.node.kept.setup.node ≡ behind + 1 = stand zero first refl in
      let at : (first.node.kept.setup.node == behind + (suc place + 1)) ≡ false = grind (arith, nat_tests, number) in
      let next : (behind + 1) + (place + 1) ≡ behind + (suc place + 1) = omega arith in
      ap (λ (b : Bool). if b then kept_of first.node.kept else kept_in other later (behind + (suc place + 1))) at
      ∙ ap (kept_in other later) (sym next)
      ∙ kept_from (behind + 1) later (λ at one there. (let is_at = stand (suc at) one there in omega (arith, is_at))) place post is

module _ {S : Type 0} (stored : S → Stored) (cluster : Cluster) (kept : ℕ → Kept) (numbers : Numbers) (closed : Closed S) (other : Kept)
    (is : IsClosed stored cluster kept numbers closed) where
  stand : (place : ℕ) (post : Posted S) → slice_get closed.posts place ≡ Some post → post.node.kept.setup.node ≡ place + 1
  stand place post there = ap (λ (s : Setup). s.node) (is.setups place post there)

  stand_from : StandFrom other 0 closed.posts
  stand_from place post there = let at = stand place post there in omega (arith, at)

  kept_there : (place : ℕ) (post : Posted S) → slice_get closed.posts place ≡ Some post → kept_in other closed.posts (place + 1) ≡ kept_of post.node.kept
  kept_there place post there =
      let behind : place + 1 ≡ 0 + (place + 1) = omega arith in
      ap (kept_in other closed.posts) behind ∙ kept_from other 0 closed.posts stand_from place post there

  within_at : (place node : ℕ) → node ≡ place + 1 → place < length closed.posts → IsInRange cluster node
  within_at place node number within = let count = is.count in (omega (arith, number), omega (arith, number, within, count))

  member_at : (place : ℕ) (post : Posted S) → slice_get closed.posts place ≡ Some post → In post closed.posts →
      IsMember stored cluster (kept_in other closed.posts) post []
  member_at place post there among = record {
    within = within_at place post.node.kept.setup.node (stand place post there) (slice_get_within closed.posts place post there);
    setup = is.setups place post there ∙ ap (setup_of cluster) (sym (stand place post there));
    entries = λ entry none. absurd none;
    halts = is.halts post among;
    ends = kept_of post.node.kept;
    runs = λ sure. sym (kept_there place post there) ∙ ap (kept_in other closed.posts) (sym (stand place post there));
    is_end = λ still. refl;
  }

  pub goes_on : AreSound closed.posts → GoesOn stored cluster (kept_in other closed.posts) (numbers_behind closed) closed
  goes_on sound = record {
    count = is.count;
    members = λ post among. let at = place_in closed.posts post among in member_at at.0 post at.1 among;
    numbers_are = refl;
  }

  -- The part ends for each node where the next one begins for it.
  ends_at : AreSound closed.posts → (place node : ℕ) (post : Posted S) → place + 1 ≡ node → slice_get closed.posts place ≡ Some post →
      is.ends node ≡ kept_in other closed.posts node
  ends_at sound place node post number there =
      let among = at_place closed.posts place post there in
      ap is.ends (sym number)
      ∙ ap is.ends (sym (stand place post there))
      ∙ is.lasts post among (sound post among)
      ∙ sym (kept_there place post there)
      ∙ ap (kept_in other closed.posts) number

  pub ends_there : AreSound closed.posts → (node : ℕ) → IsInRange cluster node → is.ends node ≡ kept_in other closed.posts node
  ends_there sound node within =
      let least = within.0 in
      let most = within.1 in
      let count = is.count in
      let found = there_is closed.posts (node - 1) (omega (arith, least, most, count)) in
      let number : (node - 1) + 1 ≡ node = omega (arith, least) in
      ends_at sound (node - 1) node found.0 number found.1

  pub both_are_one : (second : Closed S) → AreSure stored closed.posts → AreSound closed.posts →
      (later : IsClosed stored cluster (kept_in other closed.posts) (numbers_behind closed) second) → AreSure stored second.posts →
      (packets : List Packet) → HaveNumbers numbers packets → IsPart cluster kept packets (entries_in closed ++ entries_in second) later.ends
  both_are_one second sure sound later certain packets have =
      let part = later.part certain (numbered_behind closed packets) (numbers_go_on cluster numbers packets closed is.register have) in
      parts_go_on cluster kept is.ends later.ends packets (entries_in closed) (entries_in second) (is.part sure packets have) (record {
        few = part.few;
        nodes = part.nodes;
        own = λ node within.
            subst (λ (k : Kept). IsOwnRun (setup_of cluster node) k (done_in (entries_at node (entries_in second))) (later.ends node))
            (sym (ends_there sound node within)) (part.own node within);
        sent = part.sent;
      })
