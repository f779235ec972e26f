-- What a node answers in a step is decided by the node and by what comes to it.
use Rattle.std.proofs.Common.{◌≡◌, ◌⊎◌, ℕ, ◌<◌, ◌≤◌, true, false, List, [], ◌∷◌, ◌++◌, map, Option, refl, sym, ◌∙◌, ap, subst, inl, inr, arith}
use Rattle.mc_model.specs.synod.Lists.{In}
use Rattle.mc_model.specs.synod.Packet.{Packet, Prepare, Promise, Propose, Voted, Refused, TopVote, Ask, Tell}
use Rattle.mc_model.specs.synod.Acceptor.{Records}
use Rattle.mc_model.specs.node.Setup.{Setup}
use Rattle.mc_model.specs.node.Actor.{Actor}
use Rattle.mc_model.specs.node.Act.{Act, Receives, Tells, Stops}
use Rattle.mc_model.specs.node.Effect.{did, saved}
use Rattle.mc_model.specs.node.Input.{Input, Delivery, Crash, Arrival, Tick, Grant, Response, Restart, Refusal}
use Rattle.mc_model.specs.node.Due.{AreDue, key_of, Fall}
use Rattle.mc_model.specs.node.Core.{IsHandled, IsReceived, AcceptorReplies, IsSaved, IsCore}
use Rattle.mc_model.specs.node.Phases.{DueToSettle, DueToAsk, DueToAbandon, DueToEnd, DueToReply, DueToReport}
use Rattle.mc_parts.proofs.Told.{told_once}
use Rattle.mc_model.specs.node.Step.{IsExact}

-- ---- two lists of one order and of the same members are one

pub below_all : (keys : List ℕ) (key : ℕ) → Fall (key ∷ keys) → (other : ℕ) → In other keys → other < key
below_all [] key fall other is_in = absurd is_in
below_all (next ∷ keys) key fall other (inl same) = omega (arith, same, fall.0)
below_all (next ∷ keys) key fall other (inr later) = let below = below_all keys next fall.1 other later in omega (arith, below, fall.0)

pub in_keys : (x : Act) (xs : List Act) → In x xs → In (key_of x) (map key_of xs)
in_keys x [] is_in = is_in
in_keys x (y ∷ xs) (inl same) = inl (ap key_of same)
in_keys x (y ∷ xs) (inr later) = inr (in_keys x xs later)

pub fall_behind : (keys : List ℕ) (key : ℕ) → Fall (key ∷ keys) → Fall keys
fall_behind [] key fall = tt
fall_behind (next ∷ keys) key fall = fall.1

-- a member with the key of the first is the first
first_only : (x y : Act) (xs : List Act) → Fall (map key_of (y ∷ xs)) → In x (y ∷ xs) → key_of y ≤ key_of x → x ≡ y
first_only x y xs fall (inl same) above = same
first_only x y xs fall (inr later) above =
    absurd (let below = below_all (map key_of xs) (key_of y) fall (key_of x) (in_keys x xs later) in omega (arith, below, above))

not_above : (x y : Act) (xs : List Act) → Fall (map key_of (y ∷ xs)) → In x (y ∷ xs) → key_of x ≤ key_of y
not_above x y xs fall (inl same) = let keys : key_of x ≡ key_of y = ap key_of same in omega (arith, keys)
not_above x y xs fall (inr later) = let below = below_all (map key_of xs) (key_of y) fall (key_of x) (in_keys x xs later) in omega (arith, below)

-- what is in a list behind its first, and in another list with that first, is behind it there
rest_in : (x y : Act) (xs ys : List Act) → x ≡ y → Fall (map key_of (x ∷ xs)) → ((z : Act) → In z (x ∷ xs) → In z (y ∷ ys)) → (z : Act) → In z xs → In z ys
rest_in x y xs ys same fall there z is_in = elim (there z (inr is_in)) [
  | inl head ↦ absurd (let below = below_all (map key_of xs) (key_of x) fall (key_of z) (in_keys z xs is_in) in
      let keys : key_of z ≡ key_of x = ap key_of (head ∙ sym same) in omega (arith, below, keys))
  | inr later ↦ later
]

pub same_list : (xs ys : List Act) → Fall (map key_of xs) → Fall (map key_of ys) → ((x : Act) → In x xs → In x ys) → ((x : Act) → In x ys → In x xs) → xs ≡ ys
same_list [] [] fall_x fall_y there back = refl
same_list [] (y ∷ ys) fall_x fall_y there back = absurd (back y (inl refl))
same_list (x ∷ xs) [] fall_x fall_y there back = absurd (there x (inl refl))
same_list (x ∷ xs) (y ∷ ys) fall_x fall_y there back =
    let heads = first_only x y ys fall_y (there x (inl refl)) (not_above y x xs fall_x (back y (inl refl))) in
    let tails = same_list xs ys (fall_behind (map key_of xs) (key_of x) fall_x) (fall_behind (map key_of ys) (key_of y) fall_y)
    (rest_in x y xs ys heads fall_x there) (rest_in y x ys xs (sym heads) fall_y back) in
    λ i. heads i ∷ tails i

-- ---- what the input does by itself

-- one of two cases, of which one alone can be
one_case : (below above : Type 0) (acts first second one other : List Act) → (below → above → ⊥) →
    (below × (one ≡ first)) ⊎ (above × (one ≡ second)) → (below × (other ≡ first)) ⊎ (above × (other ≡ second)) →
    one ≡ other
one_case below above acts first second one other clash (inl a) (inl b) = a.1 ∙ sym b.1
one_case below above acts first second one other clash (inl a) (inr b) = absurd (clash a.0 b.0)
one_case below above acts first second one other clash (inr a) (inl b) = absurd (clash b.0 a.0)
one_case below above acts first second one other clash (inr a) (inr b) = a.1 ∙ sym b.1

answered_once : (records : Records) (packet : Packet) (one other : List Act) → AcceptorReplies records packet one →
    AcceptorReplies records packet other →
    one ≡ other
answered_once records (Prepare sender slot ballot) one other a b = one_case _ _ [] _ _ one other (λ below above. omega (arith, below, above)) a b
answered_once records (Propose sender slot vote) one other a b = one_case _ _ [] _ _ one other (λ below above. omega (arith, below, above)) a b
answered_once records (Ask sender id name) one other a b =
    a.2 ∙ ap (λ (told : Option TopVote). Tells id name told ∷ []) (told_once records id a.0 b.0 a.1 b.1) ∙ sym b.2
answered_once records (Promise sender slot ballot report) one other a b = a ∙ sym b
answered_once records (Voted sender slot vote) one other a b = a ∙ sym b
answered_once records (Refused sender slot ballot promised) one other a b = a ∙ sym b
answered_once records (Tell sender name told) one other a b = a ∙ sym b

saved_once : (records : Records) (packet : Packet) (one other : List Act) → IsSaved records packet one → IsSaved records packet other → one ≡ other
saved_once records (Prepare sender slot ballot) one other a b = one_case _ _ [] _ _ one other (λ below above. omega (arith, below, above)) a b
saved_once records (Propose sender slot vote) one other a b = one_case _ _ [] _ _ one other (λ below above. omega (arith, below, above)) a b
saved_once records (Ask sender id name) one other a b = a ∙ sym b
saved_once records (Promise sender slot ballot report) one other a b = a ∙ sym b
saved_once records (Voted sender slot vote) one other a b = a ∙ sym b
saved_once records (Refused sender slot ballot promised) one other a b = a ∙ sym b
saved_once records (Tell sender name told) one other a b = a ∙ sym b

received_once : (records : Records) (packet : Packet) (one other : List Act) → IsReceived records packet one → IsReceived records packet other → one ≡ other
received_once records packet one other a b =
    a.acts_are ∙ ap (λ (acts : List Act). acts ++ Receives packet ∷ []) (answered_once records packet a.answer b.answer a.answered b.answered) ∙ sym b.acts_are

-- a packet is received, or it is ignored
handled_once : (Concerned : Type 0) (Does : List Act → Type 0) → ((one other : List Act) → Does one → Does other → one ≡ other) →
    (one other : List Act) → IsHandled Concerned Does one → IsHandled Concerned Does other →
    one ≡ other
handled_once Concerned Does once one other (inl a) (inl b) = once one other a.1 b.1
handled_once Concerned Does once one other (inl a) (inr b) = absurd (b.0 a.0)
handled_once Concerned Does once one other (inr a) (inl b) = absurd (a.0 b.0)
handled_once Concerned Does once one other (inr a) (inr b) = a.1 ∙ sym b.1

pub core_once : (setup : Setup) (a : Actor) (records : Records) (input : Input) (one other : List Act) → IsCore setup a records input one →
    IsCore setup a records input other →
    one ≡ other
core_once setup a records (Delivery packet) one other c d = handled_once _ (IsReceived records packet) (received_once records packet) one other c d
core_once setup a records (Crash packet false) one other c d = c ∙ sym d
core_once setup a records (Crash packet true) one other c d =
    c.acts_are ∙ ap (λ (acts : List Act). Stops ∷ acts)
    (handled_once _ (IsSaved records packet) (saved_once records packet) c.before d.before c.handled d.handled) ∙ sym d.acts_are
core_once setup a records (Arrival request) one other c d = c ∙ sym d
core_once setup a records (Refusal status) one other c d = c.1 ∙ sym d.1
core_once setup a records (Tick moment reach) one other c d = c ∙ sym d
core_once setup a records (Grant slot) one other c d = c ∙ sym d
core_once setup a records (Response slot outcome) one other c d = c ∙ sym d
core_once setup a records (Restart lost) one other c d = c ∙ sym d

-- ---- what is due

-- of what is due at one moment there is one list
due_once : (One Other : Act → Type 0) (xs ys : List Act) → ((act : Act) → One act → Other act) → ((act : Act) → Other act → One act) →
    AreDue One xs → AreDue Other ys →
    xs ≡ ys
due_once One Other xs ys there back one other =
    same_list xs ys one.order other.order (λ x is_in. (other.each x).1 (there x ((one.each x).0 is_in)))
    (λ x is_in. (one.each x).1 (back x ((other.each x).0 is_in)))

-- so at actors that are the same
due_at : (Due : Actor → Act → Type 0) (a b : Actor) (xs ys : List Act) → a ≡ b → AreDue (Due a) xs → AreDue (Due b) ys → xs ≡ ys
due_at Due a b xs ys same = due_once (Due a) (Due b) xs ys (λ act. subst (λ (x : Actor). Due x act) same) (λ act. subst (λ (x : Actor). Due x act) (sym same))

module _ (setup : Setup) (a : Actor) (records : Records) (input : Input) (acts others : List Act) (s : IsExact setup a records input acts)
    (t : IsExact setup a records input others) where
  core_same : s.core ≡ t.core
  core_same = core_once setup a records input s.core t.core s.core_is t.core_is

  pub settles_once : s.settles ≡ t.settles
  settles_once = due_at (DueToSettle setup.nodes setup.node) _ _ s.settles t.settles (ap (did setup.node a) core_same) s.settled t.settled

  settled_same : (s.settles ++ s.core) ≡ (t.settles ++ t.core)
  settled_same = λ i. settles_once i ++ core_same i

  pub late_once : s.late ≡ t.late
  late_once = due_at (DueToEnd input) _ _ s.late t.late (ap (did setup.node a) settled_same) s.ended t.ended

  now_same : (s.late ++ s.settles ++ s.core) ≡ (t.late ++ t.settles ++ t.core)
  now_same = λ i. late_once i ++ settles_once i ++ core_same i

  pub asks_once : s.asks ≡ t.asks
  asks_once = due_at (λ b. DueToAsk setup.nodes setup.node a b input) _ _ s.asks t.asks (ap (did setup.node a) now_same) s.asked t.asked

  both_same : ◌≡◌ {A = List Act × List Act} (s.late ++ s.settles ++ s.core, s.core) (t.late ++ t.settles ++ t.core, t.core)
  both_same = λ i. (now_same i, core_same i)

  pub abandons_once : s.abandons ≡ t.abandons
  abandons_once = due_once _ _ s.abandons t.abandons
      (λ act. subst (λ (x : List Act × List Act). DueToAbandon setup.nodes setup.node (did setup.node a x.0) (saved records x.1) input act) both_same)
      (λ act. subst (λ (x : List Act × List Act). DueToAbandon setup.nodes setup.node (did setup.node a x.0) (saved records x.1) input act)
      (sym both_same)) s.abandoned t.abandoned

  pub replies_once : s.replies ≡ t.replies
  replies_once = due_at (DueToReply setup.nodes setup.node) _ _ s.replies t.replies (ap (did setup.node a) now_same) s.replied t.replied

  pub reports_once : s.reports ≡ t.reports
  reports_once = due_at (DueToReport setup.nodes setup.node a) _ _ s.reports t.reports (ap (did setup.node a) core_same) s.reported t.reported
