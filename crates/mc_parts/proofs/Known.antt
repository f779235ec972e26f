-- A node knows one chain of a message, whatever packets came to it.
use Rattle.std.proofs.Common.{◌≡◌, ◌⊎◌, ℕ, zero, suc, pred, Bool, true, false, List, [], ◌∷◌, ◌++◌, length, refl, sym, ◌∙◌, ap, subst, inl, inr, arith}
use Rattle.std.proofs.lemmas.Bool.{cases_lt, true≢false}
use Rattle.mc_model.specs.message.Decree.{Decree}
use Rattle.mc_model.specs.synod.Lists.{In}
use Rattle.mc_model.specs.synod.Majority.{HoldsOf}
use Rattle.mc_model.specs.synod.OneSlot.{Vote, vote_at}
use Rattle.mc_model.specs.synod.Packet.{Slot, slot_of, Packet, Voted}
use Rattle.mc_model.specs.node.Knowledge.{IsLearned, Knows}
use Rattle.mc_parts.proofs.Majorities.{both}

-- ---- what one more packet makes of a majority

-- each of a majority told before, or one of them told with this packet
pub record ToldNow (packet : Packet) (slot : Slot) (vote : Vote) : Type 0 where
  pub acceptor : ℕ
  pub same : Voted acceptor slot vote ≡ packet

abbrev TellsIn : Slot → Vote → List Packet → ℕ → Type 0
TellsIn slot vote received acceptor = In (Voted acceptor slot vote) received

told_before : (packet : Packet) (received : List Packet) (slot : Slot) (vote : Vote) (test : ℕ → Bool) (nodes : ℕ) →
    HoldsOf nodes test (TellsIn slot vote (packet ∷ received)) →
    ToldNow packet slot vote ⊎ HoldsOf nodes test (TellsIn slot vote received)
told_before packet received slot vote test zero each = inr (λ node least most passes. absurd (omega (arith, least, most)))
told_before packet received slot vote test (suc nodes) each =
    by_test (test (suc nodes)) refl (told_before packet received slot vote test nodes (λ node least most. each node least (omega (arith, most))))
  where
    joined : (test (suc nodes) ≡ true → TellsIn slot vote received (suc nodes)) → HoldsOf nodes test (TellsIn slot vote received) →
        HoldsOf (suc nodes) test (TellsIn slot vote received)
    joined last earlier node least most passes = elim (cases_lt nodes node) [
      | inl above ↦
          let same : node ≡ suc nodes = omega (arith, most, above) in
          subst (TellsIn slot vote received) (sym same) (last (subst (λ (n : ℕ). test n ≡ true) same passes))
      | inr within ↦ earlier node least within passes
    ]

    by_last : ToldNow packet slot vote ⊎ HoldsOf nodes test (TellsIn slot vote received) →
        (test (suc nodes) ≡ true → TellsIn slot vote received (suc nodes)) →
        ToldNow packet slot vote ⊎ HoldsOf (suc nodes) test (TellsIn slot vote received)
    by_last (inl now) last = inl now
    by_last (inr earlier) last = inr (joined last earlier)

    by_test : (is : Bool) → test (suc nodes) ≡ is → ToldNow packet slot vote ⊎ HoldsOf nodes test (TellsIn slot vote received) →
        ToldNow packet slot vote ⊎ HoldsOf (suc nodes) test (TellsIn slot vote received)
    by_test false fails rest = by_last rest (λ passes. absurd (true≢false (sym passes ∙ fails)))
    by_test true passes rest = elim (each (suc nodes) (omega arith) (omega arith) passes) [
      | inl same ↦ inl (record { acceptor = suc nodes; same = same })
      | inr before ↦ by_last rest (λ again. before)
    ]

pub learned_before : (nodes : ℕ) (packet : Packet) (received : List Packet) (slot : Slot) (vote : Vote) →
    IsLearned nodes (packet ∷ received) slot vote →
    ToldNow packet slot vote ⊎ IsLearned nodes received slot vote
learned_before nodes packet received slot vote learned = elim (told_before packet received slot vote learned.test nodes learned.each) [
  | inl now ↦ inl now
  | inr each ↦ inr (record { test = learned.test; most = learned.most; each = each })
]

-- ---- of two chains that were the first to be learned in a slot, both are the same

abbrev IsFirstLearned : ℕ → List Packet → Slot → List Decree → Type 0
IsFirstLearned nodes received slot chain =
    (newer older : List Packet) (vote : Vote) → received ≡ newer ++ older → IsLearned nodes older slot vote →
    (earlier : ℕ) × IsLearned nodes older slot (vote_at earlier chain)

first_behind : (nodes : ℕ) (packet : Packet) (received : List Packet) (slot : Slot) (chain : List Decree) →
    IsFirstLearned nodes (packet ∷ received) slot chain →
    IsFirstLearned nodes received slot chain
first_behind nodes packet received slot chain first newer older vote split = first (packet ∷ newer) older vote (ap (λ (ps : List Packet). packet ∷ ps) split)

same_now : (packet : Packet) (slot : Slot) (one other : Vote) → ToldNow packet slot one → ToldNow packet slot other → one.chain ≡ other.chain
same_now packet slot one other a b =
    let same : Voted a.acceptor slot one ≡ Voted b.acceptor slot other = a.same ∙ sym b.same in let votes : one ≡ other = cc in ap (λ (v : Vote). v.chain) votes

first_same : (nodes : ℕ) (received : List Packet) (slot : Slot) (one other : Vote) → IsLearned nodes received slot one →
    IsLearned nodes received slot other → IsFirstLearned nodes received slot one.chain → IsFirstLearned nodes received slot other.chain →
    one.chain ≡ other.chain
first_same nodes [] slot one other learned also first second = absurd (both nodes _ _ learned learned).one
first_same nodes (packet ∷ received) slot one other learned also first second =
    by_packet (λ at with a b. first_same nodes received slot (vote_at at one.chain) (vote_at with other.chain) a b
    (first_behind nodes packet received slot one.chain first) (first_behind nodes packet received slot other.chain second))
    (learned_before nodes packet received slot one learned) (learned_before nodes packet received slot other also)
  where
    by_packet : ((at with : ℕ) → IsLearned nodes received slot (vote_at at one.chain) → IsLearned nodes received slot
        (vote_at with other.chain) → one.chain ≡ other.chain) →
        ToldNow packet slot one ⊎ IsLearned nodes received slot one → ToldNow packet slot other ⊎ IsLearned nodes received slot other →
        one.chain ≡ other.chain
    by_packet behind (inl a) (inl b) = same_now packet slot one other a b
    by_packet behind (inr a) b = let e = second (packet ∷ []) received one refl a in behind one.ballot e.0 a e.1
    by_packet behind (inl a) (inr b) = let e = first (packet ∷ []) received other refl b in behind e.0 other.ballot e.1 b

-- ---- what is known

pub knows_one : (nodes : ℕ) (received : List Packet) (id : ℕ) (one other : List Decree) → Knows nodes received id one →
    Knows nodes received id other →
    one ≡ other
knows_one nodes received id one other a b =
    let up = b.longest (pred (length one)) (vote_at a.ballot one) a.learned in
    let down = a.longest (pred (length other)) (vote_at b.ballot other) b.learned in
    let places : pred (length one) ≡ pred (length other) = omega (arith, up, down) in
    let slots : slot_of id other ≡ slot_of id one = λ i. record { id = id; place = sym places i } in
    first_same nodes received (slot_of id one) (vote_at a.ballot one) (vote_at b.ballot other) a.learned
    (subst (λ (s : Slot). IsLearned nodes received s (vote_at b.ballot other)) slots b.learned) a.first
    (subst (λ (s : Slot). IsFirstLearned nodes received s other) slots b.first)
