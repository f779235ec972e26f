-- Deliveries one after the other.
use Rattle.std.proofs.Common.{◌≡◌, ◌⊎◌, ℕ, zero, suc, ◌+◌, List, [], ◌∷◌, ◌++◌, refl, sym, ap, subst, ◌∙◌, append-nil, append_assoc, arith, ◌≤◌, ◌-◌, inl, inr}
use Rattle.std.proofs.lemmas.Bool.{cases_lt}
use Rattle.mc_model.specs.synod.Packet.{Packet}
use Rattle.mc_model.specs.node.Input.{Delivery}
use Rattle.mc_model.specs.node.Outputs.{Receipt, Reply}
use Rattle.mc_model.specs.node.Setup.{Setup}
use Rattle.node_model.specs.Kept.{Kept}
use Rattle.node_model.specs.Outputs.{Stepped, sends}
use Rattle.node_model.specs.Stepped.{stepped}
use Rattle.table_laws.specs.Tables.{TableNode}
use Rattle.table_laws.specs.Resting.{IsResting}
use Rattle.table_laws.specs.Settling.{IsOrderly, Settling, SettlesOn, begins_with, delivered, first_delivered, goes_on, most_deliveries}

abbrev pub settling : Kept → List Packet → List Reply → List Receipt → Settling
settling k packets replies receipts = record { kept = k; packets = packets; replies = replies; receipts = receipts }

-- this many deliveries at most lead from one to the other
pub record Leads (setup : Setup) (most : ℕ) (s t : Settling) : Type 0 where
  pub deliveries : ℕ
  pub few : deliveries ≤ most
  pub reached : delivered setup deliveries s ≡ t

pub few_enough : {n : ℕ} (t : TableNode) → n ≤ 10 → n ≤ most_deliveries t
few_enough t few = omega (arith, few)

module _ (setup : Setup) where
  delivered_then : (one other : ℕ) (s : Settling) → delivered setup (one + other) s ≡ delivered setup other (delivered setup one s)
  delivered_then zero other s = let none : 0 + other ≡ other = omega arith in rw none refl
  delivered_then (suc one) other s =
      let more : suc one + other ≡ suc (one + other) = omega arith in
      rw more (delivered_then one other (first_delivered setup s s.packets))

  pub leads_then : {m n : ℕ} (s t u : Settling) → Leads setup m s t → Leads setup n t u → Leads setup (m + n) s u
  leads_then s t u one two = record {
    deliveries = one.deliveries + two.deliveries;
    few = omega (arith, one.few, two.few);
    reached = delivered_then one.deliveries two.deliveries s ∙ (ap (delivered setup two.deliveries) one.reached ∙ two.reached);
  }

  pub leads_most : {m : ℕ} (n : ℕ) (s t : Settling) → m ≤ n → Leads setup m s t → Leads setup n s t
  leads_most n s t within leads = record { deliveries = leads.deliveries; few = omega (arith, within, leads.few); reached = leads.reached }

  pub leads_same : (s t : Settling) → s ≡ t → Leads setup 0 s t
  leads_same s t same = record { deliveries = 0; few = omega arith; reached = same }

  -- one packet is delivered
  pub leads_on : (k : Kept) (packet : Packet) (others : List Packet) (replies : List Reply) (receipts : List Receipt) (step : Stepped) →
      stepped setup k (Delivery packet) ≡ step →
      Leads setup 1 (settling k (packet ∷ others) replies receipts) (goes_on (settling k (packet ∷ others) replies receipts) others step)
  leads_on k packet others replies receipts step is =
      record { deliveries = 1; few = omega arith; reached = ap (goes_on (settling k (packet ∷ others) replies receipts) others) is }

  -- and nothing but packets is given out
  pub leads_sending : (k : Kept) (packet : Packet) (others : List Packet) (replies : List Reply) (receipts : List Receipt) (new : Kept)
      (packets : List Packet) →
      stepped setup k (Delivery packet) ≡ sends new packets [] [] →
      Leads setup 1 (settling k (packet ∷ others) replies receipts) (settling new (others ++ packets) replies receipts)
  leads_sending k packet others replies receipts new packets is = record {
    deliveries = 1;
    few = omega arith;
    reached =
        ap (goes_on (settling k (packet ∷ others) replies receipts) others) is
        ∙ (λ i. settling new (others ++ packets) (append-nil replies i) (append-nil receipts i));
  }

-- nothing is delivered once no packet is left
pub nothing_more : (setup : Setup) (s : Settling) → s.packets ≡ [] → (more : ℕ) → delivered setup more s ≡ s
nothing_more setup s left zero = refl
nothing_more setup s left (suc more) =
    ap (λ (packets : List Packet). delivered setup more (first_delivered setup s packets)) left ∙ nothing_more setup s left more

module _ (setup : Setup) (s : Settling) where
  pub goes_on_by_one : (n : ℕ) → delivered setup (n + 1) s ≡ first_delivered setup (delivered setup n s) (delivered setup n s).packets
  goes_on_by_one n = delivered_then setup n 1 s

  pub ends_at : (n : ℕ) → (delivered setup n s).packets ≡ [] → (m : ℕ) → n ≤ m → delivered setup m s ≡ delivered setup n s
  ends_at n left m later =
      let sum : m ≡ n + (m - n) = omega (arith, later) in
      ap (λ (deliveries : ℕ). delivered setup deliveries s) sum ∙ (delivered_then setup n (m - n) s ∙ nothing_more setup (delivered setup n s) left (m - n))

  pub one_end : (n m : ℕ) → (delivered setup n s).packets ≡ [] → (delivered setup m s).packets ≡ [] → delivered setup n s ≡ delivered setup m s
  one_end n m left also = elim (cases_lt n m) [
    | inl below ↦ sym (ends_at n left m (omega (arith, below)))
    | inr from ↦ ends_at m also n from
  ]

-- ---- the order of what is given out

front_empty : {A : Type 0} (xs ys : List A) → xs ++ ys ≡ [] → xs ≡ []
front_empty [] ys none = refl
front_empty (x ∷ xs) ys none = absurd cc

-- what is given out of one kind only grows
abbrev Grows : {A : Type 0} → Setup → (Settling → List A) → Type 0
Grows {A} setup out = (n : ℕ) (s : Settling) → (later : List A) × (out (delivered setup n s) ≡ out s ++ later)

replies_grow : (setup : Setup) → Grows setup (λ s. s.replies)
replies_grow setup zero s = ([], sym (append-nil s.replies))
replies_grow setup (suc n) s = by_packets (replies_grow setup n) s.packets
  where
    by_packets : ((t : Settling) → (later : List Reply) × ((delivered setup n t).replies ≡ t.replies ++ later)) → (packets : List Packet) →
        (later : List Reply) × ((delivered setup n (first_delivered setup s packets)).replies ≡ s.replies ++ later)
    by_packets behind [] = behind s
    by_packets behind (packet ∷ others) =
        let step = stepped setup s.kept (Delivery packet) in
        let (later, is) = behind (goes_on s others step) in
        (step.outputs.replies ++ later, is ∙ append_assoc s.replies step.outputs.replies later)

receipts_grow : (setup : Setup) → Grows setup (λ s. s.receipts)
receipts_grow setup zero s = ([], sym (append-nil s.receipts))
receipts_grow setup (suc n) s = by_packets (receipts_grow setup n) s.packets
  where
    by_packets : ((t : Settling) → (later : List Receipt) × ((delivered setup n t).receipts ≡ t.receipts ++ later)) → (packets : List Packet) →
        (later : List Receipt) × ((delivered setup n (first_delivered setup s packets)).receipts ≡ s.receipts ++ later)
    by_packets behind [] = behind s
    by_packets behind (packet ∷ others) =
        let step = stepped setup s.kept (Delivery packet) in
        let (later, is) = behind (goes_on s others step) in
        (step.outputs.receipts ++ later, is ∙ append_assoc s.receipts step.outputs.receipts later)

module _ (setup : Setup) (s : Settling) where
  module _ {A : Type 0} (out : Settling → List A) (grows : Grows setup out) where
    -- what is not given out by then is not given out before
    none_before : (n m : ℕ) → n ≤ m → out (delivered setup m s) ≡ [] → out (delivered setup n s) ≡ []
    none_before n m within none =
        let sum : n + (m - n) ≡ m = omega (arith, within) in
        let (later, is) = grows (m - n) (delivered setup n s) in
        front_empty (out (delivered setup n s)) later
        (sym is ∙ ap out (sym (delivered_then setup n (m - n) s)) ∙ ap (λ (deliveries : ℕ). out (delivered setup deliveries s)) sum ∙ none)

    never_given : (end : ℕ) → (delivered setup end s).packets ≡ [] → out (delivered setup end s) ≡ [] → (n : ℕ) → out (delivered setup n s) ≡ []
    never_given end left none n = elim (cases_lt n end) [
      | inl below ↦ none_before n end (omega (arith, below)) none
      | inr from ↦ ap out (ends_at setup s end left n from) ∙ none
    ]

  -- nobody is answered, or no receipt is given out
  pub orderly_unanswered : (end : ℕ) → (delivered setup end s).packets ≡ [] → (delivered setup end s).replies ≡ [] → IsOrderly setup s []
  orderly_unanswered end left none n = inr (never_given (λ s. s.replies) (replies_grow setup) end left none n)

  pub orderly_unreported : (end : ℕ) (replies : List Reply) → (delivered setup end s).packets ≡ [] → (delivered setup end s).receipts ≡ [] →
      IsOrderly setup s replies
  orderly_unreported end replies left none n = inl (never_given (λ s. s.receipts) (receipts_grow setup) end left none n)

  -- no receipt is given out but with the last delivery
  pub orderly_last : (before : ℕ) (replies : List Reply) → (delivered setup before s).receipts ≡ [] → (delivered setup (suc before) s).packets ≡ [] →
      (delivered setup (suc before) s).replies ≡ replies → IsOrderly setup s replies
  orderly_last before replies none left all n = elim (cases_lt n (suc before)) [
    | inl below ↦ inl (none_before (λ s. s.receipts) (receipts_grow setup) n before (omega (arith, below)) none)
    | inr from ↦ inr (ap (λ (t : Settling). t.replies) (ends_at setup s (suc before) left n from) ∙ all)
  ]

-- one of the reasons for which no reply comes behind a receipt
abbrev pub HasOrder : Setup → Settling → List Reply → List Receipt → Type 0
HasOrder setup s replies receipts = (replies ≡ []) ⊎ (receipts ≡ []) ⊎ IsOrderly setup s replies

-- the node settles where deliveries end
pub settles_on : (setup : Setup) (step : Stepped) (end : Settling) (t : TableNode) → step.outputs.replies ≡ [] → step.outputs.receipts ≡ [] →
    HasOrder setup (begins_with step) end.replies end.receipts → Leads setup (most_deliveries t) (begins_with step) end → end.packets ≡ [] →
    IsResting end.kept t → SettlesOn setup step t end.replies end.receipts
settles_on setup step end t no_replies no_receipts order leads left resting = record {
  replies_later = no_replies;
  receipts_later = no_receipts;
  deliveries = leads.deliveries;
  few = leads.few;
  left = left_then;
  resting = subst (λ (s : Settling). IsResting s.kept t) (sym leads.reached) resting;
  replies_are = replies_then;
  receipts_are = ap (λ (s : Settling). s.receipts) leads.reached;
  ordered = by_order order;
}
  where
    left_then : (delivered setup leads.deliveries (begins_with step)).packets ≡ []
    left_then = ap (λ (s : Settling). s.packets) leads.reached ∙ left

    replies_then : (delivered setup leads.deliveries (begins_with step)).replies ≡ end.replies
    replies_then = ap (λ (s : Settling). s.replies) leads.reached

    by_order : HasOrder setup (begins_with step) end.replies end.receipts → IsOrderly setup (begins_with step) end.replies
    by_order (inl none) =
        subst (IsOrderly setup (begins_with step)) (sym none)
        (orderly_unanswered setup (begins_with step) leads.deliveries left_then (replies_then ∙ none))
    by_order (inr (inl none)) =
        orderly_unreported setup (begins_with step) leads.deliveries end.replies left_then (ap (λ (s : Settling). s.receipts) leads.reached ∙ none)
    by_order (inr (inr ordered)) = ordered
