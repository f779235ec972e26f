-- An attempt that was given up was never granted.
use Rattle.std.proofs.Common.{◌≡◌, ℕ, List, refl, sym, ◌∙◌, ap, subst, inl, inr, arith}
use Rattle.std.proofs.lemmas.Bool.{cases_eq}
use Rattle.mc_model.specs.message.Decree.{Author}
use Rattle.mc_model.specs.synod.Lists.{In}
use Rattle.mc_model.specs.synod.Packet.{Slot}
use Rattle.mc_model.specs.node.Outcome.{Unanswered, no_session_error}
use Rattle.mc_model.specs.node.Actor.{Actor}
use Rattle.mc_model.specs.node.Act.{Act, Grants, Abandons}
use Rattle.mc_model.specs.node.Effect.{actor_by}
use Rattle.mc_model.specs.cluster.World.{World, Deed, May, after, start}
use Rattle.mc_model.specs.cluster.Fate.{deed_by}
use Rattle.mc_laws.proofs.invariant.Growth.{later, same_life, actor_here, actor_apart}
use Rattle.mc_laws.proofs.invariant.Links.{Links}

abbrev lived_by : ℕ → Actor → Author
lived_by node a = record { node = node; incarnation = a.incarnation }

-- what an actor granted in its incarnation it has granted
abbrev pub RecallsGrants : List Deed → ℕ → Actor → Type 0
RecallsGrants past node a = (slot : Slot) → In (deed_by (lived_by node a) (Grants slot)) past → In slot a.granted

pub record Grantings (w : World) : Type 0 where
  pub recalls : (node : ℕ) → RecallsGrants w.past node (w.actors node)
  pub apart : (author : Author) (slot : Slot) → In (deed_by author (Abandons slot)) w.past → In (deed_by author (Grants slot)) w.past → ⊥

granted_new : (node : ℕ) (a : Actor) (act : Act) (slot : Slot) → act ≡ Grants slot → In slot (actor_by node a act).granted
granted_new node a act slot is = subst (λ (x : Act). In slot (actor_by node a x).granted) (sym is) (inl refl)

recalls_by : (w : World) → Links w → Grantings w → (node : ℕ) (act : Act) → RecallsGrants (after w node act).past node (actor_by node (w.actors node) act)
recalls_by w links grantings node act slot (inl new) = granted_new node (w.actors node) act slot (ap (λ (d : Deed). d.act) (sym new))
recalls_by w links grantings node act slot (inr old) =
    let lived = links.lived _ old in
    let more = later node (w.actors node) act in
    let same : (actor_by node (w.actors node) act).incarnation ≡ (w.actors node).incarnation = omega (arith, lived, more) in
    (same_life node (w.actors node) act same).granted slot
    (grantings.recalls node slot (subst (λ (i : ℕ). In (deed_by (record { node = node; incarnation = i }) (Grants slot)) w.past) same old))

recalls_after : (w : World) → Links w → Grantings w → (node : ℕ) (act : Act) (other : ℕ) →
    RecallsGrants (after w node act).past other ((after w node act).actors other)
recalls_after w links grantings node act other = elim (cases_eq other node) [
  | inl here ↦ subst (λ (n : ℕ). RecallsGrants (after w node act).past n ((after w node act).actors n)) (sym here)
      (subst (RecallsGrants (after w node act).past node) (sym (actor_here w node act)) (recalls_by w links grantings node act))
  | inr apart ↦ subst (RecallsGrants (after w node act).past other) (sym (actor_apart w node act other apart)) (λ slot is_in. elim is_in [
    | inl new ↦ absurd (apart (ap (λ (d : Deed). d.node) new))
    | inr old ↦ grantings.recalls other slot old
  ])
]

-- the deed of an act is of its author
act_of : (author : Author) (act : Act) (deed : Deed) → deed_by author act ≡ deed → act ≡ deed.act
act_of author act deed is = ap (λ (d : Deed). d.act) is

at_author : (w : World) (node : ℕ) (act : Act) (author : Author) (did : Act) →
    deed_by author did ≡ record { node = node; incarnation = (w.actors node).incarnation; act = act } →
    lived_by node (w.actors node) ≡ author
at_author w node act author did is = λ i. record { node = (sym is i).node; incarnation = (sym is i).incarnation }

-- what is given up was not granted, and what is granted was not given up
given_up : (w : World) → Grantings w → (node : ℕ) (act : Act) → May w node act → (author : Author) (slot : Slot) → Abandons slot ≡ act →
    lived_by node (w.actors node) ≡ author → In (deed_by author (Grants slot)) w.past →
    ⊥
given_up w grantings node act may author slot is mine granted =
    let m : May w node (Abandons slot) = subst (May w node) (sym is) may in
    m.needs.granted (grantings.recalls node slot (subst (λ (a : Author). In (deed_by a (Grants slot)) w.past) (sym mine) granted))

granted_open : (w : World) → Links w → (node : ℕ) (act : Act) → May w node act → (author : Author) (slot : Slot) → Grants slot ≡ act →
    lived_by node (w.actors node) ≡ author → In (deed_by author (Abandons slot)) w.past →
    ⊥
granted_open w links node act may author slot is mine abandoned =
    let m : May w node (Grants slot) = subst (May w node) (sym is) may in
    m.needs.closed (Unanswered no_session_error) (links.recalls node slot (Unanswered no_session_error)
    (inr (refl, subst (λ (a : Author). In (deed_by a (Abandons slot)) w.past) (sym mine) abandoned)))

apart_after : (w : World) → Links w → Grantings w → (node : ℕ) (act : Act) → May w node act → (author : Author) (slot : Slot) →
    In (deed_by author (Abandons slot)) (after w node act).past → In (deed_by author (Grants slot)) (after w node act).past →
    ⊥
apart_after w links grantings node act may author slot (inl a) (inl b) =
    let both : Abandons slot ≡ Grants slot = act_of author (Abandons slot) _ a ∙ sym (act_of author (Grants slot) _ b) in cc
apart_after w links grantings node act may author slot (inl a) (inr granted) =
    given_up w grantings node act may author slot (act_of author (Abandons slot) _ a) (at_author w node act author (Abandons slot) a) granted
apart_after w links grantings node act may author slot (inr abandoned) (inl b) =
    granted_open w links node act may author slot (act_of author (Grants slot) _ b) (at_author w node act author (Grants slot) b) abandoned
apart_after w links grantings node act may author slot (inr abandoned) (inr granted) = grantings.apart author slot abandoned granted

pub grantings_after : (w : World) → Links w → Grantings w → (node : ℕ) (act : Act) → May w node act → Grantings (after w node act)
grantings_after w links grantings node act may =
    record { recalls = recalls_after w links grantings node act; apart = apart_after w links grantings node act may }

pub grantings_start : (nodes : ℕ) (serials : ℕ → ℕ) → Grantings (start nodes serials)
grantings_start nodes serials = record { recalls = λ node slot is_in. absurd is_in; apart = λ author slot abandoned granted. absurd abandoned }
