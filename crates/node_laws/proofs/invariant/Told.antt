-- What is kept of requests once something is told to one.
use Rattle.std.proofs.Common.{◌≡◌, ◌↔◌, ◌⊎◌, ℕ, ◌<◌, Bool, true, false, cond, List, [], ◌∷◌, map, Option, Some, None, refl, sym, ap, subst, ◌∙◌, inl, inr}
use Rattle.std.proofs.Common.{arith}
use Rattle.std.specs.Prelude.{◌==◌, if◌then◌else◌}
use Rattle.std.specs.List.Sorted.{IsStrictlyIncreasing}
use Rattle.std.proofs.lemmas.Bool.{cases_lt, eqb-false, eqb-true, true≢false}
use Rattle.std.proofs.lemmas.Bool.Decides.{Decides-eqb, Decides-like, Decides-or}
use Rattle.mc_model.specs.synod.Lists.{In}
use Rattle.mc_model.specs.synod.Packet.{Name, Packet, Tell, TopVote}
use Rattle.mc_model.specs.node.Actor.{id_in, name_of}
use Rattle.mc_model.specs.node.Alone.{Node}
use Rattle.mc_model.specs.node.Setup.{Setup}
use Rattle.mc_model.specs.node.Settling.{HasTold}
use Rattle.node_model.specs.Kept.{Held, Kept, message_at}
use Rattle.node_model.specs.Requests.{held_at, higher_top, is_higher, ticket_of, told_by, with_held}
use Rattle.node_model.specs.Sets.{with_node}
use Rattle.node_laws.specs.Stands.{Agrees, IsBelow, IsFit, IsHeld, IsHighestTold}
use Rattle.node_laws.proofs.invariant.Coherence.{coherent_heard}
use Rattle.node_laws.proofs.step.FollowRule.{higher_decides}
use Rattle.node_laws.proofs.invariant.Hearing.{message_heard, received, stands_heard}

-- ---- the request of a ticket

pub record IsFound (held : List Held) (ticket : ℕ) (h : Held) : Type 0 where
  pub among : In h held
  pub ticket_is : ticket_of h ≡ ticket

pub found_at : (held : List Held) (ticket : ℕ) (h : Held) → held_at held ticket ≡ Some h → IsFound held ticket h
found_at [] ticket h is = absurd (cc)
found_at (first ∷ others) ticket h is = by_test (ticket_of first == ticket) refl (found_at others ticket h) is
  where
    by_test : (test : Bool) → (ticket_of first == ticket) ≡ test → (held_at others ticket ≡ Some h → IsFound others ticket h) →
        cond test (Some first) (held_at others ticket) ≡ Some h → IsFound (first ∷ others) ticket h
    by_test true same rest found =
        let one : first ≡ h = cc in
        record { among = inl (sym one); ticket_is = ap ticket_of (sym one) ∙ eqb-true (ticket_of first) ticket same }
    by_test false differs rest found = let it = rest found in record { among = inr it.among; ticket_is = it.ticket_is }

pub none_at : (held : List Held) (ticket : ℕ) → held_at held ticket ≡ None → (h : Held) → In h held → ticket_of h ≡ ticket → ⊥
none_at [] ticket is h none same = none
none_at (first ∷ others) ticket is h among same = by_test (ticket_of first == ticket) refl (none_at others ticket) is among
  where
    by_test : (test : Bool) → (ticket_of first == ticket) ≡ test → (held_at others ticket ≡ None → (it : Held) → In it others → ticket_of it ≡ ticket → ⊥) →
        cond test (Some first) (held_at others ticket) ≡ None → In h (first ∷ others) → ⊥
    by_test true is rest none among = absurd (cc)
    by_test false differs rest none (inl first_is) = eqb-false (ticket_of first) ticket differs (ap ticket_of (sym first_is) ∙ same)
    by_test false differs rest none (inr later) = rest none h later same

-- ---- one more Tell

module _ (received_before : List Packet) (name : Name) (teller : ℕ) (told : Option TopVote) (h : Held) (is : IsHeld received_before name h)
    (about : (top : TopVote) → told ≡ Some top → top.id ≡ id_in h.waiting.request) where
  abbrev now : List Packet
  now = Tell teller name told ∷ received_before

  tellers_now : (other : ℕ) → (with_node h.tellers teller other ≡ true) ↔ HasTold now name other
  tellers_now other =
      Decides-like (with_node h.tellers teller other)
      (λ p. elim p [
        | inl before ↦ let has = (is.tellers other).0 before in record { told = has.told; heard = inr has.heard }
        | inr same ↦ record { told = told; heard = inl (λ i. Tell (same i) name told) }
      ])
      (λ has. elim has.heard [
        | inl same ↦ inr (cc)
        | inr before ↦ inl ((is.tellers other).1 (record { told = has.told; heard = before }))
      ])
      (Decides-or (h.tellers other) (other == teller) ((λ x. x), (λ x. x)) (Decides-eqb other teller))

  told_before : (from : ℕ) (top : TopVote) → In (Tell from name (Some top)) now → (told ≡ Some top) ⊎ In (Tell from name (Some top)) received_before
  told_before from top (inl same) = inl (cc)
  told_before from top (inr before) = inr before

  below_itself : (one other : TopVote) → one ≡ other → IsBelow one other
  below_itself one other same =
      let places : one.place ≡ other.place = ap (λ (t : TopVote). t.place) same in
      let ballots : one.vote.ballot ≡ other.vote.ballot = ap (λ (t : TopVote). t.vote.ballot) same in
      inr (places, omega arith)

  below_through : (one middle top : TopVote) → IsBelow one middle →
      (middle.place < top.place) ⊎ ((middle.place ≡ top.place) × (middle.vote.ballot < top.vote.ballot)) → IsBelow one top
  below_through one middle top (inl below) (inl above) = inl (omega arith)
  below_through one middle top (inl below) (inr at) = let same = at.0 in inl (omega arith)
  below_through one middle top (inr same) (inl above) = let places = same.0 in inl (omega arith)
  below_through one middle top (inr same) (inr at) = let ballots = same.1 in let above = at.1 in inr (same.0 ∙ at.0, omega arith)

  not_above : (new old : TopVote) → ((old.place < new.place) ⊎ ((old.place ≡ new.place) × (old.vote.ballot < new.vote.ballot)) → ⊥) → IsBelow new old
  not_above new old none = elim (cases_lt old.place new.place) [
    | inl above ↦ absurd (none (inl above))
    | inr from ↦ elim (cases_lt new.place old.place) [
      | inl below ↦ inl below
      | inr most ↦
          let same : new.place ≡ old.place = omega arith in
          elim (cases_lt old.vote.ballot new.vote.ballot) [ inl higher ↦ absurd (none (inr (sym same, higher))) | inr lower ↦ inr (same, lower) ]
    ]
  ]

  top_now : (top it : Option TopVote) → it ≡ told → IsHighestTold received_before name top → IsHighestTold now name (higher_top top it)
  top_now None None same none = λ from other heard. elim (told_before from other heard) [
    | inl here ↦ let both : None ≡ Some other = same ∙ here in absurd (cc)
    | inr before ↦ none from other before
  ]
  top_now (Some top) None same highest = record {
    told = (highest.told.0, inr highest.told.1);
    highest = λ from other heard. elim (told_before from other heard) [
      | inl here ↦ let both : None ≡ Some other = same ∙ here in absurd (cc)
      | inr before ↦ highest.highest from other before
    ];
  }
  top_now None (Some new) same none = record {
    told = (teller, inl (λ i. Tell teller name (same i)));
    highest = λ from other heard. elim (told_before from other heard) [
      | inl here ↦ let both : Some new ≡ Some other = same ∙ here in let one : other ≡ new = cc in below_itself other new one
      | inr before ↦ absurd (none from other before)
    ];
  }
  top_now (Some old) (Some new) same highest = by_test (is_higher new old) refl
    where
      by_test : (test : Bool) → is_higher new old ≡ test → IsHighestTold now name (if test then Some new else Some old)
      by_test true above = record {
        told = (teller, inl (λ i. Tell teller name (same i)));
        highest = λ from other heard. elim (told_before from other heard) [
          | inl here ↦ let both : Some new ≡ Some other = same ∙ here in let one : other ≡ new = cc in below_itself other new one
          | inr before ↦ below_through other old new (highest.highest from other before) ((higher_decides new old).0 above)
        ];
      }
      by_test false not_so = record {
        told = (highest.told.0, inr highest.told.1);
        highest = λ from other heard. elim (told_before from other heard) [
          | inl here ↦
              let both : Some new ≡ Some other = same ∙ here in
              let one : new ≡ other = cc in
              subst (λ (x : TopVote). IsBelow x old) one (not_above new old (λ holds. true≢false (sym ((higher_decides new old).1 holds) ∙ not_so)))
          | inr before ↦ highest.highest from other before
        ];
      }

  pub told_now : IsHeld now name (told_by h teller told)
  told_now = record {
    tellers = tellers_now;
    top = top_now h.top told refl is.top;
    about = λ from top heard. elim (told_before from top heard) [ inl here ↦ about top here | inr before ↦ is.about from top before ];
  }

-- of questions of another name nothing is told
pub told_other : (before : List Packet) (name other : Name) (teller : ℕ) (told : Option TopVote) (h : Held) → (other ≡ name → ⊥) → IsHeld before other h →
    IsHeld (Tell teller name told ∷ before) other h
told_other before name other teller told h apart is = record {
  tellers = λ from. (
    λ passes. let has = (is.tellers from).0 passes in record { told = has.told; heard = inr has.heard },
    λ has. (is.tellers from).1 (record { told = has.told; heard = earlier from has.told has.heard }),
  );
  top = top_still h.top is.top;
  about = λ from top heard. is.about from top (earlier from (Some top) heard);
}
  where
    earlier : (from : ℕ) (it : Option TopVote) → In (Tell from other it) (Tell teller name told ∷ before) → In (Tell from other it) before
    earlier from it (inl same) = let names : other ≡ name = cc in absurd (apart names)
    earlier from it (inr heard) = heard

    top_still : (top : Option TopVote) → IsHighestTold before other top → IsHighestTold (Tell teller name told ∷ before) other top
    top_still None none = λ from it heard. none from it (earlier from (Some it) heard)
    top_still (Some top) highest = record {
      told = (highest.told.0, inr highest.told.1);
      highest = λ from it heard. highest.highest from it (earlier from (Some it) heard);
    }

-- ---- what is kept agrees, if these requests are kept

pub agrees_told : (setup : Setup) (k : Kept) (s : Node) (teller : ℕ) (name : Name) (told : Option TopVote) (held : List Held) → Agrees setup k s →
    IsFit setup.node s.actor (Tell teller name told) → map (λ h. h.waiting) held ≡ s.actor.waiting →
    ((h : Held) → In h held → IsHeld (Tell teller name told ∷ s.actor.received) (name_of setup.node s.actor h.waiting) h) →
    IsStrictlyIncreasing (map ticket_of held) → ((h : Held) → In h held → ticket_of h < k.ticket) →
    Agrees setup (record k { held = held }) (received s (Tell teller name told))
agrees_told setup k s teller name told held agrees fits waiting heard rises given = record {
  up = agrees.up;
  incarnation = agrees.incarnation;
  clock = agrees.clock;
  serial = agrees.serial;
  ticket = agrees.ticket;
  records = agrees.records;
  message = λ id. message_heard setup s (Tell teller name told) id (message_at k id) (record {
    votes = λ voter place vote same. absurd (cc);
    promises = λ slot ballot about acceptor report same. absurd (cc);
    refusals = λ slot ballot sender promised about same. absurd (cc);
  }) (agrees.message id);
  waiting = waiting;
  told = heard;
  tickets = rises;
  given = given;
  listed = agrees.listed;
  ascends = agrees.ascends;
  placed = agrees.placed;
  voted = λ slot vote voted. stands_heard setup s (Tell teller name told) slot vote.chain (agrees.voted slot vote voted);
  coherent = coherent_heard setup.node s.actor (Tell teller name told) fits agrees.coherent;
}

-- ---- one request in the place of that of its ticket

pub waiting_with : (held : List Held) (new : Held) → ((g : Held) → In g held → ticket_of g ≡ ticket_of new → g.waiting ≡ new.waiting) →
    map (λ h. h.waiting) (with_held held new) ≡ map (λ h. h.waiting) held
waiting_with [] new same = refl
waiting_with (g ∷ others) new same = λ i. by_ticket (ticket_of g == ticket_of new) refl i ∷ waiting_with others new (λ it among. same it (inr among)) i
  where
    by_ticket : (test : Bool) → (ticket_of g == ticket_of new) ≡ test → (if test then new else g).waiting ≡ g.waiting
    by_ticket true is = sym (same g (inl refl) (eqb-true (ticket_of g) (ticket_of new) is))
    by_ticket false differs = refl

pub tickets_with : (held : List Held) (new : Held) → map ticket_of (with_held held new) ≡ map ticket_of held
tickets_with [] new = refl
tickets_with (g ∷ others) new = λ i. by_ticket (ticket_of g == ticket_of new) refl i ∷ tickets_with others new i
  where
    by_ticket : (test : Bool) → (ticket_of g == ticket_of new) ≡ test → ticket_of (if test then new else g) ≡ ticket_of g
    by_ticket true is = sym (eqb-true (ticket_of g) (ticket_of new) is)
    by_ticket false differs = refl

-- it is the new one, or one of another ticket
pub in_with : (held : List Held) (new h : Held) → In h (with_held held new) → (h ≡ new) ⊎ (In h held × (ticket_of h ≡ ticket_of new → ⊥))
in_with [] new h none = absurd none
in_with (g ∷ others) new h (inr later) = elim (in_with others new h later) [ inl same ↦ inl same | inr other ↦ inr (inr other.0, other.1) ]
in_with (g ∷ others) new h (inl first) = by_ticket (ticket_of g == ticket_of new) refl first
  where
    by_ticket : (test : Bool) → (ticket_of g == ticket_of new) ≡ test → h ≡ (if test then new else g) →
        (h ≡ new) ⊎ (In h (g ∷ others) × (ticket_of h ≡ ticket_of new → ⊥))
    by_ticket true is same = inl same
    by_ticket false differs same = inr (inl same, λ tickets. eqb-false (ticket_of g) (ticket_of new) differs (ap ticket_of (sym same) ∙ tickets))

pub with_in : (held : List Held) (new g : Held) → In g held → ticket_of g ≡ ticket_of new → In new (with_held held new)
with_in [] new g none same = absurd none
with_in (first ∷ others) new g (inr later) same = inr (with_in others new g later same)
with_in (first ∷ others) new g (inl is) same = inl (by_ticket (ticket_of first == ticket_of new) refl)
  where
    by_ticket : (test : Bool) → (ticket_of first == ticket_of new) ≡ test → new ≡ (if test then new else first)
    by_ticket true is = refl
    by_ticket false differs = absurd (eqb-false (ticket_of first) (ticket_of new) differs (ap ticket_of (sym is) ∙ same))
