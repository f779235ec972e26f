-- Promises, counted one after another.
use Rattle.std.proofs.Common.{◌≡◌, ◌↔◌, ℕ, ◌*◌, Bool, true, false, cond, List, ◌∷◌, Option, Some, None, refl, sym, ap, inl, inr, arith}
use Rattle.std.specs.Prelude.{◌==◌, nat_lt}
use Rattle.std.proofs.lemmas.Bool.Decides.{Decides-ltb}
use Rattle.std.proofs.lemmas.Bool.{eq-eqb, eqb-true, ltb-true, ltb-false, or_cases, or_left, or_right}
use Rattle.mc_model.specs.synod.Lists.{In}
use Rattle.mc_model.specs.synod.Majority.{count}
use Rattle.mc_model.specs.synod.OneSlot.{Vote}
use Rattle.mc_model.specs.synod.Packet.{Packet, Promise, Slot}
use Rattle.mc_parts.proofs.Majorities.{counted, majority_counts}
use Rattle.node_model.specs.Message.{Round}
use Rattle.node_model.specs.Proposer.{higher_of, promised_by}
use Rattle.node_model.specs.Sets.{is_majority, with_node}
use Rattle.synod_proposer.specs.Promises.{CountsPromises, HasPromised, IsHighestReport, IsHighestVote, IsPromisedBy}

-- ---- the highest vote

-- what one more promise reports is what a packet with it reports
reported : (acceptor node ballot : ℕ) (slot : Slot) (report : Option Vote) (vote : Vote) →
    Promise node slot ballot (Some vote) ≡ Promise acceptor slot ballot report →
    report ≡ Some vote
reported acceptor node ballot slot report vote same = let votes : Some vote ≡ report = cc in sym votes

highest_of : (received : List Packet) (slot : Slot) (ballot acceptor : ℕ) (top vote : Vote) (test : Bool) →
    nat_lt top.ballot vote.ballot ≡ test → IsHighestVote received slot ballot top →
    IsHighestReport (Promise acceptor slot ballot (Some vote) ∷ received) slot ballot (cond test (Some vote) (Some top))
highest_of received slot ballot acceptor top vote true above is = record {
  reported = (acceptor, inl refl);
  highest = λ node cast is_in. elim is_in [
    | inl same ↦ let votes : Some vote ≡ Some cast = reported acceptor node ballot slot (Some vote) cast same in let equal : vote ≡ cast =
        cc in let ballots : vote.ballot ≡ cast.ballot = ap (λ (v : Vote). v.ballot) equal in omega arith
    | inr before ↦ let lower = is.highest node cast before in let higher = ltb-true top.ballot vote.ballot above in omega (arith, lower, higher)
  ];
}
highest_of received slot ballot acceptor top vote false below is = record {
  reported = (is.reported.0, inr is.reported.1);
  highest = λ node cast is_in. elim is_in [
    | inl same ↦ let votes : Some vote ≡ Some cast = reported acceptor node ballot slot (Some vote) cast same in let equal : vote ≡ cast =
        cc in let ballots : vote.ballot ≡ cast.ballot = ap (λ (v : Vote). v.ballot) equal in let lower =
        ltb-false top.ballot vote.ballot below in omega (arith, lower, ballots)
    | inr before ↦ is.highest node cast before
  ];
}

highest_more : (received : List Packet) (slot : Slot) (ballot acceptor : ℕ) (top report : Option Vote) →
    IsHighestReport received slot ballot top →
    IsHighestReport (Promise acceptor slot ballot report ∷ received) slot ballot (higher_of top report)
highest_more received slot ballot acceptor None None is = λ node cast is_in. elim is_in [
  | inl same ↦ let none = reported acceptor node ballot slot None cast same in absurd (cc)
  | inr before ↦ is node cast before
]
highest_more received slot ballot acceptor (Some top) None is = record {
  reported = (is.reported.0, inr is.reported.1);
  highest = λ node cast is_in. elim is_in [
    | inl same ↦ let none = reported acceptor node ballot slot None cast same in absurd (cc)
    | inr before ↦ is.highest node cast before
  ];
}
highest_more received slot ballot acceptor None (Some vote) is = record {
  reported = (acceptor, inl refl);
  highest = λ node cast is_in. elim is_in [
    | inl same ↦ let votes : Some vote ≡ Some cast = reported acceptor node ballot slot (Some vote) cast same in let equal : vote ≡ cast =
        cc in let ballots : vote.ballot ≡ cast.ballot = ap (λ (v : Vote). v.ballot) equal in omega arith
    | inr before ↦ absurd (is node cast before)
  ];
}
highest_more received slot ballot acceptor (Some top) (Some vote) is = highest_of received slot ballot acceptor top vote (nat_lt top.ballot vote.ballot) refl is

-- ---- who promised

promised_more : (old : ℕ → Bool) (received : List Packet) (slot : Slot) (ballot acceptor : ℕ) (report : Option Vote) →
    ((node : ℕ) → (old node ≡ true) ↔ HasPromised received slot ballot node) → (node : ℕ) →
    (with_node old acceptor node ≡ true) ↔ HasPromised (Promise acceptor slot ballot report ∷ received) slot ballot node
promised_more old received slot ballot acceptor report are node = (
  λ has_it. elim (or_cases (old node) (node == acceptor) has_it) [
    | inl was ↦ let had = (are node).0 was in (had.0, inr had.1)
    | inr same ↦ let is = eqb-true node acceptor same in (report, inl (λ i. Promise (is i) slot ballot report))
  ],
  λ promised. from promised,
)
  where
    by_packet : (told : Option Vote) → In (Promise node slot ballot told) (Promise acceptor slot ballot report ∷ received) → with_node old acceptor node ≡ true
    by_packet told (inl same) = let nodes : node ≡ acceptor = cc in or_right (old node) (node == acceptor) (eq-eqb node acceptor nodes)
    by_packet told (inr before) = or_left (old node) (node == acceptor) ((are node).1 (told, before))

    from : HasPromised (Promise acceptor slot ballot report ∷ received) slot ballot node → with_node old acceptor node ≡ true
    from promised = by_packet promised.0 promised.1

pub counted_more : (r : Round) (received : List Packet) (acceptor : ℕ) (report : Option Vote) → CountsPromises r received →
    CountsPromises (promised_by r acceptor report) (Promise acceptor r.slot r.ballot report ∷ received)
counted_more r received acceptor report before = record {
  promised = promised_more r.promised received r.slot r.ballot acceptor report before.promised;
  highest = highest_more received r.slot r.ballot acceptor r.highest report before.highest;
}

-- ---- a majority

pub majority_promised : (nodes : ℕ) (r : Round) (received : List Packet) → CountsPromises r received →
    (is_majority nodes r.promised ≡ true) ↔ IsPromisedBy nodes received r.slot r.ballot
majority_promised nodes r received counts = (
  λ most. majority_counts nodes (HasPromised received r.slot r.ballot) r.promised
      (λ node least within passes. (counts.promised node).0 passes) ((Decides-ltb nodes (2 * count r.promised nodes)).0 most),
  λ majority. (Decides-ltb nodes (2 * count r.promised nodes)).1
      (counted nodes (HasPromised received r.slot r.ballot) r.promised (λ node least within promised. (counts.promised node).1 promised) majority),
)
