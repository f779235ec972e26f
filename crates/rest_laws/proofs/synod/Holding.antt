-- What always holds in the miniature.
use Rattle.std.proofs.Common.{◌≡◌, ℕ, ◌<◌, ◌≤◌, Bool, true, false, List, [], ◌∷◌, Option, Some, None, refl, sym, subst, ap, ◌∙◌, arith, inl, inr}
use Rattle.std.specs.Prelude.{◌==◌, if◌then◌else◌}
use Rattle.std.proofs.lemmas.Bool.{cases_lt, eq-eqb, eqb-true}
use Rattle.mc_model.specs.message.Decree.{Decree}
use Rattle.mc_model.specs.synod.Lists.{In}
use Rattle.mc_model.specs.synod.Majority.{Majority}
use Rattle.mc_model.specs.synod.OneSlot.{IsChosen, IsJustified, IsOfHighest, KeepsTheSynod, Reaches, SlotPromise, Vote, vote_at, was_promised, was_proposed, was_voted}
use Rattle.mc_parts.proofs.Majorities.{both}
use Rattle.mc_parts.proofs.Stable.{stable}
use Rattle.mc_model.specs.cluster.World.{changed}
use Rattle.rest_laws.specs.Miniature.{Act, Drops, AreActs, Learns, Needs, Notes, Promises, Proposes, Restarts, Store, Tells, Votes, Miniature, after, erased, promise_of, led_by, start}

-- a chain was chosen
pub record WasChosen (nodes : ℕ) (votes : List (ℕ × Vote)) (chain : List Decree) : Type 0 where
  pub vote : Vote
  pub chosen : Majority nodes (λ acceptor. In (acceptor, vote) votes)
  pub is : chain ≡ vote.chain

-- The record of an acceptor that did not drop it: nothing that it ever promised or voted is above it, and its vote was cast. Of one that dropped it nothing
-- is said, since it says nothing any more.
pub record IsKept (votes : List (ℕ × Vote)) (promises : List SlotPromise) (node : ℕ) (s : Store) : Type 0 where
  pub covers : (vote : Vote) → In (node, vote) votes → Reaches s.vote vote.ballot
  pub cast : (vote : Vote) → s.vote ≡ Some vote → In (node, vote) votes × (vote.ballot ≤ s.promised)
  pub above : (ballot : ℕ) (report : Option Vote) → In (record { acceptor = node; ballot = ballot; report = report }) promises → ballot ≤ s.promised

abbrev pub KeepsUnlessDropped : List (ℕ × Vote) → List SlotPromise → ℕ → Store → Type 0
KeepsUnlessDropped votes promises node s = s.dropped ≡ false → IsKept votes promises node s

abbrev pub KnowsChosen : ℕ → List (ℕ × Vote) → Option (List Decree) → Type 0
KnowsChosen nodes votes known = (chain : List Decree) → known ≡ Some chain → WasChosen nodes votes chain

pub record Holds (w : Miniature) : Type 0 where
  pub sound : KeepsTheSynod w.nodes w.past
  pub kept : (node : ℕ) → KeepsUnlessDropped w.past.votes w.past.promises node (w.stores node)
  pub known : (node : ℕ) → KnowsChosen w.nodes w.past.votes (w.stores node).known
  pub knows : (node : ℕ) → KnowsChosen w.nodes w.past.votes (w.knows node)
  pub told : (chain : List Decree) → In chain w.told → WasChosen w.nodes w.past.votes chain

-- ---- two chains that were chosen are the same

proposed_of : (w : Miniature) → KeepsTheSynod w.nodes w.past → (vote : Vote) → IsChosen w.nodes (was_voted w.past) vote → was_proposed w.past vote
proposed_of w sound vote chosen = let voter = both w.nodes _ _ chosen chosen in sound.proposed voter.node vote voter.one

later : (w : Miniature) → KeepsTheSynod w.nodes w.past → (one other : Vote) → IsChosen w.nodes (was_voted w.past) one →
    IsChosen w.nodes (was_voted w.past) other → one.ballot ≤ other.ballot → other.chain ≡ one.chain
later w sound one other first second from =
    stable w.nodes (was_voted w.past) (was_promised w.past) (was_proposed w.past) sound one first other (proposed_of w sound other second) from

pub agree : (w : Miniature) → KeepsTheSynod w.nodes w.past → (one other : List Decree) → WasChosen w.nodes w.past.votes one →
    WasChosen w.nodes w.past.votes other → one ≡ other
agree w sound one other a b = elim (cases_lt a.vote.ballot b.vote.ballot) [
  | inl lt ↦ a.is ∙ (sym (later w sound a.vote b.vote a.chosen b.chosen (omega (arith, lt))) ∙ sym b.is)
  | inr ge ↦ a.is ∙ (later w sound b.vote a.vote b.chosen a.chosen ge ∙ sym b.is)
]

-- ---- what is said of each node, where one of them changes

of_changed : {A : Type 0} (P : ℕ → A → Type 0) (things : ℕ → A) (node : ℕ) (new : A) → P node new →
    ((other : ℕ) → (other ≡ node → ⊥) → P other (things other)) → (other : ℕ) → P other (changed things node new other)
of_changed {A} P things node new here there other = split (other == node) refl
  where
    split : (b : Bool) → (other == node) ≡ b → P other (if b then new else things other)
    split true is = subst (λ (n : ℕ). P n new) (sym (eqb-true other node is)) here
    split false is = there other (λ same. let yes : (other == node) ≡ true = eq-eqb other node same in absurd (cc))

-- ---- more votes, more promises

more_carried : (R S : ℕ → Option Vote → Type 0) (chain : List Decree) (highest : Option Vote) →
    ((acceptor : ℕ) (report : Option Vote) → R acceptor report → S acceptor report) → IsOfHighest R chain highest → IsOfHighest S chain highest
more_carried R S chain None more carried = carried
more_carried R S chain (Some top) more carried = (carried.0, (carried.1.0, more carried.1.0 (Some top) carried.1.1))

more_justified : (nodes : ℕ) (R S : ℕ → Option Vote → Type 0) (chain : List Decree) →
    ((acceptor : ℕ) (report : Option Vote) → R acceptor report → S acceptor report) → IsJustified nodes R chain → IsJustified nodes S chain
more_justified nodes R S chain more j = record {
  highest = j.highest;
  majority = record {
    test = j.majority.test;
    most = j.majority.most;
    each = λ node least most passes.
        let one = j.majority.each node least most passes in
        record { report = one.report; made = more node one.report one.made; within = one.within };
  };
  carried = more_carried R S chain j.highest more j.carried;
}

more_chosen : (nodes : ℕ) (votes : List (ℕ × Vote)) (new : ℕ × Vote) (chain : List Decree) → WasChosen nodes votes chain →
    WasChosen nodes (new ∷ votes) chain
more_chosen nodes votes new chain c = record {
  vote = c.vote;
  chosen = record {
    test = c.chosen.test;
    most = c.chosen.most;
    each = λ node least most passes. inr (c.chosen.each node least most passes);
  };
  is = c.is;
}

-- a node that keeps the record of its votes has none above what it promised
below_promise : (votes : List (ℕ × Vote)) (promises : List SlotPromise) (node : ℕ) (s : Store) → IsKept votes promises node s →
    (vote : Vote) → In (node, vote) votes → vote.ballot ≤ s.promised
below_promise votes promises node s old vote voted = at s.vote refl
  where
    at : (r : Option Vote) → s.vote ≡ r → vote.ballot ≤ s.promised
    at None is = absurd (subst (λ (r : Option Vote). Reaches r vote.ballot) is (old.covers vote voted))
    at (Some top) is =
        let reach : vote.ballot ≤ top.ballot = subst (λ (r : Option Vote). Reaches r vote.ballot) is (old.covers vote voted) in
        let cast = old.cast top is in
        omega (arith, reach, cast.1)

-- ---- each act

promises_sound : (w : Miniature) (node ballot : ℕ) → Holds w → (w.stores node).dropped ≡ false → (w.stores node).promised < ballot →
    KeepsTheSynod w.nodes (after w (Promises node ballot)).past
promises_sound w node ballot h live below = record {
  proposed = h.sound.proposed;
  single = h.sound.single;
  kept = λ acceptor at report vote promised voted lt. elim promised [
    | inl same ↦
        let who : acceptor ≡ node = ap (λ (p : SlotPromise). p.acceptor) same in
        let what : report ≡ (w.stores node).vote = ap (λ (p : SlotPromise). p.report) same in
        subst (λ (r : Option Vote). Reaches r vote.ballot) (sym what)
        ((h.kept node live).covers vote (subst (λ (a : ℕ). In (a, vote) w.past.votes) who voted))
    | inr old ↦ h.sound.kept acceptor at report vote old voted lt
  ];
  honest = λ acceptor at vote promised. elim promised [
    | inl same ↦
        let who : acceptor ≡ node = ap (λ (p : SlotPromise). p.acceptor) same in
        let what : Some vote ≡ (w.stores node).vote = ap (λ (p : SlotPromise). p.report) same in
        let when : at ≡ ballot = ap (λ (p : SlotPromise). p.ballot) same in
        let cast = (h.kept node live).cast vote (sym what) in
        (subst (λ (a : ℕ). In (a, vote) w.past.votes) (sym who) cast.0, omega (arith, cast.1, below, when))
    | inr old ↦ h.sound.honest acceptor at vote old
  ];
  justified = λ vote proposed. more_justified w.nodes _ _ vote.chain (λ acceptor report made. inr made) (h.sound.justified vote proposed);
}

promises_kept : (w : Miniature) (node ballot : ℕ) → Holds w → (w.stores node).dropped ≡ false → (w.stores node).promised < ballot → (other : ℕ) →
    KeepsUnlessDropped w.past.votes (promise_of w node ballot ∷ w.past.promises) other ((after w (Promises node ballot)).stores other)
promises_kept w node ballot h live below =
    of_changed (KeepsUnlessDropped w.past.votes (promise_of w node ballot ∷ w.past.promises)) w.stores node _
    (λ still. let old = h.kept node live in record {
      covers = old.covers;
      cast = λ vote is. let cast = old.cast vote is in (cast.0, omega (arith, cast.1, below));
      above = λ at report promised. elim promised [
        | inl same ↦ let when : at ≡ ballot = ap (λ (p : SlotPromise). p.ballot) same in omega (arith, when)
        | inr before ↦ let le = old.above at report before in omega (arith, le, below)
      ];
    })
    (λ other apart still. let old = h.kept other still in record {
      covers = old.covers;
      cast = old.cast;
      above = λ at report promised. elim promised [
        | inl same ↦ absurd (apart (ap (λ (p : SlotPromise). p.acceptor) same))
        | inr before ↦ old.above at report before
      ];
    })

votes_sound : (w : Miniature) (node : ℕ) (vote : Vote) → Holds w → (w.stores node).dropped ≡ false → (w.stores node).promised ≤ vote.ballot →
    was_proposed w.past vote → KeepsTheSynod w.nodes (after w (Votes node vote)).past
votes_sound w node vote h live below proposed = record {
  proposed = λ acceptor other voted. elim voted [
    | inl same ↦ subst (λ (v : Vote). was_proposed w.past v) (sym (ap (λ (p : ℕ × Vote). p.1) same)) proposed
    | inr old ↦ h.sound.proposed acceptor other old
  ];
  single = h.sound.single;
  kept = λ acceptor at report other promised voted lt. elim voted [
    | inl same ↦
        let who : acceptor ≡ node = ap (λ (p : ℕ × Vote). p.0) same in
        let when : other.ballot ≡ vote.ballot = ap (λ (p : ℕ × Vote). p.1.ballot) same in
        let le = (h.kept node live).above at report
        (subst (λ (a : ℕ). In (record { acceptor = a; ballot = at; report = report }) w.past.promises) who promised) in
        absurd (omega (arith, le, below, lt, when))
    | inr old ↦ h.sound.kept acceptor at report other promised old lt
  ];
  honest = λ acceptor at other promised. let made = h.sound.honest acceptor at other promised in (inr made.0, made.1);
  justified = h.sound.justified;
}

votes_kept : (w : Miniature) (node : ℕ) (vote : Vote) → Holds w → (w.stores node).dropped ≡ false → (w.stores node).promised ≤ vote.ballot → (other : ℕ) →
    KeepsUnlessDropped ((node, vote) ∷ w.past.votes) w.past.promises other ((after w (Votes node vote)).stores other)
votes_kept w node vote h live below =
    of_changed (KeepsUnlessDropped ((node, vote) ∷ w.past.votes) w.past.promises) w.stores node _
    (λ still. let old = h.kept node live in record {
      covers = λ other voted. elim voted [
        | inl same ↦ let when : other.ballot ≡ vote.ballot = ap (λ (p : ℕ × Vote). p.1.ballot) same in omega (arith, when)
        | inr before ↦ let le = below_promise w.past.votes w.past.promises node (w.stores node) old other before in omega (arith, le, below)
      ];
      cast = λ other is.
          let same : vote ≡ other = cc in
          (inl (λ i. (node, sym same i)), let when : vote.ballot ≡ other.ballot = ap (λ (v : Vote). v.ballot) same in omega (arith, when));
      above = λ at report promised. let le = old.above at report promised in omega (arith, le, below);
    })
    (λ other apart still. let old = h.kept other still in record {
      covers = λ cast voted. elim voted [
        | inl same ↦ absurd (apart (ap (λ (p : ℕ × Vote). p.0) same))
        | inr before ↦ old.covers cast before
      ];
      cast = λ top is. let cast = old.cast top is in (inr cast.0, cast.1);
      above = old.above;
    })

proposes_single : (w : Miniature) (vote : Vote) → Holds w →
    ((other : List Decree) → was_proposed w.past (vote_at vote.ballot other) → other ≡ vote.chain) → (ballot : ℕ) (one other : List Decree) →
    In (vote_at ballot one) (vote ∷ w.past.proposals) → In (vote_at ballot other) (vote ∷ w.past.proposals) → one ≡ other
proposes_single w vote h fresh ballot one other (inl a) (inl b) = ap (λ (v : Vote). v.chain) (a ∙ sym b)
proposes_single w vote h fresh ballot one other (inl a) (inr b) =
    ap (λ (v : Vote). v.chain) a
    ∙ sym (fresh other (subst (λ (at : ℕ). was_proposed w.past (vote_at at other)) (ap (λ (v : Vote). v.ballot) a) b))
proposes_single w vote h fresh ballot one other (inr a) (inl b) =
    fresh one (subst (λ (at : ℕ). was_proposed w.past (vote_at at one)) (ap (λ (v : Vote). v.ballot) b) a)
    ∙ sym (ap (λ (v : Vote). v.chain) b)
proposes_single w vote h fresh ballot one other (inr a) (inr b) = h.sound.single ballot one other a b

proposes_sound : (w : Miniature) (vote : Vote) → Holds w → Needs true w (Proposes vote) → KeepsTheSynod w.nodes (after w (Proposes vote)).past
proposes_sound w vote h needs = record {
  proposed = λ acceptor other voted. inr (h.sound.proposed acceptor other voted);
  single = proposes_single w vote h needs.0;
  kept = h.sound.kept;
  honest = h.sound.honest;
  justified = λ other proposed. elim proposed [
    | inl same ↦
        subst (λ (v : Vote). IsJustified w.nodes (λ acceptor report. was_promised w.past acceptor v.ballot report) v.chain) (sym same) needs.1
    | inr old ↦ h.sound.justified other old
  ];
}

-- ---- all of them

pub step : (w : Miniature) (act : Act) → Holds w → Needs true w act → Holds (after w act)
step w (Promises node ballot) h needs = record {
  sound = promises_sound w node ballot h needs.0 needs.1;
  kept = promises_kept w node ballot h needs.0 needs.1;
  known = of_changed (λ (n : ℕ) (s : Store). KnowsChosen w.nodes w.past.votes s.known) w.stores node _ (h.known node) (λ other apart. h.known other);
  knows = h.knows;
  told = h.told;
}
step w (Votes node vote) h needs = record {
  sound = votes_sound w node vote h needs.0 needs.1 needs.2;
  kept = votes_kept w node vote h needs.0 needs.1;
  known = of_changed (λ (n : ℕ) (s : Store). KnowsChosen w.nodes ((node, vote) ∷ w.past.votes) s.known) w.stores node _
      (λ chain is. more_chosen w.nodes w.past.votes (node, vote) chain (h.known node chain is))
      (λ other apart chain is. more_chosen w.nodes w.past.votes (node, vote) chain (h.known other chain is));
  knows = λ other chain is. more_chosen w.nodes w.past.votes (node, vote) chain (h.knows other chain is);
  told = λ chain among. more_chosen w.nodes w.past.votes (node, vote) chain (h.told chain among);
}
step w (Proposes vote) h needs = record {
  sound = proposes_sound w vote h needs;
  kept = h.kept;
  known = h.known;
  knows = h.knows;
  told = h.told;
}
step w (Learns node vote) h needs = record {
  sound = h.sound;
  kept = h.kept;
  known = h.known;
  knows = of_changed (λ (n : ℕ) (known : Option (List Decree)). KnowsChosen w.nodes w.past.votes known) w.knows node (Some vote.chain)
      (λ chain is. record { vote = vote; chosen = needs; is = cc })
      (λ other apart. h.knows other);
  told = h.told;
}
step w (Notes node) h needs = record {
  sound = h.sound;
  kept = of_changed (KeepsUnlessDropped w.past.votes w.past.promises) w.stores node _
      (λ live. let old = h.kept node live in record { covers = old.covers; cast = old.cast; above = old.above })
      (λ other apart. h.kept other);
  known = of_changed (λ (n : ℕ) (s : Store). KnowsChosen w.nodes w.past.votes s.known) w.stores node _ (h.knows node) (λ other apart. h.known other);
  knows = h.knows;
  told = h.told;
}
step w (Tells node chain) h needs = record {
  sound = h.sound;
  kept = h.kept;
  known = h.known;
  knows = h.knows;
  told = λ other among. elim among [
    | inl same ↦ subst (WasChosen w.nodes w.past.votes) (sym same) (h.knows node chain needs)
    | inr old ↦ h.told other old
  ];
}
step w (Restarts node) h needs = record {
  sound = h.sound;
  kept = h.kept;
  known = h.known;
  knows = of_changed (λ (n : ℕ) (known : Option (List Decree)). KnowsChosen w.nodes w.past.votes known) w.knows node (w.stores node).known
      (h.known node) (λ other apart. h.knows other);
  told = h.told;
}
step w (Drops node) h needs = record {
  sound = h.sound;
  kept = of_changed (KeepsUnlessDropped w.past.votes w.past.promises) w.stores node erased
      (λ live. absurd (cc)) (λ other apart. h.kept other);
  known = of_changed (λ (n : ℕ) (s : Store). KnowsChosen w.nodes w.past.votes s.known) w.stores node erased
      (λ chain is. absurd (cc)) (λ other apart. h.known other);
  knows = of_changed (λ (n : ℕ) (known : Option (List Decree)). KnowsChosen w.nodes w.past.votes known) w.knows node None
      (λ chain is. absurd (cc)) (λ other apart. h.knows other);
  told = h.told;
}

begins : (nodes : ℕ) → Holds (start nodes)
begins nodes = record {
  sound = record {
    proposed = λ acceptor vote voted. absurd voted;
    single = λ ballot one other a b. absurd a;
    kept = λ acceptor ballot report vote promised voted lt. absurd voted;
    honest = λ acceptor ballot vote promised. absurd promised;
    justified = λ vote proposed. absurd proposed;
  };
  kept = λ node live. record {
    covers = λ vote voted. absurd voted;
    cast = λ vote is. absurd (cc);
    above = λ ballot report promised. absurd promised;
  };
  known = λ node chain is. absurd (cc);
  knows = λ node chain is. absurd (cc);
  told = λ chain among. absurd among;
}

pub holds : (nodes : ℕ) (acts : List Act) → AreActs true nodes acts → Holds (led_by nodes acts)
holds nodes [] run = begins nodes
holds nodes (newest ∷ older) run = step (led_by nodes older) newest (holds nodes older run.1) run.0

pub one_is_told : (nodes : ℕ) (acts : List Act) (one other : List Decree) → AreActs true nodes acts → In one (led_by nodes acts).told →
    In other (led_by nodes acts).told → one ≡ other
one_is_told nodes acts one other run first second =
    let h = holds nodes acts run in agree (led_by nodes acts) h.sound one other (h.told one first) (h.told other second)
