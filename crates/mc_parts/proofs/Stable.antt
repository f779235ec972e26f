-- Once a chain is chosen at a ballot, what is proposed from that ballot on carries it.
use Rattle.std.proofs.Common.{◌≡◌, ◌⊎◌, ℕ, zero, suc, ◌<◌, ◌≤◌, Option, Some, None, subst, ◌∙◌, arith, inl, inr}
use Rattle.std.proofs.lemmas.Bool.{cases_lt}
use Rattle.mc_model.specs.synod.OneSlot.{Vote, vote_at, IsChosen, Reaches, IsWithin, IsOfHighest, ReportsWithin, IsSound}
use Rattle.mc_parts.proofs.Majorities.{Both, both}

at_or_after : (a b : ℕ) → a ≤ b → (b ≡ a) ⊎ (a < b)
at_or_after a b le = elim (cases_lt a b) [ inl lt ↦ inr lt | inr ge ↦ inl (omega arith) ]

-- a report of a vote from a ballot on makes the highest report one from that ballot on
above : (ballot : ℕ) (highest report : Option Vote) → Reaches report ballot → IsWithin highest report → Reaches highest ballot
above ballot highest None tells within = absurd tells
above ballot None (Some vote) tells within = absurd within
above ballot (Some top) (Some vote) tells within = omega arith

-- the node that both majorities share makes the highest report one of a vote from the chosen ballot on
met : (nodes : ℕ) (Voted : ℕ → Vote → Type 0) (Promised : ℕ → ℕ → Option Vote → Type 0) (Proposed : Vote → Type 0) →
    IsSound nodes Voted Promised Proposed → (chosen vote : Vote) → chosen.ballot < vote.ballot → (highest : Option Vote) →
    Both nodes (λ acceptor. Voted acceptor chosen) (ReportsWithin (λ acceptor report. Promised acceptor vote.ballot report) highest) →
    Reaches highest chosen.ballot
met nodes Voted Promised Proposed sound chosen vote below highest shared =
    above chosen.ballot highest shared.other.report
    (sound.kept shared.node vote.ballot shared.other.report chosen shared.other.made shared.one below) shared.other.within

-- the highest vote that was reported is one from the chosen ballot on, and below the proposal's
carried : (nodes : ℕ) (Voted : ℕ → Vote → Type 0) (Promised : ℕ → ℕ → Option Vote → Type 0) (Proposed : Vote → Type 0) →
    IsSound nodes Voted Promised Proposed → (chosen vote : Vote) → (highest : Option Vote) → Reaches highest chosen.ballot →
    IsOfHighest (λ acceptor report. Promised acceptor vote.ballot report) vote.chain highest →
    ((top : Vote) → top.ballot < vote.ballot → Proposed top → chosen.ballot ≤ top.ballot → top.chain ≡ chosen.chain) →
    vote.chain ≡ chosen.chain
carried nodes Voted Promised Proposed sound chosen vote None tells is_of before = absurd tells
carried nodes Voted Promised Proposed sound chosen vote (Some top) tells is_of before =
    let made = sound.honest is_of.1.0 vote.ballot top is_of.1.1 in
    is_of.0 ∙ before top made.1 (sound.proposed is_of.1.0 top made.0) tells

-- what was chosen was proposed
chosen_proposed : (nodes : ℕ) (Voted : ℕ → Vote → Type 0) (Promised : ℕ → ℕ → Option Vote → Type 0) (Proposed : Vote → Type 0) →
    IsSound nodes Voted Promised Proposed → (chosen : Vote) → IsChosen nodes Voted chosen →
    Proposed chosen
chosen_proposed nodes Voted Promised Proposed sound chosen is_chosen =
    let voter = both nodes _ _ is_chosen is_chosen in sound.proposed voter.node chosen voter.one

-- a proposal at the chosen ballot, or one above it whose reports are known, by the proposals below it
stable_at : (nodes : ℕ) (Voted : ℕ → Vote → Type 0) (Promised : ℕ → ℕ → Option Vote → Type 0) (Proposed : Vote → Type 0) →
    IsSound nodes Voted Promised Proposed → (chosen : Vote) → IsChosen nodes Voted chosen → (vote : Vote) → Proposed vote →
    ((top : Vote) → top.ballot < vote.ballot → Proposed top → chosen.ballot ≤ top.ballot → top.chain ≡ chosen.chain) →
    (vote.ballot ≡ chosen.ballot) ⊎ (chosen.ballot < vote.ballot) →
    vote.chain ≡ chosen.chain
stable_at nodes Voted Promised Proposed sound chosen is_chosen vote is_proposed before (inl same) =
    sound.single chosen.ballot vote.chain chosen.chain (subst (λ (ballot : ℕ). Proposed (vote_at ballot vote.chain)) same is_proposed)
    (chosen_proposed nodes Voted Promised Proposed sound chosen is_chosen)
stable_at nodes Voted Promised Proposed sound chosen is_chosen vote is_proposed before (inr later) =
    let justified = sound.justified vote is_proposed in
    let shared = both nodes (λ acceptor. Voted acceptor chosen)
    (ReportsWithin (λ acceptor report. Promised acceptor vote.ballot report) justified.highest) is_chosen justified.majority in
    carried nodes Voted Promised Proposed sound chosen vote justified.highest
    (met nodes Voted Promised Proposed sound chosen vote later justified.highest shared) justified.carried before

stable_below : (nodes : ℕ) (Voted : ℕ → Vote → Type 0) (Promised : ℕ → ℕ → Option Vote → Type 0) (Proposed : Vote → Type 0) →
    IsSound nodes Voted Promised Proposed → (chosen : Vote) → IsChosen nodes Voted chosen → (bound : ℕ) (vote : Vote) →
    vote.ballot < bound → Proposed vote → chosen.ballot ≤ vote.ballot →
    vote.chain ≡ chosen.chain
stable_below nodes Voted Promised Proposed sound chosen is_chosen zero vote below is_proposed from = absurd (omega (arith, below))
stable_below nodes Voted Promised Proposed sound chosen is_chosen (suc bound) vote below is_proposed from =
    stable_at nodes Voted Promised Proposed sound chosen is_chosen vote is_proposed
    (λ top lower. stable_below nodes Voted Promised Proposed sound chosen is_chosen bound top (omega (arith, lower, below)))
    (at_or_after chosen.ballot vote.ballot from)

-- what was proposed from the chosen ballot on carries what was chosen
pub stable : (nodes : ℕ) (Voted : ℕ → Vote → Type 0) (Promised : ℕ → ℕ → Option Vote → Type 0) (Proposed : Vote → Type 0) →
    IsSound nodes Voted Promised Proposed → (chosen : Vote) → IsChosen nodes Voted chosen → (vote : Vote) → Proposed vote →
    chosen.ballot ≤ vote.ballot →
    vote.chain ≡ chosen.chain
stable nodes Voted Promised Proposed sound chosen is_chosen vote =
    stable_below nodes Voted Promised Proposed sound chosen is_chosen (suc vote.ballot) vote (omega arith)
