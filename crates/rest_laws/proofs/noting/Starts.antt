-- Which chains start no round as they become known.
use Rattle.std.proofs.Common.{◌≡◌, ℕ, true, List, [], ◌∷◌, Option, Some, None, refl, ◌∙◌}
use Rattle.std.proofs.lemmas.Bool.{not-true}
use Rattle.std.specs.Option.{option_or}
use Rattle.mc_model.specs.message.Submission.{Submission}
use Rattle.mc_model.specs.message.Decree.{Attempt, Author, Decree, Failed, Fate, Kind, Taken, Told}
use Rattle.mc_model.specs.message.Chain.{taken_in}
use Rattle.mc_model.specs.node.Setup.{Setup}
use Rattle.node_model.specs.Answers.{is_asked}
use Rattle.node_model.specs.Kept.{Kept}
use Rattle.node_model.specs.Packets.{start_known}
use Rattle.node_model.specs.Starts.{delete_for, delete_of, tell_for, tell_of}
use Rattle.rest_laws.specs.AtRest.{is_last, is_over}
use Rattle.rest_laws.proofs.without.Resting.{decree, fate_stays, not_announced, told_stays}
use Rattle.rest_laws.specs.Notes.{waits, StartsNoRound}

-- ---- a chain that is over starts no round as it becomes known

starts_none_of : (setup : Setup) (k : Kept) (id : ℕ) (author : Author) (moment : ℕ) (kind : Kind) (older : List Decree) →
    is_last (taken_in (decree author moment kind ∷ older)) kind ≡ true →
    start_known setup k id None (decree author moment kind ∷ older) ≡ None
starts_none_of setup k id author moment (Taken message) older over = absurd (cc)
starts_none_of setup k id author moment (Attempt number) older over = absurd (cc)
starts_none_of setup k id author moment (Failed error) older over = absurd (cc)
starts_none_of setup k id author moment (Fate final error) older over = by (taken_in (decree author moment (Fate final error) ∷ older)) refl over
  where
    by : (taken : Option Submission) → taken_in (decree author moment (Fate final error) ∷ older) ≡ taken → is_last taken (Fate final error) ≡ true →
        start_known setup k id None (decree author moment (Fate final error) ∷ older) ≡ None
    by None is last = absurd (cc)
    by (Some taken) is last =
        let d = fate_stays setup k id k.held author moment final error older (taken_in (decree author moment (Fate final error) ∷ older)) in
        let a = not_announced setup k taken author moment final error older (not-true (is_asked final taken) last) in
        let t : tell_for setup k None (decree author moment (Fate final error) ∷ older) ≡ None =
        (λ i. tell_of setup k (decree author moment (Fate final error)) older (is i)) ∙ a in
        λ i. option_or (d i) (t i)
starts_none_of setup k id author moment Told older over =
    let d = told_stays setup k id k.held author moment older (taken_in (decree author moment Told ∷ older)) in
    let t : tell_for setup k None (decree author moment Told ∷ older) ≡ None =
    told_again (taken_in (decree author moment Told ∷ older)) in
    λ i. option_or (d i) (t i)
  where
    told_again : (taken : Option Submission) → tell_of setup k (decree author moment Told) older taken ≡ None
    told_again None = refl
    told_again (Some taken) = refl

-- so does one that waits or is attempted
waits_of : (setup : Setup) (k : Kept) (id : ℕ) (author : Author) (moment : ℕ) (kind : Kind) (older : List Decree) → k.held ≡ [] →
    waits kind ≡ true → start_known setup k id None (decree author moment kind ∷ older) ≡ None
waits_of setup k id author moment kind older none is =
    (λ i. option_or (delete_for setup k id (none i) (Some (decree author moment kind ∷ older))) (tell_for setup k None (decree author moment kind ∷ older)))
    ∙ by kind is (taken_in (decree author moment kind ∷ older))
  where
    by : (kind : Kind) → waits kind ≡ true → (taken : Option Submission) →
        option_or (delete_of setup k id [] (decree author moment kind) older taken) (tell_of setup k (decree author moment kind) older taken) ≡ None
    by (Taken message) is None = refl
    by (Taken message) is (Some taken) = refl
    by (Attempt number) is None = refl
    by (Attempt number) is (Some taken) = refl
    by (Failed error) is None = refl
    by (Failed error) is (Some taken) = refl
    by (Fate final error) is taken = absurd (cc)
    by Told is taken = absurd (cc)

pub starts_none : (setup : Setup) (id : ℕ) (chain : List Decree) → is_over chain ≡ true → StartsNoRound setup id chain
starts_none setup id [] over = absurd (cc)
starts_none setup id (newest ∷ older) over = λ k none. starts_none_of setup k id newest.author newest.moment newest.kind older over

pub waiting_starts_none : (setup : Setup) (id : ℕ) (newest : Decree) (older : List Decree) → waits newest.kind ≡ true →
    StartsNoRound setup id (newest ∷ older)
waiting_starts_none setup id newest older is = λ k none. waits_of setup k id newest.author newest.moment newest.kind older none is
