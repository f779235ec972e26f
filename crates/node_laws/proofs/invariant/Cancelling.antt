-- Whether a settled cancel_sm of a message waits.
use Rattle.std.proofs.Common.{◌≡◌, ℕ, Bool, true, List, [], ◌∷◌, map, refl, sym, ap, subst, ◌∙◌, inl, inr}
use Rattle.std.specs.Prelude.{◌||◌}
use Rattle.std.specs.Bool.{Decides}
use Rattle.std.specs.List.{list_any}
use Rattle.std.proofs.lemmas.Bool.{or_cases, or_right, true≢false}
use Rattle.std.proofs.lemmas.Bool.Decides.{Decides-and, Decides-eqb, Decides-like, Decides-or}
use Rattle.std.proofs.lemmas.Slice.Eq.{bytes_eq-Decides}
use Rattle.mc_model.specs.message.Submission.{Submission}
use Rattle.mc_model.specs.synod.Lists.{In}
use Rattle.mc_model.specs.node.Actor.{Actor, Cancel, Query, Request, Submit, Waiting}
use Rattle.mc_model.specs.node.Proposal.{Cancels, IsCancelled, IsMatch, IsOwner}
use Rattle.node_model.specs.Kept.{Held}
use Rattle.node_model.specs.Answers.{is_match, is_owner}
use Rattle.node_model.specs.Starts.{cancels, matches}
use Rattle.node_laws.proofs.invariant.Held.{kept_as, waits_among}

pub owner_decides : (taken : Submission) (account source : List ℕ) → Decides (is_owner taken account source) (IsOwner taken account source)
owner_decides taken account source = Decides-like (is_owner taken account source)
    (λ p. record { same_account = p.0; same_source = p.1 })
    (λ owner. (owner.same_account, owner.same_source))
    (Decides-and _ _ (bytes_eq-Decides taken.submitter account) (bytes_eq-Decides taken.source.digits source))

pub match_decides : (taken : Submission) (account source destination : List ℕ) →
    Decides (is_match taken account source destination) (IsMatch taken account source destination)
match_decides taken account source destination = Decides-like (is_match taken account source destination)
    (λ p. record { owner = p.0; same_destination = p.1 })
    (λ it. (it.owner, it.same_destination))
    (Decides-and _ _ (owner_decides taken account source)
    (Decides-or _ _ (bytes_eq-Decides destination []) (bytes_eq-Decides taken.destination.digits destination)))

matches_decides : (request : Request) (id : ℕ) (taken : Submission) → Decides (matches request id taken) (Cancels request id taken)
matches_decides (Submit other message) id taken = ((λ t. absurd (true≢false (sym t))), (λ none. absurd none))
matches_decides (Query other account source) id taken = ((λ t. absurd (true≢false (sym t))), (λ none. absurd none))
matches_decides (Cancel other account source destination) id taken = Decides-and _ _ (Decides-eqb other id) (match_decides taken account source destination)

-- ---- among the requests that are kept

record PassesAmong (test : Held → Bool) (held : List Held) : Type 0 where
  request : Held
  among : In request held
  passes : test request ≡ true

passes_among : (test : Held → Bool) (held : List Held) → list_any test held ≡ true → PassesAmong test held
passes_among test [] any = absurd (true≢false (sym any))
passes_among test (h ∷ others) any = elim (or_cases (test h) (list_any test others) any) [
  | inl passes ↦ record { request = h; among = inl refl; passes = passes }
  | inr later ↦ let it = passes_among test others later in record { request = it.request; among = inr it.among; passes = it.passes }
]

any_passes : (test : Held → Bool) (held : List Held) (h : Held) → In h held → test h ≡ true → list_any test held ≡ true
any_passes test [] h among passes = absurd among
any_passes test (first ∷ others) h (inl same) passes = ap (λ (b : Bool). b || list_any test others) (ap test (sym same) ∙ passes)
any_passes test (first ∷ others) h (inr later) passes = or_right (test first) (list_any test others) (any_passes test others h later passes)

module _ (a : Actor) (held : List Held) (waiting : map (λ h. h.waiting) held ≡ a.waiting) (id : ℕ) (taken : Submission) where
  cancels_decides : (h : Held) → Decides (cancels id taken h) ((h.waiting.settled ≡ true) × Cancels h.waiting.request id taken)
  cancels_decides h = Decides-and _ _ ((λ t. t), (λ t. t)) (matches_decides h.waiting.request id taken)

  pub cancelled_decides : Decides (list_any (cancels id taken) held) (IsCancelled a id taken)
  cancelled_decides = (found, missed)
    where
      found : list_any (cancels id taken) held ≡ true → IsCancelled a id taken
      found any =
          let it = passes_among (cancels id taken) held any in
          let holds = (cancels_decides it.request).0 it.passes in
          record {
            waiting = it.request.waiting;
            waits = subst (λ (ws : List Waiting). In it.request.waiting ws) waiting (waits_among held it.request it.among);
            settled = holds.0;
            cancels = holds.1;
          }

      missed : IsCancelled a id taken → list_any (cancels id taken) held ≡ true
      missed it =
          let kept = kept_as held it.waiting (subst (λ (ws : List Waiting). In it.waiting ws) (sym waiting) it.waits) in
          any_passes (cancels id taken) held kept.request kept.among ((cancels_decides kept.request).1 (
            ap (λ (w : Waiting). w.settled) kept.same ∙ it.settled,
            subst (λ (w : Waiting). Cancels w.request id taken) (sym kept.same) it.cancels,
          ))
