-- The first rule of a tick: a submit_sm waits, and its message is to be taken.
use Rattle.std.proofs.Common.{◌≡◌, ◌⊎◌, ℕ, Bool, true, false, List, [], ◌∷◌, map, None, refl, sym, ap, subst, ◌∙◌, inl, inr}
use Rattle.std.specs.Prelude.{◌==◌, if◌then◌else◌}
use Rattle.std.proofs.Common.{eqb-true}
use Rattle.std.proofs.lemmas.Bool.{eqb-false}
use Rattle.mc_model.specs.message.Submission.{Submission}
use Rattle.mc_model.specs.message.Decree.{Decree, Taken}
use Rattle.mc_model.specs.synod.Lists.{In}
use Rattle.mc_model.specs.node.Actor.{Actor, Cancel, Query, Request, Submit, Waiting, id_in}
use Rattle.mc_model.specs.node.Rules.{FitsTake}
use Rattle.mc_model.specs.node.Setup.{Setup}
use Rattle.node_model.specs.Kept.{Held, Kept}
use Rattle.node_model.specs.Starts.{take_for, taken_chain}
use Rattle.node_model.specs.Rules.{taken_for}
use Rattle.node_model.specs.Requests.{id_of}
use Rattle.node_laws.proofs.invariant.Held.{kept_as, waits_among}
use Rattle.node_laws.proofs.invariant.Decided.{Decided, decided_as, either_decided}

module _ (setup : Setup) (k : Kept) (id : ℕ) where
  -- this request is a submit_sm of the message, and the chain is that of its taking
  record Takes (h : Held) (place : ℕ) (chain : List Decree) : Type 0 where
    message : Submission
    first : place ≡ 0
    submits : h.waiting.request ≡ Submit id message
    chain_is : chain ≡ taken_chain setup k h.waiting.since message

  record TakesAmong (held : List Held) (place : ℕ) (chain : List Decree) : Type 0 where
    request : Held
    among : In request held
    takes : Takes request place chain

  one_decided : (h : Held) → Decided (if id_of h == id then take_for setup k h h.waiting.request else None) (Takes h)
  one_decided h = by_request h.waiting.request refl
    where
      another : (other : ℕ) (message : Submission) → h.waiting.request ≡ Submit other message → (test : Bool) → (other == id) ≡ test →
          Decided (if test then take_for setup k h (Submit other message) else None) (Takes h)
      another other message is true same = record {
        message = message;
        first = refl;
        submits = is ∙ ap (λ (x : ℕ). Submit x message) (eqb-true other id same);
        chain_is = refl;
      }
      another other message is false differs = λ place chain takes.
          let both : Submit other message ≡ Submit id takes.message = sym is ∙ takes.submits in
          eqb-false other id differs (ap id_in both)

      none : (request : Request) → h.waiting.request ≡ request → ((message : Submission) → request ≡ Submit id message → ⊥) →
          (test : Bool) → Decided (if test then None else None) (Takes h)
      none request is other true = λ place chain takes. other takes.message (sym is ∙ takes.submits)
      none request is other false = λ place chain takes. other takes.message (sym is ∙ takes.submits)

      by_request : (request : Request) → h.waiting.request ≡ request → Decided (if id_in request == id then take_for setup k h request else None) (Takes h)
      by_request (Submit other message) is = another other message is (other == id) refl
      by_request (Query other account source) is = none (Query other account source) is (λ message same. absurd (cc)) (other == id)
      by_request (Cancel other account source destination) is =
          none (Cancel other account source destination) is (λ message same. absurd (cc)) (other == id)

  among_decided : (held : List Held) → Decided (taken_for setup k id held) (TakesAmong held)
  among_decided [] = λ place chain takes. takes.among
  among_decided (h ∷ others) =
      decided_as (λ place chain. Takes h place chain ⊎ TakesAmong others place chain) (TakesAmong (h ∷ others))
      (taken_for setup k id (h ∷ others))
      there
      back
      (either_decided (Takes h) (TakesAmong others) (if id_of h == id then take_for setup k h h.waiting.request else None) (taken_for setup k id others)
      (one_decided h) (among_decided others))
    where
      there : (place : ℕ) (chain : List Decree) → Takes h place chain ⊎ TakesAmong others place chain → TakesAmong (h ∷ others) place chain
      there place chain (inl takes) = record { request = h; among = inl refl; takes = takes }
      there place chain (inr later) = record { request = later.request; among = inr later.among; takes = later.takes }

      which : (place : ℕ) (chain : List Decree) (request : Held) → (request ≡ h) ⊎ In request others → Takes request place chain →
          Takes h place chain ⊎ TakesAmong others place chain
      which place chain request (inl same) takes = inl (subst (λ (x : Held). Takes x place chain) same takes)
      which place chain request (inr later) takes = inr (record { request = request; among = later; takes = takes })

      back : (place : ℕ) (chain : List Decree) → TakesAmong (h ∷ others) place chain → Takes h place chain ⊎ TakesAmong others place chain
      back place chain takes = which place chain takes.request takes.among takes.takes

  -- ---- as the actor has it

  module _ (a : Actor) (incarnation : k.incarnation ≡ a.incarnation) (waiting : map (λ h. h.waiting) k.held ≡ a.waiting) where
    abbrev chain_of : Waiting → Submission → List Decree
    chain_of w message = record {
      author = record { node = setup.node; incarnation = a.incarnation };
      moment = w.since;
      kind = Taken message;
    } ∷ []

    same_chain : (w : Waiting) (message : Submission) → taken_chain setup k w.since message ≡ chain_of w message
    same_chain w message = λ i. record {
      author = record { node = setup.node; incarnation = incarnation i };
      moment = w.since;
      kind = Taken message;
    } ∷ []

    fits : (place : ℕ) (chain : List Decree) → TakesAmong k.held place chain → FitsTake setup.node a id place chain
    fits place chain it = (
      it.takes.first,
      record {
        waiting = it.request.waiting;
        message = it.takes.message;
        waits = subst (λ (ws : List Waiting). In it.request.waiting ws) waiting (waits_among k.held it.request it.among);
        submits = it.takes.submits;
        chain_is = it.takes.chain_is ∙ same_chain it.request.waiting it.takes.message;
      },
    )

    among : (place : ℕ) (chain : List Decree) → FitsTake setup.node a id place chain → TakesAmong k.held place chain
    among place chain it =
        let kept = kept_as k.held it.1.waiting (subst (λ (ws : List Waiting). In it.1.waiting ws) (sym waiting) it.1.waits) in
        record {
          request = kept.request;
          among = kept.among;
          takes = record {
            message = it.1.message;
            first = it.0;
            submits = ap (λ (w : Waiting). w.request) kept.same ∙ it.1.submits;
            chain_is =
                it.1.chain_is ∙ sym (same_chain it.1.waiting it.1.message) ∙ ap (λ (w : Waiting). taken_chain setup k w.since it.1.message) (sym kept.same);
          };
        }

    pub take_decided : Decided (taken_for setup k id k.held) (FitsTake setup.node a id)
    take_decided = decided_as (TakesAmong k.held) (FitsTake setup.node a id) (taken_for setup k id k.held) fits among (among_decided k.held)
