-- The requests that are kept are those that wait at the actor.
use Rattle.std.proofs.Common.{◌≡◌, List, [], ◌∷◌, map, refl, sym, inl, inr}
use Rattle.mc_model.specs.synod.Lists.{In}
use Rattle.mc_model.specs.node.Actor.{Waiting}
use Rattle.node_model.specs.Kept.{Held}

pub record IsKeptAs (held : List Held) (waiting : Waiting) : Type 0 where
  pub request : Held
  pub among : In request held
  pub same : request.waiting ≡ waiting

pub waits_among : (held : List Held) (h : Held) → In h held → In h.waiting (map (λ it. it.waiting) held)
waits_among [] h among = among
waits_among (first ∷ others) h (inl same) = inl (λ i. (same i).waiting)
waits_among (first ∷ others) h (inr later) = inr (waits_among others h later)

pub kept_as : (held : List Held) (waiting : Waiting) → In waiting (map (λ it. it.waiting) held) → IsKeptAs held waiting
kept_as [] waiting waits = absurd waits
kept_as (first ∷ others) waiting (inl same) = record { request = first; among = inl refl; same = sym same }
kept_as (first ∷ others) waiting (inr later) =
    let it = kept_as others waiting later in record { request = it.request; among = inr it.among; same = it.same }
