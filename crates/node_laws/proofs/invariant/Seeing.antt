-- The rounds that an actor has seen for a slot are seen by one that remembers as much of it.
use Rattle.std.proofs.Common.{◌≡◌, ◌↔◌, ℕ, sym, ◌∙◌, inl, inr}
use Rattle.mc_model.specs.synod.Lists.{In}
use Rattle.mc_model.specs.synod.Packet.{Prepare, Refused, Slot}
use Rattle.mc_model.specs.node.Actor.{Actor}
use Rattle.node_laws.specs.Stands.{IsHighestSeen, WasSeen}

module _ (node : ℕ) (a b : Actor) (slot : Slot) (incarnation : b.incarnation ≡ a.incarnation)
    (refusals : (sender ballot promised : ℕ) → In (Refused sender slot ballot promised) a.received → In (Refused sender slot ballot promised) b.received)
    (prepares : (ballot : ℕ) → In (Prepare node slot ballot) a.sent → In (Prepare node slot ballot) b.sent) where
  pub seen_later : (round : ℕ) → WasSeen node a slot round → WasSeen node b slot round
  seen_later round (inl refused) = inl (record {
    sender = refused.sender;
    ballot = refused.ballot;
    promised = refused.promised;
    heard = refusals refused.sender refused.ballot refused.promised refused.heard;
    proposer = refused.proposer;
    incarnation = refused.incarnation ∙ sym incarnation;
    names = refused.names;
  })
  seen_later round (inr prepared) = inr (record { ballot = prepared.ballot; sent = prepares prepared.ballot prepared.sent; names = prepared.names })

-- and so the highest of them is the same
pub highest_as : (node : ℕ) (a b : Actor) (slot : Slot) → ((round : ℕ) → WasSeen node a slot round → WasSeen node b slot round) →
    ((round : ℕ) → WasSeen node b slot round → WasSeen node a slot round) → (round : ℕ) → IsHighestSeen node a slot round → IsHighestSeen node b slot round
highest_as node a b slot there back round highest = record {
  seen = elim highest.seen [ inl none ↦ inl none | inr seen ↦ inr (there round seen) ];
  most = λ other seen. highest.most other (back other seen);
}

-- of two actors that remember the same
module _ (node : ℕ) (a b : Actor) (slot : Slot) (incarnation : b.incarnation ≡ a.incarnation)
    (refusals : (sender ballot promised : ℕ) → In (Refused sender slot ballot promised) a.received ↔ In (Refused sender slot ballot promised) b.received)
    (prepares : (ballot : ℕ) → In (Prepare node slot ballot) a.sent ↔ In (Prepare node slot ballot) b.sent) where
  pub highest_later : (round : ℕ) → IsHighestSeen node a slot round → IsHighestSeen node b slot round
  highest_later = highest_as node a b slot
      (seen_later node a b slot incarnation (λ sender ballot promised. (refusals sender ballot promised).0) (λ ballot. (prepares ballot).0))
      (seen_later node b a slot (sym incarnation) (λ sender ballot promised. (refusals sender ballot promised).1) (λ ballot. (prepares ballot).1))
