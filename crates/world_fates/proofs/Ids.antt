-- What is accepted has an id.
use Rattle.std.proofs.Common.{◌≡◌, ℕ, Bool, true, false, List, [], ◌∷◌, refl, sym, subst, inl, inr, arith}
use Rattle.std.specs.Prelude.{◌==◌, if◌then◌else◌}
use Rattle.mc_model.specs.message.Ids.{IsId, IsIncarnation, IsNode, IsSerial, serial_of}
use Rattle.mc_model.specs.message.Submission.{Submission}
use Rattle.mc_model.specs.synod.Lists.{In}
use Rattle.mc_model.specs.node.Actor.{Cancel, Query, Request, Submit, id_in}
use Rattle.mc_model.specs.node.Outputs.{Reply}
use Rattle.mc_model.specs.node.Replies.{Accepted, Answer}
use Rattle.mc_model.specs.node.Setup.{Setup}
use Rattle.mc_model.specs.cluster.Steps.{Cluster, setup_of}
use Rattle.node_model.specs.Kept.{Held, Kept}
use Rattle.node_laws.specs.Clusters.{MayHappen, NodeInput, kept_reached, step_at}
use Rattle.node_laws.specs.Runs.{IsFitToCome, IsNextMessage, IsOneOf, MayCome}
use Rattle.node_laws.proofs.cluster.Clustered.{clustered}
use Rattle.world_fates.proofs.node.StepsOut.{step_now}
use Rattle.world_fates.proofs.Holding.{MayAnswer, holds_on, request_of}

-- a submit_sm has an id
abbrev pub HasId : Request → Type 0
HasId (Submit id message) = IsId id
HasId (Query id account source) = Unit {0}
HasId (Cancel id account source destination) = Unit {0}

id_given : (setup : Setup) (k : Kept) → IsOneOf setup → IsIncarnation k.incarnation → (id : ℕ) (message : Submission) →
    IsNextMessage setup k id message → IsId id
id_given setup k one_of lives id message is =
    let serial_is : serial_of id ≡ k.serial = omega (arith, is.id_is, is.serial.most, lives.most) in
    record {
      node = subst IsNode is.takes.node (record { least = one_of.least; most = omega (arith, one_of.most, one_of.few) });
      incarnation = subst IsIncarnation is.takes.incarnation lives;
      serial = subst IsSerial (sym serial_is) is.serial;
    }

has_id : (setup : Setup) (k : Kept) → IsOneOf setup → IsIncarnation k.incarnation → (request : Request) → IsFitToCome setup k request → HasId request
has_id setup k one_of lives (Submit id message) fit = id_given setup k one_of lives id message fit
has_id setup k one_of lives (Query id account source) fit = tt
has_id setup k one_of lives (Cancel id account source destination) fit = tt

module _ (cluster : Cluster) where
  lives : (past : List NodeInput) → MayHappen cluster past → (node : ℕ) → IsIncarnation ((kept_reached cluster past).kept node).incarnation
  lives past may node =
      let stands = (clustered cluster past may).stands node in
      subst IsIncarnation (sym stands.agrees.incarnation) stands.agrees.coherent.life

  -- each submit_sm that a node holds has an id
  held_ids : (past : List NodeInput) → MayHappen cluster past → (node : ℕ) (h : Held) → In h ((kept_reached cluster past).kept node).held →
      HasId (request_of h)
  held_ids [] may node h among = absurd among
  held_ids (next ∷ past) may node h among = by_node (node == next.node) refl (held_ids past may.4) among
    where
      k : Kept
      k = (kept_reached cluster past).kept next.node

      here : In h (step_at cluster (kept_reached cluster past) next).kept.held →
          ((other : ℕ) (old : Held) → In old ((kept_reached cluster past).kept other).held → HasId (request_of old)) → HasId (request_of h)
      here among before = elim ((holds_on (setup_of cluster next.node) k next.input).held h among) [
        | inl under ↦ subst HasId under.request_is (before next.node under.one under.among)
        | inr comes ↦
            has_id (setup_of cluster next.node) k may.0 (lives past may.4 next.node) (request_of h)
            (subst (MayCome (setup_of cluster next.node) k) comes.input_is may.2).1
      ]

      by_node : (test : Bool) → (node == next.node) ≡ test →
          ((other : ℕ) (old : Held) → In old ((kept_reached cluster past).kept other).held → HasId (request_of old)) →
          In h (if test then (step_at cluster (kept_reached cluster past) next).kept else (kept_reached cluster past).kept node).held → HasId (request_of h)
      by_node true same before among = here among before
      by_node false differs before among = before node h among

  -- so has the message of ESME_ROK to one
  pub accepted_id : (past : List NodeInput) (next : NodeInput) → MayHappen cluster (next ∷ past) → (reply : Reply) →
      In reply (step_now cluster next past).outputs.replies → reply.answer ≡ Accepted → IsId reply.id
  accepted_id past next may reply among is =
      let it = (holds_on (setup_of cluster next.node) ((kept_reached cluster past).kept next.node) next.input).replies reply among in
      subst IsId it.about
      (submitted it.request (subst (λ (a : Answer). MayAnswer a it.request) is it.may)
      (subst HasId it.under.request_is (held_ids past may.4 next.node it.under.one it.under.among)))
    where
      submitted : (request : Request) → MayAnswer Accepted request → HasId request → IsId (id_in request)
      submitted (Submit id message) may has = has
      submitted (Query id account source) may has = absurd may
      submitted (Cancel id account source destination) may has = absurd may
