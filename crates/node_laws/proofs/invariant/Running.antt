-- A round that runs at an actor runs at one that sent the same since its last tick, heard no other refusal of it and knows no more.
use Rattle.std.proofs.Common.{◌≡◌, ℕ, ◌<◌, List, [], ◌∷◌, ◌++◌, refl, sym, ap, ◌∙◌, inl, inr}
use Rattle.mc_model.specs.message.Decree.{Decree}
use Rattle.mc_model.specs.synod.Lists.{In}
use Rattle.mc_model.specs.synod.Packet.{Packet, Prepare, Refused, Slot}
use Rattle.mc_model.specs.node.Actor.{Actor}
use Rattle.mc_model.specs.node.Knowledge.{Knows}
use Rattle.mc_model.specs.node.Rounds.{IsRoundOf, IsRunning, sent_since_tick}

module _ (node : ℕ) (a b : Actor) (slot : Slot) (ballot : ℕ) where
  pub round_later : sent_since_tick b ≡ sent_since_tick a → IsRoundOf node a slot ballot → IsRoundOf node b slot ballot
  round_later sent round = record { newer = round.newer; older = round.older; split = sent ∙ round.split; newest = round.newest }

  -- one packet more was sent, which is no Prepare for the message
  module _ (packet : Packet) (sent : sent_since_tick b ≡ packet ∷ sent_since_tick a)
      (other : (sender : ℕ) (at : Slot) (height : ℕ) → Prepare sender at height ≡ packet → at.id ≡ slot.id → ⊥) where
    pub round_more : IsRoundOf node a slot ballot → IsRoundOf node b slot ballot
    round_more round = record {
      newer = packet ∷ round.newer;
      older = round.older;
      split = sent ∙ ap (λ (ps : List Packet). packet ∷ ps) round.split;
      newest = λ sender at height is_in same. elim is_in [
        | inl now ↦ other sender at height now same
        | inr before ↦ round.newest sender at height before same
      ];
    }

    round_split : (newer older : List Packet) → packet ∷ sent_since_tick a ≡ newer ++ Prepare node slot ballot ∷ older →
        ((sender : ℕ) (at : Slot) (height : ℕ) → In (Prepare sender at height) newer → at.id ≡ slot.id → ⊥) → IsRoundOf node a slot ballot
    round_split [] older split newest =
        let packets : packet ≡ Prepare node slot ballot = cc in absurd (other node slot ballot (sym packets) refl)
    round_split (first ∷ newer) older split newest = record {
      newer = newer;
      older = older;
      split = cc;
      newest = λ sender at height is_in same. newest sender at height (inr is_in) same;
    }

    pub round_less : IsRoundOf node b slot ballot → IsRoundOf node a slot ballot
    round_less round = round_split round.newer round.older (sym sent ∙ round.split) round.newest

module _ (nodes node : ℕ) (a b : Actor) (slot : Slot) (ballot : ℕ)
    (refusals : (sender promised : ℕ) → ballot < promised → In (Refused sender slot ballot promised) b.received →
    In (Refused sender slot ballot promised) a.received)
    (knew : (chain : List Decree) → Knows nodes b.received slot.id chain → Knows nodes a.received slot.id chain) where
  pub running_of : IsRoundOf node b slot ballot → IsRunning nodes node a slot ballot → IsRunning nodes node b slot ballot
  running_of round runs = record {
    round = round;
    accepted = λ refused. runs.accepted (record {
      sender = refused.sender;
      promised = refused.promised;
      heard = refusals refused.sender refused.promised refused.greater refused.heard;
      greater = refused.greater;
    });
    short = λ reached. runs.short (record { chain = reached.chain; known = knew reached.chain reached.known; far = reached.far });
  }

  pub running_later : sent_since_tick b ≡ sent_since_tick a → IsRunning nodes node a slot ballot → IsRunning nodes node b slot ballot
  running_later sent runs = running_of (round_later node a b slot ballot sent runs.round) runs
