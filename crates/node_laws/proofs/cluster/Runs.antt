-- What acts lead to, one list of them after another.
use Rattle.std.proofs.Common.{◌≡◌, ℕ, List, [], ◌∷◌, ◌++◌, refl, sym, ap, subst, ◌∙◌, append_assoc}
use Rattle.mc_model.specs.synod.Acceptor.{Records}
use Rattle.mc_model.specs.node.Act.{Act, Replies, Reports}
use Rattle.mc_model.specs.node.Actor.{Actor}
use Rattle.mc_model.specs.node.Alone.{IsRunAlone, MayAlone, Node, reached_alone}
use Rattle.mc_model.specs.node.Effect.{actor_by, did, packets_by, records_by, saved}
use Rattle.mc_laws.proofs.step.Assembly.{alone_on}
use Rattle.mc_model.specs.node.Outputs.{Receipt, Reply, packets_in, receipts_in, replies_in}

pub did_more : (node : ℕ) (a : Actor) (newer older : List Act) → did node a (newer ++ older) ≡ did node (did node a older) newer
did_more node a [] older = refl
did_more node a (act ∷ newer) older = ap (λ (x : Actor). actor_by node x act) (did_more node a newer older)

pub saved_more : (records : Records) (newer older : List Act) → saved records (newer ++ older) ≡ saved (saved records older) newer
saved_more records [] older = refl
saved_more records (act ∷ newer) older = ap (λ (x : Records). records_by x act) (saved_more records newer older)

pub reached_actor : (node : ℕ) (first : Node) (acts : List Act) → (reached_alone node first acts).actor ≡ did node first.actor acts
reached_actor node first [] = refl
reached_actor node first (act ∷ older) = ap (λ (x : Actor). actor_by node x act) (reached_actor node first older)

pub run_more : (nodes node : ℕ) (first : Node) (newer older : List Act) → IsRunAlone nodes node (reached_alone node first older) newer →
    IsRunAlone nodes node first older → IsRunAlone nodes node first (newer ++ older)
run_more nodes node first [] older run before = before
run_more nodes node first (act ∷ newer) older run before =
    (subst (λ (x : Node). MayAlone nodes node x act) (sym (alone_on node first newer older)) run.0, run_more nodes node first newer older run.1 before)

-- ---- what goes out

pub packets_more : (node : ℕ) (a : Actor) (records : Records) (newer older : List Act) →
    packets_in node a records (newer ++ older) ≡ packets_in node (did node a older) (saved records older) newer ++ packets_in node a records older
packets_more node a records [] older = refl
packets_more node a records (act ∷ newer) older =
    (λ i. packets_by node (did_more node a newer older i) (saved_more records newer older i) act ++ packets_more node a records newer older i)
    ∙ sym (append_assoc (packets_by node (did node (did node a older) newer) (saved (saved records older) newer) act)
    (packets_in node (did node a older) (saved records older) newer) (packets_in node a records older))

reply_first : (act : Act) (older : List Act) → replies_in (act ∷ older) ≡ replies_in (act ∷ []) ++ replies_in older
reply_first (Replies ticket id answer) older = refl
reply_first act older = refl

pub replies_more : (newer older : List Act) → replies_in (newer ++ older) ≡ replies_in newer ++ replies_in older
replies_more [] older = refl
replies_more (act ∷ newer) older =
    reply_first act (newer ++ older)
    ∙ ap (λ (rs : List Reply). replies_in (act ∷ []) ++ rs) (replies_more newer older)
    ∙ sym (append_assoc (replies_in (act ∷ [])) (replies_in newer) (replies_in older))
    ∙ sym (ap (λ (rs : List Reply). rs ++ replies_in older) (reply_first act newer))

receipt_first : (act : Act) (older : List Act) → receipts_in (act ∷ older) ≡ receipts_in (act ∷ []) ++ receipts_in older
receipt_first (Reports id chain) older = refl
receipt_first act older = refl

pub receipts_more : (newer older : List Act) → receipts_in (newer ++ older) ≡ receipts_in newer ++ receipts_in older
receipts_more [] older = refl
receipts_more (act ∷ newer) older =
    receipt_first act (newer ++ older)
    ∙ ap (λ (rs : List Receipt). receipts_in (act ∷ []) ++ rs) (receipts_more newer older)
    ∙ sym (append_assoc (receipts_in (act ∷ [])) (receipts_in newer) (receipts_in older))
    ∙ sym (ap (λ (rs : List Receipt). rs ++ receipts_in older) (receipt_first act newer))
