-- The replies of a step, one after the other: each tells what is decided then, and what it tells is decided from then on.
use Rattle.std.proofs.Common.{◌≡◌, ℕ, List, [], ◌∷◌, ◌++◌, Some, refl, sym, ◌∙◌, ap, subst, append_assoc}
use Rattle.std.specs.Prelude.{reverse}
use Rattle.std.proofs.lemmas.List.{reverse-append}
use Rattle.mc_model.specs.message.Decree.{Decree, Deleted, Final}
use Rattle.mc_model.specs.message.Chain.{final_in}
use Rattle.mc_model.specs.node.Act.{Act, Replies}
use Rattle.mc_model.specs.node.Outputs.{Reply, replies_in}
use Rattle.mc_model.specs.node.Replies.{Answer, Removed, Shown}
use Rattle.mc_model.specs.cluster.Steps.{by_node}
use Rattle.mc_model.specs.cluster.World.{IsRun, May, World, after, reached}
use Rattle.mc_laws.proofs.invariant.Fated.{tells_known}
use Rattle.mc_laws.proofs.invariant.Reached.{Holds, holds_after}
use Rattle.mc_laws.proofs.invariant.Deeds.{removed_deleted}
use Rattle.world_fates.proofs.node.Decided.{IsDecided, decided_after, shown_so, told_decides}

-- what is decided at any node in one world is so in another
abbrev pub Grows : World → World → Type 0
Grows first last = (node id : ℕ) (final : Final) → IsDecided node first id final → IsDecided node last id final

-- ESME_ROK to a query_sm tells what is decided, and ESME_ROK to a cancel_sm that DELETED is
pub record IsFitAnswer (node : ℕ) (w : World) (id : ℕ) (answer : Answer) : Type 0 where
  pub shown : (chain : List Decree) (final : Final) → answer ≡ Shown chain → IsDecided node w id final → final_in chain ≡ Some final
  pub fated : (chain : List Decree) (final : Final) → answer ≡ Shown chain → final_in chain ≡ Some final → IsDecided node w id final
  pub removed : (chain : List Decree) → answer ≡ Removed chain → IsDecided node w id Deleted

-- each of these replies is fit in its turn
abbrev pub AreFit : ℕ → World → List Reply → World → Type 0
AreFit node first [] last = Grows first last
AreFit node first (reply ∷ replies) last =
    (middle : World) × Grows first middle × IsFitAnswer node middle reply.id reply.answer × AreFit node middle replies last

fit_from : (node : ℕ) (before first last : World) (replies : List Reply) → Grows before first → AreFit node first replies last →
    AreFit node before replies last
fit_from node before first last [] grows fit = λ n id final is. fit n id final (grows n id final is)
fit_from node before first last (reply ∷ replies) grows fit = (fit.0, λ n id final is. fit.1 n id final (grows n id final is), fit.2, fit.3)

-- ---- one reply

module _ (node : ℕ) (w : World) (h : Holds w) (ticket id : ℕ) (answer : Answer) (may : May w node (Replies ticket id answer)) where
  may_be : (other : Answer) → answer ≡ other → May w node (Replies ticket id other)
  may_be other is = subst (λ (a : Answer). May w node (Replies ticket id a)) is may

  pub answer_fits : IsFitAnswer node w id answer
  answer_fits = record {
    shown = λ chain final is decided. shown_so node w h ticket id chain final decided (may_be (Shown chain) is).needs;
    fated = λ chain final is ends.
        told_decides node w id chain final (tells_known w node (Replies ticket id (Shown chain)) (may_be (Shown chain) is) id chain (refl, refl)) ends;
    removed = λ chain is.
        let removes = (may_be (Removed chain) is).needs in
        told_decides node w id chain Deleted (tells_known w node (Replies ticket id (Removed chain)) (may_be (Removed chain) is) id chain (refl, refl))
        (removed_deleted w.nodes node (w.actors node) removes.asked.waiting removes.asked.waiting.request chain removes.fits);
  }

-- ---- the replies of acts

pub holds_then : (node : ℕ) (w : World) → Holds w → (acts : List Act) → IsRun w (by_node node acts) → Holds (reached w (by_node node acts))
holds_then node w h [] run = h
holds_then node w h (newest ∷ older) run = holds_after (reached w (by_node node older)) (holds_then node w h older run.1) node newest run.0

pub replies_fit : (node : ℕ) (w : World) → Holds w → (acts : List Act) → IsRun w (by_node node acts) → (more : List Reply) (last : World) →
    AreFit node (reached w (by_node node acts)) more last → AreFit node w (reverse (replies_in acts) ++ more) last
replies_fit node w h [] run more last fit = fit
replies_fit node w h (newest ∷ older) run more last fit = by_act (λ others. replies_fit node w h older run.1 others last) newest run.0 fit
  where
    -- so it is with the replies of the older acts, whatever comes behind them
    OlderFit : Type 0
    OlderFit = (others : List Reply) → AreFit node (reached w (by_node node older)) others last → AreFit node w (reverse (replies_in older) ++ others) last

    before : World
    before = reached w (by_node node older)

    holds : Holds before
    holds = holds_then node w h older run.1

    onward : (act : Act) → May before node act → Grows before (after before node act)
    onward act may = λ n id final. decided_after n before holds node act may id final

    by_act : OlderFit → (act : Act) → May before node act → AreFit node (after before node act) more last →
        AreFit node w (reverse (replies_in (act ∷ older)) ++ more) last
    by_act older_fit (Replies ticket id answer) may fit =
        let reply : Reply = record { ticket = ticket; id = id; answer = answer } in
        subst (λ (replies : List Reply). AreFit node w replies last)
        (sym (ap (λ (replies : List Reply). replies ++ more) (reverse-append (reply ∷ []) (replies_in older))
        ∙ append_assoc (reverse (replies_in older)) (reply ∷ []) more))
        (older_fit (reply ∷ more) (
          before,
          λ n i final is. is,
          answer_fits node before holds ticket id answer may,
          fit_from node before (after before node (Replies ticket id answer)) last more (onward (Replies ticket id answer) may) fit,
        ))
    by_act older_fit act may fit = older_fit more (fit_from node before (after before node act) last more (onward act may) fit)
