-- What may be done may be done in a loose run.
use Rattle.std.proofs.Common.{◌≡◌, ℕ, List, [], ◌∷◌, Some, ◌∙◌, subst}
use Rattle.mc_model.specs.message.Decree.{Decree}
use Rattle.mc_model.specs.node.Actor.{Actor, Request, Submit, Query, Cancel, Waiting, id_in}
use Rattle.mc_model.specs.node.Knowledge.{Knows}
use Rattle.mc_model.specs.node.Replies.{Answer, Accepted, Shown, Removed, Kept, NotOwner, NotMatched, Unknown, TooLate}
use Rattle.mc_model.specs.node.Replies.{FitsRequest, IsAnswer, MayReply}
use Rattle.mc_model.specs.node.Act.{Act, Receives, Promises, Votes, Proposes, Replies, Reports, Grants, Concludes}
use Rattle.mc_model.specs.cluster.World.{World, May, IsRun, reached}
use Rattle.mc_model.specs.cluster.Fate.{shown_by, TellsOf}
use Rattle.mc_model.specs.cluster.Loose.{NeedsAtLeast, MayLoosely, IsLooseRun}

-- ---- the chain of which an ESME is told is known

shown_known : (nodes node : ℕ) (a : Actor) (w : Waiting) (request : Request) (answer : Answer) (chain : List Decree) →
    FitsRequest nodes node a w request answer → shown_by answer ≡ Some chain →
    Knows nodes a.received (id_in w.request) chain
shown_known nodes node a w (Query id account source) (Shown shown) chain fits is =
    let same : shown ≡ chain = cc in subst (λ (c : List Decree). Knows nodes a.received (id_in w.request) c) same fits.known
shown_known nodes node a w (Cancel id account source destination) (Removed shown) chain fits is =
    let same : shown ≡ chain = cc in subst (λ (c : List Decree). Knows nodes a.received (id_in w.request) c) same fits.known
shown_known nodes node a w (Submit id message) (Shown shown) chain fits is = absurd fits
shown_known nodes node a w (Submit id message) (Removed shown) chain fits is = absurd fits
shown_known nodes node a w (Query id account source) (Removed shown) chain fits is = absurd fits
shown_known nodes node a w (Cancel id account source destination) (Shown shown) chain fits is = absurd fits
shown_known nodes node a w request Accepted chain fits is = cc
shown_known nodes node a w request (Kept kept) chain fits is = cc
shown_known nodes node a w request NotOwner chain fits is = cc
shown_known nodes node a w request (NotMatched kept) chain fits is = cc
shown_known nodes node a w request Unknown chain fits is = cc
shown_known nodes node a w request TooLate chain fits is = cc

answer_known : (nodes node : ℕ) (a : Actor) (w : Waiting) (answer : Answer) (chain : List Decree) → IsAnswer nodes node a w answer →
    shown_by answer ≡ Some chain →
    Knows nodes a.received (id_in w.request) chain
answer_known nodes node a w TooLate chain fits is = cc
answer_known nodes node a w Accepted chain fits is = cc
answer_known nodes node a w (Shown shown) chain fits is = shown_known nodes node a w w.request (Shown shown) chain fits is
answer_known nodes node a w (Removed shown) chain fits is = shown_known nodes node a w w.request (Removed shown) chain fits is
answer_known nodes node a w (Kept kept) chain fits is = cc
answer_known nodes node a w NotOwner chain fits is = cc
answer_known nodes node a w (NotMatched kept) chain fits is = cc
answer_known nodes node a w Unknown chain fits is = cc

pub tells_known : (w : World) (node : ℕ) (act : Act) → May w node act → (id : ℕ) (chain : List Decree) → TellsOf act id chain →
    Knows w.nodes (w.actors node).received id chain
tells_known w node (Replies ticket other answer) may id chain tells =
    let m : MayReply w.nodes node (w.actors node) ticket other answer = may.needs in
    subst (λ (i : ℕ). Knows w.nodes (w.actors node).received i chain) (m.asked.about ∙ tells.0)
    (answer_known w.nodes node (w.actors node) m.asked.waiting answer chain m.fits tells.1)
tells_known w node (Reports other shown) may id chain tells =
    subst (λ (i : ℕ). Knows w.nodes (w.actors node).received i chain) tells.0 (subst (Knows w.nodes (w.actors node).received other) tells.1 may.needs.known)
tells_known w node act may id chain tells = absurd tells

-- ---- so an act needs less in a loose run

least_needed : (w : World) (node : ℕ) (act : Act) → May w node act → NeedsAtLeast w node act
least_needed w node (Receives packet) may = may.needs
least_needed w node (Promises slot ballot sent) may = may.needs.may
least_needed w node (Votes slot vote sent) may = (may.needs.may, may.needs.sender, may.needs.proposed)
least_needed w node (Proposes slot vote) may = may.needs
least_needed w node (Grants slot) may = may.needs
least_needed w node (Concludes slot outcome) may = may.needs.granted
least_needed w node act may = tt

pub loosely : (w : World) (node : ℕ) (act : Act) → May w node act → MayLoosely w node act
loosely w node act may = record { needs = least_needed w node act may; known = tells_known w node act may }

pub run_loosely : (first : World) (acts : List (ℕ × Act)) → IsRun first acts → IsLooseRun first acts
run_loosely first [] run = tt
run_loosely first (newest ∷ older) run = (loosely (reached first older) newest.0 newest.1 run.0, run_loosely first older run.1)
