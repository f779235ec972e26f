-- What is said of one deed of a run.
use Rattle.std.proofs.Common.{◌≡◌, ℕ, List, [], ◌∷◌, ◌++◌, Some, sym, subst, inl, inr}
use Rattle.mc_model.specs.message.Ids.{node_of}
use Rattle.mc_model.specs.message.Decree.{Decree, Deleted}
use Rattle.mc_model.specs.message.Chain.{final_in}
use Rattle.mc_model.specs.synod.Lists.{In}
use Rattle.mc_model.specs.synod.Packet.{Slot}
use Rattle.mc_model.specs.node.Outcome.{Outcome, IsOutcome}
use Rattle.mc_model.specs.node.Actor.{Actor, Request, Submit, Query, Cancel, Waiting}
use Rattle.mc_model.specs.node.Replies.{Removed, FitsRequest}
use Rattle.mc_model.specs.node.Act.{Act, Concludes, Replies, Reports, Stops}
use Rattle.mc_model.specs.cluster.World.{World, Deed, May, Run, IsRun, past_of, reached, start}
use Rattle.mc_model.specs.cluster.Fate.{deed_by}
use Rattle.mc_laws.proofs.invariant.Growth.{StartsAnew}
use Rattle.mc_laws.proofs.invariant.Stopping.{only_anew}
use Rattle.mc_laws.proofs.invariant.Reached.{holds}
use Rattle.mc_laws.proofs.invariant.Answers.{done, runs_to}

-- it might be done where it was done
pub record WasAllowed (deed : Deed) : Type 0 where
  pub world : World
  pub may : May world deed.node deed.act

allowed_in : (nodes : ℕ) (serials : ℕ → ℕ) (acts : List (ℕ × Act)) → IsRun (start nodes serials) acts → (deed : Deed) →
    In deed (reached (start nodes serials) acts).past →
    WasAllowed deed
allowed_in nodes serials [] run deed is_in = absurd is_in
allowed_in nodes serials (newest ∷ older) run deed (inl same) =
    record { world = reached (start nodes serials) older; may = subst (λ (d : Deed). May (reached (start nodes serials) older) d.node d.act) (sym same) run.0 }
allowed_in nodes serials (newest ∷ older) run deed (inr later) = allowed_in nodes serials older run.1 deed later

pub was_allowed : (run : Run) (deed : Deed) → In deed (past_of run) → WasAllowed deed
was_allowed run = allowed_in run.nodes run.serials run.acts run.may

pub removed_deleted : (nodes node : ℕ) (a : Actor) (w : Waiting) (request : Request) (chain : List Decree) →
    FitsRequest nodes node a w request (Removed chain) →
    final_in chain ≡ Some Deleted
removed_deleted nodes node a w (Cancel id account source destination) chain fits = fits.deleted
removed_deleted nodes node a w (Query id account source) chain fits = absurd fits
removed_deleted nodes node a w (Submit id message) chain fits = absurd fits

-- ESME_ROK to a cancel_sm tells of a deletion
pub removes : (run : Run) (deed : Deed) (ticket id : ℕ) (chain : List Decree) → In deed (past_of run) →
    deed.act ≡ Replies ticket id (Removed chain) →
    final_in chain ≡ Some Deleted
removes run deed ticket id chain is_in is =
    let allowed = was_allowed run deed is_in in
    let may : May allowed.world deed.node (Replies ticket id (Removed chain)) = subst (May allowed.world deed.node) is allowed.may in
    removed_deleted allowed.world.nodes deed.node (allowed.world.actors deed.node) may.needs.asked.waiting may.needs.asked.waiting.request chain may.needs.fits

-- a receipt is written by the node that the id names
pub reports : (run : Run) (deed : Deed) (id : ℕ) (chain : List Decree) → In deed (past_of run) → deed.act ≡ Reports id chain → node_of id ≡ deed.node
reports run deed id chain is_in is =
    let allowed = was_allowed run deed is_in in
    let may : May allowed.world deed.node (Reports id chain) = subst (May allowed.world deed.node) is allowed.may in
    may.needs.named

-- an outcome is one that a response can give
pub possible : (run : Run) (deed : Deed) (slot : Slot) (outcome : Outcome) → In deed (past_of run) → deed.act ≡ Concludes slot outcome → IsOutcome outcome
possible run deed slot outcome is_in is =
    let allowed = was_allowed run deed is_in in
    let may : May allowed.world deed.node (Concludes slot outcome) = subst (May allowed.world deed.node) is allowed.may in
    may.needs.possible

-- an outcome comes once
pub concluded_once : (run : Run) (newer : List Deed) (deed : Deed) (older : List Deed) (slot : Slot) (outcome other : Outcome) →
    past_of run ≡ newer ++ deed ∷ older → deed.act ≡ Concludes slot outcome → In (record deed { act = Concludes slot other }) older →
    ⊥
concluded_once run newer deed older slot outcome other is act earlier =
    let first = start run.nodes run.serials in
    let d = done run.nodes run.serials run.acts newer deed older is in
    let from = runs_to first d.later ((deed.node, deed.act) ∷ d.earlier) (subst (IsRun first) d.split run.may) in
    let w = reached first d.earlier in
    let h = holds run.nodes run.serials d.earlier from.1 in
    let may : May w deed.node (Concludes slot outcome) = subst (May w deed.node) act from.0 in
    let was : In (deed_by (record { node = deed.node; incarnation = (w.actors deed.node).incarnation }) (Concludes slot other)) w.past =
    subst (λ (ds : List Deed). In (deed_by (record { node = deed.node; incarnation = (w.actors deed.node).incarnation })
    (Concludes slot other)) ds) (sym d.past)
    (subst (λ (i : ℕ). In (deed_by (record { node = deed.node; incarnation = i }) (Concludes slot other)) older) d.incarnation earlier)
    in
    may.needs.closed other (h.links.recalls deed.node slot other (inl was))

-- a node that has stopped does nothing in that incarnation but start anew
pub starts_anew : (run : Run) (newer : List Deed) (deed : Deed) (older : List Deed) → past_of run ≡ newer ++ deed ∷ older →
    In (record deed { act = Stops }) older →
    StartsAnew deed.act
starts_anew run newer deed older is earlier =
    let first = start run.nodes run.serials in
    let d = done run.nodes run.serials run.acts newer deed older is in
    let from = runs_to first d.later ((deed.node, deed.act) ∷ d.earlier) (subst (IsRun first) d.split run.may) in
    let w = reached first d.earlier in
    let h = holds run.nodes run.serials d.earlier from.1 in
    only_anew (w.actors deed.node) deed.act from.0.up (h.down deed.node (
    subst (λ (ds : List Deed). In (deed_by (record { node = deed.node; incarnation = (w.actors deed.node).incarnation }) Stops) ds) (sym d.past)
    (subst (λ (i : ℕ). In (deed_by (record { node = deed.node; incarnation = i }) Stops) older) d.incarnation earlier)))
