-- What is handed in to a node (own).
use Rattle.std.specs.Prelude.{ℕ, List, []}
use Rattle.mc_model.specs.synod.Lists.{In}
use Rattle.mc_model.specs.cluster.Steps.{Cluster}
use Rattle.node_model.specs.Kept.{Kept}
use Rattle.node_core.specs.Nodes.{Standing}
use Rattle.stable_store.specs.Stored.{Stored}
use Rattle.journal_parts.specs.Members.{IsBeginning, IsMember, Posted}
use Rattle.journal_parts.specs.Step.{Step}
use Rattle.journal_parts.specs.Step.TheVariants as steps
use Rattle.node_threads.specs.declared.action.Action.{Action}
use Rattle.node_threads.specs.declared.action.Action.TheVariants as actions

-- the step that it is
abbrev pub step_of : Action → Step
step_of (actions.Deliver number node) = steps.Deliver number node
step_of (actions.Request node account request) = steps.Request node account request
step_of (actions.Tick node moment reach) = steps.Tick node moment reach

-- each of these nodes is one of the cluster, and stands where the journal begins
abbrev pub AllBegin : {S : Type 0} → Cluster → (ℕ → Kept) → List (Standing S) → Type 0
AllBegin {S} cluster kept nodes = (node : Standing S) → In node nodes → IsBeginning cluster kept node

-- each of these nodes goes on as it is at its post, with no entry of the next part
abbrev pub AllGoOn : {S : Type 0} → (S → Stored) → Cluster → (ℕ → Kept) → List (Posted S) → Type 0
AllGoOn {S} stored cluster kept posts = (post : Posted S) → In post posts → IsMember stored cluster kept post []
