-- What a node of the code keeps as it has opened.
use Rattle.std.proofs.Common.{◌≡◌, ℕ, suc, ◌+◌, refl, ap, subst, ◌∙◌, arith}
use Rattle.mc_model.specs.synod.Acceptor.{Records, blank}
use Rattle.node_model.specs.Outputs.{Stepped}
use Rattle.world_runs.proofs.Running.{opened_so}
use Rattle.stable_store.specs.Stored.{AreSame, Stored}
use Rattle.node_core.specs.Nodes.{HasOpened}
use Rattle.node_core.proofs.Restarts.{as_restarted, over_held}
use Rattle.journal_laws.specs.Openings.{KeepsAsLeft, KeepsAsNew}
use Rattle.journal_laws.proofs.OldStores.{restart_step}

-- what is found in a store is what it holds
abbrev pub IsSettled : {S : Type 0} → (S → Stored) → Type 0
IsSettled {S} stored = (s : S) (records left : Records) → (stored s).holds records → (stored s).may_hold left → AreSame left records

pub keeps_as_new : {S : Type 0} (stored : S → Stored) → IsSettled stored → KeepsAsNew stored
keeps_as_new stored settled store with node life over doubt new =
    opened_so with node (record {
      life = life;
      stored = λ slot. blank;
      none = record { each = λ slot. refl };
      opened = over_held stored settled store node.store with node life (λ slot. blank) 0 over doubt new.records new.started;
    })

pub keeps_as_left : {S : Type 0} (stored : S → Stored) → IsSettled stored → KeepsAsLeft stored
keeps_as_left stored settled store with node life k lost over doubt lists left =
    let next : k.incarnation + lost + 1 ≡ suc (k.incarnation + lost) = omega arith in
    as_restarted with k k.records lost node life lists (record { each = λ slot. refl })
    (subst (λ (starts : ℕ). HasOpened with k.records starts node life) next
    (over_held stored settled store node.store with node life k.records (k.incarnation + lost) over doubt left.records left.started))
    ∙ ap (λ (step : Stepped). step.kept) (restart_step with k lost)
