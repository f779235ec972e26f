-- A node's own run that goes on by a step.
use Rattle.std.proofs.Common.{List, [], ◌∷◌, ◌++◌, None, sym, ap, subst}
use Rattle.mc_model.specs.node.Input.{Input}
use Rattle.mc_model.specs.node.Setup.{Setup}
use Rattle.node_model.specs.Kept.{Kept}
use Rattle.node_model.specs.Stepped.{stepped}
use Rattle.journal_laws.specs.Journals.{Done, Entry, IsOwnRun, done_in}
use Rattle.journal_laws.specs.Taken.{IsTakenBy}
use Rattle.journal_laws.proofs.Joining.{done_both, own_both}

-- Behind its own run a node goes on by the steps of an entry.
pub entry_more : (setup : Setup) (first k last : Kept) (entries : List Entry) (entry : Entry) → IsOwnRun setup first (done_in entries) k →
    IsOwnRun setup k (done_in (entry ∷ [])) last → IsOwnRun setup first (done_in (entries ++ entry ∷ [])) last
entry_more setup first k last entries entry own more =
    subst (λ (ds : List Done). IsOwnRun setup first ds last) (sym (done_both entries (entry ∷ [])))
    (own_both setup first k last (done_in entries) (done_in (entry ∷ [])) own more)

-- So it does by a step.
pub one_more : (setup : Setup) (first k : Kept) (input : Input) (entries : List Entry) (done : Done) → IsOwnRun setup first (done_in entries) k →
    IsTakenBy setup k input done → IsOwnRun setup first (done_in (entries ++ record { done = done; unfinished = None } ∷ [])) (stepped setup k input).kept
one_more setup first k input entries done own taken =
    entry_more setup first k (stepped setup k input).kept entries (record { done = done; unfinished = None }) own
    (taken.own, ap (λ (by : Input). (stepped setup k by).kept) (sym taken.by))
