use Rattle.std.proofs.Common.{List, subst}
use Rattle.mc_model.specs.synod.Lists.{In}
use Rattle.journal_parts.specs.Members.{Posted}
use Rattle.node_threads.proofs.cluster.Cluster.go_on_apart.Goals as goal

pub filled-requires-clause-members : goal.filled-requires-clause-members
filled-requires-clause-members g c = λ post among.
    c.requires.goes.members post (subst (λ (ps : List (Posted _)). In post ps) c.split-posts.ensures among)
