use Rattle.std.proofs.Common.{List, length, refl, sym, ap, subst, inl, inr, arith}
use Rattle.mc_model.specs.synod.Lists.{In}
use Rattle.node_core.specs.Nodes.{Standing}
use Rattle.node_threads.proofs.cluster.locks_of.Goals as goal

pub loop-node-init : goal.loop-node-init
loop-node-init g c = (
  (λ node among. c.requires node (subst (λ (ns : List (Standing _)). In node ns) c.from_vec-nodes.ensures.items among)),
  (let none = c.in_ok-locks.ensures.len in let same = ap (λ (ns : List (Standing _)). length ns) c.from_vec-nodes.ensures.items in omega (arith, none, same)),
)

pub begin-requires : goal.begin-requires
begin-requires g c =
    c.loop-node.invariant.0 c.in-Some.node (subst (λ (ns : List (Standing _)). In c.in-Some.node ns) (sym c.in-Some.ensures.items) (inl refl))

pub loop-node-preserved : goal.loop-node-preserved
loop-node-preserved g c = (
  (λ node among. c.loop-node.invariant.0 node (subst (λ (ns : List (Standing _)). In node ns) (sym c.in-Some.ensures.items) (inr among))),
  (let before = c.loop-node.invariant.1 in
      let left = ap (λ (ns : List (Standing _)). length ns) c.in-Some.ensures.items in
      let long = c.in_ok-push.ensures.len in
      omega (arith, before, left, long)),
)
