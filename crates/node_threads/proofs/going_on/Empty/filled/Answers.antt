use Rattle.std.proofs.Common.{◌≡◌, List, ◌∷◌, length, map, sym, ap, subst, inl, inr, refl, arith}
use Rattle.mc_model.specs.synod.Lists.{In}
use Rattle.journal_parts.specs.declared.post.Post.{Post}
use Rattle.journal_parts.specs.Members.{Posted, posted}
use Rattle.node_threads.proofs.going_on.Empty.filled.Goals as goal

among : {S : Type 0} (posts others : List (Post S)) (one : Posted S) → posts ≡ others → In one (map posted posts) → In one (map posted others)
among posts others one same is = subst (λ (ps : List (Post _)). In one (map posted ps)) same is

pub loop-post-init : goal.loop-post-init
loop-post-init g c = (
  (λ post is. c.requires.members post (among c.from_vec-posts.result.items c.args.posts.items post c.from_vec-posts.ensures.items is)),
  (let none = c.args.self.no_lock in
      let count = c.requires.count in
      let same = ap (λ (ps : List (Post _)). length ps) c.from_vec-posts.ensures.items in
      omega (arith, none, count, same)),
  c.args.self.locks_room,
)

pub go_on-requires : goal.go_on-requires
go_on-requires g c =
    c.loop-post.invariant.0 (posted c.in-Some.post)
    (among (c.in-Some.post ∷ c.pop_front.new.self.items) c.loop-post.posts.items (posted c.in-Some.post) (sym c.in-Some.ensures.items) (inl refl))

pub loop-post-preserved : goal.loop-post-preserved
loop-post-preserved g c = (
  (λ post is. c.loop-post.invariant.0 post
      (among (c.in-Some.post ∷ c.pop_front.new.self.items) c.loop-post.posts.items post (sym c.in-Some.ensures.items) (inr is))),
  (let before = c.loop-post.invariant.1 in
      let left = ap (λ (ps : List (Post _)). length ps) c.in-Some.ensures.items in
      let long = c.push_reserved.ensures.len in
      omega (arith, before, left, long)),
  (let room = c.loop-post.invariant.2 in let wide = c.push_reserved.ensures.capacity in omega (arith, room, wide)),
)
