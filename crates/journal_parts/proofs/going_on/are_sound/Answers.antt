use Rattle.std.proofs.Common.{◌≡◌, ℕ, ◌+◌, ◌<◌, false, List, [], ◌∷◌, length, get_or, drop, map, sym, ap, subst, ◌∙◌, inl, inr, refl}
use Rattle.std.proofs.Math.ListN.{drop_of_length-le}
use Rattle.std.proofs.lemmas.List.{drop_more}
use Rattle.mc_model.specs.synod.Lists.{In}
use Rattle.journal_parts.specs.declared.post.Post.{Post}
use Rattle.journal_parts.specs.GoingOn.{AreSound}
use Rattle.journal_parts.specs.Members.{Posted, posted}
use Rattle.journal_parts.proofs.going_on.are_sound.Goals as goal

module _ {S : Type 0} (posts : List (Post S)) (place : ℕ) (one : Post S) (within : place < length posts) (is : one ≡ get_or posts place one) where
  first : map posted (drop place posts) ≡ posted one ∷ map posted (drop (place + 1) posts)
  first =
      ap (map posted) (drop_more posts place one within)
      ∙ ap (λ (p : Post S). posted p ∷ map posted (drop (place + 1) posts)) (sym is)

  later : one.astray ≡ false → AreSound (map posted (drop (place + 1) posts)) → AreSound (map posted (drop place posts))
  later still rest = λ post among. elim (subst (λ (ps : List (Posted S)). In post ps) first among) [
    | inl here ↦ ap (λ (p : Posted S). p.astray) here ∙ still
    | inr there ↦ rest post there
  ]

  rest : AreSound (map posted (drop place posts)) → AreSound (map posted (drop (place + 1) posts))
  rest all = λ post among. all post (subst (λ (ps : List (Posted S)). In post ps) (sym first) (inr among))

  here : AreSound (map posted (drop place posts)) → one.astray ≡ false
  here all = all (posted one) (subst (λ (ps : List (Posted S)). In (posted one) ps) (sym first) (inl refl))

pub returns-then-post : goal.returns-then-post
returns-then-post g c = (
  λ is. absurd cc,
  λ all.
      let still = here c.args.posts.now c.loop-post.post-index c.post-item.result c.loop-post-test.true c.post-item.is (c.loop-post.invariant.1 all) in
      let astray = c.if-post.true in
      absurd cc,
)

pub loop-post-preserved : goal.loop-post-preserved
loop-post-preserved g c = (
  λ all. c.loop-post.invariant.0
      (later c.args.posts.now c.loop-post.post-index c.post-item.result c.loop-post-test.true c.post-item.is c.if-post.false all),
  λ all. rest c.args.posts.now c.loop-post.post-index c.post-item.result c.loop-post-test.true c.post-item.is (c.loop-post.invariant.1 all),
)

pub returns : goal.returns
returns g c = (
  λ is. c.loop-post.invariant.0 (subst (λ (ps : List (Post _)). AreSound (map posted ps)) (sym none) (λ post nobody. absurd nobody)),
  λ all. refl,
)
  where
    none : drop c.loop-post.post-index c.args.posts.now ≡ []
    none = drop_of_length-le c.args.posts.now c.loop-post-test.false
