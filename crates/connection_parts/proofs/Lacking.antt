-- Lists of frames in which none passes a test, and what a put leaves of them.
use Rattle.std.proofs.Common.{◌≡◌, Bool, true, false, cond, List, [], ◌∷◌, ◌++◌, Some, refl, sym, ap, ◌∙◌, drop, filter}
use Rattle.std.specs.List.{list_any, slice_get}
use Rattle.std.proofs.lemmas.Bool.{or_from, or_parts}
use Rattle.connection_parts.specs.declared.frame.Frame.{Frame}

module _ (test : Frame → Bool) where
  abbrev pub HasNone : List Frame → Type 0
  HasNone frames = list_any test frames ≡ false

  pub dropped : (frames : List Frame) → HasNone frames → HasNone (drop 1 frames)
  dropped [] none = refl
  dropped (first ∷ others) none = (or_parts (test first) (list_any test others) none).1

  pub put_behind : (frames : List Frame) (frame : Frame) → HasNone frames → test frame ≡ false → HasNone (frames ++ frame ∷ [])
  put_behind [] frame none other = or_from (test frame) false other refl
  put_behind (first ∷ others) frame none other =
      let both = or_parts (test first) (list_any test others) none in
      or_from (test first) (list_any test (others ++ frame ∷ [])) both.0 (put_behind others frame both.1 other)

  -- those that some other test keeps
  pub kept : (keeps : Frame → Bool) (frames : List Frame) → HasNone frames → HasNone (filter keeps frames)
  kept keeps [] none = refl
  kept keeps (first ∷ others) none =
      let both = or_parts (test first) (list_any test others) none in
      by_test (keeps first) both.0 (kept keeps others both.1)
    where
      by_test : (b : Bool) → test first ≡ false → HasNone (filter keeps others) → HasNone (cond b (first ∷ filter keeps others) (filter keeps others))
      by_test true apart rest = or_from (test first) (list_any test (filter keeps others)) apart rest
      by_test false apart rest = rest

  pub put_if : (b : Bool) (frames : List Frame) (frame : Frame) → HasNone frames → test frame ≡ false → HasNone (cond b (frames ++ frame ∷ []) frames)
  put_if true frames frame none other = put_behind frames frame none other
  put_if false frames frame none other = none

  pub first_of : (frames : List Frame) (frame : Frame) → HasNone frames → slice_get frames 0 ≡ Some frame → test frame ≡ false
  first_of [] frame none is = absurd (cc)
  first_of (first ∷ others) frame none is =
      let same : first ≡ frame = cc in
      sym (ap (λ (f : Frame). test f) same) ∙ (or_parts (test first) (list_any test others) none).0
