-- The frames that wait on a connection (own).
use Rattle.std.specs.Prelude.{◌==◌, ◌&&◌, ◌||◌, ◌++◌, ◌∷◌, [], Bool, true, List, length, drop, nat_lt, not, if◌then◌else◌}

-- the oldest first
pub record FrameQueue (F : Type 0) : Type 0 where
  pub frames : List F
  pub is_shut : Bool

abbrev pub can_put : {F : Type 0} → FrameQueue F → Bool
can_put queue = not queue.is_shut && nat_lt (length queue.frames) 64

abbrev pub after_put : {F : Type 0} → FrameQueue F → F → FrameQueue F
after_put queue frame = if can_put queue then record queue { frames = queue.frames ++ frame ∷ [] } else queue

-- the oldest is taken
abbrev pub after_take : {F : Type 0} → FrameQueue F → FrameQueue F
after_take queue = record queue { frames = drop 1 queue.frames }

-- whether who takes frames has to wait
abbrev pub is_idle : {F : Type 0} → FrameQueue F → Bool
is_idle queue = (length queue.frames == 0) && not queue.is_shut

-- whether what brings frames need not wait
abbrev pub has_room : {F : Type 0} → FrameQueue F → Bool
has_room queue = nat_lt (length queue.frames) 32 || queue.is_shut

abbrev pub shut : {F : Type 0} → FrameQueue F → FrameQueue F
shut queue = record queue { is_shut = true }

-- what waits is dropped
abbrev pub cut : {F : Type 0} → FrameQueue F → FrameQueue F
cut queue = record { frames = []; is_shut = true }
