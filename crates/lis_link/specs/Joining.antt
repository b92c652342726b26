-- Joining frames to texts: intermediate frames are held until the last frame of a message completes its text (LIS01-A2,
-- 6.3).
use Rattle.std.specs.Prelude.{ℕ, List, [], ◌∷◌, ◌++◌, Option, None, Some, if◌then◌else◌}
use Rattle.std.specs.Option.{option_to_list}
use Rattle.lis_frame.specs.Frame.{FrameContent}

-- what is held after a frame
abbrev pub held_with : List ℕ → FrameContent → List ℕ
held_with held frame = if frame.last then [] else held ++ frame.text

-- the text that a frame completes, if it is the last of its message
abbrev pub completed : List ℕ → FrameContent → Option (List ℕ)
completed held frame = if frame.last then Some (held ++ frame.text) else None

-- the whole texts of a list of frames, with this text held before them
abbrev pub groups : List ℕ → List FrameContent → List (List ℕ)
groups held [] = []
groups held (frame ∷ frames) = option_to_list (completed held frame) ++ groups (held_with held frame) frames

-- what a list of frames leaves held
abbrev pub rest : List ℕ → List FrameContent → List ℕ
rest held [] = held
rest held (frame ∷ frames) = rest (held_with held frame) frames
