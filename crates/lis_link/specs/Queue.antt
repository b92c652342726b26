-- What a sender keeps of its session: the texts, and the frames from the present one on.
use Rattle.std.specs.Prelude.{◌≡◌, ℕ, ◌<◌, ◌≤◌, List, [], length, drop, Option, None, Some}
use Rattle.lis_frame.specs.Frame.{FrameContent}
use Rattle.lis_frame.specs.Limit.{IsLimit}
use Rattle.lis_frame.specs.Pieces.{session_frames}
use Rattle.lis_link.specs.declared.sender.Phase.{Phase}
use Rattle.lis_link.specs.declared.sender.Phase.TheVariants.{Neutral, AwaitLine, Busy, Contention, AwaitReply}

pub record Queue : Type 0 where
  pub texts : List (List ℕ)
  pub left : List FrameContent

-- the frames of a sender's session; none where no session goes on
abbrev pub frames_of : ℕ → Option Queue → List FrameContent
frames_of limit None = []
frames_of limit (Some queue) = session_frames limit queue.texts

-- the queue is after the acknowledged frames
abbrev pub IsQueueAfter : ℕ → Option Queue → ℕ → Type 0
IsQueueAfter limit None acknowledged = Unit {0}
IsQueueAfter limit (Some queue) acknowledged = queue.left ≡ drop acknowledged (session_frames limit queue.texts)

-- how many frames may be acknowledged, by phases
abbrev pub PhaseFits : Phase → ℕ → ℕ → Type 0
PhaseFits Neutral acknowledged frames = Unit {0}
PhaseFits AwaitLine acknowledged frames = acknowledged ≡ 0
PhaseFits Busy acknowledged frames = acknowledged ≡ 0
PhaseFits Contention acknowledged frames = acknowledged ≡ 0
PhaseFits AwaitReply acknowledged frames = acknowledged < frames

-- what holds of each sender
pub record IsSender (limit : ℕ) (queue : Option Queue) (acknowledged : ℕ) (phase : Phase) (tries : ℕ) : Type 0 where
  pub is_limit : IsLimit limit
  pub represents : IsQueueAfter limit queue acknowledged
  pub few : length (frames_of limit queue) < 4294967295
  pub fits : PhaseFits phase acknowledged (length (frames_of limit queue))
  pub few_tries : tries ≤ 6
