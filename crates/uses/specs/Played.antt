-- What is said about a capture that is played to a new receiver.
use Rattle.std.specs.Prelude.{◌≡◌, ℕ, ◌≤◌, ◌↔◌, Bool, true, false, List, [], IsTrue, length, ⊤}
use Rattle.lis_capture.specs.Capture.{capture, number_of}
use Rattle.lis_frame.specs.Stream.{stream_with}
use Rattle.lis_engine.specs.declared.fault.ToolFault.{ToolFault}
use Rattle.lis_engine.specs.declared.fault.ToolFault.TheVariants.{CaptureLine, Read, Write, OutOfMemory, TooManyReads}
use Rattle.lis_run.specs.Replay.{all_differences}

-- each line is one, and this is whether each reply of the computer is the receiver's
pub record WasPlayed (bytes : List ℕ) (same : Bool) : Type 0 where
  pub whole : (capture (stream_with [] bytes) true).refused ≡ false
  pub reported : IsTrue same ↔ (all_differences 240 (capture (stream_with [] bytes) true).lines ≡ 0)

-- The number of a line is that of the first that says nothing. Memory may be wanted. The reads are too many only of a
-- capture that is longer than they can be counted.
abbrev pub WasNotPlayed : List ℕ → ToolFault → Type 0
WasNotPlayed bytes (CaptureLine line) =
    let all = capture (stream_with [] bytes) true in (all.refused ≡ true) × (line ≡ number_of all)
WasNotPlayed bytes OutOfMemory = ⊤
WasNotPlayed bytes TooManyReads = 4294967294 ≤ length bytes
WasNotPlayed bytes Read = ⊥
WasNotPlayed bytes (Write written) = ⊥
