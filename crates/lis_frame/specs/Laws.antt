-- The statements of the laws.
use Rattle.std.specs.Prelude.{◌≡◌, ℕ, List, [], ◌∷◌, ◌++◌, Some}
use Rattle.lis_frame.specs.declared.scanner.SignalOf.TheVariants.{Good}
use Rattle.lis_frame.specs.Frame.{FrameContent, IsContent, IsFrame, frame_bytes}
use Rattle.lis_frame.specs.Stream.{signal_after, signals_after, stream_with}

-- a stream read in two parts gives the signals of the first part and then those of the second
abbrev pub NoSplitMatters : Type 0
NoSplitMatters =
    (limit : ℕ) (past xs ys : List ℕ) →
    signals_after limit past (xs ++ ys) ≡ signals_after limit past xs ++ signals_after limit (stream_with past xs) ys

-- what is written for a frame is that frame
abbrev pub WrittenAreFrames : Type 0
WrittenAreFrames = (limit : ℕ) (frame : FrameContent) → IsContent limit frame → IsFrame limit (frame_bytes frame) frame

-- bytes that are a frame, with digits in either case, are heard as it and as nothing else, whatever came before them
abbrev pub FramesAreHeard : Type 0
FramesAreHeard =
    (limit : ℕ) (past bytes : List ℕ) (frame : FrameContent) → IsFrame limit bytes frame →
    signals_after limit past bytes ≡ Good frame ∷ []

-- the last bytes of a stream, which is kept newest byte first, are the frame
pub record EndsWithFrame (limit : ℕ) (stream : List ℕ) (frame : FrameContent) : Type 0 where
  pub earlier : List ℕ
  pub bytes : List ℕ
  pub is_frame : IsFrame limit bytes frame
  pub stream_is : stream ≡ stream_with earlier bytes

-- a byte is heard as a frame only where the frame's bytes are the last of the stream that it ends
abbrev pub HeardAreFrames : Type 0
HeardAreFrames =
    (limit : ℕ) (past : List ℕ) (b : ℕ) (frame : FrameContent) → signal_after limit past b ≡ Some (Good frame) →
    EndsWithFrame limit (b ∷ past) frame
