-- The definitions at captures whose lines are known from outside, by computation.
use Rattle.std.proofs.Common.{◌≡◌, [], ◌∷◌, ◌++◌, None, Some, refl, true, false, replicate}
use Rattle.std.specs.Prelude.{codes}
use Rattle.hex.specs.Hex.{decode_pairs, encode_with}
use Rattle.lis_frame.specs.Stream.{stream_with}
use Rattle.lis_text.specs.declared.readiness.Readiness.TheVariants.{Ready, Busy, Contending}
use Rattle.lis_capture.specs.declared.line.CaptureVersion.TheVariants.{First}
use Rattle.lis_capture.specs.declared.line.Line.TheVariants.{Empty, FromAnalyzer, FromComputer, Timer, Restart}
use Rattle.lis_capture.specs.declared.line.Line.TheVariants.{SetReady, Version}
use Rattle.lis_capture.specs.Line.{line_of}
use Rattle.lis_capture.specs.Capture.{capture}
use Rattle.lis_capture.specs.Encoding.{upgraded}

-- lines are newest first
version_one :
    capture (stream_with [] (codes "> 05\r\n< 06\n\nT\n")) true
    ≡ record { lines = Timer ∷ Empty ∷ FromComputer (6 ∷ []) ∷ FromAnalyzer (5 ∷ []) ∷ []; refused = false }
unfolding decode_pairs
version_one = refl

version_two :
    capture (stream_with [] (codes "capture 2\r\nS busy\nS ready\nS contending\nR\n> 0aFf\n")) false
    ≡ record {
      lines =
          FromAnalyzer (10 ∷ 255 ∷ []) ∷ Restart ∷ SetReady Contending ∷ SetReady Ready ∷ SetReady Busy ∷ Version ∷ [];
      refused = false;
    }
unfolding decode_pairs
version_two = refl

-- a last line without LF is a line at the end of the input
last_line_before_the_end : capture (stream_with [] (codes "T\nT")) false
    ≡ record { lines = Timer ∷ []; refused = false }
last_line_before_the_end = refl

last_line_at_the_end : capture (stream_with [] (codes "T\nT")) true
    ≡ record { lines = Timer ∷ Timer ∷ []; refused = false }
last_line_at_the_end = refl

last_line_of_a_return : capture (stream_with [] (codes "T\n\r")) true
    ≡ record { lines = Empty ∷ Timer ∷ []; refused = false }
last_line_of_a_return = refl

nothing_after_the_last_end : capture (stream_with [] (codes "T\n")) true
    ≡ record { lines = Timer ∷ []; refused = false }
nothing_after_the_last_end = refl

no_line : capture [] true ≡ record { lines = []; refused = false }
no_line = refl

-- lines that are rejected, and what is before them
half_a_byte : capture (stream_with [] (codes "> 0")) true ≡ record { lines = []; refused = true }
unfolding decode_pairs
half_a_byte = refl

restart_in_version_one : capture (stream_with [] (codes "R\n")) true ≡ record { lines = []; refused = true }
restart_in_version_one = refl

version_three : capture (stream_with [] (codes "capture 3\n")) true ≡ record { lines = []; refused = true }
unfolding decode_pairs
version_three = refl

version_in_a_later_line :
    capture (stream_with [] (codes "> 05\ncapture 2\nT\n")) true
    ≡ record { lines = FromAnalyzer (5 ∷ []) ∷ []; refused = true }
unfolding decode_pairs
version_in_a_later_line = refl

version_twice : capture (stream_with [] (codes "capture 2\ncapture 2\n")) true
    ≡ record { lines = Version ∷ []; refused = true }
unfolding decode_pairs
version_twice = refl

no_readiness : capture (stream_with [] (codes "capture 2\nS off\n")) true
    ≡ record { lines = Version ∷ []; refused = true }
unfolding decode_pairs
no_readiness = refl

-- 4,096 bytes are a line, and 4,097 aren't, of which one is a CR
longest_line : line_of First (codes "> " ++ replicate 4094 0x41) ≡ Some (FromAnalyzer (replicate 2047 0xaa))
unfolding decode_pairs
longest_line = refl

longer_line : line_of First (codes "> " ++ replicate 4094 0x41 ++ 0x0d ∷ []) ≡ None
longer_line = refl

-- a session as one of version 2, whether it was of version 1 or 2
upgraded_session :
    upgraded (FromAnalyzer (4 ∷ []) ∷ FromComputer (6 ∷ []) ∷ FromAnalyzer (2 ∷ 0xe5 ∷ []) ∷ Empty ∷ [])
    ≡ codes "capture 2\n\n> 02e5\n< 06\n> 04\n"
unfolding encode_with
upgraded_session = refl

upgraded_version_two : upgraded (Timer ∷ SetReady Contending ∷ Version ∷ []) ≡ codes "capture 2\nS contending\nT\n"
upgraded_version_two = refl

upgraded_nothing : upgraded [] ≡ codes "capture 2\n"
upgraded_nothing = refl
