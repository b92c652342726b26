-- The statements of the laws.
use Rattle.std.specs.Prelude.{◌≡◌, ◌≤◌, ◌<◌, ◌-◌, ◌^◌, ℕ, Bool, true, false, List, [], length}
use Rattle.lis_frame.specs.Stream.{stream_with}
use Rattle.lis_capture.specs.declared.line.Line.{Line}
use Rattle.lis_capture.specs.Capture.{capture, number_of, size}
use Rattle.lis_capture.specs.Reader.{HasRead, Reading}
use Rattle.lis_capture.specs.Encoding.{upgraded, upgraded_lines}

-- the lines of a capture and the bytes that they report are together no more than its bytes
abbrev pub ReportsNoMore : Type 0
ReportsNoMore =
    (past : List ℕ) (ended : Bool)
    → (size (capture past ended).lines ≤ length past)
    × (length (capture past ended).lines ≤ size (capture past ended).lines)

-- the number that a reader reports is that of the last line, in any capture that can be read
abbrev pub NumbersAreExact : Type 0
NumbersAreExact =
    (reader : Reading) (past : List ℕ) → HasRead reader past → length past < 2 ^ 64 - 1
    → reader.known.number ≡ number_of (capture past false)

-- where a line is rejected, whatever follows says nothing
abbrev pub RefusedForGood : Type 0
RefusedForGood =
    (past bytes : List ℕ) (ended : Bool) → (capture past false).refused ≡ true
    → capture (stream_with past bytes) ended ≡ capture past false

-- the lines of a capture, written as one of version 2, are read as these lines after `capture 2`; written so again
-- they are the same text
abbrev pub UpgradedIsRead : Type 0
UpgradedIsRead =
    (past : List ℕ) (ended end : Bool) (lines : List Line)
    → capture past ended ≡ record { lines = lines; refused = false }
    → (capture (stream_with [] (upgraded lines)) end ≡ record { lines = upgraded_lines lines; refused = false })
    × (upgraded (upgraded_lines lines) ≡ upgraded lines)
