-- A capture: what a stream of bytes says line by line. Bytes and lines are kept newest first.
use Rattle.std.specs.Prelude.{ℕ, ◌+◌, ◌==◌, nat_lt, not, Bool, true, false, List, [], ◌∷◌, ◌++◌, length, Option, None}
use Rattle.std.specs.Prelude.{Some, if◌then◌else◌}
use Rattle.lis_text.specs.Control.{LF}
use Rattle.lis_capture.specs.declared.line.CaptureVersion.{CaptureVersion}
use Rattle.lis_capture.specs.declared.line.CaptureVersion.TheVariants.{Unsaid}
use Rattle.lis_capture.specs.declared.line.Line.{Line}
use Rattle.lis_capture.specs.declared.line.Line.TheVariants.{FromAnalyzer, FromComputer}
use Rattle.lis_capture.specs.Line.{longest_line, line_of, version_after}

-- ---- the lines of a stream

-- the bytes since the last LF
abbrev pub begun : List ℕ → List ℕ
begun [] = []
begun (b ∷ past) = if b == LF then [] else begun past ++ b ∷ []

-- the lines that an LF ends
abbrev pub ended_lines : List ℕ → List (List ℕ)
ended_lines [] = []
ended_lines (b ∷ past) = if b == LF then begun past ∷ ended_lines past else ended_lines past

-- the bytes since the last LF are a line too: at the end of the input where there is one, and before the end as soon as
-- they are too many
abbrev pub counts : Bool → List ℕ → Bool
counts true text = not (length text == 0)
counts false text = nat_lt longest_line (length text)

abbrev pub lines_of : List ℕ → Bool → List (List ℕ)
lines_of past ended = if counts ended (begun past) then begun past ∷ ended_lines past else ended_lines past

-- ---- the lines that are carried out

-- the version that lines report
abbrev pub version_of : List Line → CaptureVersion
version_of [] = Unsaid
version_of (line ∷ lines) = version_after (version_of lines) line

-- the lines before the first that says nothing, and whether there is such a line
pub record Lines : Type 0 where
  pub lines : List Line
  pub refused : Bool

abbrev pub with_said : List Line → Option Line → Lines
with_said lines None = record { lines = lines; refused = true }
with_said lines (Some line) = record { lines = line ∷ lines; refused = false }

-- nothing is carried out after a rejected line
abbrev pub lines_with_next : Bool → List Line → List ℕ → Lines
lines_with_next true lines text = record { lines = lines; refused = true }
lines_with_next false lines text = with_said lines (line_of (version_of lines) text)

abbrev pub read_lines : List (List ℕ) → Lines
read_lines [] = record { lines = []; refused = false }
read_lines (text ∷ texts) = lines_with_next (read_lines texts).refused (read_lines texts).lines text

-- what a capture says, of which these bytes were read, with or without its end
abbrev pub capture : List ℕ → Bool → Lines
capture past ended = read_lines (lines_of past ended)

-- the number of the last line, from 1, of a rejected one too
abbrev pub number_of : Lines → ℕ
number_of read = if read.refused then length read.lines + 1 else length read.lines

-- ---- how much lines report

-- the bytes of a line, and one more for the line
abbrev pub line_size : Line → ℕ
line_size (FromAnalyzer bytes) = length bytes + 1
line_size (FromComputer bytes) = length bytes + 1
line_size line = 1

abbrev pub size : List Line → ℕ
size [] = 0
size (line ∷ lines) = line_size line + size lines
