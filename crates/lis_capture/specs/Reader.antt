-- What a reader of captures keeps.
use Rattle.std.specs.Prelude.{◌≡◌, ℕ, ◌+◌, ◌<◌, ◌≤◌, Bool, true, false, List, [], ◌∷◌, length, take, Option, IfSome}
use Rattle.std.specs.Prelude.{MatchOption}
use Rattle.memchr.specs.Find.{IsFirstByte, is_byte}
use Rattle.lis_text.specs.Control.{LF}
use Rattle.lis_bytes.specs.Capped.{capped}
use Rattle.lis_frame.specs.Stream.{stream_with}
use Rattle.lis_capture.specs.declared.line.CaptureVersion.{CaptureVersion}
use Rattle.lis_capture.specs.declared.line.Line.{Line}
use Rattle.lis_capture.specs.declared.line.Line.TheVariants.{Empty}
use Rattle.lis_capture.specs.declared.reader.LineFound.{LineFound}
use Rattle.lis_capture.specs.declared.reader.LineFound.TheVariants as found
use Rattle.lis_capture.specs.Line.{line_of, reports_bytes}
use Rattle.lis_capture.specs.Capture.{Lines, begun, capture, number_of, version_of}

-- what is to be known of the lines so far: their version, whether one is rejected, the number of the last one, and what
-- the last one says that isn't rejected
pub record Known : Type 0 where
  pub version : CaptureVersion
  pub refused : Bool
  pub number : ℕ
  pub line : Line

-- next to it, the bytes of the line that is begun
pub record Reading : Type 0 where
  pub known : Known
  pub held : List ℕ

abbrev pub last_line : List Line → Line
last_line [] = Empty
last_line (line ∷ lines) = line

abbrev pub known_of : Lines → Known
known_of read = record {
  version = version_of read.lines;
  refused = read.refused;
  number = capped (number_of read);
  line = last_line read.lines;
}

-- the reader has read these bytes, newest first
pub record HasRead (reader : Reading) (past : List ℕ) : Type 0 where
  pub known_is : reader.known ≡ known_of (capture past false)
  pub held_is : (capture past false).refused ≡ false → reader.held ≡ begun past

-- the lines with what was found after them
abbrev pub found_lines : Lines → LineFound → Line → Lines
found_lines read found.Nothing line = read
found_lines read found.Line line = record { lines = line ∷ read.lines; refused = false }
found_lines read found.Refused line = record { lines = read.lines; refused = true }

-- so many of these bytes: with the first LF, or all where there is none
pub record ReadsLine (bytes : List ℕ) (count : ℕ) : Type 0 where
  pub place : Option ℕ
  pub first : IsFirstByte (is_byte LF) bytes place
  pub count_is : MatchOption place (count ≡ length bytes) (λ p. count ≡ p + 1)

-- the reader has read so many of further bytes, which end a line that says something
pub record CopiesLine (old new : Reading) (bytes : List ℕ) (count : ℕ) : Type 0 where
  pub some : 0 < count
  pub within : count ≤ length bytes
  pub found_is : (past : List ℕ) → HasRead old past → capture (stream_with past (take count bytes)) false
      ≡ found_lines (capture past false) found.Line new.known.line
  pub after : (past : List ℕ) → HasRead old past → HasRead new (stream_with past (take count bytes))

-- the bytes end no line, or their first LF ends one that reports no bytes
pub record EndsOther (version : CaptureVersion) (bytes : List ℕ) : Type 0 where
  pub place : Option ℕ
  pub first : IsFirstByte (is_byte LF) bytes place
  pub other : IfSome place (λ p. reports_bytes (line_of version (take p bytes)) ≡ false)
