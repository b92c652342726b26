-- How lines are written: in version 2, with digits in lower case, without CR, and an LF after each.
use Rattle.std.specs.Prelude.{ℕ, List, [], ◌∷◌, ◌++◌, codes}
use Rattle.hex.specs.Hex.{encode_lower}
use Rattle.lis_text.specs.Control.{LF}
use Rattle.lis_text.specs.declared.readiness.Readiness.{Readiness}
use Rattle.lis_text.specs.declared.readiness.Readiness.TheVariants.{Ready, Busy, Contending}
use Rattle.lis_capture.specs.declared.line.Line.{Line}
use Rattle.lis_capture.specs.declared.line.Line.TheVariants.{Empty, FromAnalyzer, FromComputer, Timer, Restart}
use Rattle.lis_capture.specs.declared.line.Line.TheVariants.{SetReady, Version}

-- a line without its LF
abbrev pub readiness_text : Readiness → List ℕ
readiness_text Ready = codes "S ready"
readiness_text Busy = codes "S busy"
readiness_text Contending = codes "S contending"

abbrev pub line_text : Line → List ℕ
line_text Empty = []
line_text (FromAnalyzer bytes) = codes "> " ++ encode_lower bytes
line_text (FromComputer bytes) = codes "< " ++ encode_lower bytes
line_text Timer = codes "T"
line_text Restart = codes "R"
line_text (SetReady readiness) = readiness_text readiness
line_text Version = codes "capture 2"

-- and with it
abbrev pub line_encoding : Line → List ℕ
line_encoding line = line_text line ++ LF ∷ []

-- ---- a capture as one of version 2

-- what a line is written as; the version's is in front, once
abbrev pub added_encoding : Line → List ℕ
added_encoding Version = []
added_encoding line = line_encoding line

-- the text: `capture 2`, and then each line in its order
abbrev pub upgraded : List Line → List ℕ
upgraded [] = line_encoding Version
upgraded (line ∷ lines) = upgraded lines ++ added_encoding line

-- and the lines that it says
abbrev pub upgraded_lines : List Line → List Line
upgraded_lines [] = Version ∷ []
upgraded_lines (Version ∷ lines) = upgraded_lines lines
upgraded_lines (line ∷ lines) = line ∷ upgraded_lines lines
