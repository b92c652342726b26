-- What a line of a capture says.
use Rattle.std.specs.Prelude.{ℕ, ◌==◌, nat_lt, Bool, true, false, List, [], ◌∷◌, length, codes, Option, None, Some}
use Rattle.std.specs.Prelude.{if◌then◌else◌}
use Rattle.std.specs.Option.{option_or}
use Rattle.std.specs.Str.{bytes_eq}
use Rattle.lis_text.specs.Control.{CR}
use Rattle.lis_text.specs.declared.readiness.Readiness.TheVariants.{Ready, Busy, Contending}
use Rattle.lis_capture.specs.declared.line.CaptureVersion.{CaptureVersion}
use Rattle.lis_capture.specs.declared.line.CaptureVersion.TheVariants.{Unsaid, First, Second}
use Rattle.lis_capture.specs.declared.line.Line.{Line}
use Rattle.lis_capture.specs.declared.line.Line.TheVariants.{Empty, FromAnalyzer, FromComputer, Timer, Restart}
use Rattle.lis_capture.specs.declared.line.Line.TheVariants.{SetReady, Version}
use Rattle.lis_capture.specs.Digits.{bytes_of}

-- the most bytes of a line before its LF; a CR that is dropped is one of them
abbrev pub longest_line : ℕ
longest_line = 4096

-- one CR at the end of a line is dropped
abbrev pub without_return : List ℕ → List ℕ
without_return [] = []
without_return (b ∷ []) = if b == CR then [] else b ∷ []
without_return (b ∷ c ∷ text) = b ∷ without_return (c ∷ text)

-- a mark, and the bytes after it: those of the analyzer after `> `, those of the computer after `< `
abbrev pub sent_by : List ℕ → Option (List ℕ) → Option Line
sent_by mark None = None
sent_by mark (Some bytes) =
    if bytes_eq mark (codes "> ") then Some (FromAnalyzer bytes)
    else if bytes_eq mark (codes "< ") then Some (FromComputer bytes)
    else None

-- the lines of both versions: nothing, `T`, or a mark and pairs of digits
abbrev pub plain_line : List ℕ → Option Line
plain_line [] = Some Empty
plain_line (letter ∷ []) = if bytes_eq (letter ∷ []) (codes "T") then Some Timer else None
plain_line (mark ∷ space ∷ digits) = sent_by (mark ∷ space ∷ []) (bytes_of digits)

-- the further lines of version 2
abbrev pub added_line : List ℕ → Option Line
added_line text =
    if bytes_eq text (codes "R") then Some Restart
    else if bytes_eq text (codes "S ready") then Some (SetReady Ready)
    else if bytes_eq text (codes "S busy") then Some (SetReady Busy)
    else if bytes_eq text (codes "S contending") then Some (SetReady Contending)
    else None

-- whether it has a mark: it reports bytes
abbrev pub reports_bytes : Option Line → Bool
reports_bytes None = false
reports_bytes (Some (FromAnalyzer bytes)) = true
reports_bytes (Some (FromComputer bytes)) = true
reports_bytes (Some line) = false

-- what a text says, by the version that the lines before it report; `capture 2` is the first line or none
abbrev pub said : CaptureVersion → List ℕ → Option Line
said Unsaid text = if bytes_eq text (codes "capture 2") then Some Version else plain_line text
said First text = plain_line text
said Second text = option_or (plain_line text) (added_line text)

-- what a line says; none says it where the line is too long or has no such form
abbrev pub line_of : CaptureVersion → List ℕ → Option Line
line_of version text = if nat_lt longest_line (length text) then None else said version (without_return text)

-- the version after a line: the first line says it
abbrev pub version_after : CaptureVersion → Line → CaptureVersion
version_after Unsaid Version = Second
version_after Unsaid line = First
version_after First line = First
version_after Second line = Second
