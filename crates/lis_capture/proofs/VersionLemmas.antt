-- The line of the version is a capture's first or there is none; so upgrading adds one line at most, in front.
use Rattle.std.proofs.Common.{◌≡◌, ℕ, nat_lt, Bool, true, false, List, [], ◌∷◌, ◌++◌, Option, None, Some, length}
use Rattle.std.proofs.Common.{refl, ◌∙◌, ap, if◌then◌else◌}
use Rattle.std.specs.Prelude.{codes}
use Rattle.std.specs.Option.{option_or}
use Rattle.std.specs.Str.{bytes_eq}
use Rattle.lis_text.specs.declared.readiness.Readiness.TheVariants.{Ready, Busy, Contending}
use Rattle.lis_capture.specs.declared.line.CaptureVersion.{CaptureVersion}
use Rattle.lis_capture.specs.declared.line.CaptureVersion.TheVariants.{Unsaid, First, Second}
use Rattle.lis_capture.specs.declared.line.Line.{Line}
use Rattle.lis_capture.specs.declared.line.Line.TheVariants.{Empty, FromAnalyzer, FromComputer, Timer, Restart}
use Rattle.lis_capture.specs.declared.line.Line.TheVariants.{SetReady, Version}
use Rattle.lis_capture.specs.Digits.{bytes_of}
use Rattle.lis_capture.specs.Line.{added_line, line_of, longest_line, plain_line, said, sent_by, version_after}
use Rattle.lis_capture.specs.Line.{without_return}
use Rattle.lis_capture.specs.Capture.{capture, lines_of, lines_with_next, read_lines, version_of, with_said}
use Rattle.lis_capture.specs.Encoding.{upgraded_lines}
use Rattle.lis_capture.proofs.EncodingLemmas.{is_version, upgraded_other}

-- ---- no line but the first is the version's

abbrev Other : Option Line → Type 0
Other None = Unit {0}
Other (Some line) = is_version line ≡ false

other_by : (t : Bool) (line : Line) (rest : Option Line) → is_version line ≡ false → Other rest
    → Other (if t then Some line else rest)
other_by true line rest here there = here
other_by false line rest here there = there

other_sent : (mark : List ℕ) (o : Option (List ℕ)) → Other (sent_by mark o)
other_sent mark None = tt
other_sent mark (Some bytes) =
    other_by (bytes_eq mark (codes "> ")) (FromAnalyzer bytes) _ refl
    (other_by (bytes_eq mark (codes "< ")) (FromComputer bytes) None refl tt)

other_plain : (text : List ℕ) → Other (plain_line text)
other_plain [] = refl
other_plain (letter ∷ []) = other_by (bytes_eq (letter ∷ []) (codes "T")) Timer None refl tt
other_plain (mark ∷ space ∷ digits) = other_sent (mark ∷ space ∷ []) (bytes_of digits)

other_added : (text : List ℕ) → Other (added_line text)
other_added text =
    other_by (bytes_eq text (codes "R")) Restart _ refl
    (other_by (bytes_eq text (codes "S ready")) (SetReady Ready) _ refl
    (other_by (bytes_eq text (codes "S busy")) (SetReady Busy) _ refl
    (other_by (bytes_eq text (codes "S contending")) (SetReady Contending) None refl tt)))

other_or : (a b : Option Line) → Other a → Other b → Other (option_or a b)
other_or None b from_a from_b = from_b
other_or (Some line) b from_a from_b = from_a

-- ---- what upgrading adds, by the version

abbrev pub Gains : CaptureVersion → List Line → Type 0
Gains Unsaid lines = lines ≡ []
Gains First lines = upgraded_lines lines ≡ lines ++ Version ∷ []
Gains Second lines = upgraded_lines lines ≡ lines

abbrev GainsWith : CaptureVersion → List Line → Option Line → Type 0
GainsWith version lines None = Unit {0}
GainsWith version lines (Some line) = Gains (version_after version line) (line ∷ lines)

gains_first : (line : Line) → Gains (version_after Unsaid line) (line ∷ [])
gains_first Empty = refl
gains_first (FromAnalyzer bytes) = refl
gains_first (FromComputer bytes) = refl
gains_first Timer = refl
gains_first Restart = refl
gains_first (SetReady readiness) = refl
gains_first Version = refl

gains_unsaid : (lines : List Line) (o : Option Line) → lines ≡ [] → GainsWith Unsaid lines o
gains_unsaid lines None none = tt
gains_unsaid [] (Some line) none = gains_first line
gains_unsaid (first ∷ lines) (Some line) none = cc

gains_one : (lines : List Line) (o : Option Line) → Other o → Gains First lines → GainsWith First lines o
gains_one lines None other before = tt
gains_one lines (Some line) other before = upgraded_other line lines other ∙ ap (λ (l : List Line). line ∷ l) before

gains_two : (lines : List Line) (o : Option Line) → Other o → Gains Second lines → GainsWith Second lines o
gains_two lines None other before = tt
gains_two lines (Some line) other before = upgraded_other line lines other ∙ ap (λ (l : List Line). line ∷ l) before

gains_said : (version : CaptureVersion) (lines : List Line) (text : List ℕ) → Gains version lines
    → GainsWith version lines (said version text)
gains_said Unsaid lines text before = gains_unsaid lines (said Unsaid text) before
gains_said First lines text before = gains_one lines (said First text) (other_plain text) before
gains_said Second lines text before =
    gains_two lines (said Second text)
    (other_or (plain_line text) (added_line text) (other_plain text) (other_added text)) before

gains_long : (long : Bool) (version : CaptureVersion) (lines : List Line) (text : List ℕ) → Gains version lines
    → GainsWith version lines (if long then None else said version text)
gains_long true version lines text before = tt
gains_long false version lines text before = gains_said version lines text before

gains_with : (lines : List Line) (o : Option Line)
    → Gains (version_of lines) lines → GainsWith (version_of lines) lines o
    → Gains (version_of (with_said lines o).lines) (with_said lines o).lines
gains_with lines None before said = before
gains_with lines (Some line) before said = said

gains_next : (refused : Bool) (lines : List Line) (text : List ℕ) → Gains (version_of lines) lines
    → Gains (version_of (lines_with_next refused lines text).lines) (lines_with_next refused lines text).lines
gains_next true lines text before = before
gains_next false lines text before =
    gains_with lines (line_of (version_of lines) text) before
    (gains_long (nat_lt longest_line (length text)) (version_of lines) lines (without_return text) before)

gains_read : (texts : List (List ℕ)) → Gains (version_of (read_lines texts).lines) (read_lines texts).lines
gains_read [] = refl
gains_read (text ∷ texts) = gains_next (read_lines texts).refused (read_lines texts).lines text (gains_read texts)

pub gains-capture :
    (past : List ℕ) (ended : Bool) → Gains (version_of (capture past ended).lines) (capture past ended).lines
gains-capture past ended = gains_read (lines_of past ended)
