-- A capture says no more than it has bytes.
use Rattle.std.proofs.Common.{◌≡◌, ℕ, ◌+◌, ◌≤◌, ◌==◌, nat_lt, Bool, true, false, List, [], ◌∷◌, ◌++◌, Option, None}
use Rattle.std.proofs.Common.{Some, Ok, Err, length, length-append, refl, arith, if◌then◌else◌}
use Rattle.std.specs.Prelude.{codes, max}
use Rattle.std.proofs.lemmas.Bool.{ltb-true}
use Rattle.std.proofs.lemmas.Bool.Decides.{nat_tests}
use Rattle.std.specs.Option.{option_or}
use Rattle.std.specs.Result.{result_ok}
use Rattle.std.specs.Str.{bytes_eq}
use Rattle.std.specs.declared.result.Result.{Result}
use Rattle.hex.specs.Hex.{decode_of}
use Rattle.hex.specs.declared.error.FromHexError.{FromHexError}
use Rattle.hex.proofs.HexLemmas.{decode_of-ok}
use Rattle.lis_text.specs.Control.{LF}
use Rattle.lis_text.specs.declared.readiness.Readiness.TheVariants.{Ready, Busy, Contending}
use Rattle.lis_capture.specs.declared.line.CaptureVersion.{CaptureVersion}
use Rattle.lis_capture.specs.declared.line.CaptureVersion.TheVariants.{Unsaid, First, Second}
use Rattle.lis_capture.specs.declared.line.Line.{Line}
use Rattle.lis_capture.specs.declared.line.Line.TheVariants.{Empty, FromAnalyzer, FromComputer, Timer, Restart}
use Rattle.lis_capture.specs.declared.line.Line.TheVariants.{SetReady, Version}
use Rattle.lis_capture.specs.Digits.{bytes_of}
use Rattle.lis_capture.specs.Line.{added_line, line_of, longest_line, plain_line, said, sent_by, without_return}
use Rattle.lis_capture.specs.Capture.{begun, capture, counts, ended_lines, line_size, lines_with_next, read_lines, size}
use Rattle.lis_capture.specs.Capture.{version_of, with_said}
use Rattle.lis_capture.proofs.LineLemmas.{without_return-length}

-- ---- a line that has a byte says no more than it is long

-- what a line of so many bytes may report
abbrev most : List ℕ → ℕ
most text = max 1 (length text)

abbrev said_size : Option Line → ℕ
said_size None = 0
said_size (Some line) = line_size line

abbrev ok_size : Option (List ℕ) → ℕ
ok_size None = 0
ok_size (Some bytes) = length bytes

pairs_size : (digits : List ℕ) (r : Result (List ℕ) FromHexError) → decode_of digits ≡ r
    → ok_size (result_ok r) ≤ length digits
pairs_size digits (Ok bytes) is = omega (arith, (decode_of-ok digits bytes is).2)
pairs_size digits (Err e) is = omega arith

bytes_size : (digits : List ℕ) → ok_size (bytes_of digits) ≤ length digits
bytes_size [] = omega arith
bytes_size (d ∷ digits) = pairs_size (d ∷ digits) (decode_of (d ∷ digits)) refl

test_size : (t : Bool) (line : Line) (rest : Option Line) (n : ℕ) → line_size line ≤ n → said_size rest ≤ n
    → said_size (if t then Some line else rest) ≤ n
test_size true line rest n here there = here
test_size false line rest n here there = there

sent_size : (mark : List ℕ) (o : Option (List ℕ)) (n : ℕ) → ok_size o ≤ n → said_size (sent_by mark o) ≤ n + 1
sent_size mark None n few = omega arith
sent_size mark (Some bytes) n few =
    test_size (bytes_eq mark (codes "> ")) (FromAnalyzer bytes) _ (n + 1) (omega (arith, few))
    (test_size (bytes_eq mark (codes "< ")) (FromComputer bytes) None (n + 1) (omega (arith, few)) (omega arith))

plain_size : (text : List ℕ) → said_size (plain_line text) ≤ most text
plain_size [] = omega arith
plain_size (letter ∷ []) = test_size (bytes_eq (letter ∷ []) (codes "T")) Timer None _ (omega arith) (omega arith)
plain_size (mark ∷ space ∷ digits) =
    omega (arith, sent_size (mark ∷ space ∷ []) (bytes_of digits) (length digits) (bytes_size digits))

added_size : (text : List ℕ) → said_size (added_line text) ≤ 1
added_size text =
    test_size (bytes_eq text (codes "R")) Restart _ 1 (omega arith)
    (test_size (bytes_eq text (codes "S ready")) (SetReady Ready) _ 1 (omega arith)
    (test_size (bytes_eq text (codes "S busy")) (SetReady Busy) _ 1 (omega arith)
    (test_size (bytes_eq text (codes "S contending")) (SetReady Contending) None 1 (omega arith) (omega arith))))

or_size : (a b : Option Line) (n : ℕ) → said_size a ≤ n → said_size b ≤ n → said_size (option_or a b) ≤ n
or_size None b n here there = there
or_size (Some line) b n here there = here

said_fits : (version : CaptureVersion) (text : List ℕ) → said_size (said version text) ≤ most text
said_fits Unsaid text = test_size (bytes_eq text (codes "capture 2")) Version _ _ (omega arith) (plain_size text)
said_fits First text = plain_size text
said_fits Second text = or_size (plain_line text) (added_line text) _ (plain_size text) (omega (arith, added_size text))

by_length : (t : Bool) (line : Option Line) (n : ℕ) → said_size line ≤ n → said_size (if t then None else line) ≤ n
by_length true line n few = omega arith
by_length false line n few = few

line_fits : (version : CaptureVersion) (text : List ℕ) → said_size (line_of version text) ≤ most text
line_fits version text =
    by_length (nat_lt longest_line (length text)) _ _
    (omega (arith, said_fits version (without_return text), without_return-length text))

-- ---- and so do the lines

with_fits : (lines : List Line) (o : Option Line) → size (with_said lines o).lines ≤ said_size o + size lines
with_fits lines None = omega arith
with_fits lines (Some line) = omega arith

next_fits : (refused : Bool) (lines : List Line) (text : List ℕ)
    → size (lines_with_next refused lines text).lines ≤ size lines + most text
next_fits true lines text = omega arith
next_fits false lines text =
    omega (arith, with_fits lines (line_of (version_of lines) text), line_fits (version_of lines) text)

abbrev following : Bool → ℕ → List ℕ → List (List ℕ) → ℕ
following ends b text texts =
    size (read_lines (if ends then text ∷ texts else texts)).lines + length (if ends then [] else text ++ b ∷ [])

byte_fits : (ends : Bool) (b : ℕ) (text : List ℕ) (texts : List (List ℕ))
    → following ends b text texts ≤ size (read_lines texts).lines + length text + 1
byte_fits true b text texts = omega (arith, next_fits (read_lines texts).refused (read_lines texts).lines text)
byte_fits false b text texts = omega (arith, length-append text (b ∷ []))

ended_fit : (past : List ℕ) → size (read_lines (ended_lines past)).lines + length (begun past) ≤ length past
ended_fit [] = omega arith
ended_fit (b ∷ past) = omega (arith, byte_fits (b == LF) b (begun past) (ended_lines past), ended_fit past)

-- at the end of the input a line that is begun has a byte, and before it one that counts is too long
begun_fits : (counted : Bool) (text : List ℕ) (texts : List (List ℕ)) → (counted ≡ true → 1 ≤ length text)
    → size (read_lines (if counted then text ∷ texts else texts)).lines ≤ size (read_lines texts).lines + length text
begun_fits true text texts some =
    omega (arith, next_fits (read_lines texts).refused (read_lines texts).lines text, some refl)
begun_fits false text texts some = omega arith

counts_some : (ended : Bool) (text : List ℕ) → counts ended text ≡ true → 1 ≤ length text
counts_some true text counted = grind (arith, nat_tests)
counts_some false text counted = omega (arith, ltb-true longest_line (length text) counted)

pub size-capture : (past : List ℕ) (ended : Bool) → size (capture past ended).lines ≤ length past
size-capture past ended =
    let last = begun_fits (counts ended (begun past)) (begun past) (ended_lines past)
    (counts_some ended (begun past)) in
    omega (arith, last, ended_fit past)

one_line : (line : Line) → 1 ≤ line_size line
one_line Empty = omega arith
one_line (FromAnalyzer bytes) = omega arith
one_line (FromComputer bytes) = omega arith
one_line Timer = omega arith
one_line Restart = omega arith
one_line (SetReady readiness) = omega arith
one_line Version = omega arith

pub length-size : (lines : List Line) → length lines ≤ size lines
length-size [] = omega arith
length-size (line ∷ lines) = omega (arith, length-size lines, one_line line)
