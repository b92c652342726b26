-- What is written is read: lines in version 2.
use Rattle.std.proofs.Common.{◌≡◌, ◌≢◌, ℕ, zero, suc, ◌*◌, ◌/◌, ◌%◌, ◌<◌, ◌≤◌, ◌==◌, nat_lt, Bool, true, false, ◌&&◌}
use Rattle.std.proofs.Common.{List, [], ◌∷◌, ◌++◌, Option, None, Some, length, slice_index, refl, sym, ◌∙◌, ap, subst}
use Rattle.std.proofs.Common.{arith, append-nil, if◌then◌else◌}
use Rattle.std.specs.Prelude.{codes}
use Rattle.std.specs.Str.{bytes_eq}
use Rattle.std.specs.Option.{option_or}
use Rattle.std.specs.Result.{result_ok}
use Rattle.std.proofs.lemmas.Bool.{le-ltb, cases_lt}
use Rattle.std.proofs.Common.{inl, inr}
use Rattle.std.proofs.lemmas.Bool.Decides.{nat_tests}
use Rattle.hex.specs.Hex.{IsBytes, decode_of, decode_pairs, encode_lower, encode_with, lower_digits}
use Rattle.hex.specs.declared.error.FromHexError.{FromHexError}
use Rattle.std.specs.declared.result.Result.{Result}
use Rattle.std.specs.declared.result.Result.TheVariants.{Ok, Err}
use Rattle.hex.proofs.HexLemmas.{decode_of-encode_lower, decode_of-ok, length-encode_with}
use Rattle.lis_text.specs.Control.{CR, LF}
use Rattle.lis_frame.specs.Stream.{stream_with}
use Rattle.lis_text.specs.declared.readiness.Readiness.TheVariants.{Ready, Busy, Contending}
use Rattle.lis_capture.specs.declared.line.CaptureVersion.{CaptureVersion}
use Rattle.lis_capture.specs.declared.line.CaptureVersion.TheVariants.{Unsaid, First, Second}
use Rattle.lis_capture.specs.declared.line.Line.{Line}
use Rattle.lis_capture.specs.declared.line.Line.TheVariants.{Empty, FromAnalyzer, FromComputer, Timer, Restart}
use Rattle.lis_capture.specs.declared.line.Line.TheVariants.{SetReady, Version}
use Rattle.lis_capture.specs.Digits.{bytes_of}
use Rattle.lis_capture.specs.Line.{added_line, line_of, longest_line, plain_line, said, sent_by, without_return}
use Rattle.lis_capture.specs.Capture.{Lines, begun, capture, counts, ended_lines, lines_with_next, read_lines}
use Rattle.lis_capture.specs.Capture.{version_of}
use Rattle.lis_capture.specs.Capture.{with_said}
use Rattle.lis_capture.specs.Encoding.{added_encoding, line_encoding, line_text, upgraded, upgraded_lines}
use Rattle.lis_capture.specs.inside.Encoding.{lines_encoding}
use Rattle.lis_capture.proofs.CaptureLemmas.{begun-within, ended_lines-within, has_end}
use Rattle.lis_capture.proofs.LineLemmas.{without_return-length}
use Rattle.lis_frame.proofs.StreamLaws.{stream_with-append}

-- ---- texts of bytes that are neither CR nor LF

abbrev pub is_plain : List ℕ → Bool
is_plain [] = true
is_plain (b ∷ text) = nat_lt 31 b && is_plain text

plain_parts : (x y : Bool) → (x && y) ≡ true → (x ≡ true) × (y ≡ true)
plain_parts true y e = (refl, e)
plain_parts false y e = cc

both : (x y : Bool) → x ≡ true → y ≡ true → (x && y) ≡ true
both true y e f = f
both false y e f = cc

above : (b : ℕ) → nat_lt 31 b ≡ true → (b == LF) ≡ false
above b e = grind (arith, nat_tests)

above_return : (b : ℕ) → nat_lt 31 b ≡ true → (b == CR) ≡ false
above_return b e = grind (arith, nat_tests)

pub has_end-plain : (text : List ℕ) → is_plain text ≡ true → has_end text ≡ false
has_end-plain [] plain = refl
has_end-plain (b ∷ text) plain =
    let parts = plain_parts (nat_lt 31 b) (is_plain text) plain in
    rw (above b parts.0) (has_end-plain text parts.1)

pub without_return-plain : (text : List ℕ) → is_plain text ≡ true → without_return text ≡ text
without_return-plain [] plain = refl
without_return-plain (b ∷ []) plain = rw (above_return b (plain_parts (nat_lt 31 b) true plain).0) refl
without_return-plain (b ∷ c ∷ text) plain =
    ap (λ (l : List ℕ). b ∷ l)
    (without_return-plain (c ∷ text) (plain_parts (nat_lt 31 b) (is_plain (c ∷ text)) plain).1)

pub is_plain-append : (xs ys : List ℕ) → is_plain xs ≡ true → is_plain ys ≡ true → is_plain (xs ++ ys) ≡ true
is_plain-append [] ys a b = b
is_plain-append (x ∷ xs) ys a b =
    let parts = plain_parts (nat_lt 31 x) (is_plain xs) a in
    both (nat_lt 31 x) (is_plain (xs ++ ys)) parts.0 (is_plain-append xs ys parts.1 b)

-- the digits are such bytes
abbrev all_plain : ℕ → Bool
all_plain zero = true
all_plain (suc n) = nat_lt 31 (slice_index lower_digits n) && all_plain n

plain_at : (n k : ℕ) → all_plain n ≡ true → k < n → nat_lt 31 (slice_index lower_digits k) ≡ true
plain_at zero k all below = absurd (omega arith)
plain_at (suc n) k all below =
    let parts = plain_parts (nat_lt 31 (slice_index lower_digits n)) (all_plain n) all in
    elim (cases_lt k n) [
      | inl less ↦ plain_at n k parts.1 less
      | inr top ↦
          let e : k ≡ n = omega arith in
          rw e parts.0
    ]

pub is_plain-digits : (bytes : List ℕ) → IsBytes bytes → is_plain (encode_lower bytes) ≡ true
unfolding encode_with
is_plain-digits [] fit = refl
is_plain-digits (b ∷ bytes) fit =
    let byte : b < 256 = fit 0 in
    both _ _ (plain_at 16 (b / 16) refl (omega arith))
    (both _ _ (plain_at 16 (b % 16) refl (omega arith)) (is_plain-digits bytes (λ k. fit (suc k))))

-- ---- lines that can be read

-- one or more bytes, and no more than a line has room for
pub record IsSent (bytes : List ℕ) : Type 0 where
  pub some : length bytes ≢ 0
  pub few : length bytes ≤ 2047
  pub fit : IsBytes bytes

abbrev pub IsRead : Line → Type 0
IsRead (FromAnalyzer bytes) = IsSent bytes
IsRead (FromComputer bytes) = IsSent bytes
IsRead line = Unit {0}

abbrev pub AreRead : List Line → Type 0
AreRead [] = Unit {0}
AreRead (line ∷ lines) = IsRead line × AreRead lines

half : (text bytes : List ℕ) → text ≢ [] → length text ≤ 4094 → decode_of text ≡ Ok bytes → IsSent bytes
half [] bytes some short is = absurd (some refl)
half (d ∷ text) bytes some short is =
    let parts = decode_of-ok (d ∷ text) bytes is in
    record { some = λ none. absurd (omega (arith, parts.2)); few = omega (arith, parts.2); fit = parts.3 }

ok_from : (r : Result (List ℕ) FromHexError) (bytes : List ℕ) → result_ok r ≡ Some bytes → r ≡ Ok bytes
ok_from (Ok found) bytes is = cc
ok_from (Err e) bytes is = cc

pub IsSent-bytes_of : (text bytes : List ℕ) → length text ≤ 4094 → bytes_of text ≡ Some bytes → IsSent bytes
IsSent-bytes_of [] bytes short is = cc
IsSent-bytes_of (d ∷ text) bytes short is =
    half (d ∷ text) bytes (λ none. cc) short (ok_from (decode_of (d ∷ text)) bytes is)

-- what is reported under a test
by_test : (test : Bool) (line : Line) (rest : Option Line) (found : Line) → IsRead line
    → (rest ≡ Some found → IsRead found) → (if test then Some line else rest) ≡ Some found → IsRead found
by_test true line rest found read other is =
    let same : line ≡ found = cc in
    subst IsRead same read
by_test false line rest found read other is = other is

nothing : (found : Line) → None ≡ Some found → IsRead found
nothing found is = absurd (cc)

IsRead-sent_by : (mark : List ℕ) (o : Option (List ℕ)) (found : Line)
    → ((bytes : List ℕ) → o ≡ Some bytes → IsSent bytes) → sent_by mark o ≡ Some found → IsRead found
IsRead-sent_by mark None found sent is = nothing found is
IsRead-sent_by mark (Some bytes) found sent is =
    by_test (bytes_eq mark (codes "> ")) (FromAnalyzer bytes) _ found (sent bytes refl)
    (by_test (bytes_eq mark (codes "< ")) (FromComputer bytes) None found (sent bytes refl) (nothing found)) is

IsRead-plain_line : (text : List ℕ) (found : Line) → length text ≤ 4096 → plain_line text ≡ Some found → IsRead found
IsRead-plain_line [] found short is =
    let same : Empty ≡ found = cc in
    subst IsRead same tt
IsRead-plain_line (letter ∷ []) found short is =
    by_test (bytes_eq (letter ∷ []) (codes "T")) Timer None found tt (nothing found) is
IsRead-plain_line (mark ∷ space ∷ digits) found short is =
    IsRead-sent_by (mark ∷ space ∷ []) (bytes_of digits) found (λ bytes. IsSent-bytes_of digits bytes (omega arith)) is

IsRead-added_line : (text : List ℕ) (found : Line) → added_line text ≡ Some found → IsRead found
IsRead-added_line text found is =
    by_test (bytes_eq text (codes "R")) Restart _ found tt
    (by_test (bytes_eq text (codes "S ready")) (SetReady Ready) _ found tt
    (by_test (bytes_eq text (codes "S busy")) (SetReady Busy) _ found tt
    (by_test (bytes_eq text (codes "S contending")) (SetReady Contending) None found tt (nothing found)))) is

IsRead-option_or :
    (a b : Option Line) (found : Line) → (a ≡ Some found → IsRead found) → (b ≡ Some found → IsRead found)
    → option_or a b ≡ Some found → IsRead found
IsRead-option_or None b found from_a from_b is = from_b is
IsRead-option_or (Some line) b found from_a from_b is = from_a is

IsRead-said : (version : CaptureVersion) (text : List ℕ) (found : Line) → length text ≤ 4096
    → said version text ≡ Some found → IsRead found
IsRead-said Unsaid text found short is =
    by_test (bytes_eq text (codes "capture 2")) Version (plain_line text) found tt
    (IsRead-plain_line text found short) is
IsRead-said First text found short is = IsRead-plain_line text found short is
IsRead-said Second text found short is =
    IsRead-option_or (plain_line text) (added_line text) found (IsRead-plain_line text found short)
    (IsRead-added_line text found) is

by_length : (version : CaptureVersion) (text : List ℕ) (found : Line) (long : Bool)
    → nat_lt longest_line (length text) ≡ long
    → (if long then None else said version (without_return text)) ≡ Some found → IsRead found
by_length version text found true long is = nothing found is
by_length version text found false long is =
    let short : length text ≤ 4096 = grind (arith, nat_tests) in
    IsRead-said version (without_return text) found (omega (arith, without_return-length text)) is

pub IsRead-line_of : (version : CaptureVersion) (text : List ℕ) (found : Line) → line_of version text ≡ Some found
    → IsRead found
IsRead-line_of version text found is = by_length version text found (nat_lt longest_line (length text)) refl is

-- the lines of a capture are such lines
AreRead-with_said : (lines : List Line) (o : Option Line) → AreRead lines
    → ((found : Line) → o ≡ Some found → IsRead found) → AreRead (with_said lines o).lines
AreRead-with_said lines None before read = before
AreRead-with_said lines (Some line) before read = (read line refl, before)

AreRead-lines_with_next : (refused : Bool) (lines : List Line) (text : List ℕ) → AreRead lines
    → AreRead (lines_with_next refused lines text).lines
AreRead-lines_with_next true lines text before = before
AreRead-lines_with_next false lines text before =
    AreRead-with_said lines (line_of (version_of lines) text) before (IsRead-line_of (version_of lines) text)

pub AreRead-read_lines : (texts : List (List ℕ)) → AreRead (read_lines texts).lines
AreRead-read_lines [] = tt
AreRead-read_lines (text ∷ texts) =
    AreRead-lines_with_next (read_lines texts).refused (read_lines texts).lines text (AreRead-read_lines texts)

-- ---- a written line is read as that line

pub bytes_of-digits : (bytes : List ℕ) → IsSent bytes → bytes_of (encode_lower bytes) ≡ Some bytes
unfolding encode_with
bytes_of-digits [] sent = absurd (sent.some refl)
bytes_of-digits (b ∷ bytes) sent = ap result_ok (decode_of-encode_lower (b ∷ bytes) sent.fit)

-- a text that isn't too long, of bytes that are neither CR nor LF
line_of-plain : (version : CaptureVersion) (text : List ℕ) → is_plain text ≡ true → length text ≤ 4096
    → line_of version text ≡ said version text
line_of-plain version text plain short =
    ap (λ (long : Bool). if long then None else said version (without_return text))
    (le-ltb longest_line (length text) short)
    ∙ ap (said version) (without_return-plain text plain)

-- a line that version 2 may hold after its first
abbrev pub is_version : Line → Bool
is_version Version = true
is_version line = false

length-digits : (bytes : List ℕ) → length (encode_lower bytes) ≡ 2 * length bytes
length-digits bytes = length-encode_with lower_digits bytes

pub is_plain-line_text : (line : Line) → IsRead line → is_plain (line_text line) ≡ true
is_plain-line_text Empty read = refl
is_plain-line_text (FromAnalyzer bytes) read = is_plain-digits bytes read.fit
is_plain-line_text (FromComputer bytes) read = is_plain-digits bytes read.fit
is_plain-line_text Timer read = refl
is_plain-line_text Restart read = refl
is_plain-line_text (SetReady Ready) read = refl
is_plain-line_text (SetReady Busy) read = refl
is_plain-line_text (SetReady Contending) read = refl
is_plain-line_text Version read = refl

pub line_of-line_text : (line : Line) → IsRead line → is_version line ≡ false
    → line_of Second (line_text line) ≡ Some line
unfolding decode_pairs
line_of-line_text Empty read other = refl
line_of-line_text (FromAnalyzer bytes) read other =
    line_of-plain Second (line_text (FromAnalyzer bytes)) (is_plain-digits bytes read.fit)
    (omega (arith, length-digits bytes, read.few))
    ∙ ap (λ (o : Option (List ℕ)). option_or (sent_by (codes "> ") o) (added_line (line_text (FromAnalyzer bytes))))
    (bytes_of-digits bytes read)
line_of-line_text (FromComputer bytes) read other =
    line_of-plain Second (line_text (FromComputer bytes)) (is_plain-digits bytes read.fit)
    (omega (arith, length-digits bytes, read.few))
    ∙ ap (λ (o : Option (List ℕ)). option_or (sent_by (codes "< ") o) (added_line (line_text (FromComputer bytes))))
    (bytes_of-digits bytes read)
line_of-line_text Timer read other = refl
line_of-line_text Restart read other = refl
line_of-line_text (SetReady Ready) read other = refl
line_of-line_text (SetReady Busy) read other = refl
line_of-line_text (SetReady Contending) read other = refl
line_of-line_text Version read other = cc

-- ---- written lines, one after the other

pub record IsEncoded (lines : List Line) : Type 0 where
  pub lines_are : read_lines (ended_lines (stream_with [] (lines_encoding lines)))
      ≡ record { lines = lines; refused = false }
  pub ended : begun (stream_with [] (lines_encoding lines)) ≡ []

pub encoded_none : IsEncoded []
encoded_none = record { lines_are = refl; ended = refl }

pub encoded_more :
    (line : Line) (lines : List Line) → IsEncoded lines → is_plain (line_text line) ≡ true
    → line_of (version_of lines) (line_text line) ≡ Some line
    → IsEncoded (line ∷ lines)
encoded_more line lines encoded plain is =
    let past : List ℕ = stream_with [] (lines_encoding lines) in
    let text : List ℕ = line_text line in
    let none = has_end-plain text plain in
    let parts : stream_with [] (lines_encoding (line ∷ lines)) ≡ stream_with (stream_with past text) (LF ∷ []) =
    stream_with-append (lines_encoding lines) (line_encoding line) [] ∙ stream_with-append text (LF ∷ []) past in
    let started : begun (stream_with past text) ≡ text = begun-within past text none
    ∙ ap (λ (l : List ℕ). l ++ text) encoded.ended in
    record {
      lines_are =
          ap (λ (s : List ℕ). read_lines (ended_lines s)) parts
          ∙ ap (λ (l : List ℕ). read_lines (l ∷ ended_lines (stream_with past text))) started
          ∙ ap (λ (e : List (List ℕ)). read_lines (text ∷ e)) (ended_lines-within past text none)
          ∙ ap (λ (r : Lines). lines_with_next r.refused r.lines text) encoded.lines_are
          ∙ ap (with_said lines) is;
      ended = ap begun parts;
    }

pub version_of-upgraded_lines : (lines : List Line) → version_of (upgraded_lines lines) ≡ Second
version_of-upgraded_lines [] = refl
version_of-upgraded_lines (Version ∷ lines) = version_of-upgraded_lines lines
version_of-upgraded_lines (Empty ∷ lines) = rw (version_of-upgraded_lines lines) refl
version_of-upgraded_lines (FromAnalyzer bytes ∷ lines) = rw (version_of-upgraded_lines lines) refl
version_of-upgraded_lines (FromComputer bytes ∷ lines) = rw (version_of-upgraded_lines lines) refl
version_of-upgraded_lines (Timer ∷ lines) = rw (version_of-upgraded_lines lines) refl
version_of-upgraded_lines (Restart ∷ lines) = rw (version_of-upgraded_lines lines) refl
version_of-upgraded_lines (SetReady readiness ∷ lines) = rw (version_of-upgraded_lines lines) refl

-- the lines but for those of the version
pub upgraded_other : (line : Line) (lines : List Line) → is_version line ≡ false
    → upgraded_lines (line ∷ lines) ≡ line ∷ upgraded_lines lines
upgraded_other Empty lines other = refl
upgraded_other (FromAnalyzer bytes) lines other = refl
upgraded_other (FromComputer bytes) lines other = refl
upgraded_other Timer lines other = refl
upgraded_other Restart lines other = refl
upgraded_other (SetReady readiness) lines other = refl
upgraded_other Version lines other = cc

upgraded_version : (line : Line) (lines : List Line) → is_version line ≡ true
    → upgraded_lines (line ∷ lines) ≡ upgraded_lines lines
upgraded_version Version lines is = refl
upgraded_version Empty lines is = cc
upgraded_version (FromAnalyzer bytes) lines is = cc
upgraded_version (FromComputer bytes) lines is = cc
upgraded_version Timer lines is = cc
upgraded_version Restart lines is = cc
upgraded_version (SetReady readiness) lines is = cc

added_other : (line : Line) → is_version line ≡ false → added_encoding line ≡ line_encoding line
added_other Empty other = refl
added_other (FromAnalyzer bytes) other = refl
added_other (FromComputer bytes) other = refl
added_other Timer other = refl
added_other Restart other = refl
added_other (SetReady readiness) other = refl
added_other Version other = cc

added_version : (line : Line) → is_version line ≡ true → added_encoding line ≡ []
added_version Version is = refl
added_version Empty is = cc
added_version (FromAnalyzer bytes) is = cc
added_version (FromComputer bytes) is = cc
added_version Timer is = cc
added_version Restart is = cc
added_version (SetReady readiness) is = cc

encoded_by :
    (line : Line) (lines : List Line) (test : Bool) → is_version line ≡ test → IsRead line
    → IsEncoded (upgraded_lines lines) → IsEncoded (upgraded_lines (line ∷ lines))
encoded_by line lines true is read encoded = subst IsEncoded (sym (upgraded_version line lines is)) encoded
encoded_by line lines false is read encoded =
    subst IsEncoded (sym (upgraded_other line lines is))
    (encoded_more line (upgraded_lines lines) encoded (is_plain-line_text line read)
    (ap (λ (v : CaptureVersion). line_of v (line_text line)) (version_of-upgraded_lines lines)
    ∙ line_of-line_text line read is))

pub encoded_upgraded : (lines : List Line) → AreRead lines → IsEncoded (upgraded_lines lines)
encoded_upgraded [] read = encoded_more Version [] encoded_none refl refl
encoded_upgraded (line ∷ lines) read =
    encoded_by line lines (is_version line) refl read.0 (encoded_upgraded lines read.1)

-- nothing is after the last LF, with or without the end of the input
no_more : (past : List ℕ) (ended : Bool) → begun past ≡ [] → capture past ended ≡ read_lines (ended_lines past)
no_more past true none =
    ap (λ (l : List ℕ). read_lines (if counts true l then l ∷ ended_lines past else ended_lines past)) none
no_more past false none =
    ap (λ (l : List ℕ). read_lines (if counts false l then l ∷ ended_lines past else ended_lines past)) none

encoding_by :
    (line : Line) (lines : List Line) (test : Bool) → is_version line ≡ test
    → upgraded lines ≡ lines_encoding (upgraded_lines lines)
    → upgraded (line ∷ lines) ≡ lines_encoding (upgraded_lines (line ∷ lines))
encoding_by line lines true is before =
    ap (λ (t : List ℕ). upgraded lines ++ t) (added_version line is) ∙ append-nil (upgraded lines) ∙ before
    ∙ ap lines_encoding (sym (upgraded_version line lines is))
encoding_by line lines false is before =
    ap (λ (t : List ℕ). upgraded lines ++ t) (added_other line is) ∙ ap (λ (t : List ℕ). t ++ line_encoding line) before
    ∙ ap lines_encoding (sym (upgraded_other line lines is))

pub upgraded-encoding : (lines : List Line) → upgraded lines ≡ lines_encoding (upgraded_lines lines)
upgraded-encoding [] = refl
upgraded-encoding (line ∷ lines) = encoding_by line lines (is_version line) refl (upgraded-encoding lines)

pub capture-upgraded :
    (lines : List Line) (ended : Bool) → AreRead lines
    → capture (stream_with [] (upgraded lines)) ended ≡ record { lines = upgraded_lines lines; refused = false }
capture-upgraded lines ended read =
    let encoded = encoded_upgraded lines read in
    let past : List ℕ = stream_with [] (lines_encoding (upgraded_lines lines)) in
    ap (λ (text : List ℕ). capture (stream_with [] text) ended) (upgraded-encoding lines)
    ∙ no_more past ended encoded.ended ∙ encoded.lines_are

again_by : (line : Line) (lines : List Line) (test : Bool) → is_version line ≡ test
    → upgraded_lines (upgraded_lines lines) ≡ upgraded_lines lines
    → upgraded_lines (upgraded_lines (line ∷ lines)) ≡ upgraded_lines (line ∷ lines)
again_by line lines true is again =
    ap upgraded_lines (upgraded_version line lines is) ∙ again ∙ sym (upgraded_version line lines is)
again_by line lines false is again =
    ap upgraded_lines (upgraded_other line lines is) ∙ upgraded_other line (upgraded_lines lines) is
    ∙ ap (λ (l : List Line). line ∷ l) again ∙ sym (upgraded_other line lines is)

pub upgraded_lines-upgraded_lines : (lines : List Line) → upgraded_lines (upgraded_lines lines) ≡ upgraded_lines lines
upgraded_lines-upgraded_lines [] = refl
upgraded_lines-upgraded_lines (line ∷ lines) =
    again_by line lines (is_version line) refl (upgraded_lines-upgraded_lines lines)

pub upgraded-upgraded_lines : (lines : List Line) → upgraded (upgraded_lines lines) ≡ upgraded lines
upgraded-upgraded_lines lines =
    upgraded-encoding (upgraded_lines lines) ∙ ap lines_encoding (upgraded_lines-upgraded_lines lines)
    ∙ sym (upgraded-encoding lines)
