-- Reading a capture by slices.
use Rattle.std.proofs.Common.{◌<◌, ◌≤◌, ◌==◌, append-nil}
use Rattle.std.proofs.Common.{◌≡◌, ℕ, ◌+◌, Bool, true, false, List, [], ◌∷◌, ◌++◌, Option, None, Some, is_some}
use Rattle.std.proofs.Common.{unwrap_or, length, slice_index, take, refl, sym, ◌∙◌, ap, subst, arith, if◌then◌else◌}
use Rattle.std.proofs.lemmas.Bool.{eqb-true, le-ltb}
use Rattle.std.proofs.lemmas.List.{nil_from_length, take_all, take_more}
use Rattle.lis_text.specs.Control.{LF}
use Rattle.lis_frame.specs.Stream.{stream_with}
use Rattle.memchr.specs.Find.{IsFirstByte, is_byte}
use Rattle.lis_capture.specs.declared.line.CaptureVersion.{CaptureVersion}
use Rattle.lis_capture.specs.declared.line.Line.{Line}
use Rattle.lis_capture.specs.declared.reader.LineFound.{LineFound}
use Rattle.lis_capture.specs.declared.reader.LineFound.TheVariants as found
use Rattle.lis_capture.specs.Line.{line_of, longest_line, version_after}
use Rattle.lis_capture.specs.Capture.{Lines, begun, capture, number_of, version_of, with_said}
use Rattle.lis_bytes.specs.Capped.{capped}
use Rattle.lis_capture.specs.Reader.{CopiesLine, HasRead, Known, Reading, found_lines, known_of}
use Rattle.lis_capture.specs.inside.Reader.{found_holding, found_of, holding_more, is_long, known_with}
use Rattle.lis_capture.proofs.CaptureLemmas.{begun-ended, begun-within, capture-ended, capture-last, capture-long}
use Rattle.lis_capture.proofs.CaptureLemmas.{capture-within}
use Rattle.lis_capture.proofs.CaptureLemmas.{has_end, has_end-before}

-- ---- a line more

pub known_taken :
    (known : Known) (said : Option Line) (reported : Line) (version : CaptureVersion) (number : ℕ) → is_some said ≡ true
    → reported ≡ unwrap_or said known.line → version ≡ version_after known.version reported → number
    ≡ capped (known.number + 1)
    → record { version = version; refused = known.refused; number = number; line = reported } ≡ known_with known said
known_taken known None reported version number some reported_is version_is number_is = cc
known_taken known (Some line) reported version number some reported_is version_is number_is =
    rw (version_is, number_is, reported_is) refl

pub found_taken : (said : Option Line) → is_some said ≡ true → found.Line ≡ found_of said
found_taken None some = cc
found_taken (Some line) some = refl

pub found_refused : (said : Option Line) → false ≡ is_some said → found_of None ≡ found_of said
found_refused None none = refl
found_refused (Some line) none = cc

-- after a rejected line nothing is carried out
pub refused_again : (reader : Reading) (past : List ℕ) → HasRead reader past → reader.known.refused ≡ true
    → capture past false ≡ record { lines = (capture past false).lines; refused = true }
refused_again reader past has is =
    ap (λ b. record { lines = (capture past false).lines; refused = b })
    (ap (λ (k : Known). k.refused) (sym has.known_is) ∙ is)

-- ---- what is known of the lines, with one more

capped-next : (n : ℕ) → capped (capped n + 1) ≡ capped (n + 1)
capped-next n = omega arith

known_with-known_of : (read : Lines) (said : Option Line) → read.refused ≡ false
    → known_with (known_of read) said ≡ known_of (with_said read.lines said)
known_with-known_of read None fine = rw (fine, capped-next (length read.lines)) refl
known_with-known_of read (Some line) fine =
    let more : length read.lines + 1 ≡ length (line ∷ read.lines) = omega arith in
    rw (fine, capped-next (length read.lines), more) refl

found_lines-found_of : (read : Lines) (known : Known) (said : Option Line)
    → with_said read.lines said ≡ found_lines read (found_of said) (known_with known said).line
found_lines-found_of read known None = refl
found_lines-found_of read known (Some line) = refl

-- a number is exact where there are fewer lines than it can count
number_fits : (refused : Bool) (n : ℕ) → n < 18446744073709551615
    → capped (if refused then n + 1 else n) ≡ (if refused then n + 1 else n)
number_fits true n few = omega arith
number_fits false n few = omega arith

pub number-known_of : (read : Lines) → length read.lines < 18446744073709551615
    → (known_of read).number ≡ number_of read
number-known_of read few = number_fits read.refused (length read.lines) few

-- ---- bytes that end a line, and bytes that don't

-- what is found of further bytes, and that they are then read
pub record ReadsOn (before after : Reading) (past bytes : List ℕ) (result : LineFound) : Type 0 where
  pub found_is : capture (stream_with past bytes) false ≡ found_lines (capture past false) result after.known.line
  pub has_read : HasRead after (stream_with past bytes)

module _ (before : Reading) (past : List ℕ) (has : HasRead before past) (fine : before.known.refused ≡ false) where
  pub fine_here : (capture past false).refused ≡ false
  fine_here = ap (λ (k : Known). k.refused) (sym has.known_is) ∙ fine

  said_here : (text : List ℕ)
      → line_of before.known.version (before.held ++ text)
      ≡ line_of (version_of (capture past false).lines) (begun past ++ text)
  said_here text =
      ap (λ (k : Known). line_of k.version (before.held ++ text)) has.known_is
      ∙ ap (λ (h : List ℕ). line_of (version_of (capture past false).lines) (h ++ text)) (has.held_is fine_here)

  long_here : (text : List ℕ) → is_long (before.held ++ text) ≡ is_long (begun past ++ text)
  long_here text = ap (λ (h : List ℕ). is_long (h ++ text)) (has.held_is fine_here)

  -- a line is reported or rejected
  known_here : (said : Option Line)
      → known_with before.known said ≡ known_of (with_said (capture past false).lines said)
  known_here said =
      ap (λ (k : Known). known_with k said) has.known_is ∙ known_with-known_of (capture past false) said fine_here

  found_here :
      (said : Option Line) (lines : Lines) (after : Known) (result : LineFound)
      → lines ≡ with_said (capture past false).lines said → after ≡ known_with before.known said
      → result ≡ found_of said → lines ≡ found_lines (capture past false) result after.line
  found_here said lines after result lines_are known_is result_is =
      lines_are ∙ found_lines-found_of (capture past false) before.known said
      ∙ ap (λ (f : LineFound). found_lines (capture past false) f (known_with before.known said).line) (sym result_is)
      ∙ ap (λ (k : Known). found_lines (capture past false) result k.line) (sym known_is)

  pub reads_end :
      (after : Reading) (text : List ℕ) (result : LineFound) → has_end text ≡ false
      → after.known ≡ known_with before.known (line_of before.known.version (before.held ++ text)) → after.held ≡ []
      → result ≡ found_of (line_of before.known.version (before.held ++ text))
      → ReadsOn before after past (text ++ LF ∷ []) result
  reads_end after text result none known_is held_is result_is =
      let said : Option Line = line_of before.known.version (before.held ++ text) in
      let lines : capture (stream_with past (text ++ LF ∷ [])) false ≡ with_said (capture past false).lines said =
      capture-ended past text fine_here none ∙ ap (with_said (capture past false).lines) (sym (said_here text)) in
      record {
        found_is =
            found_here said (capture (stream_with past (text ++ LF ∷ [])) false) after.known result lines known_is
            result_is;
        has_read = record {
          known_is = known_is ∙ known_here said ∙ ap known_of (sym lines);
          held_is = λ _. held_is ∙ sym (begun-ended past text);
        };
      }

  -- the same of a line none of whose bytes are held
  pub reads_line :
      (after : Reading) (text : List ℕ) → has_end text ≡ false → before.held ≡ []
      → after.known ≡ known_with before.known (line_of before.known.version text) → after.held ≡ []
      → found.Line ≡ found_of (line_of before.known.version text)
      → ReadsOn before after past (text ++ LF ∷ []) found.Line
  reads_line after text none empty known_is held_is found_is =
      reads_end after text found.Line none
      (subst (λ (h : List ℕ). after.known ≡ known_with before.known (line_of before.known.version (h ++ text)))
      (sym empty) known_is)
      held_is
      (subst (λ (h : List ℕ). found.Line ≡ found_of (line_of before.known.version (h ++ text))) (sym empty) found_is)

  -- the end ends a line that has a byte
  pub ends_last :
      (after : Known) (result : LineFound) → (length before.held == 0) ≡ false
      → after ≡ known_with before.known (line_of before.known.version (before.held ++ []))
      → result ≡ found_of (line_of before.known.version (before.held ++ []))
      → (capture past true ≡ found_lines (capture past false) result after.line)
      × (after ≡ known_of (capture past true))
  ends_last after result some known_is result_is =
      let said : Option Line = line_of before.known.version (before.held ++ []) in
      let lines : List Line = (capture past false).lines in
      let all : capture past true ≡ with_said lines said =
      capture-last past fine_here (ap (λ (h : List ℕ). length h == 0) (sym (has.held_is fine_here)) ∙ some)
      ∙ ap (λ (h : List ℕ). with_said lines (line_of (version_of lines) h)) (sym (append-nil (begun past)))
      ∙ ap (with_said lines) (sym (said_here [])) in (
        found_here said (capture past true) after result all known_is result_is,
        known_is ∙ known_here said ∙ ap known_of (sym all),
      )

  reads_by :
      (long : Bool) (after : Reading) (text : List ℕ) (result : LineFound) → has_end text ≡ false
      → is_long (before.held ++ text) ≡ long
      → after ≡ (if long then record before { known = known_with before.known None }
      else record before { held = before.held ++ text })
      → result ≡ (if long then found.Refused else found.Nothing) → ReadsOn before after past text result
  reads_by true after text result none is after_is result_is =
      let line_is : is_long (begun past ++ text) ≡ true = sym (long_here text) ∙ is in
      let lines = capture-long past text fine_here none line_is in
      record {
        found_is = lines ∙ ap (λ (f : LineFound). found_lines (capture past false) f after.known.line) (sym result_is);
        has_read = record {
          known_is = ap (λ (r : Reading). r.known) after_is ∙ known_here None ∙ ap known_of (sym lines);
          held_is = λ fine_then. absurd (refused_now (ap (λ (r : Lines). r.refused) lines) fine_then);
        };
      }
    where
      refused_now : {b : Bool} → b ≡ true → b ≡ false → ⊥
      refused_now t f = cc
  reads_by false after text result none is after_is result_is =
      let line_is : is_long (begun past ++ text) ≡ false = sym (long_here text) ∙ is in
      let lines = capture-within past text fine_here none line_is in
      record {
        found_is = lines ∙ ap (λ (f : LineFound). found_lines (capture past false) f after.known.line) (sym result_is);
        has_read = record {
          known_is = ap (λ (r : Reading). r.known) after_is ∙ has.known_is ∙ ap known_of (sym lines);
          held_is = λ _.
              ap (λ (r : Reading). r.held) after_is ∙ ap (λ (h : List ℕ). h ++ text) (has.held_is fine_here)
              ∙ sym (begun-within past text none);
        };
      }

  pub reads_within :
      (after : Reading) (text : List ℕ) (result : LineFound) → has_end text ≡ false → after ≡ holding_more before text
      → result ≡ found_holding (before.held ++ text) → ReadsOn before after past text result
  reads_within after text result none after_is result_is =
      reads_by (is_long (before.held ++ text)) after text result none refl after_is result_is

pub held_more : (r : Reading) (text items : List ℕ) → items ≡ r.held ++ text → length items ≤ longest_line
    → record r { held = items } ≡ holding_more r text
held_more r text items is short =
    let within : length (r.held ++ text) ≤ longest_line = omega (arith, short, ap length is) in
    rw (le-ltb longest_line (length (r.held ++ text)) within) (ap (λ (h : List ℕ). record r { held = h }) is)

-- ---- where `memchr` finds the LF

pub front_of_line :
    (bytes : List ℕ) (place : ℕ) → IsFirstByte (is_byte LF) bytes (Some place)
    → (has_end (take place bytes) ≡ false) × (take (place + 1) bytes ≡ take place bytes ++ LF ∷ [])
front_of_line bytes place first =
    let inside = first.0.high in
    let is : slice_index bytes place ≡ LF = eqb-true (slice_index bytes place) LF first.1 in (
      has_end-before bytes place (omega arith) first.0.before,
      take_more bytes place 0 inside
          ∙ ap (λ (b : ℕ). take place bytes ++ b ∷ []) is,
    )

pub no_line : (bytes : List ℕ) → IsFirstByte (is_byte LF) bytes None → has_end bytes ≡ false
no_line bytes none = subst (λ (l : List ℕ). has_end l ≡ false) (take_all (length bytes) bytes (omega arith))
    (has_end-before bytes (length bytes) (omega arith) none)

-- a line that is whole in bytes, where none are held
pub copies_line :
    (before after : Reading) (bytes : List ℕ) (place : ℕ) → IsFirstByte (is_byte LF) bytes (Some place)
    → before.known.refused ≡ false → length before.held ≡ 0 → after.held ≡ before.held
    → after.known ≡ known_with before.known (line_of before.known.version (take place bytes))
    → found.Line ≡ found_of (line_of before.known.version (take place bytes))
    → CopiesLine before after bytes (place + 1)
copies_line before after bytes place first fine none held_is known_is found_is =
    let front = front_of_line bytes place first in
    let inside = first.0.high in
    let empty : before.held ≡ [] = nil_from_length before.held none in
    let reads : (past : List ℕ) → HasRead before past
    → ReadsOn before after past (take (place + 1) bytes) found.Line = λ past has.
    rw front.1 (reads_line before past has fine after (take place bytes) front.0 empty known_is (held_is ∙ empty)
    found_is) in
    record {
      some = omega arith;
      within = omega (arith, inside);
      found_is = λ past has. (reads past has).found_is;
      after = λ past has. (reads past has).has_read;
    }
