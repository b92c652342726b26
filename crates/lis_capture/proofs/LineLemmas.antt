-- The CR at the end of a line, and its mark.
use Rattle.std.proofs.Common.{◌≡◌, ℕ, ◌-◌, ◌≤◌, ◌==◌, Bool, true, false, List, [], ◌∷◌, ◌++◌, length, refl, ap}
use Rattle.std.proofs.Common.{Option, None, Some, arith, codes, drop, if◌then◌else◌, length-drop, nat_lt, take}
use Rattle.std.proofs.lemmas.Bool.Decides.{nat_tests}
use Rattle.std.proofs.lemmas.List.{length-take}
use Rattle.lis_text.specs.Control.{CR}
use Rattle.std.specs.Option.{option_or}
use Rattle.std.specs.Str.{bytes_eq}
use Rattle.lis_text.specs.declared.readiness.Readiness.TheVariants.{Ready, Busy, Contending}
use Rattle.lis_capture.specs.declared.line.CaptureVersion.{CaptureVersion}
use Rattle.lis_capture.specs.declared.line.CaptureVersion.TheVariants.{Unsaid, First, Second}
use Rattle.lis_capture.specs.declared.line.Line.{Line}
use Rattle.lis_capture.specs.declared.line.Line.TheVariants.{Restart, SetReady, Version}
use Rattle.lis_capture.specs.Line.{added_line, line_of, longest_line, plain_line, reports_bytes, said, without_return}

pub return_dropped : (front : List ℕ) (last : ℕ) → (last == CR) ≡ true → without_return (front ++ last ∷ []) ≡ front
return_dropped [] last e = rw e refl
return_dropped (b ∷ []) last e = ap (λ (l : List ℕ). b ∷ l) (return_dropped [] last e)
return_dropped (b ∷ c ∷ front) last e = ap (λ (l : List ℕ). b ∷ l) (return_dropped (c ∷ front) last e)

pub line_kept : (front : List ℕ) (last : ℕ) → (last == CR) ≡ false
    → without_return (front ++ last ∷ []) ≡ front ++ last ∷ []
line_kept [] last e = rw e refl
line_kept (b ∷ []) last e = ap (λ (l : List ℕ). b ∷ l) (line_kept [] last e)
line_kept (b ∷ c ∷ front) last e = ap (λ (l : List ℕ). b ∷ l) (line_kept (c ∷ front) last e)

by_test : (t : Bool) (b : ℕ) → length (if t then [] else b ∷ []) ≤ 1
by_test true b = omega arith
by_test false b = omega arith

pub without_return-length : (text : List ℕ) → length (without_return text) ≤ length text
without_return-length [] = omega arith
without_return-length (b ∷ []) = by_test (b == CR) b
without_return-length (b ∷ c ∷ text) = omega (arith, without_return-length (c ∷ text))

-- what is after the mark of a line
pub few_digits : (text : List ℕ) → length text ≤ 4096
    → length (take (length (without_return text) - 2) (drop 2 (without_return text))) ≤ 4094
few_digits text short =
    let rest = drop 2 (without_return text) in
    omega (
      arith,
      short,
      without_return-length text,
      length-take (length (without_return text) - 2) rest,
      length-drop 2 (without_return text),
    )

-- ---- a line without a mark

added_none : (text : List ℕ) → reports_bytes (added_line text) ≡ false
added_none text =
    by_words (bytes_eq text (codes "R")) (bytes_eq text (codes "S ready")) (bytes_eq text (codes "S busy"))
    (bytes_eq text (codes "S contending"))
  where
    by_words :
        (restart ready busy contending : Bool)
        → reports_bytes (if restart then Some Restart else if ready then Some (SetReady Ready) else if busy then
        Some (SetReady Busy) else if contending then Some (SetReady Contending) else None) ≡ false
    by_words true ready busy contending = refl
    by_words false true busy contending = refl
    by_words false false true contending = refl
    by_words false false false true = refl
    by_words false false false false = refl

said_none : (version : CaptureVersion) (text : List ℕ) → reports_bytes (plain_line text) ≡ false
    → reports_bytes (said version text) ≡ false
said_none Unsaid text none = by_first (bytes_eq text (codes "capture 2"))
  where
    by_first : (t : Bool) → reports_bytes (if t then Some Version else plain_line text) ≡ false
    by_first true = refl
    by_first false = none
said_none First text none = none
said_none Second text none = by_plain (plain_line text) none
  where
    by_plain : (o : Option Line) → reports_bytes o ≡ false → reports_bytes (option_or o (added_line text)) ≡ false
    by_plain None none = added_none text
    by_plain (Some line) none = none

-- what reports no bytes in version 1 reports none in another
pub reports_none :
    (version : CaptureVersion) (text : List ℕ)
    → (length text ≤ 4096 → reports_bytes (plain_line (without_return text)) ≡ false)
    → reports_bytes (line_of version text) ≡ false
reports_none version text none = by_length (nat_lt longest_line (length text)) refl
  where
    by_length : (t : Bool) → nat_lt longest_line (length text) ≡ t
        → reports_bytes (if t then None else said version (without_return text)) ≡ false
    by_length true is = refl
    by_length false is =
        let short : length text ≤ 4096 = grind (arith, nat_tests, is) in
        said_none version (without_return text) (none short)
