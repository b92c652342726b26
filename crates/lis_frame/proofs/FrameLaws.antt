-- A frame body has no fault exactly where STX, the frame body and LF are a frame.
use Rattle.std.proofs.Common.{◌≡◌, ℕ, ◌+◌, ◌-◌, ◌/◌, ◌%◌, ◌≤◌, ◌<◌, Bool, true, false, List, [], ◌∷◌, ◌++◌, Option}
use Rattle.std.proofs.Common.{None, Some, Ok, Err, IfOk, MatchResult, length, drop, get_or, refl, ap, sym, ◌∙◌, subst}
use Rattle.std.proofs.Common.{arith, append_assoc, length-take}
use Rattle.std.proofs.lemmas.List.{append_cancel_right}
use Rattle.std.specs.Prelude.{◌==◌, ◌&&◌, ◌||◌, nat_lt, nat_le}
use Rattle.std.specs.List.{sum}
use Rattle.std.specs.declared.result.Result.{Result}
use Rattle.std.proofs.lemmas.Bool.Decides.{nat_tests}
use Rattle.lis_text.specs.Control.{STX, ETX, ETB, CR, LF}
use Rattle.lis_frame.specs.declared.frame.FrameFault.{FrameFault}
use Rattle.lis_text.specs.Text.{first_forbidden}
use Rattle.lis_frame.specs.Frame.{FrameContent, IsContent, IsDigits, IsFrame, number_byte, end_byte, checksum}
use Rattle.lis_frame.specs.Frame.{digit_value, upper_digit, frame_bytes}
use Rattle.lis_frame.specs.FrameBody.{text_of, end_of, content_of, has_shape, digits_value, is_number_byte, pair_value}
use Rattle.lis_frame.specs.FrameBody.{is_value, first_fault, body_fault}
use Rattle.lis_frame.specs.inside.FrameBody.{body_of}
use Rattle.lis_frame.proofs.FrameBodyLemmas.{body_fault-body_of, content_of-body_of, body_parts}
use Rattle.lis_frame.proofs.FrameBodyLemmas.{number_byte-back, end_byte-back}

-- what the tests answered where there is no fault
record AllPassed (long shaped numbered : Bool) (forbidden : Option ℕ) (sums : Bool) : Type 0 where
  in_length : long ≡ false
  in_shape : shaped ≡ true
  in_number : numbered ≡ true
  clean : forbidden ≡ None
  in_sum : sums ≡ true

all_passed :
    (long shaped numbered : Bool) (forbidden : Option ℕ) (sums : Bool)
    → first_fault long shaped numbered forbidden sums ≡ None →
    AllPassed long shaped numbered forbidden sums
all_passed true shaped numbered forbidden sums e = cc
all_passed false false numbered forbidden sums e = cc
all_passed false true false forbidden sums e = cc
all_passed false true true (Some place) sums e = cc
all_passed false true true None false e = cc
all_passed false true true None true e = record {
  in_length = refl;
  in_shape = refl;
  in_number = refl;
  clean = refl;
  in_sum = refl;
}

digits_by :
    (high low value : ℕ) (a b : Option ℕ) → digit_value high ≡ a → digit_value low ≡ b
    → is_value (pair_value a b) value ≡ true →
    IsDigits high low value
digits_by high low value None b p q h = cc
digits_by high low value (Some x) None p q h = cc
digits_by high low value (Some x) (Some y) p q h =
    record { high_value = x; low_value = y; is_high = p; is_low = q; value_is = grind (arith, nat_tests) }

pub value_by : (high low value : ℕ) → IsDigits high low value
    → is_value (pair_value (digit_value high) (digit_value low)) value ≡ true
value_by high low value d = rw (d.is_high, d.is_low) (grind (arith, nat_tests, d.value_is))

shape_after : (five closed ended : Bool) → (five && closed && ended) ≡ true → (closed && ended) ≡ true
shape_after true closed ended h = h
shape_after false closed ended h = cc

-- the parts of a frame body that passed are a frame
module _ (limit number : ℕ) (text : List ℕ) (end high low close : ℕ) where
  found_parts :
      length text ≤ limit →
      AllPassed false (close == CR && (end == ETX || end == ETB)) (is_number_byte number) (first_forbidden text)
      (is_value (pair_value (digit_value high) (digit_value low))
      ((number_byte (number - 48) + sum text + end_byte (end == ETX)) % 256)) →
      IsFrame limit (STX ∷ (body_of number text end high low close ++ LF ∷ []))
      (record { number = number - 48; last = end == ETX; text = text })
  found_parts short passed =
      let closed : close ≡ CR = grind (arith, nat_tests, passed.in_shape) in
      let number_is : number_byte (number - 48) ≡ number = number_byte-back number passed.in_number in
      let end_is : end_byte (end == ETX) ≡ end = end_byte-back close end passed.in_shape in
      record {
        content = record {
          number_in_range = grind (arith, nat_tests, passed.in_number);
          is_text = record { short = short; clean = passed.clean };
        };
        high = high;
        low = low;
        digits = digits_by high low _ _ _ refl refl passed.in_sum;
        encoding =
            rw (number_is, end_is, closed)
            (ap (λ (xs : List ℕ). STX ∷ number ∷ xs) (append_assoc text (end ∷ high ∷ low ∷ CR ∷ []) (LF ∷ [])));
      }

-- and so are those of a frame
only_parts :
    (limit high low : ℕ) (frame : FrameContent) → IsContent limit frame → IsDigits high low (checksum frame) →
    body_fault limit (body_of (number_byte frame.number) frame.text (end_byte frame.last) high low CR) ≡ None
only_parts limit high low frame content digits =
    body_fault-body_of (number_byte frame.number) frame.text (end_byte frame.last) high low CR limit
    content.is_text.short
    ∙ rw (
      ended frame.last,
      shaped frame.last,
      numbered,
      content.is_text.clean,
      number_is,
      value_by high low
          (checksum frame) digits,
    ) refl
  where
    ended : (last : Bool) → (end_byte last == ETX) ≡ last
    ended true = refl
    ended false = refl

    shaped : (last : Bool) → (CR == CR && (last || end_byte last == ETB)) ≡ true
    shaped true = refl
    shaped false = refl

    numbered : is_number_byte (number_byte frame.number) ≡ true
    numbered = grind (arith, nat_tests, content.number_in_range)

    number_is : number_byte (number_byte frame.number - 48) ≡ number_byte frame.number
    number_is = omega arith

-- a frame body without a fault is a frame between STX and LF, the one at its places
pub found : (limit : ℕ) (s : List ℕ) → body_fault limit s ≡ None
    → IsFrame limit (STX ∷ (s ++ LF ∷ [])) (content_of s)
unfolding body_fault
found limit s e = found_passed limit s (all_passed _ _ _ _ _ e)
  where
    found_passed :
        (limit : ℕ) (s : List ℕ) →
        AllPassed (nat_lt (limit + 5) (length s)) (has_shape s) (is_number_byte (get_or s 0 0))
        (first_forbidden (text_of s))
        (is_value (digits_value s) (checksum (content_of s))) →
        IsFrame limit (STX ∷ (s ++ LF ∷ [])) (content_of s)
    found_passed limit s passed =
        let five : 5 ≤ length s = grind (arith, nat_tests, passed.in_shape) in
        let short : length s ≤ limit + 5 = grind (arith, nat_tests, passed.in_length) in
        let shaped : (get_or s (length s - 1) 0 == CR && (end_of s == ETX || end_of s == ETB)) ≡ true =
        shape_after (nat_le 5 (length s)) (get_or s (length s - 1) 0 == CR) (end_of s == ETX || end_of s == ETB)
        passed.in_shape in
        let parts = body_parts s (length s - 5) (length s - 4) (length s - 3) (length s - 2) (length s - 1)
        (omega arith) (omega arith) (omega arith) (omega arith) (omega arith) in
        let frame_of_parts =
        found_parts limit (get_or s 0 0) (text_of s) (end_of s) (get_or s (length s - 3) 0)
        (get_or s (length s - 2) 0) (get_or s (length s - 1) 0)
        (omega (arith, length-take (length s - 5) (drop 1 s)))
        (record {
          in_length = refl;
          in_shape = shaped;
          in_number = passed.in_number;
          clean = passed.clean;
          in_sum = passed.in_sum;
        }) in
        subst (λ (z : List ℕ). IsFrame limit (STX ∷ (z ++ LF ∷ [])) (content_of s)) (sym parts) frame_of_parts

-- and its content is within the limit
pub found-content : (limit : ℕ) (s : List ℕ) (frame : FrameContent) → frame ≡ content_of s
    → body_fault limit s ≡ None → IsContent limit frame
found-content limit s frame is e = rw is (found limit s e).content

-- the bytes of a frame between its STX and its LF are its parts
between :
    (limit : ℕ) (s : List ℕ) (frame : FrameContent) (is_frame : IsFrame limit (STX ∷ (s ++ LF ∷ [])) frame) →
    s ≡ body_of (number_byte frame.number) frame.text (end_byte frame.last) is_frame.high is_frame.low CR
between limit s frame is_frame =
    append_cancel_right s _ (LF ∷ [])
    (tail_of is_frame.encoding
    ∙ ap (λ (xs : List ℕ). number_byte frame.number ∷ xs)
    (sym (append_assoc frame.text (end_byte frame.last ∷ is_frame.high ∷ is_frame.low ∷ CR ∷ []) (LF ∷ []))))
  where
    tail_of : {x y : ℕ} {xs ys : List ℕ} → x ∷ xs ≡ y ∷ ys → xs ≡ ys
    tail_of e = cc

pub same_content : (frame : FrameContent) → frame ≡ record {
  number = number_byte frame.number - 48;
  last = end_byte frame.last == ETX;
  text = frame.text;
}
same_content frame =
    let number_is : number_byte frame.number - 48 ≡ frame.number = omega arith in
    rw (number_is, ended frame.last) refl
  where
    ended : (last : Bool) → (end_byte last == ETX) ≡ last
    ended true = refl
    ended false = refl

-- and only such a frame body is
pub only :
    (limit : ℕ) (s : List ℕ) (frame : FrameContent) → IsFrame limit (STX ∷ (s ++ LF ∷ [])) frame →
    (body_fault limit s ≡ None) × (frame ≡ content_of s)
only limit s frame is_frame =
    subst (λ (z : List ℕ). (body_fault limit z ≡ None) × (frame ≡ content_of z))
    (sym (between limit s frame is_frame)) (
      only_parts limit is_frame.high is_frame.low frame is_frame.content is_frame.digits,
      same_content frame ∙ sym (content_of-body_of (number_byte frame.number) frame.text (end_byte frame.last)
          is_frame.high is_frame.low CR),
    )

value-upper_digit : (n : ℕ) → n < 16 → digit_value (upper_digit n) ≡ Some n
value-upper_digit n h = grind (arith, nat_tests)

-- what is written is a frame
pub IsFrame-frame_bytes : (limit : ℕ) (frame : FrameContent) → IsContent limit frame
    → IsFrame limit (frame_bytes frame) frame
unfolding frame_bytes
IsFrame-frame_bytes limit frame content = record {
  content = content;
  high = upper_digit (checksum frame / 16);
  low = upper_digit (checksum frame % 16);
  digits = record {
    high_value = checksum frame / 16;
    low_value = checksum frame % 16;
    is_high = value-upper_digit (checksum frame / 16) (omega arith);
    is_low = value-upper_digit (checksum frame % 16) (omega arith);
    value_is = omega arith;
  };
  encoding = refl;
}

-- what reading by places answers, in the terms of the frame between STX and LF
abbrev ReadsByPlaces : ℕ → List ℕ → Result FrameContent FrameFault → Type 0
ReadsByPlaces limit s r =
    MatchResult r (λ frame. (frame ≡ content_of s) × (body_fault limit s ≡ None))
    (λ fault. body_fault limit s ≡ Some fault)

pub by_places-found :
    (limit : ℕ) (s : List ℕ) (r : Result FrameContent FrameFault) → ReadsByPlaces limit s r →
    IfOk r (λ frame. IsFrame limit (STX ∷ (s ++ LF ∷ [])) frame)
by_places-found limit s (Ok frame) reads = rw reads.0 (found limit s reads.1)
by_places-found limit s (Err fault) reads = tt

pub by_places-only :
    (limit : ℕ) (s : List ℕ) (r : Result FrameContent FrameFault) → ReadsByPlaces limit s r →
    (frame : FrameContent) → IsFrame limit (STX ∷ (s ++ LF ∷ [])) frame → r ≡ Ok frame
by_places-only limit s (Ok frame) reads other is_frame = ap Ok (reads.0 ∙ sym (only limit s other is_frame).1)
by_places-only limit s (Err fault) reads other is_frame = let none = (only limit s other is_frame).0 in cc
