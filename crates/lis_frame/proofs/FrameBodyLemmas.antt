-- A frame body of five bytes or more and its parts.
use Rattle.std.proofs.Common.{◌≡◌, ℕ, ◌+◌, ◌-◌, ◌%◌, ◌≤◌, ◌<◌, Bool, true, false, List, [], ◌∷◌, ◌++◌, Option, None}
use Rattle.std.proofs.Common.{Some, length, take, drop, get_or, refl, ap, arith, sym, ◌∙◌, suc, length-drop, add-zero}
use Rattle.std.proofs.lemmas.List.{get_or-append-add, get_or-drop, get_or-take, length-append, length-take-le}
use Rattle.std.proofs.lemmas.List.{take-append-drop, take-take}
use Rattle.std.proofs.Math.Seq.{take-append_seam}
use Rattle.std.specs.Prelude.{◌==◌, ◌&&◌, ◌||◌, nat_lt, nat_le, slice_index}
use Rattle.std.proofs.lemmas.Bool.Decides.{nat_tests}
use Rattle.std.specs.List.{sum}
use Rattle.lis_text.specs.Control.{ETX, ETB, CR}
use Rattle.lis_frame.specs.declared.frame.FrameFault.TheVariants.{TooLong, Shape}
use Rattle.lis_frame.specs.Frame.{number_byte, end_byte, digit_value}
use Rattle.lis_text.specs.Text.{first_forbidden}
use Rattle.lis_frame.specs.FrameBody.{text_of, end_of, content_of, digits_value, is_number_byte, pair_value, is_value}
use Rattle.lis_frame.specs.FrameBody.{first_fault, body_fault}
use Rattle.lis_frame.specs.inside.FrameBody.{body_of}

-- the sum is asked for only in a frame body of the right shape with a number
first_fault-sum :
    (shaped numbered : Bool) (forbidden : Option ℕ) (a b : Bool) → (shaped ≡ true → numbered ≡ true → a ≡ b) →
    first_fault false shaped numbered forbidden a ≡ first_fault false shaped numbered forbidden b
first_fault-sum false numbered forbidden a b same = refl
first_fault-sum true false forbidden a b same = refl
first_fault-sum true true (Some place) a b same = refl
first_fault-sum true true None a b same = ap (first_fault false true true None) (same refl refl)

pub number_byte-back : (number : ℕ) → is_number_byte number ≡ true → number_byte (number - 48) ≡ number
number_byte-back number h = grind (arith, nat_tests)

pub end_byte-back : (close end : ℕ) → (close == CR && (end == ETX || end == ETB)) ≡ true → end_byte (end == ETX) ≡ end
end_byte-back close end h = grind (arith, nat_tests)

module _ (number : ℕ) (text : List ℕ) (end high low close : ℕ) where
  pub length-body_of : length (body_of number text end high low close) ≡ length text + 5
  length-body_of = omega (arith, length-append text (end ∷ high ∷ low ∷ close ∷ []))

  -- the part at a place after the text
  byte_at_place : (k n : ℕ) → n ≡ suc (length text + k)
      → get_or (body_of number text end high low close) n 0 ≡ get_or (end ∷ high ∷ low ∷ close ∷ []) k 0
  byte_at_place k n e = rw e (get_or-append-add text (end ∷ high ∷ low ∷ close ∷ []) k 0)

  pub text_of-body_of : text_of (body_of number text end high low close) ≡ text
  text_of-body_of =
      let e : length (body_of number text end high low close) - 5 ≡ length text = omega (arith, length-body_of) in
      rw e (take-append_seam text (end ∷ high ∷ low ∷ close ∷ []))

  pub end_of-body_of : end_of (body_of number text end high low close) ≡ end
  end_of-body_of = byte_at_place 0 _ (omega (arith, length-body_of))

  pub digits_value-body_of : digits_value (body_of number text end high low close)
      ≡ pair_value (digit_value high) (digit_value low)
  digits_value-body_of =
      let h : get_or (body_of number text end high low close)
      (length (body_of number text end high low close) - 3) 0 ≡ high =
      byte_at_place 1 _ (omega (arith, length-body_of)) in
      let l : get_or (body_of number text end high low close)
      (length (body_of number text end high low close) - 2) 0 ≡ low =
      byte_at_place 2 _ (omega (arith, length-body_of)) in
      rw (h, l) refl

  pub close-body_of : slice_index (body_of number text end high low close)
      (length (body_of number text end high low close) - 1) ≡ close
  close-body_of = byte_at_place 3 _ (omega (arith, length-body_of))

  pub content_of-body_of :
      content_of (body_of number text end high low close)
      ≡ record { number = number - 48; last = end == ETX; text = text }
  content_of-body_of = rw (end_of-body_of, text_of-body_of) refl

  -- the first fault of a frame body that is not too long, by its parts
  pub body_fault-body_of :
      (limit : ℕ) → length text ≤ limit →
      body_fault limit (body_of number text end high low close)
      ≡ first_fault false (close == CR && (end == ETX || end == ETB)) (is_number_byte number) (first_forbidden text)
      (is_value (pair_value (digit_value high) (digit_value low))
      ((number_byte (number - 48) + sum text + end_byte (end == ETX)) % 256))
  unfolding body_fault
  body_fault-body_of limit short =
      let in_limit : nat_lt (limit + 5) (length (body_of number text end high low close)) ≡ false =
      grind (arith, nat_tests, length-body_of) in
      let five : nat_le 5 (length (body_of number text end high low close)) ≡ true =
      grind (arith, nat_tests, length-body_of) in
      rw (in_limit, five, close-body_of, end_of-body_of, digits_value-body_of, text_of-body_of) refl

  -- the same by the bytes of the number and of the end themselves
  pub body_fault-parts :
      (limit : ℕ) → length text ≤ limit →
      body_fault limit (body_of number text end high low close)
      ≡ first_fault false (close == CR && (end == ETX || end == ETB)) (is_number_byte number) (first_forbidden text)
      (is_value (pair_value (digit_value high) (digit_value low)) (((number + sum text) % 256 + end) % 256))
  body_fault-parts limit short =
      body_fault-body_of limit short
      ∙ first_fault-sum _ _ _ _ _
      (λ shaped numbered.
      let e : (number_byte (number - 48) + sum text + end_byte (end == ETX)) % 256
      ≡ ((number + sum text) % 256 + end) % 256 =
      rw (number_byte-back number numbered, end_byte-back close end shaped) (omega arith) in
      ap (is_value (pair_value (digit_value high) (digit_value low))) e)

four_items : (xs : List ℕ) → length xs ≡ 4 → get_or xs 0 0 ∷ get_or xs 1 0 ∷ get_or xs 2 0 ∷ get_or xs 3 0 ∷ [] ≡ xs
four_items [] h = cc
four_items (a ∷ []) h = cc
four_items (a ∷ b ∷ []) h = cc
four_items (a ∷ b ∷ c ∷ []) h = cc
four_items (a ∷ b ∷ c ∷ d ∷ []) h = refl
four_items (a ∷ b ∷ c ∷ d ∷ e ∷ xs) h = absurd (omega arith)

-- after the number: text, and the last four bytes
split_last_four :
    (xs : List ℕ) (m : ℕ) → m + 4 ≡ length xs →
    take m xs ++ (get_or xs m 0 ∷ get_or xs (m + 1) 0 ∷ get_or xs (m + 2) 0 ∷ get_or xs (m + 3) 0 ∷ []) ≡ xs
split_last_four xs m e =
    let four : length (drop m xs) ≡ 4 = rw (length-drop m xs) (omega arith) in
    let items : get_or xs m 0 ∷ get_or xs (m + 1) 0 ∷ get_or xs (m + 2) 0 ∷ get_or xs (m + 3) 0 ∷ [] ≡ drop m xs =
    simp (get_or-drop, add-zero) at (four_items (drop m xs) four) in
    rw items (take-append-drop m xs)

-- four bytes after so many
pub last_four_at :
    (xs : List ℕ) (m : ℕ) → m + 4 ≤ length xs →
    take (m + 4) xs ≡ take m xs ++ (get_or xs m 0 ∷ get_or xs (m + 1) 0 ∷ get_or xs (m + 2) 0 ∷ get_or xs (m + 3) 0
    ∷ [])
last_four_at xs m fits =
    let parts = split_last_four (take (m + 4) xs) m (sym (length-take-le (m + 4) xs fits)) in
    sym (rw (
      take-take m (m + 4) xs (omega arith),
      get_or-take (m + 4) xs m 0 (omega arith),
      get_or-take (m + 4) xs (m + 1) 0 (omega arith),
      get_or-take (m + 4) xs (m + 2) 0 (omega arith),
      get_or-take (m + 4) xs (m + 3) 0 (omega arith),
    ) at parts)

-- a frame body of five bytes or more is its parts, whose places the equations give
pub body_parts :
    (s : List ℕ) (m i j k l : ℕ) → m + 5 ≡ length s → i ≡ m + 1 → j ≡ m + 2 → k ≡ m + 3 → l ≡ m + 4 →
    s ≡ body_of (get_or s 0 0) (take m (drop 1 s)) (get_or s i 0) (get_or s j 0) (get_or s k 0) (get_or s l 0)
body_parts [] m i j k l h a b c d = absurd (omega arith)
body_parts (x ∷ xs) m i j k l h a b c d =
    let i' : i ≡ suc m = omega arith in
    let j' : j ≡ suc (m + 1) = omega arith in
    let k' : k ≡ suc (m + 2) = omega arith in
    let l' : l ≡ suc (m + 3) = omega arith in
    rw (i', j', k', l') (ap (λ (ys : List ℕ). x ∷ ys) (sym (split_last_four xs m (omega arith))))

pub body_fault-long : (limit : ℕ) (s : List ℕ) → limit + 5 < length s → body_fault limit s ≡ Some TooLong
unfolding body_fault
body_fault-long limit s h = let long : nat_lt (limit + 5) (length s) ≡ true = grind (arith, nat_tests) in
    rw long refl

pub body_fault-few : (limit : ℕ) (s : List ℕ) → length s ≤ limit + 5 → length s < 5
    → body_fault limit s ≡ Some Shape
unfolding body_fault
body_fault-few limit s h few =
    let short : nat_lt (limit + 5) (length s) ≡ false = grind (arith, nat_tests) in
    let shapeless : nat_le 5 (length s) ≡ false = grind (arith, nat_tests) in
    rw (short, shapeless) refl
