-- Digits in lower case.
use Rattle.std.proofs.Common.{◌≡◌, ℕ, zero, suc, ◌+◌, ◌-◌, ◌*◌, ◌/◌, ◌%◌, ◌<◌, ◌≤◌, ◌==◌, ◌&&◌, ◌^◌, Bool, true, false}
use Rattle.std.proofs.Common.{cond, eqb, ltb, List, [], ◌∷◌, ◌++◌, length, map, take, drop}
use Rattle.std.proofs.Common.{replicate, bit_or, slice_set, None, Some, unwrap_or, refl, ap, sym, ◌∙◌, arith}
use Rattle.std.proofs.Common.{length-take, length-drop, take_all, append-nil}
use Rattle.std.specs.Prelude.{if◌then◌else◌, nat_lt, slice_index}
use Rattle.std.specs.List.{list_all}
use Rattle.std.specs.Option.{option_map}
use Rattle.std.specs.Simd.Lanes.{Each1, sel_l, top, zip2}
use Rattle.std.proofs.lemmas.Bool.{and_parts, eqb-true}
use Rattle.std.proofs.lemmas.Bool.Decides.{nat_tests}
use Rattle.std.proofs.lemmas.List.{drop_all, length-map, take-append-drop, take-take}
use Rattle.std.proofs.lemmas.List.Folds.{list_all-append}
use Rattle.std.proofs.lemmas.Slice.{drop-put_mid, take-put_mid}
use Rattle.std.proofs.Math.Bool.{and-true}
use Rattle.std.proofs.Math.Seq.{take-add}
use borrow.Rule.Slice.PartMut.{put_mid}
use mir.Syntax.{w8}
use mir.Val.{Fits}
use Rattle.hex.specs.Hex.{encode_lower, encode_with, hex_digit_value, is_hex_digit, lower_digits}
use Rattle.lis_capture.specs.Digits.{bytes_of}
use Rattle.lis_capture.specs.inside.Digits.{is_none_far, lower_case}
use Rattle.lis_capture.proofs.DigitsLemmas.{by_value, bytes_of-other, digit_passes, passes, passes_at}
use Rattle.lis_capture.proofs.BelowLemmas.{all-greater, all_below, below, bits_fit, bits_over, greater, length-greater}
use Rattle.lis_capture.proofs.BelowLemmas.{lanes_reported, less}
use Rattle.lis_capture.proofs.DecodeLemmas.{bytes_of-paired, paired}

-- ---- how far a byte is from a digit, tried at every byte

abbrev over : ℕ → ℕ → ℕ
over limit a = less (cond (top 7 (below a limit)) limit a) limit

abbrev lesser : ℕ → ℕ → ℕ
lesser a b = cond (top 7 (below a b)) a b

abbrev far : ℕ → ℕ
far b = lesser (over 9 (less b 48)) (over 5 (less (bit_or b 32) 97))

abbrev same : Bool → Bool → Bool
same true b = b
same false true = false
same false false = true

same-true : (a b : Bool) → same a b ≡ true → a ≡ b
same-true true true is = refl
same-true true false is = cc
same-true false true is = cc
same-true false false is = refl

all_far : passes (λ b. same (is_none_far (far b)) (is_hex_digit b)) 0 256 ≡ true
all_far = refl

far_reported : (b : ℕ) → b < 256 → is_none_far (far b) ≡ is_hex_digit b
far_reported b fits =
    same-true (is_none_far (far b)) (is_hex_digit b)
    (passes_at (λ b. same (is_none_far (far b)) (is_hex_digit b)) 0 256 b all_far (omega arith) (omega arith))

-- and the lanes of a vector
abbrev over_of : ℕ → ℕ → List ℕ → List ℕ
over_of n limit xs =
    zip2 less (sel_l (map (top 7) (zip2 below xs (replicate n limit))) (replicate n limit) xs) (replicate n limit)

abbrev lesser_of : List ℕ → List ℕ → List ℕ
lesser_of xs ys = sel_l (map (top 7) (zip2 below xs ys)) xs ys

abbrev far_of : ℕ → List ℕ → List ℕ
far_of n bytes =
    lesser_of (over_of n 9 (zip2 less bytes (replicate n 48)))
    (over_of n 5 (zip2 less (zip2 bit_or bytes (replicate n 32)) (replicate n 97)))

pub all_far_reported :
    (n : ℕ) (bytes : List ℕ) → length bytes ≡ n → Each1 (Fits w8) bytes →
    map is_none_far (far_of n bytes) ≡ map is_hex_digit bytes
all_far_reported = lanes_reported far_of far is_none_far is_hex_digit (λ n. refl) (λ n b bytes. refl) far_reported

-- no step is a number below one
no_step : (x : ℕ) → nat_lt x 1 ≡ is_none_far x
no_step zero = refl
no_step (suc x) = grind (arith, nat_tests)

none_far-greater : (n : ℕ) (xs ys : List ℕ) → length xs ≡ n → length ys ≡ n
    → list_all is_none_far (greater xs ys) ≡ (list_all is_none_far xs && list_all is_none_far ys)
none_far-greater = all-greater is_none_far 1 no_step

all_by_map : (p q : ℕ → Bool) (xs ys : List ℕ) → map p xs ≡ map q ys → list_all p xs ≡ list_all q ys
all_by_map p q [] [] is = refl
all_by_map p q [] (y ∷ ys) is = cc
all_by_map p q (x ∷ xs) [] is = cc
all_by_map p q (x ∷ xs) (y ∷ ys) is =
    let one : p x ≡ q y = cc in
    let rest : map p xs ≡ map q ys = cc in
    λ i. one i && all_by_map p q xs ys rest i

-- ---- sixteen after sixteen

-- so many digits are written, and so far each was one
pub record IsLowered (digits out seen : List ℕ) (place : ℕ) : Type 0 where
  pub lanes : length seen ≡ 16
  pub all : list_all is_none_far seen ≡ list_all is_hex_digit (take place digits)
  pub written : take place out ≡ take place (map lower_case digits)

pub none_lowered : (digits out : List ℕ) → IsLowered digits out (replicate 16 0) 0
none_lowered digits out = record { lanes = refl; all = refl; written = refl }

map-take : (n : ℕ) (xs : List ℕ) → take n (map lower_case xs) ≡ map lower_case (take n xs)
map-take zero xs = refl
map-take (suc n) [] = refl
map-take (suc n) (x ∷ xs) = ap (λ (l : List ℕ). lower_case x ∷ l) (map-take n xs)

map-drop : (n : ℕ) (xs : List ℕ) → drop n (map lower_case xs) ≡ map lower_case (drop n xs)
map-drop zero xs = refl
map-drop (suc n) [] = refl
map-drop (suc n) (x ∷ xs) = map-drop n xs

-- the digits after a place, as a slice of them has them
abbrev pub following : List ℕ → ℕ → List ℕ
following digits place = take (length digits - place) (drop place digits)

part_of : (digits : List ℕ) (place : ℕ) → place + 16 ≤ length digits
    → take 16 (following digits place) ≡ take 16 (drop place digits)
part_of digits place fits =
    ap (take 16) (take_all (length digits - place) (drop place digits) (omega (arith, length-drop place digits)))

-- sixteen more are written
written_more :
    (digits out chunk : List ℕ) (place k : ℕ) → length out ≡ length digits → place + 16 ≤ length digits
    → take place out ≡ take place (map lower_case digits) → chunk ≡ map lower_case (take 16 (following digits place))
    → take (place + 16) (put_mid place k out chunk) ≡ take (place + 16) (map lower_case digits)
written_more digits out chunk place k room fits written is =
    let chunk_is : chunk ≡ take 16 (drop place (map lower_case digits)) =
    is ∙ ap (map lower_case) (part_of digits place fits) ∙ sym (map-take 16 (drop place digits))
    ∙ ap (take 16) (sym (map-drop place digits)) in
    let long : length chunk ≡ 16 =
    ap length chunk_is ∙ omega (
      arith,
      length-take 16 (drop place (map lower_case digits)),
      length-drop place
          (map lower_case digits),
      length-map digits lower_case,
    ) in
    take-put_mid place k out chunk (place + 16) (omega (arith, long)) (omega arith)
    ∙ (λ i. written i ++ chunk_is i)
    ∙ sym (take-add place 16 (map lower_case digits))

pub more_lowered :
    (digits out chunk seen steps : List ℕ) (place k : ℕ) → length out ≡ length digits → place + 16 ≤ length digits
    → IsLowered digits out seen place → map is_none_far steps ≡ map is_hex_digit (take 16 (following digits place))
    → chunk ≡ map lower_case (take 16 (following digits place))
    → IsLowered digits (put_mid place k out chunk) (greater seen steps) (place + 16)
more_lowered digits out chunk seen steps place k room fits so_far reported is =
    let part : List ℕ = take 16 (drop place digits) in
    let sixteen : length steps ≡ 16 =
    sym (length-map steps is_none_far) ∙ ap length reported ∙ length-map (take 16 (following digits place)) is_hex_digit
    ∙ ap length (part_of digits place fits) ∙ omega
    (arith, length-take 16 (drop place digits), length-drop place digits) in
    record {
      lanes = length-greater 16 seen steps so_far.lanes sixteen;
      all =
          none_far-greater 16 seen steps so_far.lanes sixteen
          ∙ (λ i. so_far.all i && (all_by_map is_none_far is_hex_digit steps (take 16 (following digits place)) reported
          ∙ ap (list_all is_hex_digit) (part_of digits place fits)) i)
          ∙ sym (list_all-append is_hex_digit (take place digits) part)
          ∙ ap (list_all is_hex_digit) (sym (take-add place 16 digits));
      written = written_more digits out chunk place k room fits so_far.written is;
    }

-- ---- what is written encodes the bytes

encoded_digit : (b : ℕ) → is_hex_digit b ≡ true
    → (slice_index lower_digits (unwrap_or (hex_digit_value b) 0) ≡ lower_case b)
    × (unwrap_or (hex_digit_value b) 0 < 16)
encoded_digit b is = (
  eqb-true (slice_index lower_digits (unwrap_or (hex_digit_value b) 0)) (lower_case b)
      (digit_passes (λ b. slice_index lower_digits (unwrap_or (hex_digit_value b) 0) == lower_case b) b refl is),
  small,
)
  where
    small : unwrap_or (hex_digit_value b) 0 < 16
    small =
        let test : ltb (unwrap_or (hex_digit_value b) 0) 16 ≡ true =
        digit_passes (λ b. ltb (unwrap_or (hex_digit_value b) 0) 16) b refl is in
        grind (arith, nat_tests, test)

encoded_pair : (high low : ℕ) (digits : List ℕ) → is_hex_digit high ≡ true → is_hex_digit low ≡ true
    → encode_lower (by_value high low ∷ digits) ≡ lower_case high ∷ lower_case low ∷ encode_lower digits
unfolding encode_with
encoded_pair high low digits h l =
    let first = encoded_digit high h in
    let second = encoded_digit low l in
    let quotient : by_value high low / 16 ≡ unwrap_or (hex_digit_value high) 0 = omega (arith, first.1, second.1) in
    let remainder : by_value high low % 16 ≡ unwrap_or (hex_digit_value low) 0 = omega (arith, first.1, second.1) in
    λ i. (ap (slice_index lower_digits) quotient ∙ first.0) i
    ∷ (ap (slice_index lower_digits) remainder ∙ second.0) i ∷ encode_lower digits

pub encoded_nothing : encode_lower [] ≡ []
unfolding encode_with
encoded_nothing = refl

encoded-paired : (n : ℕ) (digits : List ℕ) → length digits ≡ 2 * n → list_all is_hex_digit digits ≡ true
    → encode_lower (paired digits) ≡ map lower_case digits
encoded-paired n [] long all = encoded_nothing
encoded-paired n (digit ∷ []) long all = absurd (omega arith)
encoded-paired zero (high ∷ low ∷ digits) long all = absurd (omega arith)
encoded-paired (suc n) (high ∷ low ∷ digits) long all =
    let one = and_parts (is_hex_digit high) (is_hex_digit low && list_all is_hex_digit digits) all in
    let two = and_parts (is_hex_digit low) (list_all is_hex_digit digits) one.1 in
    encoded_pair high low (paired digits) one.0 two.0
    ∙ ap (λ (l : List ℕ). lower_case high ∷ lower_case low ∷ l) (encoded-paired n digits (omega arith) two.1)

-- pairs of digits, or none, by whether each is a digit
pub lowered_encoding :
    (digits out : List ℕ) (t : Bool) → length digits % 2 ≡ 0 → 0 < length digits → t ≡ list_all is_hex_digit digits
    → out ≡ map lower_case digits
    → option_map encode_lower (bytes_of digits) ≡ (if t then Some out else None)
lowered_encoding digits out true even some all is =
    let n : ℕ = length digits / 2 in
    let long : length digits ≡ 2 * n = omega arith in
    ap (option_map encode_lower) (bytes_of-paired n digits long (omega arith) (sym all))
    ∙ ap (λ (l : List ℕ). Some l) (encoded-paired n digits long (sym all) ∙ sym is)
lowered_encoding digits out false even some all is = ap (option_map encode_lower) (bytes_of-other digits (sym all))

once : (front middle rest : Bool) → ((front && middle) && (middle && rest)) ≡ (front && (middle && rest))
once true true rest = refl
once true false rest = refl
once false middle rest = refl

-- each of the digits is one where those before a place are, and those from an earlier one on
all_from : (digits : List ℕ) (place last : ℕ) → last ≤ place
    → (list_all is_hex_digit (take place digits) && list_all is_hex_digit (drop last digits))
    ≡ list_all is_hex_digit digits
all_from digits place last less =
    let more : ℕ = place - last in
    let place_is : place ≡ last + more = omega arith in
    let front : Bool = list_all is_hex_digit (take last digits) in
    let middle : Bool = list_all is_hex_digit (take more (drop last digits)) in
    let rest : Bool = list_all is_hex_digit (drop more (drop last digits)) in
    let before : list_all is_hex_digit (take place digits) ≡ (front && middle) =
    ap (λ (n : ℕ). list_all is_hex_digit (take n digits)) place_is
    ∙ ap (list_all is_hex_digit) (take-add last more digits)
    ∙ list_all-append is_hex_digit (take last digits) (take more (drop last digits)) in
    let after : list_all is_hex_digit (drop last digits) ≡ (middle && rest) =
    ap (list_all is_hex_digit) (sym (take-append-drop more (drop last digits)))
    ∙ list_all-append is_hex_digit (take more (drop last digits)) (drop more (drop last digits)) in
    (λ i. before i && after i) ∙ once front middle rest ∙ (λ i. front && sym after i)
    ∙ sym (list_all-append is_hex_digit (take last digits) (drop last digits))
    ∙ ap (list_all is_hex_digit) (take-append-drop last digits)

-- the last sixteen are written, perhaps over some that were
last_written :
    (digits out chunk : List ℕ) (place last k : ℕ) → length out ≡ length digits → last + 16 ≡ length digits
    → last ≤ place → k ≡ 16
    → take place out ≡ take place (map lower_case digits) → chunk ≡ map lower_case (take 16 (following digits last))
    → put_mid last k out chunk ≡ map lower_case digits
last_written digits out chunk place last k room ends less width written is =
    let lowered_encoding : List ℕ = map lower_case digits in
    let front : take last out ≡ take last lowered_encoding =
    sym (take-take last place out less) ∙ ap (take last) written ∙ take-take last place lowered_encoding less in
    let long : length chunk ≡ k =
    ap length is ∙ length-map (take 16 (following digits last)) lower_case
    ∙ ap length (part_of digits last (omega arith))
    ∙ omega (arith, length-take 16 (drop last digits), length-drop last digits) in
    let all = written_more digits out chunk last k room (omega arith) front is in
    let none : drop (last + 16) (put_mid last k out chunk) ≡ [] =
    drop-put_mid last k out chunk (last + 16) (omega arith) (omega arith) long
    ∙ drop_all (last + 16) out (omega arith) in
    sym (take-append-drop (last + 16) (put_mid last k out chunk))
    ∙ rw (none, all, append-nil (take (last + 16) lowered_encoding))
    (take_all (last + 16) lowered_encoding (omega (arith, length-map digits lower_case)))

-- what is answered in the end
pub last_lowered :
    (digits out chunk seen steps : List ℕ) (place last k : ℕ) → length out ≡ length digits
    → last + 16 ≡ length digits → last ≤ place → k ≡ 16
    → length digits % 2 ≡ 0
    → IsLowered digits out seen place → map is_none_far steps ≡ map is_hex_digit (take 16 (following digits last))
    → chunk ≡ map lower_case (take 16 (following digits last))
    → option_map encode_lower (bytes_of digits)
    ≡ (if eqb (bits_over 1 16 (greater seen steps) % 2 ^ 64) 0 then Some (put_mid last k out chunk) else None)
last_lowered digits out chunk seen steps place last k room ends less width even so_far reported is =
    let part : take 16 (following digits last) ≡ drop last digits =
    part_of digits last (omega arith) ∙ take_all 16 (drop last digits) (omega (arith, length-drop last digits)) in
    let sixteen : length steps ≡ 16 =
    sym (length-map steps is_none_far) ∙ ap length reported ∙ length-map (take 16 (following digits last)) is_hex_digit
    ∙ ap length part ∙ omega (arith, length-drop last digits) in
    let all : eqb (bits_over 1 16 (greater seen steps)) 0 ≡ list_all is_hex_digit digits =
    sym (all_below is_none_far 1 no_step 16 (greater seen steps) (length-greater 16 seen steps so_far.lanes sixteen))
    ∙ none_far-greater 16 seen steps so_far.lanes sixteen
    ∙ (λ i. so_far.all i && (all_by_map is_none_far is_hex_digit steps (take 16 (following digits last)) reported
    ∙ ap (list_all is_hex_digit) part) i)
    ∙ all_from digits place last less in
    rw (bits_fit 1 (greater seen steps))
    (lowered_encoding digits (put_mid last k out chunk) (eqb (bits_over 1 16 (greater seen steps)) 0) even (omega arith)
    all
    (last_written digits out chunk place last k room ends less width so_far.written is))

-- ---- one pair

pub pair_lowered :
    (high low : ℕ) (out : List ℕ) (t : Bool) → length out ≡ 2 → t ≡ (is_hex_digit high && is_hex_digit low)
    → option_map encode_lower (bytes_of (high ∷ low ∷ []))
    ≡ (if t then Some (slice_set (slice_set out 0 (lower_case high)) 1 (lower_case low)) else None)
pair_lowered high low [] t room is = absurd (omega arith)
pair_lowered high low (x ∷ []) t room is = absurd (omega arith)
pair_lowered high low (x ∷ y ∷ z ∷ out) t room is = absurd (omega arith)
pair_lowered high low (x ∷ y ∷ []) t room is =
    lowered_encoding (high ∷ low ∷ []) (lower_case high ∷ lower_case low ∷ []) t refl (omega arith)
    (is ∙ ap (λ b. is_hex_digit high && b) (sym (and-true (is_hex_digit low)))) refl
