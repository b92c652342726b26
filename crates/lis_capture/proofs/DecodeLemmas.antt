-- The bytes of digits in parts.
use Rattle.std.proofs.Common.{◌≡◌, ℕ, zero, suc, ◌+◌, ◌-◌, ◌*◌, ◌%◌, ◌^◌, ◌<◌, ◌≤◌, ◌&&◌, Bool, true, false, not, cond}
use Rattle.std.proofs.Common.{eqb, ltb, leb}
use Rattle.std.proofs.Common.{List, [], ◌∷◌, ◌++◌, length, map, take, drop, replicate, unwrap_or, is_some, Option, None}
use Rattle.std.proofs.Common.{Some, Ok}
use Rattle.std.proofs.Common.{refl, sym, ap, ◌∙◌, arith, length-take, length-drop, take_all, append-nil, slice_set}
use Rattle.std.specs.Prelude.{if◌then◌else◌, nat_lt}
use Rattle.std.specs.List.{list_all}
use Rattle.std.specs.Simd.Lanes.{pick_l, put_chunk, top, zip2}
use Rattle.std.proofs.lemmas.Bool.{and_parts}
use Rattle.std.proofs.Math.Bool.{and-false, and-true}
use Rattle.std.proofs.lemmas.List.{drop_all, length-map, take-append-drop, take-take}
use Rattle.std.proofs.lemmas.List.Folds.{list_all-append}
use Rattle.std.proofs.lemmas.Slice.{drop-put_mid, take-put_mid}
use borrow.Rule.Slice.PartMut.{put_mid}
use Rattle.std.proofs.lemmas.Bool.Decides.{nat_tests}
use Rattle.std.proofs.lemmas.Simd.{pick_l_whole, put_chunk_whole}
use Rattle.std.proofs.Math.Seq.{take-add}
use Rattle.hex.specs.Hex.{decode_pairs, hex_digit_value, is_hex_digit}
use Rattle.hex.proofs.HexLemmas.{decode_of-even}
use Rattle.lis_capture.specs.Digits.{bytes_of}
use Rattle.lis_capture.specs.inside.Digits.{is_digit_value, digit_meant}
use Rattle.lis_capture.proofs.BelowLemmas.{all-greater, all_below, bit_clear, bit_set, bits_fit, bits_over, greater}
use Rattle.lis_capture.proofs.BelowLemmas.{greater_below, length-greater}
use Rattle.lis_capture.proofs.DigitsLemmas.{by_value, bytes_of-decoded, bytes_of-other, pair_of_digits, pairs_from_some}

-- ---- the bytes of digits, two by two

abbrev pub paired : List ℕ → List ℕ
paired [] = []
paired (digit ∷ []) = []
paired (high ∷ low ∷ digits) = by_value high low ∷ paired digits

decoded_pairs : (n i : ℕ) (digits : List ℕ) → length digits ≡ 2 * n → list_all is_hex_digit digits ≡ true
    → decode_pairs i digits ≡ Ok (paired digits)
unfolding decode_pairs
decoded_pairs n i [] long all = refl
decoded_pairs n i (digit ∷ []) long all = absurd (omega arith)
decoded_pairs zero i (high ∷ low ∷ digits) long all = absurd (omega arith)
decoded_pairs (suc n) i (high ∷ low ∷ digits) long all =
    let first = and_parts (is_hex_digit high) (is_hex_digit low && list_all is_hex_digit digits) all in
    let second = and_parts (is_hex_digit low) (list_all is_hex_digit digits) first.1 in
    rw (pair_of_digits high low i first.0 second.0, decoded_pairs n (i + 2) digits (omega arith) second.1) refl

pub bytes_of-paired : (n : ℕ) (digits : List ℕ) → length digits ≡ 2 * n → 0 < n → list_all is_hex_digit digits ≡ true
    → bytes_of digits ≡ Some (paired digits)
bytes_of-paired n digits long some all =
    bytes_of-decoded digits (paired digits) (λ none. absurd (omega arith))
    (decode_of-even digits (omega arith) ∙ decoded_pairs n 0 digits long all)

-- ---- sixteen high digits and sixteen low ones

-- digits in turn
abbrev woven : List ℕ → List ℕ → List ℕ
woven [] lows = []
woven (high ∷ highs) [] = []
woven (high ∷ highs) (low ∷ lows) = high ∷ low ∷ woven highs lows

abbrev pub first_places : List ℕ
first_places = 0 ∷ 2 ∷ 4 ∷ 6 ∷ 8 ∷ 10 ∷ 12 ∷ 14 ∷ 16 ∷ 18 ∷ 20 ∷ 22 ∷ 24 ∷ 26 ∷ 28 ∷ 30 ∷ []

abbrev pub second_places : List ℕ
second_places = 1 ∷ 3 ∷ 5 ∷ 7 ∷ 9 ∷ 11 ∷ 13 ∷ 15 ∷ 17 ∷ 19 ∷ 21 ∷ 23 ∷ 25 ∷ 27 ∷ 29 ∷ 31 ∷ []

woven_places : (digits : List ℕ) → length digits ≡ 32
    → woven (pick_l 0 digits first_places) (pick_l 0 digits second_places) ≡ digits
woven_places digits long = pick_l_whole 0 digits 32 long

-- whether a value is one of no digit, as bits
abbrev others : ℕ → List ℕ → List ℕ → ℕ
others n xs ys = bits_over 16 n (greater xs ys)

abbrev joined : ℕ → List ℕ → List ℕ → List ℕ
joined n xs ys = zip2 (λ a b. (a + b) % 256) (zip2 (λ a b. a * 2 ^ b % 256) xs (replicate n 4)) ys

-- the greater of two is such a value where one of them is
flag : (v w : ℕ) (a b m : Bool) → nat_lt v 16 ≡ a → nat_lt w 16 ≡ b → ltb v w ≡ m
    → leb 16 (cond (top 7 (cond m 255 0)) w v) ≡ not (a && b)
flag v w a b m first second more =
    over (cond (top 7 (cond m 255 0)) w v) (a && b) (greater_below 16 v w a b m first second more)
  where
    over : (z : ℕ) (t : Bool) → nat_lt z 16 ≡ t → leb 16 z ≡ not t
    over z true is = grind (arith, nat_tests, is)
    over z false is = grind (arith, nat_tests, is)

is_reported : (v : ℕ) (a : Bool) → nat_lt v 16 ≡ a → is_some (digit_meant v) ≡ a
is_reported v true less = rw less refl
is_reported v false less = rw less refl

both : (a b : Bool) (bits : ℕ) (rest : Bool) → rest ≡ eqb bits 0
    → (a && (b && rest)) ≡ eqb (cond (top 7 (cond (not (a && b)) 255 0)) 1 0 + 2 * bits) 0
both true true bits rest is = is ∙ sym (bit_clear bits)
both true false bits rest is = sym (bit_set bits)
both false b bits rest is = sym (bit_set bits)

one_more : (v w bits : ℕ) (rest : Bool) → rest ≡ eqb bits 0
    → (is_some (digit_meant v) && (is_some (digit_meant w) && rest))
    ≡ eqb (cond (top 7 (cond (leb 16 (cond (top 7 (cond (ltb v w) 255 0)) w v)) 255 0)) 1 0 + 2 * bits) 0
one_more v w bits rest is =
    rw (
      is_reported v (nat_lt v 16) refl,
      is_reported w (nat_lt w 16) refl,
      flag v w (nat_lt v 16) (nat_lt w 16) (ltb v w)
          refl refl refl,
    )
    (both (nat_lt v 16) (nat_lt w 16) bits rest is)

-- sixteen pairs are digits where no lane has such a value
read_all :
    (n : ℕ) (highs lows vs ws : List ℕ) → length highs ≡ n → length lows ≡ n
    → map digit_meant vs ≡ map hex_digit_value highs → map digit_meant ws ≡ map hex_digit_value lows
    → list_all is_hex_digit (woven highs lows) ≡ eqb (others n vs ws) 0
read_all zero [] lows vs ws long_high long_low first second = refl
read_all zero (h ∷ highs) lows vs ws long_high long_low first second = absurd (omega arith)
read_all (suc n) [] lows vs ws long_high long_low first second = absurd (omega arith)
read_all (suc n) (h ∷ highs) [] vs ws long_high long_low first second = absurd (omega arith)
read_all (suc n) (h ∷ highs) (l ∷ lows) [] ws long_high long_low first second = cc
read_all (suc n) (h ∷ highs) (l ∷ lows) (v ∷ vs) [] long_high long_low first second = cc
read_all (suc n) (h ∷ highs) (l ∷ lows) (v ∷ vs) (w ∷ ws) long_high long_low first second =
    let high : hex_digit_value h ≡ digit_meant v = cc in
    let low : hex_digit_value l ≡ digit_meant w = cc in
    let highs_are : map digit_meant vs ≡ map hex_digit_value highs = cc in
    let lows_are : map digit_meant ws ≡ map hex_digit_value lows = cc in
    (λ i. is_some (high i) && (is_some (low i) && list_all is_hex_digit (woven highs lows)))
    ∙ one_more v w (others n vs ws) (list_all is_hex_digit (woven highs lows))
    (read_all n highs lows vs ws (omega arith) (omega arith) highs_are lows_are)

reported_value : (v : ℕ) (a : Option ℕ) → digit_meant v ≡ a → is_some a ≡ true → (v < 16) × (unwrap_or a 0 ≡ v)
reported_value v a reported some = by (nat_lt v 16) refl reported
  where
    by : (t : Bool) → nat_lt v 16 ≡ t → (if t then Some v else None) ≡ a → (v < 16) × (unwrap_or a 0 ≡ v)
    by true less is = (grind (arith, nat_tests, less), ap (λ (o : Option ℕ). unwrap_or o 0) (sym is))
    by false less is = cc

one_byte :
    (v w : ℕ) (a b : Option ℕ) → digit_meant v ≡ a → digit_meant w ≡ b → is_some a ≡ true → is_some b ≡ true
    → 16 * unwrap_or a 0 + unwrap_or b 0 ≡ (v * 2 ^ 4 % 256 + w) % 256
one_byte v w a b first second high low =
    let p = reported_value v a first high in
    let q = reported_value w b second low in
    rw (p.1, q.1) (omega (arith, p.0, q.0))

read_values :
    (n : ℕ) (highs lows vs ws : List ℕ) → length highs ≡ n → length lows ≡ n
    → map digit_meant vs ≡ map hex_digit_value highs → map digit_meant ws ≡ map hex_digit_value lows
    → list_all is_hex_digit (woven highs lows) ≡ true → paired (woven highs lows) ≡ joined n vs ws
read_values zero [] lows [] ws long_high long_low first second all = refl
read_values zero [] lows (v ∷ vs) ws long_high long_low first second all = cc
read_values zero (h ∷ highs) lows vs ws long_high long_low first second all = absurd (omega arith)
read_values (suc n) [] lows vs ws long_high long_low first second all = absurd (omega arith)
read_values (suc n) (h ∷ highs) [] vs ws long_high long_low first second all = absurd (omega arith)
read_values (suc n) (h ∷ highs) (l ∷ lows) [] ws long_high long_low first second all = cc
read_values (suc n) (h ∷ highs) (l ∷ lows) (v ∷ vs) [] long_high long_low first second all = cc
read_values (suc n) (h ∷ highs) (l ∷ lows) (v ∷ vs) (w ∷ ws) long_high long_low first second all =
    let one = and_parts (is_hex_digit h) (is_hex_digit l && list_all is_hex_digit (woven highs lows)) all in
    let two = and_parts (is_hex_digit l) (list_all is_hex_digit (woven highs lows)) one.1 in
    let high : digit_meant v ≡ hex_digit_value h = cc in
    let low : digit_meant w ≡ hex_digit_value l = cc in
    let highs_are : map digit_meant vs ≡ map hex_digit_value highs = cc in
    let lows_are : map digit_meant ws ≡ map hex_digit_value lows = cc in
    λ i. one_byte v w (hex_digit_value h) (hex_digit_value l) high low one.0 two.0 i
    ∷ read_values n highs lows vs ws (omega arith) (omega arith) highs_are lows_are two.1 i

pub length-paired : (n : ℕ) (digits : List ℕ) → length digits ≡ 2 * n → length (paired digits) ≡ n
length-paired n [] long = omega arith
length-paired n (digit ∷ []) long = absurd (omega arith)
length-paired zero (high ∷ low ∷ digits) long = absurd (omega arith)
length-paired (suc n) (high ∷ low ∷ digits) long = ap suc (length-paired n digits (omega arith))

-- sixteen bytes are read, or something that is no digit is seen
read_sixteen :
    (digits bytes vs ws : List ℕ) → length digits ≡ 32 → length bytes ≡ 16
    → map digit_meant vs ≡ map hex_digit_value (pick_l 0 digits first_places)
    → map digit_meant ws ≡ map hex_digit_value (pick_l 0 digits second_places)
    → bytes_of digits ≡ (if eqb (others 16 vs ws % 2 ^ 64) 0 then Some (put_chunk 0 bytes (joined 16 vs ws)) else None)
read_sixteen digits bytes vs ws long room first second =
    let is : list_all is_hex_digit digits ≡ eqb (others 16 vs ws) 0 =
    ap (list_all is_hex_digit) (sym woven_is) ∙ read_all 16 highs lows vs ws refl refl first second in
    rw (bits_fit 16 (greater vs ws)) (by (eqb (others 16 vs ws) 0) is)
  where
    highs : List ℕ
    highs = pick_l 0 digits first_places

    lows : List ℕ
    lows = pick_l 0 digits second_places

    woven_is : woven highs lows ≡ digits
    woven_is = woven_places digits long

    by : (t : Bool) → list_all is_hex_digit digits ≡ t
        → bytes_of digits ≡ (if t then Some (put_chunk 0 bytes (joined 16 vs ws)) else None)
    by false all = bytes_of-other digits all
    by true all =
        let values : paired digits ≡ joined 16 vs ws =
        ap paired (sym woven_is) ∙ read_values 16 highs lows vs ws refl refl first second
        (ap (list_all is_hex_digit) woven_is ∙ all) in
        let fits : length bytes ≡ length (joined 16 vs ws) =
        room ∙ sym (length-paired 16 digits long) ∙ ap length values in
        bytes_of-paired 16 digits long (omega arith) all
        ∙ ap (λ (l : List ℕ). Some l) (values ∙ sym (put_chunk_whole bytes (joined 16 vs ws) fits))

sixteen_read :
    (digits bytes vs ws : List ℕ) → 32 ≤ length digits → length bytes ≡ 16
    → map digit_meant vs ≡ map hex_digit_value (pick_l 0 (take 16 digits ++ take 16 (drop 16 digits)) first_places)
    → map digit_meant ws ≡ map hex_digit_value (pick_l 0 (take 16 digits ++ take 16 (drop 16 digits)) second_places)
    → bytes_of (take 32 digits)
    ≡ (if eqb (others 16 vs ws % 2 ^ 64) 0 then Some (put_chunk 0 bytes (joined 16 vs ws)) else None)
sixteen_read digits bytes vs ws many room first second =
    let all : take 16 digits ++ take 16 (drop 16 digits) ≡ take 32 digits = sym (take-add 16 16 digits) in
    read_sixteen (take 32 digits) bytes vs ws (omega (arith, length-take 32 digits)) room (rw all at first)
    (rw all at second)

-- whether a lane has no value, as bits
abbrev pub value_bits : ℕ → List ℕ → ℕ
value_bits n xs = bits_over 16 n xs

pub all_values_seen : (xs : List ℕ) → length xs ≡ 16 → list_all is_digit_value xs ≡ eqb (value_bits 16 xs % 2 ^ 64) 0
all_values_seen xs long = rw (bits_fit 16 xs) (all_below is_digit_value 16 (λ x. refl) 16 xs long)

values-greater : (n : ℕ) (xs ys : List ℕ) → length xs ≡ n → length ys ≡ n
    → list_all is_digit_value (greater xs ys) ≡ (list_all is_digit_value xs && list_all is_digit_value ys)
values-greater = all-greater is_digit_value 16 (λ x. refl)

-- sixteen bytes are read where each of the greater values is one
pub sixteen_values :
    (digits bytes vs ws : List ℕ) → 32 ≤ length digits → length bytes ≡ 16
    → map digit_meant vs ≡ map hex_digit_value (pick_l 0 (take 16 digits ++ take 16 (drop 16 digits)) first_places)
    → map digit_meant ws ≡ map hex_digit_value (pick_l 0 (take 16 digits ++ take 16 (drop 16 digits)) second_places)
    → (length (greater vs ws) ≡ 16)
    × (bytes_of (take 32 digits) ≡ (if list_all is_digit_value (greater vs ws) then Some
    (put_chunk 0 bytes (joined 16 vs ws)) else None))
sixteen_values digits bytes vs ws many room first second =
    let v_long : length vs ≡ 16 = sym (length-map vs digit_meant) ∙ ap length first in
    let w_long : length ws ≡ 16 = sym (length-map ws digit_meant) ∙ ap length second in
    let long = length-greater 16 vs ws v_long w_long in
    (long, rw (all_values_seen (greater vs ws) long) (sixteen_read digits bytes vs ws many room first second))

-- ---- sixteen after sixteen

-- what a part of the digits reports
part_read :
    (part chunk : List ℕ) (b : Bool) → length part ≡ 32 → bytes_of part ≡ (if b then Some chunk else None)
    → (list_all is_hex_digit part ≡ b) × (b ≡ true → chunk ≡ paired part)
part_read part chunk true long reported =
    let all : list_all is_hex_digit part ≡ true = (pairs_from_some part (rw reported refl)).2 in
    let some : Some (paired part) ≡ Some chunk = sym (bytes_of-paired 16 part long (omega arith) all) ∙ reported in
    (all, λ _. cc)
part_read part chunk false long reported = (by (list_all is_hex_digit part) refl, λ e. cc)
  where
    by : (t : Bool) → list_all is_hex_digit part ≡ t → list_all is_hex_digit part ≡ false
    by false other = other
    by true all =
        let some : Some (paired part) ≡ None = sym (bytes_of-paired 16 part long (omega arith) all) ∙ reported in
        cc

paired-append : (n : ℕ) (xs ys : List ℕ) → length xs ≡ 2 * n → paired (xs ++ ys) ≡ paired xs ++ paired ys
paired-append n [] ys long = refl
paired-append n (x ∷ []) ys long = absurd (omega arith)
paired-append zero (h ∷ l ∷ xs) ys long = absurd (omega arith)
paired-append (suc n) (h ∷ l ∷ xs) ys long = ap (λ (bytes : List ℕ). by_value h l ∷ bytes)
    (paired-append n xs ys (omega arith))

take-paired : (n : ℕ) (xs : List ℕ) → take n (paired xs) ≡ paired (take (2 * n) xs)
take-paired zero xs = refl
take-paired (suc n) [] = let two : 2 * suc n ≡ suc (suc (2 * n)) = omega arith in rw two refl
take-paired (suc n) (x ∷ []) = let two : 2 * suc n ≡ suc (suc (2 * n)) = omega arith in rw two refl
take-paired (suc n) (h ∷ l ∷ xs) =
    let two : 2 * suc n ≡ suc (suc (2 * n)) = omega arith in
    rw two (ap (λ (bytes : List ℕ). by_value h l ∷ bytes) (take-paired n xs))

-- so many bytes of the digits are read
pub record IsRead (digits out : List ℕ) (place : ℕ) : Type 0 where
  pub all : list_all is_hex_digit (take (2 * place) digits) ≡ true
  pub bytes : take place out ≡ paired (take (2 * place) digits)

pub none_read : (digits out : List ℕ) → IsRead digits out 0
none_read digits out = record { all = refl; bytes = refl }

-- fewer are then read too
fewer_read : (digits out : List ℕ) (few place : ℕ) → few ≤ place → IsRead digits out place → IsRead digits out few
fewer_read digits out few place less is = record {
  all =
      let whole : take (2 * few) digits ++ drop (2 * few) (take (2 * place) digits) ≡ take (2 * place) digits =
      ap (λ (l : List ℕ). l ++ drop (2 * few) (take (2 * place) digits))
      (sym (take-take (2 * few) (2 * place) digits (omega arith)))
      ∙ take-append-drop (2 * few) (take (2 * place) digits) in
      (and_parts (list_all is_hex_digit (take (2 * few) digits))
      (list_all is_hex_digit (drop (2 * few) (take (2 * place) digits)))
      (sym (list_all-append is_hex_digit (take (2 * few) digits) (drop (2 * few) (take (2 * place) digits)))
      ∙ ap (list_all is_hex_digit) whole ∙ is.all)).0;
  bytes =
      sym (take-take few place out less) ∙ ap (take few) is.bytes ∙ take-paired few (take (2 * place) digits)
      ∙ ap paired (take-take (2 * few) (2 * place) digits (omega arith));
}

-- the digits after a place, as a slice of them has them
abbrev pub following : List ℕ → ℕ → List ℕ
following digits place = take (length digits - 2 * place) (drop (2 * place) digits)

part_of : (digits : List ℕ) (place : ℕ) → 2 * place + 32 ≤ length digits
    → take 32 (following digits place) ≡ take 32 (drop (2 * place) digits)
part_of digits place fits =
    ap (take 32) (take_all (length digits - 2 * place) (drop (2 * place) digits)
    (omega (arith, length-drop (2 * place) digits)))

-- the sixteen pairs at a place, and what they report
part_long :
    (digits : List ℕ) (n place : ℕ) → length digits ≡ 2 * n → place + 16 ≤ n
    → length (take 32 (drop (2 * place) digits)) ≡ 32
part_long digits n place pairs fits =
    omega (arith, length-take 32 (drop (2 * place) digits), length-drop (2 * place) digits)

part_there :
    (digits chunk : List ℕ) (b : Bool) (n place : ℕ) → length digits ≡ 2 * n → place + 16 ≤ n
    → bytes_of (take 32 (following digits place)) ≡ (if b then Some chunk else None)
    → (list_all is_hex_digit (take 32 (drop (2 * place) digits)) ≡ b)
    × (b ≡ true → chunk ≡ paired (take 32 (drop (2 * place) digits)))
part_there digits chunk b n place pairs fits reported =
    part_read (take 32 (drop (2 * place) digits)) chunk b (part_long digits n place pairs fits)
    (ap bytes_of (sym (part_of digits place (omega arith))) ∙ reported)

-- sixteen more are read
pub more_read :
    (digits out chunk : List ℕ) (n place k : ℕ) → length digits ≡ 2 * n → length out ≡ n → place + 16 ≤ n
    → IsRead digits out place → bytes_of (take 32 (following digits place)) ≡ Some chunk
    → IsRead digits (put_mid place k out chunk) (place + 16)
more_read digits out chunk n place k pairs room fits is reported =
    let part : List ℕ = take 32 (drop (2 * place) digits) in
    let long = part_long digits n place pairs (omega arith) in
    let read = part_there digits chunk true n place pairs (omega arith) reported in
    let twice : 2 * (place + 16) ≡ 2 * place + 32 = omega arith in
    let whole : take (2 * (place + 16)) digits ≡ take (2 * place) digits ++ part =
    rw twice (take-add (2 * place) 32 digits) in
    let front : length (take (2 * place) digits) ≡ 2 * place = omega (arith, length-take (2 * place) digits) in
    let sixteen : length chunk ≡ 16 = ap length (read.1 refl) ∙ length-paired 16 part long in
    record {
      all =
          ap (list_all is_hex_digit) whole ∙ list_all-append is_hex_digit (take (2 * place) digits) part
          ∙ (λ i. is.all i && read.0 i);
      bytes =
          take-put_mid place k out chunk (place + 16) (omega (arith, sixteen)) (omega arith)
          ∙ (λ i. is.bytes i ++ read.1 refl i)
          ∙ sym (ap paired whole ∙ paired-append place (take (2 * place) digits) part front);
    }

-- where they aren't digits, the whole text isn't
pub none_after :
    (digits chunk : List ℕ) (n place : ℕ) → length digits ≡ 2 * n → place + 16 ≤ n
    → bytes_of (take 32 (following digits place)) ≡ None → bytes_of digits ≡ None
none_after digits chunk n place pairs fits reported =
    let part : List ℕ = take 32 (drop (2 * place) digits) in
    let read = part_there digits chunk false n place pairs (omega arith) reported in
    let rest : List ℕ = drop 32 (drop (2 * place) digits) in
    let whole : take (2 * place) digits ++ (part ++ rest) ≡ digits =
    ap (λ (l : List ℕ). take (2 * place) digits ++ l) (take-append-drop 32 (drop (2 * place) digits))
    ∙ take-append-drop (2 * place) digits in
    bytes_of-other digits
    (ap (list_all is_hex_digit) (sym whole) ∙ list_all-append is_hex_digit (take (2 * place) digits) (part ++ rest)
    ∙ ap (λ b. list_all is_hex_digit (take (2 * place) digits) && b)
    (list_all-append is_hex_digit part rest ∙ (λ i. read.0 i && list_all is_hex_digit rest))
    ∙ and-false (list_all is_hex_digit (take (2 * place) digits)))

-- the last sixteen
pub last_read :
    (digits out chunk : List ℕ) (b : Bool) (n place last k : ℕ) → length digits ≡ 2 * n → length out ≡ n
    → last + 16 ≡ n → last ≤ place
    → k ≡ 16 → IsRead digits out place → bytes_of (take 32 (following digits last)) ≡ (if b then Some chunk else None)
    → bytes_of digits ≡ (if b then Some (put_mid last k out chunk) else None)
last_read digits out chunk false n place last k pairs room ends less width is reported =
    none_after digits chunk n last pairs (omega arith) reported
last_read digits out chunk true n place last k pairs room ends less width is reported =
    let read = more_read digits out chunk n last k pairs room (omega arith)
    (fewer_read digits out last place less is) reported in
    let all : take (2 * (last + 16)) digits ≡ digits = take_all (2 * (last + 16)) digits (omega arith) in
    let sixteen : length chunk ≡ 16 =
    ap length ((part_there digits chunk true n last pairs (omega arith) reported).1 refl)
    ∙ length-paired 16 (take 32 (drop (2 * last) digits)) (part_long digits n last pairs (omega arith)) in
    let none : drop (last + 16) (put_mid last k out chunk) ≡ [] =
    drop-put_mid last k out chunk (last + 16) (omega arith) (omega arith) (omega (arith, sixteen))
    ∙ drop_all (last + 16) out (omega arith) in
    let front : take (last + 16) (put_mid last k out chunk) ≡ put_mid last k out chunk =
    sym (append-nil (take (last + 16) (put_mid last k out chunk)))
    ∙ ap (λ (l : List ℕ). take (last + 16) (put_mid last k out chunk) ++ l) (sym none)
    ∙ take-append-drop (last + 16) (put_mid last k out chunk) in
    bytes_of-paired n digits pairs (omega arith) (ap (list_all is_hex_digit) (sym all) ∙ read.all)
    ∙ ap (λ (l : List ℕ). Some l)
    (ap paired (sym all) ∙ sym read.bytes ∙ front)

-- ---- with the greatest values so far

-- so many bytes are read where each value so far is one, and else none
pub record IsReadBy (digits out most : List ℕ) (place : ℕ) : Type 0 where
  pub lanes : length most ≡ 16
  pub read : list_all is_digit_value most ≡ true → IsRead digits out place
  pub none : list_all is_digit_value most ≡ false → bytes_of digits ≡ None

pub none_read_by : (digits out : List ℕ) → IsReadBy digits out (replicate 16 0) 0
none_read_by digits out = record { lanes = refl; read = λ e. none_read digits out; none = λ e. cc }

-- what sixteen more give, by whether the values before are values and theirs are
more_by :
    (digits out chunk : List ℕ) (a b : Bool) (n place k : ℕ) → length digits ≡ 2 * n → length out ≡ n → place + 16 ≤ n
    → (a ≡ true → IsRead digits out place) → (a ≡ false → bytes_of digits ≡ None)
    → bytes_of (take 32 (following digits place)) ≡ (if b then Some chunk else None)
    → ((a && b) ≡ true → IsRead digits (put_mid place k out chunk) (place + 16))
    × ((a && b) ≡ false → bytes_of digits ≡ None)
more_by digits out chunk true true n place k pairs room fits read none reported =
    (λ e. more_read digits out chunk n place k pairs room fits (read refl) reported, λ e. cc)
more_by digits out chunk true false n place k pairs room fits read none reported =
    (λ e. cc, λ e. none_after digits chunk n place pairs fits reported)
more_by digits out chunk false b n place k pairs room fits read none reported = (λ e. cc, λ e. none refl)

pub more_read_by :
    (digits out chunk most values : List ℕ) (n place k : ℕ) → length digits ≡ 2 * n → length out ≡ n → place + 16 ≤ n
    → IsReadBy digits out most place → length values ≡ 16
    → bytes_of (take 32 (following digits place)) ≡ (if list_all is_digit_value values then Some chunk else None)
    → IsReadBy digits (put_mid place k out chunk) (greater most values) (place + 16)
more_read_by digits out chunk most values n place k pairs room fits so_far lanes reported =
    let both = values-greater 16 most values so_far.lanes lanes in
    let more =
    more_by digits out chunk (list_all is_digit_value most) (list_all is_digit_value values) n place k pairs room fits
    so_far.read so_far.none reported in
    record {
      lanes = length-greater 16 most values so_far.lanes lanes;
      read = λ e. more.0 (sym both ∙ e);
      none = λ e. more.1 (sym both ∙ e);
    }

last_by :
    (digits out chunk : List ℕ) (a b : Bool) (n place last k : ℕ) → length digits ≡ 2 * n → length out ≡ n
    → last + 16 ≡ n → last ≤ place
    → k ≡ 16 → (a ≡ true → IsRead digits out place) → (a ≡ false → bytes_of digits ≡ None)
    → bytes_of (take 32 (following digits last)) ≡ (if b then Some chunk else None)
    → bytes_of digits ≡ (if a && b then Some (put_mid last k out chunk) else None)
last_by digits out chunk true b n place last k pairs room ends less width read none reported =
    last_read digits out chunk b n place last k pairs room ends less width (read refl) reported
last_by digits out chunk false b n place last k pairs room ends less width read none reported = none refl

pub last_read_by :
    (digits out chunk most values : List ℕ) (n place last k : ℕ) → length digits ≡ 2 * n → length out ≡ n
    → last + 16 ≡ n → last ≤ place
    → k ≡ 16 → IsReadBy digits out most place → length values ≡ 16
    → bytes_of (take 32 (following digits last)) ≡ (if list_all is_digit_value values then Some chunk else None)
    → bytes_of digits ≡ (if eqb (value_bits 16 (greater most values) % 2 ^ 64) 0 then Some
    (put_mid last k out chunk) else None)
last_read_by digits out chunk most values n place last k pairs room ends less width so_far lanes reported =
    let seen = all_values_seen (greater most values) (length-greater 16 most values so_far.lanes lanes) in
    let both = values-greater 16 most values so_far.lanes lanes in
    rw (← seen, both)
    (last_by digits out chunk (list_all is_digit_value most) (list_all is_digit_value values) n place last k pairs room
    ends less width so_far.read so_far.none reported)

-- ---- one pair

pub pair_read :
    (high low byte : ℕ) (bytes : List ℕ) → length bytes ≡ 1 → (is_hex_digit high && is_hex_digit low) ≡ true
    → byte ≡ by_value high low
    → bytes_of (high ∷ low ∷ []) ≡ Some (slice_set bytes 0 byte)
pair_read high low byte [] room both is = cc
pair_read high low byte (b ∷ c ∷ bytes) room both is = absurd (omega arith)
pair_read high low byte (b ∷ []) room both is =
    let parts = and_parts (is_hex_digit high) (is_hex_digit low) both in
    let all : list_all is_hex_digit (high ∷ low ∷ []) ≡ true = (λ i. parts.0 i && (parts.1 i && true)) in
    bytes_of-paired 1 (high ∷ low ∷ []) refl (omega arith) all ∙ ap (λ (n : ℕ). Some (n ∷ [])) (sym is)

pub pair_other : (high low : ℕ) → (is_hex_digit high && is_hex_digit low) ≡ false → bytes_of (high ∷ low ∷ []) ≡ None
pair_other high low other =
    bytes_of-other (high ∷ low ∷ []) (ap (λ b. is_hex_digit high && b) (and-true (is_hex_digit low)) ∙ other)
