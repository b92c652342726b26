-- Sixteen bytes tested at once: those that a record may hold, and those that are one byte.
use Rattle.std.proofs.Common.{◌≡◌, ◌≤◌, ℕ, ◌+◌, ◌*◌, ◌-◌, ◌%◌, ◌^◌, Bool, true, false, cond, leb}
use Rattle.std.proofs.Common.{eqb, List, [], ◌∷◌}
use Rattle.std.proofs.Common.{length, map, replicate, bit_and, bit_or, refl, ap, sym, ◌∙◌, arith, not, ◌&&◌, ◌||◌}
use Rattle.std.specs.Simd.Lanes.{zip2, mask_l, top}
use Rattle.std.proofs.lemmas.Simd.{zip2_splat, zip2_splat_left, mask_l-mod}
use Rattle.std.proofs.Math.Nat.{pow-succ'}
use Rattle.std.proofs.lemmas.List.{length-map}
use Rattle.std.proofs.lemmas.Bool.{eqb-true}
use Rattle.std.proofs.lemmas.Bool.Decides.{nat_tests}
use Rattle.lis_record_values.specs.Delimiters.{DelimiterBytes}
use Rattle.lis_record_values.specs.Text.{is_text_byte}
use Rattle.lis_record_read.specs.inside.FrontReading.{stops}

-- the lanes of a test
abbrev lanes : (ℕ → Bool) → List ℕ → List ℕ
lanes f xs = map {B = ℕ} (λ b. cond (f b) 255 0) xs

or_lane : (a b : Bool) → bit_or (cond a 255 0) (cond b 255 0) ≡ cond (a || b) 255 0
or_lane true true = refl
or_lane true false = refl
or_lane false true = refl
or_lane false false = refl

and_lane : (a b : Bool) → bit_and (cond a 255 0) (cond b 255 0) ≡ cond (a && b) 255 0
and_lane true true = refl
and_lane true false = refl
and_lane false true = refl
and_lane false false = refl

or_lanes : (f g : ℕ → Bool) (xs ys zs : List ℕ) → ys ≡ lanes f xs → zs ≡ lanes g xs
    → zip2 bit_or ys zs ≡ lanes (λ b. f b || g b) xs
or_lanes f g xs ys zs is and_is = rw (is, and_is) (go xs)
  where
    go : (xs : List ℕ) → zip2 bit_or (lanes f xs) (lanes g xs) ≡ lanes (λ b. f b || g b) xs
    go [] = refl
    go (x ∷ xs) = rw (or_lane (f x) (g x), go xs) refl

and_lanes : (f g : ℕ → Bool) (xs ys zs : List ℕ) → ys ≡ lanes f xs → zs ≡ lanes g xs
    → zip2 bit_and ys zs ≡ lanes (λ b. f b && g b) xs
and_lanes f g xs ys zs is and_is = rw (is, and_is) (go xs)
  where
    go : (xs : List ℕ) → zip2 bit_and (lanes f xs) (lanes g xs) ≡ lanes (λ b. f b && g b) xs
    go [] = refl
    go (x ∷ xs) = rw (and_lane (f x) (g x), go xs) refl

-- the bits of a test's lanes
top_lane : (t : Bool) → top 7 (cond t 255 0) ≡ t
top_lane true = refl
top_lane false = refl

tops : (f : ℕ → Bool) (xs : List ℕ) → map (top 7) (lanes f xs) ≡ map f xs
tops f [] = refl
tops f (x ∷ xs) = rw (top_lane (f x), tops f xs) refl

bits : (f : ℕ → Bool) (xs ls : List ℕ) → length xs ≤ 64 → ls ≡ lanes f xs
    → mask_l (map (top 7) ls) % 2 ^ 64 ≡ mask_l (map f xs)
bits f xs ls long is =
    ap (λ (l : List ℕ). mask_l (map (top 7) l) % 2 ^ 64) is ∙ ap (λ (l : List Bool). mask_l l % 2 ^ 64) (tops f xs)
    ∙ mask_l-mod (map f xs) 64 (omega (arith, length-map xs f))

module _ (count : ℕ) (xs : List ℕ) (long : length xs ≡ count) where
  eq : (n : ℕ) → zip2 {C = ℕ} (λ a b. cond (eqb a b) 255 0) xs (replicate count n) ≡ lanes (λ b. eqb b n) xs
  eq n = zip2_splat {Z = ℕ} (λ a b. cond (eqb a b) 255 0) xs count n long

  le : (n : ℕ) → zip2 {C = ℕ} (λ a b. cond (leb a b) 255 0) xs (replicate count n) ≡ lanes (λ b. leb b n) xs
  le n = zip2_splat {Z = ℕ} (λ a b. cond (leb a b) 255 0) xs count n long

  ge : (n : ℕ) → zip2 {C = ℕ} (λ a b. cond (leb a b) 255 0) (replicate count n) xs ≡ lanes (λ b. leb n b) xs
  ge n = zip2_splat_left {Z = ℕ} (λ a b. cond (leb a b) 255 0) n count xs long

-- ---- the bytes that a record may hold

abbrev unusual : ℕ → Bool
unusual b = (leb b 31 || eqb b 127) || leb 255 b

abbrev allowed : ℕ → Bool
allowed b = (((eqb b 7 || eqb b 9) || (eqb b 11 || eqb b 12)) || (leb 32 b && leb b 126)) || (leb 128 b && leb b 254)

allowed_is : (b : ℕ) → allowed b ≡ is_text_byte b
unfolding is_text_byte
allowed_is b = by (eqb b 7) (eqb b 9) (eqb b 11) (eqb b 12) (leb 32 b && leb b 126) (leb 128 b && leb b 254)
  where
    by : (p q r s t u : Bool) → ((((p || q) || (r || s)) || t) || u) ≡ (p || q || r || s || t || u)
    by true q r s t u = refl
    by false true r s t u = refl
    by false false true s t u = refl
    by false false false true t u = refl
    by false false false false true u = refl
    by false false false false false u = refl

-- the bits of the bytes that fail a test are those of the vector that the others leave
mask_l-not : (f g : ℕ → Bool) → ((b : ℕ) → f b ≡ g b) → (xs : List ℕ)
    → mask_l (map f xs) + mask_l (map (λ b. not (g b)) xs) + 1 ≡ 2 ^ length xs
mask_l-not f g same [] = refl
mask_l-not f g same (x ∷ xs) = rw (pow-succ' 2 (length xs)) (by (f x) (g x) (same x) (mask_l-not f g same xs))
  where
    by :
        (s t : Bool) → s ≡ t → mask_l (map f xs) + mask_l (map (λ b. not (g b)) xs) + 1 ≡ 2 ^ length xs →
        cond s 1 0 + 2 * mask_l (map f xs) + (cond (not t) 1 0 + 2 * mask_l (map (λ b. not (g b)) xs)) + 1
        ≡ 2 * 2 ^ length xs
    by true true e more = omega (arith, more)
    by false false e more = omega (arith, more)
    by true false e more = cc
    by false true e more = cc

-- where no byte is unusual, a record may hold each
usual : (b : ℕ) → unusual b ≡ false → is_text_byte b ≡ true
unfolding is_text_byte
usual b t = grind (arith, nat_tests, t)

none_unusual : (xs : List ℕ) → mask_l (map unusual xs) ≡ 0 → 0 ≡ mask_l (map (λ b. not (is_text_byte b)) xs)
none_unusual [] none = refl
none_unusual (b ∷ xs) none = by (unusual b) refl none (none_unusual xs)
  where
    by :
        (test : Bool) → unusual b ≡ test → cond test 1 0 + 2 * mask_l (map unusual xs) ≡ 0 →
        (mask_l (map unusual xs) ≡ 0 → 0 ≡ mask_l (map (λ b. not (is_text_byte b)) xs))
        → 0 ≡ mask_l (map (λ b. not (is_text_byte b)) (b ∷ xs))
    by true t none later = absurd (omega arith)
    by false t none later = rw (usual b t) (omega (arith, later (omega arith)))

-- where each unusual byte is a CR, no record may hold just these
bad_return : (b : ℕ) → eqb b 13 ≡ true → is_text_byte b ≡ false
unfolding is_text_byte
bad_return b t = rw (eqb-true b 13 t) refl

only_returns : (xs : List ℕ) → mask_l (map unusual xs) ≡ mask_l (map (λ b. eqb b 13) xs)
    → mask_l (map (λ b. eqb b 13) xs) ≡ mask_l (map (λ b. not (is_text_byte b)) xs)
only_returns [] same = refl
only_returns (b ∷ xs) same = by (unusual b) (eqb b 13) refl refl same (only_returns xs)
  where
    by :
        (s t : Bool) → unusual b ≡ s → eqb b 13 ≡ t →
        cond s 1 0 + 2 * mask_l (map unusual xs) ≡ cond t 1 0 + 2 * mask_l (map (λ b. eqb b 13) xs) →
        (mask_l (map unusual xs) ≡ mask_l (map (λ b. eqb b 13) xs)
        → mask_l (map (λ b. eqb b 13) xs) ≡ mask_l (map (λ b. not (is_text_byte b)) xs))
        → cond t 1 0 + 2 * mask_l (map (λ b. eqb b 13) xs) ≡ mask_l (map (λ b. not (is_text_byte b)) (b ∷ xs))
    by true true s t same later = rw (bad_return b t) (omega (arith, later (omega arith)))
    by false false s t same later = rw (usual b s) (omega (arith, later (omega arith)))
    by true false s t same later = absurd (omega arith)
    by false true s t same later = absurd (omega arith)

module _ (count : ℕ) (few : count ≤ 64) (xs : List ℕ) (long : length xs ≡ count) where
  short : length xs ≤ 64
  short = omega (arith, few, long)

  low : zip2 bit_or (zip2 {C = ℕ} (λ a b. cond (leb a b) 255 0) xs (replicate count 31))
      (zip2 {C = ℕ} (λ a b. cond (eqb a b) 255 0) xs (replicate count 127))
      ≡ lanes (λ b. leb b 31 || eqb b 127) xs
  low = or_lanes (λ b. leb b 31) (λ b. eqb b 127) xs _ _ (le count xs long 31) (eq count xs long 127)

  pub unusual-none :
      mask_l (map (top 7)
      (zip2 bit_or
      (zip2 bit_or (zip2 {C = ℕ} (λ a b. cond (leb a b) 255 0) xs (replicate count 31))
      (zip2 {C = ℕ} (λ a b. cond (eqb a b) 255 0) xs (replicate count 127)))
      (zip2 {C = ℕ} (λ a b. cond (leb a b) 255 0) (replicate count 255) xs))) % 2 ^ 64 ≡ 0
      → 0 ≡ mask_l (map (λ b. not (is_text_byte b)) xs)
  unusual-none none =
      none_unusual xs
      (sym (bits unusual xs _ short (or_lanes (λ b. leb b 31 || eqb b 127) (λ b. leb 255 b) xs _ _ low
      (ge count xs long 255))) ∙ none)

  pub returns-only :
      mask_l (map (top 7)
      (zip2 bit_or
      (zip2 bit_or (zip2 {C = ℕ} (λ a b. cond (leb a b) 255 0) xs (replicate count 31))
      (zip2 {C = ℕ} (λ a b. cond (eqb a b) 255 0) xs (replicate count 127)))
      (zip2 {C = ℕ} (λ a b. cond (leb a b) 255 0) (replicate count 255) xs))) % 2 ^ 64
      ≡ mask_l (map (top 7) (zip2 {C = ℕ} (λ a b. cond (eqb a b) 255 0) xs (replicate count 13))) % 2 ^ 64
      → mask_l (map (top 7) (zip2 {C = ℕ} (λ a b. cond (eqb a b) 255 0) xs (replicate count 13))) % 2 ^ 64
      ≡ mask_l (map (λ b. not (is_text_byte b)) xs)
  returns-only same =
      let reported = bits (λ b. eqb b 13) xs _ short (eq count xs long 13) in
      reported
      ∙ only_returns xs
      (sym (bits unusual xs _ short (or_lanes (λ b. leb b 31 || eqb b 127) (λ b. leb 255 b) xs _ _ low
      (ge count xs long 255))) ∙ same ∙ reported)

module _ (xs : List ℕ) (long : length xs ≡ 16) where
  -- the lanes of the bytes that are allowed
  abbrev allowed_lanes : List ℕ
  allowed_lanes =
      zip2 bit_or
      (zip2 bit_or
      (zip2 bit_or
      (zip2 bit_or (zip2 {C = ℕ} (λ a b. cond (eqb a b) 255 0) xs (replicate 16 7))
      (zip2 {C = ℕ} (λ a b. cond (eqb a b) 255 0) xs (replicate 16 9)))
      (zip2 bit_or (zip2 {C = ℕ} (λ a b. cond (eqb a b) 255 0) xs (replicate 16 11))
      (zip2 {C = ℕ} (λ a b. cond (eqb a b) 255 0) xs (replicate 16 12))))
      (zip2 bit_and (zip2 {C = ℕ} (λ a b. cond (leb a b) 255 0) (replicate 16 32) xs)
      (zip2 {C = ℕ} (λ a b. cond (leb a b) 255 0) xs (replicate 16 126))))
      (zip2 bit_and (zip2 {C = ℕ} (λ a b. cond (leb a b) 255 0) (replicate 16 128) xs)
      (zip2 {C = ℕ} (λ a b. cond (leb a b) 255 0) xs (replicate 16 254)))

  allowed_is_lanes : allowed_lanes ≡ lanes allowed xs
  allowed_is_lanes =
      let bells = or_lanes (λ b. eqb b 7) (λ b. eqb b 9) xs _ _ (eq 16 xs long 7) (eq 16 xs long 9) in
      let feeds = or_lanes (λ b. eqb b 11) (λ b. eqb b 12) xs _ _ (eq 16 xs long 11) (eq 16 xs long 12) in
      let ascii = and_lanes (λ b. leb 32 b) (λ b. leb b 126) xs _ _ (ge 16 xs long 32) (le 16 xs long 126) in
      let high = and_lanes (λ b. leb 128 b) (λ b. leb b 254) xs _ _ (ge 16 xs long 128) (le 16 xs long 254) in
      let controls = or_lanes (λ b. eqb b 7 || eqb b 9) (λ b. eqb b 11 || eqb b 12) xs _ _ bells feeds in
      or_lanes (λ b. ((eqb b 7 || eqb b 9) || (eqb b 11 || eqb b 12)) || (leb 32 b && leb b 126))
      (λ b. leb 128 b && leb b 254) xs _ _
      (or_lanes (λ b. (eqb b 7 || eqb b 9) || (eqb b 11 || eqb b 12)) (λ b. leb 32 b && leb b 126) xs _ _ controls
      ascii) high

  both : mask_l (map (top 7) allowed_lanes) % 2 ^ 64 + mask_l (map (λ b. not (is_text_byte b)) xs) + 1 ≡ 2 ^ 16
  both =
      let all : 2 ^ length xs ≡ 2 ^ 16 = ap (λ (n : ℕ). 2 ^ n) long in
      ap (λ (n : ℕ). n + mask_l (map (λ b. not (is_text_byte b)) xs) + 1)
      (bits allowed xs allowed_lanes (omega (arith, long)) allowed_is_lanes)
      ∙ mask_l-not allowed is_text_byte allowed_is xs ∙ all

  pub allowed-within : mask_l (map (top 7) allowed_lanes) % 2 ^ 64 ≤ 65535
  allowed-within = omega (arith, both)

  pub allowed-others : 65535 - mask_l (map (top 7) allowed_lanes) % 2 ^ 64 ≡ mask_l (map (λ b. not (is_text_byte b)) xs)
  allowed-others = omega (arith, both)

  -- ---- the bytes that a search for the end of a field or component stops at

  pub stop-bits : (d : DelimiterBytes) (other : ℕ)
      → mask_l (map (top 7)
      (zip2 bit_or
      (zip2 bit_or (zip2 {C = ℕ} (λ a b. cond (eqb a b) 255 0) xs (replicate 16 d.field))
      (zip2 {C = ℕ} (λ a b. cond (eqb a b) 255 0) xs (replicate 16 d.repeat)))
      (zip2 bit_or (zip2 {C = ℕ} (λ a b. cond (eqb a b) 255 0) xs (replicate 16 d.component))
      (zip2 {C = ℕ} (λ a b. cond (eqb a b) 255 0) xs (replicate 16 other))))) % 2 ^ 64
      ≡ mask_l (map (stops d other) xs)
  stop-bits d other =
      let outer = or_lanes (λ b. eqb b d.field) (λ b. eqb b d.repeat) xs _ _ (eq 16 xs long d.field)
      (eq 16 xs long d.repeat) in
      let inner = or_lanes (λ b. eqb b d.component) (λ b. eqb b other) xs _ _ (eq 16 xs long d.component)
      (eq 16 xs long other) in
      bits (stops d other) xs _ (omega (arith, long))
      (or_lanes (λ b. eqb b d.field || eqb b d.repeat) (λ b. eqb b d.component || eqb b other) xs _ _ outer inner)
