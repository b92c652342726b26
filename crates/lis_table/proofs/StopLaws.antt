-- The places of delimiters and escape bytes, as bits.
use Rattle.std.proofs.Common.{◌≡◌, ◌≤◌, ◌<◌, ℕ, ◌+◌, ◌*◌, ◌-◌, ◌/◌, ◌%◌, ◌^◌, Bool, true, false, cond}
use Rattle.std.proofs.Common.{List, [], ◌∷◌, ◌++◌, length, map, take, drop, None, Some, ap, sym, ◌∙◌, arith, refl}
use Rattle.std.proofs.Common.{append_assoc, length-append, take-append-drop}
use Rattle.std.specs.List.{All, position, position_from}
use Rattle.std.specs.Simd.Lanes.{mask_l}
use Rattle.std.proofs.Math.Seq.{drop-append_seam, take-append_seam}
use Rattle.std.proofs.lemmas.Iterator.Adapters.{position_from-zero}
use Rattle.std.proofs.lemmas.List.{length-drop, take_all}
use Rattle.lis_record_values.specs.Delimiters.{DelimiterBytes}
use Rattle.lis_bytes.proofs.SearchLemmas.{clean-before}
use Rattle.lis_bytes.proofs.LastBits.{last_shifted}
use Rattle.lis_record_read.proofs.Stops.{all-fail}
use Rattle.lis_bytes.proofs.MarkLemmas.{bits-small, front-bits}
use Rattle.lis_record_read.specs.inside.FrontReading.{stops}
use Rattle.lis_table.specs.inside.Stops.{AreAhead}

module _ (f : ℕ → Bool) where
  -- where no bit is set, no byte passes
  pub none-pass : (xs : List ℕ) → mask_l (map f xs) ≡ 0 → All (λ b. f b ≡ false) xs
  none-pass xs none = all-fail f 0 xs (clear 0 xs none)
    where
      clear : (i : ℕ) (xs : List ℕ) → mask_l (map f xs) ≡ 0 → position_from f i xs ≡ None
      clear i [] e = refl
      clear i (x ∷ xs) e = by (f x) e (clear (i + 1) xs)
        where
          by : (t : Bool) → cond t 1 0 + 2 * mask_l (map f xs) ≡ 0
              → (mask_l (map f xs) ≡ 0 → position_from f (i + 1) xs ≡ None)
              → cond t (Some i) (position_from f (i + 1) xs) ≡ None
          by true e more = absurd (omega arith)
          by false e more = more (omega arith)

  -- nor before the first that does
  pub none-before : (xs : List ℕ) (n : ℕ) → position f xs ≡ Some n → All (λ b. f b ≡ false) (take n xs)
  none-before xs n is =
      all-fail f 0 (take n xs) (clean-before f xs n (sym (position_from-zero f xs) ∙ is)).1

-- a text without its last byte
pub record IsOneFewer (text rest before : List ℕ) (byte : ℕ) : Type 0 where
  pub size : length rest ≡ length before + 1
  pub front : before ≡ take (length before) text
  pub back : drop (length before) text ≡ byte ∷ drop (length rest) text

pub one-fewer : (text rest before : List ℕ) (byte : ℕ) → rest ≡ take (length rest) text
    → rest ≡ before ++ byte ∷ [] → IsOneFewer text rest before byte
one-fewer text rest before byte is ends =
    let whole : text ≡ before ++ byte ∷ drop (length rest) text =
    sym (take-append-drop (length rest) text)
    ∙ ap (λ (l : List ℕ). l ++ drop (length rest) text) (sym is ∙ ends)
    ∙ append_assoc before (byte ∷ []) (drop (length rest) text) in
    record {
      size = ap length ends ∙ length-append before (byte ∷ []);
      front = sym (ap (take (length before)) whole ∙ take-append_seam before (byte ∷ drop (length rest) text));
      back = ap (drop (length before)) whole ∙ drop-append_seam before (byte ∷ drop (length rest) text);
    }

-- the places among the bytes after those that are left
abbrev pub AreAfter : (ℕ → Bool) → List ℕ → List ℕ → ℕ → Type 0
AreAfter f text rest bits =
    (length rest ≤ length text)
    × (rest ≡ take (length rest) text)
    × (bits ≡ mask_l (map f (drop (length rest) text)))

pub one-more : (f : ℕ → Bool) (text rest before : List ℕ) (byte bits more : ℕ) (test : Bool)
    → AreAfter f text rest bits → rest ≡ before ++ byte ∷ [] → f byte ≡ test → more ≡ cond test 1 0 + bits * 2
    → AreAfter f text before more
one-more f text rest before byte bits more test after ends is more_is =
    let fewer = one-fewer text rest before byte after.1 ends in
    let bit : cond {A = ℕ} (f byte) 1 0 ≡ cond {A = ℕ} test 1 0 = ap (λ (t : Bool). cond {A = ℕ} t 1 0) is in
    let here : mask_l (map f (drop (length before) text))
    ≡ cond (f byte) 1 0 + 2 * mask_l (map f (drop (length rest) text)) =
    ap (λ (l : List ℕ). mask_l (map f l)) fewer.back in
    (omega (arith, fewer.size, after.0), fewer.front, omega (arith, here, bit, after.2, more_is))

module _ (d : DelimiterBytes) (text : List ℕ) where
  -- those of few bytes are small
  pub small : length text < 16 → mask_l (map (stops d d.escape) text) < 2 ^ 16
  small few =
      let whole : take 16 text ≡ text = take_all 16 text (omega arith) in
      rw whole at (bits-small (stops d d.escape) 16 text)

  -- those of thirty-two bytes by those of sixteen
  pub two : 32 ≤ length text → (first second : ℕ) (following : List ℕ) → following ≡ drop 16 text
      → first ≡ mask_l (map (stops d d.escape) (take 16 text))
      → second ≡ mask_l (map (stops d d.escape) (take 16 following))
      → (first + second * 65536 % 18446744073709551616 < 2 ^ 64)
      × (first + second * 65536 % 18446744073709551616 ≡ mask_l (map (stops d d.escape) (take 32 text)))
  two room first second following at is and_is =
      let low : first < 2 ^ 16 = omega (arith, is, bits-small (stops d d.escape) 16 text) in
      let high : second < 2 ^ 16 = omega (arith, and_is, bits-small (stops d d.escape) 16 following) in
      let sum = front-bits (stops d d.escape) 16 16 text (omega arith) (omega arith) in
      let here : second ≡ mask_l (map (stops d d.escape) (take 16 (drop 16 text))) =
      and_is ∙ ap (λ (l : List ℕ). mask_l (map (stops d d.escape) (take 16 l))) at in
      (omega (arith, low, high), omega (arith, low, high, sum, is, here))

  -- those of the bytes that are left, by those of the last sixteen
  pub last-ahead : (from bits : ℕ) (last rest : List ℕ) → rest ≡ drop from text → from < length text
      → 16 ≤ length text → length rest < 16 → last ≡ drop (length text - 16) text
      → bits ≡ mask_l (map (stops d d.escape) (take 16 last))
      → AreAhead d (drop from text) (bits / 2 ^ (16 - length rest)) (length rest)
  last-ahead from bits last rest is inside room few at are =
      let size : length rest ≡ length text - from = omega (arith, ap length is, length-drop from text) in
      let begins : length text - length rest ≡ from = omega (arith, size) in
      let whole : take (length rest) (drop from text) ≡ drop from text =
      take_all (length rest) (drop from text) (omega (arith, size, length-drop from text)) in
      record {
        some = omega (arith, size);
        few = omega arith;
        within = omega (arith, size, length-drop from text);
        are =
            last_shifted (stops d d.escape) text last (length rest) bits room (omega arith) at are
            ∙ ap (λ (n : ℕ). mask_l (map (stops d d.escape) (drop n text))) begins
            ∙ ap (λ (l : List ℕ). mask_l (map (stops d d.escape) l)) (sym whole);
      }
