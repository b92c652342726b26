-- The bytes of a text that pass a test, as bits, of which the lowest are cleared one after another.
use Rattle.std.proofs.Common.{◌≡◌, ◌≤◌, ◌<◌, ℕ, zero, suc, ◌+◌, ◌*◌, ◌-◌, ◌/◌, ◌%◌, ◌^◌, ◌==◌, Bool, true, false, cond}
use Rattle.std.proofs.Common.{not, List, [], ◌∷◌, ◌++◌, length, map, take, drop, Option, Some, None, ap, sym, ◌∙◌, refl}
use Rattle.std.proofs.Common.{arith, eq-eqb, eqb, get_or, length-append, length-take, mul-suc, replicate}
use Rattle.std.proofs.Common.{take-append-drop, unwrap_or}
use Rattle.std.specs.List.{flat_map, position, prefix_len}
use Rattle.std.specs.Int.Count.{count_trailing_zeros}
use Rattle.std.specs.Simd.Lanes.{mask_l}
use Rattle.std.proofs.Math.Nat.{div-div-eq-div-mul, mul-div_cancel_left, mul_assoc, pow-succ'}
use Rattle.std.proofs.lemmas.Iterator.Adapters.{position_from-zero}
use Rattle.std.proofs.lemmas.List.{drop-drop, drop_more, length-drop, length-map, length-replicate}
use Rattle.std.proofs.lemmas.Nat.{pow-add}
use Rattle.std.proofs.lemmas.Simd.{trailing_mask_l}
use Rattle.lis_bytes.proofs.SearchLemmas.{found-chunk, found-within}
use Rattle.lis_bytes.specs.Marks.{AreMarks}
use Rattle.lis_record_values.specs.Text.{trailing_byte}
use Rattle.lis_record_read.specs.FrontReading.{parts_following}
use Rattle.lis_record.proofs.TakenFields.{Passed, passed_more, taken_parts}
use Rattle.lis_record_read.proofs.FieldTexts.{part_following-mark, trailing-none}
use Rattle.lis_bytes.proofs.LastBits.{mask_l-drop}
use Rattle.lis_bytes.proofs.MarkLemmas.{front-following}
use Rattle.lis_record_read.proofs.Places.{parts_of-first}

positive : (n : ℕ) → (n ≡ 0 → ⊥) → 0 < n
positive zero some = absurd (some refl)
positive (suc n) some = omega arith

module _ (f : ℕ → Bool) where
  -- the lowest bit, and those above it
  first-bit : (ys : List ℕ) (t : ℕ) → t ≡ prefix_len (λ b. not (f b)) ys → 0 < mask_l (map f ys)
      → mask_l (map f ys) ≡ 2 ^ t * (1 + 2 * mask_l (map f (drop (suc t) ys)))
  first-bit [] t is some = absurd (omega (arith, some))
  first-bit (y ∷ ys) t is some = by (f y) t is some (first-bit ys)
    where
      by : (test : Bool) (t : ℕ) → t ≡ cond (not test) (1 + prefix_len (λ b. not (f b)) ys) 0
          → 0 < cond test 1 0 + 2 * mask_l (map f ys)
          → ((t : ℕ) → t ≡ prefix_len (λ b. not (f b)) ys → 0 < mask_l (map f ys)
          → mask_l (map f ys) ≡ 2 ^ t * (1 + 2 * mask_l (map f (drop (suc t) ys))))
          → cond test 1 0 + 2 * mask_l (map f ys) ≡ 2 ^ t * (1 + 2 * mask_l (map f (drop (suc t) (y ∷ ys))))
      by true zero is some more = omega arith
      by true (suc t) is some more = absurd (omega (arith, is))
      by false zero is some more = absurd (omega (arith, is))
      by false (suc t) is some more =
          rw (pow-succ' 2 t, mul_assoc 2 (2 ^ t) (1 + 2 * mask_l (map f (drop (suc t) ys))))
          (omega (arith, more t (omega (arith, is)) (omega (arith, some))))

  -- after so many places without a bit
  abbrev raised : ℕ → List ℕ → List Bool
  raised k ys = replicate k false ++ map f ys

  abbrev itself : Bool → Bool
  itself b = b

  raised-bits : (k : ℕ) (ys : List ℕ) → mask_l (map itself (raised k ys)) ≡ 2 ^ k * mask_l (map f ys)
  raised-bits zero [] = refl
  raised-bits zero (y ∷ ys) = omega (arith, raised-bits zero ys)
  raised-bits (suc k) ys = rw (pow-succ' 2 k, mul_assoc 2 (2 ^ k) (mask_l (map f ys))) (omega (arith, raised-bits k ys))

  raised-lead : (k : ℕ) (ys : List ℕ) → prefix_len (λ b. not (itself b)) (raised k ys)
      ≡ k + prefix_len (λ b. not (f b)) ys
  raised-lead zero [] = refl
  raised-lead zero (y ∷ ys) = by (f y) (raised-lead zero ys)
    where
      by : (test : Bool) → prefix_len (λ b. not (itself b)) (map f ys) ≡ 0 + prefix_len (λ b. not (f b)) ys
          → cond (not test) (1 + prefix_len (λ b. not (itself b)) (map f ys)) 0
          ≡ 0 + cond (not test) (1 + prefix_len (λ b. not (f b)) ys) 0
      by true more = refl
      by false more = omega (arith, more)
  raised-lead (suc k) ys = omega (arith, raised-lead k ys)

  lowest-following : (k : ℕ) (ys : List ℕ) → k + length ys ≤ 64 → (2 ^ k * mask_l (map f ys) ≡ 0 → ⊥)
      → count_trailing_zeros 64 (2 ^ k * mask_l (map f ys)) ≡ k + prefix_len (λ b. not (f b)) ys
  lowest-following k ys room some =
      let long : length (raised k ys) ≤ 64 =
      omega (arith, length-append (replicate k false) (map f ys), length-replicate k false, length-map ys f, room) in
      ap (count_trailing_zeros 64) (sym (raised-bits k ys))
      ∙ trailing_mask_l itself 64 (raised k ys) long (rw (raised-bits k ys) (positive _ some)) ∙ raised-lead k ys

-- the bits that are left: those of so many bytes of a text, from a place on
pub record Left (f : ℕ → Bool) (text : List ℕ) (left place count : ℕ) : Type 0 where
  pub room : place + count ≤ 64
  pub within : count ≤ length (drop place text)
  pub are : left ≡ 2 ^ place * mask_l (map f (take count (drop place text)))

-- the lowest of them, and the others
pub record Next (f : ℕ → Bool) (text : List ℕ) (left place count end : ℕ) : Type 0 where
  pub from : place ≤ end
  pub inside : end < length text
  pub near : end < place + count
  pub small : end < 64
  pub first : position f (drop place text) ≡ Some (end - place)
  pub bits : left / 2 ^ end ≡ mask_l (map f (take (place + count - end) (drop end text)))
  pub bit : 2 ^ end ≤ left
  pub others : Left f text (left - 2 ^ end) (end + 1) (place + count - (end + 1))

-- the product of a bit and a number by parts
bit-off : (n : ℕ) (more : ℕ) → n * (1 + 2 * more) - n ≡ n * 2 * more
bit-off n more = omega (arith, mul_assoc n 2 more)

bit-in : (n more left : ℕ) → left ≡ n * (1 + 2 * more) → n ≤ left
bit-in n more left is = omega (arith, is, mul_assoc n 2 more)

pow-pos : (k : ℕ) → 0 < 2 ^ k
pow-pos zero = omega arith
pow-pos (suc k) = rw (pow-succ' 2 k) (omega (arith, pow-pos k))

none-of : (n m left : ℕ) → left ≡ n * m → (left ≡ 0 → ⊥) → m ≡ 0 → ⊥
none-of n m left is some none = some (omega (arith, rw none at is))

-- where none is left, none of these bytes passes
pub none-left : (f : ℕ → Bool) (text : List ℕ) (left place count : ℕ) → Left f text left place count → left ≡ 0
    → mask_l (map f (take count (drop place text))) ≡ 0
none-left f text left place count l none =
    by (2 ^ place) (mask_l (map f (take count (drop place text)))) (pow-pos place) (sym l.are ∙ none)
  where
    by : (n m : ℕ) → 0 < n → n * m ≡ 0 → m ≡ 0
    by n zero pos is = refl
    by n (suc m) pos is = absurd (omega (arith, mul-suc n m, is, pos))

module _ (f : ℕ → Bool) (text : List ℕ) (left place count : ℕ) (l : Left f text left place count)
    (some : left ≡ 0 → ⊥)
  where
    abbrev known : List ℕ
    known = take count (drop place text)

    abbrev bits : ℕ
    bits = mask_l (map f known)

    abbrev lead : ℕ
    lead = prefix_len (λ b. not (f b)) known

    marked : bits ≡ 0 → ⊥
    marked = none-of (2 ^ place) bits left l.are some

    few : count ≤ 64
    few = omega (arith, l.room)

    fits : count ≤ length (drop place text)
    fits = l.within

    long : length known ≡ count
    long = omega (arith, length-take count (drop place text), fits)

    lead_is : count_trailing_zeros 64 bits ≡ lead
    lead_is = trailing_mask_l f 64 known (omega (arith, long, few)) (positive bits marked)

    lead_within : lead < count
    lead_within = omega (arith, lead_is, found-within f count (drop place text) few fits marked)

    pub end_is : count_trailing_zeros 64 left ≡ place + lead
    end_is = rw l.are (lowest-following f place known (omega (arith, long, l.room)) (rw l.are at some))

    first_place : position f (drop place text) ≡ Some lead
    first_place =
        let at : 0 + count_trailing_zeros 64 bits ≡ lead = omega (arith, lead_is) in
        position_from-zero f (drop place text)
        ∙ found-chunk f 0 count (drop place text) few fits marked ∙ ap Some at

    abbrev others : ℕ
    others = mask_l (map f (drop (suc lead) known))

    parted : left ≡ 2 ^ (place + lead) * (1 + 2 * others)
    parted = l.are ∙ ap (λ (n : ℕ). 2 ^ place * n) (first-bit f known lead refl (positive bits marked))
        ∙ sym (mul_assoc (2 ^ place) (2 ^ lead) (1 + 2 * others))
        ∙ ap (λ (n : ℕ). n * (1 + 2 * others)) (sym (pow-add 2 place lead))

    bits_after : left / 2 ^ (place + lead) ≡ mask_l (map f (drop lead known))
    bits_after =
        ap (λ (n : ℕ). left / n) (pow-add 2 place lead)
        ∙ sym (div-div-eq-div-mul left (2 ^ place) (2 ^ lead))
        ∙ ap (λ (n : ℕ). n / 2 ^ place / 2 ^ lead) l.are
        ∙ ap (λ (n : ℕ). n / 2 ^ lead) (mul-div_cancel_left bits (pow-pos place))
        ∙ mask_l-drop f lead known

    -- the known bytes from a place on
    known_after : (n at : ℕ) → place + n ≡ at → drop n known ≡ take (place + count - at) (drop at text)
    known_after n at is =
        let fewer : count - n ≡ place + count - at = omega (arith, is) in
        front-following n count (drop place text)
        ∙ ap (λ (xs : List ℕ). take (count - n) xs) (drop-drop n place text)
        ∙ ap (λ (k : ℕ). take (count - n) (drop k text)) is
        ∙ ap (λ (k : ℕ). take k (drop at text)) fewer

    pub left-next : (end : ℕ) → end ≡ place + lead → Next f text left place count end
    left-next end is =
        let at : end - place ≡ lead = omega (arith, is) in
        let whole : left ≡ 2 ^ end * (1 + 2 * others) = rw is parted in
        record {
          from = omega (arith, is);
          inside = omega (arith, is, lead_within, l.within, length-drop place text);
          near = omega (arith, is, lead_within);
          small = omega (arith, is, lead_within, l.room);
          first = rw at first_place;
          bits =
              rw is (bits_after ∙ ap (λ (xs : List ℕ). mask_l (map f xs)) (known_after lead (place + lead) refl));
          bit = bit-in (2 ^ end) others left whole;
          others = record {
            room = omega (arith, is, l.room, lead_within);
            within =
                omega (arith, is, l.within, lead_within, length-drop (end + 1) text, length-drop place text);
            are =
                ap (λ (n : ℕ). n - 2 ^ end) whole ∙ bit-off (2 ^ end) others
                ∙ ap (λ (n : ℕ). n * others) (sym (pow-add 2 end 1))
                ∙ ap (λ (xs : List ℕ). 2 ^ (end + 1) * mask_l (map f xs))
                (known_after (suc lead) (end + 1) (omega (arith, is)));
          };
        }

-- ---- the places of a byte, but for the first byte of the text

abbrev pub is_mark : ℕ → ℕ → Bool
is_mark mark b = b == mark

pub record LeftMarks (mark : ℕ) (text : List ℕ) (left place : ℕ) : Type 0 where
  pub count : ℕ
  pub are : Left (is_mark mark) text left place count

pub left-first : (mark bits : ℕ) (text : List ℕ) → AreMarks mark text bits → LeftMarks mark text (bits - bits % 2) 1
left-first mark bits [] m = record {
  count = 0;
  are = record { room = omega arith; within = omega arith; are = omega (arith, m.are, none m.count) };
}
  where
    none : (count : ℕ) → mask_l (map (λ b. b == mark) (take count [])) ≡ 0
    none zero = refl
    none (suc count) = refl
left-first mark bits (byte ∷ rest) m = by m.count m.few m.within m.are
  where
    by : (count : ℕ) → count ≤ 64 → count ≤ length (byte ∷ rest)
        → bits ≡ mask_l (map (λ b. b == mark) (take count (byte ∷ rest)))
        → LeftMarks mark (byte ∷ rest) (bits - bits % 2) 1
    by zero few within are = record {
      count = 0;
      are = record { room = omega arith; within = omega arith; are = omega (arith, are) };
    }
    by (suc count) few within are = record {
      count = count;
      are = record {
        room = omega (arith, few);
        within = omega (arith, within);
        are = of (eqb byte mark) (mask_l (map (λ b. b == mark) (take count rest))) are;
      };
    }
      where
        of : (test : Bool) (more : ℕ) → bits ≡ cond test 1 0 + 2 * more → bits - bits % 2 ≡ 2 ^ 1 * more
        of true more is = omega (arith, is)
        of false more is = omega (arith, is)

-- the bits from one of them on are known
pub marks-from : (mark : ℕ) (text : List ℕ) (left place count end : ℕ) → Left (is_mark mark) text left place count
    → Next (is_mark mark) text left place count end → AreMarks mark (drop end text) (left / 2 ^ end)
marks-from mark text left place count end l n = record {
  count = place + count - end;
  few = omega (arith, l.room);
  within = omega (arith, n.from, l.within, n.inside, length-drop end text, length-drop place text);
  are = n.bits;
}

-- ---- the parts that were passed over up to them

pub nothing_passed : (mark : ℕ) (text : List ℕ) → Passed mark text (mark ∷ text) 0
nothing_passed mark text = record {
  parts = [];
  count = refl;
  joined = refl;
  following = refl;
  next = lone (eqb mark mark) (eq-eqb mark mark refl);
}
  where
    lone : (test : Bool) → test ≡ true → cond test None (Some mark) ≡ None
    lone true is = refl
    lone false is = cc

module _ (mark : ℕ) (text : List ℕ) (left place count end : ℕ) (n : Next (is_mark mark) text left place count end) where
  found : position (λ b. b == mark) (drop place text) ≡ Some (end - place)
  found = n.first

  following_is : drop (end - place) (drop place text) ≡ drop end text
  following_is = drop-drop (end - place) place text ∙ ap (λ (k : ℕ). drop k text) (omega (arith, n.from))

  ends : end - place ≡ unwrap_or (position (λ b. b == mark) (drop place text)) (length (drop place text))
  ends = sym (ap (λ (o : Option ℕ). unwrap_or o (length (drop place text))) n.first)

  marked_next : trailing_byte mark (drop end text) ≡ None
  marked_next = rw following_is at (part_following-mark mark (drop place text) (end - place) ends)

  pub part_passed : (passed : ℕ) → Passed mark (drop 1 text) (mark ∷ drop place text) passed
      → Passed mark (drop 1 text) (drop end text) (passed + 1)
  part_passed passed p =
      passed_more mark (drop 1 text) (mark ∷ drop place text) passed mark (drop place text)
      (take (end - place) (drop place text)) (drop end text) p refl
      (rw following_is at (parts_of-first mark (drop place text) (end - place) ends))
      (rw following_is at (sym (take-append-drop (end - place) (drop place text)))) marked_next

  pub part_begun : (passed : ℕ) → Passed mark (drop 1 text) (drop end text) passed
      → Passed mark (drop 1 text) (mark ∷ drop (end + 1) text) passed
  part_begun passed p =
      let at = drop_more text end 0 n.inside in
      let same : get_or text end 0 ≡ mark =
      trailing-none mark (get_or text end 0) (drop (end + 1) text) (drop end text) at marked_next in
      rw (at ∙ ap (λ (b : ℕ). b ∷ drop (end + 1) text) same) at p

  pub parts_split : (passed asked : ℕ) (front back : List ℕ) → Passed mark (drop 1 text) (mark ∷ drop place text) passed
      → passed + 1 ≡ asked → 0 < place → front ≡ take end text → back ≡ drop end text
      → (asked ≤ length (parts_following mark text))
      × (mark ∷ drop 1 front ≡ flat_map (λ part. mark ∷ part) (take asked (parts_following mark text)))
      × (parts_following mark back ≡ drop asked (parts_following mark text))
  parts_split passed asked front back p sum some front_is back_is =
      let whole = drop_more text 0 0 (omega (arith, n.inside)) in
      let at : end ≡ length (drop 1 text) - length (drop end text) + 1 =
      omega (arith, n.inside, n.from, some, length-drop 1 text, length-drop end text) in
      rw back_is (taken_parts mark (get_or text 0 0) asked text (drop 1 text) (drop end text) front whole
      (rw sum at (part_passed passed p)) (omega (arith, sum)) (front_is ∙ ap (λ (k : ℕ). take k text) at))
