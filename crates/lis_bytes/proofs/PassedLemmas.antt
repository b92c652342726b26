-- A search that has passed some bytes, in the form that the goals of the searches have.
use Rattle.std.proofs.Common.{◌≡◌, ◌≤◌, ℕ, ◌+◌, ◌-◌, Bool, true, None, Some, List, length, map, take, drop}
use Rattle.std.proofs.Common.{length-take, sym, ◌∙◌, ap, refl, arith}
use Rattle.std.specs.Prelude.{count_by}
use Rattle.std.specs.List.{position, position_from}
use Rattle.std.specs.Int.Count.{count_trailing_zeros}
use Rattle.std.specs.Int.RustNames.{count_ones}
use Rattle.std.specs.Simd.Lanes.{mask_l}
use Rattle.std.proofs.lemmas.Iterator.Adapters.{position_from-zero}
use Rattle.std.proofs.lemmas.List.{drop-drop, length-drop}
use Rattle.std.proofs.lemmas.List.Sums.{count_by-le-length}
use Rattle.std.proofs.lemmas.Simd.{ones-mask_l}
use Rattle.lis_bytes.specs.inside.Search.{Counted, Passed}
use Rattle.lis_bytes.proofs.LastBits.{count_by-chunk, count-left, first-left, none-left}
use Rattle.lis_bytes.proofs.SearchLemmas.{passes, found-chunk, position-following}

module _ (f : ℕ → Bool) where
  -- some bytes more, none of which is in the set
  pub passed_on : (n place : ℕ) (rest bytes : List ℕ) → Passed f place rest bytes → n ≤ length rest
      → mask_l (map f (take n rest)) ≡ 0 → Passed f (place + n) (drop n rest) bytes
  passed_on n place rest bytes passed many none = passes f n place rest (drop n rest) bytes passed many refl none

  -- the same of sixty-four, by the answer that they hold none
  pub passed_lacking : (lacks : Bool) (place : ℕ) (rest following bytes : List ℕ) → Passed f place rest bytes
      → 64 ≤ length rest → following ≡ drop 64 rest → lacks ≡ true → (lacks ≡ true → mask_l (map f (take 64 rest)) ≡ 0)
      → Passed f (place + 64) following bytes
  passed_lacking lacks place rest following bytes passed many is said none =
      passes f 64 place rest following bytes passed many is (none said)

  -- the same, in place of what is left
  pub passed_to : (place : ℕ) (rest bytes : List ℕ) → Passed f place rest bytes → Passed f place (drop place bytes) bytes
  passed_to place rest bytes passed = rw (← passed.following) passed

  -- one of sixteen bytes is
  pub found_on : (bits place : ℕ) (rest bytes : List ℕ) → Passed f place rest bytes → 16 ≤ length rest
      → bits ≡ mask_l (map f (take 16 rest)) → (bits ≡ 0 → ⊥)
      → position_from f 0 bytes ≡ Some (place + count_trailing_zeros 64 bits)
  found_on bits place rest bytes passed many is some =
      passed.same ∙ rw is (found-chunk f place 16 rest (omega arith) many (rw is at some))

  -- none of those that are left is
  pub none_left : (place : ℕ) (rest bytes : List ℕ) → Passed f place rest bytes
      → None ≡ position_from f 0 rest → position_from f 0 bytes ≡ None
  none_left place rest bytes passed none = passed.same ∙ sym (position-following f place rest None none)

  pub some_left : (place found : ℕ) (rest bytes : List ℕ) → Passed f place rest bytes
      → Some found ≡ position_from f 0 rest → position_from f 0 bytes ≡ Some (place + found)
  some_left place found rest bytes passed some = passed.same ∙ sym (position-following f place rest (Some found) some)

  -- the same by the bits of the last bytes
  pub none_last : (bits place : ℕ) (rest text : List ℕ) → Passed f place rest text
      → bits ≡ mask_l (map f (drop (length text - length rest) text)) → bits ≡ 0 → position f text ≡ None
  none_last bits place rest text passed is none =
      position_from-zero f text ∙ passed.same
      ∙ none-left f place bits rest text passed.fits passed.following is none

  pub some_last : (bits place : ℕ) (rest text : List ℕ) → Passed f place rest text → length rest ≤ 64
      → bits ≡ mask_l (map f (drop (length text - length rest) text)) → (bits ≡ 0 → ⊥)
      → position f text ≡ Some (place + count_trailing_zeros 64 bits)
  some_last bits place rest text passed few is some =
      position_from-zero f text ∙ passed.same
      ∙ first-left f place bits rest text passed.fits passed.following is few some

  pub place_from : (text : List ℕ) → position f text ≡ position_from f 0 text
  place_from text = position_from-zero f text

-- the bytes that are in the set: none of those that were passed, sixteen more, and the last
module _ (f : ℕ → Bool) where
  pub counted_none : (text : List ℕ) → Counted f 0 text text
  counted_none text = record {
    place = 0;
    fits = omega arith;
    following = refl;
    sum = omega arith;
    within = omega arith;
  }

  pub counted_on : (count bits : ℕ) (rest text : List ℕ) → Counted f count rest text → 16 ≤ length rest
      → bits ≡ mask_l (map f (take 16 rest)) → Counted f (count + count_ones bits) (drop 16 rest) text
  counted_on count bits rest text passed many is =
      let ones : count_ones bits ≡ count_by f (take 16 rest) = ap count_ones is ∙ ones-mask_l f (take 16 rest) in
      let few = count_by-le-length f (take 16 rest) in
      record {
        place = passed.place + 16;
        fits = omega (arith, length-drop 16 rest, passed.fits);
        following = rw passed.following (drop-drop 16 passed.place text);
        sum = rw ones (omega (arith, count_by-chunk f 16 rest, passed.sum));
        within = rw ones (omega (arith, few, length-take 16 rest, passed.within));
      }

  module _ (count bits : ℕ) (rest text : List ℕ) (passed : Counted f count rest text)
      (is : bits ≡ mask_l (map f (drop (length text - length rest) text))) where
    pub counted_all : count + count_ones bits ≡ count_by f text
    counted_all = rw (count-left f passed.place bits rest text passed.fits passed.following is) passed.sum

    pub counted_within : count + count_ones bits ≤ length text
    counted_within = rw counted_all (count_by-le-length f text)
