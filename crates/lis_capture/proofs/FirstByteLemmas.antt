-- The first lane of a vector that has a byte, as the first place of the slice that was loaded.
use Rattle.std.proofs.Common.{◌≡◌, ℕ, ◌+◌, ◌*◌, ◌<◌, ◌≤◌, Bool, true, false, not, cond, List, [], ◌∷◌, Some, length}
use Rattle.std.proofs.Common.{map}
use Rattle.std.proofs.Common.{get_or, ap, sym, ◌∙◌, arith, subst, suc}
use Rattle.std.proofs.lemmas.Bool.{false≢true}
use Rattle.std.proofs.lemmas.Simd.{length-chunk, run_in_chunk_fails, run_in_chunk_stops, trailing_mask_l}
use lib.Count.{count_trailing_zeros}
use Rattle.std.specs.List.{prefix_len}
use lib.Lanes.{chunk, mask_l}
use Rattle.memchr.specs.Find.{IsFirstByte, is_byte}

lane_counts :
    (set : Bool) (mask before lanes : ℕ) → 0 < cond set 1 0 + 2 * mask → (0 < mask → before < lanes)
    → cond (not set) (1 + before) 0 < suc lanes
lane_counts true mask before lanes some rest = omega arith
lane_counts false mask before lanes some rest = omega (arith, rest (omega arith))

-- the first lane that is set is one of the lanes, where any is
lane_is_inside :
    (test : ℕ → Bool) (bytes : List ℕ) → 0 < mask_l (map test bytes)
    → prefix_len (λ b. not (test b)) bytes < length bytes
lane_is_inside test [] some = absurd (omega (arith, some))
lane_is_inside test (b ∷ bytes) some =
    lane_counts (test b) (mask_l (map test bytes)) (prefix_len (λ c. not (test c)) bytes) (length bytes) some
    (lane_is_inside test bytes)

pub first_of_sixteen :
    (bytes : List ℕ) (a mask : ℕ) → 16 ≤ length bytes → mask ≡ mask_l (map (is_byte a) (chunk 0 16 bytes))
    → (mask ≡ 0 → ⊥) → IsFirstByte (is_byte a) bytes (Some (count_trailing_zeros 64 mask))
first_of_sixteen bytes a mask many is some =
    let front = chunk 0 16 bytes in
    let long : length front ≡ 16 = length-chunk 0 16 bytes (omega arith) in
    let set : 0 < mask_l (map (is_byte a) front) = omega (arith, is, some) in
    let place : ℕ = count_trailing_zeros 64 mask in
    let counted : place ≡ prefix_len (λ b. not (is_byte a b)) front =
    ap (count_trailing_zeros 64) is ∙ trailing_mask_l (is_byte a) 64 front (omega arith) set in
    let here : 0 + place ≡ place = omega arith in
    let inside : place < 16 = omega (arith, counted, lane_is_inside (is_byte a) front set) in (
      record {
        low = omega arith;
        high = omega arith;
        before = λ k from to found.
            false≢true
            (sym (run_in_chunk_fails (is_byte a) bytes 0 16 place 0 (omega arith) counted k (omega arith) (omega arith))
            ∙ found);
      },
      subst (λ (k : ℕ). is_byte a (get_or bytes k 0) ≡ true) here
          (run_in_chunk_stops (is_byte a) bytes 0 16 place 0 (omega arith) counted inside),
    )
