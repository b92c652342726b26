-- Whether the caller's struct has room for what is sent: a frame that is longer has a limit over the usual one.
use Rattle.std.proofs.Common.{◌≡◌, ◌≤◌, ◌<◌, ◌+◌, ℕ, List, [], length, refl, Bool, arith, true, false, nat_lt}
use Rattle.std.proofs.lemmas.Bool.Decides.{nat_tests}
use Rattle.std.specs.Prelude.{if◌then◌else◌, ◌&&◌}
use Rattle.lis_c.specs.Emitted.{fits_in}

pub has_no_room : (limit : ℕ) (bytes : List ℕ) → length bytes ≤ limit + 7 → 247 < length bytes
    → fits_in limit bytes ≡ []
has_no_room limit bytes most over = by (nat_lt 240 limit) (nat_lt 247 (length bytes)) refl refl
  where
    by : (long more : Bool) → nat_lt 240 limit ≡ long → nat_lt 247 (length bytes) ≡ more
        → (if long && more then [] else bytes) ≡ []
    by true true e f = refl
    by true false e f = absurd (grind (arith, nat_tests, f, over))
    by false more e f = absurd (grind (arith, nat_tests, e, most, over))

pub has_room : (limit : ℕ) (bytes : List ℕ) → length bytes ≤ 247 → fits_in limit bytes ≡ bytes
has_room limit bytes few = by (nat_lt 240 limit) (nat_lt 247 (length bytes)) refl refl
  where
    by : (long more : Bool) → nat_lt 240 limit ≡ long → nat_lt 247 (length bytes) ≡ more
        → (if long && more then [] else bytes) ≡ bytes
    by true true e f = absurd (grind (arith, nat_tests, f, few))
    by true false e f = refl
    by false more e f = refl
