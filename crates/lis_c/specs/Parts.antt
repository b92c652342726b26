-- What C gets of a list: all of it, as far as the caller's array has room.
use Rattle.std.specs.Prelude.{◌≡◌, ℕ, List, ◌++◌, drop, if◌then◌else◌, length, nat_lt, take}
use Rattle.lis_c.specs.Status.{OK, TOO_SHORT}

-- the items are put to the front of an array, as many as it has room for; how many they are is reported, and what
-- follows them in the array stays
pub record IsDelivered {A : Type 0} (items : List A) (status : ℕ) (before after : List A) (count : ℕ) : Type 0 where
  pub count_is : count ≡ length items
  pub status_is : status ≡ (if nat_lt (length before) (length items) then TOO_SHORT else OK)
  pub put : after ≡ take (length before) items ++ drop (length items) before
