-- The bytes that go on the link.
use Rattle.std.specs.Prelude.{◌≡◌, ℕ, List, [], length, take, if◌then◌else◌, nat_lt, ◌&&◌}
use Rattle.std.specs.Prelude.{Option, None, Some}
use Rattle.lis_frame.specs.Frame.{FrameContent, frame_bytes}
use Rattle.lis_c.specs.Records.{IsTextCopied}
use Rattle.lis_c.specs.Status.{ABSENT}
use Rattle.lis_c.specs.declared.out.LisBytes.{LisBytes}

-- what goes on the link, if the caller's struct has room for it, else nothing; with the usual limit it always has
abbrev pub fits_in : ℕ → List ℕ → List ℕ
fits_in limit bytes = if nat_lt 240 limit && nat_lt 247 (length bytes) then [] else bytes

-- the caller's struct holds these bytes: its length is theirs, so that no byte after them is read
pub record HoldsBytes (out : LisBytes) (bytes : List ℕ) : Type 0 where
  pub length_is : out.len ≡ length bytes
  pub bytes_are : take out.len out.bytes ≡ bytes

abbrev pub HoldsEmitted : ℕ → LisBytes → List ℕ → Type 0
HoldsEmitted limit out bytes = HoldsBytes out (fits_in limit bytes)

-- the frame that awaits its reply is copied to the front of a buffer; if none does, or it does not fit, nothing is
abbrev pub FrameCopied : Option FrameContent → (status : ℕ) (old out : List ℕ) (size : ℕ) → Type 0
FrameCopied None status old out size = (status ≡ ABSENT) × (out ≡ old) × (size ≡ 0)
FrameCopied (Some frame) status old out size = IsTextCopied (frame_bytes frame) status old out size
