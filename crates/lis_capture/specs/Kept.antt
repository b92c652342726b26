-- How the bytes of a line are kept: they are there, or their digits in lower case.
use Rattle.std.specs.Prelude.{◌≡◌, ◌≤◌, ℕ, List, [], length, unwrap_or}
use Rattle.hex.specs.Hex.{encode_lower}
use Rattle.lis_capture.specs.Digits.{bytes_of}
use Rattle.lis_capture.specs.declared.line.Keeping.{Keeping}
use Rattle.lis_capture.specs.declared.line.Keeping.TheVariants.{Bytes, Digits}

-- the bytes of what is kept
abbrev pub kept_bytes : Keeping → List ℕ → List ℕ
kept_bytes Bytes kept = kept
kept_bytes Digits kept = unwrap_or (bytes_of kept) []

-- no more than a line reports, and digits only in lower case
abbrev pub KeptAs : Keeping → List ℕ → Type 0
KeptAs Bytes kept = length kept ≤ 2047
KeptAs Digits kept = (length kept ≤ 4094) × (encode_lower (unwrap_or (bytes_of kept) []) ≡ kept)
