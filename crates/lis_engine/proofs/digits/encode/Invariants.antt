use Rattle.std.proofs.Common.{◌≡◌, ◌-◌, ◌*◌, ◌≤◌, length, take}
use Rattle.hex.specs.Hex.{encode_lower}
use Rattle.lis_engine.proofs.digits.encode.Given as goal

-- so many bytes are written
abbrev pub invariant-loop-place : goal.invariant-loop-place
invariant-loop-place l = record {
  fits : l.place ≤ length l.fn.bytes;
  written : take (2 * l.place) l.digits ≡ take (2 * l.place) (encode_lower l.fn.bytes);
}

abbrev pub decreases-loop-place : goal.decreases-loop-place
decreases-loop-place l = l.last - l.place
