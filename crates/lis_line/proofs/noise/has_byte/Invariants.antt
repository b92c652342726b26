use Rattle.std.proofs.Common.{◌≡◌, drop}
use Rattle.lis_station.specs.Line.{has_byte}
use Rattle.lis_line.proofs.noise.has_byte.Given as goal

abbrev pub invariant-loop-other : goal.invariant-loop-other
invariant-loop-other l = has_byte l.byte (drop l.other-index l.bytes) ≡ has_byte l.byte l.bytes
