use Rattle.std.proofs.Common.{length}
use Rattle.lis_record_write.specs.Encoding.{encoded_component}
use Rattle.lis_record_read.specs.FrontReading.{ArePairs, digit_symbols}
use Rattle.lis_record.proofs.Grown.{Adds}
use Rattle.lis_record.proofs.reencoding.add_raw.Given as goal

-- pairs are left, and what was added and what they encode is the whole
abbrev pub invariant-loop-byte : goal.invariant-loop-byte
invariant-loop-byte l = ArePairs l.rest
    × Adds l.initial.out.items (encoded_component l.fn.delimiters (digit_symbols l.fn.digits)) l.out.items
    (encoded_component l.fn.delimiters (digit_symbols l.rest))

abbrev pub decreases-loop-byte : goal.decreases-loop-byte
decreases-loop-byte l = length (digit_symbols l.rest)
