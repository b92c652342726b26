use Rattle.std.proofs.Common.{◌≡◌, ◌≤◌, ◌++◌, drop, length, take}
use Rattle.lis_c.specs.Records.{plain}
use Rattle.lis_c.proofs.records.copy_symbols.Given as goal

-- the bytes so far and those of the symbols that are left are all; what follows them in the buffer stays
abbrev pub invariant-loop-symbol : goal.invariant-loop-symbol
invariant-loop-symbol l =
    (take l.count l.out ++ plain l.rest ≡ plain l.fn.symbols)
    × (l.count ≤ length l.out)
    × (length l.out ≡ length l.fn.out)
    × (drop l.count l.out ≡ drop l.count l.fn.out)

abbrev pub decreases-loop-symbol : goal.decreases-loop-symbol
decreases-loop-symbol l = length l.rest
