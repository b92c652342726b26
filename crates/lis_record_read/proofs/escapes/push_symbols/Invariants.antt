use Rattle.std.proofs.Common.{◌≡◌, ◌++◌, length}
use Rattle.lis_record_read.specs.FrontReading.{symbols_of}
use Rattle.lis_record_read.proofs.escapes.push_symbols.Given as goal

abbrev pub invariant-loop-symbol : goal.invariant-loop-symbol
invariant-loop-symbol l = l.component ++ l.symbols ≡ l.initial.component ++ symbols_of l.fn.delimiters l.fn.text

abbrev pub decreases-loop-symbol : goal.decreases-loop-symbol
decreases-loop-symbol l = length l.symbols
