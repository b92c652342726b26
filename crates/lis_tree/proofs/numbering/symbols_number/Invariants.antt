use Rattle.std.proofs.Common.{◌≡◌, ◌+◌, ◌^◌, ◌≤◌, length}
use Rattle.lis_tree.specs.Numbers.{digits_from}
use Rattle.lis_tree.proofs.numbering.symbols_number.Given as goal

-- what the symbols so far make, and how many they are
abbrev pub invariant-loop-symbol : goal.invariant-loop-symbol
invariant-loop-symbol l = record {
  number : digits_from 0 l.fn.symbols ≡ digits_from l.number l.symbols;
  bound : l.number + 1 ≤ 10 ^ l.count;
  few : l.count ≤ 9;
  counted : length l.fn.symbols ≡ l.count + length l.symbols;
}

abbrev pub decreases-loop-symbol : goal.decreases-loop-symbol
decreases-loop-symbol l = length l.symbols
