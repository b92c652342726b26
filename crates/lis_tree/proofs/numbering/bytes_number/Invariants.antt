use Rattle.std.proofs.Common.{◌≡◌, ◌+◌, ◌^◌, ◌≤◌, length}
use Rattle.lis_record_values.specs.Shape.{plain_component}
use Rattle.lis_tree.specs.Numbers.{digits_from}
use Rattle.lis_tree.proofs.numbering.bytes_number.Given as goal

-- what the digits so far make, and how many they are
abbrev pub invariant-loop-byte : goal.invariant-loop-byte
invariant-loop-byte l = record {
  number : digits_from 0 (plain_component l.bytes) ≡ digits_from l.number (plain_component l.rest);
  bound : l.number + 1 ≤ 10 ^ l.count;
  few : l.count ≤ 9;
  counted : length l.bytes ≡ l.count + length l.rest;
}

abbrev pub decreases-loop-byte : goal.decreases-loop-byte
decreases-loop-byte l = length l.rest
