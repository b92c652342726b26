use Rattle.std.proofs.Common.{◌≡◌, map, take}
use Rattle.std.specs.List.{list_all}
use Rattle.hex.specs.Hex.{is_hex_digit}
use Rattle.lis_capture.specs.inside.Digits.{lower_case}
use Rattle.lis_capture.proofs.digits.lower_few.Given as goal

abbrev pub invariant-digits : goal.invariant-digits
invariant-digits l = record {
  all : l.all ≡ list_all is_hex_digit (take l.i l.fn.digits);
  lowered : take l.i l.lowered ≡ map lower_case (take l.i l.fn.digits);
}
