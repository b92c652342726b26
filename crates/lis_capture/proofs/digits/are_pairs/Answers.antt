use Rattle.std.proofs.Common.{◌≢◌, length, arith}
use Rattle.std.proofs.lemmas.Bool.Decides.{nat_tests}
use Rattle.lis_capture.proofs.DigitsLemmas.{is_some-bytes_of}
use Rattle.lis_capture.proofs.digits.are_pairs.Goals as goal

pub returns-then-text-eq0 : goal.returns-then-text-eq0
returns-then-text-eq0 c =
    let some : length c.args.text.now ≢ 0 = grind (arith, nat_tests) in
    is_some-bytes_of c.args.text.now c.are_digits.result some (omega arith) c.are_digits.ensures
