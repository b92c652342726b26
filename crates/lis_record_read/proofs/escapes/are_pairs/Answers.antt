use Rattle.std.proofs.Common.{◌≡◌, ◌%◌, length, ◌∙◌, arith}
use Rattle.lis_record_read.proofs.Pairs.{pairs_even}
use Rattle.lis_record_read.proofs.escapes.are_pairs.Goals as goal

pub returns : goal.returns
returns c =
    let even : length c.args.text.now % 2 ≡ 0 = omega arith in
    c.are_digits.ensures ∙ pairs_even c.args.text.now even
