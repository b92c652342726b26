use Rattle.std.proofs.Common.{ℕ, ◌+◌, ◌*◌, ap, ◌∙◌, unwrap_or}
use Rattle.hex.specs.Hex.{hex_digit_value}
use Rattle.lis_record_read.proofs.Pairs.{pair_step}
use Rattle.lis_record_read.proofs.escapes.first_pair.Goals as goal

pub returns : goal.returns
returns c =
    pair_step c.args.digits.now c.in-Some.following.now c.in-Some-split_first.rest.now c.in-Some.high.now
    c.in-Some-split_first.low.now _
    c.in-Some.ensures.cases.0 c.in-Some-split_first.ensures.cases.0 c.requires
    (ap (λ (h : ℕ). h * 16 + c.digit_value-2.result) c.digit_value.ensures.value
    ∙ ap (λ (l : ℕ). unwrap_or (hex_digit_value c.in-Some.high.now) 0 * 16 + l) c.digit_value-2.ensures.value)
