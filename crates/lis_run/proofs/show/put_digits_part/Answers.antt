use Rattle.std.proofs.Common.{arith, codes, length, ◌≡◌}
use Rattle.std.proofs.lemmas.Bool.Decides.{nat_tests}
use Rattle.hex.specs.Hex.{encode_lower}
use Rattle.lis_engine.proofs.OutputLaws.{put_on}
use Rattle.lis_run.proofs.ShowLaws.{digits_here}
use Rattle.lis_run.proofs.show.put_digits_part.Goals as goal

pub returns : goal.returns
returns g c =
    let some : length c.args.bytes.now ≡ 0 → ⊥ = grind (arith, nat_tests, c.if-is_empty.false, c.is_empty.ensures) in
    rw (digits_here c.args.bytes.now some)
    (put_on _ _ _ c.put_digits.result (codes " ") (encode_lower c.args.bytes.now) c.in_ok-put.ensures
    c.put_digits.ensures)
