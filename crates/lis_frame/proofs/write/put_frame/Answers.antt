use Rattle.std.proofs.Common.{◌+◌, length, arith, ◌≡◌}
use Rattle.std.proofs.lemmas.Result.{err_from_is_err_and}
use Rattle.lis_port.proofs.Sinks.{Appends-then}
use Rattle.lis_frame.proofs.PutLaws.{part_first, part_following}
use Rattle.lis_frame.specs.Frame.{frame_bytes}
use Rattle.lis_frame.proofs.write.put_frame.Goals as goal

pub returns-in_err-write_all-clause-err : goal.returns-in_err-write_all-clause-err
unfolding frame_bytes
returns-in_err-write_all-clause-err g c =
    let failed = rw c.number.ensures.value at c.in_err-write_all.ensures.err in
    let p = err_from_is_err_and c.from_residual.result c.from_residual.ensures.1 in
    rw (p.1, p.2) (part_first _ _ _ _ _ failed)

pub returns-in-Err-clause-err : goal.returns-in-Err-clause-err
unfolding frame_bytes
returns-in-Err-clause-err g c =
    let front = rw c.number.ensures.value at c.in_ok-write_all.ensures.ok in
    let failed = rw (c.as_slice-text.ensures.value, c.text.ensures) at c.in-Err.ensures.err in
    part_following _ _ _ _ _ _ front (part_first _ _ _ _ _ failed)

pub returns-in-Err-write_all-clause-err : goal.returns-in-Err-write_all-clause-err
unfolding frame_bytes
returns-in-Err-write_all-clause-err g c =
    let front = rw c.number.ensures.value at c.in_ok-write_all.ensures.ok in
    let text = rw (c.as_slice-text.ensures.value, c.text.ensures) at c.in_default.ensures.ok in
    let failed = rw c.tail.ensures at c.in-Err-write_all.ensures.err in
    let part = part_following _ _ _ _ _ _ front (part_following _ _ _ _ _ _ text failed) in
    let count : 2 + length c.args.frame.now.text + c.in-Err-write_all.count ≡ 2
    + (length c.args.frame.now.text + c.in-Err-write_all.count) = omega arith in
    rw (c.as_slice-text.ensures.value, c.text.ensures, count) part

pub returns-clause-ok : goal.returns-clause-ok
unfolding frame_bytes
returns-clause-ok g c =
    let front = rw c.number.ensures.value at c.in_ok-write_all.ensures.ok in
    let text = rw (c.as_slice-text.ensures.value, c.text.ensures) at c.in_default.ensures.ok in
    let tail = rw c.tail.ensures at c.in_default-write_all.ensures.ok in
    Appends-then _ _ _ _ _ front (Appends-then _ _ _ _ _ text tail)
