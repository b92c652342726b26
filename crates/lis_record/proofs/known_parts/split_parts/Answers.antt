use Rattle.std.proofs.Common.{◌≡◌, ◌*◌, ◌+◌, ◌-◌, ◌%◌, ◌^◌, drop, arith}
use Rattle.std.specs.Int.Count.{count_trailing_zeros}
use Rattle.lis_record.proofs.LeftMarks.{left-first, marks-from, nothing_passed, part_begun, part_passed}
use Rattle.lis_record.proofs.LeftMarks.{parts_split}
use Rattle.lis_record.proofs.known_parts.split_parts.Invariants.{next-mark}
use Rattle.lis_record.proofs.known_parts.split_parts.Goals as goal

pub loop-ahead-init : goal.loop-ahead-init
loop-ahead-init c = record {
  place = 1;
  some = omega arith;
  passed = 0;
  sum = omega (arith, c.requires.some);
  marks = left-first c.args.delimiter c.args.marks c.args.text.now c.requires.marks;
  parts = nothing_passed c.args.delimiter (drop 1 c.args.text.now);
}

pub overflow_sub-left-in-loop-ahead : goal.overflow_sub-left-in-loop-ahead
overflow_sub-left-in-loop-ahead c = omega (arith, (next-mark c.loop-ahead.invariant c.if-left-eq0.false).bit)

pub loop-ahead-preserved : goal.loop-ahead-preserved
loop-ahead-preserved c =
    let i = c.loop-ahead.invariant in
    let d = c.args.delimiter in
    let text = c.args.text.now in
    let left = c.loop-ahead.left in
    let end = count_trailing_zeros 64 left in
    let next = next-mark i c.if-left-eq0.false in
    let same : 1 * 2 ^ end % 18446744073709551616 ≡ 2 ^ end =
    omega (arith, next.bit, c.loop-ahead.auto.left-fits) in
    record {
      place = end + 1;
      some = omega arith;
      passed = i.passed + 1;
      sum = omega (arith, i.sum, c.loop-ahead-test.true);
      marks = record { count = i.place + i.marks.count - (end + 1); are = rw same next.others };
      parts = part_begun d text left i.place i.marks.count end next (i.passed + 1)
          (part_passed d text left i.place i.marks.count end next i.passed i.parts);
    }

pub split_at-requires : goal.split_at-requires
split_at-requires c = omega (arith, (next-mark c.loop-ahead.invariant c.if-left-eq0-2.false).inside)

pub returns-clause-split : goal.returns-clause-split
returns-clause-split c =
    let i = c.loop-ahead.invariant in
    parts_split c.args.delimiter c.args.text.now c.loop-ahead.left i.place i.marks.count
    (count_trailing_zeros 64 c.loop-ahead.left) (next-mark i c.if-left-eq0-2.false) i.passed c.args.count
    c.split_at.result.0.now c.split_at.result.1.now i.parts
    (omega (arith, i.sum, c.loop-ahead-test.false)) i.some c.split_at.ensures.front c.split_at.ensures.back

pub returns-clause-first : goal.returns-clause-first
returns-clause-first c =
    let i = c.loop-ahead.invariant in
    omega (arith, (next-mark i c.if-left-eq0-2.false).from, i.some, c.split_at.ensures.front_len)

pub returns-clause-marks : goal.returns-clause-marks
returns-clause-marks c =
    let i = c.loop-ahead.invariant in
    rw c.split_at.ensures.back
    (marks-from c.args.delimiter c.args.text.now c.loop-ahead.left i.place i.marks.count
    (count_trailing_zeros 64 c.loop-ahead.left) i.marks.are (next-mark i c.if-left-eq0-2.false))
