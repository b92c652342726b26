use Rattle.std.proofs.Common.{◌≡◌, ◌+◌, arith}
use Rattle.lis_record.proofs.TakenFields.{passed_more, passed_one, passed_within, taken_parts}
use Rattle.lis_record.proofs.known_parts.split_unmarked.Goals as goal

pub loop-left-init : goal.loop-left-init
loop-left-init c = record {
  passed = 1;
  some = omega arith;
  sum = omega (arith, c.requires);
  parts =
      passed_one c.args.delimiter c.in-Some.parts.now c.first_part.result.0.now
      c.first_part.result.1.now c.first_part.ensures.parts
      c.first_part.ensures.joined c.first_part.ensures.mark;
}

pub loop-left-preserved : goal.loop-left-preserved
loop-left-preserved c = record {
  passed = c.loop-left.invariant.passed + 1;
  some = omega arith;
  sum = omega (arith, c.loop-left.invariant.sum, c.loop-left-test.true);
  parts =
      passed_more c.args.delimiter c.in-Some.parts.now c.loop-left.rest.now c.loop-left.invariant.passed
      c.in-Some-split_first._mark.now c.in-Some-split_first.following.now c.first_part-in-loop-left.result.0.now
      c.first_part-in-loop-left.result.1.now
      c.loop-left.invariant.parts c.in-Some-split_first.ensures.cases.0
      c.first_part-in-loop-left.ensures.parts c.first_part-in-loop-left.ensures.joined
      c.first_part-in-loop-left.ensures.mark;
}

pub overflow_sub-parts : goal.overflow_sub-parts
overflow_sub-parts c =
    passed_within c.args.delimiter c.in-Some.parts.now c.loop-left.rest.now c.loop-left.invariant.passed
    c.loop-left.invariant.parts c.loop-left.invariant.some

pub returns-clause-split : goal.returns-clause-split
returns-clause-split c =
    let all : c.loop-left.invariant.passed ≡ c.args.count =
    omega (arith, c.loop-left.invariant.sum, c.loop-left-test.false) in
    taken_parts c.args.delimiter c.in-Some._delimiter.now c.args.count c.args.text.now c.in-Some.parts.now
    c.loop-left.rest.now c.split_at.result.0.now c.in-Some.ensures.cases.0
    (rw all at c.loop-left.invariant.parts) c.requires c.split_at.ensures.front
