use Rattle.std.proofs.Common.{◌∙◌, refl}
use Rattle.lis_record.proofs.Grown.{on_refusal, starts_further}
use Rattle.lis_record.proofs.Runs.{last_added, run_added}
use Rattle.lis_record.proofs.reencoding.add_runs.Goals as goal

pub loop-escape-preserved : goal.loop-escape-preserved
loop-escape-preserved c = record {
  whole = run_added c.args.delimiters c.args.delimiters.escape refl c.loop-escape.out.items
      c.extend_from_slice.new.self.items c.add_escape.new.out.items c.loop-escape.rest.now c.in_ok-rest.rest.now
      c.split_at.result.0.now c.split_at.result.1.now c.in-Some.inside.now c.in-Some._escape.now
      (rw (c.split_at.ensures.front, c.split_at.ensures.back) c.front_as_is.ensures.same) c.in-Some.ensures.cases.0
      (rw c.split_at.ensures.back c.front_as_is.ensures.next)
      c.in_ok-extend_from_slice.ensures.items c.in_ok-rest.ensures.same
      ∙ c.loop-escape.invariant.whole;
  begins = starts_further c.add_escape.new.out.items c.extend_from_slice.new.self.items c.loop-escape.out.items
      c.args.out.now.items c.split_at.result.0.now c.in_ok-rest.ensures.begins c.in_ok-extend_from_slice.ensures.items
      c.loop-escape.invariant.begins;
}

pub returns-in_default-clause-ok : goal.returns-in_default-clause-ok
returns-in_default-clause-ok c =
    last_added c.args.delimiters c.args.delimiters.escape refl c.loop-escape.out.items
    c.extend_from_slice.new.self.items c.loop-escape.rest.now
    c.split_at.result.0.now c.split_at.result.1.now
    (rw (c.split_at.ensures.front, c.split_at.ensures.back) c.front_as_is.ensures.same) c.in_default.ensures.cases
    c.in_ok-extend_from_slice.ensures.items
    ∙ c.loop-escape.invariant.whole

pub returns-in_err-rest-clause-err : goal.returns-in_err-rest-clause-err
returns-in_err-rest-clause-err c =
    on_refusal _ _ (starts_further c.add_escape.new.out.items c.extend_from_slice.new.self.items
    c.loop-escape.out.items c.args.out.now.items c.split_at.result.0.now c.in_err-rest.ensures.begins
    c.in_ok-extend_from_slice.ensures.items c.loop-escape.invariant.begins)
