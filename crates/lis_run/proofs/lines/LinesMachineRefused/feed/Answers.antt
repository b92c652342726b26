use Rattle.std.proofs.Common.{[], refl, length, ◌≡◌, arith, ap, ◌∙◌, length-drop}
use Rattle.std.proofs.lemmas.Bool.Decides.{nat_tests}
use Rattle.lis_engine.specs.Output.{Out}
use Rattle.lis_engine.proofs.OutputLaws.{waits_on}
use Rattle.lis_frame.proofs.StreamLaws.{stream_with-append}
use Rattle.lis_run.proofs.LineLaws.{at_end_of, at_start, found_on, kept, line_on, line_rejected, line_stops, nothing_on}
use Rattle.lis_run.proofs.lines.LinesMachineRefused.feed.Goals as goal

pub loop-rest-init : goal.loop-rest-init
loop-rest-init g c =
    let bytes = c.args.bytes.now in
    record {
      working = c.requires;
      same = refl;
      at = λ past text lined few. rw (stream_with-append past bytes []) (at_start bytes c.requires lined few);
    }

pub loop-rest-preserved-in-Some : goal.loop-rest-preserved-in-Some
loop-rest-preserved-in-Some g c =
    let here = c.loop-rest.invariant in
    let copied = c.in-Some.ensures in
    record {
      working = rw copied.kept (record { works = here.working.works; counts = here.working.counts });
      same = rw copied.kept here.same;
      at = λ past text lined few.
          rw c.split_at.ensures.back
          (line_on (here.at past text lined few) c.copy_line.new.reader c.in-Some.count copied.read.after _
          copied.read.found_is refl
          (λ lines represented number small. (
            waits_on c.loop-rest.out c.copy_line.new.out _ here.working copied.kept (copied.written lines represented),
            copied.represented lines represented,
          )));
    }

pub returns-in-Nothing-clause-steps : goal.returns-in-Nothing-clause-steps
returns-in-Nothing-clause-steps g c = λ past text lined few.
    let read = c.read-count.ensures in
    let count = c.read-count.result.0 in
    let at = kept g.C.LineMachine.represents c.in_default.ensures.none (c.loop-rest.invariant.at past text lined few) in
    at_end_of _ _
    (nothing_on at c.read-count.new.self count read.after c.read-count.result.1 read.found c.in-Nothing.is)
    (omega (arith, read.all c.in-Nothing.is, length-drop count c.loop-rest.rest.now))

pub returns-in-Refused-clause-steps : goal.returns-in-Refused-clause-steps
returns-in-Refused-clause-steps g c = λ past text lined few.
    let read = c.read-count.ensures in
    let at = kept g.C.LineMachine.represents c.in_default.ensures.none (c.loop-rest.invariant.at past text lined few) in
    line_rejected (found_on at c.read-count.new.self c.read-count.result.0 read.after c.read-count.result.1 read.found)
    g.C.LineMachine.takes_memory c.rejected.result c.in-Refused.is c.rejected.ensures

pub returns-in-Err-clause-steps : goal.returns-in-Err-clause-steps
returns-in-Err-clause-steps g c = λ past text lined few.
    let read = c.read-count.ensures in
    let at = kept g.C.LineMachine.represents c.in_default.ensures.none (c.loop-rest.invariant.at past text lined few) in
    line_stops (found_on at c.read-count.new.self c.read-count.result.0 read.after c.read-count.result.1 read.found)
    c.in-Line.is g.C.LineMachine.takes_memory (g.C.LineMachine.represents c.take.new.self.command) c.take.new.out
    c.in-Err.fault c.in-Err.ensures.steps

pub loop-rest-preserved : goal.loop-rest-preserved
loop-rest-preserved g c =
    let here = c.loop-rest.invariant in
    let taken = c.in_default-take.ensures in
    record {
      working = taken.left;
      same = taken.same ∙ ap (λ (o : Out). o.sink) c.in_default.ensures.none.2 ∙ here.same;
      at = λ past text lined few.
          let read = c.read-count.ensures in
          let at = kept g.C.LineMachine.represents c.in_default.ensures.none (here.at past text lined few) in
          rw (taken.reader, c.split_at-in-loop-rest.ensures.back)
          (line_on at c.read-count.new.self c.read-count.result.0 read.after c.read-count.result.1 read.found
          c.in-Line.is taken.steps);
    }

pub returns-clause-steps : goal.returns-clause-steps
returns-clause-steps g c = λ past text lined few.
    let none : length c.loop-rest.rest.now ≡ 0 = grind (arith, nat_tests, c.loop-rest-test.false, c.is_empty.ensures) in
    at_end_of _ _ (c.loop-rest.invariant.at past text lined few) none
