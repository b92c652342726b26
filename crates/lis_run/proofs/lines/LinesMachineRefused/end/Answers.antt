use Rattle.std.proofs.Common.{[], arith, rules}
use Rattle.lis_frame.specs.Stream.{stream_with}
use Rattle.lis_run.proofs.LineLaws.{at_start, closes, found_last, line_rejected, line_stops, line_taken}
use Rattle.lis_run.proofs.LineLaws.{nothing_found}
use Rattle.lis_run.proofs.lines.LinesMachineRefused.end.Goals as goal

pub returns-in-Nothing-clause-ends : goal.returns-in-Nothing-clause-ends
returns-in-Nothing-clause-ends g c = λ past text lined few.
    let at = at_start [] c.requires lined (omega (arith, few)) in
    let found = found_last at c.finish.new.self c.finish.result c.finish.ensures.known c.finish.ensures.found in
    closes (stream_with [] past) g.C.LineMachine.takes_memory _ c.end.result (nothing_found found c.in-Nothing.is)
    c.end.ensures.ends

pub returns-in-Refused-clause-ends : goal.returns-in-Refused-clause-ends
returns-in-Refused-clause-ends g c = λ past text lined few.
    let at = at_start [] c.requires lined (omega (arith, few)) in
    let found = found_last at c.finish.new.self c.finish.result c.finish.ensures.known c.finish.ensures.found in
    line_rejected found g.C.LineMachine.takes_memory c.rejected.result c.in-Refused.is c.rejected.ensures

pub returns-in_ok-take-in-Line-clause-ends : goal.returns-in_ok-take-in-Line-clause-ends
returns-in_ok-take-in-Line-clause-ends g c = λ past text lined few.
    let at = at_start [] c.requires lined (omega (arith, few)) in
    let found = found_last at c.finish.new.self c.finish.result c.finish.ensures.known c.finish.ensures.found in
    closes (stream_with [] past) g.C.LineMachine.takes_memory _ c.end-in-Line.result
    (line_taken found c.in-Line.is c.in_ok-take-in-Line.ensures.steps) c.end-in-Line.ensures.ends

pub returns-in_err-take-in-Line-clause-ends : goal.returns-in_err-take-in-Line-clause-ends
returns-in_err-take-in-Line-clause-ends g c = λ past text lined few.
    let at = at_start [] c.requires lined (omega (arith, few)) in
    let found = found_last at c.finish.new.self c.finish.result c.finish.ensures.known c.finish.ensures.found in
    let stops =
    line_stops found c.in-Line.is g.C.LineMachine.takes_memory (g.C.LineMachine.represents c.take.new.self.command)
    c.take.new.out c.in_err-take-in-Line.field-0.0 c.in_err-take-in-Line.ensures.steps in
    search (rules, stops)
