use Rattle.std.proofs.Common.{◌≡◌, ◌+◌, ◌^◌, ◌<◌, List, length, not, nat_eq}
use Rattle.lis_capture.specs.declared.line.Line.{Line}
use Rattle.lis_engine.specs.Output.{IsWorking}
use Rattle.lis_run.specs.inside.Playing.{IsPlaying}
use Rattle.lis_run.proofs.HearingLaws.{IsHearingOn}
use Rattle.lis_run.proofs.playing.Playing.hear.Given as goal

abbrev pub invariant-loop-rest : goal.invariant-loop-rest
invariant-loop-rest g l =
    let in_lines = not (nat_eq g.row.IN_LINES 0) in
    record {
      working : IsWorking l.out;
      same : l.out.sink ≡ l.fn.out.sink;
      goes_on :
          (lines : List Line) → IsPlaying in_lines g.row.N l.fn.self lines → l.number ≡ length lines + 1
          → l.number < 2 ^ 44 → IsHearingOn in_lines g.row.N l.number l.self l.fn.out l.out lines l.rest l.bytes;
    }

abbrev pub decreases-loop-rest : goal.decreases-loop-rest
decreases-loop-rest g l = length l.rest
