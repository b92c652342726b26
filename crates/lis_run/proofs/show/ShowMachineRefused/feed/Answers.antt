use Rattle.std.proofs.Common.{[], ◌++◌, refl, ap, sym, false}
use Rattle.lis_frame.specs.Stream.{signals_after, stream_with}
use Rattle.lis_engine.specs.Outcome.{going}
use Rattle.lis_run.specs.Show.{show, signal_lines}
use Rattle.lis_run.proofs.ShowLaws.{shown_more}
use Rattle.lis_run.proofs.StepLaws.{broke_stops}
use Rattle.lis_frame.proofs.StreamLaws.{stream_with-append}
use Rattle.lis_run.proofs.show.ShowMachineRefused.feed.Goals as goal

pub returns-in-Ok-clause-steps : goal.returns-in-Ok-clause-steps
returns-in-Ok-clause-steps g c = λ past text represented few.
    let bytes = c.args.bytes.now in
    record {
      more = signal_lines (signals_after g.row.N (stream_with [] past) bytes);
      put = c.in-Ok.ensures.put (stream_with [] past) represented.1;
      following = (
        shown_more g.row.N past bytes text represented.0,
        rw (stream_with-append past bytes []) (c.in-Ok.ensures.represents (stream_with [] past) represented.1),
      );
    }

pub returns-in-Err-clause-steps : goal.returns-in-Err-clause-steps
returns-in-Err-clause-steps g c = λ past text represented few.
    let bytes = c.args.bytes.now in
    broke_stops false c.in-Err.fault
    (record {
      outcome = going (show g.row.N (past ++ bytes));
      meant = refl;
      more = signal_lines (signals_after g.row.N (stream_with [] past) bytes);
      rest = [];
      joined = ap (λ l. l ++ []) (sym (shown_more g.row.N past bytes text represented.0));
      broke = c.in-Err.ensures.put (stream_with [] past) represented.1;
    })
