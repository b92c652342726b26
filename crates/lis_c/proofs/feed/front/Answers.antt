-- A whole frame gives its signal, a run of bytes none, and the first byte its own.
use Rattle.std.proofs.Common.{None, Some, get_or}
use Rattle.lis_frame.specs.declared.scanner.SignalOf.TheVariants.{Good}
use Rattle.lis_frame.specs.Stream.{signal_after}
use Rattle.lis_c.proofs.FeedLaws.{one_byte, silent_run, whole_frame}
use Rattle.lis_c.proofs.feed.front.Goals as goal

pub returns-in-Some-clause-last : goal.returns-in-Some-clause-last
returns-in-Some-clause-last g c past represents = record {
  signal = Some (Good c.in-Some.frame);
  last = whole_frame g.row.N past c.args.bytes.now c.scan-count.result.0 c.in-Some.frame c.scan-count.ensures.bound
      (rw c.in-Some.is at c.scan-count.ensures.frame)
      (rw c.in-Some.is at (c.scan-count.ensures.signal past represents));
  reported = c.report_heard.ensures.signal;
}

pub returns-then-count-eq0-clause-last : goal.returns-then-count-eq0-clause-last
returns-then-count-eq0-clause-last g c past represents =
    let here = rw c.if-count-eq0.true at (c.scan-count.ensures.after past represents) in
    record {
      signal = signal_after g.row.N past (get_or c.args.bytes.now 0 0);
      last = one_byte g.row.N past c.args.bytes.now c.requires.some;
      reported = c.push.ensures.signal past here;
    }

pub returns-clause-last : goal.returns-clause-last
returns-clause-last g c past represents = record {
  signal = None;
  last = silent_run g.row.N past c.args.bytes.now c.scan-count.result.0 c.scan-count.ensures.bound
      (rw c.in_default.is at (c.scan-count.ensures.signal past represents));
  reported = c.report_heard-2.ensures.signal;
}
