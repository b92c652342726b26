-- The signal is that of the front that gave one, and all bytes before it give none.
use Rattle.std.proofs.Common.{None, arith, length-drop, ◌∙◌}
use Rattle.std.proofs.lemmas.List.{take_rest}
use Rattle.lis_c.proofs.FeedLaws.{following_silent, silent_run, represents_following}
use Rattle.lis_c.proofs.SignalLaws.{heard, silent}
use Rattle.lis_c.proofs.feed.feed.Goals as goal

pub returns-then-report-ne0-clause-fed : goal.returns-then-report-ne0-clause-fed
returns-then-report-ne0-clause-fed g c past represents =
    let i = c.loop-count.invariant in
    let answered = rw (take_rest c.args.bytes.now c.loop-count.count) at
    (c.front-more.ensures.last _ (i.represents past represents)) in
    record {
      signal = answered.signal;
      fed = record {
        first = following_silent g.row.N past c.args.bytes.now c.loop-count.count c.front-more.result.0 answered.signal
            i.within c.front-more.ensures.some (i.silent past represents) answered.last;
        all = λ none. absurd (heard answered.signal _ _ answered.reported c.if-report-ne0.true none);
      };
      reported = answered.reported;
    }

pub returns-then-report-ne0-clause-after : goal.returns-then-report-ne0-clause-after
returns-then-report-ne0-clause-after g c past represents =
    let after = rw (take_rest c.args.bytes.now c.loop-count.count) at
    (c.front-more.ensures.after _ (c.loop-count.invariant.represents past represents)) in
    represents_following g.row.N past c.args.bytes.now c.loop-count.count c.front-more.result.0 _ after

pub loop-count-preserved : goal.loop-count-preserved
loop-count-preserved g c =
    let i = c.loop-count.invariant in
    let more = rw (take_rest c.args.bytes.now c.loop-count.count) at c.front-more.ensures.bound in
    record {
      within = omega (arith, length-drop c.loop-count.count c.args.bytes.now, more, i.within);
      room = c.front-more.ensures.room ∙ i.room;
      silent = λ past represents.
          let answered = rw (take_rest c.args.bytes.now c.loop-count.count) at
          (c.front-more.ensures.last _ (i.represents past represents)) in
          let none = silent answered.signal _ _ answered.reported c.if-report-ne0.false in
          (rw none at
          (following_silent g.row.N past c.args.bytes.now c.loop-count.count c.front-more.result.0 answered.signal
          i.within
          c.front-more.ensures.some (i.silent past represents) answered.last)).reports;
      represents = λ past represents.
          let after = rw (take_rest c.args.bytes.now c.loop-count.count) at
          (c.front-more.ensures.after _ (i.represents past represents)) in
          represents_following g.row.N past c.args.bytes.now c.loop-count.count c.front-more.result.0 _ after;
    }

pub returns-clause-fed : goal.returns-clause-fed
returns-clause-fed g c past represents = record {
  signal = None;
  fed = record {
    first = silent_run g.row.N past c.args.bytes.now c.loop-count.count c.loop-count.invariant.within
        (c.loop-count.invariant.silent past represents);
    all = λ e. omega (arith, c.loop-count.invariant.within, c.loop-count-test.false);
  };
  reported = c.report_heard.ensures.signal;
}
