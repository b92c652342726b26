use Rattle.std.proofs.Common.{refl, take, rules, ◌∙◌}
use Rattle.lis_frame.specs.Scanner.{StandsFor}
use Rattle.lis_run.proofs.ShowLaws.{all_shown, frame_lines, nothing_shown, show_stops, shown_on}
use Rattle.lis_run.proofs.show.show_bytes.Goals as goal

pub loop-byte-init : goal.loop-byte-init
loop-byte-init g c = record {
  working = c.requires;
  same = refl;
  shown = λ past represents. nothing_shown g.row.N represents c.requires;
}

pub loop-byte-preserved-then-taken-eq0 : goal.loop-byte-preserved-then-taken-eq0
loop-byte-preserved-then-taken-eq0 g c =
    let step = c.in_ok-show_byte.ensures in
    record {
      working = step.left;
      same = step.same ∙ c.loop-byte.invariant.same;
      shown = λ past represents.
          let s = rw c.in-Some.ensures.cases.0 at (c.loop-byte.invariant.shown past represents) in
          let here : StandsFor g.row.N c.scan-taken.new.self s.read =
          rw c.if-taken-eq0.true at (c.scan-taken.ensures.after s.read s.represented) in
          shown_on 1 s (step.represents s.read here) (step.put s.read here);
    }

pub loop-byte-preserved : goal.loop-byte-preserved
loop-byte-preserved g c =
    let n = c.scan-taken.result.0 in
    let rest = c.loop-byte.rest.now in
    let put = c.in_ok-put_frame_if_any.ensures in
    record {
      working = put.working;
      same = put.same ∙ c.loop-byte.invariant.same;
      shown = λ past represents.
          let s = c.loop-byte.invariant.shown past represents in
          rw c.split_at.ensures.back
          (shown_on n s (c.scan-taken.ensures.after s.read s.represented)
          (rw (frame_lines g.row.N s.read (take n rest) c.scan-taken.result.1
          (c.scan-taken.ensures.signal s.read s.represented)) at put));
    }

pub returns-in_err-show_byte-clause-put : goal.returns-in_err-show_byte-clause-put
returns-in_err-show_byte-clause-put g c = λ past represents.
    let s = rw c.in-Some.ensures.cases.0 at (c.loop-byte.invariant.shown past represents) in
    let here : StandsFor g.row.N c.scan-taken.new.self s.read =
    rw c.if-taken-eq0.true at (c.scan-taken.ensures.after s.read s.represented) in
    let broke = show_stops 1 s c.in_err-show_byte.field-0.0 (c.in_err-show_byte.ensures.put s.read here) in
    search (rules, broke)

pub returns-in_err-put_frame_if_any-clause-put : goal.returns-in_err-put_frame_if_any-clause-put
returns-in_err-put_frame_if_any-clause-put g c = λ past represents.
    let n = c.scan-taken.result.0 in
    let rest = c.loop-byte.rest.now in
    let s = c.loop-byte.invariant.shown past represents in
    let broke =
    show_stops n s c.in_err-put_frame_if_any.field-0.0
    (rw (frame_lines g.row.N s.read (take n rest) c.scan-taken.result.1
    (c.scan-taken.ensures.signal s.read s.represented)) at c.in_err-put_frame_if_any.ensures) in
    search (rules, broke)

pub returns-clause-put : goal.returns-clause-put
returns-clause-put g c = λ past represents.
    (all_shown (c.loop-byte.invariant.shown past represents) c.in_default.ensures.cases).0

pub returns-clause-represents : goal.returns-clause-represents
returns-clause-represents g c = λ past represents.
    (all_shown (c.loop-byte.invariant.shown past represents) c.in_default.ensures.cases).1
