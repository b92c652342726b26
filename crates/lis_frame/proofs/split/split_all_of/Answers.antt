use Rattle.std.proofs.Common.{inr, arith, sym, ◌∙◌}
use Rattle.std.proofs.Math.Nat.{add-mod_right}
use Rattle.lis_frame.proofs.PieceLaws.{frames-last, frames-more, frames-within}
use Rattle.lis_frame.proofs.split.split_all_of.Goals as goal

pub returns-then-last : goal.returns-then-last
returns-then-last g c =
    rw c.in_ok-push.ensures.ok
    (frames-last g.row.N c.loop-frames.offset c.loop-frames.number c.args.text.now c.split_at_of-frame.result
    c.loop-frames.frames _
    (omega arith) c.split_at_of-frame.ensures.value c.loop-frames.invariant.so_far
    (sym c.is_last-last.ensures ∙ c.if-last.true))

pub loop-frames-preserved : goal.loop-frames-preserved
loop-frames-preserved g c =
    let last = sym c.is_last-last.ensures ∙ c.if-last.false in
    let value = c.split_at_of-frame.ensures.value in
    let so_far = c.loop-frames.invariant.so_far in
    record {
      whole = add-mod_right c.loop-frames.offset g.row.N ∙ c.loop-frames.invariant.whole;
      within =
          inr (frames-within g.row.N c.loop-frames.offset c.loop-frames.number c.args.text.now
          c.split_at_of-frame.result c.loop-frames.frames _
          (omega arith) value so_far last);
      digit = c.next_number-number.ensures.bound;
      so_far =
          rw (c.in_ok-push.ensures.ok, c.next_number-number.ensures.value)
          (frames-more g.row.N c.loop-frames.offset c.loop-frames.number c.args.text.now c.split_at_of-frame.result
          c.loop-frames.frames _
          (omega arith) value so_far last);
    }
