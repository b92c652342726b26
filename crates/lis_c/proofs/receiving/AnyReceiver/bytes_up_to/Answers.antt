-- The bytes that were heard are those before, which were quiet, and one more.
use Rattle.std.proofs.Common.{◌≡◌, ◌∙◌, sym, arith}
use Rattle.lis_c.specs.Limits.{kept_by, receiver_limit, spare_of}
use Rattle.lis_c.proofs.WithinHearing.{hears_last, hears_more}
use Rattle.lis_c.proofs.receiving.AnyReceiver.bytes_up_to.Goals as goal

pub returns-in_default : goal.returns-in_default
returns-in_default c =
    let i = c.loop-count.invariant in
    let step = c.byte_within-step in
    let limit : receiver_limit step.new.self ≡ receiver_limit c.args.self.now = step.ensures.limit ∙ i.limit in
    record {
      heard = λ r is_in.
          let heard = i.heard r is_in in
          let here = rw (sym i.limit) at heard.state in
          rw limit
          (hears_last (receiver_limit c.args.self.now) c.args.most c.args.bytes.now r (spare_of c.args.self.now)
          c.loop-count.count (kept_by c.loop-count.self) step.result (kept_by step.new.self) heard
          c.loop-count-test.true (rw (limit, i.limit) at (step.ensures.step _ here))
          (rw (limit, i.limit) at (step.ensures.refused _ here)) (rw i.limit at (step.ensures.spare _ here))
          c.in_default.not-Quiet);
      limit = limit;
    }

pub loop-count-preserved : goal.loop-count-preserved
loop-count-preserved c =
    let i = c.loop-count.invariant in
    let step = c.byte_within-step in
    let limit : receiver_limit step.new.self ≡ receiver_limit c.args.self.now = step.ensures.limit ∙ i.limit in
    record {
      bound = omega (arith, c.loop-count-test.true);
      limit = limit;
      heard = λ r is_in.
          let heard = i.heard r is_in in
          let here = rw (sym i.limit) at heard.state in
          hears_more (receiver_limit c.args.self.now) c.args.most c.args.bytes.now r (spare_of c.args.self.now)
          c.loop-count.count (kept_by c.loop-count.self) step.result (kept_by step.new.self) heard
          c.loop-count-test.true (rw (limit, i.limit) at (step.ensures.step _ here))
          (rw i.limit at (step.ensures.spare _ here)) c.in-Quiet.is;
    }

pub loop-count-preserved-in-Quiet : goal.loop-count-preserved-in-Quiet
loop-count-preserved-in-Quiet c =
    let i = c.loop-count.invariant in
    let step = c.byte_within-step in
    let limit : receiver_limit step.new.self ≡ receiver_limit c.args.self.now = step.ensures.limit ∙ i.limit in
    record {
      bound = omega (arith, c.loop-count-test.true);
      limit = limit;
      heard = λ r is_in.
          let heard = i.heard r is_in in
          let here = rw (sym i.limit) at heard.state in
          hears_more (receiver_limit c.args.self.now) c.args.most c.args.bytes.now r (spare_of c.args.self.now)
          c.loop-count.count (kept_by c.loop-count.self) step.result (kept_by step.new.self) heard
          c.loop-count-test.true (rw (limit, i.limit) at (step.ensures.step _ here))
          (rw i.limit at (step.ensures.spare _ here)) c.in-Quiet.is;
    }
