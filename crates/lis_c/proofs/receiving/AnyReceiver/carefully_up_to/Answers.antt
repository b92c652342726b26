-- The bytes that were heard are those before, which were quiet, and one more.
use Rattle.std.proofs.Common.{◌≡◌, ◌∙◌, true, Some, refl, sym, arith}
use Rattle.lis_careful.proofs.Receiving.{hears_all, hears_none}
use Rattle.lis_c.specs.Limits.{kept_by, receiver_limit, spare_of}
use Rattle.lis_c.specs.Careful.{on_byte_set}
use Rattle.lis_c.proofs.CarefulLaws.{heard_is, one_last, one_more}
use Rattle.lis_c.proofs.receiving.AnyReceiver.carefully_up_to.Goals as goal

pub loop-count-init : goal.loop-count-init
loop-count-init c = record {
  bound = omega arith;
  few = omega arith;
  limit = refl;
  heard = λ r is_in. hears_none (receiver_limit c.args.self.now)
      (on_byte_set true (receiver_limit c.args.self.now) (Some c.args.most)) c.args.bytes.now r
      (kept_by c.args.self.now) is_in;
}

pub returns-in_default : goal.returns-in_default
returns-in_default c =
    let i = c.loop-count.invariant in
    let step = c.byte_carefully-step in
    let limit : receiver_limit step.new.self ≡ receiver_limit c.args.self.now = step.ensures.limit ∙ i.limit in
    record {
      heard = λ r is_in.
          let heard = i.heard r is_in in
          let here = rw (sym i.limit) at heard.state in
          rw limit
          (one_last (receiver_limit c.args.self.now) c.args.most c.args.bytes.now r (spare_of c.args.self.now)
          c.loop-count.count c.loop-count.noise (kept_by c.loop-count.self) c.noise_of-louder.result step.result
          (kept_by step.new.self) heard c.loop-count-test.true
          (c.noise_of-louder.ensures.count heard.at here)
          (rw (limit, i.limit) at (step.ensures.step heard.at here))
          (rw (limit, i.limit) at (step.ensures.refused heard.at here))
          (rw i.limit at (step.ensures.spare heard.at here)) c.in_default.not-Quiet);
      limit = limit;
    }

pub loop-count-preserved : goal.loop-count-preserved
loop-count-preserved c =
    let i = c.loop-count.invariant in
    let step = c.byte_carefully-step in
    let limit : receiver_limit step.new.self ≡ receiver_limit c.args.self.now = step.ensures.limit ∙ i.limit in
    record {
      bound = omega (arith, c.loop-count-test.true);
      few = omega (arith, i.few, c.noise_of-louder.ensures.few);
      limit = limit;
      heard = λ r is_in.
          let heard = i.heard r is_in in
          let here = rw (sym i.limit) at heard.state in
          one_more (receiver_limit c.args.self.now) c.args.most c.args.bytes.now r (spare_of c.args.self.now)
          c.loop-count.count c.loop-count.noise (kept_by c.loop-count.self) c.noise_of-louder.result step.result
          (kept_by step.new.self) heard c.loop-count-test.true
          (c.noise_of-louder.ensures.count heard.at here)
          (rw (limit, i.limit) at (step.ensures.step heard.at here))
          (rw (limit, i.limit) at (step.ensures.refused heard.at here))
          (rw i.limit at (step.ensures.spare heard.at here)) c.in-Quiet.is;
    }

pub loop-count-preserved-in-Quiet : goal.loop-count-preserved-in-Quiet
loop-count-preserved-in-Quiet c =
    let i = c.loop-count.invariant in
    let step = c.byte_carefully-step in
    let limit : receiver_limit step.new.self ≡ receiver_limit c.args.self.now = step.ensures.limit ∙ i.limit in
    record {
      bound = omega (arith, c.loop-count-test.true);
      few = omega (arith, i.few, c.noise_of-louder.ensures.few);
      limit = limit;
      heard = λ r is_in.
          let heard = i.heard r is_in in
          let here = rw (sym i.limit) at heard.state in
          one_more (receiver_limit c.args.self.now) c.args.most c.args.bytes.now r (spare_of c.args.self.now)
          c.loop-count.count c.loop-count.noise (kept_by c.loop-count.self) c.noise_of-louder.result step.result
          (kept_by step.new.self) heard c.loop-count-test.true
          (c.noise_of-louder.ensures.count heard.at here)
          (rw (limit, i.limit) at (step.ensures.step heard.at here))
          (rw (limit, i.limit) at (step.ensures.refused heard.at here))
          (rw i.limit at (step.ensures.spare heard.at here)) c.in-Quiet.is;
    }

pub returns-clause-heard : goal.returns-clause-heard
returns-clause-heard c r is_in =
    let i = c.loop-count.invariant in
    let limit : receiver_limit c.loop-count.self ≡ receiver_limit c.args.self.now = i.limit in
    rw limit
    (heard_is (receiver_limit c.args.self.now) (Some c.args.most) c.args.bytes.now r (spare_of c.args.self.now) _
    (kept_by c.loop-count.self)
    (hears_all (receiver_limit c.args.self.now)
    (on_byte_set true (receiver_limit c.args.self.now) (Some c.args.most)) c.args.bytes.now r
    (spare_of c.args.self.now) c.loop-count.count c.loop-count.noise (kept_by c.loop-count.self) (i.heard r is_in)
    (omega (arith, c.loop-count-test.false)) i.bound))
