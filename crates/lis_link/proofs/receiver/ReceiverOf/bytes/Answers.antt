use Rattle.std.proofs.Common.{arith, length-drop, refl, ◌∙◌}
use Rattle.std.proofs.lemmas.List.{take_rest}
use Rattle.lis_link.specs.Receiver.{ReceiverState}
use Rattle.lis_link.specs.Representation.{IsIn}
use Rattle.lis_link.proofs.HearingLaws.{hears_more, hears_last}
use Rattle.lis_link.proofs.receiver.ReceiverOf.bytes.Goals as goal

pub returns-in_default : goal.returns-in_default
returns-in_default g c =
    let i = c.loop-count.invariant in
    let heard = λ (r : ReceiverState) (is_in : IsIn g.row.N c.args.self.now r).
    let hearing = i.hearing r is_in in
    let front = rw (take_rest c.args.bytes.now c.loop-count.count) at
    (c.hear_front-more.ensures.front _ refl c.hear_front-more.ensures.bound _ hearing.state) in
    hears_last g.row.N c.args.bytes.now r c.args.self.now.spare c.loop-count.count c.loop-count.self
    c.hear_front-more.result c.hear_front-more.new.self
    hearing front c.in_default.not-Quiet in
    record {
      count = λ r is_in. (heard r is_in).count_is;
      step = λ r is_in. (heard r is_in).makes;
      refused = λ r is_in. (heard r is_in).refused;
      spare = λ r is_in. (heard r is_in).spare_after;
      room = rw i.room at c.hear_front-more.ensures.room;
      bound = let more = rw (take_rest c.args.bytes.now c.loop-count.count) at c.hear_front-more.ensures.bound in
          omega (arith, length-drop c.loop-count.count c.args.bytes.now, more, i.bound);
      some = λ some. omega (arith, c.hear_front-more.ensures.some);
      all = λ e. absurd (c.in_default.not-Quiet e);
    }

pub loop-count-preserved-in-Quiet : goal.loop-count-preserved-in-Quiet
loop-count-preserved-in-Quiet g c =
    let i = c.loop-count.invariant in
    let more = rw (take_rest c.args.bytes.now c.loop-count.count) at c.hear_front-more.ensures.bound in
    record {
      bound = omega (arith, length-drop c.loop-count.count c.args.bytes.now, more, i.bound);
      room = rw c.in-Quiet.is at c.hear_front-more.ensures.room ∙ i.room;
      hearing = λ r is_in.
          let hearing = i.hearing r is_in in
          let front = rw (take_rest c.args.bytes.now c.loop-count.count) at
          (c.hear_front-more.ensures.front _ refl c.hear_front-more.ensures.bound _ hearing.state) in
          hears_more g.row.N c.args.bytes.now r c.args.self.now.spare c.loop-count.count c.loop-count.self
          c.hear_front-more.result c.hear_front-more.new.self
          hearing front c.in-Quiet.is;
    }

pub loop-count-preserved : goal.loop-count-preserved
loop-count-preserved g c =
    let i = c.loop-count.invariant in
    let more = rw (take_rest c.args.bytes.now c.loop-count.count) at c.hear_front-more.ensures.bound in
    record {
      bound = omega (arith, length-drop c.loop-count.count c.args.bytes.now, more, i.bound);
      room = rw c.in-Quiet.is at c.hear_front-more.ensures.room ∙ i.room;
      hearing = λ r is_in.
          let hearing = i.hearing r is_in in
          let front = rw (take_rest c.args.bytes.now c.loop-count.count) at
          (c.hear_front-more.ensures.front _ refl c.hear_front-more.ensures.bound _ hearing.state) in
          hears_more g.row.N c.args.bytes.now r c.args.self.now.spare c.loop-count.count c.loop-count.self
          c.hear_front-more.result c.hear_front-more.new.self
          hearing front c.in-Quiet.is;
    }
