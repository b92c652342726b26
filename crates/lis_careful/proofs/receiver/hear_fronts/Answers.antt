use Rattle.std.proofs.Common.{arith, refl, length-drop, ◌∙◌}
use Rattle.std.proofs.lemmas.List.{take_rest}
use Rattle.lis_link.specs.Receiver.{ReceiverState}
use Rattle.lis_link.specs.Representation.{IsIn}
use Rattle.lis_careful.specs.Careful.{on_byte_carefully}
use Rattle.lis_careful.proofs.Receiving.{hears_none, hears_more, hears_last, hears_all}
use Rattle.lis_careful.proofs.receiver.hear_fronts.Goals as goal

pub loop-count-init : goal.loop-count-init
loop-count-init g c = record {
  bound = omega arith;
  few = omega arith;
  room = refl;
  hearing = λ r is_in. hears_none g.row.N (on_byte_carefully g.row.N) c.args.bytes.now r c.args.receiver.now is_in;
}

pub returns-in_default : goal.returns-in_default
returns-in_default g c =
    let i = c.loop-count.invariant in
    let heard = λ (r : ReceiverState) (is_in : IsIn g.row.N c.args.receiver.now r).
    let hearing = i.hearing r is_in in
    let front = rw (take_rest c.args.bytes.now c.loop-count.count) at
    (c.hear_front-more.ensures.front _ hearing.state) in
    hears_last g.row.N (on_byte_carefully g.row.N) c.args.bytes.now r c.args.receiver.now.spare c.loop-count.count
    c.loop-count.noise c.loop-count.receiver
    c.hear_front-more.result c.hear_front-more.new.receiver
    hearing front c.in_default.not-Quiet in
    record {
      heard = heard;
      room = rw i.room at c.hear_front-more.ensures.room;
      bound = let more = rw (take_rest c.args.bytes.now c.loop-count.count) at c.hear_front-more.ensures.bound in
          omega (arith, length-drop c.loop-count.count c.args.bytes.now, more, i.bound);
      some = λ some. omega (arith, c.hear_front-more.ensures.some);
      all = λ e. absurd (c.in_default.not-Quiet e);
      few = omega (arith, i.few, c.hear_front-more.ensures.few);
    }

pub loop-count-preserved : goal.loop-count-preserved
loop-count-preserved g c =
    let i = c.loop-count.invariant in
    let more = rw (take_rest c.args.bytes.now c.loop-count.count) at c.hear_front-more.ensures.bound in
    record {
      bound = omega (arith, length-drop c.loop-count.count c.args.bytes.now, more, i.bound);
      few = omega (arith, i.few, c.hear_front-more.ensures.few);
      room = rw c.in-Quiet.is at c.hear_front-more.ensures.room ∙ i.room;
      hearing = λ r is_in.
          let hearing = i.hearing r is_in in
          let front = rw (take_rest c.args.bytes.now c.loop-count.count) at
          (c.hear_front-more.ensures.front _ hearing.state) in
          hears_more g.row.N (on_byte_carefully g.row.N) c.args.bytes.now r c.args.receiver.now.spare
          c.loop-count.count c.loop-count.noise c.loop-count.receiver
          c.hear_front-more.result c.hear_front-more.new.receiver
          hearing front c.in-Quiet.is;
    }

pub returns-clause-heard : goal.returns-clause-heard
returns-clause-heard g c r is_in =
    let i = c.loop-count.invariant in
    hears_all g.row.N (on_byte_carefully g.row.N) c.args.bytes.now r c.args.receiver.now.spare c.loop-count.count
    c.loop-count.noise c.loop-count.receiver (i.hearing r is_in) (omega (arith, c.loop-count-test.false)) i.bound
