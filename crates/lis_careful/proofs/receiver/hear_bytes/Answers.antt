-- The first front is all, or the others follow it.
use Rattle.std.proofs.Common.{arith, length-drop}
use Rattle.std.proofs.lemmas.List.{take_rest}
use Rattle.lis_link.specs.Receiver.{ReceiverState}
use Rattle.lis_link.specs.Representation.{IsIn}
use Rattle.lis_careful.specs.Careful.{on_byte_carefully}
use Rattle.lis_careful.proofs.Receiving.{first_last, first_quiet, hears_on}
use Rattle.lis_careful.proofs.receiver.hear_bytes.Goals as goal

pub returns-in-Quiet : goal.returns-in-Quiet
returns-in-Quiet g c =
    let first = c.hear_front-count in
    let rest = c.hear_following-more in
    let heard = λ (r : ReceiverState) (is_in : IsIn g.row.N c.args.receiver.now r).
    let hearing = first_quiet g.row.N (on_byte_carefully g.row.N) c.args.bytes.now r c.args.receiver.now is_in
    first.result first.new.receiver (first.ensures.front r is_in) c.in-Quiet.is in
    let more = rw (take_rest c.args.bytes.now first.result.count) at (rest.ensures.heard hearing.at hearing.state) in
    hears_on g.row.N (on_byte_carefully g.row.N) c.args.bytes.now r c.args.receiver.now.spare first.result.count
    first.result.noise first.new.receiver rest.result rest.new.receiver hearing more in
    let same = rw c.in-Quiet.is at first.ensures.room in
    let bound = rw (take_rest c.args.bytes.now first.result.count) at rest.ensures.bound in
    record {
      count = λ r is_in. (heard r is_in).count_is;
      noise = λ r is_in. (heard r is_in).noise_is;
      step = λ r is_in. (heard r is_in).makes;
      refused = λ r is_in. (heard r is_in).refused;
      spare = λ r is_in. (heard r is_in).spare_after;
      room = rw same at rest.ensures.room;
      bound = omega (arith, length-drop first.result.count c.args.bytes.now, bound, first.ensures.bound);
      some = λ some. omega (arith, first.ensures.some);
      all = λ e.
          let more = rw (take_rest c.args.bytes.now first.result.count) at (rest.ensures.all e) in
          omega (arith, length-drop first.result.count c.args.bytes.now, more, first.ensures.bound);
      few = omega (arith, first.ensures.few, rest.ensures.few);
    }

pub returns-in_default : goal.returns-in_default
returns-in_default g c =
    let first = c.hear_front-count in
    let heard = λ (r : ReceiverState) (is_in : IsIn g.row.N c.args.receiver.now r).
    first_last g.row.N (on_byte_carefully g.row.N) c.args.bytes.now r c.args.receiver.now is_in first.result
    first.new.receiver (first.ensures.front r is_in) c.in_default.not-Quiet in
    record {
      count = λ r is_in. (heard r is_in).count_is;
      noise = λ r is_in. (heard r is_in).noise_is;
      step = λ r is_in. (heard r is_in).makes;
      refused = λ r is_in. (heard r is_in).refused;
      spare = λ r is_in. (heard r is_in).spare_after;
      room = first.ensures.room;
      bound = first.ensures.bound;
      some = λ some. first.ensures.some;
      all = λ e. absurd (c.in_default.not-Quiet e);
      few = first.ensures.few;
    }
