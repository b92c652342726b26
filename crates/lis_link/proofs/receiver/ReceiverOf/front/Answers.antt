-- The front is heard as it is by itself.
use Rattle.std.proofs.Common.{◌≡◌, ◌≤◌, length, take, arith, subst}
use Rattle.std.proofs.lemmas.List.{length-take-le}
use Rattle.lis_link.specs.Receiver.{ReceiverState, on_bytes, with_heard}
use Rattle.lis_link.specs.Representation.{IsIn, RefusesFrame}
use Rattle.lis_link.proofs.HearingLaws.{front_alone, taken_twice}
use Rattle.lis_link.proofs.receiver.ReceiverOf.front.Goals as goal

pub returns : goal.returns
returns g c =
    let heard = c.hear_front in
    let n = heard.result.count in
    let front = take n c.args.bytes.now in
    let all : length front ≡ n = length-take-le n c.args.bytes.now heard.ensures.bound in
    let short : n ≤ length front = omega (arith, all) in
    let alone = λ (r : ReceiverState) (is_in : IsIn g.row.N c.args.self.now r).
    front_alone g.row.N front r c.args.self.now.spare heard.result heard.new.self all
    (heard.ensures.front front (taken_twice n c.args.bytes.now) short r is_in) in
    record {
      front = heard.ensures.is;
      count = λ r is_in. (alone r is_in).count_is;
      step = λ r is_in. (alone r is_in).makes;
      refused = λ r is_in oom.
          subst (λ xs. RefusesFrame g.row.N c.args.self.now.spare (on_bytes g.row.N front r).step (with_heard xs r)
          heard.result.step heard.new.self) (taken_twice n c.args.bytes.now) ((alone r is_in).refused oom);
      spare = λ r is_in. (alone r is_in).spare_after;
      room = heard.ensures.room;
      bound = heard.ensures.bound;
      some = heard.ensures.some;
    }
