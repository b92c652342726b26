use Rattle.std.proofs.Common.{arith}
use Rattle.lis_table.proofs.StopLaws.{two}
use Rattle.lis_table.proofs.stops.stops_of_two.Goals as goal

pub overflow_add-result : goal.overflow_add-result
overflow_add-result c =
    let of = two c.args.delimiters c.args.text.now c.requires c.stops_of.result c.stops_of-2.result
    c.split_at.result.1.now c.split_at.ensures.back c.stops_of.ensures.bits c.stops_of-2.ensures.bits in
    omega (arith, of.0)

pub returns : goal.returns
returns c = record {
  bits =
      (two c.args.delimiters c.args.text.now c.requires c.stops_of.result c.stops_of-2.result c.split_at.result.1.now
      c.split_at.ensures.back c.stops_of.ensures.bits c.stops_of-2.ensures.bits).1;
}
