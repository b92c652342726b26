use Rattle.std.proofs.Common.{arith}
use Rattle.lis_table.proofs.StopLaws.{last-ahead}
use Rattle.lis_table.proofs.stops.stops_ahead.Goals as goal

pub returns : goal.returns
returns c = record {
  ahead =
      last-ahead c.args.delimiters c.args.text.now c.args.from c.stops_of-2.result c.split_at-2.result.1.now
      c.split_at.result.1.now c.split_at.ensures.back c.requires (omega arith) c.if-rest-ge16.false
      c.split_at-2.ensures.back c.stops_of-2.ensures.bits;
}
