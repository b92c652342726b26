use Rattle.std.proofs.Common.{arith}
use Rattle.lis_record_read.proofs.Stops.{stop-found, stop-near}
use Rattle.lis_record_read.proofs.search.first_stop.Goals as goal

pub returns-clause-found : goal.returns-clause-found
returns-clause-found c =
    stop-found c.args.delimiters c.args.other c.args.text.now c.stop_bits-bits.result
    (omega (arith, c.if-text-lt16.false)) c.stop_bits-bits.ensures c.if-bits-eq0.false

pub returns-clause-near : goal.returns-clause-near
returns-clause-near c =
    stop-near c.args.delimiters c.args.other c.args.text.now c.stop_bits-bits.result
    (omega (arith, c.if-text-lt16.false)) c.stop_bits-bits.ensures c.if-bits-eq0.false
