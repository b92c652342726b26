use Rattle.lis_record_read.proofs.Pairs.{ArePairs-none}
use Rattle.lis_record_read.proofs.Places.{symbols_left-none}
use Rattle.lis_record_read.proofs.escapes.BorrowedSymbols.of_text.Goals as goal

pub invariant_of-result : goal.invariant_of-result
invariant_of-result c = ArePairs-none

pub returns : goal.returns
returns c = symbols_left-none c.args.delimiters c.args.text.now
