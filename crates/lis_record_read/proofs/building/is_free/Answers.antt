use Rattle.std.proofs.lemmas.Bool.{leb-true}
use Rattle.lis_record_read.proofs.Fronts.{free-before, free-none}
use Rattle.lis_record_read.proofs.building.is_free.Goals as goal

pub returns-then-bits-eq0 : goal.returns-then-bits-eq0
returns-then-bits-eq0 c = λ _.
    free-none c.args.mark c.args.bytes.now c.bits_of-bits.result c.args.count c.requires.room c.bits_of-bits.ensures
    c.requires.few c.if-bits-eq0.true

pub returns : goal.returns
returns c = λ few.
    free-before c.args.mark c.args.bytes.now c.bits_of-bits.result c.args.count c.requires.room c.bits_of-bits.ensures
    c.if-bits-eq0.false (leb-true _ _ few)
