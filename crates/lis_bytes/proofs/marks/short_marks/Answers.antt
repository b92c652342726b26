use Rattle.std.proofs.Common.{arith}
use Rattle.lis_bytes.proofs.MarkLemmas.{fit_16, following_fits_16, marks_windows, turned_fit_16}
use Rattle.lis_bytes.proofs.marks.short_marks.Goals as goal

pub overflow_mul-result : goal.overflow_mul-result
overflow_mul-result c = search (following_fits_16)

pub overflow_add-result : goal.overflow_add-result
overflow_add-result c = search (fit_16, turned_fit_16)

pub returns : goal.returns
returns c =
    marks_windows _ 16 _ _ _ _ _ _ c.bits_of-2.ensures c.bits_of.ensures c.split_at.ensures.back
    (omega arith) (omega arith) (omega arith) (omega arith)
