use Rattle.std.proofs.Common.{arith}
use Rattle.lis_bytes.proofs.MarkLemmas.{fit_32, following_fits_32, marks_windows, turned_fit_32}
use Rattle.lis_bytes.proofs.marks.front_marks.Goals as goal

pub overflow_mul-result : goal.overflow_mul-result
overflow_mul-result c = search (following_fits_32)

pub overflow_add-result : goal.overflow_add-result
overflow_add-result c = search (fit_32, turned_fit_32)

pub returns : goal.returns
returns c =
    marks_windows _ 32 _ _ _ _ _ _ c.bits_of_32-2.ensures c.bits_of_32.ensures c.split_at.ensures.back
    (omega arith) (omega arith) (omega arith) (omega arith)
