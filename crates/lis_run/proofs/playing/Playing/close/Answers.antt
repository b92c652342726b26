use Rattle.std.proofs.Common.{[], Ok, Err, ap, codes, ◌∙◌}
use Rattle.std.proofs.lemmas.Result.{err_from_is_err_and}
use Rattle.lis_engine.proofs.OutputLaws.{breaks_on, put_on}
use Rattle.lis_run.specs.Replay.{all_differences, compared_line, counts_line, played, status_of, text_count}
use Rattle.lis_run.proofs.PlayingLaws.{counted}
use Rattle.lis_run.proofs.playing.Playing.close.Goals as goal

pub returns-in_err-differences-clause-ends : goal.returns-in_err-differences-clause-ends
returns-in_err-differences-clause-ends g c = λ lines playing few.
    let e = err_from_is_err_and c.from_residual.result c.from_residual.ensures.1 in
    rw (e.1, e.2)
    (breaks_on _ _ c.in_err-differences.field-0.0 (compared_line (codes "end") [] (played g.row.N lines).replies)
    (counts_line (text_count g.row.N lines) (all_differences g.row.N lines))
    (rw (playing.replies_are c.requires.lines) at c.in_err-differences.ensures))

pub returns-in_err-print-clause-ends : goal.returns-in_err-print-clause-ends
returns-in_err-print-clause-ends g c = λ lines playing few.
    let e = err_from_is_err_and c.from_residual-in_err-print.result c.from_residual-in_err-print.ensures.1 in
    let compared = c.in_ok-differences.ensures in
    let all = counted playing [] c.requires.lines few compared.1 in
    rw (e.1, e.2)
    (put_on _ _ _ (Err c.in_err-print.field-0.0) (compared_line (codes "end") [] (played g.row.N lines).replies) _
    (rw (playing.replies_are c.requires.lines) at compared.0)
    (rw (playing.texts_are, all) at c.in_err-print.ensures))

pub returns-clause-ends : goal.returns-clause-ends
returns-clause-ends g c = λ lines playing few.
    let compared = c.in_ok-differences.ensures in
    let all = counted playing [] c.requires.lines few compared.1 in (
      c.of.ensures ∙ ap status_of all,
      put_on _ _ _ (Ok tt) (compared_line (codes "end") [] (played g.row.N lines).replies) _
          (rw (playing.replies_are c.requires.lines) at compared.0)
          (rw (playing.texts_are, all) at c.in_ok-print.ensures),
    )
