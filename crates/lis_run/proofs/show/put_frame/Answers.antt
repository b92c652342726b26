use Rattle.std.proofs.Common.{Ok, Err, ◌++◌, codes, decimal, length, rules, ℕ, List}
use Rattle.lis_engine.proofs.OutputLaws.{breaks_on, put_on}
use Rattle.lis_run.specs.Show.{digits_part, frame_start}
use Rattle.lis_run.proofs.show.put_frame.Goals as goal

pub returns-in_err-put_frame_start : goal.returns-in_err-put_frame_start
returns-in_err-put_frame_start g c =
    let frame = c.args.frame.now in
    let start : List ℕ = frame_start frame.number frame.last ++ decimal (length frame.text) in
    let fault = c.in_err-put_frame_start.field-0.0 in
    let broke =
    breaks_on _ _ fault (start ++ digits_part frame.text) (codes "\n")
    (breaks_on _ _ fault start (digits_part frame.text) c.in_err-put_frame_start.ensures) in
    search (rules, broke)

pub returns-in_err-put_digits_part : goal.returns-in_err-put_digits_part
returns-in_err-put_digits_part g c =
    let frame = c.args.frame.now in
    let start : List ℕ = frame_start frame.number frame.last ++ decimal (length frame.text) in
    let fault = c.in_err-put_digits_part.field-0.0 in
    let broke =
    breaks_on _ _ fault (start ++ digits_part frame.text) (codes "\n")
    (put_on _ _ _ (Err fault) start (digits_part frame.text) c.in_ok-put_frame_start.ensures
    (rw c.text.ensures at c.in_err-put_digits_part.ensures)) in
    search (rules, broke)

pub returns : goal.returns
returns g c =
    let frame = c.args.frame.now in
    let start : List ℕ = frame_start frame.number frame.last ++ decimal (length frame.text) in
    put_on _ _ _ c.put.result (start ++ digits_part frame.text) (codes "\n")
    (put_on _ _ _ (Ok tt) start (digits_part frame.text) c.in_ok-put_frame_start.ensures
    (rw c.text.ensures at c.in_ok-put_digits_part.ensures))
    c.put.ensures
