use Rattle.std.proofs.Common.{◌∙◌, sym, Some, arith}
use Rattle.lis_record.proofs.FaultLaws.{delimiter_part_fault-marks, delimiter_part_fault-short}
use Rattle.lis_record.proofs.FaultLaws.{delimiter_part_fault-trailing, four_bytes}
use Rattle.std.proofs.lemmas.List.{take_rest}
use Rattle.lis_record.proofs.reading.read_delimiters.Goals as goal

pub returns-in_default : goal.returns-in_default
returns-in_default c = delimiter_part_fault-short c.args.text.now (omega arith)

pub returns-in-Err : goal.returns-in-Err
returns-in-Err c =
    let text = c.args.text.now in
    delimiter_part_fault-marks text _ _ _ _ _ c.in-Err.fault (four_bytes text (omega arith)) c.in-Err.ensures.fault

pub returns-in-Some : goal.returns-in-Some
returns-in-Some c =
    let text = c.args.text.now in
    let following = take_rest text 4 in
    delimiter_part_fault-trailing text _ _ _ _ _ (Some c.in-Some.byte) (four_bytes text (omega arith))
    c.in-Ok.ensures.fault (rw following at (sym c.trailing_byte.ensures ∙ c.in-Some.is))
