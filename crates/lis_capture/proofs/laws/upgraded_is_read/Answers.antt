use Rattle.std.proofs.Common.{ap, subst}
use Rattle.lis_capture.specs.Capture.{Lines, lines_of}
use Rattle.lis_capture.proofs.EncodingLemmas.{AreRead, AreRead-read_lines, capture-upgraded, upgraded-upgraded_lines}
use Rattle.lis_capture.proofs.laws.upgraded_is_read.Goals as goal

pub returns : goal.returns
returns c = λ past ended end lines is. (
  capture-upgraded lines end
      (subst AreRead (ap (λ (r : Lines). r.lines) is) (AreRead-read_lines (lines_of past ended))),
  upgraded-upgraded_lines lines,
)
