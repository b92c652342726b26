use Rattle.std.proofs.Common.{false, ap, arith, ◌∙◌}
use Rattle.lis_capture.specs.Capture.{capture}
use Rattle.lis_capture.specs.Reader.{Known}
use Rattle.lis_capture.proofs.ReaderLemmas.{number-known_of}
use Rattle.lis_capture.proofs.SizeLemmas.{length-size, size-capture}
use Rattle.lis_capture.proofs.laws.numbers_are_exact.Goals as goal

pub returns : goal.returns
returns c = λ reader past has few.
    let read = capture past false in
    ap (λ (k : Known). k.number) has.known_is
    ∙ number-known_of read (omega (arith, few, length-size read.lines, size-capture past false))
