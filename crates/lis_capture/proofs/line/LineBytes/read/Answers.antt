use Rattle.std.proofs.Common.{arith, ◌∙◌}
use Rattle.lis_capture.proofs.KeptLemmas.{digits_kept, read_kept}
use Rattle.lis_capture.proofs.line.LineBytes.read.Goals as goal

pub decode-read-requires : goal.decode-read-requires
decode-read-requires c =
    let kept = digits_kept c.self.inside.keeping c.self.inside.kept.now c.in-Digits.is c.self.invariant in
    omega (arith, kept.1, c.split_at_mut-bytes.ensures.front_len)

pub returns-in-Digits-clause-value : goal.returns-in-Digits-clause-value
returns-in-Digits-clause-value c =
    let kept = digits_kept c.self.inside.keeping c.self.inside.kept.now c.in-Digits.is c.self.invariant in
    read_kept c.self.inside.keeping c.self.inside.kept.now c.decode-read.new.bytes c.decode-read.result
    c.in-Digits.is c.self.invariant
    (omega (arith, kept.1, c.split_at_mut-bytes.ensures.front_len, c.decode-read.auto.bytes)) c.decode-read.ensures
    ∙ c.self.view_is
