use Rattle.std.proofs.Common.{length-append, arith}
use Rattle.hex.specs.Hex.{encode_lower}
use Rattle.lis_engine.proofs.EncodeLemmas.{length-encode_lower}
use Rattle.lis_capture.proofs.KeptLemmas.{short_bytes}
use Rattle.lis_capture.proofs.line.LineBytes.append_to.Goals as goal

pub returns-in-Bytes-clause-short : goal.returns-in-Bytes-clause-short
returns-in-Bytes-clause-short g c =
    let kept = c.self.inside.kept.now in
    rw c.append_digits.ensures
    (omega (
      arith,
      short_bytes c.self.inside.keeping kept c.in-Bytes.is c.self.invariant,
      length-append c.args.out.now.waits (encode_lower kept),
      length-encode_lower kept,
    ))
