use Rattle.std.proofs.Common.{◌+◌, ◌*◌, slice_index, arith, ◌∙◌}
use Rattle.hex.specs.Hex.{is_hex_digit}
use Rattle.hex.proofs.Pairs.{decode_step, decode_done}
use Rattle.hex.proofs.HexLemmas.{decode_of-even}
use Rattle.lis_capture.proofs.DigitsLemmas.{all_at, bytes_of-decoded, pair_of_digits, pairs_from_some}
use Rattle.lis_capture.proofs.digits.decode_few.Goals as goal

pub byte_of-requires-clause-high : goal.byte_of-requires-clause-high
byte_of-requires-clause-high c =
    all_at is_hex_digit c.args.digits.now (2 * c.bytes.i) 0 (pairs_from_some c.args.digits.now c.requires.pairs).2
    (omega arith)

pub byte_of-requires-clause-low : goal.byte_of-requires-clause-low
byte_of-requires-clause-low c =
    all_at is_hex_digit c.args.digits.now (2 * c.bytes.i + 1) 0 (pairs_from_some c.args.digits.now c.requires.pairs).2
    (omega arith)

pub bytes-preserved : goal.bytes-preserved
bytes-preserved c =
    let i = c.bytes.i in
    let digits = c.args.digits.now in
    let all = (pairs_from_some digits c.requires.pairs).2 in
    decode_step _ _ i _ (omega arith) (omega arith)
    (rw c.byte_of.ensures
    (pair_of_digits (slice_index digits (2 * i)) (slice_index digits (2 * i + 1)) (2 * i)
    (all_at is_hex_digit digits (2 * i) 0 all (omega arith))
    (all_at is_hex_digit digits (2 * i + 1) 0 all (omega arith)))) c.bytes.invariant

pub returns : goal.returns
returns c =
    let pairs = pairs_from_some c.args.digits.now c.requires.pairs in
    bytes_of-decoded c.args.digits.now c.bytes.bytes pairs.0
    (decode_of-even c.args.digits.now (omega arith)
    ∙ decode_done _ c.bytes.bytes c.bytes.i (omega arith) (omega arith) c.bytes.invariant)
