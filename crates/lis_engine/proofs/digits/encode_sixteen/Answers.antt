use Rattle.std.proofs.Common.{◌≡◌, ◌/◌, ◌%◌, ◌∙◌, ap, arith, length, length-take, map, slice_index, take}
use Rattle.std.proofs.lemmas.List.{length-map}
use Rattle.std.proofs.lemmas.Simd.{chunk-fits}
use Rattle.hex.specs.Hex.{lower_digits}
use mir.Syntax.{w8}
use Rattle.lis_engine.proofs.EncodeLemmas.{high_halves, high_small, low_halves, low_small, two_rows_stored}
use Rattle.lis_engine.proofs.digits.encode_sixteen.Goals as goal

pub digits_of-high-requires : goal.digits_of-high-requires
digits_of-high-requires c =
    let bytes = take 16 c.args.bytes.now in
    let long : length bytes ≡ 16 = omega (arith, length-take 16 c.args.bytes.now) in
    rw (high_halves bytes long)
    (record {
      lanes = omega (arith, length-map bytes (λ b. b / 16), long);
      small = high_small bytes (chunk-fits w8 0 16 c.args.bytes.now c.type_inv.bytes);
    })

pub digits_of-low-requires : goal.digits_of-low-requires
digits_of-low-requires c =
    let bytes = take 16 c.args.bytes.now in
    let long : length bytes ≡ 16 = omega (arith, length-take 16 c.args.bytes.now) in
    rw (low_halves bytes long) (record {
      lanes = omega (arith, length-map bytes (λ b. b % 16), long);
      small = low_small bytes;
    })

pub returns : goal.returns
returns c =
    let bytes = take 16 c.args.bytes.now in
    let long : length bytes ≡ 16 = omega (arith, length-take 16 c.args.bytes.now) in
    two_rows_stored bytes c.split_at_mut-first.result.0.now c.split_at_mut-first.result.1.now
    c.digits_of-high.result c.digits_of-low.result long
    (omega (arith, c.split_at_mut-first.ensures.front_len))
    (omega (arith, c.split_at_mut-first.ensures.back_len, c.requires.room))
    (c.digits_of-high.ensures ∙ ap (map (slice_index lower_digits)) (high_halves bytes long))
    (c.digits_of-low.ensures ∙ ap (map (slice_index lower_digits)) (low_halves bytes long))
