use Rattle.std.proofs.Common.{◌++◌, ◌∙◌, ℕ, List, ap, map, take}
use Rattle.std.specs.Simd.Lanes.{pick_l}
use Rattle.hex.specs.Hex.{hex_digit_value}
use Rattle.lis_capture.proofs.DecodeLemmas.{first_places, second_places, sixteen_values}
use Rattle.lis_capture.proofs.digits.decode_sixteen.Goals as goal

pub returns : goal.returns
returns c =
    let digits : List ℕ = c.args.digits.now in
    sixteen_values digits c.args.bytes.now c.values_of-high.result c.values_of-low.result c.requires.many
    c.requires.room
    (c.values_of-high.ensures
    ∙ ap (λ (l : List ℕ). map hex_digit_value (pick_l 0 (take 16 digits ++ take 16 l) first_places))
    c.split_at.ensures.back)
    (c.values_of-low.ensures
    ∙ ap (λ (l : List ℕ). map hex_digit_value (pick_l 0 (take 16 digits ++ take 16 l) second_places))
    c.split_at.ensures.back)
