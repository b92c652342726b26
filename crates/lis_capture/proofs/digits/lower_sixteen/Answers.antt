use Rattle.std.proofs.Common.{◌≡◌, ◌∙◌, arith, bit_or, length, length-take, replicate, take}
use Rattle.std.specs.Simd.Lanes.{zip2}
use Rattle.std.proofs.lemmas.Simd.{chunk-fits, length-zip2, put_chunk_whole, zip2_splat}
use mir.Syntax.{w8}
use Rattle.lis_capture.proofs.LowerLemmas.{all_far_reported}
use Rattle.lis_capture.proofs.digits.lower_sixteen.Goals as goal

pub returns-clause-far : goal.returns-clause-far
returns-clause-far c =
    let long : length (take 16 c.args.digits.now) ≡ 16 = omega (arith, length-take 16 c.args.digits.now) in
    all_far_reported 16 (take 16 c.args.digits.now) long (chunk-fits w8 0 16 c.args.digits.now c.type_inv.digits)

pub returns-clause-lowered : goal.returns-clause-lowered
returns-clause-lowered c =
    let part = take 16 c.args.digits.now in
    let long : length part ≡ 16 = omega (arith, length-take 16 c.args.digits.now) in
    put_chunk_whole c.args.lowered.now (zip2 bit_or part (replicate 16 32))
    (omega (arith, c.requires.room, long, length-zip2 bit_or part (replicate 16 32) long))
    ∙ zip2_splat bit_or part 16 32 long
