use Rattle.std.proofs.Common.{◌≤◌, ◌-◌, ◌+◌, ◌++◌, ◌≡◌, ◌∙◌, ℕ, List, ap, arith, length, drop, replicate}
use Rattle.std.proofs.lemmas.List.{drop-drop, length-append}
use Rattle.lis_record_read.proofs.PaddedTexts.{end-padded}
use Rattle.lis_record_read.proofs.building.padded_end.Goals as goal

pub returns : goal.returns
returns c = λ last ends few.
    let text = c.args.text.now in
    let count = c.min-count.result in
    let all : List ℕ = replicate 32 c.args.mark in
    let following : 16 - count + count ≡ 16 = omega (arith, c.min-count.ensures) in
    let marks = c.split_at_mut-place.ensures.back
    ∙ ap (drop count) c.split_at_mut-room.ensures.back
    ∙ drop-drop count (16 - count) all ∙ ap (λ (n : ℕ). drop n all) following in
    let short : length last ≤ length text =
    omega (arith, ap (λ (l : List ℕ). length l) ends.1, length-append ends.0 last) in
    end-padded text c.split_at_mut-room.result.0.now c.copy_few.new.place c.split_at_mut-place.result.1.now last
    count (omega (arith, c.min-count.ensures)) (omega (arith, c.min-count.ensures))
    c.split_at_mut-room.ensures.front_len
    (c.copy_few.ensures ∙ c.split_at.ensures.back) ends (omega (arith, c.min-count.ensures, few, short))
    ∙ ap (λ (m : List ℕ). last ++ m) marks
