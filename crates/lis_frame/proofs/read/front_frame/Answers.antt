use Rattle.std.proofs.Common.{◌≡◌, ◌∙◌, ℕ, ◌+◌, arith, sym}
use Rattle.lis_frame.proofs.FrameLaws.{same_content}
use Rattle.lis_frame.proofs.FrontLemmas.{front_parts, same_place}
use Rattle.lis_frame.proofs.read.front_frame.Goals as goal

add_six : (n : ℕ) → n + 5 + 1 ≡ n + 6
add_six n = omega arith

pub returns-clause-frame : goal.returns-clause-frame
returns-clause-frame g c =
    rw (
      c.in-Some.ensures.cases.0,
      add_six c.in-Some-front_text.place,
      c.of_parts-frame.ensures,
      c.split_at.ensures.front,
      c.split_at.ensures.back,
    )
    c.in-Some-front_text.ensures.frame

pub returns-clause-whole : goal.returns-clause-whole
returns-clause-whole g c frame begins =
    let here = rw c.in-Some.ensures.cases.0 at begins in
    let parts = front_parts g.row.N c.in-Some.number.now c.in-Some.following.now frame here in
    let at = same_place (c.in-Some-front_text.ensures.whole frame here) in
    c.of_parts-frame.ensures
    ∙ rw (
      parts.number_is,
      c.split_at.ensures.front,
      c.split_at.ensures.back,
      at,
      parts.rest_is,
      parts.text_is,
    )
    (sym (same_content frame))
