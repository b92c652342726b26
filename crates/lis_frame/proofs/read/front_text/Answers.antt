use Rattle.std.proofs.Common.{◌≡◌, ◌∙◌, ◌+◌, ◌%◌, None, ap, get_or, length, refl, sym, arith}
use Rattle.std.specs.List.{sum}
use Rattle.lis_frame.specs.FrameBody.{body_fault}
use Rattle.lis_frame.specs.inside.FrameBody.{body_of}
use Rattle.lis_text.specs.Text.{is_forbidden, first_forbidden}
use Rattle.lis_bytes.proofs.SearchLemmas.{clean-before}
use Rattle.lis_frame.proofs.FrontLemmas.{front-frame, front_parts, same_place}
use Rattle.lis_frame.proofs.FrameBodyLemmas.{content_of-body_of, body_fault-parts}
use Rattle.lis_frame.proofs.read.front_text.Goals as goal
use Rattle.lis_frame.proofs.read.front_text.Goals.{then-place-via-then-place}
use Rattle.lis_frame.proofs.read.front_text.Goals.{then-place-via-else-place+then-line_feed-ne-LF}
use Rattle.lis_frame.proofs.read.front_text.Goals.{then-place-via-else-place+else-line_feed-ne-LF+then-not-is_shaped}
use Rattle.lis_frame.proofs.read.front_text.Goals.{then-place-via-else-place+else-line_feed-ne-LF+else-not-is_shaped+then-not-is_summed}

pub split_at-requires : goal.split_at-requires
split_at-requires g c =
    let before = clean-before is_forbidden c.args.following.now c.in-Some.place
    (sym c.text_and_sum-forbidden.ensures.first ∙ c.in-Some.is) in
    omega (arith, before.0)

pub returns-clause-frame : goal.returns-clause-frame
returns-clause-frame g c =
    let before = clean-before is_forbidden c.args.following.now c.in-Some.place
    (sym c.text_and_sum-forbidden.ensures.first ∙ c.in-Some.is) in
    let text = c.split_at.result.0.now in
    let rest = c.split_at.result.1.now in
    let end = get_or rest 0 0 in
    let high = get_or rest 1 0 in
    let low = get_or rest 2 0 in
    let close = get_or rest 3 0 in
    let clean : first_forbidden text ≡ None = rw c.split_at.ensures.front before.1 in
    let text_sum : sum text % 256 ≡ c.text_and_sum-forbidden.result.1 =
    rw (c.split_at.ensures.front) (sym (rw c.in-Some.is at c.text_and_sum-forbidden.ensures.sum)) in
    let total : ((c.args.number + sum text) % 256 + end) % 256
    ≡ (c.args.number + c.text_and_sum-forbidden.result.1 + end) % 256 = omega (arith, text_sum) in
    let sound : body_fault g.row.N (body_of c.args.number text end high low close) ≡ None =
    body_fault-parts c.args.number text end high low close g.row.N (omega (arith, c.split_at.ensures.front_len))
    ∙ rw (
      ← c.is_shaped.ensures,
      c.if-not-is_shaped.false,
      c.requires,
      clean,
      total,
      ← c.is_summed.ensures,
      c.if-not-is_summed.false,
    )
    refl in
    let is = sym (content_of-body_of c.args.number text end high low close) in
    let place = c.in-Some.place in
    front-frame g.row.N c.args.number place c.args.following.now _ (omega (arith, before.0))
    (rw c.split_at.ensures.back at c.in-len5-up.len_at_least)
    (rw c.split_at.ensures.back at c.if-line_feed-ne-LF.false)
    (rw (c.split_at.ensures.front, c.split_at.ensures.back) at sound)
    (rw (c.split_at.ensures.front, c.split_at.ensures.back) at is)

pub returns-in_default-clause-whole : goal.returns-in_default-clause-whole
returns-in_default-clause-whole g c frame begins =
    let parts = front_parts g.row.N c.args.number c.args.following.now frame begins in
    sym c.in_default.is ∙ c.text_and_sum-forbidden.ensures.first ∙ parts.first_is

pub returns-in_default-rest-clause-whole : goal.returns-in_default-rest-clause-whole
returns-in_default-rest-clause-whole g c frame begins =
    let parts = front_parts g.row.N c.args.number c.args.following.now frame begins in
    let at = same_place (sym c.in-Some.is ∙ c.text_and_sum-forbidden.ensures.first ∙ parts.first_is) in
    let rest_is = rw at at c.split_at.ensures.back ∙ parts.rest_is in
    absurd (omega (arith, c.in_default-rest.len_below, ap length rest_is))

pub returns-then-place-clause-whole : goal.returns-then-place-clause-whole
returns-then-place-clause-whole g c frame begins =
    let parts = front_parts g.row.N c.args.number c.args.following.now frame begins in
    let at = same_place (sym c.in-Some.is ∙ c.text_and_sum-forbidden.ensures.first ∙ parts.first_is) in
    let rest_is = rw at at c.split_at.ensures.back ∙ parts.rest_is in
    let sum_is = rw (c.in-Some.is, at, parts.text_is) at c.text_and_sum-forbidden.ensures.sum in
    elim c.then-place.branch [
      | then-place-via-then-place w ↦ absurd (omega (arith, at, parts.short, w.if-place.true))
      | then-place-via-else-place+then-line_feed-ne-LF w ↦ absurd (rw rest_is at w.if-line_feed-ne-LF.true refl)
      | then-place-via-else-place+else-line_feed-ne-LF+then-not-is_shaped w ↦
          let shaped = rw rest_is at w.is_shaped.ensures ∙ parts.shaped in cc
      | then-place-via-else-place+else-line_feed-ne-LF+else-not-is_shaped+then-not-is_summed w ↦
          let summed = rw (rest_is, sum_is) at w.is_summed.ensures ∙ parts.summed in cc
    ]

pub returns-clause-whole : goal.returns-clause-whole
returns-clause-whole g c frame begins =
    let parts = front_parts g.row.N c.args.number c.args.following.now frame begins in
    sym c.in-Some.is ∙ c.text_and_sum-forbidden.ensures.first ∙ parts.first_is
