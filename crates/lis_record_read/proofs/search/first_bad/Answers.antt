use Rattle.std.proofs.Common.{ℕ, None, Some, not, sym, ◌∙◌, arith}
use Rattle.lis_bytes.proofs.SearchLemmas.{passes, found-chunk, position-following}
use Rattle.lis_record_values.specs.Text.{is_text_byte}
use Rattle.lis_record_read.proofs.BadBytes.{found_bound}
use Rattle.lis_record_read.proofs.search.first_bad.Goals as goal

pub returns-then-bits-ne0 : goal.returns-then-bits-ne0
returns-then-bits-ne0 c =
    let test = λ (b : ℕ). not (is_text_byte b) in
    let bits = c.in-Some.ensures in
    rw (bits, c.loop-rest.invariant.same)
    (sym (found-chunk test c.loop-rest.place 32 c.loop-rest.rest.now (omega arith)
    c.loop-rest-test.true (rw bits at c.if-bits-ne0.true)))

pub loop-rest-preserved : goal.loop-rest-preserved
loop-rest-preserved c =
    passes (λ b. not (is_text_byte b)) 32 c.loop-rest.place c.loop-rest.rest.now c.split_at.result.1.now
    c.args.bytes.now c.loop-rest.invariant c.loop-rest-test.true c.split_at.ensures.back
    (rw c.in-Some.ensures at c.if-bits-ne0.false)

pub returns-in-None : goal.returns-in-None
returns-in-None c =
    position-following (λ b. not (is_text_byte b)) c.loop-rest.place c.loop-rest.rest.now None c.in-None.ensures
    ∙ sym c.loop-rest.invariant.same

pub returns-in-Some-first_in : goal.returns-in-Some-first_in
returns-in-Some-first_in c =
    position-following (λ b. not (is_text_byte b)) c.loop-rest.place c.loop-rest.rest.now
    (Some c.in-Some-first_in.found)
    c.in-Some-first_in.ensures ∙ sym c.loop-rest.invariant.same

pub overflow_add-result-in-Some-first_in : goal.overflow_add-result-in-Some-first_in
overflow_add-result-in-Some-first_in c =
    omega (
      arith,
      found_bound c.loop-rest.rest.now (Some c.in-Some-first_in.found) c.in-Some-first_in.ensures,
      c.loop-rest.invariant.fits,
    )
