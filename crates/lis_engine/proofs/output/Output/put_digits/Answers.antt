use Rattle.std.proofs.Common.{rules, List, ℕ, take, subst, Err}
use Rattle.hex.specs.Hex.{encode_lower}
use Rattle.lis_engine.proofs.EncodeLemmas.{encode_lower-parts}
use Rattle.lis_engine.specs.Output.{Broke, IsPut}
use Rattle.lis_engine.proofs.OutputLaws.{breaks_on, put_on}
use Rattle.lis_engine.proofs.output.Output.put_digits.Goals as goal

pub returns-in_err-put_chunk : goal.returns-in_err-put_chunk
returns-in_err-put_chunk g c =
    let chunk = rw c.split_at.ensures.front at c.in_err-put_chunk.ensures in
    let all : Broke c.args.self.now c.put_chunk.new.self c.in_err-put_chunk.field-0.0 (encode_lower c.args.bytes.now) =
    c.loop-rest.invariant.goes_on c.put_chunk.new.self (Err c.in_err-put_chunk.field-0.0)
    (subst (λ (text : List ℕ). Broke c.loop-rest.self c.put_chunk.new.self c.in_err-put_chunk.field-0.0 text)
    (encode_lower-parts 1024 c.loop-rest.rest.now)
    (breaks_on _ _ _ (encode_lower (take 1024 c.loop-rest.rest.now)) _ chunk)) in
    search (rules, all)

pub loop-rest-preserved : goal.loop-rest-preserved
loop-rest-preserved g c =
    let chunk = rw c.split_at.ensures.front at c.in_ok-put_chunk.ensures in
    record {
      working = chunk.working;
      goes_on = λ new r p.
          c.loop-rest.invariant.goes_on new r
          (subst (λ (text : List ℕ). IsPut c.loop-rest.self new r text) (encode_lower-parts 1024 c.loop-rest.rest.now)
          (put_on _ _ _ r (encode_lower (take 1024 c.loop-rest.rest.now)) _ chunk
          (rw c.split_at.ensures.back at p)));
    }
