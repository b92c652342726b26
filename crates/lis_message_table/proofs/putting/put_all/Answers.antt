-- A record more is put after the others (put_next), and leads on or closes the message, whose text is the front that
-- was read (text_is, table_is). Where none comes, those before it are put (puts_front).
use Rattle.std.proofs.Common.{rules, ◌≢◌, ◌≡◌, ◌+◌, ◌-◌, ◌∷◌, ◌++◌, ℕ, [], ◌∙◌, ap, arith, length, length-append}
use Rattle.std.proofs.Common.{refl, sym, take}
use Rattle.lis_record_values.specs.declared.kinds.Kind.TheVariants as kinds
use Rattle.lis_message_table.proofs.PutLaws.{put_next, puts_front}
use Rattle.lis_message_table.proofs.TableLaws.{table_is, text_is}
use Rattle.lis_message_table.proofs.putting.put_all.Goals as goal

pub returns-then-eq-clause-ok : goal.returns-then-eq-clause-ok
returns-then-eq-clause-ok c =
    let places = c.loop-found.invariant.0 in
    let p = c.in-Ok.found.0 in
    let text = c.args.text.now in
    let following = c.in-Ok.found.2.now in
    let last : p.kind ≡ kinds.L = search (rules, c.if-eq.ensures) in
    let read = c.in-Ok.ensures.last places c.loop-found.invariant.1 last in
    let front = take (length text - length following) text in
    let all = places ++ p ∷ [] in
    record {
      table = record { delimiters = c.in-Ok.found.1; text = front; places = all; room = 0 };
      begins = (
        text_is _ text all following read front 0 refl,
        (read.message, table_is _ text all following read front 0 refl),
      );
      count_is = ap (λ (n : ℕ). n + 1) c.loop-found.invariant.2 ∙ sym (length-append places (p ∷ []));
      delimiters_are = refl;
      put =
          put_next c.args.out.now _ c.put.new.out places p _ c.of.result c.loop-found.invariant.4
          c.loop-found.invariant.2 c.of.ensures c.put.ensures;
    }

pub loop-found-preserved : goal.loop-found-preserved
loop-found-preserved c =
    let places = c.loop-found.invariant.0 in
    let p = c.in-Ok.found.0 in
    let other : p.kind ≢ kinds.L = search (rules, c.if-eq.ensures) in (
      places ++ p ∷ [],
      c.in-Ok.ensures.on places c.loop-found.invariant.1 c.loop-found.invariant.2 other,
      ap (λ (n : ℕ). n + 1) c.loop-found.invariant.2 ∙ sym (length-append places (p ∷ [])),
      omega (arith, c.loop-found.invariant.3, c.in-Ok.ensures.shorter),
      put_next c.args.out.now _ c.put.new.out places p _ c.of.result c.loop-found.invariant.4 c.loop-found.invariant.2
          c.of.ensures c.put.ensures,
    )

pub returns-in-Err-clause-err : goal.returns-in-Err-clause-err
returns-in-Err-clause-err c =
    puts_front c.loop-found.records c.args.text.now c.loop-found.invariant.0 c.loop-found.above c.loop-found.rest.now _
    c.args.out.now _ c.loop-found.invariant.1 (c.in-Err.ensures.err c.loop-found.invariant.0 c.loop-found.invariant.1)
    c.loop-found.invariant.4
