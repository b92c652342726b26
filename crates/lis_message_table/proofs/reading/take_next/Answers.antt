-- A record more leads on (reads_on) or closes the message (reads_all); else the text has its fault (stops_text).
use Rattle.std.proofs.Common.{◌++◌, ◌∷◌, ◌+◌, ◌-◌, ℕ, [], ◌∙◌, ap, length, refl, subst, sym}
use Rattle.lis_bytes.specs.Capped.{capped}
use Rattle.lis_message.specs.Kept.{RecordsState}
use Rattle.lis_message.specs.Records.{HasLeft}
use Rattle.lis_message_table.proofs.ReadingLaws.{count_so_far, reads_all, reads_on, stops_text}
use Rattle.lis_message_table.specs.declared.above.Above.{Above}
use Rattle.lis_message_table.specs.declared.places.RecordPlace.{RecordPlace}
use Rattle.lis_message_table.specs.inside.Above.{above_after}
use Rattle.lis_message_table.specs.inside.Reading.{IsReading, StopsAt}
use Rattle.lis_message_table.proofs.reading.take_next.Goals as goal

pub returns-in_default-clause-err : goal.returns-in_default-clause-err
returns-in_default-clause-err c = λ places r.
    let stops : StopsAt r.left c.args.rest.now c.fault_at.result =
    c.fault_at.ensures r.left
    (subst (λ (s : RecordsState). HasLeft s r.left) (sym c.in_default.ensures.none) r.has) in (
      stops_text c.args.records.now c.args.text.now places c.args.above.now c.args.rest.now r c.fault_at.result
          c.requires.some stops,
      stops.0 ∙ ap (λ (n : ℕ). capped (n + 1))
          (sym (count_so_far c.args.records.now c.args.text.now places c.args.above.now c.args.rest.now r)),
    )

pub returns-clause-on : goal.returns-clause-on
returns-clause-on c = λ places r index other.
    let read = c.in-Some.ensures.read r.left r.has in
    let reader = c.read_whole.new.self in
    let following = c.in-Some.following.now in
    let text = c.args.text.now in
    let p : RecordPlace = record {
      kind = c.kind-kind.result;
      start = length text - length c.args.rest.now;
      len = length c.args.rest.now - length following - 1;
      parent = c.take.result;
    } in
    subst (λ (a : Above). IsReading reader text (places ++ p ∷ []) a following)
    (sym (c.take.ensures.after ∙ ap (λ (n : ℕ). above_after c.args.above.now n c.kind-kind.result) index))
    (reads_on c.args.records.now reader text places c.args.above.now c.args.rest.now following c.in-Some.entry p r
    read.1 refl refl c.kind-kind.ensures c.take.ensures.parent (λ last. other (c.kind-kind.ensures ∙ last)) read.0)

pub returns-clause-last : goal.returns-clause-last
returns-clause-last c = λ places r last.
    let read = c.in-Some.ensures.read r.left r.has in
    rw c.delimiters.ensures
    (reads_all c.args.records.now c.read_whole.new.self c.args.text.now places c.args.above.now c.args.rest.now
    c.in-Some.following.now c.in-Some.entry _ r read.1 refl refl c.kind-kind.ensures c.take.ensures.parent
    (sym c.kind-kind.ensures ∙ last))
