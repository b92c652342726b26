use Rattle.std.proofs.Common.{◌≡◌, ◌∷◌, ◌+◌, ◌≤◌, Err, sym, subst, arith}
use Rattle.lis_bytes.specs.Capped.{capped}
use Rattle.lis_message.specs.Writing.{AreWritable, WroteRecords, first_length}
use Rattle.lis_message.proofs.WritingLaws.{wrote_step, wrote_stop}
use Rattle.lis_message.proofs.writer.write_records.Goals as goal

pub returns-in-Err-clause-wrote : goal.returns-in-Err-clause-wrote
returns-in-Err-clause-wrote g c =
    let inv = c.loop-entry.invariant in
    let d = c.args.delimiters in
    let now = g.W.Sink.taken c.loop-entry.sink in
    let new = g.W.Sink.taken c.write_record_from.new.sink in
    let is : c.loop-entry.walk ≡ c.in-Some.entry.now ∷ c.next.new.self = c.in-Some.ensures.next in
    let w = subst (AreWritable d) is inv.writable in
    inv.goes new (Err (record { place = c.loop-entry.at; fault = c.in-Err.fault }))
    (subst (λ rs. WroteRecords d rs c.loop-entry.at c.loop-entry.passed now new
    (Err (record { place = c.loop-entry.at; fault = c.in-Err.fault }))) (sym is)
    (wrote_stop d c.in-Some.entry.now c.next.new.self c.loop-entry.at c.loop-entry.passed now new c.in-Err.fault
    inv.fits w.0 c.in-Err.ensures.wrote))

pub loop-entry-preserved : goal.loop-entry-preserved
loop-entry-preserved g c =
    let inv = c.loop-entry.invariant in
    let d = c.args.delimiters in
    let now = g.W.Sink.taken c.loop-entry.sink in
    let mid = g.W.Sink.taken c.write_record_from.new.sink in
    let is : c.loop-entry.walk ≡ c.in-Some.entry.now ∷ c.next.new.self = c.in-Some.ensures.next in
    let w = subst (AreWritable d) is inv.writable in
    let room = subst (λ rs. c.loop-entry.passed ≤ first_length d rs) is inv.room in
    let added : c.saturating_add-at.result ≡ capped (c.loop-entry.at + 1) = c.saturating_add-at.ensures in
    record {
      sound = c.in_default-write_record_from.ensures.failed;
      fits = omega arith;
      writable = w.1;
      room = omega arith;
      goes = λ new result x. inv.goes new result
          (subst (λ rs. WroteRecords d rs c.loop-entry.at c.loop-entry.passed now new result) (sym is)
          (wrote_step d c.in-Some.entry.now c.next.new.self c.loop-entry.at c.loop-entry.passed now mid new result
          room c.in_default-write_record_from.ensures.wrote.1
          (subst (λ n. WroteRecords d c.next.new.self n 0 mid new result) added x)));
    }
