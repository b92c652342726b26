use Rattle.std.proofs.Common.{◌-◌, ap, drop, sym, ◌∙◌}
use Rattle.lis_tree.specs.Tree.{flatten}
use Rattle.lis_message.proofs.ReadBack.{on_ok, written_back}
use Rattle.lis_message.proofs.WritingLaws.{all_writable, refusal_no_io, refused_resumes, writable_as, wrote_as}
use Rattle.lis_message.proofs.WritingLaws.{wrote_resumes, writable_drop}
use Rattle.lis_message.proofs.writer.write_message_from.Goals as goal

pub returns-in-Err-clause-failed : goal.returns-in-Err-clause-failed
returns-in-Err-clause-failed g c = c.requires.sink
    ∙ sym (refusal_no_io c.delimiters.result 1 c.new.result c.in-Err.fault c.in-Err.ensures)

pub write_records-requires-clause-writable : goal.write_records-requires-clause-writable
write_records-requires-clause-writable g c =
    let all = all_writable c.delimiters.result 1 c.new.result c.in_default.ensures in
    rw (c.passed-walk.ensures, c.new-2.ensures, c.delimiters-2.ensures.value)
    (rw (c.new.ensures, c.delimiters.ensures.value)
    at (writable_drop c.delimiters.result (c.args.place - 1) c.new.result all))

pub returns-clause-related : goal.returns-clause-related
returns-clause-related g c =
    let m = c.args.message.now in
    let all = writable_as c.delimiters.result m.delimiters c.new.result (flatten m) c.delimiters.ensures.value
    c.new.ensures (all_writable c.delimiters.result 1 c.new.result c.in_default.ensures) in
    on_ok c.write_records.result (written_back c.args.message.now c.delimiters.ensures.shape all)

pub returns-in-Err-clause-resume : goal.returns-in-Err-clause-resume
returns-in-Err-clause-resume g c = refused_resumes c.args.message.now c.in-Err.fault.place c.in-Err.fault.fault
    (refusal_no_io c.delimiters.result 1 c.new.result c.in-Err.fault c.in-Err.ensures)

pub returns-clause-resume : goal.returns-clause-resume
returns-clause-resume g c =
    let m = c.args.message.now in
    let old = g.W.Sink.taken c.args.sink.now in
    let new = g.W.Sink.taken c.write_records.new.sink in
    wrote_resumes m c.args.place c.args.skip old new c.write_records.result c.requires.first c.requires.last
    (wrote_as c.delimiters-2.result m.delimiters c.passed-walk.result (drop (c.args.place - 1) (flatten m))
    c.args.place c.args.skip old new c.write_records.result c.delimiters-2.ensures.value
    (c.passed-walk.ensures ∙ ap (drop (c.args.place - 1)) c.new-2.ensures) c.write_records.ensures.wrote)
