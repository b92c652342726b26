use Rattle.std.proofs.Common.{◌∙◌, subst}
use Rattle.lis_message.specs.declared.records.RecordFound.{RecordFound}
use Rattle.lis_message.specs.Records.{Reads}
use Rattle.lis_message.proofs.RecordLaws.{split_reported, goes_before, memory_stops, read_stops}
use Rattle.lis_message.proofs.reader.read_next.Goals as goal

pub returns-in-Refused-clause-err : goal.returns-in-Refused-clause-err
returns-in-Refused-clause-err c =
    read_stops c.args.records.now c.read-found.new.self c.args.begun.now c.args.bytes.now c.read-found.result.0.now
    c.in-Refused.fault c.args.messages.now
    (subst (λ (f : RecordFound). Reads c.args.records.now c.read-found.new.self c.args.begun.now c.args.bytes.now
    c.read-found.result.0.now f) c.in-Refused.is
    (c.read-found.ensures.read c.args.begun.now c.requires))

pub returns-in-Ok-clause-on : goal.returns-in-Ok-clause-on
returns-in-Ok-clause-on c =
    goes_before c.args.records.now c.read-found.new.self c.args.begun.now c.take_entry.new.begun c.args.bytes.now
    c.read-found.result.0.now c.in-Record.entry
    c.args.messages.now c.take_entry.new.messages
    (subst (λ (f : RecordFound). Reads c.args.records.now c.read-found.new.self c.args.begun.now c.args.bytes.now
    c.read-found.result.0.now f) c.in-Record.is
    (c.read-found.ensures.read c.args.begun.now c.requires)).1
    c.in-Ok.ensures.ok c.in-Ok.ensures.left

pub returns-in-Ok-take_entry-clause-on : goal.returns-in-Ok-take_entry-clause-on
returns-in-Ok-take_entry-clause-on c =
    goes_before c.args.records.now c.read-found.new.self c.args.begun.now c.take_entry-in-Held.new.begun
    c.args.bytes.now c.read-found.result.0.now c.in-Some.entry
    c.args.messages.now c.take_entry-in-Held.new.messages
    (split_reported c.args.records.now c.read-found.new.self c.args.begun.now c.args.bytes.now c.read-found.result.0.now
    c.in-Some.entry
    (subst (λ (f : RecordFound). Reads c.args.records.now c.read-found.new.self c.args.begun.now c.args.bytes.now
    c.read-found.result.0.now f) c.in-Held.is
    (c.read-found.ensures.read c.args.begun.now c.requires))
    c.in-Some.ensures)
    c.in-Ok-take_entry.ensures.ok c.in-Ok-take_entry.ensures.left

pub returns-in-Err-clause-err : goal.returns-in-Err-clause-err
returns-in-Err-clause-err c =
    memory_stops c.args.records.now c.args.begun.now c.args.bytes.now c.args.messages.now c.take_entry.new.messages
    c.in-Err.fault
    (c.in-Err.ensures.place ∙ c.next_place-place.ensures c.args.begun.now c.requires.opened) c.in-Err.ensures.err

pub returns-in-Err-take_entry-clause-err : goal.returns-in-Err-take_entry-clause-err
returns-in-Err-take_entry-clause-err c =
    memory_stops c.args.records.now c.args.begun.now c.args.bytes.now c.args.messages.now
    c.take_entry-in-Held.new.messages c.in-Err-take_entry.fault
    (c.in-Err-take_entry.ensures.place ∙ c.next_place-place.ensures c.args.begun.now c.requires.opened)
    c.in-Err-take_entry.ensures.err
