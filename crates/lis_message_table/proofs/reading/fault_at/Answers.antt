-- A record that is whole in the bytes and comes next would have been read: it is rejected (read_unrefused).
use Rattle.std.proofs.Common.{subst}
use Rattle.lis_message.specs.Records.{Reads}
use Rattle.lis_message.specs.declared.records.RecordFound.{RecordFound}
use Rattle.lis_message_table.proofs.ReadingLaws.{read_unrefused}
use Rattle.lis_message_table.proofs.reading.fault_at.Goals as goal

pub unreachable-requires-in-Record : goal.unreachable-requires-in-Record
unreachable-requires-in-Record c =
    let given = c.requires.reads in
    let r = given.3 in
    let following = c.read-found.result.0.now in
    let found = subst (λ (f : RecordFound). Reads c.args.records.now c.read-found.new.self r.left c.args.bytes.now
    following f) c.in-Record.is (c.read-found.ensures.read r.left r.has) in
    read_unrefused c.args.records.now given.0 given.1 given.2 c.args.bytes.now r c.read-found.new.self following
    c.in-Record.field-0 found.1
    (c.requires.none r.left r.has found.1.text following found.1.lacks found.1.whole)

pub unreachable-requires-in-Held : goal.unreachable-requires-in-Held
unreachable-requires-in-Held c =
    let given = c.requires.reads in
    let r = given.3 in
    let following = c.read-found.result.0.now in
    let found = subst (λ (f : RecordFound). Reads c.args.records.now c.read-found.new.self r.left c.args.bytes.now
    following f) c.in-Held.is (c.read-found.ensures.read r.left r.has) in
    read_unrefused c.args.records.now given.0 given.1 given.2 c.args.bytes.now r c.read-found.new.self following
    found.0 found.2
    (c.requires.none r.left r.has found.2.text following found.2.lacks found.2.whole)
