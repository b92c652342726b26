use Rattle.std.proofs.Common.{sym}
use Rattle.lis_message.proofs.Whole.{start_reads, whole_fault, whole_read, whole_short}
use Rattle.lis_message.proofs.reader.read_whole.Goals as goal

pub returns-in-Some : goal.returns-in-Some
returns-in-Some c =
    whole_fault c.feed-messages.new.self c.args.bytes.now c.feed-messages.result.messages c.feed-messages.result.fault
    c.in-Some.fault
    (start_reads c.new-reader.result c.feed-messages.new.self c.args.bytes.now c.feed-messages.result.messages
    c.feed-messages.result.fault c.new-reader.ensures c.feed-messages.ensures.read) c.in-Some.is

pub returns-in-Ok : goal.returns-in-Ok
returns-in-Ok c =
    whole_read c.feed-messages.new.self c.args.bytes.now c.feed-messages.result.messages c.feed-messages.result.fault
    (start_reads c.new-reader.result c.feed-messages.new.self c.args.bytes.now c.feed-messages.result.messages
    c.feed-messages.result.fault c.new-reader.ensures c.feed-messages.ensures.read) c.in-None.is
    (sym c.in-Ok.ensures)

pub returns-in-Err : goal.returns-in-Err
returns-in-Err c =
    whole_short c.feed-messages.new.self c.args.bytes.now c.feed-messages.result.messages c.feed-messages.result.fault
    c.in-Err.fault
    (start_reads c.new-reader.result c.feed-messages.new.self c.args.bytes.now c.feed-messages.result.messages
    c.feed-messages.result.fault c.new-reader.ensures c.feed-messages.ensures.read) c.in-None.is
    (sym c.in-Err.ensures)
