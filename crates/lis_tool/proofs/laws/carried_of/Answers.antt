-- What a session delivered is the messages' bytes, by the laws of safety; the laws of messages say what these are.
use Rattle.lis_tool.proofs.CarriedLaws.{carry, are_read_back}
use Rattle.lis_tool.proofs.laws.carried_of.Goals as goal

pub returns-clause-bytes : goal.returns-clause-bytes
returns-clause-bytes g c = λ events.
    let read = c.read_back.ensures in
    carry read.split read.alone c.one_split.ensures.none _ (c.safe_of.ensures events).1

pub returns-clause-read : goal.returns-clause-read
returns-clause-read g c = λ events.
    let read = c.read_back.ensures in
    are_read_back read.split read.alone c.one_split.ensures.none _ (c.safe_of.ensures events).1

pub returns-clause-late_bytes : goal.returns-clause-late_bytes
returns-clause-late_bytes g c = λ events in_time.
    let read = c.read_back.ensures in
    let quiet = c.safe_on_quiet_starts_of.ensures.new_line events in_time in
    carry read.split read.alone c.one_split.ensures.none _ quiet.1

pub returns-clause-late_read : goal.returns-clause-late_read
returns-clause-late_read g c = λ events in_time.
    let read = c.read_back.ensures in
    let quiet = c.safe_on_quiet_starts_of.ensures.new_line events in_time in
    are_read_back read.split read.alone c.one_split.ensures.none _ quiet.1
