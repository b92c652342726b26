use Rattle.lis_message.proofs.RecordLaws.{split_held, split_stops, reads_record}
use Rattle.lis_message.proofs.laws.records_of_a_stream.Goals as goal

pub returns-clause-record : goal.returns-clause-record
returns-clause-record c = reads_record

pub returns-clause-held : goal.returns-clause-held
returns-clause-held c = split_held

pub returns-clause-refused : goal.returns-clause-refused
returns-clause-refused c = λ before after stream messages left bytes following fault is r.
    split_stops stream messages left before.held bytes fault is r.place r.why
