use Rattle.std.proofs.Common.{rules}
use Rattle.uses.proofs.BuildingLaws.{only_memory, where_ok}
use Rattle.uses.proofs.building.result_message.Goals as goal

pub returns-clause-err : goal.returns-clause-err
returns-clause-err c =
    let all = rw c.new-records.ensures at (where_ok c.push_result.result c.push_result.ensures (search rules)) in
    only_memory c.whole_lists.ensures c.args.sample.now c.args.value.now c.push_result.new.records
    c.from_records.result c.map_err-2.result all c.from_records.ensures.err c.map_err-2.ensures.cases
