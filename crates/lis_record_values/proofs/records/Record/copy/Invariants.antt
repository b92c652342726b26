use Rattle.std.proofs.Common.{◌≡◌, take}
use Rattle.lis_record_values.proofs.records.Record.copy.Given as goal

abbrev pub invariant-loop-field : goal.invariant-loop-field
invariant-loop-field l = l.entry ≡ record { kind = l.self.kind; fields = take l.field-index l.field-items }
