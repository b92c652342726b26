-- Where the first component of a record begins.
use Rattle.std.specs.Prelude.{◌+◌}
use Rattle.lis_record_values.specs.declared.kinds.Kind.{Kind}
use Rattle.lis_record_values.specs.Shape.{first_number}
use Rattle.lis_record.specs.Borrowed.{front_length}
use Rattle.lis_table.specs.declared.table.LisPart.{LisPart}

-- where the first component begins
abbrev pub first_place : Kind → LisPart
first_place kind = record {
  offset = front_length kind + 1;
  len = 0;
  field = first_number kind;
  repeat = 0;
  component = 0;
  flags = 0;
}
