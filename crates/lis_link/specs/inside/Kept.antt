-- What a new receiver keeps of the line.
use Rattle.std.specs.Prelude.{true, false, []}
use Rattle.lis_text.specs.declared.readiness.Readiness.TheVariants.{Ready}
use Rattle.lis_link.specs.Kept.{KeptLine}

-- not open, but ready; no frame was counted, and no room is reserved
abbrev pub idle_line : KeptLine
idle_line = record { is_open = false; accepted = 0; readiness = Ready; room = true; held = []; spare = 0 }
