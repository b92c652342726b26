-- What a caller makes of the signals of a line.
use Rattle.std.specs.Prelude.{Bool, false, Option, None, Some}
use Rattle.lis_frame.specs.declared.scanner.SignalOf.{SignalOf}
use Rattle.lis_frame.specs.declared.scanner.SignalOf.TheVariants.{Enq, Eot, Good, Bad}

-- a good frame that is the last of its message
abbrev pub is_last_frame : Option (SignalOf 240) → Bool
is_last_frame None = false
is_last_frame (Some Enq) = false
is_last_frame (Some Eot) = false
is_last_frame (Some (Good frame)) = frame.last
is_last_frame (Some (Bad fault)) = false
