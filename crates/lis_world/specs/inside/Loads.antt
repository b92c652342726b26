-- The unit that the program sends.
use Rattle.std.specs.Prelude.{ℕ, Bool, true, false}
use Rattle.lis_world.specs.Unit.{Load, enquiry, ending, one_frame}
use Rattle.lis_world.specs.declared.unit.LoadOf.{LoadOf}
use Rattle.lis_world.specs.declared.unit.LoadOf.TheVariants as Loads

abbrev pub load_of : {limit : ℕ} → LoadOf limit → Load
load_of Loads.Enquiry = enquiry
load_of Loads.Ending = ending
load_of (Loads.Frame frame) = one_frame frame

abbrev pub is_frame : Load → Bool
is_frame (one_frame frame) = true
is_frame load = false
