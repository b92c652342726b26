-- What travels to the receiver: ENQ, EOT or a frame, of a session.
use Rattle.std.specs.Prelude.{ℕ, List, [], ◌∷◌}
use Rattle.lis_text.specs.Control.{ENQ, EOT}
use Rattle.lis_frame.specs.Frame.{FrameContent, frame_bytes}

pub data Load : Type 0 where
  enquiry : Load
  ending : Load
  one_frame : FrameContent → Load

pub record Travelling : Type 0 where
  pub session : ℕ
  pub load : Load

-- the bytes of a unit
abbrev pub load_bytes : Load → List ℕ
load_bytes enquiry = ENQ ∷ []
load_bytes ending = EOT ∷ []
load_bytes (one_frame frame) = frame_bytes frame
