-- What the calls within a computer's loop answer and do.
use Rattle.std.specs.Prelude.{ℕ, Bool, true, false, List, [], ◌∷◌}
use Rattle.lis_link.specs.declared.receiver.Step.{Step}
use Rattle.lis_link.specs.Kept.{Kept}
use Rattle.lis_link.specs.Representation.{IsIn}
use Rattle.lis_link.specs.Receiver.{ReceiverState, receiver_restarted}
use Rattle.uses.specs.declared.connection.Event.{Event}
use Rattle.uses.specs.Connection.{LogEvent, kept, not_kept}
use Rattle.uses.specs.Computer.{IsAnswer}

-- an answer was given, and the receiver is in the state after it
pub record Answers (event : Event) (r : ReceiverState) (given : Step) (new : Kept) : Type 0 where
  pub after : ReceiverState
  pub answer : IsAnswer event r given after
  pub state : IsIn 240 new after

-- a whole text is kept, and then the reply is sent; if it can't be kept, nothing is sent, and the receiver restarts
abbrev pub keeping_log : Bool → List ℕ → List LogEvent → List LogEvent
keeping_log true text replies = kept text ∷ replies
keeping_log false text replies = not_kept text ∷ []

-- the receiver after that
abbrev pub state_after_keeping : Bool → ReceiverState → ReceiverState
state_after_keeping true r = r
state_after_keeping false r = receiver_restarted r
