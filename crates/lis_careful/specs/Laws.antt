-- The statements of the laws.
use Rattle.std.specs.Prelude.{◌≡◌, ℕ, List}
use Rattle.lis_world.specs.declared.event.Event.{Event}
use Rattle.lis_world.specs.World.{World}
use Rattle.lis_world.specs.Steps.{world}
use Rattle.lis_world.specs.Safe.{Safe}
use Rattle.lis_careful.specs.World.{careful_world}

-- the world is there after some list of events, with a receiver as the profile has it
pub record IsHistory (limit : ℕ) (w : World) : Type 0 where
  pub events : List Event
  pub same : world limit events ≡ w

-- so it is after every list of events with a receiver that hears carefully
abbrev pub AreHistories : ℕ → Type 0
AreHistories limit = (events : List Event) → IsHistory limit (careful_world limit events)

-- and it is safe
abbrev pub AlwaysSafeCarefully : ℕ → Type 0
AlwaysSafeCarefully limit = (events : List Event) → Safe limit (careful_world limit events)
