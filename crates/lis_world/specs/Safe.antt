-- What is safe: nothing is accepted that wasn't sent, nothing acknowledged that wasn't accepted, and what is delivered
-- are the texts, whole and in order.
use Rattle.std.specs.Prelude.{◌≡◌, ℕ, ◌≤◌, List, [], ◌++◌, length, Some, All}
use Rattle.lis_frame.specs.Pieces.{session_frames}
use Rattle.lis_link.specs.declared.sender.Outcome.TheVariants.{Done}
use Rattle.lis_link.specs.Joining.{groups}
use Rattle.lis_world.specs.Session.{Session}
use Rattle.lis_world.specs.declared.event.Event.{Event}
use Rattle.lis_world.specs.World.{World}
use Rattle.lis_world.specs.Steps.{world}

-- xs are the first of ys, and this is the rest
pub record IsPrefix {A : Type 0} (xs ys : List A) : Type 0 where
  pub rest : List A
  pub joined : xs ++ rest ≡ ys

pub record IsSafe (limit : ℕ) (x : Session) : Type 0 where
  pub accepted_of_sent : IsPrefix x.accepted x.sent
  pub sent_of_frames : IsPrefix x.sent (session_frames limit x.texts)
  pub acknowledged_of_accepted : x.acknowledged ≤ length x.accepted
  pub delivered_whole : x.handed ≡ groups [] x.accepted
  pub delivered_in_order : IsPrefix x.handed x.texts

-- a session that is done has delivered all its texts
abbrev pub DeliversAll : Session → Type 0
DeliversAll x = x.outcome ≡ Some Done → x.handed ≡ x.texts

abbrev pub Safe : ℕ → World → Type 0
Safe limit w = All (IsSafe limit) w.sessions × All DeliversAll w.sessions

-- the world is safe after every list of events
abbrev pub AlwaysSafe : ℕ → Type 0
AlwaysSafe limit = (events : List Event) → Safe limit (world limit events)
