-- The statements of the laws.
use Rattle.std.specs.Prelude.{◌≡◌, ℕ, true, List}
use Rattle.lis_station.specs.Line.{TwoWay, LineEvent, two_way, AreSafe}
use Rattle.lis_late_line.specs.Late.{LateEvent, two_way_late}
use Rattle.lis_late_line.specs.Discipline.{Rule, keeps, AreSafeBothWays}
use Rattle.lis_careful_line.specs.Line.{Care, two_way_with, two_way_late_with, keeps_with}

-- the line is there after some list of events with stations as the profile has them
pub record IsLineHistory (limit : ℕ) (t : TwoWay) : Type 0 where
  pub events : List LineEvent
  pub same : two_way limit events ≡ t

-- so it is after every list of events, whichever of the two hear carefully
abbrev pub AreLineHistories : ℕ → Type 0
AreLineHistories limit = (care : Care) (events : List LineEvent) → IsLineHistory limit (two_way_with care limit events)

-- and in each direction each session is safe
abbrev pub SafeBothWaysCarefully : ℕ → Type 0
SafeBothWaysCarefully limit =
    (care : Care) (events : List LineEvent)
    → AreSafe limit (two_way_with care limit events).near.sessions
    × AreSafe limit (two_way_with care limit events).far.sessions

-- ---- the same on a line that answers late

-- some such list keeps the rule
pub record IsLateHistory (rule : Rule) (limit : ℕ) (t : TwoWay) : Type 0 where
  pub events : List LateEvent
  pub kept : keeps rule limit events ≡ true
  pub same : two_way_late limit events ≡ t

abbrev pub AreLateHistories : Rule → ℕ → Type 0
AreLateHistories rule limit =
    (care : Care) (events : List LateEvent) → keeps_with care rule limit events ≡ true
    → IsLateHistory rule limit (two_way_late_with care limit events)

abbrev pub SafeByRuleCarefully : Rule → ℕ → Type 0
SafeByRuleCarefully rule limit =
    (care : Care) (events : List LateEvent) → keeps_with care rule limit events ≡ true
    → AreSafeBothWays limit (two_way_late_with care limit events)
