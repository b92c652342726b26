-- When sessions are carried through on a line between two stations, and that no state of the two blocks it for good
-- (LIS01-A2, 6.2.7).
use Rattle.std.specs.Prelude.{◌≡◌, ℕ, ◌+◌, ◌≤◌, true, false, List, [], ◌∷◌, ◌++◌, length, map}
use Rattle.std.specs.List.{flat_map}
use Rattle.lis_text.specs.Control.{STX, LF}
use Rattle.lis_link.specs.declared.sender.Phase.TheVariants.{Neutral}
use Rattle.lis_text.specs.declared.readiness.Readiness.TheVariants.{Ready}
use Rattle.lis_world.specs.Session.{Session, session_at}
use Rattle.lis_world.specs.Progress.{Round, undisturbed, without_room, bad_frame, bad_reply, AreEnough, done_session}
use Rattle.lis_world.specs.Recovery.{AreTexts}
use Rattle.lis_station.specs.Station.{StationState}
use Rattle.lis_station.specs.Line.{TwoWay, StationEvent, start, arrive, arrive_without_room}
use Rattle.lis_station.specs.Line.{damage, lose, timer, give_up}
use Rattle.lis_station.specs.Line.{close_line, set_ready, LineEvent, at_analyzer, at_computer, two_way}

-- ---- a session on the line, from the station where `here` to the one where `there`

-- a frame goes there and a reply comes back, as on the line of one direction
abbrev pub round_on_line : (StationEvent → LineEvent) → (StationEvent → LineEvent) → Round → List LineEvent
round_on_line here there undisturbed = there arrive ∷ here arrive ∷ []
round_on_line here there without_room = there arrive_without_room ∷ here arrive ∷ []
round_on_line here there (bad_frame body) = there (damage (STX ∷ (body ++ LF ∷ []))) ∷ here arrive ∷ []
round_on_line here there (bad_reply b) = there arrive ∷ here (damage (b ∷ [])) ∷ []

-- ENQ goes there and its reply comes back; the rounds; and EOT goes there
abbrev pub carrying : (StationEvent → LineEvent) → (StationEvent → LineEvent) → List Round → List LineEvent
carrying here there rounds =
    there arrive ∷ here arrive ∷ (flat_map (round_on_line here there) rounds ++ there arrive ∷ [])

-- one side alone asks for the line
abbrev pub alone : (StationEvent → LineEvent) → (StationEvent → LineEvent) → List (List ℕ) → List Round → List LineEvent
alone here there texts rounds = here (start texts) ∷ carrying here there rounds

-- both ask at once; each ENQ comes as the reply to the other one
abbrev pub both_ask : List (List ℕ) → List (List ℕ) → List LineEvent
both_ask texts answers =
    at_analyzer (start texts) ∷ at_computer (start answers) ∷ at_computer arrive ∷ at_analyzer arrive ∷ []

-- the analyzer's wait is over first, and its session is carried through; then the computer's
abbrev pub in_turn : List Round → List Round → List LineEvent
in_turn rounds answering =
    (at_analyzer timer ∷ carrying at_analyzer at_computer rounds)
    ++ (at_computer timer ∷ carrying at_computer at_analyzer answering)

-- ---- a calm line

-- the other side doesn't have the line, and gets it when it asks
pub record IsReady (s : StationState) : Type 0 where
  pub neutral : s.sender.phase ≡ Neutral
  pub closed : s.receiver.is_open ≡ false
  pub ready : s.receiver.readiness ≡ Ready
  pub room : s.receiver.room ≡ true
  pub no_request : s.asks_turn ≡ false

-- nothing is on the line, no session goes on, and both stations are ready
pub record IsCalmLine (t : TwoWay) : Type 0 where
  pub none_out : t.outward ≡ []
  pub none_in : t.inward ≡ []
  pub near : IsReady t.near.station
  pub far : IsReady t.far.station

-- ---- the laws

-- the last of so many more sessions is one of these texts, in which everything was sent, accepted, acknowledged and
-- delivered
pub record HasDone (limit more : ℕ) (texts : List (List ℕ)) (before after : List Session) : Type 0 where
  pub more_sessions : length after ≡ length before + (1 + more)
  pub session_is : session_at (length before + more) after ≡ done_session limit texts

-- if one side alone asks, its session is done
abbrev pub CarriesOne : ℕ → Type 0
CarriesOne limit =
    (events : List LineEvent) (texts : List (List ℕ)) (rounds : List Round)
    → IsCalmLine (two_way limit events)
    → AreTexts texts
    → AreEnough limit texts rounds
    → HasDone limit 0 texts (two_way limit events).near.sessions
    (two_way limit (events ++ alone at_analyzer at_computer texts rounds)).near.sessions
    × HasDone limit 0 texts (two_way limit events).far.sessions
    (two_way limit (events ++ alone at_computer at_analyzer texts rounds)).far.sessions

-- if both ask at once, the analyzer's session is done first, and then the computer's: each is the second one of its
-- texts, as the first ENQ began one that was put off
abbrev pub CarriesBoth : ℕ → Type 0
CarriesBoth limit =
    (events : List LineEvent) (texts answers : List (List ℕ)) (rounds answering : List Round)
    → IsCalmLine (two_way limit events)
    → AreTexts texts
    → AreTexts answers
    → AreEnough limit texts rounds
    → AreEnough limit answers answering
    → HasDone limit 1 texts (two_way limit events).near.sessions
    (two_way limit (events ++ (both_ask texts answers ++ in_turn rounds answering))).near.sessions
    × HasDone limit 1 answers (two_way limit events).far.sessions
    (two_way limit (events ++ (both_ask texts answers ++ in_turn rounds answering))).far.sessions

-- ---- the line becomes calm

-- how an item leaves the line at a station: it comes, comes while there is no room, or is lost
pub data Leaving : Type 0 where
  comes : Leaving
  comes_without_room : Leaving
  is_lost : Leaving

abbrev pub leaving_event : Leaving → StationEvent
leaving_event comes = arrive
leaving_event comes_without_room = arrive_without_room
leaving_event is_lost = lose

abbrev pub leaving_at : (StationEvent → LineEvent) → List Leaving → List LineEvent
leaving_at here leavings = map (λ leaving. here (leaving_event leaving)) leavings

-- both give their sessions up; each item on its way to either side leaves the line; and both close it and are ready
abbrev pub given_up_both : List LineEvent
given_up_both = at_analyzer give_up ∷ at_computer give_up ∷ []

abbrev pub settling : List Leaving → List Leaving → List LineEvent
settling at_the_analyzer at_the_computer =
    (leaving_at at_analyzer at_the_analyzer ++ leaving_at at_computer at_the_computer)
    ++ ((at_analyzer close_line ∷ at_analyzer (set_ready true) ∷ [])
    ++ (at_computer close_line ∷ at_computer (set_ready true) ∷ []))

-- after whatever events, once both gave up and each item has left the line, it is calm
abbrev pub BecomesCalm : ℕ → Type 0
BecomesCalm limit =
    (events : List LineEvent) (at_the_analyzer at_the_computer : List Leaving)
    → length (two_way limit (events ++ given_up_both)).inward ≤ length at_the_analyzer
    → length (two_way limit (events ++ given_up_both)).outward ≤ length at_the_computer
    → IsCalmLine (two_way limit ((events ++ given_up_both) ++ settling at_the_analyzer at_the_computer))
