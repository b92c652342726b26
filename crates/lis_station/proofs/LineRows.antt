-- The line with two stations at lists of events whose outcomes are known from outside, by computation.
use Rattle.std.proofs.Common.{◌≡◌, ℕ, List, [], ◌∷◌, Some, refl}
use Rattle.lis_frame.specs.Frame.{frame_bytes}
use Rattle.lis_frame.specs.FrameBody.{body_fault}
use Rattle.lis_frame.specs.Stream.{signal_after, open_body}
use Rattle.lis_frame.specs.Pieces.{session_frames, pieces}
use Rattle.lis_link.specs.declared.sender.Outcome.TheVariants.{TimedOut}
use Rattle.lis_world.specs.Session.{Session}
use Rattle.lis_world.proofs.DefinitionRows.{one_letter, done_letter, begun_letter}
use Rattle.lis_station.specs.Line.{StationEvent, start, arrive, lose, timer, close_line, ask_turn, LineEvent}
use Rattle.lis_station.specs.Line.{at_analyzer}
use Rattle.lis_station.specs.Line.{at_computer, two_way}

abbrev pub begins : ℕ → StationEvent
begins letter = start ((letter ∷ []) ∷ [])

-- the sessions of the analyzer, and those of the computer
abbrev ComesTo : List LineEvent → List Session → List Session → Type 0
ComesTo events analyzers computers =
    ((two_way 240 events).near.sessions ≡ analyzers) × ((two_way 240 events).far.sessions ≡ computers)

-- one session each way
each_in_its_turn : ComesTo
    (at_analyzer (begins 0x41) ∷ at_computer arrive ∷ at_analyzer arrive ∷ at_computer arrive ∷ at_analyzer arrive
    ∷ at_computer arrive ∷ at_computer (begins 0x42) ∷ at_analyzer arrive ∷ at_computer arrive ∷ at_analyzer arrive
    ∷ at_computer arrive ∷ at_analyzer arrive ∷ [])
    (done_letter 0x41 ∷ []) (done_letter 0x42 ∷ [])
unfolding signal_after open_body body_fault session_frames pieces frame_bytes
each_in_its_turn = (refl, refl)

-- both ask at once; the analyzer asks again, and the computer after its session. Each ENQ is a session of the history
both_ask_at_once : ComesTo
    (at_analyzer (begins 0x41) ∷ at_computer (begins 0x42) ∷ at_computer arrive ∷ at_analyzer arrive
    ∷ at_analyzer timer ∷ at_computer arrive ∷ at_analyzer arrive ∷ at_computer arrive ∷ at_analyzer arrive
    ∷ at_computer arrive ∷ at_computer timer ∷ at_analyzer arrive ∷ at_computer arrive ∷ at_analyzer arrive
    ∷ at_computer arrive ∷ at_analyzer arrive ∷ [])
    (begun_letter 0x41 ∷ done_letter 0x41 ∷ []) (begun_letter 0x42 ∷ done_letter 0x42 ∷ [])
unfolding signal_after open_body body_fault session_frames pieces frame_bytes
both_ask_at_once = (refl, refl)

-- the computer asks for its turn by EOT: the frame comes again, is acknowledged as a duplicate, and was taken once
a_turn_is_asked_for : ComesTo
    (at_analyzer (begins 0x41) ∷ at_computer arrive ∷ at_computer ask_turn ∷ at_analyzer arrive ∷ at_computer arrive
    ∷ at_analyzer arrive ∷ at_computer arrive ∷ at_analyzer arrive ∷ at_computer arrive ∷ [])
    (done_letter 0x41 ∷ []) []
unfolding signal_after open_body body_fault session_frames pieces frame_bytes
a_turn_is_asked_for = (refl, refl)

-- the EOT of a session that the computer did not get comes in the place of the reply to a frame that is lost: the frame
-- counts as not acknowledged
an_end_acknowledges_nothing : ComesTo
    (at_analyzer (begins 0x41) ∷ at_computer arrive ∷ at_analyzer arrive ∷ at_computer close_line ∷ at_computer lose
    ∷ at_computer (begins 0x42) ∷ at_analyzer lose ∷ at_computer timer ∷ at_analyzer arrive ∷ [])
    (record (begun_letter 0x41) { sent = one_letter 0x41 ∷ [] } ∷ [])
    (record (begun_letter 0x42) { outcome = Some TimedOut } ∷ [])
unfolding signal_after open_body body_fault session_frames pieces frame_bytes
an_end_acknowledges_nothing = (refl, refl)
