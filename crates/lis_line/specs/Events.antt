-- The events of the program are those of the line's definition.
use Rattle.std.specs.Prelude.{List, map}
use Rattle.lis_line.specs.declared.event.StationEvent.{StationEvent}
use Rattle.lis_line.specs.declared.event.StationEvent.TheVariants as Given
use Rattle.lis_line.specs.declared.event.LineEvent.{LineEvent}
use Rattle.lis_line.specs.declared.event.LineEvent.TheVariants.{AtAnalyzer, AtComputer}
use Rattle.lis_station.specs.Line as Line

abbrev pub station_event : StationEvent → Line.StationEvent
station_event (Given.Start texts) = Line.start texts
station_event Given.Arrive = Line.arrive
station_event (Given.Damage bytes) = Line.damage bytes
station_event Given.Lose = Line.lose
station_event Given.Timer = Line.timer
station_event Given.GiveUp = Line.give_up
station_event Given.CloseLine = Line.close_line
station_event Given.Restart = Line.restart
station_event (Given.SetReady ready) = Line.set_ready ready
station_event Given.AskTurn = Line.ask_turn

abbrev pub line_event : LineEvent → Line.LineEvent
line_event (AtAnalyzer event) = Line.at_analyzer (station_event event)
line_event (AtComputer event) = Line.at_computer (station_event event)

abbrev pub line_events : List LineEvent → List Line.LineEvent
line_events events = map line_event events
