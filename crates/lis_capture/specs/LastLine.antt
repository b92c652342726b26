-- How the line that was read last is kept: its kind, and the bytes that it reports next to it.
use Rattle.std.specs.Prelude.{ℕ, List}
use Rattle.lis_capture.specs.declared.line.Line.{Line}
use Rattle.lis_capture.specs.declared.line.Line.TheVariants.{Empty, FromAnalyzer, FromComputer, Timer, Restart}
use Rattle.lis_capture.specs.declared.line.Line.TheVariants.{SetReady, Version}
use Rattle.lis_capture.specs.declared.line.LineKind.{LineKind}
use Rattle.lis_capture.specs.declared.line.LineKind.TheVariants as kinds

-- two kinds have bytes
abbrev pub line_with : LineKind → List ℕ → Line
line_with kinds.Empty bytes = Empty
line_with kinds.FromAnalyzer bytes = FromAnalyzer bytes
line_with kinds.FromComputer bytes = FromComputer bytes
line_with kinds.Timer bytes = Timer
line_with kinds.Restart bytes = Restart
line_with (kinds.SetReady readiness) bytes = SetReady readiness
line_with kinds.Version bytes = Version
