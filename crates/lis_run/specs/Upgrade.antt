-- What `upgrade` writes: the lines of a capture as those of version 2.
use Rattle.std.specs.Prelude.{ℕ, List, [], ◌∷◌, ◌++◌, true}
use Rattle.lis_frame.specs.Stream.{stream_with}
use Rattle.lis_capture.specs.declared.line.Line.{Line}
use Rattle.lis_capture.specs.declared.line.Line.TheVariants.{Version}
use Rattle.lis_capture.specs.Encoding.{added_encoding, line_encoding}
use Rattle.lis_run.specs.LineOutcome.{Writes, capture_outcome}
use Rattle.lis_engine.specs.Outcome.{whole}
use Rattle.lis_run.specs.Show.{clean}

-- the version is before the first line, and alone where there is none
abbrev pub opening : List Line → List ℕ
opening [] = line_encoding Version
opening (line ∷ lines) = []

abbrev pub upgrade_writes : Writes
upgrade_writes =
    record { line = λ lines line. opening lines ++ added_encoding line; last = opening; report = λ lines. clean }

-- all that is written of a capture
abbrev pub upgrade : List ℕ → List ℕ
upgrade bytes = whole (capture_outcome upgrade_writes (stream_with [] bytes) true)
