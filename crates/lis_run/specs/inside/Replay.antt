-- All that `replay` writes of a capture.
use Rattle.std.specs.Prelude.{ℕ, true, List, []}
use Rattle.lis_frame.specs.Stream.{stream_with}
use Rattle.lis_run.specs.LineOutcome.{capture_outcome}
use Rattle.lis_engine.specs.Outcome.{whole}
use Rattle.lis_run.specs.Replay.{replay_writes}

-- all that is written of a capture
abbrev pub replay : ℕ → List ℕ → List ℕ
replay limit bytes = whole (capture_outcome (replay_writes limit) (stream_with [] bytes) true)
