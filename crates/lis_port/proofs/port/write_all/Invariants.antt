use Rattle.std.proofs.Common.{◌≡◌, ◌-◌, ◌≤◌, length, take, drop, false}
use Rattle.std.specs.Io.KnownBytes.{Appends}
use Rattle.lis_port.proofs.port.write_all.Given as goal

abbrev pub invariant-loop-rest : goal.invariant-loop-rest
invariant-loop-rest g l = record {
  open_sink : g.W.Sink.failed l.sink ≡ false;
  within : length l.rest ≤ length l.bytes;
  rest : l.rest ≡ drop (length l.bytes - length l.rest) l.bytes;
  taken : Appends (g.W.Sink.taken l.initial.sink) (g.W.Sink.taken l.sink)
      (take (length l.bytes - length l.rest) l.bytes);
}

abbrev pub decreases-loop-rest : goal.decreases-loop-rest
decreases-loop-rest g l = length l.rest
