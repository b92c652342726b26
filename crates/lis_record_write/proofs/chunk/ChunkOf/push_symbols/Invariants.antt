use Rattle.std.proofs.Common.{◌≡◌, ◌++◌, ◌<◌, ◌≤◌, length}
use Rattle.lis_record_write.specs.Encoding.{encoded_component}
use Rattle.lis_record_write.proofs.chunk.ChunkOf.push_symbols.Given as goal

abbrev pub invariant-loop-symbol : goal.invariant-loop-symbol
invariant-loop-symbol g l = record {
  same : l.self ++ encoded_component l.delimiters l.rest ≡ l.initial.self ++ encoded_component l.delimiters l.symbols;
  grows : length l.initial.self ≤ length l.self;
  more : length l.rest < length l.symbols → length l.initial.self < length l.self;
  within : length l.rest ≤ length l.symbols;
}

abbrev pub decreases-loop-symbol : goal.decreases-loop-symbol
decreases-loop-symbol g l = length l.rest
