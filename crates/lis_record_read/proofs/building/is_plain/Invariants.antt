use Rattle.std.proofs.Common.{◌≢◌, take}
use Rattle.std.specs.List.{All}
use Rattle.lis_record_read.proofs.building.is_plain.Given as goal

abbrev pub invariant-loop-byte : goal.invariant-loop-byte
invariant-loop-byte l = All (λ b. (b ≢ l.repeat) × ((b ≢ l.component) × (b ≢ l.escape)))
    (take l.byte-index l.text)
