-- What a list is after one more item.
use Rattle.std.proofs.Common.{append_assoc}
use Rattle.std.proofs.lemmas.List.{append-nil}
use Rattle.std.proofs.lemmas.Grind.{flat_map-append}

pub ruleset appends = (append_assoc, append-nil, flat_map-append)
