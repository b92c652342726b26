use Rattle.std.proofs.Common.{◌≡◌, ◌+◌, List, None, take}
use Rattle.std.specs.List.{flat_map}
use Rattle.lis_message.specs.Stream.{IsSplit}
use Rattle.lis_tree.specs.Tree.{MessageTree}
use Rattle.lis_bytes.specs.Capped.{capped}
use Rattle.uses.specs.Readings.{result_count}
use Rattle.uses.proofs.results.count_results.Given as goal

-- the results of so many messages of the piece are counted too
abbrev pub invariant-loop-message : goal.invariant-loop-message
invariant-loop-message l = l.count ≡ capped (l.initial.count + result_count (take l.message-index l.message-items))

-- the results of the messages of so many pieces are counted
abbrev pub invariant-loop-piece : goal.invariant-loop-piece
invariant-loop-piece l = (messages : List MessageTree) × (l.reader.fault ≡ None)
    × IsSplit (flat_map (λ piece. piece.now) (take l.piece-index l.pieces)) messages l.reader.left l.reader.held
    × (l.count ≡ capped (result_count messages))
