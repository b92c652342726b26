use Rattle.uses.proofs.SessionLaws.{IsSoFar}
use Rattle.uses.proofs.analyzer.send_texts.Given as goal

-- what was done so far goes on as a session of this sender does
abbrev pub invariant-loop-turn : goal.invariant-loop-turn
invariant-loop-turn g l =
    IsSoFar l.fn.texts l.fn.sender (g.L.Connection.event_log l.fn.line) (g.L.Connection.event_log l.line) l._turn
    l.sender
