use Rattle.std.proofs.Common.{◌≡◌, drop}
use Rattle.lis_link.specs.Sender.{bad_text}
use Rattle.lis_link.proofs.sender.bad_text.Given as goal

abbrev pub invariant-loop-index : goal.invariant-loop-index
invariant-loop-index g l =
    bad_text l.index (drop l.index (g.T.SessionTexts.texts l.texts)) ≡ bad_text 0 (g.T.SessionTexts.texts l.texts)
