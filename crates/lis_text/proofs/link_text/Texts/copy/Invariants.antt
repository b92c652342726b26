use Rattle.std.proofs.Common.{◌≡◌, take}
use Rattle.lis_text.proofs.link_text.Texts.copy.Given as goal

abbrev pub invariant-loop-text : goal.invariant-loop-text
invariant-loop-text l = l.texts ≡ take l.text-index l.text-items
