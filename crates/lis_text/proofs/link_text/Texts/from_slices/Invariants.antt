use Rattle.std.proofs.Common.{◌≡◌, map, take}
use Rattle.lis_text.proofs.link_text.Texts.from_slices.Given as goal

abbrev pub invariant-loop-slice : goal.invariant-loop-slice
invariant-loop-slice l = l.texts ≡ map (λ slice. slice.now) (take l.slice-index l.slices)
