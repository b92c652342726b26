use Rattle.std.proofs.Common.{◌≡◌, length, map, take}
use Rattle.lis_record_values.specs.declared.symbols.Sym.TheVariants.{Char}
use Rattle.lis_record_values.proofs.few.Few.from_front.Given as goal

abbrev pub invariant-loop-place : goal.invariant-loop-place
invariant-loop-place l = (length l.symbols ≡ 15) × (take l.place l.symbols ≡ map Char (take l.place l.lanes))
