use Rattle.std.proofs.Common.{◌≡◌, ◌≢◌, ℕ, ◌≤◌, ◌<◌, Bool, true, false, List, [], ◌∷◌, ◌++◌, length-take, refl, Option}
use Rattle.std.proofs.Common.{None, Some, cond, length, take, drop, take-append-drop, arith, sym}
use Rattle.std.specs.Io.BufRead.{DropsConsumable}
use Rattle.std.specs.Io.KnownBytes.{Consumes, prepend_known}
use Rattle.std.proofs.lemmas.List.{take-append-le}
use Rattle.std.proofs.Math.Seq.{take-append_seam}
use Rattle.lis_port.proofs.read_ahead.give.Goals as goal

-- what is taken from the front of the buffer is what is left no longer
consumed :
    (held : List ℕ) (following new : Option (List ℕ)) (unknown : Bool) (count : ℕ) → count ≤ length held →
    DropsConsumable (cond unknown None (prepend_known held following)) new (Some (length held)) count →
    Consumes (cond unknown None (prepend_known held following)) new (take count held)
consumed held following new true count fits drops = tt
consumed held None new false count fits drops = tt
consumed held (Some rest) new false count fits drops =
    rw (drops fits) (rw (← take-append-le count held rest fits) (sym (take-append-drop count (held ++ rest))))

some : (held : List ℕ) → held ≢ [] → 0 < length held
some [] there = absurd (there refl)
some (b ∷ held) there = omega arith

pub returns-clause-bytes : goal.returns-clause-bytes
returns-clause-bytes g c =
    let held = c.buffer-held.result.now in
    let count = c.min-count.result in
    let short : count ≤ length held = omega (arith, c.min-count.ensures) in
    let long : length (take count held) ≡ count = omega (arith, length-take count held) in
    let front : take count (take count held ++ drop count c.args.buffer.now) ≡ take count held =
    rw long at (take-append_seam (take count held) (drop count c.args.buffer.now)) in
    let there : 0 < length held = some held (rw (← c.buffer-held.ensures) at c.requires.there) in (
      rw (c.copy_from_slice.ensures.after, front, c.buffer-held.ensures)
          (consumed _ (g.R.Read.remaining c.args.reader.now.inner) _ _ count (rw c.buffer-held.ensures at short)
          c.consume.ensures.bytes),
      λ none room. absurd (omega (arith, c.min-count.ensures, there, c.requires.room, none)),
    )
