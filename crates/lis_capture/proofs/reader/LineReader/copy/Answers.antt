-- A line that is whole in the bytes: `copies_line` over what its call read.
use Rattle.std.proofs.Common.{◌≡◌, false, length, refl, arith}
use Rattle.std.proofs.lemmas.Bool.Decides.{nat_tests}
use Rattle.lis_capture.proofs.ReaderLemmas.{copies_line}
use Rattle.lis_capture.proofs.reader.LineReader.copy.Goals as goal

pub returns-clause-some : goal.returns-clause-some
returns-clause-some g c =
    let fine : c.args.self.now.known.refused ≡ false =
    rw (← c.self.view_is, ← c.self-inside.view_is) c.if-self.false in
    let none : length c.args.self.now.held ≡ 0 =
    rw (← c.self.view_is) (grind (arith, nat_tests, c.if-not-is_empty.false, c.is_empty.ensures)) in
    copies_line c.args.self.now _ c.args.bytes.now c.in_ok-place.place c.in_ok-place.ensures fine none
    (rw (← c.self.view_is) refl)
    (rw (← c.self.view_is) (rw c.split_at.ensures.front at (c.copy.ensures.after c.if-not-copy.false)))
    (rw (← c.self.view_is) (rw c.split_at.ensures.front at (c.copy.ensures.found c.if-not-copy.false)))
