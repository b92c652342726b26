use Rattle.std.proofs.Common.{◌≡◌, ◌≤◌, ◌∙◌, sym, length, length-append, length-drop, arith, rules}
use Rattle.lis_capture.proofs.KeptLemmas.{kept_front}
use Rattle.lis_capture.proofs.line.LastLine.read_digits.Goals.{then-self, else-self}
use Rattle.lis_capture.proofs.line.LastLine.read_digits.Goals as goal

pub invariant_of-self : goal.invariant_of-self
invariant_of-self c =
    elim c.if-self.branch [
      | then-self w ↦
          let short : c.match-self.len ≤ 4094 = search rules in
          let long : length w.keep-reported.new.room ≡ c.match-self.len = omega (arith, w.keep-reported.auto.room) in
          rw (w.self-inside-is, w.if-self.true) (
            short,
            simp (length-append, length-drop) (omega (arith, long, short)),
            c.self.invariant.2,
            kept_front
                c.self.inside.keeping w.keep-reported.new.room _ c.match-self.len long
                (w.keep-reported.ensures.kept (sym w.reported-is ∙ c.if-reported.true)),
          )
      | else-self w ↦
          let short : c.match-self.len ≤ 4094 = search rules in
          let long : length w.keep-reported-else-self.new.room ≡ c.match-self.len =
          omega (arith, w.keep-reported-else-self.auto.room) in
          rw (w.self-inside-is, w.if-self.false) (
            short,
            c.self.invariant.1,
            simp (length-append, length-drop) (omega (arith, long, short)),
            kept_front
                c.self.inside.keeping w.keep-reported-else-self.new.room _ c.match-self.len long
                (w.keep-reported-else-self.ensures.kept (sym w.reported-is ∙ c.if-reported.true)),
          )
    ]
