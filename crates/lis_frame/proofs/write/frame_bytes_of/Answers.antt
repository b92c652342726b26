use Rattle.std.proofs.Common.{refl, subst, sym}
use Rattle.std.specs.Prelude.{ℕ, List}
use Rattle.lis_frame.specs.Frame.{IsFrame, frame_bytes}
use Rattle.lis_frame.proofs.FrameLaws.{IsFrame-frame_bytes}
use Rattle.lis_frame.proofs.write.frame_bytes_of.Goals as goal

pub returns-clause-bytes : goal.returns-clause-bytes
unfolding frame_bytes
returns-clause-bytes g c =
    rw (
      c.append-2.ensures,
      c.append.ensures,
      c.push-2.ensures.items,
      c.push.ensures.items,
      c.new-bytes.ensures,
      c.as_slice.ensures.value,
      c.text.ensures,
      c.tail.ensures,
      c.number.ensures.value,
    )
    refl

pub returns-clause-frame : goal.returns-clause-frame
returns-clause-frame g c =
    subst (λ (bytes : List ℕ). IsFrame g.row.N bytes c.args.frame.now) (sym (returns-clause-bytes g c))
    (IsFrame-frame_bytes g.row.N c.args.frame.now c.number.ensures.content)
