use Rattle.std.proofs.Common.{rules, arith, length-drop}
use Rattle.lis_text.specs.LinkText.{longest_text}
use Rattle.lis_frame.proofs.PieceLaws.{IsText-piece, IsText-rest, piece_at, last_piece_at}
use Rattle.lis_frame.proofs.split.split_at_of.Goals as goal

pub copied-requires : goal.copied-requires
copied-requires g c = (
  search rules,
  (
    c.requires.limit,
    rw c.split_at.ensures.back
        (IsText-rest g.row.N longest_text c.args.offset c.args.text.now c.requires.text
        (rw c.split_at.ensures.back at c.if-rest.true)),
  ),
)

pub returns-then-rest-clause-piece : goal.returns-then-rest-clause-piece
returns-then-rest-clause-piece g c =
    rw (c.of_parts.ensures, c.copied.ensures, c.split_at.ensures.back)
    (last_piece_at g.row.N c.args.offset c.args.text.now (omega arith) c.requires.whole c.requires.within
    (omega (
      arith,
      length-drop c.args.offset c.args.text.now,
      rw c.split_at.ensures.back at
          c.if-rest.true,
    )))

pub copied-requires-2 : goal.copied-requires-2
copied-requires-2 g c = (
  search rules,
  (
    c.requires.limit,
    rw (c.split_at-2.ensures.front, c.split_at.ensures.back)
        (IsText-piece g.row.N longest_text c.args.offset g.row.N c.args.text.now c.requires.text (omega arith)),
  ),
)

pub returns-clause-piece : goal.returns-clause-piece
returns-clause-piece g c =
    rw (
      c.of_parts-2.ensures,
      c.copied-2.ensures,
      c.split_at-2.ensures.front,
      c.split_at.ensures.back,
    )
    (piece_at g.row.N c.args.offset c.args.text.now (omega arith) c.requires.whole c.requires.within
    (omega (
      arith,
      length-drop c.args.offset c.args.text.now,
      rw c.split_at.ensures.back at
          c.if-rest.false,
    )))
