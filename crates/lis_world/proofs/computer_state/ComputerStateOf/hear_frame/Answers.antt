use Rattle.std.proofs.Common.{◌∙◌}
use Rattle.lis_world.proofs.PlayingLaws.{frame_only}
use Rattle.lis_world.proofs.computer_state.ComputerStateOf.hear_frame.Goals as goal

pub returns : goal.returns
returns g c r is_in =
    let bytes_are = c.as_slice.ensures.value ∙ c.frame_bytes_of-bytes.ensures.bytes in
    let heard = rw bytes_are at (c.hear.ensures r is_in) in
    heard (frame_only g.row.N c.args.unit.now.load r.past c.args.frame.now c.requires.unit c.number.ensures.content)
