use Rattle.std.proofs.Common.{◌≡◌, ◌-◌, ◌%◌, ◌≤◌, ◌<◌, ◌⊎◌, ◌++◌, length, drop}
use Rattle.lis_frame.specs.Pieces.{text_frames}
use Rattle.lis_frame.proofs.split.split_all_of.Given as goal

abbrev pub invariant-loop-frames : goal.invariant-loop-frames
invariant-loop-frames g l = record {
  whole : l.offset % g.row.N ≡ 0;
  within : (l.offset ≡ 0) ⊎ (l.offset < length l.text);
  digit : l.number ≤ 7;
  so_far : l.frames ++ text_frames g.row.N (drop l.offset l.text) l.number ≡ text_frames g.row.N l.text l.first_number;
}

abbrev pub decreases-loop-frames : goal.decreases-loop-frames
decreases-loop-frames g l = length l.text - l.offset
