use Rattle.std.proofs.Common.{◌-◌, length, arith, take-append-drop}
use Rattle.lis_frame.proofs.KeptLemmas.{put-across, put-back}
use Rattle.lis_frame.proofs.frame_body.put_run.Goals as goal

pub returns-then-place-room : goal.returns-then-place-room
returns-then-place-room c =
    let halves = c.split_at in
    put-across c.args.place (length c.args.run.now) c.args.front.now c.args.back.now _ _ _
    halves.result.0.now halves.result.1.now
    (rw (halves.ensures.front, halves.ensures.back)
    (take-append-drop (length c.args.front.now - c.args.place) c.args.run.now))
    (omega (arith, halves.ensures.front_len)) (omega (arith, halves.ensures.front_len, halves.ensures.back_len))
    c.put_at-then-place-room.ensures.len c.put_at-then-place-room.ensures.bytes c.put_at-then-place-room-2.ensures.bytes

pub returns-else-place-room : goal.returns-else-place-room
returns-else-place-room c =
    put-back c.args.place (length c.args.run.now) c.args.front.now c.args.back.now c.args.front.now _ _ (omega arith)
    c.put_at-else-place-room.ensures.bytes
