use Rattle.std.proofs.Common.{take, arith}
use Rattle.std.proofs.lemmas.Simd.{length-put_chunk}
use Rattle.lis_frame.proofs.KeptLemmas.{put-front, put-sixteen}
use Rattle.lis_frame.proofs.frame_body.put_bytes_at.Goals as goal

pub returns-then-place-room : goal.returns-then-place-room
returns-then-place-room c =
    let front = c.args.front.now in
    let sixteen = take 16 c.args.bytes.now in
    put-front c.args.place c.args.taken front c.args.back.now _ c.args.back.now _ (omega arith)
    (length-put_chunk c.args.place front sixteen)
    (put-sixteen c.args.place c.args.taken front c.args.bytes.now (omega arith) (omega arith) (omega arith))
