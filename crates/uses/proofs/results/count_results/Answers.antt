use Rattle.std.proofs.Common.{◌≡◌, append-nil, take_all, ◌+◌, [], ◌++◌, inl, inr, take, drop, flat_map, refl}
use Rattle.std.proofs.Common.{sym, ◌∙◌, arith}
use Rattle.lis_bytes.specs.Capped.{capped}
use Rattle.uses.specs.Readings.{result_count}
use Rattle.uses.proofs.ReadingLaws.{counts_next, result_count-append, stream_next, stream_rest, nothing_read}
use Rattle.uses.proofs.results.count_results.Goals as goal

pub loop-piece-init : goal.loop-piece-init
loop-piece-init c = ([], rw c.new-reader.ensures refl, rw c.new-reader.ensures nothing_read, omega arith)

pub loop-message-preserved : goal.loop-message-preserved
loop-message-preserved c = c.saturating_add-count.ensures
    ∙ counts_next c.loop-piece.count c.loop-message.message-index _ c.message-item.result c.loop-message.count
    c.results_in.result
    c.loop-message-test.true c.message-item.is c.loop-message.invariant c.results_in.ensures

pub returns-in-Some-clause-err : goal.returns-in-Some-clause-err
returns-in-Some-clause-err c =
    let so_far = c.loop-piece.invariant in
    let read = rw c.in-Some.is at (c.feed-fed.ensures.read so_far.1 _ so_far.0 so_far.2) in
    record {
      front = flat_map (λ piece. piece.now) (take (c.loop-piece.piece-index + 1) c.args.pieces.now);
      rest = flat_map (λ piece. piece.now) (drop (c.loop-piece.piece-index + 1) c.args.pieces.now);
      whole = stream_rest c.args.pieces.now (c.loop-piece.piece-index + 1);
      messages = so_far.0 ++ c.feed-fed.result.messages;
      stops = inl (rw (stream_next c.args.pieces.now c.loop-piece.piece-index
          (record { ref_ptr = (0, 0); now = [] }) c.loop-piece-test.true) read.1);
    }

pub loop-piece-preserved : goal.loop-piece-preserved
loop-piece-preserved c =
    let so_far = c.loop-piece.invariant in
    let read = rw c.in_default.is at (c.feed-fed.ensures.read so_far.1 _ so_far.0 so_far.2) in
    let last : c.loop-message.count ≡ capped (c.loop-piece.count + result_count c.feed-fed.result.messages) =
    rw (
      take_all c.loop-message.message-index c.as_slice-message-items.result.now
          (omega (arith, c.loop-message-test.false)),
      c.as_slice-message-items.ensures,
    )
    at c.loop-message.invariant in (
      so_far.0 ++ c.feed-fed.result.messages,
      read.0,
      rw (stream_next c.args.pieces.now c.loop-piece.piece-index
          (record { ref_ptr = (0, 0); now = [] }) c.loop-piece-test.true) read.1,
      rw (result_count-append so_far.0 c.feed-fed.result.messages, last, so_far.3) (omega arith),
    )

pub returns-in-Err-clause-err : goal.returns-in-Err-clause-err
returns-in-Err-clause-err c =
    let so_far = c.loop-piece.invariant in
    record {
      front = flat_map (λ piece. piece.now) c.args.pieces.now;
      rest = [];
      whole = sym (append-nil _);
      messages = so_far.0;
      stops = inr (
        refl,
        record {
          left = _;
          held = _;
          split = rw (take_all c.loop-piece.piece-index c.args.pieces.now (omega (arith, c.loop-piece-test.false))) at
              so_far.2;
          why = sym (rw so_far.1 at c.in-Err.ensures);
        },
      );
    }
