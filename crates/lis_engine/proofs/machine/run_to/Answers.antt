use Rattle.std.proofs.Common.{◌≡◌, ◌+◌, ◌^◌, ◌<◌, ℕ, true, false, ◌++◌, Ok, Err, length, ap, ◌∙◌, arith, refl}
use Rattle.std.proofs.Common.{length-append, rules}
use Rattle.lis_engine.specs.declared.fault.ToolFault.TheVariants.{Read}
use Rattle.lis_engine.specs.Outcome.{going}
use Rattle.lis_engine.specs.Runs.{Ran}
use Rattle.lis_engine.proofs.OutputLaws.{put_on}
use Rattle.lis_engine.proofs.RunLaws.{consumes_kept, failed_not_ended, failed_waited, gave, halted_ran}
use Rattle.lis_engine.proofs.RunLaws.{read_end, read_more, settled, step_ends, unsent_ran, wrote_there}
use Rattle.lis_engine.proofs.machine.run_to.Goals as goal

pub loop-turn-preserved : goal.loop-turn-preserved
loop-turn-preserved g c =
    let s = c.loop-turn.invariant.so_far in
    let reading = c.in_ok-count.ensures in
    let more = c.split_at.result.0.now in
    let count : length more ≡ c.in_ok-count.count = omega arith in
    let few : length s.bytes + length more < 2 ^ 44 = omega (arith, s.short) in
    let is =
    read_more c.requires.unused s _ reading.bytes.0 reading.ended c.in_ok-send_before_a_wait.ensures.put more
    c.split_at.ensures.front c.if-count-eq0.false in
    let puts = c.in-Ok.ensures.steps s.bytes s.text s.represented few in
    record {
      made = reading.made ∙ ap (λ (n : ℕ). n + 1) c.loop-turn.invariant.made;
      not_failed = reading.failed;
      not_ended = is.ended_is;
      working = puts.put.working;
      so_far = record {
        bytes = s.bytes ++ more;
        text = s.text ++ puts.more;
        represented = puts.following;
        read = is.read;
        wrote = put_on _ _ _ (Ok tt) s.text puts.more is.wrote puts.put;
        short = omega (arith, s.short, length-append s.bytes more);
        each_gave = omega (arith, s.each_gave, count, c.if-count-eq0.false, length-append s.bytes more);
      };
    }

-- ---- what waited could not go out

pub returns-in_err-send_before_a_wait-clause-ran : goal.returns-in_err-send_before_a_wait-clause-ran
returns-in_err-send_before_a_wait-clause-ran g c =
    let s = c.loop-turn.invariant.so_far in
    let ran =
    unsent_ran c.requires.unused s g.M.Machine.takes_memory g.M.Machine.means c.send_before_a_wait.new.out
    c.in_err-send_before_a_wait.field-0.0 c.loop-turn.invariant.not_ended
    (g.met.M.Machine.goes_on _ _ _ s.represented) c.in_err-send_before_a_wait.ensures.err in
    search (rules, ran)

-- ---- the read failed

pub returns-in_err-count-clause-ran : goal.returns-in_err-count-clause-ran
returns-in_err-count-clause-ran g c =
    let s = c.loop-turn.invariant.so_far in
    let reading = c.in_err-count.ensures in
    let there = c.send_before_a_wait.new.out in
    let wrote = wrote_there c.requires.unused s there c.in_ok-send_before_a_wait.ensures.put in
    let ran : Ran g.M.Machine.takes_memory g.M.Machine.means (g.R.Source.left c.args.source.now)
    (g.R.Source.left c.read_settled.new.source) c.args.out.now.taken there.taken
    (g.R.Source.ended c.read_settled.new.source) (Err Read) = record {
      given = s.bytes;
      read = consumes_kept _ _ _ s.bytes s.read reading.bytes;
      outcome = going s.text;
      meant = rw (failed_not_ended _ reading.ended) (g.met.M.Machine.goes_on _ _ _ s.represented);
      wrote = (
        refl,
        settled c.args.out.now there s.text c.requires.unused
            (c.in_ok-send_before_a_wait.ensures.empty (failed_waited _ reading.ready)) wrote,
      );
    } in
    search (rules, ran, reading.fault)

-- ---- it reported the end

pub returns-then-count-eq0-clause-ran : goal.returns-then-count-eq0-clause-ran
returns-then-count-eq0-clause-ran g c =
    let s = c.loop-turn.invariant.so_far in
    let reading = c.in_ok-count.ensures in
    let ended = c.close.ensures.ended s.bytes s.text s.represented (omega (arith, s.short)) in
    halted_ran c.requires.unused s g.M.Machine.takes_memory g.M.Machine.means
    (read_end c.requires.unused s _ reading.bytes.0 reading.ended c.in_ok-send_before_a_wait.ensures.put
    c.if-count-eq0.true)
    ended.out _ ended.answer c.close.result ended.ends ended.halted

-- ---- it gave more

pub returns-in-Err-clause-ran : goal.returns-in-Err-clause-ran
returns-in-Err-clause-ran g c =
    let s = c.loop-turn.invariant.so_far in
    let reading = c.in_ok-count.ensures in
    let more = c.split_at.result.0.now in
    let few : length s.bytes + length more < 2 ^ 44 = omega (arith, s.short) in
    let ends =
    step_ends g.M.Machine.refuses g.M.Machine.takes_memory
    (g.M.Machine.represents c.feed.new.self (s.bytes ++ more)) (g.M.Machine.means (s.bytes ++ more) false) _ _ s.text
    c.in-Err.stop
    (c.in-Err.ensures.steps s.bytes s.text s.represented few) in
    halted_ran c.requires.unused s g.M.Machine.takes_memory g.M.Machine.means
    (read_more c.requires.unused s _ reading.bytes.0 reading.ended c.in_ok-send_before_a_wait.ensures.put more
    c.split_at.ensures.front c.if-count-eq0.false)
    c.feed.new.out _ _ c.halted.result (rw c.end_of.ensures ends) c.halted.ensures.halted

pub returns-in-Err-clause-each_gave : goal.returns-in-Err-clause-each_gave
returns-in-Err-clause-each_gave g c =
    let is = c.loop-turn.invariant in
    let reading = c.in_ok-count.ensures in
    gave c.requires.unused is.so_far _ _ reading.bytes.0 (omega (arith, is.made, reading.made))

-- ---- it was read too often

pub returns-in_err-send-clause-ran : goal.returns-in_err-send-clause-ran
returns-in_err-send-clause-ran g c =
    let s = c.loop-turn.invariant.so_far in
    let ran =
    unsent_ran c.requires.unused s g.M.Machine.takes_memory g.M.Machine.means c.send.new.self c.in_err-send.field-0.0
    c.loop-turn.invariant.not_ended (g.met.M.Machine.goes_on _ _ _ s.represented) c.in_err-send.ensures in
    search (rules, ran)
