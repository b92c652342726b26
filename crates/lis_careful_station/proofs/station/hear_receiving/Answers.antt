-- The bytes that were heard are those before, which were quiet, and those of the front.
use Rattle.std.proofs.Common.{◌≡◌, false, arith, refl, ap, length-drop, ◌∙◌}
use Rattle.std.proofs.lemmas.List.{take_rest}
use Rattle.lis_link.specs.Receiver.{ReceiverState}
use Rattle.lis_link.specs.Representation.{IsIn}
use Rattle.lis_careful.specs.Careful.{on_byte_carefully}
use Rattle.lis_careful.proofs.Receiving.{hears_none}
use Rattle.lis_station.specs.Representation.{KeptStation}
use Rattle.lis_station.specs.Station.{awaits_reply}
use Rattle.lis_careful_station.proofs.Answering.{all_of, last_of, more_of, counts, noises, makes_answer, refuses, spare_is}
use Rattle.lis_careful_station.proofs.station.hear_receiving.Goals as goal

pub loop-count-init : goal.loop-count-init
loop-count-init g c = record {
  bound = omega arith;
  few = omega arith;
  room = refl;
  hearing = λ r is_in. record {
    same = refl;
    hearing = hears_none g.row.N (on_byte_carefully g.row.N) c.args.bytes.now r c.args.station.now.receiver is_in;
  };
}

pub returns-in_default : goal.returns-in_default
returns-in_default g c =
    let i = c.loop-count.invariant in
    let front = c.hear_front-more in
    let heard = λ (r : ReceiverState) (is_in : IsIn g.row.N c.args.station.now.receiver r).
    let heard = i.hearing r is_in in
    let rests : awaits_reply c.loop-count.station.sender.phase ≡ false =
    ap (λ (k : KeptStation). awaits_reply k.sender.phase) heard.same ∙ c.requires in
    let more = rw (take_rest c.args.bytes.now c.loop-count.count) at
    (front.ensures.front heard.hearing.at heard.hearing.state rests) in
    last_of g.row.N (on_byte_carefully g.row.N) c.args.bytes.now r c.args.station.now c.loop-count.count
    c.loop-count.noise c.loop-count.station front.result front.new.station heard more c.in_default.not-Quiet in
    record {
      count = λ r is_in. counts g.row.N c.args.bytes.now r c.args.station.now _ _ c.requires (heard r is_in);
      noise = λ r is_in. noises g.row.N c.args.bytes.now r c.args.station.now _ _ c.requires (heard r is_in);
      step = λ r is_in. makes_answer g.row.N c.args.bytes.now r c.args.station.now _ _ c.requires (heard r is_in);
      refused = λ r is_in. refuses g.row.N c.args.bytes.now r c.args.station.now _ _ c.requires (heard r is_in);
      spare = λ r is_in. spare_is g.row.N c.args.bytes.now r c.args.station.now _ _ c.requires (heard r is_in);
      room = rw i.room at front.ensures.room;
      bound = let more = rw (take_rest c.args.bytes.now c.loop-count.count) at front.ensures.bound in
          omega (arith, length-drop c.loop-count.count c.args.bytes.now, more, i.bound);
      some = λ some. omega (arith, front.ensures.some);
      few = omega (arith, i.few, front.ensures.few);
    }

pub loop-count-preserved : goal.loop-count-preserved
loop-count-preserved g c =
    let i = c.loop-count.invariant in
    let front = c.hear_front-more in
    let bound = rw (take_rest c.args.bytes.now c.loop-count.count) at front.ensures.bound in
    record {
      bound = omega (arith, length-drop c.loop-count.count c.args.bytes.now, bound, i.bound);
      few = omega (arith, i.few, front.ensures.few);
      room = rw c.in-Quiet.is at front.ensures.room ∙ i.room;
      hearing = λ r is_in.
          let heard = i.hearing r is_in in
          let rests : awaits_reply c.loop-count.station.sender.phase ≡ false =
          ap (λ (k : KeptStation). awaits_reply k.sender.phase) heard.same ∙ c.requires in
          let more = rw (take_rest c.args.bytes.now c.loop-count.count) at
          (front.ensures.front heard.hearing.at heard.hearing.state rests) in
          more_of g.row.N (on_byte_carefully g.row.N) c.args.bytes.now r c.args.station.now c.loop-count.count
          c.loop-count.noise c.loop-count.station front.result front.new.station heard more c.in-Quiet.is;
    }

pub loop-count-preserved-in-Quiet : goal.loop-count-preserved-in-Quiet
loop-count-preserved-in-Quiet g c =
    let i = c.loop-count.invariant in
    let front = c.hear_front-more in
    let bound = rw (take_rest c.args.bytes.now c.loop-count.count) at front.ensures.bound in
    record {
      bound = omega (arith, length-drop c.loop-count.count c.args.bytes.now, bound, i.bound);
      few = omega (arith, i.few, front.ensures.few);
      room = rw c.in-Quiet.is at front.ensures.room ∙ i.room;
      hearing = λ r is_in.
          let heard = i.hearing r is_in in
          let rests : awaits_reply c.loop-count.station.sender.phase ≡ false =
          ap (λ (k : KeptStation). awaits_reply k.sender.phase) heard.same ∙ c.requires in
          let more = rw (take_rest c.args.bytes.now c.loop-count.count) at
          (front.ensures.front heard.hearing.at heard.hearing.state rests) in
          more_of g.row.N (on_byte_carefully g.row.N) c.args.bytes.now r c.args.station.now c.loop-count.count
          c.loop-count.noise c.loop-count.station front.result front.new.station heard more c.in-Quiet.is;
    }

pub returns : goal.returns
returns g c =
    let i = c.loop-count.invariant in
    let heard = λ (r : ReceiverState) (is_in : IsIn g.row.N c.args.station.now.receiver r).
    all_of g.row.N (on_byte_carefully g.row.N) c.args.bytes.now r c.args.station.now c.loop-count.count
    c.loop-count.noise c.loop-count.station (i.hearing r is_in) (omega (arith, c.loop-count-test.false)) i.bound in
    record {
      count = λ r is_in. counts g.row.N c.args.bytes.now r c.args.station.now _ _ c.requires (heard r is_in);
      noise = λ r is_in. noises g.row.N c.args.bytes.now r c.args.station.now _ _ c.requires (heard r is_in);
      step = λ r is_in. makes_answer g.row.N c.args.bytes.now r c.args.station.now _ _ c.requires (heard r is_in);
      refused = λ r is_in. refuses g.row.N c.args.bytes.now r c.args.station.now _ _ c.requires (heard r is_in);
      spare = λ r is_in. spare_is g.row.N c.args.bytes.now r c.args.station.now _ _ c.requires (heard r is_in);
      room = i.room;
      bound = i.bound;
      some = λ some. omega (arith, some, c.loop-count-test.false);
      few = i.few;
    }
