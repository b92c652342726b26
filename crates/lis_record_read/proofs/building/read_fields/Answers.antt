use Rattle.std.proofs.Common.{◌≤◌, ◌++◌, [], List, ℕ, length, ap, refl, sym, ◌∙◌, arith, append-nil}
use Rattle.lis_record_values.specs.Shape.{RecordContent}
use Rattle.lis_record_read.specs.FrontReading.{fields_of}
use Rattle.lis_record_read.proofs.PaddedTexts.{reading_next, reading_on}
use Rattle.lis_record_read.proofs.building.read_fields.Goals as goal
use Rattle.lis_record_read.proofs.building.read_fields.Goals.{in-Some+then-more-lt16, in_default}

pub loop-delimiter-init : goal.loop-delimiter-init
loop-delimiter-init c =
    let content = c.in_ok-record.ensures in
    record {
      kind_is = ap (λ (r : RecordContent). r.kind) content;
      fields =
          ap (λ (r : RecordContent). r.fields ++ fields_of c.args.delimiters c.args.text.now) content;
      ends = ([], refl);
      padded = λ last ends few. cc (c.padded_end-end.ensures last ends few);
    }

pub push_next-requires : goal.push_next-requires
push_next-requires c = (0, sym (append-nil c.in-Some.more.now))

pub loop-delimiter-preserved : goal.loop-delimiter-preserved
loop-delimiter-preserved c =
    reading_next c.args.delimiters c.args.kind c.loop-delimiter.record c.push_next.new.entry c.padded_end-end.result
    c.loop-delimiter.rest.now c.in-Some.more.now c.in_ok-rest.rest.now c.args.text.now c.in-Some._delimiter.now
    c.loop-delimiter.invariant c.in-Some.ensures.cases.0 c.in_ok-rest.ensures

pub loop-last_delimiter-init : goal.loop-last_delimiter-init
loop-last_delimiter-init c = (c.loop-delimiter.invariant, few)
  where
    few : length c.loop-delimiter.rest.now ≤ 16
    few = elim c.match-split_first.branch [
      | in-Some+then-more-lt16 w ↦
          omega (arith, ap (λ (l : List ℕ). length l) w.in-Some.ensures.cases.0, w.if-more-lt16.true)
      | in_default w ↦ omega (arith, w.in_default.ensures.cases)
    ]

pub push_next-requires-in-Some-split_first : goal.push_next-requires-in-Some-split_first
push_next-requires-in-Some-split_first c =
    let rest = c.loop-last_delimiter.rest.now in
    let last = c.in-Some-split_first.last.now in
    let is = c.in-Some-split_first.ensures.cases.0 in
    let reading = c.loop-last_delimiter.invariant.0 in (
      16,
      c.split_at.ensures.back
          ∙ reading.padded last
          (reading_on c.args.text.now rest last c.in-Some-split_first._last_delimiter.now reading.ends is)
          (omega (arith, ap (λ (l : List ℕ). length l) is, c.loop-last_delimiter.invariant.1)),
    )

pub loop-last_delimiter-preserved : goal.loop-last_delimiter-preserved
loop-last_delimiter-preserved c =
    let rest = c.loop-last_delimiter.rest.now in
    let is = c.in-Some-split_first.ensures.cases.0 in (
      reading_next c.args.delimiters c.args.kind c.loop-last_delimiter.record
          c.push_next-in-Some-split_first.new.entry c.padded_end-end.result rest c.in-Some-split_first.last.now
          c.in_ok-rest-2.rest.now c.args.text.now c.in-Some-split_first._last_delimiter.now
          c.loop-last_delimiter.invariant.0 is c.in_ok-rest-2.ensures,
      omega (
        arith,
        c.in_ok-rest-2.ensures.shorter,
        ap (λ (l : List ℕ). length l) is,
        c.loop-last_delimiter.invariant.1,
      ),
    )
