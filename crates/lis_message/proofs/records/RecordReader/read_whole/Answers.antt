use Rattle.std.proofs.Common.{◌≡◌, ◌∷◌, ◌++◌, [], ℕ, List, sym, ap, subst, ◌∙◌, drop, take-append-drop}
use Rattle.lis_message.specs.Kept.{RecordsState}
use Rattle.lis_message.specs.Taking.{ComesNext}
use Rattle.lis_message.proofs.Lines.{text_lacks}
use Rattle.lis_message.proofs.WholeRecords.{bad_line, ended_line, no_line}
use Rattle.lis_message.proofs.records.RecordReader.read_whole.Goals as goal

pub returns-in-Ok-clause-read : goal.returns-in-Ok-clause-read
returns-in-Ok-clause-read c = λ left has.
    let bytes = c.args.bytes.now in
    let text = c.split_at.result.0.now in
    let end = c.in-Some.end in
    let rest = c.in-Some-split_first.rest.now in
    let clear = c.is_clear.ensures.0 c.if-not-is_clear.false in
    let none : c.args.self.now.held ≡ [] = ap (λ (r : RecordsState). r.held) (sym c.self.view_is) ∙ clear.0 in
    let read = c.in-Ok.ensures.ok left has.opened in
    let uncut = c.end_whole.ensures.split ∙ ap (λ (r : RecordsState). r.split) (sym c.self.view_is) ∙ clear.1 in (
      uncut,
      record {
        text = text;
        whole =
            sym (take-append-drop end bytes) ∙ ap (λ (l : List ℕ). l ++ drop end bytes) (sym c.split_at.ensures.front)
            ∙ ap (λ (l : List ℕ). text ++ l)
            (sym c.split_at.ensures.back ∙ c.in-Some-split_first.ensures.cases.0
            ∙ ap (λ (b : ℕ). b ∷ rest) c.if-byte-ne-CR.false);
        lacks = rw c.split_at.ensures.front (text_lacks _ c.in-Some.ensures.texts);
        comes = subst (λ (h : List ℕ). ComesNext left (h ++ text) c.in-Ok.entry) (sym none) read.0;
        left_then = record { no_fault = c.end_whole.ensures.fault ∙ has.no_fault; opened = read.1 };
        empty = c.end_whole.ensures.held ∙ none;
      },
    )

pub returns-in_default-clause-refused : goal.returns-in_default-clause-refused
returns-in_default-clause-refused c = λ left has held split text following lacks whole.
    absurd (no_line c.args.bytes.now text following c.in_default.ensures.text whole)

pub returns-then-byte-ne-CR-clause-refused : goal.returns-then-byte-ne-CR-clause-refused
returns-then-byte-ne-CR-clause-refused c = λ left has held split text following lacks whole.
    let rest = c.in-Some-split_first.rest.now in
    bad_line left c.args.bytes.now c.split_at.result.0.now rest text following c.in-Some.end
    c.in-Some-split_first.byte.now
    c.in-Some.ensures.place c.split_at.ensures.front
    (sym c.split_at.ensures.back ∙ c.in-Some-split_first.ensures.cases.0)
    (rw c.split_at.ensures.front c.in-Some.ensures.texts) c.if-byte-ne-CR.true whole

pub returns-in-Err-clause-refused : goal.returns-in-Err-clause-refused
returns-in-Err-clause-refused c = λ left has held split text following lacks whole.
    let rest = c.in-Some-split_first.rest.now in
    ended_line left c.args.bytes.now c.split_at.result.0.now rest text following c.in-Some.end
    c.in-Some-split_first.byte.now c.in-Err.field-0
    c.split_at.ensures.front (sym c.split_at.ensures.back ∙ c.in-Some-split_first.ensures.cases.0) c.if-byte-ne-CR.false
    (rw c.split_at.ensures.front c.in-Some.ensures.texts) lacks whole
    (c.in-Err.ensures.err left has.opened)
