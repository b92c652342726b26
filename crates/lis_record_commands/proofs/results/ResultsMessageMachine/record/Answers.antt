use Rattle.std.proofs.Common.{◌++◌, ℕ, List, Ok, Err, sym, ap, ◌∙◌}
use Rattle.std.specs.Prelude.{OnOk}
use Rattle.std.specs.declared.result.Result.{Result}
use Rattle.lis_record_commands.proofs.ResultLaws.{order_line, other_line, result_added, holds_results_on}
use Rattle.lis_record_commands.specs.Results.{field_text}
use Rattle.lis_record_values.specs.Shape.{field_at}
use Rattle.lis_record_commands.proofs.results.ResultsMessageMachine.record.Goals as goal

where_ok : {A E P Q : Type 0} (r : Result A E) → (P → Q) → OnOk r P → OnOk r Q
where_ok (Ok x) f p = f p
where_ok (Err e) f p = tt

pub returns-in-O : goal.returns-in-O
returns-in-O c =
    let entry = c.args.entry.now in
    where_ok c.add_field.result
    (λ added messages left text is comes few. holds_results_on c.args.self.now.lines.bytes.items is comes
    (λ named reported. order_line entry.delimiters named entry.content entry.content.kind _ _
    (sym c.kind.ensures ∙ c.in-O.is)
    (added ∙ ap (λ (l : List ℕ). l ++ field_text entry.delimiters (field_at entry.content 3)) c.clear.ensures)))
    (rw c.again.ensures at c.add_field.ensures)

pub returns-in-R : goal.returns-in-R
returns-in-R c =
    let entry = c.args.entry.now in
    where_ok c.add_result.result
    (λ added messages left text is comes few. holds_results_on c.args.self.now.lines.bytes.items is comes
    (λ named reported. result_added entry.delimiters named entry.content entry.content.kind _ _ _
    (sym c.kind.ensures ∙ c.in-R.is) (added named (c.as_slice.ensures ∙ reported)) reported))
    c.add_result.ensures

pub returns-in_default : goal.returns-in_default
returns-in_default c = λ messages left text is comes few.
    let entry = c.args.entry.now in
    holds_results_on c.args.self.now.lines.bytes.items is comes
    (λ named reported. other_line entry.delimiters named entry.content entry.content.kind _ _
    (λ order. c.in_default.not-O (c.kind.ensures ∙ order)) (λ result. c.in_default.not-R (c.kind.ensures ∙ result))
    reported)
