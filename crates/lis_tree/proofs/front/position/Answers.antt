use Rattle.std.proofs.Common.{ap, sym, ◌∙◌, length, ◌-◌, slice_get, Some, List}
use Rattle.lis_tree.specs.declared.tree.Group.{Group}
use Rattle.lis_tree.specs.declared.tree.Group.TheVariants as groups
use Rattle.lis_tree.proofs.Joining.{level_by_last, level_of_orders}
use Rattle.lis_tree.proofs.front.position.Goals as goal

pub returns-in-Some-Query : goal.returns-in-Some-Query
returns-in-Some-Query c =
    sym (level_by_last c.args.front.now (groups.Query c.in-Some-Query.field-0-0)
    (ap (λ (gs : List Group). slice_get gs (length gs - 1)) (sym c.below.ensures) ∙ sym c.in-Some-Query.ensures.value
    ∙ ap (λ (g : Group). Some g) c.in-Some-Query.field-0-is))

pub returns-then-is_empty : goal.returns-then-is_empty
returns-then-is_empty c =
    sym (level_of_orders c.args.front.now c.in-Some-Patient.patient
    (ap (λ (gs : List Group). slice_get gs (length gs - 1)) (sym c.below.ensures) ∙ sym c.in-Some-Patient.ensures.value
    ∙ ap (λ (g : Group). Some g) c.in-Some-Patient.field-0-is) c.orders.result.now c.orders.ensures _
    c.if-is_empty.ensures)

pub returns-else-is_empty : goal.returns-else-is_empty
returns-else-is_empty c =
    sym (level_of_orders c.args.front.now c.in-Some-Patient.patient
    (ap (λ (gs : List Group). slice_get gs (length gs - 1)) (sym c.below.ensures) ∙ sym c.in-Some-Patient.ensures.value
    ∙ ap (λ (g : Group). Some g) c.in-Some-Patient.field-0-is) c.orders.result.now c.orders.ensures _
    c.if-is_empty.ensures)
