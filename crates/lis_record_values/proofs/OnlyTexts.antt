-- The text of a field of one component.
use Rattle.std.proofs.Common.{◌≡◌, ◌≢◌, ℕ, List, [], ◌∷◌, Option, Some, None, Result, Ok, Err, ap, ◌∙◌, Vec, IfOk}
use Rattle.std.proofs.Common.{MatchOption}
use Rattle.std.specs.declared.alloc.AllocError.{AllocError}
use Rattle.std.specs.declared.alloc.Global.{Global}
use Rattle.lis_record_values.specs.Shape.{Components, Repeats, Symbols, plain_component, plain_field}

pub text_of_only : (r : Result (Option (Vec ℕ Global)) AllocError) (component : Symbols) (repeat : Components)
    (field : Repeats) → field ≡ repeat ∷ [] → repeat ≡ component ∷ []
    → IfOk r (λ text. MatchOption text ((bytes : List ℕ) → component ≢ plain_component bytes)
    (λ bytes. component ≡ plain_component bytes.items))
    → IfOk r (λ text. MatchOption text ((bytes : List ℕ) → field ≢ plain_field bytes)
    (λ bytes. field ≡ plain_field bytes.items))
text_of_only (Ok None) component repeat field outer inner reported = λ bytes same. reported bytes
    (cc (outer, inner, same))
text_of_only (Ok (Some text)) component repeat field outer inner reported =
    outer ∙ ap (λ (r : Components). r ∷ []) (inner ∙ ap (λ (s : Symbols). s ∷ []) reported)
text_of_only (Err error) component repeat field outer inner reported = tt
