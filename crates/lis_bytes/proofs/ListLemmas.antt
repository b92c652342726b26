-- What a list is after items were put to it, and what is at a place of it.
use Rattle.std.proofs.Common.{◌≡◌, ◌++◌, List, Result, Ok}
use Rattle.std.proofs.Common.{Err, IfErr, OnOk, ap, ◌∙◌}
use Rattle.std.specs.Bool.{if◌then◌else◌}
use Rattle.std.specs.Result.{is_ok}

-- by a vector that had the items of the list before
pub added : {A E : Type 0} (result : Result (Unit {0}) E) (new before old more : List A) → before ≡ old
    → new ≡ (if is_ok result then before ++ more else before) → OnOk result (new ≡ old ++ more)
added (Ok done) new before old more same is = is ∙ ap (λ l. l ++ more) same
added (Err fault) new before old more same is = tt

pub refused : {A E : Type 0} (P : E → Type 0) (result : Result (Unit {0}) E) (new before old more : List A)
    → before ≡ old → new ≡ (if is_ok result then before ++ more else before) → IfErr result P
    → IfErr result (λ fault. P fault × (new ≡ old))
refused P (Ok done) new before old more same is reported = tt
refused P (Err fault) new before old more same is reported = (reported, is ∙ same)
