use Rattle.std.proofs.Common.{◌∷◌, [], ap, sym, ◌∙◌}
use Rattle.lis_record_values.specs.Shape.{Components, Symbols}
use Rattle.lis_record_read.specs.FrontReading.{symbols_of}
use Rattle.lis_record_read.proofs.PaddedTexts.{begins_padded, takes_padded}
use Rattle.lis_record_read.proofs.Stops.{stop-single}
use Rattle.lis_record_read.proofs.building.push_other.Goals as goal

pub split_at-requires : goal.split_at-requires
split_at-requires c = (begins_padded c.requires.0 c.requires.1 c.in-Some.ensures.bound c.in-Some.ensures.first).within

pub returns-in-Some : goal.returns-in-Some
returns-in-Some c =
    let d = c.args.delimiters in
    let begins = begins_padded c.requires.0 c.requires.1 c.in-Some.ensures.bound c.in-Some.ensures.first in
    let symbols = c.in_ok-component.ensures ∙ ap (symbols_of d) (c.split_at.ensures.front ∙ sym begins.same) in
    let field = c.in_ok-new-2.ensures.ok ∙ ap (λ (r : Components). r ∷ []) c.in_ok-new.ensures.ok
    ∙ ap (λ (s : Symbols). (s ∷ []) ∷ []) symbols
    ∙ sym (stop-single d c.component.result c.args.given.padded.now c.in-Some.end c.in-Some.ensures.found) in
    takes_padded c.requires.0 c.requires.1 c.in-Some.ensures.bound c.in-Some.ensures.first field c.in_ok-push.ensures.ok
    c.split_at.ensures.back
