-- The bytes before the escape byte or delimiter that is found are symbols, by stop-plain.
use Rattle.std.proofs.Common.{◌≡◌, ◌∷◌, [], ℕ, List, Some, ap, refl, rules, sym, take, ◌∙◌}
use Rattle.std.specs.List.{position_from}
use Rattle.lis_record_values.specs.Delimiters.{DelimiterBytes}
use Rattle.lis_record_values.specs.Shape.{Components, Symbols, plain_field}
use Rattle.lis_record_read.specs.FrontReading.{repeats_of}
use Rattle.lis_record_read.specs.inside.FrontReading.{stops}
use Rattle.lis_record_read.proofs.PaddedTexts.{begins_padded, takes_padded}
use Rattle.lis_record_read.proofs.Stops.{stop-plain}
use Rattle.lis_record_read.proofs.building.push_next.Goals as goal

stop_plain : (d : DelimiterBytes) (text : List ℕ) (end escape : ℕ) → position_from (stops d escape) 0 text ≡ Some end
    → escape ≡ d.escape → repeats_of d (take end text) ≡ plain_field (take end text)
stop_plain d text end escape found is = stop-plain d text end (rw is at found)

pub split_at-requires : goal.split_at-requires
split_at-requires c = (begins_padded c.requires.0 c.requires.1 c.in-Some.ensures.bound c.in-Some.ensures.first).within

pub returns : goal.returns
returns c =
    let plain = stop_plain c.args.delimiters c.args.given.padded.now c.in-Some.end _ c.in-Some.ensures.found
    (search rules) in
    takes_padded c.requires.0 c.requires.1 c.in-Some.ensures.bound c.in-Some.ensures.first
    (c.in_ok-from_front.ensures ∙ sym plain) c.in_ok-push-2.ensures.ok c.split_at.ensures.back

pub returns-then-end-eq0 : goal.returns-then-end-eq0
returns-then-end-eq0 c =
    let plain = stop_plain c.args.delimiters c.args.given.padded.now c.in-Some.end _ c.in-Some.ensures.found
    (search rules) in
    let empty = c.in_ok-new.ensures.ok
    ∙ ap (λ (r : Components). r ∷ []) (c.in_ok-empty.ensures.ok ∙ ap (λ (s : Symbols). s ∷ []) c.new.ensures) in
    let none = ap (λ (n : ℕ). plain_field (take n c.args.given.padded.now)) c.if-end-eq0.true in
    takes_padded c.requires.0 c.requires.1 c.in-Some.ensures.bound c.in-Some.ensures.first (empty ∙ sym (plain ∙ none))
    c.in_ok-push.ensures.ok (rw c.if-end-eq0.true refl)
