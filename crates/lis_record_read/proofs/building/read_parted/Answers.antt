use Rattle.std.proofs.Common.{sym, ◌∙◌}
use Rattle.std.proofs.lemmas.List.{nil_from_length}
use Rattle.lis_record_read.proofs.Fronts.{begins_after, begins-within, following-smaller, following-within}
use Rattle.lis_record_read.proofs.Fronts.{parted_begun, parted_next, parted_whole}
use Rattle.lis_record_read.proofs.building.read_parted.Goals as goal

pub loop-delimiter-init : goal.loop-delimiter-init
loop-delimiter-init c =
    let front = c.in-Some.front in
    parted_begun c.args.delimiters c.args.given.text.now c.in_ok-repeat.repeat c.args.given.padded.now
    c.split_at.result.1.now c.split_at-2.result.1.now front.0 front.1 c.requires c.in-Some.ensures.front
    c.in_ok-repeat.ensures c.split_at.ensures.back c.split_at-2.ensures.back

pub loop-delimiter-preserved : goal.loop-delimiter-preserved
loop-delimiter-preserved c =
    let front = c.in-Some-component_front.front in
    parted_next c.args.delimiters c.args.given.text.now c.loop-delimiter.repeat c.loop-delimiter.rest.now
    c.loop-delimiter.window.now c.loop-delimiter.invariant c.in-Some-split_first._delimiter.now
    c.in-Some-split_first.more.now c.split_at-in-Some-split_first.result.1.now
    c.split_at-in-Some-split_first-2.result.1.now c.split_at-in-Some-split_first-3.result.1.now front.0 front.1
    c.push_front.new.repeat c.field.ensures.shape c.in-Some-split_first.ensures.cases.0
    c.split_at-in-Some-split_first.ensures.back c.in-Some-component_front.ensures.front c.in_ok-push_front.ensures
    c.split_at-in-Some-split_first-2.ensures.back c.split_at-in-Some-split_first-3.ensures.back

pub returns : goal.returns
returns c =
    c.in_ok-new.ensures.ok
    ∙ sym (parted_whole c.args.delimiters c.args.given.text.now c.loop-delimiter.repeat c.loop-delimiter.rest.now
    c.loop-delimiter.window.now c.loop-delimiter.invariant (nil_from_length c.loop-delimiter.rest.now
    c.in_default-split_first.ensures.cases))

pub component_front-requires : goal.component_front-requires
component_front-requires c = c.requires

pub returns-in_default : goal.returns-in_default
returns-in_default c = c.read_field.ensures

pub first_front-requires-clause-room : goal.first_front-requires-clause-room
first_front-requires-clause-room c = c.in-Some.ensures.room

pub first_front-requires-clause-begins : goal.first_front-requires-clause-begins
first_front-requires-clause-begins c = c.requires

pub first_front-requires-clause-front : goal.first_front-requires-clause-front
first_front-requires-clause-front c = c.in-Some.ensures.front

pub split_at-requires : goal.split_at-requires
split_at-requires c = c.in-Some.ensures.front.within

pub split_at-requires-2 : goal.split_at-requires-2
split_at-requires-2 c =
    begins-within c.args.given.padded.now c.args.given.text.now c.in-Some.front.0 c.requires
    c.in-Some.ensures.front.within

pub split_at-requires-in-Some-split_first : goal.split_at-requires-in-Some-split_first
split_at-requires-in-Some-split_first c =
    let l = c.loop-delimiter in
    let next = c.in-Some-split_first in
    following-within l.window.now l.rest.now next.more.now next._delimiter.now l.invariant.begins next.ensures.cases.0

pub component_front-requires-in-Some-split_first : goal.component_front-requires-in-Some-split_first
component_front-requires-in-Some-split_first c =
    let l = c.loop-delimiter in
    let next = c.in-Some-split_first in
    begins_after l.window.now l.rest.now c.split_at-in-Some-split_first.result.1.now next.more.now next._delimiter.now
    l.invariant.begins next.ensures.cases.0 c.split_at-in-Some-split_first.ensures.back

pub returns-in_default-component_front : goal.returns-in_default-component_front
returns-in_default-component_front c = c.read_field-in_default-component_front.ensures

pub push_front-requires-clause-front : goal.push_front-requires-clause-front
push_front-requires-clause-front c = c.in-Some-component_front.ensures.front

pub split_at-requires-in-Some-split_first-2 : goal.split_at-requires-in-Some-split_first-2
split_at-requires-in-Some-split_first-2 c = c.in-Some-component_front.ensures.front.within

pub split_at-requires-in-Some-split_first-3 : goal.split_at-requires-in-Some-split_first-3
split_at-requires-in-Some-split_first-3 c =
    let l = c.loop-delimiter in
    let next = c.in-Some-split_first in
    let following = c.split_at-in-Some-split_first.result.1.now in
    let begins = begins_after l.window.now l.rest.now following next.more.now next._delimiter.now l.invariant.begins
    next.ensures.cases.0 c.split_at-in-Some-split_first.ensures.back in
    begins-within following next.more.now c.in-Some-component_front.front.0 begins
    c.in-Some-component_front.ensures.front.within

pub loop-delimiter-smaller : goal.loop-delimiter-smaller
loop-delimiter-smaller c =
    let next = c.in-Some-split_first in
    following-smaller c.loop-delimiter.rest.now next.more.now c.split_at-in-Some-split_first-2.result.1.now
    next._delimiter.now c.in-Some-component_front.front.0 next.ensures.cases.0
    c.split_at-in-Some-split_first-2.ensures.back_len
