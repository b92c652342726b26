use Rattle.std.proofs.Common.{◌≡◌, ◌+◌, ◌-◌, ◌<◌, ◌≤◌, ◌⊎◌, inl, inr, length, drop, refl, sym, ap, ◌∙◌, subst, arith}
use Rattle.std.specs.Option.{option_copied}
use Rattle.std.proofs.Math.Nat.{add-mod_right}
use Rattle.lis_link.specs.inside.Queue.{frames_left}
use Rattle.lis_link.proofs.QueueLaws.{some-left, within-at, left-more, left-last, zero_mod}
use Rattle.lis_link.proofs.queue.QueueOf.advance.Goals as goal

pub unreachable-requires : goal.unreachable-requires
unreachable-requires g c =
    let texts = g.T.SessionTexts.texts c.self.inside.texts in
    some-left g.row.N texts c.self.inside.index c.self.inside.offset c.self.inside.number
    c.args.self.now.left
    (ap (λ q. q.left) c.self.view_is) c.requires (sym c.text.ensures ∙ ap (λ o. option_copied o) c.in_default.is)

pub overflow_sub-text : goal.overflow_sub-text
overflow_sub-text g c =
    let texts = g.T.SessionTexts.texts c.self.inside.texts in
    let inside = within-at texts c.self.inside.index c.in-Some.text.now (sym c.in-Some.ensures) in
    let within : (c.self.inside.offset ≡ 0) ⊎ (c.self.inside.offset < length c.in-Some.text.now) =
    subst (λ t. (c.self.inside.offset ≡ 0) ⊎ (c.self.inside.offset < length t)) inside.1
    c.self.invariant.offset_within in
    omega arith

pub invariant_of-self : goal.invariant_of-self
invariant_of-self g c =
    let texts = g.T.SessionTexts.texts c.self.inside.texts in
    let place = c.self.invariant in
    let inside = within-at texts c.self.inside.index c.in-Some.text.now (sym c.in-Some.ensures) in
    let more = c.if-text-self.true in
    let below = inside.0 in
    record {
      is_limit = place.is_limit;
      sendable = place.sendable;
      few = place.few;
      index_within = place.index_within;
      number_in_range = c.next_number-self-inside.ensures.bound;
      whole = add-mod_right c.self.inside.offset g.row.N ∙ place.whole;
      offset_within = inr (subst (λ t. c.self.inside.offset + g.row.N < length t) (sym inside.1) (omega arith));
      at_end = λ e. omega arith;
    }

pub returns-then-text-self-clause-left : goal.returns-then-text-self-clause-left
returns-then-text-self-clause-left g c =
    let texts = g.T.SessionTexts.texts c.self.inside.texts in
    let place = c.self.invariant in
    let some : 0 < g.row.N = omega (arith, place.is_limit.at_least) in
    let more : g.row.N < length c.in-Some.text.now - c.self.inside.offset = omega (arith, c.if-text-self.true) in
    let first = left-more g.row.N texts c.self.inside.index c.self.inside.offset c.self.inside.number
    c.in-Some.text.now some
    (sym c.in-Some.ensures) more in
    ap (frames_left g.row.N texts c.self.inside.index (c.self.inside.offset + g.row.N))
    c.next_number-self-inside.ensures.value
    ∙ ap (drop 1) (sym first) ∙ ap (λ q. drop 1 q.left) c.self.view_is

pub invariant_of-self-2 : goal.invariant_of-self-2
invariant_of-self-2 g c =
    let texts = g.T.SessionTexts.texts c.self.inside.texts in
    let place = c.self.invariant in
    let inside = within-at texts c.self.inside.index c.in-Some.text.now (sym c.in-Some.ensures) in
    let below = inside.0 in
    record {
      is_limit = place.is_limit;
      sendable = place.sendable;
      few = place.few;
      index_within = omega arith;
      number_in_range = c.next_number-self-inside.ensures.bound;
      whole = zero_mod g.row.N (omega (arith, place.is_limit.at_least));
      offset_within = inl refl;
      at_end = λ e. refl;
    }

pub returns-clause-left : goal.returns-clause-left
returns-clause-left g c =
    let texts = g.T.SessionTexts.texts c.self.inside.texts in
    let place = c.self.invariant in
    let some : 0 < g.row.N = omega (arith, place.is_limit.at_least) in
    let inside = within-at texts c.self.inside.index c.in-Some.text.now (sym c.in-Some.ensures) in
    let short : length c.in-Some.text.now - c.self.inside.offset ≤ g.row.N = omega (arith, c.if-text-self.false) in
    let first = left-last g.row.N texts c.self.inside.index c.self.inside.offset c.self.inside.number
    c.in-Some.text.now some
    (sym c.in-Some.ensures) (subst (λ t. (c.self.inside.offset ≡ 0) ⊎ (c.self.inside.offset < length t)) inside.1
    place.offset_within) short in
    ap (frames_left g.row.N texts (c.self.inside.index + 1) 0) c.next_number-self-inside.ensures.value
    ∙ ap (drop 1) (sym first) ∙ ap (λ q. drop 1 q.left) c.self.view_is
