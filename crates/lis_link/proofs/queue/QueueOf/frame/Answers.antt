use Rattle.std.proofs.Common.{◌≡◌, ◌<◌, ◌⊎◌, None, [], ◌∷◌, length, sym, ap, ◌∙◌, subst, arith, drop}
use Rattle.std.specs.Option.{option_copied}
use Rattle.std.proofs.lemmas.List.Elements.{All-get_or}
use Rattle.lis_text.specs.LinkText.{longest_text}
use Rattle.lis_text.specs.Text.{text_fault}
use Rattle.lis_link.proofs.QueueLaws.{some-left, left-some, within-at}
use Rattle.lis_link.proofs.queue.QueueOf.frame.Goals as goal

pub unreachable-requires : goal.unreachable-requires
unreachable-requires g c =
    let texts = g.T.SessionTexts.texts c.self.inside.texts in
    some-left g.row.N texts c.self.inside.index c.self.inside.offset c.self.inside.number
    c.args.self.now.left
    (ap (λ q. q.left) c.self.view_is) c.requires (sym c.text.ensures ∙ ap (λ o. option_copied o) c.in_default.is)

pub split_at_of-requires : goal.split_at_of-requires
split_at_of-requires g c =
    let texts = g.T.SessionTexts.texts c.self.inside.texts in
    let place = c.self.invariant in
    let at = sym c.in-Some.ensures in
    let inside = within-at texts c.self.inside.index c.in-Some.text.now at in
    let fine = subst (λ t. text_fault longest_text t ≡ None) inside.1
    (All-get_or (λ t. text_fault longest_text t ≡ None) texts c.self.inside.index [] inside.0
    place.sendable) in (
      omega (arith, place.is_limit.at_most),
      (
        place.is_limit,
        (
          fine,
          (
            place.number_in_range,
            (
              place.whole,
              subst (λ t. (c.self.inside.offset ≡ 0) ⊎ (c.self.inside.offset < length t)) inside.1 place.offset_within,
            ),
          ),
        ),
      ),
    )

pub returns : goal.returns
returns g c =
    let texts = g.T.SessionTexts.texts c.self.inside.texts in
    let place = c.self.invariant in
    let some : 0 < g.row.N = omega (arith, place.is_limit.at_least) in
    let at = sym c.in-Some.ensures in
    let inside = within-at texts c.self.inside.index c.in-Some.text.now at in
    let first = left-some g.row.N texts c.self.inside.index c.self.inside.offset c.self.inside.number
    c.in-Some.text.now some at
    (subst (λ t. (c.self.inside.offset ≡ 0) ⊎ (c.self.inside.offset < length t)) inside.1 place.offset_within) in
    let left_is = sym (ap (λ q. q.left) c.self.view_is) ∙ first.1 in
    left_is ∙ ap (λ f. f ∷ first.0) (sym c.split_at_of.ensures.value)
    ∙ ap (λ xs. c.split_at_of.result ∷ drop 1 xs) (sym left_is)
