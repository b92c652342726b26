use Rattle.std.proofs.Common.{ℕ, List, ◌∷◌, drop, ap, ◌∙◌}
use Rattle.lis_record_read.specs.FrontReading.{parts_following}
use Rattle.lis_record_read.proofs.PaddedTexts.{begins_padded}
use Rattle.lis_record_read.proofs.building.first_padded.Goals as goal

pub split_at-requires : goal.split_at-requires
split_at-requires c = (begins_padded c.requires.0 c.requires.1 c.in-Some.ensures.bound c.in-Some.ensures.first).within

pub returns-clause-parts : goal.returns-clause-parts
returns-clause-parts c =
    let begins = begins_padded c.requires.0 c.requires.1 c.in-Some.ensures.bound c.in-Some.ensures.first in
    rw (c.split_at.ensures.front, c.split_at.ensures.back)
    (begins.parts
    ∙ ap (λ (l : List ℕ). l ∷ parts_following c.args.delimiter (drop c.in-Some.end c.args.given.text.now)) begins.same)
