-- The replies of a line.
use Rattle.std.specs.Prelude.{ℕ, List, [], ◌∷◌}
use Rattle.lis_station.specs.Line.{Item, sent, answered}

-- the replies among the items of a line, in order
abbrev pub answers_of : List Item → List ℕ
answers_of [] = []
answers_of (sent unit ∷ items) = answers_of items
answers_of (answered b ∷ items) = b ∷ answers_of items
