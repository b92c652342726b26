-- Whether a capture had a line.
use Rattle.std.specs.Prelude.{Bool, List, [], ◌∷◌, true, false}
use Rattle.lis_capture.specs.declared.line.Line.{Line}

-- whether a line was there
abbrev pub is_begun : List Line → Bool
is_begun [] = false
is_begun (line ∷ lines) = true
