-- The text of several lines.
use Rattle.std.specs.Prelude.{ℕ, List, [], ◌∷◌, ◌++◌}
use Rattle.lis_capture.specs.declared.line.Line.{Line}
use Rattle.lis_capture.specs.Encoding.{line_encoding}

-- the text of lines, which are newest first
abbrev pub lines_encoding : List Line → List ℕ
lines_encoding [] = []
lines_encoding (line ∷ lines) = lines_encoding lines ++ line_encoding line
