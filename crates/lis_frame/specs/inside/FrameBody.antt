-- The bytes between an STX and the next LF, put together of their parts.
use Rattle.std.specs.Prelude.{ℕ, List, [], ◌∷◌, ◌++◌}

-- the frame body of these parts
abbrev pub body_of : ℕ → List ℕ → ℕ → ℕ → ℕ → ℕ → List ℕ
body_of number text end high low close = number ∷ (text ++ (end ∷ high ∷ low ∷ close ∷ []))
