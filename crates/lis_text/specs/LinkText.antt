-- What a session carries: link texts, and when one more is rejected.
use Rattle.std.specs.Prelude.{◌≡◌, ℕ, ◌≤◌, ◌<◌, List, length}
use Rattle.lis_text.specs.declared.link_text.TextRefused.{TextRefused}
use Rattle.lis_text.specs.declared.link_text.TextRefused.TheVariants.{Full, OutOfMemory}

-- the greatest length of a link text, and the greatest number of texts of a session
abbrev pub longest_text : ℕ
longest_text = 1048576

abbrev pub most_texts : ℕ
most_texts = 65536

-- there are already as many as a session has; else memory ran out. The text comes back
abbrev pub IsTextRefused : List (List ℕ) → List ℕ → TextRefused → Type 0
IsTextRefused texts text (Full back) = (most_texts ≤ length texts) × (back ≡ text)
IsTextRefused texts text (OutOfMemory back) = (length texts < most_texts) × (back ≡ text)
