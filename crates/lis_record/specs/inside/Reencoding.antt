-- The encoding of what a text reports, made of the text itself: delimiters are in it as they are.
use Rattle.std.specs.Prelude.{ℕ, zero, suc, ◌==◌, cond, List, [], ◌∷◌, ◌++◌, Option, Some, None}
use Rattle.lis_record_values.specs.declared.symbols.Sym.TheVariants.{Char}
use Rattle.lis_record_values.specs.Delimiters.{DelimiterBytes}
use Rattle.lis_record_values.specs.Shape.{Symbols}
use Rattle.lis_record_read.specs.FrontReading.{escape_at}
use Rattle.lis_record_write.specs.Encoding.{encoded_component, encoded_symbol}

-- what an escape means, encoded, and what is after it; where there is none, the escape byte is itself
abbrev pub reencoded_following : DelimiterBytes → Option (Symbols × ℕ) → (ℕ → List ℕ) → List ℕ
reencoded_following d None others = encoded_symbol d (Char d.escape) ++ others 0
reencoded_following d (Some escape) others = encoded_component d escape.0 ++ others escape.1

-- the encoding of a text, without the bytes that are passed over first
unfoldable pub reencoded_after : DelimiterBytes → ℕ → List ℕ → List ℕ
reencoded_after d passed [] = []
reencoded_after d (suc passed) (byte ∷ bytes) = reencoded_after d passed bytes
reencoded_after d zero (byte ∷ bytes) =
    cond (byte == d.escape) (reencoded_following d (escape_at d bytes) (λ n. reencoded_after d n bytes))
    (byte ∷ reencoded_after d 0 bytes)

abbrev pub reencoded : DelimiterBytes → List ℕ → List ℕ
reencoded d text = reencoded_after d 0 text
