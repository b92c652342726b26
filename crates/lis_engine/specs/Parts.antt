-- Texts put together of parts.
use Rattle.std.specs.Prelude.{ℕ, List, [], decimal, Option, None, Some}
use Rattle.std.specs.List.{flat_map}
use Rattle.hex.specs.Hex.{encode_lower}
use Rattle.lis_engine.specs.declared.print.Part.{Part}
use Rattle.lis_engine.specs.declared.print.Part.TheVariants.{Text, Number, Digits}

abbrev pub joined : List (List ℕ) → List ℕ
joined parts = flat_map (λ part. part) parts

-- a part as code holds it, and the parts of a text
abbrev pub part_text : Part → List ℕ
part_text (Text bytes) = bytes.now
part_text (Number number) = decimal number
part_text (Digits bytes) = encode_lower bytes.now

abbrev pub parts_text : List Part → List ℕ
parts_text parts = flat_map part_text parts

-- the text of what there is
abbrev pub text_if_any : {A : Type 0} → (A → List ℕ) → Option A → List ℕ
text_if_any text_of None = []
text_if_any text_of (Some it) = text_of it
