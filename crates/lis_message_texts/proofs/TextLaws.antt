-- The texts of a message, joined, and each as a link text.
use Rattle.std.proofs.Common.{◌≡◌, ℕ, ◌+◌, ◌≤◌, true, false, cond, List, [], ◌∷◌, ◌++◌, length, map, Some, None, refl}
use Rattle.std.proofs.Common.{◌∙◌, ap, arith, length-append}
use Rattle.std.specs.Prelude.{option_map, nat_lt, if◌then◌else◌}
use Rattle.std.specs.List.{AllByRecursion, flat_map, position_from}
use Rattle.std.proofs.lemmas.Bool.Decides.{nat_tests}
use Rattle.std.proofs.lemmas.List.Elements.{recursion_from_All}
use Rattle.lis_text.specs.LinkText.{longest_text}
use Rattle.lis_text.specs.Text.{is_forbidden, text_fault}
use Rattle.lis_text.specs.declared.text.TextFault.TheVariants.{TooLong, Forbidden}
use Rattle.lis_record_values.specs.Delimiters.{DelimiterBytes, IsDelimiters}
use Rattle.lis_record_values.specs.Shape.{RecordContent, IsRecordShape}
use Rattle.lis_record_write.specs.Encoding.{encoded, written}
use Rattle.lis_record_values.specs.Text.{is_text_byte}
use Rattle.lis_record_write.proofs.ReadBack.{IsRecord-encoded}
use Rattle.lis_message.specs.Writing.{records_bytes, AreWritable}

-- joined, they are the message's bytes
pub texts_joined : (d : DelimiterBytes) (rs : List RecordContent)
    → flat_map (λ t. t) (map (written d) rs) ≡ records_bytes d rs
texts_joined d [] = refl
texts_joined d (r ∷ rs) = ap (λ l. written d r ++ l) (texts_joined d rs)

-- a byte of a record is one that a link text may hold
allowed : (b : ℕ) → is_text_byte b ≡ true → is_forbidden b ≡ false
unfolding is_text_byte
allowed b t = grind (arith, nat_tests)

allowed_all : (bytes : List ℕ) → AllByRecursion (λ b. is_text_byte b ≡ true) bytes → (n : ℕ)
    → position_from is_forbidden n (bytes ++ 13 ∷ []) ≡ None
allowed_all [] a n = refl
allowed_all (b ∷ bytes) a n = ap (λ t. cond t (Some n) (position_from is_forbidden (n + 1) (bytes ++ 13 ∷ [])))
    (allowed b a.0) ∙ allowed_all bytes a.1 (n + 1)

not_long : (bytes : List ℕ) → length bytes ≤ longest_text → nat_lt longest_text (length bytes) ≡ false
not_long bytes h = grind (arith, nat_tests)

-- a record's text can be sent
pub text_sent : (d : DelimiterBytes) → IsDelimiters d → (rs : List RecordContent) → AllByRecursion IsRecordShape rs
    → AreWritable d rs → AllByRecursion (λ t. text_fault longest_text t ≡ None) (map (written d) rs)
text_sent d good [] shapes writable = tt
text_sent d good (r ∷ rs) shapes writable =
    let is = IsRecord-encoded d good r shapes.0 writable.0 in
    let bytes = encoded d r in
    let short : length (written d r) ≤ longest_text = omega (arith, length-append bytes (13 ∷ []), is.short) in
    let clean = allowed_all bytes (recursion_from_All (λ b. is_text_byte b ≡ true) bytes is.is_text) 0 in (
      ap (λ t. if t then Some TooLong else option_map Forbidden (position_from is_forbidden 0 (written d r)))
          (not_long (written d r) short) ∙ ap (option_map Forbidden) clean,
      text_sent d good rs shapes.1 writable.1,
    )
