-- The text of a record that is whole in the bytes that were read.
use Rattle.std.proofs.Common.{◌≡◌, ◌≤◌, ℕ, suc, ◌+◌, ◌-◌, ◌∷◌, ◌++◌, List, length, take, ap, ◌∙◌, arith, length-append}
use Rattle.std.proofs.Math.Seq.{take-append_seam}
use Rattle.lis_record_values.specs.Shape.{RecordContent}
use Rattle.lis_record_values.specs.Text.{record_limit}
use Rattle.lis_record.specs.Borrowed.{Borrowed}
use Rattle.std.specs.Prelude.{Option}
use Rattle.lis_tree.specs.Begun.{Begun}
use Rattle.lis_message.specs.Taking.{ComesNext, header, inner}
use Rattle.lis_message.specs.Kept.{RecordsState}
use Rattle.lis_message.specs.Records.{ReadsRecord}

comes_short : (left : Option Begun) (text : List ℕ) (entry : Borrowed RecordContent) → ComesNext left text entry
    → length text ≤ record_limit
comes_short left text entry (header none d is h) = is.short
comes_short left text entry (inner begun open' d is fine) = is.short

module _ (before after : RecordsState) (left : Option Begun) (bytes following : List ℕ) (entry : Borrowed RecordContent)
    (r : ReadsRecord before after left bytes following entry) (count : ℕ)
    (count_is : count ≡ length bytes - length following) where
  size : length bytes ≡ length r.text + suc (length following)
  size = ap length r.whole ∙ length-append r.text (13 ∷ following)

  pub text_is : take (count - 1) bytes ≡ r.text
  text_is =
      let at : count - 1 ≡ length r.text = omega (arith, size, count_is) in
      ap (λ (n : ℕ). take n bytes) at ∙ ap (take (length r.text)) r.whole ∙ take-append_seam r.text (13 ∷ following)

  pub text_short : length (take (count - 1) bytes) ≤ record_limit
  text_short =
      let all = comes_short left (before.held ++ r.text) entry r.comes in
      omega (arith, all, length-append before.held r.text, ap length text_is)
