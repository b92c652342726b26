-- What the first byte that no record may hold says of those before it.
use Rattle.std.proofs.Common.{◌≡◌, ◌<◌, ℕ, List, length, take, Option, None, Some, IfSome, IfNone, sym, ◌∙◌, not}
use Rattle.std.specs.List.{position_from}
use Rattle.std.proofs.lemmas.Iterator.Adapters.{position_from-zero}
use Rattle.lis_record_values.proofs.FirstFaults.{AllPass-position}
use Rattle.lis_record_values.specs.Text.{IsRecordText, bad_byte_place, is_text_byte}
use Rattle.lis_bytes.proofs.SearchLemmas.{clean-before}

none_before : (bytes : List ℕ) (place : ℕ) → Some place ≡ position_from (λ b. not (is_text_byte b)) 0 bytes
    → bad_byte_place (take place bytes) ≡ None
none_before bytes place is =
    position_from-zero (λ b. not (is_text_byte b)) (take place bytes)
    ∙ (clean-before (λ b. not (is_text_byte b)) bytes place (sym is)).1

pub found_bound : (bytes : List ℕ) (found : Option ℕ) → found ≡ position_from (λ b. not (is_text_byte b)) 0 bytes
    → IfSome found (λ place. place < length bytes)
found_bound bytes None is = tt
found_bound bytes (Some place) is = (clean-before (λ b. not (is_text_byte b)) bytes place (sym is)).0

pub found_before : (bytes : List ℕ) (found : Option ℕ) → found ≡ position_from (λ b. not (is_text_byte b)) 0 bytes
    → IfSome found (λ place. bad_byte_place (take place bytes) ≡ None)
found_before bytes None is = tt
found_before bytes (Some place) is = none_before bytes place is

pub found_texts : (bytes : List ℕ) (found : Option ℕ) → found ≡ position_from (λ b. not (is_text_byte b)) 0 bytes
    → IfSome found (λ place. IsRecordText (take place bytes))
found_texts bytes None is = tt
found_texts bytes (Some place) is = AllPass-position is_text_byte (take place bytes) (none_before bytes place is)

pub found_none : (bytes : List ℕ) (found : Option ℕ) → found ≡ position_from (λ b. not (is_text_byte b)) 0 bytes
    → IfNone found (IsRecordText bytes)
found_none bytes None is =
    AllPass-position is_text_byte bytes (position_from-zero (λ b. not (is_text_byte b)) bytes ∙ sym is)
found_none bytes (Some place) is = tt
