-- A text that is encoded run by run: the bytes before an escape byte, and what that byte begins.
use Rattle.std.proofs.Common.{◌≡◌, ℕ, ◌+◌, ◌-◌, ◌==◌, List, ◌∷◌, ◌++◌, length, take, drop, Some, None}
use Rattle.std.proofs.Common.{option_map, sym, ap, ◌∙◌, append_assoc, append-nil}
use Rattle.std.specs.List.{position}
use Rattle.std.proofs.lemmas.List.{drop-drop, nil_from_length, take_rest}
use Rattle.lis_record_values.specs.declared.symbols.Sym.{Sym}
use Rattle.lis_record_values.specs.declared.symbols.Sym.TheVariants.{Char}
use Rattle.lis_record_values.specs.Delimiters.{DelimiterBytes}
use Rattle.lis_record_values.specs.Shape.{Symbols}
use Rattle.lis_record_values.specs.Escapes.{escape_of}
use Rattle.lis_record_values.specs.Text.{trailing_byte}
use Rattle.lis_record_write.specs.Encoding.{encoded_component, encoded_symbol}
use Rattle.lis_record_read.specs.FrontReading.{digit_symbols, escape_at}
use Rattle.lis_record.specs.inside.Reencoding.{reencoded, reencoded_after}
use Rattle.lis_record_read.proofs.FieldTexts.{trailing-none}
use Rattle.lis_record_read.proofs.Places.{escape_at-found}
use Rattle.lis_record.proofs.Reencoded.{reencoded-escape, reencoded-lone}

-- what follows a first byte
following_mark : (text back : List ℕ) (end : ℕ) → back ≡ drop end text
    → take (length back - 1) (drop 1 back) ≡ drop (end + 1) text
following_mark text back end is = take_rest back 1 ∙ (ap (drop 1) is ∙ drop-drop 1 end text)

module _ (d : DelimiterBytes) (escape : ℕ) (is : escape ≡ d.escape) where
  pub escape_added :
      (old one two text back digits : List ℕ) (end : ℕ) (symbol : Sym) → position (λ b. b == escape) text ≡ Some end
      → escape_of d (take end text) ≡ Some (symbol ∷ digit_symbols digits) → back ≡ drop end text
      → one ≡ old ++ encoded_symbol d symbol → two ≡ one ++ encoded_component d (digit_symbols digits)
      → two ++ reencoded d (take (length back - 1) (drop 1 back)) ≡ old ++ reencoded d (d.escape ∷ text)
  escape_added old one two text back digits end symbol h means following first second =
      let meant = symbol ∷ digit_symbols digits in
      let pair : Symbols → Symbols × ℕ = λ symbols. (symbols, end + 1) in
      let whole = reencoded-escape d text (meant, end + 1)
      (escape_at-found d text end (rw is at h) ∙ ap (option_map pair) means) in
      let s = encoded_symbol d symbol in
      let more = encoded_component d (digit_symbols digits) in
      let rest = reencoded d (drop (end + 1) text) in
      rw (second, first, following_mark text back end following, whole)
      (append_assoc (old ++ s) more rest ∙ append_assoc old s (more ++ rest)
      ∙ ap (λ (l : List ℕ). old ++ l) (sym (append_assoc s more rest)))

  pub lone_added : (old new text : List ℕ) → escape_at d text ≡ None → new ≡ old ++ encoded_symbol d (Char escape)
      → new ++ reencoded d text ≡ old ++ reencoded d (d.escape ∷ text)
  lone_added old new text none added =
      rw (added, is, reencoded-lone d text none)
      (append_assoc old (encoded_symbol d (Char d.escape)) (reencoded d text))

  -- what is encoded as it is, before an escape byte or the end
  pub run_added :
      (old new out rest next front following inside : List ℕ) (byte : ℕ) → reencoded d rest
      ≡ front ++ reencoded d following
      → following ≡ byte ∷ inside → trailing_byte d.escape following ≡ None → new ≡ old ++ front
      → out ++ reencoded d next ≡ new ++ reencoded d (d.escape ∷ inside)
      → out ++ reencoded d next ≡ old ++ reencoded d rest
  run_added old new out rest next front following inside byte same represents mark added more =
      let at : byte ≡ d.escape = trailing-none d.escape byte inside following represents mark in
      more ∙ ap (λ (l : List ℕ). l ++ reencoded d (d.escape ∷ inside)) added
      ∙ append_assoc old front (reencoded d (d.escape ∷ inside))
      ∙ ap (λ (b : ℕ). old ++ (front ++ reencoded d (b ∷ inside))) (sym at)
      ∙ ap (λ (l : List ℕ). old ++ (front ++ reencoded d l)) (sym represents)
      ∙ ap (λ (l : List ℕ). old ++ l) (sym same)

  pub last_added : (old new rest front following : List ℕ) → reencoded d rest ≡ front ++ reencoded d following
      → length following ≡ 0 → new ≡ old ++ front → new ≡ old ++ reencoded d rest
  unfolding reencoded_after
  last_added old new rest front following same none added =
      added ∙ ap (λ (l : List ℕ). old ++ l)
      (sym (append-nil front) ∙ ap (λ (l : List ℕ). front ++ reencoded d l) (sym (nil_from_length following none))
      ∙ sym same)
