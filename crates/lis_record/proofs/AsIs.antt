-- What is encoded as it is: bytes before an escape byte, and escapes of one letter.
use Rattle.std.proofs.Common.{◌≡◌, ◌≤◌, ℕ, ◌+◌, ◌==◌, List, [], ◌∷◌, ◌++◌, length, take, drop, Option, Some}
use Rattle.std.proofs.Common.{None, option_map, unwrap_or, refl, sym, ap, ◌∙◌, append_assoc, append-nil, arith}
use Rattle.std.proofs.Common.{eq-eqb, inl, inr, take-append-drop, get_or, true, suc}
use Rattle.std.proofs.lemmas.Bool.Decides.{eqb_tells}
use Rattle.std.proofs.lemmas.Iterator.Adapters.{position_from-zero}
use Rattle.std.proofs.lemmas.List.{drop-drop, drop_all, length-drop, take_all}
use Rattle.std.proofs.Math.Seq.{take-add}
use Rattle.std.specs.List.{position}
use Rattle.std.specs.Option.{is_some}
use Rattle.lis_record_values.specs.declared.symbols.Sym.{Sym}
use Rattle.lis_record_values.specs.declared.symbols.Sym.TheVariants.{Char, On, Off}
use Rattle.lis_record_values.specs.Delimiters.{DelimiterBytes, IsDelimiters}
use Rattle.lis_record_values.specs.Shape.{Symbols}
use Rattle.lis_record_values.proofs.FirstFaults.{test_false}
use Rattle.lis_record_values.specs.Escapes.{escape_of, letter_symbol}
use Rattle.lis_record_values.specs.Text.{trailing_byte}
use Rattle.lis_record_values.specs.Relation.{Lacks}
use Rattle.lis_record_write.specs.Encoding.{letter_encoding, encoded_symbol}
use Rattle.lis_record_read.specs.FrontReading.{escape_at}
use Rattle.lis_record.specs.inside.Reencoding.{reencoded, reencoded_after}
use Rattle.lis_record_read.proofs.Components.{Lacks-letter}
use Rattle.lis_record_read.proofs.FieldTexts.{Lacks-first, part_following-mark, trailing-none}
use Rattle.lis_record_read.proofs.Places.{Lacks-position}
use Rattle.lis_record_read.proofs.Places.{escape_at-found, parts_of-first}
use Rattle.lis_record.proofs.Reencoded.{reencoded-escape, reencoded-plain, reencoded_as_is}

-- ---- an escape of one letter

module _ (d : DelimiterBytes) (good : IsDelimiters d) where
  field_encoded : encoded_symbol d (Char d.field) ≡ letter_encoding d 70
  unfolding encoded_symbol
  field_encoded = rw (eq-eqb d.field d.field refl) refl

  component_encoded : encoded_symbol d (Char d.component) ≡ letter_encoding d 83
  unfolding encoded_symbol
  component_encoded = rw (
    test_false d.component d.field (λ e. good.field_component (sym e)),
    eq-eqb d.component d.component refl,
  ) refl

  repeat_encoded : encoded_symbol d (Char d.repeat) ≡ letter_encoding d 82
  unfolding encoded_symbol
  repeat_encoded = rw (
    test_false d.repeat d.field (λ e. good.field_repeat (sym e)),
    test_false d.repeat d.component good.repeat_component,
    eq-eqb d.repeat d.repeat refl,
  ) refl

  pub escape_encoded : encoded_symbol d (Char d.escape) ≡ letter_encoding d 69
  unfolding encoded_symbol
  escape_encoded = rw (
    test_false d.escape d.field (λ e. good.field_escape (sym e)),
    test_false d.escape d.component (λ e. good.component_escape (sym e)),
    test_false d.escape d.repeat (λ e. good.repeat_escape (sym e)),
    eq-eqb d.escape d.escape refl,
  ) refl

  on_encoded : encoded_symbol d On ≡ letter_encoding d 72
  unfolding encoded_symbol
  on_encoded = refl

  off_encoded : encoded_symbol d Off ≡ letter_encoding d 78
  unfolding encoded_symbol
  off_encoded = refl

  reported : (letter n : ℕ) (s symbol : Sym) → encoded_symbol d s ≡ letter_encoding d n → letter ≡ n
      → Some s ≡ Some symbol → encoded_symbol d symbol ≡ letter_encoding d letter
  reported letter n s symbol is same e = let t : s ≡ symbol = cc in rw (← t, same) is

  letter_as_is : (letter : ℕ) (symbol : Sym) → letter_symbol d letter ≡ Some symbol
      → encoded_symbol d symbol ≡ letter_encoding d letter
  letter_as_is letter symbol h =
      elim (eqb_tells letter 72) [
        | inl is ↦ reported letter 72 On symbol on_encoded is.1 (rw is.0 at h)
        | inr on ↦
            elim (eqb_tells letter 78) [
              | inl is ↦ reported letter 78 Off symbol off_encoded is.1 (rw (on.0, is.0) at h)
              | inr off ↦
                  elim (eqb_tells letter 70) [
                    | inl is ↦
                        reported letter 70 (Char d.field) symbol field_encoded is.1 (rw (on.0, off.0, is.0) at h)
                    | inr field ↦
                        elim (eqb_tells letter 83) [
                          | inl is ↦
                              reported letter 83 (Char d.component) symbol component_encoded is.1
                              (rw (on.0, off.0, field.0, is.0) at h)
                          | inr component ↦
                              elim (eqb_tells letter 82) [
                                | inl is ↦
                                    reported letter 82 (Char d.repeat) symbol repeat_encoded is.1
                                    (rw (on.0, off.0, field.0, component.0, is.0) at h)
                                | inr repeat ↦
                                    elim (eqb_tells letter 69) [
                                      | inl is ↦
                                          reported letter 69 (Char d.escape) symbol escape_encoded is.1
                                          (rw (on.0, off.0, field.0, component.0, repeat.0, is.0) at h)
                                      | inr escape ↦
                                          let none : None ≡ Some symbol =
                                          rw (on.0, off.0, field.0, component.0, repeat.0, escape.0) at h in
                                          cc
                                    ]
                              ]
                        ]
                  ]
            ]
      ]

  pub letter_begins : (letter end : ℕ) (rest : List ℕ) (symbol : Sym) → letter_symbol d letter ≡ Some symbol
      → end ≡ d.escape → reencoded d (d.escape ∷ letter ∷ end ∷ rest) ≡ d.escape ∷ letter ∷ end ∷ reencoded d rest
  unfolding escape_of
  letter_begins letter end rest symbol h is =
      let text = letter ∷ end ∷ rest in
      let place : position (λ b. b == d.escape) text ≡ Some 1 =
      position_from-zero (λ (b : ℕ). b == d.escape) text
      ∙ rw (test_false letter d.escape (Lacks-letter d d.escape good.escape_is letter symbol h), eq-eqb end d.escape is)
      refl in
      let pair : Symbols → Symbols × ℕ = λ symbols. (symbols, 2) in
      let meant : escape_of d (letter ∷ []) ≡ Some (symbol ∷ []) =
      ap (option_map (λ (s : Sym). s ∷ [])) h in
      let found : escape_at d text ≡ Some (symbol ∷ [], 2) =
      escape_at-found d text 1 place ∙ ap (option_map pair) meant in
      reencoded-escape d text (symbol ∷ [], 2) found
      ∙ ap (λ (l : List ℕ). (l ++ []) ++ reencoded d rest) (letter_as_is letter symbol h)
      ∙ ap (λ (b : ℕ). d.escape ∷ letter ∷ b ∷ reencoded d rest) (sym is)

  pub letter_is_there : (text : List ℕ) → 2 ≤ length text → get_or text 1 0 ≡ d.escape
      → is_some (letter_symbol d (get_or text 0 0)) ≡ true
      → reencoded d (d.escape ∷ text) ≡ d.escape ∷ take 2 text ++ reencoded d (drop 2 text)
  letter_is_there [] long is some = absurd (omega arith)
  letter_is_there (letter ∷ []) long is some = absurd (omega arith)
  letter_is_there (letter ∷ end ∷ rest) long is some = go (letter_symbol d letter) refl some
    where
      go : (o : Option Sym) → letter_symbol d letter ≡ o → is_some o ≡ true
          → reencoded d (d.escape ∷ letter ∷ end ∷ rest) ≡ d.escape ∷ letter ∷ end ∷ reencoded d rest
      go None e some = cc
      go (Some symbol) e some = letter_begins letter end rest symbol e is

-- ---- a prefix of a text

-- so many bytes are encoded as they are, and these are after them
pub record Fronted (d : DelimiterBytes) (text rest : List ℕ) (passed : ℕ) : Type 0 where
  pub fits : passed + length rest ≡ length text
  pub following : rest ≡ drop passed text
  pub same : reencoded d text ≡ take passed text ++ reencoded d rest

module _ (d : DelimiterBytes) (text : List ℕ) where
  pub fronted_none : Fronted d text text 0
  fronted_none = record { fits = omega arith; following = refl; same = refl }

  module _ (rest : List ℕ) (passed : ℕ) (f : Fronted d text rest passed) where
    -- no escape byte follows
    pub fronted_whole : position (λ b. b == d.escape) rest ≡ None
        → reencoded d text ≡ take (length text) text ++ reencoded d (drop (length text) text)
    unfolding reencoded_after
    fronted_whole none =
        let last : rest ≡ take (length rest) (drop passed text) =
        f.following ∙ sym (take_all (length rest) (drop passed text) (omega (arith, ap length f.following))) in
        let all : take (length text) text ≡ take passed text ++ rest =
        ap (λ (n : ℕ). take n text) (sym f.fits) ∙ take-add passed (length rest) text
        ∙ ap (λ (l : List ℕ). take passed text ++ l) (sym last) in
        let left : drop (length text) text ≡ [] = drop_all (length text) text (omega arith) in
        rw (all, left)
        (f.same
        ∙ ap (λ (l : List ℕ). take passed text ++ l) (reencoded_as_is d rest (Lacks-position d.escape rest none))
        ∙ sym (append-nil (take passed text ++ rest)))

    module _ (place : ℕ) (found : position (λ b. b == d.escape) rest ≡ Some place) where
      free : Lacks d.escape (take place rest)
      free = Lacks-first d.escape rest (take place rest) (drop place rest) (parts_of-first d.escape rest place
          (sym (ap (λ (o : Option ℕ). unwrap_or o (length rest)) found)))

      up_to : reencoded d rest ≡ take place rest ++ reencoded d (drop place rest)
      up_to = ap (reencoded d) (sym (take-append-drop place rest))
          ∙ reencoded-plain d (take place rest) (drop place rest) free

      more : (n : ℕ) → take (passed + n) text ≡ take passed text ++ take n rest
      more n = take-add passed n text ∙ ap (λ (l : List ℕ). take passed text ++ take n l) (sym f.following)

      further : (n : ℕ) → drop (passed + n) text ≡ drop n rest
      further n = sym (drop-drop n passed text) ∙ ap (drop n) (sym f.following)

      pub fronted_next : trailing_byte d.escape (drop (passed + place) text) ≡ None
      fronted_next = rw (further place) (part_following-mark d.escape rest place
          (sym (ap (λ (o : Option ℕ). unwrap_or o (length rest)) found)))

      pub fronted_part : reencoded d text ≡ take (passed + place) text ++ reencoded d (drop (passed + place) text)
      fronted_part = rw (more place, further place)
          (f.same ∙ ap (λ (l : List ℕ). take passed text ++ l) up_to
          ∙ sym (append_assoc (take passed text) (take place rest) (reencoded d (drop place rest))))

      -- an escape of one letter is there
      pub fronted_more : (byte : ℕ) (inside others : List ℕ) → drop place rest ≡ byte ∷ inside
          → 2 ≤ length inside → others ≡ drop 2 inside
          → reencoded d (d.escape ∷ inside) ≡ d.escape ∷ take 2 inside ++ reencoded d (drop 2 inside)
          → Fronted d text others (passed + (place + 3))
      fronted_more byte inside others represents long is same =
          let marked : byte ≡ d.escape =
          trailing-none d.escape byte inside (drop place rest) represents (part_following-mark d.escape rest place
          (sym (ap (λ (o : Option ℕ). unwrap_or o (length rest)) found))) in
          let at : drop place rest ≡ d.escape ∷ inside = represents ∙ ap (λ (b : ℕ). b ∷ inside) marked in
          let reported : take (place + 3) rest ≡ take place rest ++ d.escape ∷ take 2 inside =
          take-add place 3 rest ∙ ap (λ (l : List ℕ). take place rest ++ take 3 l) at in
          let left : drop (place + 3) rest ≡ others =
          sym (drop-drop 3 place rest) ∙ ap (drop 3) at ∙ sym is in
          let here : reencoded d rest ≡ take (place + 3) rest ++ reencoded d others =
          up_to ∙ ap (λ (l : List ℕ). take place rest ++ reencoded d l) at
          ∙ ap (λ (l : List ℕ). take place rest ++ l) same
          ∙ ap (λ (l : List ℕ). take place rest ++ (d.escape ∷ take 2 inside ++ reencoded d l)) (sym is)
          ∙ sym (append_assoc (take place rest) (d.escape ∷ take 2 inside) (reencoded d others))
          ∙ ap (λ (l : List ℕ). l ++ reencoded d others) (sym reported) in
          let size : length (drop place rest) ≡ suc (length inside) = ap length at in
          record {
            fits =
                omega (arith, f.fits, length-drop place rest, size, long, length-drop 2 inside, ap length is);
            following = sym left ∙ sym (further (place + 3));
            same =
                rw (more (place + 3))
                (f.same ∙ ap (λ (l : List ℕ). take passed text ++ l) here
                ∙ sym (append_assoc (take passed text) (take (place + 3) rest) (reencoded d others)));
          }
