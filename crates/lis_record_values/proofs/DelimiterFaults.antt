-- Four bytes are delimiters exactly where none of the faults is.
use Rattle.std.proofs.Common.{◌≡◌, ℕ, ◌==◌, Bool, true, false, ◌||◌, cond, [], ◌∷◌, Option, Some, None, option_map}
use Rattle.std.proofs.Common.{refl, ap, ◌∙◌, arith}
use Rattle.std.specs.Option.{option_or}
use Rattle.std.specs.List.{AllPass, position}
use Rattle.std.specs.Prelude.{not}
use Rattle.std.proofs.lemmas.Bool.Decides.{nat_tests}
use Rattle.std.proofs.lemmas.List.Elements.{All-cons, All-nil}
use Rattle.lis_record_values.specs.declared.delimiting.DelimiterFault.TheVariants.{NotPunctuation, Repeated}
use Rattle.lis_record_values.specs.Delimiters.{DelimiterBytes, IsDelimiters, delimiter_fault, delimiter_list}
use Rattle.lis_record_values.specs.Delimiters.{delimiters_of}
use Rattle.lis_record_values.specs.Delimiters.{is_punctuation, repeated_from}
use Rattle.lis_record_values.proofs.FirstFaults.{AllPass-position, option_map-none, option_or-none, position-AllPass}
use Rattle.lis_record_values.proofs.FirstFaults.{test_false}

cond_none_both : {X : Type 0} (b : Bool) (x : X) (o : Option X) → cond b (Some x) o ≡ None → (b ≡ false) × (o ≡ None)
cond_none_both true x o h = cc
cond_none_both false x o h = (refl, h)

pub IsDelimiters-delimiters_of : (f r c e : ℕ) → delimiter_fault (f ∷ r ∷ c ∷ e ∷ []) ≡ None
    → IsDelimiters (delimiters_of f r c e)
unfolding delimiter_fault
IsDelimiters-delimiters_of f r c e h =
    let bytes = f ∷ r ∷ c ∷ e ∷ [] in
    let both = option_or-none (option_map NotPunctuation (position (λ b. not (is_punctuation b)) bytes))
    (option_map Repeated (repeated_from [] 0 bytes)) h in
    let marks = AllPass-position is_punctuation bytes
    (option_map-none NotPunctuation (position (λ b. not (is_punctuation b)) bytes) both.0) in
    let second = cond_none_both (f == r || false) 1 _ (option_map-none Repeated (repeated_from [] 0 bytes) both.1) in
    let third = cond_none_both (r == c || (f == c || false)) 2 _ second.1 in
    let fourth = cond_none_both (c == e || (r == e || (f == e || false))) 3 None third.1 in
    let h2 : (f == r || false) ≡ false = second.0 in
    let h3 : (r == c || (f == c || false)) ≡ false = third.0 in
    let h4 : (c == e || (r == e || (f == e || false))) ≡ false = fourth.0 in
    record {
      field_is = marks 0 0 (omega arith);
      repeat_is = marks 1 0 (omega arith);
      component_is = marks 2 0 (omega arith);
      escape_is = marks 3 0 (omega arith);
      field_repeat = λ same. grind (arith, nat_tests);
      field_component = λ same. grind (arith, nat_tests);
      field_escape = λ same. grind (arith, nat_tests);
      repeat_component = λ same. grind (arith, nat_tests);
      repeat_escape = λ same. grind (arith, nat_tests);
      component_escape = λ same. grind (arith, nat_tests);
    }

repeated_from-IsDelimiters : (d : DelimiterBytes) → IsDelimiters d → repeated_from [] 0 (delimiter_list d) ≡ None
repeated_from-IsDelimiters d good =
    rw (
      test_false d.field d.repeat good.field_repeat,
      test_false d.repeat d.component good.repeat_component,
      test_false d.field d.component good.field_component,
      test_false d.component d.escape good.component_escape,
      test_false d.repeat d.escape good.repeat_escape,
      test_false d.field d.escape good.field_escape,
    ) refl

pub delimiter_fault-IsDelimiters : (d : DelimiterBytes) → IsDelimiters d → delimiter_fault (delimiter_list d) ≡ None
unfolding delimiter_fault
delimiter_fault-IsDelimiters d good =
    let P : ℕ → Type 0 = λ b. is_punctuation b ≡ true in
    let marks : AllPass is_punctuation (delimiter_list d) =
    All-cons P d.field (d.repeat ∷ d.component ∷ d.escape ∷ []) good.field_is
    (All-cons P d.repeat (d.component ∷ d.escape ∷ []) good.repeat_is
    (All-cons P d.component (d.escape ∷ []) good.component_is (All-cons P d.escape [] good.escape_is (All-nil P)))) in
    let first = position-AllPass is_punctuation (delimiter_list d) marks in
    ap (λ o. option_or (option_map NotPunctuation o) (option_map Repeated (repeated_from [] 0 (delimiter_list d))))
    first ∙ ap (option_map Repeated) (repeated_from-IsDelimiters d good)
