-- A text is one record at most, and what reading from the front gives is that record.
use Rattle.std.proofs.Common.{◌≡◌, ◌≢◌, ℕ, true, ◌<◌, List, [], ◌∷◌, ◌++◌, map, length, Some, refl, sym, ap, ◌∙◌}
use Rattle.std.proofs.Common.{subst, arith}
use Rattle.std.proofs.lemmas.List.{append_cancel_left}
use Rattle.std.proofs.lemmas.List.Splits.{join_with_byte-slice_split}
use Rattle.std.specs.List.{All, flat_map, join_with_byte}
use Rattle.lis_record_values.specs.declared.kinds.Kind.{Kind}
use Rattle.lis_record_values.specs.declared.kinds.Kind.TheVariants as kinds
use Rattle.lis_record_values.specs.Delimiters.{DelimiterBytes, IsDelimiters}
use Rattle.lis_record_read.specs.FrontReading.{parts_of, symbols_of, components_of, repeats_of, fields_of}
use Rattle.lis_record_values.specs.Kinds.{kind_of}
use Rattle.lis_record_values.specs.Relation.{AreFieldTexts, IsField, IsRecord, IsRepeat, Lacks, declared_part}
use Rattle.lis_record_values.specs.Escapes.{IsComponent}
use Rattle.lis_record_values.specs.Shape.{Components, Fields, Repeats, RecordContent}
use Rattle.lis_record_values.specs.Text.{IsRecordText, is_text_byte}
use Rattle.std.proofs.lemmas.Bool.Decides.{nat_tests}
use Rattle.std.proofs.lemmas.List.Elements.{All-weaker}
use Rattle.lis_record_read.proofs.Components.{IsComponent-symbols_of, symbols_of-IsComponent}
use Rattle.lis_record_read.proofs.Joins.{AllZip-map, map-AllZip, IsJoined-map, map-IsJoined, flat_map-join}
use Rattle.lis_record_read.proofs.Joins.{parts_of-apart}
use Rattle.lis_record_read.proofs.Joins.{parts_of-join, parts_of-some}

module _ (d : DelimiterBytes) (good : IsDelimiters d) where
  pub IsRepeat-components_of : (text : List ℕ) → IsRepeat d text (components_of d text)
  IsRepeat-components_of text = IsJoined-map (IsComponent d) (symbols_of d) (IsComponent-symbols_of d good)
      d.component text

  pub components_of-IsRepeat : (text : List ℕ) (components : Components) → IsRepeat d text components
      → components ≡ components_of d text
  components_of-IsRepeat text components h = map-IsJoined (IsComponent d) (symbols_of d)
      (symbols_of-IsComponent d good) d.component text components h

  pub IsField-repeats_of : (text : List ℕ) → IsField d text (repeats_of d text)
  IsField-repeats_of text = IsJoined-map (IsRepeat d) (components_of d) IsRepeat-components_of d.repeat text

  pub repeats_of-IsField : (text : List ℕ) (repeats : Repeats) → IsField d text repeats → repeats ≡ repeats_of d text
  repeats_of-IsField text repeats h = map-IsJoined (IsRepeat d) (components_of d) components_of-IsRepeat d.repeat text
      repeats h

  fields_of-parts : (parts : List (List ℕ)) → All (Lacks d.field) parts
      → fields_of d (flat_map (λ part. d.field ∷ part) parts) ≡ map (repeats_of d) parts
  fields_of-parts [] apart = refl
  fields_of-parts (part ∷ parts) apart =
      ap (fields_of d) (flat_map-join d.field part parts)
      ∙ ap (map (repeats_of d)) (parts_of-join d.field (part ∷ parts) (omega arith) apart)

  pub fields_of-AreFieldTexts : (text : List ℕ) (fields : Fields) → AreFieldTexts d text fields
      → fields ≡ fields_of d text
  fields_of-AreFieldTexts text fields h =
      map-AllZip (IsField d) (repeats_of d) repeats_of-IsField h.parts fields h.each
      ∙ sym (ap (fields_of d) h.joined ∙ fields_of-parts h.parts h.apart)

  -- after the letter or a header's delimiters is nothing, or a field delimiter first
  pub AreFieldTexts-none : AreFieldTexts d [] []
  AreFieldTexts-none = record { parts = []; joined = refl; apart = λ k e h. absurd (omega arith); each = tt }

  joined_again : (parts : List (List ℕ)) → 0 < length parts
      → flat_map (λ part. d.field ∷ part) parts ≡ d.field ∷ join_with_byte d.field parts
  joined_again [] some = absurd (omega arith)
  joined_again (part ∷ parts) some = flat_map-join d.field part parts

  pub AreFieldTexts-fields_of : (bytes : List ℕ) → AreFieldTexts d (d.field ∷ bytes) (fields_of d (d.field ∷ bytes))
  AreFieldTexts-fields_of bytes = record {
    parts = parts_of d.field bytes;
    joined = sym (joined_again (parts_of d.field bytes) (parts_of-some d.field bytes)
        ∙ ap (λ (l : List ℕ). d.field ∷ l) (join_with_byte-slice_split d.field bytes));
    apart = parts_of-apart d.field bytes;
    each = AllZip-map (IsField d) (repeats_of d) IsField-repeats_of (parts_of d.field bytes);
  }

same_some : {X : Type 0} (x y : X) → Some x ≡ Some y → x ≡ y
same_some x y h = cc

same_content : (r s : RecordContent) → r.kind ≡ s.kind → r.fields ≡ s.fields → r ≡ s
same_content r s kinds_same fields_same = let f : Kind → Fields → RecordContent =
    λ k fs. record { kind = k; fields = fs } in ap (λ (k : Kind). f k r.fields) kinds_same ∙ ap (f s.kind) fields_same

-- a text is one record at most
pub IsRecord-one : (d : DelimiterBytes) → IsDelimiters d → (text : List ℕ) (r s : RecordContent) → IsRecord d text r
    → IsRecord d text s → r ≡ s
IsRecord-one d good text r s h g =
    let both : h.letter ∷ (declared_part d r.kind ++ h.fields_text) ≡ g.letter
    ∷ (declared_part d s.kind ++ g.fields_text) = sym h.whole ∙ g.whole in
    let letters : h.letter ≡ g.letter = cc in
    let same_kind : r.kind ≡ s.kind = same_some r.kind s.kind (sym h.kind_is ∙ ap kind_of letters ∙ g.kind_is) in
    let following : declared_part d r.kind ++ h.fields_text ≡ declared_part d s.kind ++ g.fields_text = cc in
    let same_rest : h.fields_text ≡ g.fields_text =
    append_cancel_left (declared_part d s.kind) h.fields_text g.fields_text (rw same_kind at following) in
    same_content r s same_kind
    (fields_of-AreFieldTexts d good h.fields_text r.fields h.fields_are ∙ ap (fields_of d) same_rest
    ∙ sym (fields_of-AreFieldTexts d good g.fields_text s.fields g.fields_are))

-- a text's letter reports its kind, whatever the delimiters
pub IsRecord-kind : (d e : DelimiterBytes) (text : List ℕ) (r s : RecordContent) → IsRecord d text r
    → IsRecord e text s → r.kind ≡ s.kind
IsRecord-kind d e text r s h g =
    let both : h.letter ∷ (declared_part d r.kind ++ h.fields_text) ≡ g.letter
    ∷ (declared_part e s.kind ++ g.fields_text) = sym h.whole ∙ g.whole in
    let letters : h.letter ≡ g.letter = cc in
    same_some r.kind s.kind (sym h.kind_is ∙ ap kind_of letters ∙ g.kind_is)

same_delimiters : (d e : DelimiterBytes) → d.field ≡ e.field → d.repeat ≡ e.repeat → d.component ≡ e.component
    → d.escape ≡ e.escape → d ≡ e
same_delimiters d e fields repeats components escapes =
    let f : ℕ → ℕ → ℕ → ℕ → DelimiterBytes = λ a b c g. record { field = a; repeat = b; component = c; escape = g } in
    ap (λ (a : ℕ). f a d.repeat d.component d.escape) fields ∙ ap (λ (b : ℕ). f e.field b d.component d.escape) repeats
    ∙ ap (λ (c : ℕ). f e.field e.repeat c d.escape) components ∙ ap (f e.field e.repeat e.component) escapes

-- a header's text has one set of delimiters and one record
pub IsRecord-header_one : (d e : DelimiterBytes) → IsDelimiters d → (text : List ℕ) (r s : RecordContent)
    → r.kind ≡ kinds.H
    → IsRecord d text r → IsRecord e text s → (d ≡ e) × (r ≡ s)
IsRecord-header_one d e good text r s is_header h g =
    let other_header : s.kind ≡ kinds.H = sym (IsRecord-kind d e text r s h g) ∙ is_header in
    let left : text ≡ h.letter ∷ d.field ∷ d.repeat ∷ d.component ∷ d.escape ∷ h.fields_text =
    h.whole ∙ ap (λ (k : Kind). h.letter ∷ declared_part d k ++ h.fields_text) is_header in
    let right : text ≡ g.letter ∷ e.field ∷ e.repeat ∷ e.component ∷ e.escape ∷ g.fields_text =
    g.whole ∙ ap (λ (k : Kind). g.letter ∷ declared_part e k ++ g.fields_text) other_header in
    let both : h.letter ∷ d.field ∷ d.repeat ∷ d.component ∷ d.escape ∷ h.fields_text ≡ g.letter ∷ e.field ∷ e.repeat
    ∷ e.component ∷ e.escape ∷ g.fields_text = sym left ∙ right in
    let fields : d.field ≡ e.field = cc in
    let repeats : d.repeat ≡ e.repeat = cc in
    let components : d.component ≡ e.component = cc in
    let escapes : d.escape ≡ e.escape = cc in
    let same : d ≡ e = same_delimiters d e fields repeats components escapes in
    (same, IsRecord-one d good text r s h (subst (λ (x : DelimiterBytes). IsRecord x text s) (sym same) g))

CR_is_no_text : (byte : ℕ) → is_text_byte byte ≡ true → byte ≢ 13
unfolding is_text_byte
CR_is_no_text byte h same = grind (arith, nat_tests)

-- no CR is in a text
pub Lacks-CR : (text : List ℕ) → IsRecordText text → Lacks 13 text
Lacks-CR text h = All-weaker (λ byte. is_text_byte byte ≡ true) (λ byte. byte ≢ 13) CR_is_no_text text h
